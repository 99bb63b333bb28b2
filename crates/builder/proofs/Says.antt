-- The answer is of the first test that fails: where the words before hold, their tests pass, and the answer is what the next test decides.
use Prim.Native.Nat.{ℕ, ◌≤◌, ◌<◌}
use mathlib.Core.Path.{◌≡◌, sym, ap, subst}
use mathlib.Core.Logic.{⊎_elim}
use mathlib.Core.List.{List, ◌++◌}
use mathlib.Core.Bool.{true, cond}
use borrow.Author.Tests.{lt-ltb, le-ltb, ne_eqb}
use lib.Dec.{eqb}
use lib.ListN.{length, drop}
use Rattle.answers.specs.Answers.{Answer, answer, done}
use Rattle.sheet.specs.Rows.{sheet_length}
use Rattle.rules.specs.Check.{numbers_ok}
use Rattle.sheet.proofs.Folds.{holds, fails, lt_or_le}
use Rattle.sheet.proofs.TestWords.{decide}
use Rattle.builder.specs.Build.{given, built_sheet, build_answer}
use Rattle.builder.specs.Given.{InRange, Given}
use Rattle.builder.specs.Says.{BuildSays}
use Rattle.builder.proofs.Givens.{numbers_words, given_words}

module _ (kind bound n : ℕ) (out : List ℕ) where
  abbrev said : Answer
  said = build_answer kind bound n (length out)

  -- ---- the answer where the words before hold

  at_3 : (InRange kind bound n → ⊥) → said ≡ answer 3 0
  at_3 outside = rw (fails (numbers_ok kind bound n) (λ t. outside ((numbers_words kind bound n).says.0 t)))

  in_range : InRange kind bound n → numbers_ok kind bound n ≡ true
  in_range r = holds (numbers_ok kind bound n) ((numbers_words kind bound n).says.1 r)

  has_sheet : Given kind bound n → given kind bound n ≡ true
  has_sheet g = holds (given kind bound n) ((given_words kind bound n g.numbers).says.1 g)

  at_12 : InRange kind bound n → (Given kind bound n → ⊥) → said ≡ answer 12 0
  at_12 r none = rw (in_range r, fails (given kind bound n) (λ t. none ((given_words kind bound n r).says.0 t)))

  at_11 : Given kind bound n → length out < sheet_length n → said ≡ answer 11 0
  at_11 g short = rw (in_range g.numbers, has_sheet g, lt-ltb (length out) (sheet_length n) short)

  at_done : Given kind bound n → sheet_length n ≤ length out → said ≡ done
  at_done g room = rw (in_range g.numbers, has_sheet g, le-ltb (length out) (sheet_length n) room)

  -- ---- what an answer tells, by its number

  Told : ℕ → Type 0
  Told k =
      cond (eqb k 3) (InRange kind bound n → ⊥)
      (cond (eqb k 12) (InRange kind bound n × (Given kind bound n → ⊥))
      (cond (eqb k 11) (Given kind bound n × (length out < sheet_length n)) (Given kind bound n × (sheet_length n ≤ length out))))

  put : {a : Answer} → said ≡ a → Told a.number → Told said.number
  put e t = subst (λ (a : Answer). Told a.number) (sym e) t

  told : Told said.number
  unfolding Told
  told = ⊎_elim second (λ outside. put (at_3 outside) outside) (decide (numbers_words kind bound n))
    where
      third : Given kind bound n → Told said.number
      third g =
          ⊎_elim (λ short. put (at_11 g short) (g, short)) (λ room. put (at_done g room) (g, room)) (lt_or_le (length out) (sheet_length n))

      second : InRange kind bound n → Told said.number
      second r = ⊎_elim third (λ none. put (at_12 r none) (r, none)) (decide (given_words kind bound n r))

  -- number 0 is given to numbers with a sheet and an output with room only
  pub done_tells : said.number ≡ 0 → Given kind bound n × (sheet_length n ≤ length out)
  unfolding Told
  done_tells z = subst Told z told

  pub build_answers : BuildSays kind bound n out
  unfolding Told
  build_answers =
      record {
        written = (tell, λ (g, room). at_done g room);
        three = (tell, at_3);
        twelve = (tell, λ (r, none). at_12 r none);
        eleven = (tell, λ (g, short). at_11 g short);
        output = λ e. ap after e;
        kept = λ refused. rw (ne_eqb said.number 0 (λ z. let (g, room) = done_tells z in refused (at_done g room)));
      }
    where
      tell : {a : Answer} → said ≡ a → Told a.number
      tell e = subst (λ (a : Answer). Told a.number) e told

      after : Answer → List ℕ
      after a = cond (eqb a.number 0) (built_sheet kind bound n ++ drop (sheet_length n) out) out
