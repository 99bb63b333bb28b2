-- The open call is refused as the session's opening is, then where the slice is of another length; else the fresh session is written.
use Rattle.std.specs.Prelude.{Err}
use Prim.Native.Nat.{ℕ, ◌-◌, min}
use mathlib.Core.Path.{◌≡◌, refl, sym, ap, ◌∙◌}
use mathlib.Core.Logic.{◌≢◌}
use mathlib.Core.List.{List, ◌++◌, map}
use mathlib.Core.Bool.{Bool, true, ◌&&◌, cond}
use borrow.Author.Tests.{eq-eqb, ne_eqb, le-leb}
use lib.Dec.{eqb, leb}
use lib.ListN.{length, replicate}
use Rattle.sheet.specs.Rows.{parties_of}
use Rattle.sheet.specs.Lists.{from}
use Rattle.answers.specs.Answers.{Answer, answer, done, answer_of}
use Rattle.answers.specs.declared.Refusal.{Refusal}
use Rattle.state.specs.Session.{fresh_party, no_party, filled, fresh_session, of_parts}
use Rattle.state.specs.Opening.{open_answer}
use Rattle.state.specs.declared.kept.Party.{Party}
use Rattle.state.specs.declared.kept.Session.{Session}
use Rattle.answers.proofs.Refused.{refused_number}
use Rattle.state.proofs.Filled.{fresh_taken, sheet_most}
use Rattle.state.proofs.Openings.{opens_says}
use Rattle.image.specs.Image.{proposals_in, session_bytes}
use Rattle.host.specs.Calls.{proposals_for, host_open, open_bytes}
use Rattle.host.proofs.Opened.{Opens, if_opened, if_refused}

module _ (sheet bytes session : List ℕ) where
  abbrev xs : List ℕ
  xs = proposals_in bytes

  -- the answer and the bytes afterwards
  abbrev pub Answers : Answer → List ℕ → Type 0
  Answers a now = (a ≡ host_open sheet bytes (length session)) × (now ≡ open_bytes sheet bytes session)

  abbrev fresh : List ℕ
  fresh = session_bytes (fresh_session sheet (proposals_for sheet bytes) (parties_of sheet))

  -- what an answer a leaves
  bytes_at : Answer → List ℕ
  bytes_at a = cond (eqb a.number 0) fresh session

  answers_at : (a : Answer) → host_open sheet bytes (length session) ≡ a → Answers a (bytes_at a)
  unfolding bytes_at
  answers_at a e = (sym e, ap bytes_at (sym e))

  -- the opening is refused
  pub open_refused : (r : Refusal) → answer_of {A = Unit {0}} (Err r) ≡ open_answer sheet xs → Answers (answer_of {A = Unit {0}} (Err r)) session
  unfolding bytes_at
  open_refused r e =
      let some = refused_number {A = Unit {0}} (open_answer sheet xs) (Err r) r e refl in
      let left : bytes_at (open_answer sheet xs) ≡ session = rw some in
      let a = answers_at (open_answer sheet xs) ((if_refused sheet bytes some).1 _) in
      (e ∙ a.0, sym left ∙ a.1)

  -- the opening is done
  module _ (e : done ≡ open_answer sheet xs) where
    abbrev opens : Opens sheet bytes
    opens = if_opened sheet bytes (sym e)

    pub open_short : length session ≢ 3418 → Answers (answer 11 0) session
    unfolding bytes_at
    open_short n = answers_at (answer 11 0) (opens.2 _ ∙ rw (ne_eqb (length session) 3418 n))

    -- what is written for a fresh session
    module _ (numbers : List ℕ) (parties : List Party) (numbers-are : numbers ≡ filled 16 xs)
        (parties-are : parties ≡ map fresh_party (from 1 (min (parties_of sheet) 16)) ++ replicate (16 - parties_of sheet) no_party) where
      abbrev written : Session
      written = of_parts (filled 1898 sheet) numbers (replicate 1024 0) (replicate 256 0) parties

      pub open_filled : length session ≡ 3418 → (now : List ℕ)
          → now ≡ cond (eqb (length session) 3418 && leb (length sheet) 1898) (session_bytes written) session → Answers done now
      unfolding bytes_at
      open_filled l now is =
          let rules = (opens_says sheet xs (sym e)).0 in
          let few = rules.before.before.before.header.parties_most in
          let a = answers_at done (opens.2 _ ∙ rw (eq-eqb (length session) 3418 l)) in
          let both : (eqb (length session) 3418 && leb (length sheet) 1898) ≡ true = rw (eq-eqb (length session) 3418 l, le-leb (length sheet) 1898 (sheet_most sheet rules)) in
          let fresh-is : written ≡ fresh_session sheet xs (parties_of sheet) =
          λ i. of_parts (filled 1898 sheet) (numbers-are i) (replicate 1024 0) (replicate 256 0) ((parties-are ∙ fresh_taken (parties_of sheet) few) i) in
          let whole = fresh-is ∙ ap (λ (ys : List ℕ). fresh_session sheet ys (parties_of sheet)) opens.1 in
          (a.0, is ∙ ap (λ (b : Bool). cond b (session_bytes written) session) both ∙ ap session_bytes whole ∙ a.1)
