-- The fold asks each entry with its place, which says whether the entry is a round's and a lower's; the places are below their count.
use Rattle.std.proofs.Common.{◌≡◌, sym, ◌∙◌, ap, ℕ, ◌+◌, ◌/◌, ◌%◌, ◌<◌, Bool, true, ◌&&◌, cond, leb, List, length, get_or, arith, rules, tests}
use Rattle.std.proofs.lemmas.Iterator.{YieldsList-from_slice}
use Rattle.std.proofs.lemmas.Iterator.Consumers.{YieldsList-from_enumerate, YieldsList-at, fold_from_yields_List}
use Rattle.std.proofs.lemmas.List.FromFn.{length-enumerate_from, get_or-enumerate_from}
use Rattle.std.specs.List.{list_all, enumerate_from}
use native.Mathlib.Nat.{mod-eq_of_lt}
use Rattle.sheet.specs.Lists.{from, all}
use Rattle.state.specs.WellFormed.{is_lower}
use Rattle.state.proofs.Listed.{listed, folded}
use Rattle.state.proofs.wellformed.published_ok.Goals as goal

module _ (n size : ℕ) where
  abbrev entry_ok : ℕ × ℕ → Bool
  entry_ok (j, x) = leb x (cond (is_lower n (j % size / 16 + 1) (j % size % 16 + 1)) n 0)

  entries : (published : List ℕ) → length published ≡ size
      → list_all entry_ok (enumerate_from 0 published) ≡ all (λ j. leb (get_or published j 0) (cond (is_lower n (j / 16 + 1) (j % 16 + 1)) n 0)) (from 0 size)
  entries published whole =
      let long = length-enumerate_from 0 published ∙ whole in
      let test : ℕ → Bool = λ j. leb (get_or published j 0) (cond (is_lower n (j / 16 + 1) (j % 16 + 1)) n 0) in
      listed (0, 0) test entry_ok 0 (enumerate_from 0 published) (λ j l.
      let e : 0 + j ≡ j = omega arith in
      let within : j < size = omega arith in
      ap test e
      ∙ ap (λ (k : ℕ). leb (get_or published j 0) (cond (is_lower n (k / 16 + 1) (k % 16 + 1)) n 0)) (sym (mod-eq_of_lt within))
      ∙ ap entry_ok (sym (get_or-enumerate_from 0 published j (0, 0) (omega arith) ∙ ap (λ (k : ℕ). (k, get_or published j 0)) e)))
      ∙ ap (λ (k : ℕ). all test (from 0 k)) long

pub returns : goal.returns
returns c =
    let n = c.args.n in
    let published = c.args.published.now in
    fold_from_yields_List _ (λ ok e. ok && entry_ok n 256 e) true c.fold.result c.fold.ensures.ran (YieldsList-from_enumerate (YieldsList-at c.enumerate.ensures.source (YieldsList-from_slice published c.iter.ensures.rest)) c.enumerate.ensures.count) (λ a x b q k. search (rules, tests))
    ∙ folded (entry_ok n 256) true (enumerate_from 0 published)
    ∙ entries n 256 published (search rules)
