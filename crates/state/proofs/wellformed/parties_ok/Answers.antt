-- The chain tests each entry with its number, counted from 1.
use Rattle.std.proofs.Common.{◌≡◌, sym, ◌∙◌, ap, ℕ, ◌+◌, ◌-◌, Bool, cond, leb, List, length, get_or, arith, rules, tests}
use Rattle.std.proofs.lemmas.Iterator.{YieldsList-from_slice, YieldsList-from_zip}
use Rattle.std.proofs.lemmas.Iterator.Consumers.{YieldsList-at}
use Rattle.std.proofs.lemmas.Iterator.Search.{all_from_yields_List}
use Rattle.std.proofs.lemmas.List.FromFn.{length-range_with_len, get_or-range_with_len}
use Rattle.std.proofs.lemmas.Slice.Zip.{length-zip, get_or-zip}
use Rattle.std.specs.List.{list_all, zip, range_with_len}
use Rattle.sheet.specs.Lists.{from, all}
use Rattle.state.specs.Session.{no_party, party_of}
use Rattle.state.specs.WellFormed.{party_ok, unused_ok}
use Rattle.state.specs.declared.kept.Party.{Party}
use Rattle.state.proofs.Listed.{listed, YieldsList-from_inclusive}
use Rattle.state.proofs.wellformed.parties_ok.Goals as goal

module _ (n : ℕ) (published : List ℕ) where
  abbrev entry_ok : Party × ℕ → Bool
  entry_ok (p, i) = cond (leb i n) (party_ok n published i p) (unused_ok p)

  numbered : (parties : List Party) (size : ℕ) → length parties ≡ size
      → list_all entry_ok (zip parties (range_with_len 1 size)) ≡ all (λ i. entry_ok (party_of parties i, i)) (from 1 size)
  numbered parties size whole =
      let numbers = range_with_len 1 size in
      let counted = length-range_with_len 1 size in
      let long : length (zip parties numbers) ≡ size = omega (arith, length-zip parties numbers) in
      listed (no_party, 0) (λ i. entry_ok (party_of parties i, i)) entry_ok 1 (zip parties numbers) (λ j l.
      let back : 1 + j - 1 ≡ j = omega arith in
      let number : get_or numbers j 0 ≡ 1 + j = get_or-range_with_len 1 size j 0 (omega arith) in
      ap (λ (k : ℕ). entry_ok (get_or parties k no_party, 1 + j)) back
      ∙ ap (λ (i : ℕ). entry_ok (get_or parties j no_party, i)) (sym number)
      ∙ ap entry_ok (sym (get_or-zip parties numbers j (no_party, 0) (omega arith) (omega arith))))
      ∙ ap (λ (k : ℕ). all (λ i. entry_ok (party_of parties i, i)) (from 1 k)) long

pub returns : goal.returns
returns c =
    let a = c.args in
    let entries = YieldsList-at c.zip.ensures.first (YieldsList-from_slice a.parties.now c.iter.ensures.rest) in
    let numbers = YieldsList-at c.zip.ensures.second (YieldsList-from_inclusive 1 16 c.new.ensures.start (ap (λ (x : ℕ). x + 1) c.new.ensures.end) c.new.ensures.exhausted) in
    all_from_yields_List (entry_ok a.n a.published.now) c.all.new.self _ c.all.result c.all.ensures.ran (YieldsList-from_zip entries numbers) (λ x b q k. search (rules, tests))
    ∙ numbered a.n a.published.now a.parties.now 16 (search rules)
