-- Past the refusal the parties are counted, as many as the copy's header says, which is the carried sheet's: one by one from the front, as the definition counts.
use Rattle.std.proofs.Common.{◌≡◌, ℕ, zero, suc, ◌+◌, ◌≤◌, Bool, true, false, cond, List, [], ◌∷◌, length, get_or, take, count_by, sym, ap, ◌∙◌, arith, rules}
use Rattle.std.proofs.lemmas.List.{length-take-le}
use Rattle.std.proofs.lemmas.List.Sums.{sum_by-cons, count_by-le-length}
use Rattle.sheet.specs.Lists.{from}
use Rattle.sheet.specs.Rows.{parties_of}
use Rattle.sheet.proofs.Folds.{held}
use Rattle.state.specs.Session.{no_party, party_of}
use Rattle.state.specs.WellFormed.{well_formed}
use Rattle.state.specs.declared.kept.Party.{Party}
use Rattle.state.specs.declared.kept.Session.{Session}
use Rattle.state.proofs.Tested.{passed}
use Rattle.steps.specs.Step.{is_live}
use Rattle.steps.specs.Calls.{told, count_of, live_number, live_told}
use Rattle.steps.proofs.Refusals.{parties_byte, parties_few}
use Rattle.calls.proofs.stopping.live_in.Goals as goal

one : (b : Bool) (r : ℕ) → cond b (suc r) r ≡ cond b 1 0 + r
one true r = omega arith
one false r = omega arith

-- as many of the numbers from a on as of the list's elements, where the test of a number is that of its element
count_named : (f : ℕ → Bool) (g : Party → Bool) (d : Party) (a n : ℕ) (ps : List Party)
    → n ≤ length ps → ((k : ℕ) → f (a + k) ≡ g (get_or ps k d)) → count_of f (from a n) ≡ count_by g (take n ps)
count_named f g d a zero ps h same = search rules
count_named f g d a (suc n) [] h same = absurd (omega arith)
count_named f g d a (suc n) (p ∷ ps) h same =
    let rest = count_named f g d (suc a) n ps (omega arith) (λ k. ap f (omega arith) ∙ same (suc k)) in
    let first : f a ≡ g p = ap f (omega arith) ∙ same 0 in
    (λ i. cond (first i) (suc (rest i)) (rest i)) ∙ one (g p) (count_by g (take n ps)) ∙ sym (sum_by-cons (λ x. cond (g x) 1 0) p (take n ps))

-- the answer, by the test
answered : (s : Session) {b : Bool} → well_formed s ≡ b → cond b (told 0 (live_number s)) (told 9 0) ≡ live_told s
answered s e = ap (λ (t : Bool). cond t (told 0 (live_number s)) (told 9 0)) (sym e)

few : (s : Session) → well_formed s ≡ true → parties_of s.sheet ≤ 16
few s e = let well = held (well_formed s) e in omega (arith, parties_byte s well, parties_few s well)

pub shared_ref_as_front-count_live : goal.shared_ref_as_front-count_live
shared_ref_as_front-count_live c = few c.args.s.now (passed c.is_well_formed.ensures c.if-not-is_well_formed.false)

pub overflow_cast-result : goal.overflow_cast-result
overflow_cast-result c =
    let s = c.args.s.now in
    let most = few s (passed c.is_well_formed.ensures c.if-not-is_well_formed.false) in
    let size : length s.parties ≡ 16 = search rules in
    let taken = length-take-le (parties_of s.sheet) s.parties (omega (arith, most, size)) in
    omega (arith, count_by-le-length is_live (take (parties_of s.sheet) s.parties), c.count_live.ensures, taken, most)

pub returns : goal.returns
returns c =
    let s = c.args.s.now in
    let formed = passed c.is_well_formed.ensures c.if-not-is_well_formed.false in
    let most = few s formed in
    let size : length s.parties ≡ 16 = search rules in
    let number = ap (λ (n : ℕ). count_of (λ i. is_live (party_of s.parties i)) (from 1 n)) (parties_byte s (held (well_formed s) formed)) in
    let named = count_named (λ i. is_live (party_of s.parties i)) is_live no_party 1 (parties_of s.sheet) s.parties (omega (arith, most, size)) (λ k. ap (λ j. is_live (get_or s.parties j no_party)) (omega arith)) in
    ap (told 0) (c.count_live.ensures ∙ sym named ∙ number) ∙ answered s formed
