-- An opening that is done has passed its three tests in turn, so the bytes are those of the fresh session, with a proposal of 4 bytes for each party.
use Prim.Native.Nat.{ℕ, ◌+◌, ◌-◌, ◌*◌, ◌^◌, ◌≤◌, ◌<◌}
use mathlib.Core.Path.{◌≡◌, refl, sym, ap, ◌∙◌, subst⁻¹}
use mathlib.Core.List.{List, ◌∷◌, ◌++◌, map}
use mathlib.Core.Bool.{cond}
use mathlib.Core.Logic.{⊎_elim}
use native.Mathlib.Omega.{arith}
use borrow.Author.Tests.{eq-eqb, eqb-true}
use lib.Dec.{eqb}
use lib.ListN.{length, get_or, get_or-eq_default}
use Rattle.sheet.specs.Lists.{flat}
use Rattle.sheet.specs.Bytes.{num, bytes_of}
use Rattle.sheet.specs.Rows.{slot, slots, sheet_length, parties_of}
use Rattle.answers.specs.Answers.{Answer, answer, done}
use Rattle.rules.specs.Check.{check_answer}
use Rattle.sheet.specs.declared.rows.Row.{Row}
use Rattle.sheet.specs.declared.rows.Slot.{Slot}
use Rattle.builder.specs.Build.{row_bytes, header_bytes, built_row, built_units, built_sheet}
use Rattle.builder.specs.Given.{Given}
use Rattle.sheet.proofs.Folds.{lt_or_le}
use Rattle.sheet.proofs.Numbers.{num_below}
use Rattle.rules.proofs.Says.{past_6}
use Rattle.builder.proofs.Givens.{kind_most}
use Rattle.builder.proofs.Theorems.{built_says}
use Rattle.state.specs.Session.{fresh_session}
use Rattle.state.proofs.FormWords.{accepted_says}
use Rattle.sheet.proofs.Ranges.{length_range, range_at}
use Rattle.state.proofs.Openings.{opens_when}
use Rattle.agreement.specs.Demand.{Opens, proposal_of}
use Rattle.agreement.specs.Statements.{Words}
use Rattle.host.specs.Demand.{proposal_in}
use Rattle.image.specs.Image.{session_bytes, Below}
use Rattle.host.specs.Calls.{proposals_for, host_open, open_bytes}
use Rattle.image.proofs.Bytes.{below_cons, below_append, below_flat, below_bytes}
use Rattle.host.proofs.Leaving.{fits_when}

-- ---- the tests

pub record Passed (sheet proposals : List ℕ) (len : ℕ) : Type 0 where
  pub accepted : check_answer sheet ≡ done
  pub count : length proposals ≡ 4 * parties_of sheet
  pub size : len ≡ 3418

pub passed : (sheet proposals : List ℕ) (len : ℕ) → host_open sheet proposals len ≡ done → Passed sheet proposals len
passed sheet proposals len e =
    let rest = cond (eqb len 3418) done (answer 11 0) in
    let (t, counted, z) =
    opens_when (eqb (check_answer sheet).number 0) (eqb (length proposals) (4 * parties_of sheet)) (check_answer sheet) rest refl
    (ap (λ (x : Answer). x.number) e) in
    record {
      accepted = past_6 sheet ((accepted_says sheet).0 t);
      count = eqb-true (length proposals) (4 * parties_of sheet) counted;
      size = eqb-true len 3418 (fits_when (eqb len 3418) z);
    }

passes : (sheet proposals : List ℕ) (len : ℕ) → Passed sheet proposals len → host_open sheet proposals len ≡ done
passes sheet proposals len p =
    let a = ap (λ (x : Answer). eqb x.number 0) p.accepted in
    let b = eq-eqb (length proposals) (4 * parties_of sheet) p.count in
    let c = eq-eqb len 3418 p.size in
    λ i. cond (a i) (cond (b i) (cond (c i) done (answer 11 0)) (answer 7 0)) (check_answer sheet)

-- ---- what is opened

-- the bytes of a fresh session
pub open_bytes_lem : (sheet proposals session : List ℕ) → host_open sheet proposals (length session) ≡ done
    → open_bytes sheet proposals session ≡ session_bytes (fresh_session sheet (proposals_for sheet proposals) (parties_of sheet))
open_bytes_lem sheet proposals session e =
    ap (λ (a : Answer). cond (eqb a.number 0) (session_bytes (fresh_session sheet (proposals_for sheet proposals) (parties_of sheet))) session) e

-- ---- the proposals of an accepted sheet, in 4 bytes each

module _ (sheet proposals : List ℕ) (low : Below 256 proposals) (accepted : check_answer sheet ≡ done) (size : length proposals ≡ 4 * parties_of sheet) where
  abbrev n : ℕ
  n = parties_of sheet

  abbrev numbers : List ℕ
  numbers = proposals_for sheet proposals

  count : length numbers ≡ n
  count = length_range (λ j. num proposals (4 * j) 4) 0 n

  pub opens : Opens sheet numbers
  opens = record { accepted = accepted; count = count }

  number_at : (j : ℕ) → j < n → get_or numbers j 0 ≡ num proposals (4 * j) 4
  number_at j h = range_at (λ j. num proposals (4 * j) 4) 0 n j 0 h ∙ ap (λ (k : ℕ). num proposals (4 * k) 4) (let z : 0 + j ≡ j = omega arith in z)

  -- a party's proposal is in its 4 bytes
  pub proposals_in_lem : (h : ℕ) → 1 ≤ h → h ≤ n → proposal_of numbers h ≡ proposal_in proposals h
  proposals_in_lem h l m = number_at (h - 1) (omega arith)

  pub words : Words numbers
  words j =
      ⊎_elim
      (λ h. subst⁻¹ (λ (x : ℕ). x < 2 ^ 32) (number_at j h) (num_below proposals (4 * j) 4 (omega (arith, size)) low))
      (λ h. let none = get_or-eq_default numbers 0 {n = j} (omega (arith, count)) in omega arith)
      (lt_or_le j n)

-- ---- a built sheet

row_below : (w : Row) → Below 256 (row_bytes w)
row_below w =
    let start = bytes_of 2 w.start in
    let mask = bytes_of 8 w.mask in
    let own = bytes_of 2 w.own in
    let pair = bytes_of 2 w.pair in
    below_append 256 start (mask ++ (own ++ pair)) (below_bytes 2 w.start)
    (below_append 256 mask (own ++ pair) (below_bytes 8 w.mask) (below_append 256 own pair (below_bytes 2 w.own) (below_bytes 2 w.pair)))

module _ (kind bound n : ℕ) (g : Given kind bound n) where
  pub built_below : Below 256 (built_sheet kind bound n)
  built_below =
      let r = g.numbers in
      let most = kind_most r in
      let units = built_units kind bound n in
      let rows : Slot → List ℕ = λ p. row_bytes (built_row kind bound p) in
      let last : List ℕ = n ∷ bytes_of 2 units in
      let three =
      below_cons 256 kind (bound ∷ last) (omega arith)
      (below_cons 256 bound last (omega arith) (below_cons 256 n (bytes_of 2 units) (omega arith) (below_bytes 2 units))) in
      let numbers = below_cons 256 1 (kind ∷ bound ∷ last) (omega arith) three in
      below_append 256 (header_bytes kind bound n units) (flat (map rows (slots n)))
      (below_append 256 (bytes_of 2 (sheet_length n)) (1 ∷ kind ∷ bound ∷ last) (below_bytes 2 (sheet_length n)) numbers)
      (below_flat 256 rows (slots n) (slot 0 0) (λ k h. row_below (built_row kind bound (get_or (slots n) k (slot 0 0)))))

  pub built_opens : (proposals session : List ℕ) → length proposals ≡ 4 * n → length session ≡ 3418
      → host_open (built_sheet kind bound n) proposals (length session) ≡ done
  built_opens proposals session count size =
      let b = built_says kind bound n g in
      passes (built_sheet kind bound n) proposals (length session)
      (record { accepted = b.accepted; count = count ∙ ap (λ (k : ℕ). 4 * k) (sym b.read_parties); size = size })
