-- A line is as long as its parts, and a number of few digits is short: the bounds add up.
use Prim.Native.Nat.{ℕ, zero, suc, ◌+◌, ◌*◌, ◌^◌, ◌≤◌, ◌<◌}
use mathlib.Core.List.{List}
use mathlib.Core.Bool.{Bool, true, false, cond}
use native.Mathlib.Omega.{arith}
use lib.Dec.{eqb}
use lib.ListN.{length, get_or, length-append}
use Rattle.sheet.specs.Bytes.{num}
use Rattle.sheet.proofs.Numbers.{num_below}
use Rattle.record.specs.Record.{record_length}
use Rattle.lister.specs.Text.{dash, parties_word, entries_word, refused_word, at_word, status_word, decimal}
use Rattle.lister.specs.Text.{counts_line, decision_word, party_line, record_line, listing, refused_text}
use Rattle.lister.proofs.Decimals.{length_decimal}
use Rattle.lister.proofs.Going.{lines}

counts_short : (v w : List ℕ) (x y : ℕ) → x < 1000 → y < 2 ^ 64 → length (counts_line v x w y) ≤ length v + length w + 24
unfolding counts_line
counts_short v w x y hx hy =
    let dx = length_decimal 2 x hx in
    let dy = length_decimal 19 y (omega arith) in
    simp length-append (omega arith)

pub refused_short : (number position : ℕ) → number < 1000 → position < 2 ^ 64 → length (refused_text number position) ≤ 36
unfolding refused_text
refused_short number position hn hp = counts_short refused_word at_word number position hn hp

either_short : (b : Bool) (v w : List ℕ) (k : ℕ) → length v ≤ k → length w ≤ k → length (cond b v w) ≤ k
either_short true v w k hv hw = hv
either_short false v w k hv hw = hw

status_short : (s : ℕ) → length (status_word s) ≤ 7
status_short s =
    either_short (eqb s 0) _ _ 7 (omega arith) (either_short (eqb s 1) _ _ 7 (omega arith) (either_short (eqb s 2) _ _ 7 (omega arith) (omega arith)))

decision_short : (s d : ℕ) → d < 256 ^ 4 → length (decision_word s d) ≤ 10
decision_short s d h = either_short (eqb s 2) (decimal d) dash 10 (length_decimal 9 d (omega arith)) (omega arith)

party_short : (p s n d : ℕ) → p < 100 → n < 256 ^ 2 → d < 256 ^ 4 → length (party_line p s n d) ≤ 28
unfolding party_line
party_short p s n d hp hn hd =
    let dp = length_decimal 1 p hp in
    let dn = length_decimal 4 n (omega arith) in
    let w = status_short s in
    let e = decision_short s d hd in
    simp length-append (omega arith)

module _ (bytes : List ℕ) (low : (i : ℕ) → i < length bytes → get_or bytes i 0 < 256) where
  lines_short : (k m : ℕ) → k + m ≤ 16 → record_length (k + m) ≤ length bytes → length (lines bytes k m) ≤ 28 * m
  unfolding record_line
  lines_short k zero few fits = omega arith
  lines_short k (suc m) few fits =
      let at = 4 + 7 * k in
      let line = party_short (k + 1) (get_or bytes at 0) (num bytes (at + 1) 2) (num bytes (at + 3) 4) (omega arith)
      (num_below bytes (at + 1) 2 (omega arith) low) (num_below bytes (at + 3) 4 (omega arith) low) in
      let others = lines_short (suc k) m (omega arith) (omega arith) in
      omega (arith, length-append (record_line bytes k) (lines bytes (suc k) m))

  pub listing_short : (entries : ℕ) → get_or bytes 3 0 ≤ 16 → record_length (get_or bytes 3 0) ≤ length bytes → entries < 2 ^ 64
      → length (listing bytes entries) ≤ 41 + 28 * get_or bytes 3 0
  unfolding listing
  listing_short entries few fits he =
      let n = get_or bytes 3 0 in
      let head = counts_short parties_word entries_word n entries (omega arith) he in
      let others = lines_short 0 n (omega arith) (omega arith) in
      omega (arith, length-append (counts_line parties_word n entries_word entries) (lines bytes 0 n))
