-- The first line is put; the loop's invariant: the lines of k parties stand behind it, and those of the others are left.
use Rattle.std.proofs.Common.{ℕ, ◌≡◌, ◌+◌, ◌-◌, ◌*◌, ◌^◌, ◌≤◌, ◌<◌, ◌∙◌, List, ◌++◌, length, arith}
use native.Mathlib.Nat.{zero-add}
use lib.ListN.{get_or}
use Rattle.record.specs.Record.{record_length}
use Rattle.lister.specs.Text.{parties_word, entries_word, counts_line, record_line, listing, Put}
use Rattle.lister.proofs.Placing.{room_first, room_then, put_then, put_front}
use Rattle.lister.proofs.Short.{listing_short}
use Rattle.lister.proofs.Going.{Going, going_room, going_on, going_end, lines, lines_step, lines_end}
use Rattle.lister.proofs.text.put_listing.Goals as goal

-- the first line
abbrev head : ℕ → ℕ → List ℕ
head n entries = counts_line parties_word n entries_word entries

-- the whole text has room
room : (bytes : List ℕ) (entries n size : ℕ) → n ≡ get_or bytes 3 0 → ((i : ℕ) → i < length bytes → get_or bytes i 0 < 256)
    → (get_or bytes 3 0 ≤ 16) × (record_length (get_or bytes 3 0) ≤ length bytes) × (512 ≤ size) → entries < 2 ^ 64
    → 0 + length (head n entries ++ lines bytes 0 n) ≤ size
unfolding listing
room bytes entries n size is small h fits =
    let short : length (head n entries ++ lines bytes 0 n) ≤ 41 + 28 * n = rw is (listing_short bytes small entries h.0 h.1 fits) in
    omega arith

-- the next party's line has room
next_room : (bytes : List ℕ) (n k : ℕ) {o out : List ℕ} {start at : ℕ} → start + length (lines bytes 0 n) ≤ length o
    → Going o start (lines bytes 0 n) out at (lines bytes k (n - k)) → k < n → at + length (record_line bytes k) ≤ length out
next_room bytes n k h g more = room_first (record_line bytes k) (lines bytes (k + 1) (n - (k + 1))) _ _ (rw (lines_step bytes k n more) at (going_room h g))

-- all lines are put
put_all : (bytes : List ℕ) (entries n k : ℕ) {o first out : List ℕ} {start at : ℕ} → n ≡ get_or bytes 3 0 → 0 + length (head n entries ++ lines bytes 0 n) ≤ length o
    → Put o 0 (head n entries) first start → Going first start (lines bytes 0 n) out at (lines bytes k (n - k)) → n ≤ k → Put o 0 (listing bytes entries) out at
unfolding listing
put_all bytes entries n k is h p g end =
    let last = rw (lines_end bytes k n end) at g in
    rw is at (put_then h p (going_end last))

pub put_counts-at-requires : goal.put_counts-at-requires
put_counts-at-requires c =
    let bytes = c.args.bytes.now in
    let entries = c.args.entries in
    let n = c.from-n.result in
    let h = room bytes entries n _ c.from-n.ensures (λ i h. omega (arith, c.type_inv.bytes i)) c.requires c.ranges.entries.fits in
    rw (zero-add (length (head n entries))) at (room_first (head n entries) (lines bytes 0 n) 0 (length c.args.out.now) h)

pub put_party-at-requires : goal.put_party-at-requires
put_party-at-requires c =
    let bytes = c.args.bytes.now in
    let n = c.from-n.result in
    let is = c.from-n.ensures in
    let h = room bytes c.args.entries n _ is (λ i h. omega (arith, c.type_inv.bytes i)) c.requires c.ranges.entries.fits in
    (omega (arith, is), next_room bytes n c.loop-k.k (room_then (lines bytes 0 n) h c.put_counts-at.ensures) c.loop-k.invariant.2 (omega arith))

pub loop-k-preserved : goal.loop-k-preserved
loop-k-preserved c =
    let bytes = c.args.bytes.now in
    let n = c.from-n.result in
    let l = c.loop-k in
    let h = room bytes c.args.entries n _ c.from-n.ensures (λ i h. omega (arith, c.type_inv.bytes i)) c.requires c.ranges.entries.fits in
    let step = lines_step bytes l.k n (omega arith) in (
      omega arith,
      c.put_party-at.auto.out ∙ l.invariant.1,
      going_on (record_line bytes l.k) (room_then (lines bytes 0 n) h c.put_counts-at.ensures) (rw step at l.invariant.2) c.put_party-at.ensures,
    )

pub returns-clause-value : goal.returns-clause-value
returns-clause-value c =
    let bytes = c.args.bytes.now in
    let n = c.from-n.result in
    let is = c.from-n.ensures in
    let h = room bytes c.args.entries n _ is (λ i h. omega (arith, c.type_inv.bytes i)) c.requires c.ranges.entries.fits in
    (put_front (put_all bytes c.args.entries n c.loop-k.k is h c.put_counts-at.ensures c.loop-k.invariant.2 (omega arith))).0

pub returns-clause-out_after : goal.returns-clause-out_after
returns-clause-out_after c =
    let bytes = c.args.bytes.now in
    let n = c.from-n.result in
    let is = c.from-n.ensures in
    let h = room bytes c.args.entries n _ is (λ i h. omega (arith, c.type_inv.bytes i)) c.requires c.ranges.entries.fits in
    (put_front (put_all bytes c.args.entries n c.loop-k.k is h c.put_counts-at.ensures c.loop-k.invariant.2 (omega arith))).1
