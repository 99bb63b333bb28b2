-- The line's parts are put one behind the other, each with the room that those before it leave.
use Rattle.std.proofs.Common.{ℕ, ◌+◌, ◌≤◌, List, ◌++◌, length}
use native.Mathlib.Nat.{zero-add}
use Rattle.lister.specs.Text.{newline, decimal, counts_line}
use Rattle.lister.proofs.Placing.{room_first, four_second, four_third, four_fourth, four_put}
use Rattle.lister.proofs.text.put_counts.Goals as goal

room : (v : List ℕ) (x : ℕ) (w : List ℕ) (y : ℕ) {n : ℕ} → length (counts_line v x w y) ≤ n → 0 + length (v ++ (decimal x ++ (w ++ (decimal y ++ newline)))) ≤ n
unfolding counts_line
room v x w y h = rw (zero-add (length (v ++ (decimal x ++ (w ++ (decimal y ++ newline)))))) h

pub put_word-a-requires : goal.put_word-a-requires
put_word-a-requires c =
    let a = c.args in
    room_first a.v.now (decimal a.x ++ (a.w.now ++ (decimal a.y ++ newline))) _ _ (room a.v.now a.x a.w.now a.y c.requires)

pub put_decimal-b-requires : goal.put_decimal-b-requires
put_decimal-b-requires c =
    let a = c.args in
    four_second a.v.now (decimal a.x) a.w.now (decimal a.y ++ newline) (room a.v.now a.x a.w.now a.y c.requires) c.put_word-a.ensures

pub put_word-c-requires : goal.put_word-c-requires
put_word-c-requires c =
    let a = c.args in
    four_third a.v.now (decimal a.x) a.w.now (decimal a.y ++ newline) (room a.v.now a.x a.w.now a.y c.requires) c.put_word-a.ensures c.put_decimal-b.ensures

pub put_number-requires : goal.put_number-requires
put_number-requires c =
    let a = c.args in
    four_fourth a.v.now (decimal a.x) a.w.now (decimal a.y ++ newline) (room a.v.now a.x a.w.now a.y c.requires)
    c.put_word-a.ensures c.put_decimal-b.ensures c.put_word-c.ensures

pub returns : goal.returns
unfolding counts_line
returns c =
    let a = c.args in
    four_put a.v.now (decimal a.x) a.w.now (decimal a.y ++ newline) (room a.v.now a.x a.w.now a.y c.requires)
    c.put_word-a.ensures c.put_decimal-b.ensures c.put_word-c.ensures c.put_number.ensures
