-- A text is put part after part: what is put and what is left are the whole, so what is left has room.
use Prim.Native.Nat.{ℕ, suc, ◌+◌, ◌-◌, ◌≤◌, ◌<◌}
use mathlib.Core.Path.{◌≡◌, refl, sym, ap, ◌∙◌}
use mathlib.Core.List.{List, [], ◌++◌, map, append_assoc, append-nil}
use native.Mathlib.Numerals.{add-one}
use native.Mathlib.Omega.{arith}
use lib.ListN.{length}
use Rattle.sheet.specs.Lists.{from, flat}
use Rattle.lister.specs.Text.{Put, record_line}
use Rattle.lister.proofs.Placing.{put_none, room_first, room_then, put_then}

-- of a whole text that starts at a place of o, a part stands in out, up to at, and the rest is left
pub record Going (o : List ℕ) (start : ℕ) (whole out : List ℕ) (at : ℕ) (rest : List ℕ) : Type 0 where
  pub done : List ℕ
  pub put : Put o start done out at
  pub parts : done ++ rest ≡ whole

pub going_first : (o : List ℕ) (start : ℕ) (whole : List ℕ) → Going o start whole o start whole
going_first o start whole = record { done = []; put = put_none o start; parts = refl }

pub going_room : {o whole out rest : List ℕ} {start at : ℕ} → start + length whole ≤ length o → Going o start whole out at rest
    → at + length rest ≤ length out
going_room {o} {whole} {out} {rest} {start} {at} h g = room_then rest (rw g.parts h) g.put

pub going_on : {o whole out rest out' : List ℕ} {start at next : ℕ} (w : List ℕ) → start + length whole ≤ length o
    → Going o start whole out at (w ++ rest) → Put out at w out' next → Going o start whole out' next rest
going_on {o} {whole} {out} {rest} {out'} {start} {at} {next} w h g p =
    let parts = append_assoc g.done w rest ∙ g.parts in
    record {
      done = g.done ++ w;
      put = put_then (room_first (g.done ++ w) rest start (length o) (rw parts h)) g.put p;
      parts = parts;
    }

pub going_end : {o whole out : List ℕ} {start at : ℕ} → Going o start whole out at [] → Put o start whole out at
going_end {o} {whole} {out} {start} {at} g = let e = sym (append-nil g.done) ∙ g.parts in rw (← e) g.put

-- ---- the lines of m parties after k others

abbrev pub lines : List ℕ → ℕ → ℕ → List ℕ
lines bytes k m = flat (map (record_line bytes) (from k m))

pub lines_step : (bytes : List ℕ) (k n : ℕ) → k < n → lines bytes k (n - k) ≡ record_line bytes k ++ lines bytes (k + 1) (n - (k + 1))
lines_step bytes k n h =
    let e : n - k ≡ suc (n - (k + 1)) = omega arith in
    ap (lines bytes k) e ∙ ap (λ (j : ℕ). record_line bytes k ++ lines bytes j (n - (k + 1))) (sym (add-one k))

pub lines_end : (bytes : List ℕ) (k n : ℕ) → n ≤ k → lines bytes k (n - k) ≡ []
lines_end bytes k n h = let e : n - k ≡ 0 = omega arith in ap (lines bytes k) e
