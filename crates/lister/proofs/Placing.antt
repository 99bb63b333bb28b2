-- A text that is put behind another is put with it: what is before the first and past the second stays as it was.
use Prim.Native.Nat.{ℕ, ◌+◌, ◌≤◌, ◌<◌}
use mathlib.Core.Path.{◌≡◌, refl, sym, ap, ◌∙◌}
use mathlib.Core.List.{List, [], ◌∷◌, ◌++◌, append_assoc}
use native.Mathlib.Nat.{add_assoc, add-zero, zero-add}
use native.Mathlib.Numerals.{add-one}
use native.Mathlib.Omega.{arith}
use lib.ListN.{length, take, drop, set, length-append, length-drop, take-append-drop}
use lib.Seq.{take_at, drop_at, drop-drop, length-take-le, set_split}
use Rattle.lister.specs.Text.{placed, Put}

placed_twice : (o v w : List ℕ) (a : ℕ) → a ≤ length o → placed (placed o a v) (a + length v) w ≡ placed o a (v ++ w)
placed_twice o v w a h =
    let front = take a o ++ v in
    let b = a + length v in
    let size : length front ≡ b = omega (arith, length-append (take a o) v, length-take-le a o h) in
    let split : placed o a v ≡ front ++ drop b o = sym (append_assoc (take a o) v (drop b o)) in
    let rest : drop (b + length w) (front ++ drop b o) ≡ drop (a + length (v ++ w)) o =
    sym (drop-drop (length w) b (front ++ drop b o))
    ∙ ap (drop (length w)) (drop_at front (drop b o) b size)
    ∙ drop-drop (length w) b o
    ∙ ap (λ (i : ℕ). drop i o) (add_assoc a (length v) (length w) ∙ ap (λ (i : ℕ). a + i) (sym (length-append v w))) in
    ap (λ (l : List ℕ). placed l b w) split
    ∙ ap (λ (l : List ℕ). l ++ (w ++ drop (b + length w) (front ++ drop b o))) (take_at front (drop b o) b size)
    ∙ append_assoc (take a o) v (w ++ drop (b + length w) (front ++ drop b o))
    ∙ ap (λ (l : List ℕ). take a o ++ (v ++ (w ++ l))) rest
    ∙ ap (λ (l : List ℕ). take a o ++ l) (sym (append_assoc v w (drop (a + length (v ++ w)) o)))

-- the room for two texts is room for the first
pub room_first : (v w : List ℕ) (a n : ℕ) → a + length (v ++ w) ≤ n → a + length v ≤ n
room_first v w a n h = omega (arith, length-append v w)

-- and, once that is put, for the second
pub room_then : {o v p : List ℕ} {a b : ℕ} (w : List ℕ) → a + length (v ++ w) ≤ length o → Put o a v p b → b + length w ≤ length p
room_then {o} {v} {p} {a} {b} w h x =
    let e = x.place in
    let split = length-append v w in
    let front = length-take-le a o (omega arith) in
    let size : length p ≡ length o = rw x.bytes (simp (length-append, length-drop) (omega arith)) in
    omega arith

pub put_then : {o v p w q : List ℕ} {a b c : ℕ} → a + length (v ++ w) ≤ length o → Put o a v p b → Put p b w q c → Put o a (v ++ w) q c
put_then {o} {v} {p} {w} {q} {a} {b} {c} h x y =
    let e = x.place in
    let f = y.place in
    record {
      place = omega (arith, length-append v w);
      bytes =
          y.bytes
          ∙ ap (λ (l : List ℕ). placed l b w) x.bytes
          ∙ ap (λ (i : ℕ). placed (placed o a v) i w) e
          ∙ placed_twice o v w a (omega arith);
    }

-- one store
pub put_byte : (o : List ℕ) (a x : ℕ) → a < length o → Put o a (x ∷ []) (set o a x) (a + 1)
put_byte o a x h = record { place = refl; bytes = rw (add-one a) (set_split o a x h) }

-- nothing
pub put_none : (o : List ℕ) (a : ℕ) → Put o a [] o a
put_none o a = record { place = sym (add-zero a); bytes = rw (add-zero a) (sym (take-append-drop a o)) }

-- at the front
pub put_front : {o t p : List ℕ} {b : ℕ} → Put o 0 t p b → (b ≡ length t) × (p ≡ t ++ drop (length t) o)
put_front {o} {t} {p} {b} x = (x.place ∙ zero-add (length t), x.bytes ∙ ap (λ (i : ℕ). t ++ drop i o) (zero-add (length t)))

-- ---- four parts, one behind the other: each has the room that those before it leave

pub four_second : (v x w y : List ℕ) {o p : List ℕ} {at a : ℕ} → at + length (v ++ (x ++ (w ++ y))) ≤ length o → Put o at v p a → a + length x ≤ length p
four_second v x w y h f = room_first x (w ++ y) _ _ (room_then (x ++ (w ++ y)) h f)

pub four_third : (v x w y : List ℕ) {o p q : List ℕ} {at a b : ℕ} → at + length (v ++ (x ++ (w ++ y))) ≤ length o → Put o at v p a → Put p a x q b
    → b + length w ≤ length q
four_third v x w y h f g = room_first w y _ _ (room_then (w ++ y) (room_then (x ++ (w ++ y)) h f) g)

pub four_fourth : (v x w y : List ℕ) {o p q r : List ℕ} {at a b c : ℕ} → at + length (v ++ (x ++ (w ++ y))) ≤ length o → Put o at v p a → Put p a x q b
    → Put q b w r c → c + length y ≤ length r
four_fourth v x w y h f g i = room_then y (room_then (w ++ y) (room_then (x ++ (w ++ y)) h f) g) i

pub four_put : (v x w y : List ℕ) {o p q r s : List ℕ} {at a b c d : ℕ} → at + length (v ++ (x ++ (w ++ y))) ≤ length o → Put o at v p a → Put p a x q b
    → Put q b w r c → Put r c y s d → Put o at (v ++ (x ++ (w ++ y))) s d
four_put v x w y h f g i j =
    put_then h f
    (put_then (room_then (x ++ (w ++ y)) h f) g
    (put_then (room_then (w ++ y) (room_then (x ++ (w ++ y)) h f) g) i j))
