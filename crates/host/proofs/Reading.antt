-- What the bytes of a session say of a party at its place is the party, since they say the session.
use Prim.Native.Nat.{ℕ, ◌-◌, ◌*◌, ◌≤◌}
use mathlib.Core.Path.{◌≡◌, sym, ap, ◌∙◌}
use mathlib.Core.List.{List}
use native.Mathlib.Nat.{zero-add, add-zero}
use native.Mathlib.Omega.{arith}
use lib.ListN.{get_or, drop}
use lib.Seq.{drop-drop, get_or-drop}
use Rattle.sheet.proofs.Numbers.{num_drop}
use Rattle.state.specs.Session.{no_party, party_of}
use Rattle.state.specs.declared.kept.Party.{Party}
use Rattle.state.specs.declared.kept.Session.{Session}
use Rattle.sheet.proofs.Ranges.{range_at}
use Rattle.agreement.proofs.Readings.{Says}
use Rattle.image.specs.Image.{party_from, session_bytes, party_place, of_image, Sized}
use Rattle.image.proofs.Inverse.{decode_encode}

module _ (s : Session) (z : Sized s) (i : ℕ) (least : 1 ≤ i) (most : i ≤ 16) where
  abbrev bytes : List ℕ
  bytes = session_bytes s

  pub party_at : party_from (drop (party_place i) bytes) ≡ party_of s.parties i
  party_at =
      let read : ℕ → Party = λ j. party_from (drop (11 * j) (drop 3242 bytes)) in
      ap party_from (sym (drop-drop (11 * (i - 1)) 3242 bytes))
      ∙ ap read (sym (zero-add (i - 1)))
      ∙ sym (range_at read 0 16 (i - 1) no_party (omega arith))
      ∙ ap (λ (t : Session). party_of t.parties i) (decode_encode s z)

  pub says : Says (party_of s.parties i) (of_image bytes) i
  says =
      record {
        status =
            ap (λ (j : ℕ). get_or bytes j 0) (sym (add-zero (party_place i)))
            ∙ sym (get_or-drop (party_place i) bytes 0 0)
            ∙ ap (λ (p : Party). p.status) party_at;
        steps = sym (num_drop bytes (party_place i) 5 2) ∙ ap (λ (p : Party). p.steps) party_at;
        decision = sym (num_drop bytes (party_place i) 7 4) ∙ ap (λ (p : Party). p.decision) party_at;
      }
