-- A call on a session's bytes is refused where they are not 3,418; else it is the call on the session that they say.
use Prim.Native.Nat.{ℕ}
use mathlib.Core.Path.{◌≡◌, sym, ap, ◌∙◌}
use mathlib.Core.List.{List, ◌++◌}
use mathlib.Core.Bool.{Bool, cond}
use mathlib.Core.Logic.{◌≢◌}
use borrow.Author.Tests.{eq-eqb, ne_eqb}
use lib.Dec.{eqb}
use lib.ListN.{length, take}
use Rattle.state.specs.declared.kept.Session.{Session}
use Rattle.steps.specs.Calls.{Told, told}
use Rattle.image.specs.Image.{parties_bytes, session_bytes, session_of, Below}
use Rattle.image.proofs.Inverse.{encode_acted, encode_parties}
use Rattle.host.specs.Calls.{on_session, bytes_after}

module _ (bytes : List ℕ) (tell : Session → Told) where
  pub other_length : length bytes ≢ 3418 → on_session bytes tell ≡ told 9 0
  other_length n = rw (ne_eqb (length bytes) 3418 n)

  pub this_length : length bytes ≡ 3418 → on_session bytes tell ≡ tell (session_of bytes)
  this_length e = rw (eq-eqb (length bytes) 3418 e)

  module _ (after : Session → Session) where
    -- what the call tells, and the bytes afterwards
    abbrev pub Answers : Told → List ℕ → Type 0
    Answers t now = (t ≡ on_session bytes tell) × (now ≡ bytes_after bytes (on_session bytes tell) after)

    bytes_at : Told → List ℕ
    bytes_at t = bytes_after bytes t after

    pub refused_9 : length bytes ≢ 3418 → Answers (told 9 0) bytes
    unfolding bytes_at
    refused_9 n = (sym (other_length n), ap bytes_at (sym (other_length n)))

    -- t is what the call tells of the session that the bytes say
    module _ (t : Told) (l : length bytes ≡ 3418) (tells : t ≡ tell (session_of bytes)) where
      told_is : t ≡ on_session bytes tell
      told_is = tells ∙ sym (this_length l)

      pub answered : (now : List ℕ) → t.number ≡ 0 → now ≡ session_bytes (after (session_of bytes)) → Answers t now
      unfolding bytes_at
      answered now z is = (
        told_is,
        is ∙ sym (ap (λ (b : Bool). cond b (session_bytes (after (session_of bytes))) bytes) (eq-eqb t.number 0 z)) ∙ ap bytes_at told_is,
      )

      pub refused : t.number ≢ 0 → Answers t bytes
      unfolding bytes_at
      refused n = (told_is, sym (ap (λ (b : Bool). cond b (session_bytes (after (session_of bytes))) bytes) (ne_eqb t.number 0 n)) ∙ ap bytes_at told_is)

-- ---- what is written over the bytes of a session that a call has changed to u

module _ (bytes : List ℕ) (l : length bytes ≡ 3418) where
  pub whole : {A : Type 0} {v : A} (x y : A) → v ≡ cond (eqb (length bytes) 3418) x y → v ≡ x
  whole x y e = e ∙ ap (λ (b : Bool). cond b x y) (eq-eqb (length bytes) 3418 l)

  module _ (low : Below 256 bytes) (u : Session) {now : List ℕ} (sheet : u.sheet ≡ (session_of bytes).sheet) (proposals : u.proposals ≡ (session_of bytes).proposals) where
    pub acted_written : now ≡ cond (eqb (length bytes) 3418) (take 1962 bytes ++ u.marks ++ u.published ++ parties_bytes u.parties) bytes → now ≡ session_bytes u
    acted_written e =
        whole _ _ e
        ∙ encode_acted bytes l low u.marks u.published u.parties
        ∙ sym (λ i. session_bytes (record { sheet = sheet i; proposals = proposals i; marks = u.marks; published = u.published; parties = u.parties }))

    pub parties_written : u.marks ≡ (session_of bytes).marks → u.published ≡ (session_of bytes).published
        → now ≡ cond (eqb (length bytes) 3418) (take 3242 bytes ++ parties_bytes u.parties) bytes → now ≡ session_bytes u
    parties_written marks published e =
        whole _ _ e
        ∙ encode_parties bytes l low u.parties
        ∙ sym (λ i. session_bytes (record { sheet = sheet i; proposals = proposals i; marks = marks i; published = published i; parties = u.parties }))
