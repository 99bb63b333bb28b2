-- `session_bytes` and `session_of` are inverse to each other: each part is read from where it was written, and what is read of a part is the part again.
use Prim.Native.Nat.{ℕ, ◌+◌, ◌*◌, ◌^◌, ◌≤◌, ◌<◌}
use mathlib.Core.Path.{◌≡◌, refl, sym, ap, subst⁻¹, ◌∙◌}
use mathlib.Core.List.{List, [], ◌∷◌, ◌++◌, append_assoc, append-nil}
use native.Mathlib.Omega.{arith}
use lib.ListN.{length, get_or, take, drop, length-append, length-drop}
use lib.Seq.{take_at, take-add, take_all, drop_at, drop-cons, drop-drop, length-take-le}
use Rattle.sheet.specs.Bytes.{num, bytes_of}
use Rattle.sheet.proofs.Numbers.{num_bytes, num_below}
use Rattle.sheet.proofs.Flat.{length_flat}
use Rattle.sheet.proofs.Ranges.{range_at}
use Rattle.state.specs.Session.{no_party, of_parts}
use Rattle.state.specs.declared.kept.Party.{Party}
use Rattle.state.specs.declared.kept.Session.{Session}
use Rattle.image.specs.Image.{party_image, proposals_bytes, parties_bytes, session_bytes}
use Rattle.image.specs.Image.{party_from, proposals_of, parties_from, session_of, Below, SizedParty, Sized}
use Rattle.image.specs.Entries.{entries_of}
use Rattle.image.proofs.Bytes.{below_drop, below_take, below_cons, below_append, below_flat, below_bytes, bytes_num}
use Rattle.image.proofs.Cuts.{cut_joined, joined_cuts}

-- ---- a party: `back` is decode of encode, `again` is encode of decode

party_back : (p : Party) → SizedParty p → (r : List ℕ) → party_from (party_image p ++ r) ≡ p
party_back p z r = λ i.
    record {
      status = p.status;
      place = p.place;
      round = p.round;
      k = p.k;
      candidate = p.candidate;
      steps = num_bytes 2 p.steps z.steps_fit i;
      decision = num_bytes 4 p.decision z.decision_fits i;
    }

-- five elements, one by one
five : (b : List ℕ) → 5 ≤ length b → b ≡ get_or b 0 0 ∷ get_or b 1 0 ∷ get_or b 2 0 ∷ get_or b 3 0 ∷ get_or b 4 0 ∷ drop 5 b
five b h =
    drop-cons b 0 0 (omega arith)
    ∙ ap (λ (xs : List ℕ). get_or b 0 0 ∷ xs) (drop-cons b 1 0 (omega arith))
    ∙ ap (λ (xs : List ℕ). get_or b 0 0 ∷ get_or b 1 0 ∷ xs) (drop-cons b 2 0 (omega arith))
    ∙ ap (λ (xs : List ℕ). get_or b 0 0 ∷ get_or b 1 0 ∷ get_or b 2 0 ∷ xs) (drop-cons b 3 0 (omega arith))
    ∙ ap (λ (xs : List ℕ). get_or b 0 0 ∷ get_or b 1 0 ∷ get_or b 2 0 ∷ get_or b 3 0 ∷ xs) (drop-cons b 4 0 (omega arith))

party_again : (b : List ℕ) → 11 ≤ length b → Below 256 b → party_image (party_from b) ≡ take 11 b
party_again b h low =
    let steps = bytes_num 2 5 b (omega arith) low in
    let decision = bytes_num 4 7 b (omega arith) low ∙ ap (take 4) (sym (drop-drop 2 5 b)) in
    let rest = (λ i. steps i ++ decision i) ∙ sym (take-add 2 4 (drop 5 b)) in
    ap (λ (xs : List ℕ). get_or b 0 0 ∷ get_or b 1 0 ∷ get_or b 2 0 ∷ get_or b 3 0 ∷ get_or b 4 0 ∷ xs) rest
    ∙ sym (ap (take 11) (five b (omega arith)))

party_sized : (b : List ℕ) → 11 ≤ length b → Below 256 b → SizedParty (party_from b)
party_sized b h low =
    record {
      status_fits = low 0 (omega arith);
      place_fits = low 1 (omega arith);
      round_fits = low 2 (omega arith);
      k_fits = low 3 (omega arith);
      candidate_fits = low 4 (omega arith);
      steps_fit = num_below b 5 2 (omega arith) low;
      decision_fits = num_below b 7 4 (omega arith) low;
    }

party_below : (p : Party) → SizedParty p → Below 256 (party_image p)
party_below p z = search (below_cons, below_append, below_bytes) depth 9

-- ---- the parts of a session

pub length_proposals : (xs : List ℕ) → length xs ≡ 16 → length (proposals_bytes xs) ≡ 64
length_proposals xs l = length_flat (bytes_of 4) 4 (λ x. refl) xs ∙ ap (λ (k : ℕ). k * 4) l

length_parties : (ps : List Party) → length ps ≡ 16 → length (parties_bytes ps) ≡ 176
length_parties ps l = length_flat party_image 11 (λ p. refl) ps ∙ ap (λ (k : ℕ). k * 11) l

proposals_back : (xs rest b : List ℕ) → length xs ≡ 16 → Below (2 ^ 32) xs → b ≡ proposals_bytes xs ++ rest → proposals_of 16 b ≡ xs
proposals_back xs rest b l low e =
    let read : List ℕ → ℕ = λ c. num c 0 4 in
    ap (proposals_of 16) e
    ∙ ap (λ (n : ℕ). entries_of read 4 n (proposals_bytes xs ++ rest)) (sym l)
    ∙ cut_joined (bytes_of 4) read 4 (λ x. refl) xs 0 (λ k h r. num_bytes 4 (get_or xs k 0) (low k h)) rest

parties_back : (ps : List Party) (rest b : List ℕ) → length ps ≡ 16 → ((k : ℕ) → k < length ps → SizedParty (get_or ps k no_party))
    → b ≡ parties_bytes ps ++ rest → parties_from b ≡ ps
parties_back ps rest b l low e =
    ap parties_from e
    ∙ ap (λ (n : ℕ). entries_of party_from 11 n (parties_bytes ps ++ rest)) (sym l)
    ∙ cut_joined party_image party_from 11 (λ p. refl) ps no_party (λ k h. party_back (get_or ps k no_party) (low k h)) rest

proposals_again : (b : List ℕ) → 64 ≤ length b → Below 256 b → proposals_bytes (proposals_of 16 b) ≡ take 64 b
proposals_again b h low =
    joined_cuts (bytes_of 4) (λ c. num c 0 4) 4 b 0 16
    (λ j l. bytes_num 4 0 (drop (4 * j) b) (omega (arith, length-drop (4 * j) b)) (below_drop 256 (4 * j) b low))

parties_again : (b : List ℕ) → 176 ≤ length b → Below 256 b → parties_bytes (parties_from b) ≡ take 176 b
parties_again b h low =
    joined_cuts party_image party_from 11 b 0 16
    (λ j l. party_again (drop (11 * j) b) (omega (arith, length-drop (11 * j) b)) (below_drop 256 (11 * j) b low))

proposals_fit_lem : (b : List ℕ) → 64 ≤ length b → Below 256 b → Below (2 ^ 32) (proposals_of 16 b)
proposals_fit_lem b h low k l =
    subst⁻¹ (λ (x : ℕ). x < 2 ^ 32) (range_at (λ j. num b (4 * j) 4) 0 16 k 0 l) (num_below b (4 * (0 + k)) 4 (omega arith) low)

parties_fit_lem : (b : List ℕ) → 176 ≤ length b → Below 256 b → (k : ℕ) → k < 16 → SizedParty (get_or (parties_from b) k no_party)
parties_fit_lem b h low k l =
    let here = 11 * (0 + k) in
    subst⁻¹ SizedParty (range_at (λ j. party_from (drop (11 * j) b)) 0 16 k no_party l)
    (party_sized (drop here b) (omega (arith, length-drop here b)) (below_drop 256 here b low))

-- ---- a session

-- lists as long as their arrays
pub record Full (s : Session) : Type 0 where
  pub sheet_full : length s.sheet ≡ 1898
  pub proposals_full : length s.proposals ≡ 16
  pub marks_full : length s.marks ≡ 1024
  pub published_full : length s.published ≡ 256
  pub parties_full : length s.parties ≡ 16

pub length_full : (s : Session) → Full s → length (session_bytes s) ≡ 3418
length_full s f =
    let p = length_proposals s.proposals f.proposals_full in
    let q = length_parties s.parties f.parties_full in
    simp length-append (omega (arith, f.sheet_full, f.marks_full, f.published_full))

module _ (s : Session) (z : Sized s) where
  pub length_session : length (session_bytes s) ≡ 3418
  length_session =
      length_full s
      (record {
        sheet_full = z.sheet_length;
        proposals_full = z.proposals_length;
        marks_full = z.marks_length;
        published_full = z.published_length;
        parties_full = z.parties_length;
      })

  pub below_session : Below 256 (session_bytes s)
  below_session =
      let proposals = below_flat 256 (bytes_of 4) s.proposals 0 (λ k h. below_bytes 4 (get_or s.proposals k 0)) in
      let parties = below_flat 256 party_image s.parties no_party (λ k h. party_below (get_or s.parties k no_party) (z.parties_fit k h)) in
      search below_append depth 9

  pub decode_encode : session_of (session_bytes s) ≡ s
  decode_encode =
      let b = session_bytes s in
      let P = proposals_bytes s.proposals in
      let Q = parties_bytes s.parties in
      let all : b ≡ s.sheet ++ (P ++ (s.marks ++ (s.published ++ Q))) = simp append_assoc in
      let from1898 = ap (drop 1898) all ∙ drop_at s.sheet _ 1898 z.sheet_length in
      let from1962 = sym (drop-drop 64 1898 b) ∙ ap (drop 64) from1898 ∙ drop_at P _ 64 (length_proposals s.proposals z.proposals_length) in
      let from2986 = sym (drop-drop 1024 1962 b) ∙ ap (drop 1024) from1962 ∙ drop_at s.marks _ 1024 z.marks_length in
      let from3242 = sym (drop-drop 256 2986 b) ∙ ap (drop 256) from2986 ∙ drop_at s.published _ 256 z.published_length in
      λ i.
      record {
        sheet = (ap (take 1898) all ∙ take_at s.sheet _ 1898 z.sheet_length) i;
        proposals = proposals_back s.proposals _ (drop 1898 b) z.proposals_length z.proposals_fit from1898 i;
        marks = (ap (take 1024) from1962 ∙ take_at s.marks _ 1024 z.marks_length) i;
        published = (ap (take 256) from2986 ∙ take_at s.published _ 256 z.published_length) i;
        parties = parties_back s.parties [] (drop 3242 b) z.parties_length z.parties_fit (from3242 ∙ sym (append-nil Q)) i;
      }

pub full_session : (b : List ℕ) → length b ≡ 3418 → Full (session_of b)
full_session b l =
    record {
      sheet_full = length-take-le 1898 b (omega arith);
      proposals_full = refl;
      marks_full = length-take-le 1024 (drop 1962 b) (omega (arith, length-drop 1962 b));
      published_full = length-take-le 256 (drop 2986 b) (omega (arith, length-drop 2986 b));
      parties_full = refl;
    }

module _ (b : List ℕ) (l : length b ≡ 3418) (low : Below 256 b) where
  -- the parts before the marks, and those before the parties, are written as they stand
  to_1962 : take 1898 b ++ proposals_bytes (proposals_of 16 (drop 1898 b)) ≡ take 1962 b
  to_1962 =
      ap (λ (z : List ℕ). take 1898 b ++ z) (proposals_again (drop 1898 b) (omega (arith, length-drop 1898 b)) (below_drop 256 1898 b low))
      ∙ sym (take-add 1898 64 b)

  to_3242 : take 1962 b ++ take 1024 (drop 1962 b) ++ take 256 (drop 2986 b) ≡ take 3242 b
  to_3242 = ap (λ (z : List ℕ). z ++ take 256 (drop 2986 b)) (sym (take-add 1962 1024 b)) ∙ sym (take-add 2986 256 b)

  -- the bytes with other marks, published candidates and parties are those of the session with these
  pub encode_acted : (marks published : List ℕ) (parties : List Party)
      → take 1962 b ++ marks ++ published ++ parties_bytes parties
      ≡ session_bytes (of_parts (session_of b).sheet (session_of b).proposals marks published parties)
  encode_acted marks published parties = ap (λ (z : List ℕ). z ++ marks ++ published ++ parties_bytes parties) (sym to_1962)

  -- and so with other parties alone
  pub encode_parties : (parties : List Party)
      → take 3242 b ++ parties_bytes parties
      ≡ session_bytes (of_parts (session_of b).sheet (session_of b).proposals (session_of b).marks (session_of b).published parties)
  encode_parties parties =
      ap (λ (z : List ℕ). z ++ parties_bytes parties) (sym to_3242) ∙ encode_acted (session_of b).marks (session_of b).published parties

  pub encode_decode : session_bytes (session_of b) ≡ b
  encode_decode =
      sym (encode_parties (session_of b).parties)
      ∙ ap (λ (z : List ℕ). take 3242 b ++ z) (parties_again (drop 3242 b) (omega (arith, length-drop 3242 b)) (below_drop 256 3242 b low))
      ∙ sym (take-add 3242 176 b)
      ∙ take_all 3418 b (omega arith)

  -- what is decoded is a session as the code holds it
  pub sized_session : Sized (session_of b)
  sized_session =
      let full = full_session b l in
      let low_after : (a : ℕ) → Below 256 (drop a b) = λ a. below_drop 256 a b low in
      record {
        sheet_length = full.sheet_full;
        sheet_fits = below_take 256 1898 b low;
        proposals_length = refl;
        proposals_fit = proposals_fit_lem (drop 1898 b) (omega (arith, length-drop 1898 b)) (low_after 1898);
        marks_length = full.marks_full;
        marks_fit = below_take 256 1024 (drop 1962 b) (low_after 1962);
        published_length = full.published_full;
        published_fits = below_take 256 256 (drop 2986 b) (low_after 2986);
        parties_length = refl;
        parties_fit = parties_fit_lem (drop 3242 b) (omega (arith, length-drop 3242 b)) (low_after 3242);
      }
