-- What a session keeps from its opening on: the copies, the lengths, the zeros past the counts, orderly parties, and the invariant of its view.
use Prim.Native.Nat.{ℕ, ◌+◌, ◌-◌, ◌≤◌, ◌<◌}
use mathlib.Core.Path.{◌≡◌, refl, ◌∙◌, ap}
use mathlib.Core.List.{List}
use mathlib.Core.Bool.{Bool, true, false, cond}
use native.Mathlib.Omega.{arith}
use native.Mathlib.Decide.{ℕ_discrete}
use borrow.Author.Tests.{ltb-true}
use lib.Dec.{ltb, eqb}
use lib.ListN.{length, get_or, set, length-set}
use lib.Seq.{get_or-set_other}
use Rattle.sheet.specs.Rows.{slot, writes}
use Rattle.sheet.specs.Words.{IsSlot}
use Rattle.rules.specs.Words.{Rules6}
use Rattle.state.specs.Session.{no_party, filled, carried, layout, party_of, cell}
use Rattle.state.specs.declared.kept.Party.{Party}
use Rattle.state.specs.declared.kept.Session.{Session}
use Rattle.state.proofs.Filled.{carried_rules}
use Rattle.steps.specs.Step.{Place, announce, publish, write, read_top, read_own, read_pair, fetch, decide, done, place_of}
use Rattle.steps.specs.Step.{counted, stamped, party_acted, marks_after, published_after, acted, step, stopped_party, stop}
use Rattle.steps.proofs.Views.{Still, Move}
use Rattle.steps.proofs.Invariant.{Invariant, move_keeps, still_keeps}
use Rattle.steps.proofs.Justified.{Justified}
use Rattle.steps.proofs.Limits.{Limited, move_limited, still_limited, Done}
use Rattle.steps.proofs.Stamps.{length_stamped, get_or_stamped}
use Rattle.steps.proofs.Units.{unreached}
use Rattle.steps.proofs.Seen.{standing, stands_at, view}
use Rattle.steps.proofs.Landing.{party_set, party_kept}
use Rattle.steps.proofs.Orderly.{Orderly, act_orderly, stop_orderly, done_last}
use Rattle.steps.proofs.Simulation.{moves}

pub record Marks (units : ℕ) (marks : List ℕ) : Type 0 where
  pub size : length marks ≡ 1024
  pub most : (u : ℕ) → u < 1024 → get_or marks u 0 ≤ 2
  pub past : (u : ℕ) → units ≤ u → u < 1024 → get_or marks u 0 ≡ 0

pub record Cells (n : ℕ) (published : List ℕ) : Type 0 where
  pub size : length published ≡ 256
  pub past : (j : ℕ) → j < 256 → ((r k : ℕ) → 2 ≤ r → r ≤ n → 1 ≤ k → k < r → j ≡ cell r k → ⊥) → get_or published j 0 ≡ 0

pub record Kept (sheet proposals : List ℕ) (s : Session) : Type 0 where
  pub copy : s.sheet ≡ filled 1898 sheet
  pub given : s.proposals ≡ filled 16 proposals
  pub marks : Marks (layout s).units s.marks
  pub cells : Cells (layout s).parties s.published
  pub size : length s.parties ≡ 16
  pub past : (i : ℕ) → (layout s).parties < i → i ≤ 16 → party_of s.parties i ≡ no_party
  pub orderly : (i : ℕ) → 1 ≤ i → i ≤ (layout s).parties → Orderly s.proposals (party_of s.parties i)
  pub invariant : Invariant (layout s).parties (view s)
  pub limited : Limited (layout s).parties (view s)

-- ---- the parties, one of which changes

module _ (n : ℕ) (few : n ≤ 16) (ps : List Party) (i : ℕ) (least : 1 ≤ i) (most : i ≤ n) (q : Party) where
  set_past : ((j : ℕ) → n < j → j ≤ 16 → party_of ps j ≡ no_party) → (j : ℕ) → n < j → j ≤ 16 → party_of (set ps (i - 1) q) j ≡ no_party
  set_past past j l h = party_kept ps i j q least (omega arith) (λ e. omega arith) ∙ past j l h

  set_orderly : {proposals : List ℕ} → length ps ≡ 16 → Orderly proposals q → ((j : ℕ) → 1 ≤ j → j ≤ n → Orderly proposals (party_of ps j))
      → (j : ℕ) → 1 ≤ j → j ≤ n → Orderly proposals (party_of (set ps (i - 1) q) j)
  set_orderly {proposals} size o all j l h = by (ℕ_discrete j i)
    where
      by : Dec (j ≡ i) → Orderly proposals (party_of (set ps (i - 1) q) j)
      by (yes e) = rw (e, party_set ps i q least (omega arith)) o
      by (no e) = rw (party_kept ps i j q least l e) (all j l h)

module _ {sheet proposals : List ℕ} (rules : Rules6 sheet) (s : Session) (K : Kept sheet proposals s)
    (i : ℕ) (least : 1 ≤ i) (most : i ≤ (layout s).parties) where
  abbrev n : ℕ
  n = (layout s).parties

  abbrev p : Party
  p = party_of s.parties i

  sound : Rules6 (carried s)
  sound = carried_rules sheet rules s K.copy

  few : n ≤ 16
  few = sound.before.before.before.header.parties_most

  -- ---- the memory after an act

  written_marks : IsSlot n (slot p.round i) → (m : ℕ) → m ≤ 2
      → Marks (layout s).units (stamped (writes ((layout s).row (slot p.round i))) m 0 s.marks)
  written_marks w m two =
      record {
        size = length_stamped f m 0 s.marks ∙ K.marks.size;
        most = λ u l.
            rw
            (get_or_stamped f m 0 s.marks u (omega (arith, K.marks.size)))
            (either (f (0 + u)) (get_or s.marks u 0) (K.marks.most u l));
        past = λ u l h.
            unreached (carried s) sound s.marks K.marks.size m p.round i w u h (λ x.
            omega (arith, (sound.before.rows (slot p.round i) w).below u x))
            ∙ K.marks.past u l h;
      }
    where
      f : ℕ → Bool
      f = writes ((layout s).row (slot p.round i))

      either : (b : Bool) (x : ℕ) → x ≤ 2 → cond b m x ≤ 2
      either true x l = two
      either false x l = l

  higher_or_lower : (b : Bool) → cond b 2 1 ≤ 2
  higher_or_lower true = omega arith
  higher_or_lower false = omega arith

  marks_kept : (at : Place) → place_of p.place ≡ at → Marks (layout s).units (marks_after (layout s) i p s.marks at)
  unfolding marks_after
  marks_kept announce e = K.marks
  marks_kept publish e = K.marks
  marks_kept write e = written_marks w (cond (eqb i p.round) 2 1) (higher_or_lower (eqb i p.round))
    where
      o : Justified n (view s) i (standing write p.round p.k p.candidate)
      o = rw e at (K.invariant.justified i least most)

      w : IsSlot n (slot p.round i)
      w = record { first = o.least; last = o.fits; lowest = least; top = o.within }
  marks_kept read_top e = K.marks
  marks_kept read_own e = K.marks
  marks_kept read_pair e = K.marks
  marks_kept fetch e = K.marks
  marks_kept decide e = K.marks
  marks_kept done e = K.marks

  cells_kept : (at : Place) → place_of p.place ≡ at → Cells n (published_after i p s.published at)
  unfolding published_after
  cells_kept announce e = K.cells
  cells_kept publish e =
      record {
        size = length-set s.published (cell p.round i) p.candidate ∙ K.cells.size;
        past = λ j l h.
            get_or-set_other s.published (cell p.round i) j p.candidate 0 (h p.round i (omega (arith, o)) o.fits least o.lower.below)
            ∙ K.cells.past j l h;
      }
    where
      o : Justified n (view s) i (standing publish p.round p.k p.candidate)
      o = rw e at (K.invariant.justified i least most)
  cells_kept write e = K.cells
  cells_kept read_top e = K.cells
  cells_kept read_own e = K.cells
  cells_kept read_pair e = K.cells
  cells_kept fetch e = K.cells
  cells_kept decide e = K.cells
  cells_kept done e = K.cells

  -- ---- a step, and a stop

  not_done : p.status < 2 → Done (standing (place_of p.place) 0 0 0) → ⊥
  not_done live d = let O = K.orderly i least most in omega (arith, O.decided.1 (done_last p.place 0 0 0 O.place d))

  -- the act of a live party is a move
  pub acted_move : p.status < 2 → Move n (view s) (view (acted s i)) i
  acted_move live = moves s sound K.marks.size K.cells.size K.size i least most K.invariant (place_of p.place) refl (not_done live)

  acted_kept : p.status < 2 → Kept sheet proposals (acted s i)
  acted_kept live =
      record {
        copy = K.copy;
        given = K.given;
        marks = marks_kept (place_of p.place) refl;
        cells = cells_kept (place_of p.place) refl;
        size = length-set s.parties (i - 1) new ∙ K.size;
        past = set_past n few s.parties i least most new K.past;
        orderly = set_orderly n few s.parties i least most new K.size o K.orderly;
        invariant = move_keeps least most K.invariant (acted_move live);
        limited = move_limited least most K.invariant K.limited (acted_move live);
      }
    where
      new : Party
      new = counted (party_acted (layout s) s.proposals s.marks s.published i p (place_of p.place))

      o : Orderly s.proposals new
      o =
          act_orderly
          s.proposals
          p
          ((K.orderly i least most).no_decision (λ e. omega arith))
          (layout s)
          s.marks
          s.published
          i
          (place_of p.place)
          (not_done live)

  pub step_kept : Kept sheet proposals (step s i)
  unfolding step
  step_kept = by (ltb p.status 2) refl
    where
      by : (b : Bool) → ltb p.status 2 ≡ b → Kept sheet proposals (cond b (acted s i) s)
      by true e = acted_kept (ltb-true p.status 2 e)
      by false e = K

  pub stop_kept : Kept sheet proposals (stop s i)
  unfolding stop
  stop_kept =
      record {
        copy = K.copy;
        given = K.given;
        marks = K.marks;
        cells = K.cells;
        size = length-set s.parties (i - 1) (stopped_party p) ∙ K.size;
        past = set_past n few s.parties i least most (stopped_party p) K.past;
        orderly = set_orderly n few s.parties i least most (stopped_party p) K.size (stop_orderly p (K.orderly i least most)) K.orderly;
        invariant = still_keeps K.invariant still;
        limited = still_limited K.limited still;
      }
    where
      here : party_of (set s.parties (i - 1) (stopped_party p)) i ≡ stopped_party p
      here = party_set s.parties i (stopped_party p) least (omega (arith, few, K.size))

      seen : {A : Type 0} (f : Party → A) → f (stopped_party p) ≡ f p → (j : ℕ) → 1 ≤ j → Dec (j ≡ i)
          → f (party_of (set s.parties (i - 1) (stopped_party p)) j) ≡ f (party_of s.parties j)
      seen f e j l (yes h) = rw h (ap f here ∙ e)
      seen f e j l (no h) = ap f (party_kept s.parties i j (stopped_party p) least l h)

      still : Still (view s) (view (stop s i))
      still =
          record {
            same = record { own = λ r k. refl; pair = λ r k. refl; published = λ r k. refl };
            stands = λ j l. seen stands_at refl j l (ℕ_discrete j i);
            steps = λ j l. seen (λ (x : Party). x.steps) refl j l (ℕ_discrete j i);
          }
