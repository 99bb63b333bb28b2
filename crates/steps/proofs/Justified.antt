-- Where a party stands, the holder justifies its candidate: each act leads from a justified standing to a justified one.
use Prim.Native.Nat.{ℕ, ◌+◌, ◌-◌, ◌≤◌, ◌<◌}
use mathlib.Core.Path.{◌≡◌, refl, ◌∙◌}
use native.Mathlib.Omega.{arith}
use native.Mathlib.Decide.{ℕ_discrete}
use Rattle.steps.proofs.Views.{Standing, at_announce, at_publish, at_write, at_top, at_own, at_pair, at_fetch, at_decide, at_done, View}
use Rattle.steps.proofs.Views.{Won, on, last, NextK, more, none, lower, top}
use Rattle.steps.proofs.Views.{Act, announces_alone, announces_first, announces_top, publishes, lower_writes, top_writes}
use Rattle.steps.proofs.Views.{top_empty, top_marked, own_empty, own_marked, pair_higher, pair_else, fetches, decides}
use Rattle.steps.proofs.Holder.{Marked, alone, over, NotBefore, LowersWon, Announced}
use Rattle.steps.proofs.Holder.{Holder, first, by_top, by_lowers, holder_at, holder_least_lem, Stable, lowers_stay, holder_stays}
use Rattle.steps.proofs.Stays.{Memory}

-- a lower of round r has the holder of the round before as candidate
pub record Lower (s : View) (i r c : ℕ) : Type 0 where
  pub below : i < r
  pub held : Holder s (r - 1) c

-- a scan at k has found no lower below k before the top; a top has its own number as candidate
pub record Scan (s : View) (i r k c : ℕ) : Type 0 where
  pub least : 1 ≤ k
  pub most : k < r
  pub within : i ≤ r
  pub held : i < r → Holder s (r - 1) c
  pub self : i ≡ r → c ≡ i
  pub marked : Marked s r r
  pub none : (j : ℕ) → 1 ≤ j → j < k → NotBefore s r j

-- what holds of party i of n where it stands
abbrev pub Justified : ℕ → View → ℕ → Standing → Type 0
Justified n s i (at_announce c) = c ≡ i
Justified n s i (at_publish r c) = record { fits : r ≤ n; lower : Lower s i r c }
Justified n s i (at_write r c) =
    record {
      fits : r ≤ n;
      within : i ≤ r;
      least : 2 ≤ r;
      self : i ≡ r → c ≡ i;
      lower : i < r → Lower s i r c;
      published : i < r → 0 < s.published r i;
    }
Justified n s i (at_top r c) = record { fits : r ≤ n; lower : Lower s i r c; marked : Marked s r i }
Justified n s i (at_own r k c) = record { fits : r ≤ n; scan : Scan s i r k c }
Justified n s i (at_pair r k c) = record { fits : r ≤ n; scan : Scan s i r k c; marked : Marked s r k }
Justified n s i (at_fetch r k c) =
    record { fits : r ≤ n; top : i ≡ r; self : c ≡ i; won : LowersWon s r; least : 1 ≤ k; most : k < r; marked : Marked s r k }
Justified n s i (at_decide c) = Holder s n c
Justified n s i (at_done c) = Holder s n c

module _ {s t : View} (S : Stable s t) where
  lower_stays : {i r c : ℕ} → Lower s i r c → Lower t i r c
  lower_stays l = record { below = l.below; held = holder_stays S l.held }

  scan_stays : {i r k c : ℕ} → Scan s i r k c → Scan t i r k c
  scan_stays {i} {r} {k} w =
      record {
        least = w.least;
        most = w.most;
        within = w.within;
        held = λ h. holder_stays S (w.held h);
        self = w.self;
        marked = S.marked r r w.marked;
        none = λ j p l. S.not_before r j p (under j l) w.marked (w.none j p l);
      }
    where
      under : (j : ℕ) → j < k → j < r
      under j l = omega (arith, w.most)

  -- another party's act
  pub justified_stays : (n i : ℕ) (a : Standing) → Justified n s i a → Justified n t i a
  justified_stays n i (at_announce c) o = o
  justified_stays n i (at_publish r c) o = record { fits = o.fits; lower = lower_stays o.lower }
  justified_stays n i (at_write r c) o =
      record {
        fits = o.fits;
        within = o.within;
        least = o.least;
        self = o.self;
        lower = λ h. lower_stays (o.lower h);
        published = λ h. S.published r i (o.published h);
      }
  justified_stays n i (at_top r c) o = record { fits = o.fits; lower = lower_stays o.lower; marked = S.marked r i o.marked }
  justified_stays n i (at_own r k c) o = record { fits = o.fits; scan = scan_stays o.scan }
  justified_stays n i (at_pair r k c) o = record { fits = o.fits; scan = scan_stays o.scan; marked = S.marked r k o.marked }
  justified_stays n i (at_fetch r k c) o =
      record {
        fits = o.fits;
        top = o.top;
        self = o.self;
        won = lowers_stay S o.won;
        least = o.least;
        most = o.most;
        marked = S.marked r k o.marked;
      }
  justified_stays n i (at_decide c) o = holder_stays S o
  justified_stays n i (at_done c) o = holder_stays S o

-- ---- the acting party

module _ {n : ℕ} {s t : View} {i : ℕ} (least : 1 ≤ i) (most : i ≤ n) (S : Stable s t) (here : i ≡ 1 → Announced (t.stands 1)) (M : Memory s) where
  -- a round is won, and its holder known
  won_justified : {r c : ℕ} {q : Standing} → i ≤ r → Holder t r c → Won n r c q → Justified n t i q
  won_justified l h (on f) = record { fits = omega arith; lower = record { below = omega arith; held = holder_at (omega arith) h } }
  won_justified l h (last e) = holder_at e h

  -- no lower up to k came before the top
  next_justified : {r k c : ℕ} {q : Standing} → r ≤ n → Scan s i r k c → NotBefore s r k → NextK n r k c q → Justified n t i q
  next_justified {r} {k} {c} f w this x = by x
    where
      nones : (j : ℕ) → 1 ≤ j → j < k + 1 → NotBefore t r j
      nones j p l = S.not_before r j p (omega (arith, w.most)) w.marked (at (ℕ_discrete j k))
        where
          at : Dec (j ≡ k) → NotBefore s r j
          at (yes e) = rw e this
          at (no e) = w.none j p (omega arith)

      by : {q : Standing} → NextK n r k c q → Justified n t i q
      by (more l) =
          record {
            fits = f;
            scan = record {
              least = omega arith;
              most = l;
              within = w.within;
              held = λ h. holder_stays S (w.held h);
              self = w.self;
              marked = S.marked r r w.marked;
              none = nones;
            };
          }
      by (none e y) =
          won_justified
          w.within
          (by_top (omega (arith, w)) (record { marked = S.marked r r w.marked; none = λ j p l. nones j p (omega arith) }) refl)
          y

  -- lower k came before the top
  lowers : {r : ℕ} (k : ℕ) → 1 ≤ k → k < r → Marked s r k → s.pair r k ≡ 2 → LowersWon t r
  lowers {r} k p l m e = record { k = k; least = p; most = l; before = S.before r k p l (over m e) }

  -- a scan that begins
  fresh_scan : {r c : ℕ} → 2 ≤ r → i ≤ r → (i < r → Holder t (r - 1) c) → (i ≡ r → c ≡ i) → Marked t r r → Scan t i r 1 c
  fresh_scan {r} two l held self marked =
      record { least = omega arith; most = two; within = l; held = held; self = self; marked = marked; none = λ j p h. absurd (omega arith) }

  pub act_justified : {p q : Standing} → Justified n s i p → Act n s t i p q → Justified n t i q
  act_justified o (announces_alone {c} e m) = first {h = c} (here (omega arith)) e (omega arith)
  act_justified o (announces_first g e m) =
      record { fits = g; lower = record { below = omega arith; held = first {r = 2 - 1} (here e) refl (o ∙ e) } }
  act_justified o (announces_top g m) = record { fits = most; within = omega arith; least = g; self = λ _. o; lower = λ h. absurd (omega arith); published = λ h. absurd (omega arith) }
  act_justified o (publishes {r} {c} m) =
      record {
        fits = o.fits;
        within = omega arith;
        least = omega arith;
        self = λ e. absurd (omega arith);
        lower = λ h. lower_stays S o.lower;
        published = λ h. omega (arith, holder_least_lem o.lower.held, m.here);
      }
  act_justified o (lower_writes l m) = record { fits = o.fits; lower = lower_stays S (o.lower l); marked = omega (arith, m.own_here) }
  act_justified o (top_writes {r} {c} e m) =
      record { fits = o.fits; scan = fresh_scan o.least o.within (λ h. absurd (omega arith)) o.self (omega (arith, m.own_here)) }
  act_justified o (top_empty {r} {c} e w m) = won_justified (omega arith) (by_lowers (omega arith) won (holder_stays S o.lower.held)) w
    where
      won : LowersWon t r
      won = record { k = i; least = least; most = o.lower.below; before = S.before r i least o.lower.below (alone o.marked e) }
  act_justified o (top_marked {r} {c} e m) =
      record {
        fits = o.fits;
        scan = fresh_scan (omega arith) (omega arith) (λ _. holder_stays S o.lower.held) (λ f. absurd (omega arith)) (S.marked r r e);
      }
  act_justified o (own_empty {r} {k} e w m) = next_justified o.fits o.scan (λ h. absurd (omega arith)) w
  act_justified o (own_marked {r} {k} e m) = record { fits = o.fits; scan = scan_stays S o.scan; marked = S.marked r k e }
  act_justified o (pair_higher {r} {k} e (lower l w) m) =
      won_justified
      o.scan.within
      (by_lowers (omega arith) (lowers k o.scan.least o.scan.most o.marked e) (holder_stays S (o.scan.held l)))
      w
  act_justified o (pair_higher {r} {k} e (top f) m) =
      record {
        fits = o.fits;
        top = f;
        self = o.scan.self f;
        won = lowers k o.scan.least o.scan.most o.marked e;
        least = o.scan.least;
        most = o.scan.most;
        marked = S.marked r k o.marked;
      }
  act_justified o (pair_else {r} {k} e w m) = next_justified o.fits o.scan (λ _. e) w
  act_justified o (fetches {r} {k} w m) =
      won_justified
      (omega arith)
      (by_lowers (omega arith) (lowers_stay S o.won) (holder_stays S (M.held r k (M.shown r k o.most o.marked))))
      w
  act_justified o (decides m) = holder_stays S o
