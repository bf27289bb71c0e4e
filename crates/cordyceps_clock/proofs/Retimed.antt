-- Nodes whose times stay, while another function returns them, lie in their buckets as before.
use Rattle.std.proofs.Common.{◌≡◌, ℕ, ◌<◌, ◌≤◌, ◌^◌, List, [], ◌∷◌, cond, Option, refl, sym, ap, ◌∙◌, subst}
use Rattle.std.specs.Prelude.{◌==◌}
use Rattle.std.specs.List.{AllByRecursion}
use denote.RawPtr.{Ptr}
use Rattle.cordyceps_base.specs.Nodes.{Nodes}
use Rattle.cordyceps_single.specs.ByKey.{AscendsBy}
use Rattle.cordyceps_clock.specs.Buckets.{bucket_of, last_spot, number_at, row, AreDue, IsTimed}

module _ {X : Type 0} (of anew : X → ℕ) where
  abbrev pub AreSame : Nodes X → Type 0
  AreSame c = AllByRecursion (λ n. anew n.1.value ≡ of n.1.value) c

  -- what is due at the clock or later keeps its time
  pub are_same : (clock : ℕ) → ((v : X) → clock ≤ of v → anew v ≡ of v) → (c : Nodes X) → AreDue of clock c → AreSame c
  are_same clock same [] h = tt
  are_same clock same (n ∷ c) h = (same n.1.value h.0.0, are_same clock same c h.1)

  module _ (clock : ℕ) where
    due : (c : Nodes X) → AreSame c → AreDue of clock c → AreDue anew clock c
    due [] s h = tt
    due (n ∷ c) s h = (subst (λ t. (clock ≤ t) × (t < 2 ^ 64)) (sym s.0) h.0, due c s.1 h.1)

    above : (k l : ℕ) (c : Nodes X) → l ≡ k → AreSame c → AllByRecursion (λ y. k ≤ number_at of clock y) c → AllByRecursion (λ y. l ≤ number_at anew clock y) c
    above k l [] is s h = tt
    above k l (n ∷ c) is s h = (subst (λ (t : ℕ × ℕ). t.0 ≤ bucket_of clock t.1) (λ i. (sym is i, sym s.0 i)) h.0, above k l c is s.1 h.1)

    ascends : (c : Nodes X) → AreSame c → AscendsBy (number_at of clock) c → AscendsBy (number_at anew clock) c
    ascends [] s h = tt
    ascends (n ∷ c) s h = (above (number_at of clock n) (number_at anew clock n) c (ap (bucket_of clock) s.0) s.1 h.0, ascends c s.1 h.1)

    rows : (k : ℕ) (c : Nodes X) → AreSame c → row (number_at anew clock) k c ≡ row (number_at of clock) k c
    rows k [] s = refl
    rows k (n ∷ c) s = λ i. cond (bucket_of clock (s.0 i) == k) (n ∷ rows k c s.1 i) (rows k c s.1 i)

    pub retimed : (ends : List (Option Ptr)) (c : Nodes X) → AreSame c → IsTimed of clock ends c → IsTimed anew clock ends c
    retimed ends c same h = record {
      kept = record {
        ascends = ascends c same h.kept.ascends;
        last = λ k small. h.kept.last k small ∙ ap last_spot (sym (rows k c same));
      };
      times = due c same h.times;
    }
