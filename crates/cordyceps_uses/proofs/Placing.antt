-- A node comes into its list at the place of its rank.
use Rattle.std.proofs.Common.{◌≡◌, ◌≢◌, ◌<◌, ◌≤◌, ℕ, suc, List, [], ◌∷◌, ◌++◌, Option, Some, None, MatchOption, refl, sym, ap, ◌∙◌, subst, arith, length-append, append_assoc}
use Rattle.std.specs.List.{All}
use Rattle.std.proofs.lemmas.List.Elements.{All-nil}
use denote.RawPtr.{Ptr}
use Rattle.cordyceps.specs.Elements.Nodes.{Nodes}
use Rattle.cordyceps.specs.Spots.Spots.{index_of, AreDistinct}
use Rattle.cordyceps.specs.Spots.Entries.{value_at}
use Rattle.cordyceps.specs.Spots.MultiList.{list_at, SameBut, IsFirstOf, IsLastOf, AreNextIn}
use Rattle.cordyceps.specs.Spots.StableMap.{Mapped}
use Rattle.cordyceps.specs.Spots.Threads.{with_after}
use Rattle.cordyceps_uses.specs.Keyed.{in_order, order, HasAt, AreFrom, IsPassed, IsLinkedIn}
use Rattle.cordyceps_uses.proofs.ByKey.{clear}
use Rattle.cordyceps_uses.proofs.Ordered.{from_less, from_mid, from_put, all_from, all_before, after_mid, index_mid, order_here, order_joined, order_mid}

-- ---- the place for a rank, which is looked for from the back
-- how far the search has to go
abbrev pub to_go : List Ptr → Option Ptr → ℕ
to_go l None = 0
to_go l (Some p) = suc (index_of p l)

pub fewer : (l : List Ptr) (p : Ptr) (o : Option Ptr) → AreDistinct l → MatchOption o (IsFirstOf l p) (λ q. AreNextIn l q p) → to_go l o < to_go l (Some p)
fewer l p None d w = omega arith
fewer l p (Some q) d n =
    let whole = n.whole ∙ sym (append_assoc n.before (q ∷ []) (p ∷ n.after)) in
    let a = ap (index_of q) n.whole ∙ index_mid q n.before (p ∷ n.after) (clear l n.before (p ∷ n.after) q n.whole d) in
    let b = ap (index_of p) whole ∙ index_mid p (n.before ++ q ∷ []) n.after (clear l (n.before ++ q ∷ []) n.after p whole d) in
    let long = length-append n.before (q ∷ []) in omega (arith, a, b, long)

module _ {K X : Type 0} (rank : X → ℕ) (c : Nodes (K × X)) (l : List Ptr) (u : ℕ) where
  pub begun : (o : Option Ptr) → MatchOption o (l ≡ []) (λ p. IsLastOf l p) → MatchOption o (AreFrom rank (suc u) (in_order c l)) (λ p. IsPassed rank c l (suc u) p)
  begun None e = subst (λ z. AreFrom rank (suc u) (in_order c z)) (sym e) tt
  begun (Some p) (b, e) = record { before = b; after = []; whole = e; late = tt }

  module _ (p : Ptr) (x : K × X) (v : value_at c p ≡ Some x) (later : u < rank x.1) (sorted : AreFrom rank 0 (in_order c l)) where
    from_here : (f b : List Ptr) → l ≡ f ++ p ∷ b → AreFrom rank (suc u) (in_order c (p ∷ b))
    from_here f b e = subst (AreFrom rank (suc u)) (sym (order_here c p b x v))
        (let a = later in omega (arith, a), (from_mid rank 0 (in_order c f) (in_order c b) x (subst (AreFrom rank 0) (ap (in_order c) e ∙ order_mid c f b p x v) sorted)).1)

    pub gone_on : (o : Option Ptr) → MatchOption o (IsFirstOf l p) (λ q. AreNextIn l q p) → MatchOption o (AreFrom rank (suc u) (in_order c l)) (λ q. IsPassed rank c l (suc u) q)
    gone_on None (b, e) = subst (λ z. AreFrom rank (suc u) (in_order c z)) (sym e) (from_here [] b e)
    gone_on (Some q) n = record { before = n.before; after = p ∷ n.after; whole = n.whole; late = from_here (n.before ++ q ∷ []) n.after (n.whole ∙ sym (append_assoc n.before (q ∷ []) (p ∷ n.after))) }

-- ---- the node at n is linked there
module _ {K X : Type 0} (rank : X → ℕ) (i : ℕ) (m w : Mapped (K × X)) (n : Ptr) (y : K × X) (v : value_at m.nodes n ≡ Some y) (nodes : w.nodes ≡ m.nodes) (others : SameBut i m.lists w.lists) where
  -- with this before it and that after it
  linked : (f b : List Ptr) → list_at i m.lists ≡ f ++ b → list_at i w.lists ≡ f ++ n ∷ b
      → All (λ x. rank x.1 ≤ rank y.1) (in_order m.nodes f) → AreFrom rank (suc (rank y.1)) (in_order m.nodes b)
      → AreFrom rank 0 (in_order m.nodes f ++ y ∷ in_order m.nodes b) → IsLinkedIn rank i m n w
  linked f b old new first late sorted =
      let is : order i w ≡ in_order m.nodes f ++ y ∷ in_order m.nodes b = ap (λ c. in_order c (list_at i w.lists)) nodes ∙ ap (in_order m.nodes) new ∙ order_mid m.nodes f b n y v in record {
        nodes = nodes;
        others = others;
        before = f;
        after = b;
        old = old;
        new = new;
        entry = y;
        value = v;
        placed = record {
          before = in_order m.nodes f;
          after = in_order m.nodes b;
          old = ap (in_order m.nodes) old ∙ order_joined m.nodes f b;
          new = is;
          first = first;
          last = all_from rank (suc (rank y.1)) (in_order m.nodes b) late;
        };
        sorted = subst (AreFrom rank 0) (sym is) sorted;
      }

  pub linked_after : (p : Ptr) → AreDistinct (list_at i m.lists) → AreFrom rank 0 (order i m) → IsPassed rank m.nodes (list_at i m.lists) (suc (rank y.1)) p → HasAt m (λ x. rank x.1 ≤ rank y.1) p → list_at i w.lists ≡ with_after p n (list_at i m.lists) → IsLinkedIn rank i m n w
  linked_after p d sorted r e list =
      let f = in_order m.nodes r.before in let b = in_order m.nodes r.after in
      let was = subst (AreFrom rank 0) (ap (in_order m.nodes) r.whole ∙ order_mid m.nodes r.before r.after p e.entry e.value) sorted in
      let front : in_order m.nodes (r.before ++ p ∷ []) ≡ f ++ e.entry ∷ [] = order_mid m.nodes r.before [] p e.entry e.value in
      linked (r.before ++ p ∷ []) r.after (r.whole ∙ sym (append_assoc r.before (p ∷ []) r.after))
      (list ∙ ap (with_after p n) r.whole ∙ after_mid p n r.before r.after (clear (list_at i m.lists) r.before r.after p r.whole d) ∙ sym (append_assoc r.before (p ∷ []) (n ∷ r.after)))
      (subst (All (λ x. rank x.1 ≤ rank y.1)) (sym front) (all_before rank 0 (rank y.1) f b e.entry was e.holds)) r.late
      (subst (AreFrom rank 0) (sym (ap (λ z. z ++ y ∷ b) front ∙ append_assoc f (e.entry ∷ []) (y ∷ b)))
      (from_put rank 0 f b e.entry y was e.holds (sooner b r.late))) where
        sooner : (b : List (K × X)) → AreFrom rank (suc (rank y.1)) b → AreFrom rank (rank y.1) b
        sooner b h = from_less rank (suc (rank y.1)) (rank y.1) b (omega arith) h

  pub linked_front : AreFrom rank (suc (rank y.1)) (order i m) → list_at i w.lists ≡ n ∷ list_at i m.lists → IsLinkedIn rank i m n w
  linked_front late list =
      linked [] (list_at i m.lists) refl list (All-nil (λ x. rank x.1 ≤ rank y.1)) late (omega arith, from_less rank (suc (rank y.1)) (rank y.1) (order i m) (omega arith) late)

-- the other lists stay
pub order_other : {K X : Type 0} (rank : X → ℕ) (i : ℕ) (v : Mapped (K × X)) (p : Ptr) (w : Mapped (K × X)) → IsLinkedIn rank i v p w → (j : ℕ) → j ≢ i → order j w ≡ order j v
order_other rank i v p w l j other = ap (λ c. in_order c (list_at j w.lists)) l.nodes ∙ ap (in_order v.nodes) (l.others j other)
