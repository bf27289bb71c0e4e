-- The nodes that stand for the arrivals which a collection holds, and what calls make of them.
use Rattle.std.proofs.Common.{◌≡◌, true, false, [], ◌∷◌, ◌++◌, refl, ap, sym, ◌∙◌, subst}
use Rattle.std.proofs.lemmas.List.Elements.{recursion_from_All}
use Rattle.std.specs.List.{AllByRecursion}
use Rattle.std.specs.List.Sorted.{IsSortedBy, IsStableBy}
use Rattle.std.specs.declared.cmp.Ordering.{Ordering}
use denote.RawPtr.{Ptr}
use Rattle.cordyceps_base.specs.BySpot.{IsTaken}
use Rattle.cordyceps_base.specs.Element.{Element}
use Rattle.cordyceps_base.specs.Nodes.{Nodes}
use Rattle.cordyceps_single.specs.Arrangement.{IsEarliestLeast}
use Rattle.cordyceps_single.specs.Preorder.{IsPreorder}
use Rattle.cordyceps_single.proofs.Arrangement.{Ascends, all_back, ascends_from_sorted}
use Rattle.cordyceps_single.proofs.Preorder.{ranks}
use Rattle.cordyceps_stable.specs.Arranged.{precedes, Arranges}
use Rattle.cordyceps_stable.proofs.Arranged.{arranges_first, arranges_itself, arranges_taken, same_nodes}

module _ {X : Type 0} (cmp : X → X → Ordering) where
  -- the nodes s are held as arrivals, and they are the arrangement of any arrivals that are held
  pub record Stands (Held : Nodes X → Type 0) (s : Nodes X) : Type 0 where
    pub held : Held s
    pub arranges : (a : Nodes X) → Held a → Arranges cmp s a

  -- the arrangement of nodes stands for them
  pub stands_for : (c s : Nodes X) → Arranges cmp s c → Stands (λ a. IsStableBy (precedes cmp) a c) s
  stands_for c s h = record {
    held = λ x. sym (h.stable x);
    arranges = λ a k. record { in_order = h.in_order; stable = λ x. h.stable x ∙ k x };
  }

module _ {X : Type 0} {cmp : X → X → Ordering} (o : IsPreorder cmp) where
  -- the earliest least of nodes in order is the first
  none_before : (before after : Nodes X) (x : Ptr × Element X) → Ascends (precedes cmp) (before ++ x ∷ after)
      → AllByRecursion (λ y. precedes cmp x y ≡ true) before → before ≡ []
  none_before [] after x up earlier = refl
  none_before (y ∷ before) after x up earlier =
      let no = (all_back (λ z. precedes cmp z y ≡ false) before (x ∷ after) up.0).0 in let yes = earlier.0 in absurd cc

  first_is : (s : Nodes X) (x : Ptr × Element X) (rest : Nodes X) → IsSortedBy (precedes cmp) s
      → IsEarliestLeast (precedes cmp) s x rest → s ≡ x ∷ rest
  first_is s x rest sorted first =
      let up = ascends_from_sorted (precedes cmp) (ranks o (λ (n : Ptr × Element X). n.1.value)) s sorted in
      let none = none_before first.before first.after x (subst (Ascends (precedes cmp)) first.arrivals up)
      (recursion_from_All (λ y. precedes cmp x y ≡ true) first.before first.earliest) in
      first.arrivals ∙ (λ i. none i ++ x ∷ first.after)
      ∙ ap (λ l. x ∷ l) (sym (first.others ∙ (λ i. none i ++ first.after)))

  module _ (Held : Nodes X → Type 0) (s : Nodes X) (was : Stands cmp Held s) where
    sorted : IsSortedBy (precedes cmp) s
    sorted = (was.arranges s was.held).in_order

    -- what a call that looks for the first finds
    pub first_of : (x : Ptr × Element X)
        → ((a : Nodes X) → Held a → (rest : Nodes X) × IsEarliestLeast (precedes cmp) a x rest)
        → (rest : Nodes X) × (s ≡ x ∷ rest)
    first_of x h = let (rest, first) = h s was.held in (rest, first_is s x rest sorted first)

    module _ (Left : Nodes X → Type 0) (t : Nodes X) (is : Stands cmp Left t) where
      -- one more arrived
      pub one_more : (n : Ptr × Element X) → ((a : Nodes X) → Held a → Left (a ++ n ∷ []))
          → Arranges cmp t (s ++ n ∷ [])
      one_more n h = is.arranges (s ++ n ∷ []) (h s was.held)

      -- one was taken out
      pub one_less : (p : Ptr) (e : Element X)
          → ((a : Nodes X) → Held a → (rest : Nodes X) × (IsTaken a p e rest × Left rest)) → IsTaken s p e t
      one_less p e h =
          let (rest, (taken, left)) = h s was.held in
          let (_, (_, up)) = arranges_taken o s rest s p e taken (arranges_itself o s sorted) in
          subst (IsTaken s p e)
          (same_nodes o rest rest t (arranges_itself o rest up.in_order) (is.arranges rest left)) taken

      -- the first was taken out
      pub first_less : (x : Ptr × Element X)
          → ((a : Nodes X) → Held a
          → (rest : Nodes X) × (IsEarliestLeast (precedes cmp) a x rest × Left rest)) → s ≡ x ∷ t
      first_less x h =
          let (rest, (first, left)) = h s was.held in
          let at = first_is s x rest sorted first in
          let (_, (_, up)) = arranges_first o x s rest s at (arranges_itself o s sorted) in
          at ∙ ap (λ l. x ∷ l)
          (same_nodes o rest rest t (arranges_itself o rest up.in_order) (is.arranges rest left))

      -- the same arrivals are held
      pub all_same : ((a : Nodes X) → Held a → Left a) → t ≡ s
      all_same h = same_nodes o s t s (is.arranges s (h s was.held)) (arranges_itself o s sorted)
