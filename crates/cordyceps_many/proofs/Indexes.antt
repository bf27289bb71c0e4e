-- Lists that have every node, in order: what comes in and goes out, and what a written value leaves of them.
use Rattle.std.proofs.Common.{◌≡◌, ◌≢◌, Bool, true, false, if◌then◌else◌, List, [], ◌∷◌, ◌++◌, Some, refl, sym, ap, ◌∙◌, subst}
use Rattle.std.specs.declared.cmp.Ordering.{Ordering}
use Rattle.std.specs.declared.cmp.Ordering.TheVariants.{Less, Equal, Greater}
use Rattle.std.specs.Ordering.{is_gt, ordering_reverse}
use denote.RawPtr.{Ptr}
use Rattle.cordyceps_base.specs.BySpot.{HasSpot, HoldsAt, IsTaken}
use Rattle.cordyceps_base.specs.Element.{Element}
use Rattle.cordyceps_base.specs.Nodes.{Nodes, spots, with_item}
use Rattle.cordyceps_base.specs.Spots.{same_ptr, index_of, AreDistinct}
use Rattle.cordyceps_base.proofs.Places.{spots-with_item}
use Rattle.cordyceps_base.proofs.SpotsMemory.{same_ptr_eq, same_ptr_refl}
use Rattle.cordyceps_single.specs.Preorder.{IsPreorder}
use Rattle.cordyceps_many.specs.Entries.{value_at}
use Rattle.cordyceps_many.specs.InOrder.{IsAtMostAt, IsInOrder, IsPutInOrder, IsIndex, IsIndexBut}
use Rattle.cordyceps_many.specs.MultiList.{IsFirstOf}
use Rattle.cordyceps_many.specs.Threads.{is_in, without}
use Rattle.cordyceps_many.proofs.Fewer.{new_out}
use Rattle.cordyceps_many.proofs.Members.{has_in, in_has, in_self, other_mid, spots_joined}
use Rattle.cordyceps_many.proofs.Placed.{put_in_order}
use Rattle.cordyceps_many.proofs.Threads.{split, differ, in_append, in_here, in_more, in_there, other_way, without_other}
use Rattle.cordyceps_many.proofs.ValueAt.{in_value, held_value, value_held, value_joined, value_left, value_kept, spot_gone, distinct_left}

not_self : (r : Ordering) → r ≡ ordering_reverse r → is_gt r ≡ false
not_self Less e = absurd cc
not_self Equal e = refl
not_self Greater e = absurd cc

apart_from : (q p : Ptr) → q ≢ p → same_ptr q p ≡ false
apart_from q p n = split (same_ptr q p) (λ same. absurd (n (same_ptr_eq q p same))) (λ other. other)

apart_is : (q p : Ptr) → same_ptr q p ≡ false → q ≢ p
apart_is q p e is = let same : same_ptr q p ≡ true = subst (λ z. same_ptr q z ≡ true) is (same_ptr_refl q) in absurd cc

-- what is in a list without a spot is in the list
pub in_whole : (p q : Ptr) (s : List Ptr) → is_in q (without p s) ≡ true → is_in q s ≡ true
in_whole p q [] i = i
in_whole p q (r ∷ s) i = split (same_ptr p r)
    (λ same. in_more q r s (subst (λ (b : Bool). is_in q (if b then s else r ∷ without p s) ≡ true) same i))
    (λ other. let j : is_in q (r ∷ without p s) ≡ true = subst (λ (b : Bool). is_in q (if b then s else r ∷ without p s) ≡ true) other i in
    split (same_ptr q r) (λ here. in_here q r s here) (λ there. in_more q r s (in_whole p q s (sym (in_there q r (without p s) there) ∙ j))))

-- a list that has a spot once does not have it any more
gone_from : (p : Ptr) (s : List Ptr) → AreDistinct s → is_in p (without p s) ≡ false
gone_from p [] d = refl
gone_from p (r ∷ s) d = split (same_ptr p r)
    (λ same. ap (λ (b : Bool). is_in p (if b then s else r ∷ without p s)) same ∙ subst (λ z. is_in z s ≡ false) (sym (same_ptr_eq p r same)) (new_out r s d.0))
    (λ other. ap (λ (b : Bool). is_in p (if b then s else r ∷ without p s)) other ∙ in_there p r (without p s) other ∙ gone_from p s d.1)

module _ {X : Type 0} where
  -- where each value of a list is what it was, the list is in order as it was
  pub in_order_as : (cmp : X → X → Ordering) (c d : Nodes X) (s : List Ptr) → ((q : Ptr) (y : X) → is_in q s ≡ true → HoldsAt d q y → HoldsAt c q y) → IsInOrder cmp c s → IsInOrder cmp d s
  in_order_as cmp c d [] same w = tt
  in_order_as cmp c d (p ∷ []) same w = tt
  in_order_as cmp c d (p ∷ q ∷ s) same w =
      ((λ x y hx hy. w.0 x y (same p x (in_self p (q ∷ s)) hx) (same q y (in_more q p (q ∷ s) (in_self q s)) hy)), in_order_as cmp c d (q ∷ s) (λ r y i. same r y (in_more r p (q ∷ s) i)) w.1)

module _ {X : Type 0} {cmp : X → X → Ordering} where
  module _ (o : IsPreorder cmp) (c : Nodes X) (distinct : AreDistinct (spots c)) where
    a_value : (s : List Ptr) → ((q : Ptr) → is_in q s ≡ true → HasSpot c q) → (q : Ptr) → is_in q s ≡ true → (y : X) × HoldsAt c q y
    a_value s inside q i = let v = in_value c q (has_in c q (inside q i)) in (v.0, value_held c q v.0 v.1)

    skipped : (x y : Ptr) (s : List Ptr) → ((q : Ptr) → is_in q (x ∷ y ∷ s) ≡ true → HasSpot c q) → IsInOrder cmp c (x ∷ y ∷ s) → IsInOrder cmp c (x ∷ s)
    skipped x y [] inside w = tt
    skipped x y (z ∷ s) inside w =
        ((λ a b hx hz. let (v, hy) = a_value (x ∷ y ∷ z ∷ s) inside y (in_more y x (y ∷ z ∷ s) (in_self y (z ∷ s))) in o.trans a v b (w.0 a v hx hy) (w.1.0 v b hy hz)), w.1.1)

    rest_of : (x : Ptr) (s : List Ptr) → IsInOrder cmp c (x ∷ s) → IsInOrder cmp c s
    rest_of x [] w = tt
    rest_of x (y ∷ s) w = w.1

    rest_without : (p x : Ptr) (s : List Ptr) → ((q : Ptr) → is_in q (x ∷ s) ≡ true → HasSpot c q) → IsInOrder cmp c (x ∷ s) → IsInOrder cmp c (x ∷ without p s)
    rest_without p x [] inside w = tt
    rest_without p x (y ∷ s) inside w = split (same_ptr p y)
        (λ same. subst (λ (b : Bool). IsInOrder cmp c (x ∷ (if b then s else y ∷ without p s))) (sym same) (skipped x y s inside w))
        (λ other. subst (λ (b : Bool). IsInOrder cmp c (x ∷ (if b then s else y ∷ without p s))) (sym other) (w.0, rest_without p y s (λ q i. inside q (in_more q x (y ∷ s) i)) w.1))

    -- a list in order is in order without a node
    pub in_order_without : (p : Ptr) (s : List Ptr) → ((q : Ptr) → is_in q s ≡ true → HasSpot c q) → IsInOrder cmp c s → IsInOrder cmp c (without p s)
    in_order_without p [] inside w = tt
    in_order_without p (x ∷ s) inside w = split (same_ptr p x)
        (λ same. subst (λ (b : Bool). IsInOrder cmp c (if b then s else x ∷ without p s)) (sym same) (rest_of x s w))
        (λ other. subst (λ (b : Bool). IsInOrder cmp c (if b then s else x ∷ without p s)) (sym other) (rest_without p x s inside w))

    at_most_itself : (p : Ptr) → IsAtMostAt cmp c p p
    at_most_itself p x y hx hy =
        let e : Some x ≡ Some y = sym (held_value c p x distinct hx) ∙ held_value c p y distinct hy in let same : x ≡ y = cc in
        subst (λ z. is_gt (cmp x z) ≡ false) same (not_self (cmp x x) (o.turns x x))

    -- the first of a list in order is at most every node of it
    pub first_at_most : (s : List Ptr) → ((q : Ptr) → is_in q s ≡ true → HasSpot c q) → IsInOrder cmp c s → (p : Ptr) → IsFirstOf s p → (q : Ptr) → is_in q s ≡ true → IsAtMostAt cmp c p q
    first_at_most s inside w p (t, is) q i = down p t (λ r j. inside r (subst (λ z. is_in r z ≡ true) (sym is) j)) (subst (IsInOrder cmp c) is w) q (subst (λ z. is_in q z ≡ true) is i) where
      down : (p : Ptr) (t : List Ptr) → ((q : Ptr) → is_in q (p ∷ t) ≡ true → HasSpot c q) → IsInOrder cmp c (p ∷ t) → (q : Ptr) → is_in q (p ∷ t) ≡ true → IsAtMostAt cmp c p q
      down p [] inside w q i = split (same_ptr q p)
          (λ same. subst (λ z. IsAtMostAt cmp c p z) (sym (same_ptr_eq q p same)) (at_most_itself p))
          (λ other. absurd (let none = sym (in_there q p [] other) ∙ i in cc))
      down p (x ∷ t) inside w q i = split (same_ptr q p)
          (λ same. subst (λ z. IsAtMostAt cmp c p z) (sym (same_ptr_eq q p same)) (at_most_itself p))
          (λ other. λ a b hp hq.
          let (v, hx) = a_value (p ∷ x ∷ t) inside x (in_more x p (x ∷ t) (in_self x t)) in
          o.trans a v b (w.0 a v hp hx) (down x t (λ r j. inside r (in_more r p (x ∷ t) j)) w.1 q (sym (in_there q p (x ∷ t) other) ∙ i) v b hx hq))

  -- ---- an index
  pub index_none : IsIndex cmp [] []
  index_none = record { all = λ p h. absurd (let i = has_in {X = X} [] p h in cc); in_order = tt }

  -- a node came in, and is not in the list
  pub index_came : (c : Nodes X) (p : Ptr) (e : Element X) (s : List Ptr) → AreDistinct (spots (c ++ (p, e) ∷ [])) → is_in p s ≡ false → IsIndex cmp c s → IsIndexBut cmp (c ++ (p, e) ∷ []) p s
  index_came c p e s d out w = record {
    others = λ q h n. w.all q (in_has c q (was q (apart_from q p n) (has_in (c ++ (p, e) ∷ []) q h)));
    out = out;
    in_order = in_order_as cmp c (c ++ (p, e) ∷ []) s (λ q y i h. value_held c q y (sym (value_joined c p e q (differ q p s i out)) ∙ held_value (c ++ (p, e) ∷ []) q y d h)) w.in_order;
  } where
    was : (q : Ptr) → same_ptr q p ≡ false → is_in q (spots (c ++ (p, e) ∷ [])) ≡ true → is_in q (spots c) ≡ true
    was q other i = split (is_in q (spots c)) (λ on. on) (λ off.
        let none = sym (in_append q (spots c) (p ∷ []) ∙ ap (λ (b : Bool). if b then true else is_in q (p ∷ [])) off ∙ in_there q p [] other) ∙ sym (ap (is_in q) (spots_joined c ((p, e) ∷ []))) ∙ i in absurd cc)

  -- it was linked where the order puts it
  pub index_linked : (by : (X → X → Ordering) → Type 0) (c : Nodes X) (p : Ptr) (s t : List Ptr) → IsPreorder cmp → by cmp → IsPutInOrder by c p s t → IsIndexBut cmp c p s → IsIndex cmp c t
  index_linked by c p s t o b u w = record {
    all = λ q h. subst (λ z. is_in q z ≡ true) (sym u.is) (split (same_ptr q p)
        (λ same. subst (λ z. is_in z (u.front ++ p ∷ u.back) ≡ true) (sym (same_ptr_eq q p same)) (mid u.front))
        (λ other. other_mid q p u.front u.back other ∙ sym (ap (is_in q) u.was) ∙ w.others q h (apart_is q p other)));
    in_order = put_in_order cmp c o p by s t u b w.in_order;
  } where
    mid : (l : List Ptr) → is_in p (l ++ p ∷ u.back) ≡ true
    mid [] = in_self p u.back
    mid (x ∷ l) = in_more p x (l ++ p ∷ u.back) (mid l)

  -- a node was unlinked
  pub index_unlinked : (c : Nodes X) (p : Ptr) (s : List Ptr) → IsPreorder cmp → AreDistinct (spots c) → AreDistinct s → ((q : Ptr) → is_in q s ≡ true → HasSpot c q) → IsIndex cmp c s → IsIndexBut cmp c p (without p s)
  index_unlinked c p s o d once inside w = record {
    others = λ q h n. without_other p q s (other_way q p (apart_from q p n)) ∙ w.all q h;
    out = gone_from p s once;
    in_order = in_order_without o c d p s inside w.in_order;
  }

  -- its value was written
  pub index_written : (c : Nodes X) (p : Ptr) (v : X) (s : List Ptr) → AreDistinct (spots c) → IsIndexBut cmp c p s → IsIndexBut cmp (with_item c (index_of p (spots c)) v) p s
  index_written c p v s d w = record {
    others = λ q h n. w.others q (in_has c q (sym (ap (is_in q) same) ∙ has_in (with_item c (index_of p (spots c)) v) q h)) n;
    out = w.out;
    in_order = in_order_as cmp c (with_item c (index_of p (spots c)) v) s (λ q y i h.
        value_held c q y (sym (value_kept c p v q (differ q p s i w.out)) ∙ held_value (with_item c (index_of p (spots c)) v) q y (subst AreDistinct (sym same) d) h)) w.in_order;
  } where
    same : spots (with_item c (index_of p (spots c)) v) ≡ spots c
    same = spots-with_item c (index_of p (spots c)) v

  -- a node was removed
  pub index_removed : (c d : Nodes X) (p : Ptr) (e : Element X) (s : List Ptr) → IsPreorder cmp → AreDistinct (spots c) → AreDistinct s → ((q : Ptr) → is_in q s ≡ true → HasSpot c q) → IsTaken c p e d → IsIndex cmp c s → IsIndex cmp d (without p s)
  index_removed c d p e s o dc once inside (b, a, was, left) w = record {
    all = λ q h. let i : is_in q (spots (b ++ a)) ≡ true = sym (ap (λ z. is_in q (spots z)) left) ∙ has_in d q h in let n = apart q i in
        without_other p q s (other_way q p n) ∙ w.all q (in_has c q (ap (λ z. is_in q (spots z)) was ∙ ap (is_in q) (spots_joined b ((p, e) ∷ a)) ∙ other_mid q p (spots b) (spots a) n ∙ sym (ap (is_in q) (spots_joined b a)) ∙ i));
    in_order = in_order_as cmp c d (without p s) (λ q y i h.
        let n = differ q p (without p s) i (gone_from p s once) in let left_at = ap (λ z. value_at z q) (sym left) in
        value_held c q y (ap (λ z. value_at z q) was ∙ sym (value_left b a p e q n) ∙ left_at ∙ held_value d q y (subst (λ z. AreDistinct (spots z)) (sym left) (distinct_left b a p e whole)) h)) (in_order_without o c dc p s inside w.in_order);
  } where
    whole : AreDistinct (spots (b ++ (p, e) ∷ a))
    whole = subst (λ z. AreDistinct (spots z)) was dc

    apart : (q : Ptr) → is_in q (spots (b ++ a)) ≡ true → same_ptr q p ≡ false
    apart q i = differ q p (spots (b ++ a)) i (spot_gone b a p e whole)

  -- the first of an index is at most every node
  pub index_first : (c : Nodes X) (s : List Ptr) (p : Ptr) → IsPreorder cmp → AreDistinct (spots c) → ((q : Ptr) → is_in q s ≡ true → HasSpot c q) → IsFirstOf s p → IsIndex cmp c s → (q : Ptr) → HasSpot c q → IsAtMostAt cmp c p q
  index_first c s p o d inside f w q h = first_at_most o c d s inside w.in_order p f q (w.all q h)

  -- where an index has no node, there is none
  pub index_empty : (c : Nodes X) (s : List Ptr) → s ≡ [] → IsIndex cmp c s → (q : Ptr) → HasSpot c q → ⊥
  index_empty c s e w q h = let none = sym (ap (is_in q) e) ∙ w.all q h in absurd cc
