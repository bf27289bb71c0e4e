-- Where a walk from the back of a list puts a node.
use Rattle.std.proofs.Common.{append_assoc, ◌≡◌, ℕ, suc, ◌<◌, Bool, true, false, if◌then◌else◌, List, [], ◌∷◌, ◌++◌, length, length-append, Option, Some, None, MatchOption, refl, sym, ap, ◌∙◌, subst, arith}
use Rattle.std.proofs.lemmas.List.{append-nil}
use Rattle.std.specs.declared.cmp.Ordering.{Ordering}
use Rattle.std.specs.declared.cmp.Ordering.TheVariants.{Less, Equal, Greater}
use Rattle.std.specs.Ordering.{is_gt, ordering_reverse}
use denote.RawPtr.{Ptr}
use Rattle.cordyceps_base.specs.BySpot.{HoldsAt}
use Rattle.cordyceps_base.specs.Nodes.{Nodes, spots}
use Rattle.cordyceps_base.specs.Spots.{same_ptr, AreDistinct}
use Rattle.cordyceps_base.proofs.SpotsMemory.{same_ptr_eq, same_ptr_refl}
use Rattle.cordyceps_single.specs.Preorder.{IsPreorder}
use Rattle.cordyceps_many.specs.InOrder.{IsGreaterAt, IsAtMostAt, IsInOrder, IsPutInOrder, AreGreaterAfter}
use Rattle.cordyceps_many.specs.MultiList.{IsFirstOf, IsLastOf, AreNextIn}
use Rattle.cordyceps_many.specs.Threads.{is_in, with_after}
use Rattle.cordyceps_many.proofs.Between.{after_at}
use Rattle.cordyceps_many.proofs.Entered.{clear_front, value_here}
use Rattle.cordyceps_many.proofs.Members.{in_self, last_in}
use Rattle.cordyceps_many.proofs.Threads.{split, in_there, in_append, not_in}

-- the part of a list before the first p
abbrev up_to : Ptr → List Ptr → List Ptr
up_to p [] = []
up_to p (x ∷ s) = if same_ptr p x then [] else x ∷ up_to p s

up_to_mid : (p : Ptr) (l t : List Ptr) → is_in p l ≡ false → up_to p (l ++ p ∷ t) ≡ l
up_to_mid p [] t e = ap (λ (b : Bool). if b then [] else p ∷ up_to p t) (same_ptr_refl p)
up_to_mid p (x ∷ l) t e = let n = not_in p x l e in ap (λ (b : Bool). if b then [] else x ∷ up_to p (l ++ p ∷ t)) n.0 ∙ ap (λ m. x ∷ m) (up_to_mid p l t n.1)

up_to_here : (s : List Ptr) (p : Ptr) (l t : List Ptr) → s ≡ l ++ p ∷ t → AreDistinct s → up_to p s ≡ l
up_to_here s p l t e d = ap (up_to p) e ∙ up_to_mid p l t (clear_front l p t (subst AreDistinct e d))

-- how many nodes a walk back from a spot comes to
abbrev pub nodes_to : Option Ptr → List Ptr → ℕ
nodes_to None s = 0
nodes_to (Some p) s = suc (length (up_to p s))

pub nearer : (s : List Ptr) (p : Ptr) (o : Option Ptr) → AreDistinct s → MatchOption o (IsFirstOf s p) (λ q. AreNextIn s q p) → nodes_to o s < nodes_to (Some p) s
nearer s p None d h = omega arith
nearer s p (Some q) d n =
    let a : length (up_to q s) ≡ length n.before = ap length (up_to_here s q n.before (p ∷ n.after) n.whole d) in
    let b : length (up_to p s) ≡ length (n.before ++ q ∷ []) = ap length (up_to_here s p (n.before ++ q ∷ []) n.after (n.whole ∙ sym (append_assoc n.before (q ∷ []) (p ∷ n.after))) d) in
    let l = length-append n.before (q ∷ []) in
    omega (arith, a, b, l)

-- a list has one last spot
abbrev last_or : Ptr → List Ptr → Ptr
last_or d [] = d
last_or d (x ∷ s) = last_or x s

last_or_is : (d : Ptr) (l : List Ptr) (q : Ptr) → last_or d (l ++ q ∷ []) ≡ q
last_or_is d [] q = refl
last_or_is d (x ∷ l) q = last_or_is x l q

one_last : (s : List Ptr) (p q : Ptr) → IsLastOf s p → IsLastOf s q → p ≡ q
one_last s p q (l, e) (m, f) = sym (ap (last_or p) e ∙ last_or_is p l p) ∙ ap (last_or p) f ∙ last_or_is p m q

no_last : (s : List Ptr) (q : Ptr) → s ≡ [] → IsLastOf s q → ⊥
no_last s q e (l, f) = let a : length (l ++ q ∷ []) ≡ 0 = ap length (sym f ∙ e) in let b = length-append l (q ∷ []) in omega (arith, a, b)

module _ {X : Type 0} (c : Nodes X) (d : AreDistinct (spots c)) where
  one_value : (p : Ptr) (x y : X) → HoldsAt c p x → HoldsAt c p y → x ≡ y
  one_value p x y h k = let e : Some x ≡ Some y = sym (value_here c p x d h) ∙ value_here c p y d k in cc

  -- what a comparison of two values tells of their spots
  pub told : (cmp : X → X → Ordering) (q p : Ptr) (x v : X) (b : Bool) → HoldsAt c q x → HoldsAt c p v → is_gt (cmp x v) ≡ b → (y w : X) → HoldsAt c q y → HoldsAt c p w → is_gt (cmp y w) ≡ b
  told cmp q p x v b h k e y w hy kw = (λ i. is_gt (cmp (one_value q y x hy h i) (one_value p w v kw k i))) ∙ e

module _ {X : Type 0} (by : (X → X → Ordering) → Type 0) (c : Nodes X) (p : Ptr) (s : List Ptr) where
  pub walk_starts : (o : Option Ptr) → MatchOption o (s ≡ []) (λ q. IsLastOf s q) → AreGreaterAfter by c p s o
  walk_starts o e = record { front = s; back = []; whole = sym (append-nil s); end = e; high = λ cmp b q i. absurd cc }

  pub walk_in : (q : Ptr) → AreGreaterAfter by c p s (Some q) → is_in q s ≡ true
  walk_in q w = ap (is_in q) w.whole ∙ in_append q w.front w.back ∙ ap (λ (b : Bool). if b then true else is_in q w.back) (last_in w.front q w.end)

  module _ (once : AreDistinct s) (q : Ptr) (w : AreGreaterAfter by c p s (Some q)) where
    parted : s ≡ w.end.0 ++ q ∷ w.back
    parted = w.whole ∙ ap (λ z. z ++ w.back) w.end.1 ∙ append_assoc w.end.0 (q ∷ []) w.back

    before : up_to q s ≡ w.end.0
    before = up_to_here s q w.end.0 w.back parted once

    ended : (o : Option Ptr) → MatchOption o (IsFirstOf s q) (λ r. AreNextIn s r q) → MatchOption o (w.end.0 ≡ []) (λ r. IsLastOf w.end.0 r)
    ended None (after, f) = sym before ∙ up_to_here s q [] after f once
    ended (Some r) n = (n.before, sym before ∙ up_to_here s q (n.before ++ r ∷ []) n.after (n.whole ∙ sym (append_assoc n.before (r ∷ []) (q ∷ n.after))) once)

    pub walk_goes : (o : Option Ptr) → MatchOption o (IsFirstOf s q) (λ r. AreNextIn s r q) → ((cmp : X → X → Ordering) → by cmp → IsGreaterAt cmp c q p) → AreGreaterAfter by c p s o
    walk_goes o step up = record {
      front = w.end.0;
      back = q ∷ w.back;
      whole = parted;
      end = ended o step;
      high = λ cmp b r i. split (same_ptr r q) (λ same. subst (λ z. IsGreaterAt cmp c z p) (sym (same_ptr_eq r q same)) (up cmp b)) (λ other. w.high cmp b r (sym (in_there r q w.back other) ∙ i));
    }

    -- the node goes after that at q
    pub put_after : (t : List Ptr) → t ≡ with_after q p s → ((cmp : X → X → Ordering) → by cmp → IsAtMostAt cmp c q p) → IsPutInOrder by c p s t
    put_after t e low = record {
      front = w.front;
      back = w.back;
      was = w.whole;
      is = e ∙ ap (with_after q p) parted ∙ after_at q p w.end.0 w.back (clear_front w.end.0 q w.back (subst AreDistinct parted once))
          ∙ sym (ap (λ z. z ++ p ∷ w.back) w.end.1 ∙ append_assoc w.end.0 (q ∷ []) (p ∷ w.back));
      low = λ cmp b r last. subst (λ z. IsAtMostAt cmp c z p) (one_last w.front q r w.end last) (low cmp b);
      high = w.high;
    }

  -- the node goes first
  pub put_first : AreGreaterAfter by c p s None → (t : List Ptr) → t ≡ p ∷ s → IsPutInOrder by c p s t
  put_first w t e = record {
    front = w.front;
    back = w.back;
    was = w.whole;
    is = e ∙ ap (λ z. p ∷ z) (w.whole ∙ ap (λ z. z ++ w.back) w.end) ∙ sym (ap (λ z. z ++ p ∷ w.back) w.end);
    low = λ cmp b r last. absurd (no_last w.front r w.end last);
    high = w.high;
  }

-- ---- a list that was in order is in order
turned : (r : Ordering) → is_gt r ≡ true → is_gt (ordering_reverse r) ≡ false
turned Less e = absurd cc
turned Equal e = refl
turned Greater e = refl

module _ {X : Type 0} (cmp : X → X → Ordering) (c : Nodes X) where
  rest_in_order : (x : Ptr) (s : List Ptr) → IsInOrder cmp c (x ∷ s) → IsInOrder cmp c s
  rest_in_order x [] w = tt
  rest_in_order x (y ∷ s) w = w.1

  module _ (o : IsPreorder cmp) (p : Ptr) where
    first_in_order : (s : List Ptr) → ((q : Ptr) → is_in q s ≡ true → IsGreaterAt cmp c q p) → IsInOrder cmp c s → IsInOrder cmp c (p ∷ s)
    first_in_order [] up w = tt
    first_in_order (x ∷ s) up w = (λ v y at_p at_x. ap is_gt (o.turns v y) ∙ turned (cmp y v) (up x (in_self x s) y v at_x at_p), w)

    between_in_order : (front back : List Ptr) → ((q : Ptr) → IsLastOf front q → IsAtMostAt cmp c q p) → ((q : Ptr) → is_in q back ≡ true → IsGreaterAt cmp c q p) → IsInOrder cmp c (front ++ back) → IsInOrder cmp c (front ++ p ∷ back)
    between_in_order [] back low up w = first_in_order back up w
    between_in_order (x ∷ []) back low up w = (low x ([], refl), first_in_order back up (rest_in_order x back w))
    between_in_order (x ∷ y ∷ front) back low up w = (w.0, between_in_order (y ∷ front) back (λ q l. low q (x ∷ l.0, ap (λ z. x ∷ z) l.1)) up w.1)

    pub put_in_order : (by : (X → X → Ordering) → Type 0) (s t : List Ptr) → IsPutInOrder by c p s t → by cmp → IsInOrder cmp c s → IsInOrder cmp c t
    put_in_order by s t u b w = subst (IsInOrder cmp c) (sym u.is) (between_in_order u.front u.back (u.low cmp b) (u.high cmp b) (subst (IsInOrder cmp c) u.was w))
