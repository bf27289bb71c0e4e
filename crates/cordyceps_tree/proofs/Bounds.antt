-- Where an order leads among nodes in order.
use Rattle.std.proofs.Common.{◌≡◌, Bool, true, false, not, [], ◌∷◌, ◌++◌, Option, Some, None, refl, sym, ap, ◌∙◌, subst}
use Rattle.std.specs.declared.cmp.Ordering.{Ordering}
use Rattle.std.specs.declared.cmp.Ordering.TheVariants.{Less, Equal, Greater}
use Rattle.std.specs.List.{AllByRecursion}
use Rattle.std.specs.List.Sorted.{IsSortedBy}
use Rattle.std.specs.Ordering.{is_lt, is_gt, is_eq, ordering_reverse}
use Rattle.std.specs.Prelude.{IfSome}
use denote.RawPtr.{Ptr}
use Rattle.cordyceps_base.specs.BySpot.{HasSpot, HoldsAt}
use Rattle.cordyceps_base.specs.Element.{Element}
use Rattle.cordyceps_base.specs.Nodes.{Nodes, spots}
use Rattle.cordyceps_base.specs.Spots.{AreDistinct}
use Rattle.cordyceps_single.specs.Preorder.{IsPreorder}
use Rattle.cordyceps_single.proofs.Arrangement.{Ascends, ascends_after, ascends_from_sorted}
use Rattle.cordyceps_single.proofs.Preorder.{ranks, by_test}
use Rattle.cordyceps_stable.specs.Arranged.{precedes, AllGreater, LastNotGreater}
use Rattle.cordyceps_stable.proofs.Arranged.{all_high}
use Rattle.cordyceps_stable.proofs.Holding.{spot_is_at}
use Rattle.cordyceps_tree.proofs.Descending.{head_of, tail_of, same_place}
use Rattle.cordyceps_tree.specs.Bounds.{first_spot, PartsAt, IsFoundAt, LastSaid, FirstSaid, IsBoundWhere, SaysAfterEquals, SaysBeforeEquals}

not_lt : (o : Ordering) → true ≡ not (is_lt o) → is_lt o ≡ false
not_lt Less e = absurd cc
not_lt Equal e = refl
not_lt Greater e = refl

is_less : (o : Ordering) → false ≡ not (is_lt o) → is_lt o ≡ true
is_less Less e = refl
is_less Equal e = absurd cc
is_less Greater e = absurd cc

lt_turned : (o : Ordering) → is_gt (ordering_reverse o) ≡ is_lt o
lt_turned Less = refl
lt_turned Equal = refl
lt_turned Greater = refl

gt_turned : (o : Ordering) → is_lt (ordering_reverse o) ≡ is_gt o
gt_turned Less = refl
gt_turned Equal = refl
gt_turned Greater = refl

eq_turned : (o : Ordering) → is_eq (ordering_reverse o) ≡ is_eq o
eq_turned Less = refl
eq_turned Equal = refl
eq_turned Greater = refl

less_not_same : (o : Ordering) → is_lt o ≡ true → is_eq o ≡ false
less_not_same Less e = refl
less_not_same Equal e = absurd cc
less_not_same Greater e = refl

eq_not_gt : (o : Ordering) → is_eq o ≡ true → is_gt o ≡ false
eq_not_gt Less e = absurd cc
eq_not_gt Equal e = refl
eq_not_gt Greater e = absurd cc

three : (o : Ordering) → is_lt o ≡ false → is_eq o ≡ false → is_gt o ≡ true
three Less l e = absurd cc
three Equal l e = absurd cc
three Greater l e = refl

pub some_one : (p q : Ptr) → Some p ≡ Some q → p ≡ q
some_one p q e = cc

module _ {X : Type 0} where
  pub has_front : (c front back : Nodes X) (n : Ptr × Element X) → c ≡ front ++ n ∷ back → HasSpot c n.0
  has_front c front back n is = spot_is_at c n.0 n.1 (front, back, is)

  -- one value is at a spot
  pub held_one : (c : Nodes X) (p : Ptr) (x w : X) → AreDistinct (spots c) → HoldsAt c p x → HoldsAt c p w → x ≡ w
  held_one c p x w d (b, id, a, is) (f, number, z, has) =
      ap (λ (e : Element X). e.value) (same_place b a f z p (record { id = id; value = x }) (record { id = number; value = w }) (subst (λ l. AreDistinct (spots l)) is d) (sym is ∙ has)).here

  -- the bound of a guide is the spot of a node
  pub bound_has : (says : X → Bool → Type 0) (c : Nodes X) (o : Option Ptr) → IsBoundWhere says c o → IfSome o (λ p. HasSpot c p)
  bound_has says c o u = go o u.back u.was u.at where
    go : (o : Option Ptr) (back : Nodes X) → c ≡ u.front ++ back → o ≡ first_spot back → IfSome o (λ p. HasSpot c p)
    go None back is at = tt
    go (Some p) [] is at = absurd cc
    go (Some p) (n ∷ back) is at = let same : p ≡ n.0 = cc in subst (HasSpot c) (sym same) (has_front c u.front back n is)

  -- what a guide says, in other words
  last_as : (P Q : X → Bool → Type 0) → ((x : X) (b : Bool) → P x b → Q x b) → (c : Nodes X) → LastSaid P c → LastSaid Q c
  last_as P Q f [] h = tt
  last_as P Q f (n ∷ []) h = f n.1.value true h
  last_as P Q f (n ∷ m ∷ c) h = last_as P Q f (m ∷ c) h

  first_as : (P Q : X → Bool → Type 0) → ((x : X) (b : Bool) → P x b → Q x b) → (c : Nodes X) → FirstSaid P c → FirstSaid Q c
  first_as P Q f [] h = tt
  first_as P Q f (n ∷ c) h = f n.1.value false h

  module _ (by : (X → X → Ordering) → Type 0) (cmp : X → X → Ordering) (is : by cmp) (v : X) where
    pub equals_low : (front : Nodes X) → LastSaid (SaysAfterEquals by v) front → LastNotGreater cmp v front
    equals_low [] h = tt
    equals_low (n ∷ []) h = not_lt (cmp v n.1.value) (h cmp is)
    equals_low (n ∷ m ∷ c) h = equals_low (m ∷ c) h

    pub equals_high : (o : IsPreorder cmp) (front back : Nodes X) → FirstSaid (SaysAfterEquals by v) back → IsSortedBy (precedes cmp) (front ++ back) → AllGreater cmp v back
    equals_high o front [] h sorted = tt
    equals_high o front (n ∷ c) h sorted =
        all_high o v n.1.value (n ∷ c) refl (is_less (cmp v n.1.value) (h cmp is)) (Rattle.cordyceps_single.proofs.Arrangement.sorted_from_ascends (precedes cmp) (n ∷ c) (ascends_after (precedes cmp) front (n ∷ c) (ascends_from_sorted (precedes cmp) (ranks o (λ (m : Ptr × Element X). m.1.value)) (front ++ n ∷ c) sorted)))

  -- a test that passes whatever is not greater than a value that passes parts nodes in order in two
  module _ (cmp : X → X → Ordering) (o : IsPreorder cmp) (passes : X → Bool) (down : (x y : X) → is_gt (cmp x y) ≡ false → passes y ≡ true → passes x ≡ true) where
    up_to : (n m : Ptr × Element X) → precedes cmp m n ≡ false → is_gt (cmp n.1.value m.1.value) ≡ false
    up_to n m h = ap is_gt (o.turns n.1.value m.1.value) ∙ lt_turned (cmp m.1.value n.1.value) ∙ h

    all_front : (front back : Nodes X) → Ascends (precedes cmp) (front ++ back) → LastSaid (λ x b. b ≡ passes x) front → AllByRecursion (λ n. passes n.1.value ≡ true) front
    all_front [] back h l = tt
    all_front (n ∷ []) back h l = (sym l, tt)
    all_front (n ∷ m ∷ c) back h l =
        let rest = all_front (m ∷ c) back h.1 l in (down n.1.value m.1.value (up_to n m h.0.0) rest.0, rest)

    none_behind : (n : Ptr × Element X) (c : Nodes X) → passes n.1.value ≡ false → AllByRecursion (λ m. precedes cmp m n ≡ false) c → AllByRecursion (λ m. passes m.1.value ≡ false) c
    none_behind n [] fails h = tt
    none_behind n (m ∷ c) fails h = (by_test (passes m.1.value) (λ t. let yes = down n.1.value m.1.value (up_to n m h.0) t in absurd cc) (λ f. f), none_behind n c fails h.1)

    all_behind : (c : Nodes X) → Ascends (precedes cmp) c → FirstSaid (λ x b. b ≡ passes x) c → AllByRecursion (λ n. passes n.1.value ≡ false) c
    all_behind [] h l = tt
    all_behind (n ∷ c) h l = (sym l, none_behind n c (sym l) h.0)

    pub parts_at : (says : X → Bool → Type 0) → ((x : X) (b : Bool) → says x b → b ≡ passes x) → (c : Nodes X) (r : Option Ptr) → IsSortedBy (precedes cmp) c → IsBoundWhere says c r → PartsAt passes c r
    parts_at says f c r sorted u =
        let up = subst (Ascends (precedes cmp)) u.was (ascends_from_sorted (precedes cmp) (ranks o (λ (m : Ptr × Element X). m.1.value)) c sorted) in
        record {
          front = u.front;
          back = u.back;
          parts = u.was;
          before = all_front u.front u.back up (last_as says (λ x b. b ≡ passes x) f u.front u.between.low);
          after = all_behind u.back (ascends_after (precedes cmp) u.front u.back up) (first_as says (λ x b. b ≡ passes x) f u.back u.between.high);
          at = u.at;
        }

  module _ (by : (X → X → Ordering) → Type 0) (cmp : X → X → Ordering) (is : by cmp) (o : IsPreorder cmp) (v : X) (c : Nodes X) (r : Option Ptr) (sorted : IsSortedBy (precedes cmp) c) where
    -- what is not greater than one that is less than v is less than v
    less_down : (x y : X) → is_gt (cmp x y) ≡ false → is_lt (cmp y v) ≡ true → is_lt (cmp x v) ≡ true
    less_down x y low less = by_test (is_lt (cmp x v)) (λ t. t) (λ f.
        let back : is_gt (cmp v x) ≡ false = ap is_gt (o.turns v x) ∙ lt_turned (cmp x v) ∙ f in
        let far : is_gt (cmp v y) ≡ false = o.trans v x y back low in
        let no : is_gt (cmp v y) ≡ true = ap is_gt (o.turns v y) ∙ lt_turned (cmp y v) ∙ less in
        absurd cc)

    pub lower_parts : IsBoundWhere (SaysBeforeEquals by v) c r → PartsAt (λ x. is_lt (cmp x v)) c r
    lower_parts u = parts_at cmp o (λ x. is_lt (cmp x v)) less_down (SaysBeforeEquals by v) (λ x b h. h cmp is ∙ sym (ap is_lt (o.turns x v) ∙ gt_turned (cmp v x))) c r sorted u

    pub upper_parts : IsBoundWhere (SaysAfterEquals by v) c r → PartsAt (λ x. not (is_gt (cmp x v))) c r
    upper_parts u = parts_at cmp o (λ x. not (is_gt (cmp x v))) down (SaysAfterEquals by v) (λ x b h. h cmp is ∙ sym (ap not (ap is_gt (o.turns x v) ∙ lt_turned (cmp v x)))) c r sorted u where
      gives : (b : Bool) → not b ≡ true → b ≡ false
      gives true e = absurd cc
      gives false e = refl

      down : (x y : X) → is_gt (cmp x y) ≡ false → not (is_gt (cmp y v)) ≡ true → not (is_gt (cmp x v)) ≡ true
      down x y low pass = ap not (o.trans x y v low (gives (is_gt (cmp y v)) pass))

    not_same : (s : Nodes X) → AllByRecursion (λ n. is_lt (cmp n.1.value v) ≡ true) s → AllByRecursion (λ n. is_eq (cmp n.1.value v) ≡ false) s
    not_same [] h = tt
    not_same (n ∷ s) h = (less_not_same (cmp n.1.value v) h.0, not_same s h.1)

    -- an element at the bound that is equal, or not
    pub found_here : (p : Ptr) (w : X) → AreDistinct (spots c) → HoldsAt c p w → is_eq (cmp w v) ≡ true → PartsAt (λ x. is_lt (cmp x v)) c (Some p) → IsFoundAt (λ x. is_eq (cmp x v)) c p
    found_here p w d (b, id, a, is) same u = go u.back u.parts u.at where
      go : (back : Nodes X) → c ≡ u.front ++ back → Some p ≡ first_spot back → IsFoundAt (λ x. is_eq (cmp x v)) c p
      go [] e at = absurd cc
      go (n ∷ back) e at =
          let here : p ≡ n.0 = cc in
          let k = same_place b a u.front back p (record { id = id; value = w }) n.1 (subst (λ z. AreDistinct (spots z)) is d) (sym is ∙ e ∙ ap (λ z. u.front ++ (z, n.1) ∷ back) (sym here)) in
          record {
            front = u.front;
            element = n.1;
            back = back;
            parts = e ∙ ap (λ z. u.front ++ (z, n.1) ∷ back) (sym here);
            passing = subst (λ (x : Element X). is_eq (cmp x.value v) ≡ true) k.here same;
            before = not_same u.front u.before;
          }

    all_parts : (P : Ptr × Element X → Type 0) (s t : Nodes X) → AllByRecursion P s → AllByRecursion P t → AllByRecursion P (s ++ t)
    all_parts P [] t h k = k
    all_parts P (n ∷ s) t h k = (h.0, all_parts P s t h.1 k)

    more_not_same : (n : Ptr × Element X) (s : Nodes X) → is_eq (cmp n.1.value v) ≡ false → is_lt (cmp n.1.value v) ≡ false → AllByRecursion (λ m. precedes cmp m n ≡ false) s → AllByRecursion (λ m. is_eq (cmp m.1.value v) ≡ false) s
    more_not_same n [] e l h = tt
    more_not_same n (m ∷ s) e l h = (
      by_test (is_eq (cmp m.1.value v)) (λ t.
          let low : is_gt (cmp n.1.value m.1.value) ≡ false = ap is_gt (o.turns n.1.value m.1.value) ∙ lt_turned (cmp m.1.value n.1.value) ∙ h.0 in
          let far : is_gt (cmp n.1.value v) ≡ false = o.trans n.1.value m.1.value v low (eq_not_gt (cmp m.1.value v) t) in
          let no = three (cmp n.1.value v) l e in absurd cc) (λ f. f),
      more_not_same n s e l h.1,
    )

    pub none_found : (p : Ptr) (w : X) → AreDistinct (spots c) → HoldsAt c p w → is_eq (cmp w v) ≡ false → PartsAt (λ x. is_lt (cmp x v)) c (Some p) → AllByRecursion (λ n. is_eq (cmp n.1.value v) ≡ false) c
    none_found p w d (b, id, a, is) other u = go u.back u.parts u.after u.at where
      go : (back : Nodes X) → c ≡ u.front ++ back → AllByRecursion (λ n. is_lt (cmp n.1.value v) ≡ false) back → Some p ≡ first_spot back → AllByRecursion (λ n. is_eq (cmp n.1.value v) ≡ false) c
      go [] e after at = absurd cc
      go (n ∷ back) e after at =
          let here : p ≡ n.0 = cc in
          let k = same_place b a u.front back p (record { id = id; value = w }) n.1 (subst (λ z. AreDistinct (spots z)) is d) (sym is ∙ e ∙ ap (λ z. u.front ++ (z, n.1) ∷ back) (sym here)) in
          let first = subst (λ (x : Element X). is_eq (cmp x.value v) ≡ false) k.here other in
          let up = ascends_after (precedes cmp) u.front (n ∷ back) (subst (Ascends (precedes cmp)) e (ascends_from_sorted (precedes cmp) (ranks o (λ (m : Ptr × Element X). m.1.value)) c sorted)) in
          subst (AllByRecursion (λ m. is_eq (cmp m.1.value v) ≡ false)) (sym e)
          (all_parts (λ m. is_eq (cmp m.1.value v) ≡ false) u.front (n ∷ back) (not_same u.front u.before) (first, more_not_same n back first after.0 up.0))

    pub none_at_all : PartsAt (λ x. is_lt (cmp x v)) c None → AllByRecursion (λ n. is_eq (cmp n.1.value v) ≡ false) c
    none_at_all u = go u.back u.parts u.at where
      go : (back : Nodes X) → c ≡ u.front ++ back → None ≡ first_spot back → AllByRecursion (λ n. is_eq (cmp n.1.value v) ≡ false) c
      go [] e at = subst (AllByRecursion (λ m. is_eq (cmp m.1.value v) ≡ false)) (sym e) (all_parts (λ m. is_eq (cmp m.1.value v) ≡ false) u.front [] (not_same u.front u.before) tt)
      go (n ∷ back) e at = absurd cc

  -- ---- nodes that a test parts
  module _ (passes : X → Bool) where
    no_last : (n : Ptr × Element X) (x y : Nodes X) → LastSaid (λ v b. b ≡ passes v) (n ∷ x) → AllByRecursion (λ m. passes m.1.value ≡ false) ((n ∷ x) ++ y) → ⊥
    no_last n [] y l h = let no = l ∙ h.0 in absurd cc
    no_last n (m ∷ x) y l h = no_last m x y l h.1

    last_less : (n : Ptr × Element X) (x : Nodes X) → LastSaid (λ v b. b ≡ passes v) (n ∷ x) → LastSaid (λ v b. b ≡ passes v) x
    last_less n [] l = tt
    last_less n (m ∷ x) l = l

    parted_same : (x y a b : Nodes X) → x ++ y ≡ a ++ b → LastSaid (λ v b. b ≡ passes v) x → FirstSaid (λ v b. b ≡ passes v) y → AllByRecursion (λ n. passes n.1.value ≡ true) a → AllByRecursion (λ n. passes n.1.value ≡ false) b → y ≡ b
    parted_same [] y [] b e l f p q = e
    parted_same [] [] (n ∷ a) b e l f p q = absurd cc
    parted_same [] (m ∷ y) (n ∷ a) b e l f p q =
        let is : m ≡ n = ap (head_of n) e in let no : false ≡ true = f ∙ ap (λ (z : Ptr × Element X). passes z.1.value) is ∙ p.0 in absurd cc
    parted_same (n ∷ x) y [] b e l f p q = absurd (no_last n x y l (subst (AllByRecursion (λ m. passes m.1.value ≡ false)) (sym e) q))
    parted_same (n ∷ x) y (m ∷ a) b e l f p q = parted_same x y a b (ap tail_of e) (last_less n x l) f p.1 q

    pub point_is : (says : X → Bool → Type 0) → ((x : X) (b : Bool) → says x b → b ≡ passes x) → (c s front back : Nodes X) (r : Option Ptr) → c ≡ s → IsBoundWhere says c r → s ≡ front ++ back
        → AllByRecursion (λ n. passes n.1.value ≡ true) front → AllByRecursion (λ n. passes n.1.value ≡ false) back → r ≡ first_spot back
    point_is says f c s front back r view u parts p q =
        u.at ∙ ap first_spot (parted_same u.front u.back front back (sym u.was ∙ view ∙ parts) (last_as says (λ v b. b ≡ passes v) f u.front u.between.low) (first_as says (λ v b. b ≡ passes v) f u.back u.between.high) p q)
