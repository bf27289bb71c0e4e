-- Nodes in order of their keys, and where a key is among them.
use Rattle.std.proofs.Common.{◌≡◌, zero, suc, Bool, true, false, if◌then◌else◌, cond, List, [], ◌∷◌, ◌++◌, length, slice_get, Option, Some, None, MatchOption, is_some, refl, sym, ap, ◌∙◌, subst}
use Rattle.std.specs.Cmp.{IsTotalOrder}
use Rattle.std.specs.List.{AllByRecursion}
use Rattle.std.specs.Ordering.{is_gt, is_eq, ordering_reverse}
use Rattle.std.specs.declared.cmp.Ordering.{Ordering}
use Rattle.std.specs.declared.cmp.Ordering.TheVariants.{Less, Equal, Greater}
use denote.RawPtr.{Ptr}
use Rattle.cordyceps_base.specs.BySpot.{HasSpot, HoldsAt, IsTaken, IsFirst, IsLast}
use Rattle.cordyceps_base.specs.Element.{Element, values}
use Rattle.cordyceps_base.specs.Nodes.{Nodes, spots, elements, with_item}
use Rattle.cordyceps_base.specs.Spots.{index_of, AreDistinct}
use Rattle.cordyceps_base.proofs.SpotsMemory.{same_ptr_refl}
use Rattle.cordyceps_single.specs.ByKey.{by_key}
use Rattle.cordyceps_single.proofs.Arrangement.{all_append, all_front, all_back, all_weaker}
use Rattle.cordyceps_stable.proofs.Holding.{unique}
use Rattle.cordyceps_stable.proofs.Valid.{put_keeps, taken_keeps}
use Rattle.cordyceps_tree.specs.Bounds.{first_spot, LastSaid, FirstSaid, IsBoundWhere, SaysBeforeEquals, AnswersAt, IsPutApart, IsPutOver}
use Rattle.cordyceps_tree.specs.TreeMaps.{pairs, key_of, is_key, value_of, with_value_of, Rises, IsFound, IsRemoved, IsInserted}
use Rattle.cordyceps_tree.proofs.Bounds.{has_front}
use Rattle.cordyceps_tree.proofs.Walks.{differs}

as_equal : (r : Ordering) → is_eq r ≡ true → r ≡ Equal
as_equal Less e = absurd cc
as_equal Equal e = refl
as_equal Greater e = absurd cc

as_less : (r : Ordering) → is_eq r ≡ false → is_gt r ≡ false → r ≡ Less
as_less Less e g = refl
as_less Equal e g = absurd cc
as_less Greater e g = absurd cc

as_greater : (r : Ordering) → true ≡ is_gt r → r ≡ Greater
as_greater Less e = absurd cc
as_greater Equal e = absurd cc
as_greater Greater e = refl

module _ {K : Type 0} (cmp : K → K → Ordering) (t : IsTotalOrder cmp) where
  turned : (x y : K) (r : Ordering) → cmp x y ≡ r → cmp y x ≡ ordering_reverse r
  turned x y r e = t.antisymm y x ∙ ap ordering_reverse e

  pub itself : (x : K) → cmp x x ≡ Equal
  itself x = go (cmp x x) (t.antisymm x x) where
    go : (r : Ordering) → r ≡ ordering_reverse r → r ≡ Equal
    go Less e = absurd cc
    go Equal e = refl
    go Greater e = absurd cc

  not_below : (k x : K) → cmp x k ≡ Less → is_key cmp k x ≡ false
  not_below k x e = ap is_eq (turned x k Less e)

  not_above : (k x : K) → cmp k x ≡ Less → is_key cmp k x ≡ false
  not_above k x e = ap is_eq e

pub by_test : {P : Type 0} (b : Bool) → (b ≡ true → P) → (b ≡ false → P) → P
by_test true y n = y refl
by_test false y n = n refl

module _ {X : Type 0} where
  index_mid : (f b : Nodes X) (p : Ptr) (e : Element X) → AreDistinct (spots (f ++ (p, e) ∷ b)) → index_of p (spots (f ++ (p, e) ∷ b)) ≡ length f
  index_mid [] b p e d = ap (λ (z : Bool). if z then zero else suc (index_of p (spots b))) (same_ptr_refl p)
  index_mid (x ∷ f) b p e d = ap (λ (z : Bool). if z then zero else suc (index_of p (spots (f ++ (p, e) ∷ b)))) (differs x.0 p f b e d.0) ∙ ap suc (index_mid f b p e d.1)

  item_mid : (f b : Nodes X) (p : Ptr) (e : Element X) (w : X) → with_item (f ++ (p, e) ∷ b) (length f) w ≡ f ++ (p, record { id = e.id; value = w }) ∷ b
  item_mid [] b p e w = refl
  item_mid (x ∷ f) b p e w = ap (λ l. x ∷ l) (item_mid f b p e w)

  value_mid : (f b : Nodes X) (p : Ptr) (e : Element X) → slice_get (values (elements (f ++ (p, e) ∷ b))) (length f) ≡ Some e.value
  value_mid [] b p e = refl
  value_mid (x ∷ f) b p e = value_mid f b p e

module _ {K V : Type 0} where
  written_mid : (passes : K → Bool) (f b : Nodes (K × V)) (n : Ptr × Element (K × V)) (w : V) → AllByRecursion (λ m. passes (key_of m) ≡ false) f → passes (key_of n) ≡ true
      → with_value_of passes (f ++ n ∷ b) w ≡ f ++ (n.0, record { id = n.1.id; value = (n.1.value.0, w) }) ∷ b
  written_mid passes [] b n w h e = ap (λ (z : Bool). if z then (n.0, record { id = n.1.id; value = (n.1.value.0, w) }) ∷ b else n ∷ with_value_of passes b w) e
  written_mid passes (m ∷ f) b n w h e =
      ap (λ (z : Bool). if z then (m.0, record { id = m.1.id; value = (m.1.value.0, w) }) ∷ (f ++ n ∷ b) else m ∷ with_value_of passes (f ++ n ∷ b) w) h.0 ∙ ap (λ l. m ∷ l) (written_mid passes f b n w h.1 e)

  pub written_spots : (passes : K → Bool) (c : Nodes (K × V)) (w : V) → spots (with_value_of passes c w) ≡ spots c
  written_spots passes [] w = refl
  written_spots passes (n ∷ c) w = by_test (passes (key_of n))
      (λ y. ap (λ (z : Bool). spots (if z then (n.0, record { id = n.1.id; value = (n.1.value.0, w) }) ∷ c else n ∷ with_value_of passes c w)) y)
      (λ f. ap (λ (z : Bool). spots (if z then (n.0, record { id = n.1.id; value = (n.1.value.0, w) }) ∷ c else n ∷ with_value_of passes c w)) f ∙ ap (λ s. n.0 ∷ s) (written_spots passes c w))

  pub written_has : (passes : K → Bool) (c : Nodes (K × V)) (w : V) (q : Ptr) → HasSpot c q → HasSpot (with_value_of passes c w) q
  written_has passes c w q h = (h.0, ap (λ s. slice_get s h.0) (written_spots passes c w) ∙ h.1)

  pairs_both : (a b : Nodes (K × V)) → pairs (a ++ b) ≡ pairs a ++ pairs b
  pairs_both [] b = refl
  pairs_both (n ∷ a) b = ap (λ l. n.1.value ∷ l) (pairs_both a b)

  -- the ends
  pub first_pair : (c : Nodes (K × V)) (p : Ptr) (x : K × V) → AreDistinct (spots c) → IsFirst c p → HoldsAt c p x → (rest : List (K × V)) × (pairs c ≡ x ∷ rest)
  first_pair c p x d (e, a, is) (b, id, z, has) =
      let same = unique [] a b z p e (record { id = id; value = x }) (sym is ∙ has) (subst (λ z. AreDistinct (spots z)) is d) in
      (pairs a, ap pairs is ∙ ap (λ (m : Element (K × V)). m.value ∷ pairs a) same.1)

  pub last_pair : (c : Nodes (K × V)) (p : Ptr) (x : K × V) → AreDistinct (spots c) → IsLast c p → HoldsAt c p x → (rest : List (K × V)) × (pairs c ≡ rest ++ x ∷ [])
  last_pair c p x d (a, e, is) (b, id, z, has) =
      let same = unique a [] b z p e (record { id = id; value = x }) (sym is ∙ has) (subst (λ z. AreDistinct (spots z)) is d) in
      (pairs a, ap pairs is ∙ pairs_both a ((p, e) ∷ []) ∙ ap (λ (m : Element (K × V)). pairs a ++ m.value ∷ []) same.1)

module _ {K V : Type 0} (cmp : K → K → Ordering) (t : IsTotalOrder cmp) where
  -- all keys are below a key, and above one
  abbrev pub Below : K → Nodes (K × V) → Type 0
  Below k = AllByRecursion (λ n. cmp (key_of n) k ≡ Less)

  abbrev pub Above : K → Nodes (K × V) → Type 0
  Above k = AllByRecursion (λ n. cmp k (key_of n) ≡ Less)

  -- ---- parts
  above_both : (k : K) (a b : Nodes (K × V)) → Above k (a ++ b) → Above k a × Above k b
  above_both k a b h = (all_front (λ n. cmp k (key_of n) ≡ Less) a b h, all_back (λ n. cmp k (key_of n) ≡ Less) a b h)

  pub rises_back : (a b : Nodes (K × V)) → Rises cmp (a ++ b) → Rises cmp b
  rises_back [] b r = r
  rises_back (n ∷ a) b r = rises_back a b r.1

  pub rises_without : (a b : Nodes (K × V)) (n : Ptr × Element (K × V)) → Rises cmp (a ++ n ∷ b) → Rises cmp (a ++ b)
  rises_without [] b n r = r.1
  rises_without (m ∷ a) b n r =
      let (f, g) = above_both (key_of m) a (n ∷ b) r.0 in
      (all_append (λ z. cmp (key_of m) (key_of z) ≡ Less) a b f g.1, rises_without a b n r.1)

  -- a node between those below its key and those above it
  pub rises_put : (a b : Nodes (K × V)) (n : Ptr × Element (K × V)) → Below (key_of n) a → Above (key_of n) b → Rises cmp (a ++ b) → Rises cmp (a ++ n ∷ b)
  rises_put [] b n low high r = (high, r)
  rises_put (m ∷ a) b n low high r =
      let (f, g) = above_both (key_of m) a b r.0 in
      (all_append (λ z. cmp (key_of m) (key_of z) ≡ Less) a (n ∷ b) f (low.0, g), rises_put a b n low.1 high r.1)

  -- a node with an equal key
  pub rises_same : (a b : Nodes (K × V)) (n m : Ptr × Element (K × V)) → cmp (key_of n) (key_of m) ≡ Equal → Rises cmp (a ++ n ∷ b) → Rises cmp (a ++ m ∷ b)
  rises_same [] b n m e r = (all_weaker (λ z. cmp (key_of n) (key_of z) ≡ Less) (λ z. cmp (key_of m) (key_of z) ≡ Less) (λ z l. sym (t.congr (key_of n) (key_of m) (key_of z) e) ∙ l) b r.0, r.1)
  rises_same (x ∷ a) b n m e r =
      let (f, g) = above_both (key_of x) a (n ∷ b) r.0 in
      let high : cmp (key_of x) (key_of m) ≡ Less = t.antisymm (key_of x) (key_of m) ∙ ap ordering_reverse (sym (t.congr (key_of n) (key_of m) (key_of x) e) ∙ turned cmp t (key_of x) (key_of n) Less g.0) in
      (all_append (λ z. cmp (key_of x) (key_of z) ≡ Less) a (m ∷ b) f (high, g.1), rises_same a b n m e r.1)

  -- what is ahead of a node is below it
  pub front_below : (a b : Nodes (K × V)) (n : Ptr × Element (K × V)) → Rises cmp (a ++ n ∷ b) → Below (key_of n) a
  front_below [] b n r = tt
  front_below (m ∷ a) b n r = ((above_both (key_of m) a (n ∷ b) r.0).1.0, front_below a b n r.1)

  pub back_above : (a b : Nodes (K × V)) (n : Ptr × Element (K × V)) → Rises cmp (a ++ n ∷ b) → Above (key_of n) b
  back_above a b n r = (rises_back a (n ∷ b) r).0

  below_on : (k l : K) (a : Nodes (K × V)) → cmp k l ≡ Less → Below k a → Below l a
  below_on k l a e h = all_weaker (λ z. cmp (key_of z) k ≡ Less) (λ z. cmp (key_of z) l ≡ Less) (λ z f. t.trans (key_of z) k l f e) a h

  above_on : (k l : K) (a : Nodes (K × V)) → cmp k l ≡ Less → Above l a → Above k a
  above_on k l a e h = all_weaker (λ z. cmp l (key_of z) ≡ Less) (λ z. cmp k (key_of z) ≡ Less) (λ z f. t.trans k l (key_of z) e f) a h

  -- ---- a key that no node has
  skip : (k : K) (a c : Nodes (K × V)) → AllByRecursion (λ n. is_key cmp k (key_of n) ≡ false) a → value_of cmp k (a ++ c) ≡ value_of cmp k c
  skip k [] c h = refl
  skip k (n ∷ a) c h = ap (λ (b : Bool). cond b (Some n.1.value.1) (value_of cmp k (a ++ c))) h.0 ∙ skip k a c h.1

  none_here : (k : K) (a : Nodes (K × V)) → AllByRecursion (λ n. is_key cmp k (key_of n) ≡ false) a → value_of cmp k a ≡ None
  none_here k [] h = refl
  none_here k (n ∷ a) h = ap (λ (b : Bool). cond b (Some n.1.value.1) (value_of cmp k a)) h.0 ∙ none_here k a h.1

  below_not : (k : K) (a : Nodes (K × V)) → Below k a → AllByRecursion (λ n. is_key cmp k (key_of n) ≡ false) a
  below_not k a h = all_weaker (λ z. cmp (key_of z) k ≡ Less) (λ z. is_key cmp k (key_of z) ≡ false) (λ z e. not_below cmp t k (key_of z) e) a h

  above_not : (k : K) (a : Nodes (K × V)) → Above k a → AllByRecursion (λ n. is_key cmp k (key_of n) ≡ false) a
  above_not k a h = all_weaker (λ z. cmp k (key_of z) ≡ Less) (λ z. is_key cmp k (key_of z) ≡ false) (λ z e. not_above cmp t k (key_of z) e) a h

  pub none_between : (k : K) (a b : Nodes (K × V)) → Below k a → Above k b → value_of cmp k (a ++ b) ≡ None
  none_between k a b low high = skip k a b (below_not k a low) ∙ none_here k b (above_not k b high)

  none_equal : (k : K) (c : Nodes (K × V)) → value_of cmp k c ≡ None → AllByRecursion (λ n. is_key cmp k (key_of n) ≡ false) c
  none_equal k [] e = tt
  none_equal k (n ∷ c) e = by_test (is_key cmp k (key_of n))
      (λ y. let no = sym (ap (λ (b : Bool). cond b (Some n.1.value.1) (value_of cmp k c)) y) ∙ e in absurd cc)
      (λ f. (f, none_equal k c (sym (ap (λ (b : Bool). cond b (Some n.1.value.1) (value_of cmp k c)) f) ∙ e)))

  -- ---- a key that a node has
  module _ (c : Nodes (K × V)) (k : K) (p : Ptr) (r : Rises cmp c) (f : IsFound cmp c k p) where
    abbrev n : Ptr × Element (K × V)
    n = (p, f.element)

    same : cmp k (key_of n) ≡ Equal
    same = as_equal (cmp k (key_of n)) f.equal

    whole : Rises cmp (f.front ++ n ∷ f.back)
    whole = subst (Rises cmp) f.parts r

    pub found_low : Below k f.front
    found_low = all_weaker (λ z. cmp (key_of z) (key_of n) ≡ Less) (λ z. cmp (key_of z) k ≡ Less) (λ z e. turned cmp t k (key_of z) Greater (t.congr k (key_of n) (key_of z) same ∙ turned cmp t (key_of z) (key_of n) Less e)) f.front (front_below f.front f.back n whole)

    pub found_high : Above k f.back
    found_high = all_weaker (λ z. cmp (key_of n) (key_of z) ≡ Less) (λ z. cmp k (key_of z) ≡ Less) (λ z e. t.congr k (key_of n) (key_of z) same ∙ e) f.back (back_above f.front f.back n whole)

    pub found_value : value_of cmp k c ≡ Some f.element.value.1
    found_value = ap (value_of cmp k) f.parts ∙ skip k f.front (n ∷ f.back) (below_not k f.front found_low) ∙ ap (λ (b : Bool). cond b (Some f.element.value.1) (value_of cmp k f.back)) f.equal

    pub found_has : HasSpot c p
    found_has = has_front c f.front f.back n f.parts

    pub found_held : AreDistinct (spots c) → (x : K × V) → HoldsAt c p x → f.element.value ≡ x
    found_held d x (b, id, a, is) = ap (λ (e : Element (K × V)). e.value) (unique f.front f.back b a p f.element (record { id = id; value = x }) (sym f.parts ∙ is) (subst (λ z. AreDistinct (spots z)) f.parts d)).1

  -- ---- the first node whose key is not less than k
  pub record Bound (c : Nodes (K × V)) (k : K) (o : Option Ptr) : Type 0 where
    pub front : Nodes (K × V)
    pub back : Nodes (K × V)
    pub was : c ≡ front ++ back
    pub at : o ≡ first_spot back
    pub low : Below k front
    pub high : FirstSaid (λ x b. b ≡ is_gt (cmp k x.0)) back
    pub rises : Rises cmp back

  low_from : (k : K) (a b : Nodes (K × V)) → LastSaid (λ x b. b ≡ is_gt (cmp k x.0)) a → Rises cmp (a ++ b) → Below k a
  low_from k [] b l r = tt
  low_from k (n ∷ []) b l r = (turned cmp t k (key_of n) Greater (as_greater (cmp k (key_of n)) l), tt)
  low_from k (n ∷ m ∷ a) b l r =
      let rest = low_from k (m ∷ a) b l r.1 in (t.trans (key_of n) (key_of m) k r.0.0 rest.0, rest)

  pub bound : (c : Nodes (K × V)) (k : K) (o : Option Ptr) → Rises cmp c → IsBoundWhere (λ (x : K × V) b. b ≡ is_gt (cmp k x.0)) c o → Bound c k o
  bound c k o r u =
      let whole = subst (Rises cmp) u.was r in
      record { front = u.front; back = u.back; was = u.was; at = u.at; low = low_from k u.front u.back u.between.low whole; high = u.between.high; rises = rises_back u.front u.back whole }

  module _ (c : Nodes (K × V)) (k : K) (r : Rises cmp c) where
    pub bound_none : IsBoundWhere (λ (x : K × V) b. b ≡ is_gt (cmp k x.0)) c None → value_of cmp k c ≡ None
    bound_none u = go w.back w.was w.at where
      w : Bound c k None
      w = bound c k None r u

      go : (b : Nodes (K × V)) → c ≡ w.front ++ b → None ≡ first_spot b → value_of cmp k c ≡ None
      go [] is at = ap (value_of cmp k) is ∙ none_between k w.front [] w.low tt
      go (n ∷ b) is at = absurd cc

    pub bound_found : (p : Ptr) (x : K × V) → AreDistinct (spots c) → HoldsAt c p x → IsBoundWhere (λ (x : K × V) b. b ≡ is_gt (cmp k x.0)) c (Some p) → is_key cmp k x.0 ≡ true → IsFound cmp c k p
    bound_found p x d (b, id, a, is) u e = record { front = b; element = record { id = id; value = x }; back = a; parts = is; equal = e }

    pub bound_missed : (p : Ptr) (x : K × V) → AreDistinct (spots c) → HoldsAt c p x → IsBoundWhere (λ (x : K × V) b. b ≡ is_gt (cmp k x.0)) c (Some p) → is_key cmp k x.0 ≡ false → value_of cmp k c ≡ None
    bound_missed p x d (b, id, a, is) u e = go w.back w.was w.at w.high w.rises where
      w : Bound c k (Some p)
      w = bound c k (Some p) r u

      go : (s : Nodes (K × V)) → c ≡ w.front ++ s → Some p ≡ first_spot s → FirstSaid (λ x b. b ≡ is_gt (cmp k x.0)) s → Rises cmp s → value_of cmp k c ≡ None
      go [] parts at high up = absurd cc
      go (n ∷ s) parts at high up =
          let here : p ≡ n.0 = cc in
          let same = unique b a w.front s p (record { id = id; value = x }) n.1 (sym is ∙ parts ∙ ap (λ z. w.front ++ (z, n.1) ∷ s) (sym here)) (subst (λ z. AreDistinct (spots z)) is d) in
          let other : is_key cmp k (key_of n) ≡ false = subst (λ (z : Element (K × V)). is_key cmp k z.value.0 ≡ false) same.1 e in
          let first = as_less (cmp k (key_of n)) other (sym high) in
          ap (value_of cmp k) parts ∙ none_between k w.front (n ∷ s) w.low (first, above_on k (key_of n) s first up.0)

  -- ---- a node comes in
  abbrev By : (K × V → K × V → Ordering) → Type 0
  By f = f ≡ by_key cmp (λ x. x.0)

  last_plain : (v : K × V) (a : Nodes (K × V)) → LastSaid (SaysBeforeEquals By v) a → LastSaid (λ x b. b ≡ is_gt (cmp v.0 x.0)) a
  last_plain v [] l = tt
  last_plain v (n ∷ []) l = l (by_key cmp (λ x. x.0)) refl
  last_plain v (n ∷ m ∷ a) l = last_plain v (m ∷ a) l

  first_plain : (v : K × V) (a : Nodes (K × V)) → FirstSaid (SaysBeforeEquals By v) a → FirstSaid (λ x b. b ≡ is_gt (cmp v.0 x.0)) a
  first_plain v [] l = tt
  first_plain v (n ∷ a) l = l (by_key cmp (λ x. x.0)) refl

  none_apart : (c : Nodes (K × V)) (v : K × V) (o : Option Ptr) → Rises cmp c → IsBoundWhere (SaysBeforeEquals By v) c o → ((q : Ptr) → o ≡ Some q → AnswersAt By v c q false) → value_of cmp v.0 c ≡ None
  none_apart c v o r u differs = go w.back w.was w.at w.high w.rises where
    w : Bound c v.0 o
    w = bound c v.0 o r (record { front = u.front; back = u.back; was = u.was; at = u.at; between = record { low = last_plain v u.front u.between.low; high = first_plain v u.back u.between.high } })

    go : (s : Nodes (K × V)) → c ≡ w.front ++ s → o ≡ first_spot s → FirstSaid (λ x b. b ≡ is_gt (cmp v.0 x.0)) s → Rises cmp s → value_of cmp v.0 c ≡ None
    go [] parts at high up = ap (value_of cmp v.0) parts ∙ none_between v.0 w.front [] w.low tt
    go (n ∷ s) parts at high up =
        let other : is_key cmp v.0 (key_of n) ≡ false = differs n.0 at n.1.value (by_key cmp (λ x. x.0)) refl (w.front, n.1.id, s, parts) in
        let first = as_less (cmp v.0 (key_of n)) other (sym high) in
        ap (value_of cmp v.0) parts ∙ none_between v.0 w.front (n ∷ s) w.low (first, above_on v.0 (key_of n) s first up.0)

  high_of : (k : K) (a b : Nodes (K × V)) → FirstSaid (λ x b. b ≡ is_gt (cmp k x.0)) b → AllByRecursion (λ n. is_key cmp k (key_of n) ≡ false) b → Rises cmp (a ++ b) → Above k b
  high_of k a [] f e r = tt
  high_of k a (n ∷ b) f e r = let first = as_less (cmp k (key_of n)) e.0 (sym f) in (first, above_on k (key_of n) b first (rises_back a (n ∷ b) r).0)

  pub apart_rises : (c d : Nodes (K × V)) (p : Ptr) (e : Element (K × V)) → Rises cmp c → IsPutApart By c p e d → Rises cmp d
  apart_rises c d p e r w =
      let k = e.value.0 in let u = w.put in let whole = subst (Rises cmp) u.was r in
      let apart = none_equal k (u.front ++ u.back) (ap (value_of cmp k) (sym u.was) ∙ none_apart c e.value w.next r w.bound w.differs) in
      let low = low_from k u.front u.back (last_plain e.value u.front u.between.low) whole in
      let high = high_of k u.front u.back (first_plain e.value u.back u.between.high) (all_back (λ n. is_key cmp k (key_of n) ≡ false) u.front u.back apart) whole in
      subst (Rises cmp) (sym u.is) (rises_put u.front u.back (p, e) low high whole)

  pub apart_inserted : (c s d : Nodes (K × V)) (p : Ptr) (e : Element (K × V)) → c ≡ s → Rises cmp c → IsPutApart By c p e d → IsInserted cmp s e p None d
  apart_inserted c s d p e view r w =
      let u = w.put in
      record {
        rest = s;
        replaced = (ap (value_of cmp e.value.0) (sym view) ∙ none_apart c e.value w.next r w.bound w.differs, refl);
        added = (u.front, u.back, u.is, sym view ∙ u.was);
        rises = apart_rises c d p e r w;
      }

  equal_over : (c d : Nodes (K × V)) (p : Ptr) (o e : Element (K × V)) → IsPutOver By c p o e d → is_key cmp e.value.0 o.value.0 ≡ true
  equal_over c d p o e w = let (a, b, was, is) = w.replaced in w.equal o.value (by_key cmp (λ x. x.0)) refl (a, o.id, b, was)

  pub over_rises : (c d : Nodes (K × V)) (p : Ptr) (o e : Element (K × V)) → Rises cmp c → IsPutOver By c p o e d → Rises cmp d
  over_rises c d p o e r w =
      let (a, b, was, is) = w.replaced in
      subst (Rises cmp) (sym is) (rises_same a b (w.spot, o) (p, e) (turned cmp t e.value.0 o.value.0 Equal (as_equal (cmp e.value.0 o.value.0) (equal_over c d p o e w))) (subst (Rises cmp) was r))

  pub over_inserted : (c s d : Nodes (K × V)) (p : Ptr) (o e : Element (K × V)) → c ≡ s → Rises cmp c → IsPutOver By c p o e d → IsInserted cmp s e p (Some o) d
  over_inserted c s d p o e view r w =
      let (a, b, was, is) = w.replaced in let here = sym view ∙ was in
      record {
        rest = a ++ b;
        replaced = record { spot = w.spot; found = record { front = a; element = o; back = b; parts = here; equal = equal_over c d p o e w }; taken = (a, b, here, refl) };
        added = (a, b, is, refl);
        rises = over_rises c d p o e r w;
      }

  -- either of these
  pub either_rises : {A : Type 0} (Q : A → Element (K × V) → Type 0) (c d : Nodes (K × V)) (p : Ptr) (e : Element (K × V)) (left : Option A) → Rises cmp c → MatchOption left (IsPutApart By c p e d) (λ x. (o : Element (K × V)) × IsPutOver By c p o e d × Q x o) → Rises cmp d
  either_rises Q c d p e None r m = apart_rises c d p e r m
  either_rises Q c d p e (Some x) r (o, over, q) = over_rises c d p o e r over

  -- the key of a node that was taken out is gone
  pub taken_gone : (c d : Nodes (K × V)) (p : Ptr) (e : Element (K × V)) → Rises cmp c → IsTaken c p e d → value_of cmp e.value.0 d ≡ None
  taken_gone c d p e r (a, b, was, is) =
      let whole = subst (Rises cmp) was r in
      ap (value_of cmp e.value.0) is ∙ none_between e.value.0 a b (front_below a b (p, e) whole) (back_above a b (p, e) whole)

  pub taken_rises : (c d : Nodes (K × V)) (p : Ptr) (e : Element (K × V)) → Rises cmp c → IsTaken c p e d → Rises cmp d
  taken_rises c d p e r (a, b, was, is) = subst (Rises cmp) (sym is) (rises_without a b (p, e) (subst (Rises cmp) was r))

  -- ---- what the calls say
  pub inserted_value : (s d : Nodes (K × V)) (p : Ptr) (e : Element (K × V)) (old : Option (Element (K × V))) → IsInserted cmp s e p old d → value_of cmp e.value.0 d ≡ Some e.value.1
  inserted_value s d p e old u =
      let (b, a, is, rest) = u.added in
      found_value d e.value.0 p u.rises (record { front = b; element = e; back = a; parts = is; equal = ap is_eq (itself cmp t e.value.0) })

  pub inserted_keeps : (s d : Nodes (K × V)) (p : Ptr) (e : Element (K × V)) (old : Option (Element (K × V))) → IsInserted cmp s e p old d → (q : Ptr) → HasSpot s q → (IsFound cmp s e.value.0 q → ⊥) → HasSpot d q
  inserted_keeps s d p e old u q h other = put_keeps d u.rest p e u.added q (go old u.replaced) where
    go : (old : Option (Element (K × V))) → MatchOption old ((value_of cmp e.value.0 s ≡ None) × (u.rest ≡ s)) (λ o. IsRemoved cmp s e.value.0 o u.rest) → HasSpot u.rest q
    go None m = subst (λ z. HasSpot z q) (sym m.1) h
    go (Some o) m = taken_keeps s u.rest m.spot o m.taken q h (λ same. other (subst (IsFound cmp s e.value.0) (sym same) m.found))

  pub found_gone : (c d : Nodes (K × V)) (k : K) (p : Ptr) (e : Element (K × V)) → Rises cmp c → AreDistinct (spots c) → IsFound cmp c k p → IsTaken c p e d → value_of cmp k d ≡ None
  found_gone c d k p e r distinct f (b, a, was, is) =
      let same = unique f.front f.back b a p f.element e (sym f.parts ∙ was) (subst (λ z. AreDistinct (spots z)) f.parts distinct) in
      ap (value_of cmp k) is ∙ none_between k b a (subst (Below k) same.0 (found_low c k p r f)) (subst (Above k) same.2 (found_high c k p r f))

  pub removed_keeps : (s d : Nodes (K × V)) (k : K) (e : Element (K × V)) → IsRemoved cmp s k e d → (q : Ptr) → HasSpot s q → (IsFound cmp s k q → ⊥) → HasSpot d q
  removed_keeps s d k e m q h other = taken_keeps s d m.spot e m.taken q h (λ same. other (subst (IsFound cmp s k) (sym same) m.found))

  some_there : (k : K) (a b : Nodes (K × V)) (n : Ptr × Element (K × V)) → is_key cmp k (key_of n) ≡ true → is_some (value_of cmp k (a ++ n ∷ b)) ≡ true
  some_there k [] b n e = ap (λ (z : Bool). is_some (cond z (Some n.1.value.1) (value_of cmp k b))) e
  some_there k (m ∷ a) b n e = by_test (is_key cmp k (key_of m))
      (λ y. ap (λ (z : Bool). is_some (cond z (Some m.1.value.1) (value_of cmp k (a ++ n ∷ b)))) y)
      (λ f. ap (λ (z : Bool). is_some (cond z (Some m.1.value.1) (value_of cmp k (a ++ n ∷ b)))) f ∙ some_there k a b n e)

  pub found_some : (c : Nodes (K × V)) (k : K) (o : Option Ptr) → MatchOption o (value_of cmp k c ≡ None) (λ p. IsFound cmp c k p) → is_some o ≡ is_some (value_of cmp k c)
  found_some c k None m = sym (ap is_some m)
  found_some c k (Some p) f = sym (ap (λ z. is_some (value_of cmp k z)) f.parts ∙ some_there k f.front f.back (p, f.element) f.equal)

  -- ---- a value is written
  module _ (c : Nodes (K × V)) (k : K) (p : Ptr) (r : Rises cmp c) (d : AreDistinct (spots c)) (f : IsFound cmp c k p) (x : K × V) (at : slice_get (values (elements c)) (index_of p (spots c)) ≡ Some x) where
    place : index_of p (spots c) ≡ length f.front
    place = ap (λ z. index_of p (spots z)) f.parts ∙ index_mid f.front f.back p f.element (subst (λ z. AreDistinct (spots z)) f.parts d)

    held : f.element.value ≡ x
    held = let s : Some f.element.value ≡ Some x = sym (value_mid f.front f.back p f.element) ∙ (λ i. slice_get (values (elements (sym f.parts i))) (sym place i)) ∙ at in cc

    pub written_value : Some x.1 ≡ value_of cmp k c
    written_value = sym (found_value c k p r f ∙ ap (λ (z : K × V). Some z.1) held)

    pub written_is : (w : V) → with_item c (index_of p (spots c)) (x.0, w) ≡ with_value_of (is_key cmp k) c w
    written_is w =
        (λ i. with_item (f.parts i) (place i) ((sym held i).0, w)) ∙ item_mid f.front f.back p f.element (f.element.value.0, w)
        ∙ sym (ap (λ z. with_value_of (is_key cmp k) z w) f.parts ∙ written_mid (is_key cmp k) f.front f.back (p, f.element) w (below_not k f.front (found_low c k p r f)) f.equal)

    pub written_rises : (w : V) → Rises cmp (with_item c (index_of p (spots c)) (x.0, w))
    written_rises w =
        subst (Rises cmp) (sym ((λ i. with_item (f.parts i) (place i) ((sym held i).0, w)) ∙ item_mid f.front f.back p f.element (f.element.value.0, w)))
        (rises_same f.front f.back (p, f.element) (p, record { id = f.element.id; value = (f.element.value.0, w) }) (itself cmp t f.element.value.0) (subst (Rises cmp) f.parts r))
