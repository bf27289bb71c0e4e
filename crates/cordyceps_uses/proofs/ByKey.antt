-- What calls of a map leave of its entries, in the orders of its lists.
use Rattle.std.proofs.Common.{◌≡◌, ◌<◌, ℕ, Bool, true, false, List, [], ◌∷◌, ◌++◌, Option, Some, None, MatchOption, is_some, sym, ap, ◌∙◌, subst, arith}
use Rattle.std.specs.Cmp.{IsEquivalence}
use Rattle.std.specs.Map.{lookup, lookup_entry, remove_entry}
use denote.RawPtr.{Ptr}
use Rattle.cordyceps.specs.Spots.BySpot.{HasSpot, IsTaken}
use Rattle.cordyceps.specs.Elements.Element.{Element}
use Rattle.cordyceps.specs.Elements.Nodes.{spots}
use Rattle.cordyceps.specs.Spots.Spots.{same_ptr, AreDistinct}
use Rattle.cordyceps.specs.Spots.Entries.{value_at}
use Rattle.cordyceps.specs.Spots.MultiList.{list_at}
use Rattle.cordyceps.specs.Spots.Threads.{is_in, without, Once}
use Rattle.cordyceps.proofs.Spots.Members.{in_has}
use Rattle.cordyceps.proofs.Spots.Threads.{split, differ, parts, without_none, without_gone, apart}
use Rattle.cordyceps.proofs.Spots.Fewer.{new_out}
use Rattle.cordyceps.proofs.Spots.ValueAt.{held_value, value_in, value_joined, value_came, value_left}
use Rattle.cordyceps.specs.Spots.StableMap.{Mapped, pairs, IsFound, IsInserted, IsAdded}
use Rattle.cordyceps_uses.specs.Keyed.{in_order, order, moved_back, IsSound, IsAt, IsTakenOut, IsPut}
use Rattle.cordyceps_uses.proofs.Ordered.{none_passes, found_past, cut_past, none_cut, passes, unlike, moved_here, order_joined, order_mid, framed, all_of}

pub once_of : (s : List Ptr) → AreDistinct s → Once s
once_of [] d = tt
once_of (x ∷ s) d = (new_out x s d.0, once_of s d.1)

-- what comes before a spot does not have it
pub clear : (l f b : List Ptr) (p : Ptr) → l ≡ f ++ p ∷ b → AreDistinct l → is_in p f ≡ false
clear l f b p e d = (apart f p b (subst Once e (once_of l d))).before

module _ {K X : Type 0} (eq : K → K → Bool) (m : Mapped (K × X)) (s : IsSound eq m) where
  pub same_test : (k q : K) → eq k q ≡ true → eq k ≡ eq q
  same_test k q e = λ i y. s.laws.congr k q y e i

  absent : (k : K) → lookup (eq k) (pairs m.nodes) ≡ None → lookup_entry (eq k) (order 0 m) ≡ None
  absent k e = none_passes (eq k) (order 0 m) (all_of m.nodes (λ x. eq k x.0 ≡ false) (list_at 0 m.lists) (λ q x h v. unlike (eq k) m.nodes e q x v))

  module _ (p : Ptr) (x : K × X) (v : value_at m.nodes p ≡ Some x) where
    pub listed : is_in p (list_at 0 m.lists) ≡ true
    listed = s.all p (in_has m.nodes p (value_in m.nodes p x v))

    -- in a list without p no other has the key
    pub none_like : (l : List Ptr) → is_in p l ≡ false → lookup_entry (eq x.0) (in_order m.nodes l) ≡ None
    none_like l out = none_passes (eq x.0) (in_order m.nodes l) (all_of m.nodes (λ y. eq x.0 y.0 ≡ false) l (λ q y h w. split (eq x.0 y.0)
        (λ same. let u : is_in p l ≡ true = subst (λ z. is_in z l ≡ true) (sym (s.apart p q x y v w same)) h in absurd cc)
        (λ no. no)))

    -- a list with p has parts, and none of the others has the key
    pub record Cut (l : List Ptr) : Type 0 where
      pub front : List Ptr
      pub back : List Ptr
      pub left : without p l ≡ front ++ back
      pub order : in_order m.nodes l ≡ in_order m.nodes front ++ x ∷ in_order m.nodes back
      pub first : lookup_entry (eq x.0) (in_order m.nodes front) ≡ None

    pub cut : (i : ℕ) → is_in p (list_at i m.lists) ≡ true → Cut (list_at i m.lists)
    cut i h =
        let r = parts p (list_at i m.lists) h in let a = apart r.front p r.back (subst Once r.whole (once_of (list_at i m.lists) (s.once i))) in record {
          front = r.front;
          back = r.back;
          left = r.left;
          order = ap (in_order m.nodes) r.whole ∙ order_mid m.nodes r.front r.back p x v;
          first = none_like r.front a.before;
        }

    pub found_in : (i : ℕ) → is_in p (list_at i m.lists) ≡ true → lookup_entry (eq x.0) (order i m) ≡ Some x
    found_in i h = let r = cut i h in ap (lookup_entry (eq x.0)) r.order ∙ found_past (eq x.0) (in_order m.nodes r.front) (in_order m.nodes r.back) x r.first (s.laws.refl x.0)

    pub found_by : (k : K) → eq k x.0 ≡ true → lookup_entry (eq k) (order 0 m) ≡ Some x
    found_by k e = ap (λ t. lookup_entry t (order 0 m)) (same_test k x.0 e) ∙ found_in 0 listed

    -- whether p is in a list, its entries tell
    pub linked_is : (i : ℕ) (k : K) → eq k x.0 ≡ true → is_in p (list_at i m.lists) ≡ is_some (lookup_entry (eq k) (order i m))
    linked_is i k e = split (is_in p (list_at i m.lists))
        (λ yes. yes ∙ sym (ap (λ t. is_some (lookup_entry t (order i m))) (same_test k x.0 e) ∙ ap is_some (found_in i yes)))
        (λ no. no ∙ sym (ap (λ t. is_some (lookup_entry t (order i m))) (same_test k x.0 e) ∙ ap is_some (none_like (list_at i m.lists) no)))

    -- a list without p has the entries without that of its key
    pub order_without : (i : ℕ) → in_order m.nodes (without p (list_at i m.lists)) ≡ remove_entry (eq x.0) (order i m)
    order_without i = split (is_in p (list_at i m.lists))
        (λ yes. let r = cut i yes in ap (in_order m.nodes) r.left ∙ order_joined m.nodes r.front r.back
        ∙ sym (ap (remove_entry (eq x.0)) r.order ∙ cut_past (eq x.0) (in_order m.nodes r.front) (in_order m.nodes r.back) x r.first (s.laws.refl x.0)))
        (λ no. ap (in_order m.nodes) (without_none p (list_at i m.lists) no) ∙ sym (none_cut (eq x.0) (order i m) (none_like (list_at i m.lists) no)))

    -- ---- the node at p comes last
    pub moved : (k : K) → eq k x.0 ≡ true → (w : Mapped (K × X)) → w.nodes ≡ m.nodes → list_at 0 w.lists ≡ without p (list_at 0 m.lists) ++ p ∷ [] → order 0 w ≡ moved_back (eq k) (order 0 m)
    moved k e w nodes list =
        ap (λ c. in_order c (list_at 0 w.lists)) nodes ∙ ap (in_order m.nodes) list
        ∙ order_mid m.nodes (without p (list_at 0 m.lists)) [] p x v ∙ ap (λ l. l ++ x ∷ []) (order_without 0)
        ∙ sym (ap (λ t. moved_back t (order 0 m)) (same_test k x.0 e) ∙ moved_here (eq x.0) (order 0 m) x (found_in 0 listed))

    -- ---- the node at p goes
    module _ (count : ℕ) (some : 0 < count) (e : Element (K × X)) (is : e.value ≡ x) (w : Mapped (K × X)) (taken : IsTaken m.nodes p e w.nodes) (lists : (j : ℕ) → j < count → list_at j w.lists ≡ without p (list_at j m.lists)) where
      out_of : (j : ℕ) → is_in p (without p (list_at j m.lists)) ≡ false
      out_of j = without_gone p (list_at j m.lists) (once_of (list_at j m.lists) (s.once j))

      kept : (q : Ptr) → same_ptr q p ≡ false → value_at w.nodes q ≡ value_at m.nodes q
      kept q other = let (before, after, was, left) = taken in ap (λ z. value_at z q) left ∙ value_left before after p e q other ∙ sym (ap (λ z. value_at z q) was)

      left_order : (j : ℕ) → j < count → order j w ≡ in_order m.nodes (without p (list_at j m.lists))
      left_order j l = ap (in_order w.nodes) (lists j l) ∙ framed m.nodes w.nodes (without p (list_at j m.lists)) (λ q h. kept q (differ q p (without p (list_at j m.lists)) h (out_of j)))

      pub taken_out : IsTakenOut eq count m p x w
      taken_out = record {
        value = v;
        lists = lists;
        orders = λ j l. left_order j l ∙ order_without j;
        out = record {
          found = found_in 0 listed;
          left = left_order 0 some ∙ order_without 0;
          gone = ap (lookup_entry (eq x.0)) (left_order 0 some) ∙ none_like (without p (list_at 0 m.lists)) (out_of 0);
        };
      }

  pub spotted : (k : K) (o : Option Ptr) → MatchOption o (lookup (eq k) (pairs m.nodes) ≡ None) (λ p. IsFound eq m.nodes k p) → MatchOption o (lookup_entry (eq k) (order 0 m) ≡ None) (λ p. IsAt eq 0 m k p)
  spotted k None e = absent k e
  spotted k (Some p) f =
      let v = held_value m.nodes p f.pair s.distinct f.held in let same = passes (eq k) (pairs m.nodes) f.pair f.found in
      record { entry = f.pair; value = v; same = same; found = found_by p f.pair v k same }

  -- a key that list 0 does not have is in no list
  pub absent_in : (i : ℕ) (k : K) → lookup_entry (eq k) (order 0 m) ≡ None → lookup_entry (eq k) (order i m) ≡ None
  absent_in i k none = none_passes (eq k) (order i m) (all_of m.nodes (λ x. eq k x.0 ≡ false) (list_at i m.lists) (λ q x h v. split (eq k x.0)
      (λ yes. let a = found_by q x v k yes in absurd cc)
      (λ no. no)))

  module _ (i : ℕ) (k : K) (p : Ptr) (a : IsAt eq 0 m k p) where
    pub spot_listed : is_in p (list_at i m.lists) ≡ true → IsAt eq i m k p
    spot_listed h = record { entry = a.entry; value = a.value; same = a.same; found = ap (λ t. lookup_entry t (order i m)) (same_test k a.entry.0 a.same) ∙ found_in p a.entry a.value i h }

    pub spot_apart : is_in p (list_at i m.lists) ≡ false → lookup_entry (eq k) (order i m) ≡ None
    spot_apart out = ap (λ t. lookup_entry t (order i m)) (same_test k a.entry.0 a.same) ∙ none_like p a.entry a.value (list_at i m.lists) out

-- ---- the node of a key went
module _ {K X : Type 0} (eq : K → K → Bool) (laws : IsEquivalence eq) (m : Mapped (K × X)) (k : K) (p : Ptr) (a : IsAt eq 0 m k p) (count : ℕ) (x : K × X) (w : Mapped (K × X)) (t : IsTakenOut eq count m p x w) where
  pub entry_is : a.entry ≡ x
  entry_is = let u = sym a.value ∙ t.value in cc

  test_is : eq k ≡ eq x.0
  test_is = subst (λ (z : K × X). eq k ≡ eq z.0) entry_is (λ i y. laws.congr k a.entry.0 y a.same i)

  pub left_by_key : (j : ℕ) → j < count → order j w ≡ remove_entry (eq k) (order j m)
  left_by_key j l = t.orders j l ∙ sym (ap (λ f. remove_entry f (order j m)) test_is)

  pub gone_by_key : lookup_entry (eq k) (order 0 w) ≡ None
  gone_by_key = ap (λ f. lookup_entry f (order 0 w)) test_is ∙ t.out.gone

-- ---- a node comes
module _ {K X : Type 0} (eq : K → K → Bool) (v : Mapped (K × X)) (s : IsSound eq v) (n : Element (K × X)) (none : lookup_entry (eq n.value.0) (order 0 v) ≡ None) (count : ℕ) (p : Ptr) (w : Mapped (K × X)) (z : IsSound eq w) where
  -- no other goes
  rest_is : (old : Option (Element (K × X))) (r : IsInserted eq count v n p old w) → r.rest ≡ v
  rest_is None r = r.replaced.1
  rest_is (Some o) r =
      let f = r.replaced.found in
      let there = found_by eq v s r.replaced.spot f.pair (held_value v.nodes r.replaced.spot f.pair s.distinct f.held) n.value.0 (passes (eq n.value.0) (pairs v.nodes) f.pair f.found) in absurd cc

  came : (old : Option (Element (K × X))) → IsInserted eq count v n p old w → IsAdded v p n w
  came old r = subst (λ u. IsAdded u p n w) (rest_is old r) r.added

  module _ (r : IsAdded v p n w) where
    fresh : (l : List Ptr) → ((q : Ptr) → is_in q l ≡ true → HasSpot v.nodes q) → is_in p l ≡ false
    fresh l k = split (is_in p l)
        (λ yes. let a = s.all p (k p yes) in let b = clear (list_at 0 w.lists) (list_at 0 v.lists) [] p r.list (z.once 0) in absurd cc)
        (λ no. no)

    order_kept : (i : ℕ) → in_order w.nodes (list_at i v.lists) ≡ order i v
    order_kept i =
        framed v.nodes w.nodes (list_at i v.lists) (λ q h. ap (λ c. value_at c q) r.nodes ∙ value_joined v.nodes p n q (differ q p (list_at i v.lists) h (fresh (list_at i v.lists) (s.inside i))))

    came_value : value_at w.nodes p ≡ Some n.value
    came_value = ap (λ c. value_at c p) r.nodes ∙ value_came v.nodes p n (fresh (spots v.nodes) (λ q h. in_has v.nodes q h))

    last : order 0 w ≡ order 0 v ++ n.value ∷ []
    last = ap (in_order w.nodes) r.list ∙ order_mid w.nodes (list_at 0 v.lists) [] p n.value came_value ∙ ap (λ l. l ++ n.value ∷ []) (order_kept 0)

    put : IsPut eq v p n.value w
    put = record {
      value = came_value;
      list = r.list;
      others = r.others.lists;
      entries = last;
      orders = λ j some. ap (in_order w.nodes) (r.others.lists j (λ e. absurd (omega (arith, some, e)))) ∙ order_kept j;
      found = ap (lookup_entry (eq n.value.0)) last ∙ found_past (eq n.value.0) (order 0 v) [] n.value none (s.laws.refl n.value.0);
    }

  pub is_put : (old : Option (Element (K × X))) → IsInserted eq count v n p old w → IsPut eq v p n.value w
  is_put old r = put (came old r)
