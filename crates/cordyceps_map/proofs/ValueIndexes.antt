-- Lists of a map that have every node, in an order of the values: what comes in and goes out, and what a written value
-- leaves of them. Each lemma takes what the clauses of one call say.
use Rattle.std.proofs.Common.{◌≡◌, ◌≤◌, ℕ, zero, suc, Bool, true, false, List, [], ◌∷◌, ◌++◌, slice_get, refl, sym, ap, ◌∙◌, subst}
use Rattle.std.proofs.lemmas.Map.Keys.{le_from_not_gt}
use Rattle.std.specs.declared.cmp.Ordering.{Ordering}
use Rattle.std.specs.Ordering.{nat_cmp}
use denote.RawPtr.{Ptr}
use Rattle.cordyceps_base.specs.BySpot.{HasSpot, HoldsAt, IsTaken}
use Rattle.cordyceps_base.specs.Element.{Element}
use Rattle.cordyceps_base.specs.Nodes.{Nodes, spots, with_item}
use Rattle.cordyceps_base.specs.Spots.{index_of, AreDistinct}
use Rattle.cordyceps_single.specs.ByKey.{by_key}
use Rattle.cordyceps_single.specs.Preorder.{IsPreorder, by_number_lawful}
use Rattle.cordyceps_many.specs.InOrder.{IsAtMostAt, IsPutInOrder, IsIndex, IsIndexBut}
use Rattle.cordyceps_many.specs.MultiList.{list_at, IsFirstOf}
use Rattle.cordyceps_many.specs.Threads.{is_in, without}
use Rattle.cordyceps_many.proofs.Indexes.{index_came, index_empty, index_first, index_linked, index_none, index_removed, index_unlinked, index_written}
use Rattle.cordyceps_many.proofs.Members.{in_has}
use Rattle.cordyceps_many.proofs.ValueAt.{held_value, value_in}
use Rattle.cordyceps_map.specs.MapLends.{with_second, with_value_at}
use Rattle.cordyceps_map.specs.StableMap.{Mapped, valued, AreSound, IsIndexOf, IsIndexButAt}

module _ {K V : Type 0} where
  abbrev alone : Element (K × V) → Element V
  alone e = record { id = e.id; value = e.value.1 }

  valued_spots : (c : Nodes (K × V)) → spots (valued c) ≡ spots c
  valued_spots [] = refl
  valued_spots (n ∷ c) = ap (λ s. n.0 ∷ s) (valued_spots c)

  valued_join : (c d : Nodes (K × V)) → valued (c ++ d) ≡ valued c ++ valued d
  valued_join [] d = refl
  valued_join (n ∷ c) d = ap (λ s. (n.0, alone n.1) ∷ s) (valued_join c d)

  valued_distinct : (c : Nodes (K × V)) → AreDistinct (spots c) → AreDistinct (spots (valued c))
  valued_distinct c d = subst AreDistinct (sym (valued_spots c)) d

  to_valued : (c : Nodes (K × V)) (p : Ptr) → HasSpot c p → HasSpot (valued c) p
  to_valued c p h = (h.0, ap (λ s. slice_get s h.0) (valued_spots c) ∙ h.1)

  valued_taken : (c d : Nodes (K × V)) (p : Ptr) (e : Element (K × V)) → IsTaken c p e d → IsTaken (valued c) p (alone e) (valued d)
  valued_taken c d p e (b, a, was, left) = (valued b, valued a, ap valued was ∙ valued_join b ((p, e) ∷ a), ap valued left ∙ valued_join b a)

  valued_written : (c : Nodes (K × V)) (k : ℕ) (w : V) → valued (with_second c k w) ≡ with_item (valued c) k w
  valued_written [] k w = refl
  valued_written (n ∷ c) zero w = refl
  valued_written (n ∷ c) (suc k) w = ap (λ s. (n.0, alone n.1) ∷ s) (valued_written c k w)

  module _ {cmp : V → V → Ordering} (i : ℕ) (m : Mapped (K × V)) where
    -- a map without nodes
    pub index_of_new : m.nodes ≡ [] → list_at i m.lists ≡ [] → IsIndexOf cmp i m
    index_of_new nodes list = subst (λ z. IsIndex cmp (valued z) (list_at i m.lists)) (sym nodes) (subst (IsIndex cmp []) (sym list) index_none)

    -- neither the nodes nor the list changed
    pub index_of_same : (r : Mapped (K × V)) → r.nodes ≡ m.nodes → list_at i r.lists ≡ list_at i m.lists → IsIndexOf cmp i m → IsIndexOf cmp i r
    index_of_same r nodes list w = subst (λ z. IsIndex cmp (valued z) (list_at i r.lists)) (sym nodes) (subst (IsIndex cmp (valued m.nodes)) (sym list) w)

    -- it has every node
    pub index_of_all : (p : Ptr) → HasSpot m.nodes p → IsIndexOf cmp i m → is_in p (list_at i m.lists) ≡ true
    index_of_all p h w = w.all p (to_valued m.nodes p h)

    pub index_but_of_same : (r : Mapped (K × V)) (p : Ptr) → r.nodes ≡ m.nodes → list_at i r.lists ≡ list_at i m.lists → IsIndexButAt cmp i p m → IsIndexButAt cmp i p r
    index_but_of_same r p nodes list w = subst (λ z. IsIndexBut cmp (valued z) p (list_at i r.lists)) (sym nodes) (subst (IsIndexBut cmp (valued m.nodes) p) (sym list) w)

    -- it was linked where the order puts it
    pub index_of_linked : IsPreorder cmp → (by : (V → V → Ordering) → Type 0) (p : Ptr) (r : Mapped (K × V)) → by cmp → r.nodes ≡ m.nodes → IsPutInOrder by (valued m.nodes) p (list_at i m.lists) (list_at i r.lists)
        → IsIndexButAt cmp i p m → IsIndexOf cmp i r
    index_of_linked o by p r b nodes put w = subst (λ z. IsIndex cmp (valued z) (list_at i r.lists)) (sym nodes) (index_linked by (valued m.nodes) p (list_at i m.lists) (list_at i r.lists) o b put w)

    -- where an index has no node, the map has none
    pub index_of_none : list_at i m.lists ≡ [] → IsIndexOf cmp i m → (q : Ptr) → HasSpot m.nodes q → ⊥
    index_of_none none w q h = index_empty (valued m.nodes) (list_at i m.lists) none w q (to_valued m.nodes q h)

  module _ {eq : K → K → Bool} {cmp : V → V → Ordering} (o : IsPreorder cmp) (i : ℕ) where
    -- a node was removed
    pub index_of_removed : (m : Mapped (K × V)) (p : Ptr) (e : Element (K × V)) (r : Mapped (K × V)) → AreSound eq m
        → IsTaken m.nodes p e r.nodes → list_at i r.lists ≡ without p (list_at i m.lists) → IsIndexOf cmp i m → IsIndexOf cmp i r
    index_of_removed m p e r a taken is w = subst (IsIndex cmp (valued r.nodes)) (sym is)
        (index_removed (valued m.nodes) (valued r.nodes) p (alone e) (list_at i m.lists) o (valued_distinct m.nodes a.distinct) (a.once i) (λ q j. to_valued m.nodes q (a.inside i q j)) (valued_taken m.nodes r.nodes p e taken) w)

    -- a node was inserted, and is not in the list
    pub index_of_added : (m : Mapped (K × V)) (p : Ptr) (e : Element (K × V)) (r : Mapped (K × V)) → AreSound eq r → is_in p (list_at i r.lists) ≡ false
        → r.nodes ≡ m.nodes ++ (p, e) ∷ [] → list_at i r.lists ≡ list_at i m.lists → IsIndexOf cmp i m → IsIndexButAt cmp i p r
    index_of_added m p e r a out nodes list w =
        let joined : valued r.nodes ≡ valued m.nodes ++ (p, alone e) ∷ [] = ap valued nodes ∙ valued_join m.nodes ((p, e) ∷ []) in
        subst (λ z. IsIndexBut cmp z p (list_at i r.lists)) (sym joined) (subst (IsIndexBut cmp (valued m.nodes ++ (p, alone e) ∷ []) p) (sym list)
        (index_came (valued m.nodes) p (alone e) (list_at i m.lists) (subst (λ z. AreDistinct (spots z)) joined (valued_distinct r.nodes a.distinct)) (sym (ap (is_in p) list) ∙ out) w))

    -- a node was unlinked
    pub index_of_unlinked : (m : Mapped (K × V)) (p : Ptr) (r : Mapped (K × V)) → AreSound eq m
        → r.nodes ≡ m.nodes → list_at i r.lists ≡ without p (list_at i m.lists) → IsIndexOf cmp i m → IsIndexButAt cmp i p r
    index_of_unlinked m p r a nodes list w = subst (λ z. IsIndexBut cmp (valued z) p (list_at i r.lists)) (sym nodes) (subst (IsIndexBut cmp (valued m.nodes) p) (sym list)
        (index_unlinked (valued m.nodes) p (list_at i m.lists) o (valued_distinct m.nodes a.distinct) (a.once i) (λ q j. to_valued m.nodes q (a.inside i q j)) w))

    -- its value was written
    pub index_of_written : (m : Mapped (K × V)) (p : Ptr) (v : V) → AreSound eq m → IsIndexButAt cmp i p m → IsIndexButAt cmp i p (with_value_at m p v)
    index_of_written m p v a w =
        let same : valued (with_second m.nodes (index_of p (spots m.nodes)) v) ≡ with_item (valued m.nodes) (index_of p (spots (valued m.nodes))) v =
        valued_written m.nodes (index_of p (spots m.nodes)) v ∙ ap (λ s. with_item (valued m.nodes) (index_of p s) v) (sym (valued_spots m.nodes)) in
        subst (λ z. IsIndexBut cmp z p (list_at i m.lists)) (sym same) (index_written (valued m.nodes) p v (list_at i m.lists) (valued_distinct m.nodes a.distinct) w)

    -- the first node of an index is at most every node
    pub index_of_first : (m : Mapped (K × V)) (p : Ptr) → AreSound eq m → IsFirstOf (list_at i m.lists) p → IsIndexOf cmp i m
        → (q : Ptr) → HasSpot m.nodes q → IsAtMostAt cmp (valued m.nodes) p q
    index_of_first m p a first w q h = index_first (valued m.nodes) (list_at i m.lists) p o (valued_distinct m.nodes a.distinct) (λ r j. to_valued m.nodes r (a.inside i r j)) first w q (to_valued m.nodes q h)

  to_valued_holds : (c : Nodes (K × V)) (p : Ptr) (x : K × V) → HoldsAt c p x → HoldsAt (valued c) p x.1
  to_valued_holds c p x (b, id, a, was) = (valued b, id, valued a, ap valued was ∙ valued_join b ((p, record { id = id; value = x }) ∷ a))

  -- in an index by a number, that of the first node is at most that of every node
  pub index_of_least : {eq : K → K → Bool} (number : V → ℕ) (i : ℕ) (m : Mapped (K × V)) (p : Ptr) (x : K × V) → AreSound eq m → IsFirstOf (list_at i m.lists) p
      → IsIndexOf (by_key nat_cmp number) i m → HoldsAt m.nodes p x → (q : Ptr) (y : K × V) → HoldsAt m.nodes q y → number x.1 ≤ number y.1
  index_of_least number i m p x a first w h q y k =
      le_from_not_gt (number x.1) (number y.1) (index_of_first (by_number_lawful number) i m p a first w q (in_has m.nodes q (value_in m.nodes q y (held_value m.nodes q y a.distinct k)))
      x.1 y.1 (to_valued_holds m.nodes p x h) (to_valued_holds m.nodes q y k))
