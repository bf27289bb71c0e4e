-- Orders of the values of a map's nodes, and of the entries.
use Rattle.std.proofs.Common.{◌≡◌, ℕ, List, [], ◌∷◌, ◌++◌, refl, sym, ap, ◌∙◌, subst}
use Rattle.std.specs.declared.cmp.Ordering.{Ordering}
use Rattle.std.specs.Ordering.{is_gt}
use denote.RawPtr.{Ptr}
use Rattle.cordyceps_base.specs.BySpot.{HoldsAt}
use Rattle.cordyceps_base.specs.Element.{Element}
use Rattle.cordyceps_base.specs.Nodes.{Nodes}
use Rattle.cordyceps_many.specs.InOrder.{IsGreaterAt, IsAtMostAt, IsInOrder, IsPutInOrder}
use Rattle.cordyceps_many.specs.MultiList.{list_at}
use Rattle.cordyceps_single.specs.ByKey.{by_key}
use Rattle.cordyceps_map.specs.declared.entry.Entry.{Entry}
use Rattle.cordyceps_map.specs.Orders.{ComparesByValue}
use Rattle.cordyceps_map.specs.Shown.{shown}
use Rattle.cordyceps_map.specs.StableMap.{Mapped, valued}

module _ {K V : Type 0} where
  -- the element with the value alone
  abbrev value_of : Element (Entry K V) → Element V
  value_of e = record { id = e.id; value = e.value.value }

  abbrev values_of : Nodes (Entry K V) → Nodes V
  values_of c = valued (shown c)

  values_joined : (c d : Nodes (Entry K V)) → values_of (c ++ d) ≡ values_of c ++ values_of d
  values_joined [] d = refl
  values_joined (n ∷ c) d = ap (λ z. (n.0, value_of n.1) ∷ z) (values_joined c d)

  held_to : (c : Nodes (Entry K V)) (p : Ptr) (e : Entry K V) → HoldsAt c p e → HoldsAt (values_of c) p e.value
  held_to c p e (b, id, a, was) = (values_of b, id, values_of a, ap values_of was ∙ values_joined b ((p, record { id = id; value = e }) ∷ a))

  -- an entry at p whose value is x
  record HasValue (c : Nodes (Entry K V)) (p : Ptr) (x : V) : Type 0 where
    entry : Entry K V
    held : HoldsAt c p entry
    value : entry.value ≡ x

  held_from : (c : Nodes (Entry K V)) (p : Ptr) (x : V) → HoldsAt (values_of c) p x → HasValue c p x
  held_from c p x (b, id, a, was) = go c b was where
    go : (c : Nodes (Entry K V)) (b : Nodes V) → values_of c ≡ b ++ (p, record { id = id; value = x }) ∷ a → HasValue c p x
    go [] [] was = absurd cc
    go [] (m ∷ b) was = absurd cc
    go (n ∷ c) [] was =
        let node : (n.0, value_of n.1) ≡ (p, record { id = id; value = x }) = cc in
        record { entry = n.1.value; held = ([], n.1.id, c, λ i. ((node i).0, n.1) ∷ c); value = ap (λ (z : Ptr × Element V). z.1.value) node }
    go (n ∷ c) (m ∷ b) was =
        let rest : values_of c ≡ b ++ (p, record { id = id; value = x }) ∷ a = cc in
        let r = go c b rest in let (l, j, m, is) = r.held in
        record { entry = r.entry; held = (n ∷ l, j, m, ap (λ z. n ∷ z) is); value = r.value }

  abbrev entries_by : (V → V → Ordering) → Entry K V → Entry K V → Ordering
  entries_by cmp = by_key cmp (λ e. e.value)

  module _ (cmp : V → V → Ordering) (c : Nodes (Entry K V)) where
    at_most_to : (p q : Ptr) → IsAtMostAt (entries_by cmp) c p q → IsAtMostAt cmp (values_of c) p q
    at_most_to p q f x y hx hy = let e = held_from c p x hx in let o = held_from c q y hy in sym (λ i. is_gt (cmp (e.value i) (o.value i))) ∙ f e.entry o.entry e.held o.held

    at_most_from : (p q : Ptr) → IsAtMostAt cmp (values_of c) p q → IsAtMostAt (entries_by cmp) c p q
    at_most_from p q f e o he ho = f e.value o.value (held_to c p e he) (held_to c q o ho)

    greater_to : (p q : Ptr) → IsGreaterAt (entries_by cmp) c p q → IsGreaterAt cmp (values_of c) p q
    greater_to p q f x y hx hy = let e = held_from c p x hx in let o = held_from c q y hy in sym (λ i. is_gt (cmp (e.value i) (o.value i))) ∙ f e.entry o.entry e.held o.held

    -- a list is in order by the values just when it is by the entries
    order_to : (s : List Ptr) → IsInOrder (entries_by cmp) c s → IsInOrder cmp (values_of c) s
    order_to [] o = tt
    order_to (p ∷ []) o = tt
    order_to (p ∷ q ∷ s) o = (at_most_to p q o.0, order_to (q ∷ s) o.1)

    order_from : (s : List Ptr) → IsInOrder cmp (values_of c) s → IsInOrder (entries_by cmp) c s
    order_from [] o = tt
    order_from (p ∷ []) o = tt
    order_from (p ∷ q ∷ s) o = (at_most_from p q o.0, order_from (q ∷ s) o.1)

  module _ {O : Type 0} (by : O → (V → V → Ordering) → Type 0) (order : O) (c : Nodes (Entry K V)) (ls : List (List Ptr)) {size : ℕ} (v : Mapped (K × V)) (seen : record { nodes = shown c; lists = ls; buckets = size } ≡ v) (i : ℕ) (t : List Ptr) where
    by_entries : (cmp : V → V → Ordering) → by order cmp → ComparesByValue by order (entries_by cmp)
    by_entries cmp is = record { values = cmp; by = is; compares = refl }

    -- a node that is put in order by the entries is so by the values
    pub put : (p : Ptr) → IsPutInOrder (ComparesByValue by order) c p (list_at i ls) t → IsPutInOrder (by order) (valued v.nodes) p (list_at i v.lists) t
    put p r = subst (λ (z : Mapped (K × V)). IsPutInOrder (by order) (valued z.nodes) p (list_at i z.lists) t) seen (record {
      front = r.front;
      back = r.back;
      was = r.was;
      is = r.is;
      low = λ cmp is q last. at_most_to cmp c q p (r.low (entries_by cmp) (by_entries cmp is) q last);
      high = λ cmp is q among. greater_to cmp c q p (r.high (entries_by cmp) (by_entries cmp is) q among);
    })

    pub kept : (d : Nodes (Entry K V)) → ((cmp : Entry K V → Entry K V → Ordering) → ComparesByValue by order cmp → IsInOrder cmp c (list_at i ls) → IsInOrder cmp d t) → (cmp : V → V → Ordering) → by order cmp
        → IsInOrder cmp (valued v.nodes) (list_at i v.lists) → IsInOrder cmp (valued (shown d)) t
    kept d keeps cmp is o = order_to cmp d t (keeps (entries_by cmp) (by_entries cmp is) (order_from cmp c (list_at i ls) (subst (λ (z : Mapped (K × V)). IsInOrder cmp (valued z.nodes) (list_at i z.lists)) (sym seen) o)))
