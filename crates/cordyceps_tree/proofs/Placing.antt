-- What is read and said of nodes in order by their spots.
use Rattle.std.proofs.Common.{◌≡◌, inl, inr, ℕ, zero, suc, Bool, true, false, if◌then◌else◌, List, [], ◌∷◌, ◌++◌, slice_get, Option, Some, None, refl, sym, ap, ◌∙◌, subst, append_assoc}
use denote.RawPtr.{Ptr}
use Rattle.cordyceps_base.specs.Boxes.{box_addresses}
use Rattle.cordyceps_base.specs.Element.{Element}
use Rattle.cordyceps_base.specs.Nodes.{Nodes, spots}
use Rattle.cordyceps_base.specs.Spots.{same_ptr, IsNew, AreDistinct}
use Rattle.cordyceps_base.proofs.SpotsMemory.{same_ptr_eq, same_ptr_refl}
use Rattle.cordyceps_base.specs.BySpot.{HasSpot, HoldsAt}
use Rattle.cordyceps_base.specs.Boxes.{box_values}
use Rattle.cordyceps_base.specs.Spots.{index_of}
use Rattle.std.proofs.Common.{drop}
use Rattle.cordyceps_tree.specs.Trees.{is_in}
use Rattle.cordyceps_tree.specs.Rows.{block_element}
use Rattle.cordyceps_tree.proofs.HookRows.{split, in_here, in_there, in_more}
use Rattle.cordyceps_tree.specs.declared.block.Block.{Block}
use Rattle.cordyceps_tree.specs.Rows.{Held, block_of, nodes_of}
use Rattle.cordyceps_tree.specs.Trees.{Step, before, after}
use Rattle.cordyceps_tree.specs.Bounds.{LastSaid, FirstSaid, LeadsBetween}
use Rattle.cordyceps_tree.specs.Places.{content_at, IsSaidAt, GoesAt}

other_way : (p q : Ptr) → same_ptr p q ≡ false → same_ptr q p ≡ false
other_way p q e = split (same_ptr q p) (λ t. let yes : same_ptr p q ≡ true = subst (λ r. same_ptr p r ≡ true) (sym (same_ptr_eq q p t)) (same_ptr_refl p) in absurd cc) (λ o. o)

-- the value that is read by a spot
found_in : (ps : List Ptr) (p : Ptr) (k : ℕ) → slice_get ps k ≡ Some p → is_in p ps ≡ true
found_in [] p k e = absurd cc
found_in (q ∷ ps) p zero e = let here : q ≡ p = cc in in_here p q ps (subst (λ z. same_ptr p z ≡ true) (sym here) (same_ptr_refl p))
found_in (q ∷ ps) p (suc k) e = in_more p q ps (found_in ps p k e)

module _ {X : Type 0} where
  pub spots_of : (ns : List (Held X)) → spots (nodes_of ns) ≡ box_addresses ns
  spots_of [] = refl
  spots_of (n ∷ ns) = ap (λ s. n.0 ∷ s) (spots_of ns)

  pub record Snoc (c : Nodes X) (p : Ptr) : Type 0 where
    pub front : Nodes X
    pub element : Element X
    pub is : c ≡ front ++ (p, element) ∷ []

  pub snoc : (c : Nodes X) (a : List Ptr) (p : Ptr) → spots c ≡ a ++ p ∷ [] → Snoc c p
  snoc [] [] p e = absurd cc
  snoc [] (x ∷ a) p e = absurd cc
  snoc (n ∷ []) [] p e = let is : n.0 ≡ p = cc in record { front = []; element = n.1; is = ap (λ z. (z, n.1) ∷ []) is }
  snoc (n ∷ m ∷ c) [] p e = absurd cc
  snoc (n ∷ c) (x ∷ a) p e = let more : spots c ≡ a ++ p ∷ [] = cc in let r = snoc c a p more in record { front = n ∷ r.front; element = r.element; is = ap (λ z. n ∷ z) r.is }

  none_of : (c : Nodes X) → spots c ≡ [] → c ≡ []
  none_of [] e = refl
  none_of (n ∷ c) e = absurd cc

  new_of : (p x : Ptr) (a b : Nodes X) (e : Element X) → IsNew x (spots (a ++ (p, e) ∷ b)) → same_ptr x p ≡ false
  new_of p x [] b e n = n.0
  new_of p x (y ∷ a) b e n = new_of p x a b e n.1

  -- the value of a node
  pub content_is : (ns : List (Held X)) (a : Nodes X) (p : Ptr) (e : Element X) (b : Nodes X) → AreDistinct (spots (nodes_of ns)) → nodes_of ns ≡ a ++ (p, e) ∷ b → content_at ns p ≡ Some e.value
  content_is [] [] p e b d is = absurd cc
  content_is [] (x ∷ a) p e b d is = absurd cc
  content_is (n ∷ ns) [] p e b d is =
      let here : n.0 ≡ p = ap (λ (c : Nodes X). first c p) is in
      let val : Some (block_of n).value ≡ Some e.value = ap (λ (c : Nodes X). first_value c) is in
      ap (λ (c : Bool). if c then Some (block_of n).value else content_at ns p) (subst (λ z. same_ptr p z ≡ true) (sym here) (same_ptr_refl p)) ∙ val
    where
      first : Nodes X → Ptr → Ptr
      first [] q = q
      first (m ∷ c) q = m.0

      first_value : Nodes X → Option X
      first_value [] = None
      first_value (m ∷ c) = Some m.1.value
  content_is (n ∷ ns) (x ∷ a) p e b d is =
      let more : nodes_of ns ≡ a ++ (p, e) ∷ b = ap tail is in
      let other : same_ptr p n.0 ≡ false = other_way n.0 p (new_of p n.0 a b e (subst (λ c. IsNew n.0 (spots c)) more d.0)) in
      ap (λ (c : Bool). if c then Some (block_of n).value else content_at ns p) other ∙ content_is ns a p e b d.1 more
    where
      tail : Nodes X → Nodes X
      tail [] = []
      tail (m ∷ c) = c

  -- nodes in two parts, by those of their spots
  pub record Parted (c : Nodes X) (a b : List Ptr) : Type 0 where
    pub front : Nodes X
    pub back : Nodes X
    pub was : c ≡ front ++ back
    pub ahead : spots front ≡ a
    pub behind : spots back ≡ b

  pub parted : (c : Nodes X) (a b : List Ptr) → spots c ≡ a ++ b → Parted c a b
  parted c [] b e = record { front = []; back = c; was = refl; ahead = refl; behind = e }
  parted [] (x ∷ a) b e = absurd cc
  parted (n ∷ c) (x ∷ a) b e =
      let here : n.0 ≡ x = cc in let more : spots c ≡ a ++ b = cc in let r = parted c a b more in
      record { front = n ∷ r.front; back = r.back; was = ap (λ z. n ∷ z) r.was; ahead = λ i. here i ∷ r.ahead i; behind = r.behind }

  last_said : (says : X → Bool → Type 0) (front : Nodes X) (n : Ptr × Element X) → says n.1.value true → LastSaid says (front ++ n ∷ [])
  last_said says [] n p = p
  last_said says (x ∷ []) n p = p
  last_said says (x ∷ y ∷ s) n p = last_said says (y ∷ s) n p

  -- what a guide said of the nodes around a place
  pub leads : (says : X → Bool → Type 0) (ns : List (Held X)) (steps : List Step) → GoesAt says ns steps → AreDistinct (spots (nodes_of ns)) → (r : Parted (nodes_of ns) (before steps) (after steps)) → LeadsBetween says r.front r.back
  leads says ns steps g distinct r = record {
    low = elim g.low [
      | inl none ↦ subst (LastSaid says) (sym (none_of r.front (r.ahead ∙ none))) tt
      | inr some ↦ (let (a, p, eq, said) = some in
          let s = snoc r.front a p (r.ahead ∙ eq) in
          let whole : nodes_of ns ≡ s.front ++ (p, s.element) ∷ r.back = r.was ∙ ap (λ z. z ++ r.back) s.is ∙ append_assoc s.front ((p, s.element) ∷ []) r.back in
          subst (LastSaid says) (sym s.is) (last_said says s.front (p, s.element) (said s.element.value (content_is ns s.front p s.element r.back distinct whole))))
    ];
    high = elim g.high [
      | inl none ↦ subst (FirstSaid says) (sym (none_of r.back (r.behind ∙ none))) tt
      | inr some ↦ (let (p, b, eq, said) = some in first r.back r.was p b (r.behind ∙ eq) said)
    ];
  } where
    first : (c : Nodes X) → nodes_of ns ≡ r.front ++ c → (p : Ptr) (b : List Ptr) → spots c ≡ p ∷ b → IsSaidAt says ns p false → FirstSaid says c
    first [] w p b e said = tt
    first (n ∷ c) w p b e said =
        let here : n.0 ≡ p = cc in
        subst (λ z. IsSaidAt says ns z false) (sym here) said n.1.value (content_is ns r.front n.0 n.1 c distinct w)

  pub spot_in : (ns : List (Held X)) (c : Nodes X) (p : Ptr) → nodes_of ns ≡ c → HasSpot c p → is_in p (box_addresses ns) ≡ true
  spot_in ns c p e h = subst (λ s. is_in p s ≡ true) (ap spots (sym e) ∙ spots_of ns) (found_in (spots c) p h.0 h.1)

  pub read_at : (ns : List (Held X)) (p : Ptr) (b : Block X) → is_in p (box_addresses ns) ≡ true → slice_get (box_values (drop (index_of p (box_addresses ns)) ns)) 0 ≡ Some b → HoldsAt (nodes_of ns) p b.value
  read_at [] p b t e = absurd cc
  read_at (n ∷ ns) p b t e = split (same_ptr p n.0)
      (λ same.
      let at : Some (block_of n) ≡ Some b = sym (ap (λ (c : Bool). slice_get (box_values (drop (if c then zero else suc (index_of p (box_addresses ns))) (n ∷ ns))) 0) same) ∙ e in
      let is : block_of n ≡ b = cc in
      let on : n.0 ≡ p = sym (same_ptr_eq p n.0 same) in
      ([], b.id, nodes_of ns, λ i. (on i, block_element (is i)) ∷ nodes_of ns))
      (λ other.
      let r = read_at ns p b (sym (in_there p n.0 (box_addresses ns) other) ∙ t) (sym (ap (λ (c : Bool). slice_get (box_values (drop (if c then zero else suc (index_of p (box_addresses ns))) (n ∷ ns))) 0) other) ∙ e) in
      ((n.0, block_element (block_of n)) ∷ r.0, r.1, r.2, ap (λ z. (n.0, block_element (block_of n)) ∷ z) r.3))
