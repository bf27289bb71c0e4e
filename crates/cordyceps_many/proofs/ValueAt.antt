-- The value at a spot, where nodes come, go and are written.
use Rattle.std.proofs.Common.{◌≡◌, zero, suc, Bool, true, false, if◌then◌else◌, List, [], ◌∷◌, ◌++◌, Some, None, refl, sym, ap, ◌∙◌, subst, slice_get}
use denote.RawPtr.{Ptr}
use Rattle.cordyceps_base.specs.BySpot.{HoldsAt}
use Rattle.cordyceps_base.specs.Element.{Element, values}
use Rattle.cordyceps_base.specs.Nodes.{Nodes, elements, spots, with_item}
use Rattle.cordyceps_base.specs.Spots.{same_ptr, index_of, IsNew, AreDistinct}
use Rattle.cordyceps_base.proofs.SpotsMemory.{same_ptr_eq, same_ptr_refl}
use Rattle.cordyceps_many.specs.Entries.{value_at}
use Rattle.cordyceps_many.proofs.Fewer.{new_out}
use Rattle.cordyceps_many.specs.Threads.{is_in}
use Rattle.cordyceps_many.proofs.Threads.{split, other_way, in_here, in_there, in_more, not_in}

module _ {X : Type 0} where
  pub value_here : (n : Ptr × Element X) (c : Nodes X) (p : Ptr) → same_ptr p n.0 ≡ true → value_at (n ∷ c) p ≡ Some n.1.value
  value_here n c p e = ap (λ (b : Bool). if b then Some n.1.value else value_at c p) e

  pub value_there : (n : Ptr × Element X) (c : Nodes X) (p : Ptr) → same_ptr p n.0 ≡ false → value_at (n ∷ c) p ≡ value_at c p
  value_there n c p e = ap (λ (b : Bool). if b then Some n.1.value else value_at c p) e

  -- a spot with a value is one of the nodes
  pub value_in : (c : Nodes X) (p : Ptr) (x : X) → value_at c p ≡ Some x → is_in p (spots c) ≡ true
  value_in [] p x e = absurd cc
  value_in (n ∷ c) p x e = split (same_ptr p n.0)
      (λ same. in_here p n.0 (spots c) same)
      (λ other. in_more p n.0 (spots c) (value_in c p x (sym (value_there n c p other) ∙ e)))

  pub in_value : (c : Nodes X) (p : Ptr) → is_in p (spots c) ≡ true → (x : X) × (value_at c p ≡ Some x)
  in_value [] p e = absurd cc
  in_value (n ∷ c) p e = split (same_ptr p n.0)
      (λ same. (n.1.value, value_here n c p same))
      (λ other. let r = in_value c p (sym (in_there p n.0 (spots c) other) ∙ e) in (r.0, value_there n c p other ∙ r.1))

  pub no_value : (c : Nodes X) (p : Ptr) → is_in p (spots c) ≡ false → value_at c p ≡ None
  no_value [] p e = refl
  no_value (n ∷ c) p e = let m = not_in p n.0 (spots c) e in value_there n c p m.0 ∙ no_value c p m.1

  pub value_held : (c : Nodes X) (p : Ptr) (x : X) → value_at c p ≡ Some x → HoldsAt c p x
  value_held [] p x e = absurd cc
  value_held (n ∷ c) p x e = split (same_ptr p n.0)
      (λ same. let v : n.1.value ≡ x = let t = sym (value_here n c p same) ∙ e in cc in ([], n.1.id, c, λ i. (sym (same_ptr_eq p n.0 same) i, record { id = n.1.id; value = v i }) ∷ c))
      (λ other. let (b, id, a, was) = value_held c p x (sym (value_there n c p other) ∙ e) in (n ∷ b, id, a, ap (λ z. n ∷ z) was))

  -- ---- a node comes to the end
  pub value_joined : (c : Nodes X) (p : Ptr) (e : Element X) (q : Ptr) → same_ptr q p ≡ false → value_at (c ++ (p, e) ∷ []) q ≡ value_at c q
  value_joined [] p e q o = value_there (p, e) [] q o
  value_joined (n ∷ c) p e q o = ap (λ z. if same_ptr q n.0 then Some n.1.value else z) (value_joined c p e q o)

  pub value_came : (c : Nodes X) (p : Ptr) (e : Element X) → is_in p (spots c) ≡ false → value_at (c ++ (p, e) ∷ []) p ≡ Some e.value
  value_came [] p e o = value_here (p, e) [] p (same_ptr_refl p)
  value_came (n ∷ c) p e o = let m = not_in p n.0 (spots c) o in value_there n (c ++ (p, e) ∷ []) p m.0 ∙ value_came c p e m.1

  -- ---- a node goes
  pub value_left : (b a : Nodes X) (p : Ptr) (e : Element X) (q : Ptr) → same_ptr q p ≡ false → value_at (b ++ a) q ≡ value_at (b ++ (p, e) ∷ a) q
  value_left [] a p e q o = sym (value_there (p, e) a q o)
  value_left (n ∷ b) a p e q o = ap (λ z. if same_ptr q n.0 then Some n.1.value else z) (value_left b a p e q o)

  gone_after : (b a : Nodes X) (p : Ptr) (e : Element X) (q : Ptr) → IsNew q (spots (b ++ (p, e) ∷ a)) → IsNew q (spots (b ++ a))
  gone_after [] a p e q n = n.1
  gone_after (m ∷ b) a p e q n = (n.0, gone_after b a p e q n.1)

  new_of_mid : (b a : Nodes X) (p : Ptr) (e : Element X) (q : Ptr) → IsNew q (spots (b ++ (p, e) ∷ a)) → same_ptr q p ≡ false
  new_of_mid [] a p e q n = n.0
  new_of_mid (m ∷ b) a p e q n = new_of_mid b a p e q n.1

  pub spot_gone : (b a : Nodes X) (p : Ptr) (e : Element X) → AreDistinct (spots (b ++ (p, e) ∷ a)) → is_in p (spots (b ++ a)) ≡ false
  spot_gone [] a p e d = new_out p (spots a) d.0
  spot_gone (m ∷ b) a p e d = in_there p m.0 (spots (b ++ a)) (other_way m.0 p (new_of_mid b a p e m.0 d.0)) ∙ spot_gone b a p e d.1

  -- ---- a node's value is written
  pub value_written : (c : Nodes X) (p : Ptr) (w : X) → is_in p (spots c) ≡ true → value_at (with_item c (index_of p (spots c)) w) p ≡ Some w
  value_written [] p w e = absurd cc
  value_written (n ∷ c) p w e = split (same_ptr p n.0)
      (λ same. ap (λ (b : Bool). value_at (with_item (n ∷ c) (if b then zero else suc (index_of p (spots c))) w) p) same ∙ ap (λ (b : Bool). if b then Some w else value_at c p) same)
      (λ other. ap (λ (b : Bool). value_at (with_item (n ∷ c) (if b then zero else suc (index_of p (spots c))) w) p) other ∙ value_there n (with_item c (index_of p (spots c)) w) p other ∙ value_written c p w (sym (in_there p n.0 (spots c) other) ∙ e))

  pub value_kept : (c : Nodes X) (p : Ptr) (w : X) (q : Ptr) → same_ptr q p ≡ false → value_at (with_item c (index_of p (spots c)) w) q ≡ value_at c q
  value_kept [] p w q o = refl
  value_kept (n ∷ c) p w q o = split (same_ptr p n.0)
      (λ same. let apart : same_ptr q n.0 ≡ false = subst (λ z. same_ptr q z ≡ false) (same_ptr_eq p n.0 same) o in
      ap (λ (b : Bool). value_at (with_item (n ∷ c) (if b then zero else suc (index_of p (spots c))) w) q) same ∙ ap (λ (b : Bool). if b then Some w else value_at c q) apart ∙ sym (value_there n c q apart))
      (λ other. ap (λ (b : Bool). value_at (with_item (n ∷ c) (if b then zero else suc (index_of p (spots c))) w) q) other ∙ ap (λ z. if same_ptr q n.0 then Some n.1.value else z) (value_kept c p w q o))

  -- the value that a place tells
  pub index_value : (c : Nodes X) (p : Ptr) (x : X) → slice_get (values (elements c)) (index_of p (spots c)) ≡ Some x → value_at c p ≡ Some x
  index_value [] p x e = absurd cc
  index_value (n ∷ c) p x e = split (same_ptr p n.0)
      (λ same. value_here n c p same ∙ sym (ap (λ (b : Bool). slice_get (values (elements (n ∷ c))) (if b then zero else suc (index_of p (spots c)))) same) ∙ e)
      (λ other. value_there n c p other ∙ index_value c p x (sym (ap (λ (b : Bool). slice_get (values (elements (n ∷ c))) (if b then zero else suc (index_of p (spots c)))) other) ∙ e))

  at_mid : (b a : Nodes X) (p : Ptr) (e : Element X) → AreDistinct (spots (b ++ (p, e) ∷ a)) → value_at (b ++ (p, e) ∷ a) p ≡ Some e.value
  at_mid [] a p e d = value_here (p, e) a p (same_ptr_refl p)
  at_mid (m ∷ b) a p e d = value_there m (b ++ (p, e) ∷ a) p (other_way m.0 p (new_of_mid b a p e m.0 d.0)) ∙ at_mid b a p e d.1

  pub held_value : (c : Nodes X) (p : Ptr) (w : X) → AreDistinct (spots c) → HoldsAt c p w → value_at c p ≡ Some w
  held_value c p w d (b, id, a, was) = ap (λ z. value_at z p) was ∙ at_mid b a p (record { id = id; value = w }) (subst (λ z. AreDistinct (spots z)) was d)

  pub distinct_left : (b a : Nodes X) (p : Ptr) (e : Element X) → AreDistinct (spots (b ++ (p, e) ∷ a)) → AreDistinct (spots (b ++ a))
  distinct_left [] a p e d = d.1
  distinct_left (m ∷ b) a p e d = (gone_after b a p e m.0 d.0, distinct_left b a p e d.1)
