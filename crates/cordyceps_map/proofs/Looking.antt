-- What a key's lookup finds among the nodes.
use Rattle.std.proofs.Common.{◌≡◌, Bool, true, false, List, [], ◌∷◌, ◌++◌, Option, Some, None, refl, sym, ap, ◌∙◌, subst, cond, MatchOption, is_some}
use Rattle.std.specs.Map.{lookup, lookup_entry}
use denote.RawPtr.{Ptr}
use Rattle.cordyceps_base.specs.Element.{Element}
use Rattle.cordyceps_base.specs.Nodes.{Nodes, spots}
use Rattle.cordyceps_base.specs.Spots.{same_ptr, AreDistinct}
use Rattle.cordyceps_base.proofs.SpotsMemory.{same_ptr_refl}
use Rattle.cordyceps_many.specs.Entries.{value_at}
use Rattle.cordyceps_many.proofs.Threads.{split, differ}
use Rattle.cordyceps_map.specs.StableMap.{pairs, IsFound}
use Rattle.cordyceps_many.proofs.Fewer.{new_out}
use Rattle.cordyceps_many.proofs.ValueAt.{value_here, value_there, value_in}

-- by pairs of a key and a value, as a contract sees them
module _ {K V : Type 0} (eq : K → K → Bool) (k : K) where
  -- a value in the tail of distinct nodes is one of the whole
  from_tail : (n : Ptr × Element (K × V)) (c : Nodes (K × V)) (q : Ptr) (x : K × V) → AreDistinct (spots (n ∷ c)) → value_at c q ≡ Some x → same_ptr q n.0 ≡ false
  from_tail n c q x d v = differ q n.0 (spots c) (value_in c q x v) (new_out n.0 (spots c) d.0)

  pub absent : (c : Nodes (K × V)) → AreDistinct (spots c) → ((q : Ptr) (x : K × V) → value_at c q ≡ Some x → eq k x.0 ≡ false) → lookup_entry (eq k) (pairs c) ≡ None
  absent [] d none = refl
  absent (n ∷ c) d none =
      ap (λ (b : Bool). cond b (Some n.1.value) (lookup_entry (eq k) (pairs c))) (none n.0 n.1.value (value_here n c n.0 (same_ptr_refl n.0)))
      ∙ absent c d.1 (λ q x v. none q x (value_there n c q (from_tail n c q x d v) ∙ v))

  pub none_found : (c : Nodes (K × V)) → lookup_entry (eq k) (pairs c) ≡ None → (q : Ptr) (x : K × V) → value_at c q ≡ Some x → eq k x.0 ≡ false
  none_found [] e q x v = absurd cc
  none_found (n ∷ c) e q x v = split (eq k n.1.value.0)
      (λ yes. let t = sym (ap (λ (b : Bool). cond b (Some n.1.value) (lookup_entry (eq k) (pairs c))) yes) ∙ e in absurd cc)
      (λ no. split (same_ptr q n.0)
      (λ same. let is : n.1.value ≡ x = let t = sym (value_here n c q same) ∙ v in cc in subst (λ (z : K × V). eq k z.0 ≡ false) is no)
      (λ other. none_found c (sym (ap (λ (b : Bool). cond b (Some n.1.value) (lookup_entry (eq k) (pairs c))) no) ∙ e) q x (sym (value_there n c q other) ∙ v)))

  pub present : (c : Nodes (K × V)) → AreDistinct (spots c) → (p : Ptr) (x : K × V) → value_at c p ≡ Some x → eq k x.0 ≡ true → ((q : Ptr) (y : K × V) → value_at c q ≡ Some y → eq k y.0 ≡ true → q ≡ p) → lookup_entry (eq k) (pairs c) ≡ Some x
  present [] d p x v same only = absurd cc
  present (n ∷ c) d p x v same only = split (eq k n.1.value.0)
      (λ yes. let here : n.0 ≡ p = only n.0 n.1.value (value_here n c n.0 (same_ptr_refl n.0)) yes in
      let is : n.1.value ≡ x = let t = sym (value_here n c p (subst (λ z. same_ptr z n.0 ≡ true) here (same_ptr_refl n.0))) ∙ v in cc in
      ap (λ (b : Bool). cond b (Some n.1.value) (lookup_entry (eq k) (pairs c))) yes ∙ ap (λ z. Some z) is)
      (λ no. split (same_ptr p n.0)
      (λ here. let is : n.1.value ≡ x = let t = sym (value_here n c p here) ∙ v in cc in let t = subst (λ (z : K × V). eq k z.0 ≡ false) is no in absurd cc)
      (λ other. ap (λ (b : Bool). cond b (Some n.1.value) (lookup_entry (eq k) (pairs c))) no
      ∙ present c d.1 p x (sym (value_there n c p other) ∙ v) same (λ q y w. only q y (value_there n c q (from_tail n c q y d w) ∙ w))))

  -- the value of the entry that is found
  pub value_of_entry : (s : List (K × V)) (x : K × V) → lookup_entry (eq k) s ≡ Some x → lookup (eq k) s ≡ Some x.1
  value_of_entry [] x e = absurd cc
  value_of_entry (y ∷ s) x e = split (eq k y.0)
      (λ yes. let t = sym (ap (λ (b : Bool). cond b (Some y) (lookup_entry (eq k) s)) yes) ∙ e in let is : y ≡ x = cc in ap (λ (b : Bool). cond b (Some y.1) (lookup (eq k) s)) yes ∙ ap (λ (z : K × V). Some z.1) is)
      (λ no. ap (λ (b : Bool). cond b (Some y.1) (lookup (eq k) s)) no ∙ value_of_entry s x (sym (ap (λ (b : Bool). cond b (Some y) (lookup_entry (eq k) s)) no) ∙ e))

  -- a key that no pair has is that of no node
  pub none_there : (c : Nodes (K × V)) → lookup (eq k) (pairs c) ≡ None → (p : Ptr) → IsFound eq c k p → ⊥
  none_there c none p f = let t = sym none ∙ value_of_entry (pairs c) f.pair f.found in cc

  pub none_of_entry : (s : List (K × V)) → lookup_entry (eq k) s ≡ None → lookup (eq k) s ≡ None
  none_of_entry [] e = refl
  none_of_entry (y ∷ s) e = split (eq k y.0)
      (λ yes. let t = sym (ap (λ (b : Bool). cond b (Some y) (lookup_entry (eq k) s)) yes) ∙ e in absurd cc)
      (λ no. ap (λ (b : Bool). cond b (Some y.1) (lookup (eq k) s)) no ∙ none_of_entry s (sym (ap (λ (b : Bool). cond b (Some y) (lookup_entry (eq k) s)) no) ∙ e))

  pub entry_of_none : (s : List (K × V)) → lookup (eq k) s ≡ None → lookup_entry (eq k) s ≡ None
  entry_of_none [] e = refl
  entry_of_none (y ∷ s) e = split (eq k y.0)
      (λ found. let t = sym (ap (λ (b : Bool). cond b (Some y.1) (lookup (eq k) s)) found) ∙ e in absurd cc)
      (λ other. ap (λ (b : Bool). cond b (Some y) (lookup_entry (eq k) s)) other ∙ entry_of_none s (sym (ap (λ (b : Bool). cond b (Some y.1) (lookup (eq k) s)) other) ∙ e))

  pub found_some : (c : Nodes (K × V)) (o : Option Ptr) → MatchOption o (lookup (eq k) (pairs c) ≡ None) (λ p. IsFound eq c k p) → is_some o ≡ is_some (lookup (eq k) (pairs c))
  found_some c None e = ap is_some (sym e)
  found_some c (Some p) f = ap is_some (sym (value_of_entry (pairs c) f.pair f.found))

  -- a node that comes after others, none of which has the key
  pub found_joined : (c : Nodes (K × V)) (p : Ptr) (m : Element (K × V)) → lookup (eq k) (pairs c) ≡ None → eq k m.value.0 ≡ true → lookup (eq k) (pairs (c ++ (p, m) ∷ [])) ≡ Some m.value.1
  found_joined [] p m e same = ap (λ (b : Bool). cond b (Some m.value.1) None) same
  found_joined (n ∷ c) p m e same = split (eq k n.1.value.0)
      (λ found. let t = sym (ap (λ (b : Bool). cond b (Some n.1.value.1) (lookup (eq k) (pairs c))) found) ∙ e in absurd cc)
      (λ other. ap (λ (b : Bool). cond b (Some n.1.value.1) (lookup (eq k) (pairs (c ++ (p, m) ∷ [])))) other
      ∙ found_joined c p m (sym (ap (λ (b : Bool). cond b (Some n.1.value.1) (lookup (eq k) (pairs c))) other) ∙ e) same)
