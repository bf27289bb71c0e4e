-- An entry of a map gets another value, and becomes the last used one.
use Rattle.std.proofs.Common.{◌≡◌, zero, suc, Bool, false, if◌then◌else◌, [], ◌∷◌, ◌++◌, Some, refl, sym, ap, ◌∙◌, subst, ℕ}
use Rattle.std.specs.Map.{remove_entry}
use denote.RawPtr.{Ptr}
use Rattle.cordyceps.specs.Elements.Nodes.{Nodes, spots}
use Rattle.cordyceps.specs.Spots.Spots.{same_ptr, index_of}
use Rattle.cordyceps.proofs.Spots.{same_ptr_eq}
use Rattle.cordyceps.specs.Spots.Entries.{value_at}
use Rattle.cordyceps.specs.Spots.MultiList.{list_at}
use Rattle.cordyceps.specs.Spots.Threads.{without}
use Rattle.cordyceps.proofs.Spots.Threads.{split, differ, without_gone}
use Rattle.cordyceps.proofs.Spots.ValueAt.{value_here, value_there}
use Rattle.cordyceps.specs.Spots.MapLends.{with_second, with_value_at}
use Rattle.cordyceps.specs.Spots.StableMap.{Mapped}
use Rattle.cordyceps_uses.specs.Keyed.{in_order, order, moved_back, IsAt, IsSound}
use Rattle.cordyceps_uses.proofs.ByKey.{once_of, same_test, found_by, order_without}
use Rattle.cordyceps_uses.proofs.Ordered.{moved_here, framed}

module _ {K V : Type 0} where
  second_here : (c : Nodes (K × V)) (p : Ptr) (x : K × V) (w : V) → value_at c p ≡ Some x → value_at (with_second c (index_of p (spots c)) w) p ≡ Some (x.0, w)
  second_here [] p x w e = absurd cc
  second_here (n ∷ c) p x w e = split (same_ptr p n.0)
      (λ same. let is : n.1.value ≡ x = let t = sym (value_here n c p same) ∙ e in cc in
      ap (λ (b : Bool). value_at (with_second (n ∷ c) (if b then zero else suc (index_of p (spots c))) w) p) same
      ∙ ap (λ (b : Bool). if b then Some (n.1.value.0, w) else value_at c p) same ∙ ap (λ (y : K × V). Some (y.0, w)) is)
      (λ other. ap (λ (b : Bool). value_at (with_second (n ∷ c) (if b then zero else suc (index_of p (spots c))) w) p) other
      ∙ value_there n (with_second c (index_of p (spots c)) w) p other ∙ second_here c p x w (sym (value_there n c p other) ∙ e))

  second_there : (c : Nodes (K × V)) (p : Ptr) (w : V) (q : Ptr) → same_ptr q p ≡ false → value_at (with_second c (index_of p (spots c)) w) q ≡ value_at c q
  second_there [] p w q o = refl
  second_there (n ∷ c) p w q o = split (same_ptr p n.0)
      (λ same. let apart : same_ptr q n.0 ≡ false = subst (λ z. same_ptr q z ≡ false) (same_ptr_eq p n.0 same) o in
      ap (λ (b : Bool). value_at (with_second (n ∷ c) (if b then zero else suc (index_of p (spots c))) w) q) same
      ∙ ap (λ (b : Bool). if b then Some (n.1.value.0, w) else value_at c q) apart ∙ sym (value_there n c q apart))
      (λ other. ap (λ (b : Bool). value_at (with_second (n ∷ c) (if b then zero else suc (index_of p (spots c))) w) q) other
      ∙ ap (λ z. if same_ptr q n.0 then Some n.1.value else z) (second_there c p w q o))

-- the node at p has the entry of the key k; w has its nodes and its list 0, and there v is written
module _ {K V : Type 0} (eq : K → K → Bool) (m : Mapped (K × V)) (s : IsSound eq m) (k : K) (p : Ptr) (a : IsAt eq 0 m k p)
    (w : Mapped (K × V)) (nodes : w.nodes ≡ m.nodes) (zero_same : list_at 0 w.lists ≡ list_at 0 m.lists)
    (v : V) (z : IsSound eq (with_value_at w p v)) where
  abbrev n : Mapped (K × V)
  n = with_value_at w p v

  abbrev y : K × V
  y = (a.entry.0, v)

  here : value_at n.nodes p ≡ Some y
  here = second_here w.nodes p a.entry v (ap (λ c. value_at c p) nodes ∙ a.value)

  pub written_left : (i : ℕ) → in_order n.nodes (without p (list_at i m.lists)) ≡ remove_entry (eq a.entry.0) (order i m)
  written_left i =
      let l = list_at i m.lists in
      framed m.nodes n.nodes (without p l) (λ q h. second_there w.nodes p v q (differ q p (without p l) h (without_gone p l (once_of l (s.once i)))) ∙ ap (λ c. value_at c q) nodes)
      ∙ order_without eq m s p a.entry a.value i

  pub written_at : IsAt eq 0 n k p
  written_at = record { entry = y; value = here; same = a.same; found = found_by eq n z p y here k a.same }

  pub written_last : (u : Mapped (K × V)) → order 0 u ≡ moved_back (eq k) (order 0 n) → order 0 u ≡ remove_entry (eq k) (order 0 m) ++ y ∷ []
  written_last u moved =
      let there = found_by eq n z p y here a.entry.0 (s.laws.refl a.entry.0) in
      moved ∙ ap (λ f. moved_back f (order 0 n)) (same_test eq n z k a.entry.0 a.same) ∙ moved_here (eq a.entry.0) (order 0 n) y there
      ∙ ap (λ l. l ++ y ∷ []) (sym (order_without eq n z p y here 0) ∙ ap (λ l. in_order n.nodes (without p l)) zero_same ∙ written_left 0)
      ∙ ap (λ f. remove_entry f (order 0 m) ++ y ∷ []) (sym (same_test eq m s k a.entry.0 a.same))
