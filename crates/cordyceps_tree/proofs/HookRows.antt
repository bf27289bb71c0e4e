-- Reads and writes of one hook of a row.
use Rattle.std.proofs.Common.{◌≡◌, ℕ, zero, suc, Bool, true, false, if◌then◌else◌, List, [], ◌∷◌, drop, slice_get, Some, refl, sym, ap, ◌∙◌, subst}
use lib.Dec.{lit<}
use denote.RawPtr.{Ptr, null_ptr, Testable}
use Rattle.cordyceps_base.specs.Boxes.{box_addresses, box_values, set_value}
use Rattle.cordyceps_base.specs.Spots.{same_ptr, index_of, IsNullComparable, AreNullComparable}
use Rattle.cordyceps_base.proofs.SpotsMemory.{same_ptr_eq, same_ptr_refl}
use Rattle.cordyceps_tree.specs.declared.block.Block.{Block}
use Rattle.cordyceps_tree.specs.declared.hook.Hook.{Hook}
use Rattle.cordyceps_tree.specs.Trees.{is_in, Wrote}
use Rattle.cordyceps_tree.specs.Rows.{Held, block_of, block_element, nodes_of, hook_at, KeepsNodes}

pub split : {P : Type 0} (b : Bool) → (b ≡ true → P) → (b ≡ false → P) → P
split true y n = y refl
split false y n = n refl

pub other_way : (p q : Ptr) → same_ptr p q ≡ false → same_ptr q p ≡ false
other_way p q e = split (same_ptr q p) (λ t. let yes : same_ptr p q ≡ true = subst (λ r. same_ptr p r ≡ true) (sym (same_ptr_eq q p t)) (same_ptr_refl p) in absurd cc) (λ o. o)

-- two spots that differ
pub differ : (p q : Ptr) → (q ≡ p → ⊥) → same_ptr p q ≡ false
differ p q n = split (same_ptr p q) (λ t. absurd (n (sym (same_ptr_eq p q t)))) (λ o. o)

pub null_Testable : Testable null_ptr
null_Testable = lit< tt

-- ---- members
pub in_here : (p q : Ptr) (s : List Ptr) → same_ptr p q ≡ true → is_in p (q ∷ s) ≡ true
in_here p q s e = ap (λ (b : Bool). if b then true else is_in p s) e

pub in_there : (p q : Ptr) (s : List Ptr) → same_ptr p q ≡ false → is_in p (q ∷ s) ≡ is_in p s
in_there p q s e = ap (λ (b : Bool). if b then true else is_in p s) e

pub in_more : (p q : Ptr) (s : List Ptr) → is_in p s ≡ true → is_in p (q ∷ s) ≡ true
in_more p q s e = split (same_ptr p q) (λ same. in_here p q s same) (λ other. in_there p q s other ∙ e)

-- where a spot stands
pub place_of : (s : List Ptr) (p : Ptr) → is_in p s ≡ true → slice_get s (index_of p s) ≡ Some p
place_of [] p e = cc
place_of (q ∷ s) p e = split (same_ptr p q)
    (λ same. ap (λ (b : Bool). slice_get (q ∷ s) (if b then zero else suc (index_of p s))) same ∙ ap Some (sym (same_ptr_eq p q same)))
    (λ other. ap (λ (b : Bool). slice_get (q ∷ s) (if b then zero else suc (index_of p s))) other ∙ place_of s p (sym (in_there p q s other) ∙ e))

-- a spot of the row may be compared with null
pub comparable_at : (s : List Ptr) (p : Ptr) → AreNullComparable s → is_in p s ≡ true → IsNullComparable p
comparable_at [] p a e = absurd cc
comparable_at (q ∷ s) p a e = split (same_ptr p q) (λ same. subst IsNullComparable (sym (same_ptr_eq p q same)) a.0) (λ other. comparable_at s p a.1 (sym (in_there p q s other) ∙ e))

module _ {X : Type 0} where
  -- ---- reads
  pub found_there : (ns : List (Held X)) (p : Ptr) → is_in p (box_addresses ns) ≡ true → slice_get (box_addresses (drop (index_of p (box_addresses ns)) ns)) 0 ≡ Some p
  found_there [] p e = cc
  found_there (n ∷ ns) p e = split (same_ptr p n.0)
      (λ same. ap (λ (b : Bool). slice_get (box_addresses (drop (if b then zero else suc (index_of p (box_addresses ns))) (n ∷ ns))) 0) same ∙ ap Some (sym (same_ptr_eq p n.0 same)))
      (λ other. ap (λ (b : Bool). slice_get (box_addresses (drop (if b then zero else suc (index_of p (box_addresses ns))) (n ∷ ns))) 0) other ∙ found_there ns p (sym (in_there p n.0 (box_addresses ns) other) ∙ e))

  pub hook_read : (ns : List (Held X)) (p : Ptr) (b : Block X) → slice_get (box_values (drop (index_of p (box_addresses ns)) ns)) 0 ≡ Some b → hook_at ns p ≡ b.hook
  hook_read [] p b e = cc
  hook_read (n ∷ ns) p b e = split (same_ptr p n.0)
      (λ same.
      let at : Some (block_of n) ≡ Some b = sym (ap (λ (c : Bool). slice_get (box_values (drop (if c then zero else suc (index_of p (box_addresses ns))) (n ∷ ns))) 0) same) ∙ e in
      let is : block_of n ≡ b = cc in
      ap (λ (c : Bool). if c then (block_of n).hook else hook_at ns p) same ∙ ap (λ (x : Block X). x.hook) is)
      (λ other. ap (λ (c : Bool). if c then (block_of n).hook else hook_at ns p) other ∙ hook_read ns p b (sym (ap (λ (c : Bool). slice_get (box_values (drop (if c then zero else suc (index_of p (box_addresses ns))) (n ∷ ns))) 0) other) ∙ e))

  -- ---- a block is written
  at_set : (ns : List (Held X)) (p : Ptr) (w : Block X) → is_in p (box_addresses ns) ≡ true → hook_at (set_value ns (index_of p (box_addresses ns)) w) p ≡ w.hook
  at_set [] p w e = absurd cc
  at_set (n ∷ ns) p w e = split (same_ptr p n.0)
      (λ same. ap (λ (b : Bool). hook_at (set_value (n ∷ ns) (if b then zero else suc (index_of p (box_addresses ns))) w) p) same ∙ ap (λ (b : Bool). if b then w.hook else hook_at ns p) same)
      (λ other. ap (λ (b : Bool). hook_at (set_value (n ∷ ns) (if b then zero else suc (index_of p (box_addresses ns))) w) p) other ∙ ap (λ (b : Bool). if b then (block_of n).hook else hook_at (set_value ns (index_of p (box_addresses ns)) w) p) other ∙ at_set ns p w (sym (in_there p n.0 (box_addresses ns) other) ∙ e))

  at_other : (ns : List (Held X)) (p q : Ptr) (w : Block X) → same_ptr p q ≡ false → hook_at (set_value ns (index_of p (box_addresses ns)) w) q ≡ hook_at ns q
  at_other [] p q w e = refl
  at_other (n ∷ ns) p q w e = split (same_ptr p n.0)
      (λ same.
      let o : same_ptr q n.0 ≡ false = subst (λ z. same_ptr q z ≡ false) (same_ptr_eq p n.0 same) (other_way p q e) in
      ap (λ (b : Bool). hook_at (set_value (n ∷ ns) (if b then zero else suc (index_of p (box_addresses ns))) w) q) same ∙ ap (λ (b : Bool). if b then w.hook else hook_at ns q) o ∙ sym (ap (λ (b : Bool). if b then (block_of n).hook else hook_at ns q) o))
      (λ other. ap (λ (b : Bool). hook_at (set_value (n ∷ ns) (if b then zero else suc (index_of p (box_addresses ns))) w) q) other ∙ ap (λ (r : Hook). if same_ptr q n.0 then (block_of n).hook else r) (at_other ns p q w e))

  pub addresses_set : (ns : List (Held X)) (k : ℕ) (w : Block X) → box_addresses (set_value ns k w) ≡ box_addresses ns
  addresses_set [] k w = refl
  addresses_set (n ∷ ns) zero w = refl
  addresses_set (n ∷ ns) (suc k) w = ap (λ ps. n.0 ∷ ps) (addresses_set ns k w)

  nodes_set : (ns : List (Held X)) (k : ℕ) (b : Block X) (h : Hook) → slice_get (box_values ns) k ≡ Some b → nodes_of (set_value ns k (record b { hook = h })) ≡ nodes_of ns
  nodes_set [] k b h e = refl
  nodes_set (n ∷ ns) zero b h e = let is : block_of n ≡ b = cc in ap (λ (x : Block X). (n.0, block_element x) ∷ nodes_of ns) (sym is)
  nodes_set (n ∷ ns) (suc k) b h e = ap (λ l. (n.0, block_element (block_of n)) ∷ l) (nodes_set ns k b h e)

  module _ (ns : List (Held X)) (p : Ptr) (b : Block X) (h : Hook) (there : is_in p (box_addresses ns) ≡ true) (at : slice_get (box_values ns) (index_of p (box_addresses ns)) ≡ Some b) where
    pub hook_wrote : Wrote (hook_at ns) p h (hook_at (set_value ns (index_of p (box_addresses ns)) (record b { hook = h })))
    hook_wrote = record {
      here = at_set ns p (record b { hook = h }) there;
      others = λ q e. at_other ns p q (record b { hook = h }) (differ p q e);
    }

    pub hook_rest : KeepsNodes ns (set_value ns (index_of p (box_addresses ns)) (record b { hook = h }))
    hook_rest = record {
      addresses = addresses_set ns (index_of p (box_addresses ns)) (record b { hook = h });
      nodes = nodes_set ns (index_of p (box_addresses ns)) b h at;
    }

  pub keeps_none : (ns : List (Held X)) → KeepsNodes ns ns
  keeps_none ns = record { addresses = refl; nodes = refl }

  pub keeps_both : (ns ms ls : List (Held X)) → KeepsNodes ns ms → KeepsNodes ms ls → KeepsNodes ns ls
  keeps_both ns ms ls a b = record { addresses = b.addresses ∙ a.addresses; nodes = b.nodes ∙ a.nodes }
