-- A row in two parts, and a row with one node more.
use Rattle.std.proofs.Common.{◌≡◌, inl, inr, ℕ, zero, suc, Bool, true, false, if◌then◌else◌, List, [], ◌∷◌, ◌++◌, take, drop, refl, sym, ap, ◌∙◌, subst, append_assoc}
use Rattle.std.proofs.lemmas.List.{take-append-drop}
use denote.RawPtr.{Ptr}
use Rattle.cordyceps_base.specs.Boxes.{box_addresses}
use Rattle.cordyceps_base.specs.Spots.{same_ptr, index_of, IsNew, AreDistinct}
use Rattle.cordyceps_base.proofs.SpotsMemory.{same_ptr_refl}
use Rattle.cordyceps_tree.specs.declared.hook.Hook.{Hook}
use Rattle.cordyceps_tree.specs.Trees.{IsBeside}
use Rattle.cordyceps_tree.specs.Rows.{Held, hook_at, block_of}
use Rattle.cordyceps_tree.proofs.HookRows.{other_way, differ}

new_at : (p x : Ptr) (a b : List Ptr) → IsNew x (a ++ p ∷ b) → same_ptr p x ≡ false
new_at p x [] b n = other_way x p n.0
new_at p x (y ∷ a) b n = new_at p x a b n.1

module _ {X : Type 0} where
  pub record Parts (ns : List (Held X)) (p : Ptr) (a b : List Ptr) : Type 0 where
    pub node : Held X
    pub rest : List (Held X)
    pub ahead : box_addresses (take (index_of p (box_addresses ns)) ns) ≡ a
    pub back : drop (index_of p (box_addresses ns)) ns ≡ node ∷ rest
    pub at : node.0 ≡ p
    pub behind : box_addresses rest ≡ b

  pub parts : (ns : List (Held X)) (p : Ptr) (a b : List Ptr) → AreDistinct (box_addresses ns) → box_addresses ns ≡ a ++ p ∷ b → Parts ns p a b
  parts [] p [] b d e = absurd cc
  parts [] p (x ∷ a) b d e = absurd cc
  parts (n ∷ ns) p [] b d e =
      let here : n.0 ≡ p = cc in let more : box_addresses ns ≡ b = cc in
      let same : same_ptr p n.0 ≡ true = subst (λ z. same_ptr p z ≡ true) (sym here) (same_ptr_refl p) in
      let k : index_of p (box_addresses (n ∷ ns)) ≡ zero = ap (λ (c : Bool). if c then zero else suc (index_of p (box_addresses ns))) same in
      record { node = n; rest = ns; ahead = ap (λ z. box_addresses (take z (n ∷ ns))) k; back = ap (λ z. drop z (n ∷ ns)) k; at = here; behind = more }
  parts (n ∷ ns) p (x ∷ a) b d e =
      let here : n.0 ≡ x = cc in let more : box_addresses ns ≡ a ++ p ∷ b = cc in
      let other : same_ptr p n.0 ≡ false = new_at p n.0 a b (subst (IsNew n.0) more d.0) in
      let k : index_of p (box_addresses (n ∷ ns)) ≡ suc (index_of p (box_addresses ns)) = ap (λ (c : Bool). if c then zero else suc (index_of p (box_addresses ns))) other in
      let u = parts ns p a b d.1 more in
      record {
        node = u.node;
        rest = u.rest;
        ahead = ap (λ z. box_addresses (take z (n ∷ ns))) k ∙ (λ i. here i ∷ u.ahead i);
        back = ap (λ z. drop z (n ∷ ns)) k ∙ u.back;
        at = u.at;
        behind = u.behind;
      }

  pub addresses_join : (xs ys : List (Held X)) → box_addresses (xs ++ ys) ≡ box_addresses xs ++ box_addresses ys
  addresses_join [] ys = refl
  addresses_join (x ∷ xs) ys = ap (λ s. x.0 ∷ s) (addresses_join xs ys)

  none_at : (ns : List (Held X)) → box_addresses ns ≡ [] → ns ≡ []
  none_at [] e = refl
  none_at (n ∷ ns) e = absurd cc

  module _ (ns : List (Held X)) (p : Ptr) (a b : List Ptr) (d : AreDistinct (box_addresses ns)) (e : box_addresses ns ≡ a ++ b) where
    abbrev k : ℕ
    k = index_of p (box_addresses ns)

    pub left_parted : IsBeside p false a b → (box_addresses (take k ns) ≡ a) × (box_addresses (drop k ns) ≡ b) × (ns ≡ take k ns ++ drop k ns)
    left_parted w = elim w [
      | inl u ↦ (let (rest, is) = u in
          let v = parts ns p a rest d (e ∙ ap (λ z. a ++ z) is) in
          (v.ahead, ap box_addresses v.back ∙ (λ i. v.at i ∷ v.behind i) ∙ sym is, sym (take-append-drop k ns)))
      | inr u ↦ (let none : ns ≡ [] = none_at ns (e ∙ (λ i. u.0 i ++ u.1 i)) in
          (ap (λ (z : List (Held X)). box_addresses (take (index_of p (box_addresses z)) z)) none ∙ sym u.0, ap (λ (z : List (Held X)). box_addresses (drop (index_of p (box_addresses z)) z)) none ∙ sym u.1, sym (take-append-drop k ns)))
    ]

    pub right_parted : IsBeside p true a b → (box_addresses (take k ns ++ take 1 (drop k ns)) ≡ a) × (box_addresses (drop 1 (drop k ns)) ≡ b) × (ns ≡ (take k ns ++ take 1 (drop k ns)) ++ drop 1 (drop k ns))
    right_parted w = elim w [
      | inl u ↦ (let (rest, is) = u in
          let v = parts ns p rest b d (e ∙ ap (λ z. z ++ b) is ∙ append_assoc rest (p ∷ []) b) in
          let one : box_addresses (take 1 (drop k ns)) ≡ p ∷ [] = ap (λ (z : List (Held X)). box_addresses (take 1 z)) v.back ∙ ap (λ z. z ∷ []) v.at in
          (addresses_join (take k ns) (take 1 (drop k ns)) ∙ (λ i. v.ahead i ++ one i) ∙ sym is, ap (λ (z : List (Held X)). box_addresses (drop 1 z)) v.back ∙ v.behind, whole))
      | inr u ↦ (let none : ns ≡ [] = none_at ns (e ∙ (λ i. u.0 i ++ u.1 i)) in
          (ap (λ (z : List (Held X)). box_addresses (take (index_of p (box_addresses z)) z ++ take 1 (drop (index_of p (box_addresses z)) z))) none ∙ sym u.0, ap (λ (z : List (Held X)). box_addresses (drop 1 (drop (index_of p (box_addresses z)) z))) none ∙ sym u.1, whole))
    ] where
      whole : ns ≡ (take k ns ++ take 1 (drop k ns)) ++ drop 1 (drop k ns)
      whole = sym (take-append-drop k ns) ∙ ap (λ z. take k ns ++ z) (sym (take-append-drop 1 (drop k ns))) ∙ sym (append_assoc (take k ns) (take 1 (drop k ns)) (drop 1 (drop k ns)))

  -- a node more changes no other hook
  pub hooks_joined : (xs : List (Held X)) (n : Held X) (ys : List (Held X)) (q : Ptr) → (q ≡ n.0 → ⊥) → hook_at (xs ++ n ∷ ys) q ≡ hook_at (xs ++ ys) q
  hooks_joined [] n ys q e = ap (λ (b : Bool). if b then (block_of n).hook else hook_at ys q) (differ q n.0 (λ z. e (sym z)))
  hooks_joined (x ∷ xs) n ys q e = ap (λ (h : Hook). if same_ptr q x.0 then (block_of x).hook else h) (hooks_joined xs n ys q e)
