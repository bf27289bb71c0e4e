-- What a call may read: the hooks of a tree lead to nodes of the row, or nowhere.
use Rattle.std.proofs.Common.{◌≡◌, inl, ◌<◌, Bool, true, false, not, if◌then◌else◌, List, [], ◌∷◌, refl, sym, ap, ◌∙◌, subst, arith}
use lib.Dec.{lit<}
use denote.RawPtr.{Ptr, null_ptr}
use Rattle.cordyceps_base.specs.declared.boxes.Address.{Address}
use Rattle.cordyceps_base.specs.Spots.{same_ptr, IsNullComparable, AreNullComparable}
use Rattle.cordyceps_base.proofs.SpotsMemory.{same_ptr_eq}
use Rattle.cordyceps_tree.specs.declared.hook.Hook.{Hook}
use Rattle.cordyceps_tree.specs.Trees.{is_in, Reaches, kid, Shape, leaf, node, join, In, Linked, height_at, CanTurn}
use Rattle.cordyceps_tree.proofs.Trees.{Joined, unjoin, in_here, in_there, in_top, height_known, height_join}

split_bool : {P : Type 0} (b : Bool) → (b ≡ true → P) → (b ≡ false → P) → P
split_bool true y n = y refl
split_bool false y n = n refl

pub null_reaches : (ps : List Ptr) → Reaches null_ptr ps
null_reaches ps = record { testable = lit< tt; there = λ b. absurd b }

pub comparable_in : (s : List Ptr) (p : Ptr) → AreNullComparable s → is_in p s ≡ true → IsNullComparable p
comparable_in [] p a e = absurd cc
comparable_in (q ∷ s) p a e = split_bool (same_ptr p q) (λ same. subst IsNullComparable (sym (same_ptr_eq p q same)) a.0) (λ other. comparable_in s p a.1 (sym (ap (λ (b : Bool). if b then true else is_in p s) other) ∙ e))

-- a node of the row
pub in_reaches : (p : Ptr) (ps : List Ptr) → AreNullComparable ps → is_in p ps ≡ true → Reaches p ps
in_reaches p ps a e = record { testable = (comparable_in ps p a e).1; there = λ b. e }

-- the root of a tree of such nodes
pub tree_reaches : (f : Ptr → Hook) (q : Ptr) (s : Bool) (h : Ptr) (t : Shape) (ps : List Ptr) → AreNullComparable ps → Linked f q s h t → ((z : Ptr) → In z t → is_in z ps ≡ true) → Reaches h ps
tree_reaches f q s h leaf ps a w k = subst (λ z. Reaches z ps) (sym w) (null_reaches ps)
tree_reaches f q s h (node l p r) ps a w k = subst (λ z. Reaches z ps) (sym w.at) (in_reaches p ps a (k p (inl refl)))

-- ---- a rotation
module _ (f : Ptr → Hook) (ps : List Ptr) (at : Ptr) (d : Bool) (a : AreNullComparable ps) (u : CanTurn f ps at d) where
  abbrev in_it : Joined f at d (kid (f at) d).ptr d u.outer u.top u.inner
  in_it = unjoin f at d (kid (f at) d).ptr d u.outer u.top u.inner u.hangs.here

  pub turn_at : is_in at ps ≡ true
  turn_at = u.inside at (in_top d (join d u.outer u.top u.inner) at u.other)

  pub turn_top : is_in (kid (f at) d).ptr ps ≡ true
  turn_top = subst (λ z. is_in z ps ≡ true) (sym in_it.at) (u.inside u.top (in_here u.top d (join d u.outer u.top u.inner) at u.other (in_top d u.outer u.top u.inner)))

  module _ (top : Address) (read : top ≡ kid (f at) d) where
    is : top.ptr ≡ u.top
    is = ap (λ (z : Address). z.ptr) read ∙ in_it.at

    inner_tree : Linked f u.top (not d) (kid (f top.ptr) (not d)).ptr u.inner
    inner_tree = subst (λ z. Linked f u.top (not d) (kid (f z) (not d)).ptr u.inner) (sym is) in_it.there

    outer_tree : Linked f u.top d (kid (f top.ptr) d).ptr u.outer
    outer_tree = subst (λ z. Linked f u.top d (kid (f z) d).ptr u.outer) (sym is) in_it.here

    pub turn_inner : Reaches (kid (f top.ptr) (not d)).ptr ps
    turn_inner = tree_reaches f u.top (not d) (kid (f top.ptr) (not d)).ptr u.inner ps a inner_tree (λ z i. u.inside z (in_here z d (join d u.outer u.top u.inner) at u.other (in_there z d u.outer u.top u.inner i)))

    pub turn_outer : Reaches (kid (f top.ptr) d).ptr ps
    turn_outer = tree_reaches f u.top d (kid (f top.ptr) d).ptr u.outer ps a outer_tree (λ z i. u.inside z (in_here z d (join d u.outer u.top u.inner) at u.other (in_here z d u.outer u.top u.inner i)))

    pub inner_low : height_at f (kid (f top.ptr) (not d)).ptr < 250
    inner_low =
        let k = height_known f u.top (not d) (kid (f top.ptr) (not d)).ptr u.inner inner_tree in let x = height_join d u.outer u.top u.inner in let y = height_join d (join d u.outer u.top u.inner) at u.other in let z = u.fits in omega (arith, k, x, y, z)

    pub outer_low : height_at f (kid (f top.ptr) d).ptr < 250
    outer_low =
        let k = height_known f u.top d (kid (f top.ptr) d).ptr u.outer outer_tree in let x = height_join d u.outer u.top u.inner in let y = height_join d (join d u.outer u.top u.inner) at u.other in let z = u.fits in omega (arith, k, x, y, z)

  pub turn_other : Reaches (kid (f at) (not d)).ptr ps
  turn_other = tree_reaches f at (not d) (kid (f at) (not d)).ptr u.other ps a u.hangs.there (λ z i. u.inside z (in_there z d (join d u.outer u.top u.inner) at u.other i))

  pub other_low : height_at f (kid (f at) (not d)).ptr < 250
  other_low =
      let k = height_known f at (not d) (kid (f at) (not d)).ptr u.other u.hangs.there in let y = height_join d (join d u.outer u.top u.inner) at u.other in let z = u.fits in omega (arith, k, y, z)
