-- Which node is the first once a node came or left.
use Rattle.std.proofs.Common.{◌≡◌, inl, inr, Bool, true, false, if◌then◌else◌, List, [], ◌∷◌, ◌++◌, refl, sym, ap, ◌∙◌, subst, append_assoc}
use Rattle.std.specs.Bool.{MatchBool}
use denote.RawPtr.{Ptr, null_ptr, InBlock}
use Rattle.cordyceps_base.specs.Spots.{IsNew, AreDistinct}
use Rattle.cordyceps_base.proofs.SpotsMemory.{same_ptr_refl}
use Rattle.cordyceps_base.specs.declared.boxes.Address.{Address}
use Rattle.cordyceps_tree.specs.declared.hook.Hook.{Hook}
use Rattle.cordyceps_tree.specs.Trees.{Shape, leaf, node, flat, Linked, first_in, is_none, IsNeighbour}

abbrev head_of : Ptr → List Ptr → Ptr
head_of d [] = d
head_of d (x ∷ s) = x

abbrev tail_of : List Ptr → List Ptr
tail_of [] = []
tail_of (x ∷ s) = s

new_in : (p : Ptr) (a b : List Ptr) → IsNew p (a ++ p ∷ b) → ⊥
new_in p [] b n = let same = same_ptr_refl p in let no = n.0 in absurd cc
new_in p (x ∷ a) b n = new_in p a b n.1

-- a spot stands once
pub same_split : (a b c d : List Ptr) (p : Ptr) → AreDistinct (a ++ p ∷ b) → a ++ p ∷ b ≡ c ++ p ∷ d → (a ≡ c) × (b ≡ d)
same_split [] b [] d p o e = (refl, ap tail_of e)
same_split [] b (x ∷ c) d p o e = let rest : b ≡ c ++ p ∷ d = ap tail_of e in absurd (new_in p c d (subst (IsNew p) rest o.0))
same_split (x ∷ a) b [] d p o e =
    let first : x ≡ p = ap (head_of x) e in absurd (new_in p a b (subst (λ z. IsNew z (a ++ p ∷ b)) first o.0))
same_split (x ∷ a) b (y ∷ c) d p o e =
    let first : x ≡ y = ap (head_of x) e in let r = same_split a b c d p o.1 (ap tail_of e) in ((λ i. first i ∷ r.0 i), r.1)

some_first : (a b c : List Ptr) → is_none a ≡ false → first_in (a ++ b) ≡ first_in (a ++ c)
some_first [] b c e = absurd cc
some_first (x ∷ a) b c e = refl

-- a subtree that has a node
pub some_left : (f : Ptr → Hook) (q h : Ptr) (t : Shape) (a : List Ptr) → Linked f q false h t → InBlock h → is_none (a ++ flat t) ≡ false
some_left f q h leaf a w solid = absurd (subst InBlock w solid)
some_left f q h (node x p y) a w solid = go a (flat x) where
  go : (a b : List Ptr) → is_none (a ++ (b ++ p ∷ flat y)) ≡ false
  go [] [] = refl
  go [] (z ∷ b) = refl
  go (z ∷ a) b = refl

-- where a node came in between those at a and those at b; once the rest was c
pub first_put : (is_first : Bool) (at old : Address) (a b c : List Ptr) → is_first ≡ is_none a → old.ptr ≡ first_in (a ++ c) → (if is_first then at else old).ptr ≡ first_in (a ++ at.ptr ∷ b)
first_put true at old [] b c e o = refl
first_put true at old (x ∷ a) b c e o = absurd cc
first_put false at old [] b c e o = absurd cc
first_put false at old (x ∷ a) b c e o = o

not_none : (x : List Ptr) (q : Ptr) → is_none (x ++ q ∷ []) ≡ false
not_none [] q = refl
not_none (y ∷ x) q = refl

empty : (a : List Ptr) → true ≡ is_none a → a ≡ []
empty [] e = refl
empty (x ∷ a) e = absurd cc

module _ (ps : List Ptr) (p : Ptr) (distinct : AreDistinct ps) (a b : List Ptr) (is : ps ≡ a ++ p ∷ b) where
  -- whether a node is ahead of the one at p
  pub some_ahead : (x y : List Ptr) → ps ≡ x ++ p ∷ y → is_none x ≡ false → false ≡ is_none a
  some_ahead x y o some =
      let same = same_split a b x y p (subst AreDistinct is distinct) (sym is ∙ o) in sym (ap is_none same.0 ∙ some)

  pub none_ahead : (r : Bool) (q : Ptr) → IsNeighbour false ps p q → MatchBool r (q ≡ null_ptr) (InBlock q) → r ≡ is_none a
  none_ahead true q w m = elim w [
    | inl u ↦ absurd (subst InBlock m u.3)
    | inr u ↦ (let same = same_split a b [] u.0 p (subst AreDistinct is distinct) (sym is ∙ u.1) in sym (ap is_none same.0))
  ]
  none_ahead false q w m = elim w [
    | inl u ↦ some_ahead (u.0 ++ q ∷ []) u.1 (u.2 ∙ sym (append_assoc u.0 (q ∷ []) (p ∷ u.1))) (not_none u.0 q)
    | inr u ↦ absurd (subst InBlock u.2 m)
  ]

  -- where the first one leaves
  pub first_next : (r : Ptr) (y : List Ptr) → ps ≡ p ∷ y → IsNeighbour true ps p r → r ≡ first_in (a ++ b)
  first_next r y o w =
      let same = same_split a b [] y p (subst AreDistinct is distinct) (sym is ∙ o) in
      elim w [
        | inl u ↦ (let two = same_split a b u.0 (r ∷ u.1) p (subst AreDistinct is distinct) (sym is ∙ u.2) in sym (λ i. first_in (same.0 i ++ two.1 i)))
        | inr u ↦ (let two = same_split a b u.0 [] p (subst AreDistinct is distinct) (sym is ∙ u.1) in u.2 ∙ sym (λ i. first_in (same.0 i ++ two.1 i)))
      ]

  -- where one leaves that has none ahead, and one that has
  pub first_leaves : (r : Ptr) → true ≡ is_none a → IsNeighbour true ps p r → r ≡ first_in (a ++ b)
  first_leaves r none w = first_next r b (is ∙ ap (λ z. z ++ p ∷ b) (empty a none)) w

  pub first_stays : (r : Ptr) → r ≡ first_in ps → false ≡ is_none a → r ≡ first_in (a ++ b)
  first_stays r e some = e ∙ ap first_in is ∙ some_first a (p ∷ b) b (sym some)
