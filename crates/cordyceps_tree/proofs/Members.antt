-- The spots of a tree as a list: members, and that none comes twice.
use Rattle.std.proofs.Common.{◌≡◌, ◌⊎◌, inl, inr, Bool, true, false, if◌then◌else◌, List, [], ◌∷◌, ◌++◌, length, length-append, refl, sym, ap, ◌∙◌, subst, arith}
use denote.RawPtr.{Ptr}
use Rattle.cordyceps_base.specs.Spots.{same_ptr, IsNew, AreDistinct}
use Rattle.cordyceps_base.proofs.SpotsMemory.{same_ptr_eq, same_ptr_refl}
use Rattle.cordyceps_tree.specs.Trees.{is_in, Shape, leaf, node, flat, size, In, Sole}

split_bool : {P : Type 0} (b : Bool) → (b ≡ true → P) → (b ≡ false → P) → P
split_bool true y n = y refl
split_bool false y n = n refl

abbrev pub Among : Ptr → List Ptr → Type 0
Among a [] = ⊥
Among a (x ∷ s) = (a ≡ x) ⊎ Among a s

abbrev pub Lone : List Ptr → Type 0
Lone [] = Unit {0}
Lone (x ∷ s) = (Among x s → ⊥) × Lone s

pub among_front : (a : Ptr) (xs ys : List Ptr) → Among a xs → Among a (xs ++ ys)
among_front a [] ys i = absurd i
among_front a (x ∷ xs) ys i = elim i [ inl e ↦ inl e | inr j ↦ inr (among_front a xs ys j) ]

pub among_back : (a : Ptr) (xs ys : List Ptr) → Among a ys → Among a (xs ++ ys)
among_back a [] ys i = i
among_back a (x ∷ xs) ys i = inr (among_back a xs ys i)

pub among_one : {C : Type 0} (a : Ptr) (xs ys : List Ptr) → Among a (xs ++ ys) → (Among a xs → C) → (Among a ys → C) → C
among_one a [] ys i u v = v i
among_one a (x ∷ xs) ys i u v = elim i [ inl e ↦ u (inl e) | inr j ↦ among_one a xs ys j (λ k. u (inr k)) v ]

pub in_among : (a : Ptr) (t : Shape) → In a t → Among a (flat t)
in_among a leaf i = absurd i
in_among a (node l p r) i = elim i [
  | inl e ↦ among_back a (flat l) (p ∷ flat r) (inl e)
  | inr j ↦ elim j [ inl k ↦ among_front a (flat l) (p ∷ flat r) (in_among a l k) | inr k ↦ among_back a (flat l) (p ∷ flat r) (inr (in_among a r k)) ]
]

pub among_in : (a : Ptr) (t : Shape) → Among a (flat t) → In a t
among_in a leaf i = absurd i
among_in a (node l p r) i = among_one a (flat l) (p ∷ flat r) i (λ k. inr (inl (among_in a l k))) (λ k. elim k [ inl e ↦ inl e | inr m ↦ inr (inr (among_in a r m)) ])

pub lone_parts : (xs ys : List Ptr) → Lone (xs ++ ys) → Lone xs × Lone ys × ((a : Ptr) → Among a xs → Among a ys → ⊥)
lone_parts [] ys o = (tt, o, λ a i j. i)
lone_parts (x ∷ xs) ys (n, o) =
    let r = lone_parts xs ys o in
    ((λ i. n (among_front x xs ys i), r.0), r.1, λ a i j. elim i [ inl e ↦ n (among_back x xs ys (subst (λ z. Among z ys) e j)) | inr k ↦ r.2 a k j ])

pub lone_both : (xs ys : List Ptr) → Lone xs → Lone ys → ((a : Ptr) → Among a xs → Among a ys → ⊥) → Lone (xs ++ ys)
lone_both [] ys o q k = q
lone_both (x ∷ xs) ys (n, o) q k = (λ i. among_one x xs ys i n (λ j. k x (inl refl) j), lone_both xs ys o q (λ a i j. k a (inr i) j))

pub lone_sole : (t : Shape) → Lone (flat t) → Sole t
lone_sole leaf o = tt
lone_sole (node l p r) o =
    let u = lone_parts (flat l) (p ∷ flat r) o in
    (λ i. u.2 p (in_among p l i) (inl refl), λ i. u.1.0 (in_among p r i), λ a i j. u.2 a (in_among a l i) (inr (in_among a r j)), lone_sole l u.0, lone_sole r u.1.1)

pub sole_lone : (t : Shape) → Sole t → Lone (flat t)
sole_lone leaf o = tt
sole_lone (node l p r) (nl, nr, k, x, y) =
    lone_both (flat l) (p ∷ flat r) (sole_lone l x) (λ i. nr (among_in p r i), sole_lone r y)
    (λ a i j. elim j [ inl e ↦ nl (subst (λ z. In z l) e (among_in a l i)) | inr m ↦ k a (among_in a l i) (among_in a r m) ])

-- trees of the same spots in order
pub sole_same : (t u : Shape) → flat u ≡ flat t → Sole t → Sole u
sole_same t u e o = lone_sole u (subst Lone (sym e) (sole_lone t o))

pub in_same : (t u : Shape) → flat u ≡ flat t → (a : Ptr) → In a u → In a t
in_same t u e a i = among_in a t (subst (Among a) e (in_among a u i))

-- ---- lists of a row
among_is : (a : Ptr) (s : List Ptr) → Among a s → is_in a s ≡ true
among_is a [] i = absurd i
among_is a (x ∷ s) i = elim i [
  | inl e ↦ ap (λ (b : Bool). if b then true else is_in a s) (subst (λ z. same_ptr a z ≡ true) e (same_ptr_refl a))
  | inr j ↦ split_bool (same_ptr a x) (λ y. ap (λ (b : Bool). if b then true else is_in a s) y) (λ n. ap (λ (b : Bool). if b then true else is_in a s) n ∙ among_is a s j)
]

is_among : (a : Ptr) (s : List Ptr) → is_in a s ≡ true → Among a s
is_among a [] e = absurd cc
is_among a (x ∷ s) e = split_bool (same_ptr a x) (λ y. inl (same_ptr_eq a x y)) (λ n. inr (is_among a s (sym (ap (λ (b : Bool). if b then true else is_in a s) n) ∙ e)))

pub in_row : (t : Shape) (s : List Ptr) → flat t ≡ s → (a : Ptr) → In a t → is_in a s ≡ true
in_row t s e a i = among_is a s (subst (Among a) e (in_among a t i))

pub row_in : (t : Shape) (s : List Ptr) → flat t ≡ s → (a : Ptr) → is_in a s ≡ true → In a t
row_in t s e a i = among_in a t (subst (Among a) (sym e) (is_among a s i))

new_away : (p : Ptr) (s : List Ptr) → IsNew p s → Among p s → ⊥
new_away p [] n i = i
new_away p (x ∷ s) (d, n) i = elim i [
  | inl e ↦ let same : same_ptr p x ≡ true = subst (λ z. same_ptr p z ≡ true) e (same_ptr_refl p) in absurd cc
  | inr j ↦ new_away p s n j
]

distinct_lone : (s : List Ptr) → AreDistinct s → Lone s
distinct_lone [] d = tt
distinct_lone (x ∷ s) (n, d) = (new_away x s n, distinct_lone s d)

pub row_sole : (t : Shape) (s : List Ptr) → flat t ≡ s → AreDistinct s → Sole t
row_sole t s e d = lone_sole t (subst Lone (sym e) (distinct_lone s d))

pub size_flat : (t : Shape) → length (flat t) ≡ size t
size_flat leaf = refl
size_flat (node l p r) = let a = length-append (flat l) (p ∷ flat r) in let x = size_flat l in let y = size_flat r in omega (arith, a, x, y)
