-- Trees of spots: their order, height and balance, and how the hooks of nodes lead through them.
use Rattle.std.specs.Prelude.{◌≡◌, ◌⊎◌, ◌≤◌, ℕ, zero, suc, ◌+◌, Bool, true, false, not, List, [], ◌∷◌, ◌++◌, max, if◌then◌else◌}
use denote.RawPtr.{Ptr, null_ptr, block_ptr, InBlock, Testable}
use Rattle.cordyceps_base.specs.declared.boxes.Address.{Address}
use Rattle.cordyceps_base.specs.Spots.{same_ptr}
use Rattle.cordyceps_tree.specs.declared.hook.Hook.{Hook}

-- whether p is in a list
abbrev pub is_in : Ptr → List Ptr → Bool
is_in p [] = false
is_in p (q ∷ s) = if same_ptr p q then true else is_in p s

-- p may be compared with null, and where it is not null a node of the spots ps is there
pub record Reaches (p : Ptr) (ps : List Ptr) : Type 0 where
  pub testable : Testable p
  pub there : InBlock p → is_in p ps ≡ true

-- ---- hooks
abbrev pub nowhere : Address
nowhere = record { ptr = null_ptr }

-- the hook of a node that is in no tree
abbrev pub no_hook : Hook
no_hook = record { left = nowhere; right = nowhere; up = nowhere; height = 0; side = false }

-- the child on a side
abbrev pub kid : Hook → Bool → Address
kid h false = h.left
kid h true = h.right

abbrev pub with_kid : Hook → Bool → Address → Hook
with_kid h false p = record h { left = p }
with_kid h true p = record h { right = p }

abbrev pub under : Hook → Address → Bool → Hook
under h p s = record h { up = p; side = s }

abbrev pub high : Hook → ℕ → Hook
high h n = record h { height = n }

-- ---- shapes
-- a tree of spots
pub data Shape : Type 0 where
  leaf : Shape
  node : Shape → Ptr → Shape → Shape

-- the node p with x on a side, and y on the other
abbrev pub join : Bool → Shape → Ptr → Shape → Shape
join false x p y = node x p y
join true x p y = node y p x

-- its spots, in order
abbrev pub flat : Shape → List Ptr
flat leaf = []
flat (node l p r) = flat l ++ p ∷ flat r

abbrev pub height : Shape → ℕ
height leaf = 0
height (node l p r) = suc (max (height l) (height r))

abbrev pub size : Shape → ℕ
size leaf = 0
size (node l p r) = suc (size l + size r)

-- p is one of its spots
abbrev pub In : Ptr → Shape → Type 0
In a leaf = ⊥
In a (node l p r) = (a ≡ p) ⊎ (In a l ⊎ In a r)

-- no spot comes twice
abbrev pub Sole : Shape → Type 0
Sole leaf = Unit {0}
Sole (node l p r) = (In p l → ⊥) × (In p r → ⊥) × ((a : Ptr) → In a l → In a r → ⊥) × Sole l × Sole r

-- two heights that differ by one at most
abbrev pub Close : ℕ → ℕ → Type 0
Close a b = (a ≤ suc b) × (b ≤ suc a)

-- the heights of the two subtrees of each node differ by one at most
abbrev pub Balanced : Shape → Type 0
Balanced leaf = Unit {0}
Balanced (node l p r) = Close (height l) (height r) × Balanced l × Balanced r

-- ---- hooks that lead through a shape
-- h leads to p, a node on side s of q that knows the height n; L and R are said of its children
pub record LeadsTo (f : Ptr → Hook) (q : Ptr) (s : Bool) (h p : Ptr) (n : ℕ) (L R : Type 0) : Type 0 where
  pub at : h ≡ p
  pub solid : InBlock p
  pub up : (f p).up.ptr ≡ q
  pub side : (f p).side ≡ s
  pub tall : (f p).height ≡ n
  pub left : L
  pub right : R

-- h leads to the root, which is on side s of q; each node leads to its children and its parent, and knows its height
abbrev pub Linked : (Ptr → Hook) → Ptr → Bool → Ptr → Shape → Type 0
Linked f q s h leaf = h ≡ null_ptr
Linked f q s h (node l p r) =
    LeadsTo f q s h p (suc (max (height l) (height r)))
    (Linked f p false (f p).left.ptr l) (Linked f p true (f p).right.ptr r)

-- the node p is on side s of q, with x on side d, and y on the other; its height may be any
pub record Hangs (f : Ptr → Hook) (q : Ptr) (s : Bool) (d : Bool) (x : Shape) (p : Ptr) (y : Shape) : Type 0 where
  pub solid : InBlock p
  pub up : (f p).up.ptr ≡ q
  pub side : (f p).side ≡ s
  pub here : Linked f p d (kid (f p) d).ptr x
  pub there : Linked f p (not d) (kid (f p) (not d)).ptr y

-- what a rotation at p makes of it: c goes up, and m to p
abbrev pub turned : Bool → Shape → Ptr → Shape → Ptr → Shape → Shape
turned d a c m p e = join d a c (join d m p e)

-- the tree at p was turned, and its root is at r now
pub record Turned (f : Ptr → Hook) (q : Ptr) (s d : Bool) (a : Shape) (c : Ptr) (m : Shape) (p : Ptr) (e : Shape)
    (g : Ptr → Hook) (r : Ptr) : Type 0 where
  pub at : r ≡ c
  pub linked : Linked g q s c (turned d a c m p e)
  pub others : (z : Ptr) → (In z (join d (join d a c m) p e) → ⊥) → g z ≡ f z

-- the tree with x on side d of p, and y on the other, got another shape and is balanced, and its root is at r now
pub record Mended (f : Ptr → Hook) (q : Ptr) (s d : Bool) (x : Shape) (p : Ptr) (y : Shape) (g : Ptr → Hook) (r : Ptr)
    : Type 0 where
  pub shape : Shape
  pub order : flat shape ≡ flat (join d x p y)
  pub linked : Linked g q s r shape
  pub balanced : Balanced shape
  pub low : max (height x) (height y) ≤ height shape
  pub high : height shape ≤ suc (max (height x) (height y))
  pub level : Close (height x) (height y) → height shape ≡ suc (max (height x) (height y))
  pub others : (z : Ptr) → (In z (join d x p y) → ⊥) → g z ≡ f z

-- ---- what is around a subtree
-- a step up: on which side of which node, and what is on the other side
abbrev pub Step : Type 0
Step = Bool × Ptr × Shape

-- the tree with t at the place that the steps lead up from, the innermost first
abbrev pub plug : List Step → Shape → Shape
plug [] t = t
plug (c ∷ cs) t = plug cs (join c.0 t c.1 c.2)

-- p is one of the spots around the place
abbrev pub InSteps : Ptr → List Step → Type 0
InSteps a [] = ⊥
InSteps a ((d, p, y) ∷ cs) = (a ≡ p) ⊎ (In a y ⊎ InSteps a cs)

-- the spots before the place, and those after it
abbrev pub before : List Step → List Ptr
before [] = []
before ((false, p, y) ∷ cs) = before cs
before ((true, p, y) ∷ cs) = before cs ++ (flat y ++ p ∷ [])

abbrev pub after : List Step → List Ptr
after [] = []
after ((false, p, y) ∷ cs) = p ∷ (flat y ++ after cs)
after ((true, p, y) ∷ cs) = after cs

-- the place on side s of q, which q leads to as h, is on side d of p, and y on the other; A is said of what is above p
pub record IsBelow (f : Ptr → Hook) (q : Ptr) (s : Bool) (h : Ptr) (d : Bool) (p : Ptr) (y : Shape) (A : Type 0)
    : Type 0 where
  pub at : q ≡ p
  pub side : s ≡ d
  pub solid : InBlock p
  pub leads : (kid (f p) d).ptr ≡ h
  pub other : Linked f p (not d) (kid (f p) (not d)).ptr y
  pub above : A

-- the hooks lead up from the place on side s of q, which the parent, or the root, leads to as h
abbrev pub Around : (Ptr → Hook) → Ptr → Ptr → Bool → Ptr → List Step → Type 0
Around f root q s h [] = (h ≡ root) × (q ≡ null_ptr) × (s ≡ false)
Around f root q s h ((d, p, y) ∷ cs) =
    IsBelow f q s h d p y (Around f root (f p).up.ptr (f p).side p cs)

-- the nodes around are balanced, and know their heights, if the tree at the place has the height n
abbrev pub Stands : (Ptr → Hook) → ℕ → List Step → Type 0
Stands f n [] = Unit {0}
Stands f n ((d, p, y) ∷ cs) =
    ((f p).height ≡ suc (max n (height y))) × Close n (height y) × Balanced y × Stands f (suc (max n (height y))) cs

-- ---- one hook that is written
-- g is f, but for the hook h at p
pub record Wrote (f : Ptr → Hook) (p : Ptr) (h : Hook) (g : Ptr → Hook) : Type 0 where
  pub here : g p ≡ h
  pub others : (q : Ptr) → (q ≡ p → ⊥) → g q ≡ f q

-- the node at p, if it is not null, is on side s of that at `up`, and no other hook changes
abbrev pub IsUnder : (Ptr → Hook) → Ptr → Address → Bool → (Ptr → Hook) → Type 0
IsUnder f null_ptr up s g = g ≡ f
IsUnder f (block_ptr b o) up s g = Wrote f (block_ptr b o) (under (f (block_ptr b o)) up s) g

-- the height that the node at p knows, and 0 where it is null
abbrev pub height_at : (Ptr → Hook) → Ptr → ℕ
height_at f null_ptr = 0
height_at f (block_ptr b o) = (f (block_ptr b o)).height

-- the node at `up` leads to `at` on side s; where `up` is null, `at` is the root
abbrev pub IsHung : (Ptr → Hook) → Ptr → Bool → Address → Address → (Ptr → Hook) → Address → Type 0
IsHung f null_ptr s at root g r = (g ≡ f) × (r ≡ at)
IsHung f (block_ptr b o) s at root g r = Wrote f (block_ptr b o) (with_kid (f (block_ptr b o)) s at) g × (r ≡ root)

-- ---- a tree that is being balanced
-- a node that is too high on side d by two, and may be turned: all its nodes are at the spots ps
pub record CanTurn (f : Ptr → Hook) (ps : List Ptr) (p : Ptr) (d : Bool) : Type 0 where
  pub up : Ptr
  pub side : Bool
  pub outer : Shape
  pub top : Ptr
  pub inner : Shape
  pub other : Shape
  pub hangs : Hangs f up side d (join d outer top inner) p other
  pub sole : Sole (join d (join d outer top inner) p other)
  pub inside : (z : Ptr) → In z (join d (join d outer top inner) p other) → is_in z ps ≡ true
  pub fits : height (join d (join d outer top inner) p other) ≤ 250

-- the same where the inner grandchild, whose children are x and y, goes up
pub record CanTurnTwice (f : Ptr → Hook) (ps : List Ptr) (p c : Ptr) (d : Bool) : Type 0 where
  pub up : Ptr
  pub side : Bool
  pub outer : Shape
  pub x : Shape
  pub inner : Ptr
  pub y : Shape
  pub other : Shape
  pub hangs : Hangs f up side d (join d outer c (join (not d) x inner y)) p other
  pub sole : Sole (join d (join d outer c (join (not d) x inner y)) p other)
  pub inside : (z : Ptr) → In z (join d (join d outer c (join (not d) x inner y)) p other) → is_in z ps ≡ true
  pub fits : height (join d (join d outer c (join (not d) x inner y)) p other) ≤ 245

-- the inner grandchild i went up
pub record TurnedTwice (f : Ptr → Hook) (q : Ptr) (s d : Bool) (a : Shape) (c : Ptr) (x : Shape) (i : Ptr) (y : Shape)
    (p : Ptr) (e : Shape) (g : Ptr → Hook) (r : Ptr) : Type 0 where
  pub linked : Linked g q s r (join d (join (not d) y c a) i (join d x p e))
  pub others : (z : Ptr) → (In z (join d (join d a c (join (not d) x i y)) p e) → ⊥) → g z ≡ f z

-- two balanced trees at p, of which that on side d is higher by two
pub record CanLean (f : Ptr → Hook) (ps : List Ptr) (p : Ptr) (d : Bool) : Type 0 where
  pub up : Ptr
  pub side : Bool
  pub x : Shape
  pub y : Shape
  pub hangs : Hangs f up side d x p y
  pub sole : Sole (join d x p y)
  pub inside : (z : Ptr) → In z (join d x p y) → is_in z ps ≡ true
  pub here : Balanced x
  pub there : Balanced y
  pub two : height x ≡ suc (suc (height y))
  pub fits : height x ≤ 240

-- two balanced trees at p, whose heights differ by two at most
pub record CanMend (f : Ptr → Hook) (ps : List Ptr) (p : Ptr) : Type 0 where
  pub up : Ptr
  pub side : Bool
  pub x : Shape
  pub y : Shape
  pub hangs : Hangs f up side false x p y
  pub sole : Sole (node x p y)
  pub inside : (z : Ptr) → In z (node x p y) → is_in z ps ≡ true
  pub here : Balanced x
  pub there : Balanced y
  pub low : height x ≤ suc (suc (height y))
  pub high : height y ≤ suc (suc (height x))
  pub fits : (height x ≤ 240) × (height y ≤ 240)

-- a balanced tree of the spots ps, in order, which root leads to
pub record IsSettled (f : Ptr → Hook) (ps : List Ptr) (root : Ptr) : Type 0 where
  pub shape : Shape
  pub order : flat shape ≡ ps
  pub linked : Linked f null_ptr false root shape
  pub balanced : Balanced shape

-- a tree of the spots ps that is balanced but for what is above one place, at q: there a subtree changed its height by
-- one at most
pub record IsUnsettled (f : Ptr → Hook) (ps : List Ptr) (root q : Ptr) : Type 0 where
  pub steps : List Step
  pub shape : Shape
  pub side : Bool
  pub at : Ptr
  pub was : ℕ
  pub order : flat (plug steps shape) ≡ ps
  pub linked : Linked f q side at shape
  pub balanced : Balanced shape
  pub around : Around f root q side at steps
  pub stands : Stands f was steps
  pub near : Close was (height shape)

-- how many nodes a climb from q comes to, n at most
abbrev pub climb : (Ptr → Hook) → ℕ → Ptr → ℕ
climb f zero q = 0
climb f (suc n) null_ptr = 0
climb f (suc n) (block_ptr b o) = suc (climb f n (f (block_ptr b o)).up.ptr)

-- a place without a node: on side s of the node at q, or the root of a tree without nodes
pub record IsGap (f : Ptr → Hook) (ps : List Ptr) (root q : Ptr) (s : Bool) : Type 0 where
  pub steps : List Step
  pub order : flat (plug steps leaf) ≡ ps
  pub around : Around f root q s null_ptr steps
  pub stands : Stands f 0 steps

-- where the node at q stands beside a place between a and b, on side s of it
abbrev pub IsBeside : Ptr → Bool → List Ptr → List Ptr → Type 0
IsBeside q false a b = ((rest : List Ptr) × (b ≡ q ∷ rest)) ⊎ ((a ≡ []) × (b ≡ []))
IsBeside q true a b = ((rest : List Ptr) × (a ≡ rest ++ q ∷ [])) ⊎ ((a ≡ []) × (b ≡ []))

-- a node with one child at most
abbrev pub IsSingle : Hook → Type 0
IsSingle h = (h.left.ptr ≡ null_ptr) ⊎ (h.right.ptr ≡ null_ptr)

-- what is beyond the place on a side: before it on the left, and after it on the right
abbrev pub beyond : Bool → List Step → List Ptr
beyond false cs = before cs
beyond true cs = after cs

-- in a tree of the spots ps, h leads to a subtree beyond which, on side d, are the spots `far`
pub record IsDown (f : Ptr → Hook) (ps : List Ptr) (d : Bool) (far : List Ptr) (h : Ptr) : Type 0 where
  pub steps : List Step
  pub shape : Shape
  pub up : Ptr
  pub side : Bool
  pub order : flat (plug steps shape) ≡ ps
  pub linked : Linked f up side h shape
  pub ahead : beyond d steps ≡ far

-- beyond p, on side d, are the spots `far`
abbrev pub IsOutermost : List Ptr → Bool → List Ptr → Ptr → Type 0
IsOutermost ps false far p = (rest : List Ptr) × (ps ≡ far ++ p ∷ rest)
IsOutermost ps true far p = (rest : List Ptr) × (ps ≡ rest ++ p ∷ far)

-- q is the neighbour of p on side d; where p has none there, q is null
abbrev pub IsNeighbour : Bool → List Ptr → Ptr → Ptr → Type 0
IsNeighbour false ps p q =
    ((a b : List Ptr) × (ps ≡ a ++ q ∷ p ∷ b) × InBlock q) ⊎ ((b : List Ptr) × (ps ≡ p ∷ b) × (q ≡ null_ptr))
IsNeighbour true ps p q =
    ((a b : List Ptr) × (ps ≡ a ++ p ∷ q ∷ b) × InBlock q) ⊎ ((a : List Ptr) × (ps ≡ a ++ p ∷ []) × (q ≡ null_ptr))

-- of a subtree and what is beyond it on side d, the node at p is the nearest to the other side
abbrev pub EndsWith : Bool → List Step → Shape → List Ptr → Ptr → Type 0
EndsWith false cs t far p = flat t ++ after cs ≡ p ∷ far
EndsWith true cs t far p = before cs ++ flat t ≡ far ++ p ∷ []

-- a subtree on side s of q, of which the node at p is the outermost on side d
pub record IsClimbed (f : Ptr → Hook) (root : Ptr) (ps : List Ptr) (d : Bool) (p q : Ptr) (s : Bool) : Type 0 where
  pub steps : List Step
  pub shape : Shape
  pub at : Ptr
  pub ahead : List Ptr
  pub order : flat (plug steps shape) ≡ ps
  pub last : EndsWith d steps shape ahead p
  pub around : Around f root q s at steps

-- the first spot, or null where there is none
abbrev pub first_in : List Ptr → Ptr
first_in [] = null_ptr
first_in (p ∷ ps) = p

-- whether a list has no spot
abbrev pub is_none : List Ptr → Bool
is_none [] = true
is_none (p ∷ ps) = false
