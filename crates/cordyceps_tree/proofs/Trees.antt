-- Trees of spots: what stays linked where hooks are written.
use Rattle.std.proofs.Common.{◌≡◌, ◌⊎◌, inl, inr, ℕ, suc, ◌≤◌, max, Bool, true, false, not, refl, sym, ap, ◌∙◌, subst, arith}
use denote.RawPtr.{Ptr, null_ptr, block_ptr, InBlock}
use Rattle.cordyceps_base.specs.declared.boxes.Address.{Address}
use Rattle.cordyceps_tree.specs.declared.hook.Hook.{Hook}
use Rattle.cordyceps_tree.specs.Trees.{kid, with_kid, under, high, Shape, leaf, node, join, height, In, Sole, Balanced, Linked, Wrote, IsUnder, height_at}

-- ---- heights
pub over_left : (a b : ℕ) → a ≤ max a b
over_left a b = omega arith

pub over_right : (a b : ℕ) → b ≤ max a b
over_right a b = omega arith

pub over_one : (a b : ℕ) → (max a b ≡ a) ⊎ (max a b ≡ b)
over_one a b = grind arith

pub over_swap : (a b : ℕ) → max a b ≡ max b a
over_swap a b = omega arith

pub height_join : (d : Bool) (x : Shape) (p : Ptr) (y : Shape) → height (join d x p y) ≡ suc (max (height x) (height y))
height_join false x p y = refl
height_join true x p y = ap suc (over_swap (height y) (height x))

-- ---- hooks
pub kid_set : (h : Hook) (d : Bool) (x : Address) → kid (with_kid h d x) d ≡ x
kid_set h false x = refl
kid_set h true x = refl

pub kid_kept : (h : Hook) (d : Bool) (x : Address) → kid (with_kid h d x) (not d) ≡ kid h (not d)
kid_kept h false x = refl
kid_kept h true x = refl

pub kid_set_not : (h : Hook) (d : Bool) (x : Address) → kid (with_kid h (not d) x) (not d) ≡ x
kid_set_not h false x = refl
kid_set_not h true x = refl

pub kid_kept_not : (h : Hook) (d : Bool) (x : Address) → kid (with_kid h (not d) x) d ≡ kid h d
kid_kept_not h false x = refl
kid_kept_not h true x = refl

pub kid_under : (h : Hook) (b d : Bool) (u : Address) (n : ℕ) → kid (high (under h u b) n) d ≡ kid h d
kid_under h b false u n = refl
kid_under h b true u n = refl

pub kid_high : (h : Hook) (d : Bool) (n : ℕ) → kid (high h n) d ≡ kid h d
kid_high h false n = refl
kid_high h true n = refl

pub up_with : (h : Hook) (d : Bool) (x : Address) → (with_kid h d x).up ≡ h.up
up_with h false x = refl
up_with h true x = refl

pub side_with : (h : Hook) (d : Bool) (x : Address) → (with_kid h d x).side ≡ h.side
side_with h false x = refl
side_with h true x = refl

pub height_with : (h : Hook) (d : Bool) (x : Address) → (with_kid h d x).height ≡ h.height
height_with h false x = refl
height_with h true x = refl

-- ---- the mirror image
-- a tree of a node with x on a side, and y on the other
pub record Joined (f : Ptr → Hook) (q : Ptr) (s : Bool) (h : Ptr) (d : Bool) (x : Shape) (p : Ptr) (y : Shape) : Type 0 where
  pub at : h ≡ p
  pub solid : InBlock p
  pub up : (f p).up.ptr ≡ q
  pub side : (f p).side ≡ s
  pub tall : (f p).height ≡ suc (max (height x) (height y))
  pub here : Linked f p d (kid (f p) d).ptr x
  pub there : Linked f p (not d) (kid (f p) (not d)).ptr y

pub unjoin : (f : Ptr → Hook) (q : Ptr) (s : Bool) (h : Ptr) (d : Bool) (x : Shape) (p : Ptr) (y : Shape) → Linked f q s h (join d x p y) → Joined f q s h d x p y
unjoin f q s h false x p y w = record { at = w.at; solid = w.solid; up = w.up; side = w.side; tall = w.tall; here = w.left; there = w.right }
unjoin f q s h true x p y w = record { at = w.at; solid = w.solid; up = w.up; side = w.side; tall = w.tall ∙ ap suc (over_swap (height y) (height x)); here = w.right; there = w.left }

pub rejoin : (f : Ptr → Hook) (q : Ptr) (s : Bool) (h : Ptr) (d : Bool) (x : Shape) (p : Ptr) (y : Shape) → Joined f q s h d x p y → Linked f q s h (join d x p y)
rejoin f q s h false x p y j = record { at = j.at; solid = j.solid; up = j.up; side = j.side; tall = j.tall; left = j.here; right = j.there }
rejoin f q s h true x p y j = record { at = j.at; solid = j.solid; up = j.up; side = j.side; tall = j.tall ∙ ap suc (over_swap (height x) (height y)); left = j.there; right = j.here }

pub join_flip : (d : Bool) (x : Shape) (p : Ptr) (y : Shape) → join (not d) x p y ≡ join d y p x
join_flip false x p y = refl
join_flip true x p y = refl

pub in_here : (a : Ptr) (d : Bool) (x : Shape) (p : Ptr) (y : Shape) → In a x → In a (join d x p y)
in_here a false x p y i = inr (inl i)
in_here a true x p y i = inr (inr i)

pub in_there : (a : Ptr) (d : Bool) (x : Shape) (p : Ptr) (y : Shape) → In a y → In a (join d x p y)
in_there a false x p y i = inr (inr i)
in_there a true x p y i = inr (inl i)

pub in_top : (d : Bool) (x : Shape) (p : Ptr) (y : Shape) → In p (join d x p y)
in_top false x p y = inl refl
in_top true x p y = inl refl

pub in_one : {C : Type 0} (a : Ptr) (d : Bool) (x : Shape) (p : Ptr) (y : Shape) → In a (join d x p y) → (a ≡ p → C) → (In a x → C) → (In a y → C) → C
in_one a false x p y i u v w = elim i [ inl e ↦ u e | inr r ↦ elim r [ inl l ↦ v l | inr m ↦ w m ] ]
in_one a true x p y i u v w = elim i [ inl e ↦ u e | inr r ↦ elim r [ inl l ↦ w l | inr m ↦ v m ] ]

pub record Parted (x : Shape) (p : Ptr) (y : Shape) : Type 0 where
  pub not_here : In p x → ⊥
  pub not_there : In p y → ⊥
  pub apart : (a : Ptr) → In a x → In a y → ⊥
  pub here : Sole x
  pub there : Sole y

pub parted : (d : Bool) (x : Shape) (p : Ptr) (y : Shape) → Sole (join d x p y) → Parted x p y
parted false x p y (l, r, k, m, n) = record { not_here = l; not_there = r; apart = k; here = m; there = n }
parted true x p y (l, r, k, m, n) = record { not_here = r; not_there = l; apart = λ a i j. k a j i; here = n; there = m }

pub unparted : (d : Bool) (x : Shape) (p : Ptr) (y : Shape) → Parted x p y → Sole (join d x p y)
unparted false x p y w = (w.not_here, w.not_there, w.apart, w.here, w.there)
unparted true x p y w = (w.not_there, w.not_here, (λ a i j. w.apart a j i), w.there, w.here)

pub record Weighed (x y : Shape) : Type 0 where
  pub low : height x ≤ suc (height y)
  pub high : height y ≤ suc (height x)
  pub here : Balanced x
  pub there : Balanced y

pub weighed : (d : Bool) (x : Shape) (p : Ptr) (y : Shape) → Balanced (join d x p y) → Weighed x y
weighed false x p y (c, l, r) = record { low = c.0; high = c.1; here = l; there = r }
weighed true x p y (c, l, r) = record { low = c.1; high = c.0; here = r; there = l }

pub unweighed : (d : Bool) (x : Shape) (p : Ptr) (y : Shape) → Weighed x y → Balanced (join d x p y)
unweighed false x p y w = ((w.low, w.high), w.here, w.there)
unweighed true x p y w = ((w.high, w.low), w.there, w.here)

-- ---- hooks that stay
pub linked_keep : (f g : Ptr → Hook) (q : Ptr) (s : Bool) (h : Ptr) (t : Shape) → Linked f q s h t → ((a : Ptr) → In a t → g a ≡ f a) → Linked g q s h t
linked_keep f g q s h leaf w k = w
linked_keep f g q s h (node l p r) w k =
    let e : g p ≡ f p = k p (inl refl) in
    record {
      at = w.at;
      solid = w.solid;
      up = ap (λ (z : Hook). z.up.ptr) e ∙ w.up;
      side = ap (λ (z : Hook). z.side) e ∙ w.side;
      tall = ap (λ (z : Hook). z.height) e ∙ w.tall;
      left = subst (λ (z : Hook). Linked g p false z.left.ptr l) (sym e) (linked_keep f g p false (f p).left.ptr l w.left (λ a i. k a (inr (inl i))));
      right = subst (λ (z : Hook). Linked g p true z.right.ptr r) (sym e) (linked_keep f g p true (f p).right.ptr r w.right (λ a i. k a (inr (inr i))));
    }

-- a hook outside of a tree was written
pub linked_wrote : (f g : Ptr → Hook) (q : Ptr) (s : Bool) (h : Ptr) (t : Shape) (p : Ptr) (v : Hook) → Linked f q s h t → Wrote f p v g → (In p t → ⊥) → Linked g q s h t
linked_wrote f g q s h t p v w e out = linked_keep f g q s h t w (λ a i. e.others a (λ is. out (subst (λ z. In z t) is i)))

-- the root of a tree got another parent
pub linked_under : (f g : Ptr → Hook) (q : Ptr) (s : Bool) (h : Ptr) (t : Shape) (u : Address) (d : Bool) → Linked f q s h t → Sole t → IsUnder f h u d g → Linked g u.ptr d h t
linked_under f g q s h leaf u d w o e = w
linked_under f g q s null_ptr (node l p r) u d w o e = absurd (subst InBlock (sym w.at) w.solid)
linked_under f g q s (block_ptr b k) (node l p r) u d w o e =
    let is : g p ≡ under (f p) u d = subst (λ z. g z ≡ under (f z) u d) w.at e.here in
    let other : (a : Ptr) → (a ≡ p → ⊥) → g a ≡ f a = λ a n. e.others a (λ m. n (m ∙ w.at)) in
    record {
      at = w.at;
      solid = w.solid;
      up = ap (λ (z : Hook). z.up.ptr) is;
      side = ap (λ (z : Hook). z.side) is;
      tall = ap (λ (z : Hook). z.height) is ∙ w.tall;
      left = subst (λ (z : Hook). Linked g p false z.left.ptr l) (sym is) (linked_keep f g p false (f p).left.ptr l w.left (λ a i. other a (λ m. o.0 (subst (λ z. In z l) m i))));
      right = subst (λ (z : Hook). Linked g p true z.right.ptr r) (sym is) (linked_keep f g p true (f p).right.ptr r w.right (λ a i. other a (λ m. o.1 (subst (λ z. In z r) m i))));
    }

-- and no hook outside of it changed
pub under_keep : (f g : Ptr → Hook) (q : Ptr) (s : Bool) (h : Ptr) (t : Shape) (u : Address) (d : Bool) → Linked f q s h t → IsUnder f h u d g → (a : Ptr) → (In a t → ⊥) → g a ≡ f a
under_keep f g q s null_ptr t u d w e a out = ap (λ (z : Ptr → Hook). z a) e
under_keep f g q s (block_ptr b k) leaf u d w e a out = absurd cc
under_keep f g q s (block_ptr b k) (node l p r) u d w e a out = e.others a (λ m. out (inl (m ∙ w.at)))

-- the height that the root of a tree knows
pub height_known : (f : Ptr → Hook) (q : Ptr) (s : Bool) (h : Ptr) (t : Shape) → Linked f q s h t → height_at f h ≡ height t
height_known f q s null_ptr leaf w = refl
height_known f q s (block_ptr b k) leaf w = absurd cc
height_known f q s null_ptr (node l p r) w = absurd (subst InBlock (sym w.at) w.solid)
height_known f q s (block_ptr b k) (node l p r) w = subst (λ z. (f z).height ≡ suc (max (height l) (height r))) (sym w.at) w.tall
