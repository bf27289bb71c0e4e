-- What is around a place in a tree.
use Rattle.std.proofs.Common.{◌≡◌, inl, inr, ℕ, suc, max, Bool, true, false, not, List, [], ◌∷◌, ◌++◌, refl, sym, ap, ◌∙◌, subst, arith, append_assoc}
use Rattle.std.proofs.lemmas.List.{append-nil}
use denote.RawPtr.{Ptr, null_ptr, block_ptr, InBlock}
use Rattle.cordyceps_base.specs.declared.boxes.Address.{Address}
use Rattle.cordyceps_tree.specs.declared.hook.Hook.{Hook}
use Rattle.cordyceps_tree.specs.Trees.{kid, with_kid, Shape, leaf, node, join, flat, height, In, Sole, Balanced, Linked, Step, plug, InSteps, before, after, Around, Stands, IsHung}
use Rattle.cordyceps_tree.proofs.Trees.{kid_set, kid_kept, height_join, up_with, side_with, height_with, rejoin, in_here, in_there, in_top, parted, unweighed, linked_keep}

-- ---- order
flat_join : (d : Bool) (p : Ptr) (y : Shape) (cs : List Step) (t : Shape) → before cs ++ (flat (join d t p y) ++ after cs) ≡ before ((d, p, y) ∷ cs) ++ (flat t ++ after ((d, p, y) ∷ cs))
flat_join false p y cs t = ap (λ z. before cs ++ z) (append_assoc (flat t) (p ∷ flat y) (after cs))
flat_join true p y cs t =
    ap (λ z. before cs ++ z) (append_assoc (flat y) (p ∷ flat t) (after cs)) ∙ ap (λ z. before cs ++ z) (sym (append_assoc (flat y) (p ∷ []) (flat t ++ after cs))) ∙ sym (append_assoc (before cs) (flat y ++ p ∷ []) (flat t ++ after cs))

pub flat_plug : (cs : List Step) (t : Shape) → flat (plug cs t) ≡ before cs ++ (flat t ++ after cs)
flat_plug [] t = sym (append-nil (flat t))
flat_plug ((d, p, y) ∷ cs) t = flat_plug cs (join d t p y) ∙ flat_join d p y cs t

pub flat_same : (cs : List Step) (t u : Shape) → flat t ≡ flat u → flat (plug cs t) ≡ flat (plug cs u)
flat_same cs t u e = flat_plug cs t ∙ ap (λ z. before cs ++ (z ++ after cs)) e ∙ sym (flat_plug cs u)

-- ---- members
pub in_plug : (cs : List Step) (t : Shape) (a : Ptr) → In a t → In a (plug cs t)
in_plug [] t a i = i
in_plug ((d, p, y) ∷ cs) t a i = in_plug cs (join d t p y) a (in_here a d t p y i)

pub steps_plug : (cs : List Step) (t : Shape) (a : Ptr) → InSteps a cs → In a (plug cs t)
steps_plug [] t a i = absurd i
steps_plug ((d, p, y) ∷ cs) t a i = elim i [
  | inl e ↦ in_plug cs (join d t p y) a (subst (λ z. In z (join d t p y)) (sym e) (in_top d t p y))
  | inr r ↦ elim r [ inl j ↦ in_plug cs (join d t p y) a (in_there a d t p y j) | inr j ↦ steps_plug cs (join d t p y) a j ]
]

pub record Within (cs : List Step) (t : Shape) : Type 0 where
  pub sole : Sole t
  pub apart : (a : Ptr) → In a t → InSteps a cs → ⊥

pub within : (cs : List Step) (t : Shape) → Sole (plug cs t) → Within cs t
within [] t o = record { sole = o; apart = λ a i j. j }
within ((d, p, y) ∷ cs) t o =
    let w = within cs (join d t p y) o in let u = parted d t p y w.sole in
    record {
      sole = u.here;
      apart = λ a i j. elim j [
        | inl e ↦ u.not_here (subst (λ z. In z t) e i)
        | inr r ↦ elim r [ inl k ↦ u.apart a i k | inr k ↦ w.apart a (in_here a d t p y i) k ]
      ];
    }

-- ---- hooks that stay
pub around_keep : (f g : Ptr → Hook) (root q : Ptr) (s : Bool) (h : Ptr) (cs : List Step) → Around f root q s h cs → ((a : Ptr) → InSteps a cs → g a ≡ f a) → Around g root q s h cs
around_keep f g root q s h [] w k = w
around_keep f g root q s h ((d, p, y) ∷ cs) w k =
    let e : g p ≡ f p = k p (inl refl) in
    record {
      at = w.at;
      side = w.side;
      solid = w.solid;
      leads = ap (λ (z : Hook). (kid z d).ptr) e ∙ w.leads;
      other = subst (λ (z : Hook). Linked g p (not d) (kid z (not d)).ptr y) (sym e) (linked_keep f g p (not d) (kid (f p) (not d)).ptr y w.other (λ a i. k a (inr (inl i))));
      above = subst (λ (z : Hook). Around g root z.up.ptr z.side p cs) (sym e) (around_keep f g root (f p).up.ptr (f p).side p cs w.above (λ a i. k a (inr (inr i))));
    }

pub stands_keep : (f g : Ptr → Hook) (n : ℕ) (cs : List Step) → Stands f n cs → ((a : Ptr) → InSteps a cs → g a ≡ f a) → Stands g n cs
stands_keep f g n [] w k = tt
stands_keep f g n ((d, p, y) ∷ cs) (tall, close, fine, rest) k =
    (ap (λ (z : Hook). z.height) (k p (inl refl)) ∙ tall, close, fine, stands_keep f g (suc (max n (height y))) cs rest (λ a i. k a (inr (inr i))))

-- ---- from the place up
-- a tree at the place fits what is around it
pub close_up : (f : Ptr → Hook) (root q : Ptr) (s : Bool) (h : Ptr) (cs : List Step) (t : Shape) → Around f root q s h cs → Stands f (height t) cs → Linked f q s h t → Balanced t → Linked f null_ptr false root (plug cs t) × Balanced (plug cs t)
close_up f root q s h [] t (at, up, side) st l b = (subst (λ z. Linked f null_ptr false z t) at (subst (λ z. Linked f z false h t) up (subst (λ z. Linked f q z h t) side l)), b)
close_up f root q s h ((d, p, y) ∷ cs) t w (tall, close, fine, more) l b =
    let tree = rejoin f (f p).up.ptr (f p).side p d t p y (record {
      at = refl;
      solid = w.solid;
      up = refl;
      side = refl;
      tall = tall;
      here = subst (λ z. Linked f p d z t) (sym w.leads) (subst (λ z. Linked f z d h t) w.at (subst (λ z. Linked f q z h t) w.side l));
      there = w.other;
    }) in
    close_up f root (f p).up.ptr (f p).side p cs (join d t p y) w.above (subst (λ z. Stands f z cs) (sym (height_join d t p y)) more) tree (unweighed d t p y (record { low = close.0; high = close.1; here = b; there = fine }))

-- where a spot of a tree stands
pub record Opened (f : Ptr → Hook) (root : Ptr) (whole : Shape) (p : Ptr) : Type 0 where
  pub steps : List Step
  pub left : Shape
  pub right : Shape
  pub is : plug steps (node left p right) ≡ whole
  pub around : Around f root (f p).up.ptr (f p).side p steps
  pub stands : Stands f (height (node left p right)) steps
  pub linked : Linked f (f p).up.ptr (f p).side p (node left p right)
  pub balanced : Balanced (node left p right)

pub opened : (f : Ptr → Hook) (root : Ptr) (q : Ptr) (s : Bool) (h : Ptr) (cs : List Step) (t : Shape) (p : Ptr) → In p t → Around f root q s h cs → Stands f (height t) cs → Linked f q s h t → Balanced t → Opened f root (plug cs t) p
opened f root q s h cs leaf p i a st l b = absurd i
opened f root q s h cs (node x r y) p i a st w (close, bx, by) = elim i [
  | inl is ↦ subst (Opened f root (plug cs (node x r y))) (sym is) (record {
    steps = cs;
    left = x;
    right = y;
    is = refl;
    around = above;
    stands = st;
    linked = record { at = refl; solid = w.solid; up = refl; side = refl; tall = w.tall; left = w.left; right = w.right };
    balanced = (close, bx, by);
  })
  | inr j ↦ elim j [
    | inl k ↦ opened f root r false (f r).left.ptr ((false, r, y) ∷ cs) x p k
        (record { at = refl; side = refl; solid = w.solid; leads = refl; other = w.right; above = above })
        (w.tall, close, by, st) w.left bx
    | inr k ↦ opened f root r true (f r).right.ptr ((true, r, x) ∷ cs) y p k
        (record { at = refl; side = refl; solid = w.solid; leads = refl; other = w.left; above = above })
        (w.tall ∙ ap suc (swap (height x) (height y)), (close.1, close.0), bx, subst (λ z. Stands f (suc z) cs) (swap (height x) (height y)) st) w.right by
  ]
] where
  above : Around f root (f r).up.ptr (f r).side r cs
  above = subst (λ z. Around f root (f r).up.ptr (f r).side z cs) w.at (subst (λ z. Around f root (f r).up.ptr z h cs) (sym w.side) (subst (λ z. Around f root z s h cs) (sym w.up) a))

  swap : (a b : ℕ) → max a b ≡ max b a
  swap a b = omega arith

-- ---- another tree at the place
-- the parent, or the root, leads to another node
pub hung_around : (f g : Ptr → Hook) (root q : Ptr) (s : Bool) (h : Ptr) (cs : List Step) (u at rt res : Address) → u.ptr ≡ q → rt.ptr ≡ root → Around f root q s h cs → Sole (plug cs leaf) → IsHung f u.ptr s at rt g res → Around g res.ptr q s at.ptr cs
hung_around f g root q s h cs u at rt res eu er w o e = go u.ptr eu e cs w o where
  go : (v : Ptr) → v ≡ q → IsHung f v s at rt g res → (cs : List Step) → Around f root q s h cs → Sole (plug cs leaf) → Around g res.ptr q s at.ptr cs
  go null_ptr ev (same, is) [] (a, b, c) o = (sym (ap (λ (z : Address). z.ptr) is), b, c)
  go (block_ptr b k) ev wrote [] (a, b2, c) o = let no : block_ptr b k ≡ null_ptr = ev ∙ b2 in absurd cc
  go null_ptr ev (same, is) ((d, p, y) ∷ cs) w o = absurd (subst InBlock (sym (ev ∙ w.at)) w.solid)
  go (block_ptr b k) ev (wrote, is) ((d, p, y) ∷ cs) w o =
      let v = within cs (join d leaf p y) o in let r = parted d leaf p y v.sole in
      let here : block_ptr b k ≡ p = ev ∙ w.at in
      let e : g p ≡ with_kid (f p) d at = subst (λ z. g z ≡ with_kid (f z) d at) here (subst (λ z. g (block_ptr b k) ≡ with_kid (f (block_ptr b k)) z at) w.side wrote.here) in
      let keep : (a : Ptr) → (a ≡ p → ⊥) → g a ≡ f a = λ a n. wrote.others a (λ m. n (m ∙ here)) in
      record {
        at = w.at;
        side = w.side;
        solid = w.solid;
        leads = ap (λ (z : Hook). (kid z d).ptr) e ∙ ap (λ (z : Address). z.ptr) (kid_set (f p) d at);
        other = subst (λ (z : Address). Linked g p (not d) z.ptr y) (sym (ap (λ (z : Hook). kid z (not d)) e ∙ kid_kept (f p) d at)) (linked_keep f g p (not d) (kid (f p) (not d)).ptr y w.other (λ a i. keep a (λ m. r.not_there (subst (λ z. In z y) m i))));
        above = subst (λ (z : Address). Around g res.ptr z.ptr (g p).side p cs) (sym (ap (λ (z : Hook). z.up) e ∙ up_with (f p) d at)) (subst (λ z. Around g res.ptr (f p).up.ptr z p cs) (sym (ap (λ (z : Hook). z.side) e ∙ side_with (f p) d at))
            (subst (λ (z : Address). Around g z.ptr (f p).up.ptr (f p).side p cs) (sym is) (subst (λ z. Around g z (f p).up.ptr (f p).side p cs) (sym er) (around_keep f g root (f p).up.ptr (f p).side p cs w.above (λ a i. keep a (λ m. v.apart p (in_top d leaf p y) (subst (λ z. InSteps z cs) m i)))))));
      }

-- no hook of a tree at the place changes then
pub hung_others : (f g : Ptr → Hook) (root q : Ptr) (s : Bool) (h : Ptr) (cs : List Step) (u at rt res : Address) → u.ptr ≡ q → Around f root q s h cs → IsHung f u.ptr s at rt g res → (a : Ptr) → (InSteps a cs → ⊥) → g a ≡ f a
hung_others f g root q s h cs u at rt res eu w e a out = go u.ptr eu e cs w out where
  go : (v : Ptr) → v ≡ q → IsHung f v s at rt g res → (cs : List Step) → Around f root q s h cs → (InSteps a cs → ⊥) → g a ≡ f a
  go null_ptr ev e cs w out = ap (λ (z : Ptr → Hook). z a) e.0
  go (block_ptr b k) ev e [] w out = let no : block_ptr b k ≡ null_ptr = ev ∙ w.1 in absurd cc
  go (block_ptr b k) ev e ((d, p, y) ∷ cs) w out = e.0.others a (λ m. out (inl (m ∙ ev ∙ w.at)))

-- the heights around stay
pub hung_stands : (f g : Ptr → Hook) (root q : Ptr) (s : Bool) (h : Ptr) (cs : List Step) (u at rt res : Address) (n : ℕ) → u.ptr ≡ q → Around f root q s h cs → Sole (plug cs leaf) → IsHung f u.ptr s at rt g res → Stands f n cs → Stands g n cs
hung_stands f g root q s h cs u at rt res n eu w o e st = go u.ptr eu e cs w o st where
  go : (v : Ptr) → v ≡ q → IsHung f v s at rt g res → (cs : List Step) → Around f root q s h cs → Sole (plug cs leaf) → Stands f n cs → Stands g n cs
  go null_ptr ev e cs w o st = stands_keep f g n cs st (λ a i. ap (λ (z : Ptr → Hook). z a) e.0)
  go (block_ptr b k) ev e [] w o st = tt
  go (block_ptr b k) ev e ((d, p, y) ∷ cs) w o (tall, close, fine, rest) =
      let v = within cs (join d leaf p y) o in
      let here : block_ptr b k ≡ p = ev ∙ w.at in
      let is : g p ≡ with_kid (f p) s at = subst (λ z. g z ≡ with_kid (f z) s at) here e.0.here in
      (ap (λ (z : Hook). z.height) is ∙ height_with (f p) s at ∙ tall, close, fine, stands_keep f g (suc (max n (height y))) cs rest (λ a i. e.0.others a (λ m. v.apart p (in_top d leaf p y) (subst (λ z. InSteps z cs) (m ∙ here) i))))
