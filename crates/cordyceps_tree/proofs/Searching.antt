-- The search for the place of a value.
use Rattle.std.proofs.Common.{◌≡◌, inl, inr, ℕ, zero, suc, ◌<◌, max, Bool, true, false, if◌then◌else◌, List, [], ◌∷◌, ◌++◌, drop, slice_get, Option, Some, refl, sym, ap, ◌∙◌, subst, arith, append_assoc}
use denote.RawPtr.{Ptr, null_ptr, InBlock}
use Rattle.cordyceps_base.specs.Boxes.{box_addresses, box_values}
use Rattle.cordyceps_base.specs.Spots.{same_ptr, index_of, AreNullComparable}
use Rattle.cordyceps_tree.specs.declared.block.Block.{Block}
use Rattle.cordyceps_tree.specs.declared.hook.Hook.{Hook}
use Rattle.cordyceps_tree.specs.Rows.{Held, block_of, hook_at, IsTree}
use Rattle.cordyceps_tree.specs.Trees.{Reaches, kid, Shape, leaf, node, flat, height, Linked, Balanced, plug, before, after, Around, Stands, height_at, is_none}
use Rattle.cordyceps_tree.specs.Places.{below, content_at, IsSaidAt, IsPlace, IsSearched}
use Rattle.cordyceps_tree.specs.declared.finding.Place.{Place}
use Rattle.cordyceps_base.specs.declared.boxes.Address.{Address}
use Rattle.cordyceps_tree.proofs.HookRows.{split}
use Rattle.cordyceps_tree.proofs.Trees.{Weighed, weighed, height_known}
use Rattle.cordyceps_tree.proofs.Members.{in_row}
use Rattle.cordyceps_tree.proofs.Steps.{in_plug}
use Rattle.cordyceps_tree.proofs.Reaching.{tree_reaches}

swap : (m n : ℕ) → max m n ≡ max n m
swap m n = omega arith

-- a front that ends with a spot has one
not_none : (a b : List Ptr) (p : Ptr) → false ≡ is_none (a ++ (b ++ p ∷ []))
not_none [] [] p = refl
not_none [] (y ∷ b) p = refl
not_none (x ∷ a) b p = refl

module _ {X : Type 0} where
  pub content_read : (ns : List (Held X)) (p : Ptr) (b : Block X) → slice_get (box_values (drop (index_of p (box_addresses ns)) ns)) 0 ≡ Some b → content_at ns p ≡ Some b.value
  content_read [] p b e = cc
  content_read (n ∷ ns) p b e = split (same_ptr p n.0)
      (λ same.
      let at : Some (block_of n) ≡ Some b = sym (ap (λ (c : Bool). slice_get (box_values (drop (if c then zero else suc (index_of p (box_addresses ns))) (n ∷ ns))) 0) same) ∙ e in
      let is : block_of n ≡ b = cc in
      ap (λ (c : Bool). if c then Some (block_of n).value else content_at ns p) same ∙ ap (λ (x : Block X). Some x.value) is)
      (λ other. ap (λ (c : Bool). if c then Some (block_of n).value else content_at ns p) other ∙ content_read ns p b (sym (ap (λ (c : Bool). slice_get (box_values (drop (if c then zero else suc (index_of p (box_addresses ns))) (n ∷ ns))) 0) other) ∙ e))

  some_same : (x y : X) (o : Option X) → o ≡ Some x → o ≡ Some y → x ≡ y
  some_same x y o e f = let is : Some x ≡ Some y = sym e ∙ f in cc

  pub said_at : (says : X → Bool → Type 0) (ns : List (Held X)) (x : X) (p : Ptr) (b : Bool) → content_at ns p ≡ Some x → says x b → IsSaidAt says ns p b
  said_at says ns x p b e k y f = subst (λ z. says z b) (some_same x y (content_at ns p) e f) k

  module _ (says : X → Bool → Type 0) (ns : List (Held X)) (root : Ptr) where
    pub search_starts : IsTree root ns → (w : Place) → w.up.ptr ≡ null_ptr → w.side ≡ false → w.is_first ≡ true → w.next.ptr ≡ null_ptr → IsSearched says ns root w root
    search_starts t w up side first next = record {
      steps = [];
      shape = t.settled.shape;
      order = t.settled.order;
      linked = subst (λ z. Linked (hook_at ns) w.up.ptr z root t.settled.shape) (sym side) (subst (λ z. Linked (hook_at ns) z false root t.settled.shape) (sym up) t.settled.linked);
      balanced = t.settled.balanced;
      around = (refl, up, side);
      stands = tt;
      goes = record { low = inl refl; high = inl refl };
      outer = first;
      next = next;
    }

    pub search_ends : (w : Place) (h : Ptr) → h ≡ null_ptr → IsSearched says ns root w h → IsPlace says ns root w
    search_ends w h e u = go u.shape u.order u.linked u.stands where
      go : (t : Shape) → flat (plug u.steps t) ≡ box_addresses ns → Linked (hook_at ns) w.up.ptr w.side h t → Stands (hook_at ns) (height t) u.steps → IsPlace says ns root w
      go leaf o l st = record {
        gap = record { steps = u.steps; order = o; around = subst (λ z. Around (hook_at ns) root w.up.ptr w.side z u.steps) e u.around; stands = st };
        goes = u.goes;
        outer = u.outer;
        next = u.next;
      }
      go (node x p y) o l st = absurd (subst InBlock (sym l.at ∙ e) l.solid)

    pub search_reaches : (w : Place) (h : Ptr) → AreNullComparable (box_addresses ns) → IsSearched says ns root w h → Reaches h (box_addresses ns)
    search_reaches w h c u = tree_reaches (hook_at ns) w.up.ptr w.side h u.shape (box_addresses ns) c u.linked (λ z i. in_row (plug u.steps u.shape) (box_addresses ns) u.order z (in_plug u.steps u.shape z i))

    -- on the side that the guide says
    pub search_on : (w : Place) (h : Address) → InBlock h.ptr → IsSearched says ns root w h.ptr → (d : Bool) → IsSaidAt says ns h.ptr d → IsSearched says ns root (below w h d) (kid (hook_at ns h.ptr) d).ptr × (height_at (hook_at ns) (kid (hook_at ns h.ptr) d).ptr < height_at (hook_at ns) h.ptr)
    search_on w h solid u d said = go u.shape u.order u.linked u.balanced u.stands d said where
      go : (t : Shape) → flat (plug u.steps t) ≡ box_addresses ns → Linked (hook_at ns) w.up.ptr w.side h.ptr t → Balanced t → Stands (hook_at ns) (height t) u.steps → (d : Bool) → IsSaidAt says ns h.ptr d → IsSearched says ns root (below w h d) (kid (hook_at ns h.ptr) d).ptr × (height_at (hook_at ns) (kid (hook_at ns h.ptr) d).ptr < height_at (hook_at ns) h.ptr)
      go leaf o l b st d said = absurd (subst InBlock l solid)
      go (node x q y) o l b st d said = at_h d said where
        f : Ptr → Hook
        f = hook_at ns

        p : Ptr
        p = h.ptr

        is : q ≡ p
        is = sym l.at

        order_p : flat (plug u.steps (node x p y)) ≡ box_addresses ns
        order_p = subst (λ z. flat (plug u.steps (node x z y)) ≡ box_addresses ns) is o

        w2 : Weighed x y
        w2 = weighed false x q y b

        solid_p : InBlock p
        solid_p = solid

        height_p : (f p).height ≡ suc (max (height x) (height y))
        height_p = subst (λ z. (f z).height ≡ suc (max (height x) (height y))) is l.tall

        left_p : Linked f p false (f p).left.ptr x
        left_p = subst (λ z. Linked f z false (f z).left.ptr x) is l.left

        right_p : Linked f p true (f p).right.ptr y
        right_p = subst (λ z. Linked f z true (f z).right.ptr y) is l.right

        up_p : (f p).up.ptr ≡ w.up.ptr
        up_p = subst (λ z. (f z).up.ptr ≡ w.up.ptr) is l.up

        side_p : (f p).side ≡ w.side
        side_p = subst (λ z. (f z).side ≡ w.side) is l.side

        around_p : Around f root (f p).up.ptr (f p).side p u.steps
        around_p = subst (λ z. Around f root (f p).up.ptr z p u.steps) (sym side_p) (subst (λ z. Around f root z w.side p u.steps) (sym up_p) u.around)

        hp : height_at f p ≡ suc (max (height x) (height y))
        hp = height_known f (f p).up.ptr (f p).side p (node x p y) (record { at = refl; solid = solid; up = refl; side = refl; tall = height_p; left = left_p; right = right_p })

        at_h : (d : Bool) → IsSaidAt says ns p d → IsSearched says ns root (below w h d) (kid (f p) d).ptr × (height_at f (kid (f p) d).ptr < height_at f p)
        at_h false said = (
          record {
            steps = (false, p, y) ∷ u.steps;
            shape = x;
            order = order_p;
            linked = left_p;
            balanced = w2.here;
            around = record { at = refl; side = refl; solid = solid; leads = refl; other = right_p; above = around_p };
            stands = (height_p, (w2.low, w2.high), w2.there, st);
            goes = record { low = u.goes.low; high = inr (p, flat y ++ after u.steps, refl, said) };
            outer = u.outer;
            next = refl;
          },
          (let k = height_known f p false (f p).left.ptr x left_p in omega (arith, k, hp)),
        )
        at_h true said = (
          record {
            steps = (true, p, x) ∷ u.steps;
            shape = y;
            order = order_p;
            linked = right_p;
            balanced = w2.there;
            around = record { at = refl; side = refl; solid = solid; leads = refl; other = left_p; above = around_p };
            stands = (height_p ∙ ap suc (swap (height x) (height y)), (w2.high, w2.low), w2.here, subst (λ z. Stands f (suc z) u.steps) (swap (height x) (height y)) st);
            goes = record { low = inr (before u.steps ++ flat x, p, sym (append_assoc (before u.steps) (flat x) (p ∷ [])), said); high = u.goes.high };
            outer = not_none (before u.steps) (flat x) p;
            next = u.next;
          },
          (let k = height_known f p true (f p).right.ptr y right_p in omega (arith, k, hp)),
        )
