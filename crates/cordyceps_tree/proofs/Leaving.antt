-- A node that has one child at most leaves a tree.
use Rattle.std.proofs.Common.{◌≡◌, ◌⊎◌, inl, inr, suc, max, Bool, true, false, List, [], ◌∷◌, ◌++◌, length, refl, sym, ap, ◌∙◌, subst, arith, append_assoc}
use Rattle.std.proofs.lemmas.List.{append-nil}
use denote.RawPtr.{Ptr, null_ptr, InBlock}
use Rattle.cordyceps_base.specs.declared.boxes.Address.{Address}
use Rattle.cordyceps_base.specs.Boxes.{box_addresses}
use Rattle.cordyceps_base.specs.Element.{Element}
use Rattle.cordyceps_base.specs.Nodes.{Nodes}
use Rattle.cordyceps_base.specs.Spots.{AreDistinct, AreNullComparable}
use Rattle.cordyceps_tree.specs.declared.hook.Hook.{Hook}
use Rattle.cordyceps_tree.specs.Rows.{Held, hook_at, block_element, nodes_of, IsTree, IsJoined, IsLifted, IsGone}
use Rattle.cordyceps_tree.specs.Trees.{is_in, Reaches, Shape, leaf, node, flat, height, In, Sole, Close, Balanced, Linked, Step, plug, InSteps, before, after, Around, IsUnder, IsHung, IsUnsettled, IsSingle}
use Rattle.cordyceps_tree.proofs.Trees.{parted, weighed, linked_keep, linked_under, under_keep}
use Rattle.cordyceps_tree.proofs.Members.{in_row, row_in, row_sole}
use Rattle.cordyceps_tree.proofs.Steps.{flat_plug, in_plug, steps_plug, Within, within, Opened, opened, around_keep, stands_keep, hung_around, hung_others, hung_stands}
use Rattle.cordyceps_tree.proofs.Raising.{sole_less}
use Rattle.cordyceps_tree.proofs.Reaching.{null_reaches, in_reaches, tree_reaches}
use Rattle.cordyceps_tree.proofs.Parting.{addresses_join, hooks_joined}
use Rattle.cordyceps_tree.proofs.Putting.{put_nodes}

leaf_of : (f : Ptr → Hook) (q : Ptr) (s : Bool) (h : Ptr) (t : Shape) → Linked f q s h t → h ≡ null_ptr → t ≡ leaf
leaf_of f q s h leaf w e = refl
leaf_of f q s h (node l p r) w e = absurd (subst InBlock (sym w.at ∙ e) w.solid)

-- the one child, and what is left without the node
pub record Only (f : Ptr → Hook) (p : Ptr) (l r : Shape) (h : Ptr) : Type 0 where
  pub side : Bool
  pub t : Shape
  pub linked : Linked f p side h t
  pub balanced : Balanced t
  pub order : (a b : List Ptr) → a ++ (flat t ++ b) ≡ (a ++ flat l) ++ (flat r ++ b)
  pub near : Close (suc (max (height l) (height r))) (height t)
  pub part : (z : Ptr) → In z t → In z (node l p r)
  pub out : Sole (node l p r) → In p t → ⊥
  pub sole : Sole (node l p r) → Sole t

pub only : (f : Ptr → Hook) (p : Ptr) (l r : Shape) (x : Address) → Linked f p false (f p).left.ptr l → Linked f p true (f p).right.ptr r → Balanced (node l p r) → IsSingle (f p) → (InBlock (f p).left.ptr × (x ≡ (f p).left)) ⊎ (((f p).left.ptr ≡ null_ptr) × (x ≡ (f p).right)) → Only f p l r x.ptr
only f p l r x wl wr b single which = elim which [
  | inl u ↦ (let none : (f p).right.ptr ≡ null_ptr = elim single [ inl e ↦ absurd (subst InBlock e u.0) | inr e ↦ e ] in
      let is : r ≡ leaf = leaf_of f p true (f p).right.ptr r wr none in
      record {
        side = false;
        t = l;
        linked = subst (λ (z : Address). Linked f p false z.ptr l) (sym u.1) wl;
        balanced = (weighed false l p r b).here;
        order = λ a c. sym (append_assoc a (flat l) c) ∙ sym (ap (λ z. (a ++ flat l) ++ (flat z ++ c)) is);
        near = let c0 = (weighed false l p r b).low in let hr = ap height is in (omega (arith, c0, hr), omega (arith, c0, hr));
        part = λ z i. inr (inl i);
        out = λ o i. (parted false l p r o).not_here i;
        sole = λ o. (parted false l p r o).here;
      })
  | inr u ↦ (let is : l ≡ leaf = leaf_of f p false (f p).left.ptr l wl u.0 in
      record {
        side = true;
        t = r;
        linked = subst (λ (z : Address). Linked f p true z.ptr r) (sym u.1) wr;
        balanced = (weighed false l p r b).there;
        order = λ a c. ap (λ z. z ++ (flat r ++ c)) (sym (append-nil a)) ∙ sym (ap (λ z. (a ++ flat z) ++ (flat r ++ c)) is);
        near = let c1 = (weighed false l p r b).high in let hl = ap height is in (omega (arith, c1, hl), omega (arith, c1, hl));
        part = λ z i. inr (inr i);
        out = λ o i. (parted false l p r o).not_there i;
        sole = λ o. (parted false l p r o).there;
      })
]

module _ {X : Type 0} (ns : List (Held X)) (root p : Ptr) (t : IsTree root ns) (there : is_in p (box_addresses ns) ≡ true) where
  abbrev f : Ptr → Hook
  f = hook_at ns

  pub at_place : Opened f root t.settled.shape p
  at_place = opened f root null_ptr false root [] t.settled.shape p (row_in t.settled.shape (box_addresses ns) t.settled.order p there) (refl, refl, refl) tt t.settled.linked t.settled.balanced

  module _ (u : Opened f root t.settled.shape p) where
    abbrev a : List Ptr
    a = before u.steps ++ flat u.left

    abbrev b : List Ptr
    b = flat u.right ++ after u.steps

    abbrev sub : Shape
    sub = node u.left p u.right

    order_at : flat (plug u.steps sub) ≡ box_addresses ns
    order_at = ap flat u.is ∙ t.settled.order

    pub leave_order : box_addresses ns ≡ (before u.steps ++ flat u.left) ++ p ∷ (flat u.right ++ after u.steps)
    leave_order = sym order_at ∙ flat_plug u.steps sub ∙ ap (λ z. before u.steps ++ z) (append_assoc (flat u.left) (p ∷ flat u.right) (after u.steps)) ∙ sym (append_assoc (before u.steps) (flat u.left) (p ∷ (flat u.right ++ after u.steps)))

    pub leave_left : Reaches (f p).left.ptr (box_addresses ns)
    leave_left = tree_reaches f p false (f p).left.ptr u.left (box_addresses ns) t.comparable u.linked.left (λ z i. in_row (plug u.steps sub) (box_addresses ns) order_at z (in_plug u.steps sub z (inr (inl i))))

    sole_at : Sole (plug u.steps sub)
    sole_at = row_sole (plug u.steps sub) (box_addresses ns) order_at t.distinct

    inner : Within u.steps sub
    inner = within u.steps sub sole_at

    module _ (ms : List (Held X)) (e : Element X) (j : IsJoined ms (before u.steps ++ flat u.left) (flat u.right ++ after u.steps) p e ns) (d : AreDistinct (box_addresses ms)) (c : AreNullComparable (box_addresses ms)) (x : Address) (o : Only f p u.left u.right x.ptr) where
      left_order : flat (plug u.steps o.t) ≡ box_addresses ms
      left_order = flat_plug u.steps o.t ∙ o.order (before u.steps) (after u.steps) ∙ sym (ap box_addresses j.was ∙ addresses_join j.front j.back ∙ (λ i. j.ahead i ++ j.behind i))

      same : (z : Ptr) → (z ≡ p → ⊥) → hook_at ms z ≡ f z
      same z n = ap (λ l. hook_at l z) j.was ∙ sym (hooks_joined j.front (p, j.alloc, j.block) j.back z n) ∙ sym (ap (λ l. hook_at l z) j.row)

      linked_ms : Linked (hook_at ms) p o.side x.ptr o.t
      linked_ms = linked_keep f (hook_at ms) p o.side x.ptr o.t o.linked (λ z i. same z (λ is. o.out inner.sole (subst (λ y. In y o.t) is i)))

      pub leave_only : Reaches x.ptr (box_addresses ms)
      leave_only = tree_reaches (hook_at ms) p o.side x.ptr o.t (box_addresses ms) c linked_ms (λ z i. in_row (plug u.steps o.t) (box_addresses ms) left_order z (in_plug u.steps o.t z i))

      pub leave_up : Reaches (f p).up.ptr (box_addresses ms)
      leave_up = go u.steps u.around left_order where
        go : (cs : List Step) → Around f root (f p).up.ptr (f p).side p cs → flat (plug cs o.t) ≡ box_addresses ms → Reaches (f p).up.ptr (box_addresses ms)
        go [] w k = subst (λ z. Reaches z (box_addresses ms)) (sym w.1) (null_reaches (box_addresses ms))
        go ((s, q, y) ∷ cs) w k = subst (λ z. Reaches z (box_addresses ms)) (sym w.at) (in_reaches q (box_addresses ms) c (in_row (plug ((s, q, y) ∷ cs) o.t) (box_addresses ms) k q (steps_plug ((s, q, y) ∷ cs) o.t q (inl refl))))

      away : (z : Ptr) → InSteps z u.steps → In z o.t → ⊥
      away z i k = inner.apart z (o.part z k) i

      module _ (g g2 : Ptr → Hook) (rt res : Address) (er : rt.ptr ≡ root) (under : IsUnder (hook_at ms) x.ptr (f p).up (f p).side g) (hung : IsHung g (f p).up.ptr (f p).side x rt g2 res) where
        keep : (z : Ptr) → InSteps z u.steps → g z ≡ f z
        keep z i = under_keep (hook_at ms) g p o.side x.ptr o.t (f p).up (f p).side linked_ms under z (away z i) ∙ same z (λ is. inner.apart z (subst (λ y. In y sub) (sym is) (inl refl)) i)

        around1 : Around g root (f p).up.ptr (f p).side p u.steps
        around1 = around_keep f g root (f p).up.ptr (f p).side p u.steps u.around keep

        less : Sole (plug u.steps leaf)
        less = sole_less u.steps sub sole_at

        linked1 : Linked g (f p).up.ptr (f p).side x.ptr o.t
        linked1 = linked_under (hook_at ms) g p o.side x.ptr o.t (f p).up (f p).side linked_ms (o.sole inner.sole) under

        pub leave_unsettled : IsUnsettled g2 (box_addresses ms) res.ptr (f p).up.ptr
        leave_unsettled = record {
          steps = u.steps;
          shape = o.t;
          side = (f p).side;
          at = x.ptr;
          was = suc (max (height u.left) (height u.right));
          order = left_order;
          linked = linked_keep g g2 (f p).up.ptr (f p).side x.ptr o.t linked1 (λ z i. hung_others g g2 root (f p).up.ptr (f p).side p u.steps (f p).up x rt res refl around1 hung z (λ k. away z k i));
          balanced = o.balanced;
          around = hung_around g g2 root (f p).up.ptr (f p).side p u.steps (f p).up x rt res refl er around1 less hung;
          stands = hung_stands g g2 root (f p).up.ptr (f p).side p u.steps (f p).up x rt res (suc (max (height u.left) (height u.right))) refl around1 less hung (stands_keep f g (suc (max (height u.left) (height u.right))) u.steps u.stands keep);
          near = o.near;
        }

pub leave_few : {X : Type 0} (ms : List (Held X)) (a b : List Ptr) (p : Ptr) (e : Element X) (ns : List (Held X)) → IsJoined ms a b p e ns → suc (length (box_addresses ms)) ≡ length (box_addresses ns)
leave_few ms a b p e ns j = sym (Rattle.cordyceps_tree.proofs.Putting.put_few ms a b p e ns j)

pub lifted_joined : {X : Type 0} (ms : List (Held X)) (a b : List Ptr) (p : Ptr) (one ns : List (Held X)) (w : IsLifted ms a b p one ns) → IsJoined ms a b p (block_element w.block) ns
lifted_joined ms a b p one ns w = record { front = w.front; back = w.back; alloc = w.alloc; block = w.block; was = w.was; ahead = w.ahead; behind = w.behind; shows = refl; row = w.row }

pub leave_gone : {X : Type 0} (ms : List (Held X)) (a b : List Ptr) (p : Ptr) (one ns : List (Held X)) (d : Nodes X) → IsLifted ms a b p one ns → d ≡ nodes_of ms → IsGone (nodes_of ns) p one d
leave_gone ms a b p one ns d w is =
    let u = put_nodes ms a b p (block_element w.block) ns (nodes_of ns) (lifted_joined ms a b p one ns w) refl in
    record { front = u.front; back = u.back; alloc = w.alloc; block = w.block; was = u.is; is = is ∙ u.was; alone = w.alone }
