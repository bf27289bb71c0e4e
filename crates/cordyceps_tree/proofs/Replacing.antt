-- A node takes the place of another.
use Rattle.std.proofs.Common.{◌≡◌, inl, inr, true, false, List, [], ◌∷◌, ◌++◌, refl, sym, ap, ◌∙◌, subst, append_assoc}
use denote.RawPtr.{Ptr}
use Rattle.cordyceps_base.specs.declared.boxes.homes.Home.{Home}
use Rattle.cordyceps_base.specs.declared.boxes.Address.{Address}
use Rattle.cordyceps_base.specs.Boxes.{box_addresses}
use Rattle.cordyceps_base.specs.Element.{Element}
use Rattle.cordyceps_base.specs.Nodes.{Nodes}
use Rattle.cordyceps_base.specs.Spots.{AreDistinct, AreNullComparable}
use Rattle.cordyceps_tree.specs.declared.block.Block.{Block}
use Rattle.cordyceps_tree.specs.declared.hook.Hook.{Hook}
use Rattle.cordyceps_tree.specs.Rows.{Held, hook_at, nodes_of, IsTree, IsTraded, IsSwapped}
use Rattle.cordyceps_tree.specs.Trees.{is_in, Reaches, Shape, leaf, node, flat, height, In, Sole, Linked, Step, plug, InSteps, before, after, Around, Wrote, IsUnder, IsHung, IsSettled}
use Rattle.cordyceps_tree.proofs.Trees.{Parted, parted, linked_keep, linked_under, under_keep}
use Rattle.cordyceps_tree.proofs.Members.{in_row, row_sole}
use Rattle.cordyceps_tree.proofs.Steps.{flat_plug, in_plug, steps_plug, Within, within, Opened, around_keep, stands_keep, close_up, hung_around, hung_others, hung_stands}
use Rattle.cordyceps_tree.proofs.Raising.{sole_less}
use Rattle.cordyceps_tree.proofs.Reaching.{null_reaches, in_reaches, tree_reaches, comparable_in}
use Rattle.cordyceps_tree.proofs.Parting.{addresses_join, hooks_joined}
use Rattle.cordyceps_tree.proofs.Putting.{nodes_join}

module _ {X : Type 0} (ns ms old more : List (Held X)) (root p : Ptr) (next : Address) (t : IsTree root ns) (u : Opened (hook_at ns) root t.settled.shape p) (k : IsTraded ns (before u.steps ++ flat u.left) (flat u.right ++ after u.steps) p old more ms) (a : Home) (x : Block X) (one : more ≡ (next.ptr, a, x) ∷ []) (d : AreDistinct (box_addresses ms)) (c : AreNullComparable (box_addresses ms)) where
  abbrev f : Ptr → Hook
  f = hook_at ns

  abbrev n : Ptr
  n = next.ptr

  abbrev sub : Shape
  sub = node u.left n u.right

  row_is : ms ≡ k.front ++ (n, a, x) ∷ k.back
  row_is = k.row ∙ ap (λ z. k.front ++ (z ++ k.back)) one

  order_at : flat (plug u.steps sub) ≡ box_addresses ms
  order_at = flat_plug u.steps sub ∙ ap (λ z. before u.steps ++ z) (append_assoc (flat u.left) (n ∷ flat u.right) (after u.steps)) ∙ sym (append_assoc (before u.steps) (flat u.left) (n ∷ (flat u.right ++ after u.steps)))
      ∙ sym (ap box_addresses row_is ∙ addresses_join k.front ((n, a, x) ∷ k.back) ∙ (λ i. k.ahead i ++ n ∷ k.behind i))

  whole : Sole (plug u.steps sub)
  whole = row_sole (plug u.steps sub) (box_addresses ms) order_at d

  inner : Within u.steps sub
  inner = within u.steps sub whole

  was_whole : Sole (plug u.steps (node u.left p u.right))
  was_whole = row_sole (plug u.steps (node u.left p u.right)) (box_addresses ns) (ap flat u.is ∙ t.settled.order) t.distinct

  was_inner : Within u.steps (node u.left p u.right)
  was_inner = within u.steps (node u.left p u.right) was_whole

  part : Parted u.left n u.right
  part = parted false u.left n u.right inner.sole

  was_part : Parted u.left p u.right
  was_part = parted false u.left p u.right was_inner.sole

  same : (z : Ptr) → (z ≡ n → ⊥) → (z ≡ p → ⊥) → hook_at ms z ≡ f z
  same z x1 x2 = ap (λ l. hook_at l z) row_is ∙ hooks_joined k.front (n, a, x) k.back z x1 ∙ sym (hooks_joined k.front (p, k.alloc, k.block) k.back z x2) ∙ sym (ap (λ l. hook_at l z) k.was)

  pub trade_in : is_in n (box_addresses ms) ≡ true
  trade_in = in_row (plug u.steps sub) (box_addresses ms) order_at n (in_plug u.steps sub n (inl refl))

  pub trade_left : Reaches (f p).left.ptr (box_addresses ms)
  trade_left = go u.left u.linked.left (λ z i. in_row (plug u.steps sub) (box_addresses ms) order_at z (in_plug u.steps sub z (inr (inl i)))) where
    go : (l : Shape) → Linked f p false (f p).left.ptr l → ((z : Ptr) → In z l → is_in z (box_addresses ms) ≡ true) → Reaches (f p).left.ptr (box_addresses ms)
    go l w i = tree_reaches f p false (f p).left.ptr l (box_addresses ms) c w i

  pub trade_right : Reaches (f p).right.ptr (box_addresses ms)
  trade_right = tree_reaches f p true (f p).right.ptr u.right (box_addresses ms) c u.linked.right (λ z i. in_row (plug u.steps sub) (box_addresses ms) order_at z (in_plug u.steps sub z (inr (inr i))))

  pub trade_up : Reaches (f p).up.ptr (box_addresses ms)
  trade_up = go u.steps u.around order_at where
    go : (cs : List Step) → Around f root (f p).up.ptr (f p).side p cs → flat (plug cs sub) ≡ box_addresses ms → Reaches (f p).up.ptr (box_addresses ms)
    go [] w o = subst (λ z. Reaches z (box_addresses ms)) (sym w.1) (null_reaches (box_addresses ms))
    go ((s, q, y) ∷ cs) w o = subst (λ z. Reaches z (box_addresses ms)) (sym w.at) (in_reaches q (box_addresses ms) c (in_row (plug ((s, q, y) ∷ cs) sub) (box_addresses ms) o q (steps_plug ((s, q, y) ∷ cs) sub q (inl refl))))

  module _ (g1 g2 g3 g4 : Ptr → Hook) (rt res : Address) (er : rt.ptr ≡ root) (w1 : Wrote (hook_at ms) n (f p) g1) (w2 : IsUnder g1 (f p).left.ptr next false g2) (w3 : IsUnder g2 (f p).right.ptr next true g3) (hung : IsHung g3 (f p).up.ptr (f p).side next rt g4 res) where
    first : (z : Ptr) → (z ≡ n → ⊥) → (z ≡ p → ⊥) → g1 z ≡ f z
    first z x1 x2 = w1.others z x1 ∙ same z x1 x2

    in_left : (z : Ptr) → In z u.left → g1 z ≡ f z
    in_left z i = first z (λ e. part.not_here (subst (λ y. In y u.left) e i)) (λ e. was_part.not_here (subst (λ y. In y u.left) e i))

    in_right : (z : Ptr) → In z u.right → g1 z ≡ f z
    in_right z i = first z (λ e. part.not_there (subst (λ y. In y u.right) e i)) (λ e. was_part.not_there (subst (λ y. In y u.right) e i))

    left1 : Linked g1 p false (f p).left.ptr u.left
    left1 = linked_keep f g1 p false (f p).left.ptr u.left u.linked.left in_left

    left2 : Linked g2 n false (f p).left.ptr u.left
    left2 = linked_under g1 g2 p false (f p).left.ptr u.left next false left1 part.here w2

    second : (z : Ptr) → (In z u.left → ⊥) → g2 z ≡ g1 z
    second z out = under_keep g1 g2 p false (f p).left.ptr u.left next false left1 w2 z out

    right2 : Linked g2 p true (f p).right.ptr u.right
    right2 = linked_keep f g2 p true (f p).right.ptr u.right u.linked.right (λ z i. second z (λ j. part.apart z j i) ∙ in_right z i)

    right3 : Linked g3 n true (f p).right.ptr u.right
    right3 = linked_under g2 g3 p true (f p).right.ptr u.right next true right2 part.there w3

    third : (z : Ptr) → (In z u.right → ⊥) → g3 z ≡ g2 z
    third z out = under_keep g2 g3 p true (f p).right.ptr u.right next true right2 w3 z out

    left3 : Linked g3 n false (f p).left.ptr u.left
    left3 = linked_keep g2 g3 n false (f p).left.ptr u.left left2 (λ z i. third z (λ j. part.apart z i j))

    here3 : g3 n ≡ f p
    here3 = third n part.not_there ∙ second n part.not_here ∙ w1.here

    steps3 : (z : Ptr) → InSteps z u.steps → g3 z ≡ f z
    steps3 z i = third z (λ j. inner.apart z (inr (inr j)) i) ∙ second z (λ j. inner.apart z (inr (inl j)) i) ∙ first z (λ e. inner.apart z (inl e) i) (λ e. was_inner.apart z (inl e) i)

    around3 : Around g3 root (f p).up.ptr (f p).side p u.steps
    around3 = around_keep f g3 root (f p).up.ptr (f p).side p u.steps u.around steps3

    less : Sole (plug u.steps leaf)
    less = sole_less u.steps sub whole

    stays : (z : Ptr) → In z sub → g4 z ≡ g3 z
    stays z i = hung_others g3 g4 root (f p).up.ptr (f p).side p u.steps (f p).up next rt res refl around3 hung z (λ j. inner.apart z i j)

    here4 : g4 n ≡ f p
    here4 = stays n (inl refl) ∙ here3

    linked4 : Linked g4 (f p).up.ptr (f p).side n sub
    linked4 = record {
      at = refl;
      solid = (comparable_in (box_addresses ms) n c trade_in).0;
      up = ap (λ (z : Hook). z.up.ptr) here4;
      side = ap (λ (z : Hook). z.side) here4;
      tall = ap (λ (z : Hook). z.height) here4 ∙ u.linked.tall;
      left = subst (λ (z : Hook). Linked g4 n false z.left.ptr u.left) (sym here4) (linked_keep g3 g4 n false (f p).left.ptr u.left left3 (λ z i. stays z (inr (inl i))));
      right = subst (λ (z : Hook). Linked g4 n true z.right.ptr u.right) (sym here4) (linked_keep g3 g4 n true (f p).right.ptr u.right right3 (λ z i. stays z (inr (inr i))));
    }

    pub trade_settled : IsSettled g4 (box_addresses ms) res.ptr
    trade_settled =
        let w = close_up g4 res.ptr (f p).up.ptr (f p).side n u.steps sub
        (hung_around g3 g4 root (f p).up.ptr (f p).side p u.steps (f p).up next rt res refl er around3 less hung)
        (hung_stands g3 g4 root (f p).up.ptr (f p).side p u.steps (f p).up next rt res (height sub) refl around3 less hung (stands_keep f g3 (height sub) u.steps u.stands steps3))
        linked4 u.balanced in
        record { shape = plug u.steps sub; order = order_at; linked = w.0; balanced = w.1 }

pub trade_nodes : {X : Type 0} (ns : List (Held X)) (a b : List Ptr) (p : Ptr) (old more ms : List (Held X)) (q : Ptr) (e : Element X) (d : Nodes X) → IsTraded ns a b p old more ms → nodes_of more ≡ (q, e) ∷ [] → d ≡ nodes_of ms → IsSwapped (nodes_of ns) p old q e d
trade_nodes ns a b p old more ms q e d k one is = record {
  front = nodes_of k.front;
  back = nodes_of k.back;
  alloc = k.alloc;
  block = k.block;
  was = ap nodes_of k.was ∙ nodes_join k.front ((p, k.alloc, k.block) ∷ k.back);
  is = is ∙ ap nodes_of k.row ∙ nodes_join k.front (more ++ k.back) ∙ ap (λ z. nodes_of k.front ++ z) (nodes_join more k.back) ∙ ap (λ z. nodes_of k.front ++ (z ++ nodes_of k.back)) one;
  alone = k.alone;
}
