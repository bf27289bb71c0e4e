-- A node comes to a place of a tree.
use Rattle.std.proofs.Common.{◌≡◌, inl, inr, suc, Bool, true, false, List, [], ◌∷◌, ◌++◌, length, length-append, refl, sym, ap, ◌∙◌, subst, arith, append_assoc}
use denote.RawPtr.{Ptr, null_ptr}
use Rattle.cordyceps_base.specs.declared.boxes.Address.{Address}
use Rattle.cordyceps_base.specs.Boxes.{box_addresses}
use Rattle.cordyceps_base.specs.Element.{Element}
use Rattle.cordyceps_base.specs.Nodes.{Nodes, spots}
use Rattle.cordyceps_base.specs.Spots.{AreDistinct, AreNullComparable}
use Rattle.cordyceps_tree.specs.declared.hook.Hook.{Hook}
use Rattle.cordyceps_tree.specs.Rows.{Held, hook_at, block_of, block_element, nodes_of, IsJoined, IsPutAt}
use Rattle.cordyceps_tree.specs.Trees.{is_in, Reaches, Shape, leaf, node, flat, Sole, Step, plug, InSteps, before, after, Around, Wrote, IsHung, IsUnsettled, IsGap, IsBeside}
use Rattle.cordyceps_tree.proofs.Members.{in_row, row_sole}
use Rattle.cordyceps_tree.proofs.Steps.{flat_plug, in_plug, steps_plug, within, around_keep, stands_keep, hung_around, hung_others, hung_stands}
use Rattle.cordyceps_tree.proofs.Raising.{sole_less}
use Rattle.cordyceps_tree.proofs.Reaching.{null_reaches, in_reaches, comparable_in}
use Rattle.cordyceps_tree.proofs.Parting.{addresses_join, hooks_joined}

pub gap_beside : (f : Ptr → Hook) (root q : Ptr) (s : Bool) (h : Ptr) (cs : List Step) → Around f root q s h cs → IsBeside q s (before cs) (after cs)
gap_beside f root q s h [] a = subst (λ z. IsBeside q z [] []) (sym a.2) (inr (refl, refl))
gap_beside f root q s h ((false, p, y) ∷ cs) a = subst (λ z. IsBeside q z (before cs) (p ∷ (flat y ++ after cs))) (sym a.side) (inl (flat y ++ after cs, ap (λ z. z ∷ (flat y ++ after cs)) (sym a.at)))
gap_beside f root q s h ((true, p, y) ∷ cs) a = subst (λ z. IsBeside q z (before cs ++ (flat y ++ p ∷ [])) (after cs)) (sym a.side) (inl (before cs ++ flat y, sym (append_assoc (before cs) (flat y) (p ∷ [])) ∙ ap (λ z. (before cs ++ flat y) ++ z ∷ []) (sym a.at)))

pub gap_order : (cs : List Step) (ps : List Ptr) → flat (plug cs leaf) ≡ ps → ps ≡ before cs ++ after cs
gap_order cs ps e = sym e ∙ flat_plug cs leaf

module _ {X : Type 0} where
  spots_are : (ns : List (Held X)) → spots (nodes_of ns) ≡ box_addresses ns
  spots_are [] = refl
  spots_are (n ∷ ns) = ap (λ s. n.0 ∷ s) (spots_are ns)

  pub nodes_join : (xs ys : List (Held X)) → nodes_of (xs ++ ys) ≡ nodes_of xs ++ nodes_of ys
  nodes_join [] ys = refl
  nodes_join (x ∷ xs) ys = ap (λ s. (x.0, block_element (block_of x)) ∷ s) (nodes_join xs ys)

  pub put_nodes : (ns : List (Held X)) (a b : List Ptr) (p : Ptr) (e : Element X) (ms : List (Held X)) (d : Nodes X) → IsJoined ns a b p e ms → d ≡ nodes_of ms → IsPutAt (nodes_of ns) a b p e d
  put_nodes ns a b p e ms d j is = record {
    front = nodes_of j.front;
    back = nodes_of j.back;
    was = ap nodes_of j.was ∙ nodes_join j.front j.back;
    ahead = spots_are j.front ∙ j.ahead;
    behind = spots_are j.back ∙ j.behind;
    is = is ∙ ap nodes_of j.row ∙ nodes_join j.front ((p, j.alloc, j.block) ∷ j.back) ∙ ap (λ z. nodes_of j.front ++ (p, z) ∷ nodes_of j.back) j.shows;
  }

  pub put_few : (ns : List (Held X)) (a b : List Ptr) (p : Ptr) (e : Element X) (ms : List (Held X)) → IsJoined ns a b p e ms → length (box_addresses ms) ≡ suc (length (box_addresses ns))
  put_few ns a b p e ms j =
      let x = ap (λ z. length (box_addresses z)) j.row ∙ ap length (addresses_join j.front ((p, j.alloc, j.block) ∷ j.back)) ∙ length-append (box_addresses j.front) (p ∷ box_addresses j.back) in
      let y = ap (λ z. length (box_addresses z)) j.was ∙ ap length (addresses_join j.front j.back) ∙ length-append (box_addresses j.front) (box_addresses j.back) in
      omega (arith, x, y)

  module _ (ns ms : List (Held X)) (root q : Ptr) (s : Bool) (u : IsGap (hook_at ns) (box_addresses ns) root q s) (at : Address) (e : Element X) (j : IsJoined ns (before u.steps) (after u.steps) at.ptr e ms) (d : AreDistinct (box_addresses ms)) (c : AreNullComparable (box_addresses ms)) where
    abbrev cs : List Step
    cs = u.steps

    abbrev one : Shape
    one = node leaf at.ptr leaf

    put_order : flat (plug cs one) ≡ box_addresses ms
    put_order = flat_plug cs one ∙ sym (ap box_addresses j.row ∙ addresses_join j.front ((at.ptr, j.alloc, j.block) ∷ j.back) ∙ (λ i. j.ahead i ++ at.ptr ∷ j.behind i))

    whole : Sole (plug cs one)
    whole = row_sole (plug cs one) (box_addresses ms) put_order d

    away : InSteps at.ptr cs → ⊥
    away i = (within cs one whole).apart at.ptr (inl refl) i

    pub put_in_row : is_in at.ptr (box_addresses ms) ≡ true
    put_in_row = in_row (plug cs one) (box_addresses ms) put_order at.ptr (in_plug cs one at.ptr (inl refl))

    pub put_reaches : Reaches q (box_addresses ms)
    put_reaches = go cs put_order u.around where
      go : (cs : List Step) → flat (plug cs one) ≡ box_addresses ms → Around (hook_at ns) root q s null_ptr cs → Reaches q (box_addresses ms)
      go [] o a = subst (λ z. Reaches z (box_addresses ms)) (sym a.1) (null_reaches (box_addresses ms))
      go ((k, p, y) ∷ cs) o a = subst (λ z. Reaches z (box_addresses ms)) (sym a.at) (in_reaches p (box_addresses ms) c (in_row (plug ((k, p, y) ∷ cs) one) (box_addresses ms) o p (steps_plug ((k, p, y) ∷ cs) one p (inl refl))))

    module _ (g g2 : Ptr → Hook) (hook : Hook) (up rt res : Address) (eu : up.ptr ≡ q) (er : rt.ptr ≡ root) (el : hook.left.ptr ≡ null_ptr) (eg : hook.right.ptr ≡ null_ptr) (ep : hook.up ≡ up) (es : hook.side ≡ s) (eh : hook.height ≡ 1) (wrote : Wrote (hook_at ms) at.ptr hook g) (hung : IsHung g up.ptr s at rt g2 res) where
      keep : (a : Ptr) → InSteps a cs → g a ≡ hook_at ns a
      keep a i =
          let other : a ≡ at.ptr → ⊥ = λ z. away (subst (λ y. InSteps y cs) z i) in
          wrote.others a other ∙ ap (λ z. hook_at z a) j.row ∙ hooks_joined j.front (at.ptr, j.alloc, j.block) j.back a other ∙ sym (ap (λ z. hook_at z a) j.was)

      around1 : Around g root q s null_ptr cs
      around1 = around_keep (hook_at ns) g root q s null_ptr cs u.around keep

      less : Sole (plug cs leaf)
      less = sole_less cs one whole

      here : g2 at.ptr ≡ hook
      here = hung_others g g2 root q s null_ptr cs up at rt res eu around1 hung at.ptr away ∙ wrote.here

      pub put_unsettled : IsUnsettled g2 (box_addresses ms) res.ptr up.ptr
      put_unsettled = subst (IsUnsettled g2 (box_addresses ms) res.ptr) (sym eu) (record {
        steps = cs;
        shape = one;
        side = s;
        at = at.ptr;
        was = 0;
        order = put_order;
        linked = record {
          at = refl;
          solid = (comparable_in (box_addresses ms) at.ptr c put_in_row).0;
          up = ap (λ (z : Hook). z.up.ptr) here ∙ ap (λ (z : Address). z.ptr) ep ∙ eu;
          side = ap (λ (z : Hook). z.side) here ∙ es;
          tall = ap (λ (z : Hook). z.height) here ∙ eh;
          left = ap (λ (z : Hook). z.left.ptr) here ∙ el;
          right = ap (λ (z : Hook). z.right.ptr) here ∙ eg;
        };
        balanced = ((omega arith, omega arith), tt, tt);
        around = hung_around g g2 root q s null_ptr cs up at rt res eu er around1 less hung;
        stands = hung_stands g g2 root q s null_ptr cs up at rt res 0 eu around1 less hung (stands_keep (hook_at ns) g 0 cs u.stands keep);
        near = (omega arith, omega arith);
      })
