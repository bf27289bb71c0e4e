-- From a node up to its neighbour.
use Rattle.std.proofs.Common.{◌≡◌, ◌⊎◌, inl, inr, suc, ◌<◌, Bool, true, false, List, [], ◌∷◌, ◌++◌, length, refl, sym, ap, ◌∙◌, subst, arith, append_assoc}
use Rattle.std.proofs.lemmas.List.{append-nil}
use denote.RawPtr.{Ptr, null_ptr, InBlock}
use Rattle.cordyceps_base.specs.Spots.{AreNullComparable}
use Rattle.cordyceps_tree.specs.declared.hook.Hook.{Hook}
use Rattle.cordyceps_tree.specs.Trees.{is_in, Reaches, Shape, leaf, node, flat, Linked, Step, kid, plug, before, after, Around, EndsWith, IsNeighbour, IsClimbed, climb}
use Rattle.cordyceps_tree.proofs.Members.{in_row, size_flat}
use Rattle.cordyceps_tree.proofs.Steps.{flat_plug, steps_plug, Opened}
use Rattle.cordyceps_tree.proofs.Raising.{size_plug, climb_is}
use Rattle.cordyceps_tree.proofs.Reaching.{null_reaches, in_reaches}

none_of : (f : Ptr → Hook) (q : Ptr) (s : Bool) (h : Ptr) (t : Shape) → Linked f q s h t → h ≡ null_ptr → flat t ≡ []
none_of f q s h leaf w e = refl
none_of f q s h (node l p r) w e = absurd (subst InBlock (sym w.at ∙ e) w.solid)

pub climb_starts : (f : Ptr → Hook) (root : Ptr) (whole : Shape) (p : Ptr) (ps : List Ptr) (u : Opened f root whole p) (d : Bool) → flat whole ≡ ps → (kid (f p) d).ptr ≡ null_ptr → IsClimbed f root ps d p (f p).up.ptr (f p).side
climb_starts f root whole p ps u false o low =
    let e : flat u.left ≡ [] = none_of f p false (f p).left.ptr u.left u.linked.left low in
    record {
      steps = u.steps;
      shape = node u.left p u.right;
      at = p;
      ahead = flat u.right ++ after u.steps;
      order = ap flat u.is ∙ o;
      last = ap (λ z. (z ++ p ∷ flat u.right) ++ after u.steps) e;
      around = u.around;
    }
climb_starts f root whole p ps u true o low =
    let e : flat u.right ≡ [] = none_of f p true (f p).right.ptr u.right u.linked.right low in
    record {
      steps = u.steps;
      shape = node u.left p u.right;
      at = p;
      ahead = before u.steps ++ flat u.left;
      order = ap flat u.is ∙ o;
      last = ap (λ z. before u.steps ++ (flat u.left ++ p ∷ z)) e ∙ sym (append_assoc (before u.steps) (flat u.left) (p ∷ []));
      around = u.around;
    }

-- what a step up comes to
abbrev pub Climbs : (Ptr → Hook) → Ptr → List Ptr → Bool → Ptr → Ptr → Type 0
Climbs f root ps d p q =
    (is_in q ps ≡ true) × IsClimbed f root ps d p (f q).up.ptr (f q).side × (climb f (length ps) (f q).up.ptr < climb f (length ps) q)

module _ (f : Ptr → Hook) (root : Ptr) (ps : List Ptr) (p q : Ptr) where
  -- from the same side up
  pub climb_on : (d s : Bool) → InBlock q → s ≡ d → IsClimbed f root ps d p q s → Climbs f root ps d p q
  climb_on d s solid is u = go d u.steps u.order u.last u.around is where
    long : (cs : List Step) → flat (plug cs u.shape) ≡ ps → length cs < suc (length ps)
    long cs o = let a = size_plug cs u.shape in let b = size_flat (plug cs u.shape) in let c = ap length o in omega (arith, a, b, c)

    at_r : (d : Bool) (r : Ptr) (y : Shape) (cs : List Step) → flat (plug ((d, r, y) ∷ cs) u.shape) ≡ ps → Around f root q s u.at ((d, r, y) ∷ cs) → IsClimbed f root ps d p (f r).up.ptr (f r).side → Climbs f root ps d p q
    at_r d r y cs o a more =
        let n = long ((d, r, y) ∷ cs) o in
        let here = climb_is f root q s u.at ((d, r, y) ∷ cs) (length ps) a (omega (arith, n)) in
        let above = climb_is f root (f r).up.ptr (f r).side r cs (length ps) a.above (omega (arith, n)) in
        let less : climb f (length ps) (f r).up.ptr < climb f (length ps) q = omega (arith, here, above) in (
          subst (λ z. is_in z ps ≡ true) (sym a.at) (in_row (plug ((d, r, y) ∷ cs) u.shape) ps o r (steps_plug ((d, r, y) ∷ cs) u.shape r (inl refl))),
          subst (λ z. IsClimbed f root ps d p (f z).up.ptr (f z).side) (sym a.at) more,
          subst (λ z. climb f (length ps) (f z).up.ptr < climb f (length ps) q) (sym a.at) less,
        )

    go : (d : Bool) (cs : List Step) → flat (plug cs u.shape) ≡ ps → EndsWith d cs u.shape u.ahead p → Around f root q s u.at cs → s ≡ d → Climbs f root ps d p q
    go d [] o e a is = absurd (subst InBlock a.1 solid)
    go false ((true, r, y) ∷ cs) o e a is = let no = sym is ∙ a.side in absurd cc
    go true ((false, r, y) ∷ cs) o e a is = let no = sym is ∙ a.side in absurd cc
    go false ((false, r, y) ∷ cs) o e a is = at_r false r y cs o a (record {
      steps = cs;
      shape = node u.shape r y;
      at = r;
      ahead = u.ahead;
      order = o;
      last = append_assoc (flat u.shape) (r ∷ flat y) (after cs) ∙ e;
      around = a.above;
    })
    go true ((true, r, y) ∷ cs) o e a is = at_r true r y cs o a (record {
      steps = cs;
      shape = node y r u.shape;
      at = r;
      ahead = u.ahead;
      order = o;
      last = ap (λ z. before cs ++ z) (sym (append_assoc (flat y) (r ∷ []) (flat u.shape))) ∙ sym (append_assoc (before cs) (flat y ++ r ∷ []) (flat u.shape)) ∙ e;
      around = a.above;
    })

  -- on the other side the neighbour is above
  pub climb_ends : (d s : Bool) → (q ≡ null_ptr) ⊎ (s ≡ d → ⊥) → IsClimbed f root ps d p q s → IsNeighbour d ps p q
  climb_ends d s stop u = go d u.steps (sym u.order ∙ flat_plug u.steps u.shape) u.last u.around stop where
    go : (d : Bool) (cs : List Step) → ps ≡ before cs ++ (flat u.shape ++ after cs) → EndsWith d cs u.shape u.ahead p → Around f root q s u.at cs → (q ≡ null_ptr) ⊎ (s ≡ d → ⊥) → IsNeighbour d ps p q
    go false [] o e a stop = inr (u.ahead, o ∙ e, a.1)
    go true [] o e a stop = inr (u.ahead, o ∙ append-nil (flat u.shape) ∙ e, a.1)
    go false ((false, r, y) ∷ cs) o e a stop = absurd (elim stop [ inl z ↦ subst InBlock (sym a.at ∙ z) a.solid | inr z ↦ z a.side ])
    go true ((true, r, y) ∷ cs) o e a stop = absurd (elim stop [ inl z ↦ subst InBlock (sym a.at ∙ z) a.solid | inr z ↦ z a.side ])
    go false ((true, r, y) ∷ cs) o e a stop =
        inl (
          before cs ++ flat y,
          u.ahead,
          o ∙ ap (λ z. (before cs ++ (flat y ++ r ∷ [])) ++ z) e ∙ ap (λ z. z ++ p ∷ u.ahead) (sym (append_assoc (before cs) (flat y) (r ∷ []))) ∙ append_assoc (before cs ++ flat y) (r ∷ []) (p ∷ u.ahead)
              ∙ ap (λ z. (before cs ++ flat y) ++ z ∷ p ∷ u.ahead) (sym a.at),
          subst InBlock (sym a.at) a.solid,
        )
    go true ((false, r, y) ∷ cs) o e a stop =
        inl (u.ahead, flat y ++ after cs, o ∙ sym (append_assoc (before cs) (flat u.shape) (r ∷ (flat y ++ after cs))) ∙ ap (λ z. z ++ (r ∷ (flat y ++ after cs))) e ∙ append_assoc u.ahead (p ∷ []) (r ∷ (flat y ++ after cs)) ∙ ap (λ z. u.ahead ++ p ∷ z ∷ (flat y ++ after cs)) (sym a.at), subst InBlock (sym a.at) a.solid)

  pub climb_reaches : (d s : Bool) → AreNullComparable ps → IsClimbed f root ps d p q s → Reaches q ps
  climb_reaches d s c u = go u.steps u.order u.around where
    go : (cs : List Step) → flat (plug cs u.shape) ≡ ps → Around f root q s u.at cs → Reaches q ps
    go [] o a = subst (λ z. Reaches z ps) (sym a.1) (null_reaches ps)
    go ((k, r, y) ∷ cs) o a = subst (λ z. Reaches z ps) (sym a.at) (in_reaches r ps c (in_row (plug ((k, r, y) ∷ cs) u.shape) ps o r (steps_plug ((k, r, y) ∷ cs) u.shape r (inl refl))))
