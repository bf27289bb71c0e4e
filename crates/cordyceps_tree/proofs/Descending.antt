-- The ends of a subtree, and what is left without a node that has two children.
use Rattle.std.proofs.Common.{◌≡◌, inl, suc, ◌<◌, max, Bool, true, false, not, List, [], ◌∷◌, ◌++◌, refl, sym, ap, ◌∙◌, subst, arith, append_assoc}
use denote.RawPtr.{Ptr, null_ptr, InBlock}
use Rattle.cordyceps_base.specs.Element.{Element}
use Rattle.cordyceps_base.specs.Nodes.{Nodes, spots}
use Rattle.cordyceps_base.specs.Spots.{IsNew, AreDistinct, AreNullComparable}
use Rattle.cordyceps_base.proofs.SpotsMemory.{same_ptr_refl}
use Rattle.cordyceps_tree.specs.declared.hook.Hook.{Hook}
use Rattle.cordyceps_tree.specs.Rows.{Held, block_element, IsGone, IsSwapped}
use Rattle.cordyceps_tree.specs.Trees.{is_in, Reaches, kid, Shape, leaf, node, flat, height, Linked, plug, before, after, beyond, height_at, IsDown, IsOutermost, IsNeighbour}
use Rattle.cordyceps_tree.proofs.HookRows.{in_here, in_more}
use Rattle.cordyceps_tree.proofs.Trees.{height_known}
use Rattle.cordyceps_tree.proofs.Members.{in_row}
use Rattle.cordyceps_tree.proofs.Steps.{flat_plug, in_plug, Opened}
use Rattle.cordyceps_tree.proofs.Reaching.{tree_reaches}

module _ (f : Ptr → Hook) (ps : List Ptr) (d : Bool) (far : List Ptr) (h : Ptr) (u : IsDown f ps d far h) where
  pub down_reaches : AreNullComparable ps → Reaches h ps
  down_reaches c = tree_reaches f u.up u.side h u.shape ps c u.linked (λ z i. in_row (plug u.steps u.shape) ps u.order z (in_plug u.steps u.shape z i))

  pub down_on : InBlock h → IsDown f ps d far (kid (f h) d).ptr × (height_at f (kid (f h) d).ptr < height_at f h)
  down_on solid = go u.shape u.order u.linked where
    go : (t : Shape) → flat (plug u.steps t) ≡ ps → Linked f u.up u.side h t → IsDown f ps d far (kid (f h) d).ptr × (height_at f (kid (f h) d).ptr < height_at f h)
    go leaf o w = absurd (subst InBlock w solid)
    go (node x p y) o w = subst (λ z. IsDown f ps d far (kid (f z) d).ptr × (height_at f (kid (f z) d).ptr < height_at f z)) (sym w.at) (at_p d u.ahead) where
      hp : height_at f p ≡ suc (max (height x) (height y))
      hp = height_known f u.up u.side p (node x p y) (record { at = refl; solid = w.solid; up = w.up; side = w.side; tall = w.tall; left = w.left; right = w.right })

      at_p : (e : Bool) → beyond e u.steps ≡ far → IsDown f ps e far (kid (f p) e).ptr × (height_at f (kid (f p) e).ptr < height_at f p)
      at_p false a = (
        record { steps = (false, p, y) ∷ u.steps; shape = x; up = p; side = false; order = o; linked = w.left; ahead = a },
        (let k = height_known f p false (f p).left.ptr x w.left in omega (arith, k, hp)),
      )
      at_p true a = (
        record { steps = (true, p, x) ∷ u.steps; shape = y; up = p; side = true; order = o; linked = w.right; ahead = a },
        (let k = height_known f p true (f p).right.ptr y w.right in omega (arith, k, hp)),
      )

  pub down_end : InBlock h → (kid (f h) d).ptr ≡ null_ptr → IsOutermost ps d far h
  down_end solid low = go u.shape u.order u.linked where
    none : (x : Shape) (q k : Ptr) (s : Bool) → Linked f q s k x → k ≡ null_ptr → flat x ≡ []
    none leaf q k s w e = refl
    none (node l p r) q k s w e = absurd (subst InBlock (sym w.at ∙ e) w.solid)

    go : (t : Shape) → flat (plug u.steps t) ≡ ps → Linked f u.up u.side h t → IsOutermost ps d far h
    go leaf o w = absurd (subst InBlock w solid)
    go (node x p y) o w = subst (IsOutermost ps d far) (sym w.at) (at_p d u.ahead (subst (λ z. (kid (f z) d).ptr ≡ null_ptr) w.at low)) where
      at_p : (e : Bool) → beyond e u.steps ≡ far → (kid (f p) e).ptr ≡ null_ptr → IsOutermost ps e far p
      at_p false a k =
          let e : flat x ≡ [] = none x p (f p).left.ptr false w.left k in
          (flat y ++ after u.steps, sym o ∙ flat_plug u.steps (node x p y) ∙ ap (λ z. before u.steps ++ ((z ++ p ∷ flat y) ++ after u.steps)) e ∙ (λ i. a i ++ (p ∷ (flat y ++ after u.steps))))
      at_p true a k =
          let e : flat y ≡ [] = none y p (f p).right.ptr true w.right k in (
            before u.steps ++ flat x,
            sym o ∙ flat_plug u.steps (node x p y) ∙ ap (λ z. before u.steps ++ ((flat x ++ p ∷ z) ++ after u.steps)) e ∙ ap (λ z. before u.steps ++ z) (append_assoc (flat x) (p ∷ []) (after u.steps))
                ∙ sym (append_assoc (before u.steps) (flat x) (p ∷ after u.steps)) ∙ (λ i. (before u.steps ++ flat x) ++ p ∷ a i),
          )

-- the subtree on side d of a node, of which the neighbour is the outermost on the other side
abbrev pub across : {f : Ptr → Hook} {root p : Ptr} {whole : Shape} → Bool → Opened f root whole p → List Ptr
across {p = p} false u = p ∷ (flat u.right ++ after u.steps)
across {p = p} true u = before u.steps ++ (flat u.left ++ p ∷ [])

module _ (f : Ptr → Hook) (root : Ptr) (whole : Shape) (p : Ptr) (ps : List Ptr) (u : Opened f root whole p) (o : flat whole ≡ ps) where
  pub kid_down : (d : Bool) → IsDown f ps (not d) (across d u) (kid (f p) d).ptr
  kid_down false = record { steps = (false, p, u.right) ∷ u.steps; shape = u.left; up = p; side = false; order = ap flat u.is ∙ o; linked = u.linked.left; ahead = refl }
  kid_down true = record { steps = (true, p, u.left) ∷ u.steps; shape = u.right; up = p; side = true; order = ap flat u.is ∙ o; linked = u.linked.right; ahead = refl }

  pub next_is : (q : Ptr) (rest : List Ptr) → ps ≡ (before u.steps ++ (flat u.left ++ p ∷ [])) ++ q ∷ rest → ps ≡ (before u.steps ++ flat u.left) ++ p ∷ q ∷ rest
  next_is q rest e = e ∙ ap (λ z. z ++ q ∷ rest) (sym (append_assoc (before u.steps) (flat u.left) (p ∷ []))) ∙ append_assoc (before u.steps ++ flat u.left) (p ∷ []) (q ∷ rest)

  pub kid_next : (d : Bool) (q : Ptr) → IsOutermost ps (not d) (across d u) q → InBlock q → IsNeighbour d ps p q
  kid_next false q (rest, e) solid = inl (rest, flat u.right ++ after u.steps, e, solid)
  kid_next true q (rest, e) solid = inl (before u.steps ++ flat u.left, rest, next_is q rest e, solid)

-- the whole tree
pub all_down : (f : Ptr → Hook) (root : Ptr) (whole : Shape) (ps : List Ptr) (d : Bool) → flat whole ≡ ps → Linked f null_ptr false root whole → IsDown f ps d [] root
all_down f root whole ps false o w = record { steps = []; shape = whole; up = null_ptr; side = false; order = o; linked = w; ahead = refl }
all_down f root whole ps true o w = record { steps = []; shape = whole; up = null_ptr; side = false; order = o; linked = w; ahead = refl }

-- ---- places of nodes
new_in : (p : Ptr) (a b : List Ptr) → IsNew p (a ++ p ∷ b) → ⊥
new_in p [] b n = let same = same_ptr_refl p in let no = n.0 in absurd cc
new_in p (x ∷ a) b n = new_in p a b n.1

module _ {X : Type 0} where
  abbrev pub head_of : Ptr × Element X → Nodes X → Ptr × Element X
  head_of d [] = d
  head_of d (n ∷ c) = n

  abbrev pub tail_of : Nodes X → Nodes X
  tail_of [] = []
  tail_of (n ∷ c) = c

  spots_mid : (a : Nodes X) (p : Ptr) (e : Element X) (b : Nodes X) → spots (a ++ (p, e) ∷ b) ≡ spots a ++ p ∷ spots b
  spots_mid [] p e b = refl
  spots_mid (x ∷ a) p e b = ap (λ s. x.0 ∷ s) (spots_mid a p e b)

  pub record SamePlace (x1 y1 x2 y2 : Nodes X) (e1 e2 : Element X) : Type 0 where
    pub front : x1 ≡ x2
    pub here : e1 ≡ e2
    pub back : y1 ≡ y2

  pub same_place : (x1 y1 x2 y2 : Nodes X) (p : Ptr) (e1 e2 : Element X) → AreDistinct (spots (x1 ++ (p, e1) ∷ y1)) → x1 ++ (p, e1) ∷ y1 ≡ x2 ++ (p, e2) ∷ y2 → SamePlace x1 y1 x2 y2 e1 e2
  same_place [] y1 [] y2 p e1 e2 d is = record { front = refl; here = ap (λ c. (head_of (p, e1) c).1) is; back = ap tail_of is }
  same_place [] y1 (n ∷ x2) y2 p e1 e2 d is =
      let first : p ≡ n.0 = ap (λ c. (head_of (p, e1) c).0) is in let rest : y1 ≡ x2 ++ (p, e2) ∷ y2 = ap tail_of is in
      absurd (new_in p (spots x2) (spots y2) (subst (IsNew p) (ap spots rest ∙ spots_mid x2 p e2 y2) d.0))
  same_place (n ∷ x1) y1 [] y2 p e1 e2 d is =
      let first : n.0 ≡ p = ap (λ c. (head_of n c).0) is in
      absurd (new_in p (spots x1) (spots y1) (subst (IsNew p) (spots_mid x1 p e1 y1) (subst (λ z. IsNew z (spots (x1 ++ (p, e1) ∷ y1))) first d.0)))
  same_place (n ∷ x1) y1 (m ∷ x2) y2 p e1 e2 d is =
      let first : n ≡ m = ap (head_of n) is in let r = same_place x1 y1 x2 y2 p e1 e2 d.1 (ap tail_of is) in
      record { front = λ i. first i ∷ r.front i; here = r.here; back = r.back }

  -- parts of nodes by parts of their spots
  pub record Sundered (c : Nodes X) (a : List Ptr) (p q : Ptr) (b : List Ptr) : Type 0 where
    pub front : Nodes X
    pub first : Element X
    pub second : Element X
    pub back : Nodes X
    pub is : c ≡ front ++ (p, first) ∷ (q, second) ∷ back

  pub sundered : (c : Nodes X) (a : List Ptr) (p q : Ptr) (b : List Ptr) → spots c ≡ a ++ p ∷ q ∷ b → Sundered c a p q b
  sundered [] [] p q b e = absurd cc
  sundered [] (x ∷ a) p q b e = absurd cc
  sundered (n ∷ []) [] p q b e = absurd cc
  sundered (n ∷ m ∷ c) [] p q b e = let x : n.0 ≡ p = cc in let y : m.0 ≡ q = cc in record { front = []; first = n.1; second = m.1; back = c; is = λ i. (x i, n.1) ∷ (y i, m.1) ∷ c }
  sundered (n ∷ c) (x ∷ a) p q b e = let more : spots c ≡ a ++ p ∷ q ∷ b = cc in let r = sundered c a p q b more in record { front = n ∷ r.front; first = r.first; second = r.second; back = r.back; is = ap (λ z. n ∷ z) r.is }

  -- the next node left, and took the place of that at p
  pub two_gone : (c mid d : Nodes X) (a b : List Ptr) (p q : Ptr) (one two : List (Held X)) → AreDistinct (spots c) → AreDistinct (spots mid) → spots c ≡ a ++ p ∷ q ∷ b → (g : IsGone c q one mid) → IsSwapped mid p two q (block_element g.block) d → IsGone c p two d
  two_gone c mid d a b p q one two dc dm e g w =
      let s = sundered c a p q b e in
      let was : (s.front ++ (p, s.first) ∷ []) ++ (q, s.second) ∷ s.back ≡ g.front ++ (q, block_element g.block) ∷ g.back = append_assoc s.front ((p, s.first) ∷ []) ((q, s.second) ∷ s.back) ∙ sym s.is ∙ g.was in
      let k = same_place (s.front ++ (p, s.first) ∷ []) s.back g.front g.back q s.second (block_element g.block) (subst (λ z. AreDistinct (spots z)) (sym (append_assoc s.front ((p, s.first) ∷ []) ((q, s.second) ∷ s.back) ∙ sym s.is)) dc) was in
      let mid_is : mid ≡ s.front ++ (p, s.first) ∷ s.back = g.is ∙ (λ i. sym k.front i ++ sym k.back i) ∙ append_assoc s.front ((p, s.first) ∷ []) s.back in
      let m = same_place s.front s.back w.front w.back p s.first (block_element w.block) (subst (λ z. AreDistinct (spots z)) mid_is dm) (sym mid_is ∙ w.was) in
      record {
        front = s.front;
        back = (q, block_element g.block) ∷ s.back;
        alloc = w.alloc;
        block = w.block;
        was = s.is ∙ (λ i. s.front ++ (p, m.here i) ∷ (q, k.here i) ∷ s.back);
        is = w.is ∙ (λ i. sym m.front i ++ (q, block_element g.block) ∷ sym m.back i);
        alone = w.alone;
      }

  in_mid : (a : Nodes X) (p : Ptr) (e : Element X) (b : Nodes X) → is_in p (spots (a ++ (p, e) ∷ b)) ≡ true
  in_mid [] p e b = in_here p p (spots b) (same_ptr_refl p)
  in_mid (x ∷ a) p e b = in_more p x.0 (spots (a ++ (p, e) ∷ b)) (in_mid a p e b)

  -- the node before the one that left is there
  pub mid_in : (c mid : Nodes X) (a b : List Ptr) (p q : Ptr) (one : List (Held X)) → AreDistinct (spots c) → spots c ≡ a ++ p ∷ q ∷ b → IsGone c q one mid → is_in p (spots mid) ≡ true
  mid_in c mid a b p q one dc e g =
      let s = sundered c a p q b e in
      let was : (s.front ++ (p, s.first) ∷ []) ++ (q, s.second) ∷ s.back ≡ g.front ++ (q, block_element g.block) ∷ g.back = append_assoc s.front ((p, s.first) ∷ []) ((q, s.second) ∷ s.back) ∙ sym s.is ∙ g.was in
      let k = same_place (s.front ++ (p, s.first) ∷ []) s.back g.front g.back q s.second (block_element g.block) (subst (λ z. AreDistinct (spots z)) (sym (append_assoc s.front ((p, s.first) ∷ []) ((q, s.second) ∷ s.back) ∙ sym s.is)) dc) was in
      let mid_is : mid ≡ s.front ++ (p, s.first) ∷ s.back = g.is ∙ (λ i. sym k.front i ++ sym k.back i) ∙ append_assoc s.front ((p, s.first) ∷ []) s.back in
      subst (λ z. is_in p (spots z) ≡ true) (sym mid_is) (in_mid s.front p s.first s.back)
