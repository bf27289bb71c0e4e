-- What balances a node that is too high on a side.
use Rattle.std.proofs.Common.{◌≡◌, inl, inr, ℕ, suc, ◌≤◌, ◌<◌, max, Bool, true, false, not, List, ◌∷◌, ◌++◌, refl, sym, ap, ◌∙◌, subst, arith}
use denote.RawPtr.{Ptr}
use Rattle.cordyceps_base.specs.declared.boxes.Address.{Address}
use Rattle.cordyceps_base.specs.Spots.{AreNullComparable}
use Rattle.cordyceps_tree.specs.declared.hook.Hook.{Hook}
use Rattle.cordyceps_tree.specs.Trees.{is_in, Reaches, kid, with_kid, high, Shape, leaf, node, join, flat, height, In, Sole, Balanced, Linked, Hangs, turned, Turned, TurnedTwice, Mended, Wrote, height_at, CanTurn, CanTurnTwice, CanLean, CanMend}
use Rattle.cordyceps_tree.proofs.Trees.{kid_set, kid_kept, up_with, side_with, Joined, unjoin, in_here, in_top, Parted, parted, linked_keep, linked_wrote, height_known, height_join, join_flip}
use Rattle.cordyceps_tree.proofs.Members.{sole_same, in_same}
use Rattle.cordyceps_tree.proofs.Mending.{once_fine, twice_fine}
use Rattle.cordyceps_tree.proofs.Rotations.{turned_flat}
use Rattle.cordyceps_tree.proofs.Reaching.{tree_reaches}

pub not_not : (d : Bool) → not (not d) ≡ d
not_not false = refl
not_not true = refl

pub record Split (d : Bool) (t : Shape) : Type 0 where
  pub x : Shape
  pub p : Ptr
  pub y : Shape
  pub is : t ≡ join d x p y

pub split_tall : (d : Bool) (t : Shape) → 0 < height t → Split d t
split_tall d leaf h = absurd (omega (arith, h))
split_tall false (node l p r) h = record { x = l; p = p; y = r; is = refl }
split_tall true (node l p r) h = record { x = r; p = p; y = l; is = refl }

flat_here : (d : Bool) (x y : Shape) (p : Ptr) (e : Shape) → flat x ≡ flat y → flat (join d x p e) ≡ flat (join d y p e)
flat_here false x y p e is = ap (λ z. z ++ p ∷ flat e) is
flat_here true x y p e is = ap (λ z. flat e ++ p ∷ z) is

-- the order stays where the inner grandchild goes up
pub inner_flat : (d : Bool) (a : Shape) (c : Ptr) (x : Shape) (i : Ptr) (y : Shape) → flat (join d (join (not d) y c a) i x) ≡ flat (join d a c (join (not d) x i y))
inner_flat d a c x i y = sym (ap flat (join_flip d x i (join (not d) y c a))) ∙ turned_flat (not d) x i y c a ∙ ap flat (join_flip d (join (not d) x i y) c a)

pub outer_flat : (d : Bool) (a : Shape) (c : Ptr) (x : Shape) (i : Ptr) (y : Shape) (p : Ptr) (e : Shape) → flat (join d (join d (join (not d) y c a) i x) p e) ≡ flat (join d (join d a c (join (not d) x i y)) p e)
outer_flat d a c x i y p e = flat_here d (join d (join (not d) y c a) i x) (join d a c (join (not d) x i y)) p e (inner_flat d a c x i y)

pub twice_flat : (d : Bool) (a : Shape) (c : Ptr) (x : Shape) (i : Ptr) (y : Shape) (p : Ptr) (e : Shape) → flat (join d (join (not d) y c a) i (join d x p e)) ≡ flat (join d (join d a c (join (not d) x i y)) p e)
twice_flat d a c x i y p e = turned_flat d (join (not d) y c a) i x p e ∙ outer_flat d a c x i y p e

-- ---- the two rotations
-- the child hangs, seen from its other side
pub child_hangs : (f : Ptr → Hook) (d : Bool) (p : Ptr) (h : Ptr) (a : Shape) (c : Ptr) (m : Shape) → Linked f p d h (join d a c m) → Hangs f p d (not d) m c a
child_hangs f d p h a c m w =
    let j = unjoin f p d h d a c m w in
    record { solid = j.solid; up = j.up; side = j.side; here = j.there; there = subst (λ (z : Bool). Linked f c z (kid (f c) z).ptr a) (sym (not_not d)) j.here }

module _ (f : Ptr → Hook) (ps : List Ptr) (p c : Ptr) (d : Bool) (v : CanTurnTwice f ps p c d) where
  abbrev m : Shape
  m = join (not d) v.x v.inner v.y

  pub flips : join (not d) m c v.outer ≡ join d v.outer c m
  flips = join_flip d m c v.outer

  abbrev pub first_turn : CanTurn f ps c (not d)
  first_turn = record {
    up = p;
    side = d;
    outer = v.x;
    top = v.inner;
    inner = v.y;
    other = v.outer;
    hangs = child_hangs f d p (kid (f p) d).ptr v.outer c m v.hangs.here;
    sole = subst Sole (sym flips) (parted d (join d v.outer c m) p v.other v.sole).here;
    inside = λ z i. v.inside z (in_here z d (join d v.outer c m) p v.other (subst (In z) flips i));
    fits = let x = ap height flips in let y = height_join d (join d v.outer c m) p v.other in let k = v.fits in omega (arith, x, y, k);
  }

  pub twice_at : is_in p ps ≡ true
  twice_at = v.inside p (in_top d (join d v.outer c m) p v.other)

module _ (f g1 g2 : Ptr → Hook) (q : Ptr) (s d : Bool) (a : Shape) (c : Ptr) (x : Shape) (i : Ptr) (y : Shape) (p : Ptr) (e : Shape) (mid : Address) (w : Hangs f q s d (join d a c (join (not d) x i y)) p e) (o : Sole (join d (join d a c (join (not d) x i y)) p e)) (t : Turned f p d (not d) x i y c a g1 mid.ptr) (wrote : Wrote g1 p (with_kid (g1 p) d mid) g2) where
  abbrev big : Shape
  big = join d a c (join (not d) x i y)

  abbrev new : Shape
  new = join d (join (not d) y c a) i x

  pub u : Parted big p e
  u = parted d big p e o

  flips2 : join (not d) (join (not d) x i y) c a ≡ big
  flips2 = join_flip d (join (not d) x i y) c a

  keep1 : (z : Ptr) → (In z big → ⊥) → g1 z ≡ f z
  keep1 z out = t.others z (λ j. out (subst (In z) flips2 j))

  new_linked : Linked g1 p d mid.ptr new
  new_linked = subst (λ z. Linked g1 p d z new) (sym t.at) (subst (Linked g1 p d i) (join_flip d x i (join (not d) y c a)) t.linked)

  in_new : (z : Ptr) → In z new → In z big
  in_new z j = in_same big new (inner_flat d a c x i y) z j

  at_p : g2 p ≡ with_kid (f p) d mid
  at_p = wrote.here ∙ ap (λ z. with_kid z d mid) (keep1 p u.not_here)

  pub second_hangs : Hangs g2 q s d new p e
  second_hangs = record {
    solid = w.solid;
    up = ap (λ (z : Hook). z.up.ptr) at_p ∙ ap (λ (z : Address). z.ptr) (up_with (f p) d mid) ∙ w.up;
    side = ap (λ (z : Hook). z.side) at_p ∙ side_with (f p) d mid ∙ w.side;
    here = subst (λ (z : Address). Linked g2 p d z.ptr new) (sym (ap (λ z. kid z d) at_p ∙ kid_set (f p) d mid)) (linked_wrote g1 g2 p d mid.ptr new p (with_kid (g1 p) d mid) new_linked wrote (λ j. u.not_here (in_new p j)));
    there = subst (λ (z : Address). Linked g2 p (not d) z.ptr e) (sym (ap (λ z. kid z (not d)) at_p ∙ kid_kept (f p) d mid)) (linked_keep f g2 p (not d) (kid (f p) (not d)).ptr e w.there (λ z j. wrote.others z (λ is. u.not_there (subst (λ y. In y e) is j)) ∙ keep1 z (λ k. u.apart z k j)));
  }

  pub second_sole : Sole (join d new p e)
  second_sole = sole_same (join d big p e) (join d new p e) (outer_flat d a c x i y p e) o

  pub second_in : (z : Ptr) → In z (join d new p e) → In z (join d big p e)
  second_in z j = in_same (join d big p e) (join d new p e) (outer_flat d a c x i y p e) z j

  pub twice_done : (g3 : Ptr → Hook) (r : Ptr) → Turned g2 q s d (join (not d) y c a) i x p e g3 r → TurnedTwice f q s d a c x i y p e g3 r
  twice_done g3 r k = record {
    linked = subst (λ z. Linked g3 q s z (join d (join (not d) y c a) i (join d x p e))) (sym k.at) k.linked;
    others = λ z out. k.others z (λ j. out (second_in z j)) ∙ wrote.others z (λ is. out (subst (λ y. In y (join d big p e)) (sym is) (in_top d big p e))) ∙ keep1 z (λ j. out (in_here z d big p e j));
  }

module _ (f g1 g2 : Ptr → Hook) (ps : List Ptr) (p c : Ptr) (d : Bool) (v : CanTurnTwice f ps p c d) (mid : Address) (t : Turned f p d (not d) v.x v.inner v.y c v.outer g1 mid.ptr) (wrote : Wrote g1 p (with_kid (g1 p) d mid) g2) where
  abbrev pub second_turn : CanTurn g2 ps p d
  second_turn = record {
    up = v.up;
    side = v.side;
    outer = join (not d) v.y c v.outer;
    top = v.inner;
    inner = v.x;
    other = v.other;
    hangs = second_hangs f g1 g2 v.up v.side d v.outer c v.x v.inner v.y p v.other mid v.hangs v.sole t wrote;
    sole = second_sole f g1 g2 v.up v.side d v.outer c v.x v.inner v.y p v.other mid v.hangs v.sole t wrote;
    inside = λ z i. v.inside z (second_in f g1 g2 v.up v.side d v.outer c v.x v.inner v.y p v.other mid v.hangs v.sole t wrote z i);
    fits =
        let a1 = height_join d (join d v.outer c (join (not d) v.x v.inner v.y)) p v.other in let a2 = height_join d v.outer c (join (not d) v.x v.inner v.y) in let a3 = height_join (not d) v.x v.inner v.y in
        let b1 = height_join d (join d (join (not d) v.y c v.outer) v.inner v.x) p v.other in let b2 = height_join d (join (not d) v.y c v.outer) v.inner v.x in let b3 = height_join (not d) v.y c v.outer in
        let k = v.fits in omega (arith, a1, a2, a3, b1, b2, b3, k);
  }

-- ---- leaning
module _ (f : Ptr → Hook) (ps : List Ptr) (p : Ptr) (d : Bool) (u : CanLean f ps p d) where
  abbrev sp : Split d u.x
  sp = split_tall d u.x (let e = u.two in omega (arith, e))

  abbrev pub lean_turn : CanTurn f ps p d
  lean_turn = record {
    up = u.up;
    side = u.side;
    outer = sp.x;
    top = sp.p;
    inner = sp.y;
    other = u.y;
    hangs = subst (λ z. Hangs f u.up u.side d z p u.y) sp.is u.hangs;
    sole = subst (λ z. Sole (join d z p u.y)) sp.is u.sole;
    inside = λ z i. u.inside z (subst (λ y. In z (join d y p u.y)) (sym sp.is) i);
    fits = let a = height_join d (join d sp.x sp.p sp.y) p u.y in let b = ap height sp.is in let c = u.fits in let e = u.two in omega (arith, a, b, c, e);
  }

  lean_joined : Joined f p d (kid (f p) d).ptr d sp.x sp.p sp.y
  lean_joined = unjoin f p d (kid (f p) d).ptr d sp.x sp.p sp.y (subst (Linked f p d (kid (f p) d).ptr) sp.is u.hangs.here)

  module _ (top : Address) (read : top ≡ kid (f p) d) (less : height_at f (kid (f top.ptr) d).ptr < height_at f (kid (f top.ptr) (not d)).ptr) where
    at_top : top.ptr ≡ sp.p
    at_top = ap (λ (z : Address). z.ptr) read ∙ lean_joined.at

    tall_inner : 0 < height sp.y
    tall_inner =
        let k = height_known f sp.p (not d) (kid (f top.ptr) (not d)).ptr sp.y (subst (λ z. Linked f sp.p (not d) (kid (f z) (not d)).ptr sp.y) (sym at_top) lean_joined.there) in omega (arith, k, less)

    abbrev sq : Split (not d) sp.y
    sq = split_tall (not d) sp.y tall_inner

    whole : u.x ≡ join d sp.x top.ptr (join (not d) sq.x sq.p sq.y)
    whole = sp.is ∙ (λ i. join d sp.x (sym at_top i) (sq.is i))

    pub lean_twice : CanTurnTwice f ps p top.ptr d
    lean_twice = record {
      up = u.up;
      side = u.side;
      outer = sp.x;
      x = sq.x;
      inner = sq.p;
      y = sq.y;
      other = u.y;
      hangs = subst (λ z. Hangs f u.up u.side d z p u.y) whole u.hangs;
      sole = subst (λ z. Sole (join d z p u.y)) whole u.sole;
      inside = λ z i. u.inside z (subst (λ y. In z (join d y p u.y)) (sym whole) i);
      fits = let a = height_join d (join d sp.x top.ptr (join (not d) sq.x sq.p sq.y)) p u.y in let b = ap height whole in let c = u.fits in let e = u.two in omega (arith, a, b, c, e);
    }

module _ (f : Ptr → Hook) (q : Ptr) (s d : Bool) (x : Shape) (p : Ptr) (e : Shape) (w : Hangs f q s d x p e) (o : Sole (join d x p e)) (bx : Balanced x) (be : Balanced e) (two : height x ≡ suc (suc (height e))) (top : Address) (read : top ≡ kid (f p) d) where
  abbrev st : Split d x
  st = split_tall d x (omega (arith, two))

  abbrev w1 : Hangs f q s d (join d st.x st.p st.y) p e
  w1 = subst (λ z. Hangs f q s d z p e) st.is w

  abbrev o1 : Sole (join d (join d st.x st.p st.y) p e)
  o1 = subst (λ z. Sole (join d z p e)) st.is o

  abbrev b1 : Balanced (join d st.x st.p st.y)
  b1 = subst Balanced st.is bx

  j1 : Joined f p d (kid (f p) d).ptr d st.x st.p st.y
  j1 = unjoin f p d (kid (f p) d).ptr d st.x st.p st.y w1.here

  top_is : top.ptr ≡ st.p
  top_is = ap (λ (z : Address). z.ptr) read ∙ j1.at

  inner_is : height_at f (kid (f top.ptr) (not d)).ptr ≡ height st.y
  inner_is = height_known f st.p (not d) (kid (f top.ptr) (not d)).ptr st.y (subst (λ z. Linked f st.p (not d) (kid (f z) (not d)).ptr st.y) (sym top_is) j1.there)

  outer_is : height_at f (kid (f top.ptr) d).ptr ≡ height st.x
  outer_is = height_known f st.p d (kid (f top.ptr) d).ptr st.x (subst (λ z. Linked f st.p d (kid (f z) d).ptr st.x) (sym top_is) j1.here)

  two1 : height (join d st.x st.p st.y) ≡ suc (suc (height e))
  two1 = sym (ap height st.is) ∙ two

  pub leant_once : (g : Ptr → Hook) (r : Ptr) → height_at f (kid (f top.ptr) (not d)).ptr ≤ height_at f (kid (f top.ptr) d).ptr → ((a : Shape) (c : Ptr) (m : Shape) → Hangs f q s d (join d a c m) p e → Sole (join d (join d a c m) p e) → Turned f q s d a c m p e g r) → Mended f q s d x p e g r
  leant_once g r le k =
      let t = k st.x st.p st.y w1 o1 in
      let y = once_fine d st.x st.p st.y p e b1 be two1 (omega (arith, le, inner_is, outer_is)) in
      let hx = ap height st.is in let lo = y.low in let hi = y.high in
      record {
        shape = turned d st.x st.p st.y p e;
        order = turned_flat d st.x st.p st.y p e ∙ ap (λ z. flat (join d z p e)) (sym st.is);
        linked = subst (λ z. Linked g q s z (turned d st.x st.p st.y p e)) (sym t.at) t.linked;
        balanced = y.balanced;
        low = omega (arith, lo, hx);
        high = omega (arith, hi, hx);
        level = λ k. let k0 = k.0 in absurd (omega (arith, k0, two));
        others = λ z out. t.others z (λ i. out (subst (λ v. In z (join d v p e)) (sym st.is) i));
      }

  pub leant_twice : (g : Ptr → Hook) (r : Ptr) → height_at f (kid (f top.ptr) d).ptr < height_at f (kid (f top.ptr) (not d)).ptr → ((a x : Shape) (i : Ptr) (y : Shape) → Hangs f q s d (join d a top.ptr (join (not d) x i y)) p e → Sole (join d (join d a top.ptr (join (not d) x i y)) p e) → TurnedTwice f q s d a top.ptr x i y p e g r) → Mended f q s d x p e g r
  leant_twice g r lt k =
      let tall : 0 < height st.y = omega (arith, lt, inner_is) in
      let sr = split_tall (not d) st.y tall in
      let all : x ≡ join d st.x top.ptr (join (not d) sr.x sr.p sr.y) = st.is ∙ (λ i. join d st.x (sym top_is i) (sr.is i)) in
      let t = k st.x sr.x sr.p sr.y (subst (λ z. Hangs f q s d z p e) all w) (subst (λ z. Sole (join d z p e)) all o) in
      let hy = ap height sr.is in
      let y = twice_fine d st.x top.ptr sr.y sr.p sr.x p e (subst Balanced all bx) be (sym (ap height all) ∙ two) (omega (arith, lt, inner_is, outer_is, hy)) in
      let hx = ap height all in let lo = y.low in let hi = y.high in
      record {
        shape = join d (join (not d) sr.y top.ptr st.x) sr.p (join d sr.x p e);
        order = twice_flat d st.x top.ptr sr.x sr.p sr.y p e ∙ ap (λ z. flat (join d z p e)) (sym all);
        linked = t.linked;
        balanced = y.balanced;
        low = omega (arith, lo, hx);
        high = omega (arith, hi, hx);
        level = λ k. let k0 = k.0 in absurd (omega (arith, k0, two));
        others = λ z out. t.others z (λ i. out (subst (λ v. In z (join d v p e)) (sym all) i));
      }

-- ---- either side
pub first_sole : (d : Bool) (a : Shape) (c : Ptr) (m : Shape) (p : Ptr) (e : Shape) → Sole (join d (join d a c m) p e) → Sole (join (not d) m c a)
first_sole d a c m p e o = subst Sole (sym (join_flip d m c a)) (parted d (join d a c m) p e o).here

pub flip_hangs : (f : Ptr → Hook) (q : Ptr) (s : Bool) (x : Shape) (p : Ptr) (y : Shape) → Hangs f q s false x p y → Hangs f q s true y p x
flip_hangs f q s x p y w = record { solid = w.solid; up = w.up; side = w.side; here = w.there; there = w.here }

swap_max : (a b : ℕ) → max a b ≡ max b a
swap_max a b = omega arith

pub unflip_mended : (f : Ptr → Hook) (q : Ptr) (s : Bool) (x : Shape) (p : Ptr) (y : Shape) (g : Ptr → Hook) (r : Ptr) → Mended f q s false x p y g r → Mended f q s true y p x g r
unflip_mended f q s x p y g r w =
    let lo = w.low in let hi = w.high in
    record { shape = w.shape; order = w.order; linked = w.linked; balanced = w.balanced; low = omega (arith, lo); high = omega (arith, hi); level = λ k. w.level (k.1, k.0) ∙ ap suc (swap_max (height x) (height y)); others = w.others }

pub flip_mended : (f : Ptr → Hook) (q : Ptr) (s : Bool) (x : Shape) (p : Ptr) (y : Shape) (g : Ptr → Hook) (r : Ptr) → Mended f q s true y p x g r → Mended f q s false x p y g r
flip_mended f q s x p y g r w =
    let lo = w.low in let hi = w.high in
    record { shape = w.shape; order = w.order; linked = w.linked; balanced = w.balanced; low = omega (arith, lo); high = omega (arith, hi); level = λ k. w.level (k.1, k.0) ∙ ap suc (swap_max (height y) (height x)); others = w.others }

module _ (f : Ptr → Hook) (q : Ptr) (s : Bool) (x : Shape) (p : Ptr) (y : Shape) (w : Hangs f q s false x p y) where
  pub left_known : height_at f (f p).left.ptr ≡ height x
  left_known = height_known f p false (f p).left.ptr x w.here

  pub right_known : height_at f (f p).right.ptr ≡ height y
  right_known = height_known f p true (f p).right.ptr y w.there

  -- a node that is balanced learns its height
  pub still_mended : (g : Ptr → Hook) (n : ℕ) → Sole (node x p y) → Balanced x → Balanced y → Wrote f p (high (f p) n) g → n ≡ suc (max (height x) (height y)) → height x ≤ suc (height y) → height y ≤ suc (height x) → Mended f q s false x p y g p
  still_mended g n o bx by e tall lo hi =
      let keep : (t : Shape) → (In p t → ⊥) → (z : Ptr) → In z t → g z ≡ f z = λ t out z i. e.others z (λ is. out (subst (λ v. In v t) is i)) in
      record {
        shape = node x p y;
        order = refl;
        linked = record {
          at = refl;
          solid = w.solid;
          up = ap (λ (z : Hook). z.up.ptr) e.here ∙ w.up;
          side = ap (λ (z : Hook). z.side) e.here ∙ w.side;
          tall = ap (λ (z : Hook). z.height) e.here ∙ tall;
          left = subst (λ (z : Hook). Linked g p false z.left.ptr x) (sym e.here) (linked_keep f g p false (f p).left.ptr x w.here (keep x o.0));
          right = subst (λ (z : Hook). Linked g p true z.right.ptr y) (sym e.here) (linked_keep f g p true (f p).right.ptr y w.there (keep y o.1));
        };
        balanced = ((lo, hi), bx, by);
        low = omega arith;
        high = omega arith;
        level = λ k. refl;
        others = λ z out. e.others z (λ is. out (inl is));
      }

module _ (f : Ptr → Hook) (ps : List Ptr) (p : Ptr) (u : CanMend f ps p) where
  xl : height_at f (f p).left.ptr ≡ height u.x
  xl = left_known f u.up u.side u.x p u.y u.hangs

  yr : height_at f (f p).right.ptr ≡ height u.y
  yr = right_known f u.up u.side u.x p u.y u.hangs

  pub mend_at : is_in p ps ≡ true
  mend_at = u.inside p (inl refl)

  pub mend_left : AreNullComparable ps → Reaches (f p).left.ptr ps
  mend_left a = tree_reaches f p false (f p).left.ptr u.x ps a u.hangs.here (λ z i. u.inside z (inr (inl i)))

  pub mend_right : AreNullComparable ps → Reaches (f p).right.ptr ps
  mend_right a = tree_reaches f p true (f p).right.ptr u.y ps a u.hangs.there (λ z i. u.inside z (inr (inr i)))

  pub mend_fits : (height_at f (f p).left.ptr ≤ 240) × (height_at f (f p).right.ptr ≤ 240)
  mend_fits = let a = u.fits.0 in let b = u.fits.1 in (omega (arith, a, xl), omega (arith, b, yr))

  pub mend_low : (height_at f (f p).left.ptr ≤ suc (suc (height_at f (f p).right.ptr))) × (height_at f (f p).right.ptr ≤ suc (suc (height_at f (f p).left.ptr)))
  mend_low = let a = u.low in let b = u.high in (omega (arith, a, xl, yr), omega (arith, b, xl, yr))

  pub mend_lean_left : suc (height_at f (f p).right.ptr) < height_at f (f p).left.ptr → CanLean f ps p false
  mend_lean_left h = record {
    up = u.up;
    side = u.side;
    x = u.x;
    y = u.y;
    hangs = u.hangs;
    sole = u.sole;
    inside = u.inside;
    here = u.here;
    there = u.there;
    two = let a = u.low in omega (arith, a, h, xl, yr);
    fits = u.fits.0;
  }

  pub mend_lean_right : suc (height_at f (f p).left.ptr) < height_at f (f p).right.ptr → CanLean f ps p true
  mend_lean_right h = record {
    up = u.up;
    side = u.side;
    x = u.y;
    y = u.x;
    hangs = flip_hangs f u.up u.side u.x p u.y u.hangs;
    sole = u.sole;
    inside = u.inside;
    here = u.there;
    there = u.here;
    two = let a = u.high in omega (arith, a, h, xl, yr);
    fits = u.fits.1;
  }
