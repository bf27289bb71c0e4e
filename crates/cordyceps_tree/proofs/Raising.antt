-- One step up of what balances a tree.
use Rattle.std.proofs.Common.{◌==◌, eqb→eq, T, ◌≡◌, ◌⊎◌, inl, inr, ℕ, zero, suc, ◌+◌, ◌^◌, ◌≤◌, ◌<◌, max, Bool, true, false, List, [], ◌∷◌, ◌++◌, length, refl, sym, ap, ◌∙◌, subst, arith}
use Rattle.std.specs.Bool.{MatchBool}
use denote.RawPtr.{Ptr, null_ptr, block_ptr, InBlock}
use Rattle.cordyceps_base.specs.declared.boxes.Address.{Address}
use Rattle.cordyceps_base.specs.Spots.{AreDistinct, AreNullComparable}
use Rattle.cordyceps_tree.specs.declared.hook.Hook.{Hook}
use Rattle.cordyceps_tree.specs.Trees.{is_in, Reaches, kid, Shape, leaf, node, join, flat, height, size, In, Sole, Close, Balanced, Linked, Hangs, Mended, Step, plug, InSteps, before, after, Around, Stands, IsHung, height_at, CanMend, IsSettled, IsUnsettled, climb}
use Rattle.cordyceps_tree.proofs.Trees.{in_top, linked_keep, height_known}
use Rattle.cordyceps_tree.proofs.Members.{Lone, among_back, lone_parts, lone_both, lone_sole, sole_lone, in_same, in_row, row_sole, size_flat}
use Rattle.cordyceps_tree.proofs.Heights.{not_tall}
use Rattle.cordyceps_tree.proofs.Steps.{flat_plug, flat_same, in_plug, steps_plug, Within, within, around_keep, stands_keep, close_up, hung_around, hung_others, hung_stands}
use Rattle.cordyceps_tree.proofs.Leaning.{unflip_mended}
use Rattle.cordyceps_tree.proofs.Reaching.{null_reaches, in_reaches}

-- ---- sizes
size_join : (d : Bool) (x : Shape) (p : Ptr) (y : Shape) → size (join d x p y) ≡ suc (size x + size y)
size_join false x p y = refl
size_join true x p y = omega arith

pub size_plug : (cs : List Step) (t : Shape) → length cs + size t ≤ size (plug cs t)
size_plug [] t = omega arith
size_plug ((d, p, y) ∷ cs) t = let a = size_plug cs (join d t p y) in let b = size_join d t p y in omega (arith, a, b)

-- ---- what is left of a tree without a subtree
lone_drop : (xs ys zs : List Ptr) → Lone (xs ++ (ys ++ zs)) → Lone (xs ++ zs)
lone_drop xs ys zs o =
    let u = lone_parts xs (ys ++ zs) o in let v = lone_parts ys zs u.1 in
    lone_both xs zs u.0 v.1 (λ a i j. u.2 a i (among_back a ys zs j))

pub sole_less : (cs : List Step) (t : Shape) → Sole (plug cs t) → Sole (plug cs leaf)
sole_less cs t o = lone_sole (plug cs leaf) (subst Lone (sym (flat_plug cs leaf)) (lone_drop (before cs) (flat t) (after cs) (subst Lone (flat_plug cs t) (sole_lone (plug cs t) o))))

-- ---- the next node up
pub record Next (f : Ptr → Hook) (ps : List Ptr) (root p : Ptr) : Type 0 where
  pub d : Bool
  pub t : Shape
  pub y : Shape
  pub cs : List Step
  pub was : ℕ
  pub order : flat (plug cs (join d t p y)) ≡ ps
  pub hangs : Hangs f (f p).up.ptr (f p).side d t p y
  pub around : Around f root (f p).up.ptr (f p).side p cs
  pub tall : (f p).height ≡ suc (max was (height y))
  pub close : Close was (height y)
  pub near : Close was (height t)
  pub here : Balanced t
  pub there : Balanced y
  pub stands : Stands f (suc (max was (height y))) cs

pub next_of : (f : Ptr → Hook) (ps : List Ptr) (root q : Ptr) → IsUnsettled f ps root q → InBlock q → Next f ps root q
next_of f ps root q u solid = go u.steps u.order u.around u.stands where
  go : (cs : List Step) → flat (plug cs u.shape) ≡ ps → Around f root q u.side u.at cs → Stands f u.was cs → Next f ps root q
  go [] order a st = absurd (subst InBlock a.1 solid)
  go ((d, p, y) ∷ cs) order a (tall, close, fine, more) = subst (Next f ps root) (sym a.at) (record {
    d = d;
    t = u.shape;
    y = y;
    cs = cs;
    was = u.was;
    order = order;
    hangs = record { solid = a.solid; up = refl; side = refl; here = subst (λ z. Linked f p d z u.shape) (sym a.leads) (subst (λ z. Linked f p z u.at u.shape) a.side (subst (λ z. Linked f z u.side u.at u.shape) a.at u.linked)); there = a.other };
    around = a.above;
    tall = tall;
    close = close;
    near = u.near;
    here = u.balanced;
    there = fine;
    stands = more;
  })

-- there the tree is balanced
pub at_top : (f : Ptr → Hook) (ps : List Ptr) (root q : Ptr) → IsUnsettled f ps root q → q ≡ null_ptr → IsSettled f ps root
at_top f ps root q u null = go u.steps u.order u.around where
  go : (cs : List Step) → flat (plug cs u.shape) ≡ ps → Around f root q u.side u.at cs → IsSettled f ps root
  go [] order a = let w = close_up f root q u.side u.at [] u.shape a tt u.linked u.balanced in record { shape = u.shape; order = order; linked = w.0; balanced = w.1 }
  go ((d, p, y) ∷ cs) order a = absurd (subst InBlock (sym a.at ∙ null) a.solid)

pub unsettled_reaches : (f : Ptr → Hook) (ps : List Ptr) (root q : Ptr) → AreNullComparable ps → IsUnsettled f ps root q → Reaches q ps
unsettled_reaches f ps root q c u = go u.steps u.order u.around where
  go : (cs : List Step) → flat (plug cs u.shape) ≡ ps → Around f root q u.side u.at cs → Reaches q ps
  go [] order a = subst (λ z. Reaches z ps) (sym a.1) (null_reaches ps)
  go ((d, p, y) ∷ cs) order a = subst (λ z. Reaches z ps) (sym a.at) (in_reaches p ps c (in_row (plug ((d, p, y) ∷ cs) u.shape) ps order p (steps_plug ((d, p, y) ∷ cs) u.shape p (inl refl))))

pub climb_is : (f : Ptr → Hook) (root q : Ptr) (s : Bool) (h : Ptr) (cs : List Step) (n : ℕ) → Around f root q s h cs → length cs ≤ n → climb f n q ≡ length cs
climb_is f root q s h [] zero a k = refl
climb_is f root q s h [] (suc n) a k = ap (climb f (suc n)) a.1
climb_is f root q s h ((d, p, y) ∷ cs) zero a k = absurd (omega (arith, k))
climb_is f root q s h ((d, p, y) ∷ cs) (suc n) a k = go q a.at (climb_is f root (f p).up.ptr (f p).side p cs n a.above (omega (arith, k))) where
  go : (v : Ptr) → v ≡ p → climb f n (f p).up.ptr ≡ length cs → climb f (suc n) v ≡ suc (length cs)
  go null_ptr e ih = absurd (subst InBlock (sym e) a.solid)
  go (block_ptr b o) e ih = ap suc (ap (λ (z : Ptr). climb f n (f z).up.ptr) e ∙ ih)

-- ---- tests
pub by_test : {A B : Type 0} (b : Bool) → (b ≡ true → A) → (b ≡ false → B) → MatchBool b A B
by_test true y n = y refl
by_test false y n = n refl

pub same_height : (m n : ℕ) → (m == n) ≡ true → m ≡ n
same_height m n e = eqb→eq m n (subst T (sym e) tt)

pub if_not : (A : Type 0) {B : Type 0} (b : Bool) → MatchBool b A B → b ≡ false → B
if_not A true m e = absurd cc
if_not A false m e = m

pub if_so : {A : Type 0} (B : Type 0) (b : Bool) → MatchBool b A B → b ≡ true → A
if_so B true m e = m
if_so B false m e = absurd cc

-- ---- one step
near_on : (was t y h : ℕ) → Close was t → Close was y → (Close t y → h ≡ suc (max t y)) → max t y ≤ h → h ≤ suc (max t y) → Close (suc (max was y)) h
near_on was t y h a b level lo hi =
    let a0 = a.0 in let a1 = a.1 in let b0 = b.0 in let b1 = b.1 in
    elim (which t (suc y)) [
      | inl k ↦ elim (which y (suc t)) [
        | inl m ↦ let e = level (k, m) in (omega (arith, e, a0, a1), omega (arith, e, a0, a1))
        | inr m ↦ (omega (arith, m, a0, a1, b0, b1, lo, hi), omega (arith, m, a0, a1, b0, b1, lo, hi))
      ]
      | inr k ↦ (omega (arith, k, a0, a1, b0, b1, lo, hi), omega (arith, k, a0, a1, b0, b1, lo, hi))
    ]
  where
    which : (m n : ℕ) → (m ≤ n) ⊎ (n < m)
    which m n = grind arith

mend_on : (f : Ptr → Hook) (ps : List Ptr) (p u : Ptr) (s : Bool) (d : Bool) (t y : Shape) → Hangs f u s d t p y → Sole (join d t p y) → ((z : Ptr) → In z (join d t p y) → is_in z ps ≡ true) → Balanced t → Balanced y → height t ≤ suc (suc (height y)) → height y ≤ suc (suc (height t)) → height t ≤ 240 → height y ≤ 240 → CanMend f ps p
mend_on f ps p u s false t y w o i bt by a b m n = record { up = u; side = s; x = t; y = y; hangs = w; sole = o; inside = i; here = bt; there = by; low = a; high = b; fits = (m, n) }
mend_on f ps p u s true t y w o i bt by a b m n = record {
  up = u;
  side = s;
  x = y;
  y = t;
  hangs = record { solid = w.solid; up = w.up; side = w.side; here = w.there; there = w.here };
  sole = o;
  inside = i;
  here = by;
  there = bt;
  low = b;
  high = a;
  fits = (n, m);
}

pub mended_on : (f g : Ptr → Hook) (p u r : Ptr) (s : Bool) (d : Bool) (t y : Shape) → Hangs f u s d t p y → Sole (join d t p y) → Balanced t → Balanced y → ((q : Ptr) (s : Bool) (x y : Shape) → Hangs f q s false x p y → Sole (join false x p y) → Balanced x → Balanced y → Mended f q s false x p y g r) → Mended f u s d t p y g r
mended_on f g p u r s false t y w o bt by k = k u s t y w o bt by
mended_on f g p u r s true t y w o bt by k = unflip_mended f u s y p t g r (k u s y t (record { solid = w.solid; up = w.up; side = w.side; here = w.there; there = w.here }) o by bt)

module _ (f : Ptr → Hook) (ps : List Ptr) (root p : Ptr) (n : Next f ps root p) (distinct : AreDistinct ps) (few : length ps < 2 ^ 64) where
  whole : Shape
  whole = plug n.cs (join n.d n.t p n.y)

  sole_whole : Sole (plug n.cs (join n.d n.t p n.y))
  sole_whole = row_sole (plug n.cs (join n.d n.t p n.y)) ps n.order distinct

  inner : Within n.cs (join n.d n.t p n.y)
  inner = within n.cs (join n.d n.t p n.y) sole_whole

  long : size (plug n.cs (join n.d n.t p n.y)) ≡ length ps
  long = sym (size_flat (plug n.cs (join n.d n.t p n.y))) ∙ ap length n.order

  pub next_in : is_in p ps ≡ true
  next_in = in_row (plug n.cs (join n.d n.t p n.y)) ps n.order p (in_plug n.cs (join n.d n.t p n.y) p (in_top n.d n.t p n.y))

  pub next_mends : CanMend f ps p
  next_mends =
      let a = size_plug n.cs (join n.d n.t p n.y) in let b = size_join n.d n.t p n.y in let l = long in
      let ht = not_tall n.t n.here (omega (arith, a, b, l, few)) in let hy = not_tall n.y n.there (omega (arith, a, b, l, few)) in
      let c0 = n.close.0 in let c1 = n.close.1 in let n0 = n.near.0 in let n1 = n.near.1 in
      mend_on f ps p (f p).up.ptr (f p).side n.d n.t n.y n.hangs inner.sole (λ z i. in_row (plug n.cs (join n.d n.t p n.y)) ps n.order z (in_plug n.cs (join n.d n.t p n.y) z i)) n.here n.there
      (omega (arith, c0, c1, n0, n1)) (omega (arith, c0, c1, n0, n1)) (omega (arith, ht)) (omega (arith, hy))

  pub up_reaches : AreNullComparable ps → Reaches (f p).up.ptr ps
  up_reaches c = go n.cs n.order n.around where
    go : (cs : List Step) → flat (plug cs (join n.d n.t p n.y)) ≡ ps → Around f root (f p).up.ptr (f p).side p cs → Reaches (f p).up.ptr ps
    go [] order a = subst (λ z. Reaches z ps) (sym a.1) (null_reaches ps)
    go ((d, r, y) ∷ cs) order a = subst (λ z. Reaches z ps) (sym a.at) (in_reaches r ps c (in_row (plug ((d, r, y) ∷ cs) (join n.d n.t p n.y)) ps order r (steps_plug ((d, r, y) ∷ cs) (join n.d n.t p n.y) r (inl refl))))

  module _ (g1 g2 : Ptr → Hook) (up top rt res : Address) (side : Bool) (eu : up.ptr ≡ (f p).up.ptr) (es : side ≡ (f p).side) (er : rt.ptr ≡ root) (k : (q : Ptr) (s : Bool) (x y : Shape) → Hangs f q s false x p y → Sole (join false x p y) → Balanced x → Balanced y → Mended f q s false x p y g1 top.ptr) (hung : IsHung g1 up.ptr side top rt g2 res) where
    m : Mended f (f p).up.ptr (f p).side n.d n.t p n.y g1 top.ptr
    m = mended_on f g1 p (f p).up.ptr top.ptr (f p).side n.d n.t n.y n.hangs inner.sole n.here n.there k

    hung2 : IsHung g1 up.ptr (f p).side top rt g2 res
    hung2 = subst (λ z. IsHung g1 up.ptr z top rt g2 res) es hung

    away : (a : Ptr) → InSteps a n.cs → g1 a ≡ f a
    away a i = m.others a (λ j. inner.apart a j i)

    around1 : Around g1 root (f p).up.ptr (f p).side p n.cs
    around1 = around_keep f g1 root (f p).up.ptr (f p).side p n.cs n.around away

    less : Sole (plug n.cs leaf)
    less = sole_less n.cs (join n.d n.t p n.y) sole_whole

    around2 : Around g2 res.ptr (f p).up.ptr (f p).side top.ptr n.cs
    around2 = hung_around g1 g2 root (f p).up.ptr (f p).side p n.cs up top rt res eu er around1 less hung2

    stands2 : Stands g2 (suc (max n.was (height n.y))) n.cs
    stands2 = hung_stands g1 g2 root (f p).up.ptr (f p).side p n.cs up top rt res (suc (max n.was (height n.y))) eu around1 less hung2 (stands_keep f g1 (suc (max n.was (height n.y))) n.cs n.stands away)

    linked2 : Linked g2 (f p).up.ptr (f p).side top.ptr m.shape
    linked2 = linked_keep g1 g2 (f p).up.ptr (f p).side top.ptr m.shape m.linked (λ a i. hung_others g1 g2 root (f p).up.ptr (f p).side p n.cs up top rt res eu around1 hung2 a (λ j. inner.apart a (in_same (join n.d n.t p n.y) m.shape m.order a i) j))

    order2 : flat (plug n.cs m.shape) ≡ ps
    order2 = flat_same n.cs m.shape (join n.d n.t p n.y) m.order ∙ n.order

    pub top_reaches : AreNullComparable ps → Reaches top.ptr ps
    top_reaches c = go m.shape linked2 order2 where
      go : (t : Shape) → Linked g2 (f p).up.ptr (f p).side top.ptr t → flat (plug n.cs t) ≡ ps → Reaches top.ptr ps
      go leaf w o = subst (λ z. Reaches z ps) (sym w) (null_reaches ps)
      go (node l r y) w o = subst (λ z. Reaches z ps) (sym w.at) (in_reaches r ps c (in_row (plug n.cs (node l r y)) ps o r (in_plug n.cs (node l r y) r (inl refl))))

    pub step_more : IsUnsettled g2 ps res.ptr up.ptr
    step_more = subst (IsUnsettled g2 ps res.ptr) (sym eu) (record {
      steps = n.cs;
      shape = m.shape;
      side = (f p).side;
      at = top.ptr;
      was = suc (max n.was (height n.y));
      order = order2;
      linked = linked2;
      balanced = m.balanced;
      around = around2;
      stands = stands2;
      near = near_on n.was (height n.t) (height n.y) (height m.shape) n.near n.close m.level m.low m.high;
    })

    pub step_done : height_at g2 top.ptr ≡ (f p).height → IsSettled g2 ps res.ptr
    step_done e =
        let h = height_known g2 (f p).up.ptr (f p).side top.ptr m.shape linked2 in
        let w = close_up g2 res.ptr (f p).up.ptr (f p).side top.ptr n.cs m.shape around2 (subst (λ z. Stands g2 z n.cs) (sym (sym h ∙ e ∙ n.tall)) stands2) linked2 m.balanced in
        record { shape = plug n.cs m.shape; order = order2; linked = w.0; balanced = w.1 }

    pub step_nearer : climb g2 (length ps) up.ptr < climb f (length ps) p
    step_nearer =
        let a = size_plug n.cs (join n.d n.t p n.y) in let b = size_join n.d n.t p n.y in let l = long in
        let x : climb g2 (length ps) up.ptr ≡ length n.cs = ap (climb g2 (length ps)) eu ∙ climb_is g2 res.ptr (f p).up.ptr (f p).side top.ptr n.cs (length ps) around2 (omega (arith, a, b, l)) in
        let here : Around f root p n.d (kid (f p) n.d).ptr ((n.d, p, n.y) ∷ n.cs) = record { at = refl; side = refl; solid = n.hangs.solid; leads = refl; other = n.hangs.there; above = n.around } in
        let y : climb f (length ps) p ≡ suc (length n.cs) = climb_is f root p n.d (kid (f p) n.d).ptr ((n.d, p, n.y) ∷ n.cs) (length ps) here (omega (arith, a, b, l)) in
        omega (arith, x, y)
