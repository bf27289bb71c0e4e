-- Rotations of trees of spots.
use Rattle.std.proofs.Common.{◌≡◌, ℕ, suc, max, Bool, true, false, not, ◌∷◌, refl, sym, ap, ◌∙◌, subst, append_assoc}
use denote.RawPtr.{Ptr}
use Rattle.cordyceps_base.specs.declared.boxes.Address.{Address}
use Rattle.cordyceps_tree.specs.declared.hook.Hook.{Hook}
use Rattle.cordyceps_tree.specs.Trees.{kid, with_kid, under, high, Shape, join, flat, height, In, Sole, Linked, Hangs, turned, Turned, Wrote, IsUnder, height_at}
use Rattle.cordyceps_tree.proofs.Trees.{kid_set, kid_kept, kid_set_not, kid_kept_not, kid_under, Joined, unjoin, rejoin, in_here, in_there, in_top, parted, linked_keep, linked_wrote, linked_under, under_keep, height_known, height_join}

pub turned_flat : (d : Bool) (a : Shape) (c : Ptr) (m : Shape) (p : Ptr) (e : Shape) → flat (turned d a c m p e) ≡ flat (join d (join d a c m) p e)
turned_flat false a c m p e = sym (append_assoc (flat a) (c ∷ flat m) (p ∷ flat e))
turned_flat true a c m p e = append_assoc (flat e) (p ∷ flat m) (c ∷ flat a)

module _ (d : Bool) (a : Shape) (c : Ptr) (m : Shape) (p : Ptr) (e : Shape) where
  pub record Facts : Type 0 where
    pub pc : p ≡ c → ⊥
    pub pa : In p a → ⊥
    pub pm : In p m → ⊥
    pub pe : In p e → ⊥
    pub ca : In c a → ⊥
    pub cm : In c m → ⊥
    pub ce : In c e → ⊥
    pub am : (z : Ptr) → In z a → In z m → ⊥
    pub me : (z : Ptr) → In z m → In z e → ⊥
    pub sm : Sole m

  pub facts : Sole (join d (join d a c m) p e) → Facts
  facts o =
      let u = parted d (join d a c m) p e o in let v = parted d a c m u.here in
      record {
        pc = λ is. u.not_here (subst (λ z. In z (join d a c m)) (sym is) (in_top d a c m));
        pa = λ i. u.not_here (in_here p d a c m i);
        pm = λ i. u.not_here (in_there p d a c m i);
        pe = u.not_there;
        ca = v.not_here;
        cm = v.not_there;
        ce = λ i. u.apart c (in_top d a c m) i;
        am = v.apart;
        me = λ z i j. u.apart z (in_there z d a c m i) j;
        sm = v.there;
      }

-- the hooks that a rotation writes
abbrev pub low_hook : (Ptr → Hook) → Bool → Address → Address → ℕ → Hook
low_hook f d at top n = high (under (with_kid (f at.ptr) d (kid (f top.ptr) (not d))) top (not d)) n

abbrev pub high_hook : (Ptr → Hook) → Bool → Address → Address → ℕ → Hook
high_hook f d at top n = high (under (with_kid (f top.ptr) (not d) at) (f at.ptr).up (f at.ptr).side) n

module _ (f g1 g2 g3 : Ptr → Hook) (q : Ptr) (s d : Bool) (a m e : Shape) (at top : Address) (n1 n2 : ℕ) (w : Hangs f q s d (join d a top.ptr m) at.ptr e) (o : Sole (join d (join d a top.ptr m) at.ptr e)) (w1 : Wrote f at.ptr (low_hook f d at top n1) g1) (w2 : Wrote g1 top.ptr (high_hook f d at top n2) g2) (w3 : IsUnder g2 (kid (f top.ptr) (not d)).ptr at d g3) where
  abbrev p : Ptr
  p = at.ptr

  abbrev c : Ptr
  c = top.ptr

  inner : Joined f p d (kid (f p) d).ptr d a c m
  inner = unjoin f p d (kid (f p) d).ptr d a c m w.here

  x : Facts d a c m p e
  x = facts d a c m p e o

  mid2 : Linked g2 c (not d) (kid (f c) (not d)).ptr m
  mid2 = linked_wrote g1 g2 c (not d) (kid (f c) (not d)).ptr m c (high_hook f d at top n2) (linked_wrote f g1 c (not d) (kid (f c) (not d)).ptr m p (low_hook f d at top n1) inner.there w1 x.pm) w2 x.cm

  mid3 : Linked g3 p d (kid (f c) (not d)).ptr m
  mid3 = linked_under g2 g3 c (not d) (kid (f c) (not d)).ptr m at d mid2 x.sm w3

  stay : (z : Ptr) → (In z m → ⊥) → g3 z ≡ g2 z
  stay z out = under_keep g2 g3 c (not d) (kid (f c) (not d)).ptr m at d mid2 w3 z out

  pub turn_other : (z : Ptr) → (In z m → ⊥) → (z ≡ c → ⊥) → (z ≡ p → ⊥) → g3 z ≡ f z
  turn_other z out nc np = stay z out ∙ w2.others z nc ∙ w1.others z np

  at_c : g3 c ≡ high_hook f d at top n2
  at_c = stay c x.cm ∙ w2.here

  at_p : g3 p ≡ low_hook f d at top n1
  at_p = stay p x.pm ∙ w2.others p x.pc ∙ w1.here

  as_a : Linked g3 c d (kid (g3 c) d).ptr a
  as_a =
      let is : kid (g3 c) d ≡ kid (f c) d = ap (λ z. kid z d) at_c ∙ kid_under (with_kid (f c) (not d) at) (f p).side d (f p).up n2 ∙ kid_kept_not (f c) d at in
      subst (λ (z : Address). Linked g3 c d z.ptr a) (sym is)
      (linked_keep f g3 c d (kid (f c) d).ptr a inner.here (λ z i. turn_other z (x.am z i) (λ m. x.ca (subst (λ y. In y a) m i)) (λ m. x.pa (subst (λ y. In y a) m i))))

  as_m : Linked g3 p d (kid (g3 p) d).ptr m
  as_m =
      let is : kid (g3 p) d ≡ kid (f c) (not d) = ap (λ z. kid z d) at_p ∙ kid_under (with_kid (f p) d (kid (f c) (not d))) (not d) d top n1 ∙ kid_set (f p) d (kid (f c) (not d)) in
      subst (λ (z : Address). Linked g3 p d z.ptr m) (sym is) mid3

  as_e : Linked g3 p (not d) (kid (g3 p) (not d)).ptr e
  as_e =
      let is : kid (g3 p) (not d) ≡ kid (f p) (not d) = ap (λ z. kid z (not d)) at_p ∙ kid_under (with_kid (f p) d (kid (f c) (not d))) (not d) (not d) top n1 ∙ kid_kept (f p) d (kid (f c) (not d)) in
      subst (λ (z : Address). Linked g3 p (not d) z.ptr e) (sym is)
      (linked_keep f g3 p (not d) (kid (f p) (not d)).ptr e w.there (λ z i. turn_other z (λ j. x.me z j i) (λ m. x.ce (subst (λ y. In y e) m i)) (λ m. x.pe (subst (λ y. In y e) m i))))

  module _ (t1 : n1 ≡ suc (max (height m) (height e))) (t2 : n2 ≡ suc (max (height a) n1)) where
    below : Linked g3 c (not d) (kid (g3 c) (not d)).ptr (join d m p e)
    below =
        let is : kid (g3 c) (not d) ≡ at = ap (λ z. kid z (not d)) at_c ∙ kid_under (with_kid (f c) (not d) at) (f p).side (not d) (f p).up n2 ∙ kid_set_not (f c) d at in
        subst (λ (z : Address). Linked g3 c (not d) z.ptr (join d m p e)) (sym is)
        (rejoin g3 c (not d) p d m p e (record {
          at = refl;
          solid = w.solid;
          up = ap (λ (z : Hook). z.up.ptr) at_p;
          side = ap (λ (z : Hook). z.side) at_p;
          tall = ap (λ (z : Hook). z.height) at_p ∙ t1;
          here = as_m;
          there = as_e;
        }))

    pub turn : Linked g3 q s c (turned d a c m p e)
    turn = rejoin g3 q s c d a c (join d m p e) (record {
      at = refl;
      solid = inner.solid;
      up = ap (λ (z : Hook). z.up.ptr) at_c ∙ w.up;
      side = ap (λ (z : Hook). z.side) at_c ∙ w.side;
      tall = ap (λ (z : Hook). z.height) at_c ∙ t2 ∙ ap (λ z. suc (max (height a) z)) (t1 ∙ sym (height_join d m p e));
      here = as_a;
      there = below;
    })

    -- no hook outside of the tree changed
    pub turn_keeps : (z : Ptr) → (In z (join d (join d a c m) p e) → ⊥) → g3 z ≡ f z
    turn_keeps z out = turn_other z (λ i. out (in_here z d (join d a c m) p e (in_there z d a c m i)))
        (λ is. out (in_here z d (join d a c m) p e (subst (λ y. In y (join d a c m)) (sym is) (in_top d a c m))))
        (λ is. out (subst (λ y. In y (join d (join d a c m) p e)) (sym is) (in_top d (join d a c m) p e)))

-- what the program reads and writes is such a rotation
pub turned_by : (f g1 g2 g3 : Ptr → Hook) (q : Ptr) (s d : Bool) (a : Shape) (c : Ptr) (m e : Shape) (at top : Address) (n1 n2 : ℕ) → top ≡ kid (f at.ptr) d → Hangs f q s d (join d a c m) at.ptr e → Sole (join d (join d a c m) at.ptr e) → Wrote f at.ptr (low_hook f d at top n1) g1 → Wrote g1 top.ptr (high_hook f d at top n2) g2 → IsUnder g2 (kid (f top.ptr) (not d)).ptr at d g3 → n1 ≡ suc (max (height_at f (kid (f top.ptr) (not d)).ptr) (height_at f (kid (f at.ptr) (not d)).ptr)) → n2 ≡ suc (max (height_at f (kid (f top.ptr) d).ptr) n1) → Turned f q s d a c m at.ptr e g3 top.ptr
turned_by f g1 g2 g3 q s d a c m e at top n1 n2 read w o w1 w2 w3 t1 t2 =
    let is : top.ptr ≡ c = ap (λ (z : Address). z.ptr) read ∙ (unjoin f at.ptr d (kid (f at.ptr) d).ptr d a c m w.here).at in
    let v = subst (λ z. Hangs f q s d (join d a z m) at.ptr e) (sym is) w in
    let u = subst (λ z. Sole (join d (join d a z m) at.ptr e)) (sym is) o in
    let j = unjoin f at.ptr d (kid (f at.ptr) d).ptr d a top.ptr m v.here in
    let hm = height_known f top.ptr (not d) (kid (f top.ptr) (not d)).ptr m j.there in
    let ha = height_known f top.ptr d (kid (f top.ptr) d).ptr a j.here in
    let he = height_known f at.ptr (not d) (kid (f at.ptr) (not d)).ptr e v.there in
    subst (λ z. Turned f q s d a z m at.ptr e g3 top.ptr) is (record {
      at = refl;
      linked = turn f g1 g2 g3 q s d a m e at top n1 n2 v u w1 w2 w3 (t1 ∙ (λ i. suc (max (hm i) (he i)))) (t2 ∙ ap (λ z. suc (max z n1)) ha);
      others = turn_keeps f g1 g2 g3 q s d a m e at top n1 n2 v u w1 w2 w3 (t1 ∙ (λ i. suc (max (hm i) (he i)))) (t2 ∙ ap (λ z. suc (max z n1)) ha);
    })
