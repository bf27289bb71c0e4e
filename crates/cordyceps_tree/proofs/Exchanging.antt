-- An element of an arrangement is exchanged for an equal one.
use Rattle.std.proofs.Common.{◌≡◌, Bool, true, false, not, ◌&&◌, List, [], ◌∷◌, ◌++◌, refl, sym, ap, ◌∙◌, subst}
use Rattle.std.specs.Cmp.{IsStrictWeakOrder}
use Rattle.std.specs.declared.cmp.Ordering.{Ordering}
use Rattle.std.specs.declared.cmp.Ordering.TheVariants.{Less, Equal, Greater}
use Rattle.std.specs.List.{filter}
use Rattle.std.specs.List.Sorted.{ties}
use Rattle.std.specs.Ordering.{is_lt, is_eq, ordering_reverse}
use Rattle.std.proofs.lemmas.List.Elements.{filter-append}
use denote.RawPtr.{Ptr}
use Rattle.cordyceps_base.specs.Element.{Element}
use Rattle.cordyceps_base.specs.Nodes.{Nodes}
use Rattle.cordyceps_single.specs.Arrangement.{IsArrangementOf}
use Rattle.cordyceps_single.specs.Preorder.{IsPreorder}
use Rattle.cordyceps_single.proofs.Arrangement.{in_class, out_of_class, all_weaker, After, Ascends, sorted_from_ascends, ascends_from_sorted, tied_itself, tie_parts}
use Rattle.cordyceps_single.proofs.Preorder.{by_test, ranks, total_from_preorder}
use Rattle.cordyceps_stable.specs.Arranged.{precedes, Arranges}
use Rattle.cordyceps_stable.specs.Replacing.{IsReplaced}

module _ {X : Type 0} (lt : X → X → Bool) (o : IsStrictWeakOrder lt) (n m : X) (left : (x : X) → lt x n ≡ lt x m) (right : (x : X) → lt n x ≡ lt m x) where
  after_same : (x : X) (f b : List X) → After lt x (f ++ n ∷ b) → After lt x (f ++ m ∷ b)
  after_same x [] b h = (sym (right x) ∙ h.0, h.1)
  after_same x (y ∷ f) b h = (h.0, after_same x f b h.1)

  ascends_same : (f b : List X) → Ascends lt (f ++ n ∷ b) → Ascends lt (f ++ m ∷ b)
  ascends_same [] b h = (all_weaker (λ y. lt y n ≡ false) (λ y. lt y m ≡ false) (λ y e. sym (left y) ∙ e) b h.0, h.1)
  ascends_same (x ∷ f) b h = (after_same x f b h.0, ascends_same f b h.1)

  -- where n is among the elements of its class
  record Parts (t : X → Bool) (a xs ys : List X) : Type 0 where
    before : List X
    after : List X
    is : a ≡ before ++ n ∷ after
    ahead : filter t before ≡ xs
    behind : filter t after ≡ ys

  parts : (t : X → Bool) (a xs ys : List X) → filter t a ≡ xs ++ n ∷ ys → Parts t a xs ys
  parts t [] [] ys e = absurd cc
  parts t [] (z ∷ xs) ys e = absurd cc
  parts t (x ∷ a) [] ys e = by_test (t x)
      (λ p. let s : x ∷ filter t a ≡ n ∷ ys = sym (in_class t x a p) ∙ e in let first : x ≡ n = cc in let rest : filter t a ≡ ys = cc in record { before = []; after = a; is = λ i. first i ∷ a; ahead = refl; behind = rest })
      (λ p. let r = parts t a [] ys (sym (out_of_class t x a p) ∙ e) in record { before = x ∷ r.before; after = r.after; is = ap (λ l. x ∷ l) r.is; ahead = out_of_class t x r.before p ∙ r.ahead; behind = r.behind })
  parts t (x ∷ a) (z ∷ xs) ys e = by_test (t x)
      (λ p. let s : x ∷ filter t a ≡ z ∷ (xs ++ n ∷ ys) = sym (in_class t x a p) ∙ e in let first : x ≡ z = cc in let rest : filter t a ≡ xs ++ n ∷ ys = cc in let r = parts t a xs ys rest in
      record { before = x ∷ r.before; after = r.after; is = ap (λ l. x ∷ l) r.is; ahead = in_class t x r.before p ∙ (λ i. first i ∷ r.ahead i); behind = r.behind })
      (λ p. let r = parts t a (z ∷ xs) ys (sym (out_of_class t x a p) ∙ e) in record { before = x ∷ r.before; after = r.after; is = ap (λ l. x ∷ l) r.is; ahead = out_of_class t x r.before p ∙ r.ahead; behind = r.behind })

  -- two of one class are in the same class as any other
  same_low : (x y z : X) → lt x y ≡ false → lt y x ≡ false → lt x z ≡ lt y z
  same_low x y z p q = by_test (lt x z)
      (λ t. by_test (lt y z) (λ u. t ∙ sym u) (λ u. let c = o.chain x y z p u in absurd cc))
      (λ t. by_test (lt y z) (λ u. let c = o.chain y x z q t in absurd cc) (λ u. t ∙ sym u))

  same_high : (x y z : X) → lt x y ≡ false → lt y x ≡ false → lt z x ≡ lt z y
  same_high x y z p q = by_test (lt z x)
      (λ t. by_test (lt z y) (λ u. t ∙ sym u) (λ u. let c = o.chain z y x u q in absurd cc))
      (λ t. by_test (lt z y) (λ u. let c = o.chain z x y t p in absurd cc) (λ u. t ∙ sym u))

  same_class : (x : X) → ties lt x n ≡ true → (s : List X) → filter (ties lt x) s ≡ filter (ties lt n) s
  same_class x t s = let (p, q) = tie_parts lt o x n t in λ i. filter (λ z. not (same_low x n z p q i) && not (same_high x n z p q i)) s

  pub exchanged : (f b a : List X) → IsArrangementOf lt (f ++ n ∷ b) a → (before : List X) × (after : List X) × (a ≡ before ++ n ∷ after) × IsArrangementOf lt (f ++ m ∷ b) (before ++ m ∷ after)
  exchanged f b a h =
      let own = ties lt n in
      let r = parts own a (filter own f) (filter own b) (sym (h.stable n) ∙ filter-append own f (n ∷ b) ∙ ap (λ l. filter own f ++ l) (in_class own n b (tied_itself lt o n))) in (
        r.before,
        r.after,
        r.is,
        record {
          in_order = sorted_from_ascends lt (f ++ m ∷ b) (ascends_same f b (ascends_from_sorted lt o (f ++ n ∷ b) h.in_order));
          stable = λ x. let t = ties lt x in let same : t n ≡ t m = (λ i. not (left x i) && not (right x i)) in
              by_test (t n)
              (λ v. let class = same_class x v in
              filter-append t f (m ∷ b)
              ∙ (λ i. (class f ∙ sym r.ahead ∙ sym (class r.before)) i ++ (in_class t m b (sym same ∙ v) ∙ ap (λ l. m ∷ l) (class b ∙ sym r.behind ∙ sym (class r.after)) ∙ sym (in_class t m r.after (sym same ∙ v))) i)
              ∙ sym (filter-append t r.before (m ∷ r.after)))
              (λ v. let own_out = λ (s : List X). out_of_class t n s v in let out = λ (s : List X). out_of_class t m s (sym same ∙ v) in
              filter-append t f (m ∷ b) ∙ ap (λ l. filter t f ++ l) (out b ∙ sym (own_out b)) ∙ sym (filter-append t f (n ∷ b))
              ∙ h.stable x ∙ ap (filter t) r.is
              ∙ filter-append t r.before (n ∷ r.after) ∙ ap (λ l. filter t r.before ++ l) (own_out r.after ∙ sym (out r.after)) ∙ sym (filter-append t r.before (m ∷ r.after)));
        },
      )

as_equal : (r : Ordering) → is_eq r ≡ true → r ≡ Equal
as_equal Less e = absurd cc
as_equal Equal e = refl
as_equal Greater e = absurd cc

-- a node of an arrangement was replaced by one with an equal value
pub replaced_arranges : {X : Type 0} (cmp : X → X → Ordering) → IsPreorder cmp → (s d a : Nodes X) (p q : Ptr) (w e : Element X) → IsReplaced s p w q e d → is_eq (cmp w.value e.value) ≡ true → Arranges cmp s a → (b : Nodes X) × (IsReplaced a p w q e b × Arranges cmp d b)
replaced_arranges {X} cmp o s d a p q w e (front, back, was, is) same h =
    let t = total_from_preorder o in
    let high : (x : Ptr × Element X) → cmp w.value x.1.value ≡ cmp e.value x.1.value = λ x. t.congr w.value e.value x.1.value (as_equal (cmp w.value e.value) same) in
    let low : (x : Ptr × Element X) → cmp x.1.value w.value ≡ cmp x.1.value e.value = λ x. o.turns x.1.value w.value ∙ ap ordering_reverse (high x) ∙ sym (o.turns x.1.value e.value) in
    let (before, after, arrivals, stands) = exchanged (precedes cmp) (ranks o (λ (x : Ptr × Element X). x.1.value)) (p, w) (q, e) (λ x. ap is_lt (low x)) (λ x. ap is_lt (high x)) front back a (subst (λ l. Arranges cmp l a) was h) in
    (before ++ (q, e) ∷ after, ((before, after, arrivals, refl), subst (λ l. Arranges cmp l (before ++ (q, e) ∷ after)) (sym is) stands))
