-- Lists in the order of keys, and one more among them: what an insertion leaves.
use Rattle.std.proofs.Common.{◌≡◌, ℕ, suc, ◌<◌, ◌≤◌, cond, nat_lt, List, [], ◌∷◌, ◌++◌, length, refl, ap, sym, ◌∙◌, subst, arith}
use Rattle.std.proofs.lemmas.Bool.{lt-ltb, ltb-false, ltb-true}
use Rattle.std.specs.List.{AllByRecursion}
use Rattle.std.specs.List.Sorted.{IsSortedBy}
use Rattle.std.specs.Ordering.{nat_cmp}
use denote.RawPtr.{Ptr}
use Rattle.cordyceps.specs.Elements.Element.{Element}
use Rattle.cordyceps.specs.Elements.Nodes.{Nodes}
use Rattle.cordyceps.specs.Orders.Preorder.{IsPreorder}
use Rattle.cordyceps.specs.Spots.Arranged.{precedes, Arranges, AllGreater, LastNotGreater}
use Rattle.cordyceps.specs.Spots.BySpot.{IsTaken}
use Rattle.cordyceps.proofs.Orders.Arrangement.{Ascends, After, sorted_from_ascends}
use Rattle.cordyceps.proofs.Orders.Keys.{lt_is, not_less}
use Rattle.cordyceps.proofs.Orders.Preorder.{by_test}
use Rattle.cordyceps.proofs.Spots.Arranged.{arranges_itself, arranges_put, same_nodes}
use Rattle.cordyceps.proofs.Spots.Classes.{all_append, all_front, all_back, all_weaker}
use Rattle.cordyceps_disk.specs.Pairs.{Rises}
use Rattle.cordyceps_disk.specs.Queue.{put_by}

module _ {A : Type 0} (key : A → ℕ) where
  pub low : (b a : List A) (x : A) → Rises key (b ++ x ∷ a) → AllByRecursion (λ y. key y ≤ key x) b
  low [] a x h = tt
  low (y ∷ b) a x h = ((all_back (λ z. key y ≤ key z) b (x ∷ a) h.0).0, low b a x h.1)

  pub high : (b a : List A) (x : A) → Rises key (b ++ x ∷ a) → AllByRecursion (λ y. key x ≤ key y) a
  high [] a x h = h.0
  high (y ∷ b) a x h = high b a x h.1

  pub rises_without : (b a : List A) (x : A) → Rises key (b ++ x ∷ a) → Rises key (b ++ a)
  rises_without [] a x h = h.1
  rises_without (y ∷ b) a x h =
      let Q : A → Type 0 = λ z. key y ≤ key z in
      (all_append Q b a (all_front Q b (x ∷ a) h.0) (all_back Q b (x ∷ a) h.0).1, rises_without b a x h.1)

  -- where one more goes
  abbrev Split : A → List A → Type 0
  Split x s = (front : List A) × (back : List A) × (s ≡ front ++ back) × (put_by key x s ≡ front ++ x ∷ back) × AllByRecursion (λ y. key y ≤ key x) front × AllByRecursion (λ y. key x < key y) back

  pub put_split : (x : A) (s : List A) → Rises key s → Split x s
  put_split x [] h = ([], [], refl, refl, tt, tt)
  put_split x (y ∷ s) h = by_test (nat_lt (key x) (key y))
      (λ t. let less = ltb-true (key x) (key y) t in (
        [],
        y ∷ s,
        refl,
        ap (λ b. cond b (x ∷ y ∷ s) (y ∷ put_by key x s)) t,
        tt,
        (less, all_weaker (λ z. key y ≤ key z) (λ z. key x < key z) (λ z q. omega (arith, q, less)) s h.0),
      ))
      (λ f. let (front, back, is, put, lower, higher) = put_split x s h.1 in (
        y ∷ front,
        back,
        ap (λ l. y ∷ l) is,
        ap (λ b. cond b (x ∷ y ∷ s) (y ∷ put_by key x s)) f ∙ ap (λ l. y ∷ l) put,
        (ltb-false (key x) (key y) f, lower),
        higher,
      ))

  rises_between : (front back : List A) (x : A) → Rises key (front ++ back) → AllByRecursion (λ y. key y ≤ key x) front → AllByRecursion (λ y. key x ≤ key y) back → Rises key (front ++ x ∷ back)
  rises_between [] back x h lower higher = (higher, h)
  rises_between (y ∷ front) back x h lower higher =
      let Q : A → Type 0 = λ z. key y ≤ key z in
      (all_append Q front (x ∷ back) (all_front Q front back h.0) (lower.0, all_back Q front back h.0), rises_between front back x h.1 lower.1 higher)

  pub put_rises : (x : A) (s : List A) → Rises key s → Rises key (put_by key x s)
  put_rises x s h =
      let (front, back, is, put, lower, higher) = put_split x s h in
      subst (Rises key) (sym put) (rises_between front back x (subst (Rises key) is h) lower (all_weaker (λ y. key x < key y) (λ y. key x ≤ key y) (λ y q. omega (arith, q)) back higher))

  pub put_long : (x : A) (s : List A) → length (put_by key x s) ≡ suc (length s)
  put_long x [] = refl
  put_long x (y ∷ s) = by_test (nat_lt (key x) (key y))
      (λ t. ap (λ b. length (cond b (x ∷ y ∷ s) (y ∷ put_by key x s))) t)
      (λ f. ap (λ b. length (cond b (x ∷ y ∷ s) (y ∷ put_by key x s))) f ∙ ap suc (put_long x s))

-- what is said of lists by keys, where each item was changed to one with the same key
pub put_mapped : {A B : Type 0} (key : A → ℕ) (tag : B → ℕ) (f : A → B) → ((x : A) → tag (f x) ≡ key x) → (g : List A → List B) → (g [] ≡ []) → ((x : A) (s : List A) → g (x ∷ s) ≡ f x ∷ g s) → (x : A) (s : List A) → g (put_by key x s) ≡ put_by tag (f x) (g s)
put_mapped key tag f same g nil cons x [] = cons x [] ∙ ap (λ l. f x ∷ l) nil ∙ sym (ap (put_by tag (f x)) nil)
put_mapped key tag f same g nil cons x (y ∷ s) =
    let tests : nat_lt (tag (f x)) (tag (f y)) ≡ nat_lt (key x) (key y) = λ i. nat_lt (same x i) (same y i) in
    let right : put_by tag (f x) (g (y ∷ s)) ≡ cond (nat_lt (key x) (key y)) (f x ∷ f y ∷ g s) (f y ∷ put_by tag (f x) (g s)) =
    ap (put_by tag (f x)) (cons y s) ∙ ap (λ b. cond b (f x ∷ f y ∷ g s) (f y ∷ put_by tag (f x) (g s))) tests in
    by_test (nat_lt (key x) (key y))
    (λ t. ap (λ b. g (cond b (x ∷ y ∷ s) (y ∷ put_by key x s))) t ∙ cons x (y ∷ s) ∙ ap (λ l. f x ∷ l) (cons y s) ∙ sym (right ∙ ap (λ b. cond b (f x ∷ f y ∷ g s) (f y ∷ put_by tag (f x) (g s))) t))
    (λ u. ap (λ b. g (cond b (x ∷ y ∷ s) (y ∷ put_by key x s))) u ∙ cons y (put_by key x s) ∙ ap (λ l. f y ∷ l) (put_mapped key tag f same g nil cons x s) ∙ sym (right ∙ ap (λ b. cond b (f x ∷ f y ∷ g s) (f y ∷ put_by tag (f x) (g s))) u))

module _ {X : Type 0} (key : X → ℕ) where
  abbrev of : Ptr × Element X → ℕ
  of n = key n.1.value

  after_of : (n : Ptr × Element X) (s : Nodes X) → AllByRecursion (λ m. of n ≤ of m) s → After (precedes (λ x y. nat_cmp (key x) (key y))) n s
  after_of n [] h = tt
  after_of n (m ∷ s) h = (not_less (of m) (of n) h.0, after_of n s h.1)

  ascends_of : (s : Nodes X) → Rises of s → Ascends (precedes (λ x y. nat_cmp (key x) (key y))) s
  ascends_of [] h = tt
  ascends_of (n ∷ s) h = (after_of n s h.0, ascends_of s h.1)

  pub sorted_of : (s : Nodes X) → Rises of s → IsSortedBy (precedes (λ x y. nat_cmp (key x) (key y))) s
  sorted_of s h = sorted_from_ascends (precedes (λ x y. nat_cmp (key x) (key y))) s (ascends_of s h)

  none_greater : (n : Ptr × Element X) (s : Nodes X) → AllByRecursion (λ m. of m ≤ of n) s → LastNotGreater (λ x y. nat_cmp (key x) (key y)) n.1.value s
  none_greater n [] h = tt
  none_greater n (m ∷ []) h = not_less (of n) (of m) h.0
  none_greater n (m ∷ l ∷ s) h = none_greater n (l ∷ s) h.1

  all_greater : (n : Ptr × Element X) (s : Nodes X) → AllByRecursion (λ m. of n < of m) s → AllGreater (λ x y. nat_cmp (key x) (key y)) n.1.value s
  all_greater n [] h = tt
  all_greater n (m ∷ s) h = (lt_is (of n) (of m) ∙ lt-ltb (of n) (of m) h.0, all_greater n s h.1)

  module _ (o : IsPreorder (λ x y. nat_cmp (key x) (key y))) where
    pub itself : (s : Nodes X) → Rises of s → Arranges (λ x y. nat_cmp (key x) (key y)) s s
    itself s h = arranges_itself o s (sorted_of s h)

    -- what stands for some arrivals, with one more put in, stands for these and that one
    pub put_arranges : (s a : Nodes X) (n : Ptr × Element X) → Rises of s
        → Arranges (λ x y. nat_cmp (key x) (key y)) s a
        → Arranges (λ x y. nat_cmp (key x) (key y)) (put_by of n s) (a ++ n ∷ [])
    put_arranges s a n h was =
        let (front, back, is, put, lower, higher) = put_split of n s h in
        let parts = subst (λ l. Arranges (λ x y. nat_cmp (key x) (key y)) l a) is was in
        subst (λ l. Arranges (λ x y. nat_cmp (key x) (key y)) l (a ++ n ∷ [])) (sym put)
        (arranges_put o front back a n (none_greater n front lower) (all_greater n back higher) parts)

    -- what stands for nodes in order and one more is those with that one put in
    pub is_put : (s t : Nodes X) (n : Ptr × Element X) → Rises of s → Arranges (λ x y. nat_cmp (key x) (key y)) t (s ++ n ∷ []) → t ≡ put_by of n s
    is_put s t n h arranged = same_nodes o (s ++ n ∷ []) t (put_by of n s) arranged (put_arranges s s n h (itself s h))

  pub put_taken : (n : Ptr × Element X) (s : Nodes X) → Rises of s → IsTaken (put_by of n s) n.0 n.1 s
  put_taken n s h = let (front, back, is, put, lower, higher) = put_split of n s h in (front, back, put, is)
