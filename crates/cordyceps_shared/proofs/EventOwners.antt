-- The events of seat b become those of seat a.
use Rattle.std.proofs.Common.{◌≡◌, ◌≢◌, ℕ, ◌≤◌, ◌<◌, List, [], ◌∷◌, ◌++◌, map, length, Bool, true, false, ◌||◌, eqb, cond, refl, sym, ap, ◌∙◌, subst, arith, eq-eqb, ne_eqb}
use Rattle.std.proofs.lemmas.List.{map-append, length-map}
use mathlib.Core.Logic.{dite}
use native.Mathlib.Decide.{ℕ_discrete}
use Rattle.cordyceps_shared.specs.Histories.{events, mark, with_marks, NoneOf}
use Rattle.cordyceps_shared.specs.Knowing.{Below, merge_marks}

pub or_false : (b : Bool) → (b || false) ≡ b
or_false true = refl
or_false false = refl

or_true : (b : Bool) → (b || true) ≡ true
or_true true = refl
or_true false = refl

-- equal lists begin alike
pub same_first : {A : Type 0} (x y : A) (xs ys : List A) → x ∷ xs ≡ y ∷ ys → x ≡ y
same_first x y xs ys e = cc

module _ (a b : ℕ) where
  abbrev pub renamed_seat : ℕ → ℕ
  renamed_seat o = cond (eqb o b) a o

  pub renamed_here : (o : ℕ) → o ≡ b → renamed_seat o ≡ a
  renamed_here o e = ap (λ z. cond z a o) (eq-eqb o b e)

  pub renamed_else : (o : ℕ) → o ≢ b → renamed_seat o ≡ o
  renamed_else o n = ap (λ z. cond z a o) (ne_eqb o b n)

  mark_both : (o : ℕ) → (eqb o a || eqb o b) ≡ eqb (renamed_seat o) a
  mark_both o = dite (ℕ_discrete o b)
      (λ e. ap (λ z. eqb o a || z) (eq-eqb o b e) ∙ (or_true (eqb o a) ∙ sym (eq-eqb (renamed_seat o) a (renamed_here o e))))
      (λ n. ap (λ z. eqb o a || z) (ne_eqb o b n) ∙ (or_false (eqb o a) ∙ ap (λ z. eqb z a) (sym (renamed_else o n))))

  module _ {X : Type 0} where
    abbrev pub relabel : List (ℕ × X) → List (ℕ × X)
    relabel h = map (λ x. (renamed_seat x.0, x.1)) h

    pub events_relabel : (h : List (ℕ × X)) → events (relabel h) ≡ events h
    events_relabel [] = refl
    events_relabel (x ∷ xs) = ap (λ (z : List X). x.1 ∷ z) (events_relabel xs)

    pub relabel_append : (xs ys : List (ℕ × X)) → relabel (xs ++ ys) ≡ relabel xs ++ relabel ys
    relabel_append xs ys = map-append (λ x. (renamed_seat x.0, x.1)) xs ys

    pub marked_relabel : (i : ℕ) (h : List (ℕ × X)) → i ≢ a → i ≢ b → with_marks i (relabel h) ≡ with_marks i h
    marked_relabel i [] na nb = refl
    marked_relabel i (x ∷ xs) na nb = λ k. (same k, x.1) ∷ marked_relabel i xs na nb k
      where
        same : eqb (renamed_seat x.0) i ≡ eqb x.0 i
        same = dite (ℕ_discrete x.0 b) (λ e. ne_eqb (renamed_seat x.0) i (λ c. na (sym c ∙ renamed_here x.0 e)) ∙ sym (ne_eqb x.0 i (λ c. nb (sym c ∙ e)))) (λ n. ap (λ z. eqb z i) (renamed_else x.0 n))

    pub without_relabel : (i : ℕ) (h : List (ℕ × X)) → i ≢ a → NoneOf i h → NoneOf i (relabel h)
    without_relabel i [] na w = tt
    without_relabel i (x ∷ xs) na w = (dite (ℕ_discrete x.0 b) (λ e c. na (sym c ∙ renamed_here x.0 e)) (λ n c. w.0 (sym (renamed_else x.0 n) ∙ c)), without_relabel i xs na w.1)

    pub without_gone : (h : List (ℕ × X)) → b ≢ a → NoneOf b (relabel h)
    without_gone [] n = tt
    without_gone (x ∷ xs) n = (dite (ℕ_discrete x.0 b) (λ e c. n (sym c ∙ renamed_here x.0 e)) (λ m c. m (sym (renamed_else x.0 m) ∙ c)), without_gone xs n)

    pub without_both : (h : List (ℕ × X)) → NoneOf a h → NoneOf b h → NoneOf a (relabel h)
    without_both [] wa wb = tt
    without_both (x ∷ xs) wa wb = ((λ c. wa.0 (sym (renamed_else x.0 wb.0) ∙ c)), without_both xs wa.1 wb.1)

    pub below_relabel : (n : ℕ) (h : List (ℕ × X)) → a < n → Below n h → Below n (relabel h)
    below_relabel n [] l w = tt
    below_relabel n (x ∷ xs) l w = (dite (ℕ_discrete x.0 b) (λ e. subst (λ z. z < n) (sym (renamed_here x.0 e)) l) (λ m. subst (λ z. z < n) (sym (renamed_else x.0 m)) w.0), below_relabel n xs l w.1)

    -- the marks of b, where a has none
    marked_taken : (h : List (ℕ × X)) → NoneOf a h → with_marks b h ≡ with_marks a (relabel h)
    marked_taken [] w = refl
    marked_taken (x ∷ xs) w = λ k. (same k, x.1) ∷ marked_taken xs w.1 k
      where
        same : eqb x.0 b ≡ eqb (renamed_seat x.0) a
        same = dite (ℕ_discrete x.0 b) (λ e. eq-eqb x.0 b e ∙ sym (eq-eqb (renamed_seat x.0) a (renamed_here x.0 e))) (λ n. ne_eqb x.0 b n ∙ sym (ne_eqb (renamed_seat x.0) a (λ c. w.0 (sym (renamed_else x.0 n) ∙ c))))

    marked_kept : (h : List (ℕ × X)) → NoneOf b h → with_marks a h ≡ with_marks a (relabel h)
    marked_kept [] w = refl
    marked_kept (x ∷ xs) w = λ k. (eqb (sym (renamed_else x.0 w.0) k) a, x.1) ∷ marked_kept xs w.1 k

    without_back : (i : ℕ) (xs ys : List (ℕ × X)) → NoneOf i (xs ++ ys) → NoneOf i xs × NoneOf i ys
    without_back i [] ys w = (tt, w)
    without_back i (x ∷ xs) ys w = let t = without_back i xs ys w.1 in ((w.0, t.0), t.1)

    -- two prefixes of one history, as one
    pub record Merge (bv lv bw lw : List (ℕ × X)) : Type 0 where
      pub before : List (ℕ × X)
      pub later : List (ℕ × X)
      pub is : bv ++ lv ≡ before ++ later
      pub seen : merge_marks (with_marks a bv) (with_marks b bw) ≡ with_marks a (relabel before)
      pub none : NoneOf a (relabel later)
      pub long : length bw ≤ length before
      -- what neither has seen is an end of what each had yet to see
      pub first : (front : List (ℕ × X)) × (lv ≡ front ++ later)
      pub second : (front : List (ℕ × X)) × (lw ≡ front ++ later)

    pub merge : (bv lv bw lw : List (ℕ × X)) → bv ++ lv ≡ bw ++ lw → NoneOf a lv → NoneOf b lw → Merge bv lv bw lw
    merge [] lv bw lw e na nb =
        let t = without_back a bw lw (subst (λ z. NoneOf a z) e na) in
        record { before = bw; later = lw; is = e; seen = marked_taken bw t.0; none = without_both lw t.1 nb; long = omega arith; first = (bw, e); second = ([], refl) }
    merge (x ∷ xs) lv [] lw e na nb =
        let t = without_back b (x ∷ xs) lv (subst (λ z. NoneOf b z) (sym e) nb) in
        record { before = x ∷ xs; later = lv; is = refl; seen = marked_kept (x ∷ xs) t.0; none = without_both lv na t.1; long = omega arith; first = ([], refl); second = (x ∷ xs, sym e) }
    merge (x ∷ xs) lv (y ∷ ys) lw e na nb =
        let r = merge xs lv ys lw (cc) na nb in
        let mark : (eqb x.0 a || eqb y.0 b) ≡ eqb (renamed_seat x.0) a = ap (λ (z : ℕ × X). eqb x.0 a || eqb z.0 b) (sym (same_first x y (xs ++ lv) (ys ++ lw) e)) ∙ mark_both x.0 in record {
          before = x ∷ r.before;
          later = r.later;
          is = λ k. x ∷ r.is k;
          seen = λ k. (mark k, x.1) ∷ r.seen k;
          none = r.none;
          long = omega (arith, r.long);
          first = r.first;
          second = r.second;
        }

module _ {X : Type 0} where
  pub length_relabel : (a b : ℕ) (h : List (ℕ × X)) → length (relabel a b h) ≡ length h
  length_relabel a b h = length-map h (λ x. (renamed_seat a b x.0, x.1))

  pub length_marked : (j : ℕ) (h : List (ℕ × X)) → length (with_marks j h) ≡ length h
  length_marked j h = length-map h (mark j)

  pub events_append : (xs ys : List (ℕ × X)) → events (xs ++ ys) ≡ events xs ++ events ys
  events_append xs ys = map-append (λ x. x.1) xs ys
