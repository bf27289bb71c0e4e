-- The rows of nodes in the order of their buckets: where one more goes, and what is left without one.
use Rattle.std.proofs.Common.{◌≡◌, ℕ, ◌<◌, ◌≤◌, cond, List, [], ◌∷◌, ◌++◌, get_or, Option, Some, None, MatchOption, refl, sym, ap, ◌∙◌, subst, ◌⊎◌, inl, inr, arith}
use Rattle.std.specs.Prelude.{◌==◌}
use Rattle.std.specs.List.{AllByRecursion}
use Rattle.std.proofs.lemmas.Bool.{eq-eqb, ne_eqb, cases_lt, cases_eq, cases_order}
use Rattle.std.proofs.lemmas.List.{append_assoc}
use Rattle.std.proofs.lemmas.List.Elements.{filter-append}
use denote.RawPtr.{Ptr}
use Rattle.cordyceps_single.specs.ByKey.{AscendsBy}
use Rattle.cordyceps_clock.specs.Buckets.{last_spot, row, IsKept, IsNearest}

module _ {A : Type 0} where
  all_append : (Q : A → Type 0) (xs ys : List A) → AllByRecursion Q xs → AllByRecursion Q ys → AllByRecursion Q (xs ++ ys)
  all_append Q [] ys p q = q
  all_append Q (x ∷ xs) ys p q = (p.0, all_append Q xs ys p.1 q)

  all_front : (Q : A → Type 0) (xs ys : List A) → AllByRecursion Q (xs ++ ys) → AllByRecursion Q xs
  all_front Q [] ys p = tt
  all_front Q (x ∷ xs) ys p = (p.0, all_front Q xs ys p.1)

  all_back : (Q : A → Type 0) (xs ys : List A) → AllByRecursion Q (xs ++ ys) → AllByRecursion Q ys
  all_back Q [] ys p = p
  all_back Q (x ∷ xs) ys p = all_back Q xs ys p.1

  all_weaker : (P Q : A → Type 0) → ((x : A) → P x → Q x) → (xs : List A) → AllByRecursion P xs → AllByRecursion Q xs
  all_weaker P Q f [] h = tt
  all_weaker P Q f (x ∷ xs) h = (f x h.0, all_weaker P Q f xs h.1)

  -- what a list ends with
  pub record EndsWith (c : List A) : Type 0 where
    pub front : List A
    pub n : A
    pub is : c ≡ front ++ n ∷ []

  pub ends_with : (c : List A) → (c ≡ []) ⊎ EndsWith c
  ends_with [] = inl refl
  ends_with (x ∷ c) = elim (ends_with c) [
    | inl none ↦ inr (record { front = []; n = x; is = ap (λ l. x ∷ l) none })
    | inr on ↦ inr (record { front = x ∷ on.front; n = on.n; is = ap (λ l. x ∷ l) on.is })
  ]

  module _ (number : A → ℕ) where
    -- ---- in order
    pub ascends_taken : (low high : List A) (n : A) → AscendsBy number (low ++ n ∷ high) → AscendsBy number (low ++ high)
    ascends_taken [] high n h = h.1
    ascends_taken (x ∷ low) high n h =
        let Q : A → Type 0 = λ y. number x ≤ number y in
        (all_append Q low high (all_front Q low (n ∷ high) h.0) (all_back Q low (n ∷ high) h.0).1, ascends_taken low high n h.1)

    pub ascends_put : (low high : List A) (n : A) → AllByRecursion (λ y. number y ≤ number n) low → AllByRecursion (λ y. number n ≤ number y) high → AscendsBy number (low ++ high) → AscendsBy number (low ++ n ∷ high)
    ascends_put [] high n p q h = (q, h)
    ascends_put (x ∷ low) high n p q h =
        let Q : A → Type 0 = λ y. number x ≤ number y in
        (all_append Q low (n ∷ high) (all_front Q low high h.0) (p.0, all_back Q low high h.0), ascends_put low high n p.1 q h.1)

    pub upto_it : (low high : List A) (n : A) → AscendsBy number (low ++ n ∷ high) → AllByRecursion (λ y. number y ≤ number n) low
    upto_it [] high n h = tt
    upto_it (x ∷ low) high n h = ((all_back (λ y. number x ≤ number y) low (n ∷ high) h.0).0, upto_it low high n h.1)

    pub from_it : (low high : List A) (n : A) → AscendsBy number (low ++ n ∷ high) → AllByRecursion (λ y. number n ≤ number y) high
    from_it [] high n h = h.0
    from_it (x ∷ low) high n h = from_it low high n h.1

    -- the nodes up to a bucket, and those above it
    pub record Split (k : ℕ) (c : List A) : Type 0 where
      pub low : List A
      pub high : List A
      pub is : c ≡ low ++ high
      pub upto : AllByRecursion (λ y. number y ≤ k) low
      pub above : AllByRecursion (λ y. k < number y) high

    pub split : (k : ℕ) (c : List A) → AscendsBy number c → Split k c
    split k [] h = record { low = []; high = []; is = refl; upto = tt; above = tt }
    split k (x ∷ c) h = elim (cases_lt k (number x)) [
      | inl over ↦ record { low = []; high = x ∷ c; is = refl; upto = tt; above = (over, all_weaker (λ y. number x ≤ number y) (λ y. k < number y) (λ y q. omega (arith, over, q)) c h.0) }
      | inr under ↦ let on = split k c h.1 in record { low = x ∷ on.low; high = on.high; is = ap (λ l. x ∷ l) on.is; upto = (under, on.upto); above = on.above }
    ]

module _ {Y : Type 0} (number : Ptr × Y → ℕ) where
  abbrev Ns : Type 0
  Ns = List (Ptr × Y)

  -- ---- a bucket's nodes
  pub row_in : (k : ℕ) (n : Ptr × Y) (c : Ns) → number n ≡ k → row number k (n ∷ c) ≡ n ∷ row number k c
  row_in k n c e = ap (λ b. cond b (n ∷ row number k c) (row number k c)) (eq-eqb (number n) k e)

  pub row_out : (k : ℕ) (n : Ptr × Y) (c : Ns) → (number n ≡ k → ⊥) → row number k (n ∷ c) ≡ row number k c
  row_out k n c e = ap (λ b. cond b (n ∷ row number k c) (row number k c)) (ne_eqb (number n) k e)

  pub row_none : (k : ℕ) (c : Ns) → AllByRecursion (λ n. number n ≡ k → ⊥) c → row number k c ≡ []
  row_none k [] h = refl
  row_none k (n ∷ c) h = row_out k n c h.0 ∙ row_none k c h.1

  pub row_below : (k : ℕ) (c : Ns) → AllByRecursion (λ n. k < number n) c → row number k c ≡ []
  row_below k c h = row_none k c (all_weaker (λ n. k < number n) (λ n. number n ≡ k → ⊥) (λ n q e. omega (arith, q, e)) c h)

  pub row_above : (k : ℕ) (c : Ns) → AllByRecursion (λ n. number n < k) c → row number k c ≡ []
  row_above k c h = row_none k c (all_weaker (λ n. number n < k) (λ n. number n ≡ k → ⊥) (λ n q e. omega (arith, q, e)) c h)

  pub row_two : (k : ℕ) (c d : Ns) → row number k (c ++ d) ≡ row number k c ++ row number k d
  row_two k c d = filter-append (λ n. number n == k) c d

  pub row_put : (k : ℕ) (low high : Ns) (n : Ptr × Y) → (number n ≡ k → ⊥) → row number k (low ++ n ∷ high) ≡ row number k (low ++ high)
  row_put k low high n e = row_two k low (n ∷ high) ∙ ap (λ l. row number k low ++ l) (row_out k n high e) ∙ sym (row_two k low high)

  pub row_ended : (k : ℕ) (low high : Ns) (n : Ptr × Y) → number n ≡ k → row number k high ≡ [] → row number k (low ++ n ∷ high) ≡ row number k low ++ n ∷ []
  row_ended k low high n e none = row_two k low (n ∷ high) ∙ ap (λ l. row number k low ++ l) (row_in k n high e ∙ ap (λ l. n ∷ l) none)

  -- ---- where it ends
  pub end_is : (c : Ns) (n : Ptr × Y) → last_spot (c ++ n ∷ []) ≡ Some n.0
  end_is [] n = refl
  end_is (x ∷ []) n = refl
  end_is (x ∷ y ∷ c) n = end_is (y ∷ c) n

  end_passed : (c d : Ns) (n m : Ptr × Y) → last_spot (c ++ n ∷ m ∷ d) ≡ last_spot (c ++ m ∷ d)
  end_passed [] d n m = refl
  end_passed (x ∷ []) d n m = refl
  end_passed (x ∷ y ∷ c) d n m = end_passed (y ∷ c) d n m

  -- ---- the nearest end
  -- the nodes up to a bucket and those above, and where the former end
  pub record Parted (k : ℕ) (c : Ns) (o : Option Ptr) : Type 0 where
    pub low : Ns
    pub high : Ns
    pub is : c ≡ low ++ high
    pub upto : AllByRecursion (λ y. number y ≤ k) low
    pub above : AllByRecursion (λ y. k < number y) high
    pub end : MatchOption o (low ≡ []) (λ p. (front : Ns) × (y : Y) × (low ≡ front ++ (p, y) ∷ []))

  some_none : {G : Type 0} (o : Option Ptr) (p : Ptr) → o ≡ None → o ≡ Some p → G
  some_none o p none some = let no : None ≡ Some p = sym none ∙ some in cc

  above_all : (j k : ℕ) (high : Ns) → j ≤ k → AllByRecursion (λ y. k < number y) high → row number j high ≡ []
  above_all j k high le h = row_below j high (all_weaker (λ y. k < number y) (λ y. j < number y) (λ y q. omega (arith, q, le)) high h)

  nothing_low : (ends : List (Option Ptr)) (c high : Ns) (k : ℕ) (o : Option Ptr) → k < 65 → IsKept number ends c → c ≡ high → AllByRecursion (λ y. k < number y) high → IsNearest ends k o → Parted k c o
  nothing_low ends c high k None small kept is above near = record { low = []; high = high; is = is; upto = tt; above = above; end = refl }
  nothing_low ends c high k (Some p) small kept is above (j, le, at, none) =
      some_none (get_or ends j None) p (kept.last j (omega (arith, le, small)) ∙ ap (λ l. last_spot (row number j l)) is ∙ ap last_spot (above_all j k high le above)) at

  something_low : (ends : List (Option Ptr)) (c front high : Ns) (n : Ptr × Y) (k : ℕ) (o : Option Ptr) → k < 65 → IsKept number ends c → c ≡ (front ++ n ∷ []) ++ high
      → AllByRecursion (λ y. number y ≤ k) (front ++ n ∷ []) → AllByRecursion (λ y. k < number y) high → IsNearest ends k o → Parted k c o
  something_low ends c front high n k o small kept is upto above near =
      let i = number n in
      let le : i ≤ k = (all_back (λ y. number y ≤ k) front (n ∷ []) upto).0 in
      let whole : c ≡ front ++ n ∷ high = is ∙ append_assoc front (n ∷ []) high in
      let ascends : AscendsBy number (front ++ n ∷ high) = subst (AscendsBy number) whole kept.ascends in
      let here : get_or ends i None ≡ Some n.0 =
      kept.last i (omega (arith, le, small)) ∙ ap (λ l. last_spot (row number i l)) whole ∙ ap last_spot (row_ended i front high n refl (above_all i k high le above)) ∙ end_is (row number i front) n in
      let over : (j : ℕ) → i < j → j ≤ k → get_or ends j None ≡ None =
      (λ j more within. kept.last j (omega (arith, within, small)) ∙ ap (λ l. last_spot (row number j l)) whole ∙ ap last_spot (row_two j front (n ∷ high) ∙ (λ t. row_above j front (all_weaker (λ y. number y ≤ i) (λ y. number y < j) (λ y q. omega (arith, q, more)) front (upto_it number front high n ascends)) t ++ (row_out j n high (λ e. omega (arith, e, more)) ∙ above_all j k high within above) t))) in
      finish o near here over where
        finish : (o : Option Ptr) → IsNearest ends k o → get_or ends (number n) None ≡ Some n.0 → ((j : ℕ) → number n < j → j ≤ k → get_or ends j None ≡ None) → Parted k c o
        finish None near here over = some_none (get_or ends (number n) None) n.0 (near (number n) ((all_back (λ y. number y ≤ k) front (n ∷ []) upto).0)) here
        finish (Some p) (j, within, at, none) here over = elim (cases_order (number n) j) [
          | inl same ↦
              let spot : Some p ≡ Some n.0 = sym at ∙ ap (λ m. get_or ends m None) (sym same) ∙ here in let eq : n.0 ≡ p = cc in
              record { low = front ++ n ∷ []; high = high; is = is; upto = upto; above = above; end = (front, n.1, ap (λ q. front ++ (q, n.1) ∷ []) eq) }
          | inr other ↦ elim other [
            | inl more ↦ some_none (get_or ends j None) p (over j more within) at
            | inr less ↦ some_none (get_or ends (number n) None) n.0 (none (number n) less ((all_back (λ y. number y ≤ k) front (n ∷ []) upto).0)) here
          ]
        ]

  pub parted : (ends : List (Option Ptr)) (c : Ns) (k : ℕ) (o : Option Ptr) → k < 65 → IsKept number ends c → IsNearest ends k o → Parted k c o
  parted ends c k o small kept near =
      let s = split number k c kept.ascends in
      elim (ends_with s.low) [
        | inl none ↦ nothing_low ends c s.high k o small kept (s.is ∙ ap (λ l. l ++ s.high) none) s.above near
        | inr on ↦ something_low ends c on.front s.high on.n k o small kept (s.is ∙ ap (λ l. l ++ s.high) on.is) (subst (AllByRecursion (λ y. number y ≤ k)) on.is s.upto) s.above near
      ]

  -- ---- one more node, after those up to its bucket
  pub kept_put : (ends new : List (Option Ptr)) (low high : Ns) (n : Ptr × Y) (k : ℕ) → number n ≡ k → AllByRecursion (λ y. number y ≤ k) low → AllByRecursion (λ y. k < number y) high
      → get_or new k None ≡ Some n.0 → ((i : ℕ) → (i ≡ k → ⊥) → get_or new i None ≡ get_or ends i None) → IsKept number ends (low ++ high) → IsKept number new (low ++ n ∷ high)
  kept_put ends new low high n k e upto above at others kept = record {
    ascends = ascends_put number low high n (all_weaker (λ y. number y ≤ k) (λ y. number y ≤ number n) (λ y q. omega (arith, q, e)) low upto) (all_weaker (λ y. k < number y) (λ y. number n ≤ number y) (λ y q. omega (arith, q, e)) high above) kept.ascends;
    last = λ i small. elim (cases_eq i k) [
      | inl same ↦ ap (λ j. get_or new j None) same ∙ at ∙ sym (end_is (row number i low) n) ∙ ap last_spot (sym (row_ended i low high n (e ∙ sym same) (row_below i high (subst (λ j. AllByRecursion (λ y. j < number y) high) (sym same) above))))
      | inr other ↦ others i other ∙ kept.last i small ∙ ap last_spot (sym (row_put i low high n (λ is. other (sym is ∙ e))))
    ];
  }

  -- ---- one node less
  pub kept_taken : (ends new : List (Option Ptr)) (low high : Ns) (n : Ptr × Y) (k : ℕ) → number n ≡ k
      → get_or new k None ≡ last_spot (row number k (low ++ high)) → ((i : ℕ) → (i ≡ k → ⊥) → get_or new i None ≡ get_or ends i None) → IsKept number ends (low ++ n ∷ high) → IsKept number new (low ++ high)
  kept_taken ends new low high n k e at others kept = record {
    ascends = ascends_taken number low high n kept.ascends;
    last = λ i small. elim (cases_eq i k) [
      | inl same ↦ ap (λ j. get_or new j None) same ∙ at ∙ ap (λ j. last_spot (row number j (low ++ high))) (sym same)
      | inr other ↦ others i other ∙ kept.last i small ∙ ap last_spot (row_put i low high n (λ is. other (sym is ∙ e)))
    ];
  }

  -- where the bucket of a node ends without it: where it did, if the next node is of the bucket
  pub end_stays : (ends : List (Option Ptr)) (low high : Ns) (n m : Ptr × Y) (k : ℕ) → k < 65 → number n ≡ k → number m ≡ k → IsKept number ends (low ++ n ∷ m ∷ high) → get_or ends k None ≡ last_spot (row number k (low ++ m ∷ high))
  end_stays ends low high n m k small e o kept =
      kept.last k small ∙ ap last_spot (row_two k low (n ∷ m ∷ high) ∙ ap (λ l. row number k low ++ l) (row_in k n (m ∷ high) e ∙ ap (λ l. n ∷ l) (row_in k m high o)))
      ∙ end_passed (row number k low) (row number k high) n m ∙ ap last_spot (sym (row_two k low (m ∷ high) ∙ ap (λ l. row number k low ++ l) (row_in k m high o)))

  -- the first of the others is of no bucket up to this one
  pub none_after : (low high : Ns) (n m : Ptr × Y) (k : ℕ) → number n ≡ k → (number m ≡ k → ⊥) → AscendsBy number (low ++ n ∷ m ∷ high) → row number k (m ∷ high) ≡ []
  none_after low high n m k e o h =
      let from = from_it number low (m ∷ high) n h in
      let first : k < number m = omega (arith, from.0, e, o) in
      let rest = from_it number (low ++ n ∷ []) high m (subst (AscendsBy number) (sym (append_assoc low (n ∷ []) (m ∷ high))) h) in
      row_below k (m ∷ high) (first, all_weaker (λ y. number m ≤ number y) (λ y. k < number y) (λ y q. omega (arith, q, first)) high rest)
