-- A history with more events at its end, and what its marks say.
use Rattle.std.proofs.Common.{◌≡◌, ◌≢◌, ℕ, List, [], ◌∷◌, ◌++◌, Bool, true, false, cond, refl, ap, ◌∙◌, eq-eqb, ne_eqb}
use Rattle.std.proofs.lemmas.List.{map-append}
use Rattle.cordyceps_shared.specs.Histories.{events, mark, with_marks, plain, own, others, NoneOf, of_seat}

module _ {X : Type 0} where
  pub events_of : (j : ℕ) (es : List X) → events (of_seat j es) ≡ es
  events_of j [] = refl
  events_of j (x ∷ xs) = ap (λ (ys : List X). x ∷ ys) (events_of j xs)

  pub events_more : (h : List (ℕ × X)) (j : ℕ) (es : List X) → events (h ++ of_seat j es) ≡ events h ++ es
  events_more h j es = map-append (λ x. x.1) h (of_seat j es) ∙ ap (λ (ys : List X). events h ++ ys) (events_of j es)

  without_of : (j i : ℕ) (es : List X) → i ≢ j → NoneOf j (of_seat i es)
  without_of j i [] n = tt
  without_of j i (x ∷ xs) n = (n, without_of j i xs n)

  pub without_more : (j : ℕ) (h : List (ℕ × X)) (i : ℕ) (es : List X) → i ≢ j → NoneOf j h → NoneOf j (h ++ of_seat i es)
  without_more j [] i es n w = without_of j i es n
  without_more j (y ∷ ys) i es n w = (w.0, without_more j ys i es n w.1)

  pub marked_append : (j : ℕ) (xs ys : List (ℕ × X)) → with_marks j (xs ++ ys) ≡ with_marks j xs ++ with_marks j ys
  marked_append j xs ys = map-append (mark j) xs ys

  pub plain_marked : (j : ℕ) (xs : List (ℕ × X)) → plain (with_marks j xs) ≡ events xs
  plain_marked j [] = refl
  plain_marked j (x ∷ xs) = ap (λ (ys : List X). x.1 ∷ ys) (plain_marked j xs)

  pub own_append : (xs ys : List (Bool × X)) → own (xs ++ ys) ≡ own xs ++ own ys
  own_append [] ys = refl
  own_append (x ∷ xs) ys = at_first x.0 (own_append xs ys)
    where
      at_first : (b : Bool) → own (xs ++ ys) ≡ own xs ++ own ys → cond b (x.1 ∷ own (xs ++ ys)) (own (xs ++ ys)) ≡ cond b (x.1 ∷ own xs) (own xs) ++ own ys
      at_first true e = ap (λ (zs : List X). x.1 ∷ zs) e
      at_first false e = e

  pub own_without : (j : ℕ) (xs : List (ℕ × X)) → NoneOf j xs → own (with_marks j xs) ≡ []
  own_without j [] w = refl
  own_without j (x ∷ xs) w = ap (λ b. cond b (x.1 ∷ own (with_marks j xs)) (own (with_marks j xs))) (ne_eqb x.0 j w.0) ∙ own_without j xs w.1

  pub own_of : (j : ℕ) (es : List X) → own (with_marks j (of_seat j es)) ≡ es
  own_of j [] = refl
  own_of j (x ∷ xs) = ap (λ b. cond b (x ∷ own (with_marks j (of_seat j xs))) (own (with_marks j (of_seat j xs)))) (eq-eqb j j refl) ∙ ap (λ (ys : List X). x ∷ ys) (own_of j xs)

  -- ---- what others did
  pub others_append : (xs ys : List (Bool × X)) → others (xs ++ ys) ≡ others xs ++ others ys
  others_append [] ys = refl
  others_append (x ∷ xs) ys = at_first x.0 (others_append xs ys)
    where
      at_first : (b : Bool) → others (xs ++ ys) ≡ others xs ++ others ys → cond b (others (xs ++ ys)) (x.1 ∷ others (xs ++ ys)) ≡ cond b (others xs) (x.1 ∷ others xs) ++ others ys
      at_first true e = e
      at_first false e = ap (λ (zs : List X). x.1 ∷ zs) e

  pub others_without : (j : ℕ) (xs : List (ℕ × X)) → NoneOf j xs → others (with_marks j xs) ≡ events xs
  others_without j [] w = refl
  others_without j (x ∷ xs) w = ap (λ b. cond b (others (with_marks j xs)) (x.1 ∷ others (with_marks j xs))) (ne_eqb x.0 j w.0) ∙ ap (λ (ys : List X). x.1 ∷ ys) (others_without j xs w.1)

  pub others_of : (j : ℕ) (es : List X) → others (with_marks j (of_seat j es)) ≡ []
  others_of j [] = refl
  others_of j (x ∷ xs) = ap (λ b. cond b (others (with_marks j (of_seat j xs))) (x ∷ others (with_marks j (of_seat j xs)))) (eq-eqb j j refl) ∙ others_of j xs

  -- ---- one event of the party's own among all, with its own before it
  pub record Since (rest : List (Bool × X)) (before : List X) (x : X) : Type 0 where
    pub front : List (Bool × X)
    pub later : List (Bool × X)
    pub is : rest ≡ front ++ (true, x) ∷ later
    pub mine : own front ≡ before

  pub since : (rest : List (Bool × X)) (before after : List X) (x : X) → own rest ≡ before ++ x ∷ after → Since rest before x
  since [] [] after x e = let no : ⊥ = cc in absurd no
  since [] (b ∷ bs) after x e = let no : ⊥ = cc in absurd no
  since ((true, y) ∷ r) [] after x e =
      let same : y ≡ x = cc in
      record { front = []; later = r; is = ap (λ z. (true, z) ∷ r) same; mine = refl }
  since ((true, y) ∷ r) (b ∷ bs) after x e =
      let first : y ≡ b = cc in
      let tail : own r ≡ bs ++ x ∷ after = cc in
      let t = since r bs after x tail in
      record { front = (true, y) ∷ t.front; later = t.later; is = ap (λ z. (true, y) ∷ z) t.is; mine = (λ i. first i ∷ t.mine i) }
  since ((false, y) ∷ r) before after x e =
      let t = since r before after x e in
      record { front = (false, y) ∷ t.front; later = t.later; is = ap (λ z. (false, y) ∷ z) t.is; mine = t.mine }
