-- A list that is filtered into another: what has been moved, and what has stayed.
use Rattle.std.proofs.Common.{◌≡◌, ℕ, suc, ◌+◌, ◌-◌, ◌≤◌, Bool, true, false, cond, not, List, [], ◌∷◌, ◌++◌, length, take, drop, slice_get, Option, Some, None, refl, sym, ap, ◌∙◌, subst, arith, append_assoc, length-append}
use Rattle.std.specs.Prelude.{filter}
use Rattle.std.proofs.lemmas.List.{append-nil}
use Rattle.cordyceps.specs.Elements.Element.{Element, Elements, values}
use Rattle.cordyceps.specs.Cursors.Filter.{RemovesFirst}
use Rattle.cordyceps.specs.Cursors.Walks.{Walks}

behind : {X : Type 0} (a u : Elements X) → drop (length a) (values (a ++ u)) ≡ values u
behind [] u = refl
behind (e ∷ a) u = behind a u

there : {X : Type 0} (a w : Elements X) → slice_get (a ++ w) (length a) ≡ slice_get w 0
there [] w = refl
there (e ∷ a) w = there a w

without : {X : Type 0} (a : Elements X) (x : Element X) (w : Elements X) → take (length a) (a ++ x ∷ w) ++ drop (suc (length a)) (a ++ x ∷ w) ≡ a ++ w
without [] x [] = refl
without [] x (y ∷ w) = refl
without (e ∷ a) x w = ap (λ z. e ∷ z) (without a x w)

to_end : {X : Type 0} (a : Elements X) → take (length a) (a ++ []) ++ drop (suc (length a)) (a ++ []) ≡ a
to_end [] = refl
to_end (e ∷ a) = ap (λ z. e ∷ z) (to_end a)

one_more : {X : Type 0} (b : Bool) (x : X) (us : List X) → length (cond b (x ∷ us) us) ≤ suc (length us)
one_more true x us = omega arith
one_more false x us = omega arith

no_longer : {X : Type 0} (q : X → Bool) (xs : List X) → length (filter q xs) ≤ length xs
no_longer q [] = omega arith
no_longer q (x ∷ xs) = omega (arith, one_more (q x) x (filter q xs), no_longer q xs)

module _ {X : Type 0} (p : X → Bool) where
  abbrev starts : Elements X → Type 0
  starts [] = Unit {0}
  starts (e ∷ s) = p e.value ≡ true

  -- `moved` has those that pass from the first part of `all`, and s has the others of that part, k of them, and the rest
  pub record Drains (before all moved s : Elements X) (k : ℕ) : Type 0 where
    pub stayed : Elements X
    pub left : Elements X
    pub whole : s ≡ stayed ++ left
    pub place : k ≡ length stayed
    pub into : moved ++ filter (λ e. p e.value) left ≡ before ++ filter (λ e. p e.value) all
    pub others : stayed ++ filter (λ e. not (p e.value)) left ≡ filter (λ e. not (p e.value)) all

  pub few_moved : (before all moved s : Elements X) (k : ℕ) → Drains before all moved s k → length moved ≤ length before + length all
  few_moved before all moved s k d =
      omega (arith, ap length d.into, length-append moved (filter (λ e. p e.value) d.left), length-append before (filter (λ e. p e.value) all), no_longer (λ (e : Element X). p e.value) all)

  goes_on : (before all moved stayed front rest t : Elements X) (e : Element X) (j : ℕ) → starts rest → Some e ≡ slice_get rest 0 → j ≡ length (stayed ++ front) →
      t ≡ take j ((stayed ++ front) ++ rest) ++ drop (suc j) ((stayed ++ front) ++ rest) →
      moved ++ filter (λ e. p e.value) rest ≡ before ++ filter (λ e. p e.value) all → (stayed ++ front) ++ filter (λ e. not (p e.value)) rest ≡ filter (λ e. not (p e.value)) all →
      Drains before all (moved ++ e ∷ []) t j
  goes_on before all moved stayed front [] t e j pass is at cut into others = absurd cc
  goes_on before all moved stayed front (x ∷ rest) t e j pass is at cut into others =
      let same : e ≡ x = cc in
      let now = subst (λ b. moved ++ cond b (x ∷ filter (λ e. p e.value) rest) (filter (λ e. p e.value) rest) ≡ before ++ filter (λ e. p e.value) all) pass into in
      record {
        stayed = stayed ++ front;
        left = rest;
        whole = cut ∙ ap (λ i. take i ((stayed ++ front) ++ x ∷ rest) ++ drop (suc i) ((stayed ++ front) ++ x ∷ rest)) at ∙ without (stayed ++ front) x rest;
        place = at;
        into = rw (append_assoc, same) now;
        others = subst (λ b. (stayed ++ front) ++ cond (not b) (x ∷ filter (λ e. not (p e.value)) rest) (filter (λ e. not (p e.value)) rest) ≡ filter (λ e. not (p e.value)) all) pass others;
      }

  ends : (before all moved stayed front rest t : Elements X) (j : ℕ) → None ≡ slice_get rest 0 → j ≡ length (stayed ++ front) →
      t ≡ take j ((stayed ++ front) ++ rest) ++ drop (suc j) ((stayed ++ front) ++ rest) →
      moved ++ filter (λ e. p e.value) rest ≡ before ++ filter (λ e. p e.value) all → (stayed ++ front) ++ filter (λ e. not (p e.value)) rest ≡ filter (λ e. not (p e.value)) all →
      (moved ≡ before ++ filter (λ e. p e.value) all) × (t ≡ filter (λ e. not (p e.value)) all)
  ends before all moved stayed front (x ∷ rest) t j is at cut into others = absurd cc
  ends before all moved stayed front [] t j is at cut into others = (
    sym (append-nil moved) ∙ into,
    cut ∙ ap (λ i. take i ((stayed ++ front) ++ []) ++ drop (suc i) ((stayed ++ front) ++ [])) at ∙ to_end (stayed ++ front) ∙ sym (append-nil (stayed ++ front)) ∙ others,
  )

  -- a predicate in a good state says whether a value passes, and stays good
  module _ {F : Type 0} (R : F → X → Bool → F → Type 0) (Good : F → Type 0) (says : (f h : F) (x : X) (b : Bool) → R f x b h → Good f → (b ≡ p x) × Good h) where
    record Splits (u : Elements X) (n : ℕ) (g : F) : Type 0 where
      front : Elements X
      rest : Elements X
      parts : u ≡ front ++ rest
      count : n ≡ length front
      none : filter (λ e. p e.value) u ≡ filter (λ e. p e.value) rest
      each : filter (λ e. not (p e.value)) u ≡ front ++ filter (λ e. not (p e.value)) rest
      next : starts rest
      good : Good g

    splits : (u : Elements X) (n : ℕ) (f g : F) → Walks R f (values u) n g → Good f → Splits u n g
    splits [] n f g (zero_is, same) good =
        record { front = []; rest = []; parts = refl; count = zero_is; none = refl; each = refl; next = tt; good = subst Good (sym same) good }
    splits (e ∷ u) n f g (true, h, called, (zero_is, same)) good =
        let s = says f h e.value true called good in
        record { front = []; rest = e ∷ u; parts = refl; count = zero_is; none = refl; each = refl; next = sym s.0; good = subst Good (sym same) s.1 }
    splits (e ∷ u) n f g (false, h, called, (m, more, walks)) good =
        let s = says f h e.value false called good in
        let on = splits u m h g walks s.1 in
        record {
          front = e ∷ on.front;
          rest = on.rest;
          parts = ap (λ z. e ∷ z) on.parts;
          count = omega (arith, more, on.count);
          none = subst (λ b. cond b (e ∷ filter (λ e. p e.value) u) (filter (λ e. p e.value) u) ≡ filter (λ e. p e.value) on.rest) s.0 on.none;
          each = subst (λ b. cond (not b) (e ∷ filter (λ e. not (p e.value)) u) (filter (λ e. not (p e.value)) u) ≡ e ∷ on.front ++ filter (λ e. not (p e.value)) on.rest) s.0 (ap (λ z. e ∷ z) on.each);
          next = on.next;
          good = on.good;
        }

    module _ {H : Type 0} (element : H → Element X) where
      -- the parts of s, where the predicate has been asked up to the place j
      record Asked (before all moved s : Elements X) (j : ℕ) (g : F) : Type 0 where
        stayed : Elements X
        front : Elements X
        rest : Elements X
        parts : s ≡ (stayed ++ front) ++ rest
        at : j ≡ length (stayed ++ front)
        next : starts rest
        here : slice_get s j ≡ slice_get rest 0
        into : moved ++ filter (λ e. p e.value) rest ≡ before ++ filter (λ e. p e.value) all
        others : (stayed ++ front) ++ filter (λ e. not (p e.value)) rest ≡ filter (λ e. not (p e.value)) all
        good : Good g

      asked : (before all moved s t : Elements X) (k j : ℕ) (f g : F) (r : Option H) → Drains before all moved s k → RemovesFirst element R s k f r t j g → Good f → Asked before all moved s j g
      asked before all moved s t k j f g r d removes good =
          let left = ap (λ z. drop k (values z)) d.whole ∙ ap (λ i. drop i (values (d.stayed ++ d.left))) d.place ∙ behind d.stayed d.left in
          let split = splits d.left (j - k) f g (subst (λ z. Walks R f z (j - k) g) left removes.walks) good in
          let parts = d.whole ∙ ap (λ z. d.stayed ++ z) split.parts ∙ sym (append_assoc d.stayed split.front split.rest) in
          let at : j ≡ length (d.stayed ++ split.front) = omega (arith, removes.from, d.place, split.count, length-append d.stayed split.front) in
          record {
            stayed = d.stayed;
            front = split.front;
            rest = split.rest;
            parts = parts;
            at = at;
            next = split.next;
            here = ap (λ z. slice_get z j) parts ∙ ap (λ i. slice_get ((d.stayed ++ split.front) ++ split.rest) i) at ∙ there (d.stayed ++ split.front) split.rest;
            into = ap (λ z. moved ++ z) (sym split.none) ∙ d.into;
            others = append_assoc d.stayed split.front (filter (λ e. not (p e.value)) split.rest) ∙ ap (λ z. d.stayed ++ z) (sym split.each) ∙ d.others;
            good = split.good;
          }

      pub drains_more : (before all moved s t : Elements X) (k j : ℕ) (f g : F) (r : H) → Drains before all moved s k → RemovesFirst element R s k f (Some r) t j g → Good f
          → Drains before all (moved ++ element r ∷ []) t j × Good g
      drains_more before all moved s t k j f g r d removes good =
          let a = asked before all moved s t k j f g (Some r) d removes good in
          let next : j + 1 ≡ suc j = omega arith in
          let cut = removes.kept ∙ ap (λ i. take j s ++ drop i s) next ∙ ap (λ z. take j z ++ drop (suc j) z) a.parts in
          (goes_on before all moved a.stayed a.front a.rest t (element r) j a.next (removes.answer ∙ a.here) a.at cut a.into a.others, a.good)

      pub drains_all : (before all moved s t : Elements X) (k j : ℕ) (f g : F) → Drains before all moved s k → RemovesFirst element R s k f None t j g → Good f
          → (moved ≡ before ++ filter (λ e. p e.value) all) × (t ≡ filter (λ e. not (p e.value)) all)
      drains_all before all moved s t k j f g d removes good =
          let a = asked before all moved s t k j f g None d removes good in
          let next : j + 1 ≡ suc j = omega arith in
          let cut = removes.kept ∙ ap (λ i. take j s ++ drop i s) next ∙ ap (λ z. take j z ++ drop (suc j) z) a.parts in
          ends before all moved a.stayed a.front a.rest t j (removes.answer ∙ a.here) a.at cut a.into a.others
