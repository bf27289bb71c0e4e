-- The first element with a number.
use Rattle.std.proofs.Common.{◌≡◌, ℕ, zero, suc, ◌+◌, eqb, true, false, cond, [], ◌∷◌, ◌++◌, take, drop, slice_get, Some, refl, ap, sym, ◌∙◌, add-one, append_assoc}
use Rattle.cordyceps_base.specs.Element.{Element, Elements, first_with_id, ids, without_id}

-- what stands at a place
record StandsAt {X : Type 0} (s : Elements X) (index n : ℕ) : Type 0 where
  pub here : Element X
  pub number : here.id ≡ n
  pub follows : drop index s ≡ here ∷ drop (index + 1) s
  pub before : take (index + 1) s ≡ take index s ++ here ∷ []
  pub there : slice_get s index ≡ Some here

stands : {X : Type 0} (s : Elements X) (index n : ℕ) → slice_get (ids s) index ≡ Some n → StandsAt s index n
stands [] zero n h = absurd cc
stands [] (suc index) n h = absurd cc
stands (e ∷ s) zero n h = record { here = e; number = cc; follows = refl; before = refl; there = refl }
stands (e ∷ s) (suc index) n h =
    let k = stands s index n h in
    record {
      here = k.here;
      number = k.number;
      follows = simp add-one (simp add-one at k.follows);
      before = simp add-one (ap (λ t. e ∷ t) (simp add-one at k.before));
      there = k.there;
    }

-- none of the elements before a place has the number
pub record Unmet {X : Type 0} (id : ℕ) (s : Elements X) (index : ℕ) : Type 0 where
  pub answer : first_with_id id s ≡ first_with_id id (drop index s)
  pub kept : without_id id s ≡ take index s ++ without_id id (drop index s)

pub unmet_more : {X : Type 0} (id : ℕ) (s : Elements X) (index n : ℕ) → slice_get (ids s) index ≡ Some n → eqb n id ≡ false → Unmet id s index → Unmet id s (index + 1)
unmet_more id s index n h d u =
    let k = stands s index n h in
    let e : eqb k.here.id id ≡ false = rw k.number d in
    let here : first_with_id id (drop index s) ≡ first_with_id id (drop (index + 1) s) = rw k.follows (ap (λ b. cond b (Some k.here) (first_with_id id (drop (index + 1) s))) e) in
    let gone : without_id id (drop index s) ≡ k.here ∷ without_id id (drop (index + 1) s) = rw k.follows (ap (λ b. cond b (drop (index + 1) s) (k.here ∷ without_id id (drop (index + 1) s))) e) in
    record {
      answer = u.answer ∙ here;
      kept = u.kept ∙ ap (λ t. take index s ++ t) gone ∙ sym (append_assoc (take index s) (k.here ∷ []) (without_id id (drop (index + 1) s))) ∙ ap (λ t. t ++ without_id id (drop (index + 1) s)) (sym k.before);
    }

pub found_at : {X : Type 0} (id : ℕ) (s : Elements X) (index n : ℕ) → slice_get (ids s) index ≡ Some n → eqb n id ≡ true → Unmet id s index → (first_with_id id s ≡ slice_get s index) × (without_id id s ≡ take index s ++ drop (index + 1) s)
found_at id s index n h d u =
    let k = stands s index n h in
    let e : eqb k.here.id id ≡ true = rw k.number d in
    let here : first_with_id id (drop index s) ≡ Some k.here = rw k.follows (ap (λ b. cond b (Some k.here) (first_with_id id (drop (index + 1) s))) e) in
    let gone : without_id id (drop index s) ≡ drop (index + 1) s = rw k.follows (ap (λ b. cond b (drop (index + 1) s) (k.here ∷ without_id id (drop (index + 1) s))) e) in
    (u.answer ∙ here ∙ sym k.there, u.kept ∙ ap (λ t. take index s ++ t) gone)
