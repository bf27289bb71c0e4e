-- One turn more, and one value more that grew.
use Rattle.std.proofs.Common.{◌≡◌, ℕ, zero, suc, ◌+◌, ◌-◌, ◌≤◌, [], ◌∷◌, ◌++◌, length, take, drop, Some, None, slice_get, refl, sym, ap, ◌∙◌, arith, ◌<◌, ◌%◌, ◌^◌, inl, inr, add-one}
use Rattle.std.specs.Prelude.{nat_lt, if◌then◌else◌}
use Rattle.std.proofs.lemmas.Bool.{cases_lt}
use Rattle.std.proofs.lemmas.Bool.Decides.{nat_tests}
use Rattle.std.proofs.lemmas.List.{length-map}
use Rattle.cordyceps_base.specs.Element.{Element, Elements, values, with_value}
use Rattle.cordyceps_list.proofs.Lent.{lent_some}
use Rattle.cordyceps_commands.specs.declared.item.Item.{Item}
use Rattle.cordyceps_tables.specs.Walks.{bump, bump_all}
use Rattle.cordyceps_tables.proofs.Ends.{last_value}
use Rattle.cordyceps_tables.proofs.Places.{past_end}

pub last_given : (s rest : Elements Item) (e : Element Item) → s ≡ rest ++ e ∷ [] → slice_get (values s) (length (values s) - 1) ≡ Some e.value
last_given s rest e is = rw (length-map) (last_value s rest e is)

-- the element at a place grew
pub grown_at : (by : ℕ) (s : Elements Item) (k : ℕ) (x : Item) → slice_get (values s) k ≡ Some x →
    take (suc k) (with_value s k (bump by (record { id = 0; value = x })).value) ++ bump_all by (drop (suc k) (with_value s k (bump by (record { id = 0; value = x })).value)) ≡ take k s ++ bump_all by (drop k s)
grown_at by [] k x is = absurd cc
grown_at by (e ∷ s) zero x is = let at : e.value ≡ x = cc in rw at refl
grown_at by (e ∷ s) (suc k) x is = ap (λ t. e ∷ t) (grown_at by s k x is)

pub all_bumped : (by : ℕ) (s : Elements Item) (k : ℕ) → length s ≤ k → take k s ++ bump_all by (drop k s) ≡ s
all_bumped by [] zero past = refl
all_bumped by [] (suc k) past = refl
all_bumped by (e ∷ s) zero past = absurd (omega arith)
all_bumped by (e ∷ s) (suc k) past = ap (λ t. e ∷ t) (all_bumped by s k (omega arith))

-- one lent value more grew
pub bump_more : (by : ℕ) (s all : Elements Item) (k n : ℕ) (x : Item) → Some x ≡ (if nat_lt k n then slice_get (values s) k else None) → take k s ++ bump_all by (drop k s) ≡ all →
    take (k + 1) (with_value s k (record x { value = (x.value + by) % 2 ^ 64 })) ++ bump_all by (drop (k + 1) (with_value s k (record x { value = (x.value + by) % 2 ^ 64 }))) ≡ all
bump_more by s all k n x is so_far =
    let at = (lent_some (slice_get (values s) k) k n x is).1 in
    rw add-one (grown_at by s k x at ∙ so_far)

pub bump_inside : (s : Elements Item) (k n : ℕ) (x : Item) → Some x ≡ (if nat_lt k n then slice_get (values s) k else None) → k < n
bump_inside s k n x is = (lent_some (slice_get (values s) k) k n x is).0

-- none is left
pub bump_end : (by : ℕ) (s all : Elements Item) (k n : ℕ) → n ≡ length s → None ≡ (if nat_lt k n then slice_get (values s) k else None) → take k s ++ bump_all by (drop k s) ≡ all → s ≡ all
bump_end by s all k n end is so_far =
    let past : length s ≤ k = elim (cases_lt k n) as (λ _. length s ≤ k) [
      | inl below ↦ past_end s k (grind (arith, nat_tests))
      | inr over ↦ omega arith
    ] in
    sym (all_bumped by s k past) ∙ so_far
