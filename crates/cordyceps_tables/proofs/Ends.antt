-- The last of some elements, and lists that are all empty.
use Rattle.std.proofs.Common.{◌≡◌, ℕ, zero, suc, ◌<◌, ◌-◌, [], ◌∷◌, ◌++◌, Some, take, length, slice_get, slice_index_or, refl, ap, arith, length-append}
use Rattle.cordyceps_base.specs.Element.{Element, Elements, values}
use Rattle.cordyceps_tables.specs.Tables.{Table, empty_table}

value_behind : {X : Type 0} (rest : Elements X) (e : Element X) → slice_get (values (rest ++ e ∷ [])) (length rest) ≡ Some e.value
value_behind [] e = refl
value_behind (x ∷ rest) e = value_behind rest e

take_before : {X : Type 0} (rest : Elements X) (e : Element X) → take (length rest) (rest ++ e ∷ []) ≡ rest
take_before [] e = refl
take_before (x ∷ rest) e = ap (λ s. x ∷ s) (take_before rest e)

count : {X : Type 0} (s rest : Elements X) (e : Element X) → s ≡ rest ++ e ∷ [] → length s - 1 ≡ length rest
count s rest e is = omega (arith, ap length is, length-append rest (e ∷ []))

-- the value of the last element
pub last_value : {X : Type 0} (s rest : Elements X) (e : Element X) → s ≡ rest ++ e ∷ [] → slice_get (values s) (length s - 1) ≡ Some e.value
last_value s rest e is = rw (count s rest e is, is) (value_behind rest e)

-- the elements but for the last
pub all_but_last : {X : Type 0} (s rest : Elements X) (e : Element X) → s ≡ rest ++ e ∷ [] → take (length s - 1) s ≡ rest
all_but_last s rest e is = rw (count s rest e is, is) (take_before rest e)

-- a list of so many lists that are all empty
pub all_empty : (table : Table) (n : ℕ) → length table ≡ n → ((i : ℕ) → i < n → slice_index_or table i [] ≡ []) → table ≡ empty_table n
all_empty [] zero long each = refl
all_empty [] (suc n) long each = absurd cc
all_empty (row ∷ table) zero long each = absurd cc
all_empty (row ∷ table) (suc n) long each =
    let first : row ≡ [] = each 0 (omega arith) in
    let others : table ≡ empty_table n = all_empty table n (omega arith) (λ i lt. each (suc i) (omega arith)) in
    cc
