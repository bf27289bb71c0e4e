-- What a test says of what it tested, and the parts of lists and options.
use Rattle.std.proofs.Common.{◌≡◌, ◌≢◌, ℕ, ◌+◌, List, [], ◌∷◌, Bool, true, false, ◌&&◌, cond, refl, ap}
use Rattle.std.specs.Prelude.{Option, Some, None, is_some, nat_eq}
use Rattle.std.specs.Option.{option_eq}
use Rattle.std.proofs.lemmas.Bool.{eqb-true, eqb-false}
use Rattle.cordyceps_shared.specs.declared.room.Room.{Room}
use Rattle.cordyceps_shared.specs.Rooms.{occupied}
use Rattle.std.proofs.lemmas.List.Sums.{sum_by-cons}

pub both_from : (a b : Bool) → (a && b) ≡ true → (a ≡ true) × (b ≡ true)
both_from true b e = (refl, e)
both_from false b e = let no : ⊥ = cc in absurd no

pub some_from : {A : Type 0} (o : Option A) → is_some o ≡ true → (x : A) × (o ≡ Some x)
some_from None e = let no : ⊥ = cc in absurd no
some_from (Some x) e = (x, refl)

pub option_same : (x y : Option ℕ) → option_eq nat_eq x y ≡ true → x ≡ y
option_same None None e = refl
option_same None (Some y) e = let no : ⊥ = cc in absurd no
option_same (Some x) None e = let no : ⊥ = cc in absurd no
option_same (Some x) (Some y) e = ap (λ (n : ℕ). Some n) (eqb-true x y e)

pub option_differ : (x y : Option ℕ) → option_eq nat_eq x y ≡ false → x ≢ y
option_differ None None e s = let no : ⊥ = cc in no
option_differ None (Some y) e s = let no : ⊥ = cc in no
option_differ (Some x) None e s = let no : ⊥ = cc in no
option_differ (Some x) (Some y) e s = let same : x ≡ y = cc in eqb-false x y e same

module _ {A : Type 0} where
  abbrev pub some_or : A → Option A → A
  some_or d None = d
  some_or d (Some x) = x

  abbrev pub first_or : A → List A → A
  first_or d [] = d
  first_or d (x ∷ xs) = x

  abbrev pub rest_from : List A → List A
  rest_from [] = []
  rest_from (x ∷ xs) = xs

pub occupied_cons : {E : Type 0} (x : Room E) (xs : List (Room E)) → occupied (x ∷ xs) ≡ cond (is_some x.element) 1 0 + occupied xs
occupied_cons {E} x xs = sum_by-cons (λ (y : Room E). cond (is_some y.element) 1 0) x xs
