-- Lists that change at one place, and the functions that read them.
use Rattle.std.proofs.Common.{◌≡◌, ◌≢◌, ℕ, zero, suc, ◌-◌, ◌<◌, List, [], ◌∷◌, ◌++◌, length, refl, ap, sym, ◌∙◌, subst, arith}
use Rattle.std.specs.Prelude.{Option, Some, None, IsSome, slice_get, slice_set, slice_index_or}
use mathlib.Core.Path.{fun_ext}
use native.Mathlib.Decide.{ℕ_discrete}
use Rattle.cordyceps_shared.specs.declared.room.Room.{Room}
use Rattle.cordyceps_shared.proofs.ListWrites.{slice_get-set_same, slice_get-set_other, slice_get-change_same, slice_get-change_other, set_change}
use Rattle.cordyceps_shared.specs.Rooms.{change, element_in}
use Rattle.cordyceps_queue.specs.Cores.Machine.{stub_room}
use Rattle.cordyceps_queue.specs.Cores.Abstract.{update}
use Rattle.cordyceps_queue.proofs.CoreTheory.Basics.{none_some, put_same, put_other}

module _ {X : Type 0} where
  pub get_within : (xs : List X) (i : ℕ) → i < length xs → (x : X) × (slice_get xs i ≡ Some x)
  get_within [] i lt = absurd (omega arith)
  get_within (x ∷ xs) zero lt = (x, refl)
  get_within (x ∷ xs) (suc i) lt = get_within xs i (omega arith)

  -- what a list with one more item has at a place
  pub get_push_same : (xs : List X) (x : X) → slice_get (xs ++ x ∷ []) (length xs) ≡ Some x
  get_push_same [] x = refl
  get_push_same (y ∷ xs) x = get_push_same xs x

  pub get_push_other : (xs : List X) (x : X) (j : ℕ) → j ≢ length xs → slice_get (xs ++ x ∷ []) j ≡ slice_get xs j
  get_push_other [] x zero ne = absurd (ne refl)
  get_push_other [] x (suc j) ne = refl
  get_push_other (y ∷ xs) x zero ne = refl
  get_push_other (y ∷ xs) x (suc j) ne = get_push_other xs x j (λ e. ne (ap suc e))

  -- no item is after the last
  pub get_beyond : (xs : List X) → slice_get xs (length xs) ≡ None
  get_beyond [] = refl
  get_beyond (x ∷ xs) = get_beyond xs

  -- a place that a write leaves without an item had none
  pub none_before : (xs : List X) (i j : ℕ) (w y : X) → slice_get xs i ≡ Some y → slice_get (slice_set xs i w) j ≡ None → (j ≢ i) × (slice_get xs j ≡ None)
  none_before xs i j w y h n = elim (ℕ_discrete j i) [
    | yes same ↦ absurd (none_some (sym n ∙ ap (slice_get (slice_set xs i w)) same ∙ slice_get-set_same xs i w y h))
    | no ne ↦ (ne, sym (slice_get-set_other xs i j w ne) ∙ n)
  ]

-- what a list says at each place
abbrev pub read : {X A : Type 0} → (Option X → A) → List X → ℕ → A
read get xs j = get (slice_get xs j)

module _ {X A : Type 0} (get : Option X → A) where
  -- what is read of a list that changed at one place
  pub read_changed : (f : X → X) (xs : List X) (r : ℕ) (y : X) → slice_get xs r ≡ Some y → read get (change f r xs) ≡ update (read get xs) r (get (Some (f y)))
  read_changed f xs r y h = fun_ext (λ j. elim (ℕ_discrete j r) [
    | yes same ↦ subst (λ i. read get (change f r xs) i ≡ update (read get xs) r (get (Some (f y))) i) (sym same)
        (ap get (slice_get-change_same f xs r y h) ∙ sym (put_same (read get xs) r (get (Some (f y)))))
    | no ne ↦ ap get (slice_get-change_other f xs r j ne) ∙ sym (put_other (read get xs) r (get (Some (f y))) j ne)
  ])

  -- the same where nothing of it changed
  pub read_same : (f : X → X) (xs : List X) (r : ℕ) → ((y : X) → get (Some (f y)) ≡ get (Some y)) → read get (change f r xs) ≡ read get xs
  read_same f xs r same = fun_ext (λ j. at xs r j)
    where
      at : (xs : List X) (r j : ℕ) → read get (change f r xs) j ≡ read get xs j
      at [] r j = refl
      at (x ∷ xs) zero zero = same x
      at (x ∷ xs) zero (suc j) = refl
      at (x ∷ xs) (suc r) zero = refl
      at (x ∷ xs) (suc r) (suc j) = at xs r j

  -- a list with one more item, which reads as none
  pub read_pushed : (xs : List X) (x : X) → get (Some x) ≡ get None → read get (xs ++ x ∷ []) ≡ read get xs
  read_pushed xs x same = fun_ext (λ j. at xs j)
    where
      at : (xs : List X) (j : ℕ) → read get (xs ++ x ∷ []) j ≡ read get xs j
      at [] zero = same
      at [] (suc j) = refl
      at (y ∷ xs) zero = refl
      at (y ∷ xs) (suc j) = at xs j

module _ {X : Type 0} where
  get_index : (xs : List X) (i : ℕ) (d : X) → i < length xs → slice_get xs i ≡ Some (slice_index_or xs i d)
  get_index [] i d lt = absurd (omega arith)
  get_index (y ∷ ys) zero d lt = refl
  get_index (y ∷ ys) (suc i) d lt = get_index ys i d (omega arith)

  -- a write after the first item
  pub set_after : (f : X → X) (x : X) (xs : List X) (i : ℕ) (d : X) → 0 < i → i < suc (length xs) → x ∷ slice_set xs (i - 1) (f (slice_index_or xs (i - 1) d)) ≡ change f i (x ∷ xs)
  set_after f x xs zero d pos lt = absurd (omega arith)
  set_after f x xs (suc i) d pos lt =
      let e : suc i - 1 ≡ i = omega arith in
      ap (λ n. x ∷ slice_set xs n (f (slice_index_or xs n d))) e ∙ ap (λ ys. x ∷ ys) (set_change f xs i (slice_index_or xs i d) (get_index xs i d (omega arith)))

  pub get_after : (x : X) (xs : List X) (i : ℕ) (d : X) → 0 < i → i < suc (length xs) → slice_get (x ∷ xs) i ≡ Some (slice_index_or xs (i - 1) d)
  get_after x xs zero d pos lt = absurd (omega arith)
  get_after x xs (suc i) d pos lt = let e : suc i - 1 ≡ i = omega arith in get_index xs i d (omega arith) ∙ ap (λ n. Some (slice_index_or xs n d)) (sym e)

module _ {E : Type 0} where
  -- a room with an element is not the stub's
  pub full_within : (next : Option ℕ) (rooms : List (Room E)) (i : ℕ) → IsSome (element_in (slice_get (stub_room next ∷ rooms) i)) → (0 < i) × (i < suc (length rooms))
  full_within next rooms zero full = let no : ⊥ = cc in absurd no
  full_within next rooms (suc i) full = (omega arith, let l = within rooms i full in omega arith)
    where
      within : (rooms : List (Room E)) (i : ℕ) → IsSome (element_in (slice_get rooms i)) → i < length rooms
      within [] i full = let no : ⊥ = cc in absurd no
      within (x ∷ xs) zero full = omega arith
      within (x ∷ xs) (suc i) full = let l = within xs i full in omega arith
