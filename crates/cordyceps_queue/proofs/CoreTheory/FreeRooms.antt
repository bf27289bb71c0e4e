-- The numbers of a party's free rooms, as rooms change.
use Rattle.std.proofs.Common.{◌≡◌, ℕ, zero, suc, ◌+◌, ◌<◌, ◌≤◌, Bool, true, false, cond, ltb, List, [], ◌∷◌, ◌++◌, length, refl, ap, sym, ◌∙◌, subst, arith}
use Rattle.std.specs.Prelude.{Option, Some, slice_get}
use Rattle.std.specs.Option.{option_map}
use Rattle.std.proofs.lemmas.Iterator.Adapters.{position_from-zero}
use Rattle.std.specs.List.{position, position_from}
use Rattle.cordyceps_shared.specs.declared.room.Room.{Room}
use Rattle.cordyceps_shared.specs.Rooms.{change, is_free_for}
use Rattle.cordyceps_queue.specs.Cores.Machine.{stub_room, first_of, least_free, free_from}
use Rattle.cordyceps_shared.specs.Places.{ItemAt}
use Rattle.cordyceps_queue.specs.Cores.Abstract.{insert_room}
use Rattle.cordyceps_queue.proofs.CoreTheory.Basics.{none_some}

ltb_true : (i j : ℕ) → i < j → ltb i j ≡ true
ltb_true i j lt = grind arith

ltb_false : (i j : ℕ) → j ≤ i → ltb i j ≡ false
ltb_false i j le = grind arith

-- a room after another goes in after it
with_later : (n i : ℕ) (free : List ℕ) → i < n → insert_room n (i ∷ free) ≡ i ∷ insert_room n free
with_later n i free lt = ap (λ b. cond b (n ∷ i ∷ free) (i ∷ insert_room n free)) (ltb_false n i (omega arith))

module _ {E : Type 0} where
  -- a room that is as free for p as before
  pub free_same : (p : ℕ) (f : Room E → Room E) (rooms : List (Room E)) (i r : ℕ) → ((y : Room E) → slice_get rooms r ≡ Some y → is_free_for p (f y) ≡ is_free_for p y) → free_from p i (change f r rooms) ≡ free_from p i rooms
  free_same p f [] i r same = refl
  free_same p f (x ∷ xs) i zero same = ap (λ b. cond b (i ∷ free_from p (suc i) xs) (free_from p (suc i) xs)) (same x refl)
  free_same p f (x ∷ xs) i (suc r) same = ap (λ ys. cond (is_free_for p x) (i ∷ ys) ys) (free_same p f xs (suc i) r same)

  -- the least of the rooms that are free for p, and what the others are once f has changed it
  pub record LeastFree (p : ℕ) (f : Room E → Room E) (rooms : List (Room E)) (i r : ℕ) (rest : List ℕ) : Type 0 where
    pub at : ℕ
    pub room : Room E
    pub is : r ≡ at + i
    pub there : slice_get rooms at ≡ Some room
    pub free : is_free_for p room ≡ true
    pub others : free_from p i (change f at rooms) ≡ rest

  pub free_first : (p : ℕ) (f : Room E → Room E) (rooms : List (Room E)) (i r : ℕ) (rest : List ℕ) → ((y : Room E) → is_free_for p (f y) ≡ false) → free_from p i rooms ≡ r ∷ rest → LeastFree p f rooms i r rest
  free_first p f [] i r rest gone e = let no : ⊥ = cc in absurd no
  free_first p f (x ∷ xs) i r rest gone e = from (free_first p f xs (suc i) r rest gone) (is_free_for p x) refl e
    where
      from : (free_from p (suc i) xs ≡ r ∷ rest → LeastFree p f xs (suc i) r rest) → (b : Bool) → is_free_for p x ≡ b →
          cond b (i ∷ free_from p (suc i) xs) (free_from p (suc i) xs) ≡ r ∷ rest → LeastFree p f (x ∷ xs) i r rest
      from rec true t e =
          let first : i ≡ r = cc in let others : free_from p (suc i) xs ≡ rest = cc in
          record { at = 0; room = x; is = sym first ∙ omega arith; there = refl; free = t; others = ap (λ b. cond b (i ∷ free_from p (suc i) xs) (free_from p (suc i) xs)) (gone x) ∙ others }
      from rec false t e =
          let w = rec e in
          record { at = suc w.at; room = w.room; is = omega (arith, w.is); there = w.there; free = w.free; others = ap (λ b. cond b (i ∷ free_from p (suc i) (change f w.at xs)) (free_from p (suc i) (change f w.at xs))) t ∙ w.others }

  -- each free room has a place among them
  pub free_has : (p : ℕ) (rooms : List (Room E)) (i j : ℕ) (y : Room E) → slice_get rooms j ≡ Some y → is_free_for p y ≡ true → (n : ℕ) × ItemAt (free_from p i rooms) n (j + i)
  free_has p [] i j y h t = absurd (none_some h)
  free_has p (x ∷ xs) i zero y h t =
      let same : y ≡ x = cc in
      let now : is_free_for p x ≡ true = subst (λ z. is_free_for p z ≡ true) same t in
      (0, subst (λ b. ItemAt (cond b (i ∷ free_from p (suc i) xs) (free_from p (suc i) xs)) 0 (0 + i)) (sym now) (omega arith))
  free_has p (x ∷ xs) i (suc j) y h t =
      let w = free_has p xs (suc i) j y h t in
      let e : j + suc i ≡ suc j + i = omega arith in
      let at : ItemAt (free_from p (suc i) xs) w.0 (suc j + i) = subst (ItemAt (free_from p (suc i) xs) w.0) e w.1 in
      from (is_free_for p x) w.0 at
    where
      from : (b : Bool) (n : ℕ) → ItemAt (free_from p (suc i) xs) n (suc j + i) → (n : ℕ) × ItemAt (cond b (i ∷ free_from p (suc i) xs) (free_from p (suc i) xs)) n (suc j + i)
      from true n at = (suc n, at)
      from false n at = (n, at)

  -- none is less than the first number
  free_above : (p : ℕ) (rooms : List (Room E)) (i r : ℕ) (rest : List ℕ) → free_from p i rooms ≡ r ∷ rest → i ≤ r
  free_above p [] i r rest e = let no : ⊥ = cc in absurd no
  free_above p (x ∷ xs) i r rest e = from (free_above p xs (suc i) r rest) (is_free_for p x) e
    where
      from : (free_from p (suc i) xs ≡ r ∷ rest → suc i ≤ r) → (b : Bool) → cond b (i ∷ free_from p (suc i) xs) (free_from p (suc i) xs) ≡ r ∷ rest → i ≤ r
      from rec true e = let first : i ≡ r = cc in omega arith
      from rec false e = let l = rec e in omega arith

  with_least : (p : ℕ) (rooms : List (Room E)) (i : ℕ) (free : List ℕ) → free_from p (suc i) rooms ≡ free → insert_room i free ≡ i ∷ free
  with_least p rooms i [] e = refl
  with_least p rooms i (r ∷ rest) e = let l = free_above p rooms (suc i) r rest e in ap (λ b. cond b (i ∷ r ∷ rest) (r ∷ insert_room i rest)) (ltb_true i r (omega arith))

  -- a room that becomes free for p
  pub free_more : (p : ℕ) (f : Room E → Room E) (rooms : List (Room E)) (i j : ℕ) (y : Room E) → slice_get rooms j ≡ Some y → is_free_for p y ≡ false → is_free_for p (f y) ≡ true → free_from p i (change f j rooms) ≡ insert_room (j + i) (free_from p i rooms)
  free_more p f [] i j y h was now = absurd (none_some h)
  free_more p f (x ∷ xs) i zero y h was now =
      let same : y ≡ x = cc in
      let before : is_free_for p x ≡ false = subst (λ z. is_free_for p z ≡ false) same was in
      let after : is_free_for p (f x) ≡ true = subst (λ z. is_free_for p (f z) ≡ true) same now in
      let here : 0 + i ≡ i = omega arith in
      ap (λ b. cond b (i ∷ free_from p (suc i) xs) (free_from p (suc i) xs)) after
      ∙ sym (with_least p xs i (free_from p (suc i) xs) refl)
      ∙ ap (λ n. insert_room n (free_from p (suc i) xs)) (sym here)
      ∙ ap (λ b. insert_room (0 + i) (cond b (i ∷ free_from p (suc i) xs) (free_from p (suc i) xs))) (sym before)
  free_more p f (x ∷ xs) i (suc j) y h was now =
      let e : j + suc i ≡ suc j + i = omega arith in
      let rec : free_from p (suc i) (change f j xs) ≡ insert_room (suc j + i) (free_from p (suc i) xs) = free_more p f xs (suc i) j y h was now ∙ ap (λ n. insert_room n (free_from p (suc i) xs)) e in
      ap (λ ys. cond (is_free_for p x) (i ∷ ys) ys) rec ∙ from (is_free_for p x)
    where
      from : (b : Bool) → cond b (i ∷ insert_room (suc j + i) (free_from p (suc i) xs)) (insert_room (suc j + i) (free_from p (suc i) xs)) ≡ insert_room (suc j + i) (cond b (i ∷ free_from p (suc i) xs) (free_from p (suc i) xs))
      from true = sym (with_later (suc j + i) i (free_from p (suc i) xs) (omega arith))
      from false = refl

  -- a new room that is free for p
  pub free_pushed : (p : ℕ) (rooms : List (Room E)) (y : Room E) (i : ℕ) → is_free_for p y ≡ true → free_from p i (rooms ++ y ∷ []) ≡ insert_room (length rooms + i) (free_from p i rooms)
  free_pushed p [] y i now = let here : i ≡ 0 + i = omega arith in ap (λ b. cond b (i ∷ []) []) now ∙ ap (λ n. n ∷ []) here
  free_pushed p (x ∷ xs) y i now =
      let e : length xs + suc i ≡ suc (length xs) + i = omega arith in
      let rec : free_from p (suc i) (xs ++ y ∷ []) ≡ insert_room (suc (length xs) + i) (free_from p (suc i) xs) = free_pushed p xs y (suc i) now ∙ ap (λ n. insert_room n (free_from p (suc i) xs)) e in
      ap (λ ys. cond (is_free_for p x) (i ∷ ys) ys) rec ∙ from (is_free_for p x)
    where
      from : (b : Bool) → cond b (i ∷ insert_room (suc (length xs) + i) (free_from p (suc i) xs)) (insert_room (suc (length xs) + i) (free_from p (suc i) xs)) ≡ insert_room (suc (length xs) + i) (cond b (i ∷ free_from p (suc i) xs) (free_from p (suc i) xs))
      from true = sym (with_later (suc (length xs) + i) i (free_from p (suc i) xs) (omega arith))
      from false = refl

  -- one that is not
  pub free_pushed_other : (p : ℕ) (rooms : List (Room E)) (y : Room E) (i : ℕ) → is_free_for p y ≡ false → free_from p i (rooms ++ y ∷ []) ≡ free_from p i rooms
  free_pushed_other p [] y i now = ap (λ b. cond b (i ∷ []) []) now
  free_pushed_other p (x ∷ xs) y i now = ap (λ ys. cond (is_free_for p x) (i ∷ ys) ys) (free_pushed_other p xs y (suc i) now)

  -- the least free room, by its place after the stub
  first_from : (p : ℕ) (rooms : List (Room E)) (i : ℕ) → first_of (free_from p (suc i) rooms) ≡ option_map suc (position_from (is_free_for p) i rooms)
  first_from p [] i = refl
  first_from p (x ∷ xs) i = let e : suc i ≡ i + 1 = omega arith in from (first_from p xs (suc i) ∙ ap (λ n. option_map suc (position_from (is_free_for p) n xs)) e) (is_free_for p x)
    where
      from : first_of (free_from p (suc (suc i)) xs) ≡ option_map suc (position_from (is_free_for p) (i + 1) xs) → (b : Bool) → first_of (cond b (suc i ∷ free_from p (suc (suc i)) xs) (free_from p (suc (suc i)) xs)) ≡ option_map suc (cond b (Some i) (position_from (is_free_for p) (i + 1) xs))
      from rec true = refl
      from rec false = rec

  pub first_after : (p : ℕ) (next : Option ℕ) (rooms : List (Room E)) → least_free p (stub_room next ∷ rooms) ≡ option_map suc (position (is_free_for p) rooms)
  first_after p next rooms = first_from p rooms 0 ∙ ap (option_map suc) (sym (position_from-zero (is_free_for p) rooms))
