-- A core that gets a party or a room meets what it met.
use Rattle.std.proofs.Common.{◌≡◌, ℕ, zero, suc, List, [], ◌∷◌, ◌++◌, refl, inl, inr, ◌⊎◌}
use Rattle.std.specs.Prelude.{Option, Some, None, slice_get, Result, Ok, Err, OnOk, OnErr}
use Rattle.cordyceps_shared.specs.declared.room.Room.{Room}
use Rattle.cordyceps_stack.specs.History.{Event}
use Rattle.cordyceps_stack.specs.Cores.Machine.{Machine}
use Rattle.cordyceps_stack.specs.Cores.CoreMeets.{CoreMeets}
use Rattle.cordyceps_stack.proofs.CoreTheory.Chains.{Keeps, LeadsThrough-passed}
use Rattle.cordyceps_stack.proofs.CoreTheory.EachStep.{bystander, goes_idle}

module _ {X : Type 0} where
  -- what a list with one more item has somewhere
  pub slice_get-push : (xs : List X) (x y : X) (i : ℕ) → slice_get (xs ++ x ∷ []) i ≡ Some y → (slice_get xs i ≡ Some y) ⊎ (y ≡ x)
  slice_get-push [] x y zero e = let same : y ≡ x = cc in inr same
  slice_get-push [] x y (suc i) e = let no : ⊥ = cc in absurd no
  slice_get-push (z ∷ xs) x y zero e = inl e
  slice_get-push (z ∷ xs) x y (suc i) e = slice_get-push xs x y i e

  pub slice_get-pushed : (xs : List X) (x y : X) (i : ℕ) → slice_get xs i ≡ Some y → slice_get (xs ++ x ∷ []) i ≡ Some y
  slice_get-pushed [] x y i e = let no : ⊥ = cc in absurd no
  slice_get-pushed (z ∷ xs) x y zero e = e
  slice_get-pushed (z ∷ xs) x y (suc i) e = slice_get-pushed xs x y i e

module _ {E : Type 0} where
  pub meets_room : (h : List (Event ℕ E)) (m : Machine E) (room : Room E) → CoreMeets h m → CoreMeets h record { head = m.head; rooms = m.rooms ++ room ∷ []; parties = m.parties }
  meets_room h m room was =
      let keeps : (w : Option ℕ) → Keeps m.rooms was.own (m.rooms ++ room ∷ []) was.own w = λ w r e next got mine. (slice_get-pushed m.rooms room _ r got, mine) in
      record {
        legal = was.legal;
        own = was.own;
        chain = was.chain;
        linked = LeadsThrough-passed m.rooms was.own (m.rooms ++ room ∷ []) was.own None None m.head was.chain (keeps None) was.linked;
        holds = was.holds;
        parties = λ p stage got. bystander h h m.head m.head m.rooms was.own (m.rooms ++ room ∷ []) was.own p stage (goes_idle p h m.head m.head refl) (keeps (Some p)) (was.parties p stage got);
      }

module _ {E T F : Type 0} where
  -- whether or not there was memory for a room
  pub room_tried : (h : List (Event ℕ E)) (m : Machine E) (room : Room E) (rooms : List (Room E)) (r : Result T F) → OnOk r (rooms ≡ m.rooms ++ room ∷ []) → OnErr r (rooms ≡ m.rooms) → CoreMeets h m → CoreMeets h record { head = m.head; rooms = rooms; parties = m.parties }
  room_tried h m room rooms (Ok x) ok err was = rw ok (meets_room h m room was)
  room_tried h m room rooms (Err x) ok err was = rw err was
