-- A core that gets a party or a room meets what it met.
use Rattle.std.proofs.Common.{◌≡◌, ℕ, List, refl, sym, subst, false}
use Rattle.std.specs.Prelude.{Option, Some, None, Result, Ok, Err, IfOk, OnOk, OnErr, slice_get, is_none}
use Rattle.cordyceps_queue.specs.declared.cores.stage.Stage.{Stage}
use Rattle.cordyceps_queue.specs.History.{Event}
use Rattle.cordyceps_queue.specs.Cores.Machine.{Machine}
use Rattle.cordyceps_queue.specs.Cores.CoreMeets.{CoreMeets, with_party, with_room}
use Rattle.cordyceps_queue.proofs.CoreTheory.CoreKeeps.{meets_party, meets_room}

-- there is such a stage
some_stage : (o : Option Stage) → is_none o ≡ false → (stage : Stage) × (o ≡ Some stage)
some_stage None e = let no : ⊥ = cc in absurd no
some_stage (Some stage) e = (stage, refl)

module _ {E F : Type 0} where
  -- whether or not there was memory for a party
  pub party_tried : (h : List (Event ℕ E)) (m m' : Machine E) (A : ℕ → Type 0) (r : Result ℕ F) → IfOk r (λ n. A n × (m' ≡ with_party m)) → OnErr r (m' ≡ m) → CoreMeets h m → CoreMeets h m'
  party_tried h m m' A (Ok n) ok err was = subst (CoreMeets h) (sym ok.1) (meets_party h m was)
  party_tried h m m' A (Err e) ok err was = subst (CoreMeets h) (sym err) was

  -- or for a room
  pub room_tried : {T : Type 0} (h : List (Event ℕ E)) (m m' : Machine E) (p : ℕ) (r : Result T F) → is_none (slice_get m.parties p) ≡ false → OnOk r (m' ≡ with_room m p) → OnErr r (m' ≡ m) → CoreMeets h m → CoreMeets h m'
  room_tried h m m' p (Ok x) there ok err was = let w = some_stage (slice_get m.parties p) there in subst (CoreMeets h) (sym ok) (meets_room h m p w.0 w.1 was)
  room_tried h m m' p (Err e) there ok err was = subst (CoreMeets h) (sym err) was
