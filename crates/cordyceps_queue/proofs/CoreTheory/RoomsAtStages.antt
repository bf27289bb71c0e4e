-- What is in the rooms at the stages of a core's parties.
use Rattle.std.proofs.Common.{◌≡◌, ◌≢◌, ℕ, zero, suc, ◌<◌, ◌≤◌, ◌⊎◌, List, [], ◌∷◌, length, reverse, refl, ap, sym, inl, inr, arith}
use Rattle.std.specs.Prelude.{Some, slice_get}
use Rattle.std.proofs.lemmas.Bool.{cases_lt}
use Rattle.cordyceps_queue.specs.declared.cores.stage.Stage.{Stage}
use Rattle.cordyceps_queue.specs.declared.cores.stage.Stage.TheVariants.{Rest, Swapped, Holding, Second, PutLink, PutRead}
use Rattle.cordyceps_shared.specs.Rooms.{element_in}
use Rattle.cordyceps_queue.specs.Cores.Machine.{Machine, first_of, least_free, free_rooms}
use Rattle.cordyceps_shared.specs.Places.{ItemAt}
use Rattle.cordyceps_queue.specs.Cores.Meets.{tail_of, Shared, Spare, Unmade}
use Rattle.cordyceps_queue.specs.Cores.CoreMeets.{party_at, abstract_of, IsSound}
use Rattle.cordyceps_queue.proofs.CoreTheory.Basics.{none_some}
use Rattle.cordyceps_queue.proofs.CoreTheory.HolderSteps.{keeping}
use Rattle.cordyceps_queue.proofs.CoreTheory.ProducerSteps.{shared_unmade, spare_shared, spare_unmade}
use Rattle.cordyceps_queue.proofs.CoreTheory.ChainShrinks.{tail_full}
use Rattle.cordyceps_queue.proofs.CoreTheory.Simulation.{me_of, fits}

module _ {E : Type 0} where
  -- a room that is made
  made_within : (m : Machine E) (s : IsSound m) (r : ℕ) → (s.1.chain.owner r ≡ Unmade → ⊥) → r < length m.rooms
  made_within m s r not = from (cases_lt r (length m.rooms))
    where
      from : (r < length m.rooms) ⊎ (length m.rooms ≤ r) → r < length m.rooms
      from (inl lt) = lt
      from (inr le) = absurd (not (s.1.meets.unmade r le))

  shared_within : (m : Machine E) (s : IsSound m) (r : ℕ) → s.1.chain.owner r ≡ Shared → r < length m.rooms
  shared_within m s r e = made_within m s r (λ u. shared_unmade e u)

  module _ (m : Machine E) (s : IsSound m) (p : ℕ) where
    tail_at : (stage : Stage) → slice_get m.parties p ≡ Some stage → (t : ℕ) → tail_of stage ≡ Some t → ItemAt s.1.chain.rooms 0 t
    tail_at stage at t has = (keeping (abstract_of m) s.1.chain (reverse s.0) s.1.meets p (me_of m p stage) (ap (party_at m.rooms p) at) t has).tail

    pub tail_within : (stage : Stage) → slice_get m.parties p ≡ Some stage → (t : ℕ) → tail_of stage ≡ Some t → t < length m.rooms
    tail_within stage at t has = shared_within m s t (s.1.meets.shared 0 t (tail_at stage at t has))

    -- a tail that is not the stub has its element
    full : (stage : Stage) → slice_get m.parties p ≡ Some stage → (t : ℕ) → tail_of stage ≡ Some t → t ≢ 0 → (e : E) × (element_in (slice_get m.rooms t) ≡ Some e)
    full stage at t has ne = let w = tail_full (abstract_of m) s.1.chain (reverse s.0) s.1.meets t ne (tail_at stage at t has) in (w.first, w.cell)

    pub holding_full : (t : ℕ) → slice_get m.parties p ≡ Some (Holding t) → t ≢ 0 → (e : E) × (element_in (slice_get m.rooms t) ≡ Some e)
    holding_full t at ne = full (Holding t) at t refl ne

    pub second_full : (t : ℕ) → slice_get m.parties p ≡ Some (Second t) → (e : E) × (element_in (slice_get m.rooms t) ≡ Some e)
    second_full t at = full (Second t) at t refl (fits m p (Second t) at s.1.owned s.1.chain (reverse s.0) s.1.meets).is_real

    pub put_read_full : (t : ℕ) → slice_get m.parties p ≡ Some (PutRead t) → (e : E) × (element_in (slice_get m.rooms t) ≡ Some e)
    put_read_full t at = full (PutRead t) at t refl (fits m p (PutRead t) at s.1.owned s.1.chain (reverse s.0) s.1.meets).0.is_real

    -- the old head
    pub swapped_within : (r old : ℕ) → slice_get m.parties p ≡ Some (Swapped r old) → old < length m.rooms
    swapped_within r old at = let f = fits m p (Swapped r old) at s.1.owned s.1.chain
        (reverse s.0) s.1.meets in shared_within m s old (s.1.meets.shared f.at old f.old_at)

    pub put_link_within : (t old : ℕ) → slice_get m.parties p ≡ Some (PutLink t old) → old < length m.rooms
    put_link_within t old at = let f = fits m p (PutLink t old) at s.1.owned s.1.chain
        (reverse s.0) s.1.meets in shared_within m s old (s.1.meets.shared f.at old f.old_at)

    -- a free room
    pub free_within : (r : ℕ) → slice_get m.parties p ≡ Some Rest → least_free p m.rooms ≡ Some r → (0 < r) × (r < length m.rooms)
    free_within r at is =
        let own = (s.1.meets.rooms p (me_of m p Rest) (ap (party_at m.rooms p) at)).own 0 r (first_at (free_rooms p m.rooms) is) in
        (not_stub r own, made_within m s r (λ u. spare_unmade own u))
      where
        first_at : (xs : List ℕ) → first_of xs ≡ Some r → ItemAt xs 0 r
        first_at [] e = absurd (none_some e)
        first_at (x ∷ xs) e = let same : x ≡ r = cc in sym same

        not_stub : (r : ℕ) → s.1.chain.owner r ≡ Spare p → 0 < r
        not_stub zero own = absurd (spare_shared own s.1.meets.stub)
        not_stub (suc r) own = omega arith
