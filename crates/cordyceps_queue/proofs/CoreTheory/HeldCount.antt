-- How many elements are held, by the rooms that have an element and the parties that have yet to swap one in.
use Rattle.std.proofs.Common.{◌≡◌, ◌≢◌, ◌⊎◌, inl, inr, min, ℕ, zero, suc, ◌+◌, ◌≤◌, Bool, true, cond, List, [], ◌∷◌, ◌++◌, map, length, reverse, eqb, refl, ap, sym, ◌∙◌, subst, arith, length-append}
use Rattle.std.specs.Prelude.{Option, Some, is_some, slice_get, count_by}
use Rattle.std.proofs.lemmas.List.{length-map}
use Rattle.std.proofs.lemmas.List.Sums.{sum_by-cons}
use native.Mathlib.Decide.{ℕ_discrete, dec_le}
use Rattle.cordyceps_shared.specs.Counts.{times, one_if}
use Rattle.cordyceps_shared.proofs.Choices.{occupied_cons}
use Rattle.cordyceps_shared.proofs.Counting.{tally_append, one_here, one_else}
use Rattle.cordyceps_queue.specs.declared.cores.stage.Stage.{Stage}
use Rattle.cordyceps_queue.specs.declared.cores.stage.Stage.TheVariants.{Cleared}
use Rattle.cordyceps_shared.specs.declared.room.Room.{Room}
use Rattle.cordyceps_queue.specs.History.{Event, held}
use Rattle.cordyceps_queue.specs.Past as past
use Rattle.cordyceps_queue.specs.Cores.CoreMeets.{CoreMeets, abstract_of, party_at}
use Rattle.cordyceps_shared.specs.Rooms.{occupied}
use Rattle.cordyceps_queue.specs.Cores.Drain.{is_cleared, count_held}
use Rattle.cordyceps_shared.specs.Rooms.{change, as_free_room, element_in}
use Rattle.cordyceps_queue.specs.Cores.Machine.{Machine}
use Rattle.cordyceps_shared.specs.Places.{ItemAt}
use Rattle.cordyceps_queue.specs.Cores.Meets.{real, Owner, Shared, Ready}
use Rattle.cordyceps_queue.proofs.CoreTheory.Basics.{times_once}
use Rattle.cordyceps_shared.proofs.Places.{times_at}
use Rattle.cordyceps_queue.proofs.Legality.{held_of}
use Rattle.cordyceps_shared.proofs.ListWrites.{slice_get-change_other}

module _ {E : Type 0} where
  abbrev is_full : Option (Room E) → Bool
  is_full room = is_some (element_in room)

  occupied_freed : (r : ℕ) (rooms : List (Room E)) → is_full (slice_get rooms r) ≡ true → occupied (change (as_free_room 0) r rooms) + 1 ≡ occupied rooms
  occupied_freed r [] full = let no : ⊥ = cc in absurd no
  occupied_freed zero (x ∷ xs) full =
      let one = ap one_if full in
      omega (arith, one, occupied_cons (as_free_room 0 x) xs, occupied_cons x xs)
  occupied_freed (suc r) (x ∷ xs) full = omega (arith, occupied_freed r xs full, occupied_cons x xs, occupied_cons x (change (as_free_room 0) r xs))

  -- rooms that differ and have an element are at most those that have one
  full_few : (xs : List ℕ) (rooms : List (Room E)) → ((r : ℕ) → times r xs ≤ 1) → ((r : ℕ) → 1 ≤ times r xs → is_full (slice_get rooms r) ≡ true) → length xs ≤ occupied rooms
  full_few [] rooms once full = omega arith
  full_few (x ∷ xs) rooms once full =
      let here = one_here x in
      let less = occupied_freed x rooms (full x (omega arith)) in
      let rest = full_few xs (change (as_free_room 0) x rooms) (λ r. omega (arith, once r)) (λ r m.
      let apart : r ≢ x = λ e. let both = ap (λ z. times z xs) e in absurd (omega (arith, once x)) in
      ap is_full (slice_get-change_other (as_free_room 0) rooms x r apart) ∙ full r (omega arith)) in
      omega (arith, less, rest)

-- ---- the rooms that parties have cleared
abbrev cleared_rooms : List Stage → List ℕ
cleared_rooms [] = []
cleared_rooms (Cleared r ∷ ps) = r ∷ cleared_rooms ps
cleared_rooms (_ ∷ ps) = cleared_rooms ps

cleared_at : (r : ℕ) (ps : List Stage) → 1 ≤ times r (cleared_rooms ps) → (k : ℕ) × (slice_get ps k ≡ Some (Cleared r))
cleared_at r [] l = absurd (omega arith)
cleared_at r (Cleared x ∷ ps) l = elim (ℕ_discrete x r) [
  | yes e ↦ (0, ap (λ z. Some (Cleared z)) e)
  | no ne ↦ let t = cleared_at r ps (omega (arith, one_else x r ne)) in (suc t.0, t.1)
]
cleared_at r (stage ∷ ps) l = let t = cleared_at r ps l in (suc t.0, t.1)

count_cleared : (ps : List Stage) → count_by is_cleared ps ≡ length (cleared_rooms ps)
count_cleared [] = refl
count_cleared (Cleared r ∷ ps) = omega (arith, sum_by-cons (λ p. cond (is_cleared p) 1 0) (Cleared r) ps, count_cleared ps)
count_cleared (stage ∷ ps) = omega (arith, sum_by-cons (λ p. cond (is_cleared p) 1 0) stage ps, count_cleared ps)

abbrev maker : Owner → ℕ
maker (Ready k) = k
maker _ = 0

abbrev IsReady : Owner → Type 0
IsReady (Ready k) = Unit {0}
IsReady _ = ⊥

none_if : (n : ℕ) → (1 ≤ n → ⊥) → n ≡ 0
none_if zero not = refl
none_if (suc n) not = absurd (not (omega arith))

one_of : (a b : ℕ) → a ≤ 1 → b ≤ 1 → (1 ≤ a → 1 ≤ b → ⊥) → a + b ≤ 1
one_of zero b la lb not = omega arith
one_of (suc a) zero la lb not = omega arith
one_of (suc a) (suc b) la lb not = absurd (not (omega arith) (omega arith))

-- no two parties have cleared the same room
cleared_once : (owner : ℕ → Owner) (ps : List Stage) (o : ℕ) → ((k r : ℕ) → slice_get ps k ≡ Some (Cleared r) → owner r ≡ Ready (k + o)) → (r : ℕ) → times r (cleared_rooms ps) ≤ 1
cleared_once owner [] o mine r = omega arith
cleared_once owner (Cleared x ∷ ps) o mine r =
    let others : (k q : ℕ) → slice_get ps k ≡ Some (Cleared q) → owner q ≡ Ready (k + suc o) = λ k q e. mine (suc k) q e ∙ ap Ready (omega arith) in
    let later = cleared_once owner ps (suc o) others r in
    elim (ℕ_discrete x r) [
      | yes e ↦
          let none : times r (cleared_rooms ps) ≡ 0 = none_if (times r (cleared_rooms ps)) (λ l.
          let t = cleared_at r ps l in
          let two : Ready (t.0 + suc o) ≡ Ready o = sym (others t.0 r t.1) ∙ (ap owner (sym e) ∙ (mine 0 x refl ∙ ap Ready (omega arith))) in
          let same : t.0 + suc o ≡ o = ap maker two in absurd (omega arith)) in
          omega (arith, none, ap (λ z. one_if (eqb z r)) e, one_here r)
      | no ne ↦ omega (arith, later, one_else x r ne)
    ]
cleared_once owner (stage ∷ ps) o mine r = cleared_once owner ps (suc o) (λ k q e. mine (suc k) q e ∙ ap Ready (omega arith)) r

-- ---- the rooms of the chain
real_times : (r : ℕ) (xs : List ℕ) → times r (real xs) ≤ times r xs
real_times r [] = omega arith
real_times r (zero ∷ xs) = omega (arith, real_times r xs)
real_times r (suc x ∷ xs) = omega (arith, real_times r xs)

cell_full : {E : Type 0} (cell : ℕ → Option E) (r : ℕ) (xs : List ℕ) (es : List E) → map cell xs ≡ map Some es → 1 ≤ times r xs → is_some (cell r) ≡ true
cell_full cell r [] es e l = absurd (omega arith)
cell_full cell r (x ∷ xs) [] e l = let no : ⊥ = cc in absurd no
cell_full cell r (x ∷ xs) (y ∷ es) e l = elim (ℕ_discrete x r) [
  | yes same ↦ let first : cell x ≡ Some y = cc in ap is_some (ap cell (sym same) ∙ first)
  | no ne ↦ let rest : map cell xs ≡ map Some es = cc in cell_full cell r xs es rest (omega (arith, one_else x r ne))
]

module _ {E : Type 0} (h : List (Event ℕ E)) (m : Machine E) (was : CoreMeets h m) where
  -- what is told of a party that has cleared a room
  made : (k r : ℕ) → slice_get m.parties k ≡ Some (Cleared r) → (was.chain.owner r ≡ Ready k) × (is_some (element_in (slice_get m.rooms r)) ≡ true)
  made k r at =
      let F = was.meets.fits k _ (ap (party_at m.rooms k) at) in
      (F.ready, ap is_some F.full)

  pub room_for : length (held h) ≤ count_held m
  room_for =
      let rooms = real was.chain.rooms in
      let taken = cleared_rooms m.parties in
      let as_many : length (held h) ≡ length rooms =
      ap length (held_of h was.meets.legal) ∙ (sym (length-map (past.held_reversed (reverse h)) Some) ∙ (sym (ap length was.meets.holds) ∙ length-map rooms (abstract_of m).cell)) in
      let placed : (r : ℕ) → 1 ≤ times r rooms → (i : ℕ) × ItemAt was.chain.rooms i r = λ r l. times_at r was.chain.rooms (omega (arith, real_times r was.chain.rooms)) in
      let few = full_few (rooms ++ taken) m.rooms
      (λ r. subst (λ n. n ≤ 1) (sym (tally_append (λ x. one_if (eqb x r)) rooms taken)) (one_of (times r rooms) (times r taken)
      (omega (arith, real_times r was.chain.rooms, times_once r was.chain.rooms (λ i j a b. was.meets.once i j r a b)))
      (cleared_once was.chain.owner m.parties 0 (λ k q e. (made k q e).0 ∙ ap Ready (omega arith)) r)
      (λ a b. let p = placed r a in let q = cleared_at r m.parties b in
      let no : IsReady Shared = subst IsReady (sym (made q.0 r q.1).0 ∙ was.meets.shared p.0 r p.1) tt in no)))
      (λ r l. elim (dec_le 1 (times r rooms)) [
        | yes a ↦ cell_full (abstract_of m).cell r rooms (past.held_reversed (reverse h)) was.meets.holds a
        | no a ↦ let q = cleared_at r m.parties (omega (arith, a, l, tally_append (λ x. one_if (eqb x r)) rooms taken)) in (made q.0 r q.1).1
      ]) in
      omega (arith, few, length-append rooms taken, as_many, count_cleared m.parties)

  -- room for so many or for all that is held, whichever is less
  pub room_enough : (max cap : ℕ) → min max (count_held m) ≤ cap → (max ≤ cap) ⊎ (length (held h) ≤ cap)
  room_enough max cap le = go (dec_le max (count_held m))
    where
      go : Dec (max ≤ count_held m) → (max ≤ cap) ⊎ (length (held h) ≤ cap)
      go (yes l) = inl (omega (arith, le, l))
      go (no l) = inr (omega (arith, le, l, room_for))
