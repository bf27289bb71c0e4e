-- A try goes on while its answer is Done.
use Rattle.std.proofs.Common.{◌≡◌, ℕ, zero, suc, true, false, ◌+◌, ◌-◌, ◌<◌, refl, ap, sym, ◌∙◌, arith}
use Rattle.std.specs.Prelude.{Some, Ok, slice_get}
use Rattle.cordyceps_queue.specs.declared.cores.stage.Stage.TheVariants.{Rest}
use Rattle.cordyceps_queue.specs.declared.cores.steps.QueueStep.TheVariants as step
use Rattle.cordyceps_queue.specs.declared.cores.steps.QueueAnswer.TheVariants as answer
use Rattle.cordyceps_queue.specs.Cores.Machine.{Machine, Answered, Outcome, after_step}
use Rattle.cordyceps_queue.specs.Cores.CoreMeets.{IsSound}
use Rattle.cordyceps_queue.specs.Cores.Alone.{next_step, is_done, goes_on, tries, gives_back, takes_first, after_dequeue_at, after_dequeue}
use Rattle.cordyceps_queue.proofs.CoreTheory.CoreKeeps.{sound_step}

module _ {E : Type 0} where
  stops : (next : Machine E → Outcome E) (m : Machine E) (r : Answered E) → is_done r ≡ false → goes_on next m r ≡ (m, r)
  stops next m (Ok answer.Done) e = let no : ⊥ = cc in absurd no
  stops next m r e = refl

  done_of : (r : Answered E) → is_done r ≡ true → r ≡ Ok answer.Done
  done_of (Ok answer.Done) e = refl
  done_of r e = let no : ⊥ = cc in absurd no

  -- the try that began at `first` is now at `m`, after c steps
  pub record Going (p : ℕ) (first m : Machine E) (c : ℕ) : Type 0 where
    pub sound : IsSound m
    pub same : tries p (6 - c) m ≡ tries p 6 first

  module _ (p : ℕ) (first m m' : Machine E) (c : ℕ) (r : Answered E) (lt : c < 6) (g : Going p first m c) (out : ◌≡◌ {A = Outcome E} (m', r) (after_step m p (next_step (slice_get m.parties p)))) where
    on : goes_on (tries p (6 - (c + 1))) m' r ≡ tries p 6 first
    on =
        let n : suc (6 - (c + 1)) ≡ 6 - c = omega arith in
        ap (λ (o : Outcome E). goes_on (tries p (6 - (c + 1))) o.0 o.1) out ∙ ap (λ k. tries p k m) n ∙ g.same

    pub going_more : IsSound m' → is_done r ≡ true → Going p first m' (c + 1)
    going_more s yes_done = let done = done_of r yes_done in record { sound = s; same = ap (goes_on (tries p (6 - (c + 1))) m') (sym done) ∙ on }

    pub going_ends : is_done r ≡ false → ◌≡◌ {A = Outcome E} (m', r) (tries p 6 first)
    going_ends final = sym (stops (tries p (6 - (c + 1))) m' r final) ∙ on

  pub sound_tries : (p n : ℕ) (m : Machine E) → IsSound m → IsSound (tries p n m).0
  sound_tries p zero m s = sound_step m p (next_step (slice_get m.parties p)) s
  sound_tries p (suc n) m s =
      let after : Machine E = (after_step m p (next_step (slice_get m.parties p))).0 in
      let s' : IsSound (after_step m p (next_step (slice_get m.parties p))).0 = sound_step m p (next_step (slice_get m.parties p)) s in
      from (after_step m p (next_step (slice_get m.parties p))).0 s' (sound_tries p n (after_step m p (next_step (slice_get m.parties p))).0 s') (after_step m p (next_step (slice_get m.parties p))).1
    where
      from : (m' : Machine E) → IsSound m' → IsSound (tries p n m').0 → (r : Answered E) → IsSound (goes_on (tries p n) m' r).0
      from m' s rest (Ok answer.Done) = rest
      from m' s rest r = s

  -- a call from rest, where the right was free
  pub taken_gives : (m m1 m2 m3 : Machine E) (p : ℕ) (r a : Answered E) → slice_get m.parties p ≡ Some Rest → ◌≡◌ {A = Outcome E} (m1, r) (after_step m p step.Take) → r ≡ Ok answer.Taken →
      ◌≡◌ {A = Outcome E} (m2, a) (tries p 6 m1) → m3 ≡ (after_step m2 p step.Give).0 → ◌≡◌ {A = Outcome E} (m3, a) (after_dequeue m p)
  taken_gives m m1 m2 m3 p r a at first taken second third =
      let told : r ≡ (after_step m p step.Take).1 = ap (λ (o : Outcome E). o.1) first in
      let whole : after_dequeue m p ≡ gives_back p (tries p 6 (after_step m p step.Take).0) = ap (after_dequeue_at p m) at ∙ ap (takes_first p (after_step m p step.Take).0) (sym told ∙ taken) in
      ap (λ (n : Machine E). (n, a)) third ∙ ap (gives_back p) second ∙ ap (λ (o : Outcome E). gives_back p (tries p 6 o.0)) first ∙ sym whole
