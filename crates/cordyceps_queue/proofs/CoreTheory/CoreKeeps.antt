-- What a core keeps from step to step.
use Rattle.std.proofs.Common.{◌≡◌, ◌≢◌, ℕ, zero, suc, ◌+◌, List, [], ◌∷◌, ◌++◌, length, reverse, refl, ap, sym, ◌∙◌, subst, append-nil, length-append, arith}
use Rattle.std.specs.Prelude.{Option, Some, None, slice_get}
use Rattle.std.proofs.lemmas.List.{reverse-append, reverse-reverse}
use native.Mathlib.Decide.{ℕ_discrete}
use mathlib.Core.Path.{fun_ext}
use Rattle.cordyceps_base.specs.Runs.{Ran, history_after, AllSay}
use Rattle.cordyceps_base.proofs.Runs.{run_meets}
use Rattle.cordyceps_queue.specs.declared.cores.stage.Stage.{Stage}
use Rattle.cordyceps_queue.specs.declared.cores.stage.Stage.TheVariants.{Rest}
use Rattle.cordyceps_shared.specs.declared.room.Room.{Room}
use Rattle.cordyceps_queue.specs.declared.cores.steps.QueueStep.{QueueStep}
use Rattle.cordyceps_queue.specs.declared.cores.steps.QueueAnswer.{QueueAnswer}
use Rattle.cordyceps_queue.specs.declared.cores.steps.QueueAnswer.TheVariants as answer
use Rattle.cordyceps_queue.specs.History.{Event, came, went, held}
use Rattle.cordyceps_queue.specs.Cores.StepKeeps as kept
use Rattle.cordyceps_queue.specs.Cores.Machine as core
use Rattle.cordyceps_shared.specs.Rooms.{next_in, element_in}
use Rattle.cordyceps_queue.specs.Cores.Machine.{Machine, Answered, Outcome, free_rooms, refusal, events_of, after_step_at, after_step, step_events}
use Rattle.cordyceps_queue.specs.Cores.Abstract as words
use Rattle.cordyceps_queue.specs.Cores.Abstract.{AbstractParty, AbstractMachine, Move, update, insert_room}
use Rattle.cordyceps_queue.specs.Cores.Meets.{Chain, IsStranger, Meets}
use Rattle.cordyceps_queue.specs.Cores.CoreMeets as cores
use Rattle.cordyceps_queue.specs.Cores.CoreMeets.{party_at, abstract_of, CoreMeets, IsSound, IsOwned, Says, AnswerSays, core_step, core_events, core_says, Replayed, new_machine, with_party}
use Rattle.cordyceps_shared.proofs.ListWrites.{set_as_it_was}
use Rattle.cordyceps_queue.proofs.CoreTheory.AbstractGrows.{adds_keep}
use Rattle.cordyceps_queue.proofs.CoreTheory.Basics.{some_inj, none_some, put_same, put_other}
use Rattle.cordyceps_queue.proofs.Blocked.{told_was_blocked}
use Rattle.cordyceps_queue.proofs.CoreTheory.FreeRooms.{free_pushed, free_pushed_other}
use Rattle.cordyceps_queue.proofs.CoreTheory.AnyStep.{step_keeps}
use Rattle.cordyceps_queue.proofs.Legality.{held_of, holder_of, told_legal}
use Rattle.cordyceps_queue.proofs.CoreTheory.ListWrites.{get_push_same, get_push_other, get_beyond, read, read_pushed}
use Rattle.cordyceps_queue.proofs.CoreTheory.NewMachines.{new_meets}
use Rattle.cordyceps_queue.proofs.PartyOrder.{nothing_lost}
use Rattle.cordyceps_queue.proofs.CoreTheory.Simulation.{others_room, own_room, parties_of, parties_put, words_eq, me_of, Follows, acts_follow}

module _ {E : Type 0} where
  -- a machine whose functions meet a history
  core_from : (h : List (Event ℕ E)) (m : Machine E) (c : Chain) → Meets (abstract_of m) c (reverse h) → IsOwned m → CoreMeets h m
  core_from h m c M owned = record { legal = told_legal ℕ_discrete h M.legal; chain = c; meets = M; owned = owned }

  says_of : (h : List (Event ℕ E)) (m : Machine E) (was : CoreMeets h m) (p : ℕ) (a : QueueAnswer E) → kept.SaysReversed p a (reverse h) → Says h p a
  says_of h m was p answer.Done s = tt
  says_of h m was p answer.Taken s = holder_of h ∙ s
  says_of h m was p answer.Busy s = let (by, held, other) = s in (by, holder_of h ∙ held, other)
  says_of h m was p (answer.Out e) s = (s.0, held_of h was.meets.legal ∙ s.1)
  says_of h m was p answer.Empty s = held_of h was.meets.legal ∙ s
  says_of h m was p answer.Inconsistent s = told_was_blocked ℕ_discrete h was.meets.legal p s

  -- the law of one step, at its outcome
  abbrev Goes_on : List (Event ℕ E) → Machine E → ℕ → Option Stage → QueueStep E → Outcome E → Type 0
  Goes_on h m p stage s out = CoreMeets (h ++ events_of p m.rooms stage s out.1) out.0 × AnswerSays h p out.1

  unchanged : (h : List (Event ℕ E)) (m : Machine E) → CoreMeets h m → CoreMeets (h ++ []) m
  unchanged h m was = subst (λ k. CoreMeets k m) (sym (append-nil h)) was

  module _ (h : List (Event ℕ E)) (m : Machine E) (p : ℕ) (s : QueueStep E) (was : CoreMeets h m) (stage : Stage) (at : slice_get m.parties p ≡ Some stage) where
    goes_by : (o : Option (Move ℕ E)) (out : Outcome E) → words.move_of (abstract_of m) p s ≡ o → Follows m p stage s o out → Goes_on h m p (Some stage) s out
    goes_by None out e f = subst (Goes_on h m p (Some stage) s) (sym f) (unchanged h m was, tt)
    goes_by (Some v) out e f =
        let (machine_is, answer_is, events_are, owned) = f in
        let (chain, meets, says) = step_keeps ℕ E (abstract_of m) was.chain (reverse h) was.meets p (me_of m p stage) s v (ap (party_at m.rooms p) at) e in
        let turned : reverse (h ++ events_of p m.rooms (Some stage) s out.1) ≡ v.events ++ reverse h =
        reverse-append h (events_of p m.rooms (Some stage) s out.1) ∙ ap (λ l. reverse l ++ reverse h) events_are ∙ ap (λ l. l ++ reverse h) (reverse-reverse v.events) in
        let met : Meets (abstract_of out.0) chain (v.events ++ reverse h) = subst (λ w. Meets w chain (v.events ++ reverse h)) (sym machine_is) meets in (
          core_from (h ++ events_of p m.rooms (Some stage) s out.1) out.0 chain (subst (Meets (abstract_of out.0) chain) (sym turned) met) owned,
          subst (AnswerSays h p) (sym answer_is) (says_of h m was p v.answer says),
        )

  steps_at : (h : List (Event ℕ E)) (m : Machine E) (p : ℕ) (s : QueueStep E) → CoreMeets h m → (o : Option Stage) → slice_get m.parties p ≡ o → Goes_on h m p o s (after_step_at m p o s)
  steps_at h m p s was None at = (unchanged h m was, tt)
  steps_at h m p s was (Some stage) at =
      goes_by h m p s was stage at (words.act (abstract_of m) p (me_of m p stage) stage s) (core.acts m p stage s) (ap (λ o. words.act_of (abstract_of m) p (party_at m.rooms p o) s) at)
      (acts_follow m p was.owned was.chain (reverse h) was.meets stage at s)

  pub core_steps : (h : List (Event ℕ E)) (m : Machine E) (p : ℕ) (s : QueueStep E) → CoreMeets h m → CoreMeets (h ++ step_events m p s (after_step m p s).1) (after_step m p s).0 × AnswerSays h p (after_step m p s).1
  core_steps h m p s was = steps_at h m p s was (slice_get m.parties p) refl

  pub sound_step : (m : Machine E) (p : ℕ) (s : QueueStep E) → IsSound m → IsSound (after_step m p s).0
  sound_step m p s was = (was.0 ++ step_events m p s (after_step m p s).1, (core_steps was.0 m p s was.1).0)

  -- a new core
  pub meets_new : CoreMeets {E = E} [] new_machine
  meets_new =
      let n = new_meets ℕ E in
      core_from [] new_machine n.0 (subst (λ w. Meets w n.0 []) (sym same) n.1) (λ k none. refl)
    where
      same : abstract_of (new_machine {E = E}) ≡ kept.new_abstract
      same = words_eq 0 1 1 1 (read next_in (core.stub_room None ∷ [])) (λ r. None) (read element_in (core.stub_room None ∷ [])) (λ r. None) (parties_of (core.stub_room {E = E} None ∷ []) []) (λ k. None)
          refl (fun_ext (λ r. nexts r)) (fun_ext (λ r. cells r)) (fun_ext (λ k. refl))
        where
          nexts : (r : ℕ) → read next_in (core.stub_room {E = E} None ∷ []) r ≡ None
          nexts zero = refl
          nexts (suc r) = refl

          cells : (r : ℕ) → read element_in (core.stub_room {E = E} None ∷ []) r ≡ None
          cells zero = refl
          cells (suc r) = refl

  -- a party more
  module _ (m : Machine E) (owned : IsOwned m) where
    named : (k : ℕ) (o : Option Stage) (q : AbstractParty ℕ) → party_at m.rooms k o ≡ Some q → (o ≡ None → ⊥) × (q.name ≡ k)
    named k None q e = absurd (none_some e)
    named k (Some stage) q e = ((λ n. none_some (sym n)), ap (λ (x : AbstractParty ℕ). x.name) (sym (some_inj e)))

    stranger : IsStranger (parties_of m.rooms m.parties) (length m.parties)
    stranger j q e same = let n = named j (slice_get m.parties j) q e in n.0 (ap (slice_get m.parties) (sym n.1 ∙ same) ∙ get_beyond m.parties)

    with_party_words : abstract_of (with_party m) ≡ words.add_party (abstract_of m) (length m.parties) (length m.parties)
    with_party_words = words_eq m.head _ (length m.rooms) (length m.rooms) (read next_in m.rooms) (read next_in m.rooms) (read element_in m.rooms) (read element_in m.rooms) _ _ refl refl refl (fun_ext (λ j. elim (ℕ_discrete j (length m.parties)) [
      | yes same ↦ subst (λ i. parties_of m.rooms (m.parties ++ Rest ∷ []) i ≡ update (parties_of m.rooms m.parties) (length m.parties) now i) (sym same)
          (ap (party_at m.rooms (length m.parties)) (get_push_same m.parties Rest) ∙ ap (λ free. Some (record { name = length m.parties; stage = Rest; spare = free })) (owned (length m.parties) (get_beyond m.parties)) ∙ sym (put_same (parties_of m.rooms m.parties) (length m.parties) now))
      | no ne ↦ ap (party_at m.rooms j) (get_push_other m.parties Rest j ne) ∙ sym (put_other (parties_of m.rooms m.parties) (length m.parties) now j ne)
    ]))
      where
        now : Option (AbstractParty ℕ)
        now = Some (record { name = length m.parties; stage = Rest; spare = [] })

    owned_party : IsOwned (with_party m)
    owned_party k none = elim (ℕ_discrete k (length m.parties)) [
      | yes same ↦ absurd (none_some (sym none ∙ ap (slice_get (m.parties ++ Rest ∷ [])) same ∙ get_push_same m.parties Rest))
      | no ne ↦ owned k (sym (get_push_other m.parties Rest k ne) ∙ none)
    ]

  pub meets_party : (h : List (Event ℕ E)) (m : Machine E) → CoreMeets h m → CoreMeets h (with_party m)
  meets_party h m was =
      let a = (adds_keep ℕ E (abstract_of m) was.chain (reverse h) was.meets (length m.parties)).0 (length m.parties) (ap (party_at m.rooms (length m.parties)) (get_beyond m.parties)) (stranger m was.owned) in
      core_from h (with_party m) a.0 (subst (λ w. Meets w a.0 (reverse h)) (sym (with_party_words m was.owned)) a.1) (owned_party m was.owned)

  -- a room more
  module _ (m : Machine E) (owned : IsOwned m) (p : ℕ) (stage : Stage) (at : slice_get m.parties p ≡ Some stage) where
    abbrev room : Room E
    room = record { owner = Some p; element = None; next = None }

    others : (k : ℕ) → k ≢ p → free_rooms k (m.rooms ++ room ∷ []) ≡ free_rooms k m.rooms
    others k ne = free_pushed_other k m.rooms room 0 (others_room k p ne)

    with_room_words : abstract_of (cores.with_room m p) ≡ words.add_room (abstract_of m) p (me_of m p stage)
    with_room_words =
        let here : length m.rooms + 0 ≡ length m.rooms = omega arith in
        let mine : free_rooms p (m.rooms ++ room ∷ []) ≡ insert_room (length m.rooms) (free_rooms p m.rooms) = free_pushed p m.rooms room 0 (own_room p) ∙ ap (λ n. insert_room n (free_rooms p m.rooms)) here in
        words_eq m.head _ (length (m.rooms ++ room ∷ [])) (suc (length m.rooms)) (read next_in (m.rooms ++ room ∷ [])) (read next_in m.rooms) (read element_in (m.rooms ++ room ∷ [])) (read element_in m.rooms) _ _
        (omega (arith, length-append m.rooms (room ∷ []))) (read_pushed next_in m.rooms room refl) (read_pushed element_in m.rooms room refl)
        (ap (parties_of (m.rooms ++ room ∷ [])) (sym (set_as_it_was m.parties p stage at)) ∙ parties_put m.rooms (m.rooms ++ room ∷ []) m.parties p stage stage (insert_room (length m.rooms) (free_rooms p m.rooms)) at mine others)

    owned_room : IsOwned (cores.with_room m p)
    owned_room k none = others k (λ same. none_some (sym none ∙ ap (slice_get m.parties) same ∙ at)) ∙ owned k none

  pub meets_room : (h : List (Event ℕ E)) (m : Machine E) (p : ℕ) (stage : Stage) → slice_get m.parties p ≡ Some stage → CoreMeets h m → CoreMeets h (cores.with_room m p)
  meets_room h m p stage at was =
      let a = (adds_keep ℕ E (abstract_of m) was.chain (reverse h) was.meets p).1 (me_of m p stage) (ap (party_at m.rooms p) at) in
      core_from h (cores.with_room m p) a.0 (subst (λ w. Meets w a.0 (reverse h)) (sym (with_room_words m was.owned p stage at)) a.1) (owned_room m was.owned p stage at)

  -- what a core met, and a run of it keeps
  went_held : (h : List (Event ℕ E)) (m : Machine E) → CoreMeets h m → went h ++ held h ≡ came h
  went_held h m was = nothing_lost _ h was.legal

  run_law : (all : List (ℕ × QueueStep E)) (old new : Machine E) (replies : List (Answered E)) (rest : List (ℕ × QueueStep E)) → (r : Ran core_step all old new replies rest) → (h : List (Event ℕ E)) → CoreMeets h old
      → CoreMeets (history_after core_step core_events h old r.ran) new × AllSay core_step core_events core_says h old r.ran
  run_law all old new replies rest r h was =
      let law = run_meets core_step core_events (λ k m. CoreMeets k m) core_says (λ k m s met. core_steps k m s.0 s.1 met) h old r.ran was in
      (subst (CoreMeets (history_after core_step core_events h old r.ran)) (sym r.state) law.0, law.1)

  -- the law of a step, for a whole run
  pub replayed : (all : List (ℕ × QueueStep E)) (old new : Machine E) (replies : List (Answered E)) (rest : List (ℕ × QueueStep E)) → Ran core_step all old new replies rest → Replayed all old new replies rest
  replayed all old new replies rest r =
      record {
        run = r;
        meets = run_law all old new replies rest r;
        in_order = λ h was. went_held (history_after core_step core_events h old r.ran) new (run_law all old new replies rest r h was).0;
      }
