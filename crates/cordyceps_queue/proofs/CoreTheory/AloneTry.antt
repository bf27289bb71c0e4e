-- A try to dequeue by a party that holds the right and runs alone.
use Rattle.std.proofs.Common.{◌≡◌, ◌≢◌, ℕ, zero, suc, ◌<◌, ◌≤◌, Bool, true, false, List, [], ◌∷◌, ◌++◌, length, drop, reverse, inl, inr, refl, ap, sym, ◌∙◌, subst, append_assoc, append-nil, arith}
use Rattle.std.specs.Prelude.{Option, Some, None, Ok, slice_get, slice_set, nat_eq}
use Rattle.std.proofs.lemmas.List.{reverse-append}
use native.Mathlib.Decide.{ℕ_discrete}
use Rattle.cordyceps_queue.specs.declared.cores.stage.Stage.{Stage}
use Rattle.cordyceps_queue.specs.declared.cores.stage.Stage.TheVariants.{Rest, Cleared, Swapped, Holding, StubNull, Second, Null, PutClear, PutSwap, PutLink, PutRead}
use Rattle.cordyceps_queue.specs.declared.cores.steps.QueueStep.{QueueStep}
use Rattle.cordyceps_queue.specs.declared.cores.steps.QueueStep.TheVariants as step
use Rattle.cordyceps_queue.specs.declared.cores.steps.QueueAnswer.{QueueAnswer}
use Rattle.cordyceps_queue.specs.declared.cores.steps.QueueAnswer.TheVariants as answer
use Rattle.cordyceps_queue.specs.History.{Event, Look, Out, Empty, came, went, held, IsBlocked, WasBlocked, comes, goes}
use Rattle.cordyceps_shared.specs.Rooms.{element_in, next_in}
use Rattle.cordyceps_queue.specs.Cores.Machine.{Machine, Outcome, events_of, acts, after_step_at, look, read, read_again, hand_out, head_stub, head_tail}
use Rattle.cordyceps_queue.specs.Cores.CoreMeets.{CoreMeets, IsSound, Says, AnswerSays}
use Rattle.cordyceps_queue.specs.Cores.Alone.{next_step, found_of, goes_on, tries, try_events, Finds}
use Rattle.cordyceps_queue.proofs.CoreTheory.Basics.{none_some, suc_zero}
use Rattle.cordyceps_queue.specs.Past as past
use Rattle.cordyceps_queue.proofs.Blocked.{told_blocked, past_was_blocked}
use Rattle.std.proofs.lemmas.List.Concat.{flat_map-append}
use Rattle.cordyceps_shared.proofs.ListWrites.{slice_get-set_same}
use Rattle.cordyceps_queue.proofs.CoreTheory.CoreKeeps.{core_steps}
use Rattle.cordyceps_queue.proofs.CoreTheory.RoomsAtStages.{holding_full, second_full, put_read_full}

-- the stages between the first read of a try and its end
abbrev IsMidTry : Stage → Type 0
IsMidTry Rest = ⊥
IsMidTry (Cleared r) = ⊥
IsMidTry (Swapped r old) = ⊥
IsMidTry (Holding t) = ⊥
IsMidTry stage = Unit {0}

abbrev pub IsTry : Stage → Type 0
IsTry (Holding t) = Unit {0}
IsTry stage = IsMidTry stage

-- how many steps may follow the next one
abbrev pub steps_left : Stage → ℕ
steps_left (Holding t) = 6
steps_left (Second t) = 5
steps_left (Null t) = 4
steps_left (PutClear t) = 3
steps_left (PutSwap t) = 2
steps_left (PutLink t old) = 1
steps_left stage = 0

try_of : (l : Stage) → IsMidTry l → IsTry l
try_of (Holding t) is = absurd is
try_of l is = is

module _ {E : Type 0} where
  -- the events of a try before this stage, and up to this answer
  abbrev pub so_far : ℕ → Stage → List (Event ℕ E)
  so_far p (Holding t) = []
  so_far p stage = Look p ∷ []

  abbrev end_events : ℕ → QueueAnswer E → List (Event ℕ E)
  end_events p (answer.Out e) = Look p ∷ Out p e ∷ []
  end_events p answer.Empty = Look p ∷ Empty p ∷ []
  end_events p a = Look p ∷ []

  abbrev Holds : ℕ → Machine E → Type 0
  Holds p m = (t : ℕ) × (slice_get m.parties p ≡ Some (Holding t))

  -- the stage of the party after the answer
  abbrev Stands : ℕ → Stage → QueueAnswer E → Machine E → Type 0
  Stands p stage answer.Done m = (l : Stage) × (slice_get m.parties p ≡ Some l) × (steps_left l < steps_left stage) × IsMidTry l
  Stands p stage answer.Taken m = ⊥
  Stands p stage answer.Busy m = ⊥
  Stands p stage (answer.Out e) m = Holds p m
  Stands p stage answer.Empty m = Holds p m
  Stands p stage answer.Inconsistent m = IsMidTry stage × Holds p m

  record Tried (m : Machine E) (p : ℕ) (stage : Stage) (s : QueueStep E) (out : Outcome E) : Type 0 where
    answer : QueueAnswer E
    is : out.1 ≡ Ok answer
    events : so_far p stage ++ events_of p m.rooms (Some stage) s (Ok answer) ≡ end_events p answer
    stands : Stands p stage answer out.0

  module _ (m : Machine E) (p : ℕ) (stage : Stage) (at : slice_get m.parties p ≡ Some stage) where
    now : (new : Stage) → slice_get (slice_set m.parties p new) p ≡ Some new
    now new = slice_get-set_same m.parties p new stage at

  tried_out : (m : Machine E) (p : ℕ) (stage : Stage) → slice_get m.parties p ≡ Some stage → so_far p stage ++ events_of p m.rooms (Some stage) step.ReadNext (Ok answer.Done) ≡ Look p ∷ [] →
      ((e : E) → so_far p stage ++ events_of p m.rooms (Some stage) step.ReadNext (Ok (answer.Out e)) ≡ Look p ∷ Out p e ∷ []) → (t r : ℕ) (o : Option E) → (e : E) × (o ≡ Some e) → Tried m p stage step.ReadNext (hand_out m p t r o)
  tried_out m p stage at done out t r None f = absurd (none_some f.1)
  tried_out m p stage at done out t r (Some e) f = record { answer = answer.Out e; is = refl; events = out e; stands = (r, now m p stage at (Holding r)) }

  tried_read : (m : Machine E) (p : ℕ) (stage : Stage) → slice_get m.parties p ≡ Some stage → so_far p stage ++ events_of p m.rooms (Some stage) step.ReadNext (Ok answer.Done) ≡ Look p ∷ [] →
      ((e : E) → so_far p stage ++ events_of p m.rooms (Some stage) step.ReadNext (Ok (answer.Out e)) ≡ Look p ∷ Out p e ∷ []) → 4 < steps_left stage → (t : ℕ) → (e : E) × (element_in (slice_get m.rooms t) ≡ Some e) → (n : Option ℕ) → Tried m p stage step.ReadNext (read m p t n)
  tried_read m p stage at done out lt t f None = record { answer = answer.Done; is = refl; events = done; stands = (Null t, now m p stage at (Null t), lt, tt) }
  tried_read m p stage at done out lt t f (Some r) = tried_out m p stage at done out t r (element_in (slice_get m.rooms t)) f

  tried_look : (m : Machine E) (p t : ℕ) → slice_get m.parties p ≡ Some (Holding t) → (t ≢ 0 → (e : E) × (element_in (slice_get m.rooms t) ≡ Some e)) → (n : Option ℕ) → Tried m p (Holding t) step.ReadNext (look m p t n)
  tried_look m p zero at f None = record { answer = answer.Done; is = refl; events = refl; stands = (StubNull, now m p (Holding 0) at StubNull, omega arith, tt) }
  tried_look m p zero at f (Some r) = record { answer = answer.Done; is = refl; events = refl; stands = (Second r, now m p (Holding 0) at (Second r), omega arith, tt) }
  tried_look m p (suc t) at f n = tried_read m p (Holding (suc t)) at refl (λ e. refl) (omega arith) (suc t) (f suc_zero) n

  tried_again : (m : Machine E) (p t : ℕ) → slice_get m.parties p ≡ Some (PutRead t) → (e : E) × (element_in (slice_get m.rooms t) ≡ Some e) → (n : Option ℕ) → Tried m p (PutRead t) step.ReadNext (read_again m p t n)
  tried_again m p t at f None = record { answer = answer.Inconsistent; is = refl; events = refl; stands = (tt, (t, now m p (PutRead t) at (Holding t))) }
  tried_again m p t at f (Some r) = tried_out m p (PutRead t) at refl (λ e. refl) t r (element_in (slice_get m.rooms t)) f

  tried_stub : (m : Machine E) (p : ℕ) → slice_get m.parties p ≡ Some StubNull → (b : Bool) → Tried m p StubNull step.ReadHead (head_stub m p b)
  tried_stub m p at true = record { answer = answer.Empty; is = refl; events = refl; stands = (0, now m p StubNull at (Holding 0)) }
  tried_stub m p at false = record { answer = answer.Inconsistent; is = refl; events = refl; stands = (tt, (0, now m p StubNull at (Holding 0))) }

  tried_tail : (m : Machine E) (p t : ℕ) → slice_get m.parties p ≡ Some (Null t) → (b : Bool) → Tried m p (Null t) step.ReadHead (head_tail m p t b)
  tried_tail m p t at true = record { answer = answer.Done; is = refl; events = refl; stands = (PutClear t, now m p (Null t) at (PutClear t), omega arith, tt) }
  tried_tail m p t at false = record { answer = answer.Inconsistent; is = refl; events = refl; stands = (tt, (t, now m p (Null t) at (Holding t))) }

  tried : (m : Machine E) → IsSound m → (p : ℕ) (stage : Stage) → slice_get m.parties p ≡ Some stage → IsTry stage → Tried m p stage (next_step (Some stage)) (acts m p stage (next_step (Some stage)))
  tried m s p (Holding t) at is = tried_look m p t at (λ ne. holding_full m s p t at ne) (next_in (slice_get m.rooms t))
  tried m s p StubNull at is = tried_stub m p at (nat_eq m.head 0)
  tried m s p (Second t) at is = tried_read m p (Second t) at refl (λ e. refl) (omega arith) t (second_full m s p t at) (next_in (slice_get m.rooms t))
  tried m s p (Null t) at is = tried_tail m p t at (nat_eq m.head t)
  tried m s p (PutClear t) at is = record { answer = answer.Done; is = refl; events = refl; stands = (PutSwap t, now m p (PutClear t) at (PutSwap t), omega arith, tt) }
  tried m s p (PutSwap t) at is = record { answer = answer.Done; is = refl; events = refl; stands = (PutLink t m.head, now m p (PutSwap t) at (PutLink t m.head), omega arith, tt) }
  tried m s p (PutLink t old) at is = record { answer = answer.Done; is = refl; events = refl; stands = (PutRead t, now m p (PutLink t old) at (PutRead t), omega arith, tt) }
  tried m s p (PutRead t) at is = tried_again m p t at (put_read_full m s p t at) (next_in (slice_get m.rooms t))
  tried m s p stage at is = absurd is

  -- an answer that ends a try
  abbrev pub IsFinal : QueueAnswer E → Type 0
  IsFinal (answer.Out e) = Unit {0}
  IsFinal answer.Empty = Unit {0}
  IsFinal answer.Inconsistent = Unit {0}
  IsFinal a = ⊥

  -- a try came to its end
  pub record Ended (h : List (Event ℕ E)) (p : ℕ) (out : Outcome E) : Type 0 where
    pub answer : QueueAnswer E
    pub is : out.1 ≡ Ok answer
    pub final : IsFinal answer
    pub meets : CoreMeets (h ++ try_events p (found_of (Ok answer))) out.0
    pub finds : Finds h p (found_of (Ok answer))
    pub holds : (t : ℕ) × (slice_get out.0.parties p ≡ Some (Holding t))

  held_look : (h : List (Event ℕ E)) (p : ℕ) → held (h ++ Look p ∷ []) ≡ held h
  held_look h p = ap (λ w. drop (length w) (came (h ++ Look p ∷ []))) (flat_map-append goes h (Look p ∷ []) ∙ append-nil (went h)) ∙ ap (drop (length (went h))) (flat_map-append comes h (Look p ∷ []) ∙ append-nil (came h))

  held_so_far : (h : List (Event ℕ E)) (p : ℕ) (stage : Stage) → held (h ++ so_far p stage) ≡ held h
  held_so_far h p (Holding t) = ap held (append-nil h)
  held_so_far h p stage = held_look h p

  trying_so_far : (p : ℕ) (l : Stage) → IsMidTry l → so_far p l ≡ Look p ∷ []
  trying_so_far p (Holding t) is = absurd is
  trying_so_far p l is = refl

  -- what is blocked just after a look was blocked before it
  blocked_before : (h : List (Event ℕ E)) (p : ℕ) (m : Machine E) → CoreMeets (h ++ Look p ∷ []) m → WasBlocked ℕ_discrete p (h ++ Look p ∷ []) → IsBlocked ℕ_discrete h
  blocked_before h p m was w =
      let turned : reverse (h ++ Look p ∷ []) ≡ Look p ∷ reverse h = reverse-append h (Look p ∷ []) in
      let legal : past.IsLegalReversed (Look p ∷ reverse h) = subst past.IsLegalReversed turned was.meets.legal in
      from legal (subst (past.WasBlockedReversed p) turned (past_was_blocked ℕ_discrete (h ++ Look p ∷ []) was.meets.legal p w))
    where
      from : past.IsLegalReversed (Look p ∷ reverse h) → past.WasBlockedReversed p (Look p ∷ reverse h) → IsBlocked ℕ_discrete h
      from legal (inl b) = told_blocked ℕ_discrete h legal.1 b.1
      from legal (inr b) = absurd (b.0 refl)

  module _ (h : List (Event ℕ E)) (p : ℕ) (m : Machine E) (stage : Stage) (was : CoreMeets (h ++ so_far p stage) m) (out : Outcome E) where
    finds_of : (a : QueueAnswer E) → IsFinal a → Stands p stage a out.0 → Says (h ++ so_far p stage) p a → Finds h p (found_of (Ok a))
    finds_of answer.Done f s says = absurd f
    finds_of answer.Taken f s says = absurd f
    finds_of answer.Busy f s says = absurd f
    finds_of (answer.Out e) f s says = (says.0, sym (held_so_far h p stage) ∙ says.1)
    finds_of answer.Empty f s says = sym (held_so_far h p stage) ∙ says
    finds_of answer.Inconsistent f s says =
        let looked : so_far p stage ≡ Look p ∷ [] = trying_so_far p stage s.0 in
        blocked_before h p m (subst (λ l. CoreMeets (h ++ l) m) looked was) (subst (λ l. WasBlocked ℕ_discrete p (h ++ l)) looked says)

    holds_of : (a : QueueAnswer E) → IsFinal a → Stands p stage a out.0 → Holds p out.0
    holds_of answer.Done f s = absurd f
    holds_of answer.Taken f s = absurd f
    holds_of answer.Busy f s = absurd f
    holds_of (answer.Out e) f s = s
    holds_of answer.Empty f s = s
    holds_of answer.Inconsistent f s = s.1

    ended_of : (a : QueueAnswer E) → IsFinal a → end_events p a ≡ try_events p (found_of (Ok a))
    ended_of answer.Done f = absurd f
    ended_of answer.Taken f = absurd f
    ended_of answer.Busy f = absurd f
    ended_of (answer.Out e) f = refl
    ended_of answer.Empty f = refl
    ended_of answer.Inconsistent f = refl

    ends : (a : QueueAnswer E) → IsFinal a → out.1 ≡ Ok a → Stands p stage a out.0 → CoreMeets (h ++ end_events p a) out.0 → Says (h ++ so_far p stage) p a → Ended h p out
    ends a f is s met says = record {
      answer = a;
      is = is;
      final = f;
      meets = subst (λ l. CoreMeets (h ++ l) out.0) (ended_of a f) met;
      finds = finds_of a f s says;
      holds = holds_of a f s;
    }

    ends_now : (a : QueueAnswer E) → out.1 ≡ Ok a → Stands p stage a out.0 → CoreMeets (h ++ end_events p a) out.0 → Says (h ++ so_far p stage) p a → steps_left stage ≤ 0 → Ended h p out
    ends_now answer.Done is s met says le = let (_, _, fewer, _) = s in absurd (omega arith)
    ends_now answer.Taken is s met says le = absurd s
    ends_now answer.Busy is s met says le = absurd s
    ends_now (answer.Out e) is s met says le = ends (answer.Out e) tt is s met says
    ends_now answer.Empty is s met says le = ends answer.Empty tt is s met says
    ends_now answer.Inconsistent is s met says le = ends answer.Inconsistent tt is s met says

    -- the outcome, with its answer written out
    same : (a : QueueAnswer E) → out.1 ≡ Ok a → Ended h p out → Ended h p (out.0, Ok a)
    same a is e = subst (λ r. Ended h p (out.0, r)) is e

    ends_later : (n : ℕ) → ((l : Stage) → slice_get out.0.parties p ≡ Some l → IsTry l → steps_left l ≤ n → CoreMeets (h ++ so_far p l) out.0 → Ended h p (tries p n out.0)) →
        (a : QueueAnswer E) → out.1 ≡ Ok a → Stands p stage a out.0 → CoreMeets (h ++ end_events p a) out.0 → Says (h ++ so_far p stage) p a → steps_left stage ≤ suc n → Ended h p (goes_on (tries p n) out.0 out.1)
    ends_later n rest answer.Done is s met says le =
        let (next, now, less, trying) = s in
        subst (λ r. Ended h p (goes_on (tries p n) out.0 r)) (sym is) (rest next now (try_of next trying) (omega (arith, less)) (subst (λ l. CoreMeets (h ++ l) out.0) (sym (trying_so_far p next trying)) met))
    ends_later n rest answer.Taken is s met says le = absurd s
    ends_later n rest answer.Busy is s met says le = absurd s
    ends_later n rest (answer.Out e) is s met says le = subst (λ r. Ended h p (goes_on (tries p n) out.0 r)) (sym is) (same (answer.Out e) is (ends (answer.Out e) tt is s met says))
    ends_later n rest answer.Empty is s met says le = subst (λ r. Ended h p (goes_on (tries p n) out.0 r)) (sym is) (same answer.Empty is (ends answer.Empty tt is s met says))
    ends_later n rest answer.Inconsistent is s met says le = subst (λ r. Ended h p (goes_on (tries p n) out.0 r)) (sym is) (same answer.Inconsistent is (ends answer.Inconsistent tt is s met says))

  -- what a step does at its stage, by its answer
  pub step_met : (H : List (Event ℕ E)) (m : Machine E) (p : ℕ) (stage : Stage) → slice_get m.parties p ≡ Some stage → (s : QueueStep E) (a : QueueAnswer E) → (acts m p stage s).1 ≡ Ok a → CoreMeets H m →
      CoreMeets (H ++ events_of p m.rooms (Some stage) s (Ok a)) (acts m p stage s).0 × Says H p a
  step_met H m p stage at s a is was =
      let law = subst (λ o. CoreMeets (H ++ events_of p m.rooms o s (after_step_at m p o s).1) (after_step_at m p o s).0 × AnswerSays H p (after_step_at m p o s).1) at (core_steps H m p s was) in
      subst (λ r. CoreMeets (H ++ events_of p m.rooms (Some stage) s r) (acts m p stage s).0 × AnswerSays H p r) is law

  pub tries_law : (p n : ℕ) (h : List (Event ℕ E)) (m : Machine E) (stage : Stage) → slice_get m.parties p ≡ Some stage → IsTry stage → steps_left stage ≤ n → CoreMeets (h ++ so_far p stage) m → Ended h p (tries p n m)
  tries_law p zero h m stage at is le was =
      let T = tried m (h ++ so_far p stage, was) p stage at is in
      let K = step_met (h ++ so_far p stage) m p stage at (next_step (Some stage)) T.answer T.is was in
      let met = subst (λ l. CoreMeets l (acts m p stage (next_step (Some stage))).0) (append_assoc h (so_far p stage) (events_of p m.rooms (Some stage) (next_step (Some stage)) (Ok T.answer)) ∙ ap (λ l. h ++ l) T.events) K.0 in
      subst (λ o. Ended h p (after_step_at m p o (next_step o))) (sym at) (ends_now h p m stage was (acts m p stage (next_step (Some stage))) T.answer T.is T.stands met K.1 le)
  tries_law p (suc n) h m stage at is le was =
      let T = tried m (h ++ so_far p stage, was) p stage at is in
      let out = acts m p stage (next_step (Some stage)) in
      let K = step_met (h ++ so_far p stage) m p stage at (next_step (Some stage)) T.answer T.is was in
      let met = subst (λ l. CoreMeets l (acts m p stage (next_step (Some stage))).0) (append_assoc h (so_far p stage) (events_of p m.rooms (Some stage) (next_step (Some stage)) (Ok T.answer)) ∙ ap (λ l. h ++ l) T.events) K.0 in
      subst (λ o. Ended h p (goes_on (tries p n) (after_step_at m p o (next_step o)).0 (after_step_at m p o (next_step o)).1)) (sym at)
      (ends_later h p m stage was (acts m p stage (next_step (Some stage))) n (λ l at' is' le' was'. tries_law p n h out.0 l at' is' le' was') T.answer T.is T.stands met K.1 le)
