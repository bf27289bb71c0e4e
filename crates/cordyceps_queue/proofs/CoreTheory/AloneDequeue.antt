-- A whole try to dequeue that one party runs alone.
use Rattle.std.proofs.Common.{◌≡◌, ◌≢◌, ℕ, true, List, [], ◌∷◌, ◌++◌, length, drop, reverse, refl, ap, sym, ◌∙◌, subst, append_assoc, append-nil, arith}
use Rattle.std.specs.Prelude.{Option, Some, None, Ok, Err, slice_get}
use Rattle.std.proofs.lemmas.List.{reverse-append}
use native.Mathlib.Decide.{ℕ_discrete}
use Rattle.cordyceps_queue.specs.declared.cores.stage.Stage.{Stage}
use Rattle.cordyceps_queue.specs.declared.cores.stage.Stage.TheVariants.{Rest, Holding}
use Rattle.cordyceps_queue.specs.declared.cores.steps.QueueStep.TheVariants as step
use Rattle.cordyceps_queue.specs.declared.cores.steps.QueueAnswer.{QueueAnswer}
use Rattle.cordyceps_queue.specs.declared.cores.steps.QueueAnswer.TheVariants as answer
use Rattle.cordyceps_queue.specs.declared.cores.steps.TryDequeueError.TheVariants as error
use Rattle.cordyceps_queue.specs.History.{Event, Take, Busy, Look, Free, came, went, held, holder, IsBlocked, comes, goes}
use Rattle.cordyceps_queue.specs.Past as past
use Rattle.cordyceps_queue.specs.Cores.Machine.{Machine, Outcome, events_of, after_step_at, after_step, take}
use Rattle.cordyceps_queue.specs.Cores.CoreMeets.{right_word, party_at, abstract_of, CoreMeets}
use Rattle.cordyceps_queue.specs.Cores.Alone.{found_of, may_dequeue, tries, gives_back, takes_first, after_dequeue_at, after_dequeue, try_events, dequeue_events, Finds, LooksBlocked}
use Rattle.cordyceps_queue.proofs.CoreTheory.Basics.{some_inj, some_none}
use Rattle.cordyceps_queue.proofs.Blocked.{told_blocked, past_blocked}
use Rattle.std.proofs.lemmas.List.Concat.{flat_map-append}
use Rattle.cordyceps_queue.proofs.CoreTheory.DequeueSteps.{free_right}
use Rattle.cordyceps_queue.proofs.CoreTheory.HolderSteps.{keeping}
use Rattle.cordyceps_queue.proofs.Legality.{holder_of}
use Rattle.cordyceps_shared.proofs.ListWrites.{slice_get-set_same}
use Rattle.cordyceps_queue.proofs.CoreTheory.Simulation.{parties_of, me_of}
use Rattle.cordyceps_queue.proofs.CoreTheory.CoreKeeps.{core_steps}
use Rattle.cordyceps_queue.proofs.CoreTheory.AloneTry.{IsFinal, step_met, tries_law}

module _ {E : Type 0} where
  pub held_take : (h : List (Event ℕ E)) (p : ℕ) → held (h ++ Take p ∷ []) ≡ held h
  held_take h p = ap (λ w. drop (length w) (came (h ++ Take p ∷ []))) (flat_map-append goes h (Take p ∷ []) ∙ append-nil (went h)) ∙ ap (drop (length (went h))) (flat_map-append comes h (Take p ∷ []) ∙ append-nil (came h))

  -- what is blocked just after the right was taken was blocked before it
  blocked_take : (h : List (Event ℕ E)) (p : ℕ) (m : Machine E) → CoreMeets (h ++ Take p ∷ []) m → IsBlocked ℕ_discrete (h ++ Take p ∷ []) → IsBlocked ℕ_discrete h
  blocked_take h p m was b =
      let turned : reverse (h ++ Take p ∷ []) ≡ Take p ∷ reverse h = reverse-append h (Take p ∷ []) in
      let legal : past.IsLegalReversed (Take p ∷ reverse h) = subst past.IsLegalReversed turned was.meets.legal in
      told_blocked ℕ_discrete h legal.1 (subst past.IsBlockedReversed turned (past_blocked ℕ_discrete (h ++ Take p ∷ []) was.meets.legal b))

  finds_before : (h : List (Event ℕ E)) (p : ℕ) (m : Machine E) → CoreMeets (h ++ Take p ∷ []) m → (a : QueueAnswer E) → IsFinal a → Finds (h ++ Take p ∷ []) p (found_of (Ok a)) → Finds h p (found_of (Ok a))
  finds_before h p m was answer.Done f s = absurd f
  finds_before h p m was answer.Taken f s = absurd f
  finds_before h p m was answer.Busy f s = absurd f
  finds_before h p m was (answer.Out e) f s = (s.0, sym (held_take h p) ∙ s.1)
  finds_before h p m was answer.Empty f s = sym (held_take h p) ∙ s
  finds_before h p m was answer.Inconsistent f s = blocked_take h p m was s

  from_rest : (p : ℕ) (a : QueueAnswer E) → IsFinal a → dequeue_events p (Some Rest) (found_of (Ok a)) ≡ Take p ∷ try_events p (found_of (Ok a)) ++ Free p ∷ []
  from_rest p answer.Done f = absurd f
  from_rest p answer.Taken f = absurd f
  from_rest p answer.Busy f = absurd f
  from_rest p (answer.Out e) f = refl
  from_rest p answer.Empty f = refl
  from_rest p answer.Inconsistent f = refl

  -- the law of a call, from this stage
  abbrev Law : List (Event ℕ E) → ℕ → Option Stage → Outcome E → Type 0
  Law h p stage out = CoreMeets (h ++ dequeue_events p stage (found_of out.1)) out.0 × Finds h p (found_of out.1)

  law_holding : (h : List (Event ℕ E)) (m : Machine E) (p t : ℕ) → CoreMeets h m → slice_get m.parties p ≡ Some (Holding t) → Law h p (Some (Holding t)) (tries p 6 m)
  law_holding h m p t was at =
      let T = tries_law p 6 h m (Holding t) at tt (omega arith) (subst (λ l. CoreMeets l m) (sym (append-nil h)) was) in
      subst (λ r. CoreMeets (h ++ dequeue_events p (Some (Holding t)) (found_of r)) (tries p 6 m).0 × Finds h p (found_of r)) (sym T.is) (T.meets, T.finds)

  -- the right was free
  law_taken : (h : List (Event ℕ E)) (m : Machine E) (p t : ℕ) → CoreMeets (h ++ Take p ∷ []) m → slice_get m.parties p ≡ Some (Holding t) → Law h p (Some Rest) (gives_back p (tries p 6 m))
  law_taken h m p t was at =
      let out = tries p 6 m in
      let T = tries_law p 6 (h ++ Take p ∷ []) m (Holding t) at tt (omega arith) (subst (λ l. CoreMeets l m) (sym (append-nil (h ++ Take p ∷ []))) was) in
      let H : List (Event ℕ E) = (h ++ Take p ∷ []) ++ try_events p (found_of (Ok T.answer)) in
      let K = core_steps H out.0 p step.Give T.meets in
      let given : CoreMeets (H ++ Free p ∷ []) (after_step out.0 p step.Give).0 =
      subst (λ l. CoreMeets (H ++ l) (after_step out.0 p step.Give).0) (ap (λ o. events_of p out.0.rooms o step.Give (after_step_at out.0 p o step.Give).1) T.holds.1) K.0 in
      let whole : H ++ Free p ∷ [] ≡ h ++ dequeue_events p (Some Rest) (found_of (Ok T.answer)) =
      append_assoc (h ++ Take p ∷ []) (try_events p (found_of (Ok T.answer))) (Free p ∷ []) ∙ append_assoc h (Take p ∷ []) (try_events p (found_of (Ok T.answer)) ++ Free p ∷ [])
      ∙ ap (λ l. h ++ l) (sym (from_rest p T.answer T.final)) in
      subst (λ r. CoreMeets (h ++ dequeue_events p (Some Rest) (found_of r)) (after_step out.0 p step.Give).0 × Finds h p (found_of r)) (sym T.is)
      (subst (λ l. CoreMeets l (after_step out.0 p step.Give).0) whole given, finds_before h p m was T.answer T.final T.finds)

  law_rest : (h : List (Event ℕ E)) (m : Machine E) (p : ℕ) → CoreMeets h m → slice_get m.parties p ≡ Some Rest → (o : Option ℕ) → m.right ≡ o → Law h p (Some Rest) (takes_first p (take m p o).0 (take m p o).1)
  law_rest h m p was at None right =
      let K = step_met h m p Rest at step.Take answer.Busy (ap (λ o. (take m p o).1) right) was in
      (subst (λ (n : Machine E). CoreMeets (h ++ Busy p ∷ []) n) (ap (λ o. (take m p o).0) right) K.0, K.1)
  law_rest h m p was at (Some t) right =
      let K = step_met h m p Rest at step.Take answer.Taken (ap (λ o. (take m p o).1) right) was in
      let met : CoreMeets (h ++ Take p ∷ []) (take m p (Some t)).0 = subst (λ (n : Machine E). CoreMeets (h ++ Take p ∷ []) n) (ap (λ o. (take m p o).0) right) K.0 in
      law_taken h (take m p (Some t)).0 p t met (slice_get-set_same m.parties p (Holding t) Rest at)

  law_at : (h : List (Event ℕ E)) (m : Machine E) (p : ℕ) → CoreMeets h m → (stage : Option Stage) → slice_get m.parties p ≡ stage → may_dequeue stage ≡ true → Law h p stage (after_dequeue_at p m stage)
  law_at h m p was (Some Rest) at may =
      subst (λ (out : Outcome E). Law h p (Some Rest) (takes_first p out.0 out.1)) (sym (ap (λ o. after_step_at m p o step.Take) at)) (law_rest h m p was at m.right refl)
  law_at h m p was (Some (Holding t)) at may = law_holding h m p t was at
  law_at h m p was stage at may = let no : ⊥ = cc in absurd no

  pub dequeued_law : (h : List (Event ℕ E)) (m : Machine E) (p : ℕ) → CoreMeets h m → may_dequeue (slice_get m.parties p) ≡ true → CoreMeets (h ++ dequeue_events p (slice_get m.parties p) (found_of (after_dequeue m p).1)) (after_dequeue m p).0 × Finds h p (found_of (after_dequeue m p).1)
  dequeued_law h m p was may = law_at h m p was (slice_get m.parties p) refl may

  -- the right is not there where a party has it, and a party that has it is that one
  pub no_right : (h : List (Event ℕ E)) (m : Machine E) (q t : ℕ) → CoreMeets h m → holder h ≡ Some q → m.right ≡ Some t → ⊥
  no_right h m q t was held right =
      let f = free_right (right_word m.right) (parties_of m.rooms m.parties) was.chain.rooms (reverse h) was.chain.keeper t (ap right_word right) was.meets.right in
      some_none (sym held ∙ holder_of h ∙ f.unheld)

  pub holds_right : (h : List (Event ℕ E)) (m : Machine E) (p q t : ℕ) → CoreMeets h m → holder h ≡ Some q → slice_get m.parties p ≡ Some (Holding t) → p ≡ q
  holds_right h m p q t was held at =
      let k = keeping (abstract_of m) was.chain (reverse h) was.meets p (me_of m p (Holding t)) (ap (party_at m.rooms p) at) t refl in
      some_inj (sym k.held_by ∙ sym (holder_of h) ∙ held)

  -- where another party holds the right
  busy_rest : (h : List (Event ℕ E)) (m : Machine E) (p q : ℕ) (was : CoreMeets h m) → holder h ≡ Some q → (o : Option ℕ) → m.right ≡ o → found_of (takes_first p (take m p o).0 (take m p o).1).1 ≡ Err error.Busy
  busy_rest h m p q was held None right = refl
  busy_rest h m p q was held (Some t) right = absurd (no_right h m q t was held right)

  busy_at : (h : List (Event ℕ E)) (m : Machine E) (p q : ℕ) → CoreMeets h m → holder h ≡ Some q → p ≢ q → (stage : Option Stage) → slice_get m.parties p ≡ stage → may_dequeue stage ≡ true → found_of (after_dequeue_at p m stage).1 ≡ Err error.Busy
  busy_at h m p q was held ne (Some Rest) at may =
      subst (λ (out : Outcome E). found_of (takes_first p out.0 out.1).1 ≡ Err error.Busy) (sym (ap (λ o. after_step_at m p o step.Take) at)) (busy_rest h m p q was held m.right refl)
  busy_at h m p q was held ne (Some (Holding t)) at may = absurd (ne (holds_right h m p q t was held at))
  busy_at h m p q was held ne stage at may = let no : ⊥ = cc in absurd no

  pub busy_law : (h : List (Event ℕ E)) (m : Machine E) (p q : ℕ) → CoreMeets h m → holder h ≡ Some q → p ≢ q → may_dequeue (slice_get m.parties p) ≡ true → found_of (after_dequeue m p).1 ≡ Err error.Busy
  busy_law h m p q was held ne may = busy_at h m p q was held ne (slice_get m.parties p) refl may

  -- what was blocked before a `Look`, or before a `Take` and a `Look`, is so after them
  pub still_blocked : (h : List (Event ℕ E)) (p : ℕ) (m : Machine E) (stage : Option Stage) → may_dequeue stage ≡ true → CoreMeets (h ++ dequeue_events p stage (Err error.Inconsistent)) m → IsBlocked ℕ_discrete h → LooksBlocked h p stage
  still_blocked h p m (Some Rest) may was b =
      let all : reverse (h ++ Take p ∷ Look p ∷ Free p ∷ []) ≡ Free p ∷ Look p ∷ Take p ∷ reverse h = reverse-append h (Take p ∷ Look p ∷ Free p ∷ []) in
      let turned : reverse (h ++ Take p ∷ Look p ∷ []) ≡ Look p ∷ Take p ∷ reverse h = reverse-append h (Take p ∷ Look p ∷ []) in
      let legal : past.IsLegalReversed (Free p ∷ Look p ∷ Take p ∷ reverse h) = subst past.IsLegalReversed all was.meets.legal in
      told_blocked ℕ_discrete (h ++ Take p ∷ Look p ∷ []) (subst past.IsLegalReversed (sym turned) legal.1) (subst past.IsBlockedReversed (sym turned) (past_blocked ℕ_discrete h legal.1.1.1 b))
  still_blocked h p m (Some (Holding t)) may was b =
      let turned : reverse (h ++ Look p ∷ []) ≡ Look p ∷ reverse h = reverse-append h (Look p ∷ []) in
      let legal : past.IsLegalReversed (Look p ∷ reverse h) = subst past.IsLegalReversed turned was.meets.legal in
      told_blocked ℕ_discrete (h ++ Look p ∷ []) was.meets.legal (subst past.IsBlockedReversed (sym turned) (past_blocked ℕ_discrete h legal.1 b))
  still_blocked h p m stage may was b = let no : ⊥ = cc in absurd no

  pub inconsistent_law : (h : List (Event ℕ E)) (m : Machine E) (p : ℕ) → CoreMeets h m → may_dequeue (slice_get m.parties p) ≡ true → found_of (after_dequeue m p).1 ≡ Err error.Inconsistent → LooksBlocked h p (slice_get m.parties p)
  inconsistent_law h m p was may is =
      let L = dequeued_law h m p was may in
      still_blocked h p (after_dequeue m p).0 (slice_get m.parties p) may (subst (λ f. CoreMeets (h ++ dequeue_events p (slice_get m.parties p) f) (after_dequeue m p).0) is L.0) (subst (Finds h p) is L.1)
