use Rattle.std.proofs.Common.{rules, ◌≡◌, ℕ, Bool, true, true≢false, [], ◌∷◌, length, refl, sym, ap, ◌∙◌}
use Rattle.std.specs.Prelude.{Result, Ok, Err, IfOk, IfErr, is_ok, is_none}
use Rattle.cordyceps.specs.TransferCores.{Machine, after, core_step, after_step, new_machine, with_party, with_room, push_steps, held_in, is_ready, is_at_rest, Load, SetNext, Exchange, Failed}
use Rattle.std.proofs.lemmas.Result.{IfOk-weaker}
use Rattle.cordyceps.specs.declared.stack.StepError.{StepError}
use Rattle.cordyceps.specs.declared.stack.StepError.TheVariants.{NotThere, Memory}
use Rattle.cordyceps_uses.specs.declared.job.Job.{Job}
use Rattle.cordyceps_uses.proofs.examples.push_meanwhile.Goals as goal
use Rattle.cordyceps_uses.proofs.examples.push_meanwhile.Goals.{in-Ok-Failed, in-Ok+in-Done-1, in-Err-1}

-- two parties with a room each
abbrev two : Machine Job
two = with_room (with_room (with_party (with_party new_machine)) 0) 1

-- the first has read the head, and then the second pushed
abbrev between : Job → Job → Machine Job
between early late = after core_step (after_step (after_step two 0 (Load early)).0 0 SetNext).0 (push_steps 1 late)

-- the first has found the head changed
abbrev failed : Job → Job → Machine Job
failed early late = (after_step (between early late) 0 Exchange).0

-- the parties' numbers, and where the calls have led
record Led (a b : ℕ) (m now : Machine Job) : Type 0 where
  first : a ≡ 0
  second : b ≡ 1
  is : m ≡ now

-- a call that does not miss its party
only_memory : {A : Type 0} (r : Result A StepError) → (r ≡ Err NotThere → ⊥) → IfErr r (λ e. e ≡ Memory)
only_memory (Ok x) never = tt
only_memory (Err NotThere) never = absurd (never refl)
only_memory (Err Memory) never = refl

-- a party that is ready pushes
pushes : {B : Type 0} (r : Result Bool B) (head : Bool) (n k : Machine Job) → is_ok r ≡ true → IfOk r (λ w. (w ≡ head) × (n ≡ k)) → n ≡ k
pushes (Ok w) head n k is h = h.1
pushes (Err e) head n k is h = absurd cc

module _ (a b : ℕ) (early late : Job) where
  laid_out : (m0 m1 m2 m3 m4 : Machine Job) → m0 ≡ new_machine → a ≡ length m0.parties → m1 ≡ with_party m0 → b ≡ length m1.parties → m2 ≡ with_party m1
      → m3 ≡ with_room m2 a → m4 ≡ with_room m3 b → Led a b m4 two
  laid_out m0 m1 m2 m3 m4 h0 ha h1 hb h2 h3 h4 =
      let parties : Machine Job = with_party (with_party new_machine) in
      let first : a ≡ 0 = ha ∙ ap (λ (m : Machine Job). length m.parties) h0 in
      let e1 : m1 ≡ with_party new_machine = h1 ∙ ap (λ (m : Machine Job). with_party m) h0 in
      let second : b ≡ 1 = hb ∙ ap (λ (m : Machine Job). length m.parties) e1 in
      let e2 : m2 ≡ parties = h2 ∙ ap (λ (m : Machine Job). with_party m) e1 in
      let e3 : m3 ≡ with_room parties 0 = h3 ∙ ap (λ (m : Machine Job). with_room m a) e2 ∙ ap (λ (p : ℕ). with_room parties p) first in
      record { first = first; second = second; is = h4 ∙ ap (λ (m : Machine Job). with_room m b) e3 ∙ ap (λ (p : ℕ). with_room (with_room parties 0) p) second }

  pushed : {B : Type 0} (r : Result Bool B) (m4 m5 m6 m7 : Machine Job) → Led a b m4 two → m5 ≡ (after_step m4 a (Load early)).0 → m6 ≡ (after_step m5 a SetNext).0
      → is_ok r ≡ is_ready m6 b → IfOk r (λ w. (w ≡ is_none m6.head) × (m7 ≡ after core_step m6 (push_steps b late))) → Led a b m7 (between early late)
  pushed r m4 m5 m6 m7 led h5 h6 ready h7 =
      let loaded : Machine Job = (after_step two 0 (Load early)).0 in
      let set : Machine Job = (after_step loaded 0 SetNext).0 in
      let e5 : m5 ≡ loaded = h5 ∙ ap (λ (m : Machine Job). (after_step m a (Load early)).0) led.is ∙ ap (λ (p : ℕ). (after_step two p (Load early)).0) led.first in
      let e6 : m6 ≡ set = h6 ∙ ap (λ (m : Machine Job). (after_step m a SetNext).0) e5 ∙ ap (λ (p : ℕ). (after_step loaded p SetNext).0) led.first in
      let may : is_ok r ≡ true = ready ∙ ap (λ (m : Machine Job). is_ready m b) e6 ∙ ap (λ (p : ℕ). is_ready set p) led.second in
      let e7 = pushes r (is_none m6.head) m7 (after core_step m6 (push_steps b late)) may h7 in
      record { first = led.first; second = led.second; is = e7 ∙ ap (λ (m : Machine Job). after core_step m (push_steps b late)) e6 ∙ ap (λ (p : ℕ). after core_step set (push_steps p late)) led.second }

  misses : (m7 m8 : Machine Job) → Led a b m7 (between early late) → m8 ≡ (after_step m7 a Exchange).0 → Led a b m8 (failed early late)
  misses m7 m8 led h8 =
      record { first = led.first; second = led.second; is = h8 ∙ ap (λ (m : Machine Job). (after_step m a Exchange).0) led.is ∙ ap (λ (p : ℕ). (after_step (between early late) p Exchange).0) led.first }

  tells : (m7 : Machine Job) → Led a b m7 (between early late) → (after_step m7 a Exchange).1 ≡ Ok (Failed early)
  tells m7 led = ap (λ (m : Machine Job). (after_step m a Exchange).1) led.is ∙ ap (λ (p : ℕ). (after_step (between early late) p Exchange).1) led.first

  rests : (m now : Machine Job) → Led a b m now → is_at_rest m b ≡ is_at_rest now 1
  rests m now led = ap (λ (k : Machine Job). is_at_rest k b) led.is ∙ ap (λ (p : ℕ). is_at_rest now p) led.second

  again : {B : Type 0} (r : Result Bool B) (back : Job) (m8 m9 : Machine Job) → Led a b m8 (failed early late) → is_ok r ≡ is_ready m8 a
      → IfOk r (λ w. (w ≡ is_none m8.head) × (m9 ≡ after core_step m8 (push_steps a back))) → Led a b m9 (after core_step (failed early late) (push_steps 0 back))
  again r back m8 m9 led ready h9 =
      let may : is_ok r ≡ true = ready ∙ ap (λ (m : Machine Job). is_ready m a) led.is ∙ ap (λ (p : ℕ). is_ready (failed early late) p) led.first in
      let e9 = pushes r (is_none m8.head) m9 (after core_step m8 (push_steps a back)) may h9 in
      record { first = led.first; second = led.second; is = e9 ∙ ap (λ (m : Machine Job). after core_step m (push_steps a back)) led.is ∙ ap (λ (p : ℕ). after core_step (failed early late) (push_steps p back)) led.first }

pub returns-clause-err : goal.returns-clause-err
returns-clause-err c =
    let a = c.in_ok-first.first in
    let b = c.in_ok-second.second in
    let early = c.args.early in
    let late = c.args.late in
    let led4 = laid_out a b early late c.new-core.result c.add_party.new.self c.add_party-2.new.self c.add_room.new.self c.add_room-2.new.self c.new-core.ensures.machine c.in_ok-first.ensures.ok.0 c.in_ok-first.ensures.ok.1 c.in_ok-second.ensures.ok.0 c.in_ok-second.ensures.ok.1 c.in_ok-add_room.ensures.ok c.in_ok-add_room-2.ensures.ok in
    let led7 = pushed a b early late c.push_was_empty.result c.add_room-2.new.self c.step.new.self c.step-2.new.self c.push_was_empty.new.self led4 c.step.ensures.machine c.step-2.ensures.machine c.push_was_empty.ensures.accepted c.push_was_empty.ensures.ok in
    let led8 = misses a b early late c.push_was_empty.new.self c.step-3.new.self led7 c.step-3.ensures.machine in
    let still : is_at_rest c.step-3.new.self b ≡ true = rests a b early late c.step-3.new.self (failed early late) led8 in
    let at_rest : is_at_rest c.match-step.core b ≡ true =
    elim c.match-step.branch [
      | in-Ok-Failed w ↦
          let back = w.in-Ok-Failed.back in
          let p = w.push_was_empty-in-Ok-Failed in
          let led9 = again a b early late p.result back c.step-3.new.self p.new.self led8 p.ensures.accepted p.ensures.ok in
          ap (λ (m : Machine Job). is_at_rest m b) w.core-is ∙ rests a b early late p.new.self (after core_step (failed early late) (push_steps 0 back)) led9
      | in-Ok+in-Done-1 w ↦ ap (λ (m : Machine Job). is_at_rest m b) w.core-is ∙ still
      | in-Err-1 w ↦ ap (λ (m : Machine Job). is_at_rest m b) w.core-is ∙ still
    ] in
    only_memory c.take_all.result (λ is. true≢false (sym at_rest ∙ c.take_all.ensures.not_there.0 is))

pub returns-clause-ok : goal.returns-clause-ok
returns-clause-ok c =
    let a = c.in_ok-first.first in
    let b = c.in_ok-second.second in
    let early = c.args.early in
    let late = c.args.late in
    let led4 = laid_out a b early late c.new-core.result c.add_party.new.self c.add_party-2.new.self c.add_room.new.self c.add_room-2.new.self c.new-core.ensures.machine c.in_ok-first.ensures.ok.0 c.in_ok-first.ensures.ok.1 c.in_ok-second.ensures.ok.0 c.in_ok-second.ensures.ok.1 c.in_ok-add_room.ensures.ok c.in_ok-add_room-2.ensures.ok in
    let led7 = pushed a b early late c.push_was_empty.result c.add_room-2.new.self c.step.new.self c.step-2.new.self c.push_was_empty.new.self led4 c.step.ensures.machine c.step-2.ensures.machine c.push_was_empty.ensures.accepted c.push_was_empty.ensures.ok in
    let led8 = misses a b early late c.push_was_empty.new.self c.step-3.new.self led7 c.step-3.ensures.machine in
    let told : c.step-3.result ≡ Ok (Failed early) = c.step-3.ensures.answer ∙ tells a b early late c.push_was_empty.new.self led7 in
    let holds : held_in c.match-step.core ≡ early ∷ late ∷ [] =
    elim c.match-step.branch [
      | in-Ok-Failed w ↦
          let back = w.in-Ok-Failed.back in
          let p = w.push_was_empty-in-Ok-Failed in
          let led9 = again a b early late p.result back c.step-3.new.self p.new.self led8 p.ensures.accepted p.ensures.ok in
          let same : early ≡ back = search (rules, told) in
          ap (λ (m : Machine Job). held_in m) (w.core-is ∙ led9.is) ∙ ap (λ (j : Job). j ∷ late ∷ []) (sym same)
      | in-Ok+in-Done-1 w ↦ search (rules, told)
      | in-Err-1 w ↦ search (rules, told)
    ] in
    IfOk-weaker c.take_all.result (λ batch. batch.items ≡ held_in c.match-step.core) (λ batch. batch.items ≡ early ∷ late ∷ []) (λ batch is. is ∙ holds) c.take_all.ensures.batch
