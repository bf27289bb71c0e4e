use Rattle.std.proofs.Common.{◌≡◌, ℕ, length, ap, ◌∙◌, Some}
use Rattle.std.specs.Prelude.{Result}
use Rattle.cordyceps.specs.QueueCores.{Machine, after_step, new_machine, with_party, with_room, after_dequeue, found_of, Clear, Swap, Link, TryDequeueError}
use Rattle.cordyceps_uses.specs.declared.job.Job.{Job}
use Rattle.cordyceps_uses.proofs.examples.dequeue_around_link.Goals as goal

-- two parties, and a room of the first
abbrev one : Machine Job
one = with_room (with_party (with_party new_machine)) 0

-- the job is in, and not linked
abbrev swapped : Job → Machine Job
swapped job = (after_step (after_step one 0 (Clear (Some job))).0 0 Swap).0

-- the other has tried, and then the job was linked
abbrev linked : Job → Machine Job
linked job = (after_step (after_dequeue (swapped job) 1).0 0 Link).0

-- where the calls so far have led, by what each says
record Led (a b : ℕ) (m now : Machine Job) : Type 0 where
  first : a ≡ 0
  second : b ≡ 1
  is : m ≡ now

module _ (a b : ℕ) (job : Job) where
  laid_out : (m0 m1 m2 m3 : Machine Job) → m0 ≡ new_machine → a ≡ length m0.parties → m1 ≡ with_party m0 → b ≡ length m1.parties → m2 ≡ with_party m1 → m3 ≡ with_room m2 a → Led a b m3 one
  laid_out m0 m1 m2 m3 h0 ha h1 hb h2 h3 =
      let first : a ≡ 0 = ha ∙ ap (λ (m : Machine Job). length m.parties) h0 in
      let e1 : m1 ≡ with_party new_machine = h1 ∙ ap (λ (m : Machine Job). with_party m) h0 in
      let second : b ≡ 1 = hb ∙ ap (λ (m : Machine Job). length m.parties) e1 in
      let e2 : m2 ≡ with_party (with_party new_machine) = h2 ∙ ap (λ (m : Machine Job). with_party m) e1 in
      record { first = first; second = second; is = h3 ∙ ap (λ (m : Machine Job). with_room m a) e2 ∙ ap (λ (p : ℕ). with_room (with_party (with_party new_machine)) p) first }

  put_in : (m3 m4 m5 : Machine Job) → Led a b m3 one → m4 ≡ (after_step m3 a (Clear (Some job))).0 → m5 ≡ (after_step m4 a Swap).0 → Led a b m5 (swapped job)
  put_in m3 m4 m5 led h4 h5 =
      let e4 : m4 ≡ (after_step one 0 (Clear (Some job))).0 = h4 ∙ ap (λ (m : Machine Job). (after_step m a (Clear (Some job))).0) led.is ∙ ap (λ (p : ℕ). (after_step one p (Clear (Some job))).0) led.first in
      let cleared : Machine Job = (after_step one 0 (Clear (Some job))).0 in
      record { first = led.first; second = led.second; is = h5 ∙ ap (λ (m : Machine Job). (after_step m a Swap).0) e4 ∙ ap (λ (p : ℕ). (after_step cleared p Swap).0) led.first }

  finds : (m now : Machine Job) (found : Result Job TryDequeueError) → Led a b m now → found ≡ found_of (after_dequeue m b).1 → found ≡ found_of (after_dequeue now 1).1
  finds m now found led is = is ∙ ap (λ (k : Machine Job). found_of (after_dequeue k b).1) led.is ∙ ap (λ (p : ℕ). found_of (after_dequeue now p).1) led.second

  links : (m5 m6 m7 : Machine Job) → Led a b m5 (swapped job) → m6 ≡ (after_dequeue m5 b).0 → m7 ≡ (after_step m6 a Link).0 → Led a b m7 (linked job)
  links m5 m6 m7 led h6 h7 =
      let e6 : m6 ≡ (after_dequeue (swapped job) 1).0 = h6 ∙ ap (λ (m : Machine Job). (after_dequeue m b).0) led.is ∙ ap (λ (p : ℕ). (after_dequeue (swapped job) p).0) led.second in
      let tried : Machine Job = (after_dequeue (swapped job) 1).0 in
      record { first = led.first; second = led.second; is = h7 ∙ ap (λ (m : Machine Job). (after_step m a Link).0) e6 ∙ ap (λ (p : ℕ). (after_step tried p Link).0) led.first }

pub returns-clause-ok : goal.returns-clause-ok
returns-clause-ok c =
    let a = c.in_ok-sender.sender in
    let b = c.in_ok-receiver.receiver in
    let job = c.args.job in
    let laid = laid_out a b job c.new-core.result c.add_party.new.self c.add_party-2.new.self c.add_room.new.self c.new-core.ensures.machine c.in_ok-sender.ensures.ok.0 c.in_ok-sender.ensures.ok.1 c.in_ok-receiver.ensures.ok.0 c.in_ok-receiver.ensures.ok.1 c.in_ok-add_room.ensures.ok in
    let led = put_in a b job c.add_room.new.self c.step.new.self c.step-2.new.self laid c.step.ensures.machine c.step-2.ensures.machine in
    let then = links a b job c.step-2.new.self c.try_dequeue.new.self c.step-3.new.self led c.in_ok-before.ensures.ok.0 c.step-3.ensures.machine in
    (finds a b job c.step-2.new.self (swapped job) c.in_ok-before.before led c.in_ok-before.ensures.ok.1, finds a b job c.step-3.new.self (linked job) c.in_ok-after.after then c.in_ok-after.ensures.ok.1)
