use Rattle.std.proofs.Common.{◌≡◌, ◌+◌, ◌<◌, ◌≤◌, length, ap, sym, ◌∙◌, subst, arith, ◌++◌, ◌∷◌, []}
use Rattle.std.specs.Prelude.{slice_get, None, Some, vec_len, vec_capacity}
use Rattle.cordyceps_stack.specs.declared.cores.stage.Stage.TheVariants.{Rest}
use Rattle.cordyceps_stack.specs.History.{Taken}
use Rattle.cordyceps_shared.specs.Rooms.{occupied}
use Rattle.cordyceps_stack.specs.Cores.Machine.{Machine}
use Rattle.cordyceps_stack.proofs.CoreTheory.AlonePush.{at_rest}
use Rattle.cordyceps_stack.proofs.CoreTheory.AloneTakeAll.{Clearing, clear_start, clear_next, clear_counts, clear_within, clear_end, clear_machine, clear_batch}
use Rattle.cordyceps_stack.proofs.CoreTheory.WalkCalls.{take_hands}
use Rattle.cordyceps_stack.proofs.cores.calls.TransferCore.take_all.Goals as goal

pub loop-at-init : goal.loop-at-init
loop-at-init g c =
    let p = c.args.party in
    let m : Machine g.row.E.Denot = record { head = c.self.inside.head; rooms = c.self.inside.rooms; parties = c.self.inside.parties.items } in
    let at : slice_get m.parties p ≡ Some Rest = ap (λ (n : Machine g.row.E.Denot). slice_get n.parties p) c.self.view_is ∙ at_rest c.args.self.now p (sym c.is_at_rest.ensures ∙ c.if-not-is_at_rest.false) in
    let start : Clearing c.args.self.now p m.rooms m.parties m.head [] = subst (λ (first : Machine g.row.E.Denot). Clearing first p m.rooms m.parties m.head []) c.self.view_is (clear_start m p c.self.invariant at) in
    record {
      clearing = rw (c.take-at.ensures.value, c.in-Ok.ensures.items) start;
      empty = c.take-at.ensures.after;
      room = omega (arith, c.in-Ok.ensures.len, c.in-Ok.ensures.capacity, c.occupied.ensures);
    }

pub next-at-requires : goal.next-at-requires
next-at-requires g c =
    let i = c.loop-at.self-inside in
    (clear_within c.args.self.now c.args.party c.in-Some.room i.rooms i.parties.items c.loop-at.batch.items (rw c.in-Some.is at c.loop-at.invariant.clearing)).within

pub free-requires-clause-within : goal.free-requires-clause-within
free-requires-clause-within g c =
    let i = c.loop-at.self-inside in
    (clear_within c.args.self.now c.args.party c.in-Some.room i.rooms i.parties.items c.loop-at.batch.items (rw c.in-Some.is at c.loop-at.invariant.clearing)).within

pub free-requires-clause-full : goal.free-requires-clause-full
free-requires-clause-full g c =
    let i = c.loop-at.self-inside in
    (clear_within c.args.self.now c.args.party c.in-Some.room i.rooms i.parties.items c.loop-at.batch.items (rw c.in-Some.is at c.loop-at.invariant.clearing)).full

pub push_reserved-requires : goal.push_reserved-requires
push_reserved-requires g c =
    let i = c.loop-at.self-inside in
    let some : 0 < occupied i.rooms = (clear_within c.args.self.now c.args.party c.in-Some.room i.rooms i.parties.items c.loop-at.batch.items (rw c.in-Some.is at c.loop-at.invariant.clearing)).some_used in
    let room : vec_len c.loop-at.batch + occupied i.rooms ≤ vec_capacity c.loop-at.batch = c.loop-at.invariant.room in
    omega (arith, some, room)

pub loop-at-smaller : goal.loop-at-smaller
loop-at-smaller g c =
    let i = c.loop-at.self-inside in
    let count = clear_counts c.args.self.now c.args.party c.in-Some.room i.rooms i.parties.items c.loop-at.batch.items c.free.new.self (rw c.in-Some.is at c.loop-at.invariant.clearing) c.free.ensures.rooms in
    omega (arith, count)

pub loop-at-preserved : goal.loop-at-preserved
loop-at-preserved g c =
    let i = c.loop-at.self-inside in
    let clearing = rw c.in-Some.is at c.loop-at.invariant.clearing in
    let count : occupied c.free.new.self + 1 ≡ occupied i.rooms = clear_counts c.args.self.now c.args.party c.in-Some.room i.rooms i.parties.items c.loop-at.batch.items c.free.new.self clearing c.free.ensures.rooms in
    let room : vec_len c.loop-at.batch + occupied i.rooms ≤ vec_capacity c.loop-at.batch = c.loop-at.invariant.room in
    record {
      clearing = rw c.push_reserved.ensures.items (clear_next c.args.self.now c.args.party c.in-Some.room i.rooms i.parties.items c.loop-at.batch.items c.free.new.self c.next-at.result c.free.result clearing c.free.ensures.rooms c.next-at.ensures c.free.ensures.element);
      empty = c.loop-at.invariant.empty;
      room = omega (arith, count, room, c.push_reserved.ensures.len, c.push_reserved.ensures.capacity);
    }

pub invariant_of-self : goal.invariant_of-self
invariant_of-self g c =
    let i = c.loop-at.self-inside in
    let s = c.loop-at.invariant.clearing.sound in
    rw c.loop-at.invariant.empty (s.0 ++ Taken c.args.party c.loop-at.batch.items ∷ [], (clear_end c.args.self.now c.args.party i.rooms i.parties.items c.loop-at.batch.items (rw c.in_default-at.is at c.loop-at.invariant.clearing) s.0 s.1).1)

pub returns-clause-history : goal.returns-clause-history
returns-clause-history g c = λ h was.
    let i = c.loop-at.self-inside in
    rw c.loop-at.invariant.empty (clear_end c.args.self.now c.args.party i.rooms i.parties.items c.loop-at.batch.items (rw c.in_default-at.is at c.loop-at.invariant.clearing) h was)

pub returns-clause-ok : goal.returns-clause-ok
returns-clause-ok g c =
    let i = c.loop-at.self-inside in
    rw c.loop-at.invariant.empty (clear_machine c.args.self.now c.args.party i.rooms i.parties.items c.loop-at.batch.items (rw c.in_default-at.is at c.loop-at.invariant.clearing))

pub returns-clause-walks : goal.returns-clause-walks
returns-clause-walks g c = λ h was.
    let i = c.loop-at.self-inside in
    let p = c.args.party in
    let clearing = rw c.in_default-at.is at c.loop-at.invariant.clearing in
    let new : Machine g.row.E.Denot = record { head = None; rooms = i.rooms; parties = i.parties.items } in
    let from = at_rest c.args.self.now p (sym c.is_at_rest.ensures ∙ c.if-not-is_at_rest.false) in
    let ran = clear_machine c.args.self.now p i.rooms i.parties.items c.loop-at.batch.items clearing in
    rw c.loop-at.invariant.empty (take_hands h c.args.self.now new p (length c.loop-at.batch.items) c.loop-at.batch.items was from c.loop-at.invariant.clearing.at_rest ran)

pub returns-clause-batch : goal.returns-clause-batch
returns-clause-batch g c =
    let i = c.loop-at.self-inside in
    clear_batch c.args.self.now c.args.party i.rooms i.parties.items c.loop-at.batch.items (rw c.in_default-at.is at c.loop-at.invariant.clearing)
