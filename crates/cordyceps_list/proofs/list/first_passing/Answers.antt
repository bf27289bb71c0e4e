use Rattle.std.proofs.Common.{◌≡◌, ℕ, ◌+◌, Bool, true, false, length, drop, refl, subst, arith}
use Rattle.std.proofs.lemmas.List.{length-map}
use Rattle.std.specs.Fn.{CalledAt}
use Rattle.cordyceps_base.specs.Element.{values}
use Rattle.cordyceps_base.specs.Nodes.{elements}
use Rattle.cordyceps_list.specs.Walks.{Walks}
use Rattle.cordyceps_list.proofs.Asking.{may_ask_here, may_ask_on}
use Rattle.cordyceps_list.proofs.Walking.{walk_end, walk_stop, walk_step}
use Rattle.cordyceps_list.proofs.list.first_passing.Goals as goal

pub returns-then-predicate-clause-walks : goal.returns-then-predicate-clause-walks
returns-then-predicate-clause-walks g c =
    let R = CalledAt g.F.FnMut in
    let xs = values (elements c.args.chain.now) in
    let p = c.loop-finger.finger.index in
    let last = c.predicate.new.self in
    let call : R c.loop-finger.predicate c.get.result.now true last = subst (λ (b : Bool). R c.loop-finger.predicate c.get.result.now b last) c.if-predicate.true (record { shown = c.get.result; shows = refl; called = c.predicate.ensures }) in
    let w = c.loop-finger.invariant.walks 0 last (walk_stop R xs p c.get.result.now c.loop-finger.predicate last c.get.ensures call) in
    subst (λ (n : ℕ). Walks R c.args.predicate.now (drop c.args.from.index xs) n last) (omega arith) w

pub loop-finger-preserved : goal.loop-finger-preserved
loop-finger-preserved g c =
    let R = CalledAt g.F.FnMut in
    let xs = values (elements c.args.chain.now) in
    let p = c.loop-finger.finger.index in
    let next = c.predicate.new.self in
    let call : R c.loop-finger.predicate c.get.result.now false next = subst (λ (b : Bool). R c.loop-finger.predicate c.get.result.now b next) c.if-predicate.false (record { shown = c.get.result; shows = refl; called = c.predicate.ensures }) in
    record {
      callable = may_ask_on g.F.FnMut xs p c.get.result.now c.loop-finger.predicate next c.get.ensures call c.loop-finger.invariant.callable;
      fits = c.next-finger.ensures.on;
      inside = omega arith;
      from = omega arith;
      walks = λ n last w. subst (λ (m : ℕ). Walks R c.args.predicate.now (drop c.args.from.index xs) m last) (omega arith) (c.loop-finger.invariant.walks (n + 1) last (walk_step R xs p n c.get.result.now c.loop-finger.predicate next last c.get.ensures call w));
    }

pub returns-clause-walks : goal.returns-clause-walks
returns-clause-walks g c =
    let R = CalledAt g.F.FnMut in
    let nodes = c.args.chain.now in
    let s = elements nodes in
    let xs = values s in
    let last = c.loop-finger.predicate in
    let at_end : length xs ≡ c.loop-finger.finger.index = omega (arith, length-map s (λ e. e.value), length-map nodes (λ n. n.1), c.loop-finger.invariant.inside) in
    let w = c.loop-finger.invariant.walks 0 last (subst (λ (k : ℕ). Walks R last (drop k xs) 0 last) at_end (walk_end R xs last)) in
    subst (λ (n : ℕ). Walks R c.args.predicate.now (drop c.args.from.index xs) n last) (omega arith) w

pub predicate-requires : goal.predicate-requires
predicate-requires g c = may_ask_here g.F.FnMut (values (elements c.args.chain.now)) c.loop-finger.finger.index c.get.result.now c.loop-finger.predicate c.get.ensures c.loop-finger.invariant.callable c.get.result refl
