use Rattle.std.proofs.Common.{◌≡◌, ◌<◌, length, eqb, false, arith}
use borrow.Author.Tests.{eq-eqb}
use Rattle.std.proofs.lemmas.Bool.Decides.{nat_tests}
use Rattle.cordyceps_base.specs.Nodes.{elements}
use Rattle.cordyceps_list.proofs.Found.{found_at, unmet_more}
use Rattle.cordyceps_list.proofs.list.find.Goals as goal

pub returns-then-id-clause-on : goal.returns-then-id-clause-on
returns-then-id-clause-on g c =
    let here = c.loop-index.index in
    let inside : here < length c.args.chain.now = omega arith in
    let there = found_at c.args.id (elements c.args.chain.now) here c.id.result c.id.ensures (eq-eqb c.id.result c.args.id c.if-id.true) c.loop-index.invariant.unmet in
    ((inside, c.loop-index.invariant.on inside), there.0)

pub returns-then-id-clause-others : goal.returns-then-id-clause-others
returns-then-id-clause-others g c = (found_at c.args.id (elements c.args.chain.now) c.loop-index.index c.id.result c.id.ensures (eq-eqb c.id.result c.args.id c.if-id.true) c.loop-index.invariant.unmet).1

pub loop-index-preserved : goal.loop-index-preserved
loop-index-preserved g c =
    let t : eqb c.id.result c.args.id ≡ false = grind (arith, nat_tests, c.if-id.false) in
    record { on = c.next-address.ensures.on; unmet = unmet_more c.args.id (elements c.args.chain.now) c.loop-index.index c.id.result c.id.ensures t c.loop-index.invariant.unmet }
