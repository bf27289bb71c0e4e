use Rattle.std.proofs.Common.{refl, arith}
use Rattle.cordyceps.proofs.Spots.Walk.{prev_nearer}
use Rattle.cordyceps_disk.proofs.Ahead.{walk_ends, walk_ends_first, walk_goes, walk_starts, walk_there}
use Rattle.cordyceps_disk.proofs.placing.first_above.Goals as goal

pub loop-before-init : goal.loop-before-init
loop-before-init g c = walk_starts c.get.result.now.request.sector c.args.requests.now.nodes c.args.at c.get.result.now c.next-first.result c.spots_are_distinct.ensures c.requires.order c.requires.there c.get.ensures refl c.next-first.ensures.step

pub prev-requires : goal.prev-requires
prev-requires g c = walk_there c.get.result.now.request.sector c.args.requests.now.nodes c.args.at c.loop-before.place c.loop-before.first c.spots_are_distinct.ensures c.requires.order c.loop-before.invariant

pub loop-before-smaller : goal.loop-before-smaller
loop-before-smaller g c = prev_nearer c.args.requests.now.nodes c.loop-before.place c.in-Some.before c.spots_are_distinct.ensures c.in-Some.ensures.step

pub loop-before-preserved : goal.loop-before-preserved
loop-before-preserved g c =
    walk_goes c.get.result.now.request.sector c.args.requests.now.nodes c.args.at c.loop-before.place c.loop-before.first c.spots_are_distinct.ensures c.requires.order c.loop-before.invariant c.in-Some.before c.get-in-Some.result.now c.in-Some.ensures.step c.get-in-Some.ensures (omega (arith, c.if-get-sector.false))

pub returns-then-get-sector : goal.returns-then-get-sector
returns-then-get-sector g c e rest gone =
    walk_ends c.get.result.now.request.sector c.args.requests.now.nodes c.args.at c.loop-before.place c.loop-before.first c.spots_are_distinct.ensures c.requires.order c.loop-before.invariant e rest gone c.in-Some.before c.get-in-Some.result.now c.in-Some.ensures.step c.get-in-Some.ensures c.if-get-sector.true

pub returns-in_default : goal.returns-in_default
returns-in_default g c e rest gone =
    walk_ends_first c.get.result.now.request.sector c.args.requests.now.nodes c.args.at c.loop-before.place c.loop-before.first c.spots_are_distinct.ensures c.requires.order c.loop-before.invariant e rest gone c.in_default.ensures.step
