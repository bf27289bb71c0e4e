use Rattle.std.proofs.Common.{◌≡◌, ◌∙◌, arith}
use Rattle.cordyceps_disk.specs.Pairs.{ahead_of}
use Rattle.cordyceps_disk.proofs.Ahead.{goes_after, goes_behind, goes_below, goes_first}
use Rattle.cordyceps_disk.proofs.placing.left_ahead.Goals as goal
use Rattle.cordyceps_disk.proofs.placing.left_ahead.Goals.{in-Some+else-get-head-2, in_default}

pub returns-then-get-head : goal.returns-then-get-head
returns-then-get-head g c e rest gone =
    c.requires.ahead ∙ goes_below c.args.head c.args.requests.now.nodes rest c.args.at e c.get.result.now c.spots_are_distinct.ensures c.requires.order gone c.get.ensures c.if-get-head.true

pub returns-then-get-head-2 : goal.returns-then-get-head-2
returns-then-get-head-2 g c e rest gone =
    c.requires.ahead
    ∙ goes_behind c.args.head c.args.requests.now.nodes rest c.args.at e c.get.result.now c.spots_are_distinct.ensures c.requires.order gone c.get.ensures c.in-Some.before c.get-in-Some.result.now c.in-Some.ensures.step c.get-in-Some.ensures c.if-get-head-2.true

pub returns : goal.returns
returns g c e rest gone =
    elim c.match-prev.branch as (λ _. c.next.result ≡ ahead_of c.args.head rest) [
      | in-Some+else-get-head-2 w ↦
          goes_after c.args.head c.args.requests.now.nodes rest c.args.at e c.get.result.now c.spots_are_distinct.ensures c.requires.order gone c.get.ensures c.next.result c.next.ensures.step (omega (arith, c.if-get-head.false)) w.in-Some.before w.get-in-Some.result.now w.in-Some.ensures.step w.get-in-Some.ensures (omega (arith, w.if-get-head-2.false))
      | in_default w ↦
          goes_first c.args.head c.args.requests.now.nodes rest c.args.at e c.get.result.now c.spots_are_distinct.ensures c.requires.order gone c.get.ensures c.next.result c.next.ensures.step (omega (arith, c.if-get-head.false)) w.in_default.ensures.step
    ]
