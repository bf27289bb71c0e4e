use Rattle.std.proofs.Common.{rules, arith, ap, sym, subst, set, length, ◌+◌, ◌<◌, ◌≤◌}
use Rattle.cordyceps_channel.specs.Selects.{InRow, ReceivesAt, RowFindsNone}
use Rattle.cordyceps_channel.proofs.Selecting.{as_many, row_begins, row_goes_on, row_nothing, then_one}
use Rattle.cordyceps_channel.proofs.select.Select.try_row.Goals as goal

pub loop-index-init : goal.loop-index-init
loop-index-init g c = row_begins c.args.first c.self.inside.receivers.items

pub returns-in-Ok : goal.returns-in-Ok
returns-in-Ok g c =
    let l = c.loop-index in
    let us = c.self.inside.receivers.items in
    let vs = l.self-inside.receivers.items in
    let there : l.index < length vs = omega (arith, c.loop-index-test.true, c.requires.1, ap length c.self.view_is, as_many (InRow l.none c.args.first l.index) us vs l.invariant.each) in
    let none = row_nothing l.none c.args.first l.index us vs l.invariant in
    subst (λ ws. ReceivesAt l.index c.in-Ok.value ws (set vs l.index c.try_recv.new.self)) c.self.view_is
    (then_one us vs l.index c.in-Ok.value c.index_mut.result.now c.try_recv.new.self none there (sym c.index_mut.ensures.value) c.in-Ok.ensures)

pub loop-index-preserved : goal.loop-index-preserved
loop-index-preserved g c =
    let l = c.loop-index in
    let us = c.self.inside.receivers.items in
    let vs = l.self-inside.receivers.items in
    let from : c.args.first ≤ l.index = search rules in
    let there : l.index < length vs = omega (arith, c.loop-index-test.true, c.requires.1, ap length c.self.view_is, as_many (InRow l.none c.args.first l.index) us vs l.invariant.each) in
    subst (λ y. RowFindsNone y c.args.first (l.index + 1) us (set vs l.index c.try_recv.new.self)) (sym c.worse-none.ensures)
    (row_goes_on l.none c.in-Err.why c.args.first l.index us vs c.index_mut.result.now c.try_recv.new.self l.invariant from there (sym c.index_mut.ensures.value) c.in-Err.ensures)
