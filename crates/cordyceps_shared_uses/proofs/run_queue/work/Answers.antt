use Rattle.std.proofs.Common.{List, ◌++◌, map, reverse, sym, ◌∙◌, subst}
use Rattle.std.proofs.lemmas.List.{map-id}
use Rattle.cordyceps.specs.Elements.Element.{Element}
use Rattle.cordyceps_shared_uses.specs.RunQueue.{ran, Worked}
use Rattle.cordyceps_shared_uses.specs.declared.run_queue.Job.{Job}
use Rattle.cordyceps_shared_uses.proofs.Working.{worked_none, worked_turn, worked_idle}
use Rattle.cordyceps_shared_uses.proofs.run_queue.work.Goals as goal

pub loop-init : goal.loop-init
loop-init g c = subst (λ z. Worked z c.args.party c.args.party) (sym c.new-done.ensures) (worked_none c.args.party)

pub take_all-batch-requires : goal.take_all-batch-requires
take_all-batch-requires g c = c.loop.invariant.took.acts.table ∙ c.requires

pub loop-preserved-then-not-is_empty : goal.loop-preserved-then-not-is_empty
loop-preserved-then-not-is_empty g c =
    let (batch, is, takes) = c.take_all-batch.ensures in
    let all = worked_turn c.loop.done batch c.rooms-rooms.result c.give_back.result c.args.party c.loop.party c.take_all-batch.new.party c.give_back.new.party c.loop.invariant takes
    c.give_back.ensures.answer in
    let turn = subst (λ (z : List (Element Job)). Worked (reverse (map ran z) ++ c.loop.done) c.args.party c.give_back.new.party) (sym (is ∙ map-id batch)) all in
    subst (λ (z : List (Element Job)). Worked z c.args.party c.give_back.new.party) (sym c.run_each.ensures) turn

pub returns-then-is_end : goal.returns-then-is_end
returns-then-is_end g c =
    let (batch, is, takes) = c.take_all-batch.ensures in
    let all = worked_turn c.loop.done batch c.rooms-rooms.result c.give_back.result c.args.party c.loop.party c.take_all-batch.new.party c.give_back.new.party c.loop.invariant takes
    c.give_back.ensures.answer in
    let turn = subst (λ (z : List (Element Job)). Worked (reverse (map ran z) ++ c.loop.done) c.args.party c.give_back.new.party) (sym (is ∙ map-id batch)) all in
    worked_idle c.loop.done c.take_all-batch.result c.args.party c.give_back.new.party (sym c.is_empty.ensures ∙ c.if-not-is_empty.false) turn

pub loop-preserved : goal.loop-preserved
loop-preserved g c =
    let (batch, is, takes) = c.take_all-batch.ensures in
    let all = worked_turn c.loop.done batch c.rooms-rooms.result c.give_back.result c.args.party c.loop.party c.take_all-batch.new.party c.give_back.new.party c.loop.invariant takes
    c.give_back.ensures.answer in
    let turn = subst (λ (z : List (Element Job)). Worked (reverse (map ran z) ++ c.loop.done) c.args.party c.give_back.new.party) (sym (is ∙ map-id batch)) all in
    worked_idle c.loop.done c.take_all-batch.result c.args.party c.give_back.new.party (sym c.is_empty.ensures ∙ c.if-not-is_empty.false) turn
