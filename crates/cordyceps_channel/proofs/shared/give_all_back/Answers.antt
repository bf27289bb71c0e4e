use Rattle.std.proofs.Common.{◌∙◌, [], subst, arith}
use Rattle.cordyceps_shared.proofs.Acting.{acts_none, acts_then}
use Rattle.cordyceps_queue.specs.Shared.Calls.{GivesAllBack}
use Rattle.cordyceps_channel.proofs.Received.{gives_all}
use Rattle.cordyceps_channel.proofs.shared.give_all_back.Goals as goal

pub loop-init : goal.loop-init
loop-init g c = acts_none c.args.party.now

pub give_all_back-requires : goal.give_all_back-requires
give_all_back-requires g c = c.loop.invariant.table ∙ c.requires

pub returns-then-give_all_back-clause-nothing : goal.returns-then-give_all_back-clause-nothing
returns-then-give_all_back-clause-nothing g c =
    let v = c.loop.party in
    let w = c.give_all_back.new.party in
    acts_then c.args.party.now v w [] [] c.loop.invariant (gives_all c.give_all_back.result v w c.give_all_back.ensures.answer)

pub returns-then-give_all_back-clause-gave : goal.returns-then-give_all_back-clause-gave
returns-then-give_all_back-clause-gave g c = λ _.
    let gave = subst (λ b. GivesAllBack b c.loop.party c.give_all_back.new.party) c.if-give_all_back.true c.give_all_back.ensures.answer in
    (omega (arith, c.rooms.ensures.count, c.if-rooms-eq0.false), gave.1)

pub loop-preserved : goal.loop-preserved
loop-preserved g c =
    let v = c.loop.party in
    let w = c.give_all_back.new.party in
    acts_then c.args.party.now v w [] [] c.loop.invariant (gives_all c.give_all_back.result v w c.give_all_back.ensures.answer)

pub returns-clause-nothing : goal.returns-clause-nothing
returns-clause-nothing g c = c.loop.invariant
