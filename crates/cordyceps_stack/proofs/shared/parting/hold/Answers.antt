use Rattle.std.proofs.Common.{subst, rules}
use Rattle.cordyceps_stack.specs.Shared.Parts.{HoldsFirst}
use Rattle.cordyceps_stack.proofs.SharedTheory.PartsJoin.{held_first}
use Rattle.cordyceps_stack.proofs.SharedTheory.StepTells.{told}
use Rattle.cordyceps_stack.proofs.SharedTheory.StepsKeep.{holds_first}
use Rattle.cordyceps_stack.proofs.shared.parting.hold.Goals as goal

pub load-requires : goal.load-requires
load-requires g c = (search rules, search rules, holds_first _ _ _ g.B.Count.rooms _ c.requires.rest.0.idle)

pub returns-clause-holds : goal.returns-clause-holds
returns-clause-holds g c =
    let l = told c.load.ensures in
    subst (λ n. HoldsFirst n c.args.seat.now.me c.load.new.seat.me) c.requires.rest.1 (held_first g.B.Count.rooms c.args.words.now.table_id.slots c.args.seat.now.me c.load.new.seat.me c.requires.rest.0 l.0 l.1)
