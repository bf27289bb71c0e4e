use Rattle.std.proofs.Common.{rules}
use Rattle.cordyceps_stack.proofs.SharedTheory.PartsJoin.{took_all}
use Rattle.cordyceps_stack.proofs.SharedTheory.StepTells.{told}
use Rattle.cordyceps_stack.proofs.SharedTheory.StepsKeep.{takes_whole}
use Rattle.cordyceps_stack.proofs.shared.steps.take.Goals as goal

pub swap-requires : goal.swap-requires
swap-requires g c = (search rules, search rules, takes_whole _ _ _ c.requires.rest.idle c.requires.rest.named)

pub returns-clause-took : goal.returns-clause-took
returns-clause-took g c =
    took_all c.args.words.now.table_id.slots c.swap.result c.args.seat.now.me c.swap.new.seat.me c.requires.rest ((told c.swap.ensures) c.requires.rest.idle)
