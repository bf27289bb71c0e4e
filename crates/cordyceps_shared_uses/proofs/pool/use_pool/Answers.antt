use Rattle.std.proofs.Common.{refl}
use Rattle.cordyceps.specs.Elements.Element.{Element}
use Rattle.freelist.proofs.Meetings.{from_new}
use Rattle.cordyceps_shared_uses.specs.declared.pool.Block.{Block}
use Rattle.cordyceps_shared_uses.proofs.pool.use_pool.Goals as goal

pub returns-clause-uses : goal.returns-clause-uses
returns-clause-uses c =
    from_new (λ (h : Element Block). h) c.args.commands.now c.args.pool.now c.args.blocks c.args.party c.args.party c.new-user.result c.carry_out.new.user c.retire.result.0 c.retire.result.1
    refl c.new-user.ensures c.carry_out.ensures c.retire.ensures.carries
