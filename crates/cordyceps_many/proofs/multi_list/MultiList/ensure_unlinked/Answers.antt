use Rattle.std.proofs.Common.{◌∙◌, sym}
use Rattle.cordyceps_many.specs.MultiList.{list_at}
use Rattle.cordyceps_many.proofs.Threads.{without_none}
use Rattle.cordyceps_many.proofs.multi_list.MultiList.ensure_unlinked.Goals as goal

pub returns-else-is_linked-clause-list : goal.returns-else-is_linked-clause-list
returns-else-is_linked-clause-list g c = sym (without_none c.args.at (list_at c.args.i c.args.self.now.lists) (sym c.is_linked.ensures ∙ c.if-is_linked.false))
