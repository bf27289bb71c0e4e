use Rattle.std.proofs.Common.{rules}
use Rattle.cordyceps_list.proofs.Asking.{may_ask_some}
use Rattle.cordyceps_list.proofs.Draining.{drains_on}
use Rattle.cordyceps_list.proofs.filter.DrainFilterIterator.next.Goals as goal

pub remove_first_by-removed-requires : goal.remove_first_by-removed-requires
remove_first_by-removed-requires g c = may_ask_some g.F.FnMut _ _ (rw (c.at_place-cursor.ensures.place, c.at_place-cursor.ensures.elements) c.requires)

pub returns-clause-steps : goal.returns-clause-steps
returns-clause-steps g c = search rules

pub returns-clause-goes : goal.returns-clause-goes
returns-clause-goes g c = drains_on g.F.FnMut g.T.Linked.element c.args.self.now _ c.remove_first_by-removed.result c.requires (search rules)
