use Rattle.std.proofs.Common.{◌∙◌}
use Rattle.cordyceps_many.specs.MultiList.{list_at, lists_in}
use Rattle.cordyceps_many.proofs.Shared.{none_linked, none_shown}
use Rattle.cordyceps_many.proofs.multi_list.MultiList.new.Goals as goal

pub invariant_of-result : goal.invariant_of-result
invariant_of-result g c = rw (c.none.ensures, c.empty.ensures) (none_linked g.row.T.Denot g.row.H.Denot g.row.H-HookArray.Denot g.row.H-EndsArray.Denot g.H.Rows.count)

pub returns-clause-lists : goal.returns-clause-lists
returns-clause-lists g c = λ i. (λ j. list_at i (lists_in (c.empty.ensures j) 0 (c.none.ensures j))) ∙ none_shown g.row.T.Denot g.row.H.Denot g.row.H-HookArray.Denot g.row.H-EndsArray.Denot g.H.Rows.count i
