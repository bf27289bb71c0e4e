use Rattle.std.proofs.Common.{List, ◌++◌, map, reverse, ap, sym, ◌∙◌, subst}
use Rattle.std.proofs.lemmas.List.{map-id}
use Rattle.cordyceps.specs.Elements.Element.{Element}
use Rattle.cordyceps.specs.Parties.Counts.{Same}
use Rattle.cordyceps.specs.Parties.Histories.{plain}
use Rattle.cordyceps.specs.Transfers.History.{held}
use Rattle.cordyceps_shared_uses.specs.RunQueue.{ran}
use Rattle.cordyceps_shared_uses.specs.declared.run_queue.Job.{Job}
use Rattle.cordyceps_shared_uses.proofs.Working.{all_done}
use Rattle.cordyceps_shared_uses.proofs.run_queue.run_all.Goals as goal

pub returns-clause-each_once : goal.returns-clause-each_once
returns-clause-each_once g c =
    let last = c.absorb-2.new.party in
    let (sent, mine, theirs) = c.in_ok-ended.ensures.ended in
    let all = all_done c.in-Ok.queue c.args.rooms c.args.jobs c.in_ok-ended.ended.workers.0.done c.in_ok-ended.ended.workers.1.done c.in-Ok.party c.split-submitter.new.party c.split-submitter.result
    c.split-other.new.party c.split-other.result c.in_ok-ended.ended.workers.0.party c.in_ok-ended.ended.workers.1.party c.in_ok-ended.ended.submitter c.absorb.new.party last c.in-Ok.ensures.0
    c.split-submitter.ensures c.split-other.ensures sent mine theirs c.absorb.ensures c.absorb-2.ensures in
    let left = c.close-rest.ensures ∙ map-id (reverse (held (plain last.seen))) in
    let done = c.add_all.ensures ∙ ap (λ (z : List (Element Job)). reverse c.in_ok-ended.ended.workers.1.done ++ z)
    (c.run_each.ensures ∙ ap (λ (z : List (Element Job)). reverse (map ran z) ++ c.in_ok-ended.ended.workers.0.done) left) in
    subst (λ (z : List (Element Job)). Same (map ran c.args.jobs) z) (sym done) all.2
