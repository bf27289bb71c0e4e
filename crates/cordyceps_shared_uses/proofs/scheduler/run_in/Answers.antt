use Rattle.std.proofs.Common.{ℕ, ◌++◌, ap, sym, ◌∙◌, arith}
use Rattle.std.proofs.lemmas.List.{map-id}
use Rattle.cordyceps.specs.Elements.Element.{Elements}
use Rattle.cordyceps.specs.Parties.Counts.{tally}
use Rattle.cordyceps.specs.Parties.Histories.{plain}
use Rattle.cordyceps.specs.Queues.History.{held}
use Rattle.cordyceps_shared_uses.specs.declared.timers.Timer.{Timer}
use Rattle.cordyceps_shared_uses.specs.declared.scheduler.work.Work.{Work}
use Rattle.cordyceps_shared_uses.specs.Accounts.{Entries}
use Rattle.cordyceps_shared_uses.specs.Names.{names, asleep, by_birth}
use Rattle.cordyceps_shared_uses.specs.declared.scheduler.name.Name.{Name}
use Rattle.cordyceps_shared_uses.proofs.Scheduling.{found, all_found}
use Rattle.cordyceps_shared_uses.proofs.scheduler.run_in.Goals as goal

pub returns-clause-each_once : goal.returns-clause-each_once
returns-clause-each_once g c =
    let sent = c.in_ok-ended.ensures.sent in
    let came = c.in_ok-ended.ensures.came in
    let left = held (plain c.absorb.new.party.seen) in
    let o = c.settle.result in
    let all = found c.in-Ok.ensures.1 c.split.ensures came.took sent.sent c.absorb.ensures in
    let on_way = c.settle.ensures.on_way ∙ (c.close-on_way.ensures.elements ∙ map-id left) in
    all_found (names c.args.tasks) sent.woken came.tasks (names o.on_way) (asleep o.asleep) (names o.runnable) (names o.done.0) (names o.done.1) (names o.kept.0) (names o.kept.1)
    (all.2 ∙ ap (λ (z : Elements (Timer Work)). came.tasks ++ names z) (sym on_way))
    (λ f.
    let birth : Name → ℕ = by_birth f in
    omega (
      arith,
      c.settle.ensures.even f,
      sent.moved.got birth,
      sent.moved.gave birth,
      came.moved.got birth,
      came.moved.gave birth,
      ap (λ (z : Entries). tally birth z.got) c.cut-sleepers.ensures.submitter,
      ap (λ (z : Entries). tally birth z.gave) c.cut-sleepers.ensures.submitter,
      ap (λ (z : Entries). tally birth z.got) c.cut-sleepers.ensures.dispatcher,
      ap (λ (z : Entries). tally birth z.gave) c.cut-sleepers.ensures.dispatcher,
    ))
