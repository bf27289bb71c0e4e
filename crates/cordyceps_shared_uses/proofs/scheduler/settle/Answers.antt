use Rattle.std.proofs.Common.{ap, ◌∙◌}
use Rattle.cordyceps_shared_uses.specs.Accounts.{Entries, joined}
use Rattle.cordyceps_shared_uses.specs.Names.{names, asleep}
use Rattle.cordyceps_shared_uses.proofs.Scheduling.{six_even}
use Rattle.cordyceps_shared_uses.proofs.scheduler.settle.Goals as goal

pub returns-clause-even : goal.returns-clause-even
returns-clause-even g c =
    let s = c.into_tasks-asleep.result in
    let r = c.into_tasks-runnable.result in
    let t = c.args.threads.0 in
    let u = c.args.threads.1 in
    let v = c.args.workers.0 in
    let w = c.args.workers.1 in
    let all =
    c.absorb-5.ensures ∙ ap (λ (z : Entries). joined z w.account) (c.absorb-4.ensures ∙ ap (λ (z : Entries). joined z v.account) (c.absorb-3.ensures ∙ ap (λ (z : Entries). joined z u) (c.absorb-2.ensures ∙ ap (λ (z : Entries). joined z t) c.absorb.ensures)))
    in
    six_even s.1 r.1 t u v.account w.account c.absorb-5.new.account (asleep s.0) (names r.0) (names v.done) (names v.kept) (names w.done) (names w.kept) all c.audit.ensures.even
    c.into_tasks-asleep.ensures.held c.into_tasks-runnable.ensures.held v.ran w.ran
