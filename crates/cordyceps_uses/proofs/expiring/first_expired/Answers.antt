use Rattle.std.proofs.Common.{◌≤◌, ◌<◌, subst, sym}
use Rattle.cordyceps_uses.specs.declared.expiring.Timed.{Timed}
use Rattle.cordyceps_uses.proofs.States.{first_out, all_live}
use Rattle.cordyceps_uses.proofs.expiring.first_expired.Goals as goal

pub returns-then-value_of-now-clause-expired : goal.returns-then-value_of-now-clause-expired
returns-then-value_of-now-clause-expired g c =
    let x = c.value_of.ensures in
    first_out g.K.PartialEq.eq c.args.map.now c.lists_agree.ensures c.requires c.args.now c.in_ok-at.at x.entry x.value c.in_ok-at.ensures.first
    (subst (λ (t : Timed _). t.until ≤ c.args.now) (sym x.holds) c.if-value_of-now.true)

pub returns-else-value_of-now-clause-expired : goal.returns-else-value_of-now-clause-expired
returns-else-value_of-now-clause-expired g c =
    let x = c.value_of.ensures in
    all_live g.K.PartialEq.eq c.args.map.now c.lists_agree.ensures c.requires c.args.now c.in_ok-at.at x.entry x.value c.in_ok-at.ensures.first
    (subst (λ (t : Timed _). c.args.now < t.until) (sym x.holds) c.if-value_of-now.false)
