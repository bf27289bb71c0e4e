use Rattle.std.proofs.Common.{◌≡◌, ◌+◌, take, sym, subst, arith, suc, ap, ◌∙◌}
use Rattle.freelist.specs.Users.{CarriesOut}
use Rattle.std.proofs.Math.Seq.{take-suc}
use Rattle.freelist.proofs.Calls.{carries_none, carries_then}
use Rattle.freelist.proofs.laws.carry_out.Goals as goal

pub loop-command-init : goal.loop-command-init
loop-command-init g c = carries_none g.T.Linked.element c.args.user.now

pub loop-command-preserved : goal.loop-command-preserved
loop-command-preserved g c =
    let el = g.T.Linked.element in
    let i = c.loop-command.command-index in
    let l = c.loop-command in
    let next : i + 1 ≡ suc i = omega arith in
    let both = carries_then el (take i c.args.commands.now) _ c.args.user.now l.user c.step.new.self l.invariant c.step.ensures in
    subst (λ z. CarriesOut el z c.args.user.now c.step.new.self) (sym (ap (λ n. take n c.args.commands.now) next ∙ take-suc c.args.commands.now i _ c.loop-command-test.true)) both
