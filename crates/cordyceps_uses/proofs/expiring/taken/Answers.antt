use Rattle.std.proofs.Common.{Some, sym, ap, subst, ◌∙◌}
use Rattle.cordyceps_uses.specs.Keyed.{IsOut}
use Rattle.cordyceps_uses.specs.Expiring.{by_use}
use Rattle.cordyceps_uses.proofs.States.{taken_timed}
use Rattle.cordyceps_uses.proofs.expiring.taken.Goals as goal

pub returns-clause-value : goal.returns-clause-value
returns-clause-value g c = c.take_out.ensures.value ∙ ap (λ x. Some x) (sym c.into_pair.ensures)

pub returns-clause-out : goal.returns-clause-out
returns-clause-out g c = subst (λ x. IsOut g.K.PartialEq.eq (by_use c.args.map.now) x (by_use c.take_out.new.map)) (sym c.into_pair.ensures) c.take_out.ensures.out

pub returns-clause-timed : goal.returns-clause-timed
returns-clause-timed g c =
    let r = c.take_out.ensures in
    taken_timed g.K.PartialEq.eq c.args.map.now c.lists_agree.ensures c.requires.timed c.args.at c.take_out.result.value r.value c.take_out.new.map r
