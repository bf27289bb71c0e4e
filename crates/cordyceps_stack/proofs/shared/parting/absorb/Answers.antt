use Rattle.std.proofs.Common.{◌≤◌, length, rules, sym, ap, ◌∙◌, subst}
use Rattle.cordyceps_shared.proofs.Standings.{told_short}
use Rattle.cordyceps_stack.proofs.SharedTheory.PartingKeeps.{joins, learns}
use Rattle.cordyceps_stack.proofs.SharedTheory.StepTells.{told}
use Rattle.cordyceps_stack.proofs.shared.parting.absorb.Goals as goal

pub join_seat-requires : goal.join_seat-requires
join_seat-requires g c =
    let r = c.requires.rest in
    let same = c.append.ensures.same in
    (search rules, search rules, search rules, search rules, joins _ _ _ _ (same.doing ∙ r.0.idle) r.1.idle (λ e. r.0.named (ap (λ p. p.share) (sym same.known) ∙ e)) c.append.ensures.joins)

pub load-requires : goal.load-requires
load-requires g c = let j = told c.join_seat.ensures in (search rules, search rules, learns _ _ _ (ap (λ m. m.0.doing) j) (subst (λ m. length m.0.known.told ≤ length m.0.known.seen) (sym j) (told_short c.append.new.seat.me.0.known.seen c.args.other.me.0.known.seen)))
