use Rattle.std.proofs.Common.{sym, subst}
use Rattle.cordyceps_base.specs.DoubleLines.{IsLeft}
use Rattle.cordyceps_base.proofs.LineWalks.{all_left, entries_flat}
use Rattle.cordyceps_base.proofs.double_lines.Lines.entries.Goals as goal

pub invariant_of-result : goal.invariant_of-result
invariant_of-result g c =
    let i = c.self.inside in
    subst (λ p. IsLeft i.firsts i.count 0 p i.row.blocks) (sym c.null.ensures)
    (all_left i.firsts i.count i.row.blocks c.self.invariant)

pub returns : goal.returns
returns g c =
    let i = c.self.inside in
    entries_flat i.firsts i.count i.row.blocks c.args.self.now c.self.invariant c.self.view_is
