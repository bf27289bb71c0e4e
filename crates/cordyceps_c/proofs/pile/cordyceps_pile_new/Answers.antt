use Rattle.std.proofs.Common.{sym, subst}
use Rattle.cordyceps_c_shared.specs.Piles.{IsNew}
use Rattle.cordyceps_c.proofs.pile.cordyceps_pile_new.Goals as goal

pub returns-in-Ok : goal.returns-in-Ok
returns-in-Ok c =
    rw c.in_default.ensures.taken
    (c.in-Ok.pile.value, c.put-in-Ok.ensures, subst (IsNew c.args.rooms) (sym c.in-Ok.ensures.ok) c.in-Some-new.ensures)
