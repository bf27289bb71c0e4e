use Rattle.std.proofs.Common.{◌≡◌, Option, None, MatchOption, sym, subst, ◌∙◌}
use Rattle.std.specs.Map.{lookup_entry}
use denote.RawPtr.{Ptr}
use Rattle.cordyceps_uses.specs.Keyed.{order, IsAt}
use Rattle.cordyceps_uses.proofs.ByKey.{absent_in, spot_listed, spot_apart}
use Rattle.cordyceps_uses.proofs.keyed.spot_in.Goals as goal

pub returns-in_err-at-clause-found : goal.returns-in_err-at-clause-found
returns-in_err-at-clause-found g c =
    let eq = g.K.PartialEq.eq in let m = c.args.map.now in let i = c.args.i in let k = c.args.key.now in
    subst (λ (o : Option Ptr). MatchOption o (lookup_entry (eq k) (order i m) ≡ None) (λ p. IsAt eq i m k p)) (sym c.from_residual.ensures)
    (absent_in eq m c.lists_agree.ensures i k c.in_err-at.ensures.found)

pub returns-then-is_linked-clause-found : goal.returns-then-is_linked-clause-found
returns-then-is_linked-clause-found g c = spot_listed g.K.PartialEq.eq c.args.map.now c.lists_agree.ensures c.args.i c.args.key.now c.in_ok-at.at c.in_ok-at.ensures.found (sym c.is_linked.ensures ∙ c.if-is_linked.true)

pub returns-else-is_linked-clause-found : goal.returns-else-is_linked-clause-found
returns-else-is_linked-clause-found g c = spot_apart g.K.PartialEq.eq c.args.map.now c.lists_agree.ensures c.args.i c.args.key.now c.in_ok-at.at c.in_ok-at.ensures.found (sym c.is_linked.ensures ∙ c.if-is_linked.false)
