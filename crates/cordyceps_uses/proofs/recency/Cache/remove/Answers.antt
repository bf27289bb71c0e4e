use Rattle.std.proofs.Common.{◌≡◌, sym, ap, subst, arith, ◌∙◌}
use Rattle.std.specs.Map.{remove_entry}
use Rattle.cordyceps_uses.specs.Keyed.{order}
use Rattle.cordyceps_uses.specs.Recency.{Held}
use Rattle.cordyceps_uses.proofs.ByKey.{left_by_key, gone_by_key}
use Rattle.cordyceps_uses.proofs.Ordered.{none_cut, shrunk}
use Rattle.cordyceps_uses.proofs.recency.Cache.remove.Goals as goal

pub returns-in_err-at-clause-entries : goal.returns-in_err-at-clause-entries
returns-in_err-at-clause-entries g c =
    let test = g.K.PartialEq.eq c.args.key.now in
    subst (λ (h : Held _ _). h.entries ≡ remove_entry test h.entries) c.self.view_is (sym (none_cut test (order 0 c.self.inside.map) c.in_err-at.ensures.found))

pub invariant_of-self : goal.invariant_of-self
invariant_of-self g c =
    let less = shrunk g.K.PartialEq.eq (order 0 c.self.inside.map) c.take_out.result.value (order 0 c.take_out.new.map) c.take_out.ensures.out in let fits = c.self.invariant.fits in
    record { some = c.self.invariant.some; fits = omega (arith, less, fits) }

pub returns-clause-entries : goal.returns-clause-entries
returns-clause-entries g c =
    left_by_key g.K.PartialEq.eq g.met.K.Eq.laws c.self.inside.map c.args.key.now c.in_ok-at.at c.in_ok-at.ensures.found 1 c.take_out.result.value c.take_out.new.map c.take_out.ensures 0 (omega arith)
    ∙ ap (λ (h : Held _ _). remove_entry (g.K.PartialEq.eq c.args.key.now) h.entries) c.self.view_is

pub returns-clause-gone : goal.returns-clause-gone
returns-clause-gone g c = gone_by_key g.K.PartialEq.eq g.met.K.Eq.laws c.self.inside.map c.args.key.now c.in_ok-at.at c.in_ok-at.ensures.found 1 c.take_out.result.value c.take_out.new.map c.take_out.ensures
