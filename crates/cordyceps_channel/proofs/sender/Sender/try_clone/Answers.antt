use Rattle.std.proofs.Common.{◌∙◌, ap, sym}
use Rattle.cordyceps_shared.specs.Standings.{name_of}
use Rattle.cordyceps_channel.proofs.Registering.{names_differ, opened_name}
use Rattle.cordyceps_channel.proofs.sender.Sender.try_clone.Goals as goal

pub returns-clause-apart : goal.returns-clause-apart
returns-clause-apart g c = λ e.
    let opened = c.in_ok-opened.opened in
    let mine = opened_name _ c.self.inside.number c.self.inside.party c.self.inside.home c.self.invariant.opened in
    let other = opened_name _ opened.number opened.party opened.home c.in_ok-opened.ensures.opened in
    names_differ opened.number c.self.inside.number c.if-opened-self.false (sym other ∙ (ap (λ p. name_of p) (sym c.of.ensures) ∙ (e ∙ (ap (λ p. name_of p) (sym c.self.view_is) ∙ mine))))
