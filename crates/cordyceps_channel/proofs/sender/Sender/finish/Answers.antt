use Rattle.std.proofs.Common.{◌∙◌, ap, subst, sym}
use Rattle.cordyceps_shared.specs.Histories.{plain}
use Rattle.cordyceps_channel.specs.Channels.{IsNamed}
use Rattle.cordyceps_channel.proofs.sender.Sender.finish.Goals as goal

pub of-requires : goal.of-requires
of-requires g c =
    let r = c.receipt-receipt.ensures.receipt in
    let is = sym (c.of-party.ensures ∙ (c.sender.view_is ∙ c.receipt-receipt.ensures.same)) in
    record {
      table = r.0 ∙ ap (λ p. p.table) is;
      told = r.1 ∙ ap (λ p. plain p.seen) is;
      named = subst (λ p. IsNamed p) (sym c.of-party.ensures) c.sender.invariant.opened.back.named;
    }
