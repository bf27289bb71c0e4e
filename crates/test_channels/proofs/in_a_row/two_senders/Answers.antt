use Rattle.std.proofs.Common.{[], ◌∷◌, ◌++◌, ◌∙◌, ap, length, sym, subst, IfOk}
use Rattle.cordyceps_channel.specs.Channels.{AreApart, HaveChannel}
use Rattle.test_channels.proofs.Two.{none_before}
use Rattle.test_channels.proofs.in_a_row.two_senders.Goals as goal

pub returns-clause-apart : goal.returns-clause-apart
returns-clause-apart g c =
    let made = c.made-senders.result in
    let have : HaveChannel 8 2 made.0.items made.1 = subst (λ r. IfOk r (λ ends. HaveChannel 8 2 ends.0.items ends.1)) c.made-senders.ensures c.channel_with_senders.ensures in
    let a = c.in-Some-pop.first in
    let b = c.in-Some.second in
    let all = c.in-Some.ensures.items ∙ ap (λ l. l ++ b ∷ []) c.in-Some-pop.ensures.items in
    let none = none_before c.pop-2.new.self.items a b (ap (λ l. length l) (sym all) ∙ have.count) in
    subst (λ l. AreApart l) (all ∙ ap (λ l. (l ++ a ∷ []) ++ b ∷ []) none) have.apart
