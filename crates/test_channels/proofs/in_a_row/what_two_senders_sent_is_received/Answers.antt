use Rattle.std.proofs.Common.{◌≡◌, [], ◌∷◌, rules, sym, subst}
use Rattle.cordyceps_channel.specs.Channels.{AreApart}
use Rattle.test_channels.proofs.Two.{still_apart}
use Rattle.test_channels.proofs.in_a_row.what_two_senders_sent_is_received.Goals as goal

pub receive_all_of-requires-clause-apart : goal.receive_all_of-requires-clause-apart
receive_all_of-requires-clause-apart g c =
    let two = c.two_senders-first.result in
    let a = c.finish.result in
    let b = c.finish-2.result in
    let is : c.push-2.new.self.items ≡ a ∷ b ∷ [] = search rules in
    let first : a.share ≡ two.0.share = search rules in
    let second : b.share ≡ two.1.share = search rules in
    subst (λ l. AreApart l) (sym is) (still_apart two.0 two.1 a b first second c.two_senders-first.ensures.apart)
