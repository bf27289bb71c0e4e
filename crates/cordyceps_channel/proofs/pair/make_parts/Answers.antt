use Rattle.std.proofs.Common.{◌≡◌, true, sym, subst, rules}
use Rattle.cordyceps_shared.specs.Standings.{GivesBack, keeping}
use Rattle.cordyceps_channel.specs.Channels.{AreParties}
use Rattle.cordyceps_channel.proofs.Registering.{are_parties}
use Rattle.cordyceps_channel.proofs.pair.make_parts.Goals as goal

pub returns : goal.returns
returns g c =
    let z = c.in_ok-queue.queue.table in
    let n = c.args.rooms in
    let w = c.give_back.new.party in
    let (stub, new, rooms) = c.in_ok-queue.ensures in
    let all : c.give_back.result ≡ true = search rules in
    let gave = subst (λ b. GivesBack n b c.in_ok-queue.party w) all c.give_back.ensures.answer in
    let are = are_parties z n w rooms (subst (λ v. GivesBack n true v w) new gave) in
    let s = c.split-receivers.ensures in
    subst (λ v. AreParties n z v c.split-receivers.result) (sym s.0) (subst (λ v. AreParties n z (keeping 0 w) v) (sym s.1) are)
