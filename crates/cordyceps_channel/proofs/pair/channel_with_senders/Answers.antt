use Rattle.std.proofs.Common.{◌≡◌, ◌+◌, rules, subst, sym}
use Rattle.cordyceps_channel.specs.Channels.{HaveChannel}
use Rattle.cordyceps_channel.proofs.Making.{HasSenders, all_senders, no_senders, one_sender_more}
use Rattle.cordyceps_channel.proofs.pair.channel_with_senders.Goals as goal

pub loop-init : goal.loop-init
loop-init g c = subst (λ us. HasSenders c.args.rooms 0 c.in_ok-fresh.fresh us) (sym c.new-senders.ensures.items) (no_senders c.args.rooms c.in_ok-fresh.fresh c.in_ok-fresh.ensures)

pub loop-preserved : goal.loop-preserved
loop-preserved g c =
    let l = c.loop in
    let made = c.in_ok-sender.ensures in
    let f = c.add_sender.new.self in
    subst (λ us. HasSenders c.args.rooms (l.counter + 1) f us) (sym c.in_ok-push.ensures.items) (one_sender_more c.args.rooms l.counter l.fresh f l.senders.items c.in_ok-sender.sender l.invariant made.0 made.1)

pub returns : goal.returns
returns g c =
    let l = c.loop in
    let r = c.into_receiver.ensures in
    let all : l.counter ≡ c.args.count = search rules in
    subst (λ n. HaveChannel c.args.rooms n l.senders.items c.into_receiver.result) all (all_senders c.args.rooms l.counter l.fresh l.senders.items c.into_receiver.result l.invariant r.receiver r.table)
