use Rattle.std.proofs.Common.{◌≡◌, ◌<◌, ◌∙◌, ap, length, rules, set, sym, subst}
use Rattle.cordyceps_channel.specs.Selects.{At, LearnsAt}
use Rattle.cordyceps_channel.proofs.Telling.{at_below, at_get, learned_at}
use Rattle.cordyceps_channel.proofs.select.Select.learn.Goals as goal

pub index_mut-requires : goal.index_mut-requires
index_mut-requires g c =
    let us = c.self.inside.receivers.items in
    let there = subst (λ vs. At c.args.index (λ u. c.args.receipt.table ≡ u.table) vs) (sym c.self.view_is) c.requires in
    let below : c.args.index < length us = at_below c.args.index (λ u. c.args.receipt.table ≡ u.table) us there in
    search (rules, below)

pub learn-requires : goal.learn-requires
learn-requires g c =
    let us = c.self.inside.receivers.items in
    let there = subst (λ vs. At c.args.index (λ u. c.args.receipt.table ≡ u.table) vs) (sym c.self.view_is) c.requires in
    at_get c.args.index (λ u. c.args.receipt.table ≡ u.table) us c.index_mut.result.now there ∙ ap (λ u. u.table) (sym c.index_mut.ensures.value)

pub returns : goal.returns
returns g c =
    let us = c.self.inside.receivers.items in
    let w = c.learn.new.self in
    let there = subst (λ vs. At c.args.index (λ u. c.args.receipt.table ≡ u.table) vs) (sym c.self.view_is) c.requires in
    let below : c.args.index < length us = at_below c.args.index (λ u. c.args.receipt.table ≡ u.table) us there in
    subst (λ vs. LearnsAt c.args.index c.args.receipt.told vs (set us c.args.index w)) c.self.view_is
    (learned_at c.args.index c.args.receipt.told us c.index_mut.result.now w below (sym c.index_mut.ensures.value) c.learn.ensures.received c.learn.ensures.told)
