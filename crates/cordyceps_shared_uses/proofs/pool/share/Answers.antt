use Rattle.std.proofs.Common.{◌*◌, List, ◌++◌, sym, ap, ◌∙◌, subst}
use Rattle.cordyceps.specs.Elements.Element.{Element}
use Rattle.cordyceps.specs.Parties.Standings.{new_party, keeping, giving}
use Rattle.cordyceps.specs.Transfers.Calls.{PartyOf}
use Rattle.freelist.specs.Users.{CarriesOut, alone, closing}
use Rattle.freelist.specs.declared.laws.Command.{Command}
use Rattle.freelist.proofs.Meetings.{both, both_whole}
use Rattle.cordyceps_shared_uses.proofs.Sharing.{in_turn, firsts-in_turn, seconds-in_turn}
use Rattle.cordyceps_shared_uses.specs.Pool.{Uses}
use Rattle.cordyceps_shared_uses.specs.declared.pool.Block.{Block}
use Rattle.cordyceps_shared_uses.proofs.pool.share.Goals as goal

pub close_all-requires-clause-whole : goal.close_all-requires-clause-whole
close_all-requires-clause-whole g c =
    let a = c.args in
    let t = c.in_ok-pool.pool in
    let r = c.use_both-left.result in
    let mine = subst (λ (u : PartyOf (Element Block)). Uses t a.first.now a.blocks.0 u r.0.0 r.0.1) (c.split-other.ensures.0 ∙ ap (λ (u : PartyOf (Element Block)). keeping a.rooms u) c.in_ok-pool.ensures.0) c.use_both-left.ensures.uses.0 in
    let yours = subst (λ (u : PartyOf (Element Block)). Uses t a.second.now a.blocks.1 u r.1.0 r.1.1) (c.split-other.ensures.1 ∙ ap (λ (u : PartyOf (Element Block)). giving a.rooms u) c.in_ok-pool.ensures.0) c.use_both-left.ensures.uses.1 in
    both_whole (λ (h : Element Block). h) (a.first.now ++ closing) (a.second.now ++ closing) t a.rooms (2 * a.rooms) a.blocks.0 a.blocks.1 r.0.0 r.1.0 r.0.1 r.1.1 c.absorb.new.party mine yours c.absorb.ensures

pub returns-clause-same : goal.returns-clause-same
returns-clause-same g c =
    let a = c.args in
    let t = c.in_ok-pool.pool in
    let r = c.use_both-left.result in
    let mine = subst (λ (u : PartyOf (Element Block)). Uses t a.first.now a.blocks.0 u r.0.0 r.0.1) (c.split-other.ensures.0 ∙ ap (λ (u : PartyOf (Element Block)). keeping a.rooms u) c.in_ok-pool.ensures.0) c.use_both-left.ensures.uses.0 in
    let yours = subst (λ (u : PartyOf (Element Block)). Uses t a.second.now a.blocks.1 u r.1.0 r.1.1) (c.split-other.ensures.1 ∙ ap (λ (u : PartyOf (Element Block)). giving a.rooms u) c.in_ok-pool.ensures.0) c.use_both-left.ensures.uses.1 in
    both (λ (h : Element Block). h) (a.first.now ++ closing) (a.second.now ++ closing) t a.rooms (2 * a.rooms) a.blocks.0 a.blocks.1 r.0.0 r.1.0 c.close_all.result r.0.1 r.1.1 c.absorb.new.party mine yours c.absorb.ensures c.close_all.ensures.once

pub returns-clause-runs : goal.returns-clause-runs
returns-clause-runs g c =
    let a = c.args in
    let t = c.in_ok-pool.pool in
    let r = c.use_both-left.result in
    let el = λ (h : Element Block). h in
    let p = new_party t (2 * a.rooms) in
    let mine = subst (λ (u : PartyOf (Element Block)). Uses t a.first.now a.blocks.0 u r.0.0 r.0.1) (c.split-other.ensures.0 ∙ ap (λ (u : PartyOf (Element Block)). keeping a.rooms u) c.in_ok-pool.ensures.0) c.use_both-left.ensures.uses.0 in
    let yours = subst (λ (u : PartyOf (Element Block)). Uses t a.second.now a.blocks.1 u r.1.0 r.1.1) (c.split-other.ensures.1 ∙ ap (λ (u : PartyOf (Element Block)). giving a.rooms u) c.in_ok-pool.ensures.0) c.use_both-left.ensures.uses.1 in
    let ks = firsts-in_turn a.first.now a.second.now in
    let ls = seconds-in_turn a.first.now a.second.now in (
      in_turn a.first.now a.second.now,
      ks,
      ls,
      record {
        table = t;
        first = r.0.1;
        second = r.1.1;
        last = c.absorb.new.party;
        first_carries = subst (λ (k : List Command). CarriesOut el (k ++ closing) (alone t a.blocks.0 (keeping a.rooms p)) (alone t r.0.0 r.0.1)) (sym ks) mine;
        second_carries = subst (λ (k : List Command). CarriesOut el (k ++ closing) (alone t a.blocks.1 (giving a.rooms p)) (alone t r.1.0 r.1.1)) (sym ls) yours;
        met = c.absorb.ensures;
        ends_whole = both_whole el (a.first.now ++ closing) (a.second.now ++ closing) t a.rooms (2 * a.rooms) a.blocks.0 a.blocks.1 r.0.0 r.1.0 r.0.1 r.1.1 c.absorb.new.party mine yours c.absorb.ensures;
        shared_is = c.close_all.ensures.shared;
        same = both el (a.first.now ++ closing) (a.second.now ++ closing) t a.rooms (2 * a.rooms) a.blocks.0 a.blocks.1 r.0.0 r.1.0 c.close_all.result r.0.1 r.1.1 c.absorb.new.party mine yours c.absorb.ensures c.close_all.ensures.once;
      },
    )
