use Rattle.std.proofs.Common.{◌≡◌, [], ◌∷◌, ◌++◌, ap, sym, subst, ◌∙◌}
use Rattle.std.specs.Map.{remove_entry}
use Rattle.cordyceps.specs.Spots.BySpot.{HoldsAt}
use Rattle.cordyceps.proofs.Spots.ValueAt.{held_value}
use Rattle.cordyceps_uses.specs.declared.expiring.Timed.{Timed}
use Rattle.cordyceps_uses.specs.Expiring.{Entry, by_use}
use Rattle.cordyceps_uses.proofs.Written.{written_at}
use Rattle.cordyceps_uses.proofs.Renewing.{written_sorted, renewed_entries, renewed_timed}
use Rattle.cordyceps_uses.proofs.expiring.set_until.Goals as goal

pub move_back-requires-clause-at : goal.move_back-requires-clause-at
move_back-requires-clause-at g c =
    let r = c.unlink.ensures in let t : Timed _ = record { value = c.value_at_mut.result.now.value; until = c.args.until } in
    written_at g.K.PartialEq.eq c.args.map.now c.lists_agree.ensures c.args.key.now c.args.at c.requires.at c.unlink.new.self r.nodes (r.others.lists 0 (λ e. absurd cc)) t c.lists_agree-2.ensures

pub link_by_rank-requires-clause-sorted : goal.link_by_rank-requires-clause-sorted
link_by_rank-requires-clause-sorted g c =
    let r = c.unlink.ensures in let b = c.move_back.ensures in let t : Timed _ = record { value = c.value_at_mut.result.now.value; until = c.args.until } in
    written_sorted g.K.PartialEq.eq c.args.map.now c.lists_agree.ensures c.requires.timed c.args.key.now c.args.at c.requires.at c.unlink.new.self r.nodes r.list r.others.lists t c.lists_agree-2.ensures c.move_back.new.map b.nodes b.list b.others b.moved

pub returns-clause-timed : goal.returns-clause-timed
returns-clause-timed g c =
    let r = c.unlink.ensures in let b = c.move_back.ensures in let t : Timed _ = record { value = c.value_at_mut.result.now.value; until = c.args.until } in
    renewed_timed g.K.PartialEq.eq c.args.map.now c.lists_agree.ensures c.requires.timed c.args.key.now c.args.at c.requires.at c.unlink.new.self r.nodes r.list r.others.lists t c.lists_agree-2.ensures c.move_back.new.map b.nodes b.list b.others b.moved c.link_by_rank.new.map c.link_by_rank.ensures

pub returns-clause-renewed : goal.returns-clause-renewed
returns-clause-renewed g c =
    let m = c.args.map.now in let a = c.requires.at in let eq = g.K.PartialEq.eq in
    let r = c.unlink.ensures in let b = c.move_back.ensures in let t : Timed _ = record { value = c.value_at_mut.result.now.value; until = c.args.until } in
    let entries = renewed_entries eq m c.lists_agree.ensures c.requires.timed c.args.key.now c.args.at a c.unlink.new.self r.nodes r.list r.others.lists t c.lists_agree-2.ensures c.move_back.new.map b.nodes b.list b.others b.moved c.link_by_rank.new.map c.link_by_rank.ensures in
    let (k, held) = c.value_at_mut.ensures.value in let now = c.value_at_mut.result.now in
    let there = held_value m.nodes c.args.at (k, now) c.lists_agree.ensures.distinct (subst (λ ns. HoldsAt ns c.args.at (k, now)) r.nodes held) in
    let is : a.entry ≡ (k, now) = (let u = sym a.value ∙ there in cc) in
    record {
      entry = a.entry;
      value = a.value;
      holds = entries ∙ ap (λ (x : Entry _ _). remove_entry (eq c.args.key.now) (by_use m) ++ (a.entry.0, record { value = x.1.value; until = c.args.until }) ∷ []) (sym is);
    }
