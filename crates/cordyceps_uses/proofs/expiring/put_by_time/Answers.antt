use Rattle.std.proofs.Common.{subst, sym, ap, arith, ◌∙◌}
use Rattle.std.specs.Map.{lookup_entry}
use Rattle.cordyceps_uses.specs.Keyed.{AreFrom}
use Rattle.cordyceps_uses.proofs.Placing.{order_other}
use Rattle.cordyceps_uses.proofs.States.{until, put_timed}
use Rattle.cordyceps_uses.proofs.expiring.put_by_time.Goals as goal

pub link_by_rank-requires-clause-sorted : goal.link_by_rank-requires-clause-sorted
link_by_rank-requires-clause-sorted g c = subst (AreFrom until 0) (sym (c.put-at.ensures.put.orders 1 (omega arith))) c.requires.timed.sorted

pub returns-clause-entries : goal.returns-clause-entries
returns-clause-entries g c = order_other until 1 c.put-at.new.map c.put-at.result c.link_by_rank.new.map c.link_by_rank.ensures 0 (λ e. absurd cc) ∙ c.put-at.ensures.put.entries

pub returns-clause-found : goal.returns-clause-found
returns-clause-found g c =
    ap (lookup_entry (g.K.PartialEq.eq c.args.node.value.0)) (order_other until 1 c.put-at.new.map c.put-at.result c.link_by_rank.new.map c.link_by_rank.ensures 0 (λ e. absurd cc)) ∙ c.put-at.ensures.put.found

pub returns-clause-timed : goal.returns-clause-timed
returns-clause-timed g c =
    put_timed g.K.PartialEq.eq c.args.map.now c.lists_agree.ensures c.requires.timed c.link_by_rank.new.map c.put-at.result c.args.node.value c.put-at.new.map c.put-at.ensures.put c.link_by_rank.ensures
