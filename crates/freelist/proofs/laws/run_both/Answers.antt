use Rattle.std.proofs.Common.{◌*◌, ◌++◌, ap, ◌∙◌}
use Rattle.cordyceps_shared.specs.Standings.{new_party, keeping, giving}
use Rattle.freelist.specs.Users.{firsts, seconds, closing}
use Rattle.freelist.proofs.Meetings.{from_new, both, both_whole}
use Rattle.freelist.proofs.laws.run_both.Goals as goal

pub close_all-requires-clause-whole : goal.close_all-requires-clause-whole
close_all-requires-clause-whole g c =
    let el = g.T.Linked.element in
    let a = c.args in
    let t = c.in_ok-list.list in
    let left = c.retire-left in
    let right = c.retire-right in
    let p = new_party t (2 * a.rooms) in
    let mine = from_new el (firsts a.turns.now) t a.hands.0 (keeping a.rooms p) c.split-other.new.party c.new-first.result c.take_turns.new.first left.result.0 left.result.1
    (c.split-other.ensures.0 ∙ ap (keeping a.rooms) c.in_ok-list.ensures.0) c.new-first.ensures c.take_turns.ensures.0 left.ensures.carries in
    let yours = from_new el (seconds a.turns.now) t a.hands.1 (giving a.rooms p) c.split-other.result c.new-second.result c.take_turns.new.second right.result.0 right.result.1
    (c.split-other.ensures.1 ∙ ap (giving a.rooms) c.in_ok-list.ensures.0) c.new-second.ensures c.take_turns.ensures.1 right.ensures.carries in
    both_whole el (firsts a.turns.now ++ closing) (seconds a.turns.now ++ closing) t a.rooms (2 * a.rooms) a.hands.0 a.hands.1 left.result.0 right.result.0 left.result.1 right.result.1 c.absorb.new.party mine yours c.absorb.ensures

pub returns : goal.returns
returns g c =
    let el = g.T.Linked.element in
    let a = c.args in
    let t = c.in_ok-list.list in
    let left = c.retire-left in
    let right = c.retire-right in
    let p = new_party t (2 * a.rooms) in
    let mine = from_new el (firsts a.turns.now) t a.hands.0 (keeping a.rooms p) c.split-other.new.party c.new-first.result c.take_turns.new.first left.result.0 left.result.1
    (c.split-other.ensures.0 ∙ ap (keeping a.rooms) c.in_ok-list.ensures.0) c.new-first.ensures c.take_turns.ensures.0 left.ensures.carries in
    let yours = from_new el (seconds a.turns.now) t a.hands.1 (giving a.rooms p) c.split-other.result c.new-second.result c.take_turns.new.second right.result.0 right.result.1
    (c.split-other.ensures.1 ∙ ap (giving a.rooms) c.in_ok-list.ensures.0) c.new-second.ensures c.take_turns.ensures.1 right.ensures.carries in
    record {
      table = t;
      first = left.result.1;
      second = right.result.1;
      last = c.absorb.new.party;
      first_carries = mine;
      second_carries = yours;
      met = c.absorb.ensures;
      ends_whole = both_whole el (firsts a.turns.now ++ closing) (seconds a.turns.now ++ closing) t a.rooms (2 * a.rooms) a.hands.0 a.hands.1 left.result.0 right.result.0 left.result.1 right.result.1 c.absorb.new.party mine yours c.absorb.ensures;
      shared_is = c.close_all.ensures.shared;
      same = both el (firsts a.turns.now ++ closing) (seconds a.turns.now ++ closing) t a.rooms (2 * a.rooms) a.hands.0 a.hands.1 left.result.0 right.result.0 c.close_all.result left.result.1 right.result.1 c.absorb.new.party mine yours c.absorb.ensures c.close_all.ensures.once;
    }
