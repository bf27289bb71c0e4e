use Rattle.cordyceps_list.proofs.Lent.{last_lent}
use Rattle.cordyceps_list.proofs.laws.lending.copied_next_back.Goals as goal

pub returns-clause-same_reference : goal.returns-clause-same_reference
returns-clause-same_reference g c =
    let spans = rw c.in-Some.is at (c.next_back.follows.holds c.in-Some.value.now) in
    spans.same_reference

pub returns-clause-elements : goal.returns-clause-elements
returns-clause-elements g c =
    let spans = rw c.in-Some.is at (c.next_back.follows.holds c.in-Some.value.now) in
    (last_lent c.args.left.now _ c.in-Some.value.now c.in-Some.ensures.value spans).0.1

pub returns-clause-last : goal.returns-clause-last
returns-clause-last g c =
    let spans = rw c.in-Some.is at (c.next_back.follows.holds c.in-Some.value.now) in
    (last_lent c.args.left.now _ c.in-Some.value.now c.in-Some.ensures.value spans).1
