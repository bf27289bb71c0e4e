use Rattle.cordyceps_list.proofs.Lent.{first_lent}
use Rattle.cordyceps_list.proofs.laws.lending.copied_next.Goals as goal

pub returns-clause-same_reference : goal.returns-clause-same_reference
returns-clause-same_reference g c =
    let spans = rw c.in-Some.is at (c.next.follows.holds c.in-Some.value.now) in
    spans.same_reference

pub returns-clause-elements : goal.returns-clause-elements
returns-clause-elements g c =
    let spans = rw c.in-Some.is at (c.next.follows.holds c.in-Some.value.now) in
    (first_lent c.args.left.now _ c.in-Some.value.now c.in-Some.ensures.value spans).0.1

pub returns-clause-first : goal.returns-clause-first
returns-clause-first g c =
    let spans = rw c.in-Some.is at (c.next.follows.holds c.in-Some.value.now) in
    (first_lent c.args.left.now _ c.in-Some.value.now c.in-Some.ensures.value spans).1
