use Rattle.std.proofs.Common.{◌++◌, [], ◌∷◌, map, length, ap, sym, ◌∙◌, append_assoc, arith}
use Rattle.std.proofs.lemmas.List.{append-nil, map-append}
use Rattle.cordyceps_shared.specs.Histories.{plain}
use Rattle.cordyceps_queue.specs.History.{held}
use Rattle.cordyceps_queue.proofs.SharedTheory.CloseTakesAll.{holds_last}
use Rattle.cordyceps_queue.proofs.laws.close_behind.Goals as goal

pub loop-handle-preserved : goal.loop-handle-preserved
loop-handle-preserved g c =
    let i = c.loop-handle.invariant in
    let d = c.enqueue.ensures in
    let element = g.T.Linked.element in
    let e = c.in-Some.handle in
    let before = held (plain c.loop-handle.party.seen) in
    let first = c.in-Some.ensures.steps in
    let last = holds_last c.loop-handle.party c.enqueue.new.party e i.share d in
    let shown = ap (map element) last ∙ map-append element before (e ∷ []) in
    record {
      after = ap (λ xs. xs ++ c.next.new.self) shown ∙ (append_assoc (map element before) (element e ∷ []) c.next.new.self ∙ (ap (λ xs. map element before ++ xs) (sym first) ∙ i.after));
      table = d.0.1 ∙ i.table;
      share = d.0.0.share ∙ i.share;
      rooms = omega (arith, i.rooms, d.1, ap length first);
    }

pub returns-clause-stub : goal.returns-clause-stub
returns-clause-stub g c = c.close.ensures.stub

pub returns-clause-elements : goal.returns-clause-elements
returns-clause-elements g c =
    let i = c.loop-handle.invariant in
    let held_then = map g.T.Linked.element (held (plain c.loop-handle.party.seen)) in
    c.close.ensures.elements ∙ (sym (append-nil held_then) ∙ (ap (λ xs. held_then ++ xs) (sym c.in_default.ensures.steps.0) ∙ i.after))
