use Rattle.std.proofs.Common.{suc, [], map, sym, ap, ◌∙◌, subst}
use Rattle.atomic_table.specs.Table.{turned}
use Rattle.cordyceps_shared.specs.FreeChains.{Tracks}
use Rattle.cordyceps_stack.specs.Cores.Stages.{room_elements}
use Rattle.cordyceps_stack.specs.Shared.Plays.{elements_then}
use Rattle.cordyceps_stack.specs.Shared.Slots.{in_use_to}
use Rattle.cordyceps_stack.proofs.SharedTheory.ChainJoins.{pushed_all, pushed_none, kept_taken, backed, elements_of_all}
use Rattle.cordyceps_stack.proofs.SharedTheory.StepTells.{told}
use Rattle.cordyceps_stack.proofs.shared.chain.try_push_all.Goals as goal

pub returns-in_default-clause-answer : goal.returns-in_default-clause-answer
returns-in_default-clause-answer g c =
    let e = c.is_empty.ensures in
    ([], c.in_default.ensures.0, pushed_none c.is_empty.result c.args.seat.now.me c.is_empty.new.seat.me e.sees e.answer e.rest.1)

pub returns-in-Some-attempt-clause-answer : goal.returns-in-Some-attempt-clause-answer
returns-in-Some-attempt-clause-answer g c =
    let (before, x, has, all_are) = c.fill-last.ensures.filled in
    let s = c.in-Some-attempt.ensures.answer before x has.ready in
    let all = pushed_all c.args.words.now.table_id.slots c.args.free.now.first 1 c.fill-last.result before x c.in-Some-attempt.was_empty c.args.seat.now.me c.fill-last.new.seat.me c.attempt.new.seat.me has s in
    (elements_then before x, c.in-Some.ensures ∙ all_are, all)

pub relink-requires-clause-filled : goal.relink-requires-clause-filled
relink-requires-clause-filled g c =
    let (before, x, has, all_are) = c.fill-last.ensures.filled in
    let kept = (c.in_default-attempt.ensures.answer before x has.ready).0 in
    (x, kept.ready.link, in_use_to before (suc c.fill-last.result), kept.ready.hand)

pub hand_out-requires-clause-taken : goal.hand_out-requires-clause-taken
hand_out-requires-clause-taken g c =
    let last = c.fill-last.result in
    let (before, x, has, all_are) = c.fill-last.ensures.filled in
    let kept = (c.in_default-attempt.ensures.answer before x has.ready).0 in
    let linked = c.relink.ensures.links x kept.ready.link (in_use_to before (suc last)) kept.ready.hand in
    let turn = told c.turn.ensures in
    (kept_taken c.args.words.now.table_id.slots c.args.free.now.first last before x c.attempt.new.seat.me c.turn.new.self.me kept (ap (λ m. m.0) turn ∙ ap (λ m. m.0) linked) (ap (λ m. m.1) turn ∙ ap (λ m. turned m.1) linked)).0

pub hand_out-requires-clause-tracks : goal.hand_out-requires-clause-tracks
hand_out-requires-clause-tracks g c =
    let (before, x, has, all_are) = c.fill-last.ensures.filled in
    let miss = c.in_default-attempt.ensures.answer before x has.ready in
    let linked = c.relink.ensures.links x miss.0.ready.link (in_use_to before (suc c.fill-last.result)) miss.0.ready.hand in
    let same = ap (λ m. m.0) (told c.turn.ensures) ∙ ap (λ m. m.0) linked in
    subst (λ l. Tracks c.fill-last.new.free l) (sym (ap (λ v. v.free) same ∙ miss.1.free)) c.fill-last.ensures.tracks

pub returns-clause-answer : goal.returns-clause-answer
returns-clause-answer g c =
    let el = g.T.Linked.element in
    let slots = c.args.words.now.table_id.slots in
    let start = c.args.free.now.first in
    let last = c.fill-last.result in
    let m = c.args.seat.now.me in
    let filled = c.fill-last.new.seat.me in
    let a = c.attempt.new.seat.me in
    let t = c.turn.new.self.me in
    let (before, x, has, all_are) = c.fill-last.ensures.filled in
    let miss = c.in_default-attempt.ensures.answer before x has.ready in
    let linked = c.relink.ensures.links x miss.0.ready.link (in_use_to before (suc last)) miss.0.ready.hand in
    let turn = told c.turn.ensures in
    let same = ap (λ m. m.0) turn ∙ ap (λ m. m.0) linked in
    let out = (kept_taken slots start last before x a t miss.0 same (ap (λ m. m.1) turn ∙ ap (λ m. turned m.1) linked)).1 in (
      c.hand_out.ensures.stack ∙ (ap (λ l. map el (room_elements l)) out ∙ (ap (map el) (elements_of_all before last x) ∙ sym (c.in-Some.ensures ∙ all_are))),
      backed slots start last before x m filled a t c.hand_out.new.seat.me has miss.1 same out c.hand_out.ensures.seat,
    )
