use Rattle.std.proofs.Common.{◌≡◌, [], ◌∷◌, Some, sym, refl, ap, ◌∙◌, rules}
use Rattle.atomic_table.specs.Table.{rest}
use Rattle.cordyceps_queue.specs.History.{Event}
use Rattle.cordyceps_queue.specs.declared.cores.stage.Stage.TheVariants.{Null}
use Rattle.cordyceps_queue.specs.Shared.View.{name, bit_of}
use Rattle.cordyceps_queue.proofs.SharedTheory.WordsAsMachine.{at_after}
use Rattle.cordyceps_queue.proofs.SharedTheory.UsesKeep.{reads_look}
use Rattle.cordyceps_queue.proofs.SharedTheory.UsesWrite.{reads_for}
use Rattle.cordyceps_shared.proofs.Choices.{some_or}
use Rattle.cordyceps_queue.proofs.SharedTheory.PartsJoin.{hand_of, hands_now, moved_rooms}
use Rattle.cordyceps_queue.proofs.SharedTheory.StepTells.{seat_after, told, was_in_hand}
use Rattle.cordyceps_queue.proofs.shared.steps.look.Goals as goal

pub load-link-requires : goal.load-link-requires
load-link-requires g c =
    let h = c.requires.holding in
    let q = h.right in
    let near = q.inside in
    let t = c.requires.table in (
      search rules,
      search rules,
      reads_look _ _ _ q.carries (λ i r a. q.near _ r (at_after _ _ i r a)) q.named h.joins c.args.tail.room _ refl
          q.stage c.requires.real,
    )

pub exchange-requires : goal.exchange-requires
exchange-requires g c =
    let q = c.requires.holding.right in
    let f = reads_for c.args.seat.now.me c.load-link.new.seat.me c.args.tail c.load-link.result _ c.requires.knows
    ((told c.load-link.ensures).1 c.args.tail.room q.stage c.requires.real) in
    let e = c.in-Some.ensures f.next f.to f.read in
    let h = (f.told c.args.tail.room q.stage c.requires.real).1 c.in-Some.next.room e.0 in
    let t = c.requires.table in
    (search rules, (_, h.hand ∙ ap (λ z. (c.args.tail.room, Some h.element) ∷ rest z) (sym h.hand)))

pub unreachable-requires : goal.unreachable-requires
unreachable-requires g c =
    let q = c.requires.holding.right in
    let f = reads_for c.args.seat.now.me c.load-link.new.seat.me c.args.tail c.load-link.result _ c.requires.knows
    ((told c.load-link.ensures).1 c.args.tail.room q.stage c.requires.real) in
    let e = c.in-Some.ensures f.next f.to f.read in
    let h = (f.told c.args.tail.room q.stage c.requires.real).1 c.in-Some.next.room e.0 in
    let y = c.exchange.ensures in
    c.in_default-exchange.not-Some h.element (ap (hand_of h.element) (sym (was_in_hand y) ∙ h.hand))

pub returns-clause-answer : goal.returns-clause-answer
returns-clause-answer g c =
    let E = g.row.E.Denot in
    let q = c.requires.holding.right in
    let f = reads_for c.args.seat.now.me c.load-link.new.seat.me c.args.tail c.load-link.result _ c.requires.knows
    ((told c.load-link.ensures).1 c.args.tail.room q.stage c.requires.real) in
    let e = c.in-Some.ensures f.next f.to f.read in
    let h = (f.told c.args.tail.room q.stage c.requires.real).1 c.in-Some.next.room e.0 in
    let y = c.exchange.ensures in
    let came : c.exchange.result ≡ Some h.element = ap (hand_of h.element) (sym (was_in_hand y) ∙ h.hand) in
    let is : h.element ≡ c.in-Some-exchange.item = ap (some_or h.element) (sym came ∙ c.in-Some-exchange.is) in
    let look : Event _ E = Event.Look (name c.args.seat.now.me.0) in
    (hands_now c.args.words.now.table_id.slots c.args.tail.room c.in-Some.next.room (look ∷ []) c.args.seat.now.me
    c.load-link.new.seat.me c.exchange.new.seat.me c.in-Some-exchange.item q.named q.near h (seat_after y) is).0

pub returns-clause-rooms : goal.returns-clause-rooms
returns-clause-rooms g c =
    let E = g.row.E.Denot in
    let q = c.requires.holding.right in
    let f = reads_for c.args.seat.now.me c.load-link.new.seat.me c.args.tail c.load-link.result _ c.requires.knows
    ((told c.load-link.ensures).1 c.args.tail.room q.stage c.requires.real) in
    let e = c.in-Some.ensures f.next f.to f.read in
    let h = (f.told c.args.tail.room q.stage c.requires.real).1 c.in-Some.next.room e.0 in
    let y = c.exchange.ensures in
    let look : Event _ E = Event.Look (name c.args.seat.now.me.0) in
    (hands_now c.args.words.now.table_id.slots c.args.tail.room c.in-Some.next.room (look ∷ []) c.args.seat.now.me
    c.load-link.new.seat.me c.exchange.new.seat.me h.element q.named q.near h (seat_after y) refl).1

pub leads_to-requires : goal.leads_to-requires
leads_to-requires g c =
    let q = c.requires.holding.right in
    let f = reads_for c.args.seat.now.me c.load-link.new.seat.me c.args.tail c.load-link.result _ c.requires.knows
    ((told c.load-link.ensures).1 c.args.tail.room q.stage c.requires.real) in
    (f.next, f.to, f.read)

pub returns-in_default-clause-answer : goal.returns-in_default-clause-answer
returns-in_default-clause-answer g c =
    let q = c.requires.holding.right in
    let f = reads_for c.args.seat.now.me c.load-link.new.seat.me c.args.tail c.load-link.result _ c.requires.knows
    ((told c.load-link.ensures).1 c.args.tail.room q.stage c.requires.real) in
    (f.told c.args.tail.room q.stage c.requires.real).0 (c.in_default.ensures f.next f.to f.read)

pub returns-in_default-clause-rooms : goal.returns-in_default-clause-rooms
returns-in_default-clause-rooms g c =
    let E = g.row.E.Denot in
    let q = c.requires.holding.right in
    let f = reads_for c.args.seat.now.me c.load-link.new.seat.me c.args.tail c.load-link.result _ c.requires.knows
    ((told c.load-link.ensures).1 c.args.tail.room q.stage c.requires.real) in
    let look : Event _ E = Event.Look (name c.args.seat.now.me.0) in
    moved_rooms (look ∷ []) (Null c.args.tail.room) c.args.seat.now.me c.load-link.new.seat.me
    ((f.told c.args.tail.room q.stage c.requires.real).0 (c.in_default.ensures f.next f.to f.read))

pub returns-clause-knows : goal.returns-clause-knows
returns-clause-knows g c =
    let q = c.requires.holding.right in
    let f = reads_for c.args.seat.now.me c.load-link.new.seat.me c.args.tail c.load-link.result _ c.requires.knows
    ((told c.load-link.ensures).1 c.args.tail.room q.stage c.requires.real) in
    let e = c.in-Some.ensures f.next f.to f.read in
    let h = f.knows c.in-Some.next e.0 e.1 in
    (ap (λ m. bit_of m.0.bits c.in-Some.next.room) (seat_after c.exchange.ensures) ∙ h.0, h.1)
