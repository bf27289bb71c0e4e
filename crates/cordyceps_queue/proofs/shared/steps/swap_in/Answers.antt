use Rattle.std.proofs.Common.{◌∷◌, [], ◌+◌, ◌*◌, sym, ap, refl, ◌∙◌, subst, rules}
use Rattle.atomic_table.specs.Table.{rest}
use Rattle.cordyceps_queue.specs.History.{Event}
use Rattle.cordyceps_queue.specs.Shared.Bits.{Knows}
use Rattle.cordyceps_queue.specs.Shared.Plays.{Sees}
use Rattle.cordyceps_queue.specs.Shared.Uses.{HasUse}
use Rattle.cordyceps_queue.specs.Shared.View.{View, name, bit_of}
use Rattle.cordyceps_queue.proofs.SharedTheory.UsesWrite.{puts_in, finds_use, still_has}
use Rattle.cordyceps_queue.proofs.SharedTheory.StepTells.{seat_after, told}
use Rattle.cordyceps_queue.proofs.shared.steps.swap_in.Goals as goal

pub swap-requires : goal.swap-requires
swap-requires g c =
    let t = c.requires.table in
    let x = seat_after c.exchange.ensures in
    let cs = rest c.args.seat.now.me.1 in
    let ready = ap (λ m. m.0.stage) x ∙ c.requires.stage.0 in
    let item = ap (λ m. m.0.item) x ∙ c.requires.stage.1 in
    let hand = ap (λ m. m.1) x in
    let n = c.pointer.ensures ∙ (ap (λ b. 2 * c.args.to.room + b) (sym c.requires.knows.0) ∙ ap (λ m. 2 * c.args.to.room + bit_of m.0.bits c.args.to.room) (sym x)) in
    (search rules, search rules, puts_in _ _ _ _ c.args.to.room c.args.item cs n ready item hand c.requires.near.0 (λ e. c.requires.near.1 (sym (ap (λ m. m.0.known.share) x) ∙ e)))

pub returns-clause-swapped : goal.returns-clause-swapped
returns-clause-swapped g c =
    let x = seat_after c.exchange.ensures in
    let cs = rest c.args.seat.now.me.1 in
    let (begun, chosen, bare) = c.requires.stage in
    let ready = ap (λ m. m.0.stage) x ∙ begun in
    let item = ap (λ m. m.0.item) x ∙ chosen in
    let f = finds_use c.swap.new.seat.me c.swap.result c.pointed.result _ (told c.swap.ensures).1 c.pointed.ensures in
    let s = f.1 c.args.to.room c.args.item cs ready item (ap (λ m. m.1) x) in record {
      stage = s.stage;
      free = s.free ∙ ap (λ m. m.0.free) x;
      end = s.end ∙ ap (λ m. m.0.end) x;
      back = s.back ∙ (ap (λ m. m.0.back) x ∙ bare);
      hand = s.hand ∙ ap rest c.requires.hand;
      near = s.near;
      sees = subst (λ (z : View g.row.E.Denot). Sees z (Event.Swap (name z) c.args.item ∷ []) c.swap.new.seat.me.0)
          (ap (λ m. m.0) x) s.sees;
    }

pub returns-clause-knows : goal.returns-clause-knows
returns-clause-knows g c =
    let x = seat_after c.exchange.ensures in
    let ready = ap (λ m. m.0.stage) x ∙ c.requires.stage.0 in
    let f = finds_use c.swap.new.seat.me c.swap.result c.pointed.result _ (told c.swap.ensures).1 c.pointed.ensures in
    let before : HasUse c.exchange.new.seat.me c.args.to = (ap (λ m. bit_of m.0.bits c.args.to.room) x ∙ c.requires.knows.0, c.requires.knows.1) in
    (still_has c.exchange.new.seat.me c.swap.new.seat.me c.args.to (told c.swap.ensures).0 (subst (λ l. Knows l c.args.to.room) (sym ready) refl) before, f.0)
