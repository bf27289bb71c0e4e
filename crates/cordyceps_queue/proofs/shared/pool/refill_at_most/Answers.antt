use Rattle.std.proofs.Common.{◌-◌, ℕ, sym, ap, subst}
use Rattle.cordyceps_queue.specs.Shared.Parts.{RefillsAtMost}
use Rattle.cordyceps_queue.specs.Shared.Plays.{SeatState}
use Rattle.cordyceps_queue.specs.declared.shared.spare.Spare.{Spare}
use Rattle.cordyceps_queue.proofs.SharedTheory.PoolJoins.{refilled_once, refilled_again}
use Rattle.cordyceps_queue.proofs.shared.pool.refill_at_most.Goals.{then-not-refill_to, else-not-refill_to}
use Rattle.cordyceps_queue.proofs.shared.pool.refill_at_most.Goals as goal

pub returns-clause-refills : goal.returns-clause-refills
returns-clause-refills g c =
    let slots = c.args.words.now.table_id.slots in
    let had = c.args.spare.now.rooms.count in
    let m = c.args.seat.now.me in
    let before = c.requires.tracks.tracks.count in
    let first = c.refill_to.ensures in
    elim c.if-not-refill_to.branch [
      | then-not-refill_to w ↦
          let more = w.refill_again.ensures in
          let now = w.refill_again.new.spare.rooms.count in
          subst (λ (z : ℕ × SeatState _). RefillsAtMost slots c.args.most (z.0 - had) m z.1) (λ i. (ap (λ (s : Spare). s.rooms.count) (sym w.spare-is) i, ap (λ s. s.me) (sym w.seat-is) i))
          (refilled_again slots c.args.most had now c.refill_to.result m c.refill_to.new.seat.me w.refill_again.new.seat.me before more.tracks.tracks.count first.refills w.if-not-refill_to.true more.rests more.sees more.more)
      | else-not-refill_to w ↦
          let now = c.refill_to.new.spare.rooms.count in
          subst (λ (z : ℕ × SeatState _). RefillsAtMost slots c.args.most (z.0 - had) m z.1) (λ i. (ap (λ (s : Spare). s.rooms.count) (sym w.spare-is) i, ap (λ s. s.me) (sym w.seat-is) i))
          (refilled_once slots c.args.most had now c.refill_to.result m c.refill_to.new.seat.me before first.tracks.tracks.count first.refills w.if-not-refill_to.false)
    ]
