use Rattle.std.proofs.Common.{rules, sym, ap, ◌∙◌, subst}
use Rattle.cordyceps_shared.specs.Histories.{plain}
use Rattle.cordyceps_shared.specs.Knowing.{Known}
use Rattle.cordyceps_queue.specs.Shared.Calls.{NonePending}
use Rattle.cordyceps_queue.specs.Shared.Parting.{view_absorbing}
use Rattle.cordyceps_queue.specs.Shared.Plays.{SeatState}
use Rattle.cordyceps_queue.proofs.SharedTheory.StepTells.{told}
use Rattle.cordyceps_queue.proofs.SharedTheory.UsesShare.{joins, learns}
use Rattle.cordyceps_queue.proofs.shared.parting.absorb.Goals as goal

pub join_seat-requires : goal.join_seat-requires
join_seat-requires g c =
    let r = c.requires.rest in
    let view = c.append.ensures.relinked.view in (
      search rules,
      search rules,
      search rules,
      search rules,
      joins _ _ _ _ (ap (λ v. v.stage) view ∙ r.0.stage) r.1.stage
          (ap (λ v. v.back) view ∙ r.0.back) r.1.back (λ e. r.0.named (ap (λ v. v.known.share) (sym view) ∙ e))
          r.1.named c.append.ensures.joins,
    )

pub load-requires : goal.load-requires
load-requires g c =
    let view = c.append.ensures.relinked.view in
    let t = c.requires.table in
    let (_, _, joined) = c.join_seat.ensures in (
      search rules,
      search rules,
      learns _ _ _ c.append.new.seat.me.0 c.args.other.me.0 (ap (λ m. m.0) joined)
          (λ e. c.requires.rest.0.named (ap (λ v. v.known.share) (sym view) ∙ e)),
    )

pub returns-clause-tracks : goal.returns-clause-tracks
returns-clause-tracks g c = search rules

pub returns-clause-linked : goal.returns-clause-linked
returns-clause-linked g c =
    let view = c.append.ensures.relinked.view in
    let (_, _, joined) = c.join_seat.ensures in
    subst (λ (k : Known _). NonePending k.share (plain k.seen))
    (ap (λ (m : SeatState _). m.0.known) joined ∙ ap (λ v. (view_absorbing v c.args.other.me.0).known) view)
    (told c.load.ensures).linked
