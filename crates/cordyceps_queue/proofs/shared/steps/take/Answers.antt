use Rattle.std.proofs.Common.{ℕ, List, sym, ap, ◌∙◌, subst, rules}
use mathlib.Core.Option.{none}
use Rattle.atomic_table.specs.Table.{step}
use Rattle.cordyceps_shared.specs.declared.layout.TheConstants.{RIGHT}
use Rattle.cordyceps_queue.specs.Shared.Bits.{IsBit}
use Rattle.cordyceps_queue.specs.Shared.Parts.{AsksRight}
use Rattle.cordyceps_queue.specs.Shared.Plays.{carry}
use Rattle.cordyceps_queue.proofs.SharedTheory.UsesWrite.{asks_right, match_map}
use Rattle.cordyceps_queue.proofs.SharedTheory.PartsJoin.{takes_by, none_near, may_join}
use Rattle.cordyceps_queue.proofs.SharedTheory.StepTells.{told}
use Rattle.cordyceps_queue.proofs.shared.steps.take.Goals as goal

pub swap-requires : goal.swap-requires
swap-requires g c =
    let q = c.requires.rest in
    let t = c.requires.table in (
      search rules,
      search rules,
      asks_right _ _ _ (q.hand ∙ ap (λ (l : List ℕ). carry l) (sym q.back)) (none_near _ _ q.back) q.named
          (may_join c.args.seat.now.me.0 q.back) q.stage,
    )

pub returns-clause-took : goal.returns-clause-took
returns-clause-took g c =
    let slots = c.args.words.now.table_id.slots in
    let u = told c.swap.ensures in
    let asks = takes_by (step slots RIGHT 0 0 none) _ _ c.requires.rest _ u.told in
    let found : ℕ → Type 0 = λ n. AsksRight slots n c.args.seat.now.me c.swap.new.seat.me in
    match_map c.free_tail.result
    (λ held. subst found held asks)
    (λ t e. (subst found e.0 asks, (u.knows t.room e.0 ∙ sym e.1, subst IsBit (sym e.1) u.is_bit)))
    (c.free_tail.ensures u.right u.bit u.found_is u.is_bit)
