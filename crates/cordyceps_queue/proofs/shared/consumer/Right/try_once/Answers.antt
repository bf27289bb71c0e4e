use Rattle.std.proofs.Common.{◌≡◌, [], ◌∷◌, ap, ◌∙◌, subst}
use Rattle.std.specs.Prelude.{Ok, Err}
use Rattle.cordyceps_queue.specs.declared.cores.steps.TryDequeueError.TheVariants as error
use Rattle.cordyceps_queue.specs.Shared.Parts.{standing, Tries}
use Rattle.cordyceps_queue.specs.History.{Look}
use Rattle.cordyceps_queue.specs.Shared.Plays.{IsHolding}
use Rattle.cordyceps_queue.specs.Shared.Rule.{IsTable}
use Rattle.cordyceps_queue.specs.Shared.Calls.{Consumes}
use Rattle.cordyceps_queue.specs.Shared.View.{name}
use Rattle.cordyceps_queue.proofs.SharedTheory.RightHolds.{consuming_then, consumes_one, consumes_empty, consumes_blocked, consuming_clear}
use Rattle.cordyceps_queue.proofs.shared.consumer.Right.try_once.Goals.{in-Out, in-Empty, in-Inconsistent}
use Rattle.cordyceps_queue.proofs.shared.consumer.Right.try_once.Goals as goal

pub advance-tried-requires-clause-table : goal.advance-tried-requires-clause-table
advance-tried-requires-clause-table g c =
    let there : c.self.inside.seat.table_id ≡ c.args.words.now.table_id = ap (λ u. u.table) c.self.view_is ∙ c.requires in
    (there, subst (λ z. IsTable z) there c.self.invariant.0.table)

pub advance-tried-requires-clause-holding : goal.advance-tried-requires-clause-holding
advance-tried-requires-clause-holding g c =
    let there : c.self.inside.seat.table_id ≡ c.args.words.now.table_id = ap (λ u. u.table) c.self.view_is ∙ c.requires in
    subst (λ z. IsHolding z.slots c.self.inside.tail.room c.self.inside.seat.me) there c.self.invariant.0.holds

pub invariant_of-self : goal.invariant_of-self
invariant_of-self g c =
    let e = c.advance-tried.ensures in
    let there : c.self.inside.seat.table_id ≡ c.args.words.now.table_id = ap (λ u. u.table) c.self.view_is ∙ c.requires in
    (consuming_then c.self.inside.seat.table_id c.advance-tried.new.seat.table_id c.args.words.now.table_id _ c.advance-tried.result.0.room c.self.inside.seat.me c.advance-tried.new.seat.me _ _ c.advance-tried.result.1 c.self.invariant.0 e.table there e.holding e.answer e.tracks, e.knows)

pub returns-clause-answer : goal.returns-clause-answer
returns-clause-answer g c =
    let e = c.advance-tried.ensures in
    let z = c.self.inside.seat.table_id in
    let m = c.self.inside.seat.me in
    let z' = c.advance-tried.new.seat.table_id in
    let k = c.advance-tried.new.seat.me in
    let slots = c.args.words.now.table_id.slots in
    let t = c.advance-tried.result.0.room in
    elim c.match-tried.branch [
      | in-Out w ↦
          let a = subst (λ r. Tries (Look (name m.0) ∷ []) slots m k t r) w.in-Out.is e.answer in
          rw w.result-is (subst (λ u. Consumes (Ok w.in-Out.item) u (standing z' k.0)) c.self.view_is (consumes_one z z' slots t _ m k _ e.table a))
      | in-Empty w ↦
          let a = subst (λ r. Tries (Look (name m.0) ∷ []) slots m k t r) w.in-Empty.is e.answer in
          rw w.result-is (subst (λ u. Consumes (Err error.Empty) u (standing z' k.0)) c.self.view_is (consumes_empty z z' slots t m k e.table a))
      | in-Inconsistent w ↦
          let a = subst (λ r. Tries (Look (name m.0) ∷ []) slots m k t r) w.in-Inconsistent.is e.answer in
          rw w.result-is (subst (λ u. Consumes (Err error.Inconsistent) u (standing z' k.0)) c.self.view_is (consumes_blocked z z' slots t m k e.table a))
    ]

pub returns-clause-whole : goal.returns-clause-whole
returns-clause-whole g c is =
    let e = c.advance-tried.ensures in
    let m = c.self.inside.seat.me in
    let k = c.advance-tried.new.seat.me in
    let slots = c.args.words.now.table_id.slots in
    let t = c.advance-tried.result.0.room in
    elim c.match-tried.branch [
      | in-Out w ↦ rw w.result-is tt
      | in-Empty w ↦ rw w.result-is tt
      | in-Inconsistent w ↦
          let a = subst (λ r. Tries (Look (name m.0) ∷ []) slots m k t r) w.in-Inconsistent.is e.answer in
          absurd (consuming_clear c.self.inside.seat.table_id c.advance-tried.new.seat.table_id slots _ t m k _ c.self.invariant.0 e.table a (ap (λ u. u.share) c.self.view_is ∙ is))
    ]

pub advance-tried-requires-clause-knows : goal.advance-tried-requires-clause-knows
advance-tried-requires-clause-knows g c = c.self.invariant.1
