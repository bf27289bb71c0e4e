use Rattle.std.proofs.Common.{◌≡◌, sym, ◌∙◌, subst, length, arith}
use Rattle.std.proofs.lemmas.Bool.{eqb-true}
use Rattle.std.proofs.lemmas.List.{nil_from_length}
use Rattle.cordyceps_base.specs.Runs.{Ran}
use Rattle.cordyceps_queue.specs.Cores.CoreMeets.{core_step}
use Rattle.cordyceps_base.proofs.Runs.{ran_none, ran_more}
use Rattle.cordyceps_queue.proofs.CoreTheory.CoreKeeps.{replayed}
use Rattle.cordyceps_queue.proofs.cores.replay.replay.Goals as goal

pub loop-replies-init : goal.loop-replies-init
loop-replies-init g c = rw c.new-replies.ensures.items (ran_none core_step c.args.steps.items c.args.core)

pub returns-in_default-clause-run : goal.returns-in_default-clause-run
returns-in_default-clause-run g c = rw c.reserve.ensures.items (replayed c.args.steps.items c.args.core c.loop-replies.core c.loop-replies.replies.items c.loop-replies.steps.items c.loop-replies.invariant)

pub loop-replies-preserved-in-Some : goal.loop-replies-preserved-in-Some
loop-replies-preserved-in-Some g c =
    let here = subst (Ran core_step c.args.steps.items c.args.core c.loop-replies.core c.loop-replies.replies.items) c.in-Some.ensures.items c.loop-replies.invariant in
    rw (c.push_reserved.ensures.items, c.reserve.ensures.items, c.step.ensures.machine, c.step.ensures.answer)
    (ran_more core_step c.args.steps.items c.args.core c.loop-replies.core c.loop-replies.replies.items (c.in-Some.party, c.in-Some.step) c.pop_front.new.self.items here)

pub returns-clause-run : goal.returns-clause-run
returns-clause-run g c = replayed c.args.steps.items c.args.core c.loop-replies.core c.loop-replies.replies.items c.loop-replies.steps.items c.loop-replies.invariant

pub returns-clause-stopped : goal.returns-clause-stopped
returns-clause-stopped g c =
    let empty = eqb-true _ 0 (sym c.is_empty.ensures ∙ c.loop-replies-test.false) in
    let none : length c.loop-replies.steps.items ≡ 0 = omega arith in
    (λ t. let no : ⊥ = cc in absurd no, λ ne. absurd (ne (nil_from_length c.loop-replies.steps.items none)))
