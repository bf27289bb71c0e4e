use Rattle.std.proofs.Common.{rules, ◌≡◌, [], ◌∷◌, ◌++◌, sym, ◌∙◌, subst, arith, length-append}
use Rattle.std.specs.Prelude.{nat_le}
use Rattle.cordyceps.specs.Elements.Element.{Elements}
use Rattle.cordyceps.specs.Cursors.DrainFilter.{elements, place, predicate_of}
use Rattle.cordyceps_uses.specs.contracts.examples.fn.move_urgent.drain_filter as closure
use Rattle.cordyceps_uses.specs.declared.job.Job.{Job}
use Rattle.cordyceps_uses.proofs.Draining.{Drains, few_moved, drains_more, drains_all}
use Rattle.cordyceps_uses.proofs.examples.move_urgent.Goals as goal

pub push_back-requires : goal.push_back-requires
push_back-requires c =
    let s = c.in-Some.ensures.steps in
    let was = c.loop-job.out in
    let more = drains_more (λ (x : Job). nat_le x.rank c.args.most) _ (λ f. (closure.captures f).most ≡ c.args.most) (λ f h x b called good. (search rules, search rules)) _ c.args.urgent.now c.args.jobs.now c.loop-job.urgent (elements was) _ (place was) _ (predicate_of was) _ c.in-Some.job c.loop-job.invariant.drains s.0 c.loop-job.invariant.most_is in
    let few = few_moved (λ (x : Job). nat_le x.rank c.args.most) c.args.urgent.now c.args.jobs.now (c.loop-job.urgent ++ c.in-Some.job ∷ []) _ _ more.0 in
    omega (arith, few, c.requires, length-append c.loop-job.urgent (c.in-Some.job ∷ []))

pub loop-job-preserved : goal.loop-job-preserved
loop-job-preserved c =
    let s = c.in-Some.ensures.steps in
    let was = c.loop-job.out in
    let more = drains_more (λ (x : Job). nat_le x.rank c.args.most) _ (λ f. (closure.captures f).most ≡ c.args.most) (λ f h x b called good. (search rules, search rules)) _ c.args.urgent.now c.args.jobs.now c.loop-job.urgent (elements was) _ (place was) _ (predicate_of was) _ c.in-Some.job c.loop-job.invariant.drains s.0 c.loop-job.invariant.most_is in
    record {
      same_reference = s.1 ∙ c.loop-job.invariant.same_reference;
      most_is = more.1;
      drains = subst (λ (z : Elements Job). Drains (λ (x : Job). nat_le x.rank c.args.most) c.args.urgent.now c.args.jobs.now z (elements c.next.new.self) (place c.next.new.self)) (sym c.push_back.ensures) more.0;
    }

pub returns-clause-moved : goal.returns-clause-moved
returns-clause-moved c =
    let s = c.in_default.ensures.steps in
    let was = c.loop-job.out in
    (drains_all (λ (x : Job). nat_le x.rank c.args.most) _ (λ f. (closure.captures f).most ≡ c.args.most) (λ f h x b called good. (search rules, search rules)) _ c.args.urgent.now c.args.jobs.now c.loop-job.urgent (elements was) _ (place was) _ (predicate_of was) _ c.loop-job.invariant.drains s.0 c.loop-job.invariant.most_is).0

pub returns-clause-kept : goal.returns-clause-kept
returns-clause-kept c =
    let s = c.in_default.ensures.steps in
    let was = c.loop-job.out in
    let all = drains_all (λ (x : Job). nat_le x.rank c.args.most) _ (λ f. (closure.captures f).most ≡ c.args.most) (λ f h x b called good. (search rules, search rules)) _ c.args.urgent.now c.args.jobs.now c.loop-job.urgent (elements was) _ (place was) _ (predicate_of was) _ c.loop-job.invariant.drains s.0 c.loop-job.invariant.most_is in
    let same = s.1 ∙ c.loop-job.invariant.same_reference ∙ c.drain_filter-out.ensures.same_reference in
    let left = c.drop-out.ensures ∙ all.1 in
    search (rules, left, same)
