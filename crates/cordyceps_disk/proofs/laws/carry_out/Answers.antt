use Rattle.std.proofs.Common.{◌+◌, ◌∷◌, ◌++◌, [], length, ap, sym, ◌∙◌, arith, refl}
use Rattle.std.proofs.lemmas.Grind.{common_steps}
use Rattle.std.proofs.lemmas.List.{nil_from_length}
use Rattle.std.proofs.lemmas.Result.{err_from_is_err_and}
use Rattle.std.specs.Vec.Iter.{into_iter_items}
use Rattle.cordyceps.specs.Parties.Counts.{tally}
use Rattle.cordyceps.proofs.Parties.Counting.{tally_append}
use Rattle.cordyceps_disk.specs.Runs.{in_queue, put_in}
use Rattle.cordyceps_disk.proofs.Counting.{idle_counts, serve_counts, submit_counts}
use Rattle.cordyceps_disk.proofs.Running.{run_ends, run_serves, run_serves_none, run_starts, run_submits, stops}
use Rattle.cordyceps_disk.proofs.laws.carry_out.Goals as goal

pub loop-step-init : goal.loop-step-init
loop-step-init g c =
    let given = c.into_iter-step-iterator.ensures.into_iter_gives in
    let none = c.new-served.ensures.items in record {
      going = run_starts c.args.steps.items (into_iter_items c.into_iter-step-iterator.result) c.args.queue.now c.new-served.result.items given.0 none;
      each = λ f. omega (arith, ap (tally f) none, ap (λ l. tally f (put_in l)) given.0);
      count_is = grind (arith, common_steps);
    }

pub loop-step-preserved-in-Ok : goal.loop-step-preserved-in-Ok
loop-step-preserved-in-Ok g c =
    let at = c.loop-step in
    let was = at.invariant in
    let steps = c.in-Some.ensures.steps in
    let left = into_iter_items c.next.new.self in
    let s = into_iter_items at.step-iterator in
    let r = c.in-Submit.request in record {
      going = run_submits c.args.steps.items s left c.args.queue.now at.queue c.submit.new.self at.served.items was.going c.in-Some.step steps.0 c.in-Ok.field-0 r c.in-Submit.is c.in-Ok.ensures.submitted;
      each = submit_counts at.queue c.submit.new.self s left at.served.items (λ f. tally f (put_in c.args.steps.items) + tally f (in_queue c.args.queue.now)) was.each c.in-Some.step steps.0 c.in-Ok.field-0 r c.in-Submit.is c.in-Ok.ensures.others;
      count_is = omega (arith, was.count_is, steps.1, ap length steps.0);
    }

pub loop-step-preserved-in-Continue-1 : goal.loop-step-preserved-in-Continue-1
loop-step-preserved-in-Continue-1 g c =
    let at = c.loop-step in
    let was = at.invariant in
    let steps = c.in-Some.ensures.steps in
    let left = into_iter_items c.next.new.self in
    let s = into_iter_items at.step-iterator in
    let (p, next, gone, head) = c.in-Some-next.ensures.served in
    let r = c.in-Some-next.request in
    let pushed = c.in_ok-push-in-Some-next.ensures.items in record {
      going = run_serves c.args.steps.items s left c.args.queue.now at.queue c.next-in-Serve.new.self at.served.items was.going c.in-Some.step steps.0 c.in-Serve.now p r c.push.new.self.items c.in-Serve.is next gone head pushed;
      each = serve_counts at.queue c.next-in-Serve.new.self s left at.served.items (λ f. tally f (put_in c.args.steps.items) + tally f (in_queue c.args.queue.now)) was.each c.in-Some.step steps.0 p r c.in-Serve.now c.push.new.self.items c.in-Serve.is gone.waiting pushed;
      count_is = omega (arith, was.count_is, steps.1, ap length steps.0);
    }

pub loop-step-preserved : goal.loop-step-preserved
loop-step-preserved g c =
    let at = c.loop-step in
    let was = at.invariant in
    let steps = c.in-Some.ensures.steps in
    let left = into_iter_items c.next.new.self in
    let s = into_iter_items at.step-iterator in
    let (none, same) = c.in-None-next.ensures.served in record {
      going = run_serves_none c.args.steps.items s left c.args.queue.now at.queue c.next-in-Serve.new.self at.served.items was.going c.in-Some.step steps.0 c.in-Serve.now c.in-Serve.is none same;
      each = idle_counts at.queue c.next-in-Serve.new.self s left at.served.items (λ f. tally f (put_in c.args.steps.items) + tally f (in_queue c.args.queue.now)) was.each c.in-Some.step steps.0 c.in-Serve.now c.in-Serve.is same;
      count_is = omega (arith, was.count_is, steps.1, ap length steps.0);
    }

pub returns-in-Err-clause-stopped : goal.returns-in-Err-clause-stopped
returns-in-Err-clause-stopped g c =
    let at = c.loop-step in
    rw c.in-Err.ensures.kept (stops c.args.steps.items (into_iter_items at.step-iterator) c.args.queue.now at.queue at.served.items at.invariant.going at.invariant.each)

pub returns-in_err-push-in-Some-next-clause-stopped : goal.returns-in_err-push-in-Some-next-clause-stopped
returns-in_err-push-in-Some-next-clause-stopped g c =
    let e = err_from_is_err_and c.from_residual.result c.from_residual.ensures.1 in
    let at = c.loop-step in
    let was = at.invariant in
    let steps = c.in-Some.ensures.steps in
    let left = into_iter_items c.next.new.self in
    let s = into_iter_items at.step-iterator in
    let (p, next, gone, head) = c.in-Some-next.ensures.served in
    let r = c.in-Some-next.request in
    let on = at.served.items ++ r ∷ [] in
    rw e.1 (
    stops c.args.steps.items left c.args.queue.now c.next-in-Serve.new.self on
    (run_serves c.args.steps.items s left c.args.queue.now at.queue c.next-in-Serve.new.self at.served.items was.going c.in-Some.step steps.0 c.in-Serve.now p r on c.in-Serve.is next gone head refl)
    (serve_counts at.queue c.next-in-Serve.new.self s left at.served.items (λ f. tally f (put_in c.args.steps.items) + tally f (in_queue c.args.queue.now)) was.each c.in-Some.step steps.0 p r c.in-Serve.now on c.in-Serve.is gone.waiting refl)
    )

pub returns-clause-ran : goal.returns-clause-ran
returns-clause-ran g c =
    let at = c.loop-step in
    let none = nil_from_length (into_iter_items at.step-iterator) (sym at.invariant.count_is ∙ c.in-None.ensures.steps.0) in
    run_ends c.args.steps.items (into_iter_items at.step-iterator) c.args.queue.now at.queue at.served.items at.invariant.going none

pub returns-clause-each_once : goal.returns-clause-each_once
returns-clause-each_once g c f =
    let is = c.loop-step.invariant in
    let none = nil_from_length (into_iter_items c.loop-step.step-iterator) (sym is.count_is ∙ c.in-None.ensures.steps.0) in
    omega (arith, is.each f, ap (λ l. tally f (put_in l)) none, tally_append f c.loop-step.served.items (in_queue c.loop-step.queue), tally_append f (put_in c.args.steps.items) (in_queue c.args.queue.now))
