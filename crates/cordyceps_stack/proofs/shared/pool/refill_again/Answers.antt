use Rattle.std.proofs.Common.{[], refl, ◌∙◌, arith}
use Rattle.cordyceps_shared.proofs.StepEvents.{grown_then}
use Rattle.cordyceps_stack.specs.History.{Legal, actor}
use Rattle.cordyceps_stack.proofs.shared.pool.refill_again.Goals as goal

pub loop-try-init : goal.loop-try-init
loop-try-init g c =
    let tracks = c.requires.rooms in
    let count = tracks.0.count in record {
      table = refl;
      rests = c.requires.rest;
      sees = c.requires.seen;
      more = omega arith;
      tracks = tracks.0;
    }

pub returns-then-refill_to-clause-sees : goal.returns-then-refill_to-clause-sees
returns-then-refill_to-clause-sees g c =
    grown_then actor (λ z. Legal z) _ _ _ [] [] c.loop-try.invariant.sees c.refill_to.ensures.refills.sees

pub loop-try-preserved : goal.loop-try-preserved
loop-try-preserved g c =
    let i = c.loop-try.invariant in
    let r = c.refill_to.ensures in record {
      table = r.table ∙ i.table;
      rests = r.refills.rests;
      sees = grown_then actor (λ z. Legal z) _ _ _ [] [] i.sees r.refills.sees;
      more = r.refills.more;
      tracks = r.tracks;
    }
