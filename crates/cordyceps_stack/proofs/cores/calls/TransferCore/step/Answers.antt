use Rattle.std.proofs.Common.{◌≡◌, sym, ◌∙◌, rules}
use Rattle.std.specs.Prelude.{slice_get, Some}
use Rattle.cordyceps_stack.proofs.CoreTheory.WalkCalls.{hands_acts}
use Rattle.cordyceps_stack.proofs.CoreTheory.CoreKeeps.{core_acts}
use Rattle.cordyceps_stack.proofs.CoreTheory.Refusals.{exact_act}
use Rattle.cordyceps_stack.proofs.cores.calls.TransferCore.step.Goals as goal

pub returns-in-Some-clause-accepted : goal.returns-in-Some-clause-accepted
returns-in-Some-clause-accepted g c =
    let at : slice_get c.args.self.now.parties c.args.party ≡ Some c.in-Some.stage = sym c.stage_of.ensures.stage ∙ c.in-Some.is in
    rw c.act.ensures.answer (exact_act c.args.self.now c.args.party c.args.step c.in-Some.stage c.stage_of.ensures.sound at).0

pub returns-in-Some-clause-refused : goal.returns-in-Some-clause-refused
returns-in-Some-clause-refused g c =
    let at : slice_get c.args.self.now.parties c.args.party ≡ Some c.in-Some.stage = sym c.stage_of.ensures.stage ∙ c.in-Some.is in
    rw (c.act.ensures.answer, c.act.ensures.machine) (exact_act c.args.self.now c.args.party c.args.step c.in-Some.stage c.stage_of.ensures.sound at).1

pub returns-in-Some-clause-history : goal.returns-in-Some-clause-history
returns-in-Some-clause-history g c = λ h was.
    let at : slice_get c.args.self.now.parties c.args.party ≡ Some c.in-Some.stage = sym c.stage_of.ensures.stage ∙ c.in-Some.is in
    rw (c.act.ensures.machine, c.act.ensures.answer) (core_acts h c.args.self.now c.args.party c.args.step c.in-Some.stage at was)

pub returns-in-Some-clause-walks : goal.returns-in-Some-clause-walks
returns-in-Some-clause-walks g c = λ h was.
    let at : slice_get c.args.self.now.parties c.args.party ≡ Some c.in-Some.stage = sym c.stage_of.ensures.stage ∙ c.in-Some.is in
    rw (c.act.ensures.machine, c.act.ensures.answer) (hands_acts h c.args.self.now c.args.party c.args.step c.in-Some.stage at was)

pub returns-in-None-clause-answer : goal.returns-in-None-clause-answer
returns-in-None-clause-answer g c = search rules

pub returns-in-None-clause-machine : goal.returns-in-None-clause-machine
returns-in-None-clause-machine g c = search rules

pub returns-in-Some-clause-machine : goal.returns-in-Some-clause-machine
returns-in-Some-clause-machine g c = search rules

pub returns-in-Some-clause-answer : goal.returns-in-Some-clause-answer
returns-in-Some-clause-answer g c = search rules

pub returns-in-None-clause-accepted : goal.returns-in-None-clause-accepted
returns-in-None-clause-accepted g c = search rules

pub returns-in-None-clause-refused : goal.returns-in-None-clause-refused
returns-in-None-clause-refused g c = search rules
