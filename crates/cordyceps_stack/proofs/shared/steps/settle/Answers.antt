use Rattle.std.proofs.Common.{sym, subst, rules, add-one, eq-eqb, ne_eqb}
use mathlib.Core.Logic.{dite}
use native.Mathlib.Decide.{ℕ_discrete}
use Rattle.cordyceps_stack.specs.Shared.Parts.{Settled}
use Rattle.cordyceps_stack.specs.Shared.Plays.{HasHit}
use Rattle.cordyceps_stack.proofs.SharedTheory.StepTells.{told}
use Rattle.cordyceps_stack.proofs.SharedTheory.StepsKeep.{exchanges}
use Rattle.cordyceps_stack.proofs.shared.steps.settle.Goals as goal

pub compare_exchange-requires : goal.compare_exchange-requires
compare_exchange-requires g c =
    let x = c.requires.filled in
    let t = c.requires.table in
    (search rules, search rules, exchanges _ _ _ _ c.args.room c.args.read x.0 (add-one c.args.room) record { doing = c.requires.loaded; hand = x.1; named = c.requires.named; inside = c.requires.inside })

pub returns-clause-settled : goal.returns-clause-settled
returns-clause-settled g c x hand =
    let m = c.args.seat.now.me in
    let k = c.compare_exchange.new.seat.me in
    let found = c.compare_exchange.result in
    let read = c.args.read in
    let t = (told c.compare_exchange.ensures) c.args.room read x c.requires.loaded hand in
    dite (ℕ_discrete found read)
    (λ e. subst (λ b. Settled c.args.room read x b m k) (sym (eq-eqb found read e)) (subst (λ n. HasHit x n m k) e (t.0 e)))
    (λ n. subst (λ b. Settled c.args.room read x b m k) (sym (ne_eqb found read n)) (t.1 n))
