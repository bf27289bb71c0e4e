use Rattle.std.proofs.Common.{◌≡◌, sym, subst, rules, eq-eqb, ne_eqb}
use Rattle.std.proofs.lemmas.Bool.{eqb-false}
use mathlib.Core.Logic.{dite}
use native.Mathlib.Decide.{ℕ_discrete}
use Rattle.cordyceps_shared.specs.FreeChains.{first_rooms, rest_rooms}
use Rattle.cordyceps_shared.specs.Pools.{Packs}
use Rattle.cordyceps_stack.specs.Shared.Parts.{GivesRest}
use Rattle.cordyceps_stack.proofs.SharedTheory.PoolKeeps.{gives_rest}
use Rattle.cordyceps_stack.proofs.SharedTheory.StepTells.{told}
use Rattle.cordyceps_stack.proofs.shared.pool.put_rest.Goals as goal

pub compare_exchange-requires : goal.compare_exchange-requires
compare_exchange-requires g c =
    let r = c.requires.rest in
    (search rules, search rules, gives_rest _ _ g.B.Count.rooms c.args.word _ r.0.idle r.0.named (subst (λ n. Packs c.args.word (rest_rooms n c.args.seat.now.me.0.free)) (sym r.1) c.requires.packs))

pub returns-clause-gives : goal.returns-clause-gives
returns-clause-gives g c =
    let m = c.args.seat.now.me in
    let k = c.compare_exchange.new.seat.me in
    let found = c.compare_exchange.result in
    let t = told c.compare_exchange.ensures in
    dite (ℕ_discrete found 0)
    (λ e. subst (λ b. GivesRest c.args.rooms b m k) (sym (eq-eqb found 0 e)) (subst (λ n. k ≡ (record m.0 { free = first_rooms n m.0.free }, m.1)) c.requires.rest.1 (λ i. ((t.0 e).0 i, (t.0 e).1 i))))
    (λ n. subst (λ b. GivesRest c.args.rooms b m k) (sym (ne_eqb found 0 n)) (t.1 n).0)

pub returns-clause-lacks : goal.returns-clause-lacks
returns-clause-lacks g c not = let t = told c.compare_exchange.ensures in (t.1 (eqb-false c.compare_exchange.result 0 not)).1
