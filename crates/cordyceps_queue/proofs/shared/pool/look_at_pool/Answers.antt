use Rattle.std.proofs.Common.{◌≤◌, length, sym, subst, rules}
use Rattle.std.proofs.lemmas.Bool.{eqb-false}
use Rattle.cordyceps_queue.specs.Shared.View.{View}
use Rattle.cordyceps_queue.proofs.SharedTheory.PoolJoins.{near_back}
use Rattle.cordyceps_queue.proofs.SharedTheory.PoolKeeps.{glances}
use Rattle.cordyceps_queue.proofs.SharedTheory.StepTells.{told}
use Rattle.cordyceps_queue.proofs.shared.pool.look_at_pool.Goals as goal

pub load-requires : goal.load-requires
load-requires g c =
    let r = c.requires.hand in
    let t = c.requires.table in
    (search rules, search rules, glances _ _ _ r.carries (near_back _ _ r) r.named r.joins)

pub returns-clause-lacks : goal.returns-clause-lacks
returns-clause-lacks g c not = (told c.load.ensures).lacks (eqb-false c.load.result 0 not)

pub returns-clause-gathered : goal.returns-clause-gathered
returns-clause-gathered g c = let t = told c.load.ensures in λ i. (t.view_is i, t.hand i)

pub returns-clause-few : goal.returns-clause-few
returns-clause-few g c = let t = told c.load.ensures in subst (λ (v : View _). length v.free ≤ c.args.words.now.table_id.slots) (sym t.view_is) t.few
