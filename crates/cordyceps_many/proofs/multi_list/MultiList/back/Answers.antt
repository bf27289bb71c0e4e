use Rattle.std.proofs.Common.{sym, subst}
use Rattle.cordyceps_many.specs.Rows.{hook_at}
use Rattle.cordyceps_many.specs.MultiList.{list_at, IsLastOf}
use Rattle.cordyceps_many.proofs.Members.{last_in}
use Rattle.cordyceps_many.proofs.Shared.{held, in_spot, listed}
use Rattle.cordyceps_many.proofs.Threads.{thread_none, thread_last_is}
use Rattle.cordyceps_many.proofs.multi_list.MultiList.back.Goals as goal

pub returns-then-len-eq0-clause-last : goal.returns-then-len-eq0-clause-last
returns-then-len-eq0-clause-last g c =
    let ns = c.self.inside.row.boxes.blocks in let es = c.self.inside.ends in let v = c.args.self.now in let inv = c.self.invariant in let seen = c.self.view_is in let k = g.H.Rows.count in
    let i = c.args.i in let s = list_at i v.lists in let e = c.at-len.result in let w = held k es ns v inv seen i e c.at-len.ensures in
    thread_none (hook_at ns i) e s w c.if-len-eq0.true

pub returns-else-len-eq0-clause-last : goal.returns-else-len-eq0-clause-last
returns-else-len-eq0-clause-last g c =
    let ns = c.self.inside.row.boxes.blocks in let es = c.self.inside.ends in let v = c.args.self.now in let inv = c.self.invariant in let seen = c.self.view_is in let k = g.H.Rows.count in
    let i = c.args.i in let s = list_at i v.lists in let e = c.at-len.result in let w = held k es ns v inv seen i e c.at-len.ensures in
    subst (IsLastOf s) (sym c.spot_at.ensures) (thread_last_is (hook_at ns i) e s w c.if-len-eq0.false)

pub returns-else-len-eq0-clause-in_list : goal.returns-else-len-eq0-clause-in_list
returns-else-len-eq0-clause-in_list g c = last_in _ _ (returns-else-len-eq0-clause-last g c)

pub returns-else-len-eq0-clause-there : goal.returns-else-len-eq0-clause-there
returns-else-len-eq0-clause-there g c =
    let ns = c.self.inside.row.boxes.blocks in let es = c.self.inside.ends in let v = c.args.self.now in let inv = c.self.invariant in let seen = c.self.view_is in let k = g.H.Rows.count in
    in_spot k es ns v inv seen c.spot_at.result (listed k es ns v inv seen c.args.i c.spot_at.result (returns-else-len-eq0-clause-in_list g c))
