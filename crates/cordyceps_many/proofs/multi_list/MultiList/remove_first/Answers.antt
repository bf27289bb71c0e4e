use Rattle.std.proofs.Common.{length, arith, sym, ap, subst}
use Rattle.cordyceps_many.specs.Rows.{hook_at}
use Rattle.cordyceps_many.specs.MultiList.{list_at, IsFirstOf}
use Rattle.cordyceps_many.proofs.Members.{first_in}
use Rattle.cordyceps_many.proofs.Shared.{held, in_spot, listed}
use Rattle.cordyceps_many.proofs.Threads.{thread_first_is, length_without}
use Rattle.cordyceps_many.proofs.multi_list.MultiList.remove_first.Goals as goal

pub remove-requires : goal.remove-requires
remove-requires g c =
    let ns = c.self.inside.row.boxes.blocks in let es = c.self.inside.ends in let v = c.args.self.now in let inv = c.self.invariant in let seen = c.self.view_is in let k = g.H.Rows.count in
    let s = list_at 0 v.lists in let e = c.at.result in let w = held k es ns v inv seen 0 e c.at.ensures in let asked = c.requires in let long = w.long in
    let q = c.spot_at-at.result in let first = subst (IsFirstOf s) (sym c.spot_at-at.ensures) (thread_first_is (hook_at ns 0) e s w (λ z. omega (arith, asked, long, z))) in
    let there = first_in s q first in
    in_spot k es ns v inv seen q (listed k es ns v inv seen 0 q there)

pub returns : goal.returns
returns g c =
    let ns = c.self.inside.row.boxes.blocks in let es = c.self.inside.ends in let v = c.args.self.now in let inv = c.self.invariant in let seen = c.self.view_is in let k = g.H.Rows.count in
    let s = list_at 0 v.lists in let e = c.at.result in let w = held k es ns v inv seen 0 e c.at.ensures in let asked = c.requires in let long = w.long in
    let q = c.spot_at-at.result in let first = subst (IsFirstOf s) (sym c.spot_at-at.ensures) (thread_first_is (hook_at ns 0) e s w (λ z. omega (arith, asked, long, z))) in
    let there = first_in s q first in
    let cut = ap length (c.remove.ensures.lists 0 g.met.H.Rows.some) in let l = length_without q s there in omega (arith, cut, l)
