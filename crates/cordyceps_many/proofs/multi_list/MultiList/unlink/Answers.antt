use Rattle.std.proofs.Common.{arith, ap, ◌∙◌}
use Rattle.cordyceps_many.specs.Threads.{is_in, without}
use Rattle.cordyceps_many.specs.MultiList.{list_at}
use Rattle.cordyceps_many.proofs.Shared.{held, in_spot, listed, after}
use Rattle.cordyceps_many.proofs.Threads.{without_gone}
use Rattle.cordyceps_many.proofs.Members.{same_keeps}
use Rattle.cordyceps_many.proofs.multi_list.MultiList.unlink.Goals as goal

pub cut_out-ends-requires : goal.cut_out-ends-requires
cut_out-ends-requires g c =
    let ns = c.self.inside.row.boxes.blocks in let es = c.self.inside.ends in let v = c.args.self.now in let inv = c.self.invariant in let seen = c.self.view_is in let k = g.H.Rows.count in
    let i = c.args.i in let s = list_at i v.lists in let w = held k es ns v inv seen i c.at-ends.result c.at-ends.ensures in
    record { within = c.requires.within; not_all = c.requires.not_all; comparable = inv.parts.comparable; thread = (s, w, c.requires.in_list) }

pub invariant_of-self : goal.invariant_of-self
invariant_of-self g c =
    let ns = c.self.inside.row.boxes.blocks in let es = c.self.inside.ends in let v = c.args.self.now in let inv = c.self.invariant in let seen = c.self.view_is in let k = g.H.Rows.count in
    let i = c.args.i in let s = list_at i v.lists in let w = held k es ns v inv seen i c.at-ends.result c.at-ends.ensures in let r = c.cut_out-ends in let no = c.requires.not_all in
    (after k es ns v inv seen r.new.row.boxes.blocks i r.result (without c.args.at s) c.requires.within (r.ensures.thread s w c.requires.in_list) r.ensures.rest c.set.new.self c.set.ensures (λ z p m. absurd (omega (arith, z, no)))).multi

pub returns-clause-nodes : goal.returns-clause-nodes
returns-clause-nodes g c =
    let ns = c.self.inside.row.boxes.blocks in let es = c.self.inside.ends in let v = c.args.self.now in let inv = c.self.invariant in let seen = c.self.view_is in let k = g.H.Rows.count in
    let i = c.args.i in let s = list_at i v.lists in let w = held k es ns v inv seen i c.at-ends.result c.at-ends.ensures in let r = c.cut_out-ends in let no = c.requires.not_all in
    (after k es ns v inv seen r.new.row.boxes.blocks i r.result (without c.args.at s) c.requires.within (r.ensures.thread s w c.requires.in_list) r.ensures.rest c.set.new.self c.set.ensures (λ z p m. absurd (omega (arith, z, no)))).nodes

pub returns-clause-list : goal.returns-clause-list
returns-clause-list g c =
    let ns = c.self.inside.row.boxes.blocks in let es = c.self.inside.ends in let v = c.args.self.now in let inv = c.self.invariant in let seen = c.self.view_is in let k = g.H.Rows.count in
    let i = c.args.i in let s = list_at i v.lists in let w = held k es ns v inv seen i c.at-ends.result c.at-ends.ensures in let r = c.cut_out-ends in let no = c.requires.not_all in
    (after k es ns v inv seen r.new.row.boxes.blocks i r.result (without c.args.at s) c.requires.within (r.ensures.thread s w c.requires.in_list) r.ensures.rest c.set.new.self c.set.ensures (λ z p m. absurd (omega (arith, z, no)))).list

pub returns-clause-others : goal.returns-clause-others
returns-clause-others g c =
    let ns = c.self.inside.row.boxes.blocks in let es = c.self.inside.ends in let v = c.args.self.now in let inv = c.self.invariant in let seen = c.self.view_is in let k = g.H.Rows.count in
    let i = c.args.i in let s = list_at i v.lists in let w = held k es ns v inv seen i c.at-ends.result c.at-ends.ensures in let r = c.cut_out-ends in let no = c.requires.not_all in
    (after k es ns v inv seen r.new.row.boxes.blocks i r.result (without c.args.at s) c.requires.within (r.ensures.thread s w c.requires.in_list) r.ensures.rest c.set.new.self c.set.ensures (λ z p m. absurd (omega (arith, z, no)))).others

pub returns-clause-kept : goal.returns-clause-kept
returns-clause-kept g c = same_keeps _ _ (returns-clause-nodes g c)

pub returns-clause-out : goal.returns-clause-out
returns-clause-out g c =
    let ns = c.self.inside.row.boxes.blocks in let es = c.self.inside.ends in let v = c.args.self.now in let inv = c.self.invariant in let seen = c.self.view_is in let k = g.H.Rows.count in
    let i = c.args.i in let s = list_at i v.lists in let w = held k es ns v inv seen i c.at-ends.result c.at-ends.ensures in let r = c.cut_out-ends in let no = c.requires.not_all in
    ap (is_in c.args.at) (after k es ns v inv seen r.new.row.boxes.blocks i r.result (without c.args.at s) c.requires.within (r.ensures.thread s w c.requires.in_list) r.ensures.rest c.set.new.self c.set.ensures (λ z p m. absurd (omega (arith, z, no)))).list ∙ without_gone c.args.at s w.once

pub returns-clause-there : goal.returns-clause-there
returns-clause-there g c =
    let ns = c.self.inside.row.boxes.blocks in let es = c.self.inside.ends in let v = c.args.self.now in let inv = c.self.invariant in let seen = c.self.view_is in let k = g.H.Rows.count in
    returns-clause-kept g c c.args.at (in_spot k es ns v inv seen c.args.at (listed k es ns v inv seen c.args.i c.args.at c.requires.in_list))
