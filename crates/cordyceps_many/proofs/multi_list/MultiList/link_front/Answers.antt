use Rattle.std.proofs.Common.{arith, ◌∷◌, ap, ◌∙◌}
use Rattle.cordyceps_many.specs.Threads.{is_in}
use Rattle.cordyceps_many.specs.MultiList.{list_at}
use Rattle.cordyceps_many.proofs.Shared.{held, spot_in, after}
use Rattle.cordyceps_many.proofs.Members.{same_keeps}
use Rattle.cordyceps_many.proofs.Members.{in_self}
use Rattle.cordyceps_many.proofs.Threads.{in_more}
use Rattle.cordyceps_many.specs.Rows.{hook_at}
use Rattle.cordyceps_many.proofs.Threads.{opened}
use Rattle.cordyceps_many.proofs.multi_list.MultiList.link_front.Goals as goal

pub put_first-ends-requires : goal.put_first-ends-requires
put_first-ends-requires g c =
    let ns = c.self.inside.row.boxes.blocks in let es = c.self.inside.ends in let v = c.args.self.now in let inv = c.self.invariant in let seen = c.self.view_is in let k = g.H.Rows.count in
    let i = c.args.i in let s = list_at i v.lists in let w = held k es ns v inv seen i c.at-ends.result c.at-ends.ensures in let long = w.long in let fits = c.has_room.ensures in
    record { there = spot_in k es ns v inv seen c.args.at c.requires.there; within = c.requires.within; comparable = inv.parts.comparable; fits = omega (arith, long, fits); around = (s, opened (hook_at ns i) c.at-ends.result s c.args.at w c.requires.not_in) }

pub invariant_of-self : goal.invariant_of-self
invariant_of-self g c =
    let ns = c.self.inside.row.boxes.blocks in let es = c.self.inside.ends in let v = c.args.self.now in let inv = c.self.invariant in let seen = c.self.view_is in let k = g.H.Rows.count in
    let i = c.args.i in let s = list_at i v.lists in let w = held k es ns v inv seen i c.at-ends.result c.at-ends.ensures in let r = c.put_first-ends in
    (after k es ns v inv seen r.new.row.boxes.blocks i r.result (c.args.at ∷ s) c.requires.within (r.ensures.thread s (opened (hook_at ns i) c.at-ends.result s c.args.at w c.requires.not_in)) r.ensures.rest c.set.new.self c.set.ensures (λ z p m. in_more p c.args.at s m)).multi

pub returns-clause-nodes : goal.returns-clause-nodes
returns-clause-nodes g c =
    let ns = c.self.inside.row.boxes.blocks in let es = c.self.inside.ends in let v = c.args.self.now in let inv = c.self.invariant in let seen = c.self.view_is in let k = g.H.Rows.count in
    let i = c.args.i in let s = list_at i v.lists in let w = held k es ns v inv seen i c.at-ends.result c.at-ends.ensures in let r = c.put_first-ends in
    (after k es ns v inv seen r.new.row.boxes.blocks i r.result (c.args.at ∷ s) c.requires.within (r.ensures.thread s (opened (hook_at ns i) c.at-ends.result s c.args.at w c.requires.not_in)) r.ensures.rest c.set.new.self c.set.ensures (λ z p m. in_more p c.args.at s m)).nodes

pub returns-clause-list : goal.returns-clause-list
returns-clause-list g c =
    let ns = c.self.inside.row.boxes.blocks in let es = c.self.inside.ends in let v = c.args.self.now in let inv = c.self.invariant in let seen = c.self.view_is in let k = g.H.Rows.count in
    let i = c.args.i in let s = list_at i v.lists in let w = held k es ns v inv seen i c.at-ends.result c.at-ends.ensures in let r = c.put_first-ends in
    (after k es ns v inv seen r.new.row.boxes.blocks i r.result (c.args.at ∷ s) c.requires.within (r.ensures.thread s (opened (hook_at ns i) c.at-ends.result s c.args.at w c.requires.not_in)) r.ensures.rest c.set.new.self c.set.ensures (λ z p m. in_more p c.args.at s m)).list

pub returns-clause-others : goal.returns-clause-others
returns-clause-others g c =
    let ns = c.self.inside.row.boxes.blocks in let es = c.self.inside.ends in let v = c.args.self.now in let inv = c.self.invariant in let seen = c.self.view_is in let k = g.H.Rows.count in
    let i = c.args.i in let s = list_at i v.lists in let w = held k es ns v inv seen i c.at-ends.result c.at-ends.ensures in let r = c.put_first-ends in
    (after k es ns v inv seen r.new.row.boxes.blocks i r.result (c.args.at ∷ s) c.requires.within (r.ensures.thread s (opened (hook_at ns i) c.at-ends.result s c.args.at w c.requires.not_in)) r.ensures.rest c.set.new.self c.set.ensures (λ z p m. in_more p c.args.at s m)).others

pub returns-clause-in_list : goal.returns-clause-in_list
returns-clause-in_list g c =
    let ns = c.self.inside.row.boxes.blocks in let es = c.self.inside.ends in let v = c.args.self.now in let inv = c.self.invariant in let seen = c.self.view_is in let k = g.H.Rows.count in
    let i = c.args.i in let s = list_at i v.lists in let w = held k es ns v inv seen i c.at-ends.result c.at-ends.ensures in let r = c.put_first-ends in
    ap (is_in c.args.at) (after k es ns v inv seen r.new.row.boxes.blocks i r.result (c.args.at ∷ s) c.requires.within (r.ensures.thread s (opened (hook_at ns i) c.at-ends.result s c.args.at w c.requires.not_in)) r.ensures.rest c.set.new.self c.set.ensures (λ z p m. in_more p c.args.at s m)).list ∙ in_self c.args.at s

pub returns-clause-kept : goal.returns-clause-kept
returns-clause-kept g c = same_keeps _ _ (returns-clause-nodes g c)
