use Rattle.std.proofs.Common.{◌≡◌, true, [], ◌∷◌, ◌++◌, sym, ap, ◌∙◌, subst}
use Rattle.cordyceps_many.specs.Threads.{is_in, without}
use Rattle.cordyceps_many.specs.MultiList.{list_at}
use Rattle.cordyceps_base.specs.Spots.{AreNullComparable}
use Rattle.cordyceps_many.proofs.HookRows.{keeps_both}
use Rattle.cordyceps_many.proofs.Shared.{held, listed, after}
use Rattle.cordyceps_many.proofs.Members.{same_keeps}
use Rattle.cordyceps_many.proofs.Members.{in_mid, back_keeps}
use Rattle.cordyceps_many.proofs.multi_list.MultiList.move_to_back.Goals as goal

pub cut_open-rest-requires : goal.cut_open-rest-requires
cut_open-rest-requires g c =
    let ns = c.self.inside.row.boxes.blocks in let es = c.self.inside.ends in let v = c.args.self.now in let inv = c.self.invariant in let seen = c.self.view_is in let k = g.H.Rows.count in
    let i = c.args.i in let p = c.args.at in let s = list_at i v.lists in let w = held k es ns v inv seen i c.at-ends.result c.at-ends.ensures in
    record { within = c.requires.within; comparable = inv.parts.comparable; thread = (s, w, c.requires.in_list) }

pub put_last-ends-requires : goal.put_last-ends-requires
put_last-ends-requires g c =
    let ns = c.self.inside.row.boxes.blocks in let es = c.self.inside.ends in let v = c.args.self.now in let inv = c.self.invariant in let seen = c.self.view_is in let k = g.H.Rows.count in
    let i = c.args.i in let p = c.args.at in let s = list_at i v.lists in let w = held k es ns v inv seen i c.at-ends.result c.at-ends.ensures in
    let q = c.cut_open-rest in let t = q.ensures.around s w c.requires.in_list in
    record { there = subst (λ a. is_in p a ≡ true) (sym q.ensures.rest.addresses) (listed k es ns v inv seen i p c.requires.in_list); within = c.requires.within; comparable = subst AreNullComparable (sym q.ensures.rest.addresses) inv.parts.comparable; fits = q.ensures.room; around = (without p s, t) }

pub invariant_of-self : goal.invariant_of-self
invariant_of-self g c =
    let ns = c.self.inside.row.boxes.blocks in let es = c.self.inside.ends in let v = c.args.self.now in let inv = c.self.invariant in let seen = c.self.view_is in let k = g.H.Rows.count in
    let i = c.args.i in let p = c.args.at in let s = list_at i v.lists in let w = held k es ns v inv seen i c.at-ends.result c.at-ends.ensures in
    let q = c.cut_open-rest in let t = q.ensures.around s w c.requires.in_list in
    let r = c.put_last-ends in
    (after k es ns v inv seen r.new.row.boxes.blocks i r.result (without p s ++ p ∷ []) c.requires.within (r.ensures.thread (without p s) t) (keeps_both i ns q.new.row.boxes.blocks r.new.row.boxes.blocks q.ensures.rest r.ensures.rest) c.set.new.self c.set.ensures (λ z x m. back_keeps p s x m)).multi

pub returns-clause-nodes : goal.returns-clause-nodes
returns-clause-nodes g c =
    let ns = c.self.inside.row.boxes.blocks in let es = c.self.inside.ends in let v = c.args.self.now in let inv = c.self.invariant in let seen = c.self.view_is in let k = g.H.Rows.count in
    let i = c.args.i in let p = c.args.at in let s = list_at i v.lists in let w = held k es ns v inv seen i c.at-ends.result c.at-ends.ensures in
    let q = c.cut_open-rest in let t = q.ensures.around s w c.requires.in_list in
    let r = c.put_last-ends in
    (after k es ns v inv seen r.new.row.boxes.blocks i r.result (without p s ++ p ∷ []) c.requires.within (r.ensures.thread (without p s) t) (keeps_both i ns q.new.row.boxes.blocks r.new.row.boxes.blocks q.ensures.rest r.ensures.rest) c.set.new.self c.set.ensures (λ z x m. back_keeps p s x m)).nodes

pub returns-clause-list : goal.returns-clause-list
returns-clause-list g c =
    let ns = c.self.inside.row.boxes.blocks in let es = c.self.inside.ends in let v = c.args.self.now in let inv = c.self.invariant in let seen = c.self.view_is in let k = g.H.Rows.count in
    let i = c.args.i in let p = c.args.at in let s = list_at i v.lists in let w = held k es ns v inv seen i c.at-ends.result c.at-ends.ensures in
    let q = c.cut_open-rest in let t = q.ensures.around s w c.requires.in_list in
    let r = c.put_last-ends in
    (after k es ns v inv seen r.new.row.boxes.blocks i r.result (without p s ++ p ∷ []) c.requires.within (r.ensures.thread (without p s) t) (keeps_both i ns q.new.row.boxes.blocks r.new.row.boxes.blocks q.ensures.rest r.ensures.rest) c.set.new.self c.set.ensures (λ z x m. back_keeps p s x m)).list

pub returns-clause-others : goal.returns-clause-others
returns-clause-others g c =
    let ns = c.self.inside.row.boxes.blocks in let es = c.self.inside.ends in let v = c.args.self.now in let inv = c.self.invariant in let seen = c.self.view_is in let k = g.H.Rows.count in
    let i = c.args.i in let p = c.args.at in let s = list_at i v.lists in let w = held k es ns v inv seen i c.at-ends.result c.at-ends.ensures in
    let q = c.cut_open-rest in let t = q.ensures.around s w c.requires.in_list in
    let r = c.put_last-ends in
    (after k es ns v inv seen r.new.row.boxes.blocks i r.result (without p s ++ p ∷ []) c.requires.within (r.ensures.thread (without p s) t) (keeps_both i ns q.new.row.boxes.blocks r.new.row.boxes.blocks q.ensures.rest r.ensures.rest) c.set.new.self c.set.ensures (λ z x m. back_keeps p s x m)).others

pub returns-clause-in_list : goal.returns-clause-in_list
returns-clause-in_list g c =
    let ns = c.self.inside.row.boxes.blocks in let es = c.self.inside.ends in let v = c.args.self.now in let inv = c.self.invariant in let seen = c.self.view_is in let k = g.H.Rows.count in
    let i = c.args.i in let p = c.args.at in let s = list_at i v.lists in let w = held k es ns v inv seen i c.at-ends.result c.at-ends.ensures in
    let q = c.cut_open-rest in let t = q.ensures.around s w c.requires.in_list in
    let r = c.put_last-ends in
    ap (is_in c.args.at) (after k es ns v inv seen r.new.row.boxes.blocks i r.result (without p s ++ p ∷ []) c.requires.within (r.ensures.thread (without p s) t) (keeps_both i ns q.new.row.boxes.blocks r.new.row.boxes.blocks q.ensures.rest r.ensures.rest) c.set.new.self c.set.ensures (λ z x m. back_keeps p s x m)).list ∙ in_mid c.args.at (without c.args.at s) []

pub returns-clause-kept : goal.returns-clause-kept
returns-clause-kept g c = same_keeps _ _ (returns-clause-nodes g c)
