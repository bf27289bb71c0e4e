use Rattle.std.proofs.Common.{◌≢◌, arith, [], ◌∷◌, ◌++◌, refl, ap, ◌∙◌}
use Rattle.cordyceps_many.specs.Threads.{is_in}
use Rattle.cordyceps_many.specs.MultiList.{list_at}
use Rattle.cordyceps_many.proofs.Members.{pushed_has, pushed_keeps}
use Rattle.cordyceps_many.proofs.Shared.{held, listed, spot_in, all_of, same_lists, turned, turned_multi, came, came_open, came_new, came_there, came_away, came_all, came_nodes, came_lists}
use Rattle.cordyceps_many.proofs.multi_list.MultiList.insert.Goals as goal

pub put_last-ends-requires : goal.put_last-ends-requires
put_last-ends-requires g c =
    let ns = c.self.inside.row.boxes.blocks in let es = c.self.inside.ends in let v = c.args.self.now in let inv = c.self.invariant in let seen = c.self.view_is in let k = g.H.Rows.count in
    let w = held k es ns v inv seen 0 c.at-ends.result c.at-ends.ensures in
    let j = c.joined-at in let js = j.new.row.boxes.blocks in let p = j.result in let u = j.ensures.added in let a = u.alloc in let x = u.block in let off = u.off in let shows = u.shows in let is = u.row in let s = list_at 0 v.lists in
    let t = came_open k es ns js p a x inv.parts is j.ensures.distinct j.ensures.comparable off c.at-ends.result s w in
    let long = w.long in let fits = c.requires in
    record { there = came_there k es ns js p a x inv.parts is j.ensures.distinct j.ensures.comparable off; within = g.met.H.Rows.some; comparable = j.ensures.comparable; fits = omega (arith, long, fits); around = (s, t) }

pub invariant_of-self : goal.invariant_of-self
invariant_of-self g c =
    let ns = c.self.inside.row.boxes.blocks in let es = c.self.inside.ends in let v = c.args.self.now in let inv = c.self.invariant in let seen = c.self.view_is in let k = g.H.Rows.count in
    let w = held k es ns v inv seen 0 c.at-ends.result c.at-ends.ensures in
    let j = c.joined-at in let js = j.new.row.boxes.blocks in let p = j.result in let u = j.ensures.added in let a = u.alloc in let x = u.block in let off = u.off in let shows = u.shows in let is = u.row in let s = list_at 0 v.lists in
    let t = came_open k es ns js p a x inv.parts is j.ensures.distinct j.ensures.comparable off c.at-ends.result s w in
    let r = c.put_last-ends in let ms = r.new.row.boxes.blocks in
    turned_multi k es js ms 0 r.result (s ++ p ∷ []) (came k es ns js p a x inv.parts is j.ensures.distinct j.ensures.comparable off) g.met.H.Rows.some (r.ensures.thread s t) r.ensures.rest c.set.new.self c.set.ensures v.lists (λ i n. came_lists k es ns js p a x inv.parts is j.ensures.distinct j.ensures.comparable off i n ∙ same_lists k es ns v inv seen i) (λ z. came_all k es ns js p a x inv.parts is j.ensures.distinct j.ensures.comparable off s (all_of k es ns v inv seen 0 refl)) (λ n. absurd (n refl))

pub returns-clause-nodes : goal.returns-clause-nodes
returns-clause-nodes g c =
    let ns = c.self.inside.row.boxes.blocks in let es = c.self.inside.ends in let v = c.args.self.now in let inv = c.self.invariant in let seen = c.self.view_is in let k = g.H.Rows.count in
    let w = held k es ns v inv seen 0 c.at-ends.result c.at-ends.ensures in
    let j = c.joined-at in let js = j.new.row.boxes.blocks in let p = j.result in let u = j.ensures.added in let a = u.alloc in let x = u.block in let off = u.off in let shows = u.shows in let is = u.row in let s = list_at 0 v.lists in
    let t = came_open k es ns js p a x inv.parts is j.ensures.distinct j.ensures.comparable off c.at-ends.result s w in
    let r = c.put_last-ends in let ms = r.new.row.boxes.blocks in
    r.ensures.rest.nodes ∙ came_nodes k es ns js p a x inv.parts is j.ensures.distinct j.ensures.comparable off ∙ (λ i. (seen i).nodes ++ (p, shows i) ∷ [])

pub returns-clause-list : goal.returns-clause-list
returns-clause-list g c =
    let ns = c.self.inside.row.boxes.blocks in let es = c.self.inside.ends in let v = c.args.self.now in let inv = c.self.invariant in let seen = c.self.view_is in let k = g.H.Rows.count in
    let w = held k es ns v inv seen 0 c.at-ends.result c.at-ends.ensures in
    let j = c.joined-at in let js = j.new.row.boxes.blocks in let p = j.result in let u = j.ensures.added in let a = u.alloc in let x = u.block in let off = u.off in let shows = u.shows in let is = u.row in let s = list_at 0 v.lists in
    let t = came_open k es ns js p a x inv.parts is j.ensures.distinct j.ensures.comparable off c.at-ends.result s w in
    let r = c.put_last-ends in let ms = r.new.row.boxes.blocks in
    (turned k es js ms 0 r.result (s ++ p ∷ []) (came k es ns js p a x inv.parts is j.ensures.distinct j.ensures.comparable off) g.met.H.Rows.some (r.ensures.thread s t) r.ensures.rest c.set.new.self c.set.ensures v.lists (λ i n. came_lists k es ns js p a x inv.parts is j.ensures.distinct j.ensures.comparable off i n ∙ same_lists k es ns v inv seen i)).list

pub returns-clause-others : goal.returns-clause-others
returns-clause-others g c =
    let ns = c.self.inside.row.boxes.blocks in let es = c.self.inside.ends in let v = c.args.self.now in let inv = c.self.invariant in let seen = c.self.view_is in let k = g.H.Rows.count in
    let w = held k es ns v inv seen 0 c.at-ends.result c.at-ends.ensures in
    let j = c.joined-at in let js = j.new.row.boxes.blocks in let p = j.result in let u = j.ensures.added in let a = u.alloc in let x = u.block in let off = u.off in let shows = u.shows in let is = u.row in let s = list_at 0 v.lists in
    let t = came_open k es ns js p a x inv.parts is j.ensures.distinct j.ensures.comparable off c.at-ends.result s w in
    let r = c.put_last-ends in let ms = r.new.row.boxes.blocks in
    (turned k es js ms 0 r.result (s ++ p ∷ []) (came k es ns js p a x inv.parts is j.ensures.distinct j.ensures.comparable off) g.met.H.Rows.some (r.ensures.thread s t) r.ensures.rest c.set.new.self c.set.ensures v.lists (λ i n. came_lists k es ns js p a x inv.parts is j.ensures.distinct j.ensures.comparable off i n ∙ same_lists k es ns v inv seen i)).others

pub returns-clause-there : goal.returns-clause-there
returns-clause-there g c = pushed_has _ _ _ _ (returns-clause-nodes g c)

pub returns-clause-kept : goal.returns-clause-kept
returns-clause-kept g c = pushed_keeps _ _ _ _ (returns-clause-nodes g c)

pub returns-clause-apart : goal.returns-clause-apart
returns-clause-apart g c =
    let ns = c.self.inside.row.boxes.blocks in let es = c.self.inside.ends in let v = c.args.self.now in let inv = c.self.invariant in let seen = c.self.view_is in let k = g.H.Rows.count in
    let j = c.joined-at in let js = j.new.row.boxes.blocks in let p = j.result in let u = j.ensures.added in let a = u.alloc in let x = u.block in let off = u.off in let shows = u.shows in let is = u.row in let s = list_at 0 v.lists in
    λ h. let m = spot_in k es ns v inv seen p h in let n = came_new k es ns js p a x inv.parts is j.ensures.distinct j.ensures.comparable off in absurd cc

pub returns-clause-not_in : goal.returns-clause-not_in
returns-clause-not_in g c =
    let ns = c.self.inside.row.boxes.blocks in let es = c.self.inside.ends in let v = c.args.self.now in let inv = c.self.invariant in let seen = c.self.view_is in let k = g.H.Rows.count in
    let w = held k es ns v inv seen 0 c.at-ends.result c.at-ends.ensures in
    let j = c.joined-at in let js = j.new.row.boxes.blocks in let p = j.result in let u = j.ensures.added in let a = u.alloc in let x = u.block in let off = u.off in let shows = u.shows in let is = u.row in let s = list_at 0 v.lists in
    let t = came_open k es ns js p a x inv.parts is j.ensures.distinct j.ensures.comparable off c.at-ends.result s w in
    let r = c.put_last-ends in let ms = r.new.row.boxes.blocks in
    λ i more. let n : i ≢ 0 = λ z. omega (arith, z, more) in ap (is_in p) ((turned k es js ms 0 r.result (s ++ p ∷ []) (came k es ns js p a x inv.parts is j.ensures.distinct j.ensures.comparable off) g.met.H.Rows.some (r.ensures.thread s t) r.ensures.rest c.set.new.self c.set.ensures v.lists (λ i n. came_lists k es ns js p a x inv.parts is j.ensures.distinct j.ensures.comparable off i n ∙ same_lists k es ns v inv seen i)).others i n) ∙ came_away k es ns js p a x inv.parts is j.ensures.distinct j.ensures.comparable off (list_at i v.lists) (λ q m. listed k es ns v inv seen i q m)
