use Rattle.std.proofs.Common.{◌≡◌, ◌≢◌, ℕ, ◌<◌, true, false, refl, sym, ap, ◌∙◌, subst, arith}
use Rattle.cordyceps_base.specs.BySpot.{IsTaken}
use Rattle.cordyceps_many.specs.declared.hook.Hook.{Hook}
use Rattle.cordyceps_many.specs.Rows.{hook_at, nodes_of}
use Rattle.cordyceps_many.specs.Threads.{is_in, without, ends_in, IsOpen}
use Rattle.cordyceps_many.specs.MultiList.{list_at, lists_in}
use Rattle.cordyceps_many.proofs.Shared.{AreOthers, held, spot_in, linked, all_of, away_all, same_lists, others_of, ends_with, others_with, lists_with, gone, gone_list, gone_others, out_taken}
use Rattle.cordyceps_many.proofs.multi_list.MultiList.take_out.Goals as goal

pub cut_open-ends-requires : goal.cut_open-ends-requires
cut_open-ends-requires g c =
    let ns = c.self.inside.row.boxes.blocks in let es = c.self.inside.ends in let v = c.args.self.now in let inv = c.self.invariant in let seen = c.self.view_is in let k = g.H.Rows.count in
    let p = c.args.at in let s = list_at 0 v.lists in let w = held k es ns v inv seen 0 c.at-ends.result c.at-ends.ensures in
    let there = all_of k es ns v inv seen 0 refl p (spot_in k es ns v inv seen p c.requires.there) in
    record { within = g.met.H.Rows.some; comparable = inv.parts.comparable; thread = (s, w, there) }

pub taken-requires : goal.taken-requires
taken-requires g c =
    let ns = c.self.inside.row.boxes.blocks in let es = c.self.inside.ends in let v = c.args.self.now in let inv = c.self.invariant in let seen = c.self.view_is in let k = g.H.Rows.count in
    let p = c.args.at in let here = spot_in k es ns v inv seen p c.requires.there in
    let r = c.cut_open-ends in let ms = r.new.row.boxes.blocks in let rest = r.ensures.rest in let away = away_all k es ns v inv seen p c.requires.alone in
    let off : (i : ℕ) → 0 < i → (hook_at ms i p).linked ≡ false = λ i m. let n : i ≢ 0 = λ z. omega (arith, m, z) in ap (λ (h : Hook). h.linked) (rest.hooks i n p) ∙ (linked k es ns v inv seen i).marks p ∙ away i n in
    record { there = subst (λ a. is_in p a ≡ true) (sym rest.addresses) here; off = off }

pub invariant_of-self : goal.invariant_of-self
invariant_of-self g c =
    let ns = c.self.inside.row.boxes.blocks in let es = c.self.inside.ends in let v = c.args.self.now in let inv = c.self.invariant in let seen = c.self.view_is in let k = g.H.Rows.count in
    let p = c.args.at in let s = list_at 0 v.lists in let w = held k es ns v inv seen 0 c.at-ends.result c.at-ends.ensures in
    let there = all_of k es ns v inv seen 0 refl p (spot_in k es ns v inv seen p c.requires.there) in
    let r = c.cut_open-ends in let ms = r.new.row.boxes.blocks in let rest = r.ensures.rest in let new = c.set.new.self in
    let o = others_of k 0 es ns inv.parts in
    let others = subst (λ z. AreOthers k 0 z ms) (sym c.set.ensures) (others_with k es ns ms 0 r.result o g.met.H.Rows.some rest) in
    let around = subst (λ z. IsOpen (hook_at ms 0) (ends_in z 0) (without p s) p) (sym c.set.ensures) (subst (λ e. IsOpen (hook_at ms 0) e (without p s) p) (sym (ends_with k es ns ms 0 r.result o g.met.H.Rows.some rest)) (r.ensures.around s w there)) in
    let away = away_all k es ns v inv seen p c.requires.alone in
    let off : (i : ℕ) → 0 < i → (hook_at ms i p).linked ≡ false = λ i m. let n : i ≢ 0 = λ z. omega (arith, m, z) in ap (λ (h : Hook). h.linked) (rest.hooks i n p) ∙ (linked k es ns v inv seen i).marks p ∙ away i n in
    let x = c.taken.ensures in
    gone k new ms c.taken.new.row.boxes.blocks p c.taken.result s others around x.taken x.distinct x.comparable off (λ q m. all_of k es ns v inv seen 0 refl q (subst (λ a. is_in q a ≡ true) rest.addresses m))

pub returns-clause-nodes : goal.returns-clause-nodes
returns-clause-nodes g c =
    let ms = c.cut_open-ends.new.row.boxes.blocks in let js = c.taken.new.row.boxes.blocks in
    subst (λ d. IsTaken d c.args.at c.taken.result (nodes_of js)) (c.cut_open-ends.ensures.rest.nodes ∙ ap (λ m. m.nodes) c.self.view_is) (out_taken ms js c.args.at c.taken.result c.taken.ensures.taken)

pub returns-clause-all : goal.returns-clause-all
returns-clause-all g c =
    let ns = c.self.inside.row.boxes.blocks in let es = c.self.inside.ends in let v = c.args.self.now in let inv = c.self.invariant in let seen = c.self.view_is in let k = g.H.Rows.count in
    let p = c.args.at in let s = list_at 0 v.lists in let w = held k es ns v inv seen 0 c.at-ends.result c.at-ends.ensures in
    let there = all_of k es ns v inv seen 0 refl p (spot_in k es ns v inv seen p c.requires.there) in
    let r = c.cut_open-ends in let ms = r.new.row.boxes.blocks in let rest = r.ensures.rest in let new = c.set.new.self in
    let o = others_of k 0 es ns inv.parts in
    let others = subst (λ z. AreOthers k 0 z ms) (sym c.set.ensures) (others_with k es ns ms 0 r.result o g.met.H.Rows.some rest) in
    let around = subst (λ z. IsOpen (hook_at ms 0) (ends_in z 0) (without p s) p) (sym c.set.ensures) (subst (λ e. IsOpen (hook_at ms 0) e (without p s) p) (sym (ends_with k es ns ms 0 r.result o g.met.H.Rows.some rest)) (r.ensures.around s w there)) in
    let away = away_all k es ns v inv seen p c.requires.alone in
    let off : (i : ℕ) → 0 < i → (hook_at ms i p).linked ≡ false = λ i m. let n : i ≢ 0 = λ z. omega (arith, m, z) in ap (λ (h : Hook). h.linked) (rest.hooks i n p) ∙ (linked k es ns v inv seen i).marks p ∙ away i n in
    let x = c.taken.ensures in
    gone_list k new ms c.taken.new.row.boxes.blocks p c.taken.result s others around x.taken x.distinct x.comparable off

pub returns-clause-others : goal.returns-clause-others
returns-clause-others g c =
    let ns = c.self.inside.row.boxes.blocks in let es = c.self.inside.ends in let v = c.args.self.now in let inv = c.self.invariant in let seen = c.self.view_is in let k = g.H.Rows.count in
    let p = c.args.at in let s = list_at 0 v.lists in let w = held k es ns v inv seen 0 c.at-ends.result c.at-ends.ensures in
    let there = all_of k es ns v inv seen 0 refl p (spot_in k es ns v inv seen p c.requires.there) in
    let r = c.cut_open-ends in let ms = r.new.row.boxes.blocks in let rest = r.ensures.rest in let new = c.set.new.self in
    let o = others_of k 0 es ns inv.parts in
    let others = subst (λ z. AreOthers k 0 z ms) (sym c.set.ensures) (others_with k es ns ms 0 r.result o g.met.H.Rows.some rest) in
    let around = subst (λ z. IsOpen (hook_at ms 0) (ends_in z 0) (without p s) p) (sym c.set.ensures) (subst (λ e. IsOpen (hook_at ms 0) e (without p s) p) (sym (ends_with k es ns ms 0 r.result o g.met.H.Rows.some rest)) (r.ensures.around s w there)) in
    let away = away_all k es ns v inv seen p c.requires.alone in
    let off : (i : ℕ) → 0 < i → (hook_at ms i p).linked ≡ false = λ i m. let n : i ≢ 0 = λ z. omega (arith, m, z) in ap (λ (h : Hook). h.linked) (rest.hooks i n p) ∙ (linked k es ns v inv seen i).marks p ∙ away i n in
    let x = c.taken.ensures in
    λ j n. gone_others k new ms c.taken.new.row.boxes.blocks p c.taken.result s others around x.taken x.distinct x.comparable off j n
    ∙ subst (λ z. list_at j (lists_in ms 0 z) ≡ list_at j (lists_in ns 0 es)) (sym c.set.ensures) (lists_with k es ns ms 0 r.result o g.met.H.Rows.some rest j n) ∙ same_lists k es ns v inv seen j
