use Rattle.std.proofs.Common.{◌+◌, ◌*◌, suc, refl, sym, ◌∙◌, rules}
use Rattle.cordyceps_queue.proofs.SharedTheory.UsesWrite.{links_to}
use Rattle.cordyceps_queue.proofs.shared.steps.link.Goals as goal

pub store-requires : goal.store-requires
store-requires g c =
    let t = c.requires.table in
    let p = c.requires.stage in
    let (old_near, _, named) = c.requires.near in
    let u = c.requires.knows in
    (search rules, search rules, links_to _ _ _ _ _ c.args.to.room c.args.old.room refl (c.link_to.ensures ∙ (λ i. 4 * suc c.args.to.room + 2 * sym u.0.0 i + sym u.1.0 i)) p.0 old_near named)
