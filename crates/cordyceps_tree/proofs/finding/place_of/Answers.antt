use Rattle.std.proofs.Common.{◌≡◌, ◌<◌, slice_get, Some, refl, sym, ap, ◌∙◌, subst, arith}
use denote.RawPtr.{InBlock}
use Rattle.cordyceps_base.specs.Boxes.{box_addresses, box_values}
use Rattle.cordyceps_base.specs.declared.boxes.Address.{Address}
use Rattle.cordyceps_tree.specs.declared.finding.Place.{Place}
use Rattle.cordyceps_tree.specs.declared.hook.Hook.{Hook}
use Rattle.cordyceps_tree.specs.Places.{below, IsSaidAt, IsSearched}
use Rattle.cordyceps_tree.specs.Rows.{hook_at}
use Rattle.cordyceps_tree.specs.Trees.{kid, height_at}
use Rattle.cordyceps_tree.proofs.HookRows.{found_there, hook_read}
use Rattle.cordyceps_tree.proofs.Raising.{if_so, if_not}
use Rattle.cordyceps_tree.proofs.Searching.{content_read, said_at, search_starts, search_ends, search_reaches, search_on}
use Rattle.cordyceps_tree.proofs.finding.place_of.Goals as goal

pub loop-at-init : goal.loop-at-init
loop-at-init g c = record {
  searched = search_starts (g.G.Guide.says c.args.guide.now) c.args.row.now.boxes.blocks c.args.root.ptr c.requires.tree _ c.null.ensures refl refl c.null-2.ensures;
  few = λ k. omega arith;
}

pub is_not_null-requires : goal.is_not_null-requires
is_not_null-requires g c =
    let ns = c.args.row.now.boxes.blocks in
    (search_reaches (g.G.Guide.says c.args.guide.now) ns c.args.root.ptr c.loop-at.place c.loop-at.at.ptr c.requires.tree.comparable c.loop-at.invariant.searched).testable

pub get-block-requires : goal.get-block-requires
get-block-requires g c =
    let ns = c.args.row.now.boxes.blocks in let h = c.loop-at.at.ptr in
    let solid : InBlock h = if_so _ c.is_not_null.result c.is_not_null.ensures c.loop-at-test.true in
    subst (λ ls. slice_get (box_addresses ls) 0 ≡ Some h) (sym c.from_address.ensures) (found_there ns h ((search_reaches (g.G.Guide.says c.args.guide.now) ns c.args.root.ptr c.loop-at.place h c.requires.tree.comparable c.loop-at.invariant.searched).there solid))

pub loop-at-smaller : goal.loop-at-smaller
loop-at-smaller g c =
    let ns = c.args.row.now.boxes.blocks in let says = g.G.Guide.says c.args.guide.now in let h = c.loop-at.at in
    let solid : InBlock h.ptr = if_so _ c.is_not_null.result c.is_not_null.ensures c.loop-at-test.true in
    let x = c.get-block.result.now in let d = c.is_after-after.result in
    let at : slice_get (box_values c.from_address.result.now.blocks) 0 ≡ Some x = c.get-block.ensures in
    let here = subst (λ ls. slice_get (box_values ls) 0 ≡ Some x) c.from_address.ensures at in
    let said : IsSaidAt says ns h.ptr d = said_at says ns x.value h.ptr d (content_read ns h.ptr x here) c.is_after-after.ensures in
    let on = search_on says ns c.args.root.ptr c.loop-at.place h solid c.loop-at.invariant.searched d said in
    let is : c.kid-at.result ≡ kid (hook_at ns h.ptr) d = c.kid-at.ensures ∙ ap (λ (z : Hook). kid z d) (sym (hook_read ns h.ptr x here)) in
    subst (λ (z : Address). height_at (hook_at ns) z.ptr < height_at (hook_at ns) h.ptr) (sym is) on.1

pub loop-at-preserved : goal.loop-at-preserved
loop-at-preserved g c =
    let ns = c.args.row.now.boxes.blocks in let says = g.G.Guide.says c.args.guide.now in let h = c.loop-at.at in let r = c.args.root.ptr in
    let solid : InBlock h.ptr = if_so _ c.is_not_null.result c.is_not_null.ensures c.loop-at-test.true in
    let x = c.get-block.result.now in let d = c.is_after-after.result in
    let at : slice_get (box_values c.from_address.result.now.blocks) 0 ≡ Some x = c.get-block.ensures in
    let here = subst (λ ls. slice_get (box_values ls) 0 ≡ Some x) c.from_address.ensures at in
    let said : IsSaidAt says ns h.ptr d = said_at says ns x.value h.ptr d (content_read ns h.ptr x here) c.is_after-after.ensures in
    let on = search_on says ns r c.loop-at.place h solid c.loop-at.invariant.searched d said in
    let is : c.kid-at.result ≡ kid (hook_at ns h.ptr) d = c.kid-at.ensures ∙ ap (λ (z : Hook). kid z d) (sym (hook_read ns h.ptr x here)) in
    let fewer : height_at (hook_at ns) c.kid-at.result.ptr < height_at (hook_at ns) h.ptr = subst (λ (z : Address). height_at (hook_at ns) z.ptr < height_at (hook_at ns) h.ptr) (sym is) on.1 in
    record {
      searched = subst (λ (w : Place). IsSearched says ns r w c.kid-at.result.ptr) (sym c.below-place.ensures) (subst (λ (z : Address). IsSearched says ns r (below c.loop-at.place h d) z.ptr) (sym is) on.0);
      few = λ k. let was = c.loop-at.invariant.few k in let one = c.count_comparison.ensures k in omega (arith, was, one, fewer);
    }

pub returns-clause-place : goal.returns-clause-place
returns-clause-place g c =
    search_ends (g.G.Guide.says c.args.guide.now) c.args.row.now.boxes.blocks c.args.root.ptr c.loop-at.place c.loop-at.at.ptr (if_not _ c.is_not_null.result c.is_not_null.ensures c.loop-at-test.false) c.loop-at.invariant.searched

pub returns-clause-few : goal.returns-clause-few
returns-clause-few g c = λ k. let few = c.loop-at.invariant.few k in omega (arith, few)
