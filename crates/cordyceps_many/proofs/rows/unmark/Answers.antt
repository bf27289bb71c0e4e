use Rattle.std.proofs.Common.{◌<◌, length, arith, sym, subst}
use Rattle.cordyceps_base.specs.Boxes.{box_addresses, set_value}
use Rattle.cordyceps_base.specs.Spots.{index_of}
use Rattle.cordyceps_many.specs.Threads.{hook_in, unmarked, Wrote}
use Rattle.cordyceps_many.specs.Rows.{hook_at, KeepsOthers}
use Rattle.cordyceps_many.proofs.HookRows.{place_of, hook_changed, hook_rest}
use Rattle.cordyceps_many.proofs.rows.unmark.Goals as goal

pub at_mut-block-requires : goal.at_mut-block-requires
at_mut-block-requires g c = (index_of c.args.at.ptr (box_addresses c.args.row.now.boxes.blocks), place_of (box_addresses c.args.row.now.boxes.blocks) c.args.at.ptr c.requires.there)

pub returns-clause-set : goal.returns-clause-set
returns-clause-set g c =
    let ns = c.args.row.now.boxes.blocks in let i = c.args.i in let p = c.args.at.ptr in let b = c.at_mut-block.result.now in let k = index_of p (box_addresses ns) in
    let long = c.unmark.ensures.long in let within = c.requires.within in let fits : i < length b.hooks = omega (arith, long, within) in
    subst (λ hs. Wrote (hook_at ns i) p (unmarked (hook_at ns i p)) (hook_at (set_value ns k (record b { hooks = hs })) i)) (sym c.unmark.ensures.set) (hook_changed ns i p b unmarked c.requires.there c.at_mut-block.ensures.value fits)

pub returns-clause-rest : goal.returns-clause-rest
returns-clause-rest g c =
    let ns = c.args.row.now.boxes.blocks in let i = c.args.i in let p = c.args.at.ptr in let b = c.at_mut-block.result.now in let k = index_of p (box_addresses ns) in
    let long = c.unmark.ensures.long in let within = c.requires.within in let fits : i < length b.hooks = omega (arith, long, within) in
    subst (λ hs. KeepsOthers i ns (set_value ns k (record b { hooks = hs }))) (sym c.unmark.ensures.set) (hook_rest ns i p b (unmarked (hook_in b.hooks i)) c.requires.there c.at_mut-block.ensures.value fits)
