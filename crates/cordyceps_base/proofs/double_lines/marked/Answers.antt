use Rattle.std.proofs.Common.{take, get_or, arith, subst}
use Rattle.cordyceps_base.specs.DoubleLines.{IsHeadMarked}
use Rattle.cordyceps_base.proofs.LineMarks.{marked_read, marked_within, read_head, is_marked_one, is_marked_none}
use Rattle.cordyceps_base.proofs.LineReads.{none, read_at}
use Rattle.cordyceps_base.proofs.LineTables.{took}
use Rattle.cordyceps_base.proofs.double_lines.marked.Goals as goal

pub loop-k-init : goal.loop-k-init
loop-k-init g c = λ ls j is m. omega arith

pub is_marked-requires : goal.is_marked-requires
is_marked-requires g c =
    let ns = c.args.row.now.blocks in let hs = take c.args.count c.args.firsts.now in let k = c.loop-k.k in let h = get_or c.args.firsts.now k none in
    let (ls, j, is, m) = c.requires.marked in let long = c.requires.long.0 in let most = c.requires.long.1 in
    let on = read_at c.args.firsts.now c.args.count k c.loop-k-test.true (omega (arith, long, most)) in
    read_head ns ls j k h is c.requires.row.0 c.requires.row.1 (marked_read hs ls j k h m on (c.loop-k.invariant ls j is m))

pub returns-then-is_marked : goal.returns-then-is_marked
returns-then-is_marked g c = λ ls j is m.
    let ns = c.args.row.now.blocks in let hs = take c.args.count c.args.firsts.now in let k = c.loop-k.k in let h = get_or c.args.firsts.now k none in
    let long = c.requires.long.0 in let most = c.requires.long.1 in
    let on = read_at c.args.firsts.now c.args.count k c.loop-k-test.true (omega (arith, long, most)) in
    is_marked_one ns ls j k h c.requires.row.1 c.requires.row.0 is (marked_read hs ls j k h m on (c.loop-k.invariant ls j is m)) (subst (λ b. IsHeadMarked b h ns) c.if-is_marked.true c.is_marked.ensures)

pub loop-k-preserved : goal.loop-k-preserved
loop-k-preserved g c = λ ls j is m.
    let ns = c.args.row.now.blocks in let hs = take c.args.count c.args.firsts.now in let k = c.loop-k.k in let h = get_or c.args.firsts.now k none in
    let long = c.requires.long.0 in let most = c.requires.long.1 in let p = c.loop-k.invariant ls j is m in
    let on = read_at c.args.firsts.now c.args.count k c.loop-k-test.true (omega (arith, long, most)) in
    is_marked_none ns ls j k h c.requires.row.1 c.requires.row.0 is p (marked_read hs ls j k h m on p) (subst (λ b. IsHeadMarked b h ns) c.if-is_marked.false c.is_marked.ensures)

pub returns : goal.returns
returns g c = λ ls j is m.
    let hs = take c.args.count c.args.firsts.now in let long = c.requires.long.0 in let most = c.requires.long.1 in
    let (ls0, j0, is0, m0) = c.requires.marked in let p = c.loop-k.invariant ls0 j0 is0 m0 in let q = marked_within hs ls0 j0 m0 in
    let t = took c.args.firsts.now c.args.count (omega (arith, long, most)) in let over = c.loop-k-test.false in absurd (omega (arith, p, q, t, over))
