use Rattle.std.proofs.Common.{◌<◌, ◌∷◌, get_or, Some, ap, ◌∙◌, arith, take}
use Rattle.cordyceps_base.specs.Nodes.{block_of, block_element, nodes_of}
use Rattle.cordyceps_base.proofs.LineReads.{none, read_at, at_line, at_shown, at_node}
use Rattle.cordyceps_base.proofs.LineTables.{table_count}
use Rattle.cordyceps_base.proofs.double_lines.Lines.first.Goals as goal

pub returns : goal.returns
returns g c =
    let i = c.self.inside in let ns = i.row.blocks in let w = c.self.invariant in let h = get_or i.firsts c.args.k none in
    let n = table_count i.firsts i.count ns c.args.self.now w c.self.view_is in let within = c.requires.within in let long = w.long in let most = w.within in
    let u = at_line (take i.count i.firsts) ns c.args.k h w.lines (read_at i.firsts i.count c.args.k (omega (arith, n, within)) (omega (arith, long, most))) in
    let (x, l, there) = c.requires.some in let f = at_node u c.args.self.now x l c.self.view_is there in
    (block_element (block_of f.node), nodes_of f.rest, at_shown u c.args.self.now c.self.view_is ∙ ap (λ r. Some (nodes_of r)) f.parts ∙ (λ j. Some ((f.at j, block_element (block_of f.node)) ∷ nodes_of f.rest)))

pub bounds-self-inside-k : goal.bounds-self-inside-k
bounds-self-inside-k g c =
    let i = c.self.inside in let n = table_count i.firsts i.count i.row.blocks c.args.self.now c.self.invariant c.self.view_is in let within = c.requires.within in let most = c.self.invariant.within in omega (arith, n, within, most)

pub offset_bounds-self-inside-k : goal.offset_bounds-self-inside-k
offset_bounds-self-inside-k g c =
    let i = c.self.inside in let n = table_count i.firsts i.count i.row.blocks c.args.self.now c.self.invariant c.self.view_is in let within = c.requires.within in let most = c.self.invariant.within in
    let less : c.args.k < 64 = omega (arith, n, within, most) in record { fits = omega (arith, less) }
