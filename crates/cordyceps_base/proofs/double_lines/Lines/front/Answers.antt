use Rattle.std.proofs.Common.{get_or, ◌<◌, arith, take}
use Rattle.cordyceps_base.specs.Nodes.{nodes_of}
use Rattle.cordyceps_base.proofs.LineReads.{none, read_at, at_line, at_testable, at_shown, at_none, at_some, at_there, at_value}
use Rattle.cordyceps_base.proofs.LineTables.{table_count}
use Rattle.cordyceps_base.proofs.double_lines.Lines.front.Goals as goal

pub is_null-requires : goal.is_null-requires
is_null-requires g c =
    let i = c.self.inside in let ns = i.row.blocks in let w = c.self.invariant in let h = get_or i.firsts c.args.k none in
    let n = table_count i.firsts i.count ns c.args.self.now w c.self.view_is in let within = c.requires in let long = w.long in let most = w.within in
    let u = at_line (take i.count i.firsts) ns c.args.k h w.lines (read_at i.firsts i.count c.args.k (omega (arith, n, within)) (omega (arith, long, most))) in
    at_testable u

pub returns-then-is_null : goal.returns-then-is_null
returns-then-is_null g c =
    let i = c.self.inside in let ns = i.row.blocks in let w = c.self.invariant in let h = get_or i.firsts c.args.k none in
    let n = table_count i.firsts i.count ns c.args.self.now w c.self.view_is in let within = c.requires in let long = w.long in let most = w.within in
    let u = at_line (take i.count i.firsts) ns c.args.k h w.lines (read_at i.firsts i.count c.args.k (omega (arith, n, within)) (omega (arith, long, most))) in
    (nodes_of u.line, at_shown u c.args.self.now c.self.view_is, at_none u c.if-is_null.ensures)

pub get-requires : goal.get-requires
get-requires g c =
    let i = c.self.inside in let ns = i.row.blocks in let w = c.self.invariant in let h = get_or i.firsts c.args.k none in
    let n = table_count i.firsts i.count ns c.args.self.now w c.self.view_is in let within = c.requires in let long = w.long in let most = w.within in
    let u = at_line (take i.count i.firsts) ns c.args.k h w.lines (read_at i.firsts i.count c.args.k (omega (arith, n, within)) (omega (arith, long, most))) in
    at_there u (at_some u c.if-is_null.ensures) c.from_address.result.now.blocks w.lines.distinct c.from_address.ensures

pub returns : goal.returns
returns g c =
    let i = c.self.inside in let ns = i.row.blocks in let w = c.self.invariant in let h = get_or i.firsts c.args.k none in
    let n = table_count i.firsts i.count ns c.args.self.now w c.self.view_is in let within = c.requires in let long = w.long in let most = w.within in
    let u = at_line (take i.count i.firsts) ns c.args.k h w.lines (read_at i.firsts i.count c.args.k (omega (arith, n, within)) (omega (arith, long, most))) in
    (nodes_of u.line, at_shown u c.args.self.now c.self.view_is, at_value u (at_some u c.if-is_null.ensures) c.from_address.result.now.blocks c.get.result.now w.lines.distinct c.from_address.ensures c.get.ensures)

pub bounds-self-inside-k : goal.bounds-self-inside-k
bounds-self-inside-k g c =
    let i = c.self.inside in let n = table_count i.firsts i.count i.row.blocks c.args.self.now c.self.invariant c.self.view_is in let within = c.requires in let most = c.self.invariant.within in omega (arith, n, within, most)

pub offset_bounds-self-inside-k : goal.offset_bounds-self-inside-k
offset_bounds-self-inside-k g c =
    let i = c.self.inside in let n = table_count i.firsts i.count i.row.blocks c.args.self.now c.self.invariant c.self.view_is in let within = c.requires in let most = c.self.invariant.within in
    let less : c.args.k < 64 = omega (arith, n, within, most) in record { fits = omega (arith, less) }
