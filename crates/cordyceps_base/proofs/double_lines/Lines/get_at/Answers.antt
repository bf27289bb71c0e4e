use Rattle.std.proofs.Common.{take}
use Rattle.cordyceps_base.specs.DoubleLines.{flat}
use Rattle.cordyceps_base.proofs.LineSpots.{flat_lines}
use Rattle.cordyceps_base.proofs.Segments.{place_there, value_there}
use Rattle.cordyceps_base.proofs.double_lines.Lines.get_at.Goals as goal

pub get-requires : goal.get-requires
get-requires g c =
    let i = c.self.inside in let ns = i.row.blocks in
    place_there ns c.from_address.result.now.blocks (flat c.args.self.now) c.args.at.ptr (flat_lines (take i.count i.firsts) ns c.args.self.now c.self.invariant.lines c.self.view_is) c.requires c.from_address.ensures

pub returns : goal.returns
returns g c =
    let i = c.self.inside in let ns = i.row.blocks in
    value_there ns c.from_address.result.now.blocks (flat c.args.self.now) c.args.at.ptr (flat_lines (take i.count i.firsts) ns c.args.self.now c.self.invariant.lines c.self.view_is) c.requires c.from_address.ensures c.get.result.now c.get.ensures
