use Rattle.cordyceps_base.proofs.LineEnds.{on_there, led_to}
use Rattle.cordyceps_base.proofs.double_lines.end_followed_by.Goals as goal

pub get_mut-requires : goal.get_mut-requires
get_mut-requires g c =
    let (more, l, is, some, (p, h, q, f)) = c.requires in
    on_there c.args.row.blocks more l c.cut_last-front.result.1.blocks p h c.args.last.ptr q is some f c.cut_last-front.ensures.1

pub returns : goal.returns
returns g c = λ more l p h q is some f.
    led_to c.join.result.blocks c.args.row.blocks more l c.cut_last-front.result.0.blocks c.cut_last-front.result.1.blocks p h c.args.last.ptr q c.args.next c.get_mut.result.now is some f c.cut_last-front.ensures c.get_mut.ensures.value c.join.ensures
