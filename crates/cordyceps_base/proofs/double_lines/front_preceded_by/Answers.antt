use Rattle.std.proofs.Common.{subst, refl}
use Rattle.cordyceps_base.specs.Boxes.{box_addresses}
use Rattle.cordyceps_base.specs.Spots.{AreNullComparable}
use Rattle.std.proofs.Common.{sym, ◌≡◌, slice_get, Some}
use Rattle.cordyceps_base.proofs.Segments.{first_testable, comparable_front}
use Rattle.cordyceps_base.proofs.LineEnds.{led_there, led_none, led_some}
use Rattle.cordyceps_base.proofs.double_lines.front_preceded_by.Goals as goal

pub is_null-requires : goal.is_null-requires
is_null-requires g c =
    let (l, more, is, (p, t, f)) = c.requires.linked in
    first_testable p c.args.first.ptr l t f (comparable_front l more (subst (λ ls. AreNullComparable (box_addresses ls)) is c.requires.null_comparable))

pub get_mut-requires : goal.get_mut-requires
get_mut-requires g c =
    let (l, more, is, (p, t, f)) = c.requires.linked in
    subst (λ ls. slice_get (box_addresses ls) 0 ≡ Some c.args.first.ptr) (sym is) (led_there p c.args.first.ptr l more t f c.if-is_null.ensures)

pub returns-then-is_null : goal.returns-then-is_null
returns-then-is_null g c = λ l more is (p, t, f). led_none p c.args.first.ptr c.args.prev.ptr c.args.row.blocks c.args.row.blocks l more t f c.requires.null_comparable is refl c.if-is_null.ensures

pub returns : goal.returns
returns g c = λ l more is (p, t, f). led_some p c.args.first.ptr c.args.prev _ c.args.row.blocks l more t c.get_mut.result.now f is c.get_mut.ensures.value refl c.if-is_null.ensures
