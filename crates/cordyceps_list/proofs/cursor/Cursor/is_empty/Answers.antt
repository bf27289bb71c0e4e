use Rattle.std.proofs.Common.{refl}
use Rattle.cordyceps_list.proofs.cursor.Cursor.is_empty.Goals as goal

pub returns : goal.returns
returns g c = rw c.len.ensures refl
