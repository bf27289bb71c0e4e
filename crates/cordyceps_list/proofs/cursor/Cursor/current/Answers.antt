use Rattle.std.proofs.Common.{rules}
use Rattle.cordyceps_list.proofs.cursor.Cursor.current.Goals as goal

pub returns-then-self-len : goal.returns-then-self-len
returns-then-self-len g c = search rules
