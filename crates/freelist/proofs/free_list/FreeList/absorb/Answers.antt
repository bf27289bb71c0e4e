use Rattle.std.proofs.Common.{rules}
use Rattle.freelist.proofs.free_list.FreeList.absorb.Goals as goal

pub returns : goal.returns
returns g c = search rules
