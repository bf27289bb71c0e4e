use Rattle.std.proofs.Common.{rules}
use Rattle.freelist.proofs.free_list.FreeList.refill_and_put_remote.Goals as goal

pub returns : goal.returns
returns g c = search rules
