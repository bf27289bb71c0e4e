use Rattle.std.proofs.Common.{rules}
use Rattle.freelist.proofs.free_list.FreeList.put_remote_all.Goals as goal

pub returns : goal.returns
returns g c = search rules
