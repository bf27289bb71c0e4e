use Rattle.std.proofs.Common.{◌-◌, length, arith}
use Rattle.cordyceps_stable.proofs.Spots.{last_is}
use Rattle.cordyceps_stable.proofs.stable_list.last_spot.Goals as goal

pub returns : goal.returns
returns g c = last_is c.args.chain.now (length c.args.chain.now - 1) c.tail.result.ptr (omega (arith, c.len.ensures, c.if-len-eq0.false)) c.tail.ensures
