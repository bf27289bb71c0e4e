use Rattle.std.proofs.Common.{arith}
use Rattle.cordyceps_many.specs.MultiList.{list_at}
use Rattle.cordyceps_many.proofs.Fewer.{fewer}
use Rattle.cordyceps_many.proofs.multi_list.MultiList.has_room.Goals as goal

pub returns : goal.returns
returns g c =
    let l = c.args.self.now.lists in let a = c.lists_agree.ensures in
    let less = fewer (list_at c.args.i l) (list_at 0 l) c.args.at (a.once c.args.i) (λ q e. a.all q (a.inside c.args.i q e)) c.requires.not_in (a.all c.args.at c.requires.there) in
    omega (arith, less, c.len-len.ensures, c.len-len.type_inv)
