use Rattle.std.proofs.Common.{arith, ap, ◌≡◌, length}
use Rattle.std.proofs.lemmas.List.{length-map}
use Rattle.cordyceps_list.proofs.list.List.back.Goals as goal

pub returns : goal.returns
returns g c =
    let n : length c.self.inside.chain ≡ length c.args.self.now = omega (arith, ap length c.self.view_is, length-map c.self.inside.chain (λ n. n.1)) in
    cc
