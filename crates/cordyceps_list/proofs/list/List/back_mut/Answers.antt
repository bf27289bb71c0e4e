use Rattle.std.proofs.Common.{rules, arith, ap, ◌≡◌, length}
use Rattle.std.proofs.lemmas.List.{length-map}
use Rattle.cordyceps_list.proofs.list.List.back_mut.Goals as goal

pub returns : goal.returns
returns g c =
    let e : c.len-len.result ≡ length c.args.self.now = omega (arith, ap length c.self.view_is, length-map c.self.inside.chain (λ n. n.1)) in
    rw (← e) (search rules)
