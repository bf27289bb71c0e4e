use Rattle.std.proofs.Common.{rules, arith, ap, length, length-drop, take-append-drop}
use Rattle.std.proofs.lemmas.List.{length-take}
use Rattle.cordyceps_list.proofs.laws.append_split_off.Goals as goal

pub append-requires : goal.append-requires
append-requires g c =
    let s = c.args.list.now in
    let index = c.args.index in
    omega (arith, ap length c.split_off-rest.ensures.kept, ap length c.split_off-rest.ensures.split, length-take index s, length-drop index s)

pub returns-clause-shown : goal.returns-clause-shown
returns-clause-shown g c = search rules

pub returns-clause-restored : goal.returns-clause-restored
returns-clause-restored g c = cc (take-append-drop c.args.index c.args.list.now)
