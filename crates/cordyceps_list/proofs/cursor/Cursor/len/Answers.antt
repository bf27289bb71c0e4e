use Rattle.std.proofs.Common.{arith, ap, length}
use Rattle.std.proofs.lemmas.List.{length-map}
use Rattle.cordyceps_list.proofs.cursor.Cursor.len.Goals as goal

pub returns : goal.returns
returns g c = omega (arith, c.len.ensures, ap (λ p. length p.elements) c.self.view_is, length-map c.self.inside.chain.now (λ n. n.1))
