use Rattle.std.proofs.Common.{rules, arith, refl, ap, length}
use Rattle.std.proofs.lemmas.List.{length-map}
use Rattle.cordyceps_list.proofs.cursor.CursorIterator.next.Goals as goal

pub returns-then-self-len-clause-steps : goal.returns-then-self-len-clause-steps
returns-then-self-len-clause-steps g c = (omega (arith, ap (λ p. length p.elements) c.self.view_is, ap (λ p. p.place) c.self.view_is, length-map c.self.inside.chain.now (λ n. n.1)), refl)

pub returns-then-self-len-clause-goes : goal.returns-then-self-len-clause-goes
returns-then-self-len-clause-goes g c = search rules
