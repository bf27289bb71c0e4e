use Rattle.std.proofs.Common.{arith, sym, ap, ◌≡◌, ◌+◌, length}
use Rattle.std.proofs.lemmas.List.{length-map}
use Rattle.std.proofs.Math.Nat.{mod_self}
use Rattle.cordyceps_list.proofs.cursor.Cursor.move_next.Goals as goal

pub returns-then-len-gt0-clause-place : goal.returns-then-len-gt0-clause-place
returns-then-len-gt0-clause-place g c =
    let last : c.args.self.now.place ≡ length c.args.self.now.elements = omega (arith, ap (λ p. length p.elements) c.self.view_is, ap (λ p. p.place) c.self.view_is, length-map c.self.inside.chain.now (λ n. n.1)) in
    rw last (sym (mod_self (length c.args.self.now.elements + 1)))

pub returns-else-len-gt0-clause-place : goal.returns-else-len-gt0-clause-place
returns-else-len-gt0-clause-place g c =
    let last : c.args.self.now.place ≡ length c.args.self.now.elements = omega (arith, ap (λ p. length p.elements) c.self.view_is, ap (λ p. p.place) c.self.view_is, length-map c.self.inside.chain.now (λ n. n.1)) in
    rw last (sym (mod_self (length c.args.self.now.elements + 1)))
