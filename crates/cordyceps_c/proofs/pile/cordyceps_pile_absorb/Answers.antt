use Rattle.std.proofs.Common.{◌≡◌, [], subst, arith}
use Rattle.std.proofs.lemmas.List.{nil_from_length}
use Rattle.cordyceps_c_shared.specs.Piles.{TakesOver}
use Rattle.cordyceps_c_shared.specs.declared.pile.Pile.{Pile}
use Rattle.cordyceps_c.proofs.pile.cordyceps_pile_absorb.Goals as goal

pub returns : goal.returns
returns c =
    let new = c.absorb.new.self in
    let none = nil_from_length c.deref.result.now.taken (grind arith) in
    let over = subst (λ (i : Pile). TakesOver i c.in-Some-take.absorbed.value new) c.deref_mut.ensures.value
    (subst (λ (k : Pile). TakesOver c.deref_mut.result.now k new) c.into_inner.ensures c.absorb.ensures) in
    rw c.in-Some.ensures.taken
    (rw c.in-Some-take.ensures.taken
    (new, subst (λ (k : Pile). k.taken ≡ []) c.deref.ensures none, c.put-2.ensures, c.take-2.ensures.none, over))
