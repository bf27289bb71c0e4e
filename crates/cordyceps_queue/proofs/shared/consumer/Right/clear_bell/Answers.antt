use Rattle.std.proofs.Common.{◌≡◌, [], ◌∷◌, refl, ap, ◌∙◌, subst}
use Rattle.cordyceps_queue.specs.History.{Clear}
use Rattle.cordyceps_queue.specs.Shared.Bell.{ClearsBell}
use Rattle.cordyceps_queue.specs.Shared.Parts.{standing}
use Rattle.cordyceps_queue.specs.Shared.Rule.{IsTable}
use Rattle.cordyceps_queue.specs.Shared.View.{name}
use Rattle.cordyceps_queue.proofs.SharedTheory.BellSeats.{hears_consuming, hears_use, hears_call}
use Rattle.cordyceps_queue.proofs.shared.consumer.Right.clear_bell.Goals as goal

pub invariant_of-self : goal.invariant_of-self
invariant_of-self g c =
    let m = c.self.inside.seat.me in
    let e = c.clear.ensures in (
      hears_consuming _ _ _ m c.clear.new.seat.me _ (Clear (name m.0) ∷ []) c.self.invariant.0 e.table e.hears (λ q. (refl, (refl, refl))),
      hears_use m c.clear.new.seat.me c.self.inside.tail (Clear (name m.0) ∷ []) e.hears c.self.invariant.1,
    )

pub returns : goal.returns
returns g c =
    let m = c.self.inside.seat.me in
    let k = c.clear.new.seat.me in
    let e = c.clear.ensures in
    subst (λ u. ClearsBell u (standing c.clear.new.seat.table_id k.0)) c.self.view_is (hears_call c.self.inside.seat.table_id c.clear.new.seat.table_id m k (Clear (name m.0) ∷ []) e.table e.hears)

pub clear-requires-clause-table : goal.clear-requires-clause-table
clear-requires-clause-table g c =
    let there : c.self.inside.seat.table_id ≡ c.args.words.now.table_id = ap (λ u. u.table) c.self.view_is ∙ c.requires in
    (there, subst (λ z. IsTable z) there c.self.invariant.0.table)

pub clear-requires-clause-named : goal.clear-requires-clause-named
clear-requires-clause-named g c = c.self.invariant.0.holds.right.named
