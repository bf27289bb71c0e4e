use Rattle.std.proofs.Common.{[], ◌∷◌, true, rules, sym, ap, ◌∙◌, subst}
use Rattle.std.specs.Prelude.{Some, None}
use mathlib.Core.Option.{none}
use Rattle.atomic_table.specs.Table.{step}
use Rattle.cordyceps_channel.specs.Places.{PlaceOf}
use Rattle.cordyceps_channel.proofs.Placing.{has_in_hand, changed_in_hand, handle_gives}
use Rattle.cordyceps_channel.proofs.place.Place.put.Goals as goal

pub store-requires : goal.store-requires
store-requires g c =
    let h = c.self.invariant in
    let same = ap (λ m. m.0) h.knows ∙ ap (λ t. t.shared.key) (sym c.deref.ensures) in
    let empty = has_in_hand _ c.self.inside.seat.me c.self.inside.took true h.knows (ap (λ (p : PlaceOf _). p.took) c.self.view_is ∙ c.requires.took) in
    let full = changed_in_hand _ None (Some c.args.value) c.self.inside.seat.me c.exchange.new.seat.me empty c.exchange.ensures.3 in
    let fits = subst (λ k. g.X.Fits.fits k c.args.value) (sym (ap (λ (p : PlaceOf _). p.key) c.self.view_is) ∙ same) c.requires.fits in
    (search rules, search rules, handle_gives g.X.Fits.fits c.deref.result.now.shared.key _ _ (step 0 0 0 0 none) c.args.value c.exchange.new.seat.me fits (full ∙ ap (λ t. (t.shared.key, (0, Some c.args.value) ∷ [])) (sym c.deref.ensures)))
