use Rattle.std.proofs.Common.{rules, sym, ap, ◌∙◌}
use Rattle.cordyceps_channel.specs.Places.{in_hand}
use Rattle.cordyceps_channel.proofs.Placing.{handle_copies}
use Rattle.cordyceps_channel.proofs.place.Place.another.Goals as goal

pub split_seat-seat-requires : goal.split_seat-seat-requires
split_seat-seat-requires g c =
    let h = c.self.invariant in
    (search rules, search rules, handle_copies g.X.Fits.fits _ _ c.self.inside.seat.me (in_hand c.self.inside.took) (h.knows ∙ ap (λ t. (t.shared.key, in_hand c.self.inside.took)) (sym c.deref.ensures)))
