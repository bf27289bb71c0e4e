-- `place` tells where the handle is. Assumes `Logic`.
use Rattle.cordyceps_c_base.specs.Held.{owns_held}
use Rattle.cordyceps_c_base.proofs.Held.{held_at}
use Rattle.cordyceps_c_base.proofs.HandleWalks.{place_walk}
use Rattle.cordyceps_c_shared.specs.Rows.{pile_row}
use Rattle.cordyceps_c_shared.specs.contracts.pile_handle.PileHandle.{the_type}
use Rattle.cordyceps_c_shared.specs.contracts.pile_handle.PileHandle.place.Key.{name as #self}
use Rattle.cordyceps_c_shared.proofs.pile_handle.PileHandle.place.Statement.{statement}
use Rattle.cordyceps_c_shared.proofs.pile_handle.PileHandle.place.Code as code

pub place_spec : {M : Type 1} → statement M
place_spec 𝓤 𝓛 𝓜 𝓡 wired = place_walk the_type pile_row (λ h. h.at) (λ h. h.held) (owns_held pile_row) 𝓤 𝓛 𝓜 𝓡 (held_at 𝓛 pile_row) _ #self (code.unfolded 𝓤 𝓛.H 𝓜 𝓡 wired)
