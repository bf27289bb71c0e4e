-- `place` tells where the handle is. Assumes `Logic`.
use Rattle.cordyceps_c_base.specs.Held.{owns_housed}
use Rattle.cordyceps_c_base.proofs.Held.{housed_at}
use Rattle.cordyceps_c_base.proofs.HandleWalks.{place_walk}
use Rattle.cordyceps_c_base.specs.Rows.{block_row}
use Rattle.cordyceps_c_base.specs.contracts.node_handle.NodeHandle.{the_type}
use Rattle.cordyceps_c_base.specs.contracts.node_handle.NodeHandle.place.Key.{name as #self}
use Rattle.cordyceps_c_base.proofs.node_handle.NodeHandle.place.Statement.{statement}
use Rattle.cordyceps_c_base.proofs.node_handle.NodeHandle.place.Code as code

pub place_spec : {M : Type 1} → statement M
place_spec 𝓤 𝓛 𝓜 𝓡 wired = place_walk the_type block_row (λ h. h.at) (λ h. h.held) (owns_housed block_row) 𝓤 𝓛 𝓜 𝓡 (housed_at 𝓛 block_row) _ #self (code.unfolded 𝓤 𝓛.H 𝓜 𝓡 wired)
