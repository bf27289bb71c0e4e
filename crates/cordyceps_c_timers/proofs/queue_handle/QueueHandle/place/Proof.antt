-- `place` tells where the handle is. Assumes `Logic`.
use Rattle.cordyceps_c_base.specs.Held.{owns_held}
use Rattle.cordyceps_c_base.proofs.Held.{held_at}
use Rattle.cordyceps_c_base.proofs.HandleWalks.{place_walk}
use Rattle.cordyceps_c_timers.specs.Rows.{queue_row}
use Rattle.cordyceps_c_timers.specs.contracts.queue_handle.QueueHandle.{the_type}
use Rattle.cordyceps_c_timers.specs.contracts.queue_handle.QueueHandle.place.Key.{name as #self}
use Rattle.cordyceps_c_timers.proofs.queue_handle.QueueHandle.place.Statement.{statement}
use Rattle.cordyceps_c_timers.proofs.queue_handle.QueueHandle.place.Code as code

pub place_spec : {M : Type 1} → statement M
place_spec 𝓤 𝓛 𝓜 𝓡 wired = place_walk the_type queue_row (λ h. h.at) (λ h. h.held) (owns_held queue_row) 𝓤 𝓛 𝓜 𝓡 (held_at 𝓛 queue_row) _ #self (code.unfolded 𝓤 𝓛.H 𝓜 𝓡 wired)
