-- `queue_mut` lends what is held, and the handle follows it. Assumes `Logic`.
use Rattle.std.proofs.Common.{refl}
use base.Logic.{id⊢}
use Rattle.cordyceps_base.specs.Homes.{housed}
use Rattle.cordyceps_c_base.specs.Held.{owns_housed}
use Rattle.cordyceps_c_base.proofs.Held.{housed_apart}
use Rattle.cordyceps_c_base.proofs.HandleWalks.{lend_walk}
use Rattle.cordyceps_c_timers.specs.Lends.{with_node_queue}
use Rattle.cordyceps_c_timers.specs.Rows.{node_queue_row}
use Rattle.cordyceps_c_timers.specs.contracts.node_queue_handle.NodeQueueHandle.{the_type}
use Rattle.cordyceps_c_timers.specs.contracts.node_queue_handle.NodeQueueHandle.queue_mut.Key.{name as #self}
use Rattle.cordyceps_c_timers.proofs.node_queue_handle.NodeQueueHandle.queue_mut.Statement.{statement}
use Rattle.cordyceps_c_timers.proofs.node_queue_handle.NodeQueueHandle.queue_mut.Code as code

pub queue_mut_spec : {M : Type 1} → statement M
queue_mut_spec 𝓤 𝓛 𝓜 𝓡 wired =
    lend_walk the_type node_queue_row (λ h. h.at) (λ h. h.held) (owns_housed node_queue_row) with_node_queue (λ h w. refl) (λ h w. refl)
    (Unit {0}) (λ _. housed) 𝓤 𝓛 𝓜 𝓡 (housed_apart 𝓛 node_queue_row) (λ _ p x. id⊢ 𝓤 _) _ _ _ #self (code.unfolded 𝓤 𝓛.H 𝓜 𝓡 wired)
