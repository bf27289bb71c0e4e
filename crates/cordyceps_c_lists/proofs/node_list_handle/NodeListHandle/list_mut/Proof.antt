-- `list_mut` lends what is held, and the handle follows it. Assumes `Logic`.
use Rattle.std.proofs.Common.{refl}
use base.Logic.{id⊢}
use Rattle.cordyceps_base.specs.Homes.{housed}
use Rattle.cordyceps_c_base.specs.Held.{owns_housed}
use Rattle.cordyceps_c_base.proofs.Held.{housed_apart}
use Rattle.cordyceps_c_base.proofs.HandleWalks.{lend_walk}
use Rattle.cordyceps_c_lists.specs.Lends.{with_node_list}
use Rattle.cordyceps_c_lists.specs.Rows.{node_list_row}
use Rattle.cordyceps_c_lists.specs.contracts.node_list_handle.NodeListHandle.{the_type}
use Rattle.cordyceps_c_lists.specs.contracts.node_list_handle.NodeListHandle.list_mut.Key.{name as #self}
use Rattle.cordyceps_c_lists.proofs.node_list_handle.NodeListHandle.list_mut.Statement.{statement}
use Rattle.cordyceps_c_lists.proofs.node_list_handle.NodeListHandle.list_mut.Code as code

pub list_mut_spec : {M : Type 1} → statement M
list_mut_spec 𝓤 𝓛 𝓜 𝓡 wired =
    lend_walk the_type node_list_row (λ h. h.at) (λ h. h.held) (owns_housed node_list_row) with_node_list (λ h w. refl) (λ h w. refl)
    (Unit {0}) (λ _. housed) 𝓤 𝓛 𝓜 𝓡 (housed_apart 𝓛 node_list_row) (λ _ p x. id⊢ 𝓤 _) _ _ _ #self (code.unfolded 𝓤 𝓛.H 𝓜 𝓡 wired)
