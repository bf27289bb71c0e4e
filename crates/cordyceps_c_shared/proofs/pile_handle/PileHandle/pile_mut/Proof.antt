-- `pile_mut` lends what is held, and the handle follows it. Assumes `Logic`.
use Rattle.std.proofs.Common.{refl}
use base.Logic.{id⊢}
use Rattle.std.specs.declared.alloc.Global.{Global}
use Rattle.std.specs.contracts.impls.GlobalAllocator.TheImpl.{ghosts}
use Rattle.cordyceps_c_base.specs.Held.{owns_held}
use Rattle.cordyceps_c_base.proofs.Held.{held_boxed}
use Rattle.cordyceps_c_base.proofs.HandleWalks.{lend_walk}
use Rattle.cordyceps_c_shared.specs.Lends.{with_pile}
use Rattle.cordyceps_c_shared.specs.Rows.{pile_row}
use Rattle.cordyceps_c_shared.specs.contracts.pile_handle.PileHandle.{the_type}
use Rattle.cordyceps_c_shared.specs.contracts.pile_handle.PileHandle.pile_mut.Key.{name as #self}
use Rattle.cordyceps_c_shared.proofs.pile_handle.PileHandle.pile_mut.Statement.{statement}
use Rattle.cordyceps_c_shared.proofs.pile_handle.PileHandle.pile_mut.Code as code

pub pile_mut_spec : {M : Type 1} → statement M
pile_mut_spec 𝓤 𝓛 𝓜 𝓡 wired =
    lend_walk the_type pile_row (λ h. h.at) (λ h. h.held) (owns_held pile_row) with_pile (λ h w. refl) (λ h w. refl)
    Global (λ a. ghosts.dealloc_token a) 𝓤 𝓛 𝓜 𝓡 (λ p x. id⊢ 𝓤 _) (held_boxed 𝓛 pile_row) _ _ _ #self (code.unfolded 𝓤 𝓛.H 𝓜 𝓡 wired)
