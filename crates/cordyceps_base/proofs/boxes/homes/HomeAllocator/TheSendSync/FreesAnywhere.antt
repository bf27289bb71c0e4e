use Rattle.std.specs.Prelude.{ℕ, zero, suc, []}
use base.Fraction.{full_share}
use base.Shift.{Keyless}
use mir.Syntax.{Ty, ty_struct}
use denote.Builtin.{u64}
use denote.Param.Send.{Frees, part_keyless, plain_send}
use denote.RawPtr.{Ptr, block_ptr, null_ptr}
use Rattle.std.proofs.Crossing.{frees as heap_frees}
use Rattle.cordyceps_base.specs.Homes.{parts_of, housed, right_of}
use Rattle.cordyceps_base.specs.contracts.boxes.homes.HomeAllocator.TheImpl.{ghosts}

right-Keyless : (n : ℕ) (τ : Ty) (p : Ptr) → Keyless (right_of n τ p)
right-Keyless zero τ p = λ a. heap_frees.frees a (ty_struct [] (parts_of τ)) p
right-Keyless (suc n) τ p = λ t. tt

housed-Keyless : (τ : Ty) (p : Ptr) → Keyless (housed τ p)
housed-Keyless τ null_ptr = tt
housed-Keyless τ (block_ptr b o) = λ n. (part_keyless u64 (plain_send _ _ _ _ _) full_share n b _, (tt, right-Keyless n τ (block_ptr b o)))

pub frees : Frees ghosts ghosts.dealloc_token
frees = record { frees = λ a. housed-Keyless }
