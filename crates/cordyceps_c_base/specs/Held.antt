-- What a handle owns.
use Rattle.std.specs.Prelude.{◌≡◌, Option, Some, None, MatchOption}
use base.Fml.{Fml, feq, fex}
use denote.RattleType.{RattleType}
use denote.RawPtr.{Ptr, InBlock, Testable, null_ptr}
use Rattle.std.specs.Box.Ownership.{box_owns}
use Rattle.std.specs.declared.alloc.Global.{Global}
use Rattle.std.specs.contracts.impls.GlobalAllocator.TheImpl.{ghosts}
use Rattle.cordyceps_base.specs.Homes.{housed}

-- a value in a block of malloc at p, or nothing, and p is null
abbrev pub owns_held : (R : RattleType) → Ptr → Option R.Denot → Fml
owns_held R p None = feq Ptr p null_ptr
owns_held R p (Some x) = fex Global (λ a. box_owns (ghosts.dealloc_token a) R p x)

-- the same of a value with a word behind it that says whose its memory is
abbrev pub owns_housed : (R : RattleType) → Ptr → Option R.Denot → Fml
owns_housed R p None = feq Ptr p null_ptr
owns_housed R p (Some x) = box_owns housed R p x

-- where a handle is
abbrev pub IsAt : {X : Type 0} → Ptr → Option X → Type 0
IsAt p held = Testable p × MatchOption held (p ≡ null_ptr) (λ _. InBlock p)
