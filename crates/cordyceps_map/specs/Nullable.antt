-- Pointers that stand for a spot or for none.
use Rattle.std.specs.Prelude.{◌≡◌, Option, Some, None, refl}
use denote.RawPtr.{Ptr, block_ptr, null_ptr}

-- the spot that a pointer stands for
abbrev pub spot_of : Ptr → Option Ptr
spot_of (block_ptr b o) = Some (block_ptr b o)
spot_of null_ptr = None

-- the pointer that stands for a spot, or null for none
abbrev pub pointer_of : Option Ptr → Ptr
pointer_of None = null_ptr
pointer_of (Some p) = p

-- each pointer is the one that stands for its spot
pub pointer_back : (p : Ptr) → pointer_of (spot_of p) ≡ p
pointer_back (block_ptr b o) = refl
pointer_back null_ptr = refl
