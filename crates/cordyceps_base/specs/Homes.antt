-- The word behind a block, which says whose its memory is.
use Rattle.std.specs.Prelude.{ℕ, zero, suc, ◌+◌, []}
use mir.Syntax.{Ty, Tys, w64, ty_int, ty_struct, tcons, tnil}
use base.Fraction.{full_share}
use base.Fml.{Fml, ftrue, ffalse, fsep, fex, fleft}
use prog.Memory.{size, align, up}
use denote.Builtin.{u64}
use denote.Memory.{part_at}
use denote.RawPtr.{Ptr, block_ptr, null_ptr, Testable}
use Rattle.std.specs.declared.alloc.Global.{Global}
use Rattle.std.specs.contracts.impls.GlobalAllocator.TheImpl.{ghosts as heap}

-- what lent memory asks of whoever frees it: nothing. Its address may be compared with null
abbrev pub frees_nothing : Ptr → Fml
frees_nothing p = fex (Testable p) (λ _. ftrue)

-- a block of the type and the word behind it
abbrev pub parts_of : Ty → Tys
parts_of τ = tcons τ (tcons (ty_int w64) tnil)

-- where the word is
abbrev pub word_at : Ty → ℕ
word_at τ = up (align (ty_int w64)) (up (align τ) 0 + size τ)

-- the right to free the block and its word: that of `Global` if the word is 0
abbrev pub right_of : ℕ → Ty → Ptr → Fml
right_of zero τ p = fex Global (λ a. heap.dealloc_token a (ty_struct [] (parts_of τ)) p)
right_of (suc n) τ p = frees_nothing p

-- the word behind the block for a τ at p, what else lies there, and the right to free both
abbrev pub housed : Ty → Ptr → Fml
housed τ null_ptr = ffalse
housed τ (block_ptr b o) = fex ℕ (λ n. fsep (part_at u64 full_share n b (o + word_at τ))
    (fsep (fleft full_share (ty_struct [] (parts_of τ)) (parts_of τ) b o) (right_of n τ (block_ptr b o))))
