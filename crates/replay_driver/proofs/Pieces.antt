-- A text that is written piece by piece.
use Rattle.std.proofs.Common.{◌≡◌, ℕ, ◌+◌, ◌-◌, ◌≤◌, List, ◌++◌, length, take, drop, Result, Ok, Err, OnErr, refl, sym, ◌∙◌, arith, length-drop, length-take}
use Rattle.std.specs.List.{copy_within}
use Rattle.std.proofs.lemmas.Slice.{between_is}
use Rattle.std.proofs.lemmas.List.{take-append-le, take_at, take_all}
use Rattle.std.proofs.Math.Seq.{take-add, take-append-add}
use borrow.Rule.Slice.PartMut.{put_mid}

pub on_err : {T E P : Type 0} (r : Result T E) → P → OnErr r P
on_err (Ok x) p = tt
on_err (Err e) p = p

pub slice_end : (text : List ℕ) (start : ℕ) → take (length text - start) (drop start text) ≡ drop start text
slice_end text start = take_all (length text - start) (drop start text) (omega (arith, length-drop start text))

pub next_piece : (text seen : List ℕ) (start n : ℕ) → seen ≡ text → take start text ++ take n (take (length seen - start) (drop start seen)) ≡ take (start + n) text
next_piece text seen start n same = rw (same, slice_end, take-add) refl

front_and_more : (front middle back : List ℕ) (held n : ℕ) → length front ≡ held → n ≤ length middle → take (held + n) (front ++ (middle ++ back)) ≡ front ++ take n middle
front_and_more front middle back held n size few = rw (← size, take-append-add, take-append-le) refl

-- what was read after what is held
pub read_after : (held n : ℕ) (block buffer : List ℕ) → held ≤ length block → n ≤ length buffer → take (held + n) (put_mid held (length block - held) block buffer) ≡ take held block ++ take n buffer
read_after held n block buffer within few =
    let size : length (take held block) ≡ held = omega (arith, length-take held block) in
    front_and_more (take held block) buffer (drop (length block - held) (drop held block)) held n size few

-- what is left of a block
pub left : (block : List ℕ) (used size : ℕ) → used ≤ size → size ≤ length block → take (size - used) (copy_within block used size 0) ≡ drop used (take size block)
left block used size order within =
    let fits : size - used ≡ length (take (size - used) (drop used block)) = omega (arith, length-take (size - used) (drop used block), length-drop used block) in
    take_at (take (size - used) (drop used block)) (drop (0 + (size - used)) block) (size - used) (sym fits) ∙ between_is block used size
