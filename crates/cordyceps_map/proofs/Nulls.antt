-- Spots, and the pointers that stand for them.
use Rattle.std.proofs.Common.{◌≡◌, true, List, [], ◌∷◌, Some, refl, ◌∙◌, subst, sym}
use denote.RawPtr.{Ptr, block_ptr, null_ptr, InBlock}
use Rattle.cordyceps_base.specs.BySpot.{HasSpot}
use Rattle.cordyceps_base.specs.Nodes.{Nodes, spots}
use Rattle.cordyceps_base.specs.Spots.{same_ptr, IsNullComparable, AreNullComparable}
use Rattle.cordyceps_base.proofs.SpotsMemory.{same_ptr_eq}
use Rattle.cordyceps_many.specs.Threads.{is_in}
use Rattle.cordyceps_many.proofs.Members.{has_in}
use Rattle.cordyceps_many.proofs.Threads.{split, in_there}
use Rattle.cordyceps_map.specs.Nullable.{spot_of}

-- a pointer into a block stands for itself
pub spot_in_block : (p : Ptr) → InBlock p → spot_of p ≡ Some p
spot_in_block (block_ptr b o) t = refl
spot_in_block null_ptr t = absurd t

-- each of the spots may be compared with null
comparable_in : (s : List Ptr) (p : Ptr) → AreNullComparable s → is_in p s ≡ true → IsNullComparable p
comparable_in [] p a i = absurd cc
comparable_in (q ∷ s) p a i = split (same_ptr p q)
    (λ same. subst IsNullComparable (sym (same_ptr_eq p q same)) a.0)
    (λ other. comparable_in s p a.1 (sym (in_there p q s other) ∙ i))

pub comparable_at : {X : Type 0} (c : Nodes X) (p : Ptr) → AreNullComparable (spots c) → HasSpot c p → IsNullComparable p
comparable_at c p a there = comparable_in (spots c) p a (has_in c p there)
