-- Spots that are at most as many as others.
use Rattle.std.proofs.Common.{◌≡◌, ◌≤◌, ◌<◌, true, false, List, [], ◌∷◌, length, refl, subst, sym, ◌∙◌, arith}
use denote.RawPtr.{Ptr}
use Rattle.cordyceps_base.specs.Spots.{same_ptr, IsNew, AreDistinct}
use Rattle.cordyceps_base.proofs.SpotsMemory.{same_ptr_eq}
use Rattle.cordyceps_many.specs.Threads.{is_in, without}
use Rattle.cordyceps_many.proofs.Members.{in_self, new_of}
use Rattle.cordyceps_many.proofs.Threads.{split, differ, other_way, in_more, in_there, length_without, without_other}

pub new_out : (q : Ptr) (s : List Ptr) → IsNew q s → is_in q s ≡ false
new_out q [] n = refl
new_out q (x ∷ s) n = in_there q x s n.0 ∙ new_out q s n.1

-- spots of which no two are the same, each of them in another list, are at most as many as that has
pub no_longer : (s t : List Ptr) → AreDistinct s → ((q : Ptr) → is_in q s ≡ true → is_in q t ≡ true) → length s ≤ length t
no_longer [] t d i = omega arith
no_longer (x ∷ s) t d i =
    let rest = no_longer s (without x t) d.1 (λ q e. without_other x q t (other_way q x (differ q x s e (new_out x s d.0))) ∙ i q (in_more q x s e)) in
    let long = length_without x t (i x (in_self x s)) in omega (arith, rest, long)

-- where a spot is in the other list alone, they are fewer
pub fewer : (s t : List Ptr) (p : Ptr) → AreDistinct s → ((q : Ptr) → is_in q s ≡ true → is_in q t ≡ true) → is_in p s ≡ false → is_in p t ≡ true → length s < length t
fewer s t p d i out on =
    let most = no_longer (p ∷ s) t (new_of p s out, d) (λ q e. split (same_ptr q p)
    (λ same. subst (λ z. is_in z t ≡ true) (sym (same_ptr_eq q p same)) on)
    (λ other. i q (sym (in_there q p s other) ∙ e))) in omega (arith, most)
