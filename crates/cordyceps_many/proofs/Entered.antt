-- The entries of a list, from one spot to the next.
use Rattle.std.proofs.Common.{append_assoc, ◌≡◌, ℕ, suc, Bool, true, false, if◌then◌else◌, List, [], ◌∷◌, ◌++◌, length, Option, Some, None, MatchOption, refl, sym, ap, ◌∙◌, subst}
use denote.RawPtr.{Ptr}
use Rattle.cordyceps_base.specs.BySpot.{HasSpot, HoldsAt}
use Rattle.cordyceps_base.specs.Nodes.{Nodes, spots}
use Rattle.cordyceps_base.specs.Spots.{same_ptr, IsNew, AreDistinct}
use Rattle.cordyceps_base.proofs.SpotsMemory.{same_ptr_refl}
use Rattle.cordyceps_many.specs.Entries.{from_spot, from_place, value_at, with_entry, entries_at}
use Rattle.cordyceps_many.specs.MultiList.{IsFirstOf, IsLastOf, AreNextIn}
use Rattle.cordyceps_many.specs.Threads.{is_in}
use Rattle.cordyceps_many.proofs.Members.{has_in, in_self, spots_joined}
use Rattle.cordyceps_many.proofs.Threads.{split, other_way, in_there, in_more, not_in}

new_mid : (q : Ptr) (l : List Ptr) (p : Ptr) (t : List Ptr) → IsNew q (l ++ p ∷ t) → same_ptr q p ≡ false
new_mid q [] p t d = d.0
new_mid q (x ∷ l) p t d = new_mid q l p t d.1

pub clear_front : (l : List Ptr) (p : Ptr) (t : List Ptr) → AreDistinct (l ++ p ∷ t) → is_in p l ≡ false
clear_front [] p t d = refl
clear_front (x ∷ l) p t d = in_there p x l (other_way x p (new_mid x l p t d.0)) ∙ clear_front l p t d.1

from_mid : (p : Ptr) (l t : List Ptr) → is_in p l ≡ false → from_spot p (l ++ p ∷ t) ≡ p ∷ t
from_mid p [] t e = ap (λ (b : Bool). if b then p ∷ t else from_spot p t) (same_ptr_refl p)
from_mid p (x ∷ l) t e = let n = not_in p x l e in ap (λ (b : Bool). if b then x ∷ (l ++ p ∷ t) else from_spot p (l ++ p ∷ t)) n.0 ∙ from_mid p l t n.1

pub from_here : (s : List Ptr) (p : Ptr) (l t : List Ptr) → s ≡ l ++ p ∷ t → AreDistinct s → from_spot p s ≡ p ∷ t
from_here s p l t e d = ap (from_spot p) e ∙ from_mid p l t (clear_front l p t (subst AreDistinct e d))

pub place_first : (o : Option Ptr) (s : List Ptr) → MatchOption o (s ≡ []) (λ p. IsFirstOf s p) → from_place o s ≡ s
place_first None s e = sym e
place_first (Some p) s (t, e) = ap (from_spot p) e ∙ from_mid p [] t refl ∙ sym e

module _ {X : Type 0} where
  value_mid : (b : Nodes X) (a : Nodes X) (p : Ptr) (id : ℕ) (w : X) → is_in p (spots b) ≡ false → value_at (b ++ (p, record { id = id; value = w }) ∷ a) p ≡ Some w
  value_mid [] a p id w e = ap (λ (z : Bool). if z then Some w else value_at a p) (same_ptr_refl p)
  value_mid (n ∷ b) a p id w e = let m = not_in p n.0 (spots b) e in ap (λ (z : Bool). if z then Some n.1.value else value_at (b ++ (p, record { id = id; value = w }) ∷ a) p) m.0 ∙ value_mid b a p id w m.1

  pub value_here : (c : Nodes X) (p : Ptr) (w : X) → AreDistinct (spots c) → HoldsAt c p w → value_at c p ≡ Some w
  value_here c p w d (b, id, a, e) =
      ap (λ z. value_at z p) e ∙ value_mid b a p id w (clear_front (spots b) p (spots a) (subst AreDistinct (ap spots e ∙ spots_joined b ((p, record { id = id; value = w }) ∷ a)) d))

  value_in : (c : Nodes X) (p : Ptr) → is_in p (spots c) ≡ true → (w : X) × (value_at c p ≡ Some w)
  value_in [] p e = absurd cc
  value_in (n ∷ c) p e = split (same_ptr p n.0)
      (λ same. (n.1.value, ap (λ (b : Bool). if b then Some n.1.value else value_at c p) same))
      (λ other.
      let (w, is) = value_in c p (sym (in_there p n.0 (spots c) other) ∙ e) in
      (w, ap (λ (b : Bool). if b then Some n.1.value else value_at c p) other ∙ is))

  -- each spot has an entry, if each is that of a node
  pub entries_long : (c : Nodes X) (s : List Ptr) → ((p : Ptr) → is_in p s ≡ true → HasSpot c p) → length (entries_at c s) ≡ length s
  entries_long c [] all = refl
  entries_long c (p ∷ s) all =
      let (w, is) = value_in c p (has_in c p (all p (in_self p s))) in
      ap (λ v. length (with_entry p v (entries_at c s))) is ∙ ap suc (entries_long c s (λ q m. all q (in_more q p s m)))

  module _ (c : Nodes X) (s : List Ptr) (p : Ptr) (w : X) (d : AreDistinct (spots c)) (once : AreDistinct s) (held : HoldsAt c p w) where
    first_entry : (t : List Ptr) → from_spot p s ≡ p ∷ t → entries_at c (from_spot p s) ≡ (p, w) ∷ entries_at c t
    first_entry t e = ap (entries_at c) e ∙ ap (λ v. with_entry p v (entries_at c t)) (value_here c p w d held)

    pub next_entries : (o : Option Ptr) → MatchOption o (IsLastOf s p) (λ q. AreNextIn s p q) → entries_at c (from_spot p s) ≡ (p, w) ∷ entries_at c (from_place o s)
    next_entries None (l, e) = first_entry [] (from_here s p l [] e once)
    next_entries (Some q) n =
        let rest : from_spot q s ≡ q ∷ n.after = from_here s q (n.before ++ p ∷ []) n.after (n.whole ∙ sym (append_assoc n.before (p ∷ []) (q ∷ n.after))) once in
        first_entry (q ∷ n.after) (from_here s p n.before (q ∷ n.after) n.whole once) ∙ ap (λ t. (p, w) ∷ entries_at c t) (sym rest)
