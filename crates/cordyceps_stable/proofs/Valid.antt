-- Which spots are valid after a call, by what the call says.
use Rattle.std.proofs.Common.{append_assoc, ◌≡◌, ◌≢◌, ℕ, zero, suc, List, [], ◌∷◌, ◌++◌, Option, Some, None, MatchOption, refl, sym, ap, ◌∙◌, subst, ◌⊎◌, inl, inr, arith}
use Rattle.std.specs.Prelude.{IfSome}
use Rattle.std.proofs.lemmas.List.Sorted.{Contains-permutation}
use Rattle.std.specs.List.{Contains}
use Rattle.std.specs.List.Sorted.{IsPermutation}
use denote.RawPtr.{Ptr}
use Rattle.cordyceps_base.specs.BySpot.{HasSpot, IsTaken, IsMovedFront, IsMovedBack, IsMovedAfter, IsFirst, IsLast, AreNext}
use Rattle.cordyceps_base.specs.Element.{Element}
use Rattle.cordyceps_base.specs.Nodes.{Nodes, spots, with_item}
use Rattle.cordyceps_base.specs.Spots.{index_of, AreDistinct}
use Rattle.cordyceps_stable.specs.Agreeing.{HasElementAt}
use Rattle.cordyceps_stable.specs.Replacing.{IsReplaced}
use Rattle.cordyceps_stable.proofs.Holding.{spot_is_at, has_split, first_taken, last_taken, after_taken, taken_gone, left_is_at, taken_or_left, others_stay, front_is_at, written_lies}
use Rattle.cordyceps_stable.proofs.Reached.{taken_has, put_after_has}
use Rattle.cordyceps_stable.proofs.Walk.{next_index}

module _ {X : Type 0} where
  pub same_keeps : (c d : Nodes X) → d ≡ c → (p : Ptr) → HasSpot c p → HasSpot d p
  same_keeps c d same p on = subst (λ s. HasSpot s p) (sym same) on

  has_at : (c : Nodes X) (p : Ptr) → HasSpot c p → (e : Element X) × HasElementAt c p e
  has_at c p on = let (k, at) = on in has_split c k p at

  -- c is d with the element e at p: the spots of d are those of c except p
  pub put_keeps : (c d : Nodes X) (p : Ptr) (e : Element X) → IsTaken c p e d → (q : Ptr) → HasSpot d q → HasSpot c q
  put_keeps c d p e taken q on = let (o, lies) = has_at d q on in spot_is_at c q o (left_is_at c d p q e o taken lies)

  pub put_apart : (c d : Nodes X) (p : Ptr) (e : Element X) → AreDistinct (spots c) → IsTaken c p e d → HasSpot d p → ⊥
  put_apart c d p e distinct taken on = taken_gone c d p e distinct taken on

  pub taken_keeps : (c d : Nodes X) (p : Ptr) (e : Element X) → IsTaken c p e d → (q : Ptr) → HasSpot c q → q ≢ p → HasSpot d q
  taken_keeps c d p e taken q on other = others_stay c d p q e taken on (λ same. other (sym same))

  -- the first or the last was taken out
  pub first_out_keeps : (c d : Nodes X) (p : Ptr) (e : Element X) → c ≡ (p, e) ∷ d → (q : Ptr) → HasSpot c q → (IsFirst c q → ⊥) → HasSpot d q
  first_out_keeps c d p e is q on other = taken_keeps c d p e (first_taken c d p e is) q on (λ same. other (e, d, is ∙ ap (λ r. (r, e) ∷ d) (sym same)))

  pub last_out_keeps : (c d : Nodes X) (p : Ptr) (e : Element X) → c ≡ d ++ (p, e) ∷ [] → (q : Ptr) → HasSpot c q → (IsLast c q → ⊥) → HasSpot d q
  last_out_keeps c d p e is q on other = taken_keeps c d p e (last_taken c d p e is) q on (λ same. other (d, e, is ∙ ap (λ r. d ++ (r, e) ∷ []) (sym same)))

  -- one was taken out, and another was put in where it was
  pub replaced_keeps : (c d : Nodes X) (p q : Ptr) (o e : Element X) → IsReplaced c p o q e d → (r : Ptr) → HasSpot c r → r ≢ p → HasSpot d r
  replaced_keeps c d p q o e (b, a, was, is) r on other = put_keeps d (b ++ a) q e (b, a, is, refl) r (taken_keeps c (b ++ a) p o (b, a, was, refl) r on other)

  pub replaced_apart : (c d : Nodes X) (p q : Ptr) (o e : Element X) → AreDistinct (spots d) → IsReplaced c p o q e d → HasSpot c q → q ≡ p
  replaced_apart c d p q o e distinct (b, a, was, is) on = let (x, lies) = has_at c q on in elim (taken_or_left c (b ++ a) p q o x (b, a, was, refl) lies) as (λ _. q ≡ p) [
    | inl same ↦ same.0
    | inr there ↦ absurd (taken_gone d (b ++ a) q e distinct (b, a, is, refl) (spot_is_at (b ++ a) q x there))
  ]

  -- one was moved, also with another value
  pub moved_keeps : (c d rest : Nodes X) (p : Ptr) (e o : Element X) → IsTaken c p e rest → IsTaken d p o rest → (q : Ptr) → HasSpot c q → HasSpot d q
  moved_keeps c d rest p e o was is q on = let (x, lies) = has_at c q on in elim (taken_or_left c rest p q e x was lies) as (λ _. HasSpot d q) [
    | inl same ↦ subst (λ r. HasSpot d r) (sym same.0) (taken_has d rest p o is)
    | inr on ↦ spot_is_at d q x (left_is_at d rest p q o x is on)
  ]

  pub moved_front_keeps : (c d : Nodes X) (p : Ptr) → IsMovedFront c p d → (q : Ptr) → HasSpot c q → HasSpot d q
  moved_front_keeps c d p (e, rest, taken, is) = moved_keeps c d rest p e e taken (first_taken d rest p e is)

  pub moved_front_has : (c d : Nodes X) (p : Ptr) → IsMovedFront c p d → HasSpot d p
  moved_front_has c d p (e, rest, taken, is) = taken_has d rest p e (first_taken d rest p e is)

  pub moved_back_keeps : (c d : Nodes X) (p : Ptr) → IsMovedBack c p d → (q : Ptr) → HasSpot c q → HasSpot d q
  moved_back_keeps c d p (e, rest, taken, is) = moved_keeps c d rest p e e taken (last_taken d rest p e is)

  pub moved_after_has : (c d : Nodes X) (p r : Ptr) → IsMovedAfter c p r d → HasSpot d p
  moved_after_has c d p r (e, rest, taken, put) = put_after_has rest d r p e put

  pub moved_after_keeps : (c d : Nodes X) (p r : Ptr) → IsMovedAfter c p r d → (q : Ptr) → HasSpot c q → HasSpot d q
  moved_after_keeps c d p r (e, rest, taken, put) = moved_keeps c d rest p e e taken (after_taken d rest r p e put)

  -- a value was written
  pub written_keeps : (c : Nodes X) (k : ℕ) (w : X) (q : Ptr) → HasSpot c q → HasSpot (with_item c k w) q
  written_keeps c k w q on = let (e, lies) = has_at c q on in let (o, _, on) = written_lies c k w q e lies in spot_is_at (with_item c k w) q o on

  -- two lists were joined
  back_is_at : (c d : Nodes X) (q : Ptr) (o : Element X) → HasElementAt d q o → HasElementAt (c ++ d) q o
  back_is_at c d q o (b, a, is) = (c ++ b, a, ap (λ s. c ++ s) is ∙ sym (append_assoc c b ((q, o) ∷ a)))

  pub front_keeps : (c d n : Nodes X) → n ≡ c ++ d → (q : Ptr) → HasSpot c q → HasSpot n q
  front_keeps c d n joined q on = let (o, lies) = has_at c q on in subst (λ s. HasSpot s q) (sym joined) (spot_is_at (c ++ d) q o (front_is_at c d q o lies))

  pub back_keeps : (c d n : Nodes X) → n ≡ c ++ d → (q : Ptr) → HasSpot d q → HasSpot n q
  back_keeps c d n joined q on = let (o, lies) = has_at d q on in subst (λ s. HasSpot s q) (sym joined) (spot_is_at (c ++ d) q o (back_is_at c d q o lies))

  pub parts_apart : (c d n : Nodes X) → n ≡ c ++ d → AreDistinct (spots n) → (q : Ptr) → HasSpot c q → HasSpot d q → ⊥
  parts_apart c d n joined distinct q on other =
      let (e, (b, a, is)) = has_at c q on in
      let left : Nodes X = b ++ (a ++ d) in
      let out : IsTaken n q e left = (b, a ++ d, joined ∙ ap (λ s. s ++ d) is ∙ append_assoc b ((q, e) ∷ a) d, refl) in
      taken_gone n left q e distinct out (back_keeps b (a ++ d) left refl q (back_keeps a d (a ++ d) refl q other))

  -- what `next` and `prev` answer is another spot
  following : (c : Nodes X) (p q : Ptr) → AreDistinct (spots c) → AreNext c p q → p ≡ q → ⊥
  following c p q distinct next same = let on = next_index c p q distinct next in let stays = ap (λ r. index_of r (spots c)) same in absurd (omega (arith, on, stays))

  pub next_apart : (c : Nodes X) (p : Ptr) (o : Option Ptr) → AreDistinct (spots c) → MatchOption o (IsLast c p) (λ q. AreNext c p q) → IfSome o (λ q. q ≢ p)
  next_apart c p None distinct step = tt
  next_apart c p (Some q) distinct step = λ same. following c p q distinct step (sym same)

  pub prev_apart : (c : Nodes X) (p : Ptr) (o : Option Ptr) → AreDistinct (spots c) → MatchOption o (IsFirst c p) (λ q. AreNext c q p) → IfSome o (λ q. q ≢ p)
  prev_apart c p None distinct step = tt
  prev_apart c p (Some q) distinct step = following c q p distinct step

module _ {A : Type 0} where
  contains_at : (b a : List A) (x : A) → Contains (b ++ x ∷ a) x
  contains_at [] a x = (0, omega arith, refl)
  contains_at (y ∷ b) a x = let (k, within, at) = contains_at b a x in (suc k, omega (arith, within), at)

  contained_at : (c : List A) (x : A) → Contains c x → (b : List A) × (a : List A) × (c ≡ b ++ x ∷ a)
  contained_at [] x (k, within, at) = absurd (omega (arith, within))
  contained_at (y ∷ c) x (zero, within, at) = ([], c, ap (λ z. z ∷ c) at)
  contained_at (y ∷ c) x (suc k, within, at) = let (before, after, is) = contained_at c x (k, omega (arith, within), at) in (y ∷ before, after, ap (λ s. y ∷ s) is)

module _ {X : Type 0} where
  -- the same elements are there, in another order
  pub permuted_is_at : (c d : Nodes X) (q : Ptr) (o : Element X) → IsPermutation c d → HasElementAt c q o → HasElementAt d q o
  permuted_is_at c d q o p (b, a, is) =
      contained_at d (q, o) (Contains-permutation c d (q, o) p (subst (λ s. Contains s (q, o)) (sym is) (contains_at b a (q, o))))

  pub permuted_keeps : (c d : Nodes X) → IsPermutation c d → (q : Ptr) → HasSpot c q → HasSpot d q
  permuted_keeps c d p q on = let (o, lies) = has_at c q on in spot_is_at d q o (permuted_is_at c d q o p lies)

  pub joined_keeps : (c d n : Nodes X) → IsPermutation (c ++ d) n → (q : Ptr) → HasSpot c q → HasSpot n q
  joined_keeps c d n kept q on = permuted_keeps (c ++ d) n kept q (front_keeps c d (c ++ d) refl q on)

  pub joined_takes_over : (c d n : Nodes X) → IsPermutation (c ++ d) n → (q : Ptr) → HasSpot d q → HasSpot n q
  joined_takes_over c d n kept q on = permuted_keeps (c ++ d) n kept q (back_keeps c d (c ++ d) refl q on)
