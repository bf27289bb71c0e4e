-- What a stable list holds after a call, and at which spots.
use Rattle.std.proofs.Common.{append_assoc, append-nil, ◌≡◌, ℕ, zero, suc, List, [], ◌∷◌, ◌++◌, ◌+◌, length, length-append, slice_get, Some, refl, sym, ap, ◌∙◌, subst, ◌⊎◌, inl, inr, arith}
use denote.RawPtr.{Ptr}
use Rattle.cordyceps_base.specs.BySpot.{HasSpot, IsTaken, IsPutBefore, IsPutAfter, IsLast, AreNext}
use Rattle.cordyceps_base.specs.Element.{Element, values}
use Rattle.cordyceps_base.specs.Nodes.{Nodes, elements, spots, with_item}
use Rattle.cordyceps_base.specs.Spots.{IsNew, AreDistinct}
use Rattle.cordyceps_base.proofs.SpotsMemory.{same_ptr_refl}
use Rattle.cordyceps_stable.specs.Agreeing.{HasElementAt}
use Rattle.cordyceps_stable.specs.Replacing.{IsReplaced}

module _ {X : Type 0} where
  -- c is d with the element e at p: so an element was taken out of c, which left d, or one was put into d, which made c
  pub first_taken : (c d : Nodes X) (p : Ptr) (e : Element X) → c ≡ (p, e) ∷ d → IsTaken c p e d
  first_taken c d p e is = ([], d, is, refl)

  pub last_taken : (c d : Nodes X) (p : Ptr) (e : Element X) → c ≡ d ++ (p, e) ∷ [] → IsTaken c p e d
  last_taken c d p e is = (d, [], is, sym (append-nil d))

  pub before_taken : (c d : Nodes X) (p q : Ptr) (e : Element X) → IsPutBefore d p q e c → IsTaken c q e d
  before_taken c d p q e (b, o, a, was, is) = (b, (p, o) ∷ a, is, was)

  pub after_taken : (c d : Nodes X) (p q : Ptr) (e : Element X) → IsPutAfter d p q e c → IsTaken c q e d
  after_taken c d p q e (b, o, a, was, is) = (b ++ (p, o) ∷ [], a, is ∙ sym (append_assoc b ((p, o) ∷ []) ((q, e) ∷ a)), was ∙ sym (append_assoc b ((p, o) ∷ []) a))

  -- what was taken out lay there
  pub taken_is_at : (c d : Nodes X) (p : Ptr) (e : Element X) → IsTaken c p e d → HasElementAt c p e
  taken_is_at c d p e (before, after, is, _) = (before, after, is)

  -- how many are left
  pub taken_length : (c d : Nodes X) (p : Ptr) (e : Element X) → IsTaken c p e d → length c ≡ length d + 1
  taken_length c d p e (b, a, is, left) = omega (arith, ap length is, ap length left, length-append b ((p, e) ∷ a), length-append b a)

  -- what lies in the list has its spot there: the condition of `remove` and `get`
  pub spot_at : (b a : Nodes X) (q : Ptr) (e : Element X) → slice_get (spots (b ++ (q, e) ∷ a)) (length b) ≡ Some q
  spot_at [] a q e = refl
  spot_at (x ∷ b) a q e = spot_at b a q e

  pub spot_is_at : (c : Nodes X) (p : Ptr) (e : Element X) → HasElementAt c p e → HasSpot c p
  spot_is_at c p e (b, a, is) = (length b, subst (λ d. slice_get (spots d) (length b) ≡ Some p) (sym is) (spot_at b a p e))

  not_new : (p : Ptr) (b a : Nodes X) (e : Element X) → IsNew p (spots (b ++ (p, e) ∷ a)) → ⊥
  not_new p [] a e n = let no = n.0 in let yes = same_ptr_refl p in cc
  not_new p (x ∷ b) a e n = not_new p b a e n.1

  abbrev head_or : Ptr × Element X → Nodes X → Ptr × Element X
  head_or z [] = z
  head_or z (x ∷ xs) = x

  abbrev rest_of : Nodes X → Nodes X
  rest_of [] = []
  rest_of (x ∷ xs) = xs

  -- a spot names one element
  pub unique : (b a d z : Nodes X) (p : Ptr) (e o : Element X) → b ++ (p, e) ∷ a ≡ d ++ (p, o) ∷ z → AreDistinct (spots (b ++ (p, e) ∷ a)) → (b ≡ d) × (e ≡ o) × (a ≡ z)
  unique [] a [] z p e o is distinct = (refl, ap (λ s. (head_or (p, e) s).1) is, ap rest_of is)
  unique [] a (y ∷ d) z p e o is distinct = let rest : a ≡ d ++ (p, o) ∷ z = ap rest_of is in absurd (not_new p d z o (subst (λ s. IsNew p (spots s)) rest distinct.0))
  unique (x ∷ b) a [] z p e o is distinct = let first : x.0 ≡ p = ap (λ s. (head_or x s).0) is in absurd (not_new p b a e (subst (λ q. IsNew q (spots (b ++ (p, e) ∷ a))) first distinct.0))
  unique (x ∷ b) a (y ∷ d) z p e o is distinct =
      let first : x ≡ y = ap (head_or x) is in let rest : b ++ (p, e) ∷ a ≡ d ++ (p, o) ∷ z = ap rest_of is in let (firsts, value, lasts) = unique b a d z p e o rest distinct.1 in ((λ i. first i ∷ firsts i), value, lasts)

  pub has_split : (c : Nodes X) (k : ℕ) (p : Ptr) → slice_get (spots c) k ≡ Some p → (e : Element X) × HasElementAt c p e
  has_split [] k p at = cc
  has_split (x ∷ c) zero p at = let same : x.0 ≡ p = cc in (x.1, ([], c, λ i. (same i, x.1) ∷ c))
  has_split (x ∷ c) (suc k) p at = let (e, (before, after, is)) = has_split c k p at in (e, (x ∷ before, after, ap (λ s. x ∷ s) is))

  new_part : (p : Ptr) (b a : Nodes X) (e : Element X) → AreDistinct (spots (b ++ (p, e) ∷ a)) → (k : ℕ) → slice_get (spots (b ++ a)) k ≡ Some p → ⊥
  new_part p [] a e distinct k at = let (o, (before, after, is)) = has_split a k p at in not_new p before after o (subst (λ s. IsNew p (spots s)) is distinct.0)
  new_part p (x ∷ b) a e distinct zero at = let same : x.0 ≡ p = cc in not_new p b a e (subst (λ q. IsNew q (spots (b ++ (p, e) ∷ a))) same distinct.0)
  new_part p (x ∷ b) a e distinct (suc k) at = new_part p b a e distinct.1 k at

  -- where an element was taken out none lies, and where one was put in none lay
  pub taken_gone : (c d : Nodes X) (p : Ptr) (e : Element X) → AreDistinct (spots c) → IsTaken c p e d → HasSpot d p → ⊥
  taken_gone c d p e distinct (b, a, is, left) (k, at) = new_part p b a e (subst (λ s. AreDistinct (spots s)) is distinct) k (subst (λ s. slice_get (spots s) k ≡ Some p) left at)

  -- what lies in the list without an element lies there with it
  pub left_is_at : (c d : Nodes X) (p q : Ptr) (e o : Element X) → IsTaken c p e d → HasElementAt d q o → HasElementAt c q o
  left_is_at c d p q e o (b, a, is, left) (b', a', lies) = let (before, after, on) = go b a b' a' (sym left ∙ lies) in (before, after, is ∙ on) where
    go : (b a b' a' : Nodes X) → b ++ a ≡ b' ++ (q, o) ∷ a' → HasElementAt (b ++ (p, e) ∷ a) q o
    go [] a b' a' is = ((p, e) ∷ b', a', ap (λ s. (p, e) ∷ s) is)
    go (x ∷ b) a [] a' is = ([], b ++ (p, e) ∷ a, ap (λ s. head_or x s ∷ b ++ (p, e) ∷ a) is)
    go (x ∷ b) a (y ∷ b') a' is = let (before, after, on) = go b a b' a' (ap rest_of is) in (x ∷ before, after, ap (λ s. x ∷ s) on)

  -- what lies in the list with an element is that element, or lies there without it
  pub taken_or_left : (c d : Nodes X) (p q : Ptr) (e o : Element X) → IsTaken c p e d → HasElementAt c q o → ((q ≡ p) × (o ≡ e)) ⊎ HasElementAt d q o
  taken_or_left c d p q e o (b, a, is, left) (b', a', lies) = subst (λ s. ((q ≡ p) × (o ≡ e)) ⊎ HasElementAt s q o) (sym left) (go b a b' a' (sym is ∙ lies)) where
    go : (b a b' a' : Nodes X) → b ++ (p, e) ∷ a ≡ b' ++ (q, o) ∷ a' → ((q ≡ p) × (o ≡ e)) ⊎ HasElementAt (b ++ a) q o
    go [] a [] a' is = inl (sym (ap (λ s. (head_or (p, e) s).0) is), sym (ap (λ s. (head_or (p, e) s).1) is))
    go [] a (y ∷ b') a' is = inr (b', a', ap rest_of is)
    go (x ∷ b) a [] a' is = inr ([], b ++ a, ap (λ s. head_or x s ∷ b ++ a) is)
    go (x ∷ b) a (y ∷ b') a' is = elim (go b a b' a' (ap rest_of is)) as (λ _. ((q ≡ p) × (o ≡ e)) ⊎ HasElementAt (x ∷ b ++ a) q o) [
      | inl same ↦ inl same
      | inr (before, after, on) ↦ inr (x ∷ before, after, ap (λ s. x ∷ s) on)
    ]

  -- an element that was put in where another was taken out is in its place
  pub replaced_last : (c d n : Nodes X) (p q : Ptr) (o e : Element X) → AreDistinct (spots c) → IsLast c p → IsTaken c p o d → n ≡ d ++ (q, e) ∷ [] → IsReplaced c p o q e n
  replaced_last c d n p q o e distinct (b, x, is) (b', a', was, left) put =
      let (_, _, none) = unique b [] b' a' p x o (sym is ∙ was) (subst (λ s. AreDistinct (spots s)) is distinct) in
      let alone : d ≡ b' = left ∙ (ap (λ s. b' ++ s) (sym none) ∙ append-nil b') in
      (b', a', was, put ∙ (ap (λ s. s ++ (q, e) ∷ []) alone ∙ ap (λ s. b' ++ (q, e) ∷ s) none))

  -- the element after one that was taken out stays, and is where that was
  next_left : (c d : Nodes X) (p r : Ptr) (o : Element X) → AreDistinct (spots c) → AreNext c p r → IsTaken c p o d
      → (b : Nodes X) × (y : Element X) × (a : Nodes X) × (c ≡ b ++ (p, o) ∷ (r, y) ∷ a) × (d ≡ b ++ (r, y) ∷ a)
  next_left c d p r o distinct (b, x, y, a, is) (b', a', was, left) =
      let (_, _, rest) = unique b ((r, y) ∷ a) b' a' p x o (sym is ∙ was) (subst (λ s. AreDistinct (spots s)) is distinct) in
      (b', y, a, was ∙ ap (λ s. b' ++ (p, o) ∷ s) (sym rest), left ∙ ap (λ s. b' ++ s) (sym rest))

  pub next_stays : (c d : Nodes X) (p r : Ptr) (o : Element X) → AreDistinct (spots c) → AreNext c p r → IsTaken c p o d → HasSpot d r
  next_stays c d p r o distinct next taken =
      let (b, y, a, _, there) = next_left c d p r o distinct next taken in
      spot_is_at d r y (b, a, there)

  pub replaced_before : (c d n : Nodes X) (p r q : Ptr) (o e : Element X) → AreDistinct (spots c) → AreDistinct (spots d) → AreNext c p r → IsTaken c p o d → IsPutBefore d r q e n → IsReplaced c p o q e n
  replaced_before c d n p r q o e distinct apart next taken (f, z, g, held, put) =
      let (b, y, a, was, there) = next_left c d p r o distinct next taken in
      let (same, value, after) = unique b a f g r y z (sym there ∙ held) (subst (λ s. AreDistinct (spots s)) there apart) in
      (b, (r, y) ∷ a, was, put ∙ (λ i. sym same i ++ (q, e) ∷ (r, sym value i) ∷ sym after i))

  -- after a removal all others lie where they lay
  pub others_are_at : (c d : Nodes X) (p q : Ptr) (e o : Element X) → IsTaken c p e d → HasElementAt c q o → (q ≡ p → ⊥) → HasElementAt d q o
  others_are_at c d p q e o t lies other = elim (taken_or_left c d p q e o t lies) as (λ _. HasElementAt d q o) [
    | inl same ↦ absurd (other same.0)
    | inr on ↦ on
  ]

  pub others_stay : (c d : Nodes X) (p q : Ptr) (e : Element X) → IsTaken c p e d → HasSpot c q → (p ≡ q → ⊥) → HasSpot d q
  others_stay c d p q e t (k, at) other = let (o, lies) = has_split c k q at in spot_is_at d q o (others_are_at c d p q e o t lies (λ same. other (sym same)))

  -- two lists that are the same without the element at a spot hold the same, as before and after a move
  pub moved_is_at : (c d rest : Nodes X) (p q : Ptr) (e o : Element X) → IsTaken c p e rest → IsTaken d p e rest → HasElementAt c q o → HasElementAt d q o
  moved_is_at c d rest p q e o was (before, after, is, left) lies = elim (taken_or_left c rest p q e o was lies) as (λ _. HasElementAt d q o) [
    | inl same ↦ let at = sym same.0 in let of = sym same.1 in (before, after, is ∙ (λ i. before ++ (at i, of i) ∷ after))
    | inr on ↦ left_is_at d rest p q e o (before, after, is, left) on
  ]

  -- what lies in two lists that were joined lies in one of them
  pub joined_is_at : (c d : Nodes X) (q : Ptr) (o : Element X) → HasElementAt (c ++ d) q o → HasElementAt c q o ⊎ HasElementAt d q o
  joined_is_at [] d q o lies = inr lies
  joined_is_at (x ∷ c) d q o ([], a, is) = inl ([], c, ap (λ s. head_or x s ∷ c) is)
  joined_is_at (x ∷ c) d q o (y ∷ b, a, is) = elim (joined_is_at c d q o (b, a, ap rest_of is)) as (λ _. HasElementAt (x ∷ c) q o ⊎ HasElementAt d q o) [
    | inl (before, after, on) ↦ inl (x ∷ before, after, ap (λ s. x ∷ s) on)
    | inr on ↦ inr on
  ]

  pub front_is_at : (c d : Nodes X) (q : Ptr) (o : Element X) → HasElementAt c q o → HasElementAt (c ++ d) q o
  front_is_at c d q o (b, a, is) = (b, a ++ d, ap (λ s. s ++ d) is ∙ append_assoc b ((q, o) ∷ a) d)

  -- a value that was written changes no number and no spot
  pub written_lies : (c : Nodes X) (k : ℕ) (w : X) (q : Ptr) (e : Element X) → HasElementAt c q e → (o : Element X) × (o.id ≡ e.id) × HasElementAt (with_item c k w) q o
  written_lies c k w q e (b, a, is) = subst (λ s. (o : Element X) × (o.id ≡ e.id) × HasElementAt (with_item s k w) q o) (sym is) (go b a k) where
    go : (b a : Nodes X) (k : ℕ) → (o : Element X) × (o.id ≡ e.id) × HasElementAt (with_item (b ++ (q, e) ∷ a) k w) q o
    go [] a zero = (record { id = e.id; value = w }, refl, ([], a, refl))
    go [] a (suc k) = (e, refl, ([], with_item a k w, refl))
    go (x ∷ b) a zero = (e, refl, ((x.0, record { id = x.1.id; value = w }) ∷ b, a, refl))
    go (x ∷ b) a (suc k) = let (o, key, (f, r, on)) = go b a k in (o, key, (x ∷ f, r, ap (λ s. x ∷ s) on))

  pub written_lay : (c : Nodes X) (k : ℕ) (w : X) (q : Ptr) (o : Element X) → HasElementAt (with_item c k w) q o → (e : Element X) × (e.id ≡ o.id) × HasElementAt c q e
  written_lay [] k w q o ([], a, is) = cc
  written_lay [] k w q o (y ∷ b, a, is) = cc
  written_lay (n ∷ c) zero w q o ([], a, is) =
      let first = ap (head_or (q, o)) is in let at : n.0 ≡ q = ap (λ (s : Ptr × Element X). s.0) first in (n.1, ap (λ (s : Ptr × Element X). s.1.id) first, ([], c, λ i. (at i, n.1) ∷ c))
  written_lay (n ∷ c) zero w q o (y ∷ b, a, is) = (o, refl, (n ∷ b, a, ap (λ s. n ∷ rest_of s) is))
  written_lay (n ∷ c) (suc k) w q o ([], a, is) = (o, refl, ([], c, ap (λ s. head_or n s ∷ c) is))
  written_lay (n ∷ c) (suc k) w q o (y ∷ b, a, is) = let (e, key, (f, r, on)) = written_lay c k w q o (b, a, ap rest_of is) in (e, key, (n ∷ f, r, ap (λ s. n ∷ s) on))

module _ {X : Type 0} where
  new_less : (q : Ptr) (b a : Nodes X) (n : Ptr × Element X) → IsNew q (spots (b ++ n ∷ a)) → IsNew q (spots (b ++ a))
  new_less q [] a n h = h.1
  new_less q (x ∷ b) a n h = (h.0, new_less q b a n h.1)

  -- with one node less the spots are distinct too
  pub distinct_less : (b a : Nodes X) (n : Ptr × Element X) → AreDistinct (spots (b ++ n ∷ a)) → AreDistinct (spots (b ++ a))
  distinct_less [] a n h = h.1
  distinct_less (x ∷ b) a n h = (new_less x.0 b a n h.0, distinct_less b a n h.1)

  -- the values tell the first node, and what is after it
  pub first_value : (c : Nodes X) (v : X) (rest : List X) → values (elements c) ≡ v ∷ rest → (n : Ptr × Element X) × (d : Nodes X) × (c ≡ n ∷ d) × (n.1.value ≡ v) × (values (elements d) ≡ rest)
  first_value [] v rest e = absurd cc
  first_value (n ∷ d) v rest e = let first : n.1.value ≡ v = cc in let left : values (elements d) ≡ rest = cc in (n, d, refl, first, left)
