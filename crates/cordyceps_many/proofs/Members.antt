-- Members of a list of spots, and which spots nodes have.
use Rattle.std.proofs.Common.{◌≡◌, ◌≢◌, ℕ, zero, suc, Bool, true, false, if◌then◌else◌, List, [], ◌∷◌, ◌++◌, slice_get, Some, Option, None, MatchOption, refl, sym, ap, ◌∙◌, subst}
use Rattle.std.specs.Prelude.{IfSome}
use denote.RawPtr.{Ptr}
use Rattle.cordyceps_base.specs.BySpot.{HasSpot, IsTaken}
use Rattle.cordyceps_base.specs.Element.{Element}
use Rattle.cordyceps_base.specs.Nodes.{Nodes, spots}
use Rattle.cordyceps_base.specs.Spots.{same_ptr, index_of, IsNew, AreDistinct}
use Rattle.cordyceps_base.proofs.SpotsMemory.{same_ptr_eq, same_ptr_refl}
use Rattle.cordyceps_many.specs.Threads.{is_in, without, with_before, with_after, Once}
use Rattle.cordyceps_many.specs.MultiList.{IsFirstOf, IsLastOf, AreNextIn}
use Rattle.cordyceps_many.proofs.HookRows.{place_of}
use Rattle.cordyceps_many.proofs.Threads.{split, in_here, in_there, in_more, not_in, in_append, without_other}

pub in_self : (p : Ptr) (s : List Ptr) → is_in p (p ∷ s) ≡ true
in_self p s = in_here p p s (same_ptr_refl p)

pub in_mid : (a : Ptr) (s t : List Ptr) → is_in a (s ++ a ∷ t) ≡ true
in_mid a [] t = in_self a t
in_mid a (x ∷ s) t = in_more a x (s ++ a ∷ t) (in_mid a s t)

pub other_mid : (q a : Ptr) (s t : List Ptr) → same_ptr q a ≡ false → is_in q (s ++ a ∷ t) ≡ is_in q (s ++ t)
other_mid q a [] t e = in_there q a t e
other_mid q a (x ∷ s) t e = ap (λ (b : Bool). if same_ptr q x then true else b) (other_mid q a s t e)

pub found : (ps : List Ptr) (p : Ptr) (k : ℕ) → slice_get ps k ≡ Some p → is_in p ps ≡ true
found [] p k e = absurd cc
found (q ∷ ps) p zero e = let here : q ≡ p = cc in in_here p q ps (subst (λ z. same_ptr p z ≡ true) (sym here) (same_ptr_refl p))
found (q ∷ ps) p (suc k) e = in_more p q ps (found ps p k e)

module _ {X : Type 0} where
  pub has_in : (c : Nodes X) (p : Ptr) → HasSpot c p → is_in p (spots c) ≡ true
  has_in c p on = found (spots c) p on.0 on.1

  pub in_has : (c : Nodes X) (p : Ptr) → is_in p (spots c) ≡ true → HasSpot c p
  in_has c p e = (index_of p (spots c), place_of (spots c) p e)

-- no spot comes twice
pub new_of : (q : Ptr) (s : List Ptr) → is_in q s ≡ false → IsNew q s
new_of q [] e = tt
new_of q (x ∷ s) e = let n = not_in q x s e in (n.0, new_of q s n.1)

pub once_distinct : (s : List Ptr) → Once s → AreDistinct s
once_distinct [] o = tt
once_distinct (q ∷ s) o = (new_of q s o.0, once_distinct s o.1)

-- ---- ends and neighbours are members
pub first_in : (s : List Ptr) (p : Ptr) → IsFirstOf s p → is_in p s ≡ true
first_in s p (after, e) = subst (λ l. is_in p l ≡ true) (sym e) (in_self p after)

pub last_in : (s : List Ptr) (p : Ptr) → IsLastOf s p → is_in p s ≡ true
last_in s p (before, e) = subst (λ l. is_in p l ≡ true) (sym e) (in_mid p before [])

pub later_in : (s : List Ptr) (p q : Ptr) → AreNextIn s p q → is_in q s ≡ true
later_in s p q n = subst (λ l. is_in q l ≡ true) (sym n.whole) (later n.before) where
  later : (l : List Ptr) → is_in q (l ++ p ∷ q ∷ n.after) ≡ true
  later [] = in_more q p (q ∷ n.after) (in_self q n.after)
  later (x ∷ l) = in_more q x (l ++ p ∷ q ∷ n.after) (later l)

pub earlier_in : (s : List Ptr) (p q : Ptr) → AreNextIn s p q → is_in p s ≡ true
earlier_in s p q n = subst (λ l. is_in p l ≡ true) (sym n.whole) (in_mid p n.before (q ∷ n.after))

-- ---- what is said of an option
pub lifted : {V : Type 0} {N M : Type 0} {S T : V → Type 0} (o : Option V) → MatchOption o N S → (N → M) → ((v : V) → S v → T v) → MatchOption o M T
lifted None w n s = n w
lifted (Some v) w n s = s v w

pub if_some : {V : Type 0} (N : Type 0) {S T : V → Type 0} (o : Option V) → MatchOption o N S → ((v : V) → S v → T v) → IfSome o T
if_some N None w s = tt
if_some N (Some v) w s = s v w

module _ {X : Type 0} where
  pub spots_joined : (c d : Nodes X) → spots (c ++ d) ≡ spots c ++ spots d
  spots_joined [] d = refl
  spots_joined (n ∷ c) d = ap (λ s. n.0 ∷ s) (spots_joined c d)

  pub same_keeps : (c d : Nodes X) → d ≡ c → (p : Ptr) → HasSpot c p → HasSpot d p
  same_keeps c d same p on = subst (λ s. HasSpot s p) (sym same) on

  -- a node was added at the back
  pub pushed_has : (c : Nodes X) (p : Ptr) (e : Element X) (d : Nodes X) → d ≡ c ++ (p, e) ∷ [] → HasSpot d p
  pushed_has c p e d is = in_has d p (ap (λ z. is_in p (spots z)) is ∙ ap (is_in p) (spots_joined c ((p, e) ∷ [])) ∙ in_mid p (spots c) [])

  pub pushed_keeps : (c : Nodes X) (p : Ptr) (e : Element X) (d : Nodes X) → d ≡ c ++ (p, e) ∷ [] → (q : Ptr) → HasSpot c q → HasSpot d q
  pushed_keeps c p e d is q on = in_has d q (ap (λ z. is_in q (spots z)) is ∙ ap (is_in q) (spots_joined c ((p, e) ∷ [])) ∙ in_append q (spots c) (p ∷ []) ∙ ap (λ (b : Bool). if b then true else is_in q (p ∷ [])) (has_in c q on))

  -- a node was taken out
  pub taken_keeps : (c : Nodes X) (p : Ptr) (e : Element X) (d : Nodes X) → IsTaken c p e d → (q : Ptr) → HasSpot c q → q ≢ p → HasSpot d q
  taken_keeps c p e d (b, a, was, left) q on other =
      let apart : same_ptr q p ≡ false = split (same_ptr q p) (λ same. absurd (other (same_ptr_eq q p same))) (λ no. no) in
      let there : is_in q (spots b ++ p ∷ spots a) ≡ true = sym (ap (is_in q) (spots_joined b ((p, e) ∷ a))) ∙ sym (ap (λ z. is_in q (spots z)) was) ∙ has_in c q on in
      in_has d q (ap (λ z. is_in q (spots z)) left ∙ ap (is_in q) (spots_joined b a) ∙ sym (other_mid q p (spots b) (spots a) apart) ∙ there)

-- ---- what a list with one more has
pub in_before : (q p : Ptr) (s : List Ptr) → is_in q s ≡ true → is_in p (with_before q p s) ≡ true
in_before q p [] e = absurd cc
in_before q p (x ∷ s) e = split (same_ptr q x)
    (λ same. ap (λ (b : Bool). is_in p (if b then p ∷ x ∷ s else x ∷ with_before q p s)) same ∙ in_self p (x ∷ s))
    (λ other. ap (λ (b : Bool). is_in p (if b then p ∷ x ∷ s else x ∷ with_before q p s)) other ∙ in_more p x (with_before q p s) (in_before q p s (sym (in_there q x s other) ∙ e)))

pub in_after : (q p : Ptr) (s : List Ptr) → is_in q s ≡ true → is_in p (with_after q p s) ≡ true
in_after q p [] e = absurd cc
in_after q p (x ∷ s) e = split (same_ptr q x)
    (λ same. ap (λ (b : Bool). is_in p (if b then x ∷ p ∷ s else x ∷ with_after q p s)) same ∙ in_more p x (p ∷ s) (in_self p s))
    (λ other. ap (λ (b : Bool). is_in p (if b then x ∷ p ∷ s else x ∷ with_after q p s)) other ∙ in_more p x (with_after q p s) (in_after q p s (sym (in_there q x s other) ∙ e)))

pub before_keeps : (q p : Ptr) (s : List Ptr) (r : Ptr) → is_in r s ≡ true → is_in r (with_before q p s) ≡ true
before_keeps q p [] r e = absurd cc
before_keeps q p (x ∷ s) r e = split (same_ptr q x)
    (λ same. ap (λ (b : Bool). is_in r (if b then p ∷ x ∷ s else x ∷ with_before q p s)) same ∙ in_more r p (x ∷ s) e)
    (λ other. ap (λ (b : Bool). is_in r (if b then p ∷ x ∷ s else x ∷ with_before q p s)) other ∙ split (same_ptr r x)
    (λ here. in_here r x (with_before q p s) here)
    (λ there. in_more r x (with_before q p s) (before_keeps q p s r (sym (in_there r x s there) ∙ e))))

pub after_keeps : (q p : Ptr) (s : List Ptr) (r : Ptr) → is_in r s ≡ true → is_in r (with_after q p s) ≡ true
after_keeps q p [] r e = absurd cc
after_keeps q p (x ∷ s) r e = split (same_ptr q x)
    (λ same. ap (λ (b : Bool). is_in r (if b then x ∷ p ∷ s else x ∷ with_after q p s)) same ∙ split (same_ptr r x)
    (λ here. in_here r x (p ∷ s) here)
    (λ there. in_more r x (p ∷ s) (in_more r p s (sym (in_there r x s there) ∙ e))))
    (λ other. ap (λ (b : Bool). is_in r (if b then x ∷ p ∷ s else x ∷ with_after q p s)) other ∙ split (same_ptr r x)
    (λ here. in_here r x (with_after q p s) here)
    (λ there. in_more r x (with_after q p s) (after_keeps q p s r (sym (in_there r x s there) ∙ e))))

-- ---- what a list has of which one was moved
pub front_keeps : (p : Ptr) (s : List Ptr) (r : Ptr) → is_in r s ≡ true → is_in r (p ∷ without p s) ≡ true
front_keeps p s r e = split (same_ptr p r)
    (λ same. in_here r p (without p s) (subst (λ z. same_ptr r z ≡ true) (sym (same_ptr_eq p r same)) (same_ptr_refl r)))
    (λ other. in_more r p (without p s) (without_other p r s other ∙ e))

pub back_keeps : (p : Ptr) (s : List Ptr) (r : Ptr) → is_in r s ≡ true → is_in r (without p s ++ p ∷ []) ≡ true
back_keeps p s r e = in_append r (without p s) (p ∷ []) ∙ split (same_ptr p r)
    (λ same. split (is_in r (without p s)) (λ yes. ap (λ (b : Bool). if b then true else is_in r (p ∷ [])) yes)
    (λ no. ap (λ (b : Bool). if b then true else is_in r (p ∷ [])) no ∙ in_here r p [] (subst (λ z. same_ptr r z ≡ true) (sym (same_ptr_eq p r same)) (same_ptr_refl r))))
    (λ other. ap (λ (b : Bool). if b then true else is_in r (p ∷ [])) (without_other p r s other ∙ e))
