-- What is known of a receiver's party by where it is: in a consumer, or at rest.
use Rattle.std.proofs.Common.{◌≡◌, refl, sym, ap, ◌∙◌, subst, inr, ⊎_elim}
use Rattle.std.specs.Prelude.{Option, Some, None, MatchOption, Result, Ok, Err, MatchResult}
use Rattle.atomic_table.specs.Seated.{TableId}
use Rattle.cordyceps_queue.specs.Shared.Calls.{PartyOf}
use Rattle.cordyceps_queue.specs.Shared.OwnedConsumer.{OwnedOf}
use Rattle.cordyceps_channel.specs.Takers.{taker_of, IsTaker}

-- what is said of an option, where it has a value and where it has none
pub some_case : {X : Type 0} (A : Type 0) (B : X → Type 0) (r : Option X) (x : X) → r ≡ Some x → B x → MatchOption r A B
some_case {X} A B r x is b = subst (λ (o : Option X). MatchOption o A B) (sym is) b

pub none_case : {X : Type 0} (A : Type 0) (B : X → Type 0) (r : Option X) → r ≡ None → A → MatchOption r A B
none_case {X} A B r is a = subst (λ (o : Option X). MatchOption o A B) (sym is) a

-- the same of a result
pub ok_case : {X Y : Type 0} (A : X → Type 0) (B : Y → Type 0) (r : Result X Y) (x : X) → r ≡ Ok x → A x → MatchResult r A B
ok_case {X} {Y} A B r x is a = subst (λ (o : Result X Y). MatchResult o A B) (sym is) a

pub err_case : {X Y : Type 0} (A : X → Type 0) (B : Y → Type 0) (r : Result X Y) (y : Y) → r ≡ Err y → B y → MatchResult r A B
err_case {X} {Y} A B r y is b = subst (λ (o : Result X Y). MatchResult o A B) (sym is) b

-- the value of an option that has one
abbrev inside : {X : Type 0} → X → Option X → X
inside d (Some x) = x
inside d None = d

-- a consumer's party
pub consumer_party : {E A : Type 0} (consumer : Option (OwnedOf E)) (resting : Option (A × PartyOf E)) (it : OwnedOf E) → consumer ≡ Some it → (taker_of consumer resting).party ≡ it.party
consumer_party consumer resting it e = ap (λ c. (taker_of c resting).party) e

module _ {E A : Type 0} (table_of : A → TableId) (consumer : Option (OwnedOf E)) (resting : Option (A × PartyOf E)) where
  -- a party at rest, and its queue
  pub resting_party : IsTaker table_of consumer resting → (it : A × PartyOf E) → resting ≡ Some it → (taker_of consumer resting).party ≡ it.1
  resting_party t it e = ⊎_elim (λ h. absurd (cc (sym e ∙ h.none))) (λ r. λ i. (taker_of (r.none i) (e i)).party) t

  pub resting_table : IsTaker table_of consumer resting → (it : A × PartyOf E) → resting ≡ Some it → table_of it.0 ≡ it.1.table
  resting_table t it e = ⊎_elim (λ h. absurd (cc (sym e ∙ h.none))) (λ r. subst (λ x. table_of x.0 ≡ x.1.table) (ap (inside it) (sym r.is ∙ e)) r.table) t

  pub resting_alone : IsTaker table_of consumer resting → (it : A × PartyOf E) → resting ≡ Some it → consumer ≡ None
  resting_alone t it e = ⊎_elim (λ h. absurd (cc (sym e ∙ h.none))) (λ r. r.none) t

  -- a party at rest that has done more, and is at rest
  pub still_resting : IsTaker table_of consumer resting → (it : A × PartyOf E) (w : PartyOf E) → resting ≡ Some it → w.table ≡ it.1.table → IsTaker table_of consumer (Some (it.0, w))
  still_resting t it w e same = inr record { it = (it.0, w); is = refl; none = resting_alone t it e; table = resting_table t it e ∙ sym same }

  pub at_rest_after : IsTaker table_of consumer resting → (it : A × PartyOf E) (a : A) (w : PartyOf E) → resting ≡ Some it → w ≡ (taker_of consumer (Some (a, w))).party
  at_rest_after t it a w e = λ i. (taker_of (sym (resting_alone t it e) i) (Some (a, w))).party
