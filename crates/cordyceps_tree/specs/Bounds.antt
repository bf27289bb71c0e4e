-- Where a search ends among nodes in order.
use Rattle.std.specs.Prelude.{◌≡◌, Bool, true, false, not, [], ◌∷◌, ◌++◌, Option, Some, None, MatchOption}
use Rattle.std.specs.List.{AllByRecursion}
use Rattle.std.specs.Ordering.{is_lt, is_gt, is_eq}
use Rattle.std.specs.declared.cmp.Ordering.{Ordering}
use denote.RawPtr.{Ptr}
use Rattle.cordyceps_base.specs.BySpot.{HoldsAt}
use Rattle.cordyceps_base.specs.Element.{Element}
use Rattle.cordyceps_base.specs.Nodes.{Nodes}
use Rattle.cordyceps_stable.specs.Replacing.{IsReplaced}

module _ {X : Type 0} where
  -- the spot of the first node, if there is one
  abbrev pub first_spot : Nodes X → Option Ptr
  first_spot [] = None
  first_spot (n ∷ c) = Some n.0

  -- the values before the spot o pass a test, and no other does; where o is none, all pass
  pub record PartsAt (passes : X → Bool) (c : Nodes X) (o : Option Ptr) : Type 0 where
    pub front : Nodes X
    pub back : Nodes X
    pub parts : c ≡ front ++ back
    pub before : AllByRecursion (λ n. passes n.1.value ≡ true) front
    pub after : AllByRecursion (λ n. passes n.1.value ≡ false) back
    pub at : o ≡ first_spot back

  -- p is the spot of the first node whose value passes a test
  pub record IsFoundAt (passes : X → Bool) (c : Nodes X) (p : Ptr) : Type 0 where
    pub front : Nodes X
    pub element : Element X
    pub back : Nodes X
    pub parts : c ≡ front ++ (p, element) ∷ back
    pub passing : passes element.value ≡ true
    pub before : AllByRecursion (λ n. passes n.1.value ≡ false) front

  -- o is that spot; where it is none, no value passes
  abbrev pub FindsFirst : (X → Bool) → Nodes X → Option Ptr → Type 0
  FindsFirst passes c o =
      MatchOption o (AllByRecursion (λ n. passes n.1.value ≡ false) c) (λ p. IsFoundAt passes c p)

  -- what is said of x to find the place of v after its equals, and the one before them
  abbrev pub SaysAfterEquals : ((X → X → Ordering) → Type 0) → X → X → Bool → Type 0
  SaysAfterEquals by v x b = (cmp : X → X → Ordering) → by cmp → b ≡ not (is_lt (cmp v x))

  abbrev pub SaysBeforeEquals : ((X → X → Ordering) → Type 0) → X → X → Bool → Type 0
  SaysBeforeEquals by v x b = (cmp : X → X → Ordering) → by cmp → b ≡ is_gt (cmp v x)

  -- whether v is equal to the value at p
  abbrev pub AnswersAt : ((X → X → Ordering) → Type 0) → X → Nodes X → Ptr → Bool → Type 0
  AnswersAt by v c p b = (x : X) (cmp : X → X → Ordering) → by cmp → HoldsAt c p x → is_eq (cmp v x) ≡ b

  -- a guide said that its place is after the last value, if there is one
  abbrev pub LastSaid : (X → Bool → Type 0) → Nodes X → Type 0
  LastSaid says [] = Unit {0}
  LastSaid says (n ∷ []) = says n.1.value true
  LastSaid says (n ∷ m ∷ c) = LastSaid says (m ∷ c)

  -- a guide said that its place is not after the first value, if there is one
  abbrev pub FirstSaid : (X → Bool → Type 0) → Nodes X → Type 0
  FirstSaid says [] = Unit {0}
  FirstSaid says (n ∷ c) = says n.1.value false

  -- the place to which a guide leads is between a front and a back
  pub record LeadsBetween (says : X → Bool → Type 0) (front back : Nodes X) : Type 0 where
    pub low : LastSaid says front
    pub high : FirstSaid says back

  -- the node e came to p, in the place to which a guide leads
  pub record IsPutWhere (says : X → Bool → Type 0) (c : Nodes X) (p : Ptr) (e : Element X) (d : Nodes X) : Type 0 where
    pub front : Nodes X
    pub back : Nodes X
    pub was : c ≡ front ++ back
    pub is : d ≡ front ++ (p, e) ∷ back
    pub between : LeadsBetween says front back

  -- the first node behind the place to which a guide leads is at o
  pub record IsBoundWhere (says : X → Bool → Type 0) (c : Nodes X) (o : Option Ptr) : Type 0 where
    pub front : Nodes X
    pub back : Nodes X
    pub was : c ≡ front ++ back
    pub at : o ≡ first_spot back
    pub between : LeadsBetween says front back

  -- the node e came to p, before all values that are not less; the first of these, if there is one, is not equal
  pub record IsPutApart (by : (X → X → Ordering) → Type 0) (c : Nodes X) (p : Ptr) (e : Element X) (d : Nodes X)
      : Type 0 where
    pub put : IsPutWhere (SaysBeforeEquals by e.value) c p e d
    pub next : Option Ptr
    pub bound : IsBoundWhere (SaysBeforeEquals by e.value) c next
    pub differs : (q : Ptr) → next ≡ Some q → AnswersAt by e.value c q false

  -- the node e came to p, in the place of o, which is equal
  pub record IsPutOver (by : (X → X → Ordering) → Type 0) (c : Nodes X) (p : Ptr) (o e : Element X) (d : Nodes X)
      : Type 0 where
    pub spot : Ptr
    pub replaced : IsReplaced c spot o p e d
    pub equal : AnswersAt by e.value c spot true
