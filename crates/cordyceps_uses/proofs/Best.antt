-- A walk from spot to spot that keeps the best node so far: the first of those with the least rank.
use Rattle.std.proofs.Common.{◌≡◌, ℕ, ◌<◌, ◌≤◌, Bool, true, false, nat_lt, [], ◌∷◌, ◌++◌, Option, Some, None, refl, sym, ap, ◌∙◌, subst, append_assoc, arith}
use Rattle.std.proofs.lemmas.Bool.{le-ltb, lt-ltb}
use Rattle.std.proofs.lemmas.List.Elements.{All-from_recursion}
use Rattle.std.specs.List.{AllByRecursion}
use denote.RawPtr.{Ptr}
use Rattle.cordyceps.specs.Elements.Element.{Element}
use Rattle.cordyceps.specs.Elements.Nodes.{Nodes, spots}
use Rattle.cordyceps.specs.Orders.Arrangement.{IsEarliestLeast}
use Rattle.cordyceps.specs.Spots.BySpot.{HasSpot, HoldsAt, IsTaken, IsFirst}
use Rattle.cordyceps.specs.Spots.Spots.{AreDistinct}
use Rattle.cordyceps.specs.Spots.Walk.{IsOn}
use Rattle.cordyceps.proofs.Spots.Classes.{all_append, all_weaker}
use Rattle.cordyceps.proofs.Spots.Holding.{spot_is_at, unique}

module _ {X : Type 0} (rank : X → ℕ) where
  abbrev pub AllAbove : ℕ → Nodes X → Type 0
  AllAbove r s = AllByRecursion (λ n. r < rank n.1.value) s

  abbrev pub NoneBelow : ℕ → Nodes X → Type 0
  NoneBelow r s = AllByRecursion (λ n. r ≤ rank n.1.value) s

  -- the spot of the first node
  abbrev pub first_spot : Nodes X → Option Ptr
  first_spot [] = None
  first_spot (n ∷ s) = Some n.0

  -- the node at `best` is the first of those with the least rank, of all before the place `at`
  pub record IsBest (c : Nodes X) (at : Option Ptr) (best : Ptr) : Type 0 where
    pub front : Nodes X
    pub found : Element X
    pub passed : Nodes X
    pub left : Nodes X
    pub parts : c ≡ front ++ (best, found) ∷ (passed ++ left)
    pub here : at ≡ first_spot left
    pub earliest : AllAbove (rank found.value) front
    pub least : NoneBelow (rank found.value) passed

  same_place : (c : Nodes X) → AreDistinct (spots c) → (b a d z : Nodes X) (p : Ptr) (e o : Element X) → c ≡ b ++ (p, e) ∷ a → c ≡ d ++ (p, o) ∷ z → (b ≡ d) × (e ≡ o) × (a ≡ z)
  same_place c distinct b a d z p e o is other = unique b a d z p e o (sym is ∙ other) (subst (λ s. AreDistinct (spots s)) is distinct)

  -- a cursor that is at p goes on
  pub on_from : (c d : Nodes X) (o r : Option Ptr) (p : Ptr) → d ≡ c → Some p ≡ o → IsOn d o r → IsOn c (Some p) r
  on_from c d o r p same at on = subst (λ (s : Nodes X × Option Ptr). IsOn s.0 s.1 r) (λ i. (same i, sym at i)) on

  -- from a node it goes on to the next
  goes_on : (c before after : Nodes X) (p : Ptr) (e : Element X) (r : Option Ptr) → AreDistinct (spots c) → c ≡ before ++ (p, e) ∷ after → IsOn c (Some p) r → r ≡ first_spot after
  goes_on c before after p e None distinct is (b, o, last) = ap first_spot (sym (same_place c distinct before after b [] p e o is last).2)
  goes_on c before after p e (Some q) distinct is (b, o, i, a, next) = ap first_spot (sym (same_place c distinct before after b ((q, i) ∷ a) p e o is next).2)

  held : (c b a : Nodes X) (p : Ptr) (e : Element X) (v : X) → AreDistinct (spots c) → c ≡ b ++ (p, e) ∷ a → HoldsAt c p v → rank e.value ≡ rank v
  held c b a p e v distinct is (d, i, z, holds) = ap (λ (x : Element X). rank x.value) (same_place c distinct b a d z p e (record { id = i; value = v }) is holds).1

  -- after the first node
  pub best_first : (c : Nodes X) (p : Ptr) (r : Option Ptr) → AreDistinct (spots c) → IsFirst c p → IsOn c (Some p) r → IsBest c r p
  best_first c p r distinct (e, after, is) on = record {
    front = [];
    found = e;
    passed = [];
    left = after;
    parts = is;
    here = goes_on c [] after p e r distinct is on;
    earliest = tt;
    least = tt;
  }

  -- where the place is, while the walk goes on
  abbrev There : Nodes X → Ptr → Ptr → (Nodes X) → Element X → Nodes X → Type 0
  There c p best front found passed = (here : Element X) × (after : Nodes X) × (c ≡ front ++ (best, found) ∷ (passed ++ (p, here) ∷ after))

  there : (c : Nodes X) (p best : Ptr) (b : IsBest c (Some p) best) → There c p best b.front b.found b.passed
  there c p best b = go b.left b.parts b.here where
    go : (left : Nodes X) → c ≡ b.front ++ (best, b.found) ∷ (b.passed ++ left) → Some p ≡ first_spot left → There c p best b.front b.found b.passed
    go [] is at = absurd cc
    go (n ∷ after) is at = let same : n.0 ≡ p = cc in (n.1, after, is ∙ ap (λ q. b.front ++ (best, b.found) ∷ (b.passed ++ (q, n.1) ∷ after)) same)

  before_it : (front passed after : Nodes X) (n m : Ptr × Element X) → front ++ n ∷ (passed ++ m ∷ after) ≡ (front ++ n ∷ passed) ++ m ∷ after
  before_it front passed after n m = sym (append_assoc front (n ∷ passed) (m ∷ after))

  -- one step on, from a node that is not better
  pub best_stays : (c : Nodes X) (p best : Ptr) (r : Option Ptr) (v w : X) → AreDistinct (spots c) → IsBest c (Some p) best → HoldsAt c p v → HoldsAt c best w → rank w ≤ rank v → IsOn c (Some p) r → IsBest c r best
  best_stays c p best r v w distinct b here kept worse on =
      let at = there c p best b in
      let whole = at.2 ∙ before_it b.front b.passed at.1 (best, b.found) (p, at.0) in
      let rank_here = held c (b.front ++ (best, b.found) ∷ b.passed) at.1 p at.0 v distinct whole here in
      let rank_best = held c b.front (b.passed ++ (p, at.0) ∷ at.1) best b.found w distinct at.2 kept in
      record {
        front = b.front;
        found = b.found;
        passed = b.passed ++ (p, at.0) ∷ [];
        left = at.1;
        parts = at.2 ∙ ap (λ s. b.front ++ (best, b.found) ∷ s) (sym (append_assoc b.passed ((p, at.0) ∷ []) at.1));
        here = goes_on c (b.front ++ (best, b.found) ∷ b.passed) at.1 p at.0 r distinct whole on;
        earliest = b.earliest;
        least = all_append (λ n. rank b.found.value ≤ rank n.1.value) b.passed ((p, at.0) ∷ []) b.least (omega (arith, rank_here, rank_best, worse), tt);
      }

  -- one step on, from a node that is better
  pub best_changes : (c : Nodes X) (p best : Ptr) (r : Option Ptr) (v w : X) → AreDistinct (spots c) → IsBest c (Some p) best → HoldsAt c p v → HoldsAt c best w → rank v < rank w → IsOn c (Some p) r → IsBest c r p
  best_changes c p best r v w distinct b here kept better on =
      let at = there c p best b in
      let whole = at.2 ∙ before_it b.front b.passed at.1 (best, b.found) (p, at.0) in
      let rank_here = held c (b.front ++ (best, b.found) ∷ b.passed) at.1 p at.0 v distinct whole here in
      let rank_best = held c b.front (b.passed ++ (p, at.0) ∷ at.1) best b.found w distinct at.2 kept in
      let less : rank at.0.value < rank b.found.value = omega (arith, rank_here, rank_best, better) in
      let above : (s : Nodes X) → AllAbove (rank b.found.value) s → AllAbove (rank at.0.value) s = λ s h. all_weaker (λ n. rank b.found.value < rank n.1.value) (λ n. rank at.0.value < rank n.1.value) (λ n k. omega (arith, less, k)) s h in
      let behind : (s : Nodes X) → NoneBelow (rank b.found.value) s → AllAbove (rank at.0.value) s = λ s h. all_weaker (λ n. rank b.found.value ≤ rank n.1.value) (λ n. rank at.0.value < rank n.1.value) (λ n k. omega (arith, less, k)) s h in
      record {
        front = b.front ++ (best, b.found) ∷ b.passed;
        found = at.0;
        passed = [];
        left = at.1;
        parts = whole;
        here = goes_on c (b.front ++ (best, b.found) ∷ b.passed) at.1 p at.0 r distinct whole on;
        earliest = all_append (λ n. rank at.0.value < rank n.1.value) b.front ((best, b.found) ∷ b.passed) (above b.front b.earliest) (less, behind b.passed b.least);
        least = tt;
      }

  -- at the end: what is taken out at the best spot is the first of those with the least rank
  abbrev pub lower : Ptr × Element X → Ptr × Element X → Bool
  lower x y = nat_lt (rank x.1.value) (rank y.1.value)

  none_left : (s : Nodes X) → None ≡ first_spot s → s ≡ []
  none_left [] is = refl
  none_left (n ∷ s) is = absurd cc

  pub best_taken : (c d : Nodes X) (best : Ptr) (e : Element X) → AreDistinct (spots c) → IsBest c None best → IsTaken c best e d → IsEarliestLeast lower c (best, e) d
  best_taken c d best e distinct b (front, back, is, rest) =
      let same = same_place c distinct b.front (b.passed ++ b.left) front back best b.found e b.parts is in
      let ended : b.passed ++ [] ≡ back = ap (λ s. b.passed ++ s) (sym (none_left b.left b.here)) ∙ same.2 in
      let r = rank b.found.value in
      let above = all_weaker (λ n. r < rank n.1.value) (λ n. nat_lt r (rank n.1.value) ≡ true) (λ n k. lt-ltb r (rank n.1.value) k) b.front b.earliest in
      let behind = all_append (λ n. nat_lt (rank n.1.value) r ≡ false) b.passed [] (all_weaker (λ n. r ≤ rank n.1.value) (λ n. nat_lt (rank n.1.value) r ≡ false) (λ n k. le-ltb (rank n.1.value) r k) b.passed b.least) tt in
      record {
        before = front;
        after = back;
        arrivals = is;
        others = rest;
        earliest = All-from_recursion (λ n. lower (best, e) n ≡ true) front (subst (λ (s : Element X × Nodes X). AllByRecursion (λ n. lower (best, s.0) n ≡ true) s.1) (λ i. (same.1 i, same.0 i)) above);
        least = All-from_recursion (λ n. lower n (best, e) ≡ false) back (subst (λ (s : Element X × Nodes X). AllByRecursion (λ n. lower n (best, s.0) ≡ false) s.1) (λ i. (same.1 i, ended i)) behind);
      }

  pub best_has : (c : Nodes X) (at : Option Ptr) (best : Ptr) → IsBest c at best → HasSpot c best
  best_has c at best b = spot_is_at c best b.found (b.front, b.passed ++ b.left, b.parts)

  pub here_has : (c : Nodes X) (p best : Ptr) → IsBest c (Some p) best → HasSpot c p
  here_has c p best b = let at = there c p best b in spot_is_at c p at.0 (b.front ++ (best, b.found) ∷ b.passed, at.1, at.2 ∙ before_it b.front b.passed at.1 (best, b.found) (p, at.0))
