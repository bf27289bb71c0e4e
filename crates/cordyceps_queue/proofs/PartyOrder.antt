-- What every legal history says of producers and of the holder; and that of two swaps of the right at most one gets it.
use Rattle.std.proofs.Common.{◌≡◌, ◌⊎◌, List, [], ◌∷◌, ◌++◌, map, take, drop, reverse, length, Option, Some, None, refl, ap, sym, ◌∙◌, subst, inl, inr, append-nil, arith}
use Rattle.std.proofs.lemmas.List.{take-append-drop, take-map, drop-map, map-append}
use Rattle.std.proofs.Math.Seq.{take-append_seam, drop-append_seam}
use Rattle.cordyceps_queue.specs.History.{Event, Swap, Link, Take, Busy, Look, Out, Empty, Free, Ring, Clear, IsLegal, actor, comes, came, went, held, holder, is_take, is_free}
use Rattle.cordyceps_queue.specs.Laws.{first_if, sends_in, sent_by, takes_by, frees_by, HasRight, ProducersInOrder, OneHolder}
use Rattle.cordyceps_queue.specs.Past as past
use Rattle.cordyceps_queue.proofs.CoreTheory.Basics.{some_inj, none_some}
use Rattle.cordyceps_queue.proofs.BothWays.{legal_both_ways}
use Rattle.cordyceps_queue.proofs.HistoryEnds.{count-reverse}
use Rattle.cordyceps_queue.proofs.Legality.{one_same, one_other, front_legal, holder_of, turned_split}

first_append : {A E : Type 0} (d : Dec A) (e : E) (es fs : List E) → first_if d e (es ++ fs) ≡ first_if d e es ++ fs
first_append (yes a) e es fs = refl
first_append (no n) e es fs = refl

module _ {P E : Type 0} where
  map_sent : (p : P) (es : List E) → map (λ (s : P × E). s.1) (map (λ e. (p, e)) es) ≡ es
  map_sent p [] = refl
  map_sent p (e ∷ es) = ap (λ l. e ∷ l) (map_sent p es)

  came_sent : (h : List (Event P E)) → map (λ x. x.1) (sends_in h) ≡ came h
  came_sent [] = refl
  came_sent (x ∷ h) =
      map-append (λ s. s.1) (map (λ e. (actor x, e)) (comes x)) (sends_in h) ∙ ap (λ l. l ++ map (λ s. s.1) (sends_in h)) (map_sent (actor x) (comes x)) ∙ ap (λ l. comes x ++ l) (came_sent h)

module _ {P E : Type 0} (same : Discrete P) (q : P) where
  sent_by_append : (xs ys : List (P × E)) → sent_by same q (xs ++ ys) ≡ sent_by same q xs ++ sent_by same q ys
  sent_by_append [] ys = refl
  sent_by_append (x ∷ xs) ys =
      ap (first_if (same q x.0) x.1) (sent_by_append xs ys) ∙ first_append (same q x.0) x.1 (sent_by same q xs) (sent_by same q ys)

  -- the counts of the holder, and of any other party
  counted : (g : List (Event P E)) → past.IsLegalReversed g
      → (past.holder_reversed g ≡ Some q → HasRight same q g) × ((past.holder_reversed g ≡ Some q → ⊥) → frees_by same q g ≡ takes_by same q g)
  counted [] legal = ((λ e. absurd (none_some e)), λ n. refl)
  counted (Take p ∷ g) legal =
      let even = (counted g legal.1).1 (λ e. none_some (sym legal.0 ∙ e)) in (
        (λ e. let z = one_same (same q p) (sym (some_inj e)) in omega arith),
        λ n. let z = one_other (same q p) (λ e. n (ap Some (sym e))) in omega arith,
      )
  counted (Free p ∷ g) legal =
      let c = counted g legal.1 in (
        (λ e. absurd (none_some e)),
        λ n. elim (same q p) [
          | yes e ↦ let z = one_same (same q p) e in let r = c.0 (legal.0 ∙ ap Some (sym e)) in omega arith
          | no m ↦ let z = one_other (same q p) m in let r = c.1 (λ e. m (sym (some_inj (sym legal.0 ∙ e)))) in omega arith
        ],
      )
  counted (Swap p e ∷ g) legal = counted g legal.1
  counted (Link p ∷ g) legal = counted g legal.1
  counted (Busy p ∷ g) legal = counted g legal.1
  counted (Look p ∷ g) legal = counted g legal.1
  counted (Out p e ∷ g) legal = counted g legal.1
  counted (Empty p ∷ g) legal = counted g legal.1
  counted (Ring p ∷ g) legal = counted g legal.1
  counted (Clear p ∷ g) legal = counted g legal.1

module _ {P : Type 0} (same : Discrete P) where
  is_of : (o : Option P) (q : P) → (o ≡ Some q) ⊎ (o ≡ Some q → ⊥)
  is_of None q = inr (λ e. none_some e)
  is_of (Some p) q = elim (same q p) [ yes e ↦ inl (ap Some (sym e)) | no n ↦ inr (λ e. n (sym (some_inj e))) ]

-- what came out and then what is held is what was put in
pub nothing_lost : {P E : Type 0} (same : Discrete P) (h : List (Event P E)) → IsLegal same h → went h ++ held h ≡ came h
nothing_lost same h legal =
    let i = legal.in_order h [] (sym (append-nil h)) in
    ap (λ l. went h ++ l) (ap (drop (length (went h))) (sym i.1) ∙ drop-append_seam (went h) i.0) ∙ i.1

pub producers_in_order : (P E : Type 0) → ProducersInOrder P E
producers_in_order P E same h before later legal e =
    let n = length (went before) in
    let i = legal.in_order before later e in
    let all = take-append-drop n (sends_in before) in record {
      left = take n (sends_in before);
      rest = drop n (sends_in before);
      gone = sym (take-map (λ x. x.1) n (sends_in before)) ∙ ap (take n) (came_sent before ∙ sym i.1) ∙ take-append_seam (went before) i.0;
      kept = sym (drop-map (λ x. x.1) n (sends_in before)) ∙ ap (drop n) (came_sent before);
      all = all;
      each = λ q. sym (sent_by_append same q (take n (sends_in before)) (drop n (sends_in before))) ∙ ap (sent_by same q) all;
    }

pub one_holder : (P E : Type 0) → OneHolder P E
one_holder P E same h before later legal e =
    let back = subst (λ g. past.IsLegalReversed g) (turned_split h before later e) ((legal_both_ways P E same h).0 legal) in
    let l = front_legal (reverse later) (reverse before) back in record {
      counts = λ q. counts l q;
      holds = λ q. ((λ r. held_by l q r), λ is. has l q is);
      one = λ p q a b. some_inj (sym (held_by l p a) ∙ held_by l q b);
    }
  where
    has : past.IsLegalReversed (reverse before) → (q : P) → holder before ≡ Some q → HasRight same q before
    has l q is =
        let r = (counted same q (reverse before) l).0 (sym (holder_of before) ∙ is) in
        omega (arith, count-reverse same is_take q before, count-reverse same is_free q before)

    even : past.IsLegalReversed (reverse before) → (q : P) → (holder before ≡ Some q → ⊥) → frees_by same q before ≡ takes_by same q before
    even l q no_right =
        let r = (counted same q (reverse before) l).1 (λ is. no_right (holder_of before ∙ is)) in
        omega (arith, count-reverse same is_take q before, count-reverse same is_free q before)

    counts : past.IsLegalReversed (reverse before) → (q : P) → HasRight same q before ⊎ (frees_by same q before ≡ takes_by same q before)
    counts l q = elim (is_of same (holder before) q) [ inl is ↦ inl (has l q is) | inr no_right ↦ inr (even l q no_right) ]

    held_by : past.IsLegalReversed (reverse before) → (q : P) → HasRight same q before → holder before ≡ Some q
    held_by l q r = elim (is_of same (holder before) q) [ inl is ↦ is | inr no_right ↦ (let z = even l q no_right in absurd (omega arith)) ]
