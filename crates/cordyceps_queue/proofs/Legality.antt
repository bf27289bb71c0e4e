-- Legal and blocked histories are the same, read from either end.
use Rattle.std.proofs.Common.{◌≡◌, ◌≢◌, ℕ, suc, ◌+◌, ◌⊎◌, List, [], ◌∷◌, ◌++◌, length, reverse, drop, refl, ap, sym, ◌∙◌, subst, inl, inr, append_assoc, append-nil, length-append, arith}
use Rattle.std.proofs.lemmas.List.{reverse-append, reverse-reverse, append_cancel_left}
use Rattle.std.proofs.lemmas.List.Concat.{flat_map-append}
use Rattle.std.proofs.Math.Seq.{drop-append_seam}
use Rattle.cordyceps_queue.specs.History as told
use Rattle.cordyceps_queue.specs.History.{Event, Swap, Link, Take, Busy, Look, Out, Empty, Free, Ring, Clear, comes, goes, is_swap, is_link, one_if_dec, swaps_by, links_by, IsPending, MayFollow}
use Rattle.cordyceps_queue.specs.Past as past
use Rattle.cordyceps_queue.specs.Past.{IsSettled, IsOpen, IsPendingAt, HasLooked, MayCome}
use Rattle.cordyceps_queue.proofs.HistoryEnds.{reverse-cons, came-reverse, went-reverse, holder-reverse, count-append, count-reverse, in_order}

pub one_same : {A : Type 0} (d : Dec A) → A → one_if_dec d ≡ 1
one_same (yes a) x = refl
one_same (no n) x = absurd (n x)

pub one_other : {A : Type 0} (d : Dec A) → (A → ⊥) → one_if_dec d ≡ 0
one_other (yes a) n = absurd (n a)
one_other (no m) n = refl

-- no event more by the party
pub not_by : {P : Type 0} (same : Discrete P) (q p : P) (n : ℕ) → one_if_dec (same q p) + n ≡ 0 → q ≢ p
not_by same q p n e s = let z = one_same (same q p) s in omega arith

module _ {P E : Type 0} where
  -- a prefix of a legal history is legal
  pub front_legal : (later before : List (Event P E)) → past.IsLegalReversed (later ++ before) → past.IsLegalReversed before
  front_legal [] before legal = legal
  front_legal (x ∷ later) before legal = front_legal later before legal.1

  pub came_of : (h : List (Event P E)) → told.came h ≡ past.came_reversed (reverse h)
  came_of h = ap told.came (sym (reverse-reverse h)) ∙ came-reverse (reverse h)

  pub went_of : (h : List (Event P E)) → told.went h ≡ past.went_reversed (reverse h)
  went_of h = ap told.went (sym (reverse-reverse h)) ∙ went-reverse (reverse h)

  pub holder_of : (h : List (Event P E)) → told.holder h ≡ past.holder_reversed (reverse h)
  holder_of h = ap told.holder (sym (reverse-reverse h)) ∙ holder-reverse (reverse h)

  whole : (h : List (Event P E)) → past.IsLegalReversed (reverse h) → told.went h ++ past.held_reversed (reverse h) ≡ told.came h
  whole h legal = ap (λ l. l ++ past.held_reversed (reverse h)) (went_of h) ∙ in_order P E (reverse h) legal ∙ sym (came_of h)

  pub held_of : (h : List (Event P E)) → past.IsLegalReversed (reverse h) → told.held h ≡ past.held_reversed (reverse h)
  held_of h legal = ap (drop (length (told.went h))) (sym (whole h legal)) ∙ drop-append_seam (told.went h) (past.held_reversed (reverse h))

  follows_of : (h : List (Event P E)) (x : Event P E) → past.IsLegalReversed (reverse h) → MayCome x (reverse h) → MayFollow h x
  follows_of h (Swap p e) legal may = tt
  follows_of h (Link p) legal may = tt
  follows_of h (Take p) legal may = holder_of h ∙ may
  follows_of h (Busy p) legal may = let (by, held, other) = may in (by, holder_of h ∙ held, other)
  follows_of h (Look p) legal may = holder_of h ∙ may
  follows_of h (Out p e) legal may = holder_of h ∙ may.0
  follows_of h (Empty p) legal may = (holder_of h ∙ may.0, sym (append-nil (told.went h)) ∙ ap (λ l. told.went h ++ l) (sym may.1) ∙ whole h legal)
  follows_of h (Free p) legal may = holder_of h ∙ may
  follows_of h (Ring p) legal may = tt
  follows_of h (Clear p) legal may = tt

  pub turned_split : (h before later : List (Event P E)) → h ≡ before ++ later → reverse h ≡ reverse later ++ reverse before
  turned_split h before later e = ap reverse e ∙ reverse-append before later

  pub turned_at : (h before later : List (Event P E)) (x : Event P E) → h ≡ before ++ x ∷ later → reverse h ≡ reverse later ++ x ∷ reverse before
  turned_at h before later x e =
      turned_split h before (x ∷ later) e ∙ ap (λ l. l ++ reverse before) (reverse-cons x later) ∙ append_assoc (reverse later) (x ∷ []) (reverse before)

module _ {P E : Type 0} (same : Discrete P) where
  counts_link : (h : List (Event P E)) (p q : P) → (IsOpen p h) → (IsOpen q h → suc (links_by same q h) ≡ swaps_by same q h) → q ≡ p → one_if_dec (same q p) + links_by same q h ≡ swaps_by same q h
  counts_link h p q unlinked c e = let z = one_same (same q p) e in let r = c (subst (λ x. IsOpen x h) (sym e) unlinked) in omega arith

  -- the counts of a settled party, and of one with an unlinked swap
  pub counts : (h : List (Event P E)) → past.IsLegalReversed h → (q : P) → (IsSettled q h → links_by same q h ≡ swaps_by same q h) × (IsOpen q h → suc (links_by same q h) ≡ swaps_by same q h)
  counts [] legal q = ((λ s. refl), (λ w. absurd w))
  counts (Swap p e ∷ h) legal q =
      let c = counts h legal.1 q in (
        (λ s. let z = one_other (same q p) s.0 in let r = c.0 s.1 in omega arith),
        (λ w. elim w [
          | inl v ↦ let z = one_same (same q p) v in let r = c.0 (subst (λ x. IsSettled x h) (sym v) legal.0) in omega arith
          | inr v ↦ let z = one_other (same q p) v.0 in let r = c.1 v.1 in omega arith
        ]),
      )
  counts (Link p ∷ h) legal q =
      let c = counts h legal.1 q in (
        (λ s. elim s [
          | inl e ↦ counts_link h p q legal.0 c.1 e
          | inr t ↦ elim (same q p) [ yes e ↦ counts_link h p q legal.0 c.1 e | no n ↦ let z = one_other (same q p) n in let r = c.0 t in omega arith ]
        ]),
        (λ w. let z = one_other (same q p) w.0 in let r = c.1 w.1 in omega arith),
      )
  counts (Take p ∷ h) legal q = counts h legal.1 q
  counts (Busy p ∷ h) legal q = counts h legal.1 q
  counts (Look p ∷ h) legal q = counts h legal.1 q
  counts (Out p e ∷ h) legal q = counts h legal.1 q
  counts (Empty p ∷ h) legal q = counts h legal.1 q
  counts (Free p ∷ h) legal q = counts h legal.1 q
  counts (Ring p ∷ h) legal q = counts h legal.1 q
  counts (Clear p ∷ h) legal q = counts h legal.1 q

  pub settled_or_open : (h : List (Event P E)) (q : P) → IsSettled q h ⊎ IsOpen q h
  settled_or_open [] q = inl tt
  settled_or_open (Swap p e ∷ h) q = elim (same q p) [
    | yes s ↦ inr (inl s)
    | no n ↦ elim (settled_or_open h q) [ inl a ↦ inl (n, a) | inr b ↦ inr (inr (n, b)) ]
  ]
  settled_or_open (Link p ∷ h) q = elim (same q p) [
    | yes s ↦ inl (inl s)
    | no n ↦ elim (settled_or_open h q) [ inl a ↦ inl (inr a) | inr b ↦ inr (n, b) ]
  ]
  settled_or_open (Take p ∷ h) q = settled_or_open h q
  settled_or_open (Busy p ∷ h) q = settled_or_open h q
  settled_or_open (Look p ∷ h) q = settled_or_open h q
  settled_or_open (Out p e ∷ h) q = settled_or_open h q
  settled_or_open (Empty p ∷ h) q = settled_or_open h q
  settled_or_open (Free p ∷ h) q = settled_or_open h q
  settled_or_open (Ring p ∷ h) q = settled_or_open h q
  settled_or_open (Clear p ∷ h) q = settled_or_open h q

  -- as many links as swaps, or one fewer
  even_or_one : (h : List (Event P E)) → past.IsLegalReversed (reverse h) → (q : P) → (links_by same q h ≡ swaps_by same q h) ⊎ IsPending same q h
  even_or_one h legal q =
      let l : links_by same q (reverse h) ≡ links_by same q h = count-reverse same is_link q h in
      let s : swaps_by same q (reverse h) ≡ swaps_by same q h = count-reverse same is_swap q h in
      elim (settled_or_open (reverse h) q) [
        | inl a ↦ inl (sym l ∙ (counts (reverse h) legal q).0 a ∙ s)
        | inr b ↦ inr (ap suc (sym l) ∙ (counts (reverse h) legal q).1 b ∙ s)
      ]

  pub told_legal : (h : List (Event P E)) → past.IsLegalReversed (reverse h) → told.IsLegal same h
  told_legal h legal = record {
    in_order = λ before later e. (past.held_reversed (reverse before), whole before (front_of before later e));
    links = λ before later e. even_or_one before (front_of before later e);
    turns = λ before later x e.
        let l : past.IsLegalReversed (x ∷ reverse before) = front_legal (reverse later) (x ∷ reverse before) (subst past.IsLegalReversed (turned_at h before later x e) legal) in
        follows_of before x l.1 l.0;
    rings = λ before later p e.
        let l : past.IsLegalReversed (Ring p ∷ reverse before) = front_legal (reverse later) (Ring p ∷ reverse before) (subst past.IsLegalReversed (turned_at h before later (Ring p) e) legal) in
        sym (count-reverse same is_link p before) ∙ ((counts (reverse before) l.1 p).0 l.0 ∙ count-reverse same is_swap p before);
  }
    where
      front_of : (before later : List (Event P E)) → h ≡ before ++ later → past.IsLegalReversed (reverse before)
      front_of before later e = front_legal (reverse later) (reverse before) (subst past.IsLegalReversed (turned_split h before later e) legal)

  pub legal_front : (h t : List (Event P E)) → told.IsLegal same (h ++ t) → told.IsLegal same h
  legal_front h t L = record {
    in_order = λ before later e. L.in_order before (later ++ t) (ap (λ l. l ++ t) e ∙ append_assoc before later t);
    links = λ before later e. L.links before (later ++ t) (ap (λ l. l ++ t) e ∙ append_assoc before later t);
    turns = λ before later x e. L.turns before (later ++ t) x (ap (λ l. l ++ t) e ∙ append_assoc before (x ∷ later) t);
    rings = λ before later p e. L.rings before (later ++ t) p (ap (λ l. l ++ t) e ∙ append_assoc before (Ring p ∷ later) t);
  }

  -- the counts of both, with and without the newest event
  module _ (g : List (Event P E)) (legal : past.IsLegalReversed g) (x : Event P E) (L : told.IsLegal same (reverse g ++ x ∷ [])) where
    links_with : (q : P) → (links_by same q g + links_by same q (x ∷ []) ≡ swaps_by same q g + swaps_by same q (x ∷ [])) ⊎ (suc (links_by same q g + links_by same q (x ∷ [])) ≡ swaps_by same q g + swaps_by same q (x ∷ []))
    links_with q =
        let l : links_by same q (reverse g ++ x ∷ []) ≡ links_by same q g + links_by same q (x ∷ []) = count-append same is_link q (reverse g) (x ∷ []) ∙ ap (λ n. n + links_by same q (x ∷ [])) (count-reverse same is_link q g) in
        let s : swaps_by same q (reverse g ++ x ∷ []) ≡ swaps_by same q g + swaps_by same q (x ∷ []) = count-append same is_swap q (reverse g) (x ∷ []) ∙ ap (λ n. n + swaps_by same q (x ∷ [])) (count-reverse same is_swap q g) in
        elim (L.links (reverse g ++ x ∷ []) [] (sym (append-nil (reverse g ++ x ∷ []))) q) [
          | inl a ↦ inl (sym l ∙ a ∙ s)
          | inr b ↦ inr (ap suc (sym l) ∙ b ∙ s)
        ]

    may : MayFollow (reverse g) x
    may = L.turns (reverse g) [] x refl

    held_by : told.holder (reverse g) ≡ past.holder_reversed g
    held_by = holder-reverse g

  came_next : (g : List (Event P E)) → past.IsLegalReversed g → (x : Event P E) → told.IsLegal same (reverse g ++ x ∷ []) → MayCome x g
  came_next g legal (Swap p e) L = elim (settled_or_open g p) [
    | inl a ↦ a
    | inr b ↦ let z = one_same (same p p) refl in let c = (counts g legal p).1 b in elim (links_with g legal (Swap p e) L p) [ inl u ↦ absurd (omega arith) | inr u ↦ absurd (omega arith) ]
  ]
  came_next g legal (Link p) L = elim (settled_or_open g p) [
    | inl a ↦ let z = one_same (same p p) refl in let c = (counts g legal p).0 a in elim (links_with g legal (Link p) L p) [ inl u ↦ absurd (omega arith) | inr u ↦ absurd (omega arith) ]
    | inr b ↦ b
  ]
  came_next g legal (Take p) L = sym (held_by g legal (Take p) L) ∙ may g legal (Take p) L
  came_next g legal (Busy p) L = let (by, held, other) = may g legal (Busy p) L in (by, sym (held_by g legal (Busy p) L) ∙ held, other)
  came_next g legal (Look p) L = sym (held_by g legal (Look p) L) ∙ may g legal (Look p) L
  came_next g legal (Out p e) L =
      let w = L.in_order (reverse g ++ Out p e ∷ []) [] (sym (append-nil (reverse g ++ Out p e ∷ []))) in
      let out : told.went (reverse g ++ Out p e ∷ []) ≡ past.went_reversed g ++ e ∷ [] = flat_map-append goes (reverse g) (Out p e ∷ []) ∙ ap (λ l. l ++ e ∷ []) (went-reverse g) in
      let all : told.came (reverse g ++ Out p e ∷ []) ≡ past.came_reversed g = flat_map-append comes (reverse g) (Out p e ∷ []) ∙ append-nil (told.came (reverse g)) ∙ came-reverse g in
      let both : past.went_reversed g ++ past.held_reversed g ≡ past.went_reversed g ++ e ∷ w.0 = in_order P E g legal ∙ sym all ∙ sym w.1 ∙ ap (λ l. l ++ w.0) out ∙ append_assoc (past.went_reversed g) (e ∷ []) w.0 in
      (sym (held_by g legal (Out p e) L) ∙ may g legal (Out p e) L, w.0, append_cancel_left (past.went_reversed g) (past.held_reversed g) (e ∷ w.0) both)
  came_next g legal (Empty p) L =
      let m = may g legal (Empty p) L in
      let both : past.went_reversed g ++ past.held_reversed g ≡ past.went_reversed g ++ [] = in_order P E g legal ∙ sym (came-reverse g) ∙ sym m.1 ∙ went-reverse g ∙ sym (append-nil (past.went_reversed g)) in
      (sym (held_by g legal (Empty p) L) ∙ m.0, append_cancel_left (past.went_reversed g) (past.held_reversed g) [] both)
  came_next g legal (Free p) L = sym (held_by g legal (Free p) L) ∙ may g legal (Free p) L
  came_next g legal (Ring p) L = elim (settled_or_open g p) [
    | inl a ↦ a
    | inr b ↦
        let even : links_by same p g ≡ swaps_by same p g = sym (count-reverse same is_link p g) ∙ (L.rings (reverse g) [] p refl ∙ count-reverse same is_swap p g) in
        let c = (counts g legal p).1 b in absurd (omega arith)
  ]
  came_next g legal (Clear p) L = tt

  pub past_legal : (g : List (Event P E)) → told.IsLegal same (reverse g) → past.IsLegalReversed g
  past_legal [] L = tt
  past_legal (x ∷ g) L =
      let L' : told.IsLegal same (reverse g ++ x ∷ []) = subst (told.IsLegal same) (reverse-cons x g) L in
      let legal = past_legal g (legal_front (reverse g) (x ∷ []) L') in
      (came_next g legal x L', legal)

-- where a pending party's last swap is
pub record Stood {P E : Type 0} (same : Discrete P) (q : P) (n : ℕ) (h : List (Event P E)) : Type 0 where
  pub later : List (Event P E)
  pub element : E
  pub before : List (Event P E)
  pub is : h ≡ later ++ Swap q element ∷ before
  pub last : swaps_by same q later ≡ 0
  pub there : length (past.came_reversed before) ≡ length (past.went_reversed h) + n

module _ {P E : Type 0} (same : Discrete P) where
  -- one event more that is no swap by the party and no element out
  stood_on : (q : P) (n k : ℕ) (x : Event P E) (h : List (Event P E)) → ((l : List (Event P E)) → swaps_by same q l ≡ 0 → swaps_by same q (x ∷ l) ≡ 0) → length (past.went_reversed h) + k ≡ length (past.went_reversed (x ∷ h)) + n → Stood same q k h → Stood same q n (x ∷ h)
  stood_on q n k x h on e S = record { later = x ∷ S.later; element = S.element; before = S.before; is = ap (λ l. x ∷ l) S.is; last = on S.later S.last; there = S.there ∙ e }

  pub stood : (h : List (Event P E)) → past.IsLegalReversed h → (q : P) (n : ℕ) → IsPendingAt q n h → Stood same q n h
  stood [] legal q n w = absurd w
  stood (Swap p e ∷ h) legal q n (inl w) = record {
    later = [];
    element = e;
    before = h;
    is = ap (λ r. Swap r e ∷ h) (sym w.0);
    last = refl;
    there = let o = in_order P E h legal.1 in omega (arith, ap length o, length-append (past.went_reversed h) (past.held_reversed h), w.1);
  }
  stood (Swap p e ∷ h) legal q n (inr w) = stood_on q n n (Swap p e) h (λ l s. let z = one_other (same q p) w.0 in omega arith) refl (stood h legal.1 q n w.1)
  stood (Link p ∷ h) legal q n w = stood_on q n n (Link p) h (λ l s. s) refl (stood h legal.1 q n w.1)
  stood (Take p ∷ h) legal q n w = stood_on q n n (Take p) h (λ l s. s) refl (stood h legal.1 q n w)
  stood (Busy p ∷ h) legal q n w = stood_on q n n (Busy p) h (λ l s. s) refl (stood h legal.1 q n w)
  stood (Look p ∷ h) legal q n w = stood_on q n n (Look p) h (λ l s. s) refl (stood h legal.1 q n w)
  stood (Out p e ∷ h) legal q n w = stood_on q n (suc n) (Out p e) h (λ l s. s) (omega (arith, length-append (past.went_reversed h) (e ∷ []))) (stood h legal.1 q (suc n) w)
  stood (Empty p ∷ h) legal q n w = stood_on q n n (Empty p) h (λ l s. s) refl (stood h legal.1 q n w)
  stood (Free p ∷ h) legal q n w = stood_on q n n (Free p) h (λ l s. s) refl (stood h legal.1 q n w)
  stood (Ring p ∷ h) legal q n w = stood_on q n n (Ring p) h (λ l s. s) refl (stood h legal.1 q n w)
  stood (Clear p ∷ h) legal q n w = stood_on q n n (Clear p) h (λ l s. s) refl (stood h legal.1 q n w)

  -- what is there is pending
  pub stands : (l before : List (Event P E)) (q : P) (e : E) (n : ℕ) → past.IsLegalReversed (l ++ Swap q e ∷ before) → IsOpen q (l ++ Swap q e ∷ before) → swaps_by same q l ≡ 0 → length (past.came_reversed before) ≡ length (past.went_reversed (l ++ Swap q e ∷ before)) + n → IsPendingAt q n (l ++ Swap q e ∷ before)
  stands [] before q e n legal unlinked none there = inl (refl, omega (arith, ap length (in_order P E before legal.1), length-append (past.went_reversed before) (past.held_reversed before)))
  stands (Swap p x ∷ l) before q e n legal unlinked none there =
      let ne = not_by same q p (swaps_by same q l) none in
      let z = one_other (same q p) ne in
      elim unlinked [ inl s ↦ absurd (ne s) | inr o ↦ inr (ne, stands l before q e n legal.1 o.1 (omega arith) there) ]
  stands (Link p ∷ l) before q e n legal unlinked none there = (unlinked.0, stands l before q e n legal.1 unlinked.1 none there)
  stands (Take p ∷ l) before q e n legal unlinked none there = stands l before q e n legal.1 unlinked none there
  stands (Busy p ∷ l) before q e n legal unlinked none there = stands l before q e n legal.1 unlinked none there
  stands (Look p ∷ l) before q e n legal unlinked none there = stands l before q e n legal.1 unlinked none there
  stands (Out p x ∷ l) before q e n legal unlinked none there =
      stands l before q e (suc n) legal.1 unlinked none (omega (arith, there, length-append (past.went_reversed (l ++ Swap q e ∷ before)) (x ∷ [])))
  stands (Empty p ∷ l) before q e n legal unlinked none there = stands l before q e n legal.1 unlinked none there
  stands (Free p ∷ l) before q e n legal unlinked none there = stands l before q e n legal.1 unlinked none there
  stands (Ring p ∷ l) before q e n legal unlinked none there = stands l before q e n legal.1 unlinked none there
  stands (Clear p ∷ l) before q e n legal unlinked none there = stands l before q e n legal.1 unlinked none there
