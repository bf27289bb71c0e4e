-- Who sleeps after it cleared the bell and found nothing is owed a ring.
use Rattle.std.proofs.Common.{◌≡◌, ◌⊎◌, ◌+◌, List, [], ◌∷◌, ◌++◌, length, Bool, true, false, refl, sym, ap, ◌∙◌, subst, inl, inr, append_assoc, length-append, arith}
use Rattle.std.proofs.lemmas.List.Concat.{flat_map-append}
use Rattle.cordyceps_queue.specs.Bells.{rung_from, has_rung, IsQuiet, clears, OwesRing, HeldAreOwed}
use Rattle.cordyceps_queue.specs.History as told
use Rattle.cordyceps_queue.specs.History.{Event, Swap, Link, Take, Busy, Look, Out, Empty, Free, Ring, Clear, comes, goes, came, went, is_swap, is_link, is_ring, swaps_by, links_by, rings_by}
use Rattle.cordyceps_queue.specs.Laws.{NoneFoundIsOwed, BlockerIsOwing}
use Rattle.cordyceps_queue.proofs.HistoryEnds.{count-append}
use Rattle.cordyceps_queue.proofs.Legality.{one_other, legal_front}
use Rattle.cordyceps_queue.proofs.SharedTheory.BellWord.{rung_from-append}

-- the place of one item of a list, seen from that of another: before it, at it, or behind it
abbrev BesideOf : {X : Type 0} → List X → X → List X → List X → X → List X → Type 0
BesideOf {X} xs x ys us u vs = ((mid : List X) × (us ≡ xs ++ x ∷ mid)) ⊎ ((x ≡ u) ⊎ ((mid : List X) × (vs ≡ mid ++ x ∷ ys)))

beside : {X : Type 0} (xs : List X) (x : X) (ys us : List X) (u : X) (vs : List X) → xs ++ x ∷ ys ≡ us ++ u ∷ vs → BesideOf xs x ys us u vs
beside [] x ys [] u vs e = inr (inl (cc))
beside [] x ys (w ∷ us) u vs e =
    let first : w ≡ x = cc in
    inl (us, ap (λ z. z ∷ us) first)
beside (w ∷ xs) x ys [] u vs e =
    let tail : vs ≡ xs ++ x ∷ ys = cc in
    inr (inr (xs, tail))
beside (w ∷ xs) x ys (v ∷ us) u vs e =
    let first : v ≡ w = cc in
    let tail : xs ++ x ∷ ys ≡ us ++ u ∷ vs = cc in
    elim (beside xs x ys us u vs tail) [
      | inl b ↦ inl (b.0, λ i. first i ∷ b.1 i)
      | inr b ↦ inr b
    ]

module _ {P E : Type 0} where
  pub clears-append : (h t : List (Event P E)) → clears (h ++ t) ≡ clears h + clears t
  clears-append [] t = omega arith
  clears-append (x ∷ h) t = let r = clears-append h t in omega arith

module _ {P E : Type 0} (same : Discrete P) where
  -- where nobody cleared the bell and it is quiet, it was quiet before, and nobody has rung
  silent_after : (q : P) (b : Bool) (h : List (Event P E)) → clears h ≡ 0 → rung_from b h ≡ false → (b ≡ false) × (rings_by same q h ≡ 0)
  silent_after q b [] none quiet = (quiet, refl)
  silent_after q b (Swap p e ∷ h) none quiet = silent_after q b h (omega arith) quiet
  silent_after q b (Link p ∷ h) none quiet = silent_after q b h (omega arith) quiet
  silent_after q b (Take p ∷ h) none quiet = silent_after q b h (omega arith) quiet
  silent_after q b (Busy p ∷ h) none quiet = silent_after q b h (omega arith) quiet
  silent_after q b (Look p ∷ h) none quiet = silent_after q b h (omega arith) quiet
  silent_after q b (Out p e ∷ h) none quiet = silent_after q b h (omega arith) quiet
  silent_after q b (Empty p ∷ h) none quiet = silent_after q b h (omega arith) quiet
  silent_after q b (Free p ∷ h) none quiet = silent_after q b h (omega arith) quiet
  silent_after q b (Ring p ∷ h) none quiet = let no : true ≡ false = (silent_after q true h (omega arith) quiet).0 in absurd (cc)
  silent_after q b (Clear p ∷ h) none quiet = absurd (omega arith)

  silent : (q : P) (h past later : List (Event P E)) → h ≡ past ++ later → clears later ≡ 0 → IsQuiet h → rings_by same q later ≡ 0
  silent q h past later is none quiet = (silent_after q (has_rung past) later none (sym (rung_from-append false past later) ∙ (ap has_rung (sym is) ∙ quiet))).1

  pub none_found : (h past later : List (Event P E)) (q : P) → told.IsLegal same h → h ≡ past ++ Empty q ∷ later → clears later ≡ 0 → IsQuiet h → HeldAreOwed same h
  none_found h past later q legal is none quiet before after p e at there = elim (beside before (Swap p e) after past (Empty q) later (sym at ∙ is)) [
    | inl b ↦
        let empty = (legal.turns past later (Empty q) is).1 in
        let gone = ap went is ∙ flat_map-append goes past (Empty q ∷ later) in
        let put = ap came b.1 ∙ flat_map-append comes before (Swap p e ∷ b.0) in
        absurd (omega (arith, ap length empty, ap length gone, ap length put, length-append (went past) (went (Empty q ∷ later)), length-append (came before) (came (Swap p e ∷ b.0))))
    | inr b ↦ elim b [
      | inl both ↦ absurd (cc)
      | inr c ↦ record {
        past = before;
        element = e;
        later = after;
        is = at;
        silent = silent p h (before ++ Swap p e ∷ []) after (at ∙ sym (append_assoc before (Swap p e ∷ []) after))
            (omega (arith, ap clears c.1, clears-append c.0 (Swap p e ∷ after))) quiet;
      }
    ]
  ]

  -- a party that has rung: where
  abbrev RingIn : P → List (Event P E) → Type 0
  RingIn q h = (rings_by same q h ≡ 0) ⊎ ((front back : List (Event P E)) × (h ≡ front ++ Ring q ∷ back))

  ring_later : (q : P) (x : Event P E) (h : List (Event P E)) → (rings_by same q h ≡ 0 → rings_by same q (x ∷ h) ≡ 0) → RingIn q h → RingIn q (x ∷ h)
  ring_later q x h none (inl n) = inl (none n)
  ring_later q x h none (inr r) = inr (x ∷ r.0, r.1, ap (λ l. x ∷ l) r.2)

  ring_in : (q : P) (h : List (Event P E)) → RingIn q h
  ring_in q [] = inl refl
  ring_in q (Swap p e ∷ h) = ring_later q (Swap p e) h (λ n. n) (ring_in q h)
  ring_in q (Link p ∷ h) = ring_later q (Link p) h (λ n. n) (ring_in q h)
  ring_in q (Take p ∷ h) = ring_later q (Take p) h (λ n. n) (ring_in q h)
  ring_in q (Busy p ∷ h) = ring_later q (Busy p) h (λ n. n) (ring_in q h)
  ring_in q (Look p ∷ h) = ring_later q (Look p) h (λ n. n) (ring_in q h)
  ring_in q (Out p e ∷ h) = ring_later q (Out p e) h (λ n. n) (ring_in q h)
  ring_in q (Empty p ∷ h) = ring_later q (Empty p) h (λ n. n) (ring_in q h)
  ring_in q (Free p ∷ h) = ring_later q (Free p) h (λ n. n) (ring_in q h)
  ring_in q (Clear p ∷ h) = ring_later q (Clear p) h (λ n. n) (ring_in q h)
  ring_in q (Ring p ∷ h) = elim (same q p) [
    | yes e ↦ inr ([], h, ap (λ r. Ring r ∷ h) (sym e))
    | no n ↦ ring_later q (Ring p) h (λ none. let z = one_other (same q p) n in omega arith) (ring_in q h)
  ]

  -- a pending party has not rung since its last swap
  unrung : (h : List (Event P E)) → told.IsLegal same h → (b : told.IsBlocked same h) → rings_by same b.by b.later ≡ 0
  unrung h legal b = elim (ring_in b.by b.later) [
    | inl none ↦ none
    | inr r ↦
        let q = b.by in
        let (front, back, later) = r in
        let begun = b.past ++ Swap q b.element ∷ front in
        let is : h ≡ begun ++ Ring q ∷ back = b.is ∙ (ap (λ l. b.past ++ Swap q b.element ∷ l) later ∙ sym (append_assoc b.past (Swap q b.element ∷ front) (Ring q ∷ back))) in
        let even = legal.rings begun back q is in
        let links = ap (links_by same q) is ∙ count-append same is_link q begun (Ring q ∷ back) in
        let swaps = ap (swaps_by same q) is ∙ count-append same is_swap q begun (Ring q ∷ back) in
        let last = b.last in
        let rest = ap (swaps_by same q) later ∙ count-append same is_swap q front (Ring q ∷ back) in
        let pending = b.pending in
        absurd (omega arith)
  ]

  pub blocker_owes : (h past later : List (Event P E)) → told.IsLegal same h → h ≡ past ++ later → (b : told.IsBlocked same past) → clears later ≡ 0 → IsQuiet h → OwesRing same b.by h
  blocker_owes h past later legal is b none quiet =
      let q = b.by in
      let was = unrung past (legal_front same past later (subst (told.IsLegal same) is legal)) b in
      let since_then = silent q h past later is none quiet in record {
        past = b.past;
        element = b.element;
        later = b.later ++ later;
        is = is ∙ (ap (λ l. l ++ later) b.is ∙ append_assoc b.past (Swap q b.element ∷ b.later) later);
        silent = omega (arith, count-append same is_ring q b.later later);
      }

pub none_found_is_owed : (P E : Type 0) → NoneFoundIsOwed P E
none_found_is_owed P E same h past later q = none_found same h past later q

pub blocker_is_owing : (P E : Type 0) → BlockerIsOwing P E
blocker_is_owing P E same h past later = blocker_owes same h past later
