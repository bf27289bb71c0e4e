-- Each timer of a wheel stays in the slot of its deadline.
use Rattle.std.proofs.Common.{◌≡◌, ◌≢◌, ℕ, zero, suc, ◌+◌, ◌/◌, ◌%◌, ◌<◌, ◌≤◌, eqb, eq-eqb, true, false, List, [], ◌∷◌, ◌++◌, length, get_or, replicate, set, slice_get, Some, refl, ap, sym, ◌∙◌, subst, arith, ◌⊎◌, inl, inr}
use Rattle.std.proofs.Math.Nat.{div-add-mod, eq-or-lt_of_le, mul-le-mul_left, mul-suc}
use Rattle.std.proofs.lemmas.Bool.{cases_lt, eqb-true}
use Rattle.std.specs.List.{All}
use Rattle.std.proofs.lemmas.List.Elements.{All-map}
use Rattle.std.proofs.lemmas.List.{get_or_default, get_or_past, length-set, get_or-set_same, get_or-set_other}
use Rattle.std.proofs.lemmas.Nat.{mod_below}
use denote.RawPtr.{Ptr}
use Rattle.cordyceps.specs.Elements.Element.{Element}
use Rattle.cordyceps.specs.Elements.Nodes.{Nodes, elements, spots}
use Rattle.cordyceps.specs.Spots.Agreeing.{HasElementAt}
use Rattle.cordyceps.proofs.Spots.Holding.{spot_is_at}
use Rattle.cordyceps_uses.specs.declared.timer_wheel.Timer.{Timer}
use Rattle.cordyceps_uses.specs.TimerWheel.{Dial, dial, waiting, with_waiting, Ahead, IsGood, IsInPlace}

-- of the deadlines of one slot, one alone is in a turn
pub same_tick : (n t d : ℕ) → t ≤ d → d < t + n → d % n ≡ t % n → d ≡ t
same_tick n t d ahead within same =
    let of_t = div-add-mod t n in
    let of_d = div-add-mod d n in
    elim (cases_lt (t / n) (d / n)) as (λ _. d ≡ t) [
      | inl more ↦ let least = mul-le-mul_left n more in absurd (omega (arith, of_t, of_d, same, within, least, mul-suc n (t / n)))
      | inr less ↦ let most = mul-le-mul_left n less in omega (arith, of_t, of_d, same, ahead, most)
    ]

null : {X : Type 0} (q : Ptr) (e : Element X) → HasElementAt [] q e → ⊥
null q e ([], a, is) = cc
null q e (x ∷ b, a, is) = cc

each_same : {X : Type 0} (x : X) (n s : ℕ) → get_or (replicate n x) s x ≡ x
each_same x zero s = refl
each_same x (suc n) zero = refl
each_same x (suc n) (suc s) = each_same x n s

pub empty_in_place : {P : Type 0} (n t : ℕ) (slots : List (Nodes (Timer P))) → slots ≡ replicate n [] → IsInPlace (dial t slots)
empty_in_place n t slots is s q e lies = absurd (null q e (subst (λ l. HasElementAt l q e) (ap (λ l. get_or l s []) is ∙ each_same [] n s) lies))

module _ {P : Type 0} (w : Dial P) (some : 0 < length w.slots) (was : IsInPlace w) where
  -- others were put into the slot of d, each of which lay there or is due at d
  pub in_place : (d : ℕ) (c : Nodes (Timer P)) → ((q : Ptr) (e : Element (Timer P)) → HasElementAt c q e → HasElementAt (waiting d w) q e ⊎ ((e.id ≡ d) × Ahead d w)) → IsInPlace (with_waiting d c w)
  in_place d c from s q e lies = (elim (eqb s (d % length w.slots)) as (λ b. eqb s (d % length w.slots) ≡ b → (e.id % length (set w.slots (d % length w.slots) c) ≡ s) × Ahead e.id (with_waiting d c w)) [
    | true ↦ λ here. put (here_of here)
    | false ↦ λ unlike. other (λ is. absurd (differ unlike is))
  ]) refl where
    slot : ℕ
    slot = d % length w.slots

    long : length (set w.slots slot c) ≡ length w.slots
    long = length-set w.slots slot c

    here_of : eqb s slot ≡ true → s ≡ slot
    here_of here = eqb-true s slot here

    differ : eqb s slot ≡ false → s ≡ slot → ⊥
    differ unlike is = let yes = eq-eqb s slot is in cc

    ends : (e.id % length w.slots ≡ s) × Ahead e.id w → (e.id % length (set w.slots slot c) ≡ s) × Ahead e.id (with_waiting d c w)
    ends (at, ahead) = (ap (λ n. e.id % n) long ∙ at, (ahead.0, subst (λ n. e.id < w.time + n) (sym long) ahead.1))

    put : s ≡ slot → (e.id % length (set w.slots slot c) ≡ s) × Ahead e.id (with_waiting d c w)
    put is =
        let there = ap (λ k. get_or (set w.slots slot c) k []) is ∙ get_or-set_same w.slots slot c [] (mod_below d (length w.slots) some) in
        elim (from q e (subst (λ l. HasElementAt l q e) there lies)) as (λ _. (e.id % length (set w.slots slot c) ≡ s) × Ahead e.id (with_waiting d c w)) [
          | inl old ↦ let on = was slot q e old in ends (on.0 ∙ sym is, on.1)
          | inr due ↦ ends (ap (λ n. n % length w.slots) due.0 ∙ sym is, subst (λ n. Ahead n w) (sym due.0) due.1)
        ]

    other : (s ≢ slot) → (e.id % length (set w.slots slot c) ≡ s) × Ahead e.id (with_waiting d c w)
    other elsewhere = ends (was s q e (subst (λ l. HasElementAt l q e) (get_or-set_other w.slots slot s c [] elsewhere) lies))

  -- those that are due now were given out, and the time went on
  pub ticked : IsInPlace (dial (w.time + 1) (with_waiting w.time [] w).slots)
  ticked s q e lies = (ends.0, (later, omega (arith, ends.1.1))) where
    slot : ℕ
    slot = w.time % length w.slots

    ends : (e.id % length (set w.slots slot []) ≡ s) × Ahead e.id (with_waiting w.time [] w)
    ends = in_place w.time [] (λ r o none. absurd (null r o none)) s q e lies

    gone : e.id ≡ w.time → ⊥
    gone is =
        let at : s ≡ slot = sym ends.0 ∙ (λ i. is i % length-set w.slots slot [] i) in
        let there = ap (λ k. get_or (set w.slots slot []) k []) at ∙ get_or-set_same w.slots slot [] [] (mod_below w.time (length w.slots) some) in
        null q e (subst (λ l. HasElementAt l q e) there lies)

    later : w.time + 1 ≤ e.id
    later = elim (eq-or-lt_of_le ends.1.0) as (λ _. w.time + 1 ≤ e.id) [
      | inl is ↦ absurd (gone (sym is))
      | inr less ↦ omega (arith, less)
    ]

-- after others were put into a slot, as the code writes it
pub put_in_place : {P : Type 0} (t slot d : ℕ) (slots : List (Nodes (Timer P))) (c : Nodes (Timer P)) → slot ≡ d % length slots → (0 < length slots) × IsInPlace (dial t slots) → ((q : Ptr) (e : Element (Timer P)) → HasElementAt c q e → HasElementAt (waiting d (dial t slots)) q e ⊎ ((e.id ≡ d) × Ahead d (dial t slots))) → (0 < length (set slots slot c)) × IsInPlace (dial t (set slots slot c))
put_in_place t slot d slots c is was from = (
  omega (arith, was.0, length-set slots slot c),
  subst (λ k. IsInPlace (dial t (set slots k c))) (sym is) (in_place (dial t slots) was.0 was.1 d c from),
)

-- after the tick of the time t
pub tick_in_place : {P : Type 0} (t slot : ℕ) (slots : List (Nodes (Timer P))) → slot ≡ t % length slots → (0 < length slots) × IsInPlace (dial t slots) → (0 < length (set slots slot [])) × IsInPlace (dial (t + 1) (set slots slot []))
tick_in_place t slot slots is was = (
  omega (arith, was.0, length-set slots slot []),
  subst (λ k. IsInPlace (dial (t + 1) (set slots k []))) (sym is) (ticked (dial t slots) was.0 was.1),
)

-- what is seen of a wheel after others were put into a slot
pub put_seen : {P : Type 0} (w : Dial P) (t slot d : ℕ) (slots : List (Nodes (Timer P))) (c : Nodes (Timer P)) → slot ≡ d % length slots → dial t slots ≡ w → dial t (set slots slot c) ≡ with_waiting d c w
put_seen w t slot d slots c is seen = ap (λ k. dial t (set slots k c)) is ∙ ap (with_waiting d c) seen

pub only_is_at : {X : Type 0} (p q : Ptr) (o e : Element X) → HasElementAt ((p, o) ∷ []) q e → e ≡ o
only_is_at {X} p q o e ([], a, is) = sym (ap (λ (s : Nodes X). (get_or s 0 (p, o)).1) is)
only_is_at p q o e (x ∷ [], a, is) = cc
only_is_at p q o e (x ∷ y ∷ b, a, is) = cc

-- the timers in the slot of a deadline, as the code reads them
pub at_slot : {P : Type 0} (t slot d : ℕ) (slots : List (Nodes (Timer P))) (c : Nodes (Timer P)) → slot ≡ d % length slots → 0 < length slots → c ≡ get_or slots slot c → waiting d (dial t slots) ≡ c
at_slot t slot d slots c is some at =
    let within : slot < length slots = subst (λ k. k < length slots) (sym is) (mod_below d (length slots) some) in
    ap (λ k. get_or slots k []) (sym is) ∙ get_or_default slots slot [] c within ∙ sym at

is_at_place : {X : Type 0} (c : Nodes X) (k : ℕ) (d : Ptr × Element X) → k < length c → HasElementAt c (get_or c k d).0 (get_or c k d).1
is_at_place [] k d within = absurd (omega (arith, within))
is_at_place (x ∷ c) zero d within = ([], c, refl)
is_at_place (x ∷ c) (suc k) d within = let (b, a, is) = is_at_place c k d (omega (arith, within)) in (x ∷ b, a, ap (λ s. x ∷ s) is)

-- all that are in the slot of the time are due
pub all_due : {P : Type 0} (t : ℕ) (slots : List (Nodes (Timer P))) → IsInPlace (dial t slots) → All (λ e. e.id ≡ t) (elements (waiting t (dial t slots)))
all_due t slots was =
    let c = waiting t (dial t slots) in
    All-map (λ e. e.id ≡ t) (λ n. n.1) c (λ k d within.
    let e = (get_or c k d).1 in
    let on = was (t % length slots) (get_or c k d).0 e (is_at_place c k d within) in same_tick (length slots) t e.id on.1.0 on.1.1 on.0)

-- a timer that was started waits
pub started_good : {P : Type 0} (w : Dial P) (d : ℕ) (q : Ptr) (e : Element (Timer P)) → 0 < length w.slots → IsGood d q (with_waiting d (waiting d w ++ (q, e) ∷ []) w)
started_good w d q e some =
    let slot = d % length w.slots in
    let c = waiting d w ++ (q, e) ∷ [] in
    let at = ap (λ n. get_or (set w.slots slot c) (d % n) []) (length-set w.slots slot c) ∙ get_or-set_same w.slots slot c [] (mod_below d (length w.slots) some) in
    spot_is_at (waiting d (with_waiting d c w)) q e (waiting d w, [], at)

spot_front : {X : Type 0} (c m : Nodes X) (k : ℕ) (p : Ptr) → slice_get (spots c) k ≡ Some p → slice_get (spots (c ++ m)) k ≡ Some p
spot_front [] m k p at = cc
spot_front (x ∷ c) m zero p at = at
spot_front (x ∷ c) m (suc k) p at = spot_front c m k p at

-- a ticket stays good while other timers are started
pub stays_good : {P : Type 0} (w : Dial P) (d b : ℕ) (p q : Ptr) (e : Element (Timer P)) → IsGood b p w → IsGood b p (with_waiting d (waiting d w ++ (q, e) ∷ []) w)
stays_good {P} w d b p q e (k, at) = (
  k,
  subst (λ (c : Nodes (Timer P)). slice_get (spots c) k ≡ Some p) (sym moved) ((elim (eqb (b % length w.slots) slot) as (λ t. eqb (b % length w.slots) slot ≡ t → slice_get (spots after) k ≡ Some p) [
    | true ↦ λ here. same (eqb-true (b % length w.slots) slot here)
    | false ↦ λ unlike. subst (λ (c : Nodes (Timer P)). slice_get (spots c) k ≡ Some p) (sym (get_or-set_other w.slots slot (b % length w.slots) more [] (λ is. let yes = eq-eqb (b % length w.slots) slot is in cc))) at
  ]) refl),
) where
  slot : ℕ
  slot = d % length w.slots

  more : Nodes (Timer P)
  more = waiting d w ++ (q, e) ∷ []

  after : Nodes (Timer P)
  after = get_or (set w.slots slot more) (b % length w.slots) []

  moved : waiting b (with_waiting d more w) ≡ after
  moved = ap (λ n. get_or (set w.slots slot more) (b % n) []) (length-set w.slots slot more)

  none : Nodes (Timer P)
  none = []

  in_none : (k : ℕ) → slice_get (spots none) k ≡ Some p → ⊥
  in_none k found = cc

  within : b % length w.slots < length w.slots
  within = elim (cases_lt (b % length w.slots) (length w.slots)) as (λ _. b % length w.slots < length w.slots) [
    | inl less ↦ less
    | inr past ↦ absurd (in_none k (subst (λ (c : Nodes (Timer P)). slice_get (spots c) k ≡ Some p) (get_or_past w.slots (b % length w.slots) [] past) at))
  ]

  same : b % length w.slots ≡ slot → slice_get (spots after) k ≡ Some p
  same is =
      let there : after ≡ more = ap (λ j. get_or (set w.slots slot more) j []) is ∙ get_or-set_same w.slots slot more [] (subst (λ j. j < length w.slots) is within) in
      let held = subst (λ j. slice_get (spots (get_or w.slots j [])) k ≡ Some p) is at in
      subst (λ (c : Nodes (Timer P)). slice_get (spots c) k ≡ Some p) (sym there) (spot_front (waiting d w) ((q, e) ∷ []) k p held)
