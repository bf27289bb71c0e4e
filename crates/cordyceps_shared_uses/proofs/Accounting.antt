-- That each step of accounts keeps their rule, and that one account with all parts got what it gave.
use Rattle.std.proofs.Common.{◌≡◌, ℕ, suc, ◌+◌, ◌<◌, List, [], ◌∷◌, ◌++◌, set, get_or, refl, sym, ap, ◌∙◌, subst, ⊎_elim, arith}
use mathlib.Core.Option.{some}
use lib.ListN.{get_elem?}
use Rattle.atomic_table.specs.Table.{State, Step, Me, Splits, Joins, Allows, keeps}
use Rattle.atomic_table.proofs.Lists.{at_set, at_snoc, set_again}
use Rattle.cordyceps.specs.Parties.Counts.{tally, Same}
use Rattle.cordyceps.proofs.Parties.Counting.{tally_set, tally_snoc, tally_append}
use Rattle.cordyceps_shared_uses.specs.Accounts.{Page, View, blank, alone, count, IsBacked, AreBacked, AreEven, keeping, cut, meeting, giving, getting, both, merged, told, IsAtRest}
use Rattle.cordyceps_shared_uses.specs.declared.scheduler.name.Name.{Name}

abbrev parts_of : View → ℕ
parts_of = count (λ p. p.parts)

abbrev got_of : (Name → ℕ) → View → ℕ
got_of f = count (λ p. tally f p.got)

abbrev gave_of : (Name → ℕ) → View → ℕ
gave_of f = count (λ p. tally f p.gave)

unbacked : IsBacked (blank 0)
unbacked e = (refl, refl)

none_backed : AreBacked (alone (blank 0))
none_backed = (unbacked, unbacked)

pub with_a_part : (p : Page) → 0 < p.parts → IsBacked p
with_a_part p h e = absurd (omega (arith, h, e))

-- a view becomes two
divides : {S : Type 0} (n : ℕ) (s : State S View) (i : ℕ) (v left right : View) (k : (Name → ℕ) → ℕ) → AreEven n s → get_elem? s.views i ≡ some v
    → parts_of left + parts_of right ≡ parts_of v → ((f : Name → ℕ) → got_of f left + got_of f right ≡ got_of f v + k f)
    → ((f : Name → ℕ) → gave_of f left + gave_of f right ≡ gave_of f v + k f) → AreBacked left → AreBacked right
    → AreEven n record { words = s.words; homes = s.homes; views = set s.views i left ++ right ∷ [] }
divides n s i v left right k h at parts got gave a b =
    let sums : (g : View → ℕ) → tally g (set s.views i left ++ right ∷ []) + g v ≡ tally g s.views + (g left + g right) = λ g. omega (arith, tally_snoc g (set s.views i left) right, tally_set g s.views i v left at) in
    record {
      parts = omega (arith, sums parts_of, parts, h.parts);
      even = λ f. omega (arith, sums (got_of f), sums (gave_of f), got f, gave f, h.even f);
      backed = λ j x e.
          ⊎_elim (λ t. ⊎_elim (λ u. subst AreBacked u.1 a) (λ u. h.backed j x u.1) (at_set s.views i j left x t)) (λ t. subst AreBacked t b) (at_snoc (set s.views i left) right x j e);
    }

-- two views become one
unites : {S : Type 0} (n : ℕ) (s : State S View) (i j : ℕ) (v w one : View) → AreEven n s → get_elem? s.views i ≡ some v → get_elem? (set s.views i one) j ≡ some w
    → parts_of one ≡ parts_of v + parts_of w → ((f : Name → ℕ) → got_of f one ≡ got_of f v + got_of f w) → ((f : Name → ℕ) → gave_of f one ≡ gave_of f v + gave_of f w)
    → AreBacked one → AreEven n record { words = s.words; homes = s.homes; views = set (set s.views i one) j (alone (blank 0)) }
unites n s i j v w one h at there parts got gave b =
    let none : View = alone (blank 0) in
    let sums : (g : View → ℕ) → tally g (set (set s.views i one) j none) + (g v + g w) ≡ tally g s.views + (g one + g none) = λ g. omega (arith, tally_set g (set s.views i one) j w none there, tally_set g s.views i v one at) in
    record {
      parts = omega (arith, sums parts_of, parts, h.parts);
      even = λ f. omega (arith, sums (got_of f), sums (gave_of f), got f, gave f, h.even f);
      backed = λ k x e.
          ⊎_elim (λ t. subst AreBacked t.1 none_backed) (λ t. ⊎_elim (λ u. subst AreBacked u.1 b) (λ u. h.backed k x u.1) (at_set s.views i k one x t.1)) (at_set (set s.views i one) j k none x e);
    }

-- ---- where no part is left
no_got : (f : Name → ℕ) (p : Page) → IsBacked p → p.parts ≡ 0 → tally f p.got ≡ 0
no_got f p b e = ap (tally f) (b e).0

no_gave : (f : Name → ℕ) (p : Page) → IsBacked p → p.parts ≡ 0 → tally f p.gave ≡ 0
no_gave f p b e = ap (tally f) (b e).1

empty : (f : Name → ℕ) (vs : List View) → ((i : ℕ) (v : View) → get_elem? vs i ≡ some v → AreBacked v) → tally parts_of vs ≡ 0
    → (tally (got_of f) vs ≡ 0) × (tally (gave_of f) vs ≡ 0)
empty f [] b e = (refl, refl)
empty f (v ∷ vs) b e =
    let on = empty f vs (λ i w at. b (suc i) w at) (omega (arith, e)) in
    let is = b 0 v refl in
    let m : v.mine.parts ≡ 0 = omega (arith, e) in
    let o : v.other.parts ≡ 0 = omega (arith, e) in
    (omega (arith, on.0, no_got f v.mine is.0 m, no_got f v.other is.1 o), omega (arith, on.1, no_gave f v.mine is.0 m, no_gave f v.other is.1 o))

whole : {S : Type 0} (n : ℕ) (s : State S View) (i : ℕ) (v : View) → AreEven n s → get_elem? s.views i ≡ some v → v.other ≡ blank 0 → v.mine.parts ≡ n → Same v.mine.got v.mine.gave
whole n s i v h at rest all f =
    let none : View = alone (blank 0) in
    let others = set s.views i none in
    let sums : (g : View → ℕ) → tally g others + g v ≡ tally g s.views + g none = λ g. tally_set g s.views i v none at in
    let alone_parts : v.other.parts ≡ 0 = ap (λ p. p.parts) rest in
    let alone_got : tally f v.other.got ≡ 0 = ap (λ (p : Page). tally f p.got) rest in
    let alone_gave : tally f v.other.gave ≡ 0 = ap (λ (p : Page). tally f p.gave) rest in
    let left = empty f others
    (λ j x e. ⊎_elim (λ t. subst AreBacked t.1 none_backed) (λ t. h.backed j x t.1) (at_set s.views i j none x e))
    (omega (arith, sums parts_of, h.parts, all, alone_parts)) in
    omega (arith, left.0, left.1, sums (got_of f), sums (gave_of f), h.even f, alone_got, alone_gave)

pub both_backed : (p q : Page) → IsBacked p → IsBacked q → IsBacked (both p q)
both_backed p q b b' e =
    let is = b (omega (arith, e)) in
    let is' = b' (omega (arith, e)) in
    (ap (λ l. l ++ q.got) is.0 ∙ is'.0, ap (λ l. l ++ q.gave) is.1 ∙ is'.1)

pub at_rest : {S : Type 0} (m : Me S View) (p : Page) → m ≡ (alone p, []) → IsBacked p → IsAtRest m
at_rest m p e b = subst IsAtRest (sym e) (record { slots = refl; other = refl; backed = b })

pub blank_backed : (n : ℕ) → IsBacked (blank n)
blank_backed n e = (refl, refl)

pub resting_backed : {S : Type 0} (m : Me S View) → IsAtRest m → AreBacked m.0
resting_backed m r = (r.backed, subst IsBacked (sym r.other) unbacked)

-- ---- steps
module _ {S : Type 0} (n : ℕ) where
  abbrev Rule : State S View → Type 0
  Rule = AreEven n

  pub cuts : (k i : ℕ) (v : View) → v.other ≡ blank 0 → k < v.mine.parts → Splits Rule i v (keeping k v) (cut k v)
  cuts k i v rest less s h at =
      divides n s i v (keeping k v) (cut k v) (λ f. 0) h at
      (omega (arith, less, ap (λ (p : Page). p.parts) rest)) (λ f. omega (arith, ap (λ (p : Page). tally f p.got) rest)) (λ f. omega (arith, ap (λ (p : Page). tally f p.gave) rest))
      ((λ z. absurd (omega (arith, z, less))), unbacked) ((λ z. (refl, refl)), unbacked)

  pub copies : (i : ℕ) (v : View) → AreBacked v → Splits Rule i v v (alone (blank 0))
  copies i v b s h at = divides n s i v v (alone (blank 0)) (λ f. 0) h at (omega arith) (λ f. omega arith) (λ f. omega arith) b none_backed

  pub meets : (i j : ℕ) (v w : View) → v.other ≡ blank 0 → w.other ≡ blank 0 → IsBacked v.mine → IsBacked w.mine → Joins Rule i v j w (meeting v w) (alone (blank 0))
  meets i j v w rest rest' b b' s h at differ there =
      unites n s i j v w (meeting v w) h at there
      (omega (arith, ap (λ (p : Page). p.parts) rest, ap (λ (p : Page). p.parts) rest'))
      (λ f. omega (arith, ap (λ (p : Page). tally f p.got) rest, ap (λ (p : Page). tally f p.got) rest'))
      (λ f. omega (arith, ap (λ (p : Page). tally f p.gave) rest, ap (λ (p : Page). tally f p.gave) rest'))
      (b, b')

  pub gives : (x : Name) (i : ℕ) (v : View) → 0 < v.mine.parts → 0 < v.other.parts → Splits Rule i v (giving x v) (getting x v)
  gives x i v has has' s h at =
      divides n s i v (giving x v) (getting x v) (λ f. f x) h at (omega arith) (λ f. omega arith) (λ f. omega arith)
      (with_a_part (giving x v).mine has, unbacked) (with_a_part (getting x v).mine has', unbacked)

  pub merges : (i j : ℕ) (v w : View) → v.other ≡ blank 0 → w.other ≡ blank 0 → IsBacked v.mine → IsBacked w.mine → Joins Rule i v j w (merged v w) (alone (blank 0))
  merges i j v w rest rest' b b' s h at differ there =
      unites n s i j v w (merged v w) h at there
      (omega (arith, ap (λ (p : Page). p.parts) rest, ap (λ (p : Page). p.parts) rest'))
      (λ f. omega (arith, tally_append f v.mine.got w.mine.got, ap (λ (p : Page). tally f p.got) rest, ap (λ (p : Page). tally f p.got) rest'))
      (λ f. omega (arith, tally_append f v.mine.gave w.mine.gave, ap (λ (p : Page). tally f p.gave) rest, ap (λ (p : Page). tally f p.gave) rest'))
      (both_backed v.mine w.mine b b', unbacked)

  pub learns : (k slots i : ℕ) (m : Me S View) (t : Step S) → m.0.other ≡ blank 0 → k ≡ n → Allows Rule slots i m 0 (λ w. w) (told k t m)
  learns k slots i m t rest same s h few at word = (
    m.0,
    keeps,
    tt,
    subst (λ views. AreEven n record { words = set s.words 0 (get_or s.words 0 0); homes = s.homes; views = views }) (sym (set_again s.views i m.0 at)) (record { parts = h.parts; even = h.even; backed = h.backed }),
    (refl, λ all. whole n s i m.0 h at rest (all ∙ same)),
  )
