-- Rooms that go to another owner: whose the others are stays so.
use Rattle.std.proofs.Common.{◌≡◌, ◌≢◌, ℕ, zero, suc, List, [], ◌∷◌, ◌++◌, take, drop, refl, sym, ap, ◌∙◌, inl, inr, arith}
use native.Mathlib.Decide.{ℕ_discrete}
use Rattle.cordyceps_shared.proofs.Places.{at_take, at_drop, at_either}
use Rattle.cordyceps_shared.specs.Places.{ItemAt}
use Rattle.cordyceps_queue.specs.Cores.Meets.{Owner, Spare, OwnsRooms}
use Rattle.cordyceps_queue.specs.Cores.Abstract.{update}
use Rattle.cordyceps_queue.proofs.CoreTheory.Basics.{put_same, put_other}
use Rattle.cordyceps_queue.proofs.CoreTheory.ProducerSteps.{spare_one}

abbrev pub deal : Owner → List ℕ → (ℕ → Owner) → ℕ → Owner
deal to [] owner = owner
deal to (r ∷ rs) owner = update (deal to rs owner) r to

pub deal_else : (to : Owner) (rs : List ℕ) (owner : ℕ → Owner) (x : ℕ) → ((i : ℕ) → ItemAt rs i x → ⊥) → deal to rs owner x ≡ owner x
deal_else to [] owner x away = refl
deal_else to (r ∷ rs) owner x away = put_other (deal to rs owner) r to x (away 0) ∙ deal_else to rs owner x (λ i. away (suc i))

pub deal_here : (to : Owner) (rs : List ℕ) (owner : ℕ → Owner) (i x : ℕ) → ItemAt rs i x → deal to rs owner x ≡ to
deal_here to [] owner i x a = absurd a
deal_here to (r ∷ rs) owner zero x a = ap (update (deal to rs owner) r to) a ∙ put_same (deal to rs owner) r to
deal_here to (r ∷ rs) owner (suc i) x a = elim (ℕ_discrete x r) [
  | yes same ↦ ap (update (deal to rs owner) r to) same ∙ put_same (deal to rs owner) r to
  | no ne ↦ put_other (deal to rs owner) r to x ne ∙ deal_here to rs owner i x a
]

module _ (owner : ℕ → Owner) (k : ℕ) (to : Owner) (rs : List ℕ) (mine : (i r : ℕ) → ItemAt rs i r → owner r ≡ Spare k) where
  -- rooms that were no party's stay so
  pub deal_fixed : (r : ℕ) (o : Owner) → owner r ≡ o → ((b : ℕ) → o ≡ Spare b → ⊥) → deal to rs owner r ≡ o
  deal_fixed r o e not = deal_else to rs owner r (λ i a. not k (sym e ∙ mine i r a)) ∙ e

  -- and so do those of other parties
  pub deal_others : (b : ℕ) (spare : List ℕ) → b ≢ k → OwnsRooms owner b spare → OwnsRooms (deal to rs owner) b spare
  deal_others b spare ne R = record { own = λ i r a. deal_else to rs owner r (λ n c. ne (spare_one (R.own i r a) (mine n r c))) ∙ R.own i r a; once = R.once }

module _ (owner : ℕ → Owner) (k : ℕ) (free : List ℕ) (R : OwnsRooms owner k free) (n : ℕ) where
  pub deal_kept : (to : Owner) → OwnsRooms (deal to (take n free) owner) k (drop n free)
  deal_kept to = record {
    own = λ i r a.
        let (at, here, far) = at_drop n free i r a in
        deal_else to (take n free) owner r (λ x b. let u = at_take n free x r b in let near = u.1 in let same = R.once at x r here u.0 in absurd (omega arith)) ∙ R.own at r here;
    once = λ i b r x y.
        let (at, here, e) = at_drop n free i r x in
        let (at', here', f) = at_drop n free b r y in
        let same = R.once at at' r here here' in
        omega arith;
  }

  pub deal_first : (to : Owner) → OwnsRooms (deal to (drop n free) owner) k (take n free)
  deal_first to = record {
    own = λ i r a.
        let u = at_take n free i r a in
        deal_else to (drop n free) owner r (λ x b. let (at, here, far) = at_drop n free x r b in let near = u.1 in let same = R.once i at r u.0 here in absurd (omega arith)) ∙ R.own i r u.0;
    once = λ i b r x y. R.once i b r (at_take n free i r x).0 (at_take n free b r y).0;
  }

  pub deal_given : (j : ℕ) → OwnsRooms (deal (Spare j) (take n free) owner) j (take n free)
  deal_given j = record {
    own = λ i r a. deal_here (Spare j) (take n free) owner i r a;
    once = λ i b r x y. R.once i b r (at_take n free i r x).0 (at_take n free b r y).0;
  }

-- rooms that were not the party's come behind its own
pub deal_behind : (owner : ℕ → Owner) (k : ℕ) (xs ys : List ℕ) → OwnsRooms owner k xs → ((i r : ℕ) → ItemAt ys i r → owner r ≡ Spare k → ⊥) → ((i j r : ℕ) → ItemAt ys i r → ItemAt ys j r → i ≡ j) → OwnsRooms (deal (Spare k) ys owner) k (xs ++ ys)
deal_behind owner k xs ys R apart once = record {
  own = λ i r at. elim (at_either xs ys i r at) [
    | inl t ↦ deal_else (Spare k) ys owner r (λ n c. apart n r c (R.own i r t)) ∙ R.own i r t
    | inr t ↦ deal_here (Spare k) ys owner t.0 r t.1
  ];
  once = λ i j r x y. elim (at_either xs ys i r x) [
    | inl a ↦ elim (at_either xs ys j r y) [ inl b ↦ R.once i j r a b | inr b ↦ absurd (apart b.0 r b.1 (R.own i r a)) ]
    | inr a ↦ elim (at_either xs ys j r y) [
      | inl b ↦ absurd (apart a.0 r a.1 (R.own j r b))
      | inr b ↦ let (n, here, e) = a in let (n', here', f) = b in let same = once n n' r here here' in omega arith
    ]
  ];
}
