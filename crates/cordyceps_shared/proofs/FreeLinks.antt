-- The links of free rooms: what a store leaves of them, and how they are cut and joined.
use Rattle.std.proofs.Common.{◌≡◌, ◌⊎◌, ℕ, zero, suc, ◌+◌, ◌≤◌, ◌<◌, List, [], ◌∷◌, ◌++◌, length, set, take, drop, refl, sym, ap, ◌∙◌, subst, inl, inr, ⊎_elim, arith, append-nil, eqb}
use Rattle.cordyceps_shared.specs.FreeChains.{leads, Links, end_after}
use Rattle.cordyceps_shared.specs.Counts.{one_if, times}
use Rattle.cordyceps_shared.specs.Words.{next}
use Rattle.cordyceps_shared.specs.declared.layout.TheConstants.{LINKS}
use Rattle.cordyceps_shared.proofs.Counting.{one_here}
use Rattle.cordyceps_shared.proofs.Words.{next_set, next_beside_next}

pub links_frame : (ws ws' rooms : List ℕ) (end : ℕ) → ((r : ℕ) → 1 ≤ times r rooms → next ws' r ≡ next ws r) → Links ws rooms end → Links ws' rooms end
links_frame ws ws' [] end same k = tt
links_frame ws ws' (r ∷ rs) end same k = let here = one_here r in (same r (omega arith) ∙ k.0, links_frame ws ws' rs end (λ s m. same s (omega arith)) k.1)

-- the link of a room among them
pub links_at : (ws before after : List ℕ) (r end : ℕ) → Links ws (before ++ r ∷ after) end → next ws r ≡ leads after end
links_at ws [] after r end k = k.0
links_at ws (x ∷ before) after r end k = links_at ws before after r end k.1

-- a store to the link of the last
leads_last : (before : List ℕ) (r end to : ℕ) → leads (before ++ r ∷ []) end ≡ leads (before ++ r ∷ []) to
leads_last [] r end to = refl
leads_last (x ∷ before) r end to = refl

pub links_retied : (ws before : List ℕ) (r end to : ℕ) → times r before ≡ 0 → LINKS + r < length ws → Links ws (before ++ r ∷ []) end → Links (set ws (LINKS + r) to) (before ++ r ∷ []) to
links_retied ws [] r end to none inside k = (next_set ws r to inside, tt)
links_retied ws (x ∷ before) r end to none inside k = (
  next_beside_next ws r x to (λ e. let same = ap (λ z. one_if (eqb z r)) e in let here = one_here r in absurd (omega arith)) ∙ (k.0 ∙ leads_last before r end to),
  links_retied ws before r end to (omega arith) inside k.1,
)

-- ---- cut in two
pub links_drop : (ws rooms : List ℕ) (n end : ℕ) → Links ws rooms end → Links ws (drop n rooms) end
links_drop ws rooms zero end k = k
links_drop ws [] (suc n) end k = tt
links_drop ws (r ∷ rs) (suc n) end k = links_drop ws rs n end k.1

leads_cut : (rooms : List ℕ) (n end : ℕ) → leads (take n rooms) (leads (drop n rooms) end) ≡ leads rooms end
leads_cut rooms zero end = refl
leads_cut [] (suc n) end = refl
leads_cut (r ∷ rs) (suc n) end = refl

pub links_take : (ws rooms : List ℕ) (n end : ℕ) → Links ws rooms end → Links ws (take n rooms) (leads (drop n rooms) end)
links_take ws rooms zero end k = tt
links_take ws [] (suc n) end k = tt
links_take ws (r ∷ rs) (suc n) end k = (k.0 ∙ sym (leads_cut rs n end), links_take ws rs n end k.1)

-- ---- joined
links_onto : (ws rooms others : List ℕ) (o end other : ℕ) → (rooms ≡ []) ⊎ (end ≡ suc o) → Links ws rooms end → Links ws (o ∷ others) other → Links ws (rooms ++ o ∷ others) other
links_onto ws [] others o end other may k l = l
links_onto ws (x ∷ []) others o end other may k l = (k.0 ∙ ⊎_elim (λ no. absurd (cc)) (λ e. e) may, l)
links_onto ws (x ∷ y ∷ ys) others o end other may k l = (k.0, links_onto ws (y ∷ ys) others o end other (inr (⊎_elim (λ no. absurd (cc)) (λ e. e) may)) k.1 l)

pub links_append : (ws rooms others : List ℕ) (end other : ℕ) → (rooms ≡ []) ⊎ ((others ≡ []) ⊎ (end ≡ leads others other)) → Links ws rooms end → Links ws others other → Links ws (rooms ++ others) (end_after end others other)
links_append ws rooms [] end other may k l = subst (λ z. Links ws z end) (sym (append-nil rooms)) k
links_append ws rooms (o ∷ others) end other may k l = links_onto ws rooms others o end other (⊎_elim (λ e. inl e) (λ m. ⊎_elim (λ no. absurd (cc)) (λ e. inr e) m) may) k l
