-- A room comes to the end of the chain.
use Rattle.std.proofs.Common.{◌≡◌, ℕ, zero, suc, ◌<◌, ◌≤◌, ◌≢◌, List, [], ◌∷◌, ◌++◌, length, Option, Some, None, refl, sym, ap, ◌∙◌, subst, inl, inr, arith, length-append}
use Rattle.std.proofs.lemmas.List.{length-map}
use Rattle.cordyceps_queue.specs.History.{Event}
use Rattle.cordyceps_queue.specs.Past.{held_reversed, holder_reversed, IsPendingAt}
use Rattle.cordyceps_queue.specs.Cores.Abstract.{update, AbstractParty, AbstractMachine}
use Rattle.cordyceps_shared.specs.Places.{ItemAt}
use Rattle.cordyceps_queue.specs.Cores.Meets.{EndsAt, real, rank, Owes, Chain, Joined, HasOpen, RightIs, Meets}
use Rattle.cordyceps_shared.proofs.Places.{at_end}
use Rattle.cordyceps_queue.proofs.CoreTheory.Basics.{put_same, at_one, at_within, at_more, at_split, rank_more}
use Rattle.cordyceps_queue.proofs.CoreTheory.OtherParties.{joined_put, taken_with}

pub real_one : (r : ℕ) → r ≢ 0 → real (r ∷ []) ≡ r ∷ []
real_one zero ne = absurd (ne refl)
real_one (suc r) ne = refl

pub real_within : (xs : List ℕ) → length (real xs) ≤ length xs
real_within [] = omega arith
real_within (zero ∷ xs) = let l = real_within xs in omega arith
real_within (suc x ∷ xs) = let l = real_within xs in omega arith

-- what the right is does not turn on the end of the chain
pub right_more : {P E : Type 0} (right : ℕ) (party : ℕ → Option (AbstractParty P)) (rooms : List ℕ) (r : ℕ) (h : List (Event P E)) (x : Event P E) (keeper : Option ℕ) → holder_reversed (x ∷ h) ≡ holder_reversed h → RightIs right party rooms h keeper → RightIs right party (rooms ++ r ∷ []) (x ∷ h) keeper
right_more right party rooms r h x None same R = record {
  unheld = same ∙ R.unheld;
  tail = R.tail;
  right_is = R.right_is;
  tail_at = at_more rooms (r ∷ []) 0 R.tail R.tail_at;
}
right_more right party rooms r h x (Some k) same R = taken_with R R.there (same ∙ R.held)

-- nor on an event that leaves the holder
pub right_same : {P E : Type 0} (right : ℕ) (party : ℕ → Option (AbstractParty P)) (rooms : List ℕ) (h : List (Event P E)) (x : Event P E) (keeper : Option ℕ) → holder_reversed (x ∷ h) ≡ holder_reversed h → RightIs right party rooms h keeper → RightIs right party rooms (x ∷ h) keeper
right_same right party rooms h x None same R =
    record { unheld = same ∙ R.unheld; tail = R.tail; right_is = R.right_is; tail_at = R.tail_at }
right_same right party rooms h x (Some k) same R = taken_with R R.there (same ∙ R.held)

-- a party that is yet to link its room
pub open_more : {P E : Type 0} {next : ℕ → Option ℕ} {h h' : List (Event P E)} {name : P} {x old : ℕ} (rooms : List ℕ) (r : ℕ) (f : HasOpen next rooms h name x old) → IsPendingAt name (rank rooms (suc f.at)) h' → HasOpen next (rooms ++ r ∷ []) h' name x old
open_more {P} {E} {next} {h} {h'} {name} {x} {old} rooms r f pending =
    let within = at_within rooms (suc f.at) x f.room_at in
    let ranks = rank_more rooms (r ∷ []) (suc f.at) (omega arith) in record {
      at = f.at;
      old_at = at_more rooms (r ∷ []) f.at old f.old_at;
      room_at = at_more rooms (r ∷ []) (suc f.at) x f.room_at;
      is_real = f.is_real;
      null = f.null;
      pending = subst (λ n. IsPendingAt name n h') (sym ranks) pending;
    }

module _ {P E : Type 0} (m : AbstractMachine P E) (c : Chain) (h : List (Event P E)) (M : Meets m c h) where
  pub held_length : length (real c.rooms) ≡ length (held_reversed h)
  held_length = sym (length-map (real c.rooms) m.cell) ∙ ap length M.holds ∙ length-map (held_reversed h) Some

  -- where head is the tail, at most one element is held
  pub alone : (t : ℕ) → ItemAt c.rooms 0 t → m.head ≡ t → length (held_reversed h) < 2
  alone t first same =
      let e : M.last.at ≡ 0 = M.once M.last.at 0 t (subst (ItemAt c.rooms M.last.at) same M.last.head_at) first in
      omega (arith, held_length, real_within c.rooms, M.last.long, e)

  module _ (r : ℕ) where
    pub last_more : EndsAt (c.rooms ++ r ∷ []) r
    last_more = record {
      at = length c.rooms;
      long = omega (arith, length-append c.rooms (r ∷ []));
      head_at = at_end c.rooms r;
    }

    pub once_more : ((i : ℕ) → ItemAt c.rooms i r → ⊥) → (i j x : ℕ) → ItemAt (c.rooms ++ r ∷ []) i x → ItemAt (c.rooms ++ r ∷ []) j x → i ≡ j
    once_more fresh i j x ix jx = elim (at_split c.rooms r i x ix) [
      | inl a ↦ elim (at_split c.rooms r j x jx) [ inl b ↦ M.once i j x a b | inr b ↦ absurd (fresh i (subst (ItemAt c.rooms i) b.1 a)) ]
      | inr a ↦ elim (at_split c.rooms r j x jx) [ inl b ↦ absurd (fresh j (subst (ItemAt c.rooms j) a.1 b)) | inr b ↦ a.0 ∙ sym b.0 ]
    ]

  module _ (k : ℕ) (p q : AbstractParty P) (at : m.party k ≡ Some p) (r : ℕ) where
    pub joined_more : ((a b : ℕ) → Owes p.stage a b → Owes q.stage a b) → Owes q.stage m.head r → (i a b : ℕ) → ItemAt (c.rooms ++ r ∷ []) i a → ItemAt (c.rooms ++ r ∷ []) (suc i) b → Joined m.next (update m.party k (Some q)) a b
    joined_more on owes i a b ia ib = elim (at_split c.rooms r (suc i) b ib) [
      | inl jb ↦ elim (at_split c.rooms r i a ia) [
        | inl ja ↦ joined_put m.party k p q at m.next m.next a b refl (on a b) (M.joined i a b ja jb)
        | inr ja ↦ let l = at_within c.rooms (suc i) b jb in absurd (omega (arith, ja.0))
      ]
      | inr jb ↦ elim (at_split c.rooms r i a ia) [
        | inl ja ↦
            let n : M.last.at ≡ i = omega (arith, M.last.long, jb.0) in
            let e : a ≡ m.head = at_one c.rooms i a m.head ja (subst (λ n. ItemAt c.rooms n m.head) n M.last.head_at) in
            let here = subst (λ x. Owes q.stage x b) (sym e) (subst (Owes q.stage m.head) (sym jb.1) owes) in
            inr (ap m.next e ∙ M.ends, record { by = k; who = q; there = put_same m.party k (Some q); owes = here })
        | inr ja ↦ absurd (omega (arith, ja.0, jb.0))
      ]
    ]
