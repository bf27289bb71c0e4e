-- The steps of the party with the right that leave the chain as it is.
use Rattle.std.proofs.Common.{◌≡◌, ℕ, zero, suc, ◌<◌, ◌≤◌, ◌≢◌, List, [], ◌∷◌, map, length, Option, Some, None, refl, sym, ap, ◌∙◌, subst, inl, inr, arith}
use Rattle.std.proofs.lemmas.List.{nil_from_length}
use native.Mathlib.Decide.{ℕ_discrete}
use Rattle.cordyceps_queue.specs.History.{Event}
use Rattle.cordyceps_queue.specs.Past.{held_reversed, holder_reversed, MayCome, IsSettled, IsPendingAt, IsBlockedReversed, HasLooked, WasBlockedReversed}
use Rattle.cordyceps_queue.specs.declared.cores.stage.Stage.{Stage}
use Rattle.cordyceps_queue.specs.declared.cores.stage.Stage.TheVariants.{Rest, Cleared, Swapped, Holding}
use Rattle.cordyceps_queue.specs.Cores.Abstract.{AbstractParty, AbstractMachine, set_stage}
use Rattle.cordyceps_shared.specs.Places.{ItemAt}
use Rattle.cordyceps_queue.specs.Cores.Meets.{real, rank, Owes, tail_of, Chain, IsOut, Joined, Keeps}
use Rattle.cordyceps_queue.specs.Cores.Meets.{AtStage, IsTaken, RightIs, Meets}
use Rattle.cordyceps_queue.proofs.CoreTheory.Basics.{put_again, some_inj, some_none, none_some, suc_zero}
use Rattle.cordyceps_queue.proofs.CoreTheory.Basics.{put_same, at_one, at_within}
use Rattle.cordyceps_queue.proofs.CoreTheory.ChainGrows.{held_length, real_within}
use Rattle.cordyceps_queue.proofs.CoreTheory.OtherParties.{goes_without, keeps_of, has_none}
use Rattle.cordyceps_queue.proofs.CoreTheory.StepLeaves.{chain_of, joined_still, moved, moves_on, parties, rooms_still}

-- blocked now, and the party has looked
pub was_now : {P E : Type 0} (q : P) (h : List (Event P E)) → HasLooked q h → IsBlockedReversed h → WasBlockedReversed q h
was_now q [] l b = absurd l
was_now q (x ∷ h) l b = inl (l, b)

rank_within : (xs : List ℕ) (i : ℕ) → rank xs i ≤ i
rank_within xs zero = omega arith
rank_within [] (suc i) = omega arith
rank_within (zero ∷ xs) (suc i) = let l = rank_within xs i in omega arith
rank_within (suc x ∷ xs) (suc i) = let l = rank_within xs i in omega arith

pub at_some : (xs : List ℕ) (i : ℕ) → i < length xs → (x : ℕ) × ItemAt xs i x
at_some [] i lt = absurd (omega arith)
at_some (x ∷ xs) zero lt = (x, refl)
at_some (x ∷ xs) (suc i) lt = at_some xs i (omega arith)

-- the stub at the tail is no element
stub_less : (xs : List ℕ) → ItemAt xs 0 0 → suc (length (real xs)) ≤ length xs
stub_less [] a = absurd a
stub_less (zero ∷ xs) a = let l = real_within xs in omega arith
stub_less (suc x ∷ xs) a = absurd (suc_zero (sym a))

right_zero : {P E : Type 0} (right : ℕ) (party : ℕ → Option (AbstractParty P)) (rooms : List ℕ) (h : List (Event P E)) (keeper : Option ℕ) (k : ℕ) → keeper ≡ Some k → RightIs right party rooms h keeper → right ≡ 0
right_zero right party rooms h None k e R = absurd (none_some e)
right_zero right party rooms h (Some j) k e R = R.zero_is

module _ {P E : Type 0} (m : AbstractMachine P E) (c : Chain) (h : List (Event P E)) (M : Meets m c h) (k : ℕ) (p : AbstractParty P) (at : m.party k ≡ Some p) (t : ℕ) (has : tail_of p.stage ≡ Some t) where
  pub keeping : Keeps c.keeper c.rooms h k p.name t
  keeping = keeps_of m.head m.next m.cell c.owner c.keeper c.rooms h k p.name p.stage t has (M.fits k p at)

  -- every other party is without the right
  pub not_keeper : (j : ℕ) → j ≢ k → c.keeper ≡ Some j → ⊥
  not_keeper j ne e = ne (some_inj (sym e ∙ keeping.kept))

  other_none : (j : ℕ) (q : AbstractParty P) → j ≢ k → m.party j ≡ Some q → tail_of q.stage ≡ None
  other_none j q ne eq = has_none m.head m.next m.cell c.owner c.keeper c.rooms h j q.name q.stage (tail_of q.stage) refl (not_keeper j ne) (M.fits j q eq)

  zero_right : m.right ≡ 0
  zero_right = right_zero m.right m.party c.rooms h c.keeper k keeping.kept M.right

  -- the right stays with the party
  pub right_with : (stage : Stage) (spare rooms : List ℕ) (h' : List (Event P E)) (u : ℕ) → tail_of stage ≡ Some u → holder_reversed h' ≡ Some p.name → RightIs m.right (parties m c h M k p at stage spare) rooms h' c.keeper
  right_with stage spare rooms h' u tail held =
      let now = parties m c h M k p at stage spare in
      let there = put_same m.party k (Some (moved m c h M k p at stage spare)) in
      let taken : IsTaken m.right now h' k = record { zero_is = zero_right; by = moved m c h M k p at stage spare; tail = u; there = there; has = tail; held = held } in
      subst (RightIs m.right now rooms h') (sym keeping.kept) taken

  -- only the stage changes
  pub stage_keeps : (stage : Stage) → tail_of stage ≡ Some t → ((a b : ℕ) → Owes p.stage a b → Owes stage a b) → AtStage m.head m.next m.cell c.owner c.keeper c.rooms h k p.name stage → Meets (set_stage m k p stage) c h
  stage_keeps stage has' on mine = moves_on m c h M k p at stage p.spare m c h record {
    legal = M.legal;
    chain = chain_of m c h M;
    ends = M.ends;
    joined = joined_still m c h M k p at stage p.spare on;
    holds = M.holds;
    right = right_with stage p.spare c.rooms h t has' keeping.held_by;
    goes = λ j q ne _. goes_without (λ a n. n) (λ s. s) (λ n w. w) (not_keeper j ne);
    mine = mine;
    rooms = rooms_still m c h M k p at stage p.spare (M.rooms k p at);
    strangers = λ n _ s. s;
  }

  -- only the history grows, by a look or an answer
  pub tell_keeps : (x : Event P E) → p.stage ≡ Holding t → MayCome x h → held_reversed (x ∷ h) ≡ held_reversed h → holder_reversed (x ∷ h) ≡ holder_reversed h → ((q : P) → IsSettled q h → IsSettled q (x ∷ h)) → ((q : P) (n : ℕ) → IsPendingAt q n h → IsPendingAt q n (x ∷ h)) → Meets m c (x ∷ h)
  tell_keeps x holding may same_held same_holder settled pending = subst (λ f. Meets (record m { party = f }) c (x ∷ h)) (put_again m.party k p at) (moves_on m c h M k p at p.stage p.spare m c (x ∷ h) record {
    legal = (may, M.legal);
    chain = chain_of m c h M;
    ends = M.ends;
    joined = joined_still m c h M k p at p.stage p.spare (λ a b o. o);
    holds = M.holds ∙ ap (map Some) (sym same_held);
    right = right_with p.stage p.spare c.rooms (x ∷ h) t has (same_holder ∙ keeping.held_by);
    goes = λ j q ne _. goes_without (λ a n. n) (settled q) (pending q) (not_keeper j ne);
    mine = mine;
    rooms = rooms_still m c h M k p at p.stage p.spare (M.rooms k p at);
    strangers = λ n _. settled n;
  })
    where
      mine : AtStage m.head m.next m.cell c.owner c.keeper c.rooms (x ∷ h) k p.name p.stage
      mine = subst (AtStage m.head m.next m.cell c.owner c.keeper c.rooms (x ∷ h) k p.name) (sym holding) (record { kept = keeping.kept; held_by = same_holder ∙ keeping.held_by; tail = keeping.tail; settled = settled p.name keeping.settled })

  -- another party owes the tail's link
  blocker : (j : ℕ) (q : P) (b : ℕ) (stage : Stage) → Owes stage t b → tail_of stage ≡ None → AtStage m.head m.next m.cell c.owner c.keeper c.rooms h j q stage → IsBlockedReversed h
  blocker j q b (Swapped x old) o none f =
      let first : f.at ≡ 0 = M.once f.at 0 old f.old_at (subst (ItemAt c.rooms 0) o.0 keeping.tail) in
      let l = rank_within c.rooms (suc f.at) in
      (q, rank c.rooms (suc f.at), omega arith, f.pending)
  blocker j q b Rest o none f = absurd o
  blocker j q b (Cleared x) o none f = absurd o
  blocker j q b stage o none f = absurd (some_none none)

  -- an open link of the tail blocks
  pub open_blocks : ((a b : ℕ) → Owes p.stage a b → ⊥) → m.next t ≡ None → m.head ≢ t → IsBlockedReversed h
  open_blocks nothing null far =
      let long : M.last.at ≢ 0 = λ e. far (at_one c.rooms 0 m.head t
      (subst (λ i. ItemAt c.rooms i m.head) e M.last.head_at) keeping.tail) in
      let second = at_some c.rooms 1 (omega (arith, M.last.long)) in
      from second.0 (M.joined 0 t second.0 keeping.tail second.1)
    where
      from : (b : ℕ) → Joined m.next m.party t b → IsBlockedReversed h
      from b (inl l) = absurd (some_none (sym l ∙ null))
      from b (inr o) = let d = o.1 in elim (ℕ_discrete d.by k) [
        | yes same ↦
            let e : d.who ≡ p = some_inj (sym d.there ∙ ap m.party same ∙ at) in
            absurd (nothing t b (subst (λ (r : AbstractParty P). Owes r.stage t b) e d.owes))
        | no ne ↦
            let without = other_none d.by d.who ne d.there in
            blocker d.by d.who.name b d.who.stage d.owes without (M.fits d.by d.who d.there)
      ]

  -- where head is the tail, it is the only room
  only : m.head ≡ t → M.last.at ≡ 0
  only same = M.once M.last.at 0 t (subst (ItemAt c.rooms M.last.at) same M.last.head_at) keeping.tail

  pub none_held : t ≡ 0 → m.head ≡ t → held_reversed h ≡ []
  none_held stub same =
      let l = stub_less c.rooms (subst (ItemAt c.rooms 0) stub keeping.tail) in
      let e = only same in
      nil_from_length (held_reversed h) (omega (arith, held_length m c h M, M.last.long))

  pub stub_out : t ≢ 0 → m.head ≡ t → IsOut c.rooms
  stub_out real same i a =
      let l = at_within c.rooms i 0 a in let e = only same in
      let z : i ≡ 0 = omega (arith, M.last.long) in
      real (at_one c.rooms 0 t 0 keeping.tail (subst (λ n. ItemAt c.rooms n 0) z a))
