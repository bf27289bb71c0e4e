-- The right is taken and given back, and the tail goes on.
use Rattle.std.proofs.Common.{◌≡◌, ℕ, suc, ◌≢◌, List, ◌∷◌, map, drop, Option, Some, None, refl, sym, ap, ◌∙◌, subst}
use Rattle.cordyceps_queue.specs.History.{Event}
use Rattle.cordyceps_queue.specs.Past.{held_reversed, holder_reversed, IsSettled, IsPendingAt, HasLooked}
use Rattle.cordyceps_queue.specs.declared.cores.stage.Stage.TheVariants.{Rest, Holding, Second}
use Rattle.cordyceps_queue.specs.Cores.Abstract.{update, insert_room, AbstractParty, AbstractMachine, set_stage, set_right, hand_out}
use Rattle.cordyceps_shared.specs.Places.{ItemAt}
use Rattle.cordyceps_queue.specs.Cores.Meets.{real, Shared, Spare, Owes, tail_of, Chain, Keeps, RightIs, Meets}
use Rattle.cordyceps_queue.proofs.CoreTheory.Basics.{owner_else, owns_else, some_inj, none_some, suc_zero, zero_suc, suc_inj, put_same, put_other, map_put}
use Rattle.cordyceps_queue.proofs.CoreTheory.OtherParties.{goes_without}
use Rattle.cordyceps_queue.proofs.CoreTheory.StepLeaves.{fits_as, chain_of, joined_still, moves_on, rooms_on, rooms_still}
use Rattle.cordyceps_queue.proofs.CoreTheory.ProducerSteps.{spare_shared, ready_shared, shared_unmade}
use Rattle.cordyceps_queue.proofs.CoreTheory.HolderSteps.{keeping, not_keeper, right_with}
use Rattle.cordyceps_queue.proofs.CoreTheory.ChainShrinks.{at_down, at_up, Splits, real_stub, rank_stub, rank_first, tail_full, owns_insert, second, last_less, once_less, tail_away, goes_drops}

-- nobody has the right, and t is the tail
pub record IsUnheld {P E : Type 0} (rooms : List ℕ) (h : List (Event P E)) (keeper : Option ℕ) (t : ℕ) : Type 0 where
  pub keeper_is : keeper ≡ None
  pub unheld : holder_reversed h ≡ None
  pub tail_at : ItemAt rooms 0 t

pub free_right : {P E : Type 0} (right : ℕ) (party : ℕ → Option (AbstractParty P)) (rooms : List ℕ) (h : List (Event P E)) (keeper : Option ℕ) (t : ℕ) → right ≡ suc t → RightIs right party rooms h keeper → IsUnheld rooms h keeper t
free_right right party rooms h None t e R =
    record { keeper_is = refl; unheld = R.unheld; tail_at = subst (ItemAt rooms 0) (suc_inj (sym R.right_is ∙ e)) R.tail_at }
free_right right party rooms h (Some j) t e R = absurd (suc_zero (sym e ∙ R.zero_is))

module _ {P E : Type 0} (m : AbstractMachine P E) (c : Chain) (h : List (Event P E)) (M : Meets m c h) (k : ℕ) (p : AbstractParty P) (at : m.party k ≡ Some p) where
  -- Take of the free right
  module _ (t : ℕ) (rest : p.stage ≡ Rest) (right : m.right ≡ suc t) where
    abbrev pub chain_after_take : Chain
    chain_after_take = record c { keeper = Some k }

    free : IsUnheld c.rooms h c.keeper t
    free = free_right m.right m.party c.rooms h c.keeper t right M.right

    settled : IsSettled p.name h
    settled = fits_as m c h M k p at rest

    pub take_keeps : Meets (set_right m k p 0 (Holding t)) chain_after_take (Event.Take p.name ∷ h)
    take_keeps = moves_on m c h M k p at (Holding t) p.spare (set_right m k p 0 (Holding t)) chain_after_take (Event.Take p.name ∷ h) record {
      legal = (free.unheld, M.legal);
      chain = chain_of m c h M;
      ends = M.ends;
      joined = joined_still m c h M k p at (Holding t) p.spare (λ a b o. absurd (subst (λ l. Owes l a b) rest o));
      holds = M.holds;
      right = record {
        zero_is = refl;
        by = record p { stage = Holding t };
        tail = t;
        there = put_same m.party k (Some record p { stage = Holding t });
        has = refl;
        held = refl;
      };
      goes = λ j q _ _. goes_without (λ a n. n) (λ s. s) (λ n w. w) (λ is. none_some (sym free.keeper_is ∙ is));
      mine = record { kept = refl; held_by = refl; tail = free.tail_at; settled = settled };
      rooms = rooms_still m c h M k p at (Holding t) p.spare (M.rooms k p at);
      strangers = λ n _ s. s;
    }

  -- Give
  module _ (t : ℕ) (holding : p.stage ≡ Holding t) where
    abbrev pub chain_after_give : Chain
    chain_after_give = record c { keeper = None }

    keeps_right : Keeps c.keeper c.rooms h k p.name t
    keeps_right = keeping m c h M k p at t (ap tail_of holding)

    pub give_keeps : Meets (set_right m k p (suc t) Rest) chain_after_give (Event.Free p.name ∷ h)
    give_keeps = moves_on m c h M k p at Rest p.spare (set_right m k p (suc t) Rest) chain_after_give (Event.Free p.name ∷ h) record {
      legal = (keeps_right.held_by, M.legal);
      chain = chain_of m c h M;
      ends = M.ends;
      joined = joined_still m c h M k p at Rest p.spare (λ a b o. subst (λ l. Owes l a b) holding o);
      holds = M.holds;
      right = record { unheld = refl; tail = t; right_is = refl; tail_at = keeps_right.tail };
      goes = λ j q ne _. goes_without (λ a n. n) (λ s. s) (λ n w. w) (not_keeper m c h M k p at t (ap tail_of holding) j ne);
      mine = keeps_right.settled;
      rooms = rooms_still m c h M k p at Rest p.spare (M.rooms k p at);
      strangers = λ n _ s. s;
    }

  -- the stub is passed
  module _ (r : ℕ) (holding : p.stage ≡ Holding 0) (linked : m.next 0 ≡ Some r) (looked : HasLooked p.name h) where
    abbrev pub chain_after_pass : Chain
    chain_after_pass = record c { rooms = drop 1 c.rooms }

    keeps_stub : Keeps c.keeper c.rooms h k p.name 0
    keeps_stub = keeping m c h M k p at 0 (ap tail_of holding)

    at_second : ItemAt c.rooms 1 r
    at_second = second m c h M 0 r keeps_stub.tail linked

    pub pass_keeps : Meets (set_stage m k p (Second r)) chain_after_pass h
    pass_keeps = moves_on m c h M k p at (Second r) p.spare (set_stage m k p (Second r)) chain_after_pass h record {
      legal = M.legal;
      chain = record {
        last = last_less m c h M 0 r keeps_stub.tail linked;
        once = once_less m c h M 0 r keeps_stub.tail linked;
        shared = λ i x ix. M.shared (suc i) x (at_down c.rooms i x ix);
        stub = M.stub;
        unmade = M.unmade;
      };
      ends = M.ends;
      joined = λ i a b ia ib. joined_still m c h M k p at (Second r) p.spare (λ a b o. subst (λ l. Owes l a b) holding o) (suc i) a b (at_down c.rooms i a ia) (at_down c.rooms (suc i) b ib);
      holds = ap (map m.cell) (sym (real_stub c.rooms keeps_stub.tail)) ∙ M.holds;
      right = right_with m c h M k p at 0 (ap tail_of holding) (Second r) p.spare (drop 1 c.rooms) h r refl keeps_stub.held_by;
      goes = λ j q ne _. goes_drops m c h M 0 r keeps_stub.tail linked m.cell c.owner h j q (λ x e o f. f) (λ x e. e) (λ s. s)
          (λ i w. subst (λ n. IsPendingAt q n h) (rank_stub c.rooms i keeps_stub.tail) w) (not_keeper m c h M k p at 0 (ap tail_of holding) j ne);
      mine = record {
        keeps = record { kept = keeps_stub.kept; held_by = keeps_stub.held_by; tail = at_up c.rooms 0 r at_second; settled = keeps_stub.settled };
        is_real = λ e. zero_suc (M.once 0 1 0 keeps_stub.tail (subst (ItemAt c.rooms 1) e at_second));
        looked = looked;
      };
      rooms = rooms_still m c h M k p at (Second r) p.spare (M.rooms k p at);
      strangers = λ n _ s. s;
    }

  -- the tail's element is handed out
  module _ (t r : ℕ) (has : tail_of p.stage ≡ Some t) (nothing : (a b : ℕ) → Owes p.stage a b → ⊥) (is_real : t ≢ 0) (linked : m.next t ≡ Some r) (e : E) (full : m.cell t ≡ Some e) where
    abbrev pub chain_after_out : Chain
    chain_after_out = record { rooms = drop 1 c.rooms; owner = update c.owner t (Spare k); keeper = c.keeper }

    keeps_tail : Keeps c.keeper c.rooms h k p.name t
    keeps_tail = keeping m c h M k p at t has

    tail_shared : c.owner t ≡ Shared
    tail_shared = M.shared 0 t keeps_tail.tail

    next_at : ItemAt c.rooms 1 r
    next_at = second m c h M t r keeps_tail.tail linked

    oldest : Splits (held_reversed h) (m.cell t) (map m.cell (real (drop 1 c.rooms)))
    oldest = tail_full m c h M t is_real keeps_tail.tail

    is_oldest : held_reversed h ≡ e ∷ oldest.rest
    is_oldest = oldest.is ∙ ap (λ x. x ∷ oldest.rest) (some_inj (sym oldest.cell ∙ full))

    pub out_keeps : Meets (hand_out m k p t r) chain_after_out (Event.Out p.name e ∷ h)
    out_keeps = moves_on m c h M k p at (Holding r) (insert_room t p.spare) (hand_out m k p t r) chain_after_out (Event.Out p.name e ∷ h) record {
      legal = ((keeps_tail.held_by, oldest.rest, is_oldest), M.legal);
      chain = record {
        last = last_less m c h M t r keeps_tail.tail linked;
        once = once_less m c h M t r keeps_tail.tail linked;
        shared = λ i x ix. put_other c.owner t (Spare k) x (λ s. tail_away m c h M t r keeps_tail.tail linked i (subst (ItemAt (drop 1 c.rooms) i) s ix)) ∙ M.shared (suc i) x (at_down c.rooms i x ix);
        stub = put_other c.owner t (Spare k) 0 (λ s. is_real (sym s)) ∙ M.stub;
        unmade = λ x lt. owner_else c.owner t (Spare k) (M.unmade x lt) (λ u. shared_unmade tail_shared u);
      };
      ends = M.ends;
      joined = λ i a b ia ib. joined_still m c h M k p at (Holding r) (insert_room t p.spare) (λ a b o. absurd (nothing a b o)) (suc i) a b (at_down c.rooms i a ia) (at_down c.rooms (suc i) b ib);
      holds = map_put m.cell t None (drop 1 c.rooms) (tail_away m c h M t r keeps_tail.tail linked) ∙ oldest.cells ∙ ap (map Some) (sym (ap (drop 1) is_oldest));
      right = right_with m c h M k p at t has (Holding r) (insert_room t p.spare) (drop 1 c.rooms) (Event.Out p.name e ∷ h) r refl keeps_tail.held_by;
      goes = λ j q ne _. goes_drops m c h M t r keeps_tail.tail linked (update m.cell t None) (update c.owner t (Spare k)) (Event.Out p.name e ∷ h) j q
          (λ x y o f. put_other m.cell t None x (λ s. ready_shared o (ap c.owner s ∙ tail_shared)) ∙ f)
          (λ x e. owner_else c.owner t (Spare k) e (λ u. ready_shared u tail_shared)) (λ s. s)
          (λ i w. subst (λ n. IsPendingAt q n h) (rank_first c.rooms t i is_real keeps_tail.tail) w) (not_keeper m c h M k p at t has j ne);
      mine = record { kept = keeps_tail.kept; held_by = keeps_tail.held_by; tail = at_up c.rooms 0 r next_at; settled = keeps_tail.settled };
      rooms = rooms_on m c h M k p at (Holding r) (insert_room t p.spare) (update c.owner t (Spare k))
          (λ j free _ R. owns_else c.owner t (Spare k) j free R (λ u. spare_shared u tail_shared)) (owns_insert c.owner k t p.spare (M.rooms k p at) (λ u. spare_shared u tail_shared));
      strangers = λ n _ s. s;
    }
