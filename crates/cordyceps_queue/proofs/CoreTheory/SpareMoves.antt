-- Free rooms that come to a party from the pool, or go there: what a machine meets stays so.
use Rattle.std.proofs.Common.{◌≡◌, ◌≢◌, ℕ, List, Some, refl, sym}
use Rattle.cordyceps_queue.specs.History.{Event}
use Rattle.cordyceps_queue.specs.Cores.Meets.{Owner, Shared, Spare, Ready, Pooled, Unmade, Chain, OwnsRooms, Meets}
use Rattle.cordyceps_queue.specs.Cores.Abstract.{AbstractParty, AbstractMachine, update}
use Rattle.cordyceps_queue.proofs.CoreTheory.OtherParties.{fits_dealt, goes_dealt}
use Rattle.cordyceps_queue.proofs.CoreTheory.StepLeaves.{chain_dealt, joined_still, moves_on, right_kept, rooms_on}
use Rattle.cordyceps_queue.proofs.CoreTheory.ProducerSteps.{spare_shared, spare_unmade, ready_spare, ready_pooled, shared_pooled, unmade_pooled}

-- rooms of the party k go elsewhere, or come from the pool, and then it has these: other parties' stay theirs
pub record MovesRooms (was : ℕ → Owner) (k : ℕ) (owner : ℕ → Owner) (spare : List ℕ) : Type 0 where
  pub fixed : (r : ℕ) (o : Owner) → was r ≡ o → ((j : ℕ) → o ≡ Spare j → ⊥) → (o ≡ Pooled → ⊥) → owner r ≡ o
  pub others : (j : ℕ) (rooms : List ℕ) → j ≢ k → OwnsRooms was j rooms → OwnsRooms owner j rooms
  pub mine : OwnsRooms owner k spare

module _ {P E : Type 0} (m : AbstractMachine P E) (c : Chain) (h : List (Event P E)) (M : Meets m c h) (k : ℕ) (p : AbstractParty P) (at : m.party k ≡ Some p) (owner : ℕ → Owner) (spare : List ℕ) where
  pub moves_keep : MovesRooms c.owner k owner spare → Meets (record m { party = update m.party k (Some record p { spare = spare }) }) (record c { owner = owner }) h
  moves_keep G =
      let ready : (r j : ℕ) → c.owner r ≡ Ready j → owner r ≡ Ready j = λ r j e. G.fixed r (Ready j) e (λ b o. ready_spare refl o) (λ o. ready_pooled refl o) in
      moves_on m c h M k p at p.stage spare m (record c { owner = owner }) h record {
        legal = M.legal;
        chain = chain_dealt m c h M m.count owner (λ x e. G.fixed x Shared e (λ b e. spare_shared refl (sym e)) (λ e. shared_pooled refl e))
            (λ x lt. G.fixed x Unmade (M.unmade x lt) (λ b e. spare_unmade refl (sym e)) (λ e. unmade_pooled refl e));
        ends = M.ends;
        joined = joined_still m c h M k p at p.stage spare (λ a b o. o);
        holds = M.holds;
        right = right_kept m c h M k p at p.stage spare refl;
        goes = λ j q _ _. goes_dealt (λ r. ready r j);
        mine = fits_dealt m c h owner k p.name (λ r. ready r k) p.stage (M.fits k p at);
        rooms = rooms_on m c h M k p at p.stage spare owner G.others G.mine;
        strangers = λ x _ s. s;
      }
