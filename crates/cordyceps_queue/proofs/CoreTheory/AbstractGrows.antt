-- A party and a room more.
use Rattle.std.proofs.Common.{◌≡◌, ◌≢◌, ℕ, suc, List, [], Option, Some, None, refl, sym, ap, ◌∙◌, arith}
use Rattle.cordyceps_queue.specs.History.{Event}
use Rattle.cordyceps_queue.specs.declared.cores.stage.Stage.TheVariants.{Rest}
use Rattle.cordyceps_queue.specs.Cores.Abstract.{AbstractParty, AbstractMachine, update, insert_room, add_party, add_room}
use Rattle.cordyceps_queue.specs.Cores.Meets.{Owner, Spare, Ready, Unmade, Chain, OwnsRooms, IsStranger, AtStage, Meets}
use Rattle.cordyceps_queue.specs.Cores.StepKeeps.{AddsKeep}
use Rattle.cordyceps_queue.proofs.CoreTheory.Basics.{owner_else, owns_else, none_some, put_other, put_all}
use Rattle.cordyceps_queue.proofs.CoreTheory.OtherParties.{fits_dealt, goes_dealt, joined_yet, right_yet}
use Rattle.cordyceps_queue.proofs.CoreTheory.StepLeaves.{chain_dealt, joined_still, moves_on, right_kept, rooms_on}
use Rattle.cordyceps_queue.proofs.CoreTheory.ProducerSteps.{spare_unmade, ready_unmade, shared_unmade}
use Rattle.cordyceps_queue.proofs.CoreTheory.ChainShrinks.{owns_insert}

module _ {P E : Type 0} (m : AbstractMachine P E) (c : Chain) (h : List (Event P E)) (M : Meets m c h) (k : ℕ) where
  module _ (name : P) (absent : m.party k ≡ None) (fresh : IsStranger m.party name) where
    abbrev added_party : AbstractParty P
    added_party = record { name = name; stage = Rest; spare = [] }

    abbrev parties : ℕ → Option (AbstractParty P)
    parties = update m.party k (Some added_party)

    still : (j : ℕ) (p : AbstractParty P) → m.party j ≡ Some p → parties j ≡ Some p
    still j p e = put_other m.party k (Some added_party) j (λ s. none_some (sym absent ∙ ap m.party (sym s) ∙ e)) ∙ e

    stays : (j : ℕ) (p : AbstractParty P) → m.party j ≡ Some p → p.stage ≢ Rest → parties j ≡ Some p
    stays j p e busy = still j p e

    party_keeps : Meets (add_party m k name) c h
    party_keeps = record {
      legal = M.legal;
      last = M.last;
      ends = M.ends;
      joined = λ i a b ia ib. joined_yet stays m.next a b (M.joined i a b ia ib);
      once = M.once;
      shared = M.shared;
      stub = M.stub;
      unmade = M.unmade;
      holds = M.holds;
      right = right_yet stays m.right c.rooms h c.keeper M.right;
      fits = put_all (λ j q. AtStage m.head m.next m.cell c.owner c.keeper c.rooms h j q.name q.stage) m.party k added_party (λ j q ne eq. M.fits j q eq) (M.strangers name fresh);
      rooms = put_all (λ j q. OwnsRooms c.owner j q.spare) m.party k added_party (λ j q ne eq. M.rooms j q eq) (record { own = λ i r a. absurd a; once = λ i j r a b. absurd a });
      names = λ i j x y ei ej. put_all (λ i x. x.name ≡ y.name → i ≡ j) m.party k added_party
          (λ i x _ ei. put_all (λ j y. x.name ≡ y.name → i ≡ j) m.party k added_party (λ j y _ ej. M.names i j x y ei ej) (λ e. absurd (fresh i x ei e)) j y ej)
          (put_all (λ j y. name ≡ y.name → k ≡ j) m.party k added_party (λ j y _ ej e. absurd (fresh j y ej (sym e))) (λ e. refl) j y ej)
          i x ei;
      strangers = λ n away. M.strangers n (λ j x e. away j x (still j x e));
    }

  module _ (p : AbstractParty P) (at : m.party k ≡ Some p) where
    abbrev new_room : ℕ
    new_room = m.count

    abbrev owner' : ℕ → Owner
    owner' = update c.owner new_room (Spare k)

    is_new : c.owner new_room ≡ Unmade
    is_new = M.unmade new_room (omega arith)

    still_ready : (j x : ℕ) → c.owner x ≡ Ready j → owner' x ≡ Ready j
    still_ready j x e = owner_else c.owner new_room (Spare k) e (λ u. ready_unmade u is_new)

    room_keeps : Meets (add_room m k p) (record c { owner = owner' }) h
    room_keeps = moves_on m c h M k p at p.stage (insert_room new_room p.spare) (add_room m k p) (record c { owner = owner' }) h record {
      legal = M.legal;
      chain = chain_dealt m c h M (suc m.count) owner' (λ x e. owner_else c.owner new_room (Spare k) e (λ u. shared_unmade u is_new))
          (λ x lt. put_other c.owner new_room (Spare k) x (λ s. absurd (omega arith)) ∙ M.unmade x (omega arith));
      ends = M.ends;
      joined = joined_still m c h M k p at p.stage (insert_room new_room p.spare) (λ a b o. o);
      holds = M.holds;
      right = right_kept m c h M k p at p.stage (insert_room new_room p.spare) refl;
      goes = λ j q _ _. goes_dealt (still_ready j);
      mine = fits_dealt m c h owner' k p.name (still_ready k) p.stage (M.fits k p at);
      rooms = rooms_on m c h M k p at p.stage (insert_room new_room p.spare) owner'
          (λ j free _ R. owns_else c.owner new_room (Spare k) j free R (λ u. spare_unmade u is_new)) (owns_insert c.owner k new_room p.spare (M.rooms k p at) (λ u. spare_unmade u is_new));
      strangers = λ n _ s. s;
    }

pub adds_keep : (P E : Type 0) → AddsKeep P E
adds_keep P E m c h M k = ((λ name absent fresh. (c, party_keeps m c h M k name absent fresh)), (λ p at. (record c { owner = update c.owner m.count (Spare k) }, room_keeps m c h M k p at)))
