-- What a step of a party leaves, from which the machine after it meets the history after it.
use Rattle.std.proofs.Common.{◌≡◌, ◌≢◌, ℕ, suc, ◌≤◌, List, map, Option, Some, None, refl, sym, subst}
use Rattle.cordyceps_queue.specs.History.{Event}
use Rattle.cordyceps_queue.specs.Past.{held_reversed, IsSettled, IsLegalReversed}
use Rattle.cordyceps_queue.specs.declared.cores.stage.Stage.{Stage}
use Rattle.cordyceps_queue.specs.Cores.Abstract.{update, AbstractParty, AbstractMachine}
use Rattle.cordyceps_shared.specs.Places.{ItemAt}
use Rattle.cordyceps_queue.specs.Cores.Meets.{real, Owner, Shared, Unmade, Owes, tail_of, Chain, EndsAt, OwnsRooms, Joined, AtStage, RightIs, Meets}
use Rattle.cordyceps_queue.proofs.CoreTheory.Basics.{put_all}
use Rattle.cordyceps_queue.proofs.CoreTheory.OtherParties.{GoesOn, bystander, joined_put, names_put, strange, right_put, right_same_stage}

-- the rooms from the tail to head, each once, and whose the rooms are
pub record IsChain (head count : ℕ) (rooms : List ℕ) (owner : ℕ → Owner) : Type 0 where
  pub last : EndsAt rooms head
  pub once : (i j r : ℕ) → ItemAt rooms i r → ItemAt rooms j r → i ≡ j
  pub shared : (i r : ℕ) → ItemAt rooms i r → owner r ≡ Shared
  pub stub : owner 0 ≡ Shared
  pub unmade : (r : ℕ) → count ≤ r → owner r ≡ Unmade

module _ {P E : Type 0} (m : AbstractMachine P E) (c : Chain) (h : List (Event P E)) (M : Meets m c h) where
  -- a party whose stage is known
  pub fits_as : (k : ℕ) (p : AbstractParty P) → m.party k ≡ Some p → {stage : Stage} → p.stage ≡ stage → AtStage m.head m.next m.cell c.owner c.keeper c.rooms h k p.name stage
  fits_as k p at is = subst (AtStage m.head m.next m.cell c.owner c.keeper c.rooms h k p.name) is (M.fits k p at)

  pub chain_of : IsChain m.head m.count c.rooms c.owner
  chain_of = record { last = M.last; once = M.once; shared = M.shared; stub = M.stub; unmade = M.unmade }

  -- where only rooms change hands that are not in the chain
  pub chain_dealt : (count : ℕ) (owner : ℕ → Owner) → ((r : ℕ) → c.owner r ≡ Shared → owner r ≡ Shared) → ((r : ℕ) → count ≤ r → owner r ≡ Unmade) → IsChain m.head count c.rooms owner
  chain_dealt count owner shared unmade = record {
    last = M.last;
    once = M.once;
    shared = λ i r a. shared r (M.shared i r a);
    stub = shared 0 M.stub;
    unmade = unmade;
  }

  module _ (k : ℕ) (p : AbstractParty P) (at : m.party k ≡ Some p) (stage : Stage) (spare : List ℕ) where
    -- the party k, with the stage and the free rooms that it has after a step
    abbrev pub moved : AbstractParty P
    moved = record p { stage = stage; spare = spare }

    abbrev pub parties : ℕ → Option (AbstractParty P)
    parties = update m.party k (Some moved)

    -- what the step leaves
    pub record Leaves (m' : AbstractMachine P E) (c' : Chain) (h' : List (Event P E)) : Type 0 where
      pub legal : IsLegalReversed h'
      pub chain : IsChain m'.head m'.count c'.rooms c'.owner
      pub ends : m'.next m'.head ≡ None
      pub joined : (i a b : ℕ) → ItemAt c'.rooms i a → ItemAt c'.rooms (suc i) b → Joined m'.next parties a b
      pub holds : map m'.cell (real c'.rooms) ≡ map Some (held_reversed h')
      pub right : RightIs m'.right parties c'.rooms h' c'.keeper
      pub goes : (j : ℕ) (name : P) → j ≢ k → name ≢ p.name → GoesOn m m' c c' h h' j name
      pub mine : AtStage m'.head m'.next m'.cell c'.owner c'.keeper c'.rooms h' k p.name stage
      pub rooms : (j : ℕ) (q : AbstractParty P) → parties j ≡ Some q → OwnsRooms c'.owner j q.spare
      pub strangers : (n : P) → n ≢ p.name → IsSettled n h → IsSettled n h'

    pub moves_on : (m' : AbstractMachine P E) (c' : Chain) (h' : List (Event P E)) → Leaves m' c' h' → Meets (record m' { party = parties }) c' h'
    moves_on m' c' h' l = record {
      legal = l.legal;
      last = l.chain.last;
      ends = l.ends;
      joined = l.joined;
      once = l.chain.once;
      shared = l.chain.shared;
      stub = l.chain.stub;
      unmade = l.chain.unmade;
      holds = l.holds;
      right = l.right;
      fits = put_all (λ j q. AtStage m'.head m'.next m'.cell c'.owner c'.keeper c'.rooms h' j q.name q.stage) m.party k moved
          (λ j q ne e. bystander (l.goes j q.name ne (λ s. ne (M.names j k q p e at s))) q.stage (M.fits j q e)) l.mine;
      rooms = l.rooms;
      names = names_put m.party k p moved at refl M.names;
      strangers = λ n away.
          let far = strange m.party k p moved at refl n away in l.strangers n (λ s. far k p at (sym s)) (M.strangers n far);
    }

    -- neighbours in the chain are joined as they were, where the link does not change
    pub joined_on : (next : ℕ → Option ℕ) → ((a b : ℕ) → Owes p.stage a b → Owes stage a b) → (i a b : ℕ) → next a ≡ m.next a → ItemAt c.rooms i a → ItemAt c.rooms (suc i) b → Joined next parties a b
    joined_on next on i a b same ia ib = joined_put m.party k p moved at m.next next a b same (on a b) (M.joined i a b ia ib)

    pub joined_still : ((a b : ℕ) → Owes p.stage a b → Owes stage a b) → (i a b : ℕ) → ItemAt c.rooms i a → ItemAt c.rooms (suc i) b → Joined m.next parties a b
    joined_still on i a b = joined_on m.next on i a b refl

    -- the free rooms of the other parties stay theirs
    pub rooms_on : (owner : ℕ → Owner) → ((j : ℕ) (free : List ℕ) → j ≢ k → OwnsRooms c.owner j free → OwnsRooms owner j free) → OwnsRooms owner k spare → (j : ℕ) (q : AbstractParty P) → parties j ≡ Some q → OwnsRooms owner j q.spare
    rooms_on owner others = put_all (λ j q. OwnsRooms owner j q.spare) m.party k moved (λ j q ne e. others j q.spare ne (M.rooms j q e))

    pub rooms_still : OwnsRooms c.owner k spare → (j : ℕ) (q : AbstractParty P) → parties j ≡ Some q → OwnsRooms c.owner j q.spare
    rooms_still = rooms_on c.owner (λ j free _ R. R)

    -- the right stays where it is, if the party has none, or keeps its stage
    pub right_else : tail_of p.stage ≡ None → RightIs m.right parties c.rooms h c.keeper
    right_else none = right_put m.party k p moved at m.right c.rooms h c.keeper none M.right

    pub right_kept : stage ≡ p.stage → RightIs m.right parties c.rooms h c.keeper
    right_kept same = right_same_stage m.party k p moved at m.right c.rooms h c.keeper refl same M.right
