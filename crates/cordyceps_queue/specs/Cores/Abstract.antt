-- A queue's machine as functions of a room's or a party's number, whoever keeps the words: what each step does to it.
-- The head of Machine has a picture of the four readings of one machine.
use Rattle.std.specs.Prelude.{ℕ, zero, suc, Bool, true, false, cond, eqb, ltb, List, [], ◌∷◌, Option, Some, None}
use Rattle.cordyceps_queue.specs.declared.cores.stage.Stage.{Stage}
use Rattle.cordyceps_queue.specs.declared.cores.stage.Stage.TheVariants.{Rest, Cleared, Swapped, Holding, StubNull}
use Rattle.cordyceps_queue.specs.declared.cores.stage.Stage.TheVariants.{Second, Null, PutClear, PutSwap, PutLink}
use Rattle.cordyceps_queue.specs.declared.cores.stage.Stage.TheVariants.{PutRead}
use Rattle.cordyceps_queue.specs.declared.cores.steps.QueueStep.{QueueStep}
use Rattle.cordyceps_queue.specs.declared.cores.steps.QueueStep.TheVariants as step
use Rattle.cordyceps_queue.specs.declared.cores.steps.QueueAnswer.{QueueAnswer}
use Rattle.cordyceps_queue.specs.declared.cores.steps.QueueAnswer.TheVariants as answer
use Rattle.cordyceps_queue.specs.History.{Event}

-- a party with its free rooms, the least first
pub record AbstractParty (P : Type 0) : Type 0 where
  pub name : P
  pub stage : Stage
  pub spare : List ℕ

-- room 0 is the stub's, and rooms from 1 below count are the elements'; right is 0 while taken, else the tail and 1
pub record AbstractMachine (P E : Type 0) : Type 0 where
  pub head : ℕ
  pub right : ℕ
  pub count : ℕ
  pub next : ℕ → Option ℕ
  pub cell : ℕ → Option E
  pub party : ℕ → Option (AbstractParty P)

-- what an accepted step makes of the machine, its answer, and its events, the newest first
pub record Move (P E : Type 0) : Type 0 where
  pub after : AbstractMachine P E
  pub answer : QueueAnswer E
  pub events : List (Event P E)

abbrev pub update : {A : Type 0} → (ℕ → A) → ℕ → A → ℕ → A
update f k v j = cond (eqb j k) v (f j)

abbrev pub insert_room : ℕ → List ℕ → List ℕ
insert_room r [] = r ∷ []
insert_room r (x ∷ xs) = cond (ltb r x) (r ∷ x ∷ xs) (x ∷ insert_room r xs)

module _ {P E : Type 0} where
  abbrev pub set_stage : AbstractMachine P E → ℕ → AbstractParty P → Stage → AbstractMachine P E
  set_stage m k p stage = record m { party = update m.party k (Some (record p { stage = stage })) }

  abbrev pub add_party : AbstractMachine P E → ℕ → P → AbstractMachine P E
  add_party m k name = record m { party = update m.party k (Some (record { name = name; stage = Rest; spare = [] })) }

  abbrev pub add_room : AbstractMachine P E → ℕ → AbstractParty P → AbstractMachine P E
  add_room m k p =
      record m {
        count = suc m.count;
        party = update m.party k (Some (record p { spare = insert_room m.count p.spare }));
      }

  -- a free room gets the element
  abbrev pub clear_room : AbstractMachine P E → ℕ → AbstractParty P → ℕ → List ℕ → E → AbstractMachine P E
  clear_room m k p r rooms e = record {
    head = m.head;
    right = m.right;
    count = m.count;
    next = update m.next r None;
    cell = update m.cell r (Some e);
    party = update m.party k (Some (record { name = p.name; stage = Cleared r; spare = rooms }));
  }

  abbrev pub clear_stub : AbstractMachine P E → ℕ → AbstractParty P → ℕ → AbstractMachine P E
  clear_stub m k p t = record (set_stage m k p (PutSwap t)) { next = update m.next 0 None }

  abbrev pub swap_head : AbstractMachine P E → ℕ → AbstractParty P → ℕ → Stage → AbstractMachine P E
  swap_head m k p r stage = record (set_stage m k p stage) { head = r }

  abbrev pub link_next : AbstractMachine P E → ℕ → AbstractParty P → ℕ → ℕ → Stage → AbstractMachine P E
  link_next m k p old r stage = record (set_stage m k p stage) { next = update m.next old (Some r) }

  abbrev pub set_right : AbstractMachine P E → ℕ → AbstractParty P → ℕ → Stage → AbstractMachine P E
  set_right m k p n stage = record (set_stage m k p stage) { right = n }

  -- the tail's element is handed out, and its room is free again
  abbrev pub hand_out : AbstractMachine P E → ℕ → AbstractParty P → ℕ → ℕ → AbstractMachine P E
  hand_out m k p t r = record m {
    cell = update m.cell t None;
    party = update m.party k (Some (record { name = p.name; stage = Holding r; spare = insert_room t p.spare }));
  }

  abbrev pub done_move : AbstractMachine P E → List (Event P E) → Option (Move P E)
  done_move m events = Some (record { after = m; answer = answer.Done; events = events })

  abbrev pub clears : AbstractMachine P E → ℕ → AbstractParty P → List ℕ → E → Option (Move P E)
  clears m k p [] e = None
  clears m k p (r ∷ rooms) e = done_move (clear_room m k p r rooms e) []

  abbrev pub swaps : AbstractMachine P E → ℕ → AbstractParty P → ℕ → Option E → Option (Move P E)
  swaps m k p r None = None
  swaps m k p r (Some e) = done_move (swap_head m k p r (Swapped r m.head)) (Event.Swap p.name e ∷ [])

  abbrev pub takes : AbstractMachine P E → ℕ → AbstractParty P → ℕ → Option (Move P E)
  takes m k p zero = Some (record { after = m; answer = answer.Busy; events = Event.Busy p.name ∷ [] })
  takes m k p (suc t) =
      Some (record { after = set_right m k p 0 (Holding t); answer = answer.Taken; events = Event.Take p.name ∷ [] })

  abbrev pub gives_out : AbstractMachine P E → ℕ → AbstractParty P → ℕ → ℕ → Option E → List (Event P E) →
      Option (Move P E)
  gives_out m k p t r None before = None
  gives_out m k p t r (Some e) before =
      Some (record { after = hand_out m k p t r; answer = answer.Out e; events = Event.Out p.name e ∷ before })

  -- the next word of the tail t, which is no stub, was read
  abbrev pub reads : AbstractMachine P E → ℕ → AbstractParty P → ℕ → Option ℕ → List (Event P E) → Option (Move P E)
  reads m k p t None before = done_move (set_stage m k p (Null t)) before
  reads m k p t (Some r) before = gives_out m k p t r (m.cell t) before

  abbrev pub reads_stub : AbstractMachine P E → ℕ → AbstractParty P → Option ℕ → List (Event P E) → Option (Move P E)
  reads_stub m k p None before = done_move (set_stage m k p StubNull) before
  reads_stub m k p (Some r) before = done_move (set_stage m k p (Second r)) before

  abbrev pub looks : AbstractMachine P E → ℕ → AbstractParty P → ℕ → Option (Move P E)
  looks m k p zero = reads_stub m k p (m.next 0) (Event.Look p.name ∷ [])
  looks m k p (suc t) = reads m k p (suc t) (m.next (suc t)) (Event.Look p.name ∷ [])

  abbrev pub fails : AbstractMachine P E → ℕ → AbstractParty P → ℕ → Option (Move P E)
  fails m k p t = Some (record { after = set_stage m k p (Holding t); answer = answer.Inconsistent; events = [] })

  abbrev pub reads_put : AbstractMachine P E → ℕ → AbstractParty P → ℕ → Option ℕ → Option (Move P E)
  reads_put m k p t None = fails m k p t
  reads_put m k p t (Some r) = gives_out m k p t r (m.cell t) []

  abbrev pub heads_stub : AbstractMachine P E → ℕ → AbstractParty P → Bool → Option (Move P E)
  heads_stub m k p true =
      Some (record { after = set_stage m k p (Holding 0); answer = answer.Empty; events = Event.Empty p.name ∷ [] })
  heads_stub m k p false = fails m k p 0

  abbrev pub heads : AbstractMachine P E → ℕ → AbstractParty P → ℕ → Bool → Option (Move P E)
  heads m k p t true = done_move (set_stage m k p (PutClear t)) []
  heads m k p t false = fails m k p t

  abbrev pub act : AbstractMachine P E → ℕ → AbstractParty P → Stage → QueueStep E → Option (Move P E)
  act m k p Rest (step.Clear (Some e)) = clears m k p p.spare e
  act m k p Rest step.Take = takes m k p m.right
  act m k p (Cleared r) step.Swap = swaps m k p r (m.cell r)
  act m k p (Swapped r old) step.Link = done_move (link_next m k p old r Rest) (Event.Link p.name ∷ [])
  act m k p (Holding t) step.ReadNext = looks m k p t
  act m k p (Holding t) step.Give = done_move (set_right m k p (suc t) Rest) (Event.Free p.name ∷ [])
  act m k p StubNull step.ReadHead = heads_stub m k p (eqb m.head 0)
  act m k p (Second t) step.ReadNext = reads m k p t (m.next t) []
  act m k p (Null t) step.ReadHead = heads m k p t (eqb m.head t)
  act m k p (PutClear t) (step.Clear None) = done_move (clear_stub m k p t) []
  act m k p (PutSwap t) step.Swap = done_move (swap_head m k p 0 (PutLink t m.head)) []
  act m k p (PutLink t old) step.Link = done_move (link_next m k p old 0 (PutRead t)) []
  act m k p (PutRead t) step.ReadNext = reads_put m k p t (m.next t)
  act m k p _ _ = None

  abbrev pub act_of : AbstractMachine P E → ℕ → Option (AbstractParty P) → QueueStep E → Option (Move P E)
  act_of m k None s = None
  act_of m k (Some p) s = act m k p p.stage s

  -- a step of party k. None: it is not there
  abbrev pub move_of : AbstractMachine P E → ℕ → QueueStep E → Option (Move P E)
  move_of m k s = act_of m k (m.party k) s
