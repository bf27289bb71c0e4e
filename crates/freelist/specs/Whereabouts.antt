-- Where the blocks of a free list are, and what calls do to that: of one user, over a list of calls, and of all users.
use Rattle.std.specs.Prelude.{◌≡◌, ◌≢◌, ℕ, suc, ◌+◌, ◌-◌, ◌<◌, ◌≤◌, List, [], ◌∷◌, ◌++◌, length, reverse, Option, Some}
use Rattle.std.specs.Prelude.{None, IsSome, ◌⊎◌}
use Rattle.cordyceps_shared.specs.Counts.{tally}
use Rattle.cordyceps_stack.specs.History.{Event, Legal, held, pushes, taken_elements}
use Rattle.freelist.specs.declared.laws.Command.{Command}
use Rattle.freelist.specs.declared.laws.Command.TheVariants as kinds

-- where the blocks are that came by a user: they are with it, or in its local part, the last put back first; or it put
-- them back remotely. Which ones it took of what is shared, the oldest first. And how many rooms its parties have: the
-- one that puts back remotely, that of its local part, if it has one, and a spare one, if there is one
pub record Whereabouts (B : Type 0) : Type 0 where
  pub with_user : List B
  pub local : List B
  pub put_back : List B
  pub fetched : List B
  pub rooms : ℕ
  pub local_rooms : Option ℕ
  pub spare_rooms : Option ℕ

-- what was done, and what it returned
pub data Call (B : Type 0) : Type 0 where
  -- `get`, which returned the first local block
  Gets : B → Call B
  -- `get`, which found no local block, took this batch of what is shared, the newest first, and returned its first
  -- block
  Fetches : List B → Option B → Call B
  -- `put`, of the block that the user came by last
  Puts : B → Call B
  -- `put_remote` of that block, which returned `Ok`
  PutsRemote : B → Call B
  -- `put_remote` of that block, which returned it
  HandsBack : Call B
  -- `local`, with the spare party
  Opens : Call B
  -- `finish`, which makes the party the spare one
  Finishes : Call B
  -- `split`, which makes a spare party with so many rooms
  Splits : ℕ → Call B
  -- `absorb`, of the spare party
  Joins : Call B
  -- nothing, for this command, since it could not be carried out
  Idles : Command → Call B
  -- the user came by a block from elsewhere
  Gains : B → Call B
  -- the user let go of a block
  Loses : B → Call B

module _ {B : Type 0} where
  -- a block before others, if there is one
  abbrev pub prepend_option : Option B → List B → List B
  prepend_option None bs = bs
  prepend_option (Some b) bs = b ∷ bs

  -- a block goes away
  pub record Without (b : B) (old new : List B) : Type 0 where
    pub before : List B
    pub after : List B
    pub old_is : old ≡ before ++ b ∷ after
    pub new_is : new ≡ before ++ after

  -- a command cannot be carried out: there is no block, no room, or no party for it, or there is such a part already
  abbrev pub Lacks : Command → Whereabouts B → Type 0
  Lacks kinds.Get s = s.local_rooms ≡ None
  Lacks kinds.Put s = (s.with_user ≡ []) ⊎ (s.local_rooms ≡ None)
  Lacks kinds.PutRemote s = (s.with_user ≡ []) ⊎ (s.rooms ≡ 0)
  Lacks kinds.Open s = IsSome s.local_rooms ⊎ (s.spare_rooms ≡ None)
  Lacks kinds.Finish s = (s.local_rooms ≡ None) ⊎ IsSome s.spare_rooms
  Lacks (kinds.Split n) s = (s.rooms < n) ⊎ IsSome s.spare_rooms
  Lacks kinds.Absorb s = s.spare_rooms ≡ None

  -- a call leads from one state to another
  abbrev pub Does : Call B → Whereabouts B → Whereabouts B → Type 0
  Does (Gets b) s t =
      (s.local ≡ b ∷ t.local) × (t ≡ record s { with_user = b ∷ s.with_user; local = t.local })
  Does (Fetches batch first) s t =
      (n : ℕ)
      × (s.local_rooms ≡ Some n)
      × (s.local ≡ [])
      × (batch ≡ prepend_option first t.local)
      × (first ≡ None → t.local ≡ [])
      × (t ≡ record s {
        with_user = prepend_option first s.with_user;
        local = t.local;
        local_rooms = Some (n + length batch);
        fetched = s.fetched ++ reverse batch;
      })
  Does (Puts b) s t =
      IsSome s.local_rooms
      × (s.with_user ≡ b ∷ t.with_user)
      × (t ≡ record s { with_user = t.with_user; local = b ∷ s.local })
  Does (PutsRemote b) s t =
      (s.rooms ≡ suc t.rooms)
      × (s.with_user ≡ b ∷ t.with_user)
      × (t ≡ record s { with_user = t.with_user; put_back = s.put_back ++ b ∷ []; rooms = t.rooms })
  Does HandsBack s t = (0 < s.rooms) × (s.with_user ≢ []) × (t ≡ s)
  Does Opens s t =
      (n : ℕ)
      × (s.spare_rooms ≡ Some n)
      × (s.local_rooms ≡ None)
      × (t ≡ record s { local_rooms = Some n; spare_rooms = None })
  Does Finishes s t =
      (n : ℕ)
      × (s.local_rooms ≡ Some n)
      × (s.spare_rooms ≡ None)
      × (t ≡ record s {
        with_user = reverse s.local ++ s.with_user;
        local = [];
        local_rooms = None;
        spare_rooms = Some n;
      })
  Does (Splits n) s t =
      (n ≤ s.rooms) × (s.spare_rooms ≡ None) × (t ≡ record s { rooms = s.rooms - n; spare_rooms = Some n })
  Does Joins s t =
      (n : ℕ) × (s.spare_rooms ≡ Some n) × (t ≡ record s { rooms = s.rooms + n; spare_rooms = None })
  Does (Idles k) s t = Lacks k s × (t ≡ s)
  Does (Gains b) s t = t ≡ record s { with_user = b ∷ s.with_user }
  Does (Loses b) s t = Without b s.with_user t.with_user × (t ≡ record s { with_user = t.with_user })

  -- calls, one after the other
  abbrev pub Run : List (Call B) → Whereabouts B → Whereabouts B → Type 0
  Run [] s t = t ≡ s
  Run (c ∷ cs) s t = (m : Whereabouts B) × Does c s m × Run cs m t

  -- the blocks that a user came by, and those that it let go of
  abbrev pub gains : List (Call B) → List B
  gains [] = []
  gains (Gains b ∷ cs) = b ∷ gains cs
  gains (c ∷ cs) = gains cs

  abbrev pub losses : List (Call B) → List B
  losses [] = []
  losses (Loses b ∷ cs) = b ∷ losses cs
  losses (c ∷ cs) = losses cs

  -- the command that a call carries out, if it does
  abbrev pub command_of : Call B → Option Command
  command_of (Gets b) = Some kinds.Get
  command_of (Fetches batch first) = Some kinds.Get
  command_of (Puts b) = Some kinds.Put
  command_of (PutsRemote b) = Some kinds.PutRemote
  command_of HandsBack = Some kinds.PutRemote
  command_of Opens = Some kinds.Open
  command_of Finishes = Some kinds.Finish
  command_of (Splits n) = Some (kinds.Split n)
  command_of Joins = Some kinds.Absorb
  command_of (Idles k) = Some k
  command_of c = None

  -- how often a block was to be put back remotely, with or without success
  abbrev pub attempts : List (Call B) → ℕ
  attempts [] = 0
  attempts (PutsRemote b ∷ cs) = suc (attempts cs)
  attempts (HandsBack ∷ cs) = suc (attempts cs)
  attempts (c ∷ cs) = attempts cs

  -- how often a block was to be got where none was local
  abbrev pub fetches : List (Call B) → ℕ
  fetches [] = 0
  fetches (Fetches batch first ∷ cs) = suc (fetches cs)
  fetches (c ∷ cs) = fetches cs

-- what a user did, from the start on
pub record Story (B : Type 0) : Type 0 where
  pub calls : List (Call B)
  pub start : Whereabouts B
  pub end : Whereabouts B
  pub runs : Run calls start end
  pub new : (start.put_back ≡ []) × (start.fetched ≡ [])

module _ {B : Type 0} (f : B → ℕ) where
  -- the sum of f over the blocks with a user or local, at the start and at the end
  abbrev pub at_start : List (Story B) → ℕ
  at_start users = tally (λ u. tally f u.start.with_user + tally f u.start.local) users

  abbrev pub at_end : List (Story B) → ℕ
  at_end users = tally (λ u. tally f u.end.with_user + tally f u.end.local) users

  -- the same for each block that users came by, and for each that they let go of
  abbrev pub all_gains : List (Story B) → ℕ
  all_gains users = tally (λ u. tally f (gains u.calls)) users

  abbrev pub all_losses : List (Story B) → ℕ
  all_losses users = tally (λ u. tally f (losses u.calls)) users

module _ {P H B : Type 0} (block : H → B) where
  -- a legal history, whose pushes and takings are those of these users
  pub record IsOf (users : List (Story B)) (h : List (Event P H)) : Type 0 where
    pub legal : Legal h
    pub pushed : (f : B → ℕ) → tally (λ e. f (block e)) (pushes h) ≡ tally (λ u. tally f u.end.put_back) users
    pub took : (f : B → ℕ) → tally (λ e. f (block e)) (taken_elements h) ≡ tally (λ u. tally f u.end.fetched) users

  -- the sum at the end, and of what is held
  abbrev pub everywhere : (B → ℕ) → List (Story B) → List (Event P H) → ℕ
  everywhere f users h = at_end f users + tally (λ e. f (block e)) (held h)
