-- What a contract sees of a user of a free list, and what the user's commands do to it; and what users have done whose
-- parties met.
use Rattle.std.specs.Prelude.{◌≡◌, ℕ, suc, ◌+◌, ◌*◌, List, [], ◌∷◌, ◌++◌, map, reverse, Option, Some, None, ◌⊎◌}
use Rattle.atomic_table.specs.Seated.{TableId}
use Rattle.cordyceps_base.specs.Element.{Element}
use Rattle.cordyceps_shared.specs.Counts.{tally, Same}
use Rattle.cordyceps_shared.specs.Histories.{plain, own}
use Rattle.cordyceps_shared.specs.Shares.{Name, whole, keeps_half, gives_half}
use Rattle.cordyceps_shared.specs.Standings.{new_party, keeping, giving, Knows, Absorbs}
use Rattle.cordyceps_stack.specs.History.{Event, Load, Push, Taken, Legal, held, pushes, taken_elements}
use Rattle.cordyceps_stack.specs.Shared.Calls.{PartyOf, Adds}
use Rattle.freelist.specs.Blocks.{LocalOf}
use Rattle.freelist.specs.Whereabouts.{Whereabouts, Call, Run, prepend_option, command_of, attempts, fetches, Story}
use Rattle.freelist.specs.Whereabouts.{at_start, at_end, all_gains, all_losses}
use Rattle.freelist.specs.declared.laws.Command.{Command}
use Rattle.freelist.specs.declared.laws.Command.TheVariants as kinds
use Rattle.freelist.specs.declared.laws.Turn.{Turn}
use Rattle.freelist.specs.declared.laws.Turn.TheVariants as turns

-- what a contract sees of a user: its free list's table, the blocks that are with it, the last come by first, its local
-- part, if it has one, the party that puts blocks back remotely, and a spare one, if there is one
pub record UserOf (T H : Type 0) : Type 0 where
  pub table : TableId
  pub hand : List (Element T)
  pub local : Option (LocalOf T H)
  pub party : PartyOf H
  pub spare : Option (PartyOf H)

module _ {T H : Type 0} where
  -- a user with one party, which has neither a local part nor a spare party
  abbrev pub alone : TableId → List (Element T) → PartyOf H → UserOf T H
  alone table hand party = record { table = table; hand = hand; local = None; party = party; spare = None }

  abbrev pub local_blocks : Option (LocalOf T H) → List (Element T)
  local_blocks None = []
  local_blocks (Some l) = l.blocks

  abbrev pub local_party : Option (LocalOf T H) → Option (PartyOf H)
  local_party None = None
  local_party (Some l) = Some l.party

  abbrev pub parties_of : UserOf T H → List (PartyOf H)
  parties_of u = u.party ∷ prepend_option u.spare (prepend_option (local_party u.local) [])

module _ {H : Type 0} where
  -- the party is of this table, if there is one
  abbrev pub AtTable : TableId → Option (PartyOf H) → Type 0
  AtTable table None = Unit {0}
  AtTable table (Some p) = p.table ≡ table

  -- and so are all parties of a user
  abbrev pub AreAt : {T : Type 0} → TableId → PartyOf H → Option (LocalOf T H) → Option (PartyOf H) → Type 0
  AreAt table p l o = (p.table ≡ table) × AtTable table (local_party l) × AtTable table o

  abbrev pub rooms_of : Option (PartyOf H) → Option ℕ
  rooms_of None = None
  rooms_of (Some p) = Some p.rooms

  abbrev pub share_of : Option (PartyOf H) → Option (List Name)
  share_of None = None
  share_of (Some p) = Some p.share

  abbrev pub AllKnow : List (PartyOf H) → Type 0
  AllKnow [] = Unit {0}
  AllKnow (p ∷ ps) = Knows (λ h. Legal h) p × AllKnow ps

  -- the sum of what g gives for each own event of some parties
  abbrev pub own_sum : (Event Name H → ℕ) → List (PartyOf H) → ℕ
  own_sum g parties = tally (λ p. tally g (own p.seen)) parties

  -- how often a party looked at what is shared, and how often it took that
  abbrev pub looks : List (Event Name H) → ℕ
  looks [] = 0
  looks (Load n ∷ es) = suc (looks es)
  looks (Push n e ∷ es) = looks es
  looks (Taken n batch ∷ es) = looks es

  abbrev pub takings : List (Event Name H) → ℕ
  takings [] = 0
  takings (Load n ∷ es) = takings es
  takings (Push n e ∷ es) = takings es
  takings (Taken n batch ∷ es) = suc (takings es)

  -- the events by which blocks are put back, and those by which they are taken
  abbrev pub puts_of : List (Event Name H) → List (Event Name H)
  puts_of [] = []
  puts_of (Load n ∷ es) = Load n ∷ puts_of es
  puts_of (Push n e ∷ es) = Push n e ∷ puts_of es
  puts_of (Taken n batch ∷ es) = puts_of es

  abbrev pub gets_of : List (Event Name H) → List (Event Name H)
  gets_of [] = []
  gets_of (Load n ∷ es) = gets_of es
  gets_of (Push n e ∷ es) = gets_of es
  gets_of (Taken n batch ∷ es) = Taken n batch ∷ gets_of es

  -- a party made these events, or none and is as it was
  abbrev pub Acts : PartyOf H → List (Event Name H) → PartyOf H → Type 0
  Acts p es q = ((es ≡ []) × (q ≡ p)) ⊎ Adds p es q

-- these are the shares into which splits made that of this name alone: of the party that puts back remotely, of that of
-- the local part, and of the spare one
abbrev pub Divides : Name → List Name → Option (List Name) → Option (List Name) → Type 0
Divides n p None None = p ≡ n ∷ []
Divides n p (Some l) None = (p ≡ keeps_half (n ∷ [])) × (l ≡ gives_half (n ∷ []))
Divides n p None (Some o) = (p ≡ keeps_half (n ∷ [])) × (o ≡ gives_half (n ∷ []))
Divides n p (Some l) (Some o) =
    (p ≡ keeps_half (keeps_half (n ∷ []))) × (l ≡ gives_half (n ∷ [])) × (o ≡ gives_half (keeps_half (n ∷ [])))

module _ {T H : Type 0} where
  -- the parties of a user came of one with this name
  abbrev pub HasName : Name → UserOf T H → Type 0
  HasName n u = Divides n u.party.share (share_of (local_party u.local)) (share_of u.spare)

  -- the local part's party made these events
  abbrev pub ActsLocally : Option (LocalOf T H) → List (Event Name H) → Option (LocalOf T H) → Type 0
  ActsLocally None es None = es ≡ []
  ActsLocally (Some l) es (Some k) = Acts l.party es k.party
  ActsLocally None es (Some k) = ⊥
  ActsLocally (Some l) es None = ⊥

  -- the party put blocks back by some of these events, and that of the local part took some by the others
  abbrev pub ActInTurn : UserOf T H → List (Event Name H) → UserOf T H → Type 0
  ActInTurn u es w = Acts u.party (puts_of es) w.party × ActsLocally u.local (gets_of es) w.local × (w.spare ≡ u.spare)

-- the commands after which a user has one party, and neither a local part nor a spare party
abbrev pub closing : List Command
closing = kinds.Absorb ∷ kinds.Finish ∷ kinds.Absorb ∷ []

-- no command is about parties
abbrev pub OnlyBlocks : List Command → Type 0
OnlyBlocks [] = Unit {0}
OnlyBlocks (kinds.Get ∷ ks) = OnlyBlocks ks
OnlyBlocks (kinds.Put ∷ ks) = OnlyBlocks ks
OnlyBlocks (kinds.PutRemote ∷ ks) = OnlyBlocks ks
OnlyBlocks (k ∷ ks) = ⊥

module _ {T H : Type 0} (element : H → Element T) where
  -- the whereabouts of a user's blocks after its parties made these events
  abbrev pub whereabouts_after : UserOf T H → List (Event Name H) → Whereabouts (Element T)
  whereabouts_after u es =
      record {
        with_user = u.hand;
        local = local_blocks u.local;
        put_back = map element (pushes es);
        fetched = map element (taken_elements es);
        rooms = u.party.rooms;
        local_rooms = rooms_of (local_party u.local);
        spare_rooms = rooms_of u.spare;
      }

  -- a user carried out these commands, by one call each, and did nothing else
  pub record CarriesOut (ks : List Command) (u w : UserOf T H) : Type 0 where
    pub calls : List (Call (Element T))
    -- what all its parties did, in this order
    pub events : List (Event Name H)
    pub carries : map command_of calls ≡ map Some ks
    pub runs : Run calls (whereabouts_after u []) (whereabouts_after w events)
    pub looked : looks events ≡ attempts calls
    pub took : takings events ≡ fetches calls
    -- their own events are these and the earlier ones, each as often
    pub own_events : (g : Event Name H → ℕ) → own_sum g (parties_of w) ≡ own_sum g (parties_of u) + tally g events
    -- of each party in their order
    pub in_turn : OnlyBlocks ks → ActInTurn u events w
    pub knows : AllKnow (parties_of u) → AllKnow (parties_of w)
    pub names : (n : Name) → HasName n u → HasName n w
    pub table : w.table ≡ u.table

  -- a user, from the start on: its story, and its parties at the end, whose own events are those of the story
  pub record Life : Type 0 where
    pub story : Story (Element T)
    pub parties : List (PartyOf H)
    pub events : List (Event Name H)
    pub own_events : (g : Event Name H → ℕ) → own_sum g parties ≡ tally g events
    pub put_back : story.end.put_back ≡ map element (pushes events)
    pub fetched : story.end.fetched ≡ map element (taken_elements events)

  abbrev pub all_parties : List Life → List (PartyOf H)
  all_parties [] = []
  all_parties (l ∷ lives) = l.parties ++ all_parties lives

  abbrev pub stories : List Life → List (Story (Element T))
  stories lives = map (λ l. l.story) lives

  -- for each f, its sum over all blocks that these users have at the end, over what is shared, and over what they
  -- let go of, is that over what they had at the start and came by
  abbrev pub EachOnce : List Life → List (Element T) → Type 0
  EachOnce lives shared =
      (f : Element T → ℕ) →
      at_end f (stories lives) + tally f shared + all_losses f (stories lives)
      ≡ at_start f (stories lives) + all_gains f (stories lives)

-- these parties were absorbed, one into another, until this one was left
pub data Met {H : Type 0} : List (PartyOf H) → PartyOf H → Type 0 where
  one : (p : PartyOf H) → Met (p ∷ []) p
  absorbed : (ps qs : List (PartyOf H)) (u o w : PartyOf H) → Met ps u → Met qs o → Absorbs (λ h. Legal h) u o w →
      Met (ps ++ qs) w

-- the commands of the first of two users who take turns, and those of the second
abbrev pub firsts : List Turn → List Command
firsts [] = []
firsts (turns.First k ∷ ts) = k ∷ firsts ts
firsts (turns.Second k ∷ ts) = firsts ts

abbrev pub seconds : List Turn → List Command
seconds [] = []
seconds (turns.First k ∷ ts) = seconds ts
seconds (turns.Second k ∷ ts) = k ∷ seconds ts

module _ {T H : Type 0} (element : H → Element T) where
  -- each of the two carried out its commands
  abbrev pub BothCarryOut : List Turn → UserOf T H → UserOf T H → UserOf T H → UserOf T H → Type 0
  BothCarryOut ts u u2 v v2 = CarriesOut element (firsts ts) u u2 × CarriesOut element (seconds ts) v v2

  -- two users of a new list, each with so many of its rooms, took turns, and then ended with these blocks, and with a
  -- party each; one absorbed the other, and gave what was shared
  pub record BothRun (ts : List Turn) (rooms : ℕ) (mine yours mine2 yours2 shared : List (Element T)) : Type 0 where
    pub table : TableId
    pub first : PartyOf H
    pub second : PartyOf H
    pub last : PartyOf H
    pub first_carries : CarriesOut element (firsts ts
        ++ closing) (alone table mine (keeping rooms (new_party table (2 * rooms)))) (alone table mine2 first)
    pub second_carries : CarriesOut element (seconds ts
        ++ closing) (alone table yours (giving rooms (new_party table (2 * rooms)))) (alone table yours2 second)
    pub met : Absorbs (λ h. Legal h) first second last
    pub ends_whole : last.share ≡ whole
    pub shared_is : shared ≡ map element (reverse (held (plain last.seen)))
    pub same : Same (mine2 ++ (yours2 ++ shared)) (mine ++ yours)
