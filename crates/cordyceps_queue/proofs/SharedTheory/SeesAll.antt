-- A party looks at the whole history, and may add events of its own at which the machine stays as it is.
use Rattle.std.proofs.Common.{◌≡◌, ◌≢◌, ℕ, List, [], ◌++◌, reverse, set, refl, sym, ap, ◌∙◌, subst, append_assoc, arith}
use Rattle.std.proofs.lemmas.List.{reverse-append}
use mathlib.Core.Option.{some}
use lib.ListN.{get_elem?}
use Rattle.cordyceps_shared.specs.FreeChains.{Links}
use Rattle.cordyceps_shared.specs.Histories.{events, plain, of_seat}
use Rattle.cordyceps_shared.specs.Knowing.{IsPrefixOf, Under, all_seen}
use Rattle.cordyceps_shared.specs.Shares.{Name}
use Rattle.cordyceps_shared.specs.Slots.{EmptyAtHome}
use Rattle.cordyceps_shared.proofs.ChangedItems.{one_set}
use Rattle.cordyceps_shared.proofs.HistoryMarks.{events_more, plain_marked}
use Rattle.cordyceps_shared.proofs.StepEvents.{at_length, Told, tells}
use Rattle.cordyceps_queue.specs.declared.cores.stage.Stage.TheVariants.{Cleared}
use Rattle.cordyceps_queue.specs.History.{Event, actor}
use Rattle.cordyceps_queue.specs.Cores.Meets.{Meets}
use Rattle.cordyceps_queue.specs.Shared.Plays.{LegalReversed, Sees}
use Rattle.cordyceps_queue.specs.Shared.Rule.{TableState, History, party, machine_of, PlainHolds}
use Rattle.cordyceps_queue.specs.Shared.View.{View, knows, name}
use Rattle.cordyceps_queue.proofs.CoreTheory.Basics.{put_again}
use Rattle.cordyceps_queue.proofs.SharedTheory.WordsAsMachine.{party_spelled, core, party_at, parties_put, count_same, spent_else}

module _ {E : Type 0} (s : TableState E) (k : PlainHolds s) (id : ℕ) (v : View E) (at : get_elem? s.views id ≡ some v) (named : v.known.share ≢ []) (es : List (Event Name E)) (under : Under actor (name v) es) (met : Meets (core s k) k.chain (reverse es ++ reverse (events k.history))) where
  abbrev pub history_now : History E
  history_now = k.history ++ of_seat id es

  abbrev pub looking : View E
  looking = record v { known = all_seen id history_now v.known.share }

  recent : reverse es ++ reverse (events k.history) ≡ reverse (events history_now)
  recent = sym (ap (λ z. reverse z) (events_more k.history id es) ∙ reverse-append (events k.history) es)

  as_was : core s k ≡ machine_of k.cell s.words (set s.views id looking)
  as_was = party_spelled s.words k.cell (set s.views id looking) (sym (put_again (core s k).party id (party v) (party_at s k id v at named)) ∙ sym (parties_put s.views id looking (at_length s.views id v at) named))

  meets_now : Meets (machine_of k.cell s.words (set s.views id looking)) k.chain (reverse (events history_now))
  meets_now = subst (λ l. Meets (machine_of k.cell s.words (set s.views id looking)) k.chain l) recent (subst (λ m. Meets m k.chain (reverse es ++ reverse (events k.history))) as_was met)

  tells_all : Told actor knows LegalReversed s.views k.history id es v looking
  tells_all = tells actor knows LegalReversed s.views k.history id es v looking k.owned k.fits at named under refl meets_now.legal

  pub looked_sees : Sees v es looking
  looked_sees = tells_all.grown

  pub looked_history : plain looking.known.seen ≡ events k.history ++ es
  looked_history = plain_marked id history_now ∙ events_more k.history id es

  pub looked_told : IsPrefixOf (plain v.known.told) (plain looking.known.seen)
  looked_told = let f = k.fits id v at in (f.told.0 ++ es, looked_history ∙ (ap (λ l. l ++ es) f.told.1 ∙ append_assoc (plain v.known.told) f.told.0 es))

  -- the plain rule once the party has looked
  pub record HasLooked : Type 0 where
    pub now : PlainHolds record { words = s.words; homes = s.homes; views = set s.views id looking }
    pub uses : now.uses ≡ k.uses
    pub pool : now.pool ≡ k.pool
    pub rooms : now.chain.rooms ≡ k.chain.rooms
    pub history : events now.history ≡ events k.history ++ es

  pub looked_holds : HasLooked
  looked_holds = record {
    now = record {
      uses = k.uses;
      history = history_now;
      cell = k.cell;
      chain = k.chain;
      pool = k.pool;
      meets = meets_now;
      wide = k.wide;
      stub = k.stub;
      full = k.full;
      empty = one_set (λ _ u. u.known.share ≢ [] → EmptyAtHome s.homes u.free) s.views id looking (λ _. k.empty id v at named) (λ j u _ e some_name. k.empty j u e some_name);
      ready = λ j u r. one_set (λ _ z. z.known.share ≢ [] → z.stage ≡ Cleared r → k.cell r ≡ z.item) s.views id looking (λ _ is. k.ready id v r at named is) (λ i z _ e some_name is. k.ready i z r e some_name is) j u;
      linked = one_set (λ _ u. u.known.share ≢ [] → Links s.words u.free u.end × Links s.words u.back u.to) s.views id looking (λ _. k.linked id v at named) (λ j u _ e some_name. k.linked j u e some_name);
      pooled = k.pooled;
      all = let all = k.all in let same = count_same s.views id v looking at refl in omega arith;
      spent = spent_else s k id looking named;
      fits = tells_all.fits;
      owned = tells_all.owned;
    };
    uses = refl;
    pool = refl;
    rooms = refl;
    history = events_more k.history id es;
  }
