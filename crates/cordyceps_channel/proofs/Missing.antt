-- What a receiver received whose last try got none.
use Rattle.std.proofs.Common.{◌≡◌, ℕ, List, [], ◌∷◌, ◌++◌, Bool, true, ◌≤◌, length, map, refl, sym, ap, ◌∙◌, subst, append_assoc, inl, inr, ⊎_elim, arith}
use Rattle.std.specs.Prelude.{◌⊎◌, Err}
use Rattle.std.proofs.lemmas.List.{map-id, append-nil, append_cancel_left}
use Rattle.cordyceps_shared.specs.Histories.{plain, own, others}
use Rattle.cordyceps_shared.specs.Knowing.{Foreign}
use Rattle.cordyceps_shared.specs.Shares.{Name, first_name}
use Rattle.cordyceps_shared.specs.Standings.{name_of}
use Rattle.cordyceps_shared.proofs.Adding.{plain_append}
use Rattle.cordyceps_shared.proofs.HistoryMarks.{own_append, others_append, since}
use Rattle.cordyceps_queue.specs.declared.cores.steps.TryDequeueError.{TryDequeueError}
use Rattle.cordyceps_queue.specs.declared.cores.steps.TryDequeueError.TheVariants as error
use Rattle.cordyceps_queue.specs.History.{Event, Look, Empty, actor, went, outs}
use Rattle.cordyceps_queue.specs.Shared.Batches.{StopsAt, TakesLinked}
use Rattle.cordyceps_queue.specs.Shared.Calls.{PartyOf, Adds, BlockedAfter, StopsBlocked, Consumes, FindsBusy}
use Rattle.cordyceps_queue.proofs.SharedTheory.PartyMoves.{moves_linked, moves_right, moves_consume}
use Rattle.cordyceps_channel.specs.Channels.{GetsNone, Receives, ReceivesBatch, RunsOut, Misses, Stays}
use Rattle.cordyceps_channel.proofs.Received.{moves_receives, went_own, receives_none, receives_then, stays, stays_then}

module _ {E : Type 0} where
  -- ---- tries that got none
  gets_none : (u w : PartyOf E) → GetsNone u w → Receives [] u w
  gets_none u w g = ⊎_elim (λ b. moves_receives u w [] (moves_right (λ x. x) u w (inr (inl b)))) (λ t. moves_receives u w [] (moves_consume (λ x. x) (Err t.0) u w t.1)) g

  pub runs_receives : (es : List E) (u w : PartyOf E) → RunsOut es u w → Receives es u w
  runs_receives es u w r =
      let missed = receives_then u r.before r.after es [] r.receives (gets_none r.before r.after r.tries) in
      subst (λ l. Receives l u w) (append-nil (es ++ []) ∙ append-nil es) (receives_then u r.after w (es ++ []) [] missed r.stays.receives)

  pub runs_later : (es fs : List E) (u v w : PartyOf E) → Receives es u v → RunsOut fs v w → RunsOut (es ++ fs) u w
  runs_later es fs u v w first r = record { before = r.before; after = r.after; receives = receives_then u v r.before es fs first r.receives; tries = r.tries; stays = r.stays }

  pub runs_then : (es : List E) (u v w : PartyOf E) → RunsOut es u v → Stays v w → RunsOut es u w
  runs_then es u v w r s = record { before = r.before; after = r.after; receives = r.receives; tries = r.tries; stays = stays_then r.after v w r.stays s }

  pub misses_busy : (u w : PartyOf E) → FindsBusy u w → Misses u w
  misses_busy u w b = record { before = u; after = w; receives = receives_none u; tries = inl b; stays = stays w }

  pub misses_held : (why : TryDequeueError) (u v w : PartyOf E) → Receives [] u v → Consumes (Err why) v w → Misses u w
  misses_held why u v w before c = record { before = v; after = w; receives = before; tries = inr (why, c); stays = stays w }

  -- ---- several at a time
  -- what a party was after its first own events
  outs_went : (n : Name) (es : List E) → went (outs n es) ≡ es
  outs_went n [] = refl
  outs_went n (e ∷ es) = ap (λ l. e ∷ l) (outs_went n es)

  foreign_rest : (share : List Name) (xs ys : List (Event Name E)) → Foreign actor share (xs ++ ys) → Foreign actor share ys
  foreign_rest share [] ys f = f
  foreign_rest share (x ∷ xs) ys f = foreign_rest share xs ys f.1

  -- the events of a call, cut in two before an own one
  pub record IsCut (u : PartyOf E) (first : List (Event Name E)) (x : Event Name E) (later : List (Event Name E)) (w : PartyOf E) : Type 0 where
    pub between : PartyOf E
    pub front : List (Bool × Event Name E)
    pub is : between.seen ≡ u.seen ++ front
    pub did : own front ≡ first
    pub table : between.table ≡ u.table
    pub share : between.share ≡ u.share
    pub rooms : w.rooms ≡ between.rooms
    pub adds : Adds between (x ∷ later) w

  cut : (u w : PartyOf E) (first later : List (Event Name E)) (x : Event Name E) → Adds u (first ++ x ∷ later) w → IsCut u first x later w
  cut u w first later x a =
      let g = a.0 in
      let s = since g.rest first later x g.adds in
      let back = (true, x) ∷ s.later in
      let all : own s.front ++ x ∷ own s.later ≡ first ++ x ∷ later = sym (own_append s.front back) ∙ (ap own (sym s.is) ∙ g.adds) in
      let mine : first ++ x ∷ own s.later ≡ first ++ x ∷ later = ap (λ l. l ++ x ∷ own s.later) (sym s.mine) ∙ all in
      record {
        between = record { table = u.table; seen = u.seen ++ s.front; share = u.share; rooms = w.rooms };
        front = s.front;
        is = refl;
        did = s.mine;
        table = refl;
        share = refl;
        rooms = refl;
        adds = (
          record {
            rest = back;
            is = g.is ∙ (ap (λ l. u.seen ++ l) s.is ∙ sym (append_assoc u.seen s.front back));
            adds = append_cancel_left first (x ∷ own s.later) (x ∷ later) mine;
            foreign = foreign_rest u.share (others s.front) (others back) (subst (λ l. Foreign actor u.share l) (ap others s.is ∙ others_append s.front back) g.foreign);
            legal = g.legal;
            share = g.share;
            alone = g.alone;
          },
          a.1,
        );
      }

  -- what came out before the cut
  cut_receives : (u w : PartyOf E) (n : Name) (es : List E) (x : Event Name E) (later : List (Event Name E)) → (c : IsCut u (outs n es) x later w) → Receives es u c.between
  cut_receives u w n es x later c = record {
    table = c.table;
    elements = ap (λ l. went (own l)) c.is ∙ (went_own u.seen c.front ∙ ap (λ l. went (own u.seen) ++ l) (ap went c.did ∙ outs_went n es));
    seen = (plain c.front, ap plain c.is ∙ plain_append u.seen c.front);
  }

  same_name : (u v : PartyOf E) → v.share ≡ u.share → name_of u ≡ name_of v
  same_name u v is = ap first_name (sym is)

  -- a batch after which nothing was held, or a try was blocked
  runs_empty : (es : List E) (u w : PartyOf E) → Adds u (outs (name_of u) es ++ Look (name_of u) ∷ Empty (name_of u) ∷ []) w → RunsOut es u w
  runs_empty es u w a =
      let n = name_of u in
      let c = cut u w (outs n es) (Empty n ∷ []) (Look n) a in
      let again = subst (λ m. Adds c.between (Look m ∷ Empty m ∷ []) w) (same_name u c.between c.share) c.adds in record {
        before = c.between;
        after = w;
        receives = cut_receives u w n es (Look n) (Empty n ∷ []) c;
        tries = inr (error.Empty, (again, c.rooms));
        stays = stays w;
      }

  runs_blocked : (es : List E) (u w : PartyOf E) → Adds u (outs (name_of u) es ++ Look (name_of u) ∷ []) w → BlockedAfter u (outs (name_of u) es ++ Look (name_of u) ∷ []) w → RunsOut es u w
  runs_blocked es u w a b =
      let n = name_of u in
      let c = cut u w (outs n es) [] (Look n) a in
      let own_then : own c.between.seen ≡ own u.seen ++ outs n es = ap own c.is ∙ (own_append u.seen c.front ∙ ap (λ l. own u.seen ++ l) c.did) in
      let past : own b.past ≡ own c.between.seen ++ Look n ∷ [] = b.adds ∙ (sym (append_assoc (own u.seen) (outs n es) (Look n ∷ [])) ∙ ap (λ l. l ++ Look n ∷ []) (sym own_then)) in
      let blocked : BlockedAfter c.between (Look n ∷ []) w = record { past = b.past; later = b.later; is = b.is; adds = past; blocked = b.blocked } in
      let again = subst (λ m. StopsBlocked c.between (Look m ∷ []) (Look m ∷ []) w) (same_name u c.between c.share) record { adds = c.adds; rooms = c.rooms; prefix = blocked } in record {
        before = c.between;
        after = w;
        receives = cut_receives u w n es (Look n) [] c;
        tries = inr (error.Inconsistent, again);
        stays = stays w;
      }

  runs_short : (max : ℕ) (es : List E) (u w : PartyOf E) → StopsAt max es u w → (length es ≡ max) ⊎ RunsOut es u w
  runs_short max es u w s = ⊎_elim (λ a. inl a.0) (λ r. inr (⊎_elim (λ b. runs_empty es u w b.1) (λ d. let (few, adds, blocked) = d in runs_blocked es u w adds blocked) r)) s

  few_taken : (max : ℕ) (es : List E) (u w : PartyOf E) → StopsAt max es u w → length es ≤ max
  few_taken max es u w s = ⊎_elim (λ a. omega (arith, a.0)) (λ r. ⊎_elim (λ b. omega (arith, b.0)) (λ d. omega (arith, d.0)) r) s

  pub takes_receives : {A : Type 0} (f : E → A) (max : ℕ) (batch : List A) (es : List E) (u w : PartyOf E) → batch ≡ map f es → TakesLinked max es u w → ReceivesBatch f max batch u w
  takes_receives f max batch es u w is t = record {
    elements = es;
    items = is;
    some = t.some;
    few = few_taken max es u w t.stops;
    receives = subst (λ l. Receives l u w) (map-id es) (moves_receives u w (map (λ x. x) es) (moves_linked (λ x. x) max es u w t));
    stops = runs_short max es u w t.stops;
  }

  pub batch_then : {A : Type 0} (f : E → A) (max : ℕ) (batch : List A) (u v w : PartyOf E) → Receives [] u v → ReceivesBatch f max batch v w → ReceivesBatch f max batch u w
  batch_then f max batch u v w before b = record {
    elements = b.elements;
    items = b.items;
    some = b.some;
    few = b.few;
    receives = receives_then u v w [] b.elements before b.receives;
    stops = ⊎_elim (λ a. inl a) (λ r. inr (runs_later [] b.elements u v w before r)) b.stops;
  }

  pub batch_stays : {A : Type 0} (f : E → A) (max : ℕ) (batch : List A) (u v w : PartyOf E) → ReceivesBatch f max batch u v → Stays v w → ReceivesBatch f max batch u w
  batch_stays f max batch u v w b s = record {
    elements = b.elements;
    items = b.items;
    some = b.some;
    few = b.few;
    receives = subst (λ l. Receives l u w) (append-nil b.elements) (receives_then u v w b.elements [] b.receives s.receives);
    stops = ⊎_elim (λ a. inl a) (λ r. inr (runs_then b.elements u v w r s)) b.stops;
  }
