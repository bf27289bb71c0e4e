-- What a user of a free list carries out: nothing, and some commands after others.
use Rattle.std.proofs.Common.{◌≡◌, ◌+◌, List, [], ◌∷◌, ◌++◌, map, reverse, length, Option, Some, None, inl, inr, refl, sym, ap, subst, ◌∙◌, arith, append_assoc}
use Rattle.std.proofs.lemmas.List.{map-append, append-nil}
use Rattle.cordyceps_base.specs.Element.{Element}
use Rattle.cordyceps_shared.specs.Shares.{Name}
use Rattle.cordyceps_shared.proofs.Adding.{adds_then}
use Rattle.cordyceps_shared.proofs.Counting.{tally_append}
use Rattle.cordyceps_stack.specs.History.{Event, Load, Push, Taken, Legal, pushes, taken_elements, actor}
use Rattle.cordyceps_stack.specs.Shared.Calls.{PartyOf}
use Rattle.freelist.specs.Blocks.{LocalOf}
use Rattle.freelist.specs.Whereabouts.{Whereabouts, Call, Gets, Fetches, Puts, PutsRemote, HandsBack, Opens, Finishes, Splits, Joins, Idles, Gains, Loses, prepend_option, Lacks, Does, Run, command_of, attempts, fetches}
use Rattle.freelist.specs.Users.{firsts, seconds, BothCarryOut, UserOf, looks, takings, puts_of, gets_of, Acts, ActsLocally, ActInTurn, OnlyBlocks, whereabouts_after, CarriesOut, local_blocks, local_party, rooms_of}
use Rattle.freelist.specs.declared.laws.Command.{Command}
use Rattle.freelist.specs.declared.laws.Command.TheVariants as kinds
use Rattle.freelist.specs.declared.laws.Turn.{Turn}
use Rattle.freelist.specs.declared.laws.Turn.TheVariants as turns

module _ {B : Type 0} where
  -- where earlier calls put some blocks back, and took some
  abbrev moved_blocks : List B → List B → Whereabouts B → Whereabouts B
  moved_blocks xs ys s = record s { put_back = xs ++ s.put_back; fetched = ys ++ s.fetched }

  lacks_moved : (xs ys : List B) (k : Command) (s : Whereabouts B) → Lacks k s → Lacks k (moved_blocks xs ys s)
  lacks_moved xs ys kinds.Get s l = l
  lacks_moved xs ys kinds.Put s l = l
  lacks_moved xs ys kinds.PutRemote s l = l
  lacks_moved xs ys kinds.Open s l = l
  lacks_moved xs ys kinds.Finish s l = l
  lacks_moved xs ys (kinds.Split n) s l = l
  lacks_moved xs ys kinds.Absorb s l = l

  does_moved : (xs ys : List B) (c : Call B) (s t : Whereabouts B) → Does c s t → Does c (moved_blocks xs ys s) (moved_blocks xs ys t)
  does_moved xs ys (Gets b) s t d = (d.0, ap (moved_blocks xs ys) d.1)
  does_moved xs ys (Fetches batch first) s t d =
      (d.0, d.1, d.2, d.3, d.4, ap (moved_blocks xs ys) d.5 ∙ ap (λ z. record t { with_user = prepend_option first s.with_user; local_rooms = Some (d.0 + length batch); put_back = xs ++ s.put_back; fetched = z; rooms = s.rooms; spare_rooms = s.spare_rooms }) (sym (append_assoc ys s.fetched (reverse batch))))
  does_moved xs ys (Puts b) s t d = (d.0, d.1, ap (moved_blocks xs ys) d.2)
  does_moved xs ys (PutsRemote b) s t d =
      (d.0, d.1, ap (moved_blocks xs ys) d.2 ∙ ap (λ z. record s { with_user = t.with_user; put_back = z; fetched = ys ++ s.fetched; rooms = t.rooms }) (sym (append_assoc xs s.put_back (b ∷ []))))
  does_moved xs ys HandsBack s t d = (d.0, d.1, ap (moved_blocks xs ys) d.2)
  does_moved xs ys Opens s t d = (d.0, d.1, d.2, ap (moved_blocks xs ys) d.3)
  does_moved xs ys Finishes s t d = (d.0, d.1, d.2, ap (moved_blocks xs ys) d.3)
  does_moved xs ys (Splits n) s t d = (d.0, d.1, ap (moved_blocks xs ys) d.2)
  does_moved xs ys Joins s t d = (d.0, d.1, ap (moved_blocks xs ys) d.2)
  does_moved xs ys (Idles k) s t d = (lacks_moved xs ys k s d.0, ap (moved_blocks xs ys) d.1)
  does_moved xs ys (Gains b) s t d = ap (moved_blocks xs ys) d
  does_moved xs ys (Loses b) s t d = (d.0, ap (moved_blocks xs ys) d.1)

  run_moved : (xs ys : List B) (cs : List (Call B)) (s t : Whereabouts B) → Run cs s t → Run cs (moved_blocks xs ys s) (moved_blocks xs ys t)
  run_moved xs ys [] s t r = ap (moved_blocks xs ys) r
  run_moved xs ys (c ∷ cs) s t r = (moved_blocks xs ys r.0, does_moved xs ys c s r.0 r.1, run_moved xs ys cs r.0 t r.2)

  pub run_then : (cs ds : List (Call B)) (s m t : Whereabouts B) → Run cs s m → Run ds m t → Run (cs ++ ds) s t
  run_then [] ds s m t r q = subst (λ z. Run ds z t) r q
  run_then (c ∷ cs) ds s m t r q = (r.0, r.1, run_then cs ds r.0 m t r.2 q)

  attempts_append : (cs ds : List (Call B)) → attempts (cs ++ ds) ≡ attempts cs + attempts ds
  attempts_append [] ds = omega arith
  attempts_append (PutsRemote b ∷ cs) ds = omega (arith, attempts_append cs ds)
  attempts_append (HandsBack ∷ cs) ds = omega (arith, attempts_append cs ds)
  attempts_append (c ∷ cs) ds = attempts_append cs ds

  fetches_append : (cs ds : List (Call B)) → fetches (cs ++ ds) ≡ fetches cs + fetches ds
  fetches_append [] ds = omega arith
  fetches_append (Fetches batch first ∷ cs) ds = omega (arith, fetches_append cs ds)
  fetches_append (c ∷ cs) ds = fetches_append cs ds

module _ {H : Type 0} where
  looks_append : (es fs : List (Event Name H)) → looks (es ++ fs) ≡ looks es + looks fs
  looks_append [] fs = omega arith
  looks_append (Load n ∷ es) fs = omega (arith, looks_append es fs)
  looks_append (Push n e ∷ es) fs = looks_append es fs
  looks_append (Taken n batch ∷ es) fs = looks_append es fs

  takings_append : (es fs : List (Event Name H)) → takings (es ++ fs) ≡ takings es + takings fs
  takings_append [] fs = omega arith
  takings_append (Load n ∷ es) fs = takings_append es fs
  takings_append (Push n e ∷ es) fs = takings_append es fs
  takings_append (Taken n batch ∷ es) fs = omega (arith, takings_append es fs)

  pushes_append : (es fs : List (Event Name H)) → pushes (es ++ fs) ≡ pushes es ++ pushes fs
  pushes_append [] fs = refl
  pushes_append (Load n ∷ es) fs = pushes_append es fs
  pushes_append (Push n e ∷ es) fs = ap (λ z. e ∷ z) (pushes_append es fs)
  pushes_append (Taken n batch ∷ es) fs = pushes_append es fs

  taken_append : (es fs : List (Event Name H)) → taken_elements (es ++ fs) ≡ taken_elements es ++ taken_elements fs
  taken_append [] fs = refl
  taken_append (Load n ∷ es) fs = taken_append es fs
  taken_append (Push n e ∷ es) fs = taken_append es fs
  taken_append (Taken n batch ∷ es) fs = ap (λ z. reverse batch ++ z) (taken_append es fs) ∙ sym (append_assoc (reverse batch) (taken_elements es) (taken_elements fs))

  puts_append : (es fs : List (Event Name H)) → puts_of (es ++ fs) ≡ puts_of es ++ puts_of fs
  puts_append [] fs = refl
  puts_append (Load n ∷ es) fs = ap (λ z. Load n ∷ z) (puts_append es fs)
  puts_append (Push n e ∷ es) fs = ap (λ z. Push n e ∷ z) (puts_append es fs)
  puts_append (Taken n batch ∷ es) fs = puts_append es fs

  gets_append : (es fs : List (Event Name H)) → gets_of (es ++ fs) ≡ gets_of es ++ gets_of fs
  gets_append [] fs = refl
  gets_append (Load n ∷ es) fs = gets_append es fs
  gets_append (Push n e ∷ es) fs = gets_append es fs
  gets_append (Taken n batch ∷ es) fs = ap (λ z. Taken n batch ∷ z) (gets_append es fs)

  acts_then : (u v w : PartyOf H) (es fs : List (Event Name H)) → Acts u es v → Acts v fs w → Acts u (es ++ fs) w
  acts_then u v w es fs (inl a) b = subst (λ xs. Acts u (xs ++ fs) w) (sym a.0) (subst (λ z. Acts z fs w) a.1 b)
  acts_then u v w es fs (inr a) (inl b) = subst (λ xs. Acts u (es ++ xs) w) (sym b.0) (subst (λ xs. Acts u xs w) (sym (append-nil es)) (subst (λ z. Acts u es z) (sym b.1) (inr a)))
  acts_then u v w es fs (inr a) (inr b) = inr (adds_then actor (λ h. Legal h) u v w es fs a b)

module _ {T H : Type 0} where
  locally_then : (l m k : Option (LocalOf T H)) (es fs : List (Event Name H)) → ActsLocally l es m → ActsLocally m fs k → ActsLocally l (es ++ fs) k
  locally_then None None None es fs a b = ap (λ z. z ++ fs) a ∙ b
  locally_then None None (Some k) es fs a b = b
  locally_then None (Some m) k es fs a b = absurd a
  locally_then (Some l) None k es fs a b = absurd a
  locally_then (Some l) (Some m) None es fs a b = b
  locally_then (Some l) (Some m) (Some k) es fs a b = acts_then l.party m.party k.party es fs a b

  in_turn_then : (u v w : UserOf T H) (es fs : List (Event Name H)) → ActInTurn u es v → ActInTurn v fs w → ActInTurn u (es ++ fs) w
  in_turn_then u v w es fs a b = (
    subst (λ z. Acts u.party z w.party) (sym (puts_append es fs)) (acts_then u.party v.party w.party (puts_of es) (puts_of fs) a.0 b.0),
    subst (λ z. ActsLocally u.local z w.local) (sym (gets_append es fs)) (locally_then u.local v.local w.local (gets_of es) (gets_of fs) a.1 b.1),
    b.2 ∙ a.2,
  )

  pub stays_local : (l : Option (LocalOf T H)) → ActsLocally l [] l
  stays_local None = refl
  stays_local (Some l) = inl (refl, refl)

  pub stays : (u : UserOf T H) → ActInTurn u [] u
  stays u = (inl (refl, refl), stays_local u.local, refl)

only_first : (ks js : List Command) → OnlyBlocks (ks ++ js) → OnlyBlocks ks
only_first [] js o = tt
only_first (kinds.Get ∷ ks) js o = only_first ks js o
only_first (kinds.Put ∷ ks) js o = only_first ks js o
only_first (kinds.PutRemote ∷ ks) js o = only_first ks js o
only_first (kinds.Open ∷ ks) js o = o
only_first (kinds.Finish ∷ ks) js o = o
only_first (kinds.Split n ∷ ks) js o = o
only_first (kinds.Absorb ∷ ks) js o = o

only_last : (ks js : List Command) → OnlyBlocks (ks ++ js) → OnlyBlocks js
only_last [] js o = o
only_last (kinds.Get ∷ ks) js o = only_last ks js o
only_last (kinds.Put ∷ ks) js o = only_last ks js o
only_last (kinds.PutRemote ∷ ks) js o = only_last ks js o
only_last (kinds.Open ∷ ks) js o = absurd o
only_last (kinds.Finish ∷ ks) js o = absurd o
only_last (kinds.Split n ∷ ks) js o = absurd o
only_last (kinds.Absorb ∷ ks) js o = absurd o

module _ {T H : Type 0} (element : H → Element T) where
  -- a user's blocks, where it put some back, and took some
  abbrev place : UserOf T H → List (Element T) → List (Element T) → Whereabouts (Element T)
  place u xs ys = record { with_user = u.hand; local = local_blocks u.local; put_back = xs; fetched = ys; rooms = u.party.rooms; local_rooms = rooms_of (local_party u.local); spare_rooms = rooms_of u.spare }

  pub carries_none : (u : UserOf T H) → CarriesOut element [] u u
  carries_none u = record {
    calls = [];
    events = [];
    carries = refl;
    runs = refl;
    looked = refl;
    took = refl;
    own_events = λ g. omega arith;
    in_turn = λ o. stays u;
    knows = λ k. k;
    names = λ n h. h;
    table = refl;
  }

  pub carries_then : (ks js : List Command) (u v w : UserOf T H) → CarriesOut element ks u v → CarriesOut element js v w → CarriesOut element (ks ++ js) u w
  carries_then ks js u v w a b =
      let put = ap (map element) (pushes_append a.events b.events) ∙ map-append element (pushes a.events) (pushes b.events) in
      let got = ap (map element) (taken_append a.events b.events) ∙ map-append element (taken_elements a.events) (taken_elements b.events) in
      let xs = map element (pushes a.events) in
      let ys = map element (taken_elements a.events) in
      let xs2 = map element (pushes b.events) in
      let ys2 = map element (taken_elements b.events) in
      let moved_on = run_moved xs ys b.calls (whereabouts_after element v []) (whereabouts_after element w b.events) b.runs in
      let start = subst (λ z. Run b.calls (place v z (ys ++ [])) (place w (xs ++ xs2) (ys ++ ys2))) (append-nil xs) moved_on in
      let start2 = subst (λ z. Run b.calls (place v xs z) (place w (xs ++ xs2) (ys ++ ys2))) (append-nil ys) start in
      let end = subst (λ z. Run b.calls (place v xs ys) (place w z (ys ++ ys2))) (sym put) start2 in
      let end2 = subst (λ z. Run b.calls (place v xs ys) (place w (map element (pushes (a.events ++ b.events))) z)) (sym got) end in
      record {
        calls = a.calls ++ b.calls;
        events = a.events ++ b.events;
        carries = map-append command_of a.calls b.calls ∙ (ap (λ z. z ++ map command_of b.calls) a.carries ∙ (ap (λ z. map Some ks ++ z) b.carries ∙ sym (map-append Some ks js)));
        runs = run_then a.calls b.calls (whereabouts_after element u []) (whereabouts_after element v a.events) (whereabouts_after element w (a.events ++ b.events)) a.runs end2;
        looked = omega (arith, a.looked, b.looked, looks_append a.events b.events, attempts_append a.calls b.calls);
        took = omega (arith, a.took, b.took, takings_append a.events b.events, fetches_append a.calls b.calls);
        own_events = λ g. omega (arith, a.own_events g, b.own_events g, tally_append g a.events b.events);
        in_turn = λ o. in_turn_then u v w a.events b.events (a.in_turn (only_first ks js o)) (b.in_turn (only_last ks js o));
        knows = λ k. b.knows (a.knows k);
        names = λ n h. b.names n (a.names n h);
        table = b.table ∙ a.table;
      }

firsts_append : (ts us : List Turn) → firsts (ts ++ us) ≡ firsts ts ++ firsts us
firsts_append [] us = refl
firsts_append (turns.First k ∷ ts) us = ap (λ z. k ∷ z) (firsts_append ts us)
firsts_append (turns.Second k ∷ ts) us = firsts_append ts us

seconds_append : (ts us : List Turn) → seconds (ts ++ us) ≡ seconds ts ++ seconds us
seconds_append [] us = refl
seconds_append (turns.First k ∷ ts) us = seconds_append ts us
seconds_append (turns.Second k ∷ ts) us = ap (λ z. k ∷ z) (seconds_append ts us)

module _ {T H : Type 0} (element : H → Element T) where
  pub both_first : (t : Turn) (k : Command) (u u2 v : UserOf T H) → t ≡ turns.First k → CarriesOut element (k ∷ []) u u2 → BothCarryOut element (t ∷ []) u u2 v v
  both_first t k u u2 v is c = subst (λ z. BothCarryOut element (z ∷ []) u u2 v v) (sym is) (c, carries_none element v)

  pub both_second : (t : Turn) (k : Command) (u v v2 : UserOf T H) → t ≡ turns.Second k → CarriesOut element (k ∷ []) v v2 → BothCarryOut element (t ∷ []) u u v v2
  both_second t k u v v2 is c = subst (λ z. BothCarryOut element (z ∷ []) u u v v2) (sym is) (carries_none element u, c)

  pub both_then : (ts us : List Turn) (u u2 u3 v v2 v3 : UserOf T H) → BothCarryOut element ts u u2 v v2 → BothCarryOut element us u2 u3 v2 v3 → BothCarryOut element (ts ++ us) u u3 v v3
  both_then ts us u u2 u3 v v2 v3 a b = (
    subst (λ z. CarriesOut element z u u3) (sym (firsts_append ts us)) (carries_then element (firsts ts) (firsts us) u u2 u3 a.0 b.0),
    subst (λ z. CarriesOut element z v v3) (sym (seconds_append ts us)) (carries_then element (seconds ts) (seconds us) v v2 v3 a.1 b.1),
  )
