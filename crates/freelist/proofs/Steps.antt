-- What a user of a free list carries out by one call.
use Rattle.std.proofs.Common.{◌≡◌, ◌≢◌, ℕ, ◌+◌, ◌<◌, ◌≤◌, List, [], ◌∷◌, ◌++◌, map, reverse, length, Option, Some, None, Bool, true, false, inl, inr, refl, sym, ap, subst, ◌∙◌, arith}
use Rattle.std.proofs.lemmas.List.{map-append, append-nil, reverse-append, length-map}
use Rattle.std.specs.Option.{is_some}
use Rattle.atomic_table.specs.Seated.{TableId}
use Rattle.cordyceps_base.specs.Element.{Element}
use Rattle.cordyceps_shared.specs.Counts.{tally}
use Rattle.cordyceps_shared.specs.Histories.{own}
use Rattle.cordyceps_shared.specs.Shares.{Name, keeps_half, gives_half, join_shares, insert_name}
use Rattle.cordyceps_shared.specs.Standings.{name_of, keeping, giving, Absorbs}
use Rattle.cordyceps_shared.proofs.NameHalves.{halves_join}
use Rattle.cordyceps_shared.proofs.Knowing.{adds_knows, absorbs_knows, keeps_knows, gives_knows}
use Rattle.cordyceps_shared.proofs.Owning.{own_split}
use Rattle.cordyceps_stack.specs.History.{Load, Push, Taken, Legal, actor}
use Rattle.cordyceps_stack.specs.Shared.Calls.{PartyOf, PushesAt, Misses}
use Rattle.freelist.specs.Blocks.{LocalOf, GivesFirst, GetsFrom}
use Rattle.freelist.specs.Whereabouts.{Gets, Fetches, Puts, PutsRemote, HandsBack, Opens, Finishes, Splits, Joins, Idles, prepend_option, Lacks}
use Rattle.freelist.specs.Users.{UserOf, whereabouts_after, share_of, rooms_of, Divides, local_party, CarriesOut}
use Rattle.freelist.proofs.Calls.{stays, stays_local}
use Rattle.freelist.proofs.Parties.{adds_own, absorbs_own, knows_last}
use Rattle.freelist.proofs.Whereabouts.{tally_prepend}
use Rattle.freelist.specs.declared.laws.Command.{Command}
use Rattle.freelist.specs.declared.laws.Command.TheVariants as kinds

module _ {A B : Type 0} (f : A → B) where
  map_reverse : (xs : List A) → map f (reverse xs) ≡ reverse (map f xs)
  map_reverse [] = refl
  map_reverse (x ∷ xs) =
      ap (map f) (reverse-append (x ∷ []) xs) ∙ (map-append f (reverse xs) (x ∷ []) ∙ (ap (λ z. z ++ f x ∷ []) (map_reverse xs) ∙ sym (reverse-append (f x ∷ []) (map f xs))))

module _ {A : Type 0} where
  pub none_of : (o : Option A) → is_some o ≡ false → o ≡ None
  none_of None e = refl
  none_of (Some x) e = cc

module _ {H : Type 0} where
  pub some_rooms : (o : Option (PartyOf H)) → is_some o ≡ true → is_some (rooms_of o) ≡ true
  some_rooms None e = e
  some_rooms (Some p) e = refl

module _ {T H : Type 0} where
  pub some_local : (l : Option (LocalOf T H)) → is_some l ≡ true → is_some (rooms_of (local_party l)) ≡ true
  some_local None e = e
  some_local (Some l) e = refl

module _ {T H : Type 0} (element : H → Element T) where
  -- the first block, if there is one
  abbrev pub element_if : Option H → Option (Element T)
  element_if None = None
  element_if (Some h) = Some (element h)

  -- a user
  abbrev pub with : TableId → List (Element T) → Option (LocalOf T H) → PartyOf H → Option (PartyOf H) → UserOf T H
  with t hand l p o = record { table = t; hand = hand; local = l; party = p; spare = o }

  carries_idle : (k : Command) (u : UserOf T H) → Lacks k (whereabouts_after element u []) → CarriesOut element (k ∷ []) u u
  carries_idle k u lacks = record {
    calls = Idles k ∷ [];
    events = [];
    carries = refl;
    runs = (whereabouts_after element u [], (lacks, refl), refl);
    looked = refl;
    took = refl;
    own_events = λ g. omega arith;
    in_turn = λ o. stays u;
    knows = λ k. k;
    names = λ n h. h;
    table = refl;
  }

  -- another name for the user at the start, and at the end
  pub begins : (ks : List Command) (v u w : UserOf T H) → v ≡ u → CarriesOut element ks v w → CarriesOut element ks u w
  begins ks v u w is c = subst (λ z. CarriesOut element ks z w) is c

  pub ends : (ks : List Command) (u v w : UserOf T H) → v ≡ w → CarriesOut element ks u v → CarriesOut element ks u w
  ends ks u v w is c = subst (λ z. CarriesOut element ks u z) is c

  pub idles : (k : Command) (v u w : UserOf T H) → v ≡ u → v ≡ w → Lacks k (whereabouts_after element v []) → CarriesOut element (k ∷ []) u w
  idles k v u w first last lacks = subst (λ z. CarriesOut element (k ∷ []) z w) first (subst (λ z. CarriesOut element (k ∷ []) v z) last (carries_idle k v lacks))

  first_out : (bs left : List (Element T)) (first : Option H) → GivesFirst element bs first left → (bs ≡ prepend_option (element_if first) left) × (element_if first ≡ None → left ≡ [])
  first_out bs left None g = (g.0 ∙ sym g.1, λ _. g.1)
  first_out bs left (Some h) g = (g, λ e. cc)

  fetches_to : (t : TableId) (hand : List (Element T)) (q : PartyOf H) (first : Option H) (l : LocalOf T H) (p : PartyOf H) (o : Option (PartyOf H)) →
      GetsFrom element [] q first l →
      CarriesOut element (kinds.Get ∷ []) (with t hand (Some (record { blocks = []; party = q })) p o) (with t (prepend_option (element_if first) hand) (Some l) p o)
  fetches_to t hand q first l p o g =
      let batch = g.0 in
      let took = g.1 in
      let out = first_out (map element batch) l.blocks first g.2 in
      let es = Taken (name_of q) batch ∷ [] in
      let some : map element (reverse batch ++ []) ≡ reverse (map element batch) = ap (map element) (append-nil (reverse batch)) ∙ map_reverse element batch in
      let rooms : l.party.rooms ≡ q.rooms + length (map element batch) = omega (arith, took.1, length-map batch element) in
      record {
        calls = Fetches (map element batch) (element_if first) ∷ [];
        events = es;
        carries = refl;
        runs = (
          whereabouts_after element (with t (prepend_option (element_if first) hand) (Some l) p o) es,
          (
            q.rooms,
            refl,
            refl,
            out.0,
            out.1,
            ap (λ z. record (whereabouts_after element (with t (prepend_option (element_if first) hand) (Some l) p o) []) { fetched = z; local_rooms = Some l.party.rooms }) some ∙ ap (λ z. record (whereabouts_after element (with t (prepend_option (element_if first) hand) (Some l) p o) []) { fetched = reverse (map element batch); local_rooms = Some z }) rooms,
          ),
          refl,
        );
        looked = refl;
        took = refl;
        own_events = λ g2. omega (arith, adds_own q l.party es took.0 g2, tally_prepend (λ (z : PartyOf H). tally g2 (own z.seen)) o (q ∷ []), tally_prepend (λ (z : PartyOf H). tally g2 (own z.seen)) o (l.party ∷ []));
        in_turn = λ _. (inl (refl, refl), inr took.0, refl);
        knows = λ k. (k.0, knows_last q l.party o (λ j. adds_knows actor (λ h. Legal h) q l.party es j took.0) k.1);
        names = λ n h. subst (λ z. Divides n p.share (Some z) (share_of o)) (sym took.0.0.share) h;
        table = refl;
      }

  gets_to : (t : TableId) (hand : List (Element T)) (b : Element T) (left : List (Element T)) (q : PartyOf H) (p : PartyOf H) (o : Option (PartyOf H)) →
      CarriesOut element (kinds.Get ∷ []) (with t hand (Some (record { blocks = b ∷ left; party = q })) p o) (with t (b ∷ hand) (Some (record { blocks = left; party = q })) p o)
  gets_to t hand b left q p o = record {
    calls = Gets b ∷ [];
    events = [];
    carries = refl;
    runs = (whereabouts_after element (with t (b ∷ hand) (Some (record { blocks = left; party = q })) p o) [], (refl, refl), refl);
    looked = refl;
    took = refl;
    own_events = λ g. omega arith;
    in_turn = λ _. (inl (refl, refl), inl (refl, refl), refl);
    knows = λ k. k;
    names = λ n h. h;
    table = refl;
  }

  get_from : (t : TableId) (hand : List (Element T)) (bs : List (Element T)) (q : PartyOf H) (first : Option H) (l : LocalOf T H) (p : PartyOf H) (o : Option (PartyOf H)) →
      GetsFrom element bs q first l →
      CarriesOut element (kinds.Get ∷ []) (with t hand (Some (record { blocks = bs; party = q })) p o) (with t (prepend_option (element_if first) hand) (Some l) p o)
  get_from t hand [] q first l p o g = fetches_to t hand q first l p o g
  get_from t hand (b ∷ bs) q None l p o g = let none : b ∷ bs ≡ [] = g.1.0 in cc
  get_from t hand (b ∷ bs) q (Some h) l p o g =
      let to = gets_to t hand (element h) l.blocks q p o in
      let from = subst (λ z. CarriesOut element (kinds.Get ∷ []) (with t hand (Some (record { blocks = z; party = q })) p o) (with t (element h ∷ hand) (Some (record { blocks = l.blocks; party = q })) p o)) (sym g.1) to in
      subst (λ z. CarriesOut element (kinds.Get ∷ []) (with t hand (Some (record { blocks = b ∷ bs; party = q })) p o) (with t (element h ∷ hand) (Some (record { blocks = l.blocks; party = z })) p o)) (sym g.0) from

  pub carries_get : (t : TableId) (hand hand2 : List (Element T)) (l l2 : LocalOf T H) (p : PartyOf H) (o : Option (PartyOf H)) (first : Option H) →
      GetsFrom element l.blocks l.party first l2 → hand2 ≡ prepend_option (element_if first) hand →
      CarriesOut element (kinds.Get ∷ []) (with t hand (Some l) p o) (with t hand2 (Some l2) p o)
  carries_get t hand hand2 l l2 p o first g insert_name =
      subst (λ z. CarriesOut element (kinds.Get ∷ []) (with t hand (Some l) p o) (with t z (Some l2) p o)) (sym insert_name) (get_from t hand l.blocks l.party first l2 p o g)

  put_to : (t : TableId) (hand : List (Element T)) (b : Element T) (bs : List (Element T)) (q p : PartyOf H) (o : Option (PartyOf H)) →
      CarriesOut element (kinds.Put ∷ []) (with t (b ∷ hand) (Some (record { blocks = bs; party = q })) p o) (with t hand (Some (record { blocks = b ∷ bs; party = q })) p o)
  put_to t hand b bs q p o = record {
    calls = Puts b ∷ [];
    events = [];
    carries = refl;
    runs = (
      whereabouts_after element (with t hand (Some (record { blocks = b ∷ bs; party = q })) p o) [],
      (refl, refl, refl),
      refl,
    );
    looked = refl;
    took = refl;
    own_events = λ g. omega arith;
    in_turn = λ _. (inl (refl, refl), inl (refl, refl), refl);
    knows = λ k. k;
    names = λ n h. h;
    table = refl;
  }

  pub carries_put : (t : TableId) (hand hand2 : List (Element T)) (l l2 : LocalOf T H) (p : PartyOf H) (o : Option (PartyOf H)) (h : H) →
      hand ≡ element h ∷ hand2 → l2.blocks ≡ element h ∷ l.blocks → l2.party ≡ l.party →
      CarriesOut element (kinds.Put ∷ []) (with t hand (Some l) p o) (with t hand2 (Some l2) p o)
  carries_put t hand hand2 l l2 p o h had insert_name same =
      let P = λ (z : List (Element T)) (k : LocalOf T H). CarriesOut element (kinds.Put ∷ []) (with t z (Some l) p o) (with t hand2 (Some k) p o) in
      let a = put_to t hand2 (element h) l.blocks l.party p o in
      let b = subst (λ z. P (element h ∷ hand2) (record { blocks = z; party = l.party })) (sym insert_name) a in
      let c = subst (λ z. P (element h ∷ hand2) (record { blocks = l2.blocks; party = z })) (sym same) b in
      subst (λ z. P z l2) (sym had) c

  remote_to : (t : TableId) (hand : List (Element T)) (l : Option (LocalOf T H)) (p p2 : PartyOf H) (o : Option (PartyOf H)) (h : H) (first : Bool) →
      PushesAt 1 h first p p2 →
      CarriesOut element (kinds.PutRemote ∷ []) (with t (element h ∷ hand) l p o) (with t hand l p2 o)
  remote_to t hand l p p2 o h first pushed =
      let es = Load (name_of p) ∷ Push (name_of p) h ∷ [] in
      record {
        calls = PutsRemote (element h) ∷ [];
        events = es;
        carries = refl;
        runs = (
          whereabouts_after element (with t hand l p2 o) es,
          (pushed.2, refl, refl),
          refl,
        );
        looked = refl;
        took = refl;
        own_events = λ g. omega (arith, adds_own p p2 es pushed.0 g);
        in_turn = λ _. (inr pushed.0, stays_local l, refl);
        knows = λ k. (adds_knows actor (λ h. Legal h) p p2 es k.0 pushed.0, k.1);
        names = λ n d. subst (λ z. Divides n z (share_of (local_party l)) (share_of o)) (sym pushed.0.0.share) d;
        table = refl;
      }

  pub carries_remote : (t : TableId) (hand hand2 : List (Element T)) (l : Option (LocalOf T H)) (p p2 : PartyOf H) (o : Option (PartyOf H)) (h : H) (first : Bool) →
      hand ≡ element h ∷ hand2 → PushesAt 1 h first p p2 →
      CarriesOut element (kinds.PutRemote ∷ []) (with t hand l p o) (with t hand2 l p2 o)
  carries_remote t hand hand2 l p p2 o h first had pushed =
      subst (λ z. CarriesOut element (kinds.PutRemote ∷ []) (with t z l p o) (with t hand2 l p2 o)) (sym had) (remote_to t hand2 l p p2 o h first pushed)

  missed_to : (t : TableId) (hand : List (Element T)) (l : Option (LocalOf T H)) (p p2 : PartyOf H) (o : Option (PartyOf H)) →
      hand ≢ [] → 0 < p.rooms → Misses p p2 →
      CarriesOut element (kinds.PutRemote ∷ []) (with t hand l p o) (with t hand l p2 o)
  missed_to t hand l p p2 o some room missed =
      let es = Load (name_of p) ∷ [] in
      record {
        calls = HandsBack ∷ [];
        events = es;
        carries = refl;
        runs = (
          whereabouts_after element (with t hand l p2 o) es,
          (room, some, ap (λ z. record (whereabouts_after element (with t hand l p o) []) { rooms = z }) missed.2),
          refl,
        );
        looked = refl;
        took = refl;
        own_events = λ g. omega (arith, adds_own p p2 es missed.0 g);
        in_turn = λ _. (inr missed.0, stays_local l, refl);
        knows = λ k. (adds_knows actor (λ h. Legal h) p p2 es k.0 missed.0, k.1);
        names = λ n d. subst (λ z. Divides n z (share_of (local_party l)) (share_of o)) (sym missed.0.0.share) d;
        table = refl;
      }

  pub carries_missed : (t : TableId) (hand hand2 hand3 : List (Element T)) (l : Option (LocalOf T H)) (p p2 : PartyOf H) (o : Option (PartyOf H)) (h back : H) →
      hand ≡ element h ∷ hand2 → 0 < p.rooms → back ≡ h → hand3 ≡ element back ∷ hand2 → Misses p p2 →
      CarriesOut element (kinds.PutRemote ∷ []) (with t hand l p o) (with t hand3 l p2 o)
  carries_missed t hand hand2 hand3 l p p2 o h back had room same insert_name missed =
      let again : hand ≡ hand3 = had ∙ (ap (λ z. element z ∷ hand2) (sym same) ∙ sym insert_name) in
      let some : hand ≢ [] = λ e. let none : element h ∷ hand2 ≡ [] = sym had ∙ e in cc in
      subst (λ z. CarriesOut element (kinds.PutRemote ∷ []) (with t hand l p o) (with t z l p2 o)) again (missed_to t hand l p p2 o some room missed)

  open_to : (t : TableId) (hand : List (Element T)) (p q : PartyOf H) →
      CarriesOut element (kinds.Open ∷ []) (with t hand None p (Some q)) (with t hand (Some (record { blocks = []; party = q })) p None)
  open_to t hand p q = record {
    calls = Opens ∷ [];
    events = [];
    carries = refl;
    runs = (whereabouts_after element (with t hand (Some (record { blocks = []; party = q })) p None) [], (q.rooms, refl, refl, refl), refl);
    looked = refl;
    took = refl;
    own_events = λ g. omega arith;
    in_turn = λ o. absurd o;
    knows = λ k. k;
    names = λ n h. h;
    table = refl;
  }

  pub carries_open : (t : TableId) (hand : List (Element T)) (p q : PartyOf H) (l : LocalOf T H) → l.blocks ≡ [] → l.party ≡ q →
      CarriesOut element (kinds.Open ∷ []) (with t hand None p (Some q)) (with t hand (Some l) p None)
  carries_open t hand p q l none is =
      let P = λ (k : LocalOf T H). CarriesOut element (kinds.Open ∷ []) (with t hand None p (Some q)) (with t hand (Some k) p None) in
      subst (λ z. P (record { blocks = l.blocks; party = z })) (sym is) (subst (λ z. P (record { blocks = z; party = q })) (sym none) (open_to t hand p q))

  finish_to : (t : TableId) (hand : List (Element T)) (l : LocalOf T H) (p : PartyOf H) →
      CarriesOut element (kinds.Finish ∷ []) (with t hand (Some l) p None) (with t (reverse l.blocks ++ hand) None p (Some l.party))
  finish_to t hand l p = record {
    calls = Finishes ∷ [];
    events = [];
    carries = refl;
    runs = (whereabouts_after element (with t (reverse l.blocks ++ hand) None p (Some l.party)) [], (l.party.rooms, refl, refl, refl), refl);
    looked = refl;
    took = refl;
    own_events = λ g. omega arith;
    in_turn = λ o. absurd o;
    knows = λ k. k;
    names = λ n h. h;
    table = refl;
  }

  pub carries_finish : (t : TableId) (hand hand2 blocks : List (Element T)) (l : LocalOf T H) (p q : PartyOf H) → blocks ≡ l.blocks → hand2 ≡ reverse blocks ++ hand → q ≡ l.party →
      CarriesOut element (kinds.Finish ∷ []) (with t hand (Some l) p None) (with t hand2 None p (Some q))
  carries_finish t hand hand2 blocks l p q all insert_name is =
      let P = λ (z : List (Element T)) (k : PartyOf H). CarriesOut element (kinds.Finish ∷ []) (with t hand (Some l) p None) (with t z None p (Some k)) in
      let onto : hand2 ≡ reverse l.blocks ++ hand = insert_name ∙ ap (λ z. reverse z ++ hand) all in
      subst (λ z. P z q) (sym onto) (subst (λ z. P (reverse l.blocks ++ hand) z) (sym is) (finish_to t hand l p))

  split_names : (n : Name) (p : PartyOf H) (l : Option (PartyOf H)) (rooms : ℕ) → Divides n p.share (share_of l) None → Divides n (keeping rooms p).share (share_of l) (Some (giving rooms p).share)
  split_names n p None rooms d = (ap keeps_half d, ap gives_half d)
  split_names n p (Some l) rooms d = (ap keeps_half d.0, d.1, ap gives_half d.0)

  split_to : (t : TableId) (hand : List (Element T)) (l : Option (LocalOf T H)) (p : PartyOf H) (rooms : ℕ) → rooms ≤ p.rooms →
      CarriesOut element (kinds.Split rooms ∷ []) (with t hand l p None) (with t hand l (keeping rooms p) (Some (giving rooms p)))
  split_to t hand l p rooms few = record {
    calls = Splits rooms ∷ [];
    events = [];
    carries = refl;
    runs = (whereabouts_after element (with t hand l (keeping rooms p) (Some (giving rooms p))) [], (few, refl, refl), refl);
    looked = refl;
    took = refl;
    own_events = λ g. omega (arith, ap (tally g) (own_split rooms p).0);
    in_turn = λ o. absurd o;
    knows = λ k. (keeps_knows (λ h. Legal h) rooms p k.0, (gives_knows (λ h. Legal h) rooms p k.0, k.1));
    names = λ n h. split_names n p (local_party l) rooms h;
    table = refl;
  }

  pub carries_split : (t : TableId) (hand : List (Element T)) (l : Option (LocalOf T H)) (p p2 o : PartyOf H) (rooms : ℕ) → rooms ≤ p.rooms → p2 ≡ keeping rooms p → o ≡ giving rooms p →
      CarriesOut element (kinds.Split rooms ∷ []) (with t hand l p None) (with t hand l p2 (Some o))
  carries_split t hand l p p2 o rooms few keeps gives =
      let P = λ (y z : PartyOf H). CarriesOut element (kinds.Split rooms ∷ []) (with t hand l p None) (with t hand l y (Some z)) in
      subst (λ z. P p2 z) (sym gives) (subst (λ z. P z (giving rooms p)) (sym keeps) (split_to t hand l p rooms few))

  absorb_names : (n : Name) (p p2 q : PartyOf H) (l : Option (PartyOf H)) → p2.share ≡ join_shares p.share q.share → Divides n p.share (share_of l) (Some q.share) → Divides n p2.share (share_of l) None
  absorb_names n p p2 q None is d = is ∙ (ap (λ z. join_shares z q.share) d.0 ∙ (ap (λ z. join_shares (keeps_half (n ∷ [])) z) d.1 ∙ halves_join n))
  absorb_names n p p2 q (Some l) is d =
      (is ∙ (ap (λ z. join_shares z q.share) d.0 ∙ (ap (λ z. join_shares (keeps_half (keeps_half (n ∷ []))) z) d.2 ∙ halves_join (n ++ false ∷ []))), d.1)

  pub carries_absorb : (t : TableId) (hand : List (Element T)) (l : Option (LocalOf T H)) (p p2 q : PartyOf H) → Absorbs (λ h. Legal h) p q p2 →
      CarriesOut element (kinds.Absorb ∷ []) (with t hand l p (Some q)) (with t hand l p2 None)
  carries_absorb t hand l p p2 q a = record {
    calls = Joins ∷ [];
    events = [];
    carries = refl;
    runs = (
      whereabouts_after element (with t hand l p2 None) [],
      (q.rooms, refl, ap (λ z. record (whereabouts_after element (with t hand l p2 None) []) { rooms = z }) a.rooms),
      refl,
    );
    looked = refl;
    took = refl;
    own_events = λ g. omega (arith, absorbs_own p q p2 a g);
    in_turn = λ o. absurd o;
    knows = λ k. (absorbs_knows (λ h. Legal h) p q p2 k.0 k.1.0 a, k.1.1);
    names = λ n h. absorb_names n p p2 q (local_party l) a.share h;
    table = refl;
  }
