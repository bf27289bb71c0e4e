-- That the register's party has its share again when each party that was split off has come back.
use Rattle.std.proofs.Common.{◌≡◌, ◌≢◌, ℕ, zero, suc, ◌+◌, ◌<◌, Bool, true, false, List, [], ◌∷◌, ◌++◌, length, get_or, refl, sym, ap, ◌∙◌, subst, arith}
use Rattle.std.specs.declared.snapshot.Snapshot.{Snapshot}
use Rattle.std.proofs.lemmas.List.{append-nil, length-append}
use Rattle.atomic_table.specs.Seated.{TableId}
use Rattle.cordyceps_shared.specs.Shares.{Name, first_name, keeps_half, gives_half, join_shares}
use Rattle.cordyceps_shared.specs.Histories.{own}
use Rattle.cordyceps_shared.specs.Acting.{Acts}
use Rattle.cordyceps_shared.specs.Knowing.{Under, without_marks}
use Rattle.cordyceps_shared.specs.Standings.{Absorbs, GivesBack, name_of, new_party, keeping, giving}
use Rattle.cordyceps_shared.proofs.HistoryMarks.{own_append}
use Rattle.cordyceps_shared.proofs.NameHalves.{halves_join}
use Rattle.cordyceps_shared.proofs.StepEvents.{under_append}
use Rattle.cordyceps_queue.specs.History.{Event, actor, went}
use Rattle.cordyceps_queue.specs.Shared.Calls.{PartyOf, Legal, capacity}
use Rattle.cordyceps_channel.specs.Places.{PlaceOf}
use Rattle.cordyceps_channel.specs.Channels.{left_after, received, ComesBack, IsHome, AreHomes, IsRegister, IsOpened, AreParties}
use Rattle.cordyceps_channel.proofs.Received.{went_append, absorbs_receives}

-- the share that is left is one name
one_name : (n : ℕ) → (m : Name) × (left_after n ≡ m ∷ [])
one_name zero = (_, refl)
one_name (suc n) = let t = one_name n in (_, ap keeps_half t.1)

pub joined : (n : ℕ) → join_shares (left_after (suc n)) (gives_half (left_after n)) ≡ left_after n
joined n =
    let t = one_name n in
    subst (λ (s : List Name). join_shares (keeps_half s) (gives_half s) ≡ s) (sym t.1) (halves_join t.0)

-- the names of senders differ in length
left_name : (n : ℕ) → (m : Name) × (left_after n ≡ m ∷ []) × (length m ≡ suc n)
left_name zero = (_, refl, refl)
left_name (suc n) = let (m, is, long) = left_name n in (m ++ false ∷ [], ap keeps_half is, omega (arith, long, length-append m (false ∷ [])))

name_length : (n : ℕ) → length (first_name (gives_half (left_after n))) ≡ suc (suc n)
name_length n = let (m, is, long) = left_name n in ap (λ (s : List Name). length (first_name (gives_half s))) is ∙ (length-append m (true ∷ []) ∙ omega (arith, long))

pub names_differ : (i j : ℕ) → i ≢ j → first_name (gives_half (left_after i)) ≢ first_name (gives_half (left_after j))
names_differ i j ne e = ne (omega (arith, ap length e, name_length i, name_length j))

module _ {E : Type 0} (table : TableId) where
  pub home_at : (homes : List (PlaceOf (Snapshot (PartyOf E)))) (n i : ℕ) (d : PlaceOf (Snapshot (PartyOf E))) → i < length homes → AreHomes table n homes → IsHome table (n + i) (get_or homes i d)
  home_at [] n i d h all = absurd (omega (arith, h))
  home_at (p ∷ ps) n zero d h all = subst (λ m. IsHome table m p) (omega arith) all.0
  home_at (p ∷ ps) n (suc i) d h all = subst (λ m. IsHome table m (get_or ps i d)) (omega arith) (home_at ps (suc n) i d (omega (arith, h)) all.1)

  pub one_more : (homes : List (PlaceOf (Snapshot (PartyOf E)))) (n : ℕ) (home : PlaceOf (Snapshot (PartyOf E))) → AreHomes table n homes → IsHome table (n + length homes) home → AreHomes table n (homes ++ home ∷ [])
  one_more [] n home all last = (subst (λ m. IsHome table m home) (omega arith) last, tt)
  one_more (p ∷ ps) n home all last = (all.0, one_more ps (suc n) home all.1 (subst (λ m. IsHome table m home) (omega arith) last))

  pub one_fewer : (homes : List (PlaceOf (Snapshot (PartyOf E)))) (n : ℕ) (home : PlaceOf (Snapshot (PartyOf E))) → AreHomes table n (homes ++ home ∷ []) → AreHomes table n homes × IsHome table (n + length homes) home
  one_fewer [] n home all = (tt, subst (λ m. IsHome table m home) (omega arith) all.0)
  one_fewer (p ∷ ps) n home all = let t = one_fewer ps (suc n) home all.1 in ((all.0, t.0), subst (λ m. IsHome table m home) (omega arith) t.1)

one_longer : {A : Type 0} (xs : List A) (x : A) → suc (length xs) ≡ length (xs ++ x ∷ [])
one_longer xs x = omega (arith, length-append xs (x ∷ []))

pub none_own : {X : Type 0} (xs : List (Bool × X)) → own (without_marks xs) ≡ []
none_own [] = refl
none_own (x ∷ xs) = none_own xs

module _ {E : Type 0} (z : TableId) where
  -- a sender that received nothing in a call still has the party that its place waits for
  pub still_opened : (n : ℕ) (u w : PartyOf E) (es : List (Event Name E)) (home : PlaceOf (Snapshot (PartyOf E))) → IsOpened z n u home → Acts u es w → Under actor (name_of u) es → went es ≡ []
      → IsOpened z n w home
  still_opened n u w es home o a under none =
      let b = o.back in
      let own_is : own w.seen ≡ own u.seen ++ es = ap own a.is ∙ (own_append u.seen a.rest ∙ ap (λ l. own u.seen ++ l) a.adds) in
      record {
        table = o.table;
        share = o.share;
        took = o.took;
        back = record {
          table = a.table ∙ b.table;
          share = a.share ∙ b.share;
          none = ap went own_is ∙ (went_append (own u.seen) es ∙ (λ i. b.none i ++ none i));
          named = subst (λ l. Under actor (name_of w) l) (sym own_is) (subst (λ (s : List Name). Under actor (first_name s) (own u.seen ++ es)) (sym a.share) (under_append actor (name_of u) (own u.seen) es b.named under));
        };
      }

  pub opened_name : (n : ℕ) (p : PartyOf E) (home : PlaceOf (Snapshot (PartyOf E))) → IsOpened z n p home → name_of p ≡ first_name (gives_half (left_after n))
  opened_name n p home o = ap (λ (s : List Name). first_name s) (o.back.share ∙ ap gives_half o.share)

  -- one more was split off the register's party
  pub still_register : (n : ℕ) (u : PartyOf E) (homes : List (PlaceOf (Snapshot (PartyOf E)))) (home : PlaceOf (Snapshot (PartyOf E))) → IsRegister z u homes → home.key.value ≡ u → home.took ≡ false
      → IsRegister z (keeping n u) (homes ++ home ∷ [])
  still_register n u homes home r is free = record {
    table = r.table;
    share = ap keeps_half r.share ∙ ap left_after (one_longer homes home);
    none = r.none;
    places = one_more z homes 0 home r.places (subst (λ m. IsHome z m home) (omega arith) (last r));
  }
    where
      last : IsRegister z u homes → IsHome z (length homes) home
      last q = record { table = ap (λ v. v.table) is ∙ q.table; share = ap (λ v. v.share) is ∙ q.share; free = free }

  pub split_opened : (n : ℕ) (u : PartyOf E) (home : PlaceOf (Snapshot (PartyOf E))) → u.table ≡ z → u.share ≡ left_after n → home.key.value ≡ u → home.took ≡ true → IsOpened z n (giving 0 u) home
  split_opened n u home of left is took = record {
    table = ap (λ v. v.table) is ∙ of;
    share = ap (λ v. v.share) is ∙ left;
    took = took;
    back = record {
      table = ap (λ v. v.table) (sym is);
      share = ap (λ v. gives_half v.share) (sym is);
      none = ap went (none_own u.seen);
      named = subst (λ l. Under actor (name_of (giving 0 u)) l) (sym (none_own u.seen)) tt;
    };
  }

  -- one that came back was absorbed, which was split off last
  pub absorbs_last : (u o w : PartyOf E) (homes : List (PlaceOf (Snapshot (PartyOf E)))) (home : PlaceOf (Snapshot (PartyOf E))) → IsRegister z u (homes ++ home ∷ []) → ComesBack home.key.value o
      → Absorbs (λ h. Legal h) u o w → IsRegister z w homes
  absorbs_last u o w homes home r back a =
      let fewer = one_fewer z homes 0 home r.places in
      let n = length homes in
      let s : u.share ≡ left_after (suc n) = r.share ∙ ap left_after (sym (one_longer homes home)) in
      let home_is : IsHome z n home = subst (λ m. IsHome z m home) (omega arith) fewer.1 in
      let t : o.share ≡ gives_half (left_after n) = back.share ∙ ap gives_half home_is.share in
      record {
        table = a.table ∙ r.table;
        share = a.share ∙ ((λ i. join_shares (s i) (t i)) ∙ joined n);
        none = (absorbs_receives u o w a back.none).elements ∙ (append-nil (received u) ∙ r.none);
        places = fewer.0;
      }

  -- the first two parties
  pub are_parties : (n : ℕ) (u : PartyOf E) → capacity z ≡ n → GivesBack n true (new_party z n) u → AreParties n z (keeping 0 u) (giving 0 u)
  are_parties n u are is = subst (λ (v : PartyOf E). AreParties n z (keeping 0 v) (giving 0 v)) (sym is)
      record { rooms = are; register = record { table = refl; share = refl; none = refl; places = tt }; table = refl; share = refl; unseen = refl; roomless = (omega (arith), refl) }
