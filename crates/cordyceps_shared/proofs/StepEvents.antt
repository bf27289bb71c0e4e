-- A step at which a party sees all and adds events of its own, and one that changes nothing of what it knows.
use Rattle.std.proofs.Common.{◌≡◌, ◌≢◌, ℕ, zero, suc, ◌≤◌, ◌<◌, List, [], ◌∷◌, ◌++◌, length, set, Bool, false, refl, sym, ap, ◌∙◌, subst, arith, append_assoc, append-nil, eq-eqb, length-set, length-append, replicate, lt_of_not-le}
use mathlib.Core.Option.{some, some-ne-none}
use mathlib.Core.Logic.{dite}
use native.Mathlib.Decide.{ℕ_discrete, dec_le}
use lib.ListN.{get_elem?, length-replicate}
use Rattle.atomic_table.proofs.Lists.{set_here}
use Rattle.cordyceps_shared.specs.Shares.{Name, covers, whole, first_name, is_prefix, Clear}
use Rattle.cordyceps_shared.specs.Counts.{one_if}
use Rattle.cordyceps_shared.specs.Histories.{events, with_marks, plain, others, NoneOf, AllOwn, AreDisjoint, of_seat}
use Rattle.cordyceps_shared.specs.Knowing.{Known, Foreign, Under, Agrees, Below, SharesDisjoint, AllAgree, Grown, all_seen}
use Rattle.cordyceps_shared.proofs.ChangedItems.{one_set}
use Rattle.cordyceps_shared.proofs.Counting.{tally_set, tally_two}
use Rattle.cordyceps_shared.proofs.PartyNames.{some_cover, clear_of}
use Rattle.cordyceps_shared.proofs.HistoryMarks.{events_more, without_more, marked_append, plain_marked, own_append, own_without, own_of, others_append, others_without, others_of}

pub at_length : {A : Type 0} (l : List A) (i : ℕ) (a : A) → get_elem? l i ≡ some a → i < length l
at_length [] i a e = absurd (some-ne-none a (sym e))
at_length (x ∷ xs) zero a e = omega arith
at_length (x ∷ xs) (suc i) a e = omega (arith, at_length xs i a e)

pub there : {A : Type 0} (l : List A) (i : ℕ) → i < length l → (a : A) × (get_elem? l i ≡ some a)
there [] i h = absurd (omega arith)
there (x ∷ xs) zero h = (x, refl)
there (x ∷ xs) (suc i) h = there xs i (omega arith)

module _ {X : Type 0} where
  below_of : (n j : ℕ) (es : List X) → j < n → Below n (of_seat j es)
  below_of n j [] l = tt
  below_of n j (x ∷ xs) l = (l, below_of n j xs l)

  below_more : (n : ℕ) (h : List (ℕ × X)) (j : ℕ) (es : List X) → j < n → Below n h → Below n (h ++ of_seat j es)
  below_more n [] j es l b = below_of n j es l
  below_more n (y ∷ ys) j es l b = (b.0, below_more n ys j es l b.1)

  pub below_without : (n : ℕ) (h : List (ℕ × X)) (i : ℕ) → n ≤ i → Below n h → NoneOf i h
  below_without n [] i l b = tt
  below_without n (y ∷ ys) i l b = let low = b.0 in ((λ e. omega arith), below_without n ys i l b.1)

  pub all_own : (j : ℕ) (h : List (ℕ × X)) → ((i : ℕ) → i ≢ j → NoneOf i h) → AllOwn (with_marks j h)
  all_own j [] others = tt
  all_own j (x ∷ xs) others = (dite (ℕ_discrete x.0 j) (λ e. eq-eqb x.0 j e) (λ n. absurd ((others x.0 n).0 refl)), all_own j xs (λ i n. (others i n).1))

  disjoint_none : (xs : List (Bool × X)) → AreDisjoint xs []
  disjoint_none [] = tt
  disjoint_none (x ∷ xs) = tt

module _ {X : Type 0} (actor : X → Name) where
  -- ---- events that carry no name of a share
  pub foreign_append : (share : List Name) (xs ys : List X) → Foreign actor share xs → Foreign actor share ys → Foreign actor share (xs ++ ys)
  foreign_append share [] ys f g = g
  foreign_append share (x ∷ xs) ys f g = (f.0, foreign_append share xs ys f.1 g)

  pub foreign_end : (share : List Name) (xs ys : List X) → Foreign actor share (xs ++ ys) → Foreign actor share ys
  foreign_end share [] ys f = f
  foreign_end share (x ∷ xs) ys f = foreign_end share xs ys f.1

  pub foreign_front : (share : List Name) (xs ys : List X) → Foreign actor share (xs ++ ys) → Foreign actor share xs
  foreign_front share [] ys f = tt
  foreign_front share (x ∷ xs) ys f = (f.0, foreign_front share xs ys f.1)

  foreign_under : (share : List Name) (n : Name) (es : List X) → Clear n share → Under actor n es → Foreign actor share es
  foreign_under share n [] c u = tt
  foreign_under share n (x ∷ xs) c u = (subst (λ m. Clear m share) (sym u.0) c, foreign_under share n xs c u.1)

  pub under_append : (n : Name) (xs ys : List X) → Under actor n xs → Under actor n ys → Under actor n (xs ++ ys)
  under_append n [] ys u t = t
  under_append n (x ∷ xs) ys u t = (u.0, under_append n xs ys u.1 t)

  pub foreign_to : (ns ms : List Name) → ((x : Name) → Clear x ns → Clear x ms) → (es : List X) → Foreign actor ns es → Foreign actor ms es
  foreign_to ns ms clear [] f = tt
  foreign_to ns ms clear (x ∷ xs) f = (clear (actor x) f.0, foreign_to ns ms clear xs f.1)

  pub foreign_both : (ns ms all : List Name) → ((x : Name) → Clear x ns → Clear x ms → Clear x all) → (es : List X) → Foreign actor ns es → Foreign actor ms es → Foreign actor all es
  foreign_both ns ms all clear [] f g = tt
  foreign_both ns ms all clear (x ∷ xs) f g = (clear (actor x) f.0 g.0, foreign_both ns ms all clear xs f.1 g.1)

  pub foreign_none : (es : List X) → Foreign actor [] es
  foreign_none [] = tt
  foreign_none (x ∷ xs) = (tt, foreign_none xs)

  -- what another party saw stays a prefix
  pub fits_other : (h : List (ℕ × X)) (i j : ℕ) (n : Name) (es : List X) (k : Known X) → i ≢ j → Clear n k.share → Under actor n es → Agrees actor h i k → Agrees actor (h ++ of_seat j es) i k
  fits_other h i j n es k other clear under f = record {
    before = f.before;
    later = f.later ++ of_seat j es;
    is = ap (λ (z : List (ℕ × X)). z ++ of_seat j es) f.is ∙ append_assoc f.before f.later (of_seat j es);
    seen = f.seen;
    none = without_more i f.later j es (λ e. other (sym e)) f.none;
    foreign = subst (λ z. Foreign actor k.share z) (sym (events_more f.later j es)) (foreign_append k.share (events f.later) es f.foreign (foreign_under k.share n es clear under));
    told = (f.told.0 ++ es, events_more h j es ∙ (ap (λ z. z ++ es) f.told.1 ∙ append_assoc (plain k.told) f.told.0 es));
    apart = f.apart;
  }

  pub fits_all : (h : List (ℕ × X)) (j : ℕ) (share : List Name) → Agrees actor h j (all_seen j h share)
  fits_all h j share = record { before = h; later = []; is = sym (append-nil h); seen = refl; none = tt; foreign = tt; told = (events h, refl); apart = tt }

  pub grown_all : (Legal : List X → Type 0) (h : List (ℕ × X)) (j : ℕ) (es : List X) (k : Known X) → Agrees actor h j k → Legal (events (h ++ of_seat j es)) → (k.share ≡ whole → AllOwn (with_marks j (h ++ of_seat j es)))
      → Grown actor Legal k es (all_seen j (h ++ of_seat j es) k.share)
  grown_all Legal h j es k f l alone = record {
    rest = with_marks j f.later ++ with_marks j (of_seat j es);
    is = marked_append j h (of_seat j es) ∙ (ap (λ z. z ++ with_marks j (of_seat j es)) (ap (with_marks j) f.is ∙ (marked_append j f.before f.later ∙ ap (λ z. z ++ with_marks j f.later) (sym f.seen)))
        ∙ append_assoc k.seen (with_marks j f.later) (with_marks j (of_seat j es)));
    adds = own_append (with_marks j f.later) (with_marks j (of_seat j es)) ∙ (λ i. own_without j f.later f.none i ++ own_of j es i);
    foreign = subst (λ z. Foreign actor k.share z) (sym (others_append (with_marks j f.later) (with_marks j (of_seat j es)) ∙ (λ i. others_without j f.later f.none i ++ others_of j es i)))
        (foreign_append k.share (events f.later) [] f.foreign tt);
    legal = subst Legal (sym (plain_marked j (h ++ of_seat j es))) l;
    share = refl;
    alone = alone;
  }

module _ {X V : Type 0} (knows : V → Known X) where
  pub owned_same : (views : List V) (h : List (ℕ × X)) (j : ℕ) (v w : V) → get_elem? views j ≡ some v → (knows w).share ≡ (knows v).share → SharesDisjoint knows views h → SharesDisjoint knows (set views j w) h
  owned_same views h j v w at same o = record {
    below = subst (λ n. Below n h) (sym (length-set views j w)) o.below;
    quiet = one_set (λ i u. (knows u).share ≡ [] → NoneOf i h) views j w (λ none_of. o.quiet j v at (sym same ∙ none_of)) (λ i u _ there none_of. o.quiet i u there none_of);
    long = o.long;
    apart = λ x l. let s = tally_set (λ (u : V). covers x (knows u).share) views j v w at in let c = ap (covers x) same in let few = o.apart x l in omega arith;
  }

  -- the first name of another's share is clear of a share
  pub first_clear : (views : List V) (h : List (ℕ × X)) (i j : ℕ) (u v : V) → SharesDisjoint knows views h → i ≢ j → get_elem? views i ≡ some u → get_elem? views j ≡ some v → (knows v).share ≢ [] → Clear (first_name (knows v).share) (knows u).share
  first_clear views h i j u v o other there at named =
      clear_of o.long (first_name (knows v).share) (knows u).share
      (λ x l. omega (arith, tally_two (λ (z : V). covers x (knows z).share) views i j u v other there at, o.apart x l, at_least_first x (knows v).share named))
    where
      at_least_first : (x : Name) (ns : List Name) → ns ≢ [] → one_if (is_prefix (first_name ns) x) ≤ covers x ns
      at_least_first x [] not = absurd (not refl)
      at_least_first x (n ∷ ns) not = omega arith

module _ {X V : Type 0} (actor : X → Name) (knows : V → Known X) where
  -- another view at j, which fits
  pub fits_set : (views : List V) (h : List (ℕ × X)) (j : ℕ) (w : V) → Agrees actor h j (knows w) → ((i : ℕ) (u : V) → i ≢ j → get_elem? views i ≡ some u → Agrees actor h i (knows u)) → AllAgree actor knows (set views j w) h
  fits_set views h j w f others = one_set (λ i u. Agrees actor h i (knows u)) views j w f others

  pub fits_same : (views : List V) (h : List (ℕ × X)) (j : ℕ) (v w : V) → get_elem? views j ≡ some v → (knows w).share ≡ (knows v).share → (knows w).seen ≡ (knows v).seen → (knows w).had ≡ (knows v).had → (knows w).told ≡ (knows v).told → AllAgree actor knows views h → AllAgree actor knows (set views j w) h
  fits_same views h j v w at share seen had told fits =
      let f = fits j v at in
      fits_set views h j w record { before = f.before; later = f.later; is = f.is; seen = seen ∙ f.seen; none = f.none; foreign = subst (λ z. Foreign actor z (events f.later)) (sym share) f.foreign; told = (f.told.0, f.told.1 ∙ ap (λ z. plain z ++ f.told.0) (sym told)); apart = subst (λ (z : List (Bool × X) × List (Bool × X)). AreDisjoint z.0 z.1) (λ c. (sym had c, sym told c)) f.apart } (λ i u _. fits i u)

  -- what it was told is forgotten
  pub fits_forgot : (views : List V) (h : List (ℕ × X)) (j : ℕ) (v w : V) → get_elem? views j ≡ some v → (knows w).share ≡ (knows v).share → (knows w).seen ≡ (knows v).seen → (knows w).told ≡ [] → AllAgree actor knows views h → AllAgree actor knows (set views j w) h
  fits_forgot views h j v w at share seen told fits =
      let f = fits j v at in
      fits_set views h j w record { before = f.before; later = f.later; is = f.is; seen = seen ∙ f.seen; none = f.none; foreign = subst (λ z. Foreign actor z (events f.later)) (sym share) f.foreign; told = (events h, ap (λ z. plain z ++ events h) (sym told)); apart = subst (λ z. AreDisjoint (knows w).had z) (sym told) (disjoint_none (knows w).had) } (λ i u _. fits i u)

module _ {X V : Type 0} (knows : V → Known X) where
  pub owned_more : (views : List V) (h : List (ℕ × X)) (j : ℕ) (es : List X) (v w : V) → get_elem? views j ≡ some v → (knows w).share ≡ (knows v).share → (knows v).share ≢ [] → SharesDisjoint knows views h → SharesDisjoint knows (set views j w) (h ++ of_seat j es)
  owned_more views h j es v w at same some_share o = record {
    below = below_more (length (set views j w)) h j es (let l = length-set views j w in let a = at_length views j v at in omega arith) (subst (λ n. Below n h) (sym (length-set views j w)) o.below);
    quiet = one_set (λ i u. (knows u).share ≡ [] → NoneOf i (h ++ of_seat j es)) views j w (λ none_of. absurd (some_share (sym same ∙ none_of)))
        (λ i u ne there none_of. without_more i h j es (λ c. ne (sym c)) (o.quiet i u there none_of));
    long = o.long;
    apart = λ x l. let s = tally_set (λ (u : V). covers x (knows u).share) views j v w at in let c = ap (covers x) same in let few = o.apart x l in omega arith;
  }

  -- beside a whole share there is no other
  pub only_share : (views : List V) (h : List (ℕ × X)) (j i : ℕ) (v u : V) → SharesDisjoint knows views h → get_elem? views j ≡ some v → (knows v).share ≡ whole → i ≢ j → get_elem? views i ≡ some u → (names : List Name) → (knows u).share ≡ names → names ≡ []
  only_share views h j i v u o at is other there [] e = refl
  only_share views h j i v u o at is other there (n ∷ ns) e =
      let x = n ++ replicate o.long false in
      let long : o.long ≤ length x = omega (arith, length-append n (replicate o.long false), length-replicate o.long false) in
      let few = o.apart x long in
      let both = tally_two (λ (z : V). covers x (knows z).share) views i j u v other there at in
      let mine = ap (covers x) is in
      let theirs = ap (covers x) e in
      let some_of = some_cover n (replicate o.long false) ns in
      absurd (omega arith)

  pub whole_without : (views : List V) (h : List (ℕ × X)) (j i : ℕ) (v : V) → SharesDisjoint knows views h → get_elem? views j ≡ some v → (knows v).share ≡ whole → i ≢ j → NoneOf i h
  whole_without views h j i v o at is other = dite (dec_le (length views) i)
      (λ l. below_without (length views) h i l o.below)
      (λ not. let t = there views i (lt_of_not-le not) in o.quiet i t.0 t.1 (only_share views h j i v t.0 o at is other t.1 (knows t.0).share refl))

-- ---- what a whole party has seen
not_last : {X : Type 0} (before : List (ℕ × X)) (x : ℕ × X) (xs : List (ℕ × X)) → NoneOf x.0 (before ++ x ∷ xs) → ⊥
not_last [] x xs away = away.0 refl
not_last (y ∷ before) x xs away = not_last before x xs away.1

none_later : {X : Type 0} (id : ℕ) (before later : List (ℕ × X)) → NoneOf id later → ((i : ℕ) → i ≢ id → NoneOf i (before ++ later)) → later ≡ []
none_later id before [] away others = refl
none_later id before (x ∷ xs) away others = absurd (not_last before x xs (others x.0 away.0))

module _ {X V : Type 0} (actor : X → Name) (knows : V → Known X) where
  -- it is the whole history
  pub whole_saw : (views : List V) (h : List (ℕ × X)) (j : ℕ) (v : V) → SharesDisjoint knows views h → AllAgree actor knows views h → get_elem? views j ≡ some v → (knows v).share ≡ whole
      → plain (knows v).seen ≡ events h
  whole_saw views h j v o fits at is =
      let f = fits j v at in
      let nothing = none_later j f.before f.later f.none (λ i ne. subst (NoneOf i) f.is (whole_without knows views h j i v o at is ne)) in
      let all : h ≡ f.before = f.is ∙ (ap (λ (l : List (ℕ × X)). f.before ++ l) nothing ∙ append-nil f.before) in
      ap (λ (l : List (Bool × X)). plain l) f.seen ∙ (plain_marked j f.before ∙ ap (λ (l : List (ℕ × X)). events l) (sym all))

module _ {X V : Type 0} (actor : X → Name) (knows : V → Known X) where
  -- what a step keeps, and what it tells, where the party j has seen all and adds these events
  pub record Told (Legal : List X → Type 0) (views : List V) (h : List (ℕ × X)) (j : ℕ) (es : List X) (v w : V) : Type 0 where
    pub owned : SharesDisjoint knows (set views j w) (h ++ of_seat j es)
    pub fits : AllAgree actor knows (set views j w) (h ++ of_seat j es)
    pub grown : Grown actor Legal (knows v) es (knows w)

  pub tells : (Legal : List X → Type 0) (views : List V) (h : List (ℕ × X)) (j : ℕ) (es : List X) (v w : V) → SharesDisjoint knows views h → AllAgree actor knows views h → get_elem? views j ≡ some v
      → (knows v).share ≢ [] → Under actor (first_name (knows v).share) es → knows w ≡ all_seen j (h ++ of_seat j es) (knows v).share → Legal (events (h ++ of_seat j es)) → Told Legal views h j es v w
  tells Legal views h j es v w o fits at named under knows_w legal =
      let owned = owned_more knows views h j es v w at (ap (λ (k : Known X). k.share) knows_w) named o in
      let here = set_here views j w (at_length views j v at) in record {
        owned = owned;
        fits = fits_set actor knows views (h ++ of_seat j es) j w (subst (Agrees actor (h ++ of_seat j es) j) (sym knows_w) (fits_all actor (h ++ of_seat j es) j (knows v).share))
            (λ i u other e. fits_other actor h i j (first_name (knows v).share) es (knows u) other (first_clear knows views h i j u v o other e at named) under (fits i u e));
        grown = subst (Grown actor Legal (knows v) es) (sym knows_w)
            (grown_all actor Legal h j es (knows v) (fits j v at) legal (λ is. all_own j (h ++ of_seat j es) (λ i n. whole_without knows (set views j w) (h ++ of_seat j es) j i w owned here (ap (λ (k : Known X). k.share) knows_w ∙ is) n)));
      }

module _ {X : Type 0} (actor : X → Name) (Legal : List X → Type 0) where
  -- no step, by a party that has taken one
  pub grown_none : (u w : Known X) (xs : List X) → Grown actor Legal u xs w → Grown actor Legal w [] w
  grown_none u w xs a = record {
    rest = [];
    is = sym (append-nil w.seen);
    adds = refl;
    foreign = tt;
    legal = a.legal;
    share = refl;
    alone = a.alone;
  }

  -- two steps
  pub grown_then : (u v w : Known X) (xs ys : List X) → Grown actor Legal u xs v → Grown actor Legal v ys w → Grown actor Legal u (xs ++ ys) w
  grown_then u v w xs ys a b = record {
    rest = a.rest ++ b.rest;
    is = b.is ∙ (ap (λ z. z ++ b.rest) a.is ∙ append_assoc u.seen a.rest b.rest);
    adds = own_append a.rest b.rest ∙ (λ i. a.adds i ++ b.adds i);
    foreign = subst (λ z. Foreign actor u.share z) (sym (others_append a.rest b.rest)) (foreign_append actor u.share (others a.rest) (others b.rest) a.foreign (subst (λ z. Foreign actor z (others b.rest)) a.share b.foreign));
    legal = b.legal;
    share = b.share ∙ a.share;
    alone = b.alone;
  }
