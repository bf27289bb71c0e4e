-- The rule of a queue's table at the start, and where free rooms are linked or read, or a party is split in two, takes
-- another in or learns what it then knows.
use Rattle.std.proofs.Common.{◌≡◌, ◌≢◌, ◌⊎◌, ℕ, zero, suc, ◌+◌, ◌*◌, ◌<◌, ◌≤◌, List, [], ◌∷◌, ◌++◌, length, replicate, set, get_or, take, drop, append-nil, None, refl, sym, ap, ◌∙◌, subst, inl, inr, arith, length-append}
use mathlib.Core.Option.{some, none}
use native.Mathlib.Decide.{ℕ_discrete}
use lib.ListN.{get_elem?}
use lib.Seq.{set-get_or}
use Rattle.atomic_table.specs.Table.{opening, keeps, step, Allows, Splits, Joins}
use Rattle.cordyceps_shared.specs.FreeChains.{FreeChain, MayJoin, Links}
use Rattle.cordyceps_shared.specs.Places.{ItemAt}
use Rattle.cordyceps_shared.specs.Pools.{LeadsTo}
use Rattle.cordyceps_shared.specs.Words as word
use Rattle.cordyceps_shared.specs.declared.layout.TheConstants.{HEAD, RIGHT, LINKS}
use Rattle.cordyceps_shared.proofs.ChangedItems.{one_set, two_set, set_more, was_there}
use Rattle.cordyceps_shared.proofs.FreeLinks.{links_at}
use Rattle.cordyceps_shared.proofs.PartyNames.{joined_some}
use Rattle.cordyceps_shared.proofs.Places.{at_end, at_take}
use Rattle.cordyceps_shared.proofs.Standings as seats
use Rattle.cordyceps_shared.proofs.Words.{next_set, next_beside_next, pool_beside_next}
use Rattle.cordyceps_queue.specs.declared.cores.stage.Stage.TheVariants.{Rest}
use Rattle.cordyceps_queue.specs.History.{actor}
use Rattle.cordyceps_queue.specs.Cores.Meets.{Spare}
use Rattle.cordyceps_queue.specs.Shared.Bits.{IsFreeLink, IsOld, IsRight, Spells, SpellsFree, Knows, Begun, KeepsUse, SpellsWords}
use Rattle.cordyceps_queue.specs.Shared.Parting.{view_keeping, view_giving, view_absorbing, view_absorbed, view_without_told, after_learn}
use Rattle.cordyceps_queue.specs.Shared.Parts.{AreNew, AreNewWords}
use Rattle.cordyceps_queue.specs.Shared.Plays.{SeatState, LegalReversed}
use Rattle.cordyceps_queue.specs.Shared.Uses as play
use Rattle.cordyceps_queue.specs.Shared.Rule.{TableState, RuleHolds}
use Rattle.cordyceps_queue.specs.Shared.View.{View, knows, newcomer, down_from, free_chain, bit_of}
use Rattle.cordyceps_queue.proofs.CoreTheory.Basics.{at_more}
use Rattle.cordyceps_queue.proofs.CoreTheory.ProducerSteps.{spare_pooled, spare_one}
use Rattle.cordyceps_queue.proofs.SharedTheory.BellWord.{bell_beside, rung_still}
use Rattle.cordyceps_queue.proofs.SharedTheory.WordsAsMachine.{rooms_of, Stays}
use Rattle.cordyceps_queue.proofs.SharedTheory.SpareKeeps.{tied_kept, skip_kept}
use Rattle.cordyceps_queue.proofs.SharedTheory.PartingKeeps.{opens, cut_kept, joint_kept, forgot_kept, legal_front, at_down_from}
use Rattle.cordyceps_queue.proofs.SharedTheory.SeatNames.{few_rooms, rest_linked, rest_unheld}
use Rattle.cordyceps_queue.proofs.SharedTheory.UsesKeep.{plain_table, mine}
use Rattle.cordyceps_queue.proofs.SharedTheory.UsesSpell.{free_link_as, begun_not_spare, spare_not_in, spells_linked, pool_word, pool_links}

module _ {E : Type 0} (s : TableState E) (k : RuleHolds s) where
  -- the words, where only views change
  pub same_words : (views : List (View E)) (homes : _) (b : Stays (plain_table s k) k.plain record { words = k.words; homes = homes; views = views })
      → ((j : ℕ) (v : View E) → get_elem? views j ≡ some v → v.known.share ≢ [] → KeepsUse (bit_of k.plain.uses) k.words s.words v) → RuleHolds record { words = s.words; homes = homes; views = views }
  same_words views homes b each = record {
    words = k.words;
    plain = b.now;
    spells = subst (λ (z : List (ℕ × ℕ) × List ℕ). SpellsWords (bit_of z.0) z.1 k.words s.words views) (λ j. (sym b.uses j, sym b.rooms j)) record {
      bits = k.spells.bits;
      long = k.spells.long;
      head = k.spells.head;
      right = k.spells.right;
      links = k.spells.links;
      each = each;
    };
    word_is = subst (λ z. LeadsTo (word.pool s.words) z) (sym b.pool) k.word_is;
    pooled = pool_links k.words s.words k.words s.words k.plain.pool b.now.pool b.pool (λ j x a. (refl, refl)) k.pooled;
    rung = rung_still s k s.words refl b.calm;
  }

  -- a party with some of the free rooms of another, at rest
  some_use : (v w : View E) → w.stage ≡ Rest → ((i x : ℕ) → ItemAt (w.free ++ w.back) i x → (j : ℕ) × ItemAt (v.free ++ v.back) j x) → KeepsUse (bit_of k.plain.uses) k.words s.words v → KeepsUse (bit_of k.plain.uses) k.words s.words w
  some_use v w rest among own = record {
    free = λ i x a. let b = among i x a in own.free b.0 x b.1;
    begun = λ x o. absurd (subst (λ l. Begun l x) rest o);
    knows = λ x o. absurd (subst (λ l. Knows l x) rest o);
  }

-- ---- the link of a free room
module _ {E : Type 0} where
  pub ties : (slots id i n at_word : ℕ) (me : SeatState E) (before : List ℕ) (r : ℕ) → i ≡ LINKS + r → n ≡ 4 * at_word → me.0.free ≡ before ++ r ∷ [] → r < slots → me.0.known.share ≢ [] → Allows RuleHolds slots id me i (λ _. n) (λ _. play.after_tie (step slots i n 0 none) me n)
  ties slots id i n to me before r is is_n free inside named s k deep at fits =
      let p = k.plain in
      let q = plain_table s k in
      let v = me.0 in
      let own = mine s k id v at named in
      let d = p.wide in
      let w : View E = record v { end = to } in
      let b = tied_kept q p id v at named before r to free (omega arith) in
      let here : ItemAt (v.free ++ v.back) (length before) r = at_more v.free v.back (length before) r (subst (λ l. ItemAt l (length before) r) (sym free) (at_end before r)) in
      let owned : p.chain.owner r ≡ Spare id = (rooms_of q p id v at named).own (length before) r here in
      let inside_words : LINKS + r < length k.words = omega arith in
      let inside_too : LINKS + r < length s.words = let l = k.spells.long in omega arith in
      let after : KeepsUse (bit_of p.uses) (set k.words (LINKS + r) to) (set s.words (LINKS + r) n) w = record {
        free = λ j x a. elim (ℕ_discrete x r) [
          | yes e ↦ subst (λ y. IsFreeLink (word.next (set s.words (LINKS + r) n) y) (word.next (set k.words (LINKS + r) to) y)) (sym e)
              (free_link_as (next_set s.words r n inside_too) (next_set k.words r to inside_words) (record { to = 0; bit = 0; is = (omega arith, omega arith, omega arith) }))
          | no ne ↦ free_link_as (next_beside_next s.words r x n ne) (next_beside_next k.words r x to ne) (own.free j x a)
        ];
        begun = λ x o. subst (λ y. IsOld (bit_of p.uses x) y) (sym (next_beside_next s.words r x n (λ e. begun_not_spare q p id id v x at named o (ap p.chain.owner e ∙ owned)))) (own.begun x o);
        knows = own.knows;
      } in
      let spelt = spells_linked (bit_of p.uses) r to n p.chain.rooms p.chain.rooms k.words s.words s.views id w inside_words (λ j x a. (j, a)) (λ j a. absurd (spare_not_in q p id r j owned a))
      (λ j u ne there some_name. ((λ l a. ne (spare_one ((rooms_of q p j u there some_name).own l r a) owned)), (λ o. begun_not_spare q p j id u r there some_name o owned)))
      (λ _. after) k.spells in
      let kept : RuleHolds record { words = set s.words (LINKS + r) n; homes = s.homes; views = set s.views id w } = record {
        words = set k.words (LINKS + r) to;
        plain = b.now;
        spells = subst (λ (z : List (ℕ × ℕ) × List ℕ). SpellsWords (bit_of z.0) z.1 (set k.words (LINKS + r) to) (set s.words (LINKS + r) n) (set s.views id w)) (λ j. (sym b.uses j, sym b.rooms j)) spelt;
        word_is = pool_word s.words (set s.words (LINKS + r) n) p.pool b.now.pool (pool_beside_next s.words r n) b.pool k.word_is;
        pooled = pool_links k.words s.words (set k.words (LINKS + r) to) (set s.words (LINKS + r) n) p.pool b.now.pool b.pool
            (λ j x a.
            let ne : x ≢ r = λ e. spare_pooled owned (ap p.chain.owner (sym e) ∙ p.pooled.own j x a) in
            (next_beside_next s.words r x n ne, next_beside_next k.words r x to ne)) k.pooled;
        rung = rung_still s k (set s.words (LINKS + r) n) (bell_beside s.words (LINKS + r) n (λ e. absurd (omega arith))) b.calm;
      } in (
        w,
        keeps,
        tt,
        subst (λ j. RuleHolds record { words = set s.words j n; homes = s.homes; views = set s.views id w }) (sym is) kept,
        λ there e. let same : to ≡ there = omega arith in ((λ j. record v { end = same j }), refl),
      )

  pub skips : (slots id i : ℕ) (me : SeatState E) → me.0.known.share ≢ [] → Allows RuleHolds slots id me i (λ n. n) (play.after_skip (step slots i 0 0 none) me)
  skips slots id i me named s k deep at fits =
      let v = me.0 in
      let q = plain_table s k in (
        v,
        keeps,
        tt,
        subst (λ ws. RuleHolds record { words = ws; homes = s.homes; views = set s.views id v }) (sym (set-get_or s.words i 0))
            (same_words s k (set s.views id v) s.homes (skip_kept q k.plain id v at named)
            (one_set (λ _ u. u.known.share ≢ [] → KeepsUse (bit_of k.plain.uses) k.words s.words u) s.views id v (λ _. mine s k id v at named) (λ j u ne e some_name. k.spells.each j u e some_name))),
        λ before after r free is.
            let f = (mine s k id v at named).free (length before) r (at_more v.free v.back (length before) r (subst (λ l. ItemAt l (length before) r) (sym free) (in_mid before after r))) in
            let lead = links_at k.words before after r v.end (subst (λ l. Links k.words l v.end) free (k.plain.linked id v at named).0) in
            (refl, free_link_as (ap (λ n. get_or s.words n 0) is) (sym lead) f),
      )
    where
      in_mid : (xs ys : List ℕ) (r : ℕ) → ItemAt (xs ++ r ∷ ys) (length xs) r
      in_mid [] ys r = refl
      in_mid (x ∷ xs) ys r = in_mid xs ys r

  -- ---- what a party learns that took another in
  pub learns : (slots id : ℕ) (me : SeatState E) (v w : View E) → me.0 ≡ view_absorbing v w → v.known.share ≢ [] → Allows RuleHolds slots id me HEAD (λ n. n) (after_learn (step slots HEAD 0 0 none) me)
  learns slots id me v w is named s k deep at fits =
      let u = me.0 in
      let q = plain_table s k in
      let some_name : u.known.share ≢ [] = λ e. joined_some v.known.share w.known.share named (sym (ap (λ (z : View E). z.known.share) is) ∙ e) in
      let own = mine s k id u at some_name in
      let few = few_rooms q k.plain id u at some_name in
      let left : View E = view_without_told u in (
        left,
        keeps,
        tt,
        subst (λ (ws : List ℕ). RuleHolds record { words = ws; homes = s.homes; views = set s.views id left }) (sym (set-get_or s.words HEAD 0))
            (same_words s k (set s.views id left) s.homes (forgot_kept q k.plain id u at some_name)
            (one_set (λ _ z. z.known.share ≢ [] → KeepsUse (bit_of k.plain.uses) k.words s.words z) s.views id left (λ _. record { free = own.free; begun = own.begun; knows = own.knows }) (λ j z ne e other. k.spells.each j z e other))),
        record {
          view_is = refl;
          hand = refl;
          known = seats.is_known actor knows (λ z. LegalReversed z) legal_front s.views k.plain.history id u
              k.plain.owned k.plain.fits at k.plain.meets.legal (subst (λ (z : View E). length z.known.told ≤ length z.known.seen) (sym is) (seats.told_short v.known.seen w.known.seen));
          few = omega arith;
          linked = rest_linked q k.plain id u at some_name (ap (λ (z : View E). z.stage) is);
          unheld = rest_unheld q k.plain id u at some_name (ap (λ (z : View E). z.stage) is);
        },
      )

-- ---- splitting
module _ {E : Type 0} where
  pub splits : (id n : ℕ) (v : View E) → v.known.share ≢ [] → v.stage ≡ Rest → v.back ≡ [] → Splits RuleHolds id v (view_keeping n v) (view_giving n v)
  splits id n v named rest bare s k at =
      let q = plain_table s k in
      let left = view_keeping n v in
      let right = view_giving n v in
      let own = mine s k id v at named in
      same_words s k (set s.views id left ++ right ∷ []) s.homes (cut_kept q k.plain id n v named rest bare at)
      (set_more (λ _ u. u.known.share ≢ [] → KeepsUse (bit_of k.plain.uses) k.words s.words u) s.views id left right
      (λ _. some_use s k v left rest (λ i x a. let d = at_drop n v.free i x (subst (λ l. ItemAt l i x) (ap (λ l. drop n v.free ++ l) bare ∙ append-nil (drop n v.free)) a) in (d.0, at_more v.free v.back d.0 x d.1)) own)
      (λ _. some_use s k v right refl (λ i x a. (i, at_more v.free v.back i x (at_take n v.free i x (subst (λ l. ItemAt l i x) (append-nil (take n v.free)) a)).0)) own)
      (λ j u ne there some_name. k.spells.each j u there some_name))
    where
      at_drop : (n : ℕ) (xs : List ℕ) (i x : ℕ) → ItemAt (drop n xs) i x → (j : ℕ) × ItemAt xs j x
      at_drop zero xs i x a = (i, a)
      at_drop (suc n) [] i x a = absurd a
      at_drop (suc n) (y ∷ ys) i x a = let d = at_drop n ys i x a in (suc d.0, d.1)

  -- ---- a party takes another in
  pub joins : (id other : ℕ) (v w : View E) → v.stage ≡ Rest → w.stage ≡ Rest → v.back ≡ [] → w.back ≡ [] → v.known.share ≢ [] → w.known.share ≢ [] → MayJoin (free_chain v) (free_chain w) → Joins RuleHolds id v other w (view_absorbing v w) view_absorbed
  joins id other v w rest rest_too bare bare_too named named_too may s k at apart there =
      let q = plain_table s k in
      let both = view_absorbing v w in
      let first : get_elem? s.views other ≡ some w = was_there s.views id other both w apart there in
      let own = mine s k id v at named in
      let own_too = mine s k other w first named_too in
      same_words s k (set (set s.views id both) other view_absorbed) s.homes (joint_kept q k.plain id other v w rest rest_too bare bare_too named named_too may at apart there)
      (two_set (λ _ u. u.known.share ≢ [] → KeepsUse (bit_of k.plain.uses) k.words s.words u) s.views id other both view_absorbed
      (λ _. record {
        free = λ i x a. elim (in_either v.free w.free i x (subst (λ l. ItemAt l i x) (append-nil (v.free ++ w.free)) a)) [
          | inl b ↦ own.free b.0 x (at_more v.free v.back b.0 x b.1)
          | inr b ↦ own_too.free b.0 x (at_more w.free w.back b.0 x b.1)
        ];
        begun = λ x o. absurd o;
        knows = λ x o. absurd o;
      })
      (λ some_name. absurd (some_name refl))
      (λ j u ne no_other e some_name. k.spells.each j u e some_name))
    where
      in_either : (xs ys : List ℕ) (i x : ℕ) → ItemAt (xs ++ ys) i x → ((j : ℕ) × ItemAt xs j x) ⊎ ((j : ℕ) × ItemAt ys j x)
      in_either [] ys i x a = inr (i, a)
      in_either (z ∷ zs) ys zero x a = inl (0, a)
      in_either (z ∷ zs) ys (suc i) x a = elim (in_either zs ys i x a) [ inl b ↦ inl (suc b.0, b.1) | inr b ↦ inr b ]

-- ---- a new queue
module _ (E : Type 0) where
  -- the table of a new queue, whose plain words are these
  pub opens_with : (rooms : ℕ) (plain words : List ℕ) → AreNew plain rooms → AreNewWords words rooms → RuleHolds {E = E} (opening words (replicate (rooms + 1) None) (newcomer rooms))
  opens_with rooms plain words new is =
      let b = opens E rooms plain new in
      let first : View E = newcomer rooms in
      let uses : ℕ → ℕ = λ _. 0 in record {
        words = plain;
        plain = b.now;
        spells = subst (λ (z : List (ℕ × ℕ) × List ℕ). SpellsWords (bit_of z.0) z.1 plain words (first ∷ [])) (λ j. (sym b.uses j, sym b.rooms_are j)) record {
          bits = λ r. omega arith;
          long = is.wide ∙ sym new.wide;
          head = is.head ∙ (λ j. 2 * sym new.head j + 0);
          right = subst (λ n. IsRight (λ _. 0) n (word.right words)) (sym new.right) is.right;
          links = λ i r a. stub_link i r a;
          each = λ j v e some_name. subst (λ (z : View E). KeepsUse (λ _. 0) plain words z) (seats.only first v j e).1 record {
            free = λ i r a.
                let t = at_down_from rooms i r (subst (λ l. ItemAt l i r) (append-nil (down_from rooms)) a) in
                let sum = t.0 in
                let real = t.1 in
                let l = is.linked r real (omega arith) in
                let m = new.linked r (omega arith) in
                record { to = 0; bit = 0; is = (omega arith, omega arith, omega arith) };
            begun = λ r o. absurd o;
            knows = λ r o. absurd o;
          };
        };
        word_is = subst (λ z. LeadsTo (word.pool words) z) (sym b.pool_is) (inl (is.pool, refl));
        pooled = subst (λ (z : FreeChain). SpellsFree plain words z.rooms) (sym b.pool_is) (λ i r a. absurd a);
        rung = λ _. b.quiet;
      }
    where
      stub_link : (i r : ℕ) → ItemAt (0 ∷ []) i r → Spells (λ _. 0) r (word.next plain r) (word.next words r)
      stub_link zero r a = subst (λ z. Spells (λ _. 0) z (word.next plain z) (word.next words z)) (sym a) (subst (λ n. Spells (λ _. 0) 0 n (word.next words 0)) (sym (new.linked 0 (omega arith))) (0, is.stub, omega arith))
      stub_link (suc i) r a = absurd a

-- the plain words of a new queue
abbrev count_to : ℕ → ℕ → List ℕ
count_to from zero = []
count_to from (suc n) = from ∷ count_to (suc from) n

count_long : (from n : ℕ) → length (count_to from n) ≡ n
count_long from zero = refl
count_long from (suc n) = ap suc (count_long (suc from) n)

count_at : (from n i : ℕ) → i < n → get_or (count_to from n) i 0 ≡ from + i
count_at from zero i low = absurd (omega arith)
count_at from (suc n) zero low = none_more from
  where
    none_more : (n : ℕ) → n ≡ n + 0
    none_more n = omega arith
count_at from (suc n) (suc i) low = let e = count_at (suc from) n i (omega arith) in omega arith

behind : (xs ys : List ℕ) (i : ℕ) → get_or (xs ++ ys) (length xs + i) 0 ≡ get_or ys i 0
behind [] ys i = ap (λ n. get_or ys n 0) (none_plus i)
  where
    none_plus : (i : ℕ) → 0 + i ≡ i
    none_plus i = omega arith
behind (x ∷ xs) ys i = ap (λ n. get_or (x ∷ (xs ++ ys)) n 0) (one_more (length xs) i) ∙ behind xs ys i
  where
    one_more : (a b : ℕ) → suc a + b ≡ suc (a + b)
    one_more a b = omega arith

abbrev low_words : List ℕ
low_words = set (replicate LINKS 0) RIGHT 1

abbrev pub plain_words : ℕ → List ℕ
plain_words rooms = low_words ++ count_to 0 (rooms + 1)

pub are_new : (rooms : ℕ) → AreNew (plain_words rooms) rooms
are_new rooms = record {
  wide = length-append (set (replicate LINKS 0) RIGHT 1) (count_to 0 (rooms + 1)) ∙ ap (λ n. LINKS + n) (count_long 0 (rooms + 1)) ∙ omega arith;
  head = refl;
  right = refl;
  linked = λ r low. behind (set (replicate LINKS 0) RIGHT 1) (count_to 0 (rooms + 1)) r ∙ (count_at 0 (rooms + 1) r (omega arith) ∙ omega arith);
}
