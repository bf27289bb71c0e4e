-- The steps of a queue's parties keep the rule of its table, where one bit of a link says to which use of its room it
-- belongs.
use Rattle.std.proofs.Common.{◌≡◌, ◌≢◌, ◌⊎◌, ℕ, zero, suc, ◌+◌, ◌*◌, ◌-◌, List, [], ◌∷◌, ◌++◌, reverse, set, get_or, Option, Some, refl, sym, ap, ◌∙◌, subst, inl, inr, arith}
use mathlib.Core.Option.{some, none}
use native.Mathlib.Decide.{ℕ_discrete}
use lib.ListN.{get_elem?}
use lib.Seq.{set-get_or}
use Rattle.atomic_table.specs.Table.{homes_after, stepped, carried_after, step, Allows}
use Rattle.atomic_table.proofs.Lists.{set_here}
use Rattle.cordyceps_shared.specs.FreeChains.{MayJoin}
use Rattle.cordyceps_shared.specs.Histories.{events}
use Rattle.cordyceps_shared.specs.Places.{ItemAt}
use Rattle.cordyceps_shared.specs.Shares.{Name}
use Rattle.cordyceps_shared.specs.Slots.{Homes, Near}
use Rattle.cordyceps_shared.specs.Words as word
use Rattle.cordyceps_shared.specs.declared.layout.TheConstants.{HEAD, LINKS}
use Rattle.cordyceps_shared.proofs.StepEvents.{at_length}
use Rattle.cordyceps_shared.proofs.Words.{next_beside_next}
use Rattle.cordyceps_queue.specs.declared.cores.stage.Stage.{Stage}
use Rattle.cordyceps_queue.specs.declared.cores.stage.Stage.TheVariants.{Rest, Cleared, Holding, StubNull, Second, Null, PutRead}
use Rattle.cordyceps_queue.specs.History.{Event}
use Rattle.cordyceps_queue.specs.Cores.Abstract.{update}
use Rattle.cordyceps_queue.specs.Cores.Meets.{Spare, tail_of}
use Rattle.cordyceps_queue.specs.Shared.Bits.{IsBit, IsFreeLink, IsLink, IsOld, IsRead, Spells, Knows, Begun, KeepsUse, SpellsWords}
use Rattle.cordyceps_queue.specs.Shared.Plays.{SeatState, carry, MovesTo, HandsOut}
use Rattle.cordyceps_queue.specs.Shared.Plays as plain
use Rattle.cordyceps_queue.specs.Shared.Uses as play
use Rattle.cordyceps_queue.specs.Shared.Rule.{TableState, party, PlainHolds, RuleHolds, bell}
use Rattle.cordyceps_queue.specs.Shared.View.{View, name, bit_of, free_chain, back_chain}
use Rattle.cordyceps_queue.proofs.CoreTheory.Basics.{some_inj, put_same}
use Rattle.cordyceps_queue.proofs.CoreTheory.HolderSteps.{keeping}
use Rattle.cordyceps_queue.proofs.CoreTheory.ProducerSteps.{spare_shared, spare_pooled, ready_spare, spare_one}
use Rattle.cordyceps_queue.proofs.SharedTheory.BellWord.{rung_still}
use Rattle.cordyceps_queue.proofs.SharedTheory.WordsAsMachine.{PlainAllows, core, party_at, rooms_of, Becomes}
use Rattle.cordyceps_queue.proofs.SharedTheory.EnqueueKeeps.{clears}
use Rattle.cordyceps_queue.proofs.SharedTheory.UsesSpell.{SaysNext, free_link_as, place_of, begun_not_spare, spare_not_in, right_in, next_in, spells_begun, spells_low, pool_word, pool_links, spelt_read}
use Rattle.cordyceps_queue.proofs.SharedTheory.HolderAllowed.{looks, reads_after}
use Rattle.cordyceps_queue.proofs.SharedTheory.StubKeeps.{looks_stub, heads_stub, heads, rereads}

-- a link of the use with this bit is old once the next use begins
pub now_old : (link next to bit : ℕ) → IsLink link next to bit → IsOld (1 - bit) link × IsBit (1 - bit)
now_old link next to bit k = let (is, to_bit, own_bit) = k in ((2 * next + to, omega arith, omega arith), omega arith)

module _ {E : Type 0} where
  -- the table with the plain words
  abbrev pub plain_table : (s : TableState E) → RuleHolds s → TableState E
  plain_table s k = record { words = k.words; homes = s.homes; views = s.views }

  -- the rooms that a party has after a step were free, or are the tail that it passed: their links spell the plain ones
  pub free_after : (s : TableState E) (k : PlainHolds s) (uses : ℕ → ℕ) (words : List ℕ) (views : List (View E)) (v w : View E) (t : TableState E) → SpellsWords uses k.chain.rooms s.words words views → KeepsUse uses s.words words v → Becomes s k v w t
      → (i x : ℕ) → ItemAt (w.free ++ w.back) i x → IsFreeLink (word.next words x) (word.next s.words x)
  free_after s k uses words views v w t spells mine b i x a = elim (b.spare i x a) [
    | inl c ↦ mine.free c.0 x c.1
    | inr c ↦ free_link_as refl c.1.1 record { to = uses c.1.0; bit = uses x; is = subst (λ n. Spells uses x n (word.next words x)) c.1.1 (spells.links c.0.0 x c.0.1) }
  ]

  -- with other bits of the uses
  abbrev pub with_use : (s : TableState E) → PlainHolds s → ℕ → ℕ → PlainHolds s
  with_use s k r c = record k { uses = (r, c) ∷ k.uses }

  -- what the party keeps that began a use of room r
  pub begun_mine : (s : TableState E) (k : PlainHolds s) (r c : ℕ) (words : List ℕ) (views : List (View E)) (id : ℕ) (v w : View E) (t : TableState E) → SpellsWords (bit_of k.uses) k.chain.rooms s.words words views → KeepsUse (bit_of k.uses) s.words words v
      → Becomes s (with_use s k r c) v w t → get_elem? t.views id ≡ some w → Begun w.stage r → ((x : ℕ) → Begun w.stage x → x ≡ r) → IsOld c (word.next words r)
      → w.known.share ≢ [] → KeepsUse (update (bit_of k.uses) r c) (set s.words (LINKS + r) 0) words w
  begun_mine s k r c words views id v w t spells mine b at begun only old named = record {
    free = λ i x a.
        let ne : x ≢ r = λ e. begun_not_spare t b.now id id w r at named begun (ap b.now.chain.owner (sym e) ∙ (rooms_of t b.now id w at named).own i x a) in
        free_link_as refl (next_beside_next s.words r x 0 ne) (free_after s (with_use s k r c) (bit_of k.uses) words views v w t spells mine b i x a);
    begun = λ x o. subst (λ y. IsOld (update (bit_of k.uses) r c y) (word.next words y)) (sym (only x o)) (subst (λ d. IsOld d (word.next words r)) (sym (put_same (bit_of k.uses) r c)) old);
    knows = λ x o. ap (λ l. bit_of l x) b.bits;
  }

  -- ---- a load of a free room's link, by which a use of the room begins
  pub begins : (slots id i : ℕ) (me : SeatState E) (r : ℕ) (rs : List ℕ) (item : Option E) (e : E) → i ≡ LINKS + r → item ≡ Some e → me.0.stage ≡ Rest → me.0.back ≡ [] → me.0.free ≡ r ∷ rs → me.0.known.share ≢ []
      → Allows RuleHolds slots id me i (λ n. n) (play.after_begin item (step slots i 0 0 none) me)
  begins slots id i me r rs item e is chosen idle bare free named s k deep at fits =
      let p = k.plain in
      let q = plain_table s k in
      let mine = k.spells.each id me.0 at named in
      let here : ItemAt (me.0.free ++ me.0.back) 0 r = subst (λ l. ItemAt (l ++ me.0.back) 0 r) (sym free) refl in
      let f = mine.free 0 r here in
      let c = 1 - f.bit in
      let old = now_old (word.next s.words r) (word.next k.words r) f.to f.bit f.is in
      let owned : p.chain.owner r ≡ Spare id = (rooms_of q p id me.0 at named).own 0 r here in
      let b = clears slots id i me r rs item e is chosen idle bare free named q (with_use q p r c) deep at in
      let w = b.0.view in
      let tells = b.1 r rs e free chosen in
      let stage : w.stage ≡ Cleared r = tells.stage in
      let t = stepped q i 0 id me.1 w b.0.act in
      let there : get_elem? t.views id ≡ some w = set_here s.views id w (at_length s.views id me.0 at) in
      let words_are : s.words ≡ set s.words i (get_or s.words i 0) = sym (set-get_or s.words i 0) in
      let index : LINKS + r ≡ i = sym is in
      let spelt : SpellsWords (update (bit_of p.uses) r c) b.0.becomes.now.chain.rooms
      (set k.words (LINKS + r) 0) s.words (set s.views id w) =
      spells_begun (bit_of p.uses) r c p.chain.rooms b.0.becomes.now.chain.rooms k.words s.words s.views id w old.1
      (λ j a. spare_not_in q p id r j owned a)
      (λ j x y a linked same. let o = next_in q p j x y a linked in spare_not_in q p id r o.0 owned (subst (ItemAt p.chain.rooms o.0) same o.1))
      (λ y right same. spare_not_in q p id r 0 owned (subst (ItemAt p.chain.rooms 0) same (right_in q p y right)))
      (p.meets.last.at, p.meets.last.head_at)
      (subst (λ z. (j x : ℕ) → ItemAt b.0.becomes.now.chain.rooms j x
      → (x ≡ word.head (set k.words z 0)) ⊎ ((l : ℕ) × ItemAt p.chain.rooms l x)) is b.0.becomes.rooms)
      (λ j u ne there some_name. record {
        not_free = λ l a. ne (spare_one ((rooms_of q p j u there some_name).own l r a) owned);
        not_begun = λ o. begun_not_spare q p j id u r there some_name o owned;
        not_known = λ o. elim (place_of q p j u r there some_name o) [
          | inl a ↦ spare_not_in q p id r a.0 owned a.1
          | inr z ↦ elim z [ inl ready ↦ ready_spare ready owned | inr stub ↦ spare_shared owned (ap p.chain.owner stub.0 ∙ p.meets.stub) ]
        ];
      })
      (begun_mine q p r c s.words s.views id me.0 w t k.spells mine b.0.becomes there
      (subst (λ z. Begun z r) (sym stage) refl) (λ x o. subst (λ z. Begun z x) stage o) old.0)
      k.spells in
      let spells : SpellsWords (bit_of b.0.becomes.now.uses) b.0.becomes.now.chain.rooms (set k.words i 0)
      (set s.words i (get_or s.words i 0)) (set s.views id w) =
      subst (λ (z : List (ℕ × ℕ) × List ℕ × List ℕ). let (uses, plain, words) = z in SpellsWords (bit_of uses) b.0.becomes.now.chain.rooms plain words
      (set s.views id w)) (λ j. (sym b.0.becomes.uses j, ap (λ n. set k.words n 0) index j, words_are j)) spelt in (
        w,
        b.0.act,
        b.0.valid,
        record {
          words = set k.words i 0;
          plain = b.0.becomes.now;
          spells = spells;
          word_is = pool_word s.words (set s.words i (get_or s.words i 0)) p.pool b.0.becomes.now.pool
              (ap (λ ws. word.pool ws) (sym words_are)) b.0.becomes.pool k.word_is;
          pooled = pool_links k.words s.words (set k.words i 0)
              (set s.words i (get_or s.words i 0)) p.pool b.0.becomes.now.pool b.0.becomes.pool
              (λ j x a. (
                ap (λ ws. word.next ws x) (sym words_are),
                ap (λ n. word.next (set k.words n 0) x) is ∙ next_beside_next k.words r x 0 (λ e. spare_pooled owned (ap p.chain.owner (sym e) ∙ p.pooled.own j x a)),
              ))
              k.pooled;
          rung = rung_still s k (set s.words i (get_or s.words i 0)) (ap (λ ws. bell ws) (sym words_are)) b.0.becomes.calm;
        },
        record {
          next = word.next k.words r;
          to = f.to;
          bit = f.bit;
          link = subst (λ n. IsLink (get_or s.words n 0) (word.next k.words r) f.to f.bit) index f.is;
          knows = λ x xs g. ap (λ l. bit_of l x) b.0.becomes.bits
              ∙ (ap (λ n. bit_of ((r, c) ∷ p.uses) n) (sym (firsts x xs g)) ∙ put_same (bit_of p.uses) r c);
          told = subst (λ n. plain.after_begin item (step slots i 0 0 none) me n (w, carried_after me.1 b.0.act))
              (ap (λ n. get_or k.words n 0) is) b.1;
        },
      )
    where
      firsts : (x : ℕ) (xs : List ℕ) → me.0.free ≡ x ∷ xs → r ≡ x
      firsts x xs g = cc

-- ---- the other steps
pub calm_at : {p q : Stage} → p ≡ q → ((x : ℕ) → Begun q x → ⊥) → (x : ℕ) → Begun p x → ⊥
calm_at e calm x o = calm x (subst (λ z. Begun z x) e o)

module _ {E : Type 0} (s : TableState E) (k : RuleHolds s) (id : ℕ) (v : View E) (at : get_elem? s.views id ≡ some v) (named : v.known.share ≢ []) where
  abbrev uses : ℕ → ℕ
  uses = bit_of k.plain.uses

  abbrev pub q : TableState E
  q = plain_table s k

  pub mine : KeepsUse (bit_of k.plain.uses) k.words s.words v
  mine = k.spells.each id v at named

  -- what the party knew it knows
  pub bits_kept : (w : View E) (t : TableState E) → Becomes q k.plain v w t → (r : ℕ) → Knows v.stage r → bit_of w.bits r ≡ bit_of v.bits r
  bits_kept w t b r o = ap (λ l. bit_of l r) b.bits ∙ sym (mine.knows r o)

  -- what the party keeps after a step at which no use begins
  pub use_after : (w : View E) (t : TableState E) → Becomes q k.plain v w t → ((x : ℕ) → Begun w.stage x → ⊥) → KeepsUse (bit_of k.plain.uses) k.words s.words w
  use_after w t b calm = record {
    free = free_after q k.plain (bit_of k.plain.uses) s.words s.views v w t k.spells mine b;
    begun = λ x o. absurd (calm x o);
    knows = λ x o. ap (λ l. bit_of l x) b.bits;
  }

  -- a step that changes no word
  pub load_kept : (w : View E) (i : ℕ) (homes : Homes E) → (b : Becomes q k.plain v w record { words = set k.words i (get_or k.words i 0); homes = homes; views = set s.views id w }) → ((x : ℕ) → Begun w.stage x → ⊥)
      → RuleHolds record { words = set s.words i (get_or s.words i 0); homes = homes; views = set s.views id w }
  load_kept w i homes b calm =
      let plain_are : k.words ≡ set k.words i (get_or k.words i 0) = sym (set-get_or k.words i 0) in
      let words_are : s.words ≡ set s.words i (get_or s.words i 0) = sym (set-get_or s.words i 0) in record {
        words = set k.words i (get_or k.words i 0);
        plain = b.now;
        spells = subst (λ (z : List (ℕ × ℕ) × List ℕ × List ℕ). let (uses, plain, words) = z in SpellsWords (bit_of uses) b.now.chain.rooms plain words (set s.views id w)) (λ j. (sym b.uses j, plain_are j, words_are j))
            (spells_low (bit_of k.plain.uses) k.plain.chain.rooms b.now.chain.rooms k.words s.words k.words s.words s.views id w (λ _. refl) (λ _. refl) k.spells.long k.spells.head k.spells.right
            (λ j x a. elim (b.rooms j x a) [
              | inl e ↦ inl (
                k.plain.meets.last.at,
                subst (ItemAt k.plain.chain.rooms k.plain.meets.last.at)
                    (sym (e ∙ ap (λ z. word.head z) (sym plain_are))) k.plain.meets.last.head_at,
              )
              | inr o ↦ inl o
            ])
            (λ _. use_after w record { words = set k.words i (get_or k.words i 0); homes = homes; views = set s.views id w } b calm) k.spells);
        word_is = pool_word s.words (set s.words i (get_or s.words i 0)) k.plain.pool b.now.pool (ap (λ ws. word.pool ws) (sym words_are)) b.pool k.word_is;
        pooled = pool_links k.words s.words (set k.words i (get_or k.words i 0)) (set s.words i (get_or s.words i 0)) k.plain.pool b.now.pool b.pool
            (λ j x a. (ap (λ ws. word.next ws x) (sym words_are), ap (λ ws. word.next ws x) (sym plain_are))) k.pooled;
        rung = rung_still s k (set s.words i (get_or s.words i 0)) (ap (λ ws. bell ws) (sym words_are)) b.calm;
      }

  -- the tail is in the queue
  pub tail_in : (t : ℕ) → tail_of v.stage ≡ Some t → ItemAt k.plain.chain.rooms 0 t
  tail_in t has = (keeping (core q k.plain) k.plain.chain (reverse (events k.plain.history)) k.plain.meets id (party v) (party_at q k.plain id v at named) t has).tail

  -- what a link says of a room in the queue whose bit the party knows
  pub link_read : (t i : ℕ) → ItemAt k.plain.chain.rooms i t → Knows v.stage t → SaysNext (bit_of k.plain.uses) (bit_of v.bits t) (word.next k.words t) (word.next s.words t)
  link_read t i a o = subst (λ b. SaysNext (bit_of k.plain.uses) b (word.next k.words t) (word.next s.words t)) (sym (mine.knows t o)) (spelt_read (bit_of k.plain.uses) t (word.next k.words t) (word.next s.words t) (k.spells.links i t a))

module _ {E : Type 0} where
  -- no use begins at a read of a link
  calm_reads : (es fs : List (Event Name E)) (p : Stage) (slots t n : ℕ) (m k : SeatState E) → ((x : ℕ) → Begun p x → ⊥)
      → (n ≡ 0 → MovesTo es p m k) → ((r : ℕ) → n ≡ suc r → HandsOut fs slots t r m k) → (x : ℕ) → Begun k.0.stage x → ⊥
  calm_reads es fs p slots t zero m k calm null next = calm_at (null refl).stage calm
  calm_reads es fs p slots t (suc r) m k calm null next = calm_at (next r refl).stage (λ x o. o)

  pub calm_moves : (es fs : List (Event Name E)) (p : Stage) (f : ℕ → Stage) (n : ℕ) (m k : SeatState E) →
      ((x : ℕ) → Begun p x → ⊥) → ((r x : ℕ) → Begun (f r) x → ⊥) → (n ≡ 0 → MovesTo es p m k) →
      ((r : ℕ) → n ≡ suc r → MovesTo fs (f r) m k) → (x : ℕ) → Begun k.0.stage x → ⊥
  calm_moves es fs p f zero m k calm calms null next = calm_at (null refl).stage calm
  calm_moves es fs p f (suc r) m k calm calms null next = calm_at (next r refl).stage (calms r)

module _ {E : Type 0} (slots id : ℕ) (me : SeatState E) (hand : me.1 ≡ carry me.0.back) (near : Near slots me.0.back) (named : me.0.known.share ≢ []) (may : MayJoin (free_chain me.0) (back_chain me.0)) where
  -- ---- the reads of a try
  -- what a read of the link of room t tells
  read_tells : (s : TableState E) (k : RuleHolds s) (at : get_elem? s.views id ≡ some me.0) (t u i j : ℕ) (w : View E) (z : TableState E) (c : SeatState E) (tells : ℕ → Type 0) → c.0 ≡ w → i ≡ LINKS + t → ItemAt k.plain.chain.rooms j t → Knows me.0.stage t → t ≡ u → Becomes (plain_table s k) k.plain me.0 w z → tells (get_or k.words i 0)
      → play.Reads u me (get_or s.words i 0) c tells
  read_tells s k at t u i j w z c tells is_w is a o same b told =
      let r = link_read s k id me.0 at named t j a o in
      let there = ap (λ n. get_or s.words n 0) is in
      let there_plain = ap (λ n. get_or k.words n 0) is in
      record {
        next = get_or k.words i 0;
        to = r.to;
        read = subst (λ n. IsRead (bit_of me.0.bits u) n (get_or k.words i 0) r.to) (sym there)
            (subst (λ (n : ℕ × ℕ). IsRead (bit_of me.0.bits n.0) (word.next s.words t) n.1 r.to)
            (λ l. (same l, sym there_plain l)) r.read);
        knows = λ y e. ap (λ (x : View E). bit_of x.bits y) is_w
            ∙ (ap (λ l. bit_of l y) b.bits ∙ r.knows y (sym there_plain ∙ e));
        told = told;
      }

  -- what a read of the head tells
  head_tells : (s : TableState E) (k : RuleHolds s) (w : View E) (z : TableState E) (c : SeatState E) (tells : ℕ → Type 0) → c.0 ≡ w → Becomes (plain_table s k) k.plain me.0 w z → tells (word.head k.words) → play.Finds (word.head s.words) c tells
  head_tells s k w z c tells is_w b told =
      let h = word.head k.words in
      record {
        room = h;
        bit = bit_of k.plain.uses h;
        found_is = k.spells.head;
        is_bit = k.spells.bits h;
        knows = ap (λ (x : View E). bit_of x.bits h) is_w ∙ ap (λ l. bit_of l h) b.bits;
        told = told;
      }

  -- a load at which no use begins is allowed where the plain rule allows it
  loads_allowed : (i : ℕ) (plainly then : ℕ → SeatState E → Type 0) → PlainAllows slots id me i (λ x. x) plainly
      → ((n : ℕ) (c : SeatState E) → plainly n c → (x : ℕ) → Begun c.0.stage x → ⊥)
      → ((s : TableState E) (k : RuleHolds s) → get_elem? s.views id ≡ some me.0 → (w : View E) (z : TableState E) (c : SeatState E) → c.0 ≡ w
      → Becomes (plain_table s k) k.plain me.0 w z → plainly (get_or k.words i 0) c → play.KeepsBits me c → then (get_or s.words i 0) c)
      → Allows RuleHolds slots id me i (λ x. x) then
  loads_allowed i plainly then allows calm tells s k deep at fits =
      let b = allows (plain_table s k) k.plain deep at in
      let w = b.0.view in
      let c : SeatState E = (w, carried_after me.1 b.0.act) in
      let z = stepped (plain_table s k) i (get_or k.words i 0) id me.1 w b.0.act in (
        w,
        b.0.act,
        b.0.valid,
        load_kept s k id me.0 at named w i (homes_after s.homes me.1 b.0.act) b.0.becomes (calm (get_or k.words i 0) c b.1),
        tells s k at w z c refl b.0.becomes b.1 (bits_kept s k id me.0 at named w z b.0.becomes),
      )

  pub reads_look : (t i : ℕ) → i ≡ LINKS + t → me.0.stage ≡ Holding t → t ≢ 0 → Allows RuleHolds slots id me i (λ x. x) (play.after_look (step slots i 0 0 none) me)
  reads_look t i is holding is_real =
      let es : List (Event Name E) = Event.Look (name me.0) ∷ [] in
      loads_allowed i (plain.after_look (step slots i 0 0 none) me) (play.after_look (step slots i 0 0 none) me)
      (looks slots id me hand near named may t i is holding is_real)
      (λ n c told. let r = told t holding is_real in calm_reads es es (Null t) slots t n me c (λ x o. o) r.0 r.1)
      (λ s k at w z c is_w b told keeps. (
        keeps,
        λ u stage ne. read_tells s k at t u i 0 w z c (λ n. plain.after_look (step slots i 0 0 none) me n c) is_w is
            (tail_in s k id me.0 at named t (ap tail_of holding)) (subst (λ l. Knows l t) (sym holding) refl)
            (some_inj (ap tail_of (sym holding ∙ stage))) b told,
      ))

  pub reads_second : (t i : ℕ) → i ≡ LINKS + t → me.0.stage ≡ Second t → Allows RuleHolds slots id me i (λ x. x) (play.after_read (step slots i 0 0 none) me)
  reads_second t i is holding =
      loads_allowed i (plain.after_read (step slots i 0 0 none) me) (play.after_read (step slots i 0 0 none) me)
      (reads_after slots id me hand near named may t i is holding)
      (λ n c told. let r = told t holding in calm_reads [] [] (Null t) slots t n me c (λ x o. o) r.0 r.1)
      (λ s k at w z c is_w b told keeps. (
        keeps,
        λ u stage. read_tells s k at t u i 0 w z c (λ n. plain.after_read (step slots i 0 0 none) me n c) is_w is
            (tail_in s k id me.0 at named t (ap tail_of holding)) (subst (λ l. Knows l t) (sym holding) refl)
            (some_inj (ap tail_of (sym holding ∙ stage))) b told,
      ))

  pub reads_again : (t i : ℕ) → i ≡ LINKS + t → me.0.stage ≡ PutRead t → Allows RuleHolds slots id me i (λ x. x) (play.after_reread (step slots i 0 0 none) me)
  reads_again t i is holding =
      loads_allowed i (plain.after_reread (step slots i 0 0 none) me) (play.after_reread (step slots i 0 0 none) me)
      (rereads slots id me hand near named may t i is holding)
      (λ n c told. let r = told t holding in calm_reads [] [] (Holding t) slots t n me c (λ x o. o) (λ e. (r.0 e).0) r.1)
      (λ s k at w z c is_w b told keeps. (
        keeps,
        λ u stage. read_tells s k at t u i 0 w z c (λ n. plain.after_reread (step slots i 0 0 none) me n c) is_w is
            (tail_in s k id me.0 at named t (ap tail_of holding)) (subst (λ l. Knows l t) (sym holding) refl)
            (some_inj (ap tail_of (sym holding ∙ stage))) b told,
      ))

  pub reads_stub : me.0.stage ≡ Holding 0 → Allows RuleHolds slots id me LINKS (λ x. x) (play.after_look_stub (step slots LINKS 0 0 none) me)
  reads_stub holding =
      let es : List (Event Name E) = Event.Look (name me.0) ∷ [] in
      loads_allowed LINKS (plain.after_look_stub (step slots LINKS 0 0 none) me) (play.after_look_stub (step slots LINKS 0 0 none) me)
      (looks_stub slots id me hand near named may holding)
      (λ n c told. let r = told holding in calm_moves es es StubNull (λ r. Second r) n me c (λ x o. o) (λ r x o. o) r.0 (λ x e. (r.1 x e).moves))
      (λ s k at w z c is_w b told keeps. (
        keeps,
        λ stage. read_tells s k at 0 0 LINKS 0 w z c (λ n. plain.after_look_stub (step slots LINKS 0 0 none) me n c) is_w refl
            (tail_in s k id me.0 at named 0 (ap tail_of holding)) (subst (λ l. Knows l 0) (sym holding) refl) refl b told,
      ))

  -- ---- the reads of the head
  pub heads_of_stub : me.0.stage ≡ StubNull → Allows RuleHolds slots id me HEAD (λ x. x) (play.after_head_stub (step slots HEAD 0 0 none) me)
  heads_of_stub holding =
      loads_allowed HEAD (plain.after_head_stub (step slots HEAD 0 0 none) me) (play.after_head_stub (step slots HEAD 0 0 none) me)
      (heads_stub slots id me hand near named may holding)
      (λ n c told. let r = told holding in elim (ℕ_discrete n 0) [
        | yes e ↦ calm_at (r.0 e).stage (λ x o. o)
        | no ne ↦ calm_at (r.1 ne).0.stage (λ x o. o)
      ])
      (λ s k at w z c is_w b told keeps. (keeps, head_tells s k w z c (λ n. plain.after_head_stub (step slots HEAD 0 0 none) me n c) is_w b told))

  pub heads_of : (t : ℕ) → me.0.stage ≡ Null t → Allows RuleHolds slots id me HEAD (λ x. x) (play.after_head (step slots HEAD 0 0 none) me)
  heads_of t holding =
      loads_allowed HEAD (plain.after_head (step slots HEAD 0 0 none) me) (play.after_head (step slots HEAD 0 0 none) me)
      (heads slots id me hand near named may t holding)
      (λ n c told. let r = told t holding in elim (ℕ_discrete n t) [
        | yes e ↦ calm_at (r.0 e).stage (λ x o. o)
        | no ne ↦ calm_at (r.1 ne).0.stage (λ x o. o)
      ])
      (λ s k at w z c is_w b told keeps. (keeps, head_tells s k w z c (λ n. plain.after_head (step slots HEAD 0 0 none) me n c) is_w b told))
