-- The steps of a queue's parties that write a word keep the rule of its table, and so does the one by which a use of the
-- stub's room begins.
use Rattle.std.proofs.Common.{◌≡◌, ◌≢◌, ℕ, suc, ◌+◌, ◌*◌, ◌-◌, ◌/◌, ◌%◌, ◌<◌, List, [], ◌∷◌, ◌++◌, length, set, get_or, append-nil, Option, Some, None, MatchOption, refl, sym, ap, ◌∙◌, subst, inl, inr, arith, length-set, get_or-set_other}
use mathlib.Core.Option.{some, none}
use lib.ListN.{get_elem?}
use lib.Seq.{set-get_or}
use Rattle.atomic_table.specs.Table.{homes_after, stepped, carried_after, step, Allows}
use Rattle.atomic_table.proofs.Lists.{set_here}
use Rattle.cordyceps_shared.specs.FreeChains.{MayJoin}
use Rattle.cordyceps_shared.specs.Places.{ItemAt}
use Rattle.cordyceps_shared.specs.Shares.{Name}
use Rattle.cordyceps_shared.specs.Slots.{Homes, Near, Hand}
use Rattle.cordyceps_shared.specs.Words as word
use Rattle.cordyceps_shared.specs.declared.layout.TheConstants.{HEAD, RIGHT, LINKS}
use Rattle.cordyceps_shared.proofs.StepEvents.{at_length}
use Rattle.cordyceps_shared.proofs.Words.{pool_beside_head, pool_beside_right, pool_beside_next, head_set, right_set, head_beside_right, right_beside_head, next_beside_next}
use Rattle.cordyceps_queue.specs.declared.cores.stage.Stage.TheVariants.{Rest, Cleared, Swapped, Holding, PutClear, PutSwap, PutLink}
use Rattle.cordyceps_queue.specs.declared.shared.uses.RoomUse.{RoomUse}
use Rattle.cordyceps_queue.specs.History.{Event}
use Rattle.cordyceps_queue.specs.Cores.Abstract.{update}
use Rattle.cordyceps_queue.specs.Shared.Bits.{IsBit, IsFreeLink, IsRead, IsRight, Spells, Knows, Begun, SpellsWords}
use Rattle.cordyceps_queue.specs.Shared.Plays.{SeatState, carry}
use Rattle.cordyceps_queue.specs.Shared.Uses as play
use Rattle.cordyceps_queue.specs.Shared.Rule.{TableState, RuleHolds, bell}
use Rattle.cordyceps_queue.specs.Shared.View.{View, name, bit_of, free_chain, back_chain}
use Rattle.cordyceps_queue.proofs.CoreTheory.Basics.{some_inj, put_same, put_other}
use Rattle.cordyceps_queue.proofs.CoreTheory.ProducerSteps.{spare_shared, ready_shared, shared_pooled}
use Rattle.cordyceps_queue.proofs.SharedTheory.BellWord.{bell_beside, rung_still}
use Rattle.cordyceps_queue.proofs.SharedTheory.WordsAsMachine.{party_as, next_low, rooms_of, Becomes}
use Rattle.cordyceps_queue.proofs.SharedTheory.EnqueueKeeps.{swaps, links_on}
use Rattle.cordyceps_queue.proofs.SharedTheory.HolderAllowed.{takes_right, gives_right}
use Rattle.cordyceps_queue.proofs.SharedTheory.StubKeeps.{clears_stub, swaps_stub, links_stub}
use Rattle.cordyceps_queue.proofs.SharedTheory.UsesKeep.{plain_table, with_use, begun_mine, now_old, mine, bits_kept, use_after, calm_at, calm_moves}
use Rattle.cordyceps_queue.proofs.SharedTheory.UsesSpell.{place_of, begun_of, begun_not_in, spare_not_in, right_in, next_in, null_word, spells_begun, spells_low, use_linked, spells_linked, pool_word, pool_links, spelt_right}

-- each number is a link of some use
any_link : (n : ℕ) → IsFreeLink n (n / 4)
any_link n = record { to = n / 2 % 2; bit = n % 2; is = (omega arith, omega arith, omega arith) }

module _ {E : Type 0} (s : TableState E) (k : RuleHolds s) (id : ℕ) (v : View E) (at : get_elem? s.views id ≡ some v) (named : v.known.share ≢ []) where
  -- the head becomes room r, of which a use has begun
  head_kept : (r n : ℕ) (w : View E) (homes : Homes E) → n ≡ 2 * r + bit_of v.bits r → Knows v.stage r → Begun v.stage r → (b : Becomes (plain_table s k) k.plain v w record { words = set k.words HEAD r; homes = homes; views = set s.views id w }) → ((x : ℕ) → Begun w.stage x → ⊥)
      → RuleHolds record { words = set s.words HEAD n; homes = homes; views = set s.views id w }
  head_kept r n w homes is knows begun b calm =
      let l = k.spells.long in
      let d = k.plain.wide in
      let own = mine s k id v at named in
      let head : word.head (set k.words HEAD r) ≡ r = head_set k.words r (omega arith) in
      let head_too : word.head (set s.words HEAD n) ≡ n = head_set s.words n (omega arith) in
      let bit : bit_of v.bits r ≡ bit_of k.plain.uses r = own.knows r knows in
      let null : word.next k.words r ≡ 0 = null_word (word.next k.words r) (begun_of (plain_table s k) k.plain id v r at named begun).1 in
      let here : Spells (bit_of k.plain.uses) r (word.next k.words r) (word.next s.words r) = subst (λ z. Spells (bit_of k.plain.uses) r z (word.next s.words r)) (sym null) (own.begun r begun) in
      record {
        words = set k.words HEAD r;
        plain = b.now;
        spells = subst (λ z. SpellsWords (bit_of z) b.now.chain.rooms (set k.words HEAD r) (set s.words HEAD n) (set s.views id w)) (sym b.uses)
            (spells_low (bit_of k.plain.uses) k.plain.chain.rooms b.now.chain.rooms k.words s.words (set k.words HEAD r) (set s.words HEAD n) s.views id w (next_low k.words HEAD r (omega arith)) (next_low s.words HEAD n (omega arith))
            (length-set s.words HEAD n ∙ (l ∙ sym (length-set k.words HEAD r)))
            (head_too ∙ (is ∙ (ap (λ z. 2 * r + z) bit ∙ ap (λ z. 2 * z + bit_of k.plain.uses z) (sym head))))
            (subst (λ (z : ℕ × ℕ). IsRight (bit_of k.plain.uses) z.0 z.1) (λ j. (sym (right_beside_head k.words r) j, sym (right_beside_head s.words n) j)) k.spells.right)
            (λ j x a. elim (b.rooms j x a) [
              | inl e ↦ inr (subst (λ z. Spells (bit_of k.plain.uses) z (word.next k.words z) (word.next s.words z)) (sym (e ∙ head)) here)
              | inr o ↦ inl o
            ])
            (λ _. use_after s k id v at named w record { words = set k.words HEAD r; homes = homes; views = set s.views id w } b calm) k.spells);
        word_is = pool_word s.words (set s.words HEAD n) k.plain.pool b.now.pool (pool_beside_head s.words n) b.pool k.word_is;
        pooled = pool_links k.words s.words (set k.words HEAD r) (set s.words HEAD n) k.plain.pool b.now.pool b.pool (λ j x a. (next_low s.words HEAD n (omega arith) x, next_low k.words HEAD r (omega arith) x)) k.pooled;
        rung = rung_still s k (set s.words HEAD n) (bell_beside s.words HEAD n (λ e. absurd (omega arith))) b.calm;
      }

  -- the word of the right changes
  right_kept : (r n : ℕ) (w : View E) (homes : Homes E) → IsRight (bit_of k.plain.uses) r n → (b : Becomes (plain_table s k) k.plain v w record { words = set k.words RIGHT r; homes = homes; views = set s.views id w }) → ((x : ℕ) → Begun w.stage x → ⊥)
      → RuleHolds record { words = set s.words RIGHT n; homes = homes; views = set s.views id w }
  right_kept r n w homes is b calm =
      let l = k.spells.long in
      let d = k.plain.wide in record {
        words = set k.words RIGHT r;
        plain = b.now;
        spells = subst (λ z. SpellsWords (bit_of z) b.now.chain.rooms (set k.words RIGHT r) (set s.words RIGHT n) (set s.views id w)) (sym b.uses)
            (spells_low (bit_of k.plain.uses) k.plain.chain.rooms b.now.chain.rooms k.words s.words (set k.words RIGHT r) (set s.words RIGHT n) s.views id w (next_low k.words RIGHT r (omega arith)) (next_low s.words RIGHT n (omega arith))
            (length-set s.words RIGHT n ∙ (l ∙ sym (length-set k.words RIGHT r)))
            (head_beside_right s.words n ∙ (k.spells.head ∙ ap (λ z. 2 * z + bit_of k.plain.uses z) (sym (head_beside_right k.words r))))
            (subst (λ (z : ℕ × ℕ). IsRight (bit_of k.plain.uses) z.0 z.1) (λ j. (sym (right_set k.words r (omega arith)) j, sym (right_set s.words n (omega arith)) j)) is)
            (λ j x a. elim (b.rooms j x a) [
              | inl e ↦ inl (
                k.plain.meets.last.at,
                subst (ItemAt k.plain.chain.rooms k.plain.meets.last.at)
                    (sym (e ∙ head_beside_right k.words r)) k.plain.meets.last.head_at,
              )
              | inr o ↦ inl o
            ])
            (λ _. use_after s k id v at named w record { words = set k.words RIGHT r; homes = homes; views = set s.views id w } b calm) k.spells);
        word_is = pool_word s.words (set s.words RIGHT n) k.plain.pool b.now.pool (pool_beside_right s.words n) b.pool k.word_is;
        pooled = pool_links k.words s.words (set k.words RIGHT r) (set s.words RIGHT n) k.plain.pool b.now.pool b.pool (λ j x a. (next_low s.words RIGHT n (omega arith) x, next_low k.words RIGHT r (omega arith) x)) k.pooled;
        rung = rung_still s k (set s.words RIGHT n) (bell_beside s.words RIGHT n (λ e. absurd (omega arith))) b.calm;
      }

  -- the link of a room in the queue leads to another, of which the party knows the bits
  link_kept : (r old n p : ℕ) (w : View E) (homes : Homes E) → n ≡ 4 * suc r + 2 * bit_of v.bits r + bit_of v.bits old → Knows v.stage r → Knows v.stage old → ItemAt k.plain.chain.rooms p old → old < length s.homes
      → (b : Becomes (plain_table s k) k.plain v w record { words = set k.words (LINKS + old) (suc r); homes = homes; views = set s.views id w }) → ((x : ℕ) → Begun w.stage x → ⊥) → ((i : ℕ) → ItemAt (w.free ++ w.back) i old → ⊥)
      → RuleHolds record { words = set s.words (LINKS + old) n; homes = homes; views = set s.views id w }
  link_kept r old n p w homes is knows knows_old old_in inside b calm apart =
      let d = k.plain.wide in
      let own = mine s k id v at named in
      let t : TableState E = record { words = set k.words (LINKS + old) (suc r); homes = homes; views = set s.views id w } in
      let shared = k.plain.meets.shared p old old_in in
      let right_bits : n ≡ 4 * suc r + 2 * bit_of k.plain.uses r + bit_of k.plain.uses old = is ∙ (λ j. 4 * suc r + 2 * own.knows r knows j + own.knows old knows_old j) in
      record {
        words = set k.words (LINKS + old) (suc r);
        plain = b.now;
        spells = subst (λ z. SpellsWords (bit_of z) b.now.chain.rooms (set k.words (LINKS + old) (suc r)) (set s.words (LINKS + old) n) (set s.views id w)) (sym b.uses)
            (spells_linked (bit_of k.plain.uses) old (suc r) n k.plain.chain.rooms b.now.chain.rooms k.words s.words s.views id w (omega arith)
            (λ j x a. elim (b.rooms j x a) [
              | inl e ↦ (
                k.plain.meets.last.at,
                subst (ItemAt k.plain.chain.rooms k.plain.meets.last.at)
                    (sym (e ∙ head_still)) k.plain.meets.last.head_at,
              )
              | inr o ↦ o
            ])
            (λ _ _. (right_bits, k.spells.bits r, k.spells.bits old))
            (λ j u ne there some_name. (
              (λ i a. spare_shared ((rooms_of (plain_table s k) k.plain j u there some_name).own i old a) shared),
              (λ o. begun_not_in (plain_table s k) k.plain j u old p there some_name o old_in),
            ))
            (λ _. use_linked (bit_of k.plain.uses) old (suc r) n k.words s.words w apart (λ o. calm old o) (use_after s k id v at named w t b calm))
            k.spells);
        word_is = pool_word s.words (set s.words (LINKS + old) n) k.plain.pool b.now.pool (pool_beside_next s.words old n) b.pool k.word_is;
        pooled = pool_links k.words s.words (set k.words (LINKS + old) (suc r)) (set s.words (LINKS + old) n) k.plain.pool b.now.pool b.pool
            (λ j x a.
            let ne : x ≢ old = λ e. shared_pooled shared (ap k.plain.chain.owner (sym e) ∙ k.plain.pooled.own j x a) in
            (next_beside_next s.words old x n ne, next_beside_next k.words old x (suc r) ne)) k.pooled;
        rung = rung_still s k (set s.words (LINKS + old) n) (bell_beside s.words (LINKS + old) n (λ e. absurd (omega arith))) b.calm;
      }
    where
      head_still : word.head (set k.words (LINKS + old) (suc r)) ≡ word.head k.words
      head_still = get_or-set_other k.words (LINKS + old) HEAD (suc r) 0 (λ e. absurd (omega arith))

  -- the free rooms of a party after a step that leaves them are not in the queue
  apart_same : (w : View E) (old p : ℕ) → w.free ≡ v.free → w.back ≡ v.back → ItemAt k.plain.chain.rooms p old → (i : ℕ) → ItemAt (w.free ++ w.back) i old → ⊥
  apart_same w old p free back a i ia =
      spare_not_in (plain_table s k) k.plain id old p ((rooms_of (plain_table s k) k.plain id v at named).own i old (subst (λ l. ItemAt l i old) (λ j. free j ++ back j) ia)) a

-- ---- what the code has of the uses of rooms
pub match_map : {T : Type 0} {A B : Type 0} {P Q : T → Type 0} (o : Option T) → (A → B) → ((x : T) → P x → Q x) → MatchOption o A P → MatchOption o B Q
match_map None f g k = f k
match_map (Some x) f g k = g x k

module _ {E : Type 0} where
  -- a use of a room is still known after a step
  pub still_has : (m k : SeatState E) (u : RoomUse) → play.KeepsBits m k → Knows m.0.stage u.room → play.HasUse m u → play.HasUse k u
  still_has m k u keeps o h = (keeps u.room o ∙ h.0, h.1)

  -- a word that leads to a use, decoded
  pub finds_use : (k : SeatState E) (found : ℕ) (u : RoomUse) (tells : ℕ → Type 0) → play.Finds found k tells → ((room bit : ℕ) → found ≡ 2 * room + bit → IsBit bit → (u.room ≡ room) × (u.bit ≡ bit)) → play.HasUse k u × tells u.room
  finds_use k found u tells f p =
      let e = p f.room f.bit f.found_is f.is_bit in (
        (ap (λ r. bit_of k.0.bits r) e.0 ∙ (f.knows ∙ sym e.1), subst IsBit (sym e.1) f.is_bit),
        subst tells (sym e.0) f.told,
      )

  -- the word of a link to the stub's use
  pub stub_link : (m : SeatState E) (u old : RoomUse) → play.HasUse m u → play.HasUse m old → u.room ≡ 0 → 4 * suc u.room + 2 * u.bit + old.bit ≡ 4 * 1 + 2 * bit_of m.0.bits 0 + bit_of m.0.bits old.room
  stub_link m u old h i e = (λ j. 4 * suc (e j) + 2 * sym h.0 j + sym i.0 j) ∙ ap (λ r. 4 * 1 + 2 * bit_of m.0.bits r + bit_of m.0.bits old.room) e

  -- a link, read by the bit that the code has
  pub record ReadBy (u : RoomUse) (found : ℕ) (k : SeatState E) (tells : ℕ → Type 0) : Type 0 where
    pub next : ℕ
    pub to : ℕ
    pub read : IsRead u.bit found next to
    pub knows : (r : RoomUse) → next ≡ suc r.room → r.bit ≡ to → play.HasUse k r
    pub told : tells next

  pub reads_for : (m k : SeatState E) (u : RoomUse) (found : ℕ) (tells : ℕ → Type 0) → play.HasUse m u
      → play.Reads u.room m found k tells → ReadBy u found k tells
  reads_for m k u found tells h f =
      let read : IsRead u.bit found f.next f.to = subst (λ b. IsRead b found f.next f.to) h.0 f.read in record {
        next = f.next;
        to = f.to;
        read = read;
        knows = λ r e same.
            let linked = subst (λ n. IsRead u.bit found n f.to) e read in
            (f.knows r.room e ∙ sym same, subst IsBit (sym same) linked.1);
        told = f.told;
      }

  -- the word of the stub's use
  pub stub_bits : (m : SeatState E) (u : RoomUse) → play.HasUse m u → u.room ≡ 0 → 2 * u.room + u.bit ≡ 2 * 0 + bit_of m.0.bits 0
  stub_bits m u h e = (λ i. 2 * e i + sym h.0 i) ∙ ap (λ r. 2 * 0 + bit_of m.0.bits r) e

module _ {E : Type 0} where
  -- ---- the swap of the head, and the store of the link
  pub puts_in : (slots id n : ℕ) (me : SeatState E) (r : ℕ) (e : E) (cs : Hand E) → n ≡ 2 * r + bit_of me.0.bits r → me.0.stage ≡ Cleared r → me.0.item ≡ Some e → me.1 ≡ (r, Some e) ∷ cs → r < slots → me.0.known.share ≢ []
      → Allows RuleHolds slots id me HEAD (λ _. n) (play.after_swap (step slots HEAD n 0 none) me)
  puts_in slots id n me r e cs is ready item hand near named s k deep at fits =
      let b = swaps slots id me r e cs ready item hand near named (plain_table s k) k.plain deep at in
      let w = b.0.view in
      let told = b.1 r e cs ready item hand in
      let h = word.head k.words in
      let z = stepped (plain_table s k) HEAD r id me.1 w b.0.act in (
        w,
        b.0.act,
        b.0.valid,
        head_kept s k id me.0 at named r n w (homes_after s.homes me.1 b.0.act) is
            (subst (λ l. Knows l r) (sym ready) refl)
            (subst (λ l. Begun l r) (sym ready) refl) b.0.becomes (calm_at told.stage (λ x o. o)),
        (
          bits_kept s k id me.0 at named w z b.0.becomes,
          record {
            room = h;
            bit = bit_of k.plain.uses h;
            found_is = k.spells.head;
            is_bit = k.spells.bits h;
            knows = ap (λ l. bit_of l h) b.0.becomes.bits;
            told = b.1;
          },
        ),
      )

  pub links_to : (slots id i n : ℕ) (me : SeatState E) (r old : ℕ) → i ≡ LINKS + old → n ≡ 4 * suc r + 2 * bit_of me.0.bits r + bit_of me.0.bits old → me.0.stage ≡ Swapped r old → old < slots → me.0.known.share ≢ []
      → Allows RuleHolds slots id me i (λ _. n) (λ _. play.after_link (step slots i n 0 none) me n)
  links_to slots id i n me r old is is_n waits near named s k deep at fits =
      let q = plain_table s k in
      let b = links_on slots id i (suc r) me r old is (omega arith) waits near named q k.plain deep at in
      let w = b.0.view in
      let told = b.1 r old waits in
      let f = party_as q k.plain id me.0 at named waits in
      let homes = homes_after s.homes me.1 b.0.act in
      let kept : RuleHolds record { words = set s.words (LINKS + old) n; homes = homes; views = set s.views id w } =
      link_kept s k id me.0 at named r old n f.at w homes is_n (subst (λ l. Knows l r) (sym waits) (inl refl))
      (subst (λ l. Knows l old) (sym waits) (inr refl)) f.old_at (omega arith)
      (subst (λ j. Becomes q k.plain me.0 w record {
        words = set k.words j (suc r);
        homes = homes;
        views = set s.views
            id w;
      }) is b.0.becomes) (calm_at told.stage (λ x o. o))
      (apart_same s k id me.0 at named w old f.at told.free told.back f.old_at) in (
        w,
        b.0.act,
        b.0.valid,
        subst (λ j. RuleHolds record { words = set s.words j n; homes = homes; views = set s.views id w }) (sym is) kept,
        b.1,
      )

module _ {E : Type 0} (slots id : ℕ) (me : SeatState E) (hand : me.1 ≡ carry me.0.back) (near : Near slots me.0.back) (named : me.0.known.share ≢ []) (may : MayJoin (free_chain me.0) (back_chain me.0)) where
  -- ---- the right
  pub asks_right : me.0.stage ≡ Rest → Allows RuleHolds slots id me RIGHT (λ _. 0) (play.after_take (step slots RIGHT 0 0 none) me)
  asks_right rest s k deep at fits =
      let b = takes_right slots id me hand near named may rest (plain_table s k) k.plain deep at in
      let w = b.0.view in
      let told = b.1 rest in
      let c : SeatState E = (w, carried_after me.1 b.0.act) in
      let busy : List (Event Name E) = Event.Busy (name me.0) ∷ [] in
      let took : List (Event Name E) = Event.Take (name me.0) ∷ [] in
      let r = spelt_right (bit_of k.plain.uses) (word.right k.words) (word.right s.words) k.spells.bits k.spells.right in (
        w,
        b.0.act,
        b.0.valid,
        right_kept s k id me.0 at named 0 0 w (homes_after s.homes me.1 b.0.act) refl b.0.becomes
            (calm_moves busy took Rest (λ t. Holding t) (word.right k.words) me c (λ x o. o) (λ t x o. o) told.0
            (λ t e. (told.1 t e).0)),
        record {
          right = word.right k.words;
          bit = r.bit;
          found_is = r.found_is;
          is_bit = r.is_bit;
          knows = λ t e. ap (λ l. bit_of l t) b.0.becomes.bits ∙ r.knows t e;
          told = b.1;
        },
      )

  pub gives_back : (t n : ℕ) → n ≡ 2 * suc t + bit_of me.0.bits t → me.0.stage ≡ Holding t → Allows RuleHolds slots id me RIGHT (λ _. n) (λ _. play.after_give (step slots RIGHT n 0 none) me n)
  gives_back t n is holding s k deep at fits =
      let b = gives_right slots id me hand near named may t (suc t) (omega arith) holding (plain_table s k) k.plain deep at in
      let w = b.0.view in
      let told = b.1 t holding in
      let own = mine s k id me.0 at named in (
        w,
        b.0.act,
        b.0.valid,
        right_kept s k id me.0 at named (suc t) n w (homes_after s.homes me.1 b.0.act)
            (is ∙ ap (λ z. 2 * suc t + z) (own.knows t (subst (λ l. Knows l t) (sym holding) refl))) b.0.becomes
            (calm_at told.stage (λ x o. o)),
        b.1,
      )

  -- ---- the stub is put in
  pub stub_swapped : (t n : ℕ) → n ≡ 2 * 0 + bit_of me.0.bits 0 → me.0.stage ≡ PutSwap t → Allows RuleHolds slots id me HEAD (λ _. n) (play.after_swap_stub (step slots HEAD n 0 none) me)
  stub_swapped t n is waits s k deep at fits =
      let b = swaps_stub slots id me hand near named may t waits (plain_table s k) k.plain deep at in
      let w = b.0.view in
      let told = b.1 t waits in
      let h = word.head k.words in
      let z = stepped (plain_table s k) HEAD 0 id me.1 w b.0.act in (
        w,
        b.0.act,
        b.0.valid,
        head_kept s k id me.0 at named 0 n w (homes_after s.homes me.1 b.0.act) is
            (subst (λ l. Knows l 0) (sym waits) (inr refl)) (subst (λ l. Begun l 0) (sym waits) refl) b.0.becomes
            (calm_at told.0.stage (λ x o. o)),
        (
          bits_kept s k id me.0 at named w z b.0.becomes,
          record {
            room = h;
            bit = bit_of k.plain.uses h;
            found_is = k.spells.head;
            is_bit = k.spells.bits h;
            knows = ap (λ l. bit_of l h) b.0.becomes.bits;
            told = b.1;
          },
        ),
      )

  pub stub_linked : (t old i n : ℕ) → i ≡ LINKS + old → n ≡ 4 * 1 + 2 * bit_of me.0.bits 0 + bit_of me.0.bits old → old < slots → me.0.stage ≡ PutLink t old → Allows RuleHolds slots id me i (λ _. n) (λ _. play.after_link_stub (step slots i n 0 none) me n)
  stub_linked t old i n is is_n inside waits s k deep at fits =
      let q = plain_table s k in
      let b = links_stub slots id me hand near named may t old i is inside waits q k.plain deep at in
      let w = b.0.view in
      let told = b.1 t old waits in
      let f = party_as q k.plain id me.0 at named waits in
      let homes = homes_after s.homes me.1 b.0.act in
      let z = stepped q i 1 id me.1 w b.0.act in
      let kept : RuleHolds record { words = set s.words (LINKS + old) n; homes = homes; views = set s.views id w } =
      link_kept s k id me.0 at named 0 old n f.at w homes is_n (subst (λ l. Knows l 0) (sym waits) (inr (inl refl)))
      (subst (λ l. Knows l old) (sym waits) (inr (inr refl))) f.old_at (omega arith)
      (subst (λ j. Becomes q k.plain me.0 w record { words = set k.words j 1; homes = homes; views = set s.views id w })
      is b.0.becomes) (calm_at told.stage (λ x o. o))
      (λ j a.
      let rooms = ap (λ l. w.free ++ l) told.back ∙ (append-nil w.free ∙ told.free) in
      let mine = (rooms_of q k.plain id me.0 at named).own j old (subst (λ l. ItemAt l j old) rooms a) in
      spare_not_in q k.plain id old f.at mine f.old_at) in (
        w,
        b.0.act,
        b.0.valid,
        subst (λ j. RuleHolds record { words = set s.words j n; homes = homes; views = set s.views id w }) (sym is) kept,
        (bits_kept s k id me.0 at named w z b.0.becomes, b.1),
      )

  -- ---- a load of the stub's link, by which a use of its room begins
  pub stub_begins : (t : ℕ) → me.0.stage ≡ PutClear t → Allows RuleHolds slots id me LINKS (λ n. n) (play.after_begin_stub (step slots LINKS 0 0 none) me)
  stub_begins t waits s k deep at fits =
      let p = k.plain in
      let q = plain_table s k in
      let own = mine s k id me.0 at named in
      let found = word.next s.words 0 in
      let l = any_link found in
      let c = 1 - l.bit in
      let old = now_old found (found / 4) l.to l.bit l.is in
      let f = party_as q p id me.0 at named waits in
      let kept : p.chain.keeper ≡ Some id = f.0.keeps.kept in
      let out : (j : ℕ) → ItemAt p.chain.rooms j 0 → ⊥ = f.1 in
      let b = clears_stub slots id me hand near named may t waits q (with_use q p 0 c) deep at in
      let w = b.0.view in
      let told = b.1 t waits in
      let stage : w.stage ≡ PutSwap t = told.stage in
      let z = stepped q LINKS 0 id me.1 w b.0.act in
      let there : get_elem? z.views id ≡ some w = set_here s.views id w (at_length s.views id me.0 at) in
      let spelt : SpellsWords (update (bit_of p.uses) 0 c) b.0.becomes.now.chain.rooms
      (set k.words (LINKS + 0) 0) s.words (set s.views id w) =
      spells_begun (bit_of p.uses) 0 c p.chain.rooms b.0.becomes.now.chain.rooms k.words s.words s.views id w old.1 out
      (λ j x y a linked same. let o = next_in q p j x y a linked in out o.0 (subst (ItemAt p.chain.rooms o.0) same o.1))
      (λ y right same. out 0 (subst (ItemAt p.chain.rooms 0) same (right_in q p y right)))
      (p.meets.last.at, p.meets.last.head_at) b.0.becomes.rooms
      (λ j u ne there_too some_name. record {
        not_free = λ i a. spare_shared ((rooms_of q p j u there_too some_name).own i 0 a) p.meets.stub;
        not_begun = λ o. elim (begun_of q p j u 0 there_too some_name o).0 [
          | inl ready ↦ ready_shared ready p.meets.stub
          | inr stub ↦ ne (some_inj (sym stub.1 ∙ kept))
        ];
        not_known = λ o. elim (place_of q p j u 0 there_too some_name o) [
          | inl a ↦ out a.0 a.1
          | inr y ↦ elim y [ inl ready ↦ ready_shared ready p.meets.stub | inr stub ↦ ne (some_inj (sym stub.1 ∙ kept)) ]
        ];
      })
      (begun_mine q p 0 c s.words s.views id me.0 w z k.spells own b.0.becomes there
      (subst (λ y. Begun y 0) (sym stage) refl) (λ x o. subst (λ y. Begun y x) stage o) old.0)
      k.spells in
      let words_are : s.words ≡ set s.words LINKS (get_or s.words LINKS 0) = sym (set-get_or s.words LINKS 0) in (
        w,
        b.0.act,
        b.0.valid,
        record {
          words = set k.words LINKS 0;
          plain = b.0.becomes.now;
          spells = subst (λ (y : List (ℕ × ℕ) × List ℕ). SpellsWords (bit_of y.0) b.0.becomes.now.chain.rooms
              (set k.words LINKS 0) y.1 (set s.views id w)) (λ j. (sym b.0.becomes.uses j, words_are j)) spelt;
          word_is = pool_word s.words (set s.words LINKS (get_or s.words LINKS 0)) p.pool b.0.becomes.now.pool
              (ap (λ ws. word.pool ws) (sym words_are)) b.0.becomes.pool k.word_is;
          pooled = pool_links k.words s.words (set k.words LINKS 0) (set s.words LINKS (get_or s.words LINKS 0)) p.pool
              b.0.becomes.now.pool b.0.becomes.pool
              (λ j x a. (ap (λ ws. word.next ws x) (sym words_are), next_beside_next k.words 0 x 0 (λ e. shared_pooled p.meets.stub (ap p.chain.owner (sym e) ∙ p.pooled.own j x a)))) k.pooled;
          rung = rung_still s k (set s.words LINKS (get_or s.words LINKS 0)) (ap (λ ws. bell ws) (sym words_are)) b.0.becomes.calm;
        },
        (
          (λ r o. ap (λ y. bit_of y r) b.0.becomes.bits
              ∙ (put_other (bit_of p.uses) 0 c r (λ e. f.0.is_real (sym (subst (λ y. Knows y r) waits o) ∙ e))
              ∙ sym (own.knows r o))),
          record {
            next = found / 4;
            to = l.to;
            bit = l.bit;
            link = l.is;
            knows = ap (λ y. bit_of y 0) b.0.becomes.bits ∙ put_same (bit_of p.uses) 0 c;
            told = b.1;
          },
        ),
      )
