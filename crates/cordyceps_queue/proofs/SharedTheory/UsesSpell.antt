-- What a step leaves of the bits of the uses: which rooms a party names, and how a change of a word is spelt.
use Rattle.std.proofs.Common.{◌≡◌, ◌≢◌, ◌⊎◌, ℕ, zero, suc, ◌+◌, ◌*◌, ◌<◌, List, [], ◌++◌, length, reverse, set, Option, Some, None, refl, sym, ap, ◌∙◌, subst, inl, inr, arith, length-set}
use mathlib.Core.Option.{some}
use native.Mathlib.Decide.{ℕ_discrete}
use lib.ListN.{get_elem?}
use Rattle.cordyceps_shared.specs.FreeChains.{FreeChain}
use Rattle.cordyceps_shared.specs.Histories.{events}
use Rattle.cordyceps_shared.specs.Places.{ItemAt}
use Rattle.cordyceps_shared.specs.Pools.{LeadsTo}
use Rattle.cordyceps_shared.specs.Shares.{Name}
use Rattle.cordyceps_shared.specs.Words as word
use Rattle.cordyceps_shared.specs.declared.layout.TheConstants.{LINKS}
use Rattle.cordyceps_shared.proofs.ChangedItems.{one_set}
use Rattle.cordyceps_shared.proofs.Words.{next_set, next_beside_next, head_beside_next, right_beside_next}
use Rattle.cordyceps_queue.specs.declared.cores.stage.Stage.{Stage}
use Rattle.cordyceps_queue.specs.declared.cores.stage.Stage.TheVariants.{Rest, Cleared, Swapped, Holding, StubNull, Second, Null, PutClear, PutSwap, PutLink, PutRead}
use Rattle.cordyceps_queue.specs.History.{Event}
use Rattle.cordyceps_queue.specs.Cores.Abstract.{AbstractMachine, update}
use Rattle.cordyceps_queue.specs.Cores.Meets.{Owner, Spare, Ready, Chain, Joined, IsOut, AtStage, Meets}
use Rattle.cordyceps_queue.specs.Shared.Bits.{IsBit, IsFreeLink, IsLink, IsOld, IsRead, IsRight, Spells, SpellsFree, Knows, Begun, KeepsUse, SpellsWords}
use Rattle.cordyceps_queue.specs.Shared.Rule.{TableState, link_of, PlainHolds}
use Rattle.cordyceps_queue.specs.Shared.View.{View, name}
use Rattle.cordyceps_queue.proofs.CoreTheory.Basics.{some_inj, none_some, some_none, suc_inj, zero_suc, at_one, at_within, put_same, put_other}
use Rattle.cordyceps_queue.proofs.CoreTheory.DequeueSteps.{free_right}
use Rattle.cordyceps_queue.proofs.CoreTheory.HolderSteps.{at_some}
use Rattle.cordyceps_queue.proofs.CoreTheory.ProducerSteps.{spare_shared, ready_shared, ready_spare}
use Rattle.cordyceps_queue.proofs.SharedTheory.WordsAsMachine.{party_as, core, Among}

-- a link of a free room that is as it was still leads to the room that it led to
pub free_link_as : {link next link' next' : ℕ} → link' ≡ link → next' ≡ next → IsFreeLink link next → IsFreeLink link' next'
free_link_as same same' f = record { to = f.to; bit = f.bit; is = subst (λ (z : ℕ × ℕ). IsLink z.0 z.1 f.to f.bit) (λ j. (sym same j, sym same' j)) f.is }

-- ---- the rooms that a party names
-- such a room is in the queue, or the party has begun to use it
abbrev pub Place : List ℕ → (ℕ → Owner) → Option ℕ → ℕ → ℕ → Type 0
Place rooms owner keeper j x = ((i : ℕ) × ItemAt rooms i x) ⊎ ((owner x ≡ Ready j) ⊎ ((x ≡ 0) × (keeper ≡ Some j)))

module _ {P E : Type 0} (head : ℕ) (next : ℕ → Option ℕ) (cell : ℕ → Option E) (owner : ℕ → Owner) (keeper : Option ℕ) (rooms : List ℕ) (h : List (Event P E)) (j : ℕ) (n : P) where
  in_chain : (i y x : ℕ) → ItemAt rooms i y → x ≡ y → Place rooms owner keeper j x
  in_chain i y x a is = inl (i, subst (ItemAt rooms i) (sym is) a)

  pub known_place : (stage : Stage) (x : ℕ) → AtStage head next cell owner keeper rooms h j n stage → Knows stage x → Place rooms owner keeper j x
  known_place Rest x f o = absurd o
  known_place (Cleared r) x f o = inr (inl (ap owner o ∙ f.ready))
  known_place (Swapped r old) x f o = elim o [
    | inl is ↦ in_chain (suc f.at) r x f.room_at is
    | inr is ↦ in_chain f.at old x f.old_at is
  ]
  known_place (Holding t) x f o = in_chain 0 t x f.tail o
  known_place StubNull x f o = in_chain 0 0 x f.keeps.tail o
  known_place (Second t) x f o = in_chain 0 t x f.keeps.tail o
  known_place (Null t) x f o = in_chain 0 t x f.0.keeps.tail o
  known_place (PutClear t) x f o = in_chain 0 t x f.0.keeps.tail o
  known_place (PutSwap t) x f o = elim o [
    | inl is ↦ in_chain 0 t x f.has.keeps.tail is
    | inr is ↦ inr (inr (is, f.has.keeps.kept))
  ]
  known_place (PutLink t old) x f o = elim o [
    | inl is ↦ in_chain 0 t x f.has.keeps.tail is
    | inr rest ↦ elim rest [
      | inl is ↦ in_chain (suc f.at) 0 x f.stub_at is
      | inr is ↦ in_chain f.at old x f.old_at is
    ]
  ]
  known_place (PutRead t) x f o = in_chain 0 t x f.0.keeps.tail o

  -- a room that a party has begun to use is not in the queue, and its link is null
  pub begun_place : (stage : Stage) (x : ℕ) → AtStage head next cell owner keeper rooms h j n stage → Begun stage x → ((owner x ≡ Ready j) ⊎ ((x ≡ 0) × (keeper ≡ Some j) × IsOut rooms)) × (next x ≡ None)
  begun_place Rest x f o = absurd o
  begun_place (Cleared r) x f o = (inl (ap owner o ∙ f.ready), ap next o ∙ f.null)
  begun_place (Swapped r old) x f o = absurd o
  begun_place (Holding t) x f o = absurd o
  begun_place StubNull x f o = absurd o
  begun_place (Second t) x f o = absurd o
  begun_place (Null t) x f o = absurd o
  begun_place (PutClear t) x f o = absurd o
  begun_place (PutSwap t) x f o = (inr (o, f.has.keeps.kept, f.out), ap next o ∙ f.null)
  begun_place (PutLink t old) x f o = absurd o
  begun_place (PutRead t) x f o = absurd o

-- the link of a room in the queue leads to a room in the queue
module _ {P E : Type 0} (m : AbstractMachine P E) (c : Chain) (h : List (Event P E)) (M : Meets m c h) where
  pub leads_in : (i x y : ℕ) → ItemAt c.rooms i x → m.next x ≡ Some y → (j : ℕ) × ItemAt c.rooms j y
  leads_in i x y a linked = elim (ℕ_discrete i M.last.at) [
    | yes e ↦ absurd (none_some (sym M.ends ∙ (ap m.next (sym (same e)) ∙ linked)))
    | no ne ↦ from (at_some c.rooms (suc i) (let l = M.last.long in let w = at_within c.rooms i x a in omega arith))
  ]
    where
      same : i ≡ M.last.at → x ≡ m.head
      same e = at_one c.rooms i x m.head a (subst (λ n. ItemAt c.rooms n m.head) (sym e) M.last.head_at)

      by : (b : ℕ) → Joined m.next m.party x b → b ≡ y
      by b (inl l) = some_inj (sym l ∙ linked)
      by b (inr o) = absurd (some_none (sym linked ∙ o.0))

      from : (b : ℕ) × ItemAt c.rooms (suc i) b → (j : ℕ) × ItemAt c.rooms j y
      from s = (suc i, subst (ItemAt c.rooms (suc i)) (by s.0 (M.joined i x s.0 a s.1)) s.1)

module _ {E : Type 0} (s : TableState E) (k : PlainHolds s) where
  abbrev past : List (Event Name E)
  past = reverse (events k.history)

  pub place_of : (j : ℕ) (u : View E) (x : ℕ) → get_elem? s.views j ≡ some u → u.known.share ≢ [] → Knows u.stage x → Place k.chain.rooms k.chain.owner k.chain.keeper j x
  place_of j u x at named o = known_place (core s k).head (core s k).next k.cell k.chain.owner k.chain.keeper k.chain.rooms (reverse (events k.history)) j (name u) u.stage x (party_as s k j u at named refl) o

  pub begun_of : (j : ℕ) (u : View E) (x : ℕ) → get_elem? s.views j ≡ some u → u.known.share ≢ [] → Begun u.stage x → ((k.chain.owner x ≡ Ready j) ⊎ ((x ≡ 0) × (k.chain.keeper ≡ Some j) × IsOut k.chain.rooms)) × ((core s k).next x ≡ None)
  begun_of j u x at named o = begun_place (core s k).head (core s k).next k.cell k.chain.owner k.chain.keeper k.chain.rooms (reverse (events k.history)) j (name u) u.stage x (party_as s k j u at named refl) o

  -- no free room is begun
  pub begun_not_spare : (j l : ℕ) (u : View E) (x : ℕ) → get_elem? s.views j ≡ some u → u.known.share ≢ [] → Begun u.stage x → k.chain.owner x ≡ Spare l → ⊥
  begun_not_spare j l u x at named o free = elim (begun_of j u x at named o).0 [
    | inl r ↦ ready_spare r free
    | inr z ↦ spare_shared free (ap k.chain.owner z.0 ∙ k.meets.stub)
  ]

  pub begun_not_in : (j : ℕ) (u : View E) (x i : ℕ) → get_elem? s.views j ≡ some u → u.known.share ≢ [] → Begun u.stage x → ItemAt k.chain.rooms i x → ⊥
  begun_not_in j u x i at named o a = elim (begun_of j u x at named o).0 [
    | inl r ↦ ready_shared r (k.meets.shared i x a)
    | inr z ↦ let (is_stub, _, out) = z in out i (subst (ItemAt k.chain.rooms i) is_stub a)
  ]

  -- no free room is in the queue
  pub spare_not_in : (l x i : ℕ) → k.chain.owner x ≡ Spare l → ItemAt k.chain.rooms i x → ⊥
  spare_not_in l x i free a = spare_shared free (k.meets.shared i x a)

  pub right_in : (t : ℕ) → word.right s.words ≡ suc t → ItemAt k.chain.rooms 0 t
  right_in t e = (free_right (core s k).right (core s k).party k.chain.rooms (reverse (events k.history)) k.chain.keeper t e k.meets.right).tail_at

  pub next_in : (i x y : ℕ) → ItemAt k.chain.rooms i x → word.next s.words x ≡ suc y → (j : ℕ) × ItemAt k.chain.rooms j y
  next_in i x y a e = leads_in (core s k) k.chain (reverse (events k.history)) k.meets i x y a (ap link_of e)

-- ---- a use begins
pub null_word : (n : ℕ) → link_of n ≡ None → n ≡ 0
null_word zero e = refl
null_word (suc n) e = absurd (none_some (sym e))

module _ (uses : ℕ → ℕ) (r c : ℕ) where
  spells_else : (x w y : ℕ) → x ≢ r → ((s : ℕ) → w ≡ suc s → s ≢ r) → Spells uses x w y → Spells (update uses r c) x w y
  spells_else x zero y ne away k = subst (λ b. IsOld b y) (sym (put_other uses r c x ne)) k
  spells_else x (suc s) y ne away k = subst (λ (b : ℕ × ℕ). IsLink y (suc s) b.0 b.1) (λ i. (sym (put_other uses r c s (away s refl)) i, sym (put_other uses r c x ne) i)) k

  right_else : (w y : ℕ) → ((t : ℕ) → w ≡ suc t → t ≢ r) → IsRight uses w y → IsRight (update uses r c) w y
  right_else zero y away k = k
  right_else (suc t) y away k = k ∙ ap (λ b. 2 * suc t + b) (sym (put_other uses r c t (away t refl)))

  bits_else : IsBit c → ((x : ℕ) → IsBit (uses x)) → (x : ℕ) → IsBit (update uses r c x)
  bits_else bit k x = elim (ℕ_discrete x r) [
    | yes e ↦ subst IsBit (sym (ap (update uses r c) e ∙ put_same uses r c)) bit
    | no ne ↦ subst IsBit (sym (put_other uses r c x ne)) (k x)
  ]

module _ {E : Type 0} where
  -- room r is no free one of the party, nor one on which it acts
  pub record IsAnothers (v : View E) (r : ℕ) : Type 0 where
    pub not_free : (i : ℕ) → ItemAt (v.free ++ v.back) i r → ⊥
    pub not_begun : Begun v.stage r → ⊥
    pub not_known : Knows v.stage r → ⊥

  -- a bystander, where a use of room r begins and its plain link becomes null
  use_else : (uses : ℕ → ℕ) (r c : ℕ) (plain words : List ℕ) (v : View E) → IsAnothers v r → KeepsUse uses plain words v → KeepsUse (update uses r c) (set plain (LINKS + r) 0) words v
  use_else uses r c plain words v far k = record {
    free = λ i x a. free_link_as refl (next_beside_next plain r x 0 (λ e. far.not_free i (subst (ItemAt (v.free ++ v.back) i) e a))) (k.free i x a);
    begun = λ x o. subst (λ b. IsOld b (word.next words x)) (sym (put_other uses r c x (λ e. far.not_begun (subst (Begun v.stage) e o)))) (k.begun x o);
    knows = λ x o. k.knows x o ∙ sym (put_other uses r c x (λ e. far.not_known (subst (Knows v.stage) e o)));
  }

  -- the words, where a use of room r begins, of which no word of the queue speaks
  pub spells_begun : (uses : ℕ → ℕ) (r c : ℕ) (rooms now plain words : List ℕ) (views : List (View E)) (id : ℕ) (w : View E) → IsBit c
      → ((i : ℕ) → ItemAt rooms i r → ⊥) → ((i x s : ℕ) → ItemAt rooms i x → word.next plain x ≡ suc s → s ≢ r) → ((t : ℕ) → word.right plain ≡ suc t → t ≢ r) → ((i : ℕ) × ItemAt rooms i (word.head plain))
      → Among (set plain (LINKS + r) 0) rooms now
      → ((j : ℕ) (u : View E) → j ≢ id → get_elem? views j ≡ some u → u.known.share ≢ [] → IsAnothers u r)
      → (w.known.share ≢ [] → KeepsUse (update uses r c) (set plain (LINKS + r) 0) words w)
      → SpellsWords uses rooms plain words views → SpellsWords (update uses r c) now (set plain (LINKS + r) 0) words (set views id w)
  spells_begun uses r c rooms now plain words views id w bit out to_other right_other head_at among others mine k =
      let head_else : word.head plain ≢ r = λ e. out head_at.0 (subst (ItemAt rooms head_at.0) e head_at.1) in
      let still : (i x : ℕ) → ItemAt rooms i x → Spells (update uses r c) x (word.next (set plain (LINKS + r) 0) x) (word.next words x) = λ i x a.
      let ne : x ≢ r = λ e. out i (subst (ItemAt rooms i) e a) in
      subst (λ n. Spells (update uses r c) x n (word.next words x)) (sym (next_beside_next plain r x 0 ne)) (spells_else uses r c x (word.next plain x) (word.next words x) ne (λ s e. to_other i x s a e) (k.links i x a)) in record {
        bits = bits_else uses r c bit k.bits;
        long = k.long ∙ sym (length-set plain (LINKS + r) 0);
        head = k.head ∙ ap (λ n. 2 * word.head plain + n) (sym (put_other uses r c (word.head plain) head_else)) ∙ ap (λ n. 2 * n + update uses r c n) (sym (head_beside_next plain r 0));
        right = subst (λ n. IsRight (update uses r c) n (word.right words)) (sym (right_beside_next plain r 0)) (right_else uses r c (word.right plain) (word.right words) right_other k.right);
        links = λ i x a. elim (among i x a) [
          | inl e ↦ still head_at.0 x (subst (ItemAt rooms head_at.0) (sym (e ∙ head_beside_next plain r 0)) head_at.1)
          | inr b ↦ still b.0 x b.1
        ];
        each = one_set (λ _ u. u.known.share ≢ [] → KeepsUse (update uses r c) (set plain (LINKS + r) 0) words u) views id w mine
            (λ j u ne at named. use_else uses r c plain words u (others j u ne at named) (k.each j u at named));
      }

-- ---- a word changes
module _ {E : Type 0} where
  -- a bystander, where no link changes
  use_low : (uses : ℕ → ℕ) (plain words plain' words' : List ℕ) (v : View E) → ((r : ℕ) → word.next plain' r ≡ word.next plain r) → ((r : ℕ) → word.next words' r ≡ word.next words r) → KeepsUse uses plain words v → KeepsUse uses plain' words' v
  use_low uses plain words plain' words' v same same' k = record {
    free = λ i x a. free_link_as (same' x) (same x) (k.free i x a);
    begun = λ x o. subst (λ n. IsOld (uses x) n) (sym (same' x)) (k.begun x o);
    knows = k.knows;
  }

  -- the words, where no link changes
  pub spells_low : (uses : ℕ → ℕ) (rooms now plain words plain' words' : List ℕ) (views : List (View E)) (id : ℕ) (w : View E) → ((r : ℕ) → word.next plain' r ≡ word.next plain r) → ((r : ℕ) → word.next words' r ≡ word.next words r)
      → length words' ≡ length plain' → word.head words' ≡ 2 * word.head plain' + uses (word.head plain') → IsRight uses (word.right plain') (word.right words')
      → ((i x : ℕ) → ItemAt now i x → ((j : ℕ) × ItemAt rooms j x) ⊎ Spells uses x (word.next plain x) (word.next words x))
      → (w.known.share ≢ [] → KeepsUse uses plain words w) → SpellsWords uses rooms plain words views → SpellsWords uses now plain' words' (set views id w)
  spells_low uses rooms now plain words plain' words' views id w same same' long head right among mine k = record {
    bits = k.bits;
    long = long;
    head = head;
    right = right;
    links = λ i x a. subst (λ (n : ℕ × ℕ). Spells uses x n.0 n.1) (λ j. (sym (same x) j, sym (same' x) j)) (elim (among i x a) [ inl b ↦ k.links b.0 x b.1 | inr s ↦ s ]);
    each = one_set (λ _ u. u.known.share ≢ [] → KeepsUse uses plain' words' u) views id w (λ named. use_low uses plain words plain' words' w same same' (mine named))
        (λ j u ne at named. use_low uses plain words plain' words' u same same' (k.each j u at named));
  }

  -- a bystander, where the link of room y changes
  pub use_linked : (uses : ℕ → ℕ) (y n m : ℕ) (plain words : List ℕ) (v : View E) → ((i : ℕ) → ItemAt (v.free ++ v.back) i y → ⊥) → (Begun v.stage y → ⊥) → KeepsUse uses plain words v → KeepsUse uses (set plain (LINKS + y) n) (set words (LINKS + y) m) v
  use_linked uses y n m plain words v not_free not_begun k = record {
    free = λ i x a.
        let ne : x ≢ y = λ e. not_free i (subst (ItemAt (v.free ++ v.back) i) e a) in
        free_link_as (next_beside_next words y x m ne) (next_beside_next plain y x n ne) (k.free i x a);
    begun = λ x o. subst (λ z. IsOld (uses x) z) (sym (next_beside_next words y x m (λ e. not_begun (subst (Begun v.stage) e o)))) (k.begun x o);
    knows = k.knows;
  }

  -- the words, where the link of room y changes
  pub spells_linked : (uses : ℕ → ℕ) (y n m : ℕ) (rooms now plain words : List ℕ) (views : List (View E)) (id : ℕ) (w : View E) → LINKS + y < length plain
      → ((i x : ℕ) → ItemAt now i x → (j : ℕ) × ItemAt rooms j x) → ((i : ℕ) → ItemAt rooms i y → Spells uses y n m)
      → ((j : ℕ) (u : View E) → j ≢ id → get_elem? views j ≡ some u → u.known.share ≢ [] → ((i : ℕ) → ItemAt (u.free ++ u.back) i y → ⊥) × (Begun u.stage y → ⊥))
      → (w.known.share ≢ [] → KeepsUse uses (set plain (LINKS + y) n) (set words (LINKS + y) m) w) → SpellsWords uses rooms plain words views → SpellsWords uses now (set plain (LINKS + y) n) (set words (LINKS + y) m) (set views id w)
  spells_linked uses y n m rooms now plain words views id w inside among here others mine k =
      let inside_too : LINKS + y < length words = let l = k.long in omega arith in record {
        bits = k.bits;
        long = length-set words (LINKS + y) m ∙ (k.long ∙ sym (length-set plain (LINKS + y) n));
        head = head_beside_next words y m ∙ (k.head ∙ ap (λ h. 2 * h + uses h) (sym (head_beside_next plain y n)));
        right = subst (λ (z : ℕ × ℕ). IsRight uses z.0 z.1) (λ j. (sym (right_beside_next plain y n) j, sym (right_beside_next words y m) j)) k.right;
        links = λ i x a.
            let b = among i x a in
            elim (ℕ_discrete x y) [
              | yes e ↦ subst (λ z. Spells uses z (word.next (set plain (LINKS + y) n) z) (word.next (set words (LINKS + y) m) z)) (sym e)
                  (subst (λ (z : ℕ × ℕ). Spells uses y z.0 z.1) (λ j. (sym (next_set plain y n inside) j, sym (next_set words y m inside_too) j)) (here b.0 (subst (ItemAt rooms b.0) e b.1)))
              | no ne ↦ subst (λ (z : ℕ × ℕ). Spells uses x z.0 z.1) (λ j. (sym (next_beside_next plain y x n ne) j, sym (next_beside_next words y x m ne) j)) (k.links b.0 x b.1)
            ];
        each = one_set (λ _ u. u.known.share ≢ [] → KeepsUse uses (set plain (LINKS + y) n) (set words (LINKS + y) m) u) views id w mine
            (λ j u ne at named. let o = others j u ne at named in use_linked uses y n m plain words u o.0 o.1 (k.each j u at named));
      }

-- ---- the pool
-- its word, and the links of its rooms, are as they were
pub pool_word : (words words' : List ℕ) (pool pool' : FreeChain) → word.pool words' ≡ word.pool words → pool' ≡ pool → LeadsTo (word.pool words) pool → LeadsTo (word.pool words') pool'
pool_word words words' pool pool' same is leads = subst (λ (z : ℕ × FreeChain). LeadsTo z.0 z.1) (λ i. (sym same i, sym is i)) leads

pub pool_links : (plain words plain' words' : List ℕ) (pool pool' : FreeChain) → pool' ≡ pool → ((i r : ℕ) → ItemAt pool.rooms i r → (word.next words' r ≡ word.next words r) × (word.next plain' r ≡ word.next plain r)) → SpellsFree plain words pool.rooms → SpellsFree plain' words' pool'.rooms
pool_links plain words plain' words' pool pool' is same free = subst (λ (z : FreeChain). SpellsFree plain' words' z.rooms) (sym is)
    (λ i r a. let e = same i r a in free_link_as e.0 e.1 (free i r a))

-- ---- what a word tells
-- what the link x says of a room whose use has this bit, where the plain link is n
pub record SaysNext (uses : ℕ → ℕ) (bit n x : ℕ) : Type 0 where
  pub to : ℕ
  pub read : IsRead bit x n to
  pub knows : (r : ℕ) → n ≡ suc r → uses r ≡ to

pub spelt_read : (uses : ℕ → ℕ) (t n x : ℕ) → Spells uses t n x → SaysNext uses (uses t) n x
spelt_read uses t zero x k = record { to = 0; read = k; knows = λ r e. absurd (zero_suc e) }
spelt_read uses t (suc s) x k = record { to = uses s; read = k; knows = λ r e. ap uses (suc_inj (sym e)) }

-- what the word x of the right says, where the plain word is n
pub record SaysRight (uses : ℕ → ℕ) (n x : ℕ) : Type 0 where
  pub bit : ℕ
  pub found_is : x ≡ 2 * n + bit
  pub is_bit : IsBit bit
  pub knows : (t : ℕ) → n ≡ suc t → uses t ≡ bit

pub spelt_right : (uses : ℕ → ℕ) (n x : ℕ) → ((t : ℕ) → IsBit (uses t)) → IsRight uses n x → SaysRight uses n x
spelt_right uses zero x bits k = record { bit = 0; found_is = k; is_bit = omega arith; knows = λ t e. absurd (zero_suc e) }
spelt_right uses (suc t) x bits k = record { bit = uses t; found_is = k; is_bit = bits t; knows = λ u e. ap uses (suc_inj (sym e)) }
