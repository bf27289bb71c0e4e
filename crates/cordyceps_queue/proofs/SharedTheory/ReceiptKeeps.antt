-- The rule of a queue's table where a receipt is made and learned.
use Rattle.std.proofs.Common.{◌≡◌, ◌≢◌, ℕ, zero, suc, List, [], ◌∷◌, ◌++◌, reverse, set, None, refl, sym, ap, ◌∙◌, subst, arith}
use Rattle.cordyceps_queue.specs.Bells.{IsQuiet}
use mathlib.Core.Option.{some, none}
use mathlib.Core.Path.{fun_ext}
use native.Mathlib.Decide.{ℕ_discrete}
use lib.ListN.{get_elem?}
use lib.Seq.{set-get_or}
use Rattle.atomic_table.specs.Table.{keeps, step, Allows, Splits, Joins}
use Rattle.atomic_table.proofs.Lists.{set_again, set_here, set_else}
use Rattle.cordyceps_shared.specs.Histories.{events}
use Rattle.cordyceps_shared.specs.FreeChains.{Links}
use Rattle.cordyceps_shared.specs.Slots.{EmptyAtHome}
use Rattle.cordyceps_shared.specs.declared.layout.TheConstants.{HEAD}
use Rattle.cordyceps_shared.proofs.ChangedItems.{new_last, one_set, two_set, was_there}
use Rattle.cordyceps_shared.proofs.Counting.{tally_set, tally_snoc}
use Rattle.cordyceps_shared.proofs.Receipts.{owned_more_seat, fits_more_seat, owned_heard, fits_heard}
use Rattle.cordyceps_shared.proofs.StepEvents.{at_length}
use Rattle.cordyceps_queue.specs.declared.cores.stage.Stage.TheVariants.{Cleared}
use Rattle.cordyceps_queue.specs.History.{actor}
use Rattle.cordyceps_queue.specs.Cores.Meets.{Meets}
use Rattle.cordyceps_queue.specs.Shared.Bits.{KeepsUse}
use Rattle.cordyceps_queue.specs.Shared.Parting.{view_absorbed}
use Rattle.cordyceps_queue.specs.Shared.Plays.{SeatState}
use Rattle.cordyceps_queue.specs.Shared.Telling.{view_as_is, view_telling, view_hearing, after_hear}
use Rattle.cordyceps_queue.specs.Shared.Rule.{TableState, party, party_if, party_of, machine_of, PlainHolds, RuleHolds}
use Rattle.cordyceps_queue.specs.Shared.View.{View, knows, room_count, bit_of}
use Rattle.cordyceps_queue.proofs.SharedTheory.UsesKeep.{plain_table, mine}
use Rattle.cordyceps_queue.proofs.SharedTheory.UsesShare.{same_words}
use Rattle.cordyceps_queue.proofs.SharedTheory.BellWord.{quiet_more}
use Rattle.cordyceps_queue.proofs.SharedTheory.SeesAll.{looking, looked_sees, looked_told, looked_holds}
use Rattle.cordyceps_queue.proofs.SharedTheory.WordsAsMachine.{party_spelled, Stays}

module _ {E : Type 0} where
  no_party : (u : View E) → u.known.share ≡ [] → party_of (some u) ≡ None
  no_party u bare = ap (λ l. party_if l (party u)) bare

  -- a seat without a share is no party
  same_parties : (views : List (View E)) (v : View E) (j : ℕ) → party_of (get_elem? views j) ≡ party_of (get_elem? (views ++ view_telling v ∷ []) j)
  same_parties [] v zero = refl
  same_parties [] v (suc j) = refl
  same_parties (u ∷ us) v zero = refl
  same_parties (u ∷ us) v (suc j) = same_parties us v j

-- ---- a receipt is made
module _ {E : Type 0} (s : TableState E) (k : PlainHolds s) (id : ℕ) (v : View E) (at : get_elem? s.views id ≡ some v) where
  abbrev right : View E
  right = view_telling v

  abbrev with_receipt : List (View E)
  with_receipt = s.views ++ right ∷ []

  unchanged : machine_of k.cell s.words s.views ≡ machine_of k.cell s.words with_receipt
  unchanged = party_spelled s.words k.cell with_receipt (fun_ext (λ j. same_parties s.views v j))

  pub told_kept : Stays s k record { words = s.words; homes = s.homes; views = with_receipt }
  told_kept = record {
    now = record {
      uses = k.uses;
      history = k.history;
      cell = k.cell;
      chain = k.chain;
      pool = k.pool;
      meets = subst (λ m. Meets m k.chain (reverse (events k.history))) unchanged k.meets;
      wide = k.wide;
      stub = k.stub;
      full = k.full;
      empty = new_last (λ _ u. u.known.share ≢ [] → EmptyAtHome s.homes u.free) s.views right (λ j u e. k.empty j u e) (λ some_name. absurd (some_name refl));
      ready = λ j u r. new_last (λ _ z. z.known.share ≢ [] → z.stage ≡ Cleared r → k.cell r ≡ z.item) s.views right (λ i z e. k.ready i z r e) (λ some_name. absurd (some_name refl)) j u;
      linked = new_last (λ _ u. u.known.share ≢ [] → Links s.words u.free u.end × Links s.words u.back u.to) s.views right (λ j u e. k.linked j u e) (λ some_name. absurd (some_name refl));
      pooled = k.pooled;
      all = let all = k.all in omega (arith, tally_snoc (room_count {E = E}) s.views right);
      spent = new_last (λ _ u. u.known.share ≡ [] → room_count u ≡ 0) s.views right k.spent (λ _. refl);
      fits = fits_more_seat actor knows s.views k.history id v right at refl k.owned k.fits;
      owned = owned_more_seat knows s.views k.history right refl k.owned;
    };
    uses = refl;
    pool = refl;
    rooms = refl;
    calm = λ quiet. quiet;
  }

-- ---- a party learns it
module _ {E : Type 0} (s : TableState E) (k : PlainHolds s) (id other : ℕ) (v w : View E) (named : v.known.share ≢ []) (bare : w.known.share ≡ [])
    (at : get_elem? s.views id ≡ some v) (apart : other ≢ id) (there : get_elem? (set s.views id (view_hearing v w)) other ≡ some w) where
  abbrev both : View E
  both = view_hearing v w

  abbrev heard : List (View E)
  heard = set (set s.views id both) other view_absorbed

  there_first : get_elem? s.views other ≡ some w
  there_first = was_there s.views id other both w apart there

  parties_heard : (j : ℕ) → party_of (get_elem? s.views j) ≡ party_of (get_elem? heard j)
  parties_heard j = elim (ℕ_discrete j other) [
    | yes same ↦
        let now : party_of (get_elem? heard other) ≡ None = ap party_of (set_here (set s.views id both) other view_absorbed (at_length (set s.views id both) other w there)) in
        let was : party_of (get_elem? s.views other) ≡ None = ap party_of there_first ∙ no_party w bare in
        subst (λ i. party_of (get_elem? s.views i) ≡ party_of (get_elem? heard i)) (sym same) (was ∙ sym now)
    | no no_other ↦ elim (ℕ_discrete j id) [
      | yes same ↦
          let now : party_of (get_elem? heard id) ≡ party_of (some v) = ap party_of (set_else (set s.views id both) other id view_absorbed (λ e. apart (sym e)) ∙ set_here s.views id both (at_length s.views id v at)) in
          subst (λ i. party_of (get_elem? s.views i) ≡ party_of (get_elem? heard i)) (sym same) (ap party_of at ∙ sym now)
      | no ne ↦ sym (ap party_of (set_else (set s.views id both) other j view_absorbed no_other ∙ set_else s.views id j both ne))
    ]
  ]

  same_machine : machine_of k.cell s.words s.views ≡ machine_of k.cell s.words heard
  same_machine = party_spelled s.words k.cell heard (fun_ext parties_heard)

  pub heard_kept : Stays s k record { words = s.words; homes = s.homes; views = heard }
  heard_kept = record {
    now = record {
      uses = k.uses;
      history = k.history;
      cell = k.cell;
      chain = k.chain;
      pool = k.pool;
      meets = subst (λ m. Meets m k.chain (reverse (events k.history))) same_machine k.meets;
      wide = k.wide;
      stub = k.stub;
      full = k.full;
      empty = two_set (λ _ u. u.known.share ≢ [] → EmptyAtHome s.homes u.free) s.views id other both view_absorbed (λ _. k.empty id v at named) (λ some_name. absurd (some_name refl)) (λ j u ne no_other e some_name. k.empty j u e some_name);
      ready = λ j u r. two_set (λ _ z. z.known.share ≢ [] → z.stage ≡ Cleared r → k.cell r ≡ z.item) s.views id other both view_absorbed (λ _ is. k.ready id v r at named is) (λ some_name. absurd (some_name refl)) (λ i z ne no_other e some_name. k.ready i z r e some_name) j u;
      linked = two_set (λ _ u. u.known.share ≢ [] → Links s.words u.free u.end × Links s.words u.back u.to) s.views id other both view_absorbed (λ _. k.linked id v at named) (λ some_name. absurd (some_name refl)) (λ j u ne no_other e some_name. k.linked j u e some_name);
      pooled = k.pooled;
      all =
          let all = k.all in
          let gone = k.spent other w there_first bare in
          omega (arith, tally_set (room_count {E = E}) s.views id v both at, tally_set (room_count {E = E}) (set s.views id both) other w view_absorbed there);
      spent = two_set (λ _ u. u.known.share ≡ [] → room_count u ≡ 0) s.views id other both view_absorbed (λ e. absurd (named e)) (λ _. refl) (λ j u _ _ e. k.spent j u e);
      fits = fits_heard actor knows s.views k.history id other v w both view_absorbed at apart there refl refl bare k.owned k.fits;
      owned = owned_heard knows s.views k.history id other v w both view_absorbed at apart there refl bare refl named k.owned;
    };
    uses = refl;
    pool = refl;
    rooms = refl;
    calm = λ quiet. quiet;
  }

-- ---- it looks, and has seen all
module _ {E : Type 0} (s : TableState E) (k : PlainHolds s) (id : ℕ) (v : View E) (at : get_elem? s.views id ≡ some v) (named : v.known.share ≢ []) where
  pub looked_kept : Stays s k record { words = s.words; homes = s.homes; views = set s.views id (looking s k id v at named [] tt k.meets) }
  looked_kept =
      let h = looked_holds s k id v at named [] tt k.meets in record {
        now = h.now;
        uses = h.uses;
        pool = h.pool;
        rooms = h.rooms;
        calm = λ quiet. subst (λ l. IsQuiet l) (sym h.history) (quiet_more (events k.history) [] quiet refl);
      }

module _ {E : Type 0} where
  pub tells_receipt : (id : ℕ) (v : View E) → Splits RuleHolds id v (view_as_is v) (view_telling v)
  tells_receipt id v s k at =
      let q = plain_table s k in
      subst (λ (views : List (View E)). RuleHolds record { words = s.words; homes = s.homes; views = views ++ view_telling v ∷ [] }) (sym (set_again s.views id v at))
      (same_words s k (s.views ++ view_telling v ∷ []) s.homes (told_kept q k.plain id v at)
      (new_last (λ _ u. u.known.share ≢ [] → KeepsUse (bit_of k.plain.uses) k.words s.words u) s.views (view_telling v) (λ j u e. k.spells.each j u e) (λ some_name. absurd (some_name refl))))

  pub hears : (id other : ℕ) (v w : View E) → v.known.share ≢ [] → w.known.share ≡ [] → Joins RuleHolds id v other w (view_hearing v w) view_absorbed
  hears id other v w named bare s k at apart there =
      let q = plain_table s k in
      let own = mine s k id v at named in
      same_words s k (set (set s.views id (view_hearing v w)) other view_absorbed) s.homes (heard_kept q k.plain id other v w named bare at apart there)
      (two_set (λ _ u. u.known.share ≢ [] → KeepsUse (bit_of k.plain.uses) k.words s.words u) s.views id other (view_hearing v w) view_absorbed
      (λ _. record { free = own.free; begun = own.begun; knows = own.knows })
      (λ some_name. absurd (some_name refl))
      (λ j u ne no_other e some_name. k.spells.each j u e some_name))

  pub has_heard : (slots id : ℕ) (me : SeatState E) → me.0.known.share ≢ [] → Allows RuleHolds slots id me HEAD (λ n. n) (after_hear (step slots HEAD 0 0 none) me)
  has_heard slots id me named s k deep at fits =
      let u = me.0 in
      let q = plain_table s k in
      let own = mine s k id u at named in
      let left : View E = looking q k.plain id u at named [] tt k.plain.meets in (
        left,
        keeps,
        tt,
        subst (λ (ws : List ℕ). RuleHolds record { words = ws; homes = s.homes; views = set s.views id left }) (sym (set-get_or s.words HEAD 0))
            (same_words s k (set s.views id left) s.homes (looked_kept q k.plain id u at named)
            (one_set (λ _ z. z.known.share ≢ [] → KeepsUse (bit_of k.plain.uses) k.words s.words z) s.views id left (λ _. record { free = own.free; begun = own.begun; knows = own.knows }) (λ j z ne e other. k.spells.each j z e other))),
        record {
          view_is = refl;
          hand = refl;
          sees = looked_sees q k.plain id u at named [] tt k.plain.meets;
          told = looked_told q k.plain id u at named [] tt k.plain.meets;
        },
      )
