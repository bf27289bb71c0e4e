-- The rule of a transfer stack's table where a receipt is made and learned.
use Rattle.std.proofs.Common.{◌≡◌, ◌≢◌, ℕ, List, [], ◌∷◌, ◌++◌, set, refl, sym, ◌∙◌, subst, arith, append-nil}
use mathlib.Core.Option.{none}
use Rattle.atomic_table.specs.Table.{keeps, step, Allows, Splits, Joins}
use Rattle.atomic_table.proofs.Lists.{set_again}
use Rattle.cordyceps_shared.specs.Knowing.{SharesDisjoint, AllAgree, all_seen}
use Rattle.cordyceps_shared.specs.declared.layout.TheConstants.{HEAD}
use Rattle.cordyceps_shared.proofs.ChangedItems.{set_more, two_set, was_there}
use Rattle.cordyceps_shared.proofs.Counting.{tally_set, tally_snoc}
use Rattle.cordyceps_shared.proofs.HistoryMarks.{plain_marked}
use Rattle.cordyceps_shared.proofs.Receipts.{owned_more_seat, fits_more_seat, owned_heard, fits_heard}
use Rattle.cordyceps_stack.specs.History.{actor}
use Rattle.cordyceps_stack.specs.Shared.Parting.{view_absorbed}
use Rattle.cordyceps_stack.specs.Shared.Plays.{SeatState}
use Rattle.cordyceps_stack.specs.Shared.Rule.{RuleHolds}
use Rattle.cordyceps_stack.specs.Shared.Slots.{all_vacant, AtHome}
use Rattle.cordyceps_stack.specs.Shared.Telling.{view_as_is, view_telling, view_hearing, after_hear}
use Rattle.cordyceps_stack.specs.Shared.View.{View, knows, count_with_party, room_count}
use Rattle.cordyceps_stack.specs.Shared.Words.{AtDoing}
use Rattle.cordyceps_stack.proofs.SharedTheory.StepsKeep.{step_keeps, told, untouched, unwritten}
use Rattle.cordyceps_stack.proofs.SharedTheory.WordsKeep.{forks, rests}

module _ {E : Type 0} where
  -- a receipt is made
  pub tells_receipt : (id : ℕ) (v : View E) → Splits RuleHolds id v (view_as_is v) (view_telling v)
  tells_receipt id v s k at =
      let right = view_telling v in
      let as_was = sym (set_again s.views id v at) in record {
        history = k.history;
        chain = k.chain;
        pool = k.pool;
        meets = forks k.pool.rooms s.words k.chain s.views k.history id v v right k.meets at (λ r. omega arith) (k.meets.each id v at) (λ _. tt);
        wide = k.wide;
        full = k.full;
        free = set_more (λ _ u. AtHome s.homes (all_vacant u.free.rooms u.free.end)) s.views id v right (k.free id v at) tt (λ i u _ e. k.free i u e);
        pooled = k.pooled;
        word_is = k.word_is;
        all = let all = k.all in omega (arith, tally_set (room_count {E = E}) s.views id v v at, tally_snoc (room_count {E = E}) (set s.views id v) right);
        spent = set_more (λ _ u. u.known.share ≡ [] → room_count u ≡ 0) s.views id v right (k.spent id v at) (λ _. refl) (λ i u _ e. k.spent i u e);
        fits = subst (λ (views : List (View E)). AllAgree actor knows (views ++ right ∷ []) k.history) as_was (fits_more_seat actor knows s.views k.history id v right at refl k.owned k.fits);
        owned = subst (λ (views : List (View E)). SharesDisjoint knows (views ++ right ∷ []) k.history) as_was (owned_more_seat knows s.views k.history right refl k.owned);
      }

  -- a party takes it in
  pub hears : (id other : ℕ) (v w : View E) → v.known.share ≢ [] → w.known.share ≡ [] → Joins RuleHolds id v other w (view_hearing v w) view_absorbed
  hears id other v w named bare s k at apart there =
      let both = view_hearing v w in
      let one = set s.views id both in
      let m = k.meets in
      let there_first = was_there s.views id other both w apart there in record {
        history = k.history;
        chain = k.chain;
        pool = k.pool;
        meets = record {
          legal = m.legal;
          top = m.top;
          holds = m.holds;
          apart = λ r. omega (arith, m.apart r, tally_set (count_with_party r) s.views id v both at, tally_set (count_with_party r) one other w view_absorbed there);
          each = two_set (λ i u. AtDoing s.words k.history i u.doing) s.views id other both view_absorbed (m.each id v at) tt (λ i u _ _ e. m.each i u e);
        };
        wide = k.wide;
        full = k.full;
        free = two_set (λ _ u. AtHome s.homes (all_vacant u.free.rooms u.free.end)) s.views id other both view_absorbed (k.free id v at) tt (λ i u _ _ e. k.free i u e);
        pooled = k.pooled;
        word_is = k.word_is;
        all =
            let all = k.all in
            let gone = k.spent other w there_first bare in
            omega (arith, tally_set (room_count {E = E}) s.views id v both at, tally_set (room_count {E = E}) one other w view_absorbed there);
        spent = two_set (λ _ u. u.known.share ≡ [] → room_count u ≡ 0) s.views id other both view_absorbed (λ e. absurd (named e)) (λ _. refl) (λ i u _ _ e. k.spent i u e);
        fits = fits_heard actor knows s.views k.history id other v w both view_absorbed at apart there refl refl bare k.owned k.fits;
        owned = owned_heard knows s.views k.history id other v w both view_absorbed at apart there refl bare refl named k.owned;
      }

  -- it looks, and has seen all
  pub has_heard : (slots id : ℕ) (me : SeatState E) → me.0.known.share ≢ [] → Allows RuleHolds slots id me HEAD (λ n. n) (after_hear (step slots HEAD 0 0 none) me)
  has_heard slots id me named s k deep at fits =
      let v = me.0 in
      let w : View E = record v { known = all_seen id k.history v.known.share } in
      let meets = rests k.pool.rooms s.words k.chain s.views k.history id v w k.meets at (λ r. omega arith) (k.meets.each id v at) in
      let t = told s k id [] v w k.history at named tt (sym (append-nil k.history)) refl meets.legal in
      let knew = k.fits id v at in (
        w,
        keeps,
        tt,
        unwritten s HEAD s.homes (set s.views id w)
            (step_keeps s k id v w s.words s.homes k.chain k.history (untouched s k id v w at refl (λ e. absurd (named e))) meets refl k.full (k.free id v at) (λ _ _ _ _ _ _. refl) t.fits t.owned),
        record {
          view_is = refl;
          hand = refl;
          sees = t.grown;
          told = (knew.told.0, plain_marked id k.history ∙ knew.told.1);
        },
      )
