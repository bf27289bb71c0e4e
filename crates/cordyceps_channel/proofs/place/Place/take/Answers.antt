use Rattle.std.proofs.Common.{◌≡◌, [], ◌∷◌, Option, false, true, rules, sym, ap, ◌∙◌, subst}
use Rattle.std.specs.Prelude.{Some, None, MatchOption}
use mathlib.Core.Option.{none}
use Rattle.atomic_table.specs.Table.{step, rest}
use Rattle.cordyceps_channel.specs.Places.{PlaceOf}
use Rattle.cordyceps_channel.proofs.Placing.{has_in_hand, changed_in_hand, found_in_hand, handle_takes}
use Rattle.cordyceps_channel.proofs.place.Place.take.Goals as goal

pub compare_exchange-requires : goal.compare_exchange-requires
compare_exchange-requires g c =
    let h = c.self.invariant in
    let key = ap (λ t. t.shared.key) (sym c.deref.ensures) in
    let empty = has_in_hand _ c.self.inside.seat.me c.self.inside.took false h.knows (ap (λ (p : PlaceOf _). p.took) c.self.view_is ∙ c.requires) in
    (search rules, search rules, handle_takes g.X.Fits.fits _ _ _ (step c.deref.result.now.shared.table_id.slots 0 1 0 none) c.self.inside.seat.me (empty ∙ ap (λ k. (k, [])) key))

pub exchange-value-requires : goal.exchange-value-requires
exchange-value-requires g c =
    let t = c.compare_exchange.ensures.2.value c.if-compare_exchange-ne-IN.false in
    (search rules, (Some t.value, ap (λ m. m.1) t.has ∙ sym (ap (λ m. (0, Some t.value) ∷ rest m.1) t.has)))

pub invariant_of-self-2 : goal.invariant_of-self-2
invariant_of-self-2 g c =
    let h = c.self.invariant in
    let t = c.compare_exchange.ensures.2.value c.if-compare_exchange-ne-IN.false in
    record {
      one_word = h.one_word;
      one_slot = h.one_slot;
      same = c.exchange-value.ensures.0 ∙ (c.compare_exchange.ensures.0 ∙ h.same);
      knows = changed_in_hand _ (Some t.value) None c.compare_exchange.new.seat.me c.exchange-value.new.seat.me (t.has ∙ ap (λ k. (k, (0, Some t.value) ∷ [])) (ap (λ m. m.0) h.knows)) c.exchange-value.ensures.3;
    }

pub returns : goal.returns
returns g c =
    let h = c.self.invariant in
    let t = c.compare_exchange.ensures.2.value c.if-compare_exchange-ne-IN.false in
    let is = found_in_hand _ (Some t.value) c.exchange-value.result c.compare_exchange.new.seat.me t.has c.exchange-value.ensures.2 in
    let key = ap (λ (p : PlaceOf _). p.key) c.self.view_is in
    let kept = changed_in_hand _ (Some t.value) None c.compare_exchange.new.seat.me c.exchange-value.new.seat.me t.has c.exchange-value.ensures.3 in
    let after : PlaceOf g.row.K.Denot = record { key = c.exchange-value.new.seat.me.0; took = true } in
    let taken : PlaceOf g.row.K.Denot = record { key = c.args.self.now.key; took = true } in
    let same : after ≡ taken = ap (λ (k : g.row.K.Denot). record { key = k; took = true }) (ap (λ m. m.0) kept ∙ key) in
    subst (λ (o : Option g.row.X.Denot). MatchOption o (after ≡ c.args.self.now) (λ value. (after ≡ taken) × g.X.Fits.fits c.args.self.now.key value)) (sym is)
    (same, subst (λ k. g.X.Fits.fits k t.value) key t.fits)
