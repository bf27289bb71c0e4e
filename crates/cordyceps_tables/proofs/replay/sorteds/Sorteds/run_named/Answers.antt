use Rattle.std.proofs.Common.{◌≡◌, ◌+◌, ◌-◌, ◌<◌, ◌++◌, length, [], refl, sym, ap, ◌∙◌, slice_set, arith, length-append}
use Rattle.std.proofs.lemmas.Result.{IfOk-weaker}
use Rattle.std.proofs.lemmas.List.{append_assoc, append-nil, length-map}
use Rattle.cordyceps_tables.specs.Sorteds.{contents, empty_with, list_of, order_of}
use Rattle.cordyceps_tables.proofs.Ordered.{own}
use Rattle.cordyceps_tables.proofs.Sorteds.{ran_within, order_of_least, order_of_greatest, order_of_own}
use Rattle.cordyceps_tables.proofs.replay.sorteds.Sorteds.run_named.Goals as goal

pub returns-then-list-lt6-clause-ok : goal.returns-then-list-lt6-clause-ok
returns-then-list-lt6-clause-ok g c =
    let s = c.self.inside in let n = c.number_of-list.result in let list = list_of c.args.command.now in
    let long : length s.least ≡ 6 = c.self.invariant.least in
    let at : list ≡ 0 + n = omega (arith, c.number_of-list.ensures) in
    let here : n < length s.least = omega (arith, long) in
    let below : list < 6 = omega (arith, at) in
    let whole = ap (λ v. v.0) (sym c.self.view_is) ∙ append_assoc (contents s.least) (contents s.greatest) (contents s.own) in
    let after = append_assoc (contents (slice_set s.least n c.run_least.new.list)) (contents s.greatest) (contents s.own) in
    IfOk-weaker c.run_least.result _ _
    (λ reply ran cmp by sorted. ran_within [] (contents s.greatest ++ contents s.own) s.least n (order_of own cmp) own _ _ c.index-self-list.result c.run_least.new.list _ _ at here (order_of_least own cmp list below) whole after ran sorted)
    c.run_least.ensures.ok

pub returns-then-list-lt11-clause-ok : goal.returns-then-list-lt11-clause-ok
returns-then-list-lt11-clause-ok g c =
    let s = c.self.inside in let n = c.number_of-list.result in let list = list_of c.args.command.now in
    let least : length s.least ≡ 6 = c.self.invariant.least in
    let greatest : length s.greatest ≡ 5 = c.self.invariant.greatest in
    let at : list ≡ length (contents s.least) + (n - 6) = rw length-map (omega (arith, c.number_of-list.ensures, least)) in
    let here : n - 6 < length s.greatest = omega (arith, greatest) in
    let whole = ap (λ v. v.0) (sym c.self.view_is) in
    IfOk-weaker c.run_greatest.result _ _
    (λ reply ran cmp by sorted. ran_within (contents s.least) (contents s.own) s.greatest (n - 6) (order_of own cmp) (λ x y. own y x) _ _ c.index-self-list-then-list-lt11.result c.run_greatest.new.list _ _ at here (order_of_greatest own cmp list (omega (arith, c.number_of-list.ensures)) (omega (arith, c.number_of-list.ensures))) whole refl ran sorted)
    c.run_greatest.ensures.ok

pub returns-else-list-lt11-clause-ok : goal.returns-else-list-lt11-clause-ok
returns-else-list-lt11-clause-ok g c =
    let s = c.self.inside in let n = c.number_of-list.result in let list = list_of c.args.command.now in
    let least : length s.least ≡ 6 = c.self.invariant.least in
    let greatest : length s.greatest ≡ 5 = c.self.invariant.greatest in
    let mine : length s.own ≡ 5 = c.self.invariant.own in
    let front = contents s.least ++ contents s.greatest in
    let at : list ≡ length front + (n - 11) = omega (arith, c.number_of-list.ensures, least, greatest, length-append (contents s.least) (contents s.greatest), length-map s.least (λ l. l.elements), length-map s.greatest (λ l. l.elements)) in
    let here : n - 11 < length s.own = omega (arith, mine, c.number_of-list.ensures, c.requires.fits) in
    let whole = ap (λ v. v.0) (sym c.self.view_is) ∙ sym (append-nil (front ++ contents s.own)) in
    IfOk-weaker c.run.result _ _
    (λ reply ran cmp by sorted.
    let (new, set, means) = ran in
    let after = ap (λ l. front ++ contents l) set ∙ sym (append-nil (front ++ contents (slice_set s.own (n - 11) new))) in
    ran_within front [] s.own (n - 11) (order_of own cmp) cmp _ _ (empty_with s.by) new _ _ at here (order_of_own own cmp list (omega (arith, c.number_of-list.ensures))) whole after (means cmp (rw (ap (λ v. v.1) c.self.view_is) by)) sorted)
    c.run.ensures.ok
