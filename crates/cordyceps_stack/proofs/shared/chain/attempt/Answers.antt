use Rattle.std.proofs.Common.{suc, sym, ap, ◌∙◌, subst, rules}
use Rattle.cordyceps_stack.specs.Shared.Plays.{SeatState, HasHitAll, HasFailedAll, all_then, elements_then, chain_then}
use Rattle.cordyceps_stack.specs.Shared.Slots.{in_use_to}
use Rattle.cordyceps_stack.specs.Shared.View.{Doing, LoadedAll}
use Rattle.cordyceps_stack.proofs.SharedTheory.ChainJoins.{settles_all_once, fails_all_once}
use Rattle.cordyceps_stack.proofs.SharedTheory.ChainKeeps.{loads_all, exchanges_all}
use Rattle.cordyceps_stack.proofs.SharedTheory.StepTells.{told}
use Rattle.cordyceps_stack.proofs.shared.chain.attempt.Goals as goal

pub load-read-requires : goal.load-read-requires
load-read-requires g c = let (before, x, ready) = c.requires.ready in (search rules, search rules, loads_all _ _ _ ready.named)

pub relink-requires-clause-few : goal.relink-requires-clause-few
relink-requires-clause-few g c = (told c.load-read.ensures).few

pub relink-requires-clause-filled : goal.relink-requires-clause-filled
relink-requires-clause-filled g c =
    let (before, x, ready) = c.requires.ready in
    let l = told c.load-read.ensures in
    (x, ready.link, in_use_to before (suc c.args.last), l.hand ∙ ready.hand)

pub compare_exchange-requires : goal.compare_exchange-requires
compare_exchange-requires g c =
    let (before, x, ready) = c.requires.ready in
    let l = told c.load-read.ensures in
    let linked = c.relink.ensures.links x ready.link (in_use_to before (suc c.args.last)) (l.hand ∙ ready.hand) in (
      search rules,
      search rules,
      exchanges_all _ _ _ _ before c.args.last x c.load-read.result ready.first_is record {
        doing = ap (λ m. m.0.doing) linked ∙ (l.doing ∙ ap (λ rs. let d : Doing g.row.E.Denot = LoadedAll rs c.load-read.result in d) ready.rooms);
        hand = ap (λ m. m.1) linked;
        named = λ e. ready.named (sym (ap (λ m. m.0.known.share) linked ∙ l.sees.share) ∙ e);
        inside = ready.inside;
      },
    )

pub returns-then-compare_exchange-read-clause-answer : goal.returns-then-compare_exchange-read-clause-answer
returns-then-compare_exchange-read-clause-answer g c before x ready =
    let last = c.args.last in
    let m = c.args.seat.now.me in
    let k = c.compare_exchange.new.seat.me in
    let read = c.load-read.result in
    let l = told c.load-read.ensures in
    let linked = c.relink.ensures.links x ready.link (in_use_to before (suc last)) (l.hand ∙ ready.hand) in
    let doing = ap (λ m. m.0.doing) linked ∙ (l.doing ∙ ap (λ rs. let d : Doing g.row.E.Denot = LoadedAll rs read in d) ready.rooms) in
    let t = (told c.compare_exchange.ensures) before last x read doing (ap (λ m. m.1) linked) in
    let is = c.if-compare_exchange-read.true in
    let hit = subst (λ n. HasHitAll (elements_then before x) n c.relink.new.seat.me k) is (t.0 is) in
    settles_all_once c.args.words.now.table_id.slots c.args.first last read before x (chain_then before last x read) m c.load-read.new.seat.me k ready l.free l.sees (subst (λ (q : SeatState g.row.E.Denot). HasHitAll (elements_then before x) read q k) linked hit)

pub returns-else-compare_exchange-read-clause-answer : goal.returns-else-compare_exchange-read-clause-answer
returns-else-compare_exchange-read-clause-answer g c before x ready =
    let last = c.args.last in
    let m = c.args.seat.now.me in
    let k = c.compare_exchange.new.seat.me in
    let read = c.load-read.result in
    let l = told c.load-read.ensures in
    let linked = c.relink.ensures.links x ready.link (in_use_to before (suc last)) (l.hand ∙ ready.hand) in
    let doing = ap (λ m. m.0.doing) linked ∙ (l.doing ∙ ap (λ rs. let d : Doing g.row.E.Denot = LoadedAll rs read in d) ready.rooms) in
    let t = (told c.compare_exchange.ensures) before last x read doing (ap (λ m. m.1) linked) in
    fails_all_once c.args.words.now.table_id.slots c.args.first last read before x m c.load-read.new.seat.me k ready l.free l.sees
    (subst (λ (q : SeatState g.row.E.Denot). HasFailedAll c.args.words.now.table_id.slots (all_then before last x) q k) linked (t.1 c.if-compare_exchange-read.false))
