use Rattle.std.proofs.Common.{◌∷◌, [], sym, ap, ◌∙◌, subst}
use Rattle.cordyceps_stack.specs.Shared.Parts.{Settled}
use Rattle.cordyceps_stack.specs.Shared.Plays.{SeatState, HasHit, HasFailed}
use Rattle.cordyceps_stack.specs.Shared.Slots.{filled}
use Rattle.cordyceps_stack.proofs.SharedTheory.PartsJoin.{settles_once, fails_once}
use Rattle.cordyceps_stack.proofs.shared.steps.attempt.Goals as goal

pub relink-requires-clause-filled : goal.relink-requires-clause-filled
relink-requires-clause-filled g c = let r = c.requires.ready in (r.0, r.1.link, [], c.load-read.ensures.same.1 ∙ r.1.hand)

pub settle-requires-clause-filled : goal.settle-requires-clause-filled
settle-requires-clause-filled g c =
    let r = c.requires.ready in
    (r.0, ap (λ m. m.1) (c.relink.ensures.links r.0 r.1.link [] (c.load-read.ensures.same.1 ∙ r.1.hand)))

pub settle-requires-clause-loaded : goal.settle-requires-clause-loaded
settle-requires-clause-loaded g c =
    let r = c.requires.ready in
    ap (λ m. m.0.doing) (c.relink.ensures.links r.0 r.1.link [] (c.load-read.ensures.same.1 ∙ r.1.hand)) ∙ c.load-read.ensures.doing

pub settle-requires-clause-named : goal.settle-requires-clause-named
settle-requires-clause-named g c =
    let r = c.requires.ready in
    let same = ap (λ m. m.0.known.share) (c.relink.ensures.links r.0 r.1.link [] (c.load-read.ensures.same.1 ∙ r.1.hand)) in
    λ e. r.1.named (sym (same ∙ c.load-read.ensures.sees.share) ∙ e)

pub settle-requires-clause-inside : goal.settle-requires-clause-inside
settle-requires-clause-inside g c = c.requires.ready.1.inside

pub returns-then-settle-clause-answer : goal.returns-then-settle-clause-answer
returns-then-settle-clause-answer g c x ready =
    let slots = c.args.words.now.table_id.slots in
    let m = c.args.seat.now.me in
    let l = c.load-read.new.seat.me in
    let k = c.settle.new.seat.me in
    let read = c.load-read.result in
    let e = c.load-read.ensures in
    let linked = c.relink.ensures.links x ready.link [] (e.same.1 ∙ ready.hand) in
    let hit = subst (λ b. Settled c.args.room read x b c.relink.new.seat.me k) c.if-settle.true (c.settle.ensures.settled x (ap (λ m. m.1) linked)) in
    settles_once slots c.args.room read x ((c.args.room, filled x read) ∷ []) m l k ready e.same.0 e.sees (subst (λ (q : SeatState g.row.E.Denot). HasHit x read q k) linked hit)

pub returns-else-settle-clause-answer : goal.returns-else-settle-clause-answer
returns-else-settle-clause-answer g c x ready =
    let slots = c.args.words.now.table_id.slots in
    let m = c.args.seat.now.me in
    let l = c.load-read.new.seat.me in
    let k = c.settle.new.seat.me in
    let read = c.load-read.result in
    let e = c.load-read.ensures in
    let linked = c.relink.ensures.links x ready.link [] (e.same.1 ∙ ready.hand) in
    let failed = subst (λ b. Settled c.args.room read x b c.relink.new.seat.me k) c.if-settle.false (c.settle.ensures.settled x (ap (λ m. m.1) linked)) in
    fails_once slots c.args.room read x m l k ready e.same.0 e.sees (subst (λ (q : SeatState g.row.E.Denot). HasFailed c.args.room q k) linked failed)
