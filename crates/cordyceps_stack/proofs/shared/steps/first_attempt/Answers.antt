use Rattle.std.proofs.Common.{◌∷◌, [], sym, ap, ◌∙◌, subst}
use Rattle.cordyceps_shared.specs.FreeChains.{leads}
use Rattle.cordyceps_stack.specs.Shared.Parts.{Settled}
use Rattle.cordyceps_stack.specs.Shared.Plays.{SeatState, HasHit, HasFailed}
use Rattle.cordyceps_stack.specs.Shared.Slots.{filled, vacant}
use Rattle.cordyceps_stack.proofs.SharedTheory.PartsJoin.{tried_hit, tried_failed}
use Rattle.cordyceps_stack.proofs.shared.steps.first_attempt.Goals as goal

pub fill-next-requires-clause-vacant : goal.fill-next-requires-clause-vacant
fill-next-requires-clause-vacant g c =
    let r = c.requires.room in
    let b = c.begin-read.ensures.begun r.0 r.1 in
    let link = leads r.0 c.args.seat.now.me.0.free.end in
    (link, b.hand ∙ ap (λ l. (c.args.room, vacant link) ∷ l) c.requires.rest.empty)

pub fill-next-requires-clause-few : goal.fill-next-requires-clause-few
fill-next-requires-clause-few g c = let r = c.requires.room in (c.begin-read.ensures.begun r.0 r.1).few

pub settle-requires-clause-filled : goal.settle-requires-clause-filled
settle-requires-clause-filled g c = (c.args.item, ap (λ m. m.1) c.fill-next.ensures.fills)

pub settle-requires-clause-loaded : goal.settle-requires-clause-loaded
settle-requires-clause-loaded g c =
    let r = c.requires.room in
    ap (λ m. m.0.doing) c.fill-next.ensures.fills ∙ (c.begin-read.ensures.begun r.0 r.1).doing

pub settle-requires-clause-named : goal.settle-requires-clause-named
settle-requires-clause-named g c =
    let r = c.requires.room in
    let b = c.begin-read.ensures.begun r.0 r.1 in
    λ e. c.requires.rest.named (sym (ap (λ m. m.0.known.share) c.fill-next.ensures.fills ∙ b.sees.share) ∙ e)

pub settle-requires-clause-inside : goal.settle-requires-clause-inside
settle-requires-clause-inside g c = let r = c.requires.room in (c.begin-read.ensures.begun r.0 r.1).inside

pub returns-then-settle-clause-tried : goal.returns-then-settle-clause-tried
returns-then-settle-clause-tried g c =
    let slots = c.args.words.now.table_id.slots in
    let r = c.requires.room in
    let m = c.args.seat.now.me in
    let l = c.begin-read.new.seat.me in
    let k = c.settle.new.seat.me in
    let read = c.begin-read.result in
    let x = c.args.item in
    let f = c.fill-next.ensures in
    let hit = subst (λ b. Settled c.args.room read x b c.fill-next.new.seat.me k) c.if-settle.true (c.settle.ensures.settled x (ap (λ m. m.1) f.fills)) in
    tried_hit slots c.args.room read c.fill-next.result r.0 x ((c.args.room, filled x read) ∷ []) m l k c.requires.rest r.1 (c.begin-read.ensures.begun r.0 r.1) f.had (subst (λ (q : SeatState g.row.E.Denot). HasHit x read q k) f.fills hit)

pub returns-else-settle-clause-tried : goal.returns-else-settle-clause-tried
returns-else-settle-clause-tried g c =
    let slots = c.args.words.now.table_id.slots in
    let r = c.requires.room in
    let m = c.args.seat.now.me in
    let l = c.begin-read.new.seat.me in
    let k = c.settle.new.seat.me in
    let read = c.begin-read.result in
    let x = c.args.item in
    let f = c.fill-next.ensures in
    let failed = subst (λ b. Settled c.args.room read x b c.fill-next.new.seat.me k) c.if-settle.false (c.settle.ensures.settled x (ap (λ m. m.1) f.fills)) in
    tried_failed slots c.args.room read c.fill-next.result r.0 x m l k c.requires.rest r.1 (c.begin-read.ensures.begun r.0 r.1) f.had (subst (λ (q : SeatState g.row.E.Denot). HasFailed c.args.room q k) f.fills failed)
