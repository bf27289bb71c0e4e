use Rattle.std.proofs.Common.{[], ◌∷◌, refl, inr, sym, ap, ◌∙◌, rules}
use Rattle.cordyceps_shared.proofs.TrackRooms.{last_room, more_than_none}
use Rattle.cordyceps_stack.specs.Shared.Slots.{vacant}
use Rattle.cordyceps_stack.proofs.SharedTheory.PartsJoin.{relinked, tracks_rooms}
use Rattle.cordyceps_stack.proofs.SharedTheory.StepTells.{told}
use Rattle.cordyceps_stack.proofs.SharedTheory.StepsKeep.{holds_last, appends}
use Rattle.cordyceps_stack.proofs.shared.parting.tie.Goals as goal

pub load-requires : goal.load-requires
load-requires g c =
    let some_of = c.if-free-eq0.false in
    let (before, rooms, inside) = last_room c.args.words.now.table_id.slots c.args.free.now c.args.seat.now.me.0.free c.requires.tracks (search rules) c.requires.rest.near in
    (search rules, search rules, holds_last _ _ _ _ before c.args.free.now.last c.requires.rest.idle rooms)

pub lead-requires-clause-vacant : goal.lead-requires-clause-vacant
lead-requires-clause-vacant g c =
    let some_of = c.if-free-eq0.false in
    let m = c.args.seat.now.me in
    let (before, rooms, inside) = last_room c.args.words.now.table_id.slots c.args.free.now m.0.free c.requires.tracks (search rules) c.requires.rest.near in
    let h = (told c.load.ensures) before c.args.free.now.last rooms in
    (m.0.free.end, [], h.1 ∙ ap (λ z. (c.args.free.now.last, vacant m.0.free.end) ∷ z) c.requires.rest.empty)

pub load-requires-else-free-eq0 : goal.load-requires-else-free-eq0
load-requires-else-free-eq0 g c =
    let some_of = c.if-free-eq0.false in
    let m = c.args.seat.now.me in
    let last = c.args.free.now.last in
    let (before, rooms, inside) = last_room c.args.words.now.table_id.slots c.args.free.now m.0.free c.requires.tracks (search rules) c.requires.rest.near in
    let h = (told c.load.ensures) before last rooms in
    let y = c.lead.ensures.leads m.0.free.end [] (h.1 ∙ ap (λ z. (last, vacant m.0.free.end) ∷ z) c.requires.rest.empty) in
    (search rules, search rules, appends _ _ _ _ last c.args.at (ap (λ q. q.0.doing) y ∙ ap (λ v. v.doing) h.0) (ap (λ q. q.1) y) inside (inr (ap (λ q. q.0.free.end) y ∙ ap (λ v. v.free.end) h.0)))

pub returns-else-free-eq0-clause-ties : goal.returns-else-free-eq0-clause-ties
returns-else-free-eq0-clause-ties g c =
    let some_of = c.if-free-eq0.false in
    let m = c.args.seat.now.me in
    let last = c.args.free.now.last in
    let (before, rooms, inside) = last_room c.args.words.now.table_id.slots c.args.free.now m.0.free c.requires.tracks (search rules) c.requires.rest.near in
    let h = (told c.load.ensures) before last rooms in
    let y = c.lead.ensures.leads m.0.free.end [] (h.1 ∙ ap (λ z. (last, vacant m.0.free.end) ∷ z) c.requires.rest.empty) in
    let a = (told c.load-else-free-eq0.ensures) last c.args.at (ap (λ q. q.0.doing) y ∙ ap (λ v. v.doing) h.0) (ap (λ q. q.1) y) in
    relinked _ before last c.args.at m c.load.new.seat.me c.lead.new.seat.me c.load-else-free-eq0.new.seat.me c.requires.rest rooms h.0 y a.0 a.1

pub returns-else-free-eq0-clause-tracks : goal.returns-else-free-eq0-clause-tracks
returns-else-free-eq0-clause-tracks g c =
    let some_of = c.if-free-eq0.false in
    let m = c.args.seat.now.me in
    let last = c.args.free.now.last in
    let (before, rooms, inside) = last_room c.args.words.now.table_id.slots c.args.free.now m.0.free c.requires.tracks (search rules) c.requires.rest.near in
    let h = (told c.load.ensures) before last rooms in
    let y = c.lead.ensures.leads m.0.free.end [] (h.1 ∙ ap (λ z. (last, vacant m.0.free.end) ∷ z) c.requires.rest.empty) in
    let a = (told c.load-else-free-eq0.ensures) last c.args.at (ap (λ q. q.0.doing) y ∙ ap (λ v. v.doing) h.0) (ap (λ q. q.1) y) in
    let t = relinked _ before last c.args.at m c.load.new.seat.me c.lead.new.seat.me c.load-else-free-eq0.new.seat.me c.requires.rest rooms h.0 y a.0 a.1 in
    (tracks_rooms c.args.free.now m.0.free c.load-else-free-eq0.new.seat.me.0.free t.0.rooms c.requires.tracks, refl)

pub returns-else-free-eq0-clause-first : goal.returns-else-free-eq0-clause-first
returns-else-free-eq0-clause-first g c none =
    let some_of = c.if-free-eq0.false in
    let m = c.args.seat.now.me in
    let last = c.args.free.now.last in
    let (before, rooms, inside) = last_room c.args.words.now.table_id.slots c.args.free.now m.0.free c.requires.tracks (search rules) c.requires.rest.near in
    let h = (told c.load.ensures) before last rooms in
    let y = c.lead.ensures.leads m.0.free.end [] (h.1 ∙ ap (λ z. (last, vacant m.0.free.end) ∷ z) c.requires.rest.empty) in
    let a = (told c.load-else-free-eq0.ensures) last c.args.at (ap (λ q. q.0.doing) y ∙ ap (λ v. v.doing) h.0) (ap (λ q. q.1) y) in
    let t = relinked _ before last c.args.at m c.load.new.seat.me c.lead.new.seat.me c.load-else-free-eq0.new.seat.me c.requires.rest rooms h.0 y a.0 a.1 in
    absurd (more_than_none before last (sym (t.0.rooms ∙ rooms) ∙ none))

pub returns-then-free-eq0-clause-first : goal.returns-then-free-eq0-clause-first
returns-then-free-eq0-clause-first g c = search rules
