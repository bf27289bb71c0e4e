use Rattle.std.proofs.Common.{length, refl, sym, ap, ◌∙◌, inr, arith, rules}
use Rattle.cordyceps_shared.proofs.TrackRooms.{last_room}
use Rattle.cordyceps_queue.specs.Shared.View.{free_chain}
use Rattle.cordyceps_queue.proofs.SharedTheory.UsesShare.{ties}
use Rattle.cordyceps_queue.proofs.SharedTheory.StepTells.{told}
use Rattle.cordyceps_queue.proofs.shared.linking.tie.Goals as goal

pub overflow_add-spare : goal.overflow_add-spare
overflow_add-spare g c =
    let t = c.requires in
    let some_of = c.if-spare-eq0.false in
    let (before, is, near) = last_room c.args.words.now.table_id.slots c.args.spare.now.rooms (free_chain c.args.seat.now.me.0) t.tracks.tracks (search rules) t.near in
    let table = c.requires.table in
    search rules

pub store-requires : goal.store-requires
store-requires g c =
    let t = c.requires in
    let some_of = c.if-spare-eq0.false in
    let (before, is, near) = last_room c.args.words.now.table_id.slots c.args.spare.now.rooms (free_chain c.args.seat.now.me.0) t.tracks.tracks (search rules) t.near in
    let table = c.requires.table in
    (search rules, search rules, ties _ _ _ _ c.args.at _ before c.args.spare.now.rooms.last refl c.free_link_to.ensures is near t.named)

pub returns-then-spare-eq0-clause-first : goal.returns-then-spare-eq0-clause-first
returns-then-spare-eq0-clause-first g c = search rules

pub returns-else-spare-at-clause-tied : goal.returns-else-spare-at-clause-tied
returns-else-spare-at-clause-tied g c = search rules

pub free_link_to-requires : goal.free_link_to-requires
free_link_to-requires g c =
    let table = c.requires.table in
    let low = c.requires.low in search rules

pub returns-then-spare-at-clause-relinked : goal.returns-then-spare-at-clause-relinked
returns-then-spare-at-clause-relinked g c =
    let s = (told c.store.ensures) c.args.at c.free_link_to.ensures in
    record { view = s.0 ∙ (λ j. record c.args.seat.now.me.0 { end = ap (λ v. v.end) (sym s.0) j }); hand = s.1 }

pub returns-then-spare-at-clause-tied : goal.returns-then-spare-at-clause-tied
returns-then-spare-at-clause-tied g c = let s = (told c.store.ensures) c.args.at c.free_link_to.ensures in inr (ap (λ v. v.end) s.0)

pub returns-then-spare-at-clause-tracks : goal.returns-then-spare-at-clause-tracks
returns-then-spare-at-clause-tracks g c =
    let s = (told c.store.ensures) c.args.at c.free_link_to.ensures in
    let t = c.requires.tracks.tracks in
    let back = ap (λ v. v.free) (sym s.0) in
    (record { count = t.count ∙ ap (λ l. length l) back; first = λ r rs e. t.first r rs (back ∙ e); last = λ before r e. t.last before r (back ∙ e) }, refl)

pub returns-then-spare-at-clause-first : goal.returns-then-spare-at-clause-first
returns-then-spare-at-clause-first g c e =
    let s = (told c.store.ensures) c.args.at c.free_link_to.ensures in
    let none = ap (λ l. length l) (ap (λ v. v.free) (sym s.0) ∙ e) in
    let count = c.requires.tracks.tracks.count in
    let some_of = c.if-spare-eq0.false in absurd (omega arith)
