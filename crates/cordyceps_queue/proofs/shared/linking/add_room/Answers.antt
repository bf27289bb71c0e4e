use Rattle.std.proofs.Common.{◌++◌, suc, sym, ap, ◌∙◌, subst, add-one}
use Rattle.cordyceps_shared.specs.FreeChains.{FreeChain, end_after}
use Rattle.cordyceps_shared.proofs.TrackRooms.{tracks_more}
use Rattle.cordyceps_queue.specs.Shared.Parts.{TracksEnd}
use Rattle.cordyceps_queue.specs.Shared.View.{free_chain}
use Rattle.cordyceps_queue.proofs.shared.linking.add_room.Goals as goal

pub returns-clause-tracks : goal.returns-clause-tracks
returns-clause-tracks g c =
    let t = c.tie.ensures in
    let k = c.tie.new.seat.me.0 in
    let view = t.relinked.view in
    let back = ap (λ v. v.back) view ∙ c.requires.back.0 in
    let to = ap (λ v. v.to) view ∙ c.requires.back.1 in
    subst (TracksEnd _) (λ i. let all : FreeChain = record { rooms = k.free ++ sym back i; end = end_after k.end (sym back i) (sym to i) } in all) record {
      tracks = tracks_more c.tie.new.spare.rooms (free_chain k) c.args.room (suc c.args.next) t.tracks.0 (λ e. t.first e ∙ add-one c.args.room);
      end = λ _. add-one c.args.next;
    }
