use Rattle.std.proofs.Common.{◌≡◌, ◌+◌, ◌*◌, ◌%◌, length, refl, ap, ◌∙◌, arith}
use Rattle.cordyceps_list.specs.Cursor.{elements, place}
use Rattle.cordyceps_list.specs.Places.{prev_place}
use Rattle.cordyceps_list.proofs.Rounds.{stay, move_back, round_back}
use Rattle.cordyceps_list.proofs.laws.CursorMut+T.go_back.Goals as goal

pub loop-init : goal.loop-init
loop-init g c =
    let was = c.args.self.now in
    let n = length (elements was) in
    record {
      same_reference = refl;
      elements_are = refl;
      place_is = stay (place was) n (place was + 0 * n) (omega (arith, c.place.ensures.inside, c.place.ensures.value)) (omega arith);
    }

pub loop-preserved : goal.loop-preserved
loop-preserved g c =
    let at = c.loop.invariant in
    let on = c.move_prev.ensures in
    let was = c.args.self.now in
    record {
      same_reference = on.same_reference ∙ at.same_reference;
      elements_are = on.elements_are ∙ at.elements_are;
      place_is = on.place_is ∙ (λ i. prev_place (length (at.elements_are i)) (at.place_is i)) ∙ move_back (place was) (length (elements was)) c.loop.counter;
    }

pub returns-clause-moved : goal.returns-clause-moved
returns-clause-moved g c =
    let at = c.loop.invariant in
    let was = c.args.self.now in
    let n = length (elements was) in
    let moves : c.loop.counter ≡ c.args.moves = omega arith in
    record {
      same_reference = at.same_reference;
      elements_are = at.elements_are;
      place_is = at.place_is ∙ ap (λ k. (place was + k * n) % (n + 1)) moves;
    }

pub returns-clause-round : goal.returns-clause-round
returns-clause-round g c = λ all.
    let at = c.loop.invariant in
    let was = c.args.self.now in
    let n = length (elements was) in
    let moves : c.loop.counter ≡ n + 1 = omega arith in
    record {
      same_reference = at.same_reference;
      elements_are = at.elements_are;
      place_is = at.place_is ∙ ap (λ k. (place was + k * n) % (n + 1)) moves ∙ round_back (place was) n (omega (arith, c.place.ensures.inside, c.place.ensures.value));
    }
