use Rattle.std.proofs.Common.{◌≡◌, ◌+◌, ◌*◌, ◌%◌, length, ap, ◌∙◌, arith}
use Rattle.cordyceps_list.specs.Places.{prev_place}
use Rattle.cordyceps_list.proofs.Rounds.{stay, move_back, round_back}
use Rattle.cordyceps_list.proofs.cursor.Cursor.go_back.Goals as goal

pub loop-init : goal.loop-init
loop-init g c =
    let was = c.args.self.now in
    let n = length was.elements in
    let place = stay was.place n (was.place + 0 * n) (omega arith) (omega arith) in
    λ i. record { elements = was.elements; place = place i }

pub loop-preserved : goal.loop-preserved
loop-preserved g c =
    let at = c.loop.invariant in
    let on = c.move_prev.ensures in
    let was = c.args.self.now in
    let elements = on.elements ∙ ap (λ p. p.elements) at in
    let place = on.place ∙ ap (λ p. prev_place (length p.elements) p.place) at ∙ move_back was.place (length was.elements) c.loop.counter in
    λ i. record { elements = elements i; place = place i }

pub returns-clause-elements : goal.returns-clause-elements
returns-clause-elements g c = ap (λ p. p.elements) c.loop.invariant

pub returns-clause-place : goal.returns-clause-place
returns-clause-place g c =
    let was = c.args.self.now in
    let n = length was.elements in
    let moves : c.loop.counter ≡ c.args.moves = omega arith in
    ap (λ p. p.place) c.loop.invariant ∙ ap (λ k. (was.place + k * n) % (n + 1)) moves

pub returns-clause-round : goal.returns-clause-round
returns-clause-round g c = λ all.
    let was = c.args.self.now in
    let n = length was.elements in
    let moves : c.loop.counter ≡ n + 1 = omega arith in
    let place = ap (λ k. (was.place + k * n) % (n + 1)) moves ∙ round_back was.place n (omega arith) in
    c.loop.invariant ∙ (λ i. record { elements = was.elements; place = place i })
