use Rattle.std.proofs.Common.{◌≡◌, length, ap, ◌∙◌, arith, rules}
use Rattle.std.specs.Prelude.{is_ok}
use Rattle.cordyceps_stack.specs.Cores.Machine.{Machine}
use Rattle.cordyceps_stack.proofs.CoreTheory.WalkCalls.{hands_party_tried}
use Rattle.cordyceps_stack.proofs.cores.calls.TransferCore.add_party.Goals as goal
use Rattle.cordyceps_stack.proofs.cores.calls.TransferCore.add_party.Goals.{in-Ok, in-Err}

pub returns-clause-walks : goal.returns-clause-walks
returns-clause-walks g c = λ h.
    let m : Machine g.row.E.Denot = record { head = c.self.inside.head; rooms = c.self.inside.rooms; parties = c.self.inside.parties.items } in
    rw (← c.self.view_is) (hands_party_tried h m c.push.new.self.items (is_ok c.push.result) c.push.ensures.items)

pub returns-clause-ok : goal.returns-clause-ok
returns-clause-ok g c =
    let number : c.len-party.result ≡ length c.self.inside.parties.items = omega (arith, c.len-party.ensures) in
    let same = number ∙ ap (λ (m : Machine g.row.E.Denot). length m.parties) c.self.view_is in
    elim c.match-push.branch [ in-Ok w ↦ rw w.result-is (same, search rules) | in-Err w ↦ search rules ]

pub returns-clause-err : goal.returns-clause-err
returns-clause-err g c = search rules
