use Rattle.std.proofs.Common.{◌≡◌, ◌<◌, [], ◌∷◌, inl, inr, sym, ap, ◌∙◌, arith}
use Rattle.freelist.specs.declared.laws.Command.TheVariants as kinds
use Rattle.freelist.proofs.Steps.{with, begins, idles, carries_remote, carries_missed}
use Rattle.freelist.proofs.laws.User.put_remote.Goals as goal

pub returns-in-Err : goal.returns-in-Err
returns-in-Err g c =
    let el = g.T.Linked.element in
    let i = c.self.inside in
    let room : 0 < i.party.rooms = omega (arith, c.rooms.ensures.count, c.if-rooms-gt0.true) in
    begins el (kinds.PutRemote ∷ []) (with el i.list.now i.hand i.local i.party i.spare) c.args.self.now _ c.self.view_is
    (carries_missed el i.list.now i.hand c.pop.new.self c.push.new.self i.local i.party c.put_remote.new.party i.spare c.in-Some.handle c.in-Err.back c.in-Some.ensures room c.in-Err.ensures.answer.0 c.push.ensures c.in-Err.ensures.answer.1)

pub returns-in_default-put_remote : goal.returns-in_default-put_remote
returns-in_default-put_remote g c =
    let el = g.T.Linked.element in
    let i = c.self.inside in
    begins el (kinds.PutRemote ∷ []) (with el i.list.now i.hand i.local i.party i.spare) c.args.self.now _ c.self.view_is
    (carries_remote el i.list.now i.hand c.pop.new.self i.local i.party c.put_remote.new.party i.spare c.in-Some.handle c.in_default-put_remote.field-0 c.in-Some.ensures c.in_default-put_remote.ensures.answer)

pub returns-in_default : goal.returns-in_default
returns-in_default g c =
    let el = g.T.Linked.element in
    let i = c.self.inside in
    let none = c.in_default.ensures in
    idles el kinds.PutRemote (with el i.list.now i.hand i.local i.party i.spare) c.args.self.now _ c.self.view_is
    (ap (λ z. with el i.list.now z i.local i.party i.spare) (none.0 ∙ sym none.1))
    (inl none.0)

pub returns-else-rooms-gt0 : goal.returns-else-rooms-gt0
returns-else-rooms-gt0 g c =
    let el = g.T.Linked.element in
    let i = c.self.inside in
    let none : i.party.rooms ≡ 0 = omega (arith, c.rooms.ensures.count, c.if-rooms-gt0.false) in
    idles el kinds.PutRemote (with el i.list.now i.hand i.local i.party i.spare) c.args.self.now _ c.self.view_is c.self.view_is (inr none)
