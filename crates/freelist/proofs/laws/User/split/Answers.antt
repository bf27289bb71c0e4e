use Rattle.std.proofs.Common.{◌<◌, ◌≤◌, [], ◌∷◌, None, inl, inr, sym, ap, ◌∙◌, arith}
use Rattle.freelist.specs.declared.laws.Command.TheVariants as kinds
use Rattle.freelist.proofs.Steps.{with, begins, idles, none_of, some_rooms, carries_split}
use Rattle.freelist.proofs.laws.User.split.Goals.{else-is_none-via-then-is_none+else-rooms, else-is_none-via-else-is_none}
use Rattle.freelist.proofs.laws.User.split.Goals as goal

pub returns-then-rooms : goal.returns-then-rooms
returns-then-rooms g c =
    let el = g.T.Linked.element in
    let i = c.self.inside in
    let few : c.args.rooms ≤ i.party.rooms = omega (arith, c.rooms.ensures.count, c.if-rooms.true) in
    begins el (kinds.Split c.args.rooms ∷ []) (with el i.list.now i.hand i.local i.party None) c.args.self.now _
    (ap (λ z. with el i.list.now i.hand i.local i.party z) (sym (none_of i.spare c.if-is_none.ensures)) ∙ c.self.view_is)
    (carries_split el i.list.now i.hand i.local i.party c.split.new.party c.split.result c.args.rooms few c.split.ensures.0 c.split.ensures.1)

pub returns-else-is_none : goal.returns-else-is_none
returns-else-is_none g c =
    let el = g.T.Linked.element in
    let i = c.self.inside in
    elim c.else-is_none.branch [
      | else-is_none-via-then-is_none+else-rooms w ↦
          let many : i.party.rooms < c.args.rooms = omega (arith, w.rooms.ensures.count, w.if-rooms.false) in
          idles el (kinds.Split c.args.rooms) (with el i.list.now i.hand i.local i.party i.spare) c.args.self.now _ c.self.view_is c.self.view_is (inl many)
      | else-is_none-via-else-is_none w ↦
          idles el (kinds.Split c.args.rooms) (with el i.list.now i.hand i.local i.party i.spare) c.args.self.now _ c.self.view_is c.self.view_is (inr (some_rooms i.spare w.if-is_none.ensures))
    ]
