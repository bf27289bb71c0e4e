use Rattle.std.proofs.Common.{◌∷◌, ◌∙◌, Option, None, refl, sym, ap, subst, rules}
use Rattle.cordyceps_shared.specs.FreeChains.{leads}
use Rattle.cordyceps_shared.specs.Places.{ItemAt}
use Rattle.cordyceps_queue.proofs.SharedTheory.UsesKeep.{begins}
use Rattle.cordyceps_queue.proofs.SharedTheory.StepTells.{told}
use Rattle.cordyceps_queue.proofs.shared.steps.begin.Goals as goal

pub overflow_add-room : goal.overflow_add-room
overflow_add-room g c =
    let r = c.requires.room in
    let near = c.requires.rest.near 0 c.args.room (subst (λ l. ItemAt l 0 c.args.room) (sym r.1) refl) in
    let t = c.requires.table in search rules

pub load-requires : goal.load-requires
load-requires g c =
    let r = c.requires.room in
    let i = c.requires.item in
    let q = c.requires.rest in
    let near = q.near 0 c.args.room (subst (λ l. ItemAt l 0 c.args.room) (sym r.1) refl) in
    let t = c.requires.table in (
      search rules,
      search rules,
      begins _ _ _ _ c.args.room r.0 _ c.args._item.now refl i q.stage q.back r.1 q.named,
    )

pub returns-clause-begun : goal.returns-clause-begun
returns-clause-begun g c =
    let r = c.requires.room in
    let u = told c.load.ensures in
    let l = u.told c.args.room r.0 c.args._item.now r.1 c.requires.item in
    let d = c.free_link.ensures u.next u.to u.bit u.link in
    let none : Option g.row.E.Denot = None in record {
      stage = l.stage;
      item = l.item;
      free = r.1 ∙ ap (λ z. c.args.room ∷ z) (sym l.free);
      end = l.end;
      next_is = d.0 ∙ (l.next_is ∙ (λ i. leads (sym l.free i) (sym l.end i)));
      back = l.back ∙ c.requires.rest.back;
      hand = l.hand ∙ ap (λ z. (c.args.room, none) ∷ z) c.requires.rest.hand;
      near = l.near;
      sees = l.sees;
    }

pub returns-clause-knows : goal.returns-clause-knows
returns-clause-knows g c =
    let r = c.requires.room in
    let u = told c.load.ensures in
    let (_, bit_is, is_bit) = c.free_link.ensures u.next u.to u.bit u.link in
    (u.knows c.args.room r.0 r.1 ∙ sym bit_is, is_bit)
