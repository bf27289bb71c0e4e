use Rattle.std.proofs.Common.{◌≡◌, ◌++◌, ◌∷◌, [], Some, refl, sym, ap, ◌∙◌}
use Rattle.std.specs.Map.{remove_entry}
use Rattle.cordyceps.proofs.Spots.ValueAt.{held_value}
use Rattle.cordyceps_uses.specs.Keyed.{order}
use Rattle.cordyceps_uses.proofs.Written.{written_at, written_last}
use Rattle.cordyceps_uses.proofs.recency.replace.Goals as goal

pub move_back-requires-clause-at : goal.move_back-requires-clause-at
move_back-requires-clause-at g c =
    written_at g.K.PartialEq.eq c.args.map.now c.lists_agree.ensures c.args.key.now c.args.at c.requires.at c.args.map.now refl refl c.replace-old.new.dest c.lists_agree-2.ensures

pub returns : goal.returns
returns g c =
    let m = c.args.map.now in let a = c.requires.at in let eq = g.K.PartialEq.eq in let new = c.replace-old.new.dest in
    let (k, held) = c.value_at_mut.ensures.value in let now = c.value_at_mut.result.now in
    let is : a.entry ≡ (k, now) = (let there = held_value m.nodes c.args.at (k, now) c.lists_agree.ensures.distinct held in let u = sym a.value ∙ there in cc) in
    record {
      key = k;
      found = a.found ∙ ap Some is ∙ ap (λ v. Some (k, v)) (sym c.replace-old.ensures.value);
      entries = written_last eq m c.lists_agree.ensures c.args.key.now c.args.at a m refl refl new c.lists_agree-2.ensures c.move_back.new.map c.move_back.ensures.moved
          ∙ ap (λ (x : _ × _). remove_entry (eq c.args.key.now) (order 0 m) ++ (x.0, new) ∷ []) is
          ∙ ap (λ v. remove_entry (eq c.args.key.now) (order 0 m) ++ (k, v) ∷ []) c.replace-old.ensures.after;
    }
