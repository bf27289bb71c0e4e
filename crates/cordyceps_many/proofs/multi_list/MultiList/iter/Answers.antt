use Rattle.std.proofs.Common.{length, sym, ap, ◌∙◌}
use Rattle.cordyceps_many.specs.Entries.{entries_at}
use Rattle.cordyceps_many.specs.MultiList.{list_at}
use Rattle.cordyceps_many.proofs.Entered.{place_first, entries_long}
use Rattle.cordyceps_many.proofs.multi_list.MultiList.iter.Goals as goal

pub invariant_of-result : goal.invariant_of-result
invariant_of-result g c =
    let v = c.args.self.now in let s = list_at c.args.i v.lists in
    record {
      within = c.requires.within;
      there = c.front-at.ensures.in_list;
      count = c.len.ensures ∙ sym (entries_long v.nodes s (c.lists_agree.ensures.inside c.args.i))
          ∙ ap (λ z. length (entries_at v.nodes z)) (sym (place_first c.front-at.result s c.front-at.ensures.first));
    }
