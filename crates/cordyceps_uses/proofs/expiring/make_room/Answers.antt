use Rattle.std.proofs.Common.{◌≡◌, ◌⊎◌, inr, arith, ap, sym, ◌∙◌, subst}
use Rattle.std.specs.Map.{lookup_entry}
use Rattle.cordyceps_uses.specs.Expiring.{by_use, IsFirstExpired, IsLongestUnused}
use Rattle.cordyceps_uses.proofs.Ordered.{none_left, shrunk}
use Rattle.cordyceps_uses.proofs.expiring.make_room.Goals as goal

pub returns-in-Some-clause-fits : goal.returns-in-Some-clause-fits
returns-in-Some-clause-fits g c =
    let less = shrunk g.K.PartialEq.eq (by_use c.args.map.now) c.taken.result (by_use c.taken.new.map) c.taken.ensures.out in let fits = c.requires.fits in omega (arith, less, fits)

pub returns-in_ok-at-in-None-clause-room : goal.returns-in_ok-at-in-None-clause-room
returns-in_ok-at-in-None-clause-room g c =
    let s = by_use c.args.map.now in let eq = g.K.PartialEq.eq in let k = c.args.key.now in let x = c.taken-in-None.result in let out = c.taken-in-None.ensures.out in
    let old = c.in_ok-at-in-None.ensures.oldest in let is : old.entry ≡ x = (let t = sym old.value ∙ c.taken-in-None.ensures.value in cc) in
    record {
      displaced = record {
        out = out;
        why = inr (record {
          absent = c.in-None.ensures.found;
          full = let a = c.count.ensures in let b = c.if-count-capacity.false in omega (arith, a, b);
          oldest = subst (λ z. IsFirstExpired c.args.now s z ⊎ IsLongestUnused c.args.now s z) is old.holds;
        });
      };
      absent = ap (lookup_entry (eq k)) out.left ∙ none_left (eq k) (eq x.0) s c.in-None.ensures.found;
    }

pub returns-in_ok-at-in-None-clause-fits : goal.returns-in_ok-at-in-None-clause-fits
returns-in_ok-at-in-None-clause-fits g c =
    let less = shrunk g.K.PartialEq.eq (by_use c.args.map.now) c.taken-in-None.result (by_use c.taken-in-None.new.map) c.taken-in-None.ensures.out in let fits = c.requires.fits in omega (arith, less, fits)
