use Rattle.std.proofs.Common.{refl, sym, ap, ◌∙◌, subst}
use Rattle.std.specs.Prelude.{IfSome}
use Rattle.std.specs.Option.{option_copied_mut, ghost_name_of}
use denote.RawPtr.{Ptr}
use Rattle.cordyceps_map.specs.MapLends.{with_value_at}
use Rattle.cordyceps_map.specs.StableMap.{IsFound}
use Rattle.cordyceps_map.proofs.Finding.{one_spot, value_found}
use Rattle.cordyceps_map.proofs.Looking.{none_there}
use Rattle.cordyceps_map.proofs.Revalued.{seen_kept}
use Rattle.cordyceps_map.proofs.stable_map.StableMap.get_mut.Goals as goal

pub returns-in_err-at : goal.returns-in_err-at
returns-in_err-at g c =
    let eq = g.K.PartialEq.eq in let v = c.args.self.now in let k = c.args.key.now in let a = c.lists_agree.ensures in
    let none = none_there eq k v.nodes c.in_err-at.ensures.found in (
      (ap ghost_name_of (sym c.from_residual.ensures), λ w p f. absurd (none p f), refl),
      record {
        writes_back = tt;
        value = ap option_copied_mut c.from_residual.ensures ∙ sym c.in_err-at.ensures.found;
        found = subst (λ o. IfSome o (λ _. (p : Ptr) × IsFound eq v.nodes k p)) (sym c.from_residual.ensures) tt;
        kept = λ w at q f h. seen_kept v at w q h;
      },
    )

pub returns : goal.returns
returns g c =
    let eq = g.K.PartialEq.eq in let v = c.args.self.now in let k = c.args.key.now in let a = c.lists_agree.ensures in let at = c.in_ok-at.at in let f = c.in_ok-at.ensures.found in
    let held = c.value_at_mut.ensures.value in (
      (refl, λ w p o. ap (λ z. with_value_at v z w) (one_spot eq g.met.K.Eq.laws v.nodes a.distinct a.apart k at p f o), refl),
      record {
        writes_back = tt;
        value = sym (value_found eq g.met.K.Eq.laws v.nodes a.distinct a.apart k at f (held.0, c.value_at_mut.result.now) held.1);
        found = (at, f);
        kept = λ w p q o h. seen_kept v p w q h;
      },
    )
