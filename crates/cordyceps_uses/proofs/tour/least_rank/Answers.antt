use Rattle.std.proofs.Common.{◌≡◌, ℕ, ◌<◌, Bool, true, false, cond, min, List, [], ◌∷◌, refl, ap, sym, ◌∙◌, arith, Some}
use Rattle.std.proofs.lemmas.Cmp.{by_ranked}
use Rattle.std.specs.Cmp.{ranked}
use Rattle.std.specs.Ordering.{is_gt, nat_cmp}
use Rattle.cordyceps.specs.Elements.Element.{Element, Elements, values}
use Rattle.cordyceps.specs.Orders.Arrangement.{Represents, put_all}
use Rattle.cordyceps.specs.Orders.Preorder.{IsPreorder, by_number_lawful}
use Rattle.cordyceps.proofs.Orders.Puts.{is_put_all}
use Rattle.cordyceps_uses.specs.declared.job.Job.{Job}
use Rattle.cordyceps_uses.proofs.tour.least_rank.Goals as goal

by_rank : IsPreorder (λ (x y : Job). nat_cmp x.rank y.rank)
by_rank = by_number_lawful (λ (j : Job). j.rank)

-- which of two ranks is in front
lesser : (a b : ℕ) → cond (is_gt (nat_cmp b a)) a b ≡ min a b
lesser a b =
    by_ranked (b < a) (b ≡ a) (a < b) (nat_cmp b a) (ranked b a (nat_cmp b a) refl)
    (λ e h. ap (λ o. cond (is_gt o) a b) e ∙ omega (arith, h)) (λ e h. ap (λ o. cond (is_gt o) a b) e ∙ omega (arith, h)) (λ e h. ap (λ o. cond (is_gt o) a b) e ∙ omega (arith, h))

-- two jobs in order, as they arrived
arranged : (s arrived : Elements Job) (a b : Element Job) → Represents (λ (x y : Job). nat_cmp x.rank y.rank) s arrived → arrived ≡ b ∷ a ∷ []
    → s ≡ cond (is_gt (nat_cmp b.value.rank a.value.rank)) (a ∷ b ∷ []) (b ∷ a ∷ [])
arranged s arrived a b stands is = is_put_all by_rank s arrived stands ∙ ap (put_all (λ (x y : Job). nat_cmp x.rank y.rank) []) is

in_front : (t : Bool) (a b : Element Job) (x : Job) (rest : List Job) → values (cond t (a ∷ b ∷ []) (b ∷ a ∷ [])) ≡ x ∷ rest
    → x.rank ≡ cond t a.value.rank b.value.rank
in_front true a b x rest e = let same : a.value ≡ x = cc in ap (λ (j : Job). j.rank) (sym same)
in_front false a b x rest e = let same : b.value ≡ x = cc in ap (λ (j : Job). j.rank) (sym same)

some_there : (t : Bool) (a b : Element Job) → values (cond t (a ∷ b ∷ []) (b ∷ a ∷ [])) ≡ [] → ⊥
some_there true a b e = cc
some_there false a b e = cc

pub returns-in_err-next : goal.returns-in_err-next
returns-in_err-next c =
    let a = c.args.first in
    let b = c.args.second in
    let arrived = c.push-2.ensures ∙ ap (λ z. b ∷ z) (c.push.ensures ∙ ap (λ z. a ∷ z) c.new-arrived.ensures) in
    let is = arranged c.from_stack_min-jobs.result.elements c.push-2.new.self a b c.from_stack_min-jobs.ensures arrived in
    absurd (some_there (is_gt (nat_cmp b.value.rank a.value.rank)) a b (ap (λ (z : Elements Job). values z) (sym is) ∙ (sym c.iter.ensures.values ∙ c.in_err-next.ensures.steps.0)))

pub returns : goal.returns
returns c =
    let a = c.args.first in
    let b = c.args.second in
    let arrived = c.push-2.ensures ∙ ap (λ z. b ∷ z) (c.push.ensures ∙ ap (λ z. a ∷ z) c.new-arrived.ensures) in
    let is = arranged c.from_stack_min-jobs.result.elements c.push-2.new.self a b c.from_stack_min-jobs.ensures arrived in
    let first = ap (λ (z : Elements Job). values z) (sym is) ∙ (sym c.iter.ensures.values ∙ c.in_ok-next.ensures.steps) in
    ap (λ z. Some z) (in_front (is_gt (nat_cmp b.value.rank a.value.rank)) a b c.in_ok-next.field-0.now c.next.new.self first ∙ lesser a.value.rank b.value.rank)
