-- A filter that goes on.
use Rattle.std.proofs.Common.{◌≡◌, ℕ, ◌+◌, ◌-◌, ◌<◌, ◌≤◌, Bool, ◌++◌, Option, Some, None, length, take, drop, slice_get, sym, ap, arith, length-append, length-drop}
use Rattle.std.proofs.lemmas.List.{length-take}
use Rattle.std.proofs.lemmas.Option.{slice_get_within}
use Rattle.std.specs.Borrow.{Bor}
use Rattle.std.specs.Fn.{Mut, CalledAt}
use Rattle.std.specs.Iterator.{MakesProgress, at_most}
use Rattle.cordyceps_base.specs.Element.{Element, Elements, values}
use Rattle.cordyceps_list.specs.DrainFilter.{elements, place, predicate_of, drain_steps}
use Rattle.cordyceps_list.specs.declared.filter.DrainFilter.{DrainFilter}
use Rattle.cordyceps_list.specs.Walks.{MayAskAll}
use Rattle.cordyceps_list.proofs.Asking.{may_ask_rest}

fewer : {X : Type 0} (s t : Elements X) (k j : ℕ) (e : Element X) → k ≤ j → Some e ≡ slice_get s j → t ≡ take j s ++ drop (j + 1) s → length t - j < length s - k
fewer s t k j e from answer kept =
    omega (arith, from, slice_get_within s j e (sym answer), ap length kept, length-append (take j s) (drop (j + 1) s), length-take j s, length-drop (j + 1) s)

module _ {X F H : Type 0} (g : Mut F (Bor X × Unit {0}) Bool) (element : H → Element X) where
  -- its predicate may be asked of what it has not seen, which is fewer
  pub drains_on : (s t : DrainFilter X F) (r : Option H) → MayAskAll g (drop (place s) (values (elements s))) (predicate_of s) → drain_steps element (CalledAt g) s r t
      → MakesProgress (λ d. MayAskAll g (drop (place d) (values (elements d))) (predicate_of d)) (λ d. at_most (length (elements d) - place d)) s r t
  drains_on s t None may steps = record { on = λ _. tt; keeps = tt; rests = λ _. tt }
  drains_on s t (Some h) may steps =
      let removes = steps.0 in
      let on = may_ask_rest g element (elements s) (elements t) (place s) (place t) (predicate_of s) (predicate_of t) (Some h) may removes in
      let less = fewer (elements s) (elements t) (place s) (place t) (element h) removes.from removes.answer removes.kept in
      record { on = λ _. (on, tt, less); keeps = on; rests = λ _. tt }
