-- What a consumer takes that is alone.
use Rattle.std.proofs.Common.{◌≡◌, List, [], ◌∷◌, map, take, ap, sym, ◌∙◌, subst, Some}
use Rattle.std.specs.Prelude.{Result, Ok, Err, MatchResult}
use Rattle.std.specs.Result.{result_ok}
use Rattle.cordyceps.specs.Elements.Element.{Element}
use Rattle.cordyceps.specs.Parties.Histories.{plain}
use Rattle.cordyceps.specs.Parties.Shares.{whole}
use Rattle.cordyceps.specs.Queues.TryDequeueError.{TryDequeueError}
use Rattle.cordyceps.specs.Queues.TryDequeueError.TheVariants as error
use Rattle.cordyceps.specs.Queues.History.{held}
use Rattle.cordyceps.specs.Queues.Batches.{TakesLinked}
use Rattle.cordyceps.specs.Queues.Calls.{PartyOf, Consumes, IsCertain}
use Rattle.cordyceps.proofs.Queues.CloseTakesAll.{gives_none}
use Rattle.cordyceps_uses.specs.declared.job.Job.{Job}

abbrev pub Seat : Type 0
Seat = PartyOf (Element Job)

abbrev pub it : Element Job → Element Job
it e = e

-- who is alone takes all that is held
pub taken : (r : Result (List (Element Job)) TryDequeueError) (x y : Seat) (a b : Element Job) → x.share ≡ whole → held (plain x.seen) ≡ a ∷ b ∷ []
    → MatchResult r (λ batch. batch ≡ map it (take 16 (held (plain x.seen)))) (λ why. why ≡ error.Empty)
    → MatchResult r (λ batch. (es : List (Element Job)) × (batch ≡ map it es) × TakesLinked 16 es x y) (λ why. Consumes (Err why) x y)
    → result_ok r ≡ Some (a ∷ b ∷ [])
taken (Ok batch) x y a b is holds all how = ap (λ z. Some z) (all ∙ ap (λ z. map it (take 16 z)) holds)
taken (Err why) x y a b is holds all how =
    let none = (gives_none x y why is how (subst (λ z. IsCertain {E = Element Job} (Err z)) (sym all) tt)).1 in
    let no : ⊥ = cc in
    absurd no
