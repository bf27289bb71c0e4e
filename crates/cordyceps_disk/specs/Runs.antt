-- Runs of steps on a queue.
use Rattle.std.specs.Prelude.{◌≡◌, List, [], ◌∷◌, ◌++◌, ◌⊎◌}
use denote.RawPtr.{Ptr}
use Rattle.cordyceps.specs.Elements.Element.{values}
use Rattle.cordyceps.specs.Elements.Nodes.{elements}
use Rattle.cordyceps.specs.Parties.Counts.{Same}
use Rattle.cordyceps_disk.specs.declared.laws.Step.{Step}
use Rattle.cordyceps_disk.specs.declared.laws.Step.TheVariants.{Submit, Serve}
use Rattle.cordyceps_disk.specs.declared.request.Request.{Request}
use Rattle.cordyceps_disk.specs.Queue.{HasLeft, IsNext, Queue, submitted}

module _ {P : Type 0} where
  -- the requests that wait in a queue, by sector
  abbrev pub in_queue : Queue P → List (Request P)
  in_queue q = values (elements q.waiting)

  -- those that steps put in
  abbrev pub put_in : List (Step P) → List (Request P)
  put_in [] = []
  put_in (Submit r ∷ s) = r ∷ put_in s
  put_in (Serve now ∷ s) = put_in s

  -- from the queue q steps served these requests, in this order, and left w: each served the one that was next, or none
  -- where none waited
  abbrev pub Ran : List (Step P) → Queue P → List (Request P) → Queue P → Type 0
  Ran [] q served w = (served ≡ []) × (w ≡ q)
  Ran (Submit r ∷ s) q served w = (p : Ptr) × Ran s (submitted p r q) served w
  Ran (Serve now ∷ s) q served w =
      ((q.waiting ≡ []) × Ran s q served w)
      ⊎ ((p : Ptr) × (r : Request P) × (rest : List (Request P)) × (left : Queue P) × (served ≡ r ∷ rest)
      × IsNext now p r q × HasLeft p r q left × (left.head ≡ r.sector) × Ran s left rest w)

  -- The first of these steps ran, some or all, and left w. Each request that waited or was put in by one of them was
  -- served once, or waits.
  pub record Stopped (steps : List (Step P)) (q w : Queue P) : Type 0 where
    pub some : List (Step P)
    pub others : List (Step P)
    pub split : steps ≡ some ++ others
    pub served : List (Request P)
    pub ran : Ran some q served w
    pub each_once : Same (served ++ in_queue w) (put_in some ++ in_queue q)
