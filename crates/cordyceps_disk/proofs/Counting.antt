-- How often a request is among those that wait, once one came in or went.
use Rattle.std.proofs.Common.{◌≡◌, ℕ, ◌+◌, List, [], ◌∷◌, ◌++◌, refl, ap, sym, ◌∙◌, arith}
use denote.RawPtr.{Ptr}
use Rattle.cordyceps.specs.Elements.Element.{Element, values}
use Rattle.cordyceps.specs.Elements.Nodes.{Nodes, elements}
use Rattle.cordyceps.specs.Parties.Counts.{tally}
use Rattle.cordyceps.specs.Spots.BySpot.{IsTaken}
use Rattle.cordyceps.proofs.Parties.Counting.{tally_snoc}
use Rattle.cordyceps_disk.specs.declared.laws.Step.{Step}
use Rattle.cordyceps_disk.specs.declared.laws.Step.TheVariants.{Serve, Submit}
use Rattle.cordyceps_disk.specs.declared.request.Request.{Request}
use Rattle.cordyceps_disk.specs.Queue.{Queue, element}
use Rattle.cordyceps_disk.specs.Runs.{in_queue, put_in}

pub taken_tally : {X : Type 0} (f : X → ℕ) (c d : Nodes X) (p : Ptr) (e : Element X) → IsTaken c p e d → tally f (values (elements c)) ≡ f e.value + tally f (values (elements d))
taken_tally {X} f c d p e (b, a, is, left) = ap (λ (l : Nodes X). tally f (values (elements l))) is ∙ go b ∙ ap (λ (l : Nodes X). f e.value + tally f (values (elements l))) (sym left) where
  go : (b : Nodes X) → tally f (values (elements (b ++ (p, e) ∷ a))) ≡ f e.value + tally f (values (elements (b ++ a)))
  go [] = refl
  go (n ∷ b) = let on = go b in omega (arith, on)

module _ {P : Type 0} (q w : Queue P) (s rest : List (Step P)) (served : List (Request P)) (total : (Request P → ℕ) → ℕ)
    (was : (f : Request P → ℕ) → tally f served + (tally f (in_queue q) + tally f (put_in s)) ≡ total f) (x : Step P) (steps : s ≡ x ∷ rest) where
  -- one more step, which put a request in
  pub submit_counts : (p : Ptr) (r : Request P) → x ≡ Submit r → IsTaken w.waiting p (element r) q.waiting → (f : Request P → ℕ) → tally f served + (tally f (in_queue w) + tally f (put_in rest)) ≡ total f
  submit_counts p r is came f =
      let more = taken_tally f w.waiting q.waiting p (element r) came in
      let next : tally f (put_in s) ≡ f r + tally f (put_in rest) = ap (λ (l : List (Step P)). tally f (put_in l)) steps ∙ ap (λ (y : Step P). tally f (put_in (y ∷ rest))) is in
      omega (arith, was f, more, next)

  -- one more step, which served a request
  pub serve_counts : (p : Ptr) (r : Request P) (now : ℕ) (more : List (Request P)) → x ≡ Serve now → IsTaken q.waiting p (element r) w.waiting → more ≡ served ++ r ∷ [] → (f : Request P → ℕ) → tally f more + (tally f (in_queue w) + tally f (put_in rest)) ≡ total f
  serve_counts p r now more is went one f =
      let less = taken_tally f q.waiting w.waiting p (element r) went in
      let all : tally f more ≡ tally f served + f r = ap (tally f) one ∙ tally_snoc f served r in
      let next : tally f (put_in s) ≡ tally f (put_in rest) = ap (λ (l : List (Step P)). tally f (put_in l)) steps ∙ ap (λ (y : Step P). tally f (put_in (y ∷ rest))) is in
      omega (arith, was f, less, next, all)

  -- one more step, which found no request
  pub idle_counts : (now : ℕ) → x ≡ Serve now → w ≡ q → (f : Request P → ℕ) → tally f served + (tally f (in_queue w) + tally f (put_in rest)) ≡ total f
  idle_counts now is same f =
      let next : tally f (put_in s) ≡ tally f (put_in rest) = ap (λ (l : List (Step P)). tally f (put_in l)) steps ∙ ap (λ (y : Step P). tally f (put_in (y ∷ rest))) is in
      omega (arith, was f, next, ap (λ (v : Queue P). tally f (in_queue v)) same)
