-- Runs of steps: what a run that goes on has come to.
use Rattle.std.proofs.Common.{◌≡◌, ℕ, ◌+◌, List, [], ◌∷◌, ◌++◌, length, refl, ap, sym, ◌∙◌, subst, append_assoc, append-nil, inl, inr, arith}
use denote.RawPtr.{Ptr}
use Rattle.cordyceps.specs.Parties.Counts.{tally}
use Rattle.cordyceps.proofs.Parties.Counting.{tally_append}
use Rattle.cordyceps_disk.specs.declared.laws.Step.{Step}
use Rattle.cordyceps_disk.specs.declared.laws.Step.TheVariants.{Serve, Submit}
use Rattle.cordyceps_disk.specs.declared.request.Request.{Request}
use Rattle.cordyceps_disk.specs.Queue.{HasLeft, IsNext, Queue, submitted}
use Rattle.cordyceps_disk.specs.Runs.{Ran, Stopped, in_queue, put_in}

module _ {P : Type 0} where
  -- of all steps from q on, some served these requests and left w, and these are left
  pub record Going (all : List (Step P)) (q : Queue P) (served : List (Request P)) (left : List (Step P)) (w : Queue P) : Type 0 where
    pub done : List (Step P)
    pub split : all ≡ done ++ left
    pub ran : Ran done q served w

  -- a run goes on, in which each request was served, waits, or is yet to be put in; and count steps are left
  pub record Carries (all : List (Step P)) (q : Queue P) (served : List (Request P)) (left : List (Step P)) (w : Queue P) (count : ℕ) : Type 0 where
    pub going : Going all q served left w
    pub each : (f : Request P → ℕ) → tally f served + (tally f (in_queue w) + tally f (put_in left)) ≡ tally f (put_in all) + tally f (in_queue q)
    pub count_is : count ≡ length left

  -- steps, and then more
  ran_more : (done more : List (Step P)) (q w v : Queue P) (served others : List (Request P)) → Ran done q served w → Ran more w others v → Ran (done ++ more) q (served ++ others) v
  ran_more [] more q w v served others (none, same) on = subst (λ l. Ran more q (l ++ others) v) (sym none) (subst (λ (m : Queue P). Ran more m others v) same on)
  ran_more (Submit r ∷ done) more q w v served others (p, ran) on = (p, ran_more done more (submitted p r q) w v served others ran on)
  ran_more (Serve now ∷ done) more q w v served others (inl (none, ran)) on = inl (none, ran_more done more q w v served others ran on)
  ran_more (Serve now ∷ done) more q w v served others (inr (p, r, rest, left, is, next, gone, head, ran)) on =
      inr (p, r, rest ++ others, left, ap (λ l. l ++ others) is, next, gone, head, ran_more done more left w v rest others ran on)

  pub run_starts : (all left : List (Step P)) (q : Queue P) (served : List (Request P)) → left ≡ all → served ≡ [] → Going all q served left q
  run_starts all left q served is none = record { done = []; split = sym is; ran = (none, refl) }

  pub run_ends : (all left : List (Step P)) (q w : Queue P) (served : List (Request P)) → Going all q served left w → left ≡ [] → Ran all q served w
  run_ends all left q w served was none = subst (λ s. Ran s q served w) (sym (was.split ∙ ap (λ s. was.done ++ s) none ∙ append-nil was.done)) was.ran

  module _ (all s rest : List (Step P)) (q w n : Queue P) (served : List (Request P)) (was : Going all q served s w) (x : Step P) (steps : s ≡ x ∷ rest) where
    one : (y : Step P) (others : List (Request P)) → x ≡ y → Ran (y ∷ []) w others n → Going all q (served ++ others) rest n
    one y others is ran = record {
      done = was.done ++ y ∷ [];
      split = was.split ∙ ap (λ l. was.done ++ l) (steps ∙ ap (λ z. z ∷ rest) is) ∙ sym (append_assoc was.done (y ∷ []) rest);
      ran = ran_more was.done (y ∷ []) q w n served others was.ran ran;
    }

    pub run_submits : (p : Ptr) (r : Request P) → x ≡ Submit r → n ≡ submitted p r w → Going all q served rest n
    run_submits p r is put = subst (λ l. Going all q l rest n) (append-nil served) (one (Submit r) [] is (p, (refl, put)))

    pub run_serves_none : (now : ℕ) → x ≡ Serve now → w.waiting ≡ [] → n ≡ w → Going all q served rest n
    run_serves_none now is none same = subst (λ l. Going all q l rest n) (append-nil served) (one (Serve now) [] is (inl (none, (refl, same))))

    pub run_serves : (now : ℕ) (p : Ptr) (r : Request P) (on : List (Request P)) → x ≡ Serve now → IsNext now p r w → HasLeft p r w n → n.head ≡ r.sector → on ≡ served ++ r ∷ [] → Going all q on rest n
    run_serves now p r on is next left head more =
        subst (λ l. Going all q l rest n) (sym more) (one (Serve now) (r ∷ []) is (inr (p, r, [], n, refl, next, left, head, (refl, refl))))

  put_in_more : (done left : List (Step P)) (f : Request P → ℕ) → tally f (put_in (done ++ left)) ≡ tally f (put_in done) + tally f (put_in left)
  put_in_more [] left f = omega arith
  put_in_more (Submit r ∷ done) left f = let on = put_in_more done left f in omega (arith, on)
  put_in_more (Serve now ∷ done) left f = let on = put_in_more done left f in omega (arith, on)

  -- a run that went no further
  pub stops : (all left : List (Step P)) (q w : Queue P) (served : List (Request P)) → Going all q served left w
      → ((f : Request P → ℕ) → tally f served + (tally f (in_queue w) + tally f (put_in left)) ≡ tally f (put_in all) + tally f (in_queue q)) → Stopped all q w
  stops all left q w served was same = record {
    some = was.done;
    others = left;
    split = was.split;
    served = served;
    ran = was.ran;
    each_once = λ f.
        omega (arith, same f, ap (λ l. tally f (put_in l)) was.split, put_in_more was.done left f, tally_append f served (in_queue w), tally_append f (put_in was.done) (in_queue q));
  }
