-- The lines of a block, one after the other.
use Rattle.std.proofs.Common.{◌≡◌, ℕ, ◌+◌, ◌-◌, ◌<◌, List, [], ◌∷◌, ◌++◌, length, take, drop, Some, None, Ok, Err, refl, sym, ◌∙◌, ap, arith, length-append, length-take, length-drop, add-one}
use Rattle.std.proofs.lemmas.List.{append-nil, take_all, drop-drop, get_or-take, get_or_default, take-append-drop}
use Rattle.std.proofs.Math.Seq.{drop-cons}
use Rattle.std.specs.List.{concat}
use Rattle.std.proofs.lemmas.Bool.{eqb-true, false_from_ne_true}
use Rattle.memchr.specs.Find.{IsFirstByte, is_byte}
use Rattle.replay_driver.specs.Script.{Machine}
use Rattle.replay_driver.specs.Steps.{HasNoFeed, Writes, RunState, Progress, SoFar, TakesOne, TakesLines}
use Rattle.replay_driver.specs.declared.session.Stop.{Stop}
use Rattle.replay_driver.specs.declared.session.Stop.TheVariants as stops
use Rattle.replay_driver.proofs.Leads.{concat-append, leads_more, writes_more}

-- what the search for a line feed says
pub record Found (hay : List ℕ) (k : ℕ) : Type 0 where
  pub within : k < length hay
  pub clean : HasNoFeed (take k hay)
  pub cut : hay ≡ take k hay ++ 10 ∷ drop (k + 1) hay

pub found_line : (hay : List ℕ) (k : ℕ) → IsFirstByte (is_byte 10) hay (Some k) → Found hay k
found_line hay k h = record {
  within = h.0.high;
  clean = λ j d lt.
      let le : j < k = omega (arith, length-take k hay) in
      let within : j < length hay = omega (arith, length-take k hay) in
      rw (get_or-take k hay j d le, get_or_default hay j d 0 within) (false_from_ne_true _ (h.0.before j (omega arith) le));
  cut = sym (take-append-drop k hay) ∙ ap (λ (xs : List ℕ). take k hay ++ xs) (rw (drop-cons hay k 0 h.0.high, add-one, eqb-true _ _ h.1) refl);
}

pub none_found : (hay : List ℕ) → IsFirstByte (is_byte 10) hay None → HasNoFeed hay
none_found hay h = λ j d lt. rw (get_or_default hay j d 0 lt) (false_from_ne_true _ (h j (omega arith) lt))

-- the part of a block from start on, as a slice of the code
pub slice_from : (block : List ℕ) (start : ℕ) → take (length block - start) (drop start block) ≡ drop start block
slice_from block start = take_all (length block - start) (drop start block) (omega (arith, length-drop start block))

pub go_on : {S O : Type 0} (machine : Machine S) (takes : O → O → List ℕ → Type 0) (more : (s t u : O) (xs ys : List ℕ) → takes s t xs → takes t u ys → takes s u (xs ++ ys))
    (old mid new : RunState S O) (block line passed rest : List ℕ) (n : ℕ) (failed : Type 0) →
    SoFar machine takes block (line ++ 10 ∷ rest) old mid n → HasNoFeed line → passed ≡ line → TakesOne machine takes failed passed mid new (Ok tt) →
    SoFar machine takes block rest old new (n + 1)
go_on machine takes more old mid new block line passed rest n failed so_far clean same (added, step_passed, writes) =
    let step = rw same at step_passed in record {
      lines = so_far.lines ++ line ∷ [];
      texts = so_far.texts ++ added;
      leads = leads_more machine old.state mid.state new.state block line rest so_far.lines so_far.texts added so_far.leads clean step;
      counted = rw (length-append, so_far.counted) refl;
      writes = rw concat-append (writes_more takes more old.sink mid.sink new.sink old.text mid.text new.text _ _ so_far.writes writes);
    }

pub stopped : {S O : Type 0} (machine : Machine S) (takes : O → O → List ℕ → Type 0) (more : (s t u : O) (xs ys : List ℕ) → takes s t xs → takes t u ys → takes s u (xs ++ ys))
    (old new : Progress S O) (mid : RunState S O) (block line passed rest : List ℕ) (n : ℕ) (failed : Type 0) (e : Stop) →
    SoFar machine takes block (line ++ 10 ∷ rest) old.run mid n → new.count ≡ old.count + n → HasNoFeed line → passed ≡ line → TakesOne machine takes failed passed mid new.run (Err e) →
    TakesLines machine takes failed block old new (Err e)
stopped machine takes more old new mid block line passed rest n failed stops.Bad so_far counted clean is (step_passed, same, writes) =
    let step = rw is at step_passed in
    let wrote : Writes takes old.run.sink old.run.text new.run.sink new.run.text (concat so_far.texts) = rw append-nil at (writes_more takes more old.run.sink mid.sink new.run.sink old.run.text mid.text new.run.text (concat so_far.texts) [] so_far.writes writes) in
    (so_far.lines, so_far.texts, line, rest, rw same so_far.leads, clean, rw same step, counted ∙ ap (λ k. old.count + k) so_far.counted, wrote)
stopped machine takes more old new mid block line passed rest n failed stops.Memory so_far counted clean is (next, added, front, step_passed, among, writes, moved) =
    let step = rw is at step_passed in
    (so_far.lines, so_far.texts, line, rest, mid.state, next, added, front, so_far.leads, clean, step, among, writes_more takes more old.run.sink mid.sink new.run.sink old.run.text mid.text new.run.text _ _ so_far.writes writes, moved)
stopped machine takes more old new mid block line passed rest n failed stops.Write so_far counted clean is (added, waiting, step_passed, writes, did_fail) =
    let step = rw is at step_passed in (
      so_far.lines ++ line ∷ [],
      so_far.texts ++ added,
      rest,
      waiting,
      leads_more machine old.run.state mid.state new.run.state block line rest so_far.lines so_far.texts added so_far.leads clean step,
      rw concat-append (writes_more takes more old.run.sink mid.sink new.run.sink old.run.text mid.text waiting _ _ so_far.writes writes),
      did_fail,
    )

pub rest_of : (block : List ℕ) (start k : ℕ) → drop ((start + k) + 1) block ≡ drop (k + 1) (drop start block)
rest_of block start k = let same : (start + k) + 1 ≡ start + (k + 1) = omega arith in rw (drop-drop, same) refl

pub line_of : (block : List ℕ) (start k : ℕ) → take ((start + k) - start) (drop start block) ≡ take k (drop start block)
line_of block start k = let same : (start + k) - start ≡ k = omega arith in rw same refl
