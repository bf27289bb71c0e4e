-- What a submitter's tries and a worker's takes come to, and that all jobs are done in the end.
use Rattle.std.proofs.Common.{◌≡◌, ℕ, List, [], ◌∷◌, ◌++◌, Bool, true, nat_eq, length, map, reverse, refl, sym, ap, ◌∙◌, subst, append-nil, arith}
use Rattle.std.proofs.lemmas.Bool.{eqb-true}
use Rattle.cordyceps.specs.Parties.Seated.{TableId}
use Rattle.cordyceps.specs.Elements.Element.{Element}
use Rattle.cordyceps.specs.Parties.Counts.{tally, Same}
use Rattle.cordyceps.specs.Parties.Histories.{plain}
use Rattle.cordyceps.specs.Parties.Sending.{Splits}
use Rattle.cordyceps.specs.Parties.Shares.{whole, keeps_half, IsShare}
use Rattle.cordyceps.specs.Parties.Standings.{new_party, Absorbs, GivesBack}
use Rattle.cordyceps.proofs.Parties.Counting.{tally_append, tally_map, tally_reverse}
use Rattle.cordyceps.proofs.Parties.Interleaving.{tally_interleaved}
use Rattle.cordyceps.proofs.Parties.Moving.{moves_none, moves_then, moves_given}
use Rattle.cordyceps.proofs.Parties.Ordering.{whole_share, keeps_share}
use Rattle.cordyceps.proofs.Parties.Sending.{both_took}
use Rattle.cordyceps.specs.Transfers.History.{Legal, held}
use Rattle.cordyceps.specs.Transfers.Calls.{PartyOf, Takes, FailsToPush, handle_of}
use Rattle.cordyceps.specs.Transfers.TryPushError.{TryPushError}
use Rattle.cordyceps.specs.Transfers.TryPushError.TheVariants as error
use Rattle.cordyceps.specs.Transfers.Moves.{put_by, got_by, Moves}
use Rattle.cordyceps.proofs.Transfers.PartyMoves.{moves_refill, moves_miss_refilled}
use Rattle.cordyceps.proofs.Transfers.Sending.{then_takes, exchanged}
use Rattle.cordyceps_shared_uses.specs.RunQueue.{ran, Worked}
use Rattle.cordyceps_shared_uses.specs.declared.run_queue.Job.{Job}

abbrev pub Seat : Type 0
Seat = PartyOf (Element Job)

-- a try that did not push returned the job, and moved nothing
pub not_pushed : (e : Element Job) (why : TryPushError (Element Job)) (u w : Seat) → FailsToPush e why u w → (handle_of why ≡ e) × Moves ran [] [] u w
not_pushed e (error.Full back) u w (same, full) = (same, moves_refill ran 0 u w full.0)
not_pushed e (error.Contended back) u w (same, miss) = (same, moves_miss_refilled ran u w miss)

-- in another order
turned : (f : Element Job → ℕ) (es : List (Element Job)) → tally f (map ran (reverse es)) ≡ tally f (map ran es)
turned f es = omega (arith, tally_map ran f (reverse es), tally_map ran f es, tally_reverse (λ e. f (ran e)) es)

pub worked_none : (u : Seat) → Worked [] u u
worked_none u = record { jobs = []; took = moves_none (put_by ran) (got_by ran) u; each = λ f. refl }

-- a take, after which rooms went to the pool
pub worked_turn : (done batch : List (Element Job)) (n : ℕ) (gave : Bool) (u v t w : Seat) → Worked done u v → Takes batch v t → GivesBack n gave t w
    → Worked (reverse (map ran batch) ++ done) u w
worked_turn done batch n gave u v t w a taken given =
    let got = a.jobs ++ map ran (reverse batch) in record {
      jobs = got;
      took = subst (λ (z : List (Element Job)). Moves ran [] z u w) (append-nil got)
          (moves_then (put_by ran) (got_by ran) [] got [] [] u t w (then_takes ran batch t a.took taken) (moves_given (put_by ran) (got_by ran) n gave t w given));
      each = λ f. omega (
        arith,
        a.each f,
        turned f batch,
        tally_append f a.jobs (map ran (reverse batch)),
        tally_append f (reverse (map ran batch)) done,
        tally_reverse f (map ran batch),
      );
    }

-- a take that found nothing
pub worked_idle : (done got : List (Element Job)) (u w : Seat) → nat_eq (length got) 0 ≡ true → Worked (reverse (map ran got) ++ done) u w → Worked done u w
worked_idle done [] u w none a = a
worked_idle done (e ∷ es) u w none a = let zero = eqb-true (length (e ∷ es)) 0 none in absurd (omega (arith, zero))

-- a submitter and two workers, whose parties met
pub all_done : (id : TableId) (n : ℕ) (js done more : List (Element Job)) (u kept sender one two first second third mid last : Seat)
    → u ≡ new_party id n → Splits n u kept sender → Splits 0 kept one two → Moves ran (map ran js) [] sender third → Worked done one first
    → Worked more two second → Absorbs (λ h. Legal h) first second mid → Absorbs (λ h. Legal h) mid third last
    → (last.table ≡ id) × (last.share ≡ whole) × Same (map ran js) (reverse more ++ (reverse (map ran (reverse (held (plain last.seen)))) ++ done))
all_done id n js done more u kept sender one two first second third mid last new split again sent mine theirs a b =
    let share = ap (λ (z : Seat). z.share) split.0 ∙ ap (λ (z : Seat). keeps_half z.share) new in
    let both = both_took (subst (λ names. IsShare names) (sym share) (keeps_share whole whole_share)) again mine.took theirs.took a in
    let all = exchanged ran new split both.2 sent b in
    let left = held (plain last.seen) in (
      all.0,
      all.1,
      λ f. omega (
        arith,
        ap (tally f) all.2,
        tally_append f both.0 (map ran left),
        tally_interleaved f mine.jobs theirs.jobs both.0 both.1,
        mine.each f,
        theirs.each f,
        turned f left,
        tally_append f (reverse more) (reverse (map ran (reverse left)) ++ done),
        tally_append f (reverse (map ran (reverse left))) done,
        tally_reverse f more,
        tally_reverse f (map ran (reverse left)),
      ),
    )
