-- Tries one after the other.
use Rattle.std.proofs.Common.{◌≡◌, ◌≢◌, Bool, true, false, List, [], ◌∷◌, ◌++◌, refl, sym, ◌∙◌, subst, inl, inr}
use Rattle.std.specs.Prelude.{Err}
use Rattle.cordyceps_shared.specs.Shares.{whole}
use Rattle.cordyceps_queue.specs.declared.cores.steps.TryDequeueError.{TryDequeueError}
use Rattle.cordyceps_queue.specs.declared.cores.steps.TryDequeueError.TheVariants as error
use Rattle.cordyceps_queue.specs.Shared.Calls.{PartyOf, Retries, Dequeues, Consumes, IsCertain, IsSame, MissesDequeue, FindsFull, GivesAllBack}

pub same_then : {E : Type 0} (u v w : PartyOf E) → IsSame u v → IsSame v w → IsSame u w
same_then u v w a b = (b.0 ∙ a.0, b.1 ∙ a.1)

module _ {E : Type 0} (Fails : PartyOf E → PartyOf E → Type 0) where
  retries_more : (u : PartyOf E) (tries : List (PartyOf E)) (v w : PartyOf E) → Retries Fails u tries v → Fails v w → Retries Fails u (tries ++ w ∷ []) w
  retries_more u [] v w e f = (subst (λ z. Fails z w) (sym e) f, refl)
  retries_more u (x ∷ xs) v w t f = (t.0, retries_more x xs v w t.1 f)

  -- the tries of a waiting call so far, each of which failed
  pub record Retried (u v : PartyOf E) : Type 0 where
    pub tries : List (PartyOf E)
    pub failed : Retries Fails u tries v
    pub same : IsSame u v

  pub retries : (u v w : PartyOf E) → Retried u v → Fails v w → IsSame v w → Retried u w
  retries u v w t f same = record {
    tries = t.tries ++ w ∷ [];
    failed = retries_more u t.tries v w t.failed f;
    same = same_then u v w t.same same;
  }

  -- the same of a call at which a whole party has made none
  pub record Waited (u v : PartyOf E) : Type 0 where
    pub tries : List (PartyOf E)
    pub failed : Retries Fails u tries v
    pub same : IsSame u v
    pub none : u.share ≡ whole → u ≡ v

  pub waits : (u v w : PartyOf E) → Waited u v → Fails v w → IsSame v w → (v.share ≡ whole → ⊥) → Waited u w
  waits u v w t f same part = record {
    tries = t.tries ++ w ∷ [];
    failed = retries_more u t.tries v w t.failed f;
    same = same_then u v w t.same same;
    none = λ is. absurd (part (t.same.1 ∙ is));
  }

module _ {E : Type 0} where
  pub misses : (u w : PartyOf E) (why : TryDequeueError) → why ≢ error.Empty → Dequeues (Err why) u w → MissesDequeue u w
  misses u w error.Empty not d = absurd (not refl)
  misses u w error.Inconsistent not d = inr d
  misses u w error.Busy not d = inl d

  pub stays : (u w : PartyOf E) (why : TryDequeueError) → Dequeues (Err why) u w → IsSame u w
  stays u w error.Empty d = (d.0.1, d.0.0.share)
  stays u w error.Inconsistent d = (d.adds.1, d.adds.0.share)
  stays u w error.Busy d = (d.0.1, d.0.0.share)

  pub stays_blocked : (u w : PartyOf E) (why : TryDequeueError) → Consumes (Err why) u w → IsSame u w
  stays_blocked u w error.Empty d = (d.0.1, d.0.0.share)
  stays_blocked u w error.Inconsistent d = (d.adds.1, d.adds.0.share)
  stays_blocked u w error.Busy d = absurd d

  pub misses_blocked : (u w : PartyOf E) (why : TryDequeueError) → why ≢ error.Empty → Consumes (Err why) u w → Consumes (Err error.Inconsistent) u w
  misses_blocked u w error.Empty not d = absurd (not refl)
  misses_blocked u w error.Inconsistent not d = d
  misses_blocked u w error.Busy not d = absurd d

  pub stays_full : (u w : PartyOf E) → FindsFull u w → IsSame u w
  stays_full u w c = (c.0.0.1, c.0.0.0.share)

  pub stays_giving : (b : Bool) (u w : PartyOf E) → GivesAllBack b u w → IsSame u w
  stays_giving true u w c = (c.0.1, c.0.0.share)
  stays_giving false u w c = (c.0.1, c.0.0.share)

pub uncertain : (E : Type 0) (why : TryDequeueError) → why ≢ error.Empty → IsCertain {E = E} (Err why) → ⊥
uncertain E error.Empty not c = not refl
uncertain E error.Inconsistent not c = c
uncertain E error.Busy not c = c
