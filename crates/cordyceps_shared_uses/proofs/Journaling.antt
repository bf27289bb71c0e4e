-- What the writer of a journal receives, and what a sink writes of it.
use Rattle.std.proofs.Common.{◌≡◌, ℕ, suc, ◌+◌, ◌<◌, ◌^◌, List, [], ◌∷◌, ◌++◌, length, map, Bool, true, false, refl, sym, ap, ◌∙◌, subst, append_assoc, inl, inr, arith}
use Rattle.std.proofs.lemmas.List.{append-nil, length-append}
use Rattle.std.specs.Prelude.{Result, Ok, Err, MatchResult}
use Rattle.cordyceps.specs.Channels.Channels.{Receives, ReceivesBatch, IsOver, AreAmong, sent, received}
use Rattle.cordyceps.specs.Elements.Element.{Element}
use Rattle.cordyceps.specs.Parties.Histories.{plain}
use Rattle.cordyceps.specs.Parties.Interleaving.{Interleaves}
use Rattle.cordyceps.specs.Parties.Knowing.{IsPrefixOf}
use Rattle.cordyceps.specs.Queues.Calls.{PartyOf}
use Rattle.cordyceps.proofs.Parties.Interleaving.{all_left, all_right, only_left, interleaves_append}
use Rattle.cordyceps.proofs.Channels.Among.{sent_among}
use Rattle.cordyceps.proofs.Channels.Missing.{batch_then}
use Rattle.cordyceps_shared_uses.specs.Journal.{Runs, Writes, counted}
use Rattle.cordyceps_shared_uses.specs.Journal.{Asked, Write, Flush, IsAsked, Asks, to_write, refusals}
use Rattle.cordyceps_shared_uses.specs.Logger.{record_of}
use Rattle.cordyceps_shared_uses.specs.declared.journal.Report.{Report}
use Rattle.cordyceps_shared_uses.specs.declared.logger.Record.{Record}

module _ {E : Type 0} where
  -- ---- what a writer receives
  pub receives_none : (u : PartyOf E) → Receives [] u u
  receives_none u = record { table = refl; elements = sym (append-nil (received u)); seen = ([], sym (append-nil (plain u.seen))) }

  pub receives_then : (u v w : PartyOf E) (xs ys : List E) → Receives xs u v → Receives ys v w → Receives (xs ++ ys) u w
  receives_then u v w xs ys a b = record {
    table = b.table ∙ a.table;
    elements = b.elements ∙ (ap (λ l. l ++ ys) a.elements ∙ append_assoc (received u) xs ys);
    seen = (a.seen.0 ++ b.seen.0, b.seen.1 ∙ (ap (λ l. l ++ b.seen.0) a.seen.1 ∙ append_assoc (plain u.seen) a.seen.0 b.seen.0));
  }

  -- a batch after a try that got none
  pub batch_later : {A B : Type 0} (f : E → A) (max : ℕ) (r : Result (List A) B) (u v w : PartyOf E) → Receives [] u v → MatchResult r (λ batch. ReceivesBatch f max batch v w) (λ _. Receives [] v w × IsOver w)
      → MatchResult r (λ batch. ReceivesBatch f max batch u w) (λ _. Receives [] u w × IsOver w)
  batch_later f max (Ok batch) u v w before h = batch_then f max batch u v w before h
  batch_later f max (Err e) u v w before h = (receives_then u v w [] [] before h.0, h.1)

-- ---- what a sink writes
counted_then : (a b c m n : ℕ) → b ≡ counted a m → c ≡ counted b n → c ≡ counted a (m + n)
counted_then a b c m n first second = omega (arith, first, second)

pub writes_none : (before : List Record) (u : Report) → u.written < 2 ^ 64 → u.dropped < 2 ^ 64 → Writes [] before before u u
writes_none before u few fewer = record {
  kept = [];
  refused = [];
  order = (refl, refl);
  written = sym (append-nil before);
  counts_written = omega (arith, few);
  counts_dropped = omega (arith, fewer);
}

pub writes_then : (xs ys before now after : List Record) (u v w : Report) → Writes xs before now u v → Writes ys now after v w → Writes (xs ++ ys) before after u w
writes_then xs ys before now after u v w a b = record {
  kept = a.kept ++ b.kept;
  refused = a.refused ++ b.refused;
  order = interleaves_append a.kept a.refused xs b.kept b.refused ys a.order b.order;
  written = b.written ∙ (ap (λ l. l ++ b.kept) a.written ∙ append_assoc before a.kept b.kept);
  counts_written = counted_then u.written v.written w.written (length a.kept) (length b.kept) a.counts_written b.counts_written
      ∙ ap (counted u.written) (sym (length-append a.kept b.kept));
  counts_dropped = counted_then u.dropped v.dropped w.dropped (length a.refused) (length b.refused) a.counts_dropped b.counts_dropped
      ∙ ap (counted u.dropped) (sym (length-append a.refused b.refused));
}

pub writes_kept : (r : Record) (now after : List Record) (u w : Report) → after ≡ now ++ r ∷ [] → w.written ≡ counted u.written 1 → w.dropped ≡ u.dropped → u.dropped < 2 ^ 64
    → Writes (r ∷ []) now after u w
writes_kept r now after u w is count same few = record {
  kept = r ∷ [];
  refused = [];
  order = all_left (r ∷ []);
  written = is;
  counts_written = count;
  counts_dropped = omega (arith, same, few);
}

pub writes_refused : (r : Record) (now after : List Record) (u w : Report) → after ≡ now → w.written ≡ u.written → w.dropped ≡ counted u.dropped 1 → u.written < 2 ^ 64
    → Writes (r ∷ []) now after u w
writes_refused r now after u w is same count few = record {
  kept = [];
  refused = r ∷ [];
  order = all_right (r ∷ []);
  written = is ∙ sym (append-nil now);
  counts_written = omega (arith, same, few);
  counts_dropped = count;
}

-- a flush, after which another report has the same counts
pub writes_flushed : (rs before now after : List Record) (u v w : Report) → Writes rs before now u v → after ≡ now → w.written ≡ v.written → w.dropped ≡ v.dropped → Writes rs before after u w
writes_flushed rs before now after u v w a same written dropped = record {
  kept = a.kept;
  refused = a.refused;
  order = a.order;
  written = same ∙ a.written;
  counts_written = written ∙ a.counts_written;
  counts_dropped = dropped ∙ a.counts_dropped;
}

-- ---- what a sink is asked
to_write_append : (xs bs : List Asked) → to_write (xs ++ bs) ≡ to_write xs ++ to_write bs
to_write_append [] bs = refl
to_write_append (Write r is_done ∷ xs) bs = ap (λ z. r ∷ z) (to_write_append xs bs)
to_write_append (Flush is_done ∷ xs) bs = to_write_append xs bs

refusals_append : (xs bs : List Asked) → refusals (xs ++ bs) ≡ refusals xs + refusals bs
refusals_append [] bs = omega arith
refusals_append (Write r true ∷ xs) bs = refusals_append xs bs
refusals_append (Write r false ∷ xs) bs = omega (arith, refusals_append xs bs)
refusals_append (Flush is_done ∷ xs) bs = refusals_append xs bs

-- a flush asks for no record
nothing_to_write : (flushed : List Bool) → to_write (map Flush flushed) ≡ []
nothing_to_write [] = refl
nothing_to_write (b ∷ bs) = nothing_to_write bs

nothing_refused : (flushed : List Bool) → refusals (map Flush flushed) ≡ 0
nothing_refused [] = refl
nothing_refused (b ∷ bs) = nothing_refused bs

module _ {S : Type 0} (answers : Asked → S → S → Type 0) where
  asked_then : (xs bs : List Asked) (s m t : S) → IsAsked answers xs s m → IsAsked answers bs m t → IsAsked answers (xs ++ bs) s t
  asked_then [] bs s m t first then = subst (λ z. IsAsked answers bs z t) first then
  asked_then (a ∷ xs) bs s m t first then = (first.0, first.1, asked_then xs bs first.0 m t first.2 then)

  pub asks_none : (s : S) (u : Report) → u.dropped < 2 ^ 64 → Asks answers [] s s u u
  asks_none s u few = record { asked = []; answered = refl; all = refl; counts_refused = omega (arith, few) }

  pub asks_then : (xs ys : List Record) (s m t : S) (u v w : Report) → Asks answers xs s m u v → Asks answers ys m t v w → Asks answers (xs ++ ys) s t u w
  asks_then xs ys s m t u v w a b = record {
    asked = a.asked ++ b.asked;
    answered = asked_then a.asked b.asked s m t a.answered b.answered;
    all = to_write_append a.asked b.asked ∙ (ap (λ z. z ++ to_write b.asked) a.all ∙ ap (λ z. xs ++ z) b.all);
    counts_refused = counted_then u.dropped v.dropped w.dropped (refusals a.asked) (refusals b.asked) a.counts_refused b.counts_refused
        ∙ ap (counted u.dropped) (sym (refusals_append a.asked b.asked));
  }

  pub asks_written : (r : Record) (s t : S) (u w : Report) → answers (Write r true) s t → w.dropped ≡ u.dropped → u.dropped < 2 ^ 64 → Asks answers (r ∷ []) s t u w
  asks_written r s t u w is same few = record {
    asked = Write r true ∷ [];
    answered = (t, is, refl);
    all = refl;
    counts_refused = omega (arith, same, few);
  }

  pub asks_refused : (r : Record) (s t : S) (u w : Report) → answers (Write r false) s t → w.dropped ≡ counted u.dropped 1 → Asks answers (r ∷ []) s t u w
  asks_refused r s t u w is count = record {
    asked = Write r false ∷ [];
    answered = (t, is, refl);
    all = refl;
    counts_refused = count;
  }

  asks_flushes : (flushed : List Bool) (s t : S) (u w : Report) → IsAsked answers (map Flush flushed) s t → w.dropped ≡ u.dropped → u.dropped < 2 ^ 64 → Asks answers [] s t u w
  asks_flushes flushed s t u w answered same few = record {
    asked = map Flush flushed;
    answered = answered;
    all = nothing_to_write flushed;
    counts_refused = omega (arith, same, few, nothing_refused flushed);
  }

  -- flushes after the last record, which may change the rest of the report
  pub then_flushes : (rs : List Record) (s m t : S) (u v w : Report) (flushed : List Bool) → Asks answers rs s m u v → IsAsked answers (map Flush flushed) m t → w.dropped ≡ v.dropped
      → v.dropped < 2 ^ 64 → Asks answers rs s t u w
  then_flushes rs s m t u v w flushed a answered same few =
      subst (λ z. Asks answers z s t u w) (append-nil rs) (asks_then rs [] s m t u v w a (asks_flushes flushed m t v w answered same few))

-- ---- what a handle sent is written in its order
module _ {A B : Type 0} where
  interleaves_map : (f : A → B) (xs ys zs : List A) → Interleaves xs ys zs → Interleaves (map f xs) (map f ys) (map f zs)
  interleaves_map f xs ys [] h = (ap (map f) h.0, ap (map f) h.1)
  interleaves_map f xs ys (z ∷ zs) (inl h) = inl (map f h.0, ap (map f) h.1, interleaves_map f h.0 ys zs h.2)
  interleaves_map f xs ys (z ∷ zs) (inr h) = inr (map f h.0, ap (map f) h.1, interleaves_map f xs h.0 zs h.2)

none_left : (xs : List Record) → length xs ≡ 0 → xs ≡ []
none_left [] e = refl
none_left (x ∷ xs) e = absurd (omega (arith, e))

-- a sink that refused nothing wrote all
all_written : (rs before after : List Record) (u w : Report) → Writes rs before after u w → u.dropped ≡ 0 → w.dropped ≡ 0 → after ≡ before ++ rs
all_written rs before after u w a none still =
    let count = a.counts_dropped in
    let few : length a.refused ≡ 0 = omega (arith, count, none, still) in
    let order = subst (λ l. Interleaves a.kept l rs) (none_left a.refused few) a.order in
    a.written ∙ ap (λ l. before ++ l) (sym (only_left a.kept rs order))

module _ {S : Type 0} (written : S → List Record) (answers : Asked → S → S → Type 0) (s t : S) (report : Report) where
  -- who has learned all that a handle had seen has received what it sent
  pub in_order : (u v w : PartyOf (Element Record)) → IsPrefixOf (plain u.seen) (plain v.seen) → Runs written answers s t report v w → AreAmong (sent u) (received w)
  in_order u v w told runs =
      let later = runs.receives.seen in
      let all = later.1 ∙ (ap (λ l. l ++ later.0) told.1 ∙ append_assoc (plain u.seen) told.0 later.0) in
      subst (λ l. AreAmong (sent u) l) (sym runs.over.all) (sent_among u (plain w.seen) (told.0 ++ later.0, all))

  pub written_in_order : (j u w : PartyOf (Element Record)) → AreAmong (sent j) (received w) → Runs written answers s t report u w → received u ≡ [] → report.dropped ≡ 0
      → AreAmong (map record_of (sent j)) (written t)
  written_in_order j u w among runs new none =
      let all : received w ≡ runs.elements = runs.receives.elements ∙ ap (λ l. l ++ runs.elements) new in
      let within = subst (λ l. Interleaves (sent j) among.0 l) all among.1 in
      let rs = map record_of runs.elements in
      let of_records = interleaves_map record_of (sent j) among.0 runs.elements within in (
        written s ++ map record_of among.0,
        subst (λ l. Interleaves (map record_of (sent j)) (written s ++ map record_of among.0) l) (sym (all_written rs (written s) (written t) _ report runs.writes refl none))
            (interleaves_append [] (written s) (written s) (map record_of (sent j)) (map record_of among.0) rs (all_right (written s)) of_records),
      )

  pub runs_after : (u v w : PartyOf (Element Record)) → Receives [] u v → Runs written answers s t report v w → Runs written answers s t report u w
  runs_after u v w first runs = record {
    elements = runs.elements;
    receives = receives_then u v w [] runs.elements first runs.receives;
    over = runs.over;
    writes = runs.writes;
    last = runs.last;
    asks = runs.asks;
    flushes = runs.flushes;
  }
