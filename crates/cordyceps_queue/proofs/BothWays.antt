-- The laws of histories that are read from either end.
use Rattle.std.proofs.Common.{List, reverse, sym, subst}
use Rattle.std.proofs.lemmas.List.{reverse-reverse}
use Rattle.cordyceps_queue.specs.History as told
use Rattle.cordyceps_queue.specs.History.{Event}
use Rattle.cordyceps_queue.specs.Past as past
use Rattle.cordyceps_queue.specs.Laws.{LegalBothWays, BlockedBothWays, WasBlockedBothWays}
use Rattle.cordyceps_queue.proofs.Blocked.{told_blocked, past_blocked, told_was_blocked, past_was_blocked}
use Rattle.cordyceps_queue.proofs.Legality.{told_legal, past_legal}

turned_legal : {P E : Type 0} (same : Discrete P) (h : List (Event P E)) → told.IsLegal same h → past.IsLegalReversed (reverse h)
turned_legal same h legal = past_legal same (reverse h) (subst (told.IsLegal same) (sym (reverse-reverse h)) legal)

pub legal_both_ways : (P E : Type 0) → LegalBothWays P E
legal_both_ways P E same h = (turned_legal same h, told_legal same h)

pub blocked_both_ways : (P E : Type 0) → BlockedBothWays P E
blocked_both_ways P E same h legal = (past_blocked same h (turned_legal same h legal), told_blocked same h (turned_legal same h legal))

pub was_blocked_both_ways : (P E : Type 0) → WasBlockedBothWays P E
was_blocked_both_ways P E same h q legal = (past_was_blocked same h (turned_legal same h legal) q, told_was_blocked same h (turned_legal same h legal) q)
