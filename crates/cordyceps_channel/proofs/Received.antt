-- What a party sent and received in each call.
use Rattle.std.proofs.Common.{◌≡◌, ℕ, List, [], ◌∷◌, ◌++◌, Bool, true, false, cond, ◌||◌, refl, sym, ap, ◌∙◌, append_assoc}
use Rattle.std.proofs.lemmas.List.{map-id, append-nil}
use Rattle.std.proofs.lemmas.List.Concat.{flat_map-append}
use Rattle.cordyceps_shared.specs.Histories.{plain, own}
use Rattle.cordyceps_shared.specs.Knowing.{merge_marks}
use Rattle.cordyceps_shared.specs.Shares.{Name}
use Rattle.cordyceps_shared.specs.Standings.{Absorbs, GivesBack}
use Rattle.cordyceps_shared.proofs.Acting.{acts_of}
use Rattle.cordyceps_shared.proofs.Adding.{plain_append}
use Rattle.cordyceps_shared.proofs.HistoryMarks.{own_append}
use Rattle.cordyceps_shared.proofs.Moving.{moves_none, moves_then, moves_given, moves_by}
use Rattle.cordyceps_queue.specs.History.{Event, actor, comes, goes, came, went}
use Rattle.cordyceps_queue.specs.Shared.Calls.{PartyOf, Legal, GivesAllBack}
use Rattle.cordyceps_queue.specs.Shared.Moves.{put_by, got_by, Moves}
use Rattle.cordyceps_queue.specs.Shared.Receipts.{Learns}
use Rattle.cordyceps_queue.proofs.SharedTheory.PartyMoves.{all_put, all_got}
use Rattle.cordyceps_channel.specs.Channels.{sent, received, DoesNothing, Receives, Stays}

module _ {E : Type 0} where
  pub went_append : (g h : List (Event Name E)) → went (g ++ h) ≡ went g ++ went h
  went_append g h = flat_map-append goes g h

  pub went_own : (xs ys : List (Bool × Event Name E)) → went (own (xs ++ ys)) ≡ went (own xs) ++ went (own ys)
  went_own xs ys = ap went (own_append xs ys) ∙ went_append (own xs) (own ys)

  -- what a party took out in a call is what it received
  pub moves_receives : {sent : List E} (u w : PartyOf E) (es : List E) → Moves (λ x. x) sent es u w → Receives es u w
  moves_receives u w es m =
      let a = m.acts in
      let got : went (own a.rest) ≡ es = ap went a.adds ∙ (sym (map-id (went m.events)) ∙ (sym (all_got (λ (x : E). x) m.events) ∙ m.took_out)) in
      record {
        table = a.table;
        elements = ap (λ l. went (own l)) a.is ∙ (went_own u.seen a.rest ∙ ap (λ l. went (own u.seen) ++ l) got);
        seen = (plain a.rest, ap plain a.is ∙ plain_append u.seen a.rest);
      }

  -- what a party put in in a call is what it sent
  came_own : (xs ys : List (Bool × Event Name E)) → came (own (xs ++ ys)) ≡ came (own xs) ++ came (own ys)
  came_own xs ys = ap came (own_append xs ys) ∙ flat_map-append comes (own xs) (own ys)

  pub moves_sent : {got : List E} (u w : PartyOf E) (es : List E) → Moves (λ x. x) es got u w → sent w ≡ sent u ++ es
  moves_sent u w es m =
      let a = m.acts in
      let put : came (own a.rest) ≡ es = ap came a.adds ∙ (sym (map-id (came m.events)) ∙ (sym (all_put (λ (x : E). x) m.events) ∙ m.put_in)) in
      ap (λ l. came (own l)) a.is ∙ (came_own u.seen a.rest ∙ ap (λ l. came (own u.seen) ++ l) put)

  pub receives_none : (u : PartyOf E) → Receives [] u u
  receives_none u = record { table = refl; elements = sym (append-nil (received u)); seen = ([], sym (append-nil (plain u.seen))) }

  pub receives_then : (u v w : PartyOf E) (xs ys : List E) → Receives xs u v → Receives ys v w → Receives (xs ++ ys) u w
  receives_then u v w xs ys a b = record {
    table = b.table ∙ a.table;
    elements = b.elements ∙ (ap (λ l. l ++ ys) a.elements ∙ append_assoc (received u) xs ys);
    seen = (a.seen.0 ++ b.seen.0, b.seen.1 ∙ (ap (λ l. l ++ b.seen.0) a.seen.1 ∙ append_assoc (plain u.seen) a.seen.0 b.seen.0));
  }

  -- ---- a party that another has absorbed had taken nothing out
  abbrev first_of : Event Name E → List (Event Name E) → Event Name E
  first_of d [] = d
  first_of d (x ∷ xs) = x

  abbrev others_of : List (Event Name E) → List (Event Name E)
  others_of [] = []
  others_of (x ∷ xs) = xs

  none_in_front : (xs ys : List E) → xs ++ ys ≡ [] → xs ≡ []
  none_in_front [] ys e = refl
  none_in_front (x ∷ xs) ys e = absurd (cc e)

  none_behind : (xs ys : List E) → xs ++ ys ≡ [] → ys ≡ []
  none_behind [] ys e = e
  none_behind (x ∷ xs) ys e = absurd (cc e)

  merged_own : (xs ys : List (Bool × Event Name E)) (rest : List (Event Name E)) → plain (merge_marks xs ys) ≡ plain ys ++ rest → went (own ys) ≡ [] → went (own (merge_marks xs ys)) ≡ went (own xs)
  merged_own [] ys rest e none = none
  merged_own (x ∷ xs) [] rest e none = refl
  merged_own (x ∷ xs) (y ∷ ys) rest e none = marked x.0 y.0 (ap (first_of x.1) e) none (λ n. merged_own xs ys rest (ap others_of e) n)
    where
      marked : (a b : Bool) → x.1 ≡ y.1 → went (cond b (y.1 ∷ own ys) (own ys)) ≡ [] → (went (own ys) ≡ [] → went (own (merge_marks xs ys)) ≡ went (own xs))
          → went (cond (a || b) (x.1 ∷ own (merge_marks xs ys)) (own (merge_marks xs ys))) ≡ went (cond a (x.1 ∷ own xs) (own xs))
      marked true true same n further = ap (λ l. goes x.1 ++ l) (further (none_behind (goes y.1) (went (own ys)) n))
      marked true false same n further = ap (λ l. goes x.1 ++ l) (further n)
      marked false true same n further = ap (λ l. l ++ went (own (merge_marks xs ys))) (ap goes same ∙ none_in_front (goes y.1) (went (own ys)) n) ∙ further (none_behind (goes y.1) (went (own ys)) n)
      marked false false same n further = further n

  pub absorbs_receives : (u o w : PartyOf E) → Absorbs (λ h. Legal h) u o w → received o ≡ [] → Receives [] u w
  absorbs_receives u o w a none =
      let theirs = a.theirs in
      record {
        table = a.table;
        elements = ap (λ l. went (own l)) a.seen ∙ (merged_own u.seen o.seen theirs.0 (sym (ap plain a.seen) ∙ theirs.1) none ∙ sym (append-nil (received u)));
        seen = a.mine;
      }

  -- ---- calls that neither send nor receive
  pub gives_all : (all : Bool) (u w : PartyOf E) → GivesAllBack all u w → DoesNothing u w
  gives_all true u w g = acts_of actor (λ h. Legal h) u w [] g.0
  gives_all false u w g = acts_of actor (λ h. Legal h) u w [] g.0

  pub moves_nothing : (u w : PartyOf E) → DoesNothing u w → Moves (λ (x : E). x) [] [] u w
  moves_nothing u w a = record { events = []; acts = a; put_in = refl; took_out = refl }

  pub gives : (n : ℕ) (gave : Bool) (u w : PartyOf E) → GivesBack n gave u w → Moves (λ (x : E). x) [] [] u w
  gives n gave u w g = moves_given (put_by (λ (x : E). x)) (got_by (λ (x : E). x)) n gave u w g

  pub nothing : (u : PartyOf E) → Moves (λ (x : E). x) [] [] u u
  nothing u = moves_none (put_by (λ (x : E). x)) (got_by (λ (x : E). x)) u

  -- a call after others that neither sent nor received
  pub nothing_then : {sent : List E} (u v w : PartyOf E) → Moves (λ (x : E). x) [] [] u v → Moves (λ (x : E). x) sent [] v w → Moves (λ (x : E). x) sent [] u w
  nothing_then {sent} u v w before m = moves_then (put_by (λ (x : E). x)) (got_by (λ (x : E). x)) [] [] sent [] u v w before m

  -- ---- calls that receive nothing and keep the share
  pub stays : (u : PartyOf E) → Stays u u
  stays u = record { receives = receives_none u; share = refl }

  pub moves_stays : {sent : List E} (u w : PartyOf E) → Moves (λ (x : E). x) sent [] u w → Stays u w
  moves_stays u w m = record { receives = moves_receives u w [] m; share = m.acts.share }

  pub stays_then : (u v w : PartyOf E) → Stays u v → Stays v w → Stays u w
  stays_then u v w a b = record { receives = receives_then u v w [] [] a.receives b.receives; share = b.share ∙ a.share }

  pub learns_moves : (told : List (Event Name E)) (u w : PartyOf E) → Learns told u w → Moves (λ (x : E). x) [] [] u w
  learns_moves told u w l = moves_by (put_by (λ (x : E). x)) (got_by (λ (x : E). x)) (λ h. Legal h) actor u w [] l.adds
