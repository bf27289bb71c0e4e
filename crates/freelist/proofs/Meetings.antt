-- Users whose parties met: what they did is one legal history.
use Rattle.std.proofs.Common.{◌≡◌, ℕ, List, [], ◌∷◌, ◌++◌, map, flat_map, reverse, Some, true, false, refl, sym, ap, ◌∙◌, arith}
use Rattle.atomic_table.specs.Seated.{TableId}
use Rattle.cordyceps_base.specs.Element.{Element}
use Rattle.cordyceps_shared.specs.Counts.{tally, Same}
use Rattle.cordyceps_shared.specs.Histories.{plain, own}
use Rattle.cordyceps_shared.specs.Shares.{Name, whole, keeps_half, join_shares}
use Rattle.cordyceps_shared.specs.Standings.{new_party, keeping, giving, Knows, Absorbs}
use Rattle.cordyceps_shared.proofs.Adding.{plain_own}
use Rattle.cordyceps_shared.proofs.Counting.{tally_append, tally_map, tally_reverse}
use Rattle.cordyceps_shared.proofs.NameHalves.{halves_join}
use Rattle.cordyceps_shared.proofs.Summing.{tally_flat_map, tally_same}
use Rattle.cordyceps_stack.specs.History.{Event, Legal, held, pushes, taken_elements}
use Rattle.cordyceps_stack.specs.Shared.Calls.{PartyOf}
use Rattle.cordyceps_stack.specs.Shared.Moves.{put_by, got_by}
use Rattle.cordyceps_stack.proofs.SharedTheory.PartyMoves.{all_put, all_got}
use Rattle.freelist.specs.Whereabouts.{Call, Gains, Loses, command_of, gains, losses, Story, IsOf}
use Rattle.freelist.specs.Users.{UserOf, alone, closing, own_sum, parties_of, whereabouts_after, CarriesOut, Life, all_parties, stories, EachOnce, Met, one, absorbed}
use Rattle.freelist.specs.declared.laws.Command.{Command}
use Rattle.freelist.proofs.Calls.{carries_then}
use Rattle.freelist.proofs.Parties.{absorbs_own}
use Rattle.freelist.proofs.Steps.{begins, ends}
use Rattle.freelist.proofs.Whereabouts.{each_once}

module _ {B : Type 0} where
  -- calls that carry out commands bring no block from elsewhere, and take none there
  only_commands : (cs : List (Call B)) (ks : List Command) → map command_of cs ≡ map Some ks → (losses cs ≡ []) × (gains cs ≡ [])
  only_commands [] ks e = (refl, refl)
  only_commands (c ∷ cs) [] e = cc
  only_commands (Gains b ∷ cs) (k ∷ ks) e = cc
  only_commands (Loses b ∷ cs) (k ∷ ks) e = cc
  only_commands (c ∷ cs) (k ∷ ks) e = only_commands cs ks cc

module _ {H : Type 0} where
  -- the own events of a party are those of all that met in it
  pub met_sum : (g : Event Name H → ℕ) (ps : List (PartyOf H)) (w : PartyOf H) → Met ps w → own_sum g ps ≡ tally g (own w.seen)
  met_sum g _ w (one p) = omega arith
  met_sum g _ w (absorbed ps qs u o v a b c) =
      omega (arith, met_sum g ps u a, met_sum g qs o b, absorbs_own u o v c g, tally_append (λ (p : PartyOf H). tally g (own p.seen)) ps qs)

module _ {T H : Type 0} (element : H → Element T) where
  -- what a user did that began with one party, which had no event of its own
  abbrev pub life : (ks : List Command) (t : TableId) (hand : List (Element T)) (p : PartyOf H) (w : UserOf T H) → CarriesOut element ks (alone t hand p) w → own p.seen ≡ [] → Life element
  life ks t hand p w c none = record {
    story = record { calls = c.calls; start = whereabouts_after element (alone t hand p) []; end = whereabouts_after element w c.events; runs = c.runs; new = (refl, refl) };
    parties = parties_of w;
    events = c.events;
    own_events = λ g. omega (arith, c.own_events g, ap (tally g) none);
    put_back = refl;
    fetched = refl;
  }

  lives_sum : (g : Event Name H → ℕ) (lives : List (Life element)) → own_sum g (all_parties element lives) ≡ tally (λ l. tally g l.events) lives
  lives_sum g [] = refl
  lives_sum g (l ∷ lives) = omega (arith, lives_sum g lives, l.own_events g, tally_append (λ (p : PartyOf H). tally g (own p.seen)) l.parties (all_parties element lives))

  -- what an event gives by p, of all of these users
  gathers : (p : Event Name H → List (Element T)) (of : Story (Element T) → List (Element T)) (f : Element T → ℕ) (h : List (Event Name H)) (lives : List (Life element))
      → ((g : Event Name H → ℕ) → tally g h ≡ tally (λ l. tally g l.events) lives) → ((l : Life element) → flat_map p l.events ≡ of l.story)
      → tally f (flat_map p h) ≡ tally (λ u. tally f (of u)) (stories element lives)
  gathers p of f h lives sum each =
      let g : Event Name H → ℕ = λ e. tally f (p e) in
      tally_flat_map p f h ∙ (sum g
      ∙ (tally_same (λ (l : Life element). tally g l.events) (λ l. tally f (of l.story)) lives (λ l. sym (tally_flat_map p f l.events) ∙ ap (tally f) (each l))
      ∙ sym (tally_map (λ (l : Life element). l.story) (λ u. tally f (of u)) lives)))

  -- of users whose parties met in a whole one, what that has seen is the history
  pub is_of : (lives : List (Life element)) (w : PartyOf H) → Met (all_parties element lives) w → Knows (λ h. Legal h) w → w.share ≡ whole →
      IsOf element (stories element lives) (plain w.seen)
  is_of lives w met known is =
      let h = plain w.seen in
      let sum = λ (g : Event Name H → ℕ). ap (tally g) (plain_own w.seen (known.alone is)) ∙ (sym (met_sum g (all_parties element lives) w met) ∙ lives_sum g lives) in
      record {
        legal = known.legal;
        pushed = λ f. sym (tally_map element f (pushes h)) ∙ (ap (tally f) (sym (all_put element h))
            ∙ gathers (put_by element) (λ u. u.end.put_back) f h lives sum (λ l. all_put element l.events ∙ sym l.put_back));
        took = λ f. sym (tally_map element f (taken_elements h)) ∙ (ap (tally f) (sym (all_got element h))
            ∙ gathers (got_by element) (λ u. u.end.fetched) f h lives sum (λ l. all_got element l.events ∙ sym l.fetched));
      }

  -- so each block is in one place: with a user, local, or held
  pub met_once : (lives : List (Life element)) (w : PartyOf H) (shared : List (Element T)) → Met (all_parties element lives) w → Knows (λ h. Legal h) w → w.share ≡ whole →
      shared ≡ map element (reverse (held (plain w.seen))) → EachOnce element lives shared
  met_once lives w shared met known is gives f =
      let g : H → ℕ = λ e. f (element e) in
      omega (arith, each_once element f (stories element lives) (plain w.seen) (is_of lives w met known is), ap (tally f) gives, tally_map element f (reverse (held (plain w.seen))), tally_reverse g (held (plain w.seen)))

  -- a user from its start to its end
  pub from_new : (ks : List Command) (t : TableId) (hand : List (Element T)) (p q : PartyOf H) (u v : UserOf T H) (hand2 : List (Element T)) (p2 : PartyOf H) → q ≡ p → u ≡ alone t hand q →
      CarriesOut element ks u v → CarriesOut element closing v (alone v.table hand2 p2) → CarriesOut element (ks ++ closing) (alone t hand p) (alone t hand2 p2)
  from_new ks t hand p q u v hand2 p2 new is first last =
      let start : u ≡ alone t hand p = is ∙ ap (alone t hand) new in
      let table : v.table ≡ t = first.table ∙ ap (λ z. z.table) start in
      ends element (ks ++ closing) (alone t hand p) (alone v.table hand2 p2) (alone t hand2 p2) (ap (λ z. alone z hand2 p2) table)
      (begins element (ks ++ closing) u (alone t hand p) (alone v.table hand2 p2) start (carries_then element ks closing u v (alone v.table hand2 p2) first last))

  -- two users, whose parties met at the end, have what they had, but for what is shared
  pub both : (ks js : List Command) (t : TableId) (rooms all : ℕ) (mine yours mine2 yours2 shared : List (Element T)) (first second last : PartyOf H) →
      CarriesOut element ks (alone t mine (keeping rooms (new_party t all))) (alone t mine2 first) →
      CarriesOut element js (alone t yours (giving rooms (new_party t all))) (alone t yours2 second) →
      Absorbs (λ h. Legal h) first second last →
      ((lives : List (Life element)) → Met (all_parties element lives) last → EachOnce element lives shared) →
      Same (mine2 ++ (yours2 ++ shared)) (mine ++ yours)
  both ks js t rooms all mine yours mine2 yours2 shared first second last c d met once f =
      let l = life ks t mine (keeping rooms (new_party t all)) (alone t mine2 first) c refl in
      let r = life js t yours (giving rooms (new_party t all)) (alone t yours2 second) d refl in
      let only = only_commands c.calls ks c.carries in
      let only2 = only_commands d.calls js d.carries in
      let sums = once (l ∷ r ∷ []) (absorbed (first ∷ []) (second ∷ []) first second last (one first) (one second) met) f in
      omega (arith, sums, tally_append f mine2 (yours2 ++ shared), tally_append f yours2 shared, tally_append f mine yours, ap (tally f) only.0, ap (tally f) only.1, ap (tally f) only2.0, ap (tally f) only2.1)

  -- and their parties were all that there were
  pub both_whole : (ks js : List Command) (t : TableId) (rooms all : ℕ) (mine yours mine2 yours2 : List (Element T)) (first second last : PartyOf H) →
      CarriesOut element ks (alone t mine (keeping rooms (new_party t all))) (alone t mine2 first) →
      CarriesOut element js (alone t yours (giving rooms (new_party t all))) (alone t yours2 second) →
      Absorbs (λ h. Legal h) first second last → last.share ≡ whole
  both_whole ks js t rooms all mine yours mine2 yours2 first second last c d met =
      met.share ∙ (ap (λ z. join_shares z second.share) (c.names (false ∷ []) refl) ∙ (ap (λ z. join_shares (keeps_half whole) z) (d.names (true ∷ []) refl) ∙ halves_join []))
