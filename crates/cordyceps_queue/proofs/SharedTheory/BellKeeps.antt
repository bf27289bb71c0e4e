-- The steps on the bell keep the rule of a queue's table.
use Rattle.std.proofs.Common.{◌≡◌, ◌≢◌, ℕ, List, [], ◌∷◌, ◌++◌, reverse, set, eqb, refl, sym, ap, ◌∙◌, subst, inl, arith, length-set, get_or-set_other, get_or-set_same}
use prog.Atomic.{either}
use mathlib.Core.Logic.{dite}
use mathlib.Core.Option.{some, none}
use native.Mathlib.Decide.{ℕ_discrete}
use lib.ListN.{get_elem?}
use Rattle.atomic_table.specs.Table.{keeps, step, stepped, Allows}
use Rattle.cordyceps_shared.specs.Histories.{events}
use Rattle.cordyceps_shared.specs.Knowing.{Under}
use Rattle.cordyceps_shared.specs.Shares.{Name}
use Rattle.cordyceps_shared.specs.Words as word
use Rattle.cordyceps_shared.specs.declared.layout.TheConstants.{POOL, HEAD, RIGHT}
use Rattle.cordyceps_queue.specs.declared.cores.stage.Stage.TheVariants.{Rest}
use Rattle.cordyceps_queue.specs.declared.shared.bell.TheConstants.{BELL}
use Rattle.cordyceps_queue.specs.Bells.{IsQuiet}
use Rattle.cordyceps_queue.specs.History.{Event, actor}
use Rattle.cordyceps_queue.specs.Cores.Meets.{Meets}
use Rattle.cordyceps_queue.specs.Shared.Bell.{Hears, after_listen, after_ring, after_clear, after_doze}
use Rattle.cordyceps_queue.specs.Shared.Bits.{IsRight, KeepsUse, SpellsWords}
use Rattle.cordyceps_queue.specs.Shared.Plays.{SeatState}
use Rattle.cordyceps_queue.specs.Shared.Rule.{TableState, party, PlainHolds, RuleHolds, bell}
use Rattle.cordyceps_queue.specs.Shared.View.{View, name, bit_of}
use Rattle.cordyceps_queue.proofs.CoreTheory.ProducerSteps.{rings_keeps, clears_bell_keeps}
use Rattle.cordyceps_queue.proofs.SharedTheory.BellWord.{rung_from-append, quiet_more}
use Rattle.cordyceps_queue.proofs.SharedTheory.SeesAll.{looking, looked_sees, looked_history, looked_holds}
use Rattle.cordyceps_queue.proofs.SharedTheory.UsesKeep.{plain_table, mine}
use Rattle.cordyceps_queue.proofs.SharedTheory.UsesSpell.{pool_word, pool_links, spells_low}
use Rattle.cordyceps_queue.proofs.SharedTheory.WordsAsMachine.{next_low, core, party_at}

-- the word of the bell changes, and the view of a party
module _ {E : Type 0} (s : TableState E) (k : RuleHolds s) (id : ℕ) (w : View E) where
  bell_rule : (n : ℕ) (now : PlainHolds record { words = k.words; homes = s.homes; views = set s.views id w }) → now.uses ≡ k.plain.uses → now.chain.rooms ≡ k.plain.chain.rooms → now.pool ≡ k.plain.pool → (n ≢ 1 → IsQuiet (events now.history))
      → KeepsUse (bit_of k.plain.uses) k.words s.words w → RuleHolds record { words = set s.words BELL n; homes = s.homes; views = set s.views id w }
  bell_rule n now uses rooms is quiet own_use =
      let p = k.plain in
      let wide = p.wide in
      let long = k.spells.long in
      let spelt : SpellsWords (bit_of p.uses) p.chain.rooms k.words (set s.words BELL n) (set s.views id w) =
      spells_low (bit_of p.uses) p.chain.rooms p.chain.rooms k.words s.words k.words (set s.words BELL n) s.views id w (λ _. refl) (next_low s.words BELL n (omega arith))
      (length-set s.words BELL n ∙ long) (get_or-set_other s.words BELL HEAD n 0 (λ e. omega arith) ∙ k.spells.head) (subst (λ x. IsRight (bit_of p.uses) (word.right k.words) x) (sym (get_or-set_other s.words BELL RIGHT n 0 (λ e. omega arith))) k.spells.right)
      (λ i x a. inl (i, a)) (λ _. own_use) k.spells in record {
        words = k.words;
        plain = now;
        spells = subst (λ (z : List (ℕ × ℕ) × List ℕ). SpellsWords (bit_of z.0) z.1 k.words (set s.words BELL n) (set s.views id w)) (λ j. (sym uses j, sym rooms j)) spelt;
        word_is = pool_word s.words (set s.words BELL n) p.pool now.pool (get_or-set_other s.words BELL POOL n 0 (λ e. omega arith)) is k.word_is;
        pooled = pool_links k.words s.words k.words (set s.words BELL n) p.pool now.pool is (λ i x a. (next_low s.words BELL n (omega arith) x, refl)) k.pooled;
        rung = λ ne. quiet (λ e. ne (get_or-set_same s.words BELL n 0 (omega arith) ∙ e));
      }

-- the party looks, and adds these events
module _ {E : Type 0} (id n : ℕ) (me : SeatState E) (named : me.0.known.share ≢ []) (s : TableState E) (k : RuleHolds s) (at : get_elem? s.views id ≡ some me.0) (es : List (Event Name E)) (under : Under actor (name me.0) es)
    (met : Meets (core (plain_table s k) k.plain) k.plain.chain (reverse es ++ reverse (events k.plain.history))) where
  abbrev left : View E
  left = looking (plain_table s k) k.plain id me.0 at named es under met

  sounds : (n ≢ 1 → IsQuiet (events k.plain.history ++ es)) → RuleHolds (stepped s BELL n id me.1 left keeps)
  sounds quiet =
      let h = looked_holds (plain_table s k) k.plain id me.0 at named es under met in
      let own = mine s k id me.0 at named in
      bell_rule s k id left n h.now h.uses h.rooms h.pool (λ ne. subst (λ l. IsQuiet l) (sym h.history) (quiet ne)) record { free = own.free; begun = own.begun; knows = own.knows }

  hears : Hears es me (left, me.1)
  hears = record { view_is = refl; hand = refl; sees = looked_sees (plain_table s k) k.plain id me.0 at named es under met }

module _ {E : Type 0} (slots id : ℕ) (me : SeatState E) (named : me.0.known.share ≢ []) where
  abbrev rung_by : List (Event Name E)
  rung_by = Event.Ring (name me.0) ∷ []

  abbrev cleared_by : List (Event Name E)
  cleared_by = Event.Clear (name me.0) ∷ []

  rung_met : me.0.stage ≡ Rest → (s : TableState E) (k : RuleHolds s) → get_elem? s.views id ≡ some me.0 → Meets (core (plain_table s k) k.plain) k.plain.chain (reverse rung_by ++ reverse (events k.plain.history))
  rung_met rest s k at = rings_keeps (core (plain_table s k) k.plain) k.plain.chain (reverse (events k.plain.history)) k.plain.meets id (party me.0) (party_at (plain_table s k) k.plain id me.0 at named) rest

  pub listens : me.0.stage ≡ Rest → Allows RuleHolds slots id me BELL (λ n. n) (after_listen (step slots BELL 0 0 none) me)
  listens rest s k deep at fits =
      let found : ℕ = bell s.words in
      let met = rung_met rest s k at in
      dite (ℕ_discrete found 1)
      (λ one. (
        left id found me named s k at rung_by (refl, tt) met,
        keeps,
        tt,
        sounds id found me named s k at rung_by (refl, tt) met (λ ne. absurd (ne one)),
        ((λ _. hears id found me named s k at rung_by (refl, tt) met), λ ne. absurd (ne one)),
      ))
      (λ other. (
        left id found me named s k at [] tt k.plain.meets,
        keeps,
        tt,
        sounds id found me named s k at [] tt k.plain.meets (λ ne. quiet_more (events k.plain.history) [] (k.rung ne) refl),
        ((λ one. absurd (other one)), λ _. hears id found me named s k at [] tt k.plain.meets),
      ))

  pub rings : me.0.stage ≡ Rest → Allows RuleHolds slots id me BELL (λ _. 1) (after_ring (step slots BELL 1 0 none) me)
  rings rest s k deep at fits =
      let met = rung_met rest s k at in (
        left id 1 me named s k at rung_by (refl, tt) met,
        keeps,
        tt,
        sounds id 1 me named s k at rung_by (refl, tt) met (λ ne. absurd (ne refl)),
        hears id 1 me named s k at rung_by (refl, tt) met,
      )

  pub clears_bell : Allows RuleHolds slots id me BELL (λ n. either (eqb n 1) 0 n) (after_clear (step slots BELL 1 0 none) me)
  clears_bell s k deep at fits =
      let now : ℕ = either (eqb (bell s.words) 1) 0 (bell s.words) in
      let met = clears_bell_keeps (core (plain_table s k) k.plain) k.plain.chain (reverse (events k.plain.history)) k.plain.meets id (party me.0) (party_at (plain_table s k) k.plain id me.0 at named) in (
        left id now me named s k at cleared_by (refl, tt) met,
        keeps,
        tt,
        sounds id now me named s k at cleared_by (refl, tt) met (λ _. rung_from-append _ (events k.plain.history) cleared_by),
        hears id now me named s k at cleared_by (refl, tt) met,
      )

  pub dozes : Allows RuleHolds slots id me BELL (λ n. either (eqb n 0) 2 n) (after_doze (step slots BELL 0 2 none) me)
  dozes s k deep at fits =
      let found : ℕ = bell s.words in
      let now : ℕ = either (eqb found 0) 2 found in
      let still : found ≢ 1 → IsQuiet (events k.plain.history ++ []) = λ ne. quiet_more (events k.plain.history) [] (k.rung ne) refl in
      dite (ℕ_discrete found 1)
      (λ one. (
        left id now me named s k at [] tt k.plain.meets,
        keeps,
        tt,
        sounds id now me named s k at [] tt k.plain.meets (λ ne. absurd (ne (ap (λ n. either (eqb n 0) 2 n) one))),
        (hears id now me named s k at [] tt k.plain.meets, λ ne. absurd (ne one)),
      ))
      (λ other. (
        left id now me named s k at [] tt k.plain.meets,
        keeps,
        tt,
        sounds id now me named s k at [] tt k.plain.meets (λ _. still other),
        (
          hears id now me named s k at [] tt k.plain.meets,
          λ ne. subst (λ l. IsQuiet l) (sym (looked_history (plain_table s k) k.plain id me.0 at named [] tt k.plain.meets)) (still ne),
        ),
      ))
