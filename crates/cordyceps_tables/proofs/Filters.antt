-- Walks of a filter, and the items that it takes out.
use Rattle.std.proofs.Common.{◌≡◌, ℕ, zero, suc, ◌+◌, ◌-◌, ◌<◌, Bool, true, false, not, List, [], ◌∷◌, ◌++◌, map, length, take, drop, Option, Some, None, slice_get, refl, sym, ap, ◌∙◌, arith, append_assoc, length-append, length-drop}
use Rattle.std.specs.Prelude.{option_map}
use Rattle.std.proofs.lemmas.List.{length-take, append-nil, take_all, drop_all}
use Rattle.std.proofs.lemmas.Option.{slice_get-map, slice_get_within}
use Rattle.cordyceps_base.specs.Element.{Element, Elements, values}
use Rattle.cordyceps_list.specs.Walks.{Walks}
use Rattle.cordyceps_list.specs.Filter.{RemovesFirst}
use Rattle.cordyceps_tables.proofs.Places.{past_end}
use Rattle.cordyceps_commands.specs.declared.item.Item.{Item}
use Rattle.cordyceps_commands.specs.declared.list_command.Filter.{Filter}
use Rattle.cordyceps_tables.specs.Filters.{passes, skip_count, turn_after, first_passing, all_but, drain}

value_at : (s : Elements Item) (k : ℕ) (e : Element Item) → slice_get s k ≡ Some e → slice_get (values s) k ≡ Some e.value
value_at s k e is = slice_get-map (λ (x : Element Item). x.value) s k ∙ rw is refl

no_value_at : (s : Elements Item) (k : ℕ) → slice_get s k ≡ None → slice_get (values s) k ≡ None
no_value_at s k is = slice_get-map (λ (x : Element Item). x.value) s k ∙ rw is refl

all_but_past : (s : Elements Item) (k : ℕ) → slice_get s k ≡ None → all_but s k ≡ s
all_but_past s k is = let over = past_end s k (sym (no_value_at s k is)) in rw (take_all k s over, drop_all (k + 1) s (omega arith)) (append-nil s)

length_all_but : (s : Elements Item) (k : ℕ) → k < length s → length s ≡ length (all_but s k) + 1
length_all_but s k inside =
    let front = length-take k s in
    let behind = length-drop (k + 1) s in
    let both = length-append (take k s) (drop (k + 1) s) in
    omega arith

drain_none : (filter : Filter) (n : ℕ) (turn : Bool) (s : Elements Item) (k : ℕ) → slice_get s (first_passing filter turn s k) ≡ None → drain filter n turn s k ≡ ([], s)
drain_none filter zero turn s k is = refl
drain_none filter (suc n) turn s k is = rw (no_value_at s (first_passing filter turn s k) is) refl

drain_more : (filter : Filter) (n : ℕ) (turn : Bool) (s : Elements Item) (k : ℕ) (e : Element Item) → slice_get s (first_passing filter turn s k) ≡ Some e →
    let at = first_passing filter turn s k in
    let more = drain filter n (turn_after filter turn (drop k (values s))) (all_but s at) at in
    drain filter (suc n) turn s k ≡ (e.value ∷ more.0, more.1)
drain_more filter n turn s k e is = rw (value_at s (first_passing filter turn s k) e is) refl

-- a predicate that asks the filter, and keeps it beside the turn
pub record Asks (R : Filter × Bool → Item → Bool → Filter × Bool → Type 0) : Type 0 where
  pub answers : (f h : Filter × Bool) (x : Item) (b : Bool) → R f x b h → b ≡ passes f.0 f.1 x
  pub keeps : (f h : Filter × Bool) (x : Item) (b : Bool) → R f x b h → h.0 ≡ f.0
  pub turns : (f h : Filter × Bool) (x : Item) (b : Bool) → R f x b h → h.1 ≡ not f.1

module _ (R : Filter × Bool → Item → Bool → Filter × Bool → Type 0) (asks : Asks R) where
  walked_over : (f g : Filter × Bool) (xs : List Item) (n : ℕ) → Walks R f xs n g → (n ≡ skip_count f.0 f.1 xs) × (g.0 ≡ f.0) × (g.1 ≡ turn_after f.0 f.1 xs)
  walked_over f g [] n (none, same) = (none, ap (λ (p : Filter × Bool). p.0) same, ap (λ (p : Filter × Bool). p.1) same)
  walked_over f g (x ∷ xs) n (true, h, called, (none, same)) =
      let is = asks.answers f h x true called in
      let kept = asks.keeps f h x true called in
      let turned = asks.turns f h x true called in
      (rw (← is) none, rw same kept, rw (← is, same) turned)
  walked_over f g (x ∷ xs) n (false, h, called, (m, more, walks)) =
      let is = asks.answers f h x false called in
      let kept = asks.keeps f h x false called in
      let turned = asks.turns f h x false called in
      let later = walked_over h g xs m walks in
      let count : m ≡ skip_count f.0 (not f.1) xs = rw (kept, turned) at later.0 in
      let last : g.1 ≡ turn_after f.0 (not f.1) xs = rw (kept, turned) at later.2 in
      (rw (← is) (more ∙ ap (λ (i : ℕ). i + 1) count), later.1 ∙ kept, rw (← is) last)

  module _ {H : Type 0} (element : H → Element Item) where
    place_of : (s t : Elements Item) (k j : ℕ) (f g : Filter × Bool) (r : Option H) → RemovesFirst element R s k f r t j g → j ≡ first_passing f.0 f.1 s k
    place_of s t k j f g r removes =
        let over = (walked_over f g (drop k (values s)) (j - k) removes.walks).0 in
        let from = removes.from in
        omega arith

    pub takes_more : (s t : Elements Item) (k j i n : ℕ) (f g : Filter × Bool) (filter : Filter) (h : H) (item : Item) (items : List (Option Item)) (all : List Item × Elements Item) →
        RemovesFirst element R s k f (Some h) t j g → f.0 ≡ filter → item ≡ (element h).value → i < n →
        items ++ map Some (drain filter (n - i) f.1 s k).0 ≡ map Some all.0 → (drain filter (n - i) f.1 s k).1 ≡ all.1 →
        (g.0 ≡ filter) × (length s ≡ length t + 1) × ((items ++ Some item ∷ []) ++ map Some (drain filter (n - (i + 1)) g.1 t j).0 ≡ map Some all.0) × ((drain filter (n - (i + 1)) g.1 t j).1 ≡ all.1)
    takes_more s t k j i n f g filter h item items all removes own is below told kept =
        let place : j ≡ first_passing filter f.1 s k = rw own at (place_of s t k j f g (Some h) removes) in
        let over = walked_over f g (drop k (values s)) (j - k) removes.walks in
        let turn : g.1 ≡ turn_after filter f.1 (drop k (values s)) = rw own at over.2 in
        let at : slice_get s j ≡ Some (element h) = sym removes.answer in
        let there : slice_get s (first_passing filter f.1 s k) ≡ Some (element h) = rw (← place) at in
        let one = drain_more filter (n - (i + 1)) f.1 s k (element h) there in
        let count : n - i ≡ suc (n - (i + 1)) = omega arith in
        let step : drain filter (n - i) f.1 s k ≡ (item ∷ (drain filter (n - (i + 1)) g.1 t j).0, (drain filter (n - (i + 1)) g.1 t j).1) =
        rw (count, is, turn, removes.kept, place) one in
        let less : length s ≡ length t + 1 = rw removes.kept (length_all_but s j (slice_get_within s j (element h) at)) in
        let told_now : items ++ map Some (item ∷ (drain filter (n - (i + 1)) g.1 t j).0) ≡ map Some all.0 = rw step at told in
        (over.1 ∙ own, less, rw append_assoc told_now, ap (λ (p : List Item × Elements Item). p.1) (sym step) ∙ kept)

    pub takes_none : (s t : Elements Item) (k j n : ℕ) (f g : Filter × Bool) (filter : Filter) (items : List (Option Item)) (all : List Item × Elements Item) →
        RemovesFirst element R s k f None t j g → f.0 ≡ filter →
        items ++ map Some (drain filter n f.1 s k).0 ≡ map Some all.0 → (drain filter n f.1 s k).1 ≡ all.1 →
        (items ≡ map Some all.0) × (t ≡ all.1)
    takes_none s t k j n f g filter items all removes own told kept =
        let place : j ≡ first_passing filter f.1 s k = rw own at (place_of s t k j f g None removes) in
        let at : slice_get s j ≡ None = sym removes.answer in
        let there : slice_get s (first_passing filter f.1 s k) ≡ None = rw (← place) at in
        let step = drain_none filter n f.1 s k there in
        let stays : t ≡ s = removes.kept ∙ all_but_past s j at in
        let told_now : items ++ [] ≡ map Some all.0 = rw step at told in
        let kept_now : s ≡ all.1 = rw step at kept in
        (sym (append-nil items) ∙ told_now, stays ∙ kept_now)

    value_of : (s : Elements Item) (j : ℕ) (r : Option H) → option_map element r ≡ slice_get s j → slice_get (values s) j ≡ option_map (λ h. (element h).value) r
    value_of s j None is = no_value_at s j (sym is)
    value_of s j (Some h) is = value_at s j (element h) (sym is)

    -- the first that passes is taken out
    pub takes_first : (s t : Elements Item) (k j : ℕ) (f g : Filter × Bool) (filter : Filter) (r : Option H) → RemovesFirst element R s k f r t j g → f ≡ (filter, true) →
        (j ≡ first_passing filter true s k) × (t ≡ all_but s (first_passing filter true s k)) × (slice_get (values s) (first_passing filter true s k) ≡ option_map (λ h. (element h).value) r)
    takes_first s t k j f g filter r removes own =
        let place : j ≡ first_passing filter true s k = rw own at (place_of s t k j f g r removes) in
        (place, rw (← place) removes.kept, rw (← place) (value_of s j r removes.answer))
