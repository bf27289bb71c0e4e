-- A table: its number of lines, none, one more and one less.
use Rattle.std.proofs.Common.{◌≡◌, ℕ, zero, suc, ◌+◌, ◌-◌, ◌<◌, ◌≤◌, if◌then◌else◌, List, [], ◌∷◌, ◌++◌, length, take, drop, get_or, refl, sym, ap, ◌∙◌, subst, arith}
use Rattle.std.proofs.lemmas.List.{append-nil, take_more_set}
use lib.ListN.{set}
use denote.RawPtr.{Ptr, block_ptr, null_ptr, InBlock}
use Rattle.cordyceps_base.specs.declared.boxes.Address.{Address}
use Rattle.cordyceps_base.specs.Boxes.{box_addresses}
use Rattle.cordyceps_base.specs.DoubleLines.{flat, begins, lines_in, IsDoubleLine, IsTable, Lead, AreLines}
use Rattle.cordyceps_base.specs.Nodes.{Nodes, spots, OwnedNode, nodes_of}
use Rattle.cordyceps_base.specs.Spots.{same_ptr, index_of, AreDistinct, AreNullComparable}
use Rattle.cordyceps_base.proofs.DoubleLines.{seen, flat_with, LineAt, lead_with, lead_without, table_shows}
use Rattle.cordyceps_base.proofs.LinePlaces.{cut_parts}
use Rattle.cordyceps_base.proofs.Nodes.{Row}

module _ {X : Type 0} where
  pub lines_long : (hs : List Address) (c : Nodes X) → length (lines_in hs c) ≡ length hs
  lines_long [] c = refl
  lines_long (h ∷ hs) c = by_ptr h.ptr (λ d. lines_long hs d) where
    by_ptr : (p : Ptr) → ((d : Nodes X) → length (lines_in hs d) ≡ length hs) → length (elim p as (λ _. List (Nodes X)) [ block_ptr b o ↦ take (begins hs (spots c)) c ∷ lines_in hs (drop (begins hs (spots c)) c) | null_ptr ↦ [] ∷ lines_in hs c ]) ≡ suc (length hs)
    by_ptr (block_ptr b o) on = ap suc (on (drop (begins hs (spots c)) c))
    by_ptr null_ptr on = ap suc (on c)

  pub no_lines : (hs : List Address) (ns : Row X) → AreLines hs ns → lines_in hs (nodes_of ns) ≡ [] → ns ≡ []
  no_lines [] ns w e = none w.lines w.parts w.led where
    none : (ls : List (Row X)) → ns ≡ flat ls → Lead [] ls → ns ≡ []
    none [] is f = is
    none (l ∷ ls) is f = absurd f
  no_lines (h ∷ hs) ns w e = let long = lines_long (h ∷ hs) (nodes_of ns) in let none = ap length e in absurd (omega (arith, long, none))

  pub seen_with : (ls : List (Row X)) (l : Row X) → seen (ls ++ l ∷ []) ≡ seen ls ++ nodes_of l ∷ []
  seen_with [] l = refl
  seen_with (m ∷ ls) l = ap (λ s. nodes_of m ∷ s) (seen_with ls l)

  -- ---- a line more
  pub lines_with : (hs : List Address) (ns more row : Row X) (h : Address) → AreLines hs ns → LineAt h.ptr more → row ≡ ns ++ more → AreNullComparable (box_addresses row) → AreDistinct (box_addresses row) → AreLines (hs ++ h ∷ []) row
  lines_with hs ns more row h w l whole b e =
      record { comparable = b; distinct = e; lines = w.lines ++ more ∷ []; parts = whole ∙ ap (λ s. s ++ more) w.parts ∙ sym (flat_with w.lines more); led = lead_with hs w.lines h more w.led l }

  pub with_shown : (hs : List Address) (ns more row : Row X) (h : Address) (c : List (Nodes X)) (l : Nodes X) → AreLines hs ns → LineAt h.ptr more → row ≡ ns ++ more → AreNullComparable (box_addresses row) → AreDistinct (box_addresses row)
      → lines_in hs (nodes_of ns) ≡ c → nodes_of more ≡ l → lines_in (hs ++ h ∷ []) (nodes_of row) ≡ c ++ l ∷ []
  unfolding lines_with
  with_shown hs ns more row h c l w at whole b e seen_c seen_l =
      let all = lines_with hs ns more row h w at whole b e in
      table_shows (hs ++ h ∷ []) row all.lines all.parts all.led b e
      ∙ seen_with w.lines more ∙ (λ i. (sym (table_shows hs ns w.lines w.parts w.led w.comparable w.distinct) ∙ seen_c) i ++ seen_l i ∷ [])

  -- ---- a line less
  past_all : (ns : Row X) → AreNullComparable (box_addresses ns) → index_of null_ptr (box_addresses ns) ≡ length ns
  past_all [] a = refl
  past_all (n ∷ ns) a = here n.0 a.0.0 (past_all ns a.1) where
    here : (p : Ptr) → InBlock p → index_of null_ptr (box_addresses ns) ≡ length ns → (if same_ptr null_ptr p then zero else suc (index_of null_ptr (box_addresses ns))) ≡ suc (length ns)
    here (block_ptr b o) i on = ap suc on
    here null_ptr i on = absurd i

  take_whole : (ns : Row X) → take (length ns) ns ≡ ns
  take_whole [] = refl
  take_whole (n ∷ ns) = ap (λ s. n ∷ s) (take_whole ns)

  drop_whole : (ns : Row X) → drop (length ns) ns ≡ []
  drop_whole [] = refl
  drop_whole (n ∷ ns) = drop_whole ns

  pub line_cut : (ns xs l front back : Row X) (h : Ptr) → ns ≡ xs ++ l → LineAt h l → AreNullComparable (box_addresses ns) → AreDistinct (box_addresses ns)
      → (front ≡ take (index_of h (box_addresses ns)) ns) × (back ≡ drop (index_of h (box_addresses ns)) ns) → (front ≡ xs) × (back ≡ l)
  line_cut ns xs [] front back h is f a d (g, k) =
      let n : index_of h (box_addresses ns) ≡ length ns = ap (λ p. index_of p (box_addresses ns)) f.1.0 ∙ past_all ns a in
      (g ∙ ap (λ j. take j ns) n ∙ take_whole ns ∙ is ∙ append-nil xs, k ∙ ap (λ j. drop j ns) n ∙ drop_whole ns)
  line_cut ns xs (n ∷ l) front back h is f a d cut = cut_parts ns xs l front back n h is (sym f.1.0.0) d cut

  -- a row that is taken out of a table, and cut
  abbrev pub IsCut : Ptr → Row X → Row X → Row X → Type 0
  IsCut p ns front back = (front ≡ take (index_of p (box_addresses ns)) ns) × (back ≡ drop (index_of p (box_addresses ns)) ns)

  pub cut_of : (p : Ptr) (ns row front back : Row X) → row ≡ ns → IsCut p row front back → IsCut p ns front back
  cut_of p ns row front back is cut = subst (λ ls. IsCut p ls front back) is cut

  -- what is left without the last line, and that line
  pub record Less (hs : List Address) (h : Address) (ns front back : Row X) : Type 0 where
    pub lines : List (Row X)
    pub line : Row X
    pub first : front ≡ flat lines
    pub second : back ≡ line
    pub led : Lead hs lines
    pub here : LineAt h.ptr line
    pub whole : ns ≡ flat (lines ++ line ∷ [])
    pub all : Lead (hs ++ h ∷ []) (lines ++ line ∷ [])

  pub less : (hs : List Address) (h : Address) (ns front back : Row X) → AreLines (hs ++ h ∷ []) ns → (front ≡ take (index_of h.ptr (box_addresses ns)) ns) × (back ≡ drop (index_of h.ptr (box_addresses ns)) ns) → Less hs h ns front back
  less hs h ns front back w cut =
      let (ms, l, parts, led, here) = lead_without hs h w.lines w.led in
      let whole : ns ≡ flat (ms ++ l ∷ []) = w.parts ∙ ap flat parts in
      let on = line_cut ns (flat ms) l front back h.ptr (whole ∙ flat_with ms l) here w.comparable w.distinct cut in
      record { lines = ms; line = l; first = on.0; second = on.1; led = led; here = here; whole = whole; all = subst (Lead (hs ++ h ∷ [])) parts w.led }

  pub less_shown : (hs : List Address) (h : Address) (ns front back row : Row X) (c : List (Nodes X)) → AreLines (hs ++ h ∷ []) ns → (u : Less hs h ns front back) → lines_in (hs ++ h ∷ []) (nodes_of ns) ≡ c
      → row ≡ front → AreNullComparable (box_addresses row) → AreDistinct (box_addresses row) → c ≡ lines_in hs (nodes_of row) ++ nodes_of back ∷ []
  less_shown hs h ns front back row c w u view is b e =
      sym view ∙ table_shows (hs ++ h ∷ []) ns (u.lines ++ u.line ∷ []) u.whole u.all w.comparable w.distinct ∙ seen_with u.lines u.line
      ∙ (λ i. sym (table_shows hs row u.lines (is ∙ u.first) u.led b e) i ++ nodes_of (sym u.second i) ∷ [])

-- ---- the part of an array that is used
pub took : {A : Type 0} (xs : List A) (n : ℕ) → n ≤ length xs → length (take n xs) ≡ n
took xs zero p = refl
took [] (suc n) p = absurd (omega arith)
took (x ∷ xs) (suc n) p = ap suc (took xs n (omega arith))

pub set_long : {A : Type 0} (xs : List A) (k : ℕ) (x : A) → length (set xs k x) ≡ length xs
set_long [] k x = refl
set_long (y ∷ xs) zero x = refl
set_long (y ∷ xs) (suc k) x = ap suc (set_long xs k x)

abbrev pub nowhere : Address
nowhere = record { ptr = null_ptr }

take_one : (xs : List Address) (m : ℕ) → suc m ≤ length xs → take (suc m) xs ≡ take m xs ++ get_or xs m nowhere ∷ []
take_one [] m q = absurd (omega (arith, q))
take_one (y ∷ xs) zero q = refl
take_one (y ∷ xs) (suc m) q = ap (λ s. y ∷ s) (take_one xs m (omega (arith, q)))

take_last : (xs : List Address) (n : ℕ) (x : Address) → 0 < n → n ≤ length xs → x ≡ get_or xs (n - 1) nowhere → take n xs ≡ take (n - 1) xs ++ x ∷ []
take_last xs n x p q e = let on : n ≡ suc (n - 1) = omega (arith, p) in ap (λ k. take k xs) on ∙ take_one xs (n - 1) (omega (arith, p, q)) ∙ ap (λ z. take (n - 1) xs ++ z ∷ []) (sym e)

module _ {X : Type 0} where
  pub table_count : (xs : List Address) (n : ℕ) (ns : List (OwnedNode X)) (c : List (Nodes X)) → IsTable xs n ns → lines_in (take n xs) (nodes_of ns) ≡ c → n ≡ length c
  table_count xs n ns c w e =
      let long = w.long in let most = w.within in
      sym (took xs n (omega (arith, long, most))) ∙ sym (lines_long (take n xs) (nodes_of ns)) ∙ ap length e

  pub table_with : (xs : List Address) (n : ℕ) (ns more row : List (OwnedNode X)) (h : Address) → IsTable xs n ns → LineAt h.ptr more → n < 64 → row ≡ ns ++ more → AreNullComparable (box_addresses row) → AreDistinct (box_addresses row) → IsTable (set xs n h) (n + 1) row
  table_with xs n ns more row h w l less is a d =
      let long = w.long in record {
        long = set_long xs n h ∙ long;
        within = omega (arith, less);
        lines = subst (λ hs. AreLines hs row) (sym (take_more_set xs n h (omega (arith, long, less)))) (lines_with (take n xs) ns more row h w.lines l is a d);
      }

  pub table_with_shown : (xs : List Address) (n : ℕ) (ns more row : List (OwnedNode X)) (h : Address) (c : List (Nodes X)) (l : Nodes X) → IsTable xs n ns → LineAt h.ptr more → n < 64 → row ≡ ns ++ more → AreNullComparable (box_addresses row) → AreDistinct (box_addresses row)
      → lines_in (take n xs) (nodes_of ns) ≡ c → nodes_of more ≡ l → lines_in (take (n + 1) (set xs n h)) (nodes_of row) ≡ c ++ l ∷ []
  table_with_shown xs n ns more row h c l w m less is a d seen_c seen_l =
      let long = w.long in
      ap (λ hs. lines_in hs (nodes_of row)) (take_more_set xs n h (omega (arith, long, less))) ∙ with_shown (take n xs) ns more row h c l w.lines m is a d seen_c seen_l

  pub table_less : (xs : List Address) (n : ℕ) (h : Address) (ns front back : List (OwnedNode X)) → IsTable xs n ns → 0 < n → h ≡ get_or xs (n - 1) nowhere
      → (front ≡ take (index_of h.ptr (box_addresses ns)) ns) × (back ≡ drop (index_of h.ptr (box_addresses ns)) ns) → Less (take (n - 1) xs) h ns front back
  table_less xs n h ns front back w some e cut =
      let long = w.long in let most = w.within in
      less (take (n - 1) xs) h ns front back (subst (λ hs. AreLines hs ns) (take_last xs n h some (omega (arith, long, most)) e) w.lines) cut

  pub table_less_shown : (xs : List Address) (n : ℕ) (h : Address) (ns front back row : List (OwnedNode X)) (c : List (Nodes X)) → IsTable xs n ns → 0 < n → h ≡ get_or xs (n - 1) nowhere
      → (u : Less (take (n - 1) xs) h ns front back) → lines_in (take n xs) (nodes_of ns) ≡ c → row ≡ front → AreNullComparable (box_addresses row) → AreDistinct (box_addresses row) → c ≡ lines_in (take (n - 1) xs) (nodes_of row) ++ nodes_of back ∷ []
  table_less_shown xs n h ns front back row c w some e u view is a d =
      let long = w.long in let most = w.within in let on = take_last xs n h some (omega (arith, long, most)) e in
      less_shown (take (n - 1) xs) h ns front back row c (subst (λ hs. AreLines hs ns) on w.lines) u (ap (λ hs. lines_in hs (nodes_of ns)) (sym on) ∙ view) is a d

  pub less_table : (xs : List Address) (n : ℕ) (h : Address) (ns front back row : List (OwnedNode X)) → IsTable xs n ns → Less (take (n - 1) xs) h ns front back → row ≡ front → AreNullComparable (box_addresses row) → AreDistinct (box_addresses row) → IsTable xs (n - 1) row
  less_table xs n h ns front back row w u is a d = let most = w.within in record { long = w.long; within = omega (arith, most); lines = record { comparable = a; distinct = d; lines = u.lines; parts = is ∙ u.first; led = u.led } }

  pub less_line : (xs : List Address) (n : ℕ) (h : Address) (ns front back row : List (OwnedNode X)) → Less (take (n - 1) xs) h ns front back → row ≡ back → AreNullComparable (box_addresses row) → IsDoubleLine h.ptr row
  less_line xs n h ns front back row u is a =
      let on = subst (LineAt h.ptr) (sym (is ∙ u.second)) u.here in record { comparable = a; prev = null_ptr; last = on.0; linked = on.1 }
