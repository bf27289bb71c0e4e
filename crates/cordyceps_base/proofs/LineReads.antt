-- Line k of a table: where it is, what it is read by, and what is left without its first node.
use Rattle.std.proofs.Common.{◌≡◌, ℕ, zero, suc, ◌<◌, ◌≤◌, List, [], ◌∷◌, ◌++◌, length, take, drop, slice_get, get_or, Some, refl, sym, ap, ◌∙◌, subst, arith}
use lib.ListN.{set}
use denote.RawPtr.{Ptr, null_ptr, Testable, InBlock}
use Rattle.cordyceps_base.specs.declared.boxes.Address.{Address}
use Rattle.cordyceps_base.specs.declared.node.Block.{Block}
use Rattle.cordyceps_base.specs.Boxes.{box_addresses, box_values}
use Rattle.cordyceps_base.specs.DoubleChain.{Segment, next_of}
use Rattle.cordyceps_base.specs.DoubleLines.{flat, lines_in, Lead, AreLines, IsFirstOut}
use Rattle.cordyceps_base.specs.Element.{Element, values}
use Rattle.cordyceps_base.specs.Nodes.{Nodes, elements, OwnedNode, block_of, block_element, nodes_of}
use Rattle.cordyceps_base.specs.Spots.{index_of, AreDistinct, AreNullComparable}
use Rattle.cordyceps_base.proofs.DoubleLines.{seen, LineAt, line_k, lead_between, table_shows}
use Rattle.cordyceps_base.proofs.LinePlaces.{cut_parts, flat_between, item_past, seen_around}
use Rattle.cordyceps_base.proofs.Nodes.{Row}
use Rattle.cordyceps_base.proofs.Segments.{first_testable, none_led, comparable_front, comparable_back}

-- an item of an array, of which a part is used
abbrev pub none : Address
none = record { ptr = null_ptr }

pub read_at : (xs : List Address) (n k : ℕ) → k < n → n ≤ length xs → slice_get (take n xs) k ≡ Some (get_or xs k none)
read_at [] n k p q = absurd (omega (arith, p, q))
read_at (x ∷ xs) zero k p q = absurd (omega (arith, p))
read_at (x ∷ xs) (suc n) zero p q = refl
read_at (x ∷ xs) (suc n) (suc k) p q = read_at xs n k (omega (arith, p)) (omega (arith, q))

pub write_at : {A : Type 0} (xs front back : List A) (n k : ℕ) (h w : A) → take n xs ≡ front ++ h ∷ back → length front ≡ k → take n (set xs k w) ≡ front ++ w ∷ back
write_at [] [] back zero k h w e l = absurd cc
write_at [] [] back (suc n) k h w e l = absurd cc
write_at [] (f ∷ front) back zero k h w e l = absurd cc
write_at [] (f ∷ front) back (suc n) k h w e l = absurd cc
write_at (x ∷ xs) [] back zero k h w e l = absurd cc
write_at (x ∷ xs) (f ∷ front) back zero k h w e l = absurd cc
write_at (x ∷ xs) [] back (suc n) zero h w e l = let rest : take n xs ≡ back = cc in ap (λ s. w ∷ s) rest
write_at (x ∷ xs) [] back (suc n) (suc k) h w e l = absurd cc
write_at (x ∷ xs) (f ∷ front) back (suc n) zero h w e l = absurd cc
write_at (x ∷ xs) (f ∷ front) back (suc n) (suc k) h w e l =
    let first : x ≡ f = cc in let rest : take n xs ≡ front ++ h ∷ back = cc in let count : length front ≡ k = cc in
    (λ i. first i ∷ write_at xs front back n k h w rest count i)

module _ {X : Type 0} where
  seen_long : (ls : List (Row X)) → length (seen ls) ≡ length ls
  seen_long [] = refl
  seen_long (l ∷ ls) = ap suc (seen_long ls)

  -- all that is known of line k
  pub record AtLine (hs : List Address) (ns : Row X) (k : ℕ) (h : Address) : Type 0 where
    pub front : List Address
    pub back : List Address
    pub before : List (Row X)
    pub line : Row X
    pub after : List (Row X)
    pub firsts : hs ≡ front ++ h ∷ back
    pub count : length before ≡ k
    pub ahead : length front ≡ k
    pub led_front : Lead front before
    pub here : LineAt h.ptr line
    pub front_preceded_by : Lead back after
    pub whole : ns ≡ flat before ++ (line ++ flat after)
    pub shows : lines_in hs (nodes_of ns) ≡ seen (before ++ line ∷ after)
    pub comparable : AreNullComparable (box_addresses line)

  pub at_line : (hs : List Address) (ns : Row X) (k : ℕ) (h : Address) → AreLines hs ns → slice_get hs k ≡ Some h → AtLine hs ns k h
  at_line hs ns k h w e =
      let u = line_k hs w.lines k h w.led e in
      let whole : ns ≡ flat u.before ++ (u.line ++ flat u.after) = w.parts ∙ ap flat u.lines ∙ flat_between u.before u.after u.line in
      record {
        front = u.front;
        back = u.back;
        before = u.before;
        line = u.line;
        after = u.after;
        firsts = u.firsts;
        count = u.count;
        ahead = u.ahead;
        led_front = u.first;
        here = u.here;
        front_preceded_by = u.last;
        whole = whole;
        shows = table_shows hs ns w.lines w.parts w.led w.comparable w.distinct ∙ ap seen u.lines;
        comparable = comparable_front u.line (flat u.after) (comparable_back (flat u.before) (u.line ++ flat u.after) (subst (λ ls. AreNullComparable (box_addresses ls)) whole w.comparable));
      }

  module _ {hs : List Address} {ns : Row X} {k : ℕ} {h : Address} (u : AtLine hs ns k h) where
    pub at_testable : Testable h.ptr
    at_testable = first_testable null_ptr h.ptr u.line u.here.0 u.here.1 u.comparable

    pub at_shown : (c : List (Nodes X)) → lines_in hs (nodes_of ns) ≡ c → slice_get c k ≡ Some (nodes_of u.line)
    at_shown c e = ap (λ s. slice_get s k) (sym e ∙ u.shows) ∙ ap (λ s. slice_get s k) (seen_around u.before u.after u.line) ∙ item_past (seen u.before) (seen u.after) (nodes_of u.line) k (seen_long u.before ∙ u.count)

    pub at_none : h.ptr ≡ null_ptr → nodes_of u.line ≡ []
    at_none e = ap nodes_of (none_led null_ptr h.ptr u.line u.here.0 u.here.1 u.comparable e)

    -- its first node, where there is one
    pub record FirstOf : Type 0 where
      pub node : OwnedNode X
      pub rest : Row X
      pub parts : u.line ≡ node ∷ rest
      pub at : node.0 ≡ h.ptr

    pub at_some : InBlock h.ptr → FirstOf
    at_some i = some u.line u.here refl where
      some : (l : Row X) → LineAt h.ptr l → u.line ≡ l → FirstOf
      some [] f e = absurd (subst InBlock f.1.0 i)
      some (n ∷ m) f e = record { node = n; rest = m; parts = e; at = sym f.1.0.0 }

    pub at_node : (c : List (Nodes X)) (x : Ptr × Element X) (l : Nodes X) → lines_in hs (nodes_of ns) ≡ c → slice_get c k ≡ Some (x ∷ l) → FirstOf
    at_node c x l e there = some u.line u.here refl where
      some : (r : Row X) → LineAt h.ptr r → u.line ≡ r → FirstOf
      some [] f is = let empty : Some (nodes_of []) ≡ Some (x ∷ l) = ap (λ r. Some (nodes_of r)) (sym is) ∙ sym (at_shown c e) ∙ there in absurd cc
      some (n ∷ m) f is = record { node = n; rest = m; parts = is; at = sym f.1.0.0 }

    module _ (f : FirstOf) where
      pub at_whole : ns ≡ flat u.before ++ f.node ∷ (f.rest ++ flat u.after)
      at_whole = u.whole ∙ ap (λ l. flat u.before ++ (l ++ flat u.after)) f.parts

      pub at_cut : (fr bk : Row X) → AreDistinct (box_addresses ns) → (fr ≡ take (index_of h.ptr (box_addresses ns)) ns) × (bk ≡ drop (index_of h.ptr (box_addresses ns)) ns) → (fr ≡ flat u.before) × (bk ≡ f.node ∷ (f.rest ++ flat u.after))
      at_cut fr bk d cut = cut_parts ns (flat u.before) (f.rest ++ flat u.after) fr bk f.node h.ptr at_whole f.at d cut

      pub at_there : (bk : Row X) → AreDistinct (box_addresses ns) → bk ≡ drop (index_of h.ptr (box_addresses ns)) ns → slice_get (box_addresses bk) 0 ≡ Some h.ptr
      at_there bk d e = ap (λ ls. slice_get (box_addresses ls) 0) (at_cut (take (index_of h.ptr (box_addresses ns)) ns) bk d (refl, e)).1 ∙ ap Some f.at

      pub at_read : (bk : Row X) (b : Block X) → AreDistinct (box_addresses ns) → bk ≡ drop (index_of h.ptr (box_addresses ns)) ns → slice_get (box_values bk) 0 ≡ Some b → block_of f.node ≡ b
      at_read bk b d e r =
          let r' : slice_get (box_values (f.node ∷ (f.rest ++ flat u.after))) 0 ≡ Some b = subst (λ ls. slice_get (box_values ls) 0 ≡ Some b) (at_cut (take (index_of h.ptr (box_addresses ns)) ns) bk d (refl, e)).1 r in cc

      pub at_value : (bk : Row X) (b : Block X) → AreDistinct (box_addresses ns) → bk ≡ drop (index_of h.ptr (box_addresses ns)) ns → slice_get (box_values bk) 0 ≡ Some b → slice_get (values (elements (nodes_of u.line))) 0 ≡ Some b.value
      at_value bk b d e r = ap (λ l. slice_get (values (elements (nodes_of l))) 0) f.parts ∙ ap (λ (x : Block X). Some x.value) (at_read bk b d e r)

      pub at_rest : (t : Ptr) × Segment h.ptr (next_of (block_of f.node)) f.rest t null_ptr
      at_rest = let g : LineAt h.ptr (f.node ∷ f.rest) = subst (LineAt h.ptr) f.parts u.here in (g.0, subst (λ p. Segment p (next_of (block_of f.node)) f.rest g.0 null_ptr) f.at g.1.1)

-- ---- a table whose line k lost its first node
module _ {X : Type 0} (xs : List Address) (n : ℕ) {ns : List (OwnedNode X)} {k : ℕ} {h : Address} (u : AtLine (take n xs) ns k h) (f : FirstOf u) where
  pub out_rest : (bk rest : List (OwnedNode X)) → bk ≡ f.node ∷ (f.rest ++ flat u.after) → rest ≡ drop 1 bk → rest ≡ f.rest ++ flat u.after
  out_rest bk rest is e = e ∙ ap (drop 1) is

  pub out_one : (bk one : List (OwnedNode X)) → bk ≡ f.node ∷ (f.rest ++ flat u.after) → one ≡ take 1 bk → one ≡ (h.ptr, f.node.1, block_of f.node) ∷ []
  out_one bk one is e = e ∙ ap (take 1) is ∙ (λ i. (f.at i, f.node.1, block_of f.node) ∷ [])

  pub out_led : (b : Block X) → block_of f.node ≡ b → (p : Ptr) × (t : Ptr) × Segment p b.links.next.ptr f.rest t null_ptr
  out_led b same = let g = at_rest u f in (h.ptr, g.0, subst (λ (x : Block X). Segment h.ptr (next_of x) f.rest g.0 null_ptr) same g.1)

  module _ (next : Address) (m row : List (OwnedNode X)) (led : LineAt next.ptr m) (is : row ≡ flat u.before ++ (m ++ flat u.after)) (a : AreNullComparable (box_addresses row)) (d : AreDistinct (box_addresses row)) where
    out_lead : Lead (take n (set xs k next)) (u.before ++ m ∷ u.after)
    out_lead = subst (λ hs. Lead hs (u.before ++ m ∷ u.after)) (sym (write_at xs u.front u.back n k h next u.firsts u.ahead)) (lead_between u.front u.back u.before u.after next m u.led_front led u.front_preceded_by)

    out_whole : row ≡ flat (u.before ++ m ∷ u.after)
    out_whole = is ∙ sym (flat_between u.before u.after m)

    pub out_lines : AreLines (take n (set xs k next)) row
    out_lines = record { comparable = a; distinct = d; lines = u.before ++ m ∷ u.after; parts = out_whole; led = out_lead }

    pub out_shown : (c : List (Nodes X)) → lines_in (take n xs) (nodes_of ns) ≡ c → nodes_of m ≡ nodes_of f.rest → IsFirstOut c k h.ptr (block_element (block_of f.node)) (lines_in (take n (set xs k next)) (nodes_of row))
    out_shown c view same = (
      seen u.before,
      seen u.after,
      nodes_of f.rest,
      seen_long u.before ∙ u.count,
      sym view ∙ u.shows ∙ seen_around u.before u.after u.line ∙ (λ i. seen u.before ++ nodes_of (f.parts i) ∷ seen u.after) ∙ (λ i. seen u.before ++ ((f.at i, block_element (block_of f.node)) ∷ nodes_of f.rest) ∷ seen u.after),
      table_shows (take n (set xs k next)) row (u.before ++ m ∷ u.after) out_whole out_lead a d ∙ seen_around u.before u.after m ∙ (λ i. seen u.before ++ same i ∷ seen u.after),
    )
