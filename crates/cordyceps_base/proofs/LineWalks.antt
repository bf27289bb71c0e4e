-- A walk over the nodes of a table, line by line: what is left of it at its start, past a line, and past a node.
use Rattle.std.proofs.Common.{◌≡◌, ℕ, zero, suc, ◌+◌, ◌<◌, ◌≤◌, List, [], ◌∷◌, ◌++◌, length, take, drop, slice_get, get_or, Some, refl, sym, ap, ◌∙◌, subst, arith}
use denote.RawPtr.{Ptr, null_ptr, Testable, InBlock}
use Rattle.cordyceps_base.specs.declared.boxes.Address.{Address}
use Rattle.cordyceps_base.specs.declared.node.Block.{Block}
use Rattle.cordyceps_base.specs.Boxes.{box_addresses, box_values}
use Rattle.cordyceps_base.specs.DoubleChain.{Segment, next_of}
use Rattle.cordyceps_base.specs.DoubleLines.{flat, lines_in, Lead, IsLeft, IsTable}
use Rattle.cordyceps_base.specs.Nodes.{Nodes, OwnedNode, block_of, entries, nodes_of}
use Rattle.cordyceps_base.specs.Spots.{AreNullComparable}
use Rattle.cordyceps_base.proofs.DoubleLines.{LineAt}
use Rattle.cordyceps_base.proofs.LineReads.{none}
use Rattle.cordyceps_base.proofs.LineSpots.{flat_lines}
use Rattle.cordyceps_base.proofs.Nodes.{Row}
use Rattle.cordyceps_base.proofs.Segments.{first_testable, none_led, comparable_front}

module _ {X : Type 0} where
  -- the next line of those that an array leads to
  record NextLine (xs : List Address) (n k : ℕ) (ls : List (Row X)) : Type 0 where
    line : Row X
    after : List (Row X)
    parts : ls ≡ line ∷ after
    here : LineAt (get_or xs k none).ptr line
    led : Lead (drop (suc k) (take n xs)) after

  next_line : (xs : List Address) (n k : ℕ) (ls : List (Row X)) → k < n → n ≤ length xs → Lead (drop k (take n xs)) ls
      → NextLine xs n k ls
  next_line [] n k ls p q f = absurd (omega (arith, p, q))
  next_line (x ∷ xs) zero k ls p q f = absurd (omega (arith, p))
  next_line (x ∷ xs) (suc n) zero [] p q f = absurd f
  next_line (x ∷ xs) (suc n) zero (l ∷ ls) p q f = record { line = l; after = ls; parts = refl; here = f.0; led = f.1 }
  next_line (x ∷ xs) (suc n) (suc k) ls p q f =
      let on = next_line xs n k ls (omega (arith, p)) (omega (arith, q)) f in
      record { line = on.line; after = on.after; parts = on.parts; here = on.here; led = on.led }

  no_line : (xs : List Address) (n : ℕ) (ls : List (Row X)) → Lead (drop n (take n xs)) ls → ls ≡ []
  no_line xs zero [] f = refl
  no_line xs zero (l ∷ ls) f = absurd f
  no_line [] (suc n) [] f = refl
  no_line [] (suc n) (l ∷ ls) f = absurd f
  no_line (x ∷ xs) (suc n) ls f = no_line xs n ls f

  -- ---- the start
  pub all_left : (xs : List Address) (n : ℕ) (ns : Row X) → IsTable xs n ns → IsLeft xs n 0 null_ptr ns
  all_left xs n ns w = record {
    long = w.long;
    passed = omega arith;
    within = w.within;
    comparable = w.lines.comparable;
    here = [];
    others = w.lines.lines;
    parts = w.lines.parts;
    prev = null_ptr;
    last = null_ptr;
    linked = (refl, refl);
    led = w.lines.led;
  }

  pub entries_flat : (xs : List Address) (n : ℕ) (ns : Row X) (c : List (Nodes X)) → IsTable xs n ns
      → lines_in (take n xs) (nodes_of ns) ≡ c → entries (nodes_of ns) ≡ entries (flat c)
  entries_flat xs n ns c w e = ap entries (flat_lines (take n xs) ns c w.lines e)

  abbrev AreComparable : Row X → Type 0
  AreComparable ns = AreNullComparable (box_addresses ns)

  module _ {xs : List Address} {count line : ℕ} {at : Ptr} {ns : Row X} (u : IsLeft xs count line at ns) where
    parts_comparable : AreComparable (u.here ++ flat u.others)
    parts_comparable = subst AreComparable u.parts u.comparable

    pub left_testable : Testable at
    left_testable =
        first_testable u.prev at u.here u.last u.linked (comparable_front u.here (flat u.others) parts_comparable)

    passes : at ≡ null_ptr → u.here ≡ []
    passes e =
        none_led u.prev at u.here u.last u.linked (comparable_front u.here (flat u.others) parts_comparable) e

    -- ---- past a line
    pub line_left : at ≡ null_ptr → line < count → IsLeft xs count (line + 1) (get_or xs line none).ptr ns
    line_left e more =
        let long = u.long in let within = u.within in
        let on = next_line xs count line u.others more (omega (arith, long, within)) u.led in
        record {
          long = u.long;
          passed = omega (arith, more);
          within = u.within;
          comparable = u.comparable;
          here = on.line;
          others = on.after;
          parts = u.parts ∙ (λ i. passes e i ++ flat (on.parts i));
          prev = null_ptr;
          last = on.here.0;
          linked = on.here.1;
          led =
              let one : suc line ≡ line + 1 = omega arith in
              subst (λ k. Lead (drop k (take count xs)) on.after) one on.led;
        }

    pub none_left : at ≡ null_ptr → line ≡ count → ns ≡ []
    none_left e end =
        let none = no_line xs count u.others (subst (λ k. Lead (drop k (take count xs)) u.others) end u.led) in
        u.parts ∙ (λ i. passes e i ++ flat (none i))

    -- ---- past a node
    record FirstNode : Type 0 where
      node : OwnedNode X
      rest : Row X
      parts : u.here ≡ node ∷ rest
      lies : node.0 ≡ at

    first_node : InBlock at → FirstNode
    first_node i = there u.here u.linked refl where
      there : (l : Row X) → Segment u.prev at l u.last null_ptr → u.here ≡ l → FirstNode
      there [] f e = absurd (subst InBlock f.0 i)
      there (n ∷ m) f e = record { node = n; rest = m; parts = e; lies = sym f.0.0 }

    whole : (f : FirstNode) → ns ≡ f.node ∷ (f.rest ++ flat u.others)
    whole f = u.parts ∙ ap (λ l. l ++ flat u.others) f.parts

    pub node_there : InBlock at → slice_get (box_addresses ns) 0 ≡ Some at
    node_there i = let f = first_node i in ap (λ ls. slice_get (box_addresses ls) 0) (whole f) ∙ ap Some f.lies

    module _ (i : InBlock at) (b : Block X) (read : slice_get (box_values ns) 0 ≡ Some b) where
      node_is : block_of (first_node i).node ≡ b
      node_is =
          let f = first_node i in
          let there : slice_get (box_values (f.node ∷ (f.rest ++ flat u.others))) 0 ≡ Some b =
          subst (λ ls. slice_get (box_values ls) 0 ≡ Some b) (whole f) read in cc

      module _ (rest : Row X) (e : rest ≡ drop 1 ns) where
        pub node_left : IsLeft xs count line (next_of b) rest
        node_left =
            let f = first_node i in
            let is : rest ≡ f.rest ++ flat u.others = e ∙ ap (drop 1) (whole f) in
            let all = subst AreComparable (whole f) u.comparable in
            let linked = subst (λ l. Segment u.prev at l u.last null_ptr) f.parts u.linked in
            record {
              long = u.long;
              passed = u.passed;
              within = u.within;
              comparable = subst AreComparable (sym is) all.1;
              here = f.rest;
              others = u.others;
              parts = is;
              prev = f.node.0;
              last = u.last;
              linked = subst (λ x. Segment f.node.0 (next_of x) f.rest u.last null_ptr) node_is linked.1;
              led = u.led;
            }

        pub node_shown : entries (nodes_of ns) ≡ (at, b.value) ∷ entries (nodes_of rest)
        node_shown =
            let f = first_node i in
            ap (λ ls. entries (nodes_of ls)) (whole f)
            ∙ (λ j. (f.lies j, (node_is j).value) ∷ entries (nodes_of (f.rest ++ flat u.others)))
            ∙ ap (λ ls. (at, b.value) ∷ entries (nodes_of ls)) (sym (e ∙ ap (drop 1) (whole f)))
