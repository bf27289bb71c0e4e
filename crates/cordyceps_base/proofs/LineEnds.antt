-- What a line is read by, and what stays linked where an end of one is written.
use Rattle.std.proofs.Common.{◌≡◌, ℕ, suc, ◌-◌, ◌<◌, Bool, true, false, ◌==◌, T, eqb→eq, [], ◌∷◌, ◌++◌, length, take, drop, slice_get, Some, refl, sym, ap, ◌∙◌, subst, arith, length-append, append_assoc}
use Rattle.std.specs.Bool.{MatchBool}
use denote.RawPtr.{Ptr, null_ptr, Testable, InBlock}
use Rattle.cordyceps_base.specs.declared.boxes.homes.Home.{Home}
use Rattle.cordyceps_base.specs.declared.boxes.Address.{Address}
use Rattle.cordyceps_base.specs.declared.node.Block.{Block}
use Rattle.cordyceps_base.specs.Boxes.{box_addresses, box_values, set_value}
use Rattle.cordyceps_base.specs.DoubleChain.{Segment, next_of}
use Rattle.cordyceps_base.specs.DoubleLines.{IsDoubleLine}
use Rattle.cordyceps_base.specs.Element.{Element}
use Rattle.cordyceps_base.specs.Nodes.{Nodes, block_of, block_element, nodes_of}
use Rattle.cordyceps_base.specs.Spots.{AreNullComparable}
use Rattle.cordyceps_base.proofs.DoubleChain.{with_next, with_prev, first_on, relinked_first}
use Rattle.cordyceps_base.proofs.Nodes.{Row, nodes_of-set, length_is}
use Rattle.cordyceps_base.proofs.Segments.{first_testable, first_one, last_there, last_relinked, shown_relinked}

not_zero : (n : ℕ) → (suc n == 0) ≡ false
not_zero n = (elim (suc n == 0) as (λ z. (suc n == 0) ≡ z → (suc n == 0) ≡ false) [
  | true ↦ λ e. let z : suc n ≡ 0 = eqb→eq (suc n) 0 (subst T (sym e) tt) in absurd (omega (arith, z))
  | false ↦ λ e. e
]) refl

module _ {X : Type 0} where
  pub line_testable : (h : Ptr) (ns : Row X) → IsDoubleLine h ns → Testable h
  line_testable h ns l = first_testable l.prev h ns l.last l.linked l.comparable

  pub line_empty : (h : Ptr) (ns : Row X) (c : Nodes X) (r : Bool) → nodes_of ns ≡ c → IsDoubleLine h ns → MatchBool r (h ≡ null_ptr) (InBlock h) → r ≡ (length c == 0)
  line_empty h [] c false seen l m = absurd (subst InBlock l.linked.0 m)
  line_empty h (n ∷ ns) c false seen l m = subst (λ (s : Nodes X). false ≡ (length s == 0)) seen (sym (not_zero (length (nodes_of ns))))
  line_empty h [] c true seen l m = subst (λ (s : Nodes X). true ≡ (length s == 0)) seen refl
  line_empty h (n ∷ ns) c true seen l m = absurd (subst InBlock (sym l.linked.0.0 ∙ m) l.comparable.0.0)

  pub line_first : (h : Ptr) (ns : Row X) (c : Nodes X) → nodes_of ns ≡ c → IsDoubleLine h ns → 0 < length c → slice_get (box_addresses ns) 0 ≡ Some h
  line_first h ns c seen l some = let long = length_is ns c seen in first_on l.prev h ns l.last null_ptr l.linked (omega (arith, some, long))

  -- ---- the first of a line that is at the front of a row leads back to another
  pub led_there : (p h : Ptr) (l more : Row X) (t : Ptr) → Segment p h l t null_ptr → InBlock h → slice_get (box_addresses (l ++ more)) 0 ≡ Some h
  led_there p h [] more t f b = absurd (subst InBlock f.0 b)
  led_there p h (n ∷ l) more t f b = ap Some (sym f.0.0)

  abbrev pub LedBack : Row X → Row X → Row X → Ptr → Ptr → Type 0
  LedBack r l more h pr = (m : Row X) × (r ≡ m ++ more) × (nodes_of m ≡ nodes_of l) × ((t : Ptr) × Segment pr h m t null_ptr)

  pub led_none : (p h pr : Ptr) (r ns l more : Row X) (t : Ptr) → Segment p h l t null_ptr → AreNullComparable (box_addresses ns) → ns ≡ l ++ more → r ≡ ns → h ≡ null_ptr → LedBack r l more h pr
  led_none p h pr r ns [] more t f a is same none = ([], same ∙ is, refl, (pr, (none, refl)))
  led_none p h pr r ns (n ∷ l) more t f a is same none = let b : InBlock n.0 = (subst (λ ls. AreNullComparable (box_addresses ls)) is a).0.0 in absurd (subst InBlock (sym f.0.0 ∙ none) b)

  set_first : (l more : Row X) (w : Block X) → 0 < length l → set_value (l ++ more) 0 w ≡ set_value l 0 w ++ more
  set_first [] more w some = absurd (omega (arith, some))
  set_first (n ∷ l) more w some = refl

  read_first : (l more : Row X) (b : Block X) → 0 < length l → slice_get (box_values (l ++ more)) 0 ≡ Some b → slice_get (box_values l) 0 ≡ Some b
  read_first [] more b some e = absurd (omega (arith, some))
  read_first (n ∷ l) more b some e = e

  some_first : (p h : Ptr) (l : Row X) (t : Ptr) → Segment p h l t null_ptr → InBlock h → 0 < length l
  some_first p h [] t f b = absurd (subst InBlock f.0 b)
  some_first p h (n ∷ l) t f b = omega arith

  pub led_some : (p h : Ptr) (pr : Address) (r ns l more : Row X) (t : Ptr) (b : Block X) → Segment p h l t null_ptr → ns ≡ l ++ more → slice_get (box_values ns) 0 ≡ Some b → r ≡ set_value ns 0 (with_prev b pr) → InBlock h → LedBack r l more h pr.ptr
  led_some p h pr r ns l more t b f is e same there =
      let some = some_first p h l t f there in
      let e' = read_first l more b some (subst (λ ls. slice_get (box_values ls) 0 ≡ Some b) is e) in (
        set_value l 0 (with_prev b pr),
        same ∙ ap (λ ls. set_value ls 0 (with_prev b pr)) is ∙ set_first l more (with_prev b pr) some,
        nodes_of-set l 0 b (with_prev b pr) e' refl refl,
        (t, relinked_first p h l t null_ptr pr b f e'),
      )

  -- ---- the last of a row leads on to another
  drop_last : (more l : Row X) → 0 < length l → drop (length (more ++ l) - 1) (more ++ l) ≡ drop (length l - 1) l
  drop_last [] l some = refl
  drop_last (x ∷ more) l some =
      let long = length-append more l in let on : length (x ∷ (more ++ l)) - 1 ≡ suc (length (more ++ l) - 1) = omega (arith, some, long) in
      ap (λ k. drop k (x ∷ (more ++ l))) on ∙ drop_last more l some

  take_last : (more l : Row X) → 0 < length l → take (length (more ++ l) - 1) (more ++ l) ≡ more ++ take (length l - 1) l
  take_last [] l some = refl
  take_last (x ∷ more) l some =
      let long = length-append more l in let on : length (x ∷ (more ++ l)) - 1 ≡ suc (length (more ++ l) - 1) = omega (arith, some, long) in
      ap (λ k. take k (x ∷ (more ++ l))) on ∙ ap (λ s. x ∷ s) (take_last more l some)

  pub on_there : (ns more l back : Row X) (p h t q : Ptr) → ns ≡ more ++ l → 0 < length l → Segment p h l t q → back ≡ drop (length ns - 1) ns → slice_get (box_addresses back) 0 ≡ Some t
  on_there ns more l back p h t q is some f e =
      let on : suc (length l - 1) ≡ length l = omega (arith, some) in
      subst (λ ls. slice_get (box_addresses ls) 0 ≡ Some t) (sym (e ∙ ap (λ (ls : Row X). drop (length ls - 1) ls) is ∙ drop_last more l some)) (last_there p h l t q (length l - 1) on f)

  abbrev pub LedOn : Row X → Row X → Row X → Ptr → Ptr → Ptr → Ptr → Type 0
  LedOn r more l p h t nx = (m : Row X) × (r ≡ more ++ m) × (nodes_of m ≡ nodes_of l) × Segment p h m t nx

  pub led_to : (r ns more l front back : Row X) (p h t q : Ptr) (nx : Address) (b : Block X) → ns ≡ more ++ l → 0 < length l → Segment p h l t q
      → (front ≡ take (length ns - 1) ns) × (back ≡ drop (length ns - 1) ns) → slice_get (box_values back) 0 ≡ Some b → r ≡ front ++ set_value back 0 (with_next b nx) → LedOn r more l p h t nx.ptr
  led_to r ns more l front back p h t q nx b is some f (first, last) e same =
      let j = length l - 1 in let on : suc j ≡ length l = omega (arith, some) in
      let fr : front ≡ more ++ take j l = first ∙ ap (λ (ls : Row X). take (length ls - 1) ls) is ∙ take_last more l some in
      let bk : back ≡ drop j l = last ∙ ap (λ (ls : Row X). drop (length ls - 1) ls) is ∙ drop_last more l some in
      let read : slice_get (box_values (drop j l)) 0 ≡ Some b = subst (λ ls. slice_get (box_values ls) 0 ≡ Some b) bk e in
      let m : Row X = take j l ++ set_value (drop j l) 0 (with_next b nx) in (
        m,
        same ∙ (λ i. fr i ++ set_value (bk i) 0 (with_next b nx)) ∙ append_assoc more (take j l) (set_value (drop j l) 0 (with_next b nx)),
        shown_relinked l j b nx read,
        last_relinked p h l t q nx b j on f read,
      )

  -- ---- a line without its first
  pub rest_led : (h : Ptr) (ns rest : Row X) (b : Block X) → IsDoubleLine h ns → 0 < length ns → slice_get (box_values ns) 0 ≡ Some b → rest ≡ drop 1 ns → (t : Ptr) × Segment h (next_of b) rest t null_ptr
  rest_led h [] rest b l some e is = absurd (omega (arith, some))
  rest_led h (n ∷ ns) rest b l some e is =
      let same : block_of n ≡ b = cc in
      (l.last, subst (λ (s : (Ptr × Block X) × Row X). Segment s.0.0 (next_of s.0.1) s.1 l.last null_ptr) (λ i. ((sym l.linked.0.0 i, same i), sym is i)) l.linked.1)

  pub rest_line : (h : Ptr) (ns rest : Row X) (b : Block X) → IsDoubleLine h ns → 0 < length ns → slice_get (box_values ns) 0 ≡ Some b → rest ≡ drop 1 ns → AreNullComparable (box_addresses rest) → IsDoubleLine (next_of b) rest
  rest_line h ns rest b l some e is a = let on = rest_led h ns rest b l some e is in record { comparable = a; prev = h; last = on.0; linked = on.1 }

  pub first_alone : (h : Ptr) (ns one : Row X) → IsDoubleLine h ns → 0 < length ns → one ≡ take 1 ns → (a : Home) × (x : Block X) × (one ≡ (h, a, x) ∷ [])
  first_alone h ns one l some is = let (a, x, e) = first_one l.prev h ns l.last null_ptr some l.linked in (a, x, is ∙ e)

  -- the first node, which is cut off and leads back to another
  first_led : (h : Ptr) (ns : Row X) (b : Block X) → IsDoubleLine h ns → 0 < length ns → slice_get (box_values ns) 0 ≡ Some b → (p : Ptr) × Segment p h (take 1 ns) h (next_of b)
  first_led h [] b l some e = absurd (omega (arith, some))
  first_led h (n ∷ ns) b l some e = let same : block_of n ≡ b = cc in (l.prev, (l.linked.0, (ap (λ (x : Block X). next_of x) same, l.linked.0.0)))

  pub first_relinked : (h : Ptr) (ns one : Row X) (b c : Block X) (pr : Address) → IsDoubleLine h ns → 0 < length ns → slice_get (box_values ns) 0 ≡ Some b → one ≡ take 1 ns → slice_get (box_values one) 0 ≡ Some c
      → Segment pr.ptr h (set_value one 0 (with_prev c pr)) h (next_of b)
  first_relinked h ns one b c pr l some e is r =
      let on = first_led h ns b l some e in relinked_first on.0 h one h (next_of b) pr c (subst (λ ls. Segment on.0 h ls h (next_of b)) (sym is) on.1) r

  -- the parts of what was cut off, as a contract sees them
  pub cut_shown : (h : Ptr) (ns one rest : Row X) (c d : Nodes X) → nodes_of ns ≡ c → IsDoubleLine h ns → 0 < length ns → one ≡ take 1 ns → rest ≡ drop 1 ns → nodes_of rest ≡ d → (e : Element X) × (nodes_of one ≡ (h, e) ∷ []) × (c ≡ (h, e) ∷ d)
  cut_shown h [] one rest c d seen l some f g left = absurd (omega (arith, some))
  cut_shown h (n ∷ ns) one rest c d seen l some f g left =
      let e = block_element (block_of n) in let at : n.0 ≡ h = sym l.linked.0.0 in
      (e, ap nodes_of f ∙ (λ i. (at i, e) ∷ []), sym seen ∙ (λ i. (at i, e) ∷ nodes_of ns) ∙ ap (λ s. (h, e) ∷ s) (ap nodes_of (sym g) ∙ left))

  -- the only node of a line
  pub one_alone : (h : Ptr) (ns : Row X) (c : Nodes X) → nodes_of ns ≡ c → IsDoubleLine h ns → length c ≡ 1 → (a : Home) × (x : Block X) × (ns ≡ (h, a, x) ∷ [])
  one_alone h [] c seen l one = let long = length_is [] c seen in absurd (omega (arith, one, long))
  one_alone h (n ∷ []) c seen l one = (n.1, block_of n, λ i. (sym l.linked.0.0 i, n.1, block_of n) ∷ [])
  one_alone h (n ∷ m ∷ ns) c seen l one = let long = length_is (n ∷ m ∷ ns) c seen in absurd (omega (arith, one, long))

  -- a node that leads to nothing is a line
  pub alone_led : (p : Ptr) (a : Home) (v : Block X) (nx : Address) (b : Block X) (one : Row X) → one ≡ (p, a, v) ∷ [] → slice_get (box_values one) 0 ≡ Some b
      → set_value one 0 (with_next b nx) ≡ (p, a, with_next v nx) ∷ []
  alone_led p a v nx b one e r =
      let r' : slice_get (box_values ((p, a, v) ∷ [])) 0 ≡ Some b = subst (λ ls. slice_get (box_values ls) 0 ≡ Some b) e r in let is : v ≡ b = cc in
      ap (λ ls. set_value ls 0 (with_next b nx)) e ∙ (λ i. (p, a, with_next (sym is i) nx) ∷ [])
