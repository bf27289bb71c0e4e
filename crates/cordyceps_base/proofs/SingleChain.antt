-- What stays linked where single chains are joined, cut and walked along.
use Rattle.std.proofs.Common.{◌≡◌, true, false, ℕ, zero, suc, ◌-◌, ◌<◌, List, [], ◌∷◌, ◌++◌, length, take, drop, slice_get, Option, Some, None, refl, sym, ap, ◌∙◌, subst, arith, lit<, append_assoc}
use Rattle.std.specs.Prelude.{IfSome}
use Rattle.core.specs.Option.{IsSome, is_some, option_or}
use denote.RawPtr.{Ptr, block_ptr, null_ptr, InBlock, Testable}
use Rattle.cordyceps_base.specs.declared.boxes.homes.Home.{Home}
use Rattle.cordyceps_base.specs.declared.boxes.Address.{Address}
use Rattle.cordyceps_base.specs.declared.node.Block.{Block}
use Rattle.cordyceps_base.specs.Boxes.{box_addresses, box_values, set_value}
use Rattle.cordyceps_base.specs.Element.{Element, values as values_of}
use Rattle.cordyceps_base.specs.Nodes.{elements, nodes_of, block_of, block_element, OwnedNode}
use Rattle.cordyceps_base.specs.Spots.{AreNullComparable}
use Rattle.cordyceps_base.specs.SingleChain.{unless_null, next_of, with_next, with_next_of_last, Leads, EndsAfter, EndsAt, IsLed, IsLine, IsFront, IsParted}

pub is_none : (h : Option Address) → is_some h ≡ false → h ≡ None
is_none None e = refl
is_none (Some p) e = cc

pub is_not_none : (h : Option Address) → is_some h ≡ true → ¬ (h ≡ None)
is_not_none None e = λ _. cc
is_not_none (Some p) e = λ n. cc

-- ---- the word that leads to the node after
pub leads_to_null : (p : Ptr) → p ≡ null_ptr → unless_null (record { ptr = p }) ≡ None
leads_to_null null_ptr e = refl
leads_to_null (block_ptr b o) e = cc

pub leads_there : (p : Ptr) → InBlock p → unless_null (record { ptr = p }) ≡ Some (record { ptr = p })
leads_there null_ptr i = absurd i
leads_there (block_ptr b o) i = refl

none_testable : (p : Ptr) → unless_null (record { ptr = p }) ≡ None → Testable p
none_testable null_ptr e = lit< tt
none_testable (block_ptr b o) e = cc

some_is : (p q : Ptr) → unless_null (record { ptr = p }) ≡ Some (record { ptr = q }) → p ≡ q
some_is null_ptr q e = cc
some_is (block_ptr b o) q e = let same : record { ptr = block_ptr b o } ≡ record { ptr = q } = cc in ap (λ (a : Address). a.ptr) same

module _ {X : Type 0} where
  -- ---- the first node
  pub first_at : (h : Option Address) (ns : List (OwnedNode X)) (a : Address) → IsLed h ns → h ≡ Some a → slice_get (box_addresses ns) 0 ≡ Some a.ptr
  first_at h [] a f e = cc
  first_at h (n ∷ ns) a f e = let same : record { ptr = n.0 } ≡ a = cc in ap (λ (p : Address). Some p.ptr) same

  pub no_first : (h : Option Address) (ns : List (OwnedNode X)) → IsLed h ns → h ≡ None → ns ≡ []
  no_first h [] f e = refl
  no_first h (n ∷ ns) f e = cc

  pub some_first : (h : Option Address) (ns : List (OwnedNode X)) → IsLed h ns → 0 < length ns → IsSome h
  some_first h [] f p = absurd (omega arith)
  some_first h (n ∷ ns) f p = subst IsSome (sym f.0) refl

  -- an address that leads to nodes is that of a block, as theirs are
  pub led_somewhere : (h : Option Address) (ns : List (OwnedNode X)) → IsLed h ns → AreNullComparable (box_addresses ns) → IfSome h (λ a. InBlock a.ptr)
  led_somewhere h [] f null_comparable = subst (λ o. IfSome o (λ (a : Address). InBlock a.ptr)) (sym f) tt
  led_somewhere h (n ∷ ns) f null_comparable = subst (λ o. IfSome o (λ (a : Address). InBlock a.ptr)) (sym f.0) null_comparable.0.0

  -- a link that leads to nodes, or nowhere, may be compared with null
  pub link_testable : (a : Address) (ns : List (OwnedNode X)) → IsLed (unless_null a) ns → AreNullComparable (box_addresses ns) → Testable a.ptr
  link_testable a [] f null_comparable = none_testable a.ptr f
  link_testable a (n ∷ ns) f null_comparable = subst Testable (sym (some_is a.ptr n.0 f.0)) null_comparable.0.1

  pub next_testable : (h : Option Address) (ns : List (OwnedNode X)) (w : Block X) → IsLed h ns → AreNullComparable (box_addresses ns) → slice_get (box_values ns) 0 ≡ Some w → Testable w.links.next.ptr
  next_testable h [] w f null_comparable e = cc
  next_testable h (n ∷ ns) w f null_comparable e =
      let same : block_of n ≡ w = cc in subst (λ (x : Block X). Testable x.links.next.ptr) same (link_testable (block_of n).links.next ns f.1 null_comparable.1)

  pub next_testable-cut : (h : Option Address) (ns : List (OwnedNode X)) (w : Block X) → IsLed h ns → AreNullComparable (box_addresses ns) → slice_get (box_values (take 1 ns)) 0 ≡ Some w → Testable w.links.next.ptr
  next_testable-cut h [] w f null_comparable e = cc
  next_testable-cut h (n ∷ ns) w f null_comparable e = next_testable h (n ∷ ns) w f null_comparable e

  -- the address that leads to a first node is that node's
  pub leads_itself : (a : Address) (ns : List (OwnedNode X)) → IsLed (unless_null a) ns → 0 < length ns → unless_null a ≡ Some a
  leads_itself a [] f some = absurd (omega arith)
  leads_itself a (n ∷ ns) f some = f.0 ∙ ap (λ (p : Ptr). Some (record { ptr = p })) (sym (some_is a.ptr n.0 f.0))

  -- nodes that are shown
  pub some_nodes : (ns : List (OwnedNode X)) → (¬ (nodes_of ns ≡ [])) → 0 < length ns
  some_nodes [] not = absurd (not refl)
  some_nodes (n ∷ ns) not = omega arith

  pub first_shown : (ns : List (OwnedNode X)) (w : Block X) → slice_get (box_values (take 1 ns)) 0 ≡ Some w → (x : Ptr × Element X) × (nodes_of ns ≡ x ∷ nodes_of (drop 1 ns)) × (nodes_of (take 1 ns) ≡ x ∷ [])
  first_shown [] w e = cc
  first_shown (n ∷ ns) w e = ((n.0, block_element (block_of n)), refl, refl)

  pub first_row : (h : Option Address) (ns : List (OwnedNode X)) (a : Address) (g : Home) → IsLed h ns → h ≡ Some a → (x : Block X) × (take 1 ns ≡ (a.ptr, g, x) ∷ [])
  first_row h [] a g f e = cc
  first_row h (n ∷ ns) a g f e = let same : record { ptr = n.0 } ≡ a = cc in (block_of n, ap (λ (p : Address). (p.ptr, g, block_of n) ∷ []) same)

  -- ---- the last node
  last_on : (m : OwnedNode X) (ns : List (OwnedNode X)) (t : Ptr) → EndsAfter m.0 ns t → slice_get (box_addresses (drop (length ns) (m ∷ ns))) 0 ≡ Some t
  last_on m [] t f = ap Some (sym f)
  last_on m (n ∷ ns) t f = last_on n ns t f

  pub last_place : (ns : List (OwnedNode X)) (t : Ptr) → EndsAt ns t → 0 < length ns → slice_get (box_addresses (drop (length ns - 1) ns)) 0 ≡ Some t
  last_place [] t f p = absurd (omega arith)
  last_place (m ∷ ns) t f p = let less : length ns ≡ length (m ∷ ns) - 1 = omega arith in subst (λ j. slice_get (box_addresses (drop j (m ∷ ns))) 0 ≡ Some t) less (last_on m ns t f)

  pub item_after : (k : ℕ) (ns : List (OwnedNode X)) → slice_get (values_of (elements (nodes_of (drop k ns)))) 0 ≡ slice_get (values_of (elements (nodes_of ns))) k
  item_after zero ns = refl
  item_after (suc k) [] = refl
  item_after (suc k) (n ∷ ns) = item_after k ns

  -- the only node
  pub single : (t : Ptr) (ns : List (OwnedNode X)) (g : Home) → EndsAt ns t → length (nodes_of ns) ≡ 1 → (x : Block X) × (ns ≡ (t, g, x) ∷ [])
  single t [] g f e = absurd (omega arith)
  single t (n ∷ []) g f e = (block_of n, λ i. (sym f i, g, block_of n) ∷ [])
  single t (n ∷ m ∷ ns) g f e = absurd (omega arith)

  -- ---- another link in the last node
  relink_on : (n : OwnedNode X) (ns : List (OwnedNode X)) (b : Block X) (p : Address) → slice_get (box_values (drop (length ns) (n ∷ ns))) 0 ≡ Some b
      → take (length ns) (n ∷ ns) ++ set_value (drop (length ns) (n ∷ ns)) 0 (with_next b p) ≡ with_next_of_last (n ∷ ns) p
  relink_on n [] b p e = let same : b ≡ block_of n = cc in ap (λ (x : Block X). (n.0, n.1, with_next x p) ∷ []) same
  relink_on n (m ∷ ns) b p e = ap (λ l. n ∷ l) (relink_on m ns b p e)

  pub relink : (ns : List (OwnedNode X)) (b : Block X) (p : Address) → 0 < length ns → slice_get (box_values (drop (length ns - 1) ns)) 0 ≡ Some b
      → take (length ns - 1) ns ++ set_value (drop (length ns - 1) ns) 0 (with_next b p) ≡ with_next_of_last ns p
  relink [] b p some e = absurd (omega arith)
  relink (n ∷ ns) b p some e =
      let less : length (n ∷ ns) - 1 ≡ length ns = omega arith in
      let here = subst (λ j. slice_get (box_values (drop j (n ∷ ns))) 0 ≡ Some b) less e in
      subst (λ j. take j (n ∷ ns) ++ set_value (drop j (n ∷ ns)) 0 (with_next b p) ≡ with_next_of_last (n ∷ ns) p) (sym less) (relink_on n ns b p here)

  pub nodes_of-with_next_of_last : (ns : List (OwnedNode X)) (p : Address) → nodes_of (with_next_of_last ns p) ≡ nodes_of ns
  nodes_of-with_next_of_last [] p = refl
  nodes_of-with_next_of_last (n ∷ []) p = refl
  nodes_of-with_next_of_last (n ∷ m ∷ ns) p = ap (λ l. (n.0, block_element (block_of n)) ∷ l) (nodes_of-with_next_of_last (m ∷ ns) p)

  leads_with_next_of_last : (h z : Option Address) (p : Address) (n : OwnedNode X) (ns : List (OwnedNode X)) → Leads h (n ∷ ns) z → Leads h (with_next_of_last (n ∷ ns) p) (unless_null p)
  leads_with_next_of_last h z p n [] f = (f.0, refl)
  leads_with_next_of_last h z p n (m ∷ ns) f = (f.0, leads_with_next_of_last (next_of (block_of n)) z p m ns f.1)

  -- ---- one row after another
  leads_append : (h z w : Option Address) (xs ys : List (OwnedNode X)) → Leads h xs z → Leads z ys w → Leads h (xs ++ ys) w
  leads_append h z w [] ys f g = subst (λ o. Leads o ys w) (sym f) g
  leads_append h z w (x ∷ xs) ys f g = (f.0, leads_append (next_of (block_of x)) z w xs ys f.1 g)

  ends_append_after : (a : Ptr) (xs : List (OwnedNode X)) (y : OwnedNode X) (ys : List (OwnedNode X)) (t : Ptr) → EndsAfter y.0 ys t → EndsAfter a (xs ++ y ∷ ys) t
  ends_append_after a [] y ys t f = f
  ends_append_after a (x ∷ xs) y ys t f = ends_append_after x.0 xs y ys t f

  ends_append : (xs : List (OwnedNode X)) (y : OwnedNode X) (ys : List (OwnedNode X)) (t : Ptr) → EndsAfter y.0 ys t → EndsAt (xs ++ y ∷ ys) t
  ends_append [] y ys t f = f
  ends_append (x ∷ xs) y ys t f = ends_append_after x.0 xs y ys t f

  ends_back_after : (a : Ptr) (xs : List (OwnedNode X)) (y : OwnedNode X) (ys : List (OwnedNode X)) (t : Ptr) → EndsAfter a (xs ++ y ∷ ys) t → EndsAfter y.0 ys t
  ends_back_after a [] y ys t f = f
  ends_back_after a (x ∷ xs) y ys t f = ends_back_after x.0 xs y ys t f

  ends_back : (xs : List (OwnedNode X)) (y : OwnedNode X) (ys : List (OwnedNode X)) (t : Ptr) → EndsAt (xs ++ y ∷ ys) t → EndsAfter y.0 ys t
  ends_back [] y ys t f = f
  ends_back (x ∷ xs) y ys t f = ends_back_after x.0 xs y ys t f

  pub line_join : (h q : Option Address) (p : Address) (t u : Ptr) (xs ys : List (OwnedNode X)) → unless_null p ≡ q → IsLine h t xs → IsLine q u ys → 0 < length xs → 0 < length ys
      → IsLed h (with_next_of_last xs p ++ ys) × EndsAt (with_next_of_last xs p ++ ys) u
  line_join h q p t u [] ys e f g some more = absurd (omega arith)
  line_join h q p t u (x ∷ xs) [] e f g some more = absurd (omega arith)
  line_join h q p t u (x ∷ xs) (y ∷ ys) e f g some more = (
    leads_append h (unless_null p) None (with_next_of_last (x ∷ xs) p) (y ∷ ys) (leads_with_next_of_last h None p x xs f.led) (subst (λ o. IsLed o (y ∷ ys)) (sym e) g.led),
    ends_append (with_next_of_last (x ∷ xs) p) y ys u g.ends,
  )

  -- ---- a cursor
  front_is_line : (h at : Option Address) (front : List (OwnedNode X)) (rest : List (OwnedNode X)) → IsFront h front at → IsLed at rest → IsLed (option_or h at) (front ++ rest)
  front_is_line h at [] rest f g = subst (λ o. IsLed (option_or o at) rest) (sym f) g
  front_is_line h at (n ∷ ns) rest f g = subst (λ o. IsLed (option_or o at) (n ∷ ns ++ rest)) (sym f.0) (refl, leads_append (next_of (block_of n)) at None ns rest f.1 g)

  pub closed : (h at : Option Address) (b t : Ptr) (front rest : List (OwnedNode X)) → IsParted h b at t front rest → IsLed (option_or h at) (front ++ rest) × EndsAt (front ++ rest) t
  closed h at b t front rest f = (front_is_line h at front rest f.front_led f.rest_led, f.ends)

  front_moved : (h at z : Option Address) (front : List (OwnedNode X)) (n : OwnedNode X) → IsFront h front at → at ≡ Some (record { ptr = n.0 }) → next_of (block_of n) ≡ z → IsFront (option_or h at) (front ++ n ∷ []) z
  front_moved h at z [] n f e g = (ap (λ o. option_or o at) f ∙ e, g)
  front_moved h at z (m ∷ ms) n f e g = subst (λ o. Leads (option_or o at) (m ∷ ms ++ n ∷ []) z) (sym f.0) (refl, leads_append (next_of (block_of m)) at z ms (n ∷ []) f.1 (e, g))

  pub moved_on : (h at : Option Address) (b t : Ptr) (front rest : List (OwnedNode X)) (here : Address) (w : Block X) → IsParted h b at t front rest → at ≡ Some here → slice_get (box_values (take 1 rest)) 0 ≡ Some w
      → IsParted (option_or h at) here.ptr (next_of w) t (front ++ take 1 rest) (drop 1 rest)
  moved_on h at b t front [] here w f e g = cc
  moved_on h at b t front (n ∷ ns) here w f e g =
      let same : block_of n ≡ w = cc in let lies : record { ptr = n.0 } ≡ here = cc in let next = ap (λ (x : Block X). next_of x) same in record {
        front_led = front_moved h at (next_of w) front n f.front_led f.rest_led.0 next;
        front_ends = ends_append front n [] here.ptr (ap (λ (p : Address). p.ptr) (sym lies));
        rest_led = subst (λ o. IsLed o ns) next f.rest_led.1;
        ends = subst (λ l. EndsAt l t) (sym (append_assoc front (n ∷ []) ns)) f.ends;
      }

  -- the last node, with one more in front of the rest
  pub ends_with : (at : Option Address) (t : Ptr) (front some rest : List (OwnedNode X)) (n : OwnedNode X) → IsLed at rest → EndsAt (front ++ rest) t → (¬ (at ≡ None)) → EndsAt (some ++ n ∷ [] ++ rest) t
  ends_with at t front some [] n f g not = absurd (not f)
  ends_with at t front some (m ∷ ms) n f g not = ends_append (some ++ n ∷ []) m ms t (ends_back front m ms t g)

  pub ends_here : (at : Option Address) (some rest : List (OwnedNode X)) (n : OwnedNode X) → IsLed at rest → at ≡ None → EndsAt (some ++ n ∷ [] ++ rest) n.0
  ends_here at some [] n f e = subst (λ l. EndsAt l n.0) (sym (append_assoc some (n ∷ []) [])) (ends_append some n [] n.0 refl)
  ends_here at some (m ∷ ms) n f e = cc

  pub joined_after : (h at : Option Address) (b t u : Ptr) (front rest : List (OwnedNode X)) (n : OwnedNode X) (p : Address) → p.ptr ≡ n.0 → InBlock n.0 → IsParted h b at t front rest → (¬ (h ≡ None)) → next_of (block_of n) ≡ at
      → EndsAt (with_next_of_last front p ++ n ∷ [] ++ rest) u → IsParted h n.0 at u (with_next_of_last front p ++ n ∷ []) rest
  joined_after h at b t u [] rest n p lies there f not next ends = absurd (not f.front_led)
  joined_after h at b t u (m ∷ ms) rest n p lies there f not next ends =
      let leads : unless_null p ≡ Some (record { ptr = n.0 }) = subst (λ (q : Ptr). unless_null (record { ptr = q }) ≡ Some (record { ptr = n.0 })) (sym lies) (leads_there n.0 there) in
      let all = leads_append h (unless_null p) at (with_next_of_last (m ∷ ms) p) (n ∷ []) (leads_with_next_of_last h at p m ms f.front_led) (leads, next) in
      record { front_led = front_of h at (m ∷ ms) p n all; front_ends = ends_append (with_next_of_last (m ∷ ms) p) n [] n.0 refl; rest_led = f.rest_led; ends = ends }
    where
      front_of : (h at : Option Address) (ms : List (OwnedNode X)) (p : Address) (n : OwnedNode X) → Leads h (with_next_of_last ms p ++ n ∷ []) at → IsFront h (with_next_of_last ms p ++ n ∷ []) at
      front_of h at [] p n f = f
      front_of h at (m ∷ []) p n f = f
      front_of h at (m ∷ k ∷ ms) p n f = f
