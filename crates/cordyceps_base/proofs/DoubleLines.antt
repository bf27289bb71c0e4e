-- The lines of a table: where they begin among all nodes, and what is left of them where one is added or taken out.
use Rattle.std.proofs.Common.{◌≡◌, ℕ, zero, suc, Bool, true, false, if◌then◌else◌, List, [], ◌∷◌, ◌++◌, length, take, drop, slice_get, Some, map, refl, sym, ap, ◌∙◌, subst, append_assoc}
use Rattle.std.proofs.lemmas.List.{append-nil}
use denote.RawPtr.{Ptr, block_ptr, null_ptr, InBlock}
use Rattle.cordyceps_base.specs.declared.boxes.Address.{Address}
use Rattle.cordyceps_base.specs.Boxes.{box_addresses}
use Rattle.cordyceps_base.specs.DoubleChain.{Segment}
use Rattle.cordyceps_base.specs.DoubleLines.{flat, begins, lines_in, Lead}
use Rattle.cordyceps_base.specs.Element.{Element}
use Rattle.cordyceps_base.specs.Nodes.{Nodes, spots, OwnedNode, nodes_of}
use Rattle.cordyceps_base.specs.Spots.{same_ptr, index_of, IsNew, AreDistinct, AreNullComparable}
use Rattle.cordyceps_base.proofs.Nodes.{nodes_of-append, spots-nodes_of}
use Rattle.cordyceps_base.proofs.SpotsMemory.{same_ptr_eq, same_ptr_refl}

-- ---- pointers of a list without doubles
pub other_way : (p q : Ptr) → same_ptr p q ≡ false → same_ptr q p ≡ false
other_way p q e = (elim (same_ptr q p) as (λ z. same_ptr q p ≡ z → same_ptr q p ≡ false) [
  | true ↦ λ t. let is : q ≡ p = same_ptr_eq q p t in let yes : same_ptr p q ≡ true = subst (λ r. same_ptr p r ≡ true) (sym is) (same_ptr_refl p) in absurd cc
  | false ↦ λ f. f
]) refl

pub flat_with : {A : Type 0} (ls : List (List A)) (l : List A) → flat (ls ++ l ∷ []) ≡ flat ls ++ l
flat_with [] l = append-nil l
flat_with (m ∷ ls) l = ap (λ s. m ++ s) (flat_with ls l) ∙ sym (append_assoc m (flat ls) l)

pub flat-append : {A : Type 0} (ls ms : List (List A)) → flat (ls ++ ms) ≡ flat ls ++ flat ms
flat-append [] ms = refl
flat-append (l ∷ ls) ms = ap (λ s. l ++ s) (flat-append ls ms) ∙ sym (append_assoc l (flat ls) (flat ms))

pub take_past : {A : Type 0} (xs ys : List A) → take (length xs) (xs ++ ys) ≡ xs
take_past [] ys = refl
take_past (x ∷ xs) ys = ap (λ s. x ∷ s) (take_past xs ys)

pub drop_past : {A : Type 0} (xs ys : List A) → drop (length xs) (xs ++ ys) ≡ ys
drop_past [] ys = refl
drop_past (x ∷ xs) ys = drop_past xs ys

abbrev Begins : Ptr → List Address → List Ptr → ℕ
Begins p hs ps = elim p [ block_ptr b o ↦ index_of (block_ptr b o) ps | null_ptr ↦ begins hs ps ]

begins_here : (p : Ptr) (hs : List Address) (ps : List Ptr) → InBlock p → Begins p hs ps ≡ index_of p ps
begins_here (block_ptr b o) hs ps i = refl
begins_here null_ptr hs ps i = absurd i

module _ {X : Type 0} where
  abbrev pub InBlocks : Nodes X → Type 0
  InBlocks [] = Unit {0}
  InBlocks (n ∷ c) = InBlock n.0 × InBlocks c

  pub blocks_back : (l c : Nodes X) → InBlocks (l ++ c) → InBlocks c
  blocks_back [] c b = b
  blocks_back (n ∷ l) c b = blocks_back l c b.1

  pub distinct_back : (l c : Nodes X) → AreDistinct (spots (l ++ c)) → AreDistinct (spots c)
  distinct_back [] c d = d
  distinct_back (n ∷ l) c d = distinct_back l c d.1

  new_at : (l c : Nodes X) (n : Ptr × Element X) (p : Ptr) → IsNew p (spots (l ++ n ∷ c)) → same_ptr p n.0 ≡ false
  new_at [] c n p d = d.0
  new_at (m ∷ l) c n p d = new_at l c n p d.1

  pub index_past : (l c : Nodes X) (n : Ptr × Element X) → AreDistinct (spots (l ++ n ∷ c)) → index_of n.0 (spots (l ++ n ∷ c)) ≡ length l
  index_past [] c n d = ap (λ (b : Bool). if b then zero else suc (index_of n.0 (spots c))) (same_ptr_refl n.0)
  index_past (m ∷ l) c n d =
      ap (λ (b : Bool). if b then zero else suc (index_of n.0 (spots (l ++ n ∷ c)))) (other_way m.0 n.0 (new_at l c n m.0 d.0)) ∙ ap suc (index_past l c n d.1)

  -- ---- where the lines begin
  abbrev pub FirstAt : Ptr → Nodes X → Type 0
  FirstAt h [] = h ≡ null_ptr
  FirstAt h (n ∷ c) = h ≡ n.0

  abbrev pub Leads : List Address → List (Nodes X) → Type 0
  Leads [] [] = Unit {0}
  Leads [] (l ∷ ls) = ⊥
  Leads (h ∷ hs) [] = ⊥
  Leads (h ∷ hs) (l ∷ ls) = FirstAt h.ptr l × Leads hs ls

  spots_long : (c : Nodes X) → length (spots c) ≡ length c
  spots_long [] = refl
  spots_long (n ∷ c) = ap suc (spots_long c)

  pub begins_at : (l : Nodes X) (hs : List Address) (ls : List (Nodes X)) → Leads hs ls → InBlocks (flat ls) → AreDistinct (spots (l ++ flat ls)) → begins hs (spots (l ++ flat ls)) ≡ length l
  begins_at l [] [] f b d = spots_long (l ++ []) ∙ ap length (append-nil l)
  begins_at l [] (m ∷ ms) f b d = absurd f
  begins_at l (h ∷ hs) [] f b d = absurd f
  begins_at l (h ∷ hs) ([] ∷ ms) f b d = ap (λ p. Begins p hs (spots (l ++ flat ms))) f.0 ∙ begins_at l hs ms f.1 b d
  begins_at l (h ∷ hs) ((n ∷ m) ∷ ms) f b d =
      let ps = spots (l ++ n ∷ (m ++ flat ms)) in
      ap (λ p. Begins p hs ps) f.0 ∙ begins_here n.0 hs ps b.0 ∙ index_past l (m ++ flat ms) n d

  abbrev Cut : Ptr → List Address → Nodes X → List (Nodes X)
  Cut p hs c = elim p [ block_ptr b o ↦ take (begins hs (spots c)) c ∷ lines_in hs (drop (begins hs (spots c)) c) | null_ptr ↦ [] ∷ lines_in hs c ]

  cut_here : (p : Ptr) (hs : List Address) (c : Nodes X) → InBlock p → Cut p hs c ≡ take (begins hs (spots c)) c ∷ lines_in hs (drop (begins hs (spots c)) c)
  cut_here (block_ptr b o) hs c i = refl
  cut_here null_ptr hs c i = absurd i

  pub lines_are : (hs : List Address) (ls : List (Nodes X)) → Leads hs ls → InBlocks (flat ls) → AreDistinct (spots (flat ls)) → lines_in hs (flat ls) ≡ ls
  lines_are [] [] f b d = refl
  lines_are [] (m ∷ ms) f b d = absurd f
  lines_are (h ∷ hs) [] f b d = absurd f
  lines_are (h ∷ hs) ([] ∷ ms) f b d = ap (λ p. Cut p hs (flat ms)) f.0 ∙ ap (λ r. [] ∷ r) (lines_are hs ms f.1 b d)
  lines_are (h ∷ hs) ((n ∷ m) ∷ ms) f b d =
      let l : Nodes X = n ∷ m in let c = l ++ flat ms in
      let k = begins_at l hs ms f.1 (blocks_back l (flat ms) b) d in
      ap (λ p. Cut p hs c) f.0 ∙ cut_here n.0 hs c b.0 ∙ (λ i. take (k i) c ∷ lines_in hs (drop (k i) c))
      ∙ (λ i. take_past l (flat ms) i ∷ lines_in hs (drop_past l (flat ms) i)) ∙ ap (λ r. l ∷ r) (lines_are hs ms f.1 (blocks_back l (flat ms) b) (distinct_back l (flat ms) d))

  -- ---- rows of nodes
  abbrev pub seen : List (List (OwnedNode X)) → List (Nodes X)
  seen = map (λ l. nodes_of l)

  pub seen_flat : (ls : List (List (OwnedNode X))) → nodes_of (flat ls) ≡ flat (seen ls)
  seen_flat [] = refl
  seen_flat (l ∷ ls) = nodes_of-append l (flat ls) ∙ ap (λ c. nodes_of l ++ c) (seen_flat ls)

  led : (h t : Ptr) (l : List (OwnedNode X)) → Segment null_ptr h l t null_ptr → FirstAt h (nodes_of l)
  led h t [] f = f.0
  led h t (n ∷ l) f = f.0.0

  pub leads_from : (hs : List Address) (ls : List (List (OwnedNode X))) → Lead hs ls → Leads hs (seen ls)
  leads_from [] [] f = tt
  leads_from [] (l ∷ ls) f = absurd f
  leads_from (h ∷ hs) [] f = absurd f
  leads_from (h ∷ hs) (l ∷ ls) f = (led h.ptr f.0.0 l f.0.1, leads_from hs ls f.1)

  pub in_blocks : (ns : List (OwnedNode X)) → AreNullComparable (box_addresses ns) → InBlocks (nodes_of ns)
  in_blocks [] a = tt
  in_blocks (n ∷ ns) a = (a.0.0, in_blocks ns a.1)

  -- what a contract sees of a table with these lines
  pub table_shows : (hs : List Address) (ns : List (OwnedNode X)) (ls : List (List (OwnedNode X))) → ns ≡ flat ls → Lead hs ls → AreNullComparable (box_addresses ns) → AreDistinct (box_addresses ns)
      → lines_in hs (nodes_of ns) ≡ seen ls
  table_shows hs ns ls is f a d =
      let whole : nodes_of ns ≡ flat (seen ls) = ap nodes_of is ∙ seen_flat ls in
      let differ : AreDistinct (spots (flat (seen ls))) = subst AreDistinct (sym (spots-nodes_of ns) ∙ ap spots whole) d in
      ap (λ c. lines_in hs c) whole ∙ lines_are hs (seen ls) (leads_from hs ls f) (subst InBlocks whole (in_blocks ns a)) differ

  -- ---- a line more, and a line less
  abbrev pub LineAt : Ptr → List (OwnedNode X) → Type 0
  LineAt h l = (t : Ptr) × Segment null_ptr h l t null_ptr

  pub lead_with : (hs : List Address) (ls : List (List (OwnedNode X))) (h : Address) (l : List (OwnedNode X)) → Lead hs ls → LineAt h.ptr l → Lead (hs ++ h ∷ []) (ls ++ l ∷ [])
  lead_with [] [] h l f s = (s, tt)
  lead_with [] (m ∷ ls) h l f s = absurd f
  lead_with (g ∷ hs) [] h l f s = absurd f
  lead_with (g ∷ hs) (m ∷ ls) h l f s = (f.0, lead_with hs ls h l f.1 s)

  pub lead_without : (hs : List Address) (h : Address) (ls : List (List (OwnedNode X))) → Lead (hs ++ h ∷ []) ls
      → (ms : List (List (OwnedNode X))) × (l : List (OwnedNode X)) × (ls ≡ ms ++ l ∷ []) × Lead hs ms × LineAt h.ptr l
  lead_without [] h [] f = absurd f
  lead_without [] h (l ∷ []) f = ([], l, refl, tt, f.0)
  lead_without [] h (l ∷ m ∷ ls) f = absurd f.1
  lead_without (g ∷ hs) h [] f = absurd f
  lead_without (g ∷ hs) h (m ∷ ls) f = let (ms, l, parts, led, here) = lead_without hs h ls f.1 in (m ∷ ms, l, ap (λ s. m ∷ s) parts, (f.0, led), here)

  -- ---- line k, and another in its place
  -- all that is known of line k, which h leads to
  pub record LineK (hs : List Address) (ls : List (List (OwnedNode X))) (k : ℕ) (h : Address) : Type 0 where
    pub front : List Address
    pub back : List Address
    pub before : List (List (OwnedNode X))
    pub line : List (OwnedNode X)
    pub after : List (List (OwnedNode X))
    pub firsts : hs ≡ front ++ h ∷ back
    pub lines : ls ≡ before ++ line ∷ after
    pub count : length before ≡ k
    pub ahead : length front ≡ k
    pub first : Lead front before
    pub here : LineAt h.ptr line
    pub last : Lead back after

  pub line_k : (hs : List Address) (ls : List (List (OwnedNode X))) (k : ℕ) (h : Address) → Lead hs ls → slice_get hs k ≡ Some h → LineK hs ls k h
  line_k [] ls k h f e = absurd cc
  line_k (g ∷ hs) [] k h f e = absurd f
  line_k (g ∷ hs) (l ∷ ls) zero h f e =
      let same : g ≡ h = cc in
      record { front = []; back = hs; before = []; line = l; after = ls; firsts = ap (λ x. x ∷ hs) same; lines = refl; count = refl; ahead = refl; first = tt; here = subst (λ (x : Address). LineAt x.ptr l) same f.0; last = f.1 }
  line_k (g ∷ hs) (l ∷ ls) (suc k) h f e =
      let on = line_k hs ls k h f.1 e in
      record { front = g ∷ on.front; back = on.back; before = l ∷ on.before; line = on.line; after = on.after; firsts = ap (λ x. g ∷ x) on.firsts; lines = ap (λ x. l ∷ x) on.lines; count = ap suc on.count; ahead = ap suc on.ahead; first = (f.0, on.first); here = on.here; last = on.last }

  pub lead_between : (front back : List Address) (before after : List (List (OwnedNode X))) (h : Address) (l : List (OwnedNode X)) → Lead front before → LineAt h.ptr l → Lead back after → Lead (front ++ h ∷ back) (before ++ l ∷ after)
  lead_between [] back [] after h l f s g = (s, g)
  lead_between [] back (m ∷ before) after h l f s g = absurd f
  lead_between (x ∷ front) back [] after h l f s g = absurd f
  lead_between (x ∷ front) back (m ∷ before) after h l f s g = (f.0, lead_between front back before after h l f.1 s g)
