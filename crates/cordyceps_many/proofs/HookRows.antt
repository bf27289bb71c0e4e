-- What one written hook leaves of a row.
use Rattle.std.proofs.Common.{◌≡◌, ◌≢◌, ℕ, zero, suc, ◌<◌, Bool, true, false, if◌then◌else◌, List, [], ◌∷◌, ◌++◌, length, drop, slice_get, Some, refl, sym, ap, ◌∙◌, subst, arith}
use lib.ListN.{set}
use Rattle.cordyceps_base.specs.declared.boxes.homes.Home.{Home}
use denote.RawPtr.{Ptr}
use Rattle.cordyceps_base.specs.Boxes.{box_addresses, box_values, set_value}
use Rattle.cordyceps_base.specs.Spots.{same_ptr, index_of, IsNew, AreDistinct, IsNullComparable, AreNullComparable}
use Rattle.cordyceps_base.proofs.SpotsMemory.{same_ptr_eq}
use Rattle.cordyceps_many.specs.declared.block.Block.{Block}
use Rattle.cordyceps_many.specs.declared.hook.Hook.{Hook}
use Rattle.cordyceps_many.specs.Threads.{is_in, unlinked, hook_in, AllOff, Wrote}
use Rattle.cordyceps_many.specs.Rows.{Held, block_of, block_element, nodes_of, hook_at, KeepsOthers}
use Rattle.cordyceps_many.proofs.Threads.{split, other_way, in_here, in_there, in_more, not_in}

-- the block with another hook i
abbrev pub with_hook : {X Y A E : Type 0} → Block X Y A E → ℕ → Hook → Block X Y A E
with_hook b i h = record b { hooks = set b.hooks i h }

pub hook_set : (hs : List Hook) (i : ℕ) (h : Hook) → i < length hs → hook_in (set hs i h) i ≡ h
hook_set [] i h l = absurd (omega arith)
hook_set (g ∷ hs) zero h l = refl
hook_set (g ∷ hs) (suc i) h l = hook_set hs i h (omega arith)

pub hook_kept : (hs : List Hook) (i j : ℕ) (h : Hook) → j ≢ i → hook_in (set hs i h) j ≡ hook_in hs j
hook_kept [] i j h n = refl
hook_kept (g ∷ hs) zero zero h n = absurd (n refl)
hook_kept (g ∷ hs) zero (suc j) h n = refl
hook_kept (g ∷ hs) (suc i) zero h n = refl
hook_kept (g ∷ hs) (suc i) (suc j) h n = hook_kept hs i j h (λ e. n (ap suc e))

-- where a spot stands
pub place_of : (s : List Ptr) (p : Ptr) → is_in p s ≡ true → slice_get s (index_of p s) ≡ Some p
place_of [] p e = cc
place_of (q ∷ s) p e = split (same_ptr p q)
    (λ same. ap (λ (b : Bool). slice_get (q ∷ s) (if b then zero else suc (index_of p s))) same ∙ ap Some (sym (same_ptr_eq p q same)))
    (λ other. ap (λ (b : Bool). slice_get (q ∷ s) (if b then zero else suc (index_of p s))) other ∙ place_of s p (sym (in_there p q s other) ∙ e))

new_none : (p : Ptr) (s : List Ptr) → IsNew p s → is_in p s ≡ false
new_none p [] d = refl
new_none p (q ∷ s) d = in_there p q s d.0 ∙ new_none p s d.1

-- a spot that can be reached may be compared with null
pub comparable_at : (s : List Ptr) (p : Ptr) → AreNullComparable s → is_in p s ≡ true → IsNullComparable p
comparable_at [] p a e = absurd cc
comparable_at (q ∷ s) p a e = split (same_ptr p q) (λ same. subst IsNullComparable (sym (same_ptr_eq p q same)) a.0) (λ other. comparable_at s p a.1 (sym (in_there p q s other) ∙ e))

module _ {X Y A E : Type 0} where
  -- ---- reads
  pub found_there : (ns : List (Held X Y A E)) (p : Ptr) → is_in p (box_addresses ns) ≡ true → slice_get (box_addresses (drop (index_of p (box_addresses ns)) ns)) 0 ≡ Some p
  found_there [] p e = cc
  found_there (n ∷ ns) p e = split (same_ptr p n.0)
      (λ same. ap (λ (b : Bool). slice_get (box_addresses (drop (if b then zero else suc (index_of p (box_addresses ns))) (n ∷ ns))) 0) same ∙ ap Some (sym (same_ptr_eq p n.0 same)))
      (λ other. ap (λ (b : Bool). slice_get (box_addresses (drop (if b then zero else suc (index_of p (box_addresses ns))) (n ∷ ns))) 0) other ∙ found_there ns p (sym (in_there p n.0 (box_addresses ns) other) ∙ e))

  pub hook_read : (ns : List (Held X Y A E)) (p : Ptr) (b : Block X Y A E) (j : ℕ) → slice_get (box_values (drop (index_of p (box_addresses ns)) ns)) 0 ≡ Some b → hook_at ns j p ≡ hook_in b.hooks j
  hook_read [] p b j e = cc
  hook_read (n ∷ ns) p b j e = split (same_ptr p n.0)
      (λ same.
      let at : Some (block_of n) ≡ Some b = sym (ap (λ (c : Bool). slice_get (box_values (drop (if c then zero else suc (index_of p (box_addresses ns))) (n ∷ ns))) 0) same) ∙ e in
      let is : block_of n ≡ b = cc in
      ap (λ (c : Bool). if c then hook_in (block_of n).hooks j else hook_at ns j p) same ∙ ap (λ (x : Block X Y A E). hook_in x.hooks j) is)
      (λ other. ap (λ (c : Bool). if c then hook_in (block_of n).hooks j else hook_at ns j p) other ∙ hook_read ns p b j (sym (ap (λ (c : Bool). slice_get (box_values (drop (if c then zero else suc (index_of p (box_addresses ns))) (n ∷ ns))) 0) other) ∙ e))

  pub hook_on : (ns : List (Held X Y A E)) (p : Ptr) (b : Block X Y A E) (j : ℕ) → slice_get (box_values ns) (index_of p (box_addresses ns)) ≡ Some b → hook_at ns j p ≡ hook_in b.hooks j
  hook_on [] p b j e = cc
  hook_on (n ∷ ns) p b j e = split (same_ptr p n.0)
      (λ same.
      let at : Some (block_of n) ≡ Some b = sym (ap (λ (c : Bool). slice_get (box_values (n ∷ ns)) (if c then zero else suc (index_of p (box_addresses ns)))) same) ∙ e in
      let is : block_of n ≡ b = cc in
      ap (λ (c : Bool). if c then hook_in (block_of n).hooks j else hook_at ns j p) same ∙ ap (λ (x : Block X Y A E). hook_in x.hooks j) is)
      (λ other. ap (λ (c : Bool). if c then hook_in (block_of n).hooks j else hook_at ns j p) other ∙ hook_on ns p b j (sym (ap (λ (c : Bool). slice_get (box_values (n ∷ ns)) (if c then zero else suc (index_of p (box_addresses ns)))) other) ∙ e))

  -- a node with a mark is in the row
  pub marked_in : (ns : List (Held X Y A E)) (i : ℕ) (p : Ptr) → (hook_at ns i p).linked ≡ true → is_in p (box_addresses ns) ≡ true
  marked_in [] i p e = absurd cc
  marked_in (n ∷ ns) i p e = split (same_ptr p n.0) (λ same. in_here p n.0 (box_addresses ns) same)
      (λ other. in_there p n.0 (box_addresses ns) other ∙ marked_in ns i p (sym (ap (λ (c : Bool). (if c then hook_in (block_of n).hooks i else hook_at ns i p).linked) other) ∙ e))

  -- ---- a block is written
  at_set : (ns : List (Held X Y A E)) (p : Ptr) (w : Block X Y A E) (j : ℕ) → is_in p (box_addresses ns) ≡ true → hook_at (set_value ns (index_of p (box_addresses ns)) w) j p ≡ hook_in w.hooks j
  at_set [] p w j e = absurd cc
  at_set (n ∷ ns) p w j e = split (same_ptr p n.0)
      (λ same. ap (λ (b : Bool). hook_at (set_value (n ∷ ns) (if b then zero else suc (index_of p (box_addresses ns))) w) j p) same ∙ ap (λ (b : Bool). if b then hook_in w.hooks j else hook_at ns j p) same)
      (λ other. ap (λ (b : Bool). hook_at (set_value (n ∷ ns) (if b then zero else suc (index_of p (box_addresses ns))) w) j p) other ∙ ap (λ (b : Bool). if b then hook_in (block_of n).hooks j else hook_at (set_value ns (index_of p (box_addresses ns)) w) j p) other ∙ at_set ns p w j (sym (in_there p n.0 (box_addresses ns) other) ∙ e))

  at_other : (ns : List (Held X Y A E)) (p q : Ptr) (w : Block X Y A E) (j : ℕ) → same_ptr p q ≡ false → hook_at (set_value ns (index_of p (box_addresses ns)) w) j q ≡ hook_at ns j q
  at_other [] p q w j e = refl
  at_other (n ∷ ns) p q w j e = split (same_ptr p n.0)
      (λ same.
      let o : same_ptr q n.0 ≡ false = subst (λ z. same_ptr q z ≡ false) (same_ptr_eq p n.0 same) (other_way p q e) in
      ap (λ (b : Bool). hook_at (set_value (n ∷ ns) (if b then zero else suc (index_of p (box_addresses ns))) w) j q) same ∙ ap (λ (b : Bool). if b then hook_in w.hooks j else hook_at ns j q) o ∙ sym (ap (λ (b : Bool). if b then hook_in (block_of n).hooks j else hook_at ns j q) o))
      (λ other. ap (λ (b : Bool). hook_at (set_value (n ∷ ns) (if b then zero else suc (index_of p (box_addresses ns))) w) j q) other ∙ ap (λ (r : Hook). if same_ptr q n.0 then hook_in (block_of n).hooks j else r) (at_other ns p q w j e))

  pub addresses_set : (ns : List (Held X Y A E)) (k : ℕ) (w : Block X Y A E) → box_addresses (set_value ns k w) ≡ box_addresses ns
  addresses_set [] k w = refl
  addresses_set (n ∷ ns) zero w = refl
  addresses_set (n ∷ ns) (suc k) w = ap (λ ps. n.0 ∷ ps) (addresses_set ns k w)

  nodes_set : (ns : List (Held X Y A E)) (k : ℕ) (b : Block X Y A E) (hs : List Hook) → slice_get (box_values ns) k ≡ Some b → nodes_of (set_value ns k (record b { hooks = hs })) ≡ nodes_of ns
  nodes_set [] k b hs e = refl
  nodes_set (n ∷ ns) zero b hs e = let is : block_of n ≡ b = cc in ap (λ (x : Block X Y A E). (n.0, block_element x) ∷ nodes_of ns) (sym is)
  nodes_set (n ∷ ns) (suc k) b hs e = ap (λ l. (n.0, block_element (block_of n)) ∷ l) (nodes_set ns k b hs e)

  -- hook i of the node at p is written
  module _ (ns : List (Held X Y A E)) (i : ℕ) (p : Ptr) (b : Block X Y A E) (h : Hook) (there : is_in p (box_addresses ns) ≡ true) (at : slice_get (box_values ns) (index_of p (box_addresses ns)) ≡ Some b) (fits : i < length b.hooks) where
    pub hook_wrote : Wrote (hook_at ns i) p h (hook_at (set_value ns (index_of p (box_addresses ns)) (with_hook b i h)) i)
    hook_wrote = record {
      here = at_set ns p (with_hook b i h) i there ∙ hook_set b.hooks i h fits;
      others = λ q e. at_other ns p q (with_hook b i h) i e;
    }

    pub hook_rest : KeepsOthers i ns (set_value ns (index_of p (box_addresses ns)) (with_hook b i h))
    hook_rest = record {
      addresses = addresses_set ns (index_of p (box_addresses ns)) (with_hook b i h);
      nodes = nodes_set ns (index_of p (box_addresses ns)) b (set b.hooks i h) at;
      hooks = λ j n q. split (same_ptr p q)
          (λ same. subst (λ z. hook_at (set_value ns (index_of p (box_addresses ns)) (with_hook b i h)) j z ≡ hook_at ns j z) (same_ptr_eq p q same) (at_set ns p (with_hook b i h) j there ∙ hook_kept b.hooks i j h n ∙ sym (hook_on ns p b j at)))
          (λ other. at_other ns p q (with_hook b i h) j other);
    }

  -- hook i of the node at p is changed
  pub hook_changed : (ns : List (Held X Y A E)) (i : ℕ) (p : Ptr) (b : Block X Y A E) (k : Hook → Hook) → is_in p (box_addresses ns) ≡ true → slice_get (box_values ns) (index_of p (box_addresses ns)) ≡ Some b → i < length b.hooks → Wrote (hook_at ns i) p (k (hook_at ns i p)) (hook_at (set_value ns (index_of p (box_addresses ns)) (with_hook b i (k (hook_in b.hooks i)))) i)
  hook_changed ns i p b k there at fits =
      subst (λ h. Wrote (hook_at ns i) p (k h) (hook_at (set_value ns (index_of p (box_addresses ns)) (with_hook b i (k (hook_in b.hooks i)))) i)) (sym (hook_on ns p b i at)) (hook_wrote ns i p b (k (hook_in b.hooks i)) there at fits)

  -- ---- several writes
  pub keeps_none : (i : ℕ) (ns : List (Held X Y A E)) → KeepsOthers i ns ns
  keeps_none i ns = record { addresses = refl; nodes = refl; hooks = λ j n q. refl }

  pub keeps_both : (i : ℕ) (ns ms ls : List (Held X Y A E)) → KeepsOthers i ns ms → KeepsOthers i ms ls → KeepsOthers i ns ls
  keeps_both i ns ms ls a b = record { addresses = b.addresses ∙ a.addresses; nodes = b.nodes ∙ a.nodes; hooks = λ j n q. b.hooks j n q ∙ a.hooks j n q }

  -- ---- a row grows
  pub at_joined : (ns ms : List (Held X Y A E)) (i : ℕ) (q : Ptr) → is_in q (box_addresses ns) ≡ true → hook_at (ns ++ ms) i q ≡ hook_at ns i q
  at_joined [] ms i q e = absurd cc
  at_joined (n ∷ ns) ms i q e = split (same_ptr q n.0)
      (λ same. ap (λ (b : Bool). if b then hook_in (block_of n).hooks i else hook_at (ns ++ ms) i q) same ∙ sym (ap (λ (b : Bool). if b then hook_in (block_of n).hooks i else hook_at ns i q) same))
      (λ other. ap (λ (h : Hook). if same_ptr q n.0 then hook_in (block_of n).hooks i else h) (at_joined ns ms i q (sym (in_there q n.0 (box_addresses ns) other) ∙ e)))

  pub other_joined : (ns : List (Held X Y A E)) (p : Ptr) (a : Home) (x : Block X Y A E) (i : ℕ) (q : Ptr) → same_ptr p q ≡ false → hook_at (ns ++ (p, a, x) ∷ []) i q ≡ hook_at ns i q
  other_joined [] p a x i q e = ap (λ (b : Bool). if b then hook_in x.hooks i else unlinked) (other_way p q e)
  other_joined (n ∷ ns) p a x i q e = ap (λ (h : Hook). if same_ptr q n.0 then hook_in (block_of n).hooks i else h) (other_joined ns p a x i q e)

  pub marks_joined : (ns : List (Held X Y A E)) (p : Ptr) (a : Home) (x : Block X Y A E) (i : ℕ) (q : Ptr) → 0 < i → AllOff x.hooks → (hook_at (ns ++ (p, a, x) ∷ []) i q).linked ≡ (hook_at ns i q).linked
  marks_joined [] p a x i q m off = split (same_ptr q p) (λ same. ap (λ (b : Bool). (if b then hook_in x.hooks i else unlinked).linked) same ∙ off i m) (λ other. ap (λ (b : Bool). (if b then hook_in x.hooks i else unlinked).linked) other)
  marks_joined (n ∷ ns) p a x i q m off = split (same_ptr q n.0)
      (λ same. ap (λ (b : Bool). (if b then hook_in (block_of n).hooks i else hook_at (ns ++ (p, a, x) ∷ []) i q).linked) same ∙ sym (ap (λ (b : Bool). (if b then hook_in (block_of n).hooks i else hook_at ns i q).linked) same))
      (λ other. ap (λ (b : Bool). (if b then hook_in (block_of n).hooks i else hook_at (ns ++ (p, a, x) ∷ []) i q).linked) other ∙ marks_joined ns p a x i q m off ∙ sym (ap (λ (b : Bool). (if b then hook_in (block_of n).hooks i else hook_at ns i q).linked) other))

  pub addresses_joined : (ns ms : List (Held X Y A E)) → box_addresses (ns ++ ms) ≡ box_addresses ns ++ box_addresses ms
  addresses_joined [] ms = refl
  addresses_joined (n ∷ ns) ms = ap (λ s. n.0 ∷ s) (addresses_joined ns ms)

  pub nodes_joined : (ns ms : List (Held X Y A E)) → nodes_of (ns ++ ms) ≡ nodes_of ns ++ nodes_of ms
  nodes_joined [] ms = refl
  nodes_joined (n ∷ ns) ms = ap (λ s. (n.0, block_element (block_of n)) ∷ s) (nodes_joined ns ms)

  -- ---- a node is taken out
  pub record Cut (p : Ptr) (ns : List (Held X Y A E)) : Type 0 where
    pub node : Held X Y A E
    pub after : List (Held X Y A E)
    pub back : drop (index_of p (box_addresses ns)) ns ≡ node ∷ after
    pub lies : node.0 ≡ p

  pub cut : (ns : List (Held X Y A E)) (p : Ptr) → is_in p (box_addresses ns) ≡ true → Cut p ns
  cut [] p e = absurd cc
  cut (n ∷ ns) p e = split (same_ptr p n.0)
      (λ same. record { node = n; after = ns; back = ap (λ (b : Bool). drop (if b then zero else suc (index_of p (box_addresses ns))) (n ∷ ns)) same; lies = sym (same_ptr_eq p n.0 same) })
      (λ other. let u = cut ns p (sym (in_there p n.0 (box_addresses ns) other) ∙ e) in record { node = u.node; after = u.after; back = ap (λ (b : Bool). drop (if b then zero else suc (index_of p (box_addresses ns))) (n ∷ ns)) other ∙ u.back; lies = u.lies })

  pub hook_cut : (ns : List (Held X Y A E)) (p : Ptr) (u : Cut p ns) (j : ℕ) → hook_at ns j p ≡ hook_in (block_of u.node).hooks j
  hook_cut ns p u j = hook_read ns p (block_of u.node) j (ap (λ ls. slice_get (box_values ls) 0) u.back)

  pub at_none : (ns : List (Held X Y A E)) (i : ℕ) (q : Ptr) → is_in q (box_addresses ns) ≡ false → hook_at ns i q ≡ unlinked
  at_none [] i q e = refl
  at_none (n ∷ ns) i q e = let m = not_in q n.0 (box_addresses ns) e in ap (λ (b : Bool). if b then hook_in (block_of n).hooks i else hook_at ns i q) m.0 ∙ at_none ns i q m.1

  pub at_left : (xs : List (Held X Y A E)) (n : Held X Y A E) (ys : List (Held X Y A E)) (i : ℕ) (q : Ptr) → same_ptr q n.0 ≡ false → hook_at (xs ++ ys) i q ≡ hook_at (xs ++ n ∷ ys) i q
  at_left [] n ys i q e = sym (ap (λ (b : Bool). if b then hook_in (block_of n).hooks i else hook_at ys i q) e)
  at_left (x ∷ xs) n ys i q e = ap (λ (h : Hook). if same_ptr q x.0 then hook_in (block_of x).hooks i else h) (at_left xs n ys i q e)

  pub in_left : (xs : List (Held X Y A E)) (n : Held X Y A E) (ys : List (Held X Y A E)) (q : Ptr) → is_in q (box_addresses (xs ++ ys)) ≡ true → is_in q (box_addresses (xs ++ n ∷ ys)) ≡ true
  in_left [] n ys q e = in_more q n.0 (box_addresses ys) e
  in_left (x ∷ xs) n ys q e = split (same_ptr q x.0) (λ same. in_here q x.0 (box_addresses (xs ++ n ∷ ys)) same)
      (λ other. in_there q x.0 (box_addresses (xs ++ n ∷ ys)) other ∙ in_left xs n ys q (sym (in_there q x.0 (box_addresses (xs ++ ys)) other) ∙ e))

  new_at : (q : Ptr) (xs : List (Held X Y A E)) (n : Held X Y A E) (ys : List (Held X Y A E)) → IsNew q (box_addresses (xs ++ n ∷ ys)) → same_ptr q n.0 ≡ false
  new_at q [] n ys d = d.0
  new_at q (x ∷ xs) n ys d = new_at q xs n ys d.1

  pub left_new : (xs : List (Held X Y A E)) (n : Held X Y A E) (ys : List (Held X Y A E)) → AreDistinct (box_addresses (xs ++ n ∷ ys)) → is_in n.0 (box_addresses (xs ++ ys)) ≡ false
  left_new [] n ys d = new_none n.0 (box_addresses ys) d.0
  left_new (x ∷ xs) n ys d = in_there n.0 x.0 (box_addresses (xs ++ ys)) (other_way x.0 n.0 (new_at x.0 xs n ys d.0)) ∙ left_new xs n ys d.1

  pub no_nodes : (ns : List (Held X Y A E)) → nodes_of ns ≡ [] → ns ≡ []
  no_nodes [] e = refl
  no_nodes (n ∷ ns) e = absurd cc
