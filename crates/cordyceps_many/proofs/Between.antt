-- A node is put in between two parts of a list.
use Rattle.std.proofs.Common.{append_assoc, ◌≡◌, ◌+◌, Bool, true, false, if◌then◌else◌, List, [], ◌∷◌, ◌++◌, refl, sym, ap, ◌∙◌, subst, arith, length-append}
use denote.RawPtr.{Ptr, null_ptr, InBlock}
use Rattle.cordyceps_base.specs.declared.boxes.Address.{Address}
use Rattle.cordyceps_base.specs.Spots.{same_ptr}
use Rattle.cordyceps_base.proofs.SpotsMemory.{same_ptr_eq, same_ptr_refl}
use Rattle.cordyceps_many.specs.declared.hook.Hook.{Hook}
use Rattle.cordyceps_many.specs.declared.hook.Ends.{Ends}
use Rattle.cordyceps_many.specs.Threads.{is_in, with_before, with_after, Once, Chain, IsThread, IsOpen, IsParted, Wrote, IsFollowedBy, IsPrecededBy}
use Rattle.cordyceps_many.proofs.Members.{in_mid, other_mid}
use Rattle.cordyceps_many.proofs.Threads.{split, other_way, in_there, in_append, not_in, not_in_append, differ, Parts, parts, apart, chain_keep, chain_join, chain_front, chain_back, same_but, last_end, last_in, last_where, first_where, front_followed, back_preceded, followed_same, preceded_same, followed_marks, preceded_marks}

-- what is known of the parts of a list in which no spot comes twice
pub record Halves (s t : List Ptr) : Type 0 where
  pub first : Once s
  pub second : Once t
  pub none : (q : Ptr) → is_in q s ≡ true → is_in q t ≡ false

pub halves : (s t : List Ptr) → Once (s ++ t) → Halves s t
halves [] t o = record { first = tt; second = o; none = λ q e. absurd cc }
halves (x ∷ s) t o =
    let r = halves s t o.1 in let n = not_in_append x s t o.0 in
    record {
      first = (n.0, r.first);
      second = r.second;
      none = λ q e. split (same_ptr q x) (λ same. subst (λ z. is_in z t ≡ false) (sym (same_ptr_eq q x same)) n.1) (λ other. r.none q (sym (in_there q x s other) ∙ e));
    }

once_mid : (s t : List Ptr) (a : Ptr) → Once (s ++ t) → is_in a (s ++ t) ≡ false → Once (s ++ a ∷ t)
once_mid [] t a o e = (e, o)
once_mid (x ∷ s) t a o e = let n = not_in a x (s ++ t) e in (other_mid x a s t (other_way a x n.0) ∙ o.0, once_mid s t a o.1 n.1)

module _ (f0 f1 f2 f3 : Ptr → Hook) (e : Ends) (s t : List Ptr) (a prev next first last : Address) (w : IsOpen f0 e (s ++ t) a.ptr) (d : IsParted f0 e s prev.ptr next.ptr t) (solid : (x : Ptr) → is_in x (s ++ t) ≡ true → InBlock x)
    (set : Wrote f0 a.ptr (record { next = next; prev = prev; linked = true }) f1) (on : IsFollowedBy f1 prev.ptr a e.first.ptr f2 first.ptr) (back : IsPrecededBy f2 next.ptr a e.last.ptr f3 last.ptr) where
  abbrev h : Hook
  h = record { next = next; prev = prev; linked = true }

  o : Halves s t
  o = halves s t w.once

  apart_s : is_in a.ptr s ≡ false
  apart_s = (not_in_append a.ptr s t w.away).0

  apart_t : is_in a.ptr t ≡ false
  apart_t = (not_in_append a.ptr s t w.away).1

  solid_s : (x : Ptr) → is_in x s ≡ true → InBlock x
  solid_s x i = solid x (in_append x s t ∙ ap (λ (b : Bool). if b then true else is_in x t) i)

  solid_t : (x : Ptr) → is_in x t ≡ true → InBlock x
  solid_t x i = solid x (in_append x s t ∙ split (is_in x s) (λ yes. ap (λ (b : Bool). if b then true else is_in x t) yes) (λ no. ap (λ (b : Bool). if b then true else is_in x t) no ∙ i))

  front2 : Chain f2 null_ptr first.ptr s prev.ptr a.ptr
  front2 = front_followed f1 f2 e.first.ptr s prev.ptr next.ptr a first.ptr (chain_keep f0 f1 null_ptr e.first.ptr s prev.ptr next.ptr d.front (same_but f0 f1 a.ptr h s set apart_s)) o.first solid_s on

  back2 : Chain f2 prev.ptr next.ptr t e.last.ptr null_ptr
  back2 = chain_keep f1 f2 prev.ptr next.ptr t e.last.ptr null_ptr (chain_keep f0 f1 prev.ptr next.ptr t e.last.ptr null_ptr d.back (same_but f0 f1 a.ptr h t set apart_t))
      (followed_same f1 f2 prev.ptr a e.first.ptr first.ptr t on (λ b. o.none prev.ptr (last_where f0 e.first.ptr s prev.ptr next.ptr d.front b)))

  front3 : Chain f3 null_ptr first.ptr s prev.ptr a.ptr
  front3 = chain_keep f2 f3 null_ptr first.ptr s prev.ptr a.ptr front2 (preceded_same f2 f3 next.ptr a e.last.ptr last.ptr s back
      (λ b. split (is_in next.ptr s) (λ yes. let n = o.none next.ptr yes in let m = first_where f0 prev.ptr next.ptr t e.last.ptr d.back b in absurd cc) (λ no. no)))

  back3 : Chain f3 a.ptr next.ptr t last.ptr null_ptr
  back3 = back_preceded f2 f3 prev.ptr next.ptr t e.last.ptr a last.ptr back2 o.second solid_t back

  kept : f3 a.ptr ≡ h
  kept = (preceded_same f2 f3 next.ptr a e.last.ptr last.ptr (a.ptr ∷ []) back (λ b. in_there next.ptr a.ptr [] (differ next.ptr a.ptr t (first_where f0 prev.ptr next.ptr t e.last.ptr d.back b) apart_t))).0
      ∙ (followed_same f1 f2 prev.ptr a e.first.ptr first.ptr (a.ptr ∷ []) on (λ b. in_there prev.ptr a.ptr [] (differ prev.ptr a.ptr s (last_where f0 e.first.ptr s prev.ptr next.ptr d.front b) apart_s))).0 ∙ set.here

  pub thread_between : IsThread f3 (record { first = first; last = last; len = e.len + 1 }) (s ++ a.ptr ∷ t)
  thread_between = record {
    long = let long = w.long in let l = length-append s (a.ptr ∷ t) in let m = length-append s t in omega (arith, long, l, m);
    once = once_mid s t a.ptr w.once w.away;
    marks = λ q. preceded_marks f2 f3 next.ptr a e.last.ptr last.ptr back q ∙ followed_marks f1 f2 prev.ptr a e.first.ptr first.ptr on q ∙ split (same_ptr a.ptr q)
        (λ same. subst (λ z. (f1 z).linked ≡ is_in z (s ++ a.ptr ∷ t)) (same_ptr_eq a.ptr q same) (ap (λ (k : Hook). k.linked) set.here ∙ sym (in_mid a.ptr s t)))
        (λ other. ap (λ (k : Hook). k.linked) (set.others q other) ∙ w.marks q other ∙ sym (other_mid q a.ptr s t (other_way a.ptr q other)));
    chain = chain_join f3 null_ptr first.ptr s prev.ptr a.ptr (a.ptr ∷ t) last.ptr null_ptr front3 ((refl, ap (λ (k : Hook). k.prev.ptr) kept), subst (λ z. Chain f3 a.ptr z t last.ptr null_ptr) (sym (ap (λ (k : Hook). k.next.ptr) kept)) back3);
  }

-- ---- before a node, and after it
before_at : (q p : Ptr) (s t : List Ptr) → is_in q s ≡ false → with_before q p (s ++ q ∷ t) ≡ s ++ p ∷ q ∷ t
before_at q p [] t e = ap (λ (b : Bool). if b then p ∷ q ∷ t else q ∷ with_before q p t) (same_ptr_refl q)
before_at q p (x ∷ s) t e = let n = not_in q x s e in ap (λ (b : Bool). if b then p ∷ x ∷ (s ++ q ∷ t) else x ∷ with_before q p (s ++ q ∷ t)) n.0 ∙ ap (λ l. x ∷ l) (before_at q p s t n.1)

pub after_at : (q p : Ptr) (s t : List Ptr) → is_in q s ≡ false → with_after q p (s ++ q ∷ t) ≡ s ++ q ∷ p ∷ t
after_at q p [] t e = ap (λ (b : Bool). if b then q ∷ p ∷ t else q ∷ with_after q p t) (same_ptr_refl q)
after_at q p (x ∷ s) t e = let n = not_in q x s e in ap (λ (b : Bool). if b then x ∷ p ∷ (s ++ q ∷ t) else x ∷ with_after q p (s ++ q ∷ t)) n.0 ∙ ap (λ l. x ∷ l) (after_at q p s t n.1)

module _ (f : Ptr → Hook) (e : Ends) (s : List Ptr) (q : Ptr) (once : Once s) (chain : Chain f null_ptr e.first.ptr s e.last.ptr null_ptr) (there : is_in q s ≡ true) where
  abbrev u : Parts q s
  u = parts q s there

  abbrev pub front_of : List Ptr
  front_of = u.front

  abbrev pub back_of : List Ptr
  back_of = u.back

  pub parted : s ≡ front_of ++ q ∷ back_of
  parted = u.whole

  chained : Chain f null_ptr e.first.ptr (u.front ++ q ∷ u.back) e.last.ptr null_ptr
  chained = subst (λ l. Chain f null_ptr e.first.ptr l e.last.ptr null_ptr) u.whole chain

  front0 : Chain f null_ptr e.first.ptr u.front (f q).prev.ptr q
  front0 = chain_front f null_ptr e.first.ptr u.front q u.back e.last.ptr null_ptr chained

  back0 : Chain f q (f q).next.ptr u.back e.last.ptr null_ptr
  back0 = chain_back f null_ptr e.first.ptr u.front q u.back e.last.ptr null_ptr chained

  pub parted_before : IsParted f e front_of (f q).prev.ptr q (q ∷ back_of)
  parted_before = record { front = front0; back = ((refl, refl), back0) }

  pub parted_after : IsParted f e (front_of ++ q ∷ []) q (f q).next.ptr back_of
  parted_after = record { front = chain_join f null_ptr e.first.ptr u.front (f q).prev.ptr q (q ∷ []) q (f q).next.ptr front0 ((refl, refl), (refl, refl)); back = back0 }

  pub joined_after : s ≡ (front_of ++ q ∷ []) ++ back_of
  joined_after = parted ∙ sym (append_assoc u.front (q ∷ []) u.back)

  clear : is_in q u.front ≡ false
  clear = (apart u.front q u.back (subst Once u.whole once)).before

  pub before_is : (p : Ptr) → front_of ++ p ∷ q ∷ back_of ≡ with_before q p s
  before_is p = sym (ap (with_before q p) u.whole ∙ before_at q p u.front u.back clear)

  pub after_is : (p : Ptr) → (front_of ++ q ∷ []) ++ p ∷ back_of ≡ with_after q p s
  after_is p = append_assoc u.front (q ∷ []) (p ∷ u.back) ∙ sym (ap (with_after q p) u.whole ∙ after_at q p u.front u.back clear)

  -- the node before a node
  behind : (front : List Ptr) → s ≡ front ++ q ∷ u.back → Chain f null_ptr e.first.ptr front (f q).prev.ptr q → (InBlock (f q).prev.ptr → (l : List Ptr) × (m : List Ptr) × (s ≡ l ++ (f q).prev.ptr ∷ q ∷ m))
      × ((f q).prev.ptr ≡ null_ptr → ((x : Ptr) → is_in x s ≡ true → InBlock x) → (l : List Ptr) × (s ≡ q ∷ l))
  behind [] is c = (λ b. absurd (subst InBlock c.1 b), λ z solid. (u.back, is))
  behind (y ∷ front) is c = (
    λ b. let (l, end) = last_end f null_ptr e.first.ptr y front (f q).prev.ptr q c in (l, u.back, is ∙ ap (λ k. k ++ q ∷ u.back) end ∙ append_assoc l ((f q).prev.ptr ∷ []) (q ∷ u.back)),
    λ z solid.
        let m : is_in (f q).prev.ptr s ≡ true = ap (is_in (f q).prev.ptr) is ∙ in_append (f q).prev.ptr (y ∷ front) (q ∷ u.back) ∙ ap (λ (b : Bool). if b then true else is_in (f q).prev.ptr (q ∷ u.back)) (last_in f null_ptr e.first.ptr y front (f q).prev.ptr q c) in
        absurd (subst InBlock z (solid (f q).prev.ptr m)),
  )

  pub prev_is : (InBlock (f q).prev.ptr → (l : List Ptr) × (m : List Ptr) × (s ≡ l ++ (f q).prev.ptr ∷ q ∷ m)) × ((f q).prev.ptr ≡ null_ptr → ((x : Ptr) → is_in x s ≡ true → InBlock x) → (l : List Ptr) × (s ≡ q ∷ l))
  prev_is = behind u.front u.whole front0
