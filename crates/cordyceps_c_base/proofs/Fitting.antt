-- Tickets that lead to the elements of a collection still do after its calls.
use Rattle.std.proofs.Common.{◌≡◌, ℕ, ◌<◌, ◌≤◌, [], ◌∷◌, length, length-append, slice_index_or, Option, Some, None, sym, ap, ◌∙◌, subst, inl, inr, arith, IsPermutation}
use Rattle.std.proofs.lemmas.List.Sorted.{IsPermutation-sym}
use Rattle.std.proofs.lemmas.Bool.Decides.{eqb_tells}
use Rattle.std.proofs.lemmas.Option.{none-some}
use Rattle.std.specs.Option.{unwrap_or}
use Rattle.slab.specs.Slab.{get, SameValues, Updates}
use denote.RawPtr.{Ptr}
use Rattle.cordyceps_base.specs.Element.{Element}
use Rattle.cordyceps_base.specs.Nodes.{Nodes, spots}
use Rattle.cordyceps_stable.specs.Agreeing.{HasElementAt}
use Rattle.cordyceps_base.specs.BySpot.{HasSpot, IsTaken}
use Rattle.cordyceps_base.specs.Spots.{AreDistinct}
use Rattle.cordyceps_stable.proofs.Holding.{left_is_at, spot_is_at, taken_gone, taken_is_at, taken_or_left}
use Rattle.cordyceps_stable.proofs.Valid.{permuted_is_at}
use Rattle.cordyceps_c_base.specs.declared.tickets.Entry.{Entry}
use Rattle.cordyceps_c_base.specs.declared.tickets.Ticket.{Ticket}
use Rattle.cordyceps_c_base.specs.declared.tickets.Tickets.{Tickets}
use Rattle.cordyceps_c_base.specs.Tickets.{Bears, Fit, IsEnded, IsNext, Leads, NoneBears, Reaches}

entry : {n m : Entry} → Some n ≡ Some m → n ≡ m
entry {n} is = ap (λ (o : Option Entry). unwrap_or o n) is

module _ {X : Type 0} (slot : X → ℕ) where
  -- ---- what a ticket leads to
  pub leads_to : (s : Tickets) (c : Nodes X) (k : Ticket) (p : Ptr) → Fit slot s c → Leads s k p
      → (e : Element X) × HasElementAt c p e × Bears slot s.collection k e
  leads_to s c k p fit (of, at) =
      let r = fit.there k.slot (record { number = k.number; spot = p }) at in
      (r.element, r.lies, record { of = of; slot_is = r.slot_is; number = r.number; given = r.given })

  pub none_bears : (s : Tickets) (c : Nodes X) (k : Ticket) → Fit slot s c → ((p : Ptr) → Leads s k p → ⊥) → NoneBears slot s.collection k c
  none_bears s c k fit none p e lies b =
      let found = fit.found p e lies (subst (λ n. 0 < n) (sym b.number) b.given) in
      none p (b.of, ap (get s.slots) (sym b.slot_is) ∙ found ∙ (λ i. Some (record { number = b.number i; spot = p })))

  -- the element that is taken out by a ticket has it
  pub bears_at : (s : Tickets) (c d : Nodes X) (k : Ticket) (p : Ptr) (e : Element X) → Fit slot s c → AreDistinct (spots c) → IsTaken c p e d → Leads s k p
      → Bears slot s.collection k e
  bears_at s c d k p e fit distinct taken leads =
      let (o, lies, b) = leads_to s c k p fit leads in
      elim (taken_or_left c d p p e o taken lies) as (λ _. Bears slot s.collection k e) [
        | inl (_, is) ↦ subst (Bears slot s.collection k) is b
        | inr on ↦ absurd (taken_gone c d p e distinct taken (spot_is_at d p o on))
      ]

  pub there_is : (s : Tickets) (c : Nodes X) (k : Ticket) (p : Ptr) → Fit slot s c → Leads s k p → HasSpot c p
  there_is s c k p fit leads = let (e, lies, _) = leads_to s c k p fit leads in spot_is_at c p e lies

  -- the same element is there afterwards
  still : (c d : Nodes X) (k : ℕ) (n : Entry) (r : Reaches slot c k n) → HasElementAt d n.spot r.element → Reaches slot d k n
  still c d k n r lies = record { element = r.element; lies = lies; slot_is = r.slot_is; number = r.number; given = r.given }

  -- ---- elements that come in, go out, and are changed or moved
  pub permuted_fits : (s : Tickets) (c d : Nodes X) → IsPermutation c d → Fit slot s c → Fit slot s d
  permuted_fits s c d same fit = record {
    found = λ p e lies. fit.found p e (permuted_is_at d c p e (IsPermutation-sym c d same) lies);
    there = λ k n at. let r = fit.there k n at in still c d k n r (permuted_is_at c d n.spot r.element same r.lies);
    given = fit.given;
  }

  -- none is given
  pub new_fits : (s : Tickets) → s.slots.slots ≡ [] → Fit slot s []
  new_fits s empty = record {
    found = λ p e (front, back, is) pos. absurd (omega (arith, ap length is, length-append front ((p, e) ∷ back)));
    there = λ k n at. absurd (none-some n (sym (ap (λ l. slice_index_or l k None) empty) ∙ at));
    given = λ k n at. absurd (none-some n (sym (ap (λ l. slice_index_or l k None) empty) ∙ at));
  }

  -- each slot has what it had
  pub same_fits : (s t : Tickets) (c : Nodes X) → Fit slot s c → t.given ≡ s.given → SameValues s.slots t.slots → Fit slot t c
  same_fits s t c fit given same = record {
    found = λ p e lies pos. same (slot e.value) ∙ fit.found p e lies pos;
    there = λ k n at. fit.there k n (sym (same k) ∙ at);
    given = λ k n at. subst (λ m. n.number ≤ m) (sym given) (fit.given k n (sym (same k) ∙ at));
  }

  -- one with the next ticket was put in
  pub put_fits : (s t : Tickets) (c d : Nodes X) (p : Ptr) (e : Element X) (k : Ticket) → Fit slot s c → IsNext s k → IsTaken d p e c
      → slot e.value ≡ k.slot → e.id ≡ k.number → t.given ≡ k.number
      → Updates s.slots t.slots k.slot (Some (record { number = k.number; spot = p })) → Fit slot t d
  put_fits s t c d p e k fit next taken slot_is number given up = record {
    found = λ q o lies pos. elim (taken_or_left d c p q e o taken lies) as (λ _. get t.slots (slot o.value) ≡ Some (record { number = o.id; spot = q })) [
      | inl (at, is) ↦
          ap (λ (x : Element X). get t.slots (slot x.value)) is ∙ ap (get t.slots) slot_is ∙ up.changed
          ∙ (λ i. Some (record { number = sym (ap (λ (x : Element X). x.id) is ∙ number) i; spot = sym at i }))
      | inr on ↦
          let was = fit.found q o on pos in
          up.others (slot o.value) (λ same. none-some _ (sym next.vacant ∙ ap (get s.slots) (sym same) ∙ was)) ∙ was
    ];
    there = λ m n at. elim (eqb_tells m k.slot) as (λ _. Reaches slot d m n) [
      | inl (_, same) ↦
          let is = entry (sym up.changed ∙ ap (get t.slots) (sym same) ∙ at) in
          let num : k.number ≡ n.number = ap (λ (x : Entry). x.number) is in let one = next.number in
          record {
            element = e;
            lies = subst (λ r. HasElementAt d r e) (ap (λ (x : Entry). x.spot) is) (taken_is_at d c p e taken);
            slot_is = slot_is ∙ sym same;
            number = number ∙ num;
            given = omega (arith, num, one);
          }
      | inr (_, other) ↦
          let r = fit.there m n (sym (up.others m other) ∙ at) in still c d m n r (left_is_at d c p n.spot e r.element taken r.lies)
    ];
    given = λ m n at. elim (eqb_tells m k.slot) as (λ _. n.number ≤ t.given) [
      | inl (_, same) ↦ let num = ap (λ (x : Entry). x.number) (entry (sym up.changed ∙ ap (get t.slots) (sym same) ∙ at)) in omega (arith, num, given)
      | inr (_, other) ↦ let was = fit.given m n (sym (up.others m other) ∙ at) in let one = next.number in omega (arith, was, one, given)
    ];
  }

  -- one was taken out, and its ticket was ended
  pub taken_fits : (s t : Tickets) (c d : Nodes X) (p : Ptr) (e : Element X) → Fit slot s c → AreDistinct (spots c) → IsTaken c p e d → 0 < e.id
      → t.given ≡ s.given → Updates s.slots t.slots (slot e.value) None → Fit slot t d
  taken_fits s t c d p e fit distinct taken given_one given up = record {
    found = λ q o lies pos.
        let was = fit.found q o (left_is_at c d p q e o taken lies) pos in
        elim (eqb_tells (slot o.value) (slot e.value)) as (λ _. get t.slots (slot o.value) ≡ Some (record { number = o.id; spot = q })) [
          | inl (_, same) ↦
              let is = entry (sym (fit.found p e (taken_is_at c d p e taken) given_one) ∙ ap (get s.slots) (sym same) ∙ was) in
              absurd (taken_gone c d p e distinct taken (subst (HasSpot d) (sym (ap (λ (x : Entry). x.spot) is)) (spot_is_at d q o lies)))
          | inr (_, other) ↦ up.others (slot o.value) other ∙ was
        ];
    there = λ m n at. elim (eqb_tells m (slot e.value)) as (λ _. Reaches slot d m n) [
      | inl (_, same) ↦ absurd (none-some n (sym up.changed ∙ ap (get t.slots) (sym same) ∙ at))
      | inr (_, other) ↦
          let r = fit.there m n (sym (up.others m other) ∙ at) in
          elim (taken_or_left c d p n.spot e r.element taken r.lies) as (λ _. Reaches slot d m n) [
            | inl (_, one) ↦ absurd (other (sym r.slot_is ∙ ap (λ (x : Element X). slot x.value) one))
            | inr on ↦ still c d m n r on
          ]
    ];
    given = λ m n at. elim (eqb_tells m (slot e.value)) as (λ _. n.number ≤ t.given) [
      | inl (_, same) ↦ absurd (none-some n (sym up.changed ∙ ap (get t.slots) (sym same) ∙ at))
      | inr (_, other) ↦ let was = fit.given m n (sym (up.others m other) ∙ at) in omega (arith, was, given)
    ];
  }

  -- one without a ticket was put in, or taken out
  pub put_without : (s : Tickets) (c d : Nodes X) (p : Ptr) (e : Element X) → Fit slot s c → IsTaken d p e c → e.id ≡ 0 → Fit slot s d
  put_without s c d p e fit taken none = record {
    found = λ q o lies pos. elim (taken_or_left d c p q e o taken lies) as (λ _. get s.slots (slot o.value) ≡ Some (record { number = o.id; spot = q })) [
      | inl (_, is) ↦ let no = ap (λ (x : Element X). x.id) is in absurd (omega (arith, no, none, pos))
      | inr on ↦ fit.found q o on pos
    ];
    there = λ m n at. let r = fit.there m n at in still c d m n r (left_is_at d c p n.spot e r.element taken r.lies);
    given = fit.given;
  }

  pub taken_without : (s : Tickets) (c d : Nodes X) (p : Ptr) (e : Element X) → Fit slot s c → IsTaken c p e d → e.id ≡ 0 → Fit slot s d
  taken_without s c d p e fit taken none = record {
    found = λ q o lies pos. fit.found q o (left_is_at c d p q e o taken lies) pos;
    there = λ m n at.
        let r = fit.there m n at in let number = r.number in let pos = r.given in
        elim (taken_or_left c d p n.spot e r.element taken r.lies) as (λ _. Reaches slot d m n) [
          | inl (_, is) ↦ let no = ap (λ (x : Element X). x.id) is in absurd (omega (arith, no, none, number, pos))
          | inr on ↦ still c d m n r on
        ];
    given = fit.given;
  }

  -- one was changed or moved, and kept its ticket
  pub changed_fits : (s : Tickets) (c d rest : Nodes X) (p : Ptr) (e w : Element X) → Fit slot s c → IsTaken c p e rest → IsTaken d p w rest
      → w.id ≡ e.id → slot w.value ≡ slot e.value → Fit slot s d
  changed_fits s c d rest p e w fit was is id_is slot_is = record {
    found = λ q o lies pos. elim (taken_or_left d rest p q w o is lies) as (λ _. get s.slots (slot o.value) ≡ Some (record { number = o.id; spot = q })) [
      | inl (at, one) ↦
          let same : o.id ≡ e.id = ap (λ (x : Element X). x.id) one ∙ id_is in
          ap (λ (x : Element X). get s.slots (slot x.value)) one ∙ ap (get s.slots) slot_is ∙ fit.found p e (taken_is_at c rest p e was) (subst (λ n. 0 < n) same pos)
          ∙ (λ i. Some (record { number = sym same i; spot = sym at i }))
      | inr on ↦ fit.found q o (left_is_at c rest p q e o was on) pos
    ];
    there = λ m n at.
        let r = fit.there m n at in
        elim (taken_or_left c rest p n.spot e r.element was r.lies) as (λ _. Reaches slot d m n) [
          | inl (there, one) ↦ record {
            element = w;
            lies = subst (λ r. HasElementAt d r w) (sym there) (taken_is_at d rest p w is);
            slot_is = slot_is ∙ sym (ap (λ (x : Element X). slot x.value) one) ∙ r.slot_is;
            number = id_is ∙ sym (ap (λ (x : Element X). x.id) one) ∙ r.number;
            given = r.given;
          }
          | inr on ↦ still c d m n r (left_is_at d rest p n.spot w r.element is on)
        ];
    given = fit.given;
  }

  -- one was taken out, and its ticket was ended, if it had one
  pub ended_fits : (s t : Tickets) (c d : Nodes X) (p : Ptr) (e : Element X) → Fit slot s c → AreDistinct (spots c) → IsTaken c p e d
      → IsEnded e.id (slot e.value) s t → Fit slot t d
  ended_fits s t c d p e fit distinct taken ended = elim (eqb_tells e.id 0) as (λ _. Fit slot t d) [
    | inl (_, none) ↦ same_fits s t d (taken_without s c d p e fit taken none) ended.given (ended.kept none)
    | inr (_, some) ↦ let one : 0 < e.id = omega (arith, some) in taken_fits s t c d p e fit distinct taken one ended.given (ended.gone one)
  ]
