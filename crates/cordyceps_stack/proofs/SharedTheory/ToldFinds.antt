-- What a look says that finds nothing, and what a taking of all says to a party that was told of elements.
use Rattle.std.proofs.Common.{◌≡◌, ◌+◌, List, [], ◌∷◌, ◌++◌, map, length, reverse, Bool, true, false, refl, sym, ap, ◌∙◌, inr, ⊎_elim, subst, arith, append_assoc, length-append, append-nil}
use Rattle.std.proofs.lemmas.List.{reverse-reverse}
use Rattle.cordyceps_shared.specs.Histories.{plain, own, others}
use Rattle.cordyceps_shared.specs.Shares.{Name, first_name}
use Rattle.cordyceps_shared.specs.Standings.{name_of}
use Rattle.cordyceps_shared.proofs.Adding.{adds_then, plain_append, sees_at}
use Rattle.cordyceps_shared.proofs.HistoryMarks.{own_append}
use Rattle.cordyceps_stack.specs.History.{Event, Load, Push, Taken, held, pushes, taken_elements, Legal, actor}
use Rattle.cordyceps_stack.specs.Laws.{EmptyMeansGone, ToldFinds}
use Rattle.cordyceps_stack.specs.Shared.Calls.{PartyOf, Adds, Looks, Takes}
use Rattle.cordyceps_stack.specs.Shared.Receipts.{Learns, TellsOfMore, AllTaken, OthersTook}
use Rattle.cordyceps_stack.proofs.Histories.{held_more, nothing_lost}
use Rattle.cordyceps_stack.proofs.SharedTheory.PartingKeeps.{legal_front}

pub none_mapped : {A B : Type 0} (f : A → B) (xs : List A) → map f xs ≡ [] → xs ≡ []
none_mapped f [] e = refl
none_mapped f (x ∷ xs) e = let no : ⊥ = cc in absurd no

module _ {P E : Type 0} where
  pushes_append : (h k : List (Event P E)) → pushes (h ++ k) ≡ pushes h ++ pushes k
  pushes_append [] k = refl
  pushes_append (Load p ∷ h) k = pushes_append h k
  pushes_append (Push p e ∷ h) k = ap (λ l. e ∷ l) (pushes_append h k)
  pushes_append (Taken p batch ∷ h) k = pushes_append h k

  taken_append : (h k : List (Event P E)) → taken_elements (h ++ k) ≡ taken_elements h ++ taken_elements k
  taken_append [] k = refl
  taken_append (Load p ∷ h) k = taken_append h k
  taken_append (Push p e ∷ h) k = taken_append h k
  taken_append (Taken p batch ∷ h) k = ap (λ l. reverse batch ++ l) (taken_append h k) ∙ sym (append_assoc (reverse batch) (taken_elements h) (taken_elements k))

  -- an event, and those after it, took this many
  taken_first : (x : Event P E) (h : List (Event P E)) → length (taken_elements (x ∷ h)) ≡ length (taken_elements (x ∷ [])) + length (taken_elements h)
  taken_first x h = ap length (taken_append (x ∷ []) h) ∙ length-append (taken_elements (x ∷ [])) (taken_elements h)

  -- the party took some of what was taken, and others took the rest
  taken_by : (xs : List (Bool × Event P E)) → length (taken_elements (plain xs)) ≡ length (taken_elements (own xs)) + length (taken_elements (others xs))
  taken_by [] = refl
  taken_by ((true, x) ∷ xs) = let t = taken_by xs in let a = taken_first x (plain xs) in let b = taken_first x (own xs) in omega arith
  taken_by ((false, x) ∷ xs) = let t = taken_by xs in let a = taken_first x (plain xs) in let b = taken_first x (others xs) in omega arith

module _ {E : Type 0} where
  abbrev LegalHere : List (Event Name E) → Type 0
  LegalHere h = Legal h

  -- ---- where nothing is held
  gone_at_look : (u w : PartyOf E) → Looks true u w → AllTaken (plain u.seen) w
  gone_at_look u w d =
      let g = d.0.0 in
      let ends = d.1 in
      let all : plain w.seen ≡ plain u.seen ++ plain g.rest = ap plain g.is ∙ plain_append u.seen g.rest in
      let none : held (plain w.seen) ≡ [] = ap (λ z. held (plain z)) ends.is ∙ (ap (λ z. held z) (plain_append ends.before ((true, Load (name_of u)) ∷ [])) ∙ (held_more (plain ends.before) (Load (name_of u)) ∙ ends.none.0 refl)) in
      let taken = sym (append-nil (taken_elements (plain w.seen))) ∙ (ap (λ z. taken_elements (plain w.seen) ++ z) (sym none) ∙ nothing_lost (plain w.seen) g.legal) in
      (pushes (plain g.rest), taken ∙ (ap pushes all ∙ pushes_append (plain u.seen) (plain g.rest)))

  -- ---- where all is taken
  pub gone_at_taking : (batch : List E) (u w : PartyOf E) → Takes batch u w → AllTaken (plain u.seen) w
  gone_at_taking batch u w d =
      let n = name_of u in
      let t = sees_at actor LegalHere u w (Taken n batch ∷ []) [] [] (Taken n batch) d.0 refl in
      let past = plain u.seen ++ plain t.front in
      let legal = d.0.0.legal in
      let back : reverse batch ≡ held past = ap reverse (legal past t.later n batch t.all) ∙ reverse-reverse (held past) in
      let legal_past : Legal past = legal_front past (Taken n batch ∷ t.later) (subst (λ z. Legal z) t.all legal) in
      let more = taken_elements t.later in
      let taken : taken_elements (plain w.seen) ≡ pushes past ++ more =
      ap taken_elements t.all ∙ (taken_append past (Taken n batch ∷ t.later) ∙ (ap (λ z. taken_elements past ++ (z ++ more)) back ∙ (sym (append_assoc (taken_elements past) (held past) more) ∙ ap (λ z. z ++ more) (nothing_lost past legal_past)))) in (
        pushes (plain t.front) ++ more,
        taken ∙ (ap (λ z. z ++ more) (pushes_append (plain u.seen) (plain t.front)) ∙ append_assoc (pushes (plain u.seen)) (pushes (plain t.front)) more),
      )

  pub empty_means_gone : EmptyMeansGone E
  empty_means_gone u w d = ⊎_elim (λ looked. gone_at_look u w looked) (λ took. gone_at_taking took.0 u w took.1) d

  -- ---- a party that learned a receipt
  -- all is taken that was pushed by what it was told
  pub told_gone : (h : List (Event Name E)) (u v w : PartyOf E) → Learns h u v → AllTaken (plain v.seen) w → AllTaken h w
  told_gone h u v w l gone =
      let all : pushes (plain v.seen) ≡ pushes h ++ pushes l.told.0 = ap pushes l.told.1 ∙ pushes_append h l.told.0 in
      (pushes l.told.0 ++ gone.0, gone.1 ∙ (ap (λ z. z ++ gone.0) all ∙ append_assoc (pushes h) (pushes l.told.0) gone.0))

  -- where its own events took nothing, others took some
  others_took : (h : List (Event Name E)) (u v w : PartyOf E) (es : List (Event Name E)) → TellsOfMore h u → Learns h u v → Adds v es w → taken_elements es ≡ [] → AllTaken (plain v.seen) w → OthersTook u w
  others_took h u v w es more l a none gone =
      let f = l.adds.0 in
      let g = a.0 in
      let rest = f.rest ++ g.rest in
      let is : w.seen ≡ u.seen ++ rest = g.is ∙ (ap (λ z. z ++ g.rest) f.is ∙ append_assoc u.seen f.rest g.rest) in
      let mine : taken_elements (own rest) ≡ [] = ap taken_elements (own_append f.rest g.rest) ∙ (taken_append (own f.rest) (own g.rest) ∙ ((λ i. taken_elements (f.adds i) ++ taken_elements (g.adds i)) ∙ none)) in
      let all = ap length (ap taken_elements (ap plain is ∙ plain_append u.seen rest) ∙ taken_append (plain u.seen) (plain rest)) ∙ length-append (taken_elements (plain u.seen)) (taken_elements (plain rest)) in
      let parts = taken_by rest in
      let few = ap length mine in
      let told = told_gone h u v w l gone in
      let size = ap length told.1 ∙ length-append (pushes h) told.0 in
      (rest, is, λ nothing. let n = ap length nothing in let no : ⊥ = omega arith in no)

  pub told_finds : ToldFinds E
  told_finds h u v w more l d =
      ⊎_elim
      (λ looked. others_took h u v w (Load (name_of v) ∷ []) more l looked.0 refl (gone_at_look v w looked))
      (λ took. others_took h u v w (Taken (name_of v) [] ∷ []) more l took.0 refl (gone_at_taking [] v w took))
      d

  -- what a party learned, and took, it took from what it was before
  pub takes_told : (h : List (Event Name E)) (batch : List E) (u v w : PartyOf E) → Learns h u v → Takes batch v w → Takes batch u w
  takes_told h batch u v w l d =
      let n : name_of v ≡ name_of u = ap first_name l.adds.0.share in
      let a = adds_then actor LegalHere u v w [] (Taken (name_of v) batch ∷ []) l.adds d.0 in
      (subst (λ (m : Name). Adds u (Taken m batch ∷ []) w) n a, d.1 ∙ ap (λ k. k + length batch) l.rooms)

  -- where nothing comes out, others took some
  pub takes_others : {A : Type 0} (f : E → A) (h : List (Event Name E)) (batch : List E) (u v w : PartyOf E) → TellsOfMore h u → Learns h u v → map f batch ≡ [] → Takes batch v w → OthersTook u w
  takes_others f h batch u v w more l none d = told_finds h u v w more l (inr (subst (λ z. Takes z v w) (none_mapped f batch none) d))
