-- Links through rooms that a step leaves alone.
use Rattle.std.proofs.Common.{◌≡◌, ◌≢◌, ℕ, List, [], ◌∷◌, refl, ap, sym, ◌∙◌, cond}
use Rattle.std.specs.Prelude.{Option, Some, None, slice_get, nat_eq}
use Rattle.cordyceps_shared.specs.declared.room.Room.{Room}
use Rattle.cordyceps_shared.specs.Rooms.{change}
use Rattle.cordyceps_stack.specs.Cores.Stages.{room_in_use, NotAmong, LeadsThrough, room_elements}
use Rattle.cordyceps_shared.proofs.ListWrites.{slice_get-change_other}
use Rattle.std.proofs.lemmas.Bool.{eq-eqb, ne_eqb}

-- the label o at the room r
abbrev pub relabel : (ℕ → Option ℕ) → ℕ → Option ℕ → ℕ → Option ℕ
relabel own r o s = cond (nat_eq s r) o (own s)

abbrev pub or_to : ℕ → Option ℕ → Option ℕ
or_to p None = Some p
or_to p (Some q) = Some q

-- what no party had is p's
abbrev pub all_to : (ℕ → Option ℕ) → ℕ → ℕ → Option ℕ
all_to own p s = or_to p (own s)

pub relabel_here : (own : ℕ → Option ℕ) (r : ℕ) (o : Option ℕ) → relabel own r o r ≡ o
relabel_here own r o = ap (λ b. cond b o (own r)) (eq-eqb r r refl)

relabel_other : (own : ℕ → Option ℕ) (r : ℕ) (o : Option ℕ) (s : ℕ) → s ≢ r → relabel own r o s ≡ own s
relabel_other own r o s n = ap (λ b. cond b o (own s)) (ne_eqb s r n)

module _ {E : Type 0} where
  -- what w uses stays as it is, and is then w's or what v is
  abbrev pub Passes : List (Room E) → (ℕ → Option ℕ) → List (Room E) → (ℕ → Option ℕ) → Option ℕ → Option ℕ → Type 0
  Passes rooms own rooms' own' w v = (r : ℕ) (e : E) (next : Option ℕ) → slice_get rooms r ≡ Some (room_in_use e next) → own r ≡ w → (slice_get rooms' r ≡ Some (room_in_use e next)) × (own' r ≡ v)

  abbrev pub Keeps : List (Room E) → (ℕ → Option ℕ) → List (Room E) → (ℕ → Option ℕ) → Option ℕ → Type 0
  Keeps rooms own rooms' own' w = Passes rooms own rooms' own' w w

  pub LeadsThrough-passed : (rooms : List (Room E)) (own : ℕ → Option ℕ) (rooms' : List (Room E)) (own' : ℕ → Option ℕ) (w v start : Option ℕ) (xs : List (ℕ × E)) → Passes rooms own rooms' own' w v → LeadsThrough rooms own w start xs → LeadsThrough rooms' own' v start xs
  LeadsThrough-passed rooms own rooms' own' w v start [] k l = l
  LeadsThrough-passed rooms own rooms' own' w v start (x ∷ xs) k l =
      let here = k x.0 x.1 l.next l.room l.mine in
      record {
        next = l.next;
        start_is = l.start_is;
        room = here.0;
        mine = here.1;
        apart = l.apart;
        rest = LeadsThrough-passed rooms own rooms' own' w v l.next xs k l.rest;
      }

  -- a room of another is not among these
  pub NoneOf-label : (rooms : List (Room E)) (own : ℕ → Option ℕ) (w start : Option ℕ) (xs : List (ℕ × E)) (r : ℕ)
      → own r ≢ w → LeadsThrough rooms own w start xs → NotAmong r xs
  NoneOf-label rooms own w start [] r n l = tt
  NoneOf-label rooms own w start (x ∷ xs) r n l = (λ e. n (ap own e ∙ l.mine), NoneOf-label rooms own w l.next xs r n l.rest)

  -- a change to a room that is not among these
  pub LeadsThrough-change : (f : Room E → Room E) (rooms : List (Room E)) (own : ℕ → Option ℕ) (w start : Option ℕ) (xs : List (ℕ × E)) (r : ℕ) → NotAmong r xs → LeadsThrough rooms own w start xs → LeadsThrough (change f r rooms) own w start xs
  LeadsThrough-change f rooms own w start [] r n l = l
  LeadsThrough-change f rooms own w start (x ∷ xs) r n l =
      record {
        next = l.next;
        start_is = l.start_is;
        room = slice_get-change_other f rooms r x.0 (λ e. n.0 (sym e)) ∙ l.room;
        mine = l.mine;
        apart = l.apart;
        rest = LeadsThrough-change f rooms own w l.next xs r n.1 l.rest;
      }

  -- a change to a room that none of w uses
  pub Keeps-change : (f : Room E → Room E) (rooms : List (Room E)) (own : ℕ → Option ℕ) (r : ℕ) (w : Option ℕ) → own r ≢ w
      → Keeps rooms own (change f r rooms) own w
  Keeps-change f rooms own r w n s e next got mine = (slice_get-change_other f rooms r s (λ same. n (ap own (sym same) ∙ mine)) ∙ got, mine)

  -- a label at a room that none of w uses
  pub Keeps-relabel : (rooms : List (Room E)) (own : ℕ → Option ℕ) (r : ℕ) (o w : Option ℕ) → own r ≢ w
      → Keeps rooms own rooms (relabel own r o) w
  Keeps-relabel rooms own r o w n s e next got mine = (got, relabel_other own r o s (λ same. n (ap own (sym same) ∙ mine)) ∙ mine)

  pub owner_of : (room : Room E) (e : E) (next : Option ℕ) → Some room ≡ Some (room_in_use e next) → room.owner ≡ None
  owner_of room e next h = let same : room ≡ room_in_use e next = cc in ap (λ (x : Room E). x.owner) same

  -- a free room that comes into use
  pub Keeps-fresh : (f : Room E → Room E) (rooms : List (Room E)) (own : ℕ → Option ℕ) (r : ℕ) (room : Room E) (o w : Option ℕ) (p : ℕ) → slice_get rooms r ≡ Some room → room.owner ≡ Some p → Keeps rooms own (change f r rooms) (relabel own r o) w
  Keeps-fresh f rooms own r room o w p at free s e next got mine =
      let apart : s ≢ r = λ same. let owners : Some room ≡ Some (room_in_use e next) = sym at ∙ (ap (slice_get rooms) (sym same) ∙ got) in let both : room.owner ≡ None = owner_of room e next owners in cc in
      (slice_get-change_other f rooms r s apart ∙ got, relabel_other own r o s apart ∙ mine)

  -- a change to a free room
  pub Keeps-free : (f : Room E → Room E) (rooms : List (Room E)) (own : ℕ → Option ℕ) (r : ℕ) (room : Room E) (w : Option ℕ) (p : ℕ) → slice_get rooms r ≡ Some room → room.owner ≡ Some p → Keeps rooms own (change f r rooms) own w
  Keeps-free f rooms own r room w p at free s e next got mine =
      let apart : s ≢ r = λ same. let owners : Some room ≡ Some (room_in_use e next) = sym at ∙ (ap (slice_get rooms) (sym same) ∙ got) in let both : room.owner ≡ None = owner_of room e next owners in cc in
      (slice_get-change_other f rooms r s apart ∙ got, mine)

  -- links that begin with null, and with a room
  pub LeadsThrough-none : (rooms : List (Room E)) (own : ℕ → Option ℕ) (w : Option ℕ) (xs : List (ℕ × E))
      → LeadsThrough rooms own w None xs → room_elements xs ≡ []
  LeadsThrough-none rooms own w [] l = refl
  LeadsThrough-none rooms own w (x ∷ xs) l = let no : ⊥ = let e = l.start_is in cc in absurd no

  pub LeadsThrough-some : (rooms : List (Room E)) (own : ℕ → Option ℕ) (w : Option ℕ) (r : ℕ) (xs : List (ℕ × E))
      → LeadsThrough rooms own w (Some r) xs → room_elements xs ≢ []
  LeadsThrough-some rooms own w r [] l e = let no : ⊥ = cc in no
  LeadsThrough-some rooms own w r (x ∷ xs) l e = let no : ⊥ = cc in no
