-- What two pushes of one party hand over to another.
use Rattle.std.proofs.Common.{◌≡◌, ℕ, zero, suc, List, [], ◌∷◌, ◌++◌, replicate, reverse, Bool, refl, ap, ◌∙◌, subst}
use Rattle.cordyceps.specs.Parties.Seated.{TableId}
use Rattle.cordyceps.specs.Elements.Element.{Element}
use Rattle.cordyceps.specs.Parties.Acting.{Acts}
use Rattle.cordyceps.specs.Parties.Shares.{Name}
use Rattle.cordyceps.specs.Parties.Standings.{new_party, keeping, giving, name_of, Absorbs}
use Rattle.cordyceps.proofs.Parties.Acting.{acts_none, acts_then, acts_of, acts_alone, acts_both}
use Rattle.cordyceps.proofs.Parties.Interleaving.{only_right}
use Rattle.cordyceps.proofs.Parties.Ordering.{whole_share}
use Rattle.cordyceps.specs.Transfers.History.{Event, Load, Push, held, held_from, Legal, actor}
use Rattle.cordyceps.specs.Transfers.Calls.{PartyOf, PushesAt, Takes}
use Rattle.cordyceps.proofs.Transfers.Histories.{held_from-append}
use Rattle.cordyceps.proofs.Transfers.CallsHold.{takes_held}
use Rattle.cordyceps_uses.specs.declared.job.Job.{Job}

abbrev pub Seat : Type 0
Seat = PartyOf (Element Job)

-- the events of a push, and what is held after it
abbrev tries : ℕ → Name → Element Job → List (Event Name (Element Job))
tries n p e = replicate n (Load p) ++ Push p e ∷ []

held_pushed : (n : ℕ) (p : Name) (e : Element Job) (es : List (Element Job)) → held_from es (tries n p e) ≡ es ++ e ∷ []
held_pushed zero p e es = refl
held_pushed (suc n) p e es = held_pushed n p e es

held_two : (m n : ℕ) (p q : Name) (a b : Element Job) → held (tries m p a ++ tries n q b) ≡ a ∷ b ∷ []
held_two m n p q a b =
    held_from-append [] (tries m p a) (tries n q b) ∙ (ap (λ es. held_from es (tries n q b)) (held_pushed m p a []) ∙ held_pushed n q b (a ∷ []))

-- one party pushed both, and was taken in by the other, which is alone then, and took all
pub came : (id : TableId) (v o p q w x : Seat) (m n : ℕ) (f g : Bool) (a b : Element Job) (batch : List (Element Job)) → v ≡ keeping 4 (new_party id 8)
    → o ≡ giving 4 (new_party id 8) → PushesAt m a f o p → PushesAt n b g p q → Absorbs (λ h. Legal h) v q w → Takes batch w x → batch ≡ b ∷ a ∷ []
came id v o p q w x m n f g a b batch kept given one two met took =
    let new : Seat = new_party id 8 in
    let first = tries m (name_of o) a in
    let second = tries n (name_of p) b in
    let mine = subst (λ (z : Seat). Acts z [] v) kept (acts_none v) in
    let theirs = subst (λ (z : Seat). Acts z (first ++ second) q) given (acts_then o p q first second (acts_of actor (λ h. Legal h) o p first one.0) (acts_of actor (λ h. Legal h) p q second two.0)) in
    let both = acts_both (λ h. Legal h) 4 new v q w [] (first ++ second) whole_share mine theirs met in
    let seen = acts_alone new w both.0 refl both.2 (met.alone both.2.share) ∙ only_right (first ++ second) both.0 both.1 in
    takes_held w x batch both.2.share took ∙ (ap (λ h. reverse (held h)) seen ∙ ap reverse (held_two m n (name_of o) (name_of p) a b))
