-- What is told of the value of an option, where it is known which it is.
use Rattle.std.proofs.Common.{◌≡◌, Bool, true, false, MatchBool, Option, Some, None, MatchOption, refl, sym, subst}

pub on_some : {X : Type 0} (A : Type 0) (B : X → Type 0) {o : Option X} (x : X) → o ≡ Some x → B x → MatchOption o A B
on_some {X} A B x e b = subst (λ (p : Option X). MatchOption p A B) (sym e) b

pub on_none : {X : Type 0} (A : Type 0) (B : X → Type 0) {o : Option X} → o ≡ None → A → MatchOption o A B
on_none {X} A B e a = subst (λ (p : Option X). MatchOption p A B) (sym e) a

pub on_either : {X A : Type 0} {B : X → Type 0} (o : Option X) → (o ≡ None → A) → ((x : X) → o ≡ Some x → B x) → MatchOption o A B
on_either None none some = none refl
on_either (Some x) none some = some x refl

-- what holds of an option holds of what was written of it
pub written : {X : Type 0} (P : Option X → Type 0) (o : Option X) (answer : Bool) (old new : X)
    → MatchOption o ((answer ≡ false) × (new ≡ old)) (λ it. (answer ≡ true) × (new ≡ it)) → P o → MatchBool answer (P (Some new)) ((new ≡ old) × P None)
written P None answer old new (is_false, same) told = subst (λ b. MatchBool b (P (Some new)) ((new ≡ old) × P None)) (sym is_false) (same, told)
written P (Some it) answer old new (is_true, is) told = subst (λ b. MatchBool b (P (Some new)) ((new ≡ old) × P None)) (sym is_true) (subst (λ x. P (Some x)) (sym is) told)

-- the same, of what was found or not
pub found : {X : Type 0} (N : Type 0) (P : X → Type 0) (o : Option X) (answer : Bool) (new old : X)
    → MatchOption o ((answer ≡ false) × (new ≡ old)) (λ it. (answer ≡ true) × (new ≡ it)) → MatchOption o N P → MatchBool answer (P new) (N × (new ≡ old))
found N P None answer new old (is_false, same) none = subst (λ b. MatchBool b (P new) (N × (new ≡ old))) (sym is_false) (none, same)
found N P (Some it) answer new old (is_true, is) some = subst (λ b. MatchBool b (P new) (N × (new ≡ old))) (sym is_true) (subst P (sym is) some)
