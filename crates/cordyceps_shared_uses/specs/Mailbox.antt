-- Messages that many send and one receives.
use Rattle.std.specs.Prelude.{ℕ, List, map, Vec}
use Rattle.std.specs.Global.{Global}
use Rattle.cordyceps.specs.Elements.Element.{Element}
use Rattle.cordyceps_shared_uses.specs.declared.mailbox.Message.{Message}

-- what is in vectors
abbrev pub contents : {A : Type 0} → List (Vec A Global) → List (List A)
contents lists = map (λ v. v.items) lists

-- what a letter says
abbrev pub value_of : Element Message → ℕ
value_of e = e.value.value
