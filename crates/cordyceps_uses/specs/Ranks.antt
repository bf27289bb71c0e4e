-- Jobs by their ranks.
use Rattle.std.specs.Prelude.{Bool, nat_lt}
use denote.RawPtr.{Ptr}
use Rattle.cordyceps.specs.Elements.Element.{Element}
use Rattle.cordyceps_uses.specs.declared.job.Job.{Job}

-- whether the job of one node has a lower rank than that of another
abbrev pub comes_before : Ptr × Element Job → Ptr × Element Job → Bool
comes_before x y = nat_lt x.1.value.rank y.1.value.rank
