-- Records that many send and one stores.
use Rattle.std.specs.Prelude.{List, map}
use Rattle.cordyceps.specs.Elements.Element.{Element, Elements}
use Rattle.cordyceps_shared_uses.specs.declared.logger.Producer.{Producer}
use Rattle.cordyceps_shared_uses.specs.declared.logger.Record.{Record}

-- what is logged by a node
abbrev pub record_of : Element Record → Record
record_of e = e.value

-- what each producer sends
abbrev pub records : Elements Producer → List (List Record)
records producers = map (λ e. map record_of e.value.records) producers
