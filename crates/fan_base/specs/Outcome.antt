use Rattle.std.specs.Prelude.{Option, Some, None}
use Rattle.fan_base.specs.declared.outcome.Try.{Try}
use Rattle.fan_base.specs.declared.outcome.Try.TheVariants as try
use Rattle.fan_base.specs.declared.outcome.Fault.{Fault}
use Rattle.fan_base.specs.declared.outcome.Fault.TheVariants as fault

-- why an outcome has no value: None exactly where it has one
abbrev pub fault_of : {T : Type 0} → Try T → Option Fault
fault_of (try.Value _) = None
fault_of try.Broken = Some fault.Broken
fault_of try.Memory = Some fault.Memory
fault_of (try.Cancelled n) = Some (fault.Cancelled n)
