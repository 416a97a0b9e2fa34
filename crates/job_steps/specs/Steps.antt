-- What a continuation answers that is made of a step, from the relation of that step.
use Rattle.std.specs.Prelude.{◌≡◌}
use Rattle.fan_base.specs.declared.outcome.Try.{Try}
use Rattle.fan_base.specs.declared.outcome.Try.TheVariants as try
use Rattle.fan_base.specs.declared.outcome.Fault.{Fault}
use Rattle.fan_base.specs.declared.outcome.Fault.TheVariants as fault
use Rattle.job_steps.specs.declared.cont.Step.{Step}
use Rattle.job_steps.specs.declared.cont.Step.TheVariants as step

-- a value goes to the step, and a fault stays
abbrev pub OnValueSteps : {K T U F : Type 0} → (K → T → Step U F → Type 0) → K → Try T → Step U F → Type 0
OnValueSteps gives k (try.Value value) answer = gives k value answer
OnValueSteps gives k try.Broken answer = answer ≡ step.Now try.Broken
OnValueSteps gives k try.Memory answer = answer ≡ step.Now try.Memory
OnValueSteps gives k (try.Cancelled number) answer = answer ≡ step.Now (try.Cancelled number)

-- a fault goes to the step, and a value stays
abbrev pub OnFaultSteps : {K T F : Type 0} → (K → Fault → Step T F → Type 0) → K → Try T → Step T F → Type 0
OnFaultSteps gives k (try.Value value) answer = answer ≡ step.Now (try.Value value)
OnFaultSteps gives k try.Broken answer = gives k fault.Broken answer
OnFaultSteps gives k try.Memory answer = gives k fault.Memory answer
OnFaultSteps gives k (try.Cancelled number) answer = gives k (fault.Cancelled number) answer
