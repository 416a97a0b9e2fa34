-- The table of a core's states, and their codes.
use Rattle.std.specs.Prelude.{ℕ, Bool, true, false, Option, Some, None}
use Rattle.core_state.specs.declared.table.State.{State}
use Rattle.core_state.specs.declared.table.State.TheVariants.{Start, OnlyResult, OnlyCallback, Proxy, Done, Empty, OnlyCallbackAllowInline}
use Rattle.core_state.specs.declared.table.Act.{Act}
use Rattle.core_state.specs.declared.table.Act.TheVariants.{SetResult, SetProxy, SetCallback, SetCallbackInline}

-- the state after an act; None where the diagram has no arrow
abbrev pub state_after : State → Act → Option State
state_after Start SetResult = Some OnlyResult
state_after Start SetProxy = Some Proxy
state_after Start SetCallback = Some OnlyCallback
state_after Start SetCallbackInline = Some OnlyCallbackAllowInline
state_after OnlyResult SetResult = None
state_after OnlyResult SetProxy = None
state_after OnlyResult SetCallback = Some Done
state_after OnlyResult SetCallbackInline = Some Done
state_after OnlyCallback SetResult = Some Done
state_after OnlyCallback SetProxy = Some Empty
state_after OnlyCallback SetCallback = None
state_after OnlyCallback SetCallbackInline = None
state_after Proxy SetResult = None
state_after Proxy SetProxy = None
state_after Proxy SetCallback = Some Empty
state_after Proxy SetCallbackInline = Some Empty
state_after Done SetResult = None
state_after Done SetProxy = None
state_after Done SetCallback = None
state_after Done SetCallbackInline = None
state_after Empty SetResult = None
state_after Empty SetProxy = None
state_after Empty SetCallback = None
state_after Empty SetCallbackInline = None
state_after OnlyCallbackAllowInline SetResult = Some Done
state_after OnlyCallbackAllowInline SetProxy = Some Empty
state_after OnlyCallbackAllowInline SetCallback = None
state_after OnlyCallbackAllowInline SetCallbackInline = None

-- the state in which a callback waits alone, by whether it was set with the allowance
abbrev pub waiting_state : Bool → State
waiting_state true = OnlyCallbackAllowInline
waiting_state false = OnlyCallback

-- the act that sets a callback, by whether it is with the allowance
abbrev pub setting_act : Bool → Act
setting_act true = SetCallbackInline
setting_act false = SetCallback

-- the number of a state in an atomic word
abbrev pub code_of : State → ℕ
code_of Start = 0
code_of OnlyResult = 1
code_of OnlyCallback = 2
code_of Proxy = 3
code_of Done = 4
code_of Empty = 5
code_of OnlyCallbackAllowInline = 6
