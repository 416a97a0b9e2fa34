-- How a reading function answers: with what the definition gives, unless memory ran out.
use Rattle.std.specs.Prelude.{◌≡◌, Result, Ok, Err}
use Rattle.std.specs.Global.{Vec}
use Rattle.std.specs.Prelude.{List}
use Rattle.line_table.specs.declared.table.LineTable.{LineTable}
use Rattle.query_model.specs.declared.fault.BadKind.{BadKind}
use Rattle.query_model.specs.declared.fault.BadInput.{BadInput}
use Rattle.query_model.specs.declared.fault.InputFault.{InputFault}
use Rattle.query_model.specs.declared.line.Input.{Input}
use Rattle.query_model.specs.declared.fault.InputFault.TheVariants as input
use Rattle.query_text.specs.declared.fault.LineFault.{LineFault}
use Rattle.query_text.specs.declared.fault.LineFault.TheVariants as fault

abbrev pub FailsAs : {X : Type 0} → LineFault → Result X BadKind → Type 0
FailsAs (fault.Bad kind) given = given ≡ Err kind
FailsAs fault.Memory given = Unit {0}

abbrev pub Gives : {X : Type 0} → Result X LineFault → Result X BadKind → Type 0
Gives (Ok x) given = given ≡ Ok x
Gives (Err e) given = FailsAs e given

-- the same where the definition gives a list and the function a vector of it
abbrev pub GivesItems : {X : Type 0} → Result (Vec X) LineFault → Result (List X) BadKind → Type 0
GivesItems (Ok v) given = given ≡ Ok v.items
GivesItems (Err e) given = FailsAs e given

-- the same where the definition is a relation to what is given
abbrev pub FailsBy : {X : Type 0} → LineFault → (Result X BadKind → Type 0) → Type 0
FailsBy (fault.Bad kind) Is = Is (Err kind)
FailsBy fault.Memory Is = Unit {0}

abbrev pub GivesBy : {X : Type 0} → Result X LineFault → (Result X BadKind → Type 0) → Type 0
GivesBy (Ok x) Is = Is (Ok x)
GivesBy (Err e) Is = FailsBy e Is

-- the answer is this input, unless memory ran out
abbrev pub IsInput : Result Input InputFault → Input → Type 0
IsInput (Ok read) given = read ≡ given
IsInput (Err (input.Bad bad)) given = ⊥
IsInput (Err input.Memory) given = Unit {0}

-- the answer is the lines of this input, unless memory ran out
abbrev pub AreLinesOf : Result LineTable InputFault → Input → Type 0
AreLinesOf (Ok read) given = read ≡ given.lines
AreLinesOf (Err (input.Bad bad)) given = ⊥
AreLinesOf (Err input.Memory) given = Unit {0}

-- the answer is this refusal, unless memory ran out
abbrev pub IsRefusal : {X : Type 0} → Result X InputFault → BadInput → Type 0
IsRefusal (Ok read) given = ⊥
IsRefusal (Err (input.Bad bad)) given = bad ≡ given
IsRefusal (Err input.Memory) given = Unit {0}
