-- Questions in order: the first that gets a no is the answer. Assumes nothing.
use Rattle.std.specs.Prelude.{ℕ, Bool, true, false, Some, None, Err, Option, Result}
use Rattle.files.specs.declared.fault.Fault.{Fault}

-- a question that is answered yes or no, and what follows a yes
abbrev pub ask : {X : Type 0} → Bool → Fault → Result X Fault → Result X Fault
ask true fault rest = rest
ask false fault rest = Err fault

-- a question whose yes comes with a value
abbrev pub given : {X Y : Type 0} → Option X → Fault → (X → Result Y Fault) → Result Y Fault
given None fault rest = Err fault
given (Some x) fault rest = rest x

-- a question whose no comes with the start of a line
abbrev pub pass : {X : Type 0} → Option ℕ → (ℕ → Fault) → Result X Fault → Result X Fault
pass None fault rest = rest
pass (Some start) fault rest = Err (fault start)
