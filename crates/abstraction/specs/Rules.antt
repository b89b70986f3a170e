-- The rules of a sheet, and which of them it takes. Assumes nothing.
use Rattle.std.specs.Prelude.{ℕ, ◌<◌, cond, ◌&&◌, List, length, Some, None, Option, nat_lt}
use Rattle.systems.specs.Limits.{max_events}
use Rattle.abstraction.specs.declared.rule.Rule.{Rule}
use Rattle.abstraction.specs.declared.refusal.RuleRefusal.{RuleRefusal}
use Rattle.abstraction.specs.declared.refusal.RuleRefusal.TheVariants.{SheetFull, NoSuchEvent}

-- the most rules of a sheet
abbrev pub max_rules : ℕ
max_rules = 16

-- what is read where there is no rule
abbrev pub blank : Rule
blank = record { seen = 0; shown = 0 }

-- both events of a rule are events
pub record Small (r : Rule) : Type 0 where
  pub seen : r.seen < max_events
  pub shown : r.shown < max_events

-- the number of a refusal
abbrev pub number_of : RuleRefusal → ℕ
number_of SheetFull = 23
number_of NoSuchEvent = 24

-- why a rule is not added to those that a sheet holds: no row is free, or else one of its events is none
abbrev pub refusal : List Rule → (seen shown : ℕ) → Option RuleRefusal
refusal rules seen shown =
    cond (nat_lt (length rules) max_rules)
    (cond (nat_lt seen max_events && nat_lt shown max_events) None (Some NoSuchEvent))
    (Some SheetFull)
