-- How a refusal is worded. Assumes nothing.
use Rattle.std.specs.Prelude.{ℕ, List, codes}
use Rattle.abstraction.specs.declared.refusal.RuleRefusal.{RuleRefusal}
use Rattle.abstraction.specs.declared.refusal.RuleRefusal.TheVariants.{SheetFull, NoSuchEvent}

-- why a rule is not added, as a mechanic would say it
abbrev pub complaint : RuleRefusal → List ℕ
complaint SheetFull = codes "the sheet has 16 rules already"
complaint NoSuchEvent = codes "an event of the rule is not below 64"
