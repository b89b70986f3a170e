use Rattle.std.proofs.Common.{◌≡◌, ◌^◌, ◌<◌, drop}
use Rattle.layouts.specs.Numbers.{worth}
use Rattle.layouts.proofs.number.worth_of.Given as goal

abbrev pub invariant-loop-b : goal.invariant-loop-b
invariant-loop-b l = (worth 0 l.text ≡ worth l.value (drop l.b-index l.text)) × (l.value < 10 ^ l.b-index)
