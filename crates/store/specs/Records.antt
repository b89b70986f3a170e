-- The records of a store.
use Rattle.std.specs.Prelude.{Bool, List}
use Rattle.store.specs.Stored.{held, Pushed}
use Rattle.store.specs.declared.Store.{Store}

-- the records that a store holds, the newest last
abbrev pub records : {X : Type 0} → Store X → List X
records s = held s.count s.places.now

-- a push of x that answers r takes the store before to the store after
abbrev pub PushedTo : {X : Type 0} → Bool → X → Store X → Store X → Type 0
PushedTo r x before after = Pushed r x before.count before.places.now after.count after.places.now
