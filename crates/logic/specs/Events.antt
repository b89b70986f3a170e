-- Event formulas, and when one is true of a set of events. Assumes nothing.
use Rattle.std.specs.Prelude.{◌≡◌, ℕ, zero, suc, Bool, true, false, not, ◌&&◌, ◌||◌, List, Some, None, Option, ◌==◌, nat_lt}
use Rattle.std.specs.List.{slice_get}
use Rattle.systems.specs.Limits.{max_events}
use Rattle.systems.specs.Meaning.{member}
use Rattle.logic.specs.declared.events.EventFormula.{EventFormula}
use Rattle.logic.specs.declared.events.EventFormula.TheVariants.{True, False, Tau, Event, Not, And, Or}

-- the set holds the event
abbrev pub has_event : ℕ → ℕ → Bool
has_event set e = nat_lt e max_events && member set e

-- an entry is true of a set by its parts, down to single names: a name is true of a set that holds it, tau of the empty set
abbrev pub by_parts : Option EventFormula → ℕ → (ℕ → Bool) → Bool
by_parts None set part = false
by_parts (Some True) set part = true
by_parts (Some False) set part = false
by_parts (Some Tau) set part = set == 0
by_parts (Some (Event e)) set part = has_event set e
by_parts (Some (Not a)) set part = not (part a)
by_parts (Some (And a b)) set part = part a && part b
by_parts (Some (Or a b)) set part = part a || part b

-- entries are numbered after their parts, so k + 1 turns reach all of the entry k
unfoldable pub satisfies_in : ℕ → List EventFormula → ℕ → ℕ → Bool
satisfies_in zero entries k set = false
satisfies_in (suc turns) entries k set = by_parts (slice_get entries k) set (λ a. nat_lt a k && satisfies_in turns entries a set)

-- whether the entry k is true of the set; a part that does not stand before it is true of no set
abbrev pub satisfies : List EventFormula → ℕ → ℕ → Bool
satisfies entries k set = satisfies_in (suc k) entries k set

-- whether the part a of the entry k is true of the set
abbrev pub part_satisfies : List EventFormula → ℕ → ℕ → ℕ → Bool
part_satisfies entries k set a = nat_lt a k && satisfies entries a set

-- an entry is true of a set by its parts, whatever the entries
abbrev pub ByParts : Type 0
ByParts = (entries : List EventFormula) (k set : ℕ) → satisfies entries k set ≡ by_parts (slice_get entries k) set (part_satisfies entries k set)
