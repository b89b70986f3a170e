-- A system keeps the law as a sheet shows it. Assumes nothing.
use Rattle.std.proofs.Common.{ap, arith}
use Rattle.std.specs.Prelude.{ℕ, ◌^◌, ◌<◌, List, [], ◌∷◌, map, fold, bit_or}
use Rattle.std.specs.List.{AllByRecursion}
use Rattle.std.proofs.lemmas.Nat.{pow_below, or_lt}
use Rattle.std.proofs.ByRecursion.{All-map, All-from_get_or}
use Rattle.std.proofs.lemmas.List.{length-map}
use Rattle.std.proofs.lemmas.Bool.{cond_both}
use Rattle.systems.specs.Limits.{max_events}
use Rattle.systems.specs.Meaning.{Move, Meaning, Lawful, member}
use Rattle.abstraction.specs.Rules.{blank, Small}
use Rattle.abstraction.specs.Held.{held}
use Rattle.abstraction.specs.Abstracted.{with_shown, shown_by, shown_move, abstracted}
use Rattle.abstraction.specs.declared.rule.Rule.{Rule}
use Rattle.abstraction.specs.declared.sheet.Sheet.{Sheet}

-- the shown events are events
folded_fits : (events : ℕ) (rules : List Rule) → AllByRecursion Small rules → (set : ℕ) → set < 2 ^ max_events → fold (with_shown events) set rules < 2 ^ max_events
folded_fits events [] small set h = h
folded_fits events (r ∷ rules) small set h =
    folded_fits events rules small.1 (with_shown events set r)
    (cond_both (member events r.seen) (bit_or set (2 ^ r.shown)) set (λ n. n < 2 ^ max_events) (λ _. or_lt max_events set (2 ^ r.shown) h (pow_below r.shown max_events small.0.shown)) (λ _. h))

pub shown_fits : (rules : List Rule) → AllByRecursion Small rules → (events : ℕ) → shown_by rules events < 2 ^ max_events
shown_fits rules small events = folded_fits events rules small 0 (omega arith)

all_any : {X : Type 0} (P : X → Type 0) → ((x : X) → P x) → (xs : List X) → AllByRecursion P xs
all_any P h [] = tt
all_any P h (x ∷ xs) = (h x, all_any P h xs)

pub abstracted_lawful : (rules : List Rule) → AllByRecursion Small rules → (m : Meaning) → Lawful m → Lawful (abstracted rules m)
abstracted_lawful rules small m law = record {
  goes = record {
    some = law.goes.some;
    few = law.goes.few;
    starts = law.goes.starts;
    lands = λ q. All-map (λ (n : Move). n.target < m.transitions.states) (shown_move rules) (m.transitions.moves q) (law.goes.lands q);
    fits = λ q. All-map (λ (n : Move). n.events < 2 ^ max_events) (shown_move rules) (m.transitions.moves q) (all_any (λ n. shown_by rules n.events < 2 ^ max_events) (λ n. shown_fits rules small n.events) (m.transitions.moves q));
    short = λ q. simp length-map (law.goes.short q);
    ends = λ q h. ap (map (shown_move rules)) (law.goes.ends q h);
  };
  marks = law.marks;
  unmarked = law.unmarked;
}

-- the rules of a sheet are of events
pub held_small : (s : Sheet) → AllByRecursion Small (held s)
held_small s = All-from_get_or Small (held s) blank (λ k h. record { seen = (s.small k blank h).0; shown = (s.small k blank h).1 })
