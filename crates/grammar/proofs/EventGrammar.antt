-- The readings of event formulas follow the grammar, and all that it spells is read. Assumes nothing.
use Rattle.std.proofs.Common.{◌≡◌, ℕ, zero, suc, List, [], ◌∷◌, Some, None, Option, refl, subst}
use Rattle.symbols.specs.declared.Symbol.{Symbol}
use Rattle.symbols.specs.declared.Symbol.TheVariants as symbol
use Rattle.symbols.specs.Symbols.{taken}
use Rattle.symbols.proofs.Telling.{IsPlain}
use Rattle.trees.specs.Trees.{not_event, both_events, either_events}
use Rattle.grammar.specs.Grammar.{WrittenEvents, Level, disjunctions, conjunctions, prefixes, SpellsEvents, or_first, or_more, and_first, and_more, a_not, a_true, a_false, a_tau, a_name, a_group}
use Rattle.grammar.specs.EventParsing.{Reading, spent, refused, got, and_then, if_taken, EventSort, whole, more_or, joined, more_and, single, closed_events, start_events, turn_events, events_in, read_events}
use Rattle.grammar.specs.Settling.{SettlesEvents}
use Rattle.grammar.proofs.Readings.{taken_first}
use Rattle.grammar.proofs.EventTurns.{events_settled}
use Rattle.grammar.proofs.EventRules.{whole_of, joined_of, or_of, and_of, or_end, and_end, true_of, false_of, tau_of, name_of, not_of, group_of}

-- what was spelled so far is read, and read on from there
abbrev Goes : Level → WrittenEvents → List Symbol → List Symbol → Type 0
Goes disjunctions t ts us = taken symbol.And us ≡ None → (o : Option (WrittenEvents × List Symbol)) → SettlesEvents (more_or t) us o → SettlesEvents whole ts o
Goes conjunctions t ts us = (o : Option (WrittenEvents × List Symbol)) → SettlesEvents (more_and t) us o → SettlesEvents joined ts o
Goes prefixes t ts us = SettlesEvents single ts (Some (t, us))

goes : {l : Level} {t : WrittenEvents} {ts us : List Symbol} → SpellsEvents l t ts us → Goes l t ts us
goes (or_first {t} {us = us} d) = λ none o h. whole_of (goes d (Some (t, us)) (and_end none)) h
goes (or_more {u = u} {vs = vs} d e) = λ none o h. goes d refl o (or_of refl (goes e (Some (u, vs)) (and_end none)) h)
goes (and_first d) = λ o h. joined_of (goes d) h
goes (and_more d e) = λ o h. goes d o (and_of refl (goes e) h)
goes (a_not d) = not_of (goes d)
goes a_true = true_of
goes a_false = false_of
goes a_tau = tau_of
goes a_name = name_of
goes (a_group {t} {us = us} d) = group_of (goes d refl (Some (t, symbol.CloseRound ∷ us)) (or_end refl)) refl

-- all that is spelled is read, up to where neither `or` nor `and` comes next
pub events_read : {t : WrittenEvents} {ts us : List Symbol} → SpellsEvents disjunctions t ts us → taken symbol.Or us ≡ None → taken symbol.And us ≡ None → read_events ts ≡ got t us
events_read {t} {ts} {us} d no_or no-and = events_settled ts (Some (t, us)) (goes d no-and (Some (t, us)) (or_end no_or))

-- what each sort of reading says of the grammar
abbrev Derives : EventSort → WrittenEvents → List Symbol → List Symbol → Type 0
Derives whole t ts us = SpellsEvents disjunctions t ts us
Derives (more_or left) t ts us = (from : List Symbol) → SpellsEvents disjunctions left from ts → SpellsEvents disjunctions t from us
Derives joined t ts us = SpellsEvents conjunctions t ts us
Derives (more_and left) t ts us = (from : List Symbol) → SpellsEvents conjunctions left from ts → SpellsEvents conjunctions t from us
Derives single t ts us = SpellsEvents prefixes t ts us

-- what holds of what was read
abbrev pub Of : {A : Type 0} → (A → List Symbol → Type 0) → Reading A → Type 0
Of P spent = Unit {0}
Of P refused = Unit {0}
Of P (got t us) = P t us

pub then_of : {A B : Type 0} (P : A → List Symbol → Type 0) (Q : B → List Symbol → Type 0) (x : Reading A) (f : A → List Symbol → Reading B) → Of P x → ((a : A) (us : List Symbol) → P a us → Of Q (f a us)) → Of Q (and_then x f)
then_of P Q spent f h g = tt
then_of P Q refused f h g = tt
then_of P Q (got a us) f h g = g a us h

pub taken_of : {A : Type 0} (Q : A → List Symbol → Type 0) (wanted : Symbol) → IsPlain wanted → (ts : List Symbol) (f : List Symbol → Reading A) (x : Reading A)
    → ((us : List Symbol) → ts ≡ wanted ∷ us → Of Q (f us)) → (taken wanted ts ≡ None → Of Q x) → Of Q (if_taken (taken wanted ts) f x)
taken_of Q wanted h ts f x g e = go (taken wanted ts) refl
  where
    go : (o : Option (List Symbol)) → taken wanted ts ≡ o → Of Q (if_taken o f x)
    go None d = e d
    go (Some us) d = g us (taken_first wanted h ts us d)

module _ (f : EventSort → List Symbol → Reading WrittenEvents) (h : (s : EventSort) (ts : List Symbol) → Of (λ t us. Derives s t ts us) (f s ts)) where
  start_derives : (s : Symbol) (us : List Symbol) → Of (λ t vs. SpellsEvents prefixes t (s ∷ us) vs) (start_events f s us)
  start_derives symbol.End us = tt
  start_derives symbol.OpenRound us =
      then_of (λ t vs. SpellsEvents disjunctions t us vs) (λ t vs. SpellsEvents prefixes t (symbol.OpenRound ∷ us) vs) (f whole us) (closed_events f) (h whole us)
      (λ t vs d. taken_of (λ y ws. SpellsEvents prefixes y (symbol.OpenRound ∷ us) ws) symbol.CloseRound tt vs (got t) refused
      (λ ws e. a_group (subst (λ xs. SpellsEvents disjunctions t us xs) e d)) (λ e. tt))
  start_derives symbol.CloseRound us = tt
  start_derives symbol.OpenSquare us = tt
  start_derives symbol.CloseSquare us = tt
  start_derives symbol.OpenCurly us = tt
  start_derives symbol.CloseCurly us = tt
  start_derives symbol.OpenAngle us = tt
  start_derives symbol.CloseAngle us = tt
  start_derives symbol.Colon us = tt
  start_derives symbol.True us = a_true
  start_derives symbol.False us = a_false
  start_derives symbol.Final us = tt
  start_derives symbol.Not us =
      then_of (λ t vs. SpellsEvents prefixes t us vs) (λ t vs. SpellsEvents prefixes t (symbol.Not ∷ us) vs) (f single us) (λ t vs. got (not_event t) vs) (h single us) (λ t vs d. a_not d)
  start_derives symbol.And us = tt
  start_derives symbol.Or us = tt
  start_derives symbol.Tau us = a_tau
  start_derives symbol.Min us = tt
  start_derives symbol.Max us = tt
  start_derives symbol.Exists us = tt
  start_derives symbol.All us = tt
  start_derives symbol.Until us = tt
  start_derives symbol.ExistsNext us = tt
  start_derives symbol.AllNext us = tt
  start_derives symbol.Eventually us = tt
  start_derives symbol.Always us = tt
  start_derives symbol.Silent us = tt
  start_derives (symbol.Name n) us = a_name

  turn_derives : (s : EventSort) (ts : List Symbol) → Of (λ t us. Derives s t ts us) (turn_events f s ts)
  turn_derives whole ts =
      then_of (λ t us. Derives joined t ts us) (λ t us. Derives whole t ts us) (f joined ts) (λ t us. f (more_or t) us) (h joined ts)
      (λ t us d. of_more (f (more_or t) us) (h (more_or t) us) (or_first d))
    where
      of_more : {t : WrittenEvents} {us : List Symbol} (x : Reading WrittenEvents) → Of (λ y vs. Derives (more_or t) y us vs) x → SpellsEvents disjunctions t ts us → Of (λ y vs. Derives whole y ts vs) x
      of_more spent e d = tt
      of_more refused e d = tt
      of_more (got y vs) e d = e ts d
  turn_derives (more_or t) ts =
      taken_of (λ y vs. Derives (more_or t) y ts vs) symbol.Or tt ts _ (got t ts)
      (λ us e. then_of (λ u vs. Derives joined u us vs) (λ y vs. Derives (more_or t) y ts vs) (f joined us) (λ u vs. f (more_or (either_events t u)) vs) (h joined us)
      (λ u vs d. of_more (f (more_or (either_events t u)) vs) (h (more_or (either_events t u)) vs) (λ from c. or_more (subst (λ xs. SpellsEvents disjunctions t from xs) e c) d)))
      (λ e from c. c)
    where
      of_more : {z : WrittenEvents} {us : List Symbol} (x : Reading WrittenEvents) → Of (λ y vs. Derives (more_or z) y us vs) x
          → ((from : List Symbol) → SpellsEvents disjunctions t from ts → SpellsEvents disjunctions z from us) → Of (λ y vs. Derives (more_or t) y ts vs) x
      of_more spent e d = tt
      of_more refused e d = tt
      of_more (got y vs) e d = λ from c. e from (d from c)
  turn_derives joined ts =
      then_of (λ t us. Derives single t ts us) (λ t us. Derives joined t ts us) (f single ts) (λ t us. f (more_and t) us) (h single ts)
      (λ t us d. of_more (f (more_and t) us) (h (more_and t) us) (and_first d))
    where
      of_more : {t : WrittenEvents} {us : List Symbol} (x : Reading WrittenEvents) → Of (λ y vs. Derives (more_and t) y us vs) x → SpellsEvents conjunctions t ts us → Of (λ y vs. Derives joined y ts vs) x
      of_more spent e d = tt
      of_more refused e d = tt
      of_more (got y vs) e d = e ts d
  turn_derives (more_and t) ts =
      taken_of (λ y vs. Derives (more_and t) y ts vs) symbol.And tt ts _ (got t ts)
      (λ us e. then_of (λ u vs. Derives single u us vs) (λ y vs. Derives (more_and t) y ts vs) (f single us) (λ u vs. f (more_and (both_events t u)) vs) (h single us)
      (λ u vs d. of_more (f (more_and (both_events t u)) vs) (h (more_and (both_events t u)) vs) (λ from c. and_more (subst (λ xs. SpellsEvents conjunctions t from xs) e c) d)))
      (λ e from c. c)
    where
      of_more : {z : WrittenEvents} {us : List Symbol} (x : Reading WrittenEvents) → Of (λ y vs. Derives (more_and z) y us vs) x
          → ((from : List Symbol) → SpellsEvents conjunctions t from ts → SpellsEvents conjunctions z from us) → Of (λ y vs. Derives (more_and t) y ts vs) x
      of_more spent e d = tt
      of_more refused e d = tt
      of_more (got y vs) e d = λ from c. e from (d from c)
  turn_derives single [] = tt
  turn_derives single (s ∷ us) = start_derives s us

derives : (n : ℕ) (s : EventSort) (ts : List Symbol) → Of (λ t us. Derives s t ts us) (events_in n s ts)
unfolding events_in
derives zero s ts = tt
derives (suc n) s ts = turn_derives (events_in n) (derives n) s ts

-- what is read is spelled
pub read_spells : (ts : List Symbol) → Of (λ t us. SpellsEvents disjunctions t ts us) (read_events ts)
read_spells ts = derives _ whole ts
