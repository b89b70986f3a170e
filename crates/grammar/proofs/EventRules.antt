-- How readings of event formulas settle, rule by rule. Assumes nothing.
use Rattle.std.proofs.Common.{◌≡◌, ℕ, suc, ◌+◌, ◌≤◌, List, [], ◌∷◌, Some, None, Option, refl, ap, ◌∙◌, arith}
use Rattle.text.specs.declared.names.Name.{Name}
use Rattle.symbols.specs.declared.Symbol.{Symbol}
use Rattle.symbols.specs.declared.Symbol.TheVariants as symbol
use Rattle.symbols.specs.Symbols.{taken}
use Rattle.trees.specs.Trees.{top, bottom, tau, event, not_event, both_events, either_events}
use Rattle.grammar.specs.Grammar.{WrittenEvents}
use Rattle.grammar.specs.EventParsing.{Reading, refused, got, and_then, if_taken, EventSort, whole, more_or, joined, more_and, single, closed_events, turn_events, events_in}
use Rattle.grammar.specs.Settling.{settled, SettlesEvents}
use Rattle.grammar.proofs.Readings.{later}
use Rattle.grammar.proofs.EventTurns.{events_more}

abbrev Outcome : Type 0
Outcome = Option (WrittenEvents × List Symbol)

-- one turn more
next : {s : EventSort} {ts : List Symbol} {o : Outcome} (n : ℕ) → turn_events (events_in n) s ts ≡ settled o → SettlesEvents s ts o
unfolding events_in
next n e = record { turns = suc n; over = e }

-- with more turns the same
more : {s : EventSort} {ts : List Symbol} {o : Outcome} (n : ℕ) (h : SettlesEvents s ts o) → h.turns ≤ n → events_in n s ts ≡ settled o
more n h l = later events_in events_more n h.turns l _ _ _ h.over

module _ {ts us : List Symbol} {t : WrittenEvents} {o : Outcome} where
  pub whole_of : SettlesEvents joined ts (Some (t, us)) → SettlesEvents (more_or t) us o → SettlesEvents whole ts o
  whole_of g h =
      let n : ℕ = g.turns + h.turns in
      next n (ap (λ x. and_then x (λ y vs. events_in n (more_or y) vs)) (more n g (omega arith)) ∙ more n h (omega arith))

  pub joined_of : SettlesEvents single ts (Some (t, us)) → SettlesEvents (more_and t) us o → SettlesEvents joined ts o
  joined_of g h =
      let n : ℕ = g.turns + h.turns in
      next n (ap (λ x. and_then x (λ y vs. events_in n (more_and y) vs)) (more n g (omega arith)) ∙ more n h (omega arith))

module _ {ts : List Symbol} where
  pub whole_no : SettlesEvents joined ts None → SettlesEvents whole ts None
  whole_no g = next g.turns (ap (λ x. and_then x (λ y vs. events_in g.turns (more_or y) vs)) g.over)

  pub joined_no : SettlesEvents single ts None → SettlesEvents joined ts None
  joined_no g = next g.turns (ap (λ x. and_then x (λ y vs. events_in g.turns (more_and y) vs)) g.over)

module _ {ts us vs : List Symbol} {t u : WrittenEvents} {o : Outcome} where
  pub or_of : taken symbol.Or ts ≡ Some us → SettlesEvents joined us (Some (u, vs)) → SettlesEvents (more_or (either_events t u)) vs o → SettlesEvents (more_or t) ts o
  or_of e g h =
      let n : ℕ = g.turns + h.turns in
      let on : WrittenEvents → List Symbol → Reading WrittenEvents = λ y ws. events_in n (more_or (either_events t y)) ws in
      next n (ap (λ x. if_taken x (λ ws. and_then (events_in n joined ws) on) (got t ts)) e ∙ ap (λ x. and_then x on) (more n g (omega arith)) ∙ more n h (omega arith))

  pub and_of : taken symbol.And ts ≡ Some us → SettlesEvents single us (Some (u, vs)) → SettlesEvents (more_and (both_events t u)) vs o → SettlesEvents (more_and t) ts o
  and_of e g h =
      let n : ℕ = g.turns + h.turns in
      let on : WrittenEvents → List Symbol → Reading WrittenEvents = λ y ws. events_in n (more_and (both_events t y)) ws in
      next n (ap (λ x. if_taken x (λ ws. and_then (events_in n single ws) on) (got t ts)) e ∙ ap (λ x. and_then x on) (more n g (omega arith)) ∙ more n h (omega arith))

module _ {ts us : List Symbol} {t : WrittenEvents} where
  pub or_no : taken symbol.Or ts ≡ Some us → SettlesEvents joined us None → SettlesEvents (more_or t) ts None
  or_no e g =
      let n : ℕ = g.turns in
      let on : WrittenEvents → List Symbol → Reading WrittenEvents = λ y ws. events_in n (more_or (either_events t y)) ws in
      next n (ap (λ x. if_taken x (λ ws. and_then (events_in n joined ws) on) (got t ts)) e ∙ ap (λ x. and_then x on) g.over)

  pub and_no : taken symbol.And ts ≡ Some us → SettlesEvents single us None → SettlesEvents (more_and t) ts None
  and_no e g =
      let n : ℕ = g.turns in
      let on : WrittenEvents → List Symbol → Reading WrittenEvents = λ y ws. events_in n (more_and (both_events t y)) ws in
      next n (ap (λ x. if_taken x (λ ws. and_then (events_in n single ws) on) (got t ts)) e ∙ ap (λ x. and_then x on) g.over)

module _ {ts : List Symbol} {t : WrittenEvents} where
  pub or_end : taken symbol.Or ts ≡ None → SettlesEvents (more_or t) ts (Some (t, ts))
  or_end e = next 0 (ap (λ x. if_taken x (λ ws. and_then (events_in 0 joined ws) (λ y xs. events_in 0 (more_or (either_events t y)) xs)) (got t ts)) e)

  pub and_end : taken symbol.And ts ≡ None → SettlesEvents (more_and t) ts (Some (t, ts))
  and_end e = next 0 (ap (λ x. if_taken x (λ ws. and_then (events_in 0 single ws) (λ y xs. events_in 0 (more_and (both_events t y)) xs)) (got t ts)) e)

pub empty_no : SettlesEvents single [] None
empty_no = next 0 refl

module _ {us : List Symbol} where
  pub true_of : SettlesEvents single (symbol.True ∷ us) (Some (top, us))
  true_of = next 0 refl

  pub false_of : SettlesEvents single (symbol.False ∷ us) (Some (bottom, us))
  false_of = next 0 refl

  pub tau_of : SettlesEvents single (symbol.Tau ∷ us) (Some (tau, us))
  tau_of = next 0 refl

  pub name_of : {n : Name} → SettlesEvents single (symbol.Name n ∷ us) (Some (event n, us))
  name_of = next 0 refl

  pub not_no : SettlesEvents single us None → SettlesEvents single (symbol.Not ∷ us) None
  not_no g = next g.turns (ap (λ x. and_then x (λ t vs. got (not_event t) vs)) g.over)

  pub group_no : SettlesEvents whole us None → SettlesEvents single (symbol.OpenRound ∷ us) None
  group_no g = next g.turns (ap (λ x. and_then x (closed_events (events_in g.turns))) g.over)

module _ {us vs : List Symbol} {t : WrittenEvents} where
  pub not_of : SettlesEvents single us (Some (t, vs)) → SettlesEvents single (symbol.Not ∷ us) (Some (not_event t, vs))
  not_of g = next g.turns (ap (λ x. and_then x (λ y ws. got (not_event y) ws)) g.over)

  pub group_open : SettlesEvents whole us (Some (t, vs)) → taken symbol.CloseRound vs ≡ None → SettlesEvents single (symbol.OpenRound ∷ us) None
  group_open g e = next g.turns (ap (λ x. and_then x (closed_events (events_in g.turns))) g.over ∙ ap (λ x. if_taken x (got t) refused) e)

  pub group_of : {ws : List Symbol} → SettlesEvents whole us (Some (t, vs)) → taken symbol.CloseRound vs ≡ Some ws → SettlesEvents single (symbol.OpenRound ∷ us) (Some (t, ws))
  group_of g e = next g.turns (ap (λ x. and_then x (closed_events (events_in g.turns))) g.over ∙ ap (λ x. if_taken x (got t) refused) e)

-- no event formula starts with the symbol
pub record NoEventStart (s : Symbol) : Type 0 where
  pub not_true : s ≡ symbol.True → ⊥
  pub not_false : s ≡ symbol.False → ⊥
  pub not_tau : s ≡ symbol.Tau → ⊥
  pub not_not : s ≡ symbol.Not → ⊥
  pub not_open : s ≡ symbol.OpenRound → ⊥
  pub not_name : (n : Name) → s ≡ symbol.Name n → ⊥

pub start_no : (s : Symbol) (us : List Symbol) → NoEventStart s → SettlesEvents single (s ∷ us) None
start_no symbol.End us h = next 0 refl
start_no symbol.OpenRound us h = absurd (h.not_open refl)
start_no symbol.CloseRound us h = next 0 refl
start_no symbol.OpenSquare us h = next 0 refl
start_no symbol.CloseSquare us h = next 0 refl
start_no symbol.OpenCurly us h = next 0 refl
start_no symbol.CloseCurly us h = next 0 refl
start_no symbol.OpenAngle us h = next 0 refl
start_no symbol.CloseAngle us h = next 0 refl
start_no symbol.Colon us h = next 0 refl
start_no symbol.True us h = absurd (h.not_true refl)
start_no symbol.False us h = absurd (h.not_false refl)
start_no symbol.Final us h = next 0 refl
start_no symbol.Not us h = absurd (h.not_not refl)
start_no symbol.And us h = next 0 refl
start_no symbol.Or us h = next 0 refl
start_no symbol.Tau us h = absurd (h.not_tau refl)
start_no symbol.Min us h = next 0 refl
start_no symbol.Max us h = next 0 refl
start_no symbol.Exists us h = next 0 refl
start_no symbol.All us h = next 0 refl
start_no symbol.Until us h = next 0 refl
start_no symbol.ExistsNext us h = next 0 refl
start_no symbol.AllNext us h = next 0 refl
start_no symbol.Eventually us h = next 0 refl
start_no symbol.Always us h = next 0 refl
start_no symbol.Silent us h = next 0 refl
start_no (symbol.Name n) us h = absurd (h.not_name n refl)
