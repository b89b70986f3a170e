-- All that the grammar spells is read. Assumes nothing.
use Rattle.std.proofs.Common.{◌≡◌, Bool, true, false, cond, not, ◌||◌, T, List, [], ◌∷◌, Some, None, Option, refl, ap, ◌∙◌}
use Rattle.text.specs.declared.names.Name.{Name}
use Rattle.symbols.specs.declared.Symbol.{Symbol}
use Rattle.symbols.specs.declared.Symbol.TheVariants as symbol
use Rattle.symbols.specs.Symbols.{is, taken}
use Rattle.trees.specs.Trees.{negation, diamond, box_all, all_next, eventually, always, Binary}
use Rattle.grammar.specs.Grammar.{WrittenEvents, Written, Level, disjunctions, conjunctions, prefixes, SpellsEvents, SpellsInside, empty, filled, SpellsBraces, absent, present, SpellsMiddle, no_braces, braces_before, braces_both, until_symbol, binder_symbol, stops, Spells, SpellsAll}
use Rattle.grammar.specs.Grammar.{SpellsEvents as events}
use Rattle.grammar.specs.Grammar.{Spells as formula}
use Rattle.grammar.specs.EventParsing.{Reading, refused, got, and_then, if_taken, read_events}
use Rattle.grammar.specs.Parsing.{shut, read_inside, read_braces, until_with, behind_until, read_middle, whole, more_or, joined, more_and, prefixed, at_end, tree_of}
use Rattle.grammar.specs.Settling.{Settles}
use Rattle.grammar.proofs.EventGrammar.{events_read}
use Rattle.grammar.proofs.Turns.{formula_settled}
use Rattle.grammar.proofs.Rules.{whole_of, joined_of, or_of, and_of, or_end, and_end, true_of, false_of, final_of, name_of, not_on, ef_on, ag_on, group_on, binder_on, until_on, diamond_on, box_on, ex_on, ax_on, applied_of, grouped_of, bound_of, halves_of}

-- no event formula starts with the mark
pub record NoStart (close : Symbol) : Type 0 where
  pub a_not : is symbol.Not close ≡ false
  pub a_true : is symbol.True close ≡ false
  pub a_false : is symbol.False close ≡ false
  pub a_tau : is symbol.Tau close ≡ false
  pub an_open : is symbol.OpenRound close ≡ false
  pub a_name : (n : Name) → is (symbol.Name n) close ≡ false

passed : (s close : Symbol) (us : List Symbol) → is s close ≡ false → taken close (s ∷ us) ≡ None
passed s close us e = ap (λ b. cond b (Some us) None) e

events_start : {l : Level} {t : WrittenEvents} {ts us : List Symbol} (close : Symbol) → NoStart close → SpellsEvents l t ts us → taken close ts ≡ None
events_start close h (events.or_first d) = events_start close h d
events_start close h (events.or_more d e) = events_start close h d
events_start close h (events.and_first d) = events_start close h d
events_start close h (events.and_more d e) = events_start close h d
events_start close h (events.a_not {ts = ts} d) = passed symbol.Not close ts h.a_not
events_start close h (events.a_true {ts = ts}) = passed symbol.True close ts h.a_true
events_start close h (events.a_false {ts = ts}) = passed symbol.False close ts h.a_false
events_start close h (events.a_tau {ts = ts}) = passed symbol.Tau close ts h.a_tau
events_start close h (events.a_name {n = n} {ts = ts}) = passed (symbol.Name n) close ts (h.a_name n)
events_start close h (events.a_group {ts = ts} d) = passed symbol.OpenRound close ts h.an_open

-- the inside of a pair of marks, whose closing mark is no `or` and no `and` and starts no event formula
module _ (close : Symbol) (self : is close close ≡ true) (no_or : is close symbol.Or ≡ false) (no-and : is close symbol.And ≡ false) (no_start : NoStart close) where
  at_close : (us : List Symbol) → taken close (close ∷ us) ≡ Some us
  at_close us = ap (λ b. cond b (Some us) None) self

  inside_read : {g : Option WrittenEvents} {ts us : List Symbol} → SpellsInside close g ts us → read_inside close ts ≡ got g us
  inside_read (empty {us}) = ap (λ x. if_taken x (got None) (and_then (read_events (close ∷ us)) (shut close))) (at_close us)
  inside_read (filled {t} {ts} {us} d) =
      ap (λ x. if_taken x (got None) (and_then (read_events ts) (shut close))) (events_start close no_start d)
      ∙ ap (λ x. and_then x (shut close)) (events_read d (passed close symbol.Or us no_or) (passed close symbol.And us no-and))
      ∙ ap (λ x. if_taken x (got (Some t)) refused) (at_close us)

braces_read : {g : Option WrittenEvents} {ts us : List Symbol} → SpellsBraces g ts us → taken symbol.OpenCurly us ≡ None → read_braces ts ≡ got g us
braces_read (absent {ts}) none = ap (λ x. if_taken x (λ us. and_then (read_events us) (shut symbol.CloseCurly)) (got None ts)) none
braces_read (present {t} {ts} {us} d) none = ap (λ x. and_then x (shut symbol.CloseCurly)) (events_read d refl refl)

abbrev after_braces : Bool → Option WrittenEvents → List Symbol → Reading (Binary Name)
after_braces exists g us = if_taken (taken symbol.Until us) (behind_until exists g) refused

middle_read : {exists : Bool} {o : Binary Name} {us vs : List Symbol} → SpellsMiddle exists o us vs → taken symbol.OpenCurly vs ≡ None → read_middle exists us ≡ got o vs
middle_read no_braces none = refl
middle_read {exists} (braces_before {t} {ts} {us} d) none =
    ap (λ x. and_then (and_then x (shut symbol.CloseCurly)) (after_braces exists)) (events_read d refl refl)
    ∙ ap (λ x. and_then x (λ h vs. got (until_with exists t h) vs)) (braces_read (absent {ts = us}) none)
middle_read {exists} (braces_both {t} {u} {ts} {us} {vs} d e) none =
    ap (λ x. and_then (and_then x (shut symbol.CloseCurly)) (after_braces exists)) (events_read d refl refl)
    ∙ ap (λ x. and_then x (λ h ws. got (until_with exists t h) ws)) (braces_read (present e) none)

-- no formula starts with an opening brace
binder_start : (w : Bool) (us : List Symbol) → taken symbol.OpenCurly (binder_symbol w ∷ us) ≡ None
binder_start true us = refl
binder_start false us = refl

until_start : (exists : Bool) (us : List Symbol) → taken symbol.OpenCurly (until_symbol exists ∷ us) ≡ None
until_start true us = refl
until_start false us = refl

formula_start : {l : Level} {t : Written} {ts us : List Symbol} → Spells l t ts us → taken symbol.OpenCurly ts ≡ None
formula_start (formula.or_first d) = formula_start d
formula_start (formula.or_more d e) = formula_start d
formula_start (formula.and_first d) = formula_start d
formula_start (formula.and_more d e) = formula_start d
formula_start formula.a_true = refl
formula_start formula.a_false = refl
formula_start formula.a_final = refl
formula_start formula.a_name = refl
formula_start (formula.a_not d) = refl
formula_start (formula.an_ef d) = refl
formula_start (formula.an_ag d) = refl
formula_start (formula.a_diamond g d) = refl
formula_start (formula.a_box g d) = refl
formula_start (formula.an_ex g d) = refl
formula_start (formula.an_ax g d) = refl
formula_start (formula.a_group d) = refl
formula_start (formula.a_binder {w} d e) = binder_start w _
formula_start (formula.an_until {exists} d m e) = until_start exists _

-- where a formula stops
off : (b c : Bool) → T (not (b || c)) → (b ≡ false) × (c ≡ false)
off true c h = absurd h
off false true h = absurd h
off false false h = (refl, refl)

pub stops_or : (us : List Symbol) → T (stops us) → taken symbol.Or us ≡ None
stops_or [] h = refl
stops_or (s ∷ us) h = passed s symbol.Or us (off (is s symbol.Or) (is s symbol.And) h).0

pub stops_and : (us : List Symbol) → T (stops us) → taken symbol.And us ≡ None
stops_and [] h = refl
stops_and (s ∷ us) h = passed s symbol.And us (off (is s symbol.Or) (is s symbol.And) h).1

middle_or : {exists : Bool} {o : Binary Name} {us vs : List Symbol} → SpellsMiddle exists o us vs → taken symbol.Or us ≡ None
middle_or no_braces = refl
middle_or (braces_before d) = refl
middle_or (braces_both d e) = refl

middle_and : {exists : Bool} {o : Binary Name} {us vs : List Symbol} → SpellsMiddle exists o us vs → taken symbol.And us ≡ None
middle_and no_braces = refl
middle_and (braces_before d) = refl
middle_and (braces_both d e) = refl

-- what was spelled so far is read, and read on from there
abbrev Goes : Level → Written → List Symbol → List Symbol → Type 0
Goes disjunctions t ts us = taken symbol.And us ≡ None → (o : Option (Written × List Symbol)) → Settles (more_or t) us o → Settles whole ts o
Goes conjunctions t ts us = (o : Option (Written × List Symbol)) → Settles (more_and t) us o → Settles joined ts o
Goes prefixes t ts us = Settles prefixed ts (Some (t, us))

angle : NoStart symbol.CloseAngle
angle = record { a_not = refl; a_true = refl; a_false = refl; a_tau = refl; an_open = refl; a_name = λ n. refl }

square : NoStart symbol.CloseSquare
square = record { a_not = refl; a_true = refl; a_false = refl; a_tau = refl; an_open = refl; a_name = λ n. refl }

goes : {l : Level} {t : Written} {ts us : List Symbol} → Spells l t ts us → Goes l t ts us
goes (formula.or_first {t} {us = us} d) = λ none o h. whole_of (goes d (Some (t, us)) (and_end none)) h
goes (formula.or_more {u = u} {vs = vs} d e) = λ none o h. goes d refl o (or_of refl (goes e (Some (u, vs)) (and_end none)) h)
goes (formula.and_first d) = λ o h. joined_of (goes d) h
goes (formula.and_more d e) = λ o h. goes d o (and_of refl (goes e) h)
goes formula.a_true = true_of
goes formula.a_false = false_of
goes formula.a_final = final_of
goes formula.a_name = name_of
goes (formula.a_not d) = not_on (applied_of negation (goes d))
goes (formula.an_ef d) = ef_on (applied_of eventually (goes d))
goes (formula.an_ag d) = ag_on (applied_of always (goes d))
goes (formula.a_diamond {g} g-spells d) = diamond_on (inside_read symbol.CloseAngle refl refl refl angle g-spells) (applied_of (diamond g) (goes d))
goes (formula.a_box {g} g-spells d) = box_on (inside_read symbol.CloseSquare refl refl refl square g-spells) (applied_of (box_all g) (goes d))
goes (formula.an_ex {g} g-spells d) = ex_on (braces_read g-spells (formula_start d)) (applied_of (diamond g) (goes d))
goes (formula.an_ax {g} g-spells d) = ax_on (braces_read g-spells (formula_start d)) (applied_of (all_next g) (goes d))
goes (formula.a_group {t} {us = us} d) = group_on (grouped_of (goes d refl (Some (t, symbol.CloseRound ∷ us)) (or_end refl)) refl)
goes (formula.a_binder {w} {t = t} {us = us} d h) = binder_on w (bound_of w refl (goes d (stops_and us h) (Some (t, us)) (or_end (stops_or us h))))
goes (formula.an_until {exists} {t = t} {u = u} {us = us} {ws = ws} d m e) =
    until_on exists (halves_of exists refl (goes d (middle_and m) (Some (t, us)) (or_end (middle_or m))) (middle_read m (formula_start e))
    (goes e refl (Some (u, symbol.CloseSquare ∷ ws)) (or_end refl)) refl)

pub spelled_read : {t : Written} {ts : List Symbol} → SpellsAll t ts → tree_of ts ≡ Some t
spelled_read {t} {ts} d = ap at_end (formula_settled ts (Some (t, [])) (goes d refl (Some (t, [])) (or_end refl)))
