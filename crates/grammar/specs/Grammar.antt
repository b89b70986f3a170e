-- Which symbols spell which formula. Assumes nothing.
use Rattle.std.specs.Prelude.{Bool, true, false, not, ◌||◌, T, List, [], ◌∷◌, Some, None, Option}
use Rattle.text.specs.declared.names.Name.{Name}
use Rattle.symbols.specs.declared.Symbol.{Symbol}
use Rattle.symbols.specs.declared.Symbol.TheVariants as symbol
use Rattle.symbols.specs.Symbols.{is}
use Rattle.trees.specs.Trees.{EventTree, top, bottom, tau, event, not_event, both_events, either_events, verum, falsum, final, named, negation, diamond, box_all, all_next, eventually, always, Binary, conjunction, disjunction, exists_until, all_until, exists_until_by, all_until_by, Tree, leaf, one, two, binder}

-- an event formula as it is written, with names
abbrev pub WrittenEvents : Type 0
WrittenEvents = EventTree Name

-- a formula as it is written, with names
abbrev pub Written : Type 0
Written = Tree Name Name Name

-- `or` binds weakest, then `and`, then prefixes
pub data Level : Type 0 where
  disjunctions : Level
  conjunctions : Level
  prefixes : Level

-- an event formula of a level with the tree t stands at the front of `ts`, and `us` is left behind it
pub data SpellsEvents : Level → WrittenEvents → List Symbol → List Symbol → Type 0 where
  -- `or` and `and` group left
  or_first : {t : WrittenEvents} {ts us : List Symbol} → SpellsEvents conjunctions t ts us → SpellsEvents disjunctions t ts us
  or_more : {t u : WrittenEvents} {ts us vs : List Symbol}
      → SpellsEvents disjunctions t ts (symbol.Or ∷ us) → SpellsEvents conjunctions u us vs → SpellsEvents disjunctions (either_events t u) ts vs
  and_first : {t : WrittenEvents} {ts us : List Symbol} → SpellsEvents prefixes t ts us → SpellsEvents conjunctions t ts us
  and_more : {t u : WrittenEvents} {ts us vs : List Symbol}
      → SpellsEvents conjunctions t ts (symbol.And ∷ us) → SpellsEvents prefixes u us vs → SpellsEvents conjunctions (both_events t u) ts vs
  a_not : {t : WrittenEvents} {ts us : List Symbol} → SpellsEvents prefixes t ts us → SpellsEvents prefixes (not_event t) (symbol.Not ∷ ts) us
  a_true : {ts : List Symbol} → SpellsEvents prefixes top (symbol.True ∷ ts) ts
  a_false : {ts : List Symbol} → SpellsEvents prefixes bottom (symbol.False ∷ ts) ts
  a_tau : {ts : List Symbol} → SpellsEvents prefixes tau (symbol.Tau ∷ ts) ts
  a_name : {n : Name} {ts : List Symbol} → SpellsEvents prefixes (event n) (symbol.Name n ∷ ts) ts
  -- ( ) group
  a_group : {t : WrittenEvents} {ts us : List Symbol} → SpellsEvents disjunctions t ts (symbol.CloseRound ∷ us) → SpellsEvents prefixes t (symbol.OpenRound ∷ ts) us

-- the inside of < > or [ ], up to behind the mark that closes it: an event formula or nothing
pub data SpellsInside (close : Symbol) : Option WrittenEvents → List Symbol → List Symbol → Type 0 where
  empty : {us : List Symbol} → SpellsInside close None (close ∷ us) us
  filled : {t : WrittenEvents} {ts us : List Symbol} → SpellsEvents disjunctions t ts (close ∷ us) → SpellsInside close (Some t) ts us

-- { } around an event formula, or no braces at all
pub data SpellsBraces : Option WrittenEvents → List Symbol → List Symbol → Type 0 where
  absent : {ts : List Symbol} → SpellsBraces None ts ts
  present : {t : WrittenEvents} {ts us : List Symbol} → SpellsEvents disjunctions t ts (symbol.CloseCurly ∷ us) → SpellsBraces (Some t) (symbol.OpenCurly ∷ ts) us

-- the middle of an until, E where the test is true and A where it is false; braces after U need braces before it
abbrev pub plain_until : Bool → Option WrittenEvents → Binary Name
plain_until true g = exists_until g
plain_until false g = all_until g

abbrev pub until_by : Bool → WrittenEvents → WrittenEvents → Binary Name
until_by true t u = exists_until_by (Some t) (Some u)
until_by false t u = all_until_by (Some t) (Some u)

pub data SpellsMiddle (exists : Bool) : Binary Name → List Symbol → List Symbol → Type 0 where
  no_braces : {us : List Symbol} → SpellsMiddle exists (plain_until exists None) (symbol.Until ∷ us) us
  braces_before : {t : WrittenEvents} {ts us : List Symbol}
      → SpellsEvents disjunctions t ts (symbol.CloseCurly ∷ symbol.Until ∷ us) → SpellsMiddle exists (plain_until exists (Some t)) (symbol.OpenCurly ∷ ts) us
  braces_both : {t u : WrittenEvents} {ts us vs : List Symbol}
      → SpellsEvents disjunctions t ts (symbol.CloseCurly ∷ symbol.Until ∷ symbol.OpenCurly ∷ us) → SpellsEvents disjunctions u us (symbol.CloseCurly ∷ vs)
      → SpellsMiddle exists (until_by exists t u) (symbol.OpenCurly ∷ ts) vs

abbrev pub until_symbol : Bool → Symbol
until_symbol true = symbol.Exists
until_symbol false = symbol.All

abbrev pub binder_symbol : Bool → Symbol
binder_symbol true = symbol.Min
binder_symbol false = symbol.Max

-- neither `or` nor `and` comes next: what stands before reaches as far right as it can
abbrev pub stops : List Symbol → Bool
stops [] = true
stops (s ∷ us) = not (is s symbol.Or || is s symbol.And)

-- a formula of a level with the tree t stands at the front of `ts`, and `us` is left behind it
pub data Spells : Level → Written → List Symbol → List Symbol → Type 0 where
  or_first : {t : Written} {ts us : List Symbol} → Spells conjunctions t ts us → Spells disjunctions t ts us
  or_more : {t u : Written} {ts us vs : List Symbol}
      → Spells disjunctions t ts (symbol.Or ∷ us) → Spells conjunctions u us vs → Spells disjunctions (two disjunction t u) ts vs
  and_first : {t : Written} {ts us : List Symbol} → Spells prefixes t ts us → Spells conjunctions t ts us
  and_more : {t u : Written} {ts us vs : List Symbol}
      → Spells conjunctions t ts (symbol.And ∷ us) → Spells prefixes u us vs → Spells conjunctions (two conjunction t u) ts vs
  a_true : {ts : List Symbol} → Spells prefixes (leaf verum) (symbol.True ∷ ts) ts
  a_false : {ts : List Symbol} → Spells prefixes (leaf falsum) (symbol.False ∷ ts) ts
  a_final : {ts : List Symbol} → Spells prefixes (leaf final) (symbol.Final ∷ ts) ts
  a_name : {n : Name} {ts : List Symbol} → Spells prefixes (leaf (named n)) (symbol.Name n ∷ ts) ts
  a_not : {t : Written} {ts us : List Symbol} → Spells prefixes t ts us → Spells prefixes (one negation t) (symbol.Not ∷ ts) us
  an_ef : {t : Written} {ts us : List Symbol} → Spells prefixes t ts us → Spells prefixes (one eventually t) (symbol.Eventually ∷ ts) us
  an_ag : {t : Written} {ts us : List Symbol} → Spells prefixes t ts us → Spells prefixes (one always t) (symbol.Always ∷ ts) us
  a_diamond : {g : Option WrittenEvents} {t : Written} {ts us vs : List Symbol}
      → SpellsInside symbol.CloseAngle g ts us → Spells prefixes t us vs → Spells prefixes (one (diamond g) t) (symbol.OpenAngle ∷ ts) vs
  a_box : {g : Option WrittenEvents} {t : Written} {ts us vs : List Symbol}
      → SpellsInside symbol.CloseSquare g ts us → Spells prefixes t us vs → Spells prefixes (one (box_all g) t) (symbol.OpenSquare ∷ ts) vs
  an_ex : {g : Option WrittenEvents} {t : Written} {ts us vs : List Symbol}
      → SpellsBraces g ts us → Spells prefixes t us vs → Spells prefixes (one (diamond g) t) (symbol.ExistsNext ∷ ts) vs
  an_ax : {g : Option WrittenEvents} {t : Written} {ts us vs : List Symbol}
      → SpellsBraces g ts us → Spells prefixes t us vs → Spells prefixes (one (all_next g) t) (symbol.AllNext ∷ ts) vs
  a_group : {t : Written} {ts us : List Symbol} → Spells disjunctions t ts (symbol.CloseRound ∷ us) → Spells prefixes t (symbol.OpenRound ∷ ts) us
  -- min and max reach as far right as they can
  a_binder : {w : Bool} {n : Name} {t : Written} {ts us : List Symbol}
      → Spells disjunctions t ts us → T (stops us) → Spells prefixes (binder w n t) (binder_symbol w ∷ symbol.Name n ∷ symbol.Colon ∷ ts) us
  an_until : {exists : Bool} {o : Binary Name} {t u : Written} {ts us vs ws : List Symbol}
      → Spells disjunctions t ts us → SpellsMiddle exists o us vs → Spells disjunctions u vs (symbol.CloseSquare ∷ ws)
      → Spells prefixes (two o t u) (until_symbol exists ∷ symbol.OpenSquare ∷ ts) ws

-- the symbols spell the formula with the tree t, all of them
abbrev pub SpellsAll : Written → List Symbol → Type 0
SpellsAll t ts = Spells disjunctions t ts []
