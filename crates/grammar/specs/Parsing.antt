-- The grammar of formulas as a function, in turns. Assumes nothing.
use Rattle.std.specs.Prelude.{ℕ, zero, suc, ◌+◌, ◌*◌, Bool, true, false, List, [], ◌∷◌, length, Some, None, Option}
use Rattle.text.specs.declared.names.Name.{Name}
use Rattle.symbols.specs.declared.Symbol.{Symbol}
use Rattle.symbols.specs.declared.Symbol.TheVariants as symbol
use Rattle.symbols.specs.Symbols.{taken}
use Rattle.trees.specs.Trees.{verum, falsum, final, named, Unary, negation, diamond, box_all, all_next, eventually, always, Binary, conjunction, disjunction, leaf, one, two, binder}
use Rattle.grammar.specs.Grammar.{WrittenEvents, Written, plain_until, until_by}
use Rattle.grammar.specs.EventParsing.{Reading, spent, refused, got, and_then, if_taken, read_events}

-- what stands before the mark that closes it
abbrev pub shut : Symbol → WrittenEvents → List Symbol → Reading (Option WrittenEvents)
shut close t us = if_taken (taken close us) (got (Some t)) refused

-- the inside of < > or [ ]
abbrev pub read_inside : Symbol → List Symbol → Reading (Option WrittenEvents)
read_inside close ts = if_taken (taken close ts) (got None) (and_then (read_events ts) (shut close))

-- braces, or none
abbrev pub read_braces : List Symbol → Reading (Option WrittenEvents)
read_braces ts = if_taken (taken symbol.OpenCurly ts) (λ us. and_then (read_events us) (shut symbol.CloseCurly)) (got None ts)

abbrev pub until_with : Bool → WrittenEvents → Option WrittenEvents → Binary Name
until_with exists t None = plain_until exists (Some t)
until_with exists t (Some u) = until_by exists t u

-- behind U: braces only where there were some before it
abbrev pub behind_until : Bool → Option WrittenEvents → List Symbol → Reading (Binary Name)
behind_until exists None us = got (plain_until exists None) us
behind_until exists (Some t) us = and_then (read_braces us) (λ h vs. got (until_with exists t h) vs)

-- the middle of an until
abbrev pub read_middle : Bool → List Symbol → Reading (Binary Name)
read_middle exists ts = and_then (read_braces ts) (λ g us. if_taken (taken symbol.Until us) (behind_until exists g) refused)

-- the name behind min or max, and the colon behind it
abbrev pub before_colon : Name → List Symbol → Reading Name
before_colon n us = if_taken (taken symbol.Colon us) (got n) refused

abbrev pub name_first : Symbol → List Symbol → Reading Name
name_first symbol.End us = refused
name_first symbol.OpenRound us = refused
name_first symbol.CloseRound us = refused
name_first symbol.OpenSquare us = refused
name_first symbol.CloseSquare us = refused
name_first symbol.OpenCurly us = refused
name_first symbol.CloseCurly us = refused
name_first symbol.OpenAngle us = refused
name_first symbol.CloseAngle us = refused
name_first symbol.Colon us = refused
name_first symbol.True us = refused
name_first symbol.False us = refused
name_first symbol.Final us = refused
name_first symbol.Not us = refused
name_first symbol.And us = refused
name_first symbol.Or us = refused
name_first symbol.Tau us = refused
name_first symbol.Min us = refused
name_first symbol.Max us = refused
name_first symbol.Exists us = refused
name_first symbol.All us = refused
name_first symbol.Until us = refused
name_first symbol.ExistsNext us = refused
name_first symbol.AllNext us = refused
name_first symbol.Eventually us = refused
name_first symbol.Always us = refused
name_first symbol.Silent us = refused
name_first (symbol.Name n) us = before_colon n us

abbrev pub read_bound : List Symbol → Reading Name
read_bound [] = refused
read_bound (s ∷ us) = name_first s us

-- what is read: a whole formula; the rest of one whose left side was read; a conjunction; the rest of one; a prefix and its operand; the operand
-- of a given prefix; what is behind an opening parenthesis; behind min or max; behind E or A
pub data Sort : Type 0 where
  whole : Sort
  more_or : Written → Sort
  joined : Sort
  more_and : Written → Sort
  prefixed : Sort
  applied : Unary Name → Sort
  grouped : Sort
  bound : Bool → Sort
  halves : Bool → Sort

-- one turn, over what the others read
module _ (rest : Sort → List Symbol → Reading Written) where
  abbrev pub closed : Written → List Symbol → Reading Written
  closed t us = if_taken (taken symbol.CloseRound us) (got t) refused

  -- by the first symbol
  abbrev pub start : Symbol → List Symbol → Reading Written
  start symbol.End us = refused
  start symbol.OpenRound us = rest grouped us
  start symbol.CloseRound us = refused
  start symbol.OpenSquare us = and_then (read_inside symbol.CloseSquare us) (λ g vs. rest (applied (box_all g)) vs)
  start symbol.CloseSquare us = refused
  start symbol.OpenCurly us = refused
  start symbol.CloseCurly us = refused
  start symbol.OpenAngle us = and_then (read_inside symbol.CloseAngle us) (λ g vs. rest (applied (diamond g)) vs)
  start symbol.CloseAngle us = refused
  start symbol.Colon us = refused
  start symbol.True us = got (leaf verum) us
  start symbol.False us = got (leaf falsum) us
  start symbol.Final us = got (leaf final) us
  start symbol.Not us = rest (applied negation) us
  start symbol.And us = refused
  start symbol.Or us = refused
  start symbol.Tau us = refused
  start symbol.Min us = rest (bound true) us
  start symbol.Max us = rest (bound false) us
  start symbol.Exists us = rest (halves true) us
  start symbol.All us = rest (halves false) us
  start symbol.Until us = refused
  start symbol.ExistsNext us = and_then (read_braces us) (λ g vs. rest (applied (diamond g)) vs)
  start symbol.AllNext us = and_then (read_braces us) (λ g vs. rest (applied (all_next g)) vs)
  start symbol.Eventually us = rest (applied eventually) us
  start symbol.Always us = rest (applied always) us
  start symbol.Silent us = refused
  start (symbol.Name n) us = got (leaf (named n)) us

  abbrev pub start_at : List Symbol → Reading Written
  start_at [] = refused
  start_at (s ∷ us) = start s us

  -- the second half of an until, and the bracket behind it
  abbrev pub last_half : Written → Binary Name → List Symbol → Reading Written
  last_half t o ts = and_then (rest whole ts) (λ u us. if_taken (taken symbol.CloseSquare us) (got (two o t u)) refused)

  abbrev pub turn : Sort → List Symbol → Reading Written
  turn whole ts = and_then (rest joined ts) (λ t us. rest (more_or t) us)
  turn (more_or t) ts = if_taken (taken symbol.Or ts) (λ us. and_then (rest joined us) (λ u vs. rest (more_or (two disjunction t u)) vs)) (got t ts)
  turn joined ts = and_then (rest prefixed ts) (λ t us. rest (more_and t) us)
  turn (more_and t) ts = if_taken (taken symbol.And ts) (λ us. and_then (rest prefixed us) (λ u vs. rest (more_and (two conjunction t u)) vs)) (got t ts)
  turn prefixed ts = start_at ts
  turn (applied u) ts = and_then (rest prefixed ts) (λ t us. got (one u t) us)
  turn grouped ts = and_then (rest whole ts) closed
  turn (bound w) ts = and_then (read_bound ts) (λ n us. and_then (rest whole us) (λ t vs. got (binder w n t) vs))
  turn (halves exists) ts =
      if_taken (taken symbol.OpenSquare ts) (λ us. and_then (rest whole us) (λ t vs. and_then (read_middle exists vs) (last_half t))) refused

unfoldable pub formula_in : ℕ → Sort → List Symbol → Reading Written
formula_in zero sort ts = spent
formula_in (suc turns) sort ts = turn (formula_in turns) sort ts

-- the formula at the front: so many turns reach its end
abbrev pub read_formula : List Symbol → Reading Written
read_formula ts = formula_in (5 * length ts + 5) whole ts

abbrev pub at_end : Reading Written → Option Written
at_end spent = None
at_end refused = None
at_end (got t []) = Some t
at_end (got t (s ∷ us)) = None

-- the formula that all of the symbols spell
abbrev pub tree_of : List Symbol → Option Written
tree_of ts = at_end (read_formula ts)
