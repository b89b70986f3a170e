-- Readings of formulas: more turns say no less, and enough turns settle them. Assumes nothing.
use Rattle.std.proofs.Common.{◌≡◌, ℕ, zero, suc, ◌+◌, ◌*◌, ◌<◌, ◌≤◌, Bool, true, false, List, [], ◌∷◌, length, Some, None, Option, sym, refl, ap, ◌∙◌, arith}
use Rattle.text.specs.declared.names.Name.{Name}
use Rattle.symbols.specs.declared.Symbol.{Symbol}
use Rattle.symbols.specs.declared.Symbol.TheVariants as symbol
use Rattle.symbols.specs.Symbols.{taken}
use Rattle.trees.specs.Trees.{negation, diamond, box_all, all_next, eventually, always, Binary, conjunction, disjunction, one, two, binder}
use Rattle.grammar.specs.Grammar.{WrittenEvents, Written}
use Rattle.grammar.specs.EventParsing.{Reading, refused, got, and_then, if_taken, read_events}
use Rattle.grammar.specs.Parsing.{shut, read_inside, read_braces, until_with, behind_until, read_middle, name_first, read_bound, Sort, whole, more_or, joined, more_and, prefixed, applied, grouped, bound, halves, closed, start, last_half, turn, formula_in, read_formula}
use Rattle.grammar.specs.Settling.{settled, Settles}
use Rattle.grammar.proofs.Readings.{Below, below_refl, then_below, taken_below, later, Fine, then_fine, fine_more, taken_fine, fine_settled, one_outcome}
use Rattle.grammar.proofs.EventTurns.{read_fine}

abbrev Run : Type 0
Run = Sort → List Symbol → Reading Written

-- a turn over readings that say more says more
module _ (f g : Run) (h : (s : Sort) (ts : List Symbol) → Below (f s ts) (g s ts)) where
  start_below : (s : Symbol) (us : List Symbol) → Below (start f s us) (start g s us)
  start_below symbol.End us = refl
  start_below symbol.OpenRound us = h grouped us
  start_below symbol.CloseRound us = refl
  start_below symbol.OpenSquare us =
      then_below (read_inside symbol.CloseSquare us) (read_inside symbol.CloseSquare us) (λ x vs. f (applied (box_all x)) vs) (λ x vs. g (applied (box_all x)) vs) (below_refl (read_inside symbol.CloseSquare us)) (λ x vs. h (applied (box_all x)) vs)
  start_below symbol.CloseSquare us = refl
  start_below symbol.OpenCurly us = refl
  start_below symbol.CloseCurly us = refl
  start_below symbol.OpenAngle us =
      then_below (read_inside symbol.CloseAngle us) (read_inside symbol.CloseAngle us) (λ x vs. f (applied (diamond x)) vs) (λ x vs. g (applied (diamond x)) vs) (below_refl (read_inside symbol.CloseAngle us)) (λ x vs. h (applied (diamond x)) vs)
  start_below symbol.CloseAngle us = refl
  start_below symbol.Colon us = refl
  start_below symbol.True us = refl
  start_below symbol.False us = refl
  start_below symbol.Final us = refl
  start_below symbol.Not us = h (applied negation) us
  start_below symbol.And us = refl
  start_below symbol.Or us = refl
  start_below symbol.Tau us = refl
  start_below symbol.Min us = h (bound true) us
  start_below symbol.Max us = h (bound false) us
  start_below symbol.Exists us = h (halves true) us
  start_below symbol.All us = h (halves false) us
  start_below symbol.Until us = refl
  start_below symbol.ExistsNext us =
      then_below (read_braces us) (read_braces us) (λ x vs. f (applied (diamond x)) vs) (λ x vs. g (applied (diamond x)) vs) (below_refl (read_braces us)) (λ x vs. h (applied (diamond x)) vs)
  start_below symbol.AllNext us =
      then_below (read_braces us) (read_braces us) (λ x vs. f (applied (all_next x)) vs) (λ x vs. g (applied (all_next x)) vs) (below_refl (read_braces us)) (λ x vs. h (applied (all_next x)) vs)
  start_below symbol.Eventually us = h (applied eventually) us
  start_below symbol.Always us = h (applied always) us
  start_below symbol.Silent us = refl
  start_below (symbol.Name n) us = refl

  half_below : (t : Written) (o : Binary Name) (ts : List Symbol) → Below (last_half f t o ts) (last_half g t o ts)
  half_below t o ts =
      then_below (f whole ts) (g whole ts) (λ u us. if_taken (taken symbol.CloseSquare us) (got (two o t u)) refused) (λ u us. if_taken (taken symbol.CloseSquare us) (got (two o t u)) refused)
      (h whole ts) (λ u us. below_refl (if_taken (taken symbol.CloseSquare us) (got (two o t u)) refused))

  turn_below : (s : Sort) (ts : List Symbol) → Below (turn f s ts) (turn g s ts)
  turn_below whole ts = then_below (f joined ts) (g joined ts) (λ t us. f (more_or t) us) (λ t us. g (more_or t) us) (h joined ts) (λ t us. h (more_or t) us)
  turn_below (more_or t) ts =
      taken_below (taken symbol.Or ts) _ _ (got t ts) (got t ts)
      (λ us. then_below (f joined us) (g joined us) (λ u vs. f (more_or (two disjunction t u)) vs) (λ u vs. g (more_or (two disjunction t u)) vs) (h joined us) (λ u vs. h (more_or (two disjunction t u)) vs)) refl
  turn_below joined ts = then_below (f prefixed ts) (g prefixed ts) (λ t us. f (more_and t) us) (λ t us. g (more_and t) us) (h prefixed ts) (λ t us. h (more_and t) us)
  turn_below (more_and t) ts =
      taken_below (taken symbol.And ts) _ _ (got t ts) (got t ts)
      (λ us. then_below (f prefixed us) (g prefixed us) (λ u vs. f (more_and (two conjunction t u)) vs) (λ u vs. g (more_and (two conjunction t u)) vs) (h prefixed us) (λ u vs. h (more_and (two conjunction t u)) vs)) refl
  turn_below prefixed [] = refl
  turn_below prefixed (s ∷ us) = start_below s us
  turn_below (applied u) ts = then_below (f prefixed ts) (g prefixed ts) (λ t us. got (one u t) us) (λ t us. got (one u t) us) (h prefixed ts) (λ t us. refl)
  turn_below grouped ts = then_below (f whole ts) (g whole ts) (closed f) (closed g) (h whole ts) (λ t us. below_refl (closed f t us))
  turn_below (bound w) ts =
      then_below (read_bound ts) (read_bound ts) (λ n us. and_then (f whole us) (λ t vs. got (binder w n t) vs)) (λ n us. and_then (g whole us) (λ t vs. got (binder w n t) vs)) (below_refl (read_bound ts))
      (λ n us. then_below (f whole us) (g whole us) (λ t vs. got (binder w n t) vs) (λ t vs. got (binder w n t) vs) (h whole us) (λ t vs. refl))
  turn_below (halves exists) ts =
      taken_below (taken symbol.OpenSquare ts) _ _ refused refused
      (λ us. then_below (f whole us) (g whole us) (λ t vs. and_then (read_middle exists vs) (last_half f t)) (λ t vs. and_then (read_middle exists vs) (last_half g t)) (h whole us)
      (λ t vs. then_below (read_middle exists vs) (read_middle exists vs) (last_half f t) (last_half g t) (below_refl (read_middle exists vs)) (half_below t))) refl

pub formula_more : (n : ℕ) (s : Sort) (ts : List Symbol) → Below (formula_in n s ts) (formula_in (suc n) s ts)
unfolding formula_in
formula_more zero s ts = tt
formula_more (suc n) s ts = turn_below (formula_in n) (formula_in (suc n)) (formula_more n) s ts

-- what stands around event formulas settles at once
shut_fine : (close : Symbol) (b : ℕ) (t : WrittenEvents) (us : List Symbol) → length us < b → Fine b (shut close t us)
shut_fine close b t us l = taken_fine b close us (got (Some t)) refused (λ vs e. omega arith) tt

inside_fine : (close : Symbol) (ts : List Symbol) → Fine (length ts) (read_inside close ts)
inside_fine close ts =
    taken_fine (length ts) close ts (got None) _ (λ us e. omega arith)
    (then_fine (length ts) (length ts) (read_events ts) (shut close) (read_fine ts) (λ t us l. shut_fine close (length ts) t us l))

braces_fine : (ts : List Symbol) → Fine (suc (length ts)) (read_braces ts)
braces_fine ts =
    taken_fine (suc (length ts)) symbol.OpenCurly ts _ (got None ts)
    (λ us e. then_fine (length us) (suc (length ts)) (read_events us) (shut symbol.CloseCurly) (read_fine us) (λ t vs l. shut_fine symbol.CloseCurly (suc (length ts)) t vs (omega arith)))
    (omega arith)

behind_fine : (exists : Bool) (g : Option WrittenEvents) (us : List Symbol) → Fine (suc (length us)) (behind_until exists g us)
behind_fine exists None us = omega arith
behind_fine exists (Some t) us = then_fine (suc (length us)) (suc (length us)) (read_braces us) (λ x vs. got (until_with exists t x) vs) (braces_fine us) (λ x vs l. l)

middle_fine : (exists : Bool) (ts : List Symbol) → Fine (length ts) (read_middle exists ts)
middle_fine exists ts =
    then_fine (suc (length ts)) (length ts) (read_braces ts) (λ g us. if_taken (taken symbol.Until us) (behind_until exists g) refused) (braces_fine ts)
    (λ g us l. taken_fine (length ts) symbol.Until us (behind_until exists g) refused
    (λ vs e. fine_more (suc (length vs)) (length ts) (behind_until exists g vs) (omega arith) (behind_fine exists g vs)) tt)

name_fine : (s : Symbol) (us : List Symbol) → Fine (suc (length us)) (name_first s us)
name_fine symbol.End us = tt
name_fine symbol.OpenRound us = tt
name_fine symbol.CloseRound us = tt
name_fine symbol.OpenSquare us = tt
name_fine symbol.CloseSquare us = tt
name_fine symbol.OpenCurly us = tt
name_fine symbol.CloseCurly us = tt
name_fine symbol.OpenAngle us = tt
name_fine symbol.CloseAngle us = tt
name_fine symbol.Colon us = tt
name_fine symbol.True us = tt
name_fine symbol.False us = tt
name_fine symbol.Final us = tt
name_fine symbol.Not us = tt
name_fine symbol.And us = tt
name_fine symbol.Or us = tt
name_fine symbol.Tau us = tt
name_fine symbol.Min us = tt
name_fine symbol.Max us = tt
name_fine symbol.Exists us = tt
name_fine symbol.All us = tt
name_fine symbol.Until us = tt
name_fine symbol.ExistsNext us = tt
name_fine symbol.AllNext us = tt
name_fine symbol.Eventually us = tt
name_fine symbol.Always us = tt
name_fine symbol.Silent us = tt
name_fine (symbol.Name n) us = taken_fine (suc (length us)) symbol.Colon us (got n) refused (λ vs e. omega arith) tt

bound_fine : (ts : List Symbol) → Fine (length ts) (read_bound ts)
bound_fine [] = tt
bound_fine (s ∷ us) = name_fine s us

-- how many turns a reading takes at most, and how many symbols it leaves
abbrev turns : Sort → ℕ → ℕ
turns whole l = 5 * l + 3
turns (more_or t) l = 5 * l + 1
turns joined l = 5 * l + 2
turns (more_and t) l = 5 * l + 1
turns prefixed l = 5 * l + 1
turns (applied u) l = 5 * l + 2
turns grouped l = 5 * l + 4
turns (bound w) l = 5 * l + 4
turns (halves exists) l = 5 * l + 4

abbrev leaves : Sort → ℕ → ℕ
leaves whole l = l
leaves (more_or t) l = suc l
leaves joined l = l
leaves (more_and t) l = suc l
leaves prefixed l = l
leaves (applied u) l = l
leaves grouped l = l
leaves (bound w) l = l
leaves (halves exists) l = l

module _ (f : Run) (n : ℕ) (h : (s : Sort) (ts : List Symbol) → turns s (length ts) ≤ n → Fine (leaves s (length ts)) (f s ts)) where
  -- a reading from at most so many symbols on
  from_fine : (s : Sort) (us : List Symbol) (c : ℕ) → turns s (length us) ≤ n → leaves s (length us) ≤ c → Fine c (f s us)
  from_fine s us c l m = fine_more (leaves s (length us)) c (f s us) m (h s us l)

  start_fine : (s : Symbol) (us : List Symbol) → 5 * length us + 5 ≤ n → Fine (suc (length us)) (start f s us)
  start_fine symbol.End us l = tt
  start_fine symbol.OpenRound us l = from_fine grouped us (suc (length us)) (omega arith) (omega arith)
  start_fine symbol.CloseRound us l = tt
  start_fine symbol.OpenSquare us l =
      then_fine (length us) (suc (length us)) (read_inside symbol.CloseSquare us) (λ x vs. f (applied (box_all x)) vs) (inside_fine symbol.CloseSquare us) (λ x vs m. from_fine (applied (box_all x)) vs (suc (length us)) (omega arith) (omega arith))
  start_fine symbol.CloseSquare us l = tt
  start_fine symbol.OpenCurly us l = tt
  start_fine symbol.CloseCurly us l = tt
  start_fine symbol.OpenAngle us l =
      then_fine (length us) (suc (length us)) (read_inside symbol.CloseAngle us) (λ x vs. f (applied (diamond x)) vs) (inside_fine symbol.CloseAngle us) (λ x vs m. from_fine (applied (diamond x)) vs (suc (length us)) (omega arith) (omega arith))
  start_fine symbol.CloseAngle us l = tt
  start_fine symbol.Colon us l = tt
  start_fine symbol.True us l = omega arith
  start_fine symbol.False us l = omega arith
  start_fine symbol.Final us l = omega arith
  start_fine symbol.Not us l = from_fine (applied negation) us (suc (length us)) (omega arith) (omega arith)
  start_fine symbol.And us l = tt
  start_fine symbol.Or us l = tt
  start_fine symbol.Tau us l = tt
  start_fine symbol.Min us l = from_fine (bound true) us (suc (length us)) (omega arith) (omega arith)
  start_fine symbol.Max us l = from_fine (bound false) us (suc (length us)) (omega arith) (omega arith)
  start_fine symbol.Exists us l = from_fine (halves true) us (suc (length us)) (omega arith) (omega arith)
  start_fine symbol.All us l = from_fine (halves false) us (suc (length us)) (omega arith) (omega arith)
  start_fine symbol.Until us l = tt
  start_fine symbol.ExistsNext us l =
      then_fine (suc (length us)) (suc (length us)) (read_braces us) (λ x vs. f (applied (diamond x)) vs) (braces_fine us) (λ x vs m. from_fine (applied (diamond x)) vs (suc (length us)) (omega arith) (omega arith))
  start_fine symbol.AllNext us l =
      then_fine (suc (length us)) (suc (length us)) (read_braces us) (λ x vs. f (applied (all_next x)) vs) (braces_fine us) (λ x vs m. from_fine (applied (all_next x)) vs (suc (length us)) (omega arith) (omega arith))
  start_fine symbol.Eventually us l = from_fine (applied eventually) us (suc (length us)) (omega arith) (omega arith)
  start_fine symbol.Always us l = from_fine (applied always) us (suc (length us)) (omega arith) (omega arith)
  start_fine symbol.Silent us l = tt
  start_fine (symbol.Name n) us l = omega arith

  half_fine : (t : Written) (o : Binary Name) (c : ℕ) (ts : List Symbol) → 5 * length ts + 3 ≤ n → length ts ≤ c → Fine c (last_half f t o ts)
  half_fine t o c ts l m =
      then_fine (length ts) c (f whole ts) (λ u us. if_taken (taken symbol.CloseSquare us) (got (two o t u)) refused) (h whole ts l)
      (λ u us k. taken_fine c symbol.CloseSquare us (got (two o t u)) refused (λ vs e. omega arith) tt)

  turn_fine : (s : Sort) (ts : List Symbol) → turns s (length ts) ≤ suc n → Fine (leaves s (length ts)) (turn f s ts)
  turn_fine whole ts l =
      then_fine (length ts) (length ts) (f joined ts) (λ t us. f (more_or t) us) (h joined ts (omega arith)) (λ t us m. from_fine (more_or t) us (length ts) (omega arith) (omega arith))
  turn_fine (more_or t) ts l =
      taken_fine (suc (length ts)) symbol.Or ts _ (got t ts)
      (λ us e. then_fine (length us) (suc (length ts)) (f joined us) (λ u vs. f (more_or (two disjunction t u)) vs) (h joined us (omega arith))
      (λ u vs m. from_fine (more_or (two disjunction t u)) vs (suc (length ts)) (omega arith) (omega arith)))
      (omega arith)
  turn_fine joined ts l =
      then_fine (length ts) (length ts) (f prefixed ts) (λ t us. f (more_and t) us) (h prefixed ts (omega arith)) (λ t us m. from_fine (more_and t) us (length ts) (omega arith) (omega arith))
  turn_fine (more_and t) ts l =
      taken_fine (suc (length ts)) symbol.And ts _ (got t ts)
      (λ us e. then_fine (length us) (suc (length ts)) (f prefixed us) (λ u vs. f (more_and (two conjunction t u)) vs) (h prefixed us (omega arith))
      (λ u vs m. from_fine (more_and (two conjunction t u)) vs (suc (length ts)) (omega arith) (omega arith)))
      (omega arith)
  turn_fine prefixed [] l = tt
  turn_fine prefixed (s ∷ us) l = start_fine s us (omega arith)
  turn_fine (applied u) ts l = then_fine (length ts) (length ts) (f prefixed ts) (λ t us. got (one u t) us) (h prefixed ts (omega arith)) (λ t us m. m)
  turn_fine grouped ts l =
      then_fine (length ts) (length ts) (f whole ts) (closed f) (h whole ts (omega arith))
      (λ t us m. taken_fine (length ts) symbol.CloseRound us (got t) refused (λ vs e. omega arith) tt)
  turn_fine (bound w) ts l =
      then_fine (length ts) (length ts) (read_bound ts) (λ n us. and_then (f whole us) (λ t vs. got (binder w n t) vs)) (bound_fine ts)
      (λ n us m. then_fine (length us) (length ts) (f whole us) (λ t vs. got (binder w n t) vs) (h whole us (omega arith)) (λ t vs k. omega arith))
  turn_fine (halves exists) ts l =
      taken_fine (length ts) symbol.OpenSquare ts _ refused
      (λ us e. then_fine (length us) (length ts) (f whole us) (λ t vs. and_then (read_middle exists vs) (last_half f t)) (h whole us (omega arith))
      (λ t vs m. then_fine (length vs) (length ts) (read_middle exists vs) (last_half f t) (middle_fine exists vs)
      (λ o ws k. half_fine t o (length ts) ws (omega arith) (omega arith))))
      tt

formula_fine : (n : ℕ) (s : Sort) (ts : List Symbol) → turns s (length ts) ≤ n → Fine (leaves s (length ts)) (formula_in n s ts)
unfolding formula_in
formula_fine zero s ts l = absurd (none s l)
  where
    none : (x : Sort) → turns x (length ts) ≤ 0 → ⊥
    none whole k = omega arith
    none (more_or t) k = omega arith
    none joined k = omega arith
    none (more_and t) k = omega arith
    none prefixed k = omega arith
    none (applied u) k = omega arith
    none grouped k = omega arith
    none (bound w) k = omega arith
    none (halves exists) k = omega arith
formula_fine (suc n) s ts l = turn_fine (formula_in n) n (formula_fine n) s ts l

-- what a number of turns settles is what is read
pub formula_settled : (ts : List Symbol) (o : Option (Written × List Symbol)) → Settles whole ts o → read_formula ts ≡ settled o
formula_settled ts o h =
    let n : ℕ = 5 * length ts + 5 in
    let all = fine_settled (length ts) (read_formula ts) (formula_fine n whole ts (omega arith)) in
    let m : ℕ = n + h.turns in
    let one = one_outcome (formula_in m whole ts) o all.0 (later formula_in formula_more m h.turns (omega arith) whole ts o h.over) (later formula_in formula_more m n (omega arith) whole ts all.0 all.1) in
    all.1 ∙ ap settled (sym one)
