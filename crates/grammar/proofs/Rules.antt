-- How readings of formulas settle, rule by rule. Assumes nothing.
use Rattle.std.proofs.Common.{◌≡◌, ℕ, suc, ◌+◌, ◌≤◌, Bool, true, false, List, [], ◌∷◌, Some, None, Option, refl, ap, ◌∙◌, arith}
use Rattle.text.specs.declared.names.Name.{Name}
use Rattle.symbols.specs.declared.Symbol.{Symbol}
use Rattle.symbols.specs.declared.Symbol.TheVariants as symbol
use Rattle.symbols.specs.Symbols.{taken}
use Rattle.trees.specs.Trees.{verum, falsum, final, named, Unary, negation, diamond, box_all, all_next, eventually, always, Binary, conjunction, disjunction, leaf, one, two, binder}
use Rattle.grammar.specs.Grammar.{WrittenEvents, Written, until_symbol, binder_symbol}
use Rattle.grammar.specs.EventParsing.{Reading, refused, got, and_then, if_taken}
use Rattle.grammar.specs.Parsing.{read_inside, read_braces, read_middle, read_bound, Sort, whole, more_or, joined, more_and, prefixed, applied, grouped, bound, halves, closed, last_half, turn, formula_in}
use Rattle.grammar.specs.Settling.{settled, Settles}
use Rattle.grammar.proofs.Readings.{later}
use Rattle.grammar.proofs.Turns.{formula_more}

abbrev Outcome : Type 0
Outcome = Option (Written × List Symbol)

-- one turn more
next : {s : Sort} {ts : List Symbol} {o : Outcome} (n : ℕ) → turn (formula_in n) s ts ≡ settled o → Settles s ts o
unfolding formula_in
next n e = record { turns = suc n; over = e }

-- with more turns the same
more : {s : Sort} {ts : List Symbol} {o : Outcome} (n : ℕ) (h : Settles s ts o) → h.turns ≤ n → formula_in n s ts ≡ settled o
more n h l = later formula_in formula_more n h.turns l _ _ _ h.over

module _ {ts us : List Symbol} {t : Written} {o : Outcome} where
  pub whole_of : Settles joined ts (Some (t, us)) → Settles (more_or t) us o → Settles whole ts o
  whole_of g h =
      let n : ℕ = g.turns + h.turns in
      next n (ap (λ x. and_then x (λ y vs. formula_in n (more_or y) vs)) (more n g (omega arith)) ∙ more n h (omega arith))

  pub joined_of : Settles prefixed ts (Some (t, us)) → Settles (more_and t) us o → Settles joined ts o
  joined_of g h =
      let n : ℕ = g.turns + h.turns in
      next n (ap (λ x. and_then x (λ y vs. formula_in n (more_and y) vs)) (more n g (omega arith)) ∙ more n h (omega arith))

module _ {ts : List Symbol} where
  pub whole_no : Settles joined ts None → Settles whole ts None
  whole_no g = next g.turns (ap (λ x. and_then x (λ y vs. formula_in g.turns (more_or y) vs)) g.over)

  pub joined_no : Settles prefixed ts None → Settles joined ts None
  joined_no g = next g.turns (ap (λ x. and_then x (λ y vs. formula_in g.turns (more_and y) vs)) g.over)

module _ {ts us vs : List Symbol} {t u : Written} {o : Outcome} where
  pub or_of : taken symbol.Or ts ≡ Some us → Settles joined us (Some (u, vs)) → Settles (more_or (two disjunction t u)) vs o → Settles (more_or t) ts o
  or_of e g h =
      let n : ℕ = g.turns + h.turns in
      let on : Written → List Symbol → Reading Written = λ y ws. formula_in n (more_or (two disjunction t y)) ws in
      next n (ap (λ x. if_taken x (λ ws. and_then (formula_in n joined ws) on) (got t ts)) e ∙ ap (λ x. and_then x on) (more n g (omega arith)) ∙ more n h (omega arith))

  pub and_of : taken symbol.And ts ≡ Some us → Settles prefixed us (Some (u, vs)) → Settles (more_and (two conjunction t u)) vs o → Settles (more_and t) ts o
  and_of e g h =
      let n : ℕ = g.turns + h.turns in
      let on : Written → List Symbol → Reading Written = λ y ws. formula_in n (more_and (two conjunction t y)) ws in
      next n (ap (λ x. if_taken x (λ ws. and_then (formula_in n prefixed ws) on) (got t ts)) e ∙ ap (λ x. and_then x on) (more n g (omega arith)) ∙ more n h (omega arith))

module _ {ts us : List Symbol} {t : Written} where
  pub or_no : taken symbol.Or ts ≡ Some us → Settles joined us None → Settles (more_or t) ts None
  or_no e g =
      let n : ℕ = g.turns in
      let on : Written → List Symbol → Reading Written = λ y ws. formula_in n (more_or (two disjunction t y)) ws in
      next n (ap (λ x. if_taken x (λ ws. and_then (formula_in n joined ws) on) (got t ts)) e ∙ ap (λ x. and_then x on) g.over)

  pub and_no : taken symbol.And ts ≡ Some us → Settles prefixed us None → Settles (more_and t) ts None
  and_no e g =
      let n : ℕ = g.turns in
      let on : Written → List Symbol → Reading Written = λ y ws. formula_in n (more_and (two conjunction t y)) ws in
      next n (ap (λ x. if_taken x (λ ws. and_then (formula_in n prefixed ws) on) (got t ts)) e ∙ ap (λ x. and_then x on) g.over)

module _ {ts : List Symbol} {t : Written} where
  pub or_end : taken symbol.Or ts ≡ None → Settles (more_or t) ts (Some (t, ts))
  or_end e = next 0 (ap (λ x. if_taken x (λ ws. and_then (formula_in 0 joined ws) (λ y xs. formula_in 0 (more_or (two disjunction t y)) xs)) (got t ts)) e)

  pub and_end : taken symbol.And ts ≡ None → Settles (more_and t) ts (Some (t, ts))
  and_end e = next 0 (ap (λ x. if_taken x (λ ws. and_then (formula_in 0 prefixed ws) (λ y xs. formula_in 0 (more_and (two conjunction t y)) xs)) (got t ts)) e)

pub empty_no : Settles prefixed [] None
empty_no = next 0 refl

module _ {us : List Symbol} where
  pub true_of : Settles prefixed (symbol.True ∷ us) (Some (leaf verum, us))
  true_of = next 0 refl

  pub false_of : Settles prefixed (symbol.False ∷ us) (Some (leaf falsum, us))
  false_of = next 0 refl

  pub final_of : Settles prefixed (symbol.Final ∷ us) (Some (leaf final, us))
  final_of = next 0 refl

  pub name_of : {n : Name} → Settles prefixed (symbol.Name n ∷ us) (Some (leaf (named n), us))
  name_of = next 0 refl

-- a prefix hands on to what reads behind it
module _ {us : List Symbol} {o : Outcome} where
  pub not_on : Settles (applied negation) us o → Settles prefixed (symbol.Not ∷ us) o
  not_on g = next g.turns g.over

  pub ef_on : Settles (applied eventually) us o → Settles prefixed (symbol.Eventually ∷ us) o
  ef_on g = next g.turns g.over

  pub ag_on : Settles (applied always) us o → Settles prefixed (symbol.Always ∷ us) o
  ag_on g = next g.turns g.over

  pub group_on : Settles grouped us o → Settles prefixed (symbol.OpenRound ∷ us) o
  group_on g = next g.turns g.over

  pub binder_on : (w : Bool) → Settles (bound w) us o → Settles prefixed (binder_symbol w ∷ us) o
  binder_on true g = next g.turns g.over
  binder_on false g = next g.turns g.over

  pub until_on : (exists : Bool) → Settles (halves exists) us o → Settles prefixed (until_symbol exists ∷ us) o
  until_on true g = next g.turns g.over
  until_on false g = next g.turns g.over

-- a prefix with an event formula
module _ {us vs : List Symbol} {g : Option WrittenEvents} {o : Outcome} where
  pub diamond_on : read_inside symbol.CloseAngle us ≡ got g vs → Settles (applied (diamond g)) vs o → Settles prefixed (symbol.OpenAngle ∷ us) o
  diamond_on e h = next h.turns (ap (λ x. and_then x (λ y ws. formula_in h.turns (applied (diamond y)) ws)) e ∙ h.over)

  pub box_on : read_inside symbol.CloseSquare us ≡ got g vs → Settles (applied (box_all g)) vs o → Settles prefixed (symbol.OpenSquare ∷ us) o
  box_on e h = next h.turns (ap (λ x. and_then x (λ y ws. formula_in h.turns (applied (box_all y)) ws)) e ∙ h.over)

  pub ex_on : read_braces us ≡ got g vs → Settles (applied (diamond g)) vs o → Settles prefixed (symbol.ExistsNext ∷ us) o
  ex_on e h = next h.turns (ap (λ x. and_then x (λ y ws. formula_in h.turns (applied (diamond y)) ws)) e ∙ h.over)

  pub ax_on : read_braces us ≡ got g vs → Settles (applied (all_next g)) vs o → Settles prefixed (symbol.AllNext ∷ us) o
  ax_on e h = next h.turns (ap (λ x. and_then x (λ y ws. formula_in h.turns (applied (all_next y)) ws)) e ∙ h.over)

module _ {us : List Symbol} where
  pub diamond_no : read_inside symbol.CloseAngle us ≡ refused → Settles prefixed (symbol.OpenAngle ∷ us) None
  diamond_no e = next 0 (ap (λ x. and_then x (λ y ws. formula_in 0 (applied (diamond y)) ws)) e)

  pub box_no : read_inside symbol.CloseSquare us ≡ refused → Settles prefixed (symbol.OpenSquare ∷ us) None
  box_no e = next 0 (ap (λ x. and_then x (λ y ws. formula_in 0 (applied (box_all y)) ws)) e)

  pub ex_no : read_braces us ≡ refused → Settles prefixed (symbol.ExistsNext ∷ us) None
  ex_no e = next 0 (ap (λ x. and_then x (λ y ws. formula_in 0 (applied (diamond y)) ws)) e)

  pub ax_no : read_braces us ≡ refused → Settles prefixed (symbol.AllNext ∷ us) None
  ax_no e = next 0 (ap (λ x. and_then x (λ y ws. formula_in 0 (applied (all_next y)) ws)) e)

-- the operand of a prefix
module _ {ts : List Symbol} (u : Unary Name) where
  pub applied_of : {us : List Symbol} {t : Written} → Settles prefixed ts (Some (t, us)) → Settles (applied u) ts (Some (one u t, us))
  applied_of g = next g.turns (ap (λ x. and_then x (λ t us. got (one u t) us)) g.over)

  pub applied_no : Settles prefixed ts None → Settles (applied u) ts None
  applied_no g = next g.turns (ap (λ x. and_then x (λ t us. got (one u t) us)) g.over)

-- behind an opening parenthesis
module _ {ts : List Symbol} where
  pub grouped_no : Settles whole ts None → Settles grouped ts None
  grouped_no g = next g.turns (ap (λ x. and_then x (closed (formula_in g.turns))) g.over)

  pub grouped_open : {us : List Symbol} {t : Written} → Settles whole ts (Some (t, us)) → taken symbol.CloseRound us ≡ None → Settles grouped ts None
  grouped_open {t = t} g e = next g.turns (ap (λ x. and_then x (closed (formula_in g.turns))) g.over ∙ ap (λ x. if_taken x (got t) refused) e)

  pub grouped_of : {us vs : List Symbol} {t : Written} → Settles whole ts (Some (t, us)) → taken symbol.CloseRound us ≡ Some vs → Settles grouped ts (Some (t, vs))
  grouped_of {t = t} g e = next g.turns (ap (λ x. and_then x (closed (formula_in g.turns))) g.over ∙ ap (λ x. if_taken x (got t) refused) e)

-- behind min or max
abbrev body : Bool → ℕ → Name → List Symbol → Reading Written
body w n x us = and_then (formula_in n whole us) (λ t vs. got (binder w x t) vs)

module _ {ts : List Symbol} (w : Bool) where
  pub bound_unnamed : read_bound ts ≡ refused → Settles (bound w) ts None
  bound_unnamed e = next 0 (ap (λ x. and_then x (body w 0)) e)

  pub bound_no : {us : List Symbol} {n : Name} → read_bound ts ≡ got n us → Settles whole us None → Settles (bound w) ts None
  bound_no {n = n} e g = next g.turns (ap (λ x. and_then x (body w g.turns)) e ∙ ap (λ x. and_then x (λ t vs. got (binder w n t) vs)) g.over)

  pub bound_of : {us vs : List Symbol} {n : Name} {t : Written} → read_bound ts ≡ got n us → Settles whole us (Some (t, vs)) → Settles (bound w) ts (Some (binder w n t, vs))
  bound_of {n = n} e g = next g.turns (ap (λ x. and_then x (body w g.turns)) e ∙ ap (λ x. and_then x (λ t vs. got (binder w n t) vs)) g.over)

-- behind E or A
abbrev second : Bool → ℕ → Written → List Symbol → Reading Written
second exists n t vs = and_then (read_middle exists vs) (last_half (formula_in n) t)

abbrev shuts : Binary Name → Written → Written → List Symbol → Reading Written
shuts o t u xs = if_taken (taken symbol.CloseSquare xs) (got (two o t u)) refused

module _ {ts : List Symbol} (exists : Bool) where
  opens : {us : List Symbol} {o : Outcome} (n : ℕ) → taken symbol.OpenSquare ts ≡ Some us → and_then (formula_in n whole us) (second exists n) ≡ settled o → Settles (halves exists) ts o
  opens n e h = next n (ap (λ x. if_taken x (λ us. and_then (formula_in n whole us) (second exists n)) refused) e ∙ h)

  pub halves_shut : taken symbol.OpenSquare ts ≡ None → Settles (halves exists) ts None
  halves_shut e = next 0 (ap (λ x. if_taken x (λ us. and_then (formula_in 0 whole us) (second exists 0)) refused) e)

  module _ {us : List Symbol} (e : taken symbol.OpenSquare ts ≡ Some us) where
    pub first_no : Settles whole us None → Settles (halves exists) ts None
    first_no g = opens g.turns e (ap (λ x. and_then x (second exists g.turns)) g.over)

    module _ {vs : List Symbol} {t : Written} (g : Settles whole us (Some (t, vs))) where
      pub middle_no : read_middle exists vs ≡ refused → Settles (halves exists) ts None
      middle_no m = opens g.turns e (ap (λ x. and_then x (second exists g.turns)) g.over ∙ ap (λ x. and_then x (last_half (formula_in g.turns) t)) m)

      module _ {ws : List Symbol} {o : Binary Name} (m : read_middle exists vs ≡ got o ws) where
        to_last : {p : Outcome} (n : ℕ) → g.turns ≤ n → and_then (formula_in n whole ws) (shuts o t) ≡ settled p → Settles (halves exists) ts p
        to_last n l h = opens n e (ap (λ x. and_then x (second exists n)) (more n g l) ∙ ap (λ x. and_then x (last_half (formula_in n) t)) m ∙ h)

        pub last_no : Settles whole ws None → Settles (halves exists) ts None
        last_no h = let n : ℕ = g.turns + h.turns in to_last n (omega arith) (ap (λ x. and_then x (shuts o t)) (more n h (omega arith)))

        module _ {xs : List Symbol} {u : Written} (h : Settles whole ws (Some (u, xs))) where
          pub last_open : taken symbol.CloseSquare xs ≡ None → Settles (halves exists) ts None
          last_open c = let n : ℕ = g.turns + h.turns in to_last n (omega arith) (ap (λ x. and_then x (shuts o t)) (more n h (omega arith)) ∙ ap (λ x. if_taken x (got (two o t u)) refused) c)

          pub halves_of : {ys : List Symbol} → taken symbol.CloseSquare xs ≡ Some ys → Settles (halves exists) ts (Some (two o t u, ys))
          halves_of c = let n : ℕ = g.turns + h.turns in to_last n (omega arith) (ap (λ x. and_then x (shuts o t)) (more n h (omega arith)) ∙ ap (λ x. if_taken x (got (two o t u)) refused) c)

-- no formula starts with the symbol
pub record NoStart (s : Symbol) : Type 0 where
  pub not_true : s ≡ symbol.True → ⊥
  pub not_false : s ≡ symbol.False → ⊥
  pub not_final : s ≡ symbol.Final → ⊥
  pub not_name : (n : Name) → s ≡ symbol.Name n → ⊥
  pub not_not : s ≡ symbol.Not → ⊥
  pub not_ef : s ≡ symbol.Eventually → ⊥
  pub not_ag : s ≡ symbol.Always → ⊥
  pub not_angle : s ≡ symbol.OpenAngle → ⊥
  pub not_square : s ≡ symbol.OpenSquare → ⊥
  pub not_ex : s ≡ symbol.ExistsNext → ⊥
  pub not_ax : s ≡ symbol.AllNext → ⊥
  pub not_open : s ≡ symbol.OpenRound → ⊥
  pub not_min : s ≡ symbol.Min → ⊥
  pub not_max : s ≡ symbol.Max → ⊥
  pub not_exists : s ≡ symbol.Exists → ⊥
  pub not_all : s ≡ symbol.All → ⊥

pub start_no : (s : Symbol) (us : List Symbol) → NoStart s → Settles prefixed (s ∷ us) None
start_no symbol.End us h = next 0 refl
start_no symbol.OpenRound us h = absurd (h.not_open refl)
start_no symbol.CloseRound us h = next 0 refl
start_no symbol.OpenSquare us h = absurd (h.not_square refl)
start_no symbol.CloseSquare us h = next 0 refl
start_no symbol.OpenCurly us h = next 0 refl
start_no symbol.CloseCurly us h = next 0 refl
start_no symbol.OpenAngle us h = absurd (h.not_angle refl)
start_no symbol.CloseAngle us h = next 0 refl
start_no symbol.Colon us h = next 0 refl
start_no symbol.True us h = absurd (h.not_true refl)
start_no symbol.False us h = absurd (h.not_false refl)
start_no symbol.Final us h = absurd (h.not_final refl)
start_no symbol.Not us h = absurd (h.not_not refl)
start_no symbol.And us h = next 0 refl
start_no symbol.Or us h = next 0 refl
start_no symbol.Tau us h = next 0 refl
start_no symbol.Min us h = absurd (h.not_min refl)
start_no symbol.Max us h = absurd (h.not_max refl)
start_no symbol.Exists us h = absurd (h.not_exists refl)
start_no symbol.All us h = absurd (h.not_all refl)
start_no symbol.Until us h = next 0 refl
start_no symbol.ExistsNext us h = absurd (h.not_ex refl)
start_no symbol.AllNext us h = absurd (h.not_ax refl)
start_no symbol.Eventually us h = absurd (h.not_ef refl)
start_no symbol.Always us h = absurd (h.not_ag refl)
start_no symbol.Silent us h = next 0 refl
start_no (symbol.Name n) us h = absurd (h.not_name n refl)
