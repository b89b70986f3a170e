-- All that is read is spelled by the grammar. Assumes nothing.
use Rattle.std.proofs.Common.{◌≡◌, ℕ, zero, suc, Bool, true, false, cond, not, ◌||◌, T, ◌⊎◌, List, [], ◌∷◌, Some, None, Option, sym, refl, ap, ◌∙◌, subst, inl, inr, arith}
use Rattle.text.specs.declared.names.Name.{Name}
use Rattle.symbols.specs.declared.Symbol.{Symbol}
use Rattle.symbols.specs.declared.Symbol.TheVariants as symbol
use Rattle.symbols.specs.Symbols.{is, taken}
use Rattle.symbols.proofs.Telling.{IsPlain}
use Rattle.trees.specs.Trees.{Unary, negation, diamond, box_all, all_next, eventually, always, Binary, conjunction, disjunction, one, two, binder}
use Rattle.grammar.specs.Grammar.{WrittenEvents, Written, disjunctions, conjunctions, prefixes, SpellsEvents, SpellsInside, empty, filled, SpellsBraces, absent, present, SpellsMiddle, no_braces, braces_before, braces_both, plain_until, until_symbol, binder_symbol, stops, Spells, SpellsAll}
use Rattle.grammar.specs.Grammar.{Spells as formula}
use Rattle.grammar.specs.EventParsing.{Reading, spent, refused, got, and_then, if_taken, read_events}
use Rattle.grammar.specs.Parsing.{shut, read_inside, read_braces, until_with, behind_until, read_middle, name_first, read_bound, Sort, whole, more_or, joined, more_and, prefixed, applied, grouped, bound, halves, closed, start, last_half, turn, formula_in, read_formula, at_end, tree_of}
use Rattle.grammar.specs.Telling.{OneFormula}
use Rattle.grammar.proofs.EventGrammar.{Of, then_of, taken_of, read_spells}
use Rattle.grammar.proofs.Complete.{spelled_read}

-- what is read of the marks around event formulas
inside_spells : (close : Symbol) → IsPlain close → (ts : List Symbol) → Of (λ g us. SpellsInside close g ts us) (read_inside close ts)
inside_spells close h ts =
    taken_of (λ g us. SpellsInside close g ts us) close h ts (got None) (and_then (read_events ts) (shut close))
    (λ us e. subst (λ xs. SpellsInside close None xs us) (sym e) empty)
    (λ none. then_of (λ t us. SpellsEvents disjunctions t ts us) (λ g us. SpellsInside close g ts us) (read_events ts) (shut close) (read_spells ts)
    (λ t us d. taken_of (λ g vs. SpellsInside close g ts vs) close h us (got (Some t)) refused (λ vs e. filled (subst (λ xs. SpellsEvents disjunctions t ts xs) e d)) (λ none. tt)))

braces_spell : (ts : List Symbol) → Of (λ g us. SpellsBraces g ts us) (read_braces ts)
braces_spell ts =
    taken_of (λ g us. SpellsBraces g ts us) symbol.OpenCurly tt ts (λ us. and_then (read_events us) (shut symbol.CloseCurly)) (got None ts)
    (λ us e. subst (λ xs. Of (λ g vs. SpellsBraces g xs vs) (and_then (read_events us) (shut symbol.CloseCurly))) (sym e)
    (then_of (λ t vs. SpellsEvents disjunctions t us vs) (λ g vs. SpellsBraces g (symbol.OpenCurly ∷ us) vs) (read_events us) (shut symbol.CloseCurly) (read_spells us)
    (λ t vs d. taken_of (λ g ws. SpellsBraces g (symbol.OpenCurly ∷ us) ws) symbol.CloseCurly tt vs (got (Some t)) refused
    (λ ws f. present (subst (λ xs. SpellsEvents disjunctions t us xs) f d)) (λ none. tt))))
    (λ none. absent)

-- braces that are there
inside_braces : {t : WrittenEvents} {ts us : List Symbol} → SpellsBraces (Some t) ts us → (vs : List Symbol) × (ts ≡ symbol.OpenCurly ∷ vs) × SpellsEvents disjunctions t vs (symbol.CloseCurly ∷ us)
inside_braces (present {ts = vs} d) = (vs, refl, d)

no_braces_left : {ts us : List Symbol} → SpellsBraces None ts us → ts ≡ us
no_braces_left absent = refl

middle_spells : (exists : Bool) (ts : List Symbol) → Of (λ o us. SpellsMiddle exists o ts us) (read_middle exists ts)
middle_spells exists ts =
    then_of (λ g us. SpellsBraces g ts us) (λ o us. SpellsMiddle exists o ts us) (read_braces ts) (λ g us. if_taken (taken symbol.Until us) (behind_until exists g) refused) (braces_spell ts)
    (λ g us b. taken_of (λ o vs. SpellsMiddle exists o ts vs) symbol.Until tt us (behind_until exists g) refused (λ vs e. behind g vs (subst (λ xs. SpellsBraces g ts xs) e b)) (λ none. tt))
  where
    second : {t : WrittenEvents} {vs : List Symbol} → SpellsBraces (Some t) ts (symbol.Until ∷ vs) → (h : Option WrittenEvents) (ws : List Symbol) → SpellsBraces h vs ws → SpellsMiddle exists (until_with exists t h) ts ws
    second {t} {vs} b None ws c =
        let i = inside_braces b in
        let d : SpellsEvents disjunctions t i.0 (symbol.CloseCurly ∷ symbol.Until ∷ ws) = subst (λ xs. SpellsEvents disjunctions t i.0 (symbol.CloseCurly ∷ symbol.Until ∷ xs)) (no_braces_left c) i.2 in
        subst (λ xs. SpellsMiddle exists (until_with exists t None) xs ws) (sym i.1) (braces_before d)
    second {t} {vs} b (Some u) ws c =
        let i = inside_braces b in
        let k = inside_braces c in
        let d : SpellsEvents disjunctions t i.0 (symbol.CloseCurly ∷ symbol.Until ∷ symbol.OpenCurly ∷ k.0) = subst (λ xs. SpellsEvents disjunctions t i.0 (symbol.CloseCurly ∷ symbol.Until ∷ xs)) k.1 i.2 in
        subst (λ xs. SpellsMiddle exists (until_with exists t (Some u)) xs ws) (sym i.1) (braces_both d k.2)

    behind : (g : Option WrittenEvents) (vs : List Symbol) → SpellsBraces g ts (symbol.Until ∷ vs) → Of (λ o ws. SpellsMiddle exists o ts ws) (behind_until exists g vs)
    behind None vs b = subst (λ xs. SpellsMiddle exists (plain_until exists None) xs vs) (sym (no_braces_left b)) no_braces
    behind (Some t) vs b =
        then_of (λ h ws. SpellsBraces h vs ws) (λ o ws. SpellsMiddle exists o ts ws) (read_braces vs) (λ h ws. got (until_with exists t h) ws) (braces_spell vs) (second b)

name_spells : (s : Symbol) (us : List Symbol) → Of (λ n vs. s ∷ us ≡ symbol.Name n ∷ symbol.Colon ∷ vs) (name_first s us)
name_spells symbol.End us = tt
name_spells symbol.OpenRound us = tt
name_spells symbol.CloseRound us = tt
name_spells symbol.OpenSquare us = tt
name_spells symbol.CloseSquare us = tt
name_spells symbol.OpenCurly us = tt
name_spells symbol.CloseCurly us = tt
name_spells symbol.OpenAngle us = tt
name_spells symbol.CloseAngle us = tt
name_spells symbol.Colon us = tt
name_spells symbol.True us = tt
name_spells symbol.False us = tt
name_spells symbol.Final us = tt
name_spells symbol.Not us = tt
name_spells symbol.And us = tt
name_spells symbol.Or us = tt
name_spells symbol.Tau us = tt
name_spells symbol.Min us = tt
name_spells symbol.Max us = tt
name_spells symbol.Exists us = tt
name_spells symbol.All us = tt
name_spells symbol.Until us = tt
name_spells symbol.ExistsNext us = tt
name_spells symbol.AllNext us = tt
name_spells symbol.Eventually us = tt
name_spells symbol.Always us = tt
name_spells symbol.Silent us = tt
name_spells (symbol.Name n) us =
    taken_of (λ m vs. symbol.Name n ∷ us ≡ symbol.Name m ∷ symbol.Colon ∷ vs) symbol.Colon tt us (got n) refused (λ vs e. ap (λ xs. symbol.Name n ∷ xs) e) (λ none. tt)

bound_spells : (ts : List Symbol) → Of (λ n us. ts ≡ symbol.Name n ∷ symbol.Colon ∷ us) (read_bound ts)
bound_spells [] = tt
bound_spells (s ∷ us) = name_spells s us

-- what each sort of reading says of the grammar
pub record Operand (u : Unary Name) (t : Written) (ts us : List Symbol) : Type 0 where
  pub part : Written
  pub is_over : t ≡ one u part
  pub spells : Spells prefixes part ts us

pub record Body (w : Bool) (t : Written) (ts us : List Symbol) : Type 0 where
  pub name : Name
  pub part : Written
  pub from : List Symbol
  pub is_over : t ≡ binder w name part
  pub starts : ts ≡ symbol.Name name ∷ symbol.Colon ∷ from
  pub spells : Spells disjunctions part from us
  pub ends : T (stops us)

pub record Halves (exists : Bool) (t : Written) (ts us : List Symbol) : Type 0 where
  pub between : Binary Name
  pub left : Written
  pub right : Written
  pub from : List Symbol
  pub middle : List Symbol
  pub behind : List Symbol
  pub is_over : t ≡ two between left right
  pub starts : ts ≡ symbol.OpenSquare ∷ from
  pub first : Spells disjunctions left from middle
  pub second : SpellsMiddle exists between middle behind
  pub third : Spells disjunctions right behind (symbol.CloseSquare ∷ us)

abbrev Derives : Sort → Written → List Symbol → List Symbol → Type 0
Derives whole t ts us = Spells disjunctions t ts us × T (stops us)
Derives (more_or left) t ts us = (from : List Symbol) → taken symbol.And ts ≡ None → Spells disjunctions left from ts → Spells disjunctions t from us × T (stops us)
Derives joined t ts us = Spells conjunctions t ts us × (taken symbol.And us ≡ None)
Derives (more_and left) t ts us = (from : List Symbol) → Spells conjunctions left from ts → Spells conjunctions t from us × (taken symbol.And us ≡ None)
Derives prefixed t ts us = Spells prefixes t ts us
Derives (applied u) t ts us = Operand u t ts us
Derives grouped t ts us = Spells disjunctions t ts (symbol.CloseRound ∷ us)
Derives (bound w) t ts us = Body w t ts us
Derives (halves exists) t ts us = Halves exists t ts us

-- where neither `or` nor `and` can be taken, a formula stops
not_taken : (s wanted : Symbol) (us : List Symbol) → taken wanted (s ∷ us) ≡ None → is s wanted ≡ false
not_taken s wanted us e = go (is s wanted) e
  where
    go : (b : Bool) → cond b (Some us) None ≡ None → b ≡ false
    go true d = let z : ◌≡◌ {A = ℕ} 0 1 = cc in absurd (omega arith)
    go false d = refl

both_off : (b c : Bool) → b ≡ false → c ≡ false → T (not (b || c))
both_off b c d e = subst (λ x. T (not (x || c))) (sym d) (subst (λ x. T (not x)) (sym e) tt)

none_stops : (us : List Symbol) → taken symbol.Or us ≡ None → taken symbol.And us ≡ None → T (stops us)
none_stops [] d e = tt
none_stops (s ∷ us) d e = both_off (is s symbol.Or) (is s symbol.And) (not_taken s symbol.Or us d) (not_taken s symbol.And us e)

map_of : {A : Type 0} (P Q : A → List Symbol → Type 0) (x : Reading A) → ((a : A) (us : List Symbol) → P a us → Q a us) → Of P x → Of Q x
map_of P Q spent g h = tt
map_of P Q refused g h = tt
map_of P Q (got a us) g h = g a us h

module _ (f : Sort → List Symbol → Reading Written) (h : (s : Sort) (ts : List Symbol) → Of (λ t us. Derives s t ts us) (f s ts)) where
  -- a prefix without an event formula
  operand : (u : Unary Name) (s : Symbol) (us : List Symbol) → ((t : Written) (vs : List Symbol) → Spells prefixes t us vs → Spells prefixes (one u t) (s ∷ us) vs) → Of (λ t vs. Spells prefixes t (s ∷ us) vs) (f (applied u) us)
  operand u s us rule =
      map_of (λ t vs. Operand u t us vs) (λ t vs. Spells prefixes t (s ∷ us) vs) (f (applied u) us)
      (λ t vs o. subst (λ x. Spells prefixes x (s ∷ us) vs) (sym o.is_over) (rule o.part vs o.spells)) (h (applied u) us)

  -- a prefix with one
  guarded : (op : Option WrittenEvents → Unary Name) (s : Symbol) (us : List Symbol) (G : Option WrittenEvents → List Symbol → Type 0) (x : Reading (Option WrittenEvents)) → Of G x
      → ((g : Option WrittenEvents) (vs : List Symbol) (t : Written) (ws : List Symbol) → G g vs → Spells prefixes t vs ws → Spells prefixes (one (op g) t) (s ∷ us) ws)
      → Of (λ t ws. Spells prefixes t (s ∷ us) ws) (and_then x (λ g vs. f (applied (op g)) vs))
  guarded op s us G x d rule =
      then_of G (λ t ws. Spells prefixes t (s ∷ us) ws) x (λ g vs. f (applied (op g)) vs) d
      (λ g vs e. map_of (λ t ws. Operand (op g) t vs ws) (λ t ws. Spells prefixes t (s ∷ us) ws) (f (applied (op g)) vs)
      (λ t ws o. subst (λ y. Spells prefixes y (s ∷ us) ws) (sym o.is_over) (rule g vs o.part ws e o.spells)) (h (applied (op g)) vs))

  bodied : (w : Bool) (us : List Symbol) (t : Written) (vs : List Symbol) → Body w t us vs → Spells prefixes t (binder_symbol w ∷ us) vs
  bodied w us t vs b =
      subst (λ x. Spells prefixes x (binder_symbol w ∷ us) vs) (sym b.is_over)
      (subst (λ xs. Spells prefixes (binder w b.name b.part) (binder_symbol w ∷ xs) vs) (sym b.starts) (formula.a_binder b.spells b.ends))

  halved : (exists : Bool) (us : List Symbol) (t : Written) (vs : List Symbol) → Halves exists t us vs → Spells prefixes t (until_symbol exists ∷ us) vs
  halved exists us t vs k =
      subst (λ x. Spells prefixes x (until_symbol exists ∷ us) vs) (sym k.is_over)
      (subst (λ xs. Spells prefixes (two k.between k.left k.right) (until_symbol exists ∷ xs) vs) (sym k.starts) (formula.an_until k.first k.second k.third))

  start_derives : (s : Symbol) (us : List Symbol) → Of (λ t vs. Spells prefixes t (s ∷ us) vs) (start f s us)
  start_derives symbol.End us = tt
  start_derives symbol.OpenRound us = map_of (λ t vs. Spells disjunctions t us (symbol.CloseRound ∷ vs)) (λ t vs. Spells prefixes t (symbol.OpenRound ∷ us) vs) (f grouped us) (λ t vs d. formula.a_group d) (h grouped us)
  start_derives symbol.CloseRound us = tt
  start_derives symbol.OpenSquare us =
      guarded box_all symbol.OpenSquare us (λ g vs. SpellsInside symbol.CloseSquare g us vs) (read_inside symbol.CloseSquare us) (inside_spells symbol.CloseSquare tt us) (λ g vs t ws e d. formula.a_box e d)
  start_derives symbol.CloseSquare us = tt
  start_derives symbol.OpenCurly us = tt
  start_derives symbol.CloseCurly us = tt
  start_derives symbol.OpenAngle us =
      guarded diamond symbol.OpenAngle us (λ g vs. SpellsInside symbol.CloseAngle g us vs) (read_inside symbol.CloseAngle us) (inside_spells symbol.CloseAngle tt us) (λ g vs t ws e d. formula.a_diamond e d)
  start_derives symbol.CloseAngle us = tt
  start_derives symbol.Colon us = tt
  start_derives symbol.True us = formula.a_true
  start_derives symbol.False us = formula.a_false
  start_derives symbol.Final us = formula.a_final
  start_derives symbol.Not us = operand negation symbol.Not us (λ t vs d. formula.a_not d)
  start_derives symbol.And us = tt
  start_derives symbol.Or us = tt
  start_derives symbol.Tau us = tt
  start_derives symbol.Min us = map_of (λ t vs. Body true t us vs) (λ t vs. Spells prefixes t (symbol.Min ∷ us) vs) (f (bound true) us) (bodied true us) (h (bound true) us)
  start_derives symbol.Max us = map_of (λ t vs. Body false t us vs) (λ t vs. Spells prefixes t (symbol.Max ∷ us) vs) (f (bound false) us) (bodied false us) (h (bound false) us)
  start_derives symbol.Exists us = map_of (λ t vs. Halves true t us vs) (λ t vs. Spells prefixes t (symbol.Exists ∷ us) vs) (f (halves true) us) (halved true us) (h (halves true) us)
  start_derives symbol.All us = map_of (λ t vs. Halves false t us vs) (λ t vs. Spells prefixes t (symbol.All ∷ us) vs) (f (halves false) us) (halved false us) (h (halves false) us)
  start_derives symbol.Until us = tt
  start_derives symbol.ExistsNext us =
      guarded diamond symbol.ExistsNext us (λ g vs. SpellsBraces g us vs) (read_braces us) (braces_spell us) (λ g vs t ws e d. formula.an_ex e d)
  start_derives symbol.AllNext us =
      guarded all_next symbol.AllNext us (λ g vs. SpellsBraces g us vs) (read_braces us) (braces_spell us) (λ g vs t ws e d. formula.an_ax e d)
  start_derives symbol.Eventually us = operand eventually symbol.Eventually us (λ t vs d. formula.an_ef d)
  start_derives symbol.Always us = operand always symbol.Always us (λ t vs d. formula.an_ag d)
  start_derives symbol.Silent us = tt
  start_derives (symbol.Name n) us = formula.a_name

  turn_derives : (s : Sort) (ts : List Symbol) → Of (λ t us. Derives s t ts us) (turn f s ts)
  turn_derives whole ts =
      then_of (λ t us. Derives joined t ts us) (λ t us. Derives whole t ts us) (f joined ts) (λ t us. f (more_or t) us) (h joined ts)
      (λ t us d. map_of (λ y vs. Derives (more_or t) y us vs) (λ y vs. Derives whole y ts vs) (f (more_or t) us) (λ y vs e. e ts d.1 (formula.or_first d.0)) (h (more_or t) us))
  turn_derives (more_or t) ts =
      taken_of (λ y vs. Derives (more_or t) y ts vs) symbol.Or tt ts _ (got t ts)
      (λ us e. then_of (λ u vs. Derives joined u us vs) (λ y vs. Derives (more_or t) y ts vs) (f joined us) (λ u vs. f (more_or (two disjunction t u)) vs) (h joined us)
      (λ u vs d. map_of (λ y ws. Derives (more_or (two disjunction t u)) y vs ws) (λ y ws. Derives (more_or t) y ts ws) (f (more_or (two disjunction t u)) vs)
      (λ y ws k from none c. k from d.1 (formula.or_more (subst (λ xs. Spells disjunctions t from xs) e c) d.0)) (h (more_or (two disjunction t u)) vs)))
      (λ e from none c. (c, none_stops ts e none))
  turn_derives joined ts =
      then_of (λ t us. Derives prefixed t ts us) (λ t us. Derives joined t ts us) (f prefixed ts) (λ t us. f (more_and t) us) (h prefixed ts)
      (λ t us d. map_of (λ y vs. Derives (more_and t) y us vs) (λ y vs. Derives joined y ts vs) (f (more_and t) us) (λ y vs e. e ts (formula.and_first d)) (h (more_and t) us))
  turn_derives (more_and t) ts =
      taken_of (λ y vs. Derives (more_and t) y ts vs) symbol.And tt ts _ (got t ts)
      (λ us e. then_of (λ u vs. Derives prefixed u us vs) (λ y vs. Derives (more_and t) y ts vs) (f prefixed us) (λ u vs. f (more_and (two conjunction t u)) vs) (h prefixed us)
      (λ u vs d. map_of (λ y ws. Derives (more_and (two conjunction t u)) y vs ws) (λ y ws. Derives (more_and t) y ts ws) (f (more_and (two conjunction t u)) vs)
      (λ y ws k from c. k from (formula.and_more (subst (λ xs. Spells conjunctions t from xs) e c) d)) (h (more_and (two conjunction t u)) vs)))
      (λ e from c. (c, e))
  turn_derives prefixed [] = tt
  turn_derives prefixed (s ∷ us) = start_derives s us
  turn_derives (applied u) ts =
      then_of (λ t us. Derives prefixed t ts us) (λ t us. Operand u t ts us) (f prefixed ts) (λ t us. got (one u t) us) (h prefixed ts) (λ t us d. record { part = t; is_over = refl; spells = d })
  turn_derives grouped ts =
      then_of (λ t us. Derives whole t ts us) (λ t us. Derives grouped t ts us) (f whole ts) (closed f) (h whole ts)
      (λ t us d. taken_of (λ y vs. Derives grouped y ts vs) symbol.CloseRound tt us (got t) refused (λ vs e. subst (λ xs. Spells disjunctions t ts xs) e d.0) (λ none. tt))
  turn_derives (bound w) ts =
      then_of (λ n us. ts ≡ symbol.Name n ∷ symbol.Colon ∷ us) (λ t us. Body w t ts us) (read_bound ts) (λ n us. and_then (f whole us) (λ t vs. got (binder w n t) vs)) (bound_spells ts)
      (λ n us e. then_of (λ t vs. Derives whole t us vs) (λ t vs. Body w t ts vs) (f whole us) (λ t vs. got (binder w n t) vs) (h whole us)
      (λ t vs d. record { name = n; part = t; from = us; is_over = refl; starts = e; spells = d.0; ends = d.1 }))
  turn_derives (halves exists) ts =
      taken_of (λ t us. Halves exists t ts us) symbol.OpenSquare tt ts _ refused
      (λ us e. then_of (λ t vs. Derives whole t us vs) (λ t vs. Halves exists t ts vs) (f whole us) (λ t vs. and_then (read_middle exists vs) (last_half f t)) (h whole us)
      (λ t vs d. then_of (λ o ws. SpellsMiddle exists o vs ws) (λ y ws. Halves exists y ts ws) (read_middle exists vs) (last_half f t) (middle_spells exists vs)
      (λ o ws m. then_of (λ u xs. Derives whole u ws xs) (λ y xs. Halves exists y ts xs) (f whole ws) (λ u xs. if_taken (taken symbol.CloseSquare xs) (got (two o t u)) refused) (h whole ws)
      (λ u xs k. taken_of (λ y ys. Halves exists y ts ys) symbol.CloseSquare tt xs (got (two o t u)) refused
      (λ ys c. record {
        between = o;
        left = t;
        right = u;
        from = us;
        middle = vs;
        behind = ws;
        is_over = refl;
        starts = e;
        first = d.0;
        second = m;
        third = subst (λ zs. Spells disjunctions u ws zs) c k.0;
      })
      (λ none. tt)))))
      (λ none. tt)

derives : (n : ℕ) (s : Sort) (ts : List Symbol) → Of (λ t us. Derives s t ts us) (formula_in n s ts)
unfolding formula_in
derives zero s ts = tt
derives (suc n) s ts = turn_derives (formula_in n) (derives n) s ts

pub read_spelled : {t : Written} (ts : List Symbol) → tree_of ts ≡ Some t → SpellsAll t ts
read_spelled {t} ts e = go (read_formula ts) (derives _ whole ts) e
  where
    go : (x : Reading Written) → Of (λ y us. Derives whole y ts us) x → at_end x ≡ Some t → SpellsAll t ts
    go spent d k = let z : ◌≡◌ {A = ℕ} 0 1 = cc in absurd (omega arith)
    go refused d k = let z : ◌≡◌ {A = ℕ} 0 1 = cc in absurd (omega arith)
    go (got y []) d k = let same : y ≡ t = cc in subst (λ x. SpellsAll x ts) same d.0
    go (got y (s ∷ us)) d k = let z : ◌≡◌ {A = ℕ} 0 1 = cc in absurd (omega arith)

-- one formula or none
pub one_formula : (ts : List Symbol) → OneFormula ts
one_formula ts = record {
  alone = λ t u d e. let same : Some t ≡ Some u = sym (spelled_read d) ∙ spelled_read e in cc;
  told = go (tree_of ts) refl;
}
  where
    go : (o : Option Written) → tree_of ts ≡ o → ((t : Written) × SpellsAll t ts) ⊎ ((t : Written) → SpellsAll t ts → ⊥)
    go (Some t) e = inl (t, read_spelled ts e)
    go None e = inr (λ t d. let both : None ≡ Some t = sym e ∙ spelled_read d in let z : ◌≡◌ {A = ℕ} 0 1 = cc in omega arith)
