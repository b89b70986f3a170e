-- What files that pass their questions are known to hold. Assumes nothing.
use Rattle.std.proofs.Common.{◌≡◌, ℕ, zero, suc, ◌<◌, ◌≤◌, Bool, true, false, cond, ◌&&◌, ltb, leb, List, [], ◌∷◌, map, length, Some, None, Ok, Err, Option, Result, unwrap_or, sym, refl, ap, ◌∙◌, subst, arith}
use Rattle.std.proofs.lemmas.Bool.{leb-true, ltb-true, and_parts}
use Rattle.std.specs.Result.{result_ok}
use Rattle.std.specs.List.{AllByRecursion}
use Rattle.files.specs.Lines.{Row, rows_of}
use Rattle.files.specs.declared.fault.Fault.{Fault}
use Rattle.layouts.specs.Layouts.{Arrow, transition_of, Marks, marks_of}
use Rattle.layouts.specs.declared.fault.LineFault.{LineFault}
use Rattle.layouts.specs.declared.transitions.Header.{Header}
use Rattle.systems.specs.Limits.{max_states}
use Rattle.text.specs.Numbering.{names_limit, join_all}
use Rattle.text.specs.declared.names.Name.{Name}
use Rattle.transition_file.specs.Asking.{ask, given, pass}
use Rattle.transition_file.specs.TransitionPart.{max_transitions, short, header_row, numbers_fit, is_arrow, misplaced, failing, asked, on_arrow, lawful_label, joins_states, arrow_in, numbered, body, events_then, transition_part}
use Rattle.label_file.specs.LabelPart.{names_row, rising, lawful_marks, asked_marks, state_in, lawful_state, or_start, mislabelled, label_part}

-- a chain that ended well: each question got a yes
ask_ok : {X : Type 0} (b : Bool) (f : Fault) (r : Result X Fault) (x : X) → ask b f r ≡ Ok x → (G : Type 0) → (b ≡ true → r ≡ Ok x → G) → G
ask_ok true f r x e G go = go refl e
ask_ok false f r x e G go = absurd (let z : ◌≡◌ {A = ℕ} 0 1 = cc in omega arith)

given_ok : {X Y : Type 0} (o : Option X) (f : Fault) (r : X → Result Y Fault) (y : Y) → given o f r ≡ Ok y → (G : Type 0) → ((x : X) → o ≡ Some x → r x ≡ Ok y → G) → G
given_ok None f r y e G go = absurd (let z : ◌≡◌ {A = ℕ} 0 1 = cc in omega arith)
given_ok (Some x) f r y e G go = go x refl e

pass_ok : {X : Type 0} (o : Option ℕ) (f : ℕ → Fault) (r : Result X Fault) (x : X) → pass o f r ≡ Ok x → (G : Type 0) → (o ≡ None → r ≡ Ok x → G) → G
pass_ok None f r x e G go = go refl e
pass_ok (Some s) f r x e G go = absurd (let z : ◌≡◌ {A = ℕ} 0 1 = cc in omega arith)

-- what is known of a transition file
pub record Told (file : List ℕ) (known : List Name) (h : Header) : Type 0 where
  pub fit : numbers_fit h ≡ true
  pub lines : misplaced h.transitions (length file) (body file) ≡ None
  pub joins : failing (on_arrow (joins_states h.states)) (body file) ≡ None
  pub few : length (events_then file known) ≤ names_limit

pub told : (file : List ℕ) (known : List Name) (h : Header) → transition_part file known ≡ Ok h → Told file known h
told file known h e0 =
    let G : Type 0 = Told file known h in
    ask_ok (short file) _ _ h e0 G (λ s e1.
    given_ok (header_row (rows_of file)) _ _ h e1 G (λ k q e2.
    ask_ok (numbers_fit k) _ _ h e2 G (λ fit e3.
    pass_ok (misplaced k.transitions (length file) (body file)) _ _ h e3 G (λ lines e4.
    pass_ok (failing (on_arrow lawful_label) (body file)) _ _ h e4 G (λ labels e5.
    pass_ok (failing (on_arrow (joins_states k.states)) (body file)) _ _ h e5 G (λ joins e6.
    ask_ok (numbered (events_then file known)) _ _ h e6 G (λ few e7.
    let same : k ≡ h = cc in
    record {
      fit = ap numbers_fit (sym same) ∙ fit;
      lines = ap (λ x. misplaced x.transitions (length file) (body file)) (sym same) ∙ lines;
      joins = ap (λ x. failing (on_arrow (joins_states x.states)) (body file)) (sym same) ∙ joins;
      few = leb-true (length (events_then file known)) names_limit few;
    })))))))

module _ (h : Header) (fit : numbers_fit h ≡ true) where
  front : (leb 1 h.states && leb h.states max_states) ≡ true
  front = (and_parts _ (leb h.transitions max_transitions && ltb h.initial h.states) fit).0

  pub states_few : h.states ≤ max_states
  states_few = leb-true h.states max_states (and_parts (leb 1 h.states) _ front).1

  back : (leb h.transitions max_transitions && ltb h.initial h.states) ≡ true
  back = (and_parts (leb 1 h.states && leb h.states max_states) _ fit).1

  pub transitions_few : h.transitions ≤ max_transitions
  transitions_few = leb-true h.transitions max_transitions (and_parts _ (ltb h.initial h.states) back).0

  pub starts : h.initial < h.states
  starts = ltb-true h.initial h.states (and_parts (leb h.transitions max_transitions) _ back).1

-- exactly so many lines
pub counted : (m end : ℕ) (rs : List Row) → misplaced m end rs ≡ None → length rs ≡ m
counted zero end [] e = refl
counted zero end (r ∷ rs) e = absurd (let z : ◌≡◌ {A = ℕ} 0 1 = cc in omega arith)
counted (suc m) end [] e = absurd (let z : ◌≡◌ {A = ℕ} 0 1 = cc in omega arith)
counted (suc m) end (r ∷ rs) e = go (is_arrow r) e (counted m end rs)
  where
    go : (b : Bool) → cond b (misplaced m end rs) (Some r.start) ≡ None → (misplaced m end rs ≡ None → length rs ≡ m) → suc (length rs) ≡ suc m
    go true h ih = ap suc (ih h)
    go false h ih = absurd (let z : ◌≡◌ {A = ℕ} 0 1 = cc in omega arith)

-- each transition passes
arrow_passes : (p : Arrow → Bool) (r : Result Arrow LineFault) → asked p r ≡ true → p (unwrap_or (result_ok r) (record { source = 0; label = []; target = 0 })) ≡ true
arrow_passes p (Ok a) h = h
arrow_passes p (Err f) h = absurd (let z : ◌≡◌ {A = ℕ} 0 1 = cc in omega arith)

pub all_pass : (p : Arrow → Bool) (rs : List Row) → failing (on_arrow p) rs ≡ None → AllByRecursion (λ a. p a ≡ true) (map (λ r. arrow_in r.text) rs)
all_pass p [] e = tt
all_pass p (r ∷ rs) e = go (on_arrow p r) refl e (all_pass p rs)
  where
    go : (b : Bool) → on_arrow p r ≡ b → cond b (failing (on_arrow p) rs) (Some r.start) ≡ None → (failing (on_arrow p) rs ≡ None → AllByRecursion (λ a. p a ≡ true) (map (λ r. arrow_in r.text) rs)) →
        (p (arrow_in r.text) ≡ true) × AllByRecursion (λ a. p a ≡ true) (map (λ r. arrow_in r.text) rs)
    go true q h ih = (arrow_passes p (transition_of r.text) q, ih h)
    go false q h ih = absurd (let z : ◌≡◌ {A = ℕ} 0 1 = cc in omega arith)

-- what is known of a label file
pub record Listed (file : List ℕ) (n : ℕ) (known names : List Name) : Type 0 where
  pub lines : mislabelled n (length names) 0 (body file) ≡ None
  pub few : length (join_all known names) ≤ names_limit

pub listed : (file : List ℕ) (n : ℕ) (known names : List Name) → label_part file n known ≡ Ok names → Listed file n known names
listed file n known names e0 =
    let G : Type 0 = Listed file n known names in
    ask_ok (short file) _ _ names e0 G (λ s e1.
    given_ok (names_row (rows_of file)) _ _ names e1 G (λ ns q e2.
    pass_ok (mislabelled n (length ns) 0 (body file)) _ _ names e2 G (λ lines e3.
    ask_ok (numbered (join_all known ns)) _ _ names e3 G (λ few e4.
    let same : ns ≡ names = cc in
    record {
      lines = ap (λ x. mislabelled n (length x) 0 (body file)) (sym same) ∙ lines;
      few = subst (λ x. length (join_all known x) ≤ names_limit) same (leb-true (length (join_all known ns)) names_limit few);
    }))))

-- each line tells of one of the states
abbrev pub Within : ℕ → Result Marks LineFault → Type 0
Within n (Ok m) = m.state < n
Within n (Err f) = ⊥

line_within : (n k least q : ℕ) (b : Bool) (r : Result Marks LineFault) → cond (b && asked_marks (lawful_marks n k least) r) (Some (state_in r)) None ≡ Some q → Within n r
line_within n k least q true (Ok m) e = on (ltb m.state n) refl (leb least m.state) (rising 0 k m.numbers) e
  where
    on : (a : Bool) → ltb m.state n ≡ a → (b c : Bool) → cond ((a && b) && c) (Some m.state) None ≡ Some q → m.state < n
    on true t b c h = ltb-true m.state n t
    on false t b c h = absurd (let z : ◌≡◌ {A = ℕ} 0 1 = cc in omega arith)
line_within n k least q true (Err f) e = absurd (let z : ◌≡◌ {A = ℕ} 0 1 = cc in omega arith)
line_within n k least q false r e = absurd (let z : ◌≡◌ {A = ℕ} 0 1 = cc in omega arith)

pub all_within : (n k least : ℕ) (rs : List Row) → mislabelled n k least rs ≡ None → AllByRecursion (λ r. Within n (marks_of r.text)) rs
all_within n k least [] e = tt
all_within n k least (r ∷ rs) e = go (lawful_state n k least r) refl e (λ next. all_within n k next rs)
  where
    go : (o : Option ℕ) → lawful_state n k least r ≡ o → or_start o r.start (λ next. mislabelled n k next rs) ≡ None → ((next : ℕ) → mislabelled n k next rs ≡ None → AllByRecursion (λ r. Within n (marks_of r.text)) rs) →
        Within n (marks_of r.text) × AllByRecursion (λ r. Within n (marks_of r.text)) rs
    go None q h ih = absurd (let z : ◌≡◌ {A = ℕ} 0 1 = cc in omega arith)
    go (Some s) q h ih = (line_within n k least s r.ended (marks_of r.text) q, ih (suc s) h)
