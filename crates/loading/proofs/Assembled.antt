-- A load that passed all questions leaves what the files say. Assumes nothing.
use Rattle.std.proofs.Common.{◌≡◌, ℕ, ◌<◌, ◌≤◌, true, leb, List, ◌++◌, map, length, get_or, drop, Ok, sym, refl, ap, ◌∙◌, subst, arith}
use lib.ListN.{length-map}
use Rattle.std.proofs.lemmas.Bool.{leb-true, and_parts}
use Rattle.std.specs.List.{range_with_len}
use Rattle.layouts.specs.declared.transitions.Header.{Header}
use Rattle.systems.specs.Tabled.{tabled}
use Rattle.systems.specs.declared.transition.Transition.{Transition}
use Rattle.text.specs.Held.{held}
use Rattle.text.specs.Numbering.{join_all}
use Rattle.text.specs.declared.names.Name.{Name}
use Rattle.text.specs.declared.numbering.Names.{Names}
use Rattle.transition_file.specs.Records.{record_in, written}
use Rattle.transition_file.specs.TransitionPart.{transition_part, events_then, arrows_of, arrow_in, body}
use Rattle.label_file.specs.LabelPart.{label_part, masks, labels_at}
use Rattle.label_file.specs.Found.{Changed}
use Rattle.loading.specs.Spelling.{Contents, spelled}
use Rattle.loading.specs.Loads.{tables_fit, loaded, Leaves}
use Rattle.loading.specs.declared.shape.Shape.{Shape}
use Rattle.loading.specs.declared.vocabulary.Vocabulary.{Vocabulary}
use Rattle.loading.proofs.Facts.{told, counted, all_pass, transitions_few, listed, all_within}
use Rattle.loading.proofs.Meant.{moves_meant, labels_meant, written_front, changed_front}

-- the answer, question by question
module _ (ts ls : List ℕ) (known known2 : List Name) (rs ss : ℕ) where
  module _ (h : Header) (e : transition_part ts known ≡ Ok h) where
    module _ (names : List Name) (e2 : label_part ls h.states known2 ≡ Ok names) where
      pub loaded_all : tables_fit h rs ss ≡ true → loaded ts ls known known2 rs ss ≡ Ok (record { header = h; names = names })
      loaded_all e3 = rw (e, e2, e3) refl

pub fits_records : (h : Header) (rs ss : ℕ) → tables_fit h rs ss ≡ true → h.transitions ≤ rs
fits_records h rs ss e = leb-true h.transitions rs (and_parts (leb h.transitions rs) (leb h.states ss) e).0

pub fits_sets : (h : Header) (rs ss : ℕ) → tables_fit h rs ss ≡ true → h.states ≤ ss
fits_sets h rs ss e = leb-true h.states ss (and_parts (leb h.transitions rs) (leb h.states ss) e).1

-- what is left
pub record Left (ts ls : List ℕ) (c : Contents) (events props : List Name) (rs rs' : List Transition) (ss ss' : List ℕ) : Type 0 where
  pub wrote : rs' ≡ map (record_in events) (arrows_of ts) ++ drop c.header.transitions rs
  pub marked : ss' ≡ map (labels_at (masks props c.names) (body ls)) (range_with_len 0 c.header.states) ++ drop c.header.states ss
  pub meaning : tabled c.header.states c.header.initial c.header.transitions rs' ss' ≡ spelled ts ls c events props

module _ (ts ls : List ℕ) (known known2 : List Name) (h : Header) (names events props : List Name) (rs rs' : List Transition) (ss ss' ms : List ℕ)
    (p : transition_part ts known ≡ Ok h) (ev : events ≡ events_then ts known) (q : label_part ls h.states known2 ≡ Ok names) (pr : props ≡ join_all known2 names)
    (room : h.transitions ≤ length rs) (room2 : h.states ≤ length ss) (w : rs' ≡ written (map (record_in events) (arrows_of ts)) rs) (m : ms ≡ masks props names)
    (c : Changed (λ k _. labels_at ms (body ls) k) h.states ss ss') where
  pub left : Left ts ls (record { header = h; names = names }) events props rs rs' ss ss'
  left =
      let t = told ts known h p in
      let l = listed ls h.states known2 names q in
      let few : length events ≤ 64 = omega (arith, ap length ev, t.few) in
      let few2 : length props ≤ 64 = omega (arith, ap length pr, l.few) in
      let rows : length (body ts) ≡ h.transitions = counted h.transitions (length ts) (body ts) t.lines in
      let size : length (arrows_of ts) ≡ h.transitions = length-map (body ts) (λ r. arrow_in r.text) ∙ rows in
      let wrote : rs' ≡ map (record_in events) (arrows_of ts) ++ drop h.transitions rs = w ∙ written_front (map (record_in events) (arrows_of ts)) rs h.transitions (length-map (arrows_of ts) (record_in events) ∙ size) room in
      let c2 : Changed (λ k _. labels_at (masks props names) (body ls) k) h.states ss ss' = subst (λ x. Changed (λ k _. labels_at x (body ls) k) h.states ss ss') m c in
      let read : (k : ℕ) → k < h.states → get_or ss' k 0 ≡ labels_at (masks props names) (body ls) k = λ k lt. c2.below k lt (omega arith) in
      record {
        wrote = wrote;
        marked = changed_front (labels_at (masks props names) (body ls)) h.states ss ss' room2 c2;
        meaning = λ j. record {
          transitions = record {
            states = h.states;
            initial = h.initial;
            moves = λ k. (ap (λ xs. (tabled h.states h.initial h.transitions xs ss').transitions.moves k) wrote ∙
                moves_meant h.states h.transitions events (arrows_of ts) (drop h.transitions rs) few (all_pass _ (body ts) t.joins) size (transitions_few h t.fit) k) j;
          };
          propositions = λ k. labels_meant h.states props names (body ls) ss' few2 (all_within h.states (length names) 0 (body ls) l.lines) read k j;
        };
      }

-- the shape and the vocabulary beside them
module _ (ts ls : List ℕ) (v v' : Vocabulary) (events props : Names) (rs rs' : List Transition) (ss ss' : List ℕ) (c : Contents) (s : Shape) (f : Left ts ls c (held events) (held props) rs rs' ss ss')
    (ev : held events ≡ events_then ts (held v.events)) (pr : held props ≡ join_all (held v.propositions) c.names) (same : v' ≡ record { events = events; propositions = props })
    (a : s.states ≡ c.header.states) (b : s.initial ≡ c.header.initial) (m : s.moves ≡ c.header.transitions) where
  pub leaves : Leaves ts ls v v' rs rs' ss ss' c s
  leaves = subst (λ x. Leaves ts ls v x rs rs' ss ss' c s) (sym same) (record {
    states = a;
    initial = b;
    moves = m;
    events = ev;
    propositions = pr;
    written = f.wrote;
    marked = f.marked;
    meaning = (λ j. tabled (a j) (b j) (m j) rs' ss') ∙ f.meaning;
  })
