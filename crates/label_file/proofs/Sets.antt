-- Sets that change place by place. Assumes nothing.
use Rattle.std.proofs.Common.{◌≡◌, ℕ, ◌<◌, ◌≤◌, cond, eqb, ◌≢◌, ◌⊎◌, List, length, get_or, set, Some, Ok, Err, fold, Result, sym, refl, ap, ◌∙◌, inl, inr, ⊎_elim, arith, length-set, get_or-set_other, get_or-set_same, eq-eqb, ne_eqb}
use lib.Bits.{bit_or}
use Rattle.std.proofs.lemmas.Bool.{cases_order}
use Rattle.files.specs.Lines.{Row}
use Rattle.layouts.specs.Layouts.{Marks, marks_of}
use Rattle.layouts.specs.declared.fault.LineFault.{LineFault}
use Rattle.contents.specs.NamesLine.{map_ok}
use Rattle.contents.specs.MarksLine.{marked_by, marked_of}
use Rattle.contents.specs.declared.marks.Marked.{Marked}
use Rattle.label_file.specs.LabelPart.{add_set, add_marks, add_row}
use Rattle.label_file.specs.Found.{Changed}

same : (p q : ℕ) → (p ≡ q) ⊎ (p ≢ q)
same p q = ⊎_elim (λ e. inl e) (λ o. inr (⊎_elim (λ lt e. omega arith) (λ gt e. omega arith) o)) (cases_order p q)

-- what a line adds
module _ (ms : List ℕ) (line : List ℕ) (m : Marked) (e : Ok m ≡ marked_of ms line) where
  adds : (q s : ℕ) → add_marks ms q s (marks_of line) ≡ cond (eqb m.state q) (add_set s m.set) s
  adds q s = go (marks_of line) e
    where
      go : (r : Result Marks LineFault) → Ok m ≡ map_ok (marked_by ms) r → add_marks ms q s r ≡ cond (eqb m.state q) (add_set s m.set) s
      go (Ok k) h = let one : marked_by ms k ≡ m = cc in ap (λ y. cond (eqb y.state q) (add_set s y.set) s) one
      go (Err f) h = absurd (let z : ◌≡◌ {A = ℕ} 0 1 = cc in omega arith)

  module _ (t : ℕ) (some : m.set ≡ Some t) (n : ℕ) (sets : List ℕ) where
    pub mark_here : m.state < n → m.state < length sets → Changed (λ q s. add_marks ms q s (marks_of line)) n sets (set sets m.state (bit_or (get_or sets m.state 0) t))
    mark_here lt within = record {
      long = length-set sets m.state _;
      below = λ q h w. ⊎_elim
          (λ e2. ap (λ k. get_or (set sets m.state (bit_or (get_or sets m.state 0) t)) k 0) e2 ∙ get_or-set_same sets m.state _ 0 within ∙ ap (λ k. bit_or (get_or sets k 0) t) (sym e2) ∙
          sym (adds q (get_or sets q 0) ∙ ap (λ b. cond b (add_set (get_or sets q 0) m.set) (get_or sets q 0)) (eq-eqb m.state q (sym e2)) ∙ ap (add_set (get_or sets q 0)) some))
          (λ ne. get_or-set_other sets m.state q _ 0 ne ∙ sym (adds q (get_or sets q 0) ∙ ap (λ b. cond b (add_set (get_or sets q 0) m.set) (get_or sets q 0)) (ne_eqb m.state q (λ z. ne (sym z)))))
          (same q m.state);
      above = λ q le. let ne : q ≢ m.state = λ z. omega arith in get_or-set_other sets m.state q _ 0 ne;
    }

    pub mark_nowhere : (m.state < n → m.state < length sets → ⊥) → Changed (λ q s. add_marks ms q s (marks_of line)) n sets sets
    mark_nowhere out = record {
      long = refl;
      below = λ q h w. sym (adds q (get_or sets q 0) ∙ ap (λ b. cond b (add_set (get_or sets q 0) m.set) (get_or sets q 0)) (ne_eqb m.state q (λ z. out (omega arith) (omega arith))));
      above = λ q le. refl;
    }

-- the lines so far were marked, from some sets on: what the lines left add to now is what all of them add to before
pub record Marking (ms : List ℕ) (n : ℕ) (rows : List Row) (before now : List ℕ) (rest : List Row) : Type 0 where
  pub long : length now ≡ length before
  pub below : (q : ℕ) → q < n → q < length before → fold (add_row ms q) (get_or now q 0) rest ≡ fold (add_row ms q) (get_or before q 0) rows
  pub above : (q : ℕ) → n ≤ q → get_or now q 0 ≡ get_or before q 0
