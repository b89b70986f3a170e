-- The questions put to the lines one by one. Assumes nothing.
use Rattle.std.proofs.Common.{◌≡◌, ℕ, suc, Bool, true, false, cond, not, List, [], ◌∷◌, length, drop, Some, None, Option, sym, refl, ap, ◌∙◌, arith}
use Rattle.std.specs.List.{find}
use Rattle.std.specs.Option.{option_map}
use Rattle.std.proofs.lemmas.Bool.{lt-ltb}
use Rattle.files.specs.Lines.{Row, row_of, line_at}
use Rattle.files.specs.declared.line.Line.{Line}
use Rattle.files.proofs.Tiling.{Found, rows_past, rows_at}
use Rattle.transition_file.specs.TransitionPart.{is_arrow, misplaced, failing, body_start, body}

-- a pass over lines finds the first that fails
failing_found : (p : Row → Bool) (rs : List Row) → failing p rs ≡ option_map (λ r. r.start) (find (λ r. not (p r)) rs)
failing_found p [] = refl
failing_found p (r ∷ rs) = go (p r) refl (failing_found p rs)
  where
    go : (b : Bool) → p r ≡ b → failing p rs ≡ option_map (λ r. r.start) (find (λ r. not (p r)) rs) → failing p (r ∷ rs) ≡ option_map (λ r. r.start) (find (λ r. not (p r)) (r ∷ rs))
    go true e ih = (λ j. cond (e j) (failing p rs) (Some r.start)) ∙ ih ∙ sym (λ j. option_map (λ r. r.start) (cond (not (e j)) (Some r) (find (λ r. not (p r)) rs)))
    go false e ih = (λ j. cond (e j) (failing p rs) (Some r.start)) ∙ sym (λ j. option_map (λ r. r.start) (cond (not (e j)) (Some r) (find (λ r. not (p r)) rs)))

pub start_found : (p : Row → Bool) (rs : List Row) (o : Option Line) → option_map row_of o ≡ find (λ r. not (p r)) rs → option_map (λ l. l.start) o ≡ failing p rs
start_found p rs o e = go o ∙ ap (option_map (λ r. r.start)) e ∙ sym (failing_found p rs)
  where
    go : (o : Option Line) → option_map (λ l. l.start) o ≡ option_map (λ r. r.start) (option_map row_of o)
    go None = refl
    go (Some l) = refl

-- one line more is due
module _ (end n m : ℕ) (turn : n ≡ suc m) (rs : List Row) where
  pub line_missing : rs ≡ [] → misplaced n end rs ≡ Some end
  line_missing e = λ j. misplaced (turn j) end (e j)

  pub line_good : (r : Row) (rest : List Row) → rs ≡ r ∷ rest → is_arrow r ≡ true → misplaced n end rs ≡ misplaced m end rest
  line_good r rest e h = (λ j. misplaced (turn j) end (e j)) ∙ ap (λ b. cond b (misplaced m end rest) (Some r.start)) h

  pub line_bad : (r : Row) (rest : List Row) → rs ≡ r ∷ rest → is_arrow r ≡ false → misplaced n end rs ≡ Some r.start
  line_bad r rest e h = (λ j. misplaced (turn j) end (e j)) ∙ ap (λ b. cond b (misplaced m end rest) (Some r.start)) h

-- the lines behind the first begin where it ends
pub body_rows : (file : List ℕ) → rows_past file (body_start file) ≡ body file
body_rows [] = refl
body_rows (x ∷ xs) =
    let s : List ℕ = x ∷ xs in
    let here : line_at s 0 ≡ Some (Found s 0) = ap (λ b. cond b (Some (Found s 0)) None) (lt-ltb 0 (length s) (omega arith)) in
    sym (ap (drop 1) (rows_at s 0 (Found s 0).0 (Found s 0).1 here))
