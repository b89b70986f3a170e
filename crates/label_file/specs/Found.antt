-- What the reader of the label file gives, and what places hold after a pass. Assumes nothing.
use Rattle.std.specs.Prelude.{◌≡◌, ℕ, ◌<◌, ◌≤◌, List, length, Ok, Err, Result, slice_index}
use Rattle.files.specs.declared.fault.Fault.{Fault}
use Rattle.text.specs.Held.{held}
use Rattle.text.specs.Numbering.{join_all}
use Rattle.text.specs.declared.names.Name.{Name}
use Rattle.label_file.specs.LabelPart.{label_part}
use Rattle.label_file.specs.declared.reading.LabelsRead.{LabelsRead}

-- the names of the file and the names of propositions, or the first question that gets a no
abbrev pub ReadAs : List ℕ → ℕ → List Name → Result LabelsRead Fault → Type 0
ReadAs file n known (Ok t) = (label_part file n known ≡ Ok (held t.names)) × (held t.propositions ≡ join_all known (held t.names))
ReadAs file n known (Err fault) = label_part file n known ≡ Err fault

-- places below n hold what f makes of them, and the others stay
pub record Changed (f : ℕ → ℕ → ℕ) (n : ℕ) (before after : List ℕ) : Type 0 where
  pub long : length after ≡ length before
  pub below : (q : ℕ) → q < n → q < length before → slice_index after q ≡ f q (slice_index before q)
  pub above : (q : ℕ) → n ≤ q → slice_index after q ≡ slice_index before q
