-- A line of labels: its state, and the set of what its numbers stand for. Assumes nothing.
use Rattle.std.specs.Prelude.{ℕ, ◌+◌, cond, ◌&&◌, List, length, Some, None, fold, Option, Result, bit_or, nat_le, nat_lt, slice_index}
use Rattle.std.specs.Option.{option_map}
use Rattle.layouts.specs.declared.fault.LineFault.{LineFault}
use Rattle.layouts.specs.Layouts.{Marks, marks_of}
use Rattle.contents.specs.NamesLine.{map_ok}
use Rattle.contents.specs.declared.marks.Listing.{Listing}
use Rattle.contents.specs.declared.marks.Marked.{Marked}

-- one number more: above those before it, and one that stands for something
abbrev pub add_mark : List ℕ → Option Listing → ℕ → Option Listing
add_mark masks None n = None
add_mark masks (Some l) n =
    cond (nat_le l.least n && nat_lt n (length masks)) (Some (record { least = n + 1; set = bit_or l.set (slice_index masks n) })) None

-- the set of what the numbers stand for, where they rise and each stands for something
abbrev pub set_of : List ℕ → List ℕ → Option ℕ
set_of masks numbers = option_map (λ l. l.set) (fold (add_mark masks) (Some (record { least = 0; set = 0 })) numbers)

abbrev pub marked_by : List ℕ → Marks → Marked
marked_by masks m = record { state = m.state; set = set_of masks m.numbers }

-- what a line of labels says, or where it leaves its layout
abbrev pub marked_of : List ℕ → List ℕ → Result Marked LineFault
marked_of masks s = map_ok (marked_by masks) (marks_of s)
