-- Where the records of each state lie. Assumes nothing.
use Rattle.std.specs.Prelude.{◌≡◌, ℕ, ◌+◌, ◌≤◌, min, cond, List, length, ◌==◌, nat_lt, slice_index_or}
use Rattle.systems.specs.Limits.{max_moves}
use Rattle.systems.specs.Listing.{counting_in}
use Rattle.systems.specs.declared.transition.Transition.{Transition}
use Rattle.tables.specs.declared.span.Span.{Span}

-- no records
abbrev pub nowhere : Span
nowhere = record { begin = 0; end = 0; count = 0 }

-- a span with one more record, which stands at a place behind it; past 1,024 records it stays
abbrev pub grown : Span → ℕ → Span
grown s place =
    cond (nat_lt s.count max_moves)
    (record { begin = cond (s.count == 0) place s.begin; end = place + 1; count = s.count + 1 })
    s

-- the span of the state q over the first `read` records: it lies among them, none that counts stands before it,
-- its count is of those in front of its end, and that is as many as there are, or 1,024
abbrev pub SpanOf : (states read : ℕ) → List Transition → (q : ℕ) → Span → Type 0
SpanOf states read records q s =
    (s.begin ≤ s.end) × (s.end ≤ min read (length records)) × (counting_in states records q s.begin ≡ 0)
    × (counting_in states records q s.end ≡ s.count) × (s.count ≡ min max_moves (counting_in states records q read))

-- each state has its span in the list
abbrev pub Spanned : (states read : ℕ) → List Transition → List Span → Type 0
Spanned states read records spans = (q : ℕ) → SpanOf states read records q (slice_index_or spans q nowhere)
