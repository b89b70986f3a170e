-- Ranks and their order, by the first places. Assumes nothing.
use Rattle.std.specs.Prelude.{◌≡◌, ℕ, ◌+◌, ◌*◌, ◌<◌, false, ◌⊎◌, List, [], slice_index, slice_index_or}
use Rattle.certificates.specs.declared.claim.Claim.{Claim}

-- the same in the first k places
abbrev pub Same : ℕ → (ℕ → ℕ) → (ℕ → ℕ) → Type 0
Same k r s = (x : ℕ) → x < k → r x ≡ s x

-- dictionary order of the first k places: r is smaller than s at one of them, and the same before
abbrev pub Earlier : ℕ → (ℕ → ℕ) → (ℕ → ℕ) → Type 0
Earlier k r s = (x : ℕ) × (x < k) × (r x < s x) × Same x r s

abbrev pub NotLater : ℕ → (ℕ → ℕ) → (ℕ → ℕ) → Type 0
NotLater k r s = Earlier k r s ⊎ Same k r s

-- the rank of a claim at a place, counted from 0
abbrev pub rank_of : Claim → ℕ → ℕ
rank_of c x = slice_index c.ranks x

-- a claim for each node and state
abbrev pub Claims : Type 0
Claims = ℕ → ℕ → Claim

-- what is read where a list of claims has ended
abbrev pub no_claim : Claim
no_claim = record { holds = false; ranks = [] }

-- the claims of a list over so many states: the claim of node j at state q stands at j × states + q
abbrev pub claims_in : List Claim → ℕ → Claims
claims_in list states j q = slice_index_or list (j * states + q) no_claim
