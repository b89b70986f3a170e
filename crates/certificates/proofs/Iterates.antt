-- Iterates of an operator, on both sides at once. Assumes nothing.
use Rattle.std.proofs.Common.{ℕ, zero, suc, ◌<◌, Bool, true, false, not, arith}
use Rattle.logic.specs.Unfolding.{Agree, iterate}
use Rattle.logic.specs.Holding.{Fix}
use Rattle.certificates.specs.Support.{same_side}

abbrev pub Falls : Bool → ℕ → ℕ → Type 0
Falls true x y = x < y
Falls false x y = Unit {0}

-- what an iteration on the side s begins with
abbrev begin : Bool → ℕ → Type 0
begin true q = ⊥
begin false q = Unit {0}

-- D holds of the states among the first N that are known to have the side s, and m measures how early
module _ (N : ℕ) (F : (ℕ → Type 0) → ℕ → Type 0) (D : ℕ → Type 0) (m : ℕ → ℕ) where
  abbrev pub Step : Bool → Bool → Type 1
  Step s w = (X : ℕ → Type 0) (q : ℕ) → q < N → D q → ((r : ℕ) → r < N → D r → Falls (same_side s w) (m r) (m q) → Agree s (X r)) → Agree s (F X q)

  -- on the accumulating side one iterate more than the measure reaches q
  reach : (s : Bool) → Step s s → (v q : ℕ) → q < N → D q → m q < v → Agree s (iterate v F (begin s) q)
  reach true f zero q l c h = omega arith
  reach false f zero q l c h = omega arith
  reach true f (suc v) q l c h = f _ q l c (λ r lr cr g. reach true f v r lr cr (omega arith))
  reach false f (suc v) q l c h = f _ q l c (λ r lr cr g. reach false f v r lr cr (omega arith))

  -- on the other side no iterate changes it
  stay : (s : Bool) → Step s (not s) → (n q : ℕ) → q < N → D q → Agree s (iterate n F (begin (not s)) q)
  stay true f zero q l c = tt
  stay false f zero q l c = λ e. e
  stay true f (suc n) q l c = f _ q l c (λ r lr cr g. stay true f n r lr cr)
  stay false f (suc n) q l c = f _ q l c (λ r lr cr g. stay false f n r lr cr)

  pub iterates : (s w : Bool) → Step s w → (q : ℕ) → q < N → D q → Agree s (Fix w F q)
  iterates true true f q l c = (suc (m q), reach true f (suc (m q)) q l c (omega arith))
  iterates false false f q l c = λ g. reach false f (suc (m q)) q l c (omega arith) (g (suc (m q)))
  iterates true false f q l c = λ n. stay true f n q l c
  iterates false true f q l c = λ g. stay false f g.0 q l c g.1
