-- Which variables occur free in a node, and what the proofs use of a formula. Assumes nothing.
use Rattle.std.proofs.Common.{◌≡◌, ℕ, suc, ◌<◌, Bool, true, false, refl}
use Rattle.logic.specs.declared.nodes.Node.{Node}
use Rattle.logic.specs.Holding.{Manner, direct, bound, fixed, binds, Part}
use Rattle.logic.specs.Laid.{under, IsBinder, body_of, deeper, form}

-- the variable of b occurs free in the node j, under an even number of `not` if p is true, else under an odd number
pub data Occurs (φ : ℕ → Node) : ℕ → ℕ → Bool → Type 0 where
  here : {j b : ℕ} → form φ j ≡ bound b → Occurs φ j b true
  inside : {j b : ℕ} (k : ℕ) (p r : Bool) → Part (φ j).kind k p → (IsBinder (form φ j) → b ≡ j → ⊥) → Occurs φ k b r → Occurs φ j b (under p r)

-- the first n nodes are formed: parts come first, a variable lies in its binder, and under an even number of `not` there
pub record Formed (φ : ℕ → Node) (n : ℕ) : Type 0 where
  pub below : (j k : ℕ) (p : Bool) → j < n → Part (φ j).kind k p → k < j
  pub depths : (j k : ℕ) (p : Bool) → j < n → Part (φ j).kind k p → (φ k).depth ≡ deeper (form φ j) (φ j).depth
  pub scoped : (j b : ℕ) (p : Bool) → j < n → Occurs φ j b p → (b < n) × IsBinder (form φ b) × ((φ b).depth < (φ j).depth)
  pub monotone : (j : ℕ) → j < n → IsBinder (form φ j) → Occurs φ (body_of (form φ j)) j false → ⊥

-- only the body of a binder is deeper
pub deeper_is : (m : Manner) (d : ℕ) → IsBinder m → deeper m d ≡ suc d
deeper_is direct d h = absurd h
deeper_is (bound b) d h = absurd h
deeper_is (fixed w) d h = absurd h
deeper_is (binds w a) d h = refl

pub deeper_not : (m : Manner) (d : ℕ) → (IsBinder m → ⊥) → deeper m d ≡ d
deeper_not direct d h = refl
deeper_not (bound b) d h = refl
deeper_not (fixed w) d h = refl
deeper_not (binds w a) d h = absurd (h tt)

-- nothing occurs free in the node j
abbrev pub Closed : (ℕ → Node) → ℕ → Type 0
Closed φ j = (b : ℕ) (p : Bool) → Occurs φ j b p → ⊥

-- D is a set of nodes below hi, with all their parts, and with their binders below hi
pub record Whole (φ : ℕ → Node) (n hi : ℕ) (D : ℕ → Type 0) : Type 0 where
  pub known : (k : ℕ) → D k → k < n
  pub low : (k : ℕ) → D k → k < hi
  pub parts : (j k : ℕ) (p : Bool) → D j → Part (φ j).kind k p → D k
  pub inner : (j b : ℕ) (p : Bool) → D j → Occurs φ j b p → b < hi → D b
