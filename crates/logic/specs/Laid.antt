-- How the nodes of a formula lie: parts before their node, and the whole body of a binder right before it. Assumes nothing.
use Rattle.std.specs.Prelude.{◌≡◌, ℕ, suc, ◌<◌, ◌≤◌, Bool, true, false, not}
use Rattle.logic.specs.declared.nodes.Node.{Node}
use Rattle.logic.specs.Holding.{Manner, direct, bound, fixed, binds, manner, Part}

-- the sign or side s, seen from under p: the same where p is true, the other where p is false
abbrev pub under : Bool → Bool → Bool
under true p = p
under false p = not p

-- the manner is that of a binder
abbrev pub IsBinder : Manner → Type 0
IsBinder direct = ⊥
IsBinder (bound b) = ⊥
IsBinder (fixed w) = ⊥
IsBinder (binds w a) = Unit {0}

-- the side on which a fixed point accumulates: true for a least one, false for a greatest one
abbrev pub side_of : Manner → Bool
side_of direct = true
side_of (bound b) = true
side_of (fixed w) = w
side_of (binds w a) = w

-- the body of a binder
abbrev pub body_of : Manner → ℕ
body_of direct = 0
body_of (bound b) = 0
body_of (fixed w) = 0
body_of (binds w a) = a

-- the depth of the parts of a node of the depth d: one more under a binder
abbrev pub deeper : Manner → ℕ → ℕ
deeper direct d = d
deeper (bound b) d = d
deeper (fixed w) d = d
deeper (binds w a) d = suc d

module _ (φ : ℕ → Node) where
  -- how the node j comes to its meaning
  abbrev pub form : ℕ → Manner
  form j = manner (φ j).kind

-- b is a binder of the depth e around the node j; `scope` tells the binder of each depth around each node
pub record Encloses (φ : ℕ → Node) (n : ℕ) (scope : ℕ → ℕ → ℕ) (j e b : ℕ) : Type 0 where
  pub known : b < n
  pub later : j < b
  pub is_one : IsBinder (form φ b)
  pub place : (φ b).depth ≡ e
  -- around both lie the same binders, further out
  pub outer : (x : ℕ) → x < e → scope b x ≡ scope j x

-- the first n nodes are laid out as a formula
pub record Laid (φ : ℕ → Node) (n : ℕ) (scope : ℕ → ℕ → ℕ) : Type 0 where
  -- parts have lower numbers
  pub below : (j k : ℕ) (p : Bool) → j < n → Part (φ j).kind k p → k < j
  -- a part has the depth of its node, and one more under a binder
  pub depths : (j k : ℕ) (p : Bool) → j < n → Part (φ j).kind k p → (φ k).depth ≡ deeper (form φ j) (φ j).depth
  -- a part has the sign of its node, and the other under a `not`
  pub signs : (j k : ℕ) (p : Bool) → j < n → Part (φ j).kind k p → (φ k).sign ≡ under (φ j).sign p
  -- around a part lie the binders around its node, and the node itself if it is one
  pub within : (j k : ℕ) (p : Bool) → j < n → Part (φ j).kind k p → (x : ℕ) → x < (φ j).depth → scope k x ≡ scope j x
  pub opened : (j k : ℕ) (p : Bool) → j < n → Part (φ j).kind k p → IsBinder (form φ j) → scope k (φ j).depth ≡ j
  -- each depth below that of a node has its binder around the node
  pub encloses : (j e : ℕ) → j < n → e < (φ j).depth → Encloses φ n scope j e (scope j e)
  -- the binder of a variable lies around it, with an even number of `not` between
  pub variable : (j b : ℕ) → j < n → form φ j ≡ bound b → ((φ b).depth < (φ j).depth) × (scope j (φ b).depth ≡ b) × ((φ (body_of (form φ b))).sign ≡ (φ j).sign)

-- between a node and a binder around it, every node is inside that binder
abbrev pub Convex : (ℕ → Node) → ℕ → (ℕ → ℕ → ℕ) → Type 0
Convex φ n scope = (k i e : ℕ) → k < n → e < (φ k).depth → k ≤ i → i < scope k e → (e < (φ i).depth) × (scope i e ≡ scope k e)
