-- The names in the label of a transition. Assumes nothing.
use Rattle.std.specs.Prelude.{ℕ, cond, List, [], ◌∷◌, ◌++◌, length, Some, None, codes, Option, ◌==◌, nat_le}
use Rattle.text.specs.Words.{same}
use Rattle.text.specs.Names.{named}
use Rattle.text.specs.declared.names.Name.{Name}

-- the most names in a label, repetitions counted
abbrev pub label_limit : ℕ
label_limit = 8

-- one byte more at the front of the first piece
abbrev pub on_first : ℕ → List (List ℕ) → List (List ℕ)
on_first x [] = (x ∷ []) ∷ []
on_first x (p ∷ ps) = (x ∷ p) ∷ ps

-- the pieces between the bytes b; there is always one
abbrev pub pieces : ℕ → List ℕ → List (List ℕ)
pieces b [] = [] ∷ []
pieces b (x ∷ xs) = cond (x == b) ([] ∷ pieces b xs) (on_first x (pieces b xs))

-- names before others, if there are others
abbrev pub before_all : {X : Type 0} → List X → Option (List X) → Option (List X)
before_all xs None = None
before_all xs (Some ys) = Some (xs ++ ys)

-- a name before others
abbrev pub with_name : Option Name → Option (List Name) → Option (List Name)
with_name None ns = None
with_name (Some n) ns = before_all (n ∷ []) ns

-- the names of the pieces, if each is a name
abbrev pub all_named : List (List ℕ) → Option (List Name)
all_named [] = Some []
all_named (p ∷ ps) = with_name (named p) (all_named ps)

-- the names that a label lists: none in i, else 1 to 8 names that ; joins; a label that is neither is not lawful
abbrev pub label_names : List ℕ → Option (List Name)
label_names l = cond (same l (codes "i")) (Some []) (cond (nat_le (length (pieces 59 l)) label_limit) (all_named (pieces 59 l)) None)
