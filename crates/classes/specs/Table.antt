-- A table of classes that keeps the rule, as one test over all of its entries.
use Rattle.std.specs.Prelude.{Bool, true, ◌&&◌, List, [], ◌∷◌, ℕ, suc, eqb}
use Rattle.classes.specs.declared.Class.{Class}
use Rattle.classes.specs.declared.Class.TheVariants.{Letter, Digit, Underscore, Dot, Colon, OpenRound, CloseRound, OpenSquare, CloseSquare, OpenCurly, CloseCurly, OpenAngle, CloseAngle, Space, LineEnd, Other}
use Rattle.classes.specs.Bytes.{class_rule}

-- the place of a class in the order in which the classes are declared
abbrev pub number : Class → ℕ
number Letter = 0
number Digit = 1
number Underscore = 2
number Dot = 3
number Colon = 4
number OpenRound = 5
number CloseRound = 6
number OpenSquare = 7
number CloseSquare = 8
number OpenCurly = 9
number CloseCurly = 10
number OpenAngle = 11
number CloseAngle = 12
number Space = 13
number LineEnd = 14
number Other = 15

-- two classes are one
abbrev pub same_class : Class → Class → Bool
same_class c d = eqb (number c) (number d)

-- the test passes at each entry and its place, counted from i
abbrev pub every : {X : Type 0} → (ℕ → X → Bool) → ℕ → List X → Bool
every f i [] = true
every f i (x ∷ xs) = f i x && every f (suc i) xs

-- each entry is what the rule gives at its place
abbrev pub keeps_rule : List Class → Bool
keeps_rule table = every (λ b c. same_class c (class_rule b)) 0 table
