-- The class of each byte, by the ranges of ASCII.
use Rattle.std.specs.Prelude.{ℕ, Bool, cond, ◌&&◌, ◌||◌, leb, eqb}
use Rattle.classes.specs.declared.Class.{Class}
use Rattle.classes.specs.declared.Class.TheVariants.{Letter, Digit, Underscore, Dot, Colon, OpenRound, CloseRound, OpenSquare, CloseSquare, OpenCurly, CloseCurly, OpenAngle, CloseAngle, Space, LineEnd, Other}

-- the byte is one from lo to hi
abbrev pub within : ℕ → ℕ → ℕ → Bool
within lo hi b = leb lo b && leb b hi

-- A to Z and a to z are letters, 0 to 9 digits, fourteen bytes have a class of their own, and the rest is Other
abbrev pub class_rule : ℕ → Class
class_rule b =
    cond (within 65 90 b || within 97 122 b) Letter (
    cond (within 48 57 b) Digit (
    cond (eqb b 95) Underscore (
    cond (eqb b 46) Dot (
    cond (eqb b 58) Colon (
    cond (eqb b 40) OpenRound (
    cond (eqb b 41) CloseRound (
    cond (eqb b 91) OpenSquare (
    cond (eqb b 93) CloseSquare (
    cond (eqb b 123) OpenCurly (
    cond (eqb b 125) CloseCurly (
    cond (eqb b 60) OpenAngle (
    cond (eqb b 62) CloseAngle (
    cond (eqb b 32) Space (
    cond (eqb b 10) LineEnd Other))))))))))))))
