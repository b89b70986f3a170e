-- A test that passes at every entry of a table passes at each place.
use mathlib.Core.Path.{◌≡◌, refl, ◌∙◌, ap, subst, sym}
use mathlib.Core.Bool.{Bool, true, false, ◌&&◌}
use mathlib.Core.List.{List, [], ◌∷◌}
use Prim.Native.Nat.{ℕ, zero, suc, ◌+◌, ◌<◌}
use native.Mathlib.Nat.{add-zero, zero-add, add-suc, suc-add, le_of_suc-le-suc, not-suc-le-zero}
use lib.Dec.{T, eqb→eq}
use lib.ListN.{length, get_or}
use Rattle.classes.specs.declared.Class.{Class}
use Rattle.classes.specs.declared.Class.TheVariants.{Letter, Digit, Underscore, Dot, Colon, OpenRound, CloseRound, OpenSquare, CloseSquare, OpenCurly, CloseCurly, OpenAngle, CloseAngle, Space, LineEnd, Other}
use Rattle.classes.specs.Bytes.{class_rule}
use Rattle.classes.specs.Table.{number, same_class, every, keeps_rule}

left : (a b : Bool) → T (a && b) → T a
left true b t = tt
left false b t = t

right : (a b : Bool) → T (a && b) → T b
right true b t = t
right false b t = absurd t

from : {X : Type 0} (f : ℕ → X → Bool) (d : X) (xs : List X) (i : ℕ) → T (every f i xs) → (k : ℕ) → k < length xs → T (f (i + k) (get_or xs k d))
from f d [] i t k h = absurd (not-suc-le-zero h)
from f d (x ∷ xs) i t zero h = subst (λ (m : ℕ). T (f m x)) (sym (add-zero i)) (left (f i x) (every f (suc i) xs) t)
from f d (x ∷ xs) i t (suc k) h =
    subst (λ (m : ℕ). T (f m (get_or xs k d))) (suc-add i k ∙ sym (add-suc i k))
    (from f d xs (suc i) (right (f i x) (every f (suc i) xs) t) k (le_of_suc-le-suc h))

at : {X : Type 0} (f : ℕ → X → Bool) (d : X) (xs : List X) → T (every f 0 xs) → (k : ℕ) → k < length xs → T (f k (get_or xs k d))
at f d xs t k h = subst (λ (m : ℕ). T (f m (get_or xs k d))) (zero-add k) (from f d xs 0 t k h)

numbered : ℕ → Class
numbered n = get_or (Letter ∷ Digit ∷ Underscore ∷ Dot ∷ Colon ∷ OpenRound ∷ CloseRound ∷ OpenSquare ∷ CloseSquare ∷ OpenCurly ∷ CloseCurly ∷ OpenAngle ∷ CloseAngle ∷ Space ∷ LineEnd ∷ []) n Other

back : (c : Class) → numbered (number c) ≡ c
unfolding numbered
back Letter = refl
back Digit = refl
back Underscore = refl
back Dot = refl
back Colon = refl
back OpenRound = refl
back CloseRound = refl
back OpenSquare = refl
back CloseSquare = refl
back OpenCurly = refl
back CloseCurly = refl
back OpenAngle = refl
back CloseAngle = refl
back Space = refl
back LineEnd = refl
back Other = refl

-- a table that keeps the rule has at each place what the rule gives
pub ruled : (xs : List Class) (d : Class) → T (keeps_rule xs) → (b : ℕ) → b < length xs → get_or xs b d ≡ class_rule b
ruled xs d t b h =
    let same : T (same_class (get_or xs b d) (class_rule b)) = at (λ k c. same_class c (class_rule k)) d xs t b h in
    sym (back (get_or xs b d)) ∙ ap numbered (eqb→eq (number (get_or xs b d)) (number (class_rule b)) same) ∙ back (class_rule b)
