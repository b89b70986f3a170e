-- How each line is written, and that a line reads as a content exactly if it is that content's printed form. Assumes nothing.
use Rattle.std.specs.Prelude.{◌≡◌, ℕ, ◌<◌, List, [], ◌∷◌, ◌++◌, length, Ok, codes}
use Rattle.std.specs.List.{flat_map, AllByRecursion}
use Rattle.layouts.specs.declared.transitions.Header.{Header}
use Rattle.layouts.specs.Numbers.{numeral}
use Rattle.layouts.specs.Pieces.{unquoted}
use Rattle.layouts.specs.Layouts.{header_of, Arrow, transition_of, Item, items_of, Marks, marks_of}

-- a number that has a numeral
abbrev pub Writable : ℕ → Type 0
Writable n = n < 10000

-- a text without a quote mark
abbrev pub Quotable : List ℕ → Type 0
Quotable bytes = unquoted bytes ≡ length bytes

-- des (I, M, N)
abbrev pub printed_header : Header → List ℕ
printed_header h = codes "des (" ++ (numeral h.initial ++ (codes ", " ++ (numeral h.transitions ++ (codes ", " ++ (numeral h.states ++ codes ")")))))

pub record WritableHeader (h : Header) : Type 0 where
  pub initial : Writable h.initial
  pub transitions : Writable h.transitions
  pub states : Writable h.states

-- (F, "L", T)
abbrev pub printed_arrow : Arrow → List ℕ
printed_arrow a = codes "(" ++ (numeral a.source ++ (codes ", \"" ++ (a.label ++ (codes "\", " ++ (numeral a.target ++ codes ")")))))

pub record WritableArrow (a : Arrow) : Type 0 where
  pub source : Writable a.source
  pub label : Quotable a.label
  pub target : Writable a.target

-- k="text"
abbrev pub printed_item : Item → List ℕ
printed_item it = numeral it.number ++ (codes "=\"" ++ (it.text ++ codes "\""))

pub record WritableItem (it : Item) : Type 0 where
  pub number : Writable it.number
  pub text : Quotable it.text

-- part after part, with a piece between every two
abbrev pub printed_parts : {X : Type 0} → List ℕ → (X → List ℕ) → List X → List ℕ
printed_parts piece form [] = []
printed_parts piece form (x ∷ xs) = form x ++ flat_map (λ y. piece ++ form y) xs

-- entries, one space apart
abbrev pub printed_items : List Item → List ℕ
printed_items its = printed_parts (codes " ") printed_item its

-- q: i j
abbrev pub printed_marks : Marks → List ℕ
printed_marks m = numeral m.state ++ (codes ":" ++ printed_parts [] (λ n. codes " " ++ numeral n) m.numbers)

-- it reads as a content exactly if it is the printed form of that content
pub record ReadsAsWritten : Type 0 where
  pub header : (s : List ℕ) (h : Header) → (header_of s ≡ Ok h → WritableHeader h × (s ≡ printed_header h)) × (WritableHeader h → s ≡ printed_header h → header_of s ≡ Ok h)
  pub transition : (s : List ℕ) (a : Arrow) → (transition_of s ≡ Ok a → WritableArrow a × (s ≡ printed_arrow a)) × (WritableArrow a → s ≡ printed_arrow a → transition_of s ≡ Ok a)
  pub items : (s : List ℕ) (its : List Item) → (items_of s ≡ Ok its → (0 < length its) × AllByRecursion WritableItem its × (s ≡ printed_items its)) × (0 < length its → AllByRecursion WritableItem its → s ≡ printed_items its → items_of s ≡ Ok its)
  pub marks : (s : List ℕ) (m : Marks) → (marks_of s ≡ Ok m → Writable m.state × (0 < length m.numbers) × AllByRecursion Writable m.numbers × (s ≡ printed_marks m)) × (Writable m.state → 0 < length m.numbers → AllByRecursion Writable m.numbers → s ≡ printed_marks m → marks_of s ≡ Ok m)
