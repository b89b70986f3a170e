-- A part of a line that repeats, and its printed form. Assumes nothing.
use Rattle.std.proofs.Common.{◌≡◌, ℕ, zero, suc, ◌<◌, ◌≤◌, List, [], ◌∷◌, ◌++◌, length, drop, Some, None, Ok, Option, Result, sym, refl, ap, ◌∙◌, subst, arith, length-append}
use Rattle.std.proofs.lemmas.List.{append_assoc, append-nil}
use Rattle.std.specs.List.{flat_map, AllByRecursion}
use Rattle.layouts.specs.declared.fault.LineFault.{LineFault}
use Rattle.layouts.specs.Layouts.{go_on, repeated}
use Rattle.layouts.specs.Printed.{printed_parts}
use Rattle.layouts.proofs.Steps.{begun, ok_same}

-- what is left after a part: nothing, or a piece and the next part
abbrev pub rest : List ℕ → List ℕ → Option ℕ → List ℕ
rest piece s None = []
rest piece s (Some j) = piece ++ drop j s

module _ {X : Type 0} (s piece : List ℕ) (form : X → List ℕ) (W : X → Type 0) (one : ℕ → Result (X × Option ℕ) LineFault) where
  abbrev Told : ℕ → List X → Type 0
  Told i xs = (0 < length xs) × AllByRecursion W xs × (drop i s ≡ printed_parts piece form xs)

  module _ (told : (i : ℕ) (x : X × Option ℕ) → one i ≡ Ok x → W x.0 × (drop i s ≡ form x.0 ++ rest piece s x.1)) where
    -- one part, and what goes on after it
    step : (i : ℕ) (x : X) (next : Option ℕ) (xs ys : List X) → W x × (drop i s ≡ form x ++ rest piece s next) → (after : ℕ → Result (List X) LineFault) →
        ((j : ℕ) (zs : List X) → after j ≡ Ok zs → Told j zs) → go_on next after ≡ Ok xs → ◌≡◌ {A = Result (List X) LineFault} (Ok (x ∷ xs)) (Ok ys) → Told i ys
    step i x None xs ys t after ih e f =
        let none : [] ≡ xs = ok_same {E = LineFault} [] xs e in
        let all : x ∷ [] ≡ ys = ap (λ zs. x ∷ zs) none ∙ ok_same {E = LineFault} (x ∷ xs) ys f in
        subst (λ zs. Told i zs) all (omega arith, (t.0, tt), t.1)
    step i x (Some j) [] ys t after ih e f = absurd (omega (arith, (ih j [] e).0))
    step i x (Some j) (y ∷ xs) ys t after ih e f =
        let more = ih j (y ∷ xs) e in
        subst (λ zs. Told i zs) (ok_same {E = LineFault} (x ∷ (y ∷ xs)) ys f) (omega arith, (t.0, more.1), t.1 ∙ ap (λ u. form x ++ (piece ++ u)) more.2 ∙ ap (λ u. form x ++ u) (sym (append_assoc piece (form y) _)))

    pub parts_forth : (turns i : ℕ) (xs : List X) → repeated one turns i ≡ Ok xs → Told i xs
    parts_forth zero i xs e = absurd (let z : ◌≡◌ {A = ℕ} 0 1 = cc in omega arith)
    parts_forth (suc turns) i xs e =
        begun (one i) _ xs e (Told i xs) (λ x p e1.
        begun (go_on x.1 (repeated one turns)) _ xs e1 (Told i xs) (λ ys q e2.
        step i x.0 x.1 ys xs (told i x p) (repeated one turns) (parts_forth turns) q e2))

  module _ (last : (i : ℕ) (x : X) → W x → drop i s ≡ form x → one i ≡ Ok (x, None))
      (more : (i : ℕ) (x y : X) (u : List ℕ) → W x → drop i s ≡ form x ++ (piece ++ (form y ++ u)) → (j : ℕ) × (one i ≡ Ok (x, Some j)) × (drop j s ≡ form y ++ u)) where
    pub parts_back : (turns i : ℕ) (xs : List X) → 0 < length xs → length xs ≤ turns → AllByRecursion W xs → drop i s ≡ printed_parts piece form xs → repeated one turns i ≡ Ok xs
    parts_back turns i [] some few all e = absurd (omega arith)
    parts_back zero i (x ∷ xs) some few all e = absurd (omega arith)
    parts_back (suc turns) i (x ∷ []) some few all e =
        let p = last i x all.0 (e ∙ append-nil (form x)) in
        rw p refl
    parts_back (suc turns) i (x ∷ (y ∷ xs)) some few all e =
        let m = more i x y (flat_map (λ z. piece ++ form z) xs) all.0 (e ∙ ap (λ u. form x ++ u) (append_assoc piece (form y) _)) in
        let ih = parts_back turns m.0 (y ∷ xs) (omega arith) (omega arith) all.1 m.2 in
        let p = m.1 in
        rw (p, ih) refl

-- a printed form has at least as many bytes as parts, if each part has one
joined_long : {X : Type 0} (f : X → List ℕ) → ((x : X) → 0 < length (f x)) → (xs : List X) → length xs ≤ length (flat_map f xs)
joined_long f h [] = omega arith
joined_long f h (x ∷ xs) = omega (arith, h x, joined_long f h xs, length-append (f x) (flat_map f xs))

pub parts_long : {X : Type 0} (piece : List ℕ) (form : X → List ℕ) → ((x : X) → 0 < length (form x)) → (xs : List X) → length xs ≤ length (printed_parts piece form xs)
parts_long piece form h [] = omega arith
parts_long piece form h (x ∷ xs) =
    omega (arith, h x, joined_long (λ y. piece ++ form y) (λ y. omega (arith, h y, length-append piece (form y))) xs, length-append (form x) (flat_map (λ y. piece ++ form y) xs))
