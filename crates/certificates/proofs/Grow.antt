-- Of two sets of claims of the nodes inside a binder, the one with larger sets given has the accumulating side wherever the other has it.
-- Assumes nothing.
use Rattle.std.proofs.Common.{◌≡◌, ℕ, zero, suc, ◌<◌, ◌≤◌, Bool, true, false, cond, T, eqb, ltb, sym, refl, ap, ◌∙◌, arith}
use Rattle.std.proofs.lemmas.Bool.{ltb-true, ltb-false, eqb-true}
use Rattle.systems.specs.Meaning.{Meaning, Lawful}
use Rattle.logic.specs.Guards.{Guard}
use Rattle.logic.specs.declared.nodes.Node.{Node}
use Rattle.logic.specs.Unfolding.{Agree}
use Rattle.logic.specs.Laid.{under, IsBinder, side_of, body_of, form, Laid}
use Rattle.logic.proofs.Lines.{body_part}
use Rattle.certificates.specs.Ranks.{Claims}
use Rattle.certificates.specs.Relative.{AllSupportedGiven}
use Rattle.certificates.specs.Right.{HoldsWith}
use Rattle.certificates.specs.Merging.{Inside, accumulates, set_in, with_set, RoundsOf, RoundsGrow}
use Rattle.certificates.proofs.Sides.{under_true, side_right, one_side, not_self}
use Rattle.certificates.proofs.Table.{size}
use Rattle.certificates.proofs.Free.{Occurs, Formed, Whole}
use Rattle.certificates.proofs.Given.{set_of, body_side}
use Rattle.certificates.proofs.Within.{right_given}
use Rattle.certificates.proofs.Nesting.{laid_formed, inside_whole, inside_body, acc_body, acc_part, acc_back}

module _ (S : Meaning) (lawful : Lawful S) (accepts : Guard → ℕ → Bool) (φ : ℕ → Node) (n : ℕ) (scope : ℕ → ℕ → ℕ) (laid : Laid φ n scope)
    (j : ℕ) (jn : j < n) where
  abbrev acc : ℕ → Bool
  acc = accumulates φ j

  abbrev D : ℕ → Type 0
  D = Inside φ n scope j

  formed : Formed φ n
  formed = laid_formed φ n scope laid

  whole : Whole φ n j D
  whole = inside_whole φ n scope laid j jn

  module _ (β γ : ℕ → ℕ → Bool) (B C : Claims) (supportedB : AllSupportedGiven S accepts φ j β B D) (supportedC : AllSupportedGiven S accepts φ j γ C D)
      (grown : (k b : ℕ) (p : Bool) → D k → Occurs φ k b p → j ≤ b → (q : ℕ) → q < size S → β b q ≡ under (acc k) p → γ b q ≡ under (acc k) p) where
    -- the sets of C, for which its claims are right
    abbrev sets : ℕ → ℕ → Bool
    sets = set_of φ j γ C

    abbrev GrowsAt : ℕ → Type 0
    GrowsAt k = (q : ℕ) → q < size S → (B k q).holds ≡ acc k → (C k q).holds ≡ acc k

    own : (k q : ℕ) → D k → q < size S → Agree (C k q).holds (HoldsWith S accepts φ sets k q)
    own k q dk l = right_given S lawful accepts φ n formed j D whole γ C supportedC k q dk l (C k q).holds refl (λ b r. T (sets b r))
        (λ b p occ r lr e. side_right (sets b r) (under (C k q).holds p) e)

    grows_at : (k : ℕ) → D k → ((b : ℕ) (p : Bool) → Occurs φ k b p → b < j → GrowsAt (body_of (form φ b))) → GrowsAt k
    grows_at k dk h q l sd = one_side (C k q).holds (acc k) (HoldsWith S accepts φ sets k q) (own k q dk l)
        (right_given S lawful accepts φ n formed j D whole β B supportedB k q dk l (acc k) sd (λ b r. T (sets b r))
        (λ b p occ r lr e. side_right (sets b r) (under (acc k) p) (go b p occ r lr (ltb b j) refl e)))
      where
        go : (b : ℕ) (p : Bool) → Occurs φ k b p → (r : ℕ) → r < size S → (v : Bool) → ltb b j ≡ v →
            cond v (B (body_of (form φ b)) r).holds (β b r) ≡ under (acc k) p → cond v (C (body_of (form φ b)) r).holds (γ b r) ≡ under (acc k) p
        go b p occ r lr true t e = let ab = acc_back φ n scope laid j k b p dk.0 occ in h b p occ (ltb-true b j t) r lr (e ∙ sym ab) ∙ ab
        go b p occ r lr false t e = grown k b p dk occ (ltb-false b j t) r lr e

    -- a binder accumulates as its body does
    binder_acc : (b : ℕ) → D b → IsBinder (form φ b) → acc (body_of (form φ b)) ≡ acc b
    binder_acc b db ib = acc_part φ n scope laid j b (body_of (form φ b)) true db.0 (body_part (φ b).kind ib) ∙ under_true (acc b)

    grows_body : (b : ℕ) → D b → IsBinder (form φ b) → ((c : ℕ) (p : Bool) → Occurs φ b c p → c < j → GrowsAt (body_of (form φ c))) → GrowsAt (body_of (form φ b))
    grows_body b db ib h q l sd =
        let in_b = body_side S accepts φ j β B (B b q).holds b q ib (supportedB b q db l) in
        let in_c = body_side S accepts φ j γ C (C b q).holds b q ib (supportedC b q db l) in
        in_c ∙ grows_at b db h q l (sym in_b ∙ sd ∙ binder_acc b db ib) ∙ sym (binder_acc b db ib)

    grows_bodies : (d b : ℕ) → D b → IsBinder (form φ b) → (φ b).depth < d → GrowsAt (body_of (form φ b))
    grows_bodies zero b db ib h = absurd (omega arith)
    grows_bodies (suc d) b db ib h =
        grows_body b db ib
        (λ c p occ cj. let sc = formed.scoped b c p db.0 occ in grows_bodies d c (whole.inner b c p db occ cj) sc.1 (omega (arith, sc.2)))

    grows : (k : ℕ) → D k → GrowsAt k
    grows k dk = grows_at k dk
        (λ b p occ bj. let sc = formed.scoped k b p dk.0 occ in grows_bodies (φ k).depth b (whole.inner k b p dk occ bj) sc.1 sc.2)

  -- the rounds of the binder
  module _ (ib : IsBinder (form φ j)) (β : ℕ → ℕ → Bool) (C : ℕ → Claims) (m : ℕ) (rounds : RoundsOf S accepts φ n scope j β C m) where
    abbrev w : Bool
    w = side_of (form φ j)

    abbrev a : ℕ
    a = body_of (form φ j)

    acc_a : acc a ≡ w
    acc_a = acc_body φ n scope laid j jn ib

    grows_from : (i : ℕ) → i < m → ((q : ℕ) → q < size S → set_in φ j C i q ≡ w → (C i a q).holds ≡ w) →
        (k : ℕ) → D k → (q : ℕ) → q < size S → (C i k q).holds ≡ acc k → (C (suc i) k q).holds ≡ acc k
    grows_from i l g = grows (with_set β j (set_in φ j C i)) (with_set β j (set_in φ j C (suc i))) (C i) (C (suc i))
        (rounds i (omega arith)) (rounds (suc i) l) grown
      where
        grown : (k b : ℕ) (p : Bool) → D k → Occurs φ k b p → j ≤ b → (q : ℕ) → q < size S →
            with_set β j (set_in φ j C i) b q ≡ under (acc k) p → with_set β j (set_in φ j C (suc i)) b q ≡ under (acc k) p
        grown k b p dk occ jb q lq = go (eqb b j) refl
          where
            go : (v : Bool) → eqb b j ≡ v → cond v (set_in φ j C i q) (β b q) ≡ under (acc k) p → cond v (C i a q).holds (β b q) ≡ under (acc k) p
            go true e x =
                let ab = acc_back φ n scope laid j k b p dk.0 occ in
                let tw : under (acc k) p ≡ w = sym ab ∙ ap (λ y. acc (body_of (form φ y))) (eqb-true b j e) ∙ acc_a in
                g q lq (x ∙ tw) ∙ sym tw
            go false e x = x

    pub grows_one : (i : ℕ) → i < m → (k : ℕ) → D k → (q : ℕ) → q < size S → (C i k q).holds ≡ acc k → (C (suc i) k q).holds ≡ acc k
    grows_one zero l = grows_from zero l (λ q lq e. absurd (not_self w e))
    grows_one (suc i) l = grows_from (suc i) l (λ q lq e. grows_one i (omega arith) a (inside_body φ n scope laid j jn ib) q lq (e ∙ sym acc_a) ∙ acc_a)

pub rounds_grow : RoundsGrow
rounds_grow S accepts φ n scope j β C m lawful laid jn ib rounds i k q l dk lq = grows_one S lawful accepts φ n scope laid j jn ib β C m rounds i l k dk q lq
