-- Ranks as numbers: earlier ranks spell a smaller number, in a base above all of them, and of finitely many claims there is such a base.
-- Assumes nothing.
use Rattle.std.proofs.Common.{◌≡◌, ℕ, zero, suc, ◌+◌, ◌*◌, ◌<◌, ◌≤◌, ◌⊎◌, List, [], ◌∷◌, get_or, refl, ap, subst, inl, inr, ⊎_elim, mul-le-mul_right, suc-mul, arith}
use Rattle.std.proofs.lemmas.Bool.{cases_lt}
use Rattle.certificates.specs.Ranks.{Same, Earlier, rank_of, Claims}

-- the number that the first k places spell in base B
abbrev pub spells : ℕ → ℕ → (ℕ → ℕ) → ℕ
spells B zero r = 0
spells B (suc k) r = spells B k r * B + r k

spells_same : (B k : ℕ) (r s : ℕ → ℕ) → Same k r s → spells B k r ≡ spells B k s
spells_same B zero r s h = refl
spells_same B (suc k) r s h =
    let e : spells B k r * B ≡ spells B k s * B = ap (λ v. v * B) (spells_same B k r s (λ y l. h y (omega arith))) in
    omega (arith, h k (omega arith))

pub earlier_spells : (B k : ℕ) (r s : ℕ → ℕ) → ((x : ℕ) → r x < B) → Earlier k r s → spells B k r < spells B k s
earlier_spells B zero r s hr h = absurd (omega (arith, h.1))
earlier_spells B (suc k) r s hr h = go (cases_lt h.0 k) (λ l. earlier_spells B k r s hr (h.0, l, h.2, h.3))
  where
    go : (h.0 < k) ⊎ (k ≤ h.0) → (h.0 < k → spells B k r < spells B k s) → spells B (suc k) r < spells B (suc k) s
    go (inl l) f =
        let m : suc (spells B k r) * B ≤ spells B k s * B = mul-le-mul_right B (f l) in
        omega (arith, suc-mul (spells B k r) B, hr k)
    go (inr l) f =
        let z : h.0 ≡ k = omega (arith, h.1) in
        let lt : r k < s k = subst (λ x. r x < s x) z h.2 in
        let e : spells B k r * B ≡ spells B k s * B = ap (λ v. v * B) (spells_same B k r s (λ y ly. h.3 y (omega arith))) in
        omega arith

-- what holds of each number from some bound on has one bound below n
module _ (P : ℕ → ℕ → Type 0) (up : (i a b : ℕ) → a ≤ b → P i a → P i b) where
  one_more : (n : ℕ) → (b : ℕ) × ((i : ℕ) → i < n → P i b) → (c : ℕ) × P n c → (b : ℕ) × ((i : ℕ) → i < suc n → P i b)
  one_more n h g = (h.0 + g.0, λ i l. ⊎_elim (λ y. up i _ _ (omega arith) (h.1 i y)) (λ y. last i (omega arith)) (cases_lt i n))
    where
      last : (i : ℕ) → n ≡ i → P i (h.0 + g.0)
      last i e = subst (λ x. P x (h.0 + g.0)) e (up n g.0 (h.0 + g.0) (omega arith) g.1)

  common : ((i : ℕ) → (b : ℕ) × P i b) → (n : ℕ) → (b : ℕ) × ((i : ℕ) → i < n → P i b)
  common some zero = (0, λ i l. absurd (omega arith))
  common some (suc n) = one_more n (common some n) (some n)

above_both : (y : ℕ) (ys : List ℕ) → (b : ℕ) × ((x : ℕ) → get_or ys x 0 < b) → (b : ℕ) × ((x : ℕ) → get_or (y ∷ ys) x 0 < b)
above_both y ys h = (suc y + h.0, read)
  where
    read : (x : ℕ) → get_or (y ∷ ys) x 0 < suc y + h.0
    read zero = omega arith
    read (suc x) = omega (arith, h.1 x)

above_list : (xs : List ℕ) → (b : ℕ) × ((x : ℕ) → get_or xs x 0 < b)
above_list [] = (1, λ x. omega arith)
above_list (y ∷ ys) = above_both y ys (above_list ys)

-- a base above the ranks of the claims of n nodes in N states
pub base_above : (C : Claims) (n N : ℕ) → (b : ℕ) × ((k : ℕ) → k < n → (q : ℕ) → q < N → (x : ℕ) → rank_of (C k q) x < b)
base_above C n N =
    common (λ k b. (q : ℕ) → q < N → (x : ℕ) → rank_of (C k q) x < b) (λ k a b l h q lq x. omega (arith, h q lq x))
    (λ k. common (λ q b. (x : ℕ) → rank_of (C k q) x < b) (λ q a b l h x. omega (arith, h x)) (λ q. above_list (C k q).ranks) N) n
