-- Values written over the first places, one by one. Assumes nothing.
use Rattle.std.proofs.Common.{◌≡◌, ℕ, zero, suc, ◌+◌, ◌<◌, ◌≤◌, List, [], ◌∷◌, map, length, take, drop, set, sym, refl, ap, ◌∙◌, add-one, arith}
use Rattle.text.specs.declared.names.Name.{Name}
use Rattle.transition_file.specs.TransitionPart.{arrow_in, arrows_of, body}
use Rattle.transition_file.specs.Records.{record_in, line_record, written}

pub written_none : {X : Type 0} (xs : List X) → written [] xs ≡ xs
written_none [] = refl
written_none (x ∷ xs) = refl

written_more : {X : Type 0} (vs xs : List X) (k : ℕ) (v : X) (ws : List X) → k < length xs → drop k vs ≡ v ∷ ws → set (written (take k vs) xs) k v ≡ written (take (suc k) vs) xs
written_more vs [] k v ws h e = absurd (omega arith)
written_more [] (x ∷ xs) zero v ws h e = absurd (let z : ◌≡◌ {A = ℕ} 0 1 = cc in omega arith)
written_more (u ∷ us) (x ∷ xs) zero v ws h e = let same : v ≡ u = cc in λ j. same j ∷ sym (written_none xs) j
written_more [] (x ∷ xs) (suc k) v ws h e = absurd (let z : ◌≡◌ {A = ℕ} 0 1 = cc in omega arith)
written_more (u ∷ us) (x ∷ xs) (suc k) v ws h e = ap (λ ys. u ∷ ys) (written_more us xs k v ws (omega arith) e)

written_all : {X : Type 0} (vs xs : List X) (k : ℕ) → length xs ≤ k → written (take k vs) xs ≡ written vs xs
written_all vs [] k h = refl
written_all vs (x ∷ xs) zero h = absurd (omega arith)
written_all [] (x ∷ xs) (suc k) h = refl
written_all (v ∷ vs) (x ∷ xs) (suc k) h = ap (λ ys. v ∷ ys) (written_all vs xs k (omega arith))

take_none : {X : Type 0} (vs : List X) (k : ℕ) → drop k vs ≡ [] → take k vs ≡ vs
take_none vs zero e = sym e
take_none [] (suc k) e = refl
take_none (v ∷ vs) (suc k) e = ap (λ ys. v ∷ ys) (take_none vs k e)

drop_next : {X : Type 0} (vs : List X) (k : ℕ) (v : X) (ws : List X) → drop k vs ≡ v ∷ ws → drop (suc k) vs ≡ ws
drop_next [] zero v ws e = absurd (let z : ◌≡◌ {A = ℕ} 0 1 = cc in omega arith)
drop_next (u ∷ us) zero v ws e = cc
drop_next [] (suc k) v ws e = absurd (let z : ◌≡◌ {A = ℕ} 0 1 = cc in omega arith)
drop_next (u ∷ us) (suc k) v ws e = drop_next us k v ws e

map_map : {X Y Z : Type 0} (f : X → Y) (g : Y → Z) (xs : List X) → map g (map f xs) ≡ map (λ x. g (f x)) xs
map_map f g [] = refl
map_map f g (x ∷ xs) = ap (λ ys. g (f x) ∷ ys) (map_map f g xs)

-- the first k values are written, and the others are left
pub record Sofar {X : Type 0} (values before now : List X) (k : ℕ) (rest : List X) : Type 0 where
  pub done : now ≡ written (take k values) before
  pub left : rest ≡ drop k values

module _ {X : Type 0} (values before : List X) where
  pub begin : (rest : List X) → rest ≡ values → Sofar values before before 0 rest
  begin rest e = record { done = sym (written_none before); left = e }

  module _ (now : List X) (k : ℕ) (rest : List X) (f : Sofar values before now k rest) where
    pub no_more : rest ≡ [] → now ≡ written values before
    no_more e = f.done ∙ ap (λ vs. written vs before) (take_none values k (sym f.left ∙ e))

    pub full : length before ≤ k → now ≡ written values before
    full h = f.done ∙ written_all values before k h

    pub one_more : (v : X) (vs : List X) → rest ≡ v ∷ vs → k < length before → Sofar values before (set now k v) (k + 1) vs
    one_more v vs e h =
        let here = sym f.left ∙ e in
        record {
          done = ap (λ xs. set xs k v) f.done ∙ written_more values before k v vs h here ∙ ap (λ n. written (take n values) before) (sym (add-one k));
          left = sym (drop_next values k v vs here) ∙ ap (λ n. drop n values) (sym (add-one k));
        }

-- the records of the lines are those of the transitions
pub records_are : (known : List Name) (file : List ℕ) → map (λ r. line_record known r.text) (body file) ≡ map (record_in known) (arrows_of file)
records_are known file = sym (map_map (λ r. arrow_in r.text) (record_in known) (body file))
