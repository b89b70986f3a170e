-- Rows of places that are filled from the front.
use Rattle.std.proofs.Common.{◌≡◌, ℕ, suc, ◌+◌, ◌-◌, ◌<◌, List, ◌∷◌, ◌++◌, length, take, drop, set, replicate, sym, ap, ◌∙◌, arith}
use Rattle.std.proofs.lemmas.List.{length-take-le, take-append-drop, drop-drop, drop-replicate, length-replicate, drop-set, drop-set-lt, length-set}
use Rattle.lists.specs.Filled.{Filled, filled}

module _ {X : Type 0} (N : ℕ) (blank : X) (count : ℕ) (places : List X) (f : Filled N blank count places) where
  -- as many items are held as are counted
  pub held_count : length (take count places) ≡ count
  held_count = length-take-le count places (omega (arith, f.within, f.whole))

  -- the places are known from the items
  pub places_back : filled N blank (take count places) ≡ places
  places_back =
      ap (λ n. take count places ++ replicate (N - n) blank) held_count
      ∙ ap (λ xs. take count places ++ xs) (sym f.behind)
      ∙ take-append-drop count places

  behind_next : drop (count + 1) places ≡ replicate (N - (count + 1)) blank
  behind_next =
      sym (drop-drop 1 count places)
      ∙ ap (drop 1) f.behind
      ∙ drop-replicate 1 (N - count) blank
      ∙ ap (λ n. replicate n blank) (omega arith)

  -- one item more
  pub one_more : (x : X) → count < N → Filled N blank (count + 1) (set places count x)
  one_more x lt = record {
    within = omega (arith, lt);
    whole = length-set places count x ∙ f.whole;
    behind = drop-set-lt (count + 1) places count x (omega arith) ∙ behind_next;
  }

  -- one item less, and a blank in its place
  pub one_less : (x : X) → x ≡ blank → 0 < count → Filled N blank (count - 1) (set places (count - 1) x)
  one_less x e some =
      let next : (count - 1) + 1 ≡ count = omega arith in
      let more : suc (N - count) ≡ N - (count - 1) = omega (arith, f.within) in
      record {
        within = omega (arith, f.within);
        whole = length-set places (count - 1) x ∙ f.whole;
        behind =
            drop-set places (count - 1) x (omega (arith, f.within, f.whole))
            ∙ (λ i. e i ∷ drop (next i) places)
            ∙ ap (λ xs. blank ∷ xs) f.behind
            ∙ ap (λ n. replicate n blank) more;
      }

-- no items
pub none_held : {X : Type 0} (N : ℕ) (blank : X) → Filled N blank 0 (replicate N blank)
none_held N blank = record { within = omega arith; whole = length-replicate N blank; behind = ap (λ n. replicate n blank) (omega arith) }
