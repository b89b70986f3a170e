-- Names that join, line by line. Assumes nothing.
use Rattle.std.proofs.Common.{◌≡◌, ℕ, ◌<◌, ◌≤◌, Bool, true, false, cond, List, [], ◌∷◌, ◌++◌, length, Some, None, sym, refl, ap, ◌∙◌, arith, le-leb}
use borrow.Author.Tests.{lt-leb}
use Rattle.std.proofs.lemmas.Bool.{leb-true, leb-false}
use Rattle.text.proofs.Joins.{join_longer}
use Rattle.text.specs.Numbering.{names_limit, join_one, join_all}
use Rattle.text.specs.declared.names.Name.{Name}
use Rattle.files.specs.Lines.{Row}
use Rattle.transition_file.specs.TransitionPart.{numbered, names_in_line, names_in_rows, join_if_few}

pub join_append : (known a b : List Name) → join_all known (a ++ b) ≡ join_all (join_all known a) b
join_append known [] b = refl
join_append known (n ∷ a) b = join_append (join_one known n) a b

-- what join_if_few says in each case
module _ (known names : List Name) where
  pub few_join : length (join_all known names) ≤ names_limit → join_if_few known names ≡ Some (join_all known names)
  few_join h = ap (λ b. cond b (Some (join_all known names)) None) (le-leb _ names_limit h)

  pub many_stop : names_limit < length (join_all known names) → join_if_few known names ≡ None
  many_stop h = ap (λ b. cond b (Some (join_all known names)) None) (lt-leb _ names_limit h)

  pub few_if : (ns : List Name) → Some ns ≡ join_if_few known names → (ns ≡ join_all known names) × (length (join_all known names) ≤ names_limit)
  few_if ns = go (numbered (join_all known names)) refl
    where
      go : (b : Bool) → numbered (join_all known names) ≡ b → Some ns ≡ cond b (Some (join_all known names)) None → (ns ≡ join_all known names) × (length (join_all known names) ≤ names_limit)
      go true e h = (cc, leb-true (length (join_all known names)) names_limit e)
      go false e h = absurd (let z : ◌≡◌ {A = ℕ} 0 1 = cc in omega arith)

  pub many_if : None ≡ join_if_few known names → names_limit < length (join_all known names)
  many_if = go (numbered (join_all known names)) refl
    where
      go : (b : Bool) → numbered (join_all known names) ≡ b → None ≡ cond b (Some (join_all known names)) None → names_limit < length (join_all known names)
      go true e h = absurd (let z : ◌≡◌ {A = ℕ} 0 1 = cc in omega arith)
      go false e h = leb-false (length (join_all known names)) names_limit e

-- one line more
module _ (known : List Name) (rs : List Row) where
  module _ (r : Row) (rest : List Row) (e : rs ≡ r ∷ rest) where
    split : join_all known (names_in_rows rs) ≡ join_all (join_all known (names_in_line r.text)) (names_in_rows rest)
    split = ap (λ rs. join_all known (names_in_rows rs)) e ∙ join_append known (names_in_line r.text) (names_in_rows rest)

    pub line_full : None ≡ join_if_few known (names_in_line r.text) → join_if_few known (names_in_rows rs) ≡ None
    line_full h = many_stop known (names_in_rows rs)
        (omega (arith, many_if known (names_in_line r.text) h, ap length split, join_longer (join_all known (names_in_line r.text)) (names_in_rows rest)))

    pub line_joined : (ns : List Name) → Some ns ≡ join_if_few known (names_in_line r.text) → join_if_few known (names_in_rows rs) ≡ join_if_few ns (names_in_rows rest)
    line_joined ns h =
        let same : join_all known (names_in_rows rs) ≡ join_all ns (names_in_rows rest) =
        split ∙ ap (λ ms. join_all ms (names_in_rows rest)) (sym (few_if known (names_in_line r.text) ns h).0) in
        ap (λ ms. cond (numbered ms) (Some ms) None) same
