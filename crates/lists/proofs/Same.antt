-- A list is known from its items.
use Rattle.std.proofs.Common.{◌≡◌, ℕ, ◌-◌, ◌≤◌, List, length, take, drop, replicate, sym, ap, ◌∙◌}
use Rattle.std.specs.Coded.{Coded, Coded-set, coded_list, coded_ℕ, le_prop}
use mathlib.Core.HLevel.{is_prop→PathP}
use Rattle.lists.specs.declared.Blank.{Ghosts}
use Rattle.lists.specs.declared.FixedList.{FixedList}
use Rattle.lists.specs.Filled.{Filled, filled}
use Rattle.lists.specs.FilledLaw.{held_count, places_back}
use Rattle.lists.specs.Items.{items}
use Rattle.lists.specs.Same.{SameItemsSameList}

-- that places are filled is a fact, where the values of the items are told apart by a code
filled_prop : {X : Type 0} → Coded X → (N : ℕ) (blank : X) (count : ℕ) (places : List X) → IsProp (Filled N blank count places)
filled_prop code N blank count places f g = λ i. record {
  within = le_prop f.within g.within i;
  whole = Coded-set coded_ℕ (length places) N f.whole g.whole i;
  behind = Coded-set (coded_list code) (drop count places) (replicate (N - count) blank) f.behind g.behind i;
}

module _ {X : Type 0} (code : Coded X) {N : ℕ} {B : Ghosts X} where
  pub same_items : SameItemsSameList X N B
  same_items l m e = λ i. record {
    places = places_are i;
    count = count_is i;
    filled = is_prop→PathP (λ j. Filled N B.blank (count_is j) (places_are j)) (λ j. filled_prop code N B.blank (count_is j) (places_are j)) l.filled m.filled i;
  }
    where
      count_is : l.count ≡ m.count
      count_is = sym (held_count N B.blank l.count l.places l.filled) ∙ ap length e ∙ held_count N B.blank m.count m.places m.filled

      places_are : l.places ≡ m.places
      places_are = sym (places_back N B.blank l.count l.places l.filled) ∙ ap (filled N B.blank) e ∙ places_back N B.blank m.count m.places m.filled
