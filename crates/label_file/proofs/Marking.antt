-- The lines of labels one by one. Assumes nothing.
use Rattle.std.proofs.Common.{◌≡◌, ℕ, suc, ◌+◌, Bool, true, false, cond, ◌&&◌, ltb, leb, List, [], ◌∷◌, length, get_or, is_some, Some, None, Ok, Err, fold, Option, Result, sym, refl, ap, ◌∙◌, add-one, arith}
use lib.Bits.{bit_or}
use Rattle.std.specs.Option.{option_map}
use Rattle.files.specs.Lines.{Row}
use Rattle.layouts.specs.Layouts.{Marks, marks_of}
use Rattle.layouts.specs.declared.fault.LineFault.{LineFault}
use Rattle.contents.specs.NamesLine.{map_ok}
use Rattle.contents.specs.MarksLine.{add_mark, set_of, marked_by, marked_of}
use Rattle.contents.specs.declared.marks.Listing.{Listing}
use Rattle.contents.specs.declared.marks.Marked.{Marked}
use Rattle.label_file.specs.LabelPart.{rising, lawful_marks, asked_marks, state_in, lawful_state}

-- numbers rise and are listed exactly if they make a set
lost : (ms ns : List ℕ) → fold (add_mark ms) None ns ≡ None
lost ms [] = refl
lost ms (n ∷ ns) = lost ms ns

risen : (ms : List ℕ) (l : Listing) (ns : List ℕ) → is_some (option_map (λ k. k.set) (fold (add_mark ms) (Some l) ns)) ≡ rising l.least (length ms) ns
risen ms l [] = refl
risen ms l (n ∷ ns) = go (leb l.least n && ltb n (length ms)) refl (risen ms (record { least = n + 1; set = bit_or l.set (get_or ms n 0) }) ns)
  where
    go : (b : Bool) → (leb l.least n && ltb n (length ms)) ≡ b →
        is_some (option_map (λ k. k.set) (fold (add_mark ms) (Some (record { least = n + 1; set = bit_or l.set (get_or ms n 0) })) ns)) ≡ rising (n + 1) (length ms) ns →
        is_some (option_map (λ k. k.set) (fold (add_mark ms) (cond b (Some (record { least = n + 1; set = bit_or l.set (get_or ms n 0) })) None) ns)) ≡ (b && rising (suc n) (length ms) ns)
    go true e ih = ih ∙ ap (λ k. rising k (length ms) ns) (add-one n)
    go false e ih = ap (λ o. is_some (option_map (λ k. k.set) o)) (lost ms ns)

pub set_rises : (ms ns : List ℕ) → is_some (set_of ms ns) ≡ rising 0 (length ms) ns
set_rises ms ns = risen ms (record { least = 0; set = 0 }) ns

-- what a line's labels are worth, by what was read of it
module _ (ms : List ℕ) (n least : ℕ) (row : Row) where
  abbrev Said : Bool → Result Marks LineFault → Option ℕ
  Said ended r = cond (ended && asked_marks (lawful_marks n (length ms) least) r) (Some (state_in r)) None

  module _ (x : Result Marked LineFault) (e : x ≡ marked_of ms row.text) (h : row.ended ≡ true) where
    abbrev Tests : Marked → Bool
    Tests m = (ltb m.state n && leb least m.state) && is_some m.set

    by : (r : Result Marks LineFault) (m : Marked) → map_ok (marked_by ms) r ≡ Ok m → Said true r ≡ cond (Tests m) (Some m.state) None
    by (Ok k) m q =
        let same : marked_by ms k ≡ m = cc in
        (λ j. cond ((ltb k.state n && leb least k.state) && sym (set_rises ms k.numbers) j) (Some k.state) None) ∙
        ap (λ y. cond (Tests y) (Some y.state) None) same
    by (Err f) m q = absurd (let z : ◌≡◌ {A = ℕ} 0 1 = cc in omega arith)

    pub some_state : (m : Marked) → x ≡ Ok m → lawful_state n (length ms) least row ≡ cond (Tests m) (Some m.state) None
    some_state m q = ap (λ b. Said b (marks_of row.text)) h ∙ by (marks_of row.text) m (sym e ∙ q)
