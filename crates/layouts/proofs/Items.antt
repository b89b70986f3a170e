-- The lines of the label file and their printed forms. Assumes nothing.
use Rattle.std.proofs.Common.{◌≡◌, ℕ, suc, ◌+◌, ◌-◌, ◌<◌, ◌≤◌, Bool, true, false, cond, eqb, List, [], ◌∷◌, ◌++◌, length, drop, Some, None, Ok, codes, Option, sym, refl, ap, ◌∙◌, subst, arith, length-append, length-drop, eq-eqb, ne_eqb, true-eqb}
use Rattle.std.proofs.lemmas.List.{append_assoc, append-nil, drop_all}
use Rattle.std.specs.List.{AllByRecursion}
use Rattle.layouts.specs.declared.fault.LineFault.{LineFault}
use Rattle.layouts.specs.Numbers.{numeral, digits}
use Rattle.layouts.specs.Pieces.{and_then, piece_at, line_number_at}
use Rattle.layouts.specs.Layouts.{quote_from, between, repeated, Item, next_at, item_at, items_of, state_at, listed_at, Marks, marks_of}
use Rattle.layouts.specs.Printed.{Writable, printed_item, WritableItem, printed_parts, printed_items, printed_marks, ReadsAsWritten}
use Rattle.layouts.proofs.Steps.{begun, ok_same, piece_text, piece_read, piece_left, number_stands, number_read, number_left, left_none, quote_text, quote_free, quote_at, quote_is, quote_left}
use Rattle.layouts.proofs.Repeats.{rest, parts_forth, parts_back, parts_long}
use Rattle.layouts.proofs.Headers.{header_forth, header_back, arrow_forth, arrow_back}

next_forth : (s : List ℕ) (i : ℕ) (next : Option ℕ) → next_at s i ≡ Ok next → drop i s ≡ rest (codes " ") s next
next_forth s i next = go (eqb i (length s)) refl
  where
    go : (b : Bool) → eqb i (length s) ≡ b → cond b (Ok None) (and_then (piece_at s i (codes " ")) (λ j. Ok (Some j))) ≡ Ok next → drop i s ≡ rest (codes " ") s next
    go true e h = drop_all i s (let z = true-eqb i (length s) (sym e) in omega arith) ∙ ap (rest (codes " ") s) (ok_same {E = LineFault} None next h)
    go false e h = begun (piece_at s i (codes " ")) (λ j. Ok (Some j)) next h (drop i s ≡ rest (codes " ") s next) (λ j p e1. piece_text s i (codes " ") j p ∙ ap (rest (codes " ") s) (ok_same {E = LineFault} (Some j) next e1))

next_none : (s : List ℕ) (i : ℕ) → i ≡ length s → next_at s i ≡ Ok None
next_none s i e = ap (λ b. cond b (Ok None) (and_then (piece_at s i (codes " ")) (λ j. Ok (Some j)))) (eq-eqb i (length s) e)

next_some : (s : List ℕ) (i : ℕ) (t : List ℕ) → drop i s ≡ codes " " ++ t → next_at s i ≡ Ok (Some (i + 1))
next_some s i t e =
    ap (λ b. cond b (Ok None) (and_then (piece_at s i (codes " ")) (λ j. Ok (Some j)))) (ne_eqb i (length s) (λ z. omega (arith, length-drop i s, ap length e))) ∙
    ap (λ r. and_then r (λ j. Ok (Some j))) (piece_read s i (codes " ") t e)

item_forth : (s : List ℕ) (i : ℕ) (x : Item × Option ℕ) → item_at s i ≡ Ok x → WritableItem x.0 × (drop i s ≡ printed_item x.0 ++ rest (codes " ") s x.1)
item_forth s i x e0 =
    let G : Type 0 = WritableItem x.0 × (drop i s ≡ printed_item x.0 ++ rest (codes " ") s x.1) in
    begun (line_number_at s i) _ x e0 G (λ k p1 e1.
    begun (piece_at s k.after (codes "=\"")) _ x e1 G (λ a p2 e2.
    begun (piece_at s (quote_from s a) (codes "\"")) _ x e2 G (λ b p3 e3.
    begun (next_at s b) _ x e3 G (λ next p4 e4.
    let sk = number_stands s i k p1 in
    let l : List ℕ = between s a (quote_from s a) in
    let r : List ℕ = rest (codes " ") s next in
    let text : drop i s ≡ printed_item (record { number = k.value; text = l }) ++ r =
    sk.text ∙ ap (λ u. numeral k.value ++ u) (
    piece_text s k.after (codes "=\"") a p2 ∙ ap (λ u. codes "=\"" ++ u) (quote_text s a ∙ ap (λ u. l ++ u) (
    piece_text s (quote_from s a) (codes "\"") b p3 ∙ ap (λ u. codes "\"" ++ u) (next_forth s b next p4)) ∙ sym (append_assoc l (codes "\"") r))) ∙ sym (append_assoc (numeral k.value) (codes "=\"" ++ (l ++ codes "\"")) r) in
    subst (λ y. WritableItem y.0 × (drop i s ≡ printed_item y.0 ++ rest (codes " ") s y.1)) (ok_same {E = LineFault} _ x e4) (record { number = sk.small; text = quote_free s a }, text)))))

-- the place after an entry that stands at i
abbrev past : ℕ → Item → ℕ
past i it = (((i + length (numeral it.number)) + 2) + length it.text) + 1

-- an entry that stands at i, with what follows it
module _ (s : List ℕ) (i : ℕ) (it : Item) (w : WritableItem it) (t : List ℕ) (e0 : drop i s ≡ printed_item it ++ t) where
  split : drop i s ≡ numeral it.number ++ (codes "=\"" ++ (it.text ++ (34 ∷ t)))
  split = e0 ∙ append_assoc (numeral it.number) (codes "=\"" ++ (it.text ++ codes "\"")) t ∙ ap (λ u. numeral it.number ++ (codes "=\"" ++ u)) (append_assoc it.text (codes "\"") t)

  item_left : drop (past i it) s ≡ t
  item_left =
      let tb : List ℕ = codes "=\"" ++ (it.text ++ (34 ∷ t)) in
      let d2 = number_left s i it.number tb w.number split refl in
      let a2 : ℕ = i + length (numeral it.number) in
      let d3 = piece_left s a2 (codes "=\"") (it.text ++ (34 ∷ t)) d2 in
      let d4 = quote_left s (a2 + 2) it.text t w.text d3 in
      piece_left s ((a2 + 2) + length it.text) (codes "\"") t d4

  item_read : (next : Option ℕ) → next_at s (past i it) ≡ Ok next → item_at s i ≡ Ok (it, next)
  item_read next nx =
      let tb : List ℕ = codes "=\"" ++ (it.text ++ (34 ∷ t)) in
      let n1 = number_read s i it.number tb w.number split refl in
      let d2 = number_left s i it.number tb w.number split refl in
      let a2 : ℕ = i + length (numeral it.number) in
      let p2 = piece_read s a2 (codes "=\"") (it.text ++ (34 ∷ t)) d2 in
      let d3 = piece_left s a2 (codes "=\"") (it.text ++ (34 ∷ t)) d2 in
      let q = quote_at s (a2 + 2) it.text t w.text d3 in
      let qi = quote_is s (a2 + 2) it.text t w.text d3 in
      let d4 = quote_left s (a2 + 2) it.text t w.text d3 in
      let p3 = piece_read s ((a2 + 2) + length it.text) (codes "\"") t d4 in
      rw (n1, p2, q, p3, nx, qi) refl

item_long : (it : Item) → 0 < length (printed_item it)
item_long it = omega (arith, length-append (numeral it.number) (codes "=\"" ++ (it.text ++ codes "\"")))

item_last : (s : List ℕ) (i : ℕ) (it : Item) → WritableItem it → drop i s ≡ printed_item it → item_at s i ≡ Ok (it, None)
item_last s i it w e =
    let e0 : drop i s ≡ printed_item it ++ [] = e ∙ sym (append-nil (printed_item it)) in
    let j : ℕ = past i it in
    let n : length (printed_item it) ≡ ((length (numeral it.number) + 2) + length it.text) + 1 =
    omega (arith, length-append (numeral it.number) (codes "=\"" ++ (it.text ++ codes "\"")), length-append it.text (codes "\"")) in
    item_read s i it w [] e0 None (next_none s j (omega (arith, n, left_none s (printed_item it) i e (item_long it))))

item_more : (s : List ℕ) (i : ℕ) (x y : Item) (u : List ℕ) → WritableItem x → drop i s ≡ printed_item x ++ (codes " " ++ (printed_item y ++ u)) → (j : ℕ) × (item_at s i ≡ Ok (x, Some j)) × (drop j s ≡ printed_item y ++ u)
item_more s i x y u w e =
    let t : List ℕ = printed_item y ++ u in
    let j : ℕ = past i x in
    let d = item_left s i x w (codes " " ++ t) e in
    (j + 1, item_read s i x w (codes " " ++ t) e (Some (j + 1)) (next_some s j t d), piece_left s j (codes " ") t d)

-- fewer bytes follow where the next entry starts
pub item_onward : (s : List ℕ) (i : ℕ) (x : Item) (j : ℕ) → item_at s i ≡ Ok (x, Some j) → length s - j < length s - i
item_onward s i x j e =
    omega (arith, ap length (item_forth s i (x, Some j) e).1, length-append (printed_item x) (codes " " ++ drop j s), item_long x, length-drop i s, length-drop j s)

items_forth : (s : List ℕ) (its : List Item) → items_of s ≡ Ok its → (0 < length its) × AllByRecursion WritableItem its × (s ≡ printed_items its)
items_forth s its e = parts_forth s (codes " ") printed_item WritableItem (item_at s) (item_forth s) (suc (length s)) 0 its e

items_back : (s : List ℕ) (its : List Item) → 0 < length its → AllByRecursion WritableItem its → s ≡ printed_items its → items_of s ≡ Ok its
items_back s its some all e =
    parts_back s (codes " ") printed_item WritableItem (item_at s) (item_last s) (item_more s) (suc (length s)) 0 its some (omega (arith, ap length e, parts_long (codes " ") printed_item item_long its)) all e

-- a number listed for a state
abbrev listed : ℕ → List ℕ
listed n = codes " " ++ numeral n

abbrev onward : List ℕ → ℕ → Option ℕ
onward s j = cond (eqb j (length s)) None (Some j)

onward_text : (s : List ℕ) (j : ℕ) → drop j s ≡ rest [] s (onward s j)
onward_text s j = go (eqb j (length s)) refl
  where
    go : (b : Bool) → eqb j (length s) ≡ b → drop j s ≡ rest [] s (cond b None (Some j))
    go true e = drop_all j s (let z = true-eqb j (length s) (sym e) in omega arith)
    go false e = refl

listed_forth : (s : List ℕ) (i : ℕ) (x : ℕ × Option ℕ) → listed_at s i ≡ Ok x → Writable x.0 × (drop i s ≡ listed x.0 ++ rest [] s x.1)
listed_forth s i x e0 =
    let G : Type 0 = Writable x.0 × (drop i s ≡ listed x.0 ++ rest [] s x.1) in
    begun (piece_at s i (codes " ")) _ x e0 G (λ a p1 e1.
    begun (line_number_at s a) _ x e1 G (λ n p2 e2.
    let sn = number_stands s a n p2 in
    let text : drop i s ≡ listed n.value ++ rest [] s (onward s n.after) =
    piece_text s i (codes " ") a p1 ∙ ap (λ u. codes " " ++ u) (sn.text ∙ ap (λ u. numeral n.value ++ u) (onward_text s n.after)) in
    subst (λ y. Writable y.0 × (drop i s ≡ listed y.0 ++ rest [] s y.1)) (ok_same {E = LineFault} (n.value, onward s n.after) x e2) (sn.small, text)))

pub listed_onward : (s : List ℕ) (i n j : ℕ) → listed_at s i ≡ Ok (n, Some j) → length s - j < length s - i
listed_onward s i n j e =
    omega (arith, ap length (listed_forth s i (n, Some j) e).1, length-append (listed n) (drop j s), length-drop i s, length-drop j s)

listed_read : (s : List ℕ) (i n : ℕ) (t : List ℕ) → Writable n → digits t ≡ 0 → drop i s ≡ listed n ++ t → listed_at s i ≡ Ok (n, onward s ((i + 1) + length (numeral n)))
listed_read s i n t w done e =
    let p1 = piece_read s i (codes " ") (numeral n ++ t) e in
    let d1 = piece_left s i (codes " ") (numeral n ++ t) e in
    let n1 = number_read s (i + 1) n t w d1 done in
    rw (p1, n1) refl

listed_left : (s : List ℕ) (i n : ℕ) (t : List ℕ) → Writable n → digits t ≡ 0 → drop i s ≡ listed n ++ t → drop ((i + 1) + length (numeral n)) s ≡ t
listed_left s i n t w done e = number_left s (i + 1) n t w (piece_left s i (codes " ") (numeral n ++ t) e) done

listed_last : (s : List ℕ) (i n : ℕ) → Writable n → drop i s ≡ listed n → listed_at s i ≡ Ok (n, None)
listed_last s i n w e =
    let e0 : drop i s ≡ listed n ++ [] = e ∙ sym (append-nil (listed n)) in
    let j : ℕ = (i + 1) + length (numeral n) in
    listed_read s i n [] w refl e0 ∙ ap (λ b. Ok (n, cond b None (Some j))) (eq-eqb j (length s) (omega (arith, left_none s (listed n) i e (omega arith))))

listed_more : (s : List ℕ) (i x y : ℕ) (u : List ℕ) → Writable x → drop i s ≡ listed x ++ ([] ++ (listed y ++ u)) → (j : ℕ) × (listed_at s i ≡ Ok (x, Some j)) × (drop j s ≡ listed y ++ u)
listed_more s i x y u w e =
    let t : List ℕ = listed y ++ u in
    let j : ℕ = (i + 1) + length (numeral x) in
    let d = listed_left s i x t w refl e in
    (j, listed_read s i x t w refl e ∙ ap (λ b. Ok (x, cond b None (Some j))) (ne_eqb j (length s) (λ z. omega (arith, length-drop j s, ap length d))), d)

abbrev Noted : List ℕ → Marks → Type 0
Noted s m = Writable m.state × (0 < length m.numbers) × AllByRecursion Writable m.numbers × (s ≡ printed_marks m)

marks_forth : (s : List ℕ) (m : Marks) → marks_of s ≡ Ok m → Noted s m
marks_forth s m e0 =
    begun (state_at s) _ m e0 (Noted s m) (λ q p1 e1.
    begun (repeated (listed_at s) (suc (length s)) q.after) _ m e1 (Noted s m) (λ ns p2 e2.
    begun (line_number_at s 0) _ q p1 (Noted s m) (λ k p3 e3.
    begun (piece_at s k.after (codes ":")) _ q e3 (Noted s m) (λ a p4 e4.
    let sk = number_stands s 0 k p3 in
    let same : record { value = k.value; after = a } ≡ q = ok_same {E = LineFault} _ q e4 in
    let t = parts_forth s [] listed Writable (listed_at s) (listed_forth s) (suc (length s)) q.after ns p2 in
    let here : a ≡ q.after = ap (λ n. n.after) same in
    let text : s ≡ printed_marks (record { state = k.value; numbers = ns }) =
    sk.text ∙ ap (λ u. numeral k.value ++ u) (piece_text s k.after (codes ":") a p4 ∙ ap (λ u. codes ":" ++ u) (ap (λ j. drop j s) here ∙ t.2)) in
    subst (Noted s) ((λ j. record { state = (same j).value; numbers = ns }) ∙ ok_same {E = LineFault} _ m e2) (sk.small, t.0, t.1, text)))))

marks_back : (s : List ℕ) (m : Marks) → Writable m.state → 0 < length m.numbers → AllByRecursion Writable m.numbers → s ≡ printed_marks m → marks_of s ≡ Ok m
marks_back s m w some all e0 =
    let parts : List ℕ = printed_parts [] listed m.numbers in
    let n1 = number_read s 0 m.state (codes ":" ++ parts) w e0 refl in
    let d1 = number_left s 0 m.state (codes ":" ++ parts) w e0 refl in
    let a1 : ℕ = 0 + length (numeral m.state) in
    let p2 = piece_read s a1 (codes ":") parts d1 in
    let d2 = piece_left s a1 (codes ":") parts d1 in
    let few : length m.numbers ≤ suc (length s) =
    omega (arith, ap length e0, length-append (numeral m.state) (codes ":" ++ parts), parts_long [] listed (λ n. omega arith) m.numbers) in
    let r = parts_back s [] listed Writable (listed_at s) (listed_last s) (listed_more s) (suc (length s)) (a1 + 1) m.numbers some few all d2 in
    rw (n1, p2, r) refl

pub reads_as_written : ReadsAsWritten
reads_as_written = record {
  header = λ s h. (header_forth s h, header_back s h);
  transition = λ s a. (arrow_forth s a, arrow_back s a);
  items = λ s its. (items_forth s its, items_back s its);
  marks = λ s m. (marks_forth s m, marks_back s m);
}
