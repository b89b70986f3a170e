-- The lines of the transition file and their printed forms. Assumes nothing.
use Rattle.std.proofs.Common.{◌≡◌, ℕ, ◌+◌, List, [], ◌∷◌, ◌++◌, length, Ok, codes, refl, ap, ◌∙◌, subst, arith}
use Rattle.layouts.specs.declared.fault.LineFault.{LineFault}
use Rattle.layouts.specs.declared.transitions.Header.{Header}
use Rattle.layouts.specs.Numbers.{numeral}
use Rattle.layouts.specs.Pieces.{piece_at, line_number_at, end_at}
use Rattle.layouts.specs.Layouts.{header_of, Arrow, transition_of, quote_from, between}
use Rattle.layouts.specs.Printed.{printed_header, WritableHeader, printed_arrow, WritableArrow}
use Rattle.layouts.proofs.Steps.{begun, ok_same, piece_text, piece_read, piece_left, number_stands, number_read, number_left, end_text, end_read, left_none, quote_text, quote_free, quote_at, quote_is, quote_left}

pub header_forth : (s : List ℕ) (h : Header) → header_of s ≡ Ok h → WritableHeader h × (s ≡ printed_header h)
header_forth s h e0 =
    let G : Type 0 = WritableHeader h × (s ≡ printed_header h) in
    begun (piece_at s 0 (codes "des (")) _ h e0 G (λ a p1 e1.
    begun (line_number_at s a) _ h e1 G (λ i p2 e2.
    begun (piece_at s i.after (codes ", ")) _ h e2 G (λ b p3 e3.
    begun (line_number_at s b) _ h e3 G (λ m p4 e4.
    begun (piece_at s m.after (codes ", ")) _ h e4 G (λ c p5 e5.
    begun (line_number_at s c) _ h e5 G (λ n p6 e6.
    begun (piece_at s n.after (codes ")")) _ h e6 G (λ e p7 e7.
    begun (end_at s e) _ h e7 G (λ z p8 e8.
    let si = number_stands s a i p2 in
    let sm = number_stands s b m p4 in
    let sn = number_stands s c n p6 in
    let text : s ≡ printed_header (record { initial = i.value; transitions = m.value; states = n.value }) =
    piece_text s 0 (codes "des (") a p1 ∙ ap (λ t. codes "des (" ++ t) (si.text ∙ ap (λ t. numeral i.value ++ t) (
    piece_text s i.after (codes ", ") b p3 ∙ ap (λ t. codes ", " ++ t) (sm.text ∙ ap (λ t. numeral m.value ++ t) (
    piece_text s m.after (codes ", ") c p5 ∙ ap (λ t. codes ", " ++ t) (sn.text ∙ ap (λ t. numeral n.value ++ t) (
    piece_text s n.after (codes ")") e p7 ∙ ap (λ t. codes ")" ++ t) (end_text s e z p8))))))) in
    subst (λ g. WritableHeader g × (s ≡ printed_header g)) (ok_same {E = LineFault} _ h e8) (record { initial = si.small; transitions = sm.small; states = sn.small }, text)))))))))

pub header_back : (s : List ℕ) (h : Header) → WritableHeader h → s ≡ printed_header h → header_of s ≡ Ok h
header_back s h w e0 =
    let tn : List ℕ = codes ")" in
    let tc : List ℕ = codes ", " ++ (numeral h.states ++ tn) in
    let tm : List ℕ = numeral h.transitions ++ tc in
    let tb : List ℕ = codes ", " ++ tm in
    let ti : List ℕ = numeral h.initial ++ tb in
    let p1 = piece_read s 0 (codes "des (") ti e0 in
    let d1 = piece_left s 0 (codes "des (") ti e0 in
    let n1 = number_read s 5 h.initial tb w.initial d1 refl in
    let d2 = number_left s 5 h.initial tb w.initial d1 refl in
    let a2 : ℕ = 5 + length (numeral h.initial) in
    let p2 = piece_read s a2 (codes ", ") tm d2 in
    let d3 = piece_left s a2 (codes ", ") tm d2 in
    let n2 = number_read s (a2 + 2) h.transitions tc w.transitions d3 refl in
    let d4 = number_left s (a2 + 2) h.transitions tc w.transitions d3 refl in
    let a4 : ℕ = (a2 + 2) + length (numeral h.transitions) in
    let p3 = piece_read s a4 (codes ", ") (numeral h.states ++ tn) d4 in
    let d5 = piece_left s a4 (codes ", ") (numeral h.states ++ tn) d4 in
    let n3 = number_read s (a4 + 2) h.states tn w.states d5 refl in
    let d6 = number_left s (a4 + 2) h.states tn w.states d5 refl in
    let a6 : ℕ = (a4 + 2) + length (numeral h.states) in
    let p4 = piece_read s a6 (codes ")") [] d6 in
    let z = end_read s (a6 + 1) (left_none s tn a6 d6 (omega arith)) in
    rw (p1, n1, p2, n2, p3, n3, p4, z) refl

pub arrow_forth : (s : List ℕ) (a : Arrow) → transition_of s ≡ Ok a → WritableArrow a × (s ≡ printed_arrow a)
arrow_forth s arrow e0 =
    let G : Type 0 = WritableArrow arrow × (s ≡ printed_arrow arrow) in
    begun (piece_at s 0 (codes "(")) _ arrow e0 G (λ a p1 e1.
    begun (line_number_at s a) _ arrow e1 G (λ f p2 e2.
    begun (piece_at s f.after (codes ", \"")) _ arrow e2 G (λ b p3 e3.
    begun (piece_at s (quote_from s b) (codes "\", ")) _ arrow e3 G (λ c p4 e4.
    begun (line_number_at s c) _ arrow e4 G (λ t p5 e5.
    begun (piece_at s t.after (codes ")")) _ arrow e5 G (λ e p6 e6.
    begun (end_at s e) _ arrow e6 G (λ z p7 e7.
    let sf = number_stands s a f p2 in
    let st = number_stands s c t p5 in
    let l : List ℕ = between s b (quote_from s b) in
    let text : s ≡ printed_arrow (record { source = f.value; label = l; target = t.value }) =
    piece_text s 0 (codes "(") a p1 ∙ ap (λ u. codes "(" ++ u) (sf.text ∙ ap (λ u. numeral f.value ++ u) (
    piece_text s f.after (codes ", \"") b p3 ∙ ap (λ u. codes ", \"" ++ u) (quote_text s b ∙ ap (λ u. l ++ u) (
    piece_text s (quote_from s b) (codes "\", ") c p4 ∙ ap (λ u. codes "\", " ++ u) (st.text ∙ ap (λ u. numeral t.value ++ u) (
    piece_text s t.after (codes ")") e p6 ∙ ap (λ u. codes ")" ++ u) (end_text s e z p7))))))) in
    subst (λ g. WritableArrow g × (s ≡ printed_arrow g)) (ok_same {E = LineFault} _ arrow e7) (record { source = sf.small; label = quote_free s b; target = st.small }, text))))))))

pub arrow_back : (s : List ℕ) (a : Arrow) → WritableArrow a → s ≡ printed_arrow a → transition_of s ≡ Ok a
arrow_back s a w e0 =
    let l : List ℕ = a.label in
    let tn : List ℕ = codes ")" in
    let tq : List ℕ = codes ", " ++ (numeral a.target ++ tn) in
    let tb : List ℕ = codes ", \"" ++ (l ++ (34 ∷ tq)) in
    let p1 = piece_read s 0 (codes "(") (numeral a.source ++ tb) e0 in
    let d1 = piece_left s 0 (codes "(") (numeral a.source ++ tb) e0 in
    let n1 = number_read s 1 a.source tb w.source d1 refl in
    let d2 = number_left s 1 a.source tb w.source d1 refl in
    let a2 : ℕ = 1 + length (numeral a.source) in
    let p2 = piece_read s a2 (codes ", \"") (l ++ (34 ∷ tq)) d2 in
    let d3 = piece_left s a2 (codes ", \"") (l ++ (34 ∷ tq)) d2 in
    let q = quote_at s (a2 + 3) l tq w.label d3 in
    let qi = quote_is s (a2 + 3) l tq w.label d3 in
    let d4 = quote_left s (a2 + 3) l tq w.label d3 in
    let a4 : ℕ = (a2 + 3) + length l in
    let p3 = piece_read s a4 (codes "\", ") (numeral a.target ++ tn) d4 in
    let d5 = piece_left s a4 (codes "\", ") (numeral a.target ++ tn) d4 in
    let n2 = number_read s (a4 + 3) a.target tn w.target d5 refl in
    let d6 = number_left s (a4 + 3) a.target tn w.target d5 refl in
    let a6 : ℕ = (a4 + 3) + length (numeral a.target) in
    let p4 = piece_read s a6 (codes ")") [] d6 in
    let z = end_read s (a6 + 1) (left_none s tn a6 d6 (omega arith)) in
    rw (p1, n1, p2, q, p3, n2, p4, z, qi) refl
