-- The spans of the first k records, one record more at a time. Assumes nothing.
use Rattle.std.proofs.Common.{length-take, ◌≡◌, ℕ, zero, suc, ◌+◌, ◌<◌, ◌≤◌, min, true, false, cond, eqb, ltb, ◌⊎◌, List, length, get_or, take, set, replicate, sym, refl, ap, ◌∙◌, subst, ⊎_elim, arith}
use Rattle.std.specs.List.{enumerate_from}
use Rattle.std.proofs.lemmas.List.{get_or-set_same, get_or-set_other, get_or-take}
use Rattle.std.proofs.lemmas.List.FromFn.{length-enumerate_from, get_or-enumerate_from}
use Rattle.std.proofs.lemmas.Bool.{cond-true, cond-false, and_from, and_left, lt-ltb, le-ltb, eq-eqb, ne_eqb, cases_lt, cases_eq}
use Rattle.systems.specs.Limits.{max_moves}
use Rattle.systems.specs.Listing.{counting_in}
use Rattle.systems.specs.Tabled.{counts}
use Rattle.systems.specs.declared.transition.Transition.{Transition}
use Rattle.systems.proofs.Listed.{counts_nowhere}
use Rattle.systems.proofs.Kept.{passing_yes, passing_no}
use Rattle.tables.specs.Spans.{nowhere, grown, SpanOf, Spanned}
use Rattle.tables.specs.declared.span.Span.{Span}

same_read : {X : Type 0} (n i : ℕ) (x : X) → get_or (replicate n x) i x ≡ x
same_read zero i x = refl
same_read (suc n) zero x = refl
same_read (suc n) (suc i) x = same_read n i x

-- a span of three zeros is that of no records
pub nowhere_is : (s : Span) → s.begin ≡ 0 → s.end ≡ 0 → s.count ≡ 0 → s ≡ nowhere
nowhere_is s b e n = λ i. record { begin = b i; end = e i; count = n i }

-- one turn of a loop over the first records, numbered: it has the record at the place that it has come to
pub record Turn (records : List Transition) (read n k : ℕ) (r : Transition) : Type 0 where
  pub within : n < length records
  pub early : n < read
  pub place : k ≡ n
  pub is : r ≡ get_or records n r

pub turn_at : (records : List Transition) (read n k : ℕ) (r : Transition) → n < length (enumerate_from 0 (take read records)) → (k, r) ≡ get_or (enumerate_from 0 (take read records)) n (k, r) → Turn records read n k r
turn_at records read n k r h e =
    let fewer : n < length (take read records) = simp length-enumerate_from at h in
    let both : n < min read (length records) = simp length-take at fewer in
    let early : n < read = omega arith in
    let at = e ∙ get_or-enumerate_from 0 (take read records) n (k, r) fewer in
    record { within = omega arith; early = early; place = omega (arith, ap (λ p. p.0) at); is = ap (λ p. p.1) at ∙ get_or-take read records n r early }

-- of no records each span is empty
pub spanned_none : (states : ℕ) (records : List Transition) (n : ℕ) → Spanned states 0 records (replicate n nowhere)
spanned_none states records n q = subst (SpanOf states 0 records q) (sym (same_read n q nowhere)) (omega arith, omega arith, refl, refl, refl)

-- a record that does not count leaves a span as it is
span_more_no : (states k : ℕ) (records : List Transition) (q : ℕ) (s : Span) (d : Transition) → k < length records → counts states q (get_or records k d) ≡ false → SpanOf states k records q s → SpanOf states (k + 1) records q s
span_more_no states k records q s d h e o = (o.0, omega (arith, o.1), o.2, o.3, o.4 ∙ ap (min max_moves) (sym (passing_no (counts states q) records d k h e)))

-- one that counts makes it grow
span_more_yes : (states k : ℕ) (records : List Transition) (q : ℕ) (s : Span) (d : Transition) → k < length records → counts states q (get_or records k d) ≡ true → SpanOf states k records q s → SpanOf states (k + 1) records q (grown s k)
span_more_yes states k records q s d h e o = ⊎_elim room full (cases_lt s.count max_moves)
  where
    one : counting_in states records q (k + 1) ≡ counting_in states records q k + 1
    one = passing_yes (counts states q) records d k h e

    longer : ℕ → Span
    longer b = record { begin = b; end = k + 1; count = s.count + 1 }

    first : s.count ≡ 0 → s.count < max_moves → SpanOf states (k + 1) records q (longer k)
    first z lt = (omega arith, omega arith, omega (arith, o.4), omega (arith, o.4, one), omega (arith, o.4, one))

    later : (s.count ≡ 0 → ⊥) → s.count < max_moves → SpanOf states (k + 1) records q (longer s.begin)
    later z lt = (omega (arith, o.0, o.1), omega arith, o.2, omega (arith, o.4, one), omega (arith, o.4, one))

    chosen : s.count < max_moves → SpanOf states (k + 1) records q (longer (cond (eqb s.count 0) k s.begin))
    chosen lt = ⊎_elim
        (λ z. subst (λ b. SpanOf states (k + 1) records q (longer b)) (sym (cond-true (eqb s.count 0) k s.begin (eq-eqb s.count 0 z))) (first z lt))
        (λ z. subst (λ b. SpanOf states (k + 1) records q (longer b)) (sym (cond-false (eqb s.count 0) k s.begin (ne_eqb s.count 0 z))) (later z lt))
        (cases_eq s.count 0)

    room : s.count < max_moves → SpanOf states (k + 1) records q (grown s k)
    room lt = subst (SpanOf states (k + 1) records q) (sym (cond-true (ltb s.count max_moves) (longer (cond (eqb s.count 0) k s.begin)) s (lt-ltb s.count max_moves lt))) (chosen lt)

    full : max_moves ≤ s.count → SpanOf states (k + 1) records q (grown s k)
    full le =
        let same : SpanOf states (k + 1) records q s = (o.0, omega (arith, o.1), o.2, o.3, omega (arith, o.4, one)) in
        subst (SpanOf states (k + 1) records q) (sym (cond-false (ltb s.count max_moves) (longer (cond (eqb s.count 0) k s.begin)) s (le-ltb s.count max_moves le))) same

module _ (states k : ℕ) (records : List Transition) (spans : List Span) (d : Transition) (h : k < length records) (o : Spanned states k records spans) where
  -- a record that joins two states makes the span of its source grow
  pub spanned_more_yes : (r : Transition) → r ≡ get_or records k d → r.source < states → r.target < states → r.source < length spans → Spanned states (k + 1) records (set spans r.source (grown (get_or spans r.source nowhere) k))
  spanned_more_yes r is a b within q = ⊎_elim here there (cases_eq q r.source)
    where
      S : ℕ
      S = r.source

      new : Span
      new = grown (get_or spans S nowhere) k

      here : q ≡ S → SpanOf states (k + 1) records q (get_or (set spans S new) q nowhere)
      here e =
          let passes : counts states S (get_or records k d) ≡ true = ap (counts states S) (sym is) ∙ and_from _ _ (and_from _ _ (eq-eqb S S refl) (lt-ltb S states a)) (lt-ltb r.target states b) in
          let at : SpanOf states (k + 1) records S (get_or (set spans S new) S nowhere) = subst (SpanOf states (k + 1) records S) (sym (get_or-set_same spans S new nowhere within)) (span_more_yes states k records S (get_or spans S nowhere) d h passes (o S)) in
          subst (λ n. SpanOf states (k + 1) records n (get_or (set spans S new) n nowhere)) (sym e) at

      there : (q ≡ S → ⊥) → SpanOf states (k + 1) records q (get_or (set spans S new) q nowhere)
      there ne =
          let fails : counts states q (get_or records k d) ≡ false = ap (counts states q) (sym is) ∙ and_left _ _ (and_left _ _ (ne_eqb S q (λ e. ne (sym e)))) in
          subst (SpanOf states (k + 1) records q) (sym (get_or-set_other spans S q new nowhere ne)) (span_more_no states k records q (get_or spans q nowhere) d h fails (o q))

  -- any other leaves each span as it is
  pub spanned_more_no : (r : Transition) → r ≡ get_or records k d → (states ≤ r.source) ⊎ (states ≤ r.target) → Spanned states (k + 1) records spans
  spanned_more_no r is out q =
      span_more_no states k records q (get_or spans q nowhere) d h (ap (counts states q) (sym is) ∙ counts_nowhere states q r out) (o q)
