-- In a lawful formula each variable has its binder around it, and both have one sign. Assumes nothing.
use Rattle.std.proofs.Common.{◌≡◌, ℕ, suc, ◌+◌, ◌<◌, ◌≤◌, Bool, true, false, ◌&&◌, T, List, [], ◌∷◌, ◌++◌, length, get_or, sym, refl, ap, ◌∙◌, subst, ⊎_elim, arith, ltb→lt}
use Rattle.std.proofs.lemmas.List.{length_push, get_or_push, get_or_append_left}
use Rattle.std.proofs.lemmas.Bool.{cases_lt}
use Rattle.logic.specs.declared.nodes.Kind.{Kind}
use Rattle.logic.specs.declared.nodes.Node.{Node}
use Rattle.logic.specs.Holding.{bound, binds, manner}
use Rattle.logic.specs.Laid.{body_of, form}
use Rattle.trees.specs.Trees.{Leaf, verum, falsum, final, named, leaf, one, two, binder, unary_size, binary_size, entries_size, inner, size}
use Rattle.trees.specs.Numbering.{Atom, proposition, variable, Term, leaf_kind, binder_kind, sign_below}
use Rattle.trees.specs.Lawful.{leaf_closed, closed, same_sign, leaf_monotone, monotone}
use Rattle.trees.proofs.Segments.{Range, range_none, range_join, range_more}
use Rattle.trees.proofs.Laying.{by_number, Stands, Lays, stands_root, stands_form, root}
use Rattle.trees.proofs.Operators.{Plain, unary_plain, binary_plain, binder_manner, plain_bound_none}

-- both parts of a test
pub both : (a b : Bool) → T (a && b) → T a × T b
both true b h = (tt, h)
both false b h = absurd h

one_sign : (a b : Bool) → T (same_sign a b) → a ≡ b
one_sign true true h = refl
one_sign true false h = absurd h
one_sign false true h = absurd h
one_sign false false h = refl

module _ (φ : ℕ → Node) (outer : ℕ → List ℕ) where
  -- the variable j names the binder b, which lies around it
  pub record Names (j b : ℕ) : Type 0 where
    pub place : ℕ
    pub within : place < length (outer j)
    pub is : b ≡ get_or (outer j) place 0
    pub sign : (φ (body_of (form φ b))).sign ≡ (φ j).sign

  abbrev pub Named : ℕ → Type 0
  Named j = (b : ℕ) → form φ j ≡ bound b → Names j b

  -- the signs of the bodies of these binders
  pub record Signed (around : List ℕ) (signs : List Bool) : Type 0 where
    pub many : length signs ≡ length around
    pub each : (e : ℕ) → e < length around → (d : Bool) → (φ (body_of (form φ (get_or around e 0)))).sign ≡ get_or signs e d

  leaf_named : {j : ℕ} {s : Bool} {around : List ℕ} {signs : List Bool} (l : Leaf Atom) → Stands φ outer j s around (leaf_kind l around) →
      T (leaf_closed l (length around)) → T (leaf_monotone l s signs) → Signed around signs → (b : ℕ) → manner (leaf_kind l around) ≡ bound b → Names j b
  leaf_named verum h c m g b e = absurd (plain_bound_none _ b tt e)
  leaf_named falsum h c m g b e = absurd (plain_bound_none _ b tt e)
  leaf_named final h c m g b e = absurd (plain_bound_none _ b tt e)
  leaf_named (named (proposition p)) h c m g b e = absurd (plain_bound_none _ b tt e)
  leaf_named {j} {s} {around} {signs} (named (variable x)) h c m g b e =
      let l : x < length around = ltb→lt x (length around) c in
      let f : get_or around x 0 ≡ b = cc in
      let same = g.each x l s ∙ one_sign (get_or signs x s) s m ∙ sym (stands_root h).sign in
      record {
        place = x;
        within = subst (λ a. x < length a) (sym h.scope) l;
        is = sym f ∙ ap (λ (a : List ℕ). get_or a x 0) (sym h.scope);
        sign = subst (λ i. (φ (body_of (form φ i))).sign ≡ (φ j).sign) f same;
      }

  -- one binder more
  signed_in : {b : ℕ} {s : Bool} {around : List ℕ} {signs : List Bool} (w : Bool) (k : ℕ) → Stands φ outer b s around (binder_kind w k) → (φ k).sign ≡ s →
      Signed around signs → Signed (around ++ b ∷ []) (signs ++ s ∷ [])
  signed_in {b} {s} {around} {signs} w k h r g = record {
    many = omega (arith, length_push around b, length_push signs s, g.many);
    each = λ e l d. ⊎_elim (old e d) (new e l d) (cases_lt e (length around));
  }
    where
      Same : ℕ → Bool → ℕ → Type 0
      Same e d i = (φ (body_of (form φ i))).sign ≡ get_or (signs ++ s ∷ []) e d

      old : (e : ℕ) (d : Bool) → e < length around → Same e d (get_or (around ++ b ∷ []) e 0)
      old e d lt =
          let same = g.each e lt d ∙ sym (get_or_append_left signs (s ∷ []) d e (omega (arith, g.many))) in
          subst (Same e d) (sym (get_or_append_left around (b ∷ []) 0 e lt)) same

      new : (e : ℕ) → e < length (around ++ b ∷ []) → (d : Bool) → length around ≤ e → Same e d (get_or (around ++ b ∷ []) e 0)
      new e l d le =
          let is : length around ≡ e = omega (arith, length_push around b) in
          let body = ap (λ x. (φ (body_of x)).sign) (stands_form h ∙ binder_manner w k) in
          subst (Same e d) (sym (get_or_push around b 0 e is)) (body ∙ r ∙ sym (get_or_push signs s d e (g.many ∙ is)))

  -- what is no variable names nothing
  plain_named : {j : ℕ} {s : Bool} {around : List ℕ} {K : Kind} → Stands φ outer j s around K → Plain (manner K) → Named j
  plain_named h p b e = absurd (plain_bound_none _ b p (sym (stands_form h) ∙ e))

  binder_named : {j : ℕ} {s : Bool} {around : List ℕ} (w : Bool) (k : ℕ) → Stands φ outer j s around (binder_kind w k) → Named j
  binder_named w k h b e =
      let f : binds w k ≡ bound b = sym (stands_form h ∙ binder_manner w k) ∙ e in
      let z : ◌≡◌ {A = ℕ} 0 1 = cc in
      absurd (omega arith)

  pub names : (t : Term) (n m : ℕ) (s : Bool) (around : List ℕ) (signs : List Bool) → Lays by_number φ outer t n m s around →
      T (closed t (length around)) → T (monotone t s signs) → Signed around signs → Range Named n (size t)
  names (leaf l) n m s around signs h c o g = range_more range_none (λ b e. leaf_named l h c o g b (sym (stands_form h) ∙ e))
  names (one u a) n m s around signs h c o g =
      range_more (names a n (m + unary_size u) (sign_below u s) around signs h.0 c o g) (plain_named h.1 (unary_plain u m (n + inner a)))
  names (two q a b) n m s around signs h c o g =
      let c' = both (closed a (length around)) (closed b (length around)) c in
      let o' = both (monotone a s signs) (monotone b s signs) o in
      let f = names a n m s around signs h.0 c'.0 o'.0 g in
      let f' = names b (n + size a) (m + entries_size a + binary_size q) s around signs h.1 c'.1 o'.1 g in
      range_more (range_join f f') (plain_named h.2 (binary_plain q (m + entries_size a) (n + inner a) (n + size a + inner b)))
  names (binder w x a) n m s around signs h c o g =
      let around' = around ++ (n + size a) ∷ [] in
      let r = root by_number φ outer a n m s around' h.0 in
      let e : suc (length around) ≡ length around' = omega (arith, length_push around (n + size a)) in
      let c' = subst (λ d. T (closed a d)) e c in
      range_more (names a n m s around' (signs ++ s ∷ []) h.0 c' o (signed_in w (n + inner a) h.1 r.sign g)) (binder_named w (n + inner a) h.1)
