-- Support of a whole formula is support with nothing outside. Assumes nothing.
use Rattle.std.proofs.Common.{◌≡◌, ℕ, ◌<◌, Bool, true, false, sym, refl, ap, subst, arith}
use Rattle.std.proofs.lemmas.Bool.{lt-ltb}
use Rattle.systems.specs.Meaning.{Meaning}
use Rattle.logic.specs.Guards.{Guard}
use Rattle.logic.specs.declared.nodes.Node.{Node}
use Rattle.logic.specs.Holding.{Manner, direct, bound, fixed, binds, choose}
use Rattle.logic.specs.Laid.{under, form}
use Rattle.certificates.specs.Ranks.{Claims}
use Rattle.certificates.specs.Support.{PartCounts, AgainCounts, SupportedAs, AllSupported}
use Rattle.certificates.specs.Relative.{HasSide, AgainGiven, SupportedGivenAs, AllSupportedGiven, WholeIsRelative}
use Rattle.certificates.proofs.Free.{here, Formed, Whole}
use Rattle.certificates.proofs.Nesting.{laid_formed}

module _ (φ : ℕ → Node) (n : ℕ) (formed : Formed φ n) where
  pub all_whole : Whole φ n n (λ j. j < n)
  all_whole = record {
    known = λ k h. h;
    low = λ k h. h;
    parts = λ j k p jn o. let kj : k < j = formed.below j k p jn o in omega arith;
    inner = λ j b p jn occ l. l;
  }

  module _ (S : Meaning) (accepts : Guard → ℕ → Bool) (β : ℕ → ℕ → Bool) (C : Claims) where
    -- the binder of each variable is among the nodes
    counts_given : (j q : ℕ) → j < n → (s : Bool) (m : Manner) → form φ j ≡ m → (r : ℕ) → AgainCounts φ C j q s m r ≡ AgainGiven φ n β C j q s m r
    counts_given j q jn s direct e r = refl
    counts_given j q jn s (bound b) e r =
        ap (λ v. choose v (AgainCounts φ C j q s (bound b) r) (β b r ≡ s)) (sym (lt-ltb b n (formed.scoped j b true jn (here e)).0))
    counts_given j q jn s (fixed w) e r = refl
    counts_given j q jn s (binds w a) e r = refl

    one_support : (j q : ℕ) → j < n → (s : Bool) → SupportedAs S accepts φ C s j q ≡ SupportedGivenAs S accepts φ n β C s j q
    one_support j q jn true = λ i.
        HasSide S accepts true (φ j).kind (λ p k r. PartCounts φ C j q p k r) (λ r. counts_given j q jn true (form φ j) refl r i) q
    one_support j q jn false = λ i.
        HasSide S accepts false (φ j).kind (λ p k r. PartCounts φ C j q (under false p) k r) (λ r. counts_given j q jn false (form φ j) refl r i) q

    pub whole_given : AllSupported S accepts φ C n → AllSupportedGiven S accepts φ n β C (λ j. j < n)
    whole_given h j q jn l = subst (λ P. P) (one_support j q jn (C j q).holds) (h j q jn l)

    pub whole_supported : AllSupportedGiven S accepts φ n β C (λ j. j < n) → AllSupported S accepts φ C n
    whole_supported h j q jn l = subst (λ P. P) (sym (one_support j q jn (C j q).holds)) (h j q jn l)

pub whole_relative : WholeIsRelative
whole_relative S accepts φ n scope β C laid =
    let formed = laid_formed φ n scope laid in (whole_given φ n formed S accepts β C, whole_supported φ n formed S accepts β C)
