-- The nearest of the first j lines, and how many of them fit; one line more. Assumes nothing.
use mathlib.Core.Path.{◌≡◌, refl, sym, ap, ap₂, ◌∙◌}
use mathlib.Core.Bool.{cond}
use Prim.Native.Nat.{ℕ, ◌+◌, ◌≤◌, ◌<◌}
use native.Mathlib.Omega.{arith}
use borrow.Author.Tests.{lt-ltb, le-ltb}
use lib.Dec.{leb}
use Rattle.residuals.specs.Cost.{least}
use Rattle.residuals.proofs.Least.{least_more}
use Rattle.labels.specs.Labels.{first_least, fitting}
use Rattle.labels.proofs.Labelling.{first_least_more, fitting_more, once}

pub record Found (f : ℕ → ℕ) (ε j line size count : ℕ) : Type 0 where
  pub some : 1 ≤ j
  pub is-first : line ≡ first_least f j
  pub is_least : size ≡ least f j
  pub are-fitting : count ≡ fitting f ε j
  pub few : count ≤ j

pub first_found : (f : ℕ → ℕ) (ε size one : ℕ) → size ≡ f 0 → one ≡ cond (leb size ε) 1 0 → Found f ε 1 0 size one
unfolding least first_least fitting
first_found f ε size one e c =
    record {
      some = omega arith;
      is-first = refl;
      is_least = e;
      are-fitting = omega (arith, c ∙ ap {B = ℕ} (λ (x : ℕ). cond (leb x ε) 1 0) e);
      few = omega (arith, c, once (λ i. size) ε 0);
    }

module _ {f : ℕ → ℕ} {ε j line size count : ℕ} (g : Found f ε j line size count) (other one : ℕ) (e : other ≡ f j)
    (c : one ≡ cond (leb other ε) 1 0) where
  counts : count + one ≡ fitting f ε (j + 1)
  counts = ap₂ ◌+◌ g.are-fitting (c ∙ ap {B = ℕ} (λ (x : ℕ). cond (leb x ε) 1 0) e) ∙ sym (fitting_more f ε j)

  no_more : count + one ≤ j + 1
  no_more = omega (arith, g.few, c, once (λ i. other) ε 0)

  pub closer : other < size → Found f ε (j + 1) j other (count + one)
  closer k =
      let t : f j < least f j = omega (arith, g.is_least, e) in
      record {
        some = omega arith;
        is-first = sym (first_least_more f j g.some ∙ simp (lt-ltb _ _ t));
        is_least = omega (arith, least_more f j g.some);
        are-fitting = counts;
        few = no_more;
      }

  pub no-closer : size ≤ other → Found f ε (j + 1) line size (count + one)
  no-closer k =
      let t : least f j ≤ f j = omega (arith, g.is_least, e) in
      record {
        some = omega arith;
        is-first = g.is-first ∙ sym (first_least_more f j g.some ∙ simp (le-ltb _ _ t));
        is_least = omega (arith, least_more f j g.some, g.is_least);
        are-fitting = counts;
        few = no_more;
      }
