-- The first smallest of the entries passed, and of one more. Assumes nothing.
use mathlib.Core.Path.{◌≡◌}
use mathlib.Core.List.{List}
use Prim.Native.Nat.{ℕ, ◌+◌, ◌≤◌, ◌<◌}
use native.Mathlib.Omega.{arith}
use borrow.Author.Count.{below_more}
use Rattle.list_first_smallest.specs.FirstSmallest.{entry_at, FirstLeast}

module _ (d : List ℕ) where
  pub least_start : FirstLeast d 1 0
  least_start =
      record {
        inside = omega arith;
        none_smaller = λ k h. let e : k ≡ 0 = omega arith in rw e (omega arith);
        first = λ k h. absurd (omega arith);
      }

  module _ (i at : ℕ) (g : FirstLeast d i at) where
    pub least_new : entry_at d i < entry_at d at → FirstLeast d (i + 1) i
    least_new less =
        let before : (k : ℕ) → k < i → entry_at d i < entry_at d k = λ k h. omega (arith, g.none_smaller k h) in
        record {
          inside = omega arith;
          none_smaller = below_more (λ (k : ℕ). entry_at d i ≤ entry_at d k) i (λ k h. omega (arith, before k h)) (omega arith);
          first = before;
        }

    -- an entry that is no smaller
    pub least_kept : entry_at d at ≤ entry_at d i → FirstLeast d (i + 1) at
    least_kept more =
        record {
          inside = omega (arith, g.inside);
          none_smaller = below_more (λ (k : ℕ). entry_at d at ≤ entry_at d k) i g.none_smaller more;
          first = g.first;
        }
