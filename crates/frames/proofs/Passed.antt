-- What holds of two stores that pass their checks. Assumes nothing.
use mathlib.Core.Path.{◌≡◌}
use mathlib.Core.Bool.{true, false, not, ◌&&◌}
use mathlib.Core.List.{List, [], ◌∷◌}
use Prim.Native.Nat.{ℕ, ◌%◌, ◌≤◌}
use lib.Dec.{leb, leb→le}
use lib.ListN.{length}
use Rattle.integers.specs.Lists.{All, none, also}
use Rattle.integers.proofs.Lists.{all_head, all_tail}
use Rattle.integers.proofs.Tests.{is_true, is_false, and_parts}
use Rattle.codes.specs.declared.Refusal.TheVariants.{Length, Order, Clash}
use Rattle.codes.specs.Codes.{Check, pass, in_order}
use Rattle.codes.proofs.Checks.{passed, first_passed, others_passed}
use Rattle.frames.specs.Frames.{records_of, frames_of, rising, clashes, union}
use Rattle.frames.specs.Frames.{check_either, check_order, check_clash, check_union, check_both}
use Rattle.frames.proofs.Checks.{either_whole}

pass_all : (cs : List Check) → in_order cs ≡ pass → All (λ (c : Check). c ≡ pass) cs
pass_all [] e = none
pass_all (c ∷ cs) e = also (first_passed c cs e) (pass_all cs (others_passed c cs e))

-- the checks behind the lengths
abbrev behind : List ℕ → List ℕ → List Check
behind first second = check_order first second ∷ check_clash first second ∷ check_union first second ∷ []

-- whole records, whose frames rise and none of which clash, and a union of at most 4,096
module _ (first second : List ℕ) (e : check_both first second ≡ pass) where
  all_pass : All (λ (c : Check). c ≡ pass) (check_either (length first) ∷ check_either (length second) ∷ behind first second)
  unfolding check_both
  all_pass = pass_all _ e

  behind_lengths : All (λ (c : Check). c ≡ pass) (behind first second)
  behind_lengths = all_tail (all_tail all_pass)

  pub both_whole : (length first % 12 ≡ 0) × (length second % 12 ≡ 0)
  both_whole = (either_whole (length first) (all_head all_pass), either_whole (length second) (all_head (all_tail all_pass)))

  pub both_rise : (rising (frames_of first) ≡ true) × (rising (frames_of second) ≡ true)
  unfolding check_order
  both_rise =
      let a = rising (frames_of first) in
      let b = rising (frames_of second) in
      let p = and_parts a b (passed (a && b) Order (all_head behind_lengths)) in
      (is_true a p.0, is_true b p.1)

  pub no_clashes : clashes (records_of first) (records_of second) ≡ false
  unfolding check_clash
  no_clashes =
      let t = clashes (records_of first) (records_of second) in
      is_false t (passed (not t) Clash (all_head (all_tail behind_lengths)))

  pub few : length (union (records_of first) (records_of second)) ≤ 4096
  unfolding check_union
  few =
      let n = length (union (records_of first) (records_of second)) in
      leb→le n 4096 (passed (leb n 4096) Length (all_head (all_tail (all_tail behind_lengths))))
