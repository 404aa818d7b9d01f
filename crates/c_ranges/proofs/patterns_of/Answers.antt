use Rattle.std.proofs.Common.{arith, ◌≡◌, ◌+◌, ◌<◌, ℕ, List, length, get_or}
use Rattle.std.proofs.Math.ListN.{set}
use Rattle.std.proofs.lemmas.Grind.{common_steps}
use Rattle.std.proofs.lemmas.List.{length-set}
use Rattle.std.proofs.lemmas.List.FromFn.{fill_by_all}
use Rattle.c_ranges.proofs.Ends.{end_of}
use Rattle.c_ranges.proofs.patterns_of.Goals as goal

one_more : (f : ℕ → ℕ) (ws : List ℕ) (k j w : ℕ) → k < length ws → w ≡ f k → ((i : ℕ) → i < k → get_or ws i 0 ≡ f i) → j < k + 1 →
    get_or (set ws k w) j 0 ≡ f j
one_more f ws k j w inside e before small = grind (arith, common_steps, before j)

pub loop-i-preserved : goal.loop-i-preserved
loop-i-preserved c =
    let l = c.loop-i in (
      omega (arith, l.invariant.0, length-set {A = ℕ}),
      λ j small. one_more (end_of c.args.slots) l.w-items l.i j c.end_bits.result (omega (arith, l.invariant.0, c.loop-i-test.true))
          c.end_bits.ensures l.invariant.1 small,
    )

pub returns : goal.returns
returns c =
    let l = c.loop-i in
    fill_by_all (end_of c.args.slots) l.w-items 16 0 l.invariant.0 (λ k small. l.invariant.1 k (omega (arith, l.invariant.0, c.loop-i-test.false)))
