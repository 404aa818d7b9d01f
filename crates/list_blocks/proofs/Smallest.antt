-- The first smallest of all numbers by those of the blocks, and the blocks once it is taken out. Assumes nothing.
use mathlib.Core.Path.{◌≡◌, ap, ◌∙◌}
use mathlib.Core.List.{List}
use mathlib.Core.Logic.{◌≢◌, ⊎_elim}
use Prim.Native.Nat.{ℕ, suc, ◌*◌, ◌/◌, ◌≤◌, ◌<◌, min}
use native.Mathlib.Omega.{arith}
use lib.ListN.{length, length-set}
use lib.Seq.{get_or-set_same, get_or-set_other}
use Rattle.integers.proofs.Tests.{le_or_lt}
use Rattle.list_first_smallest.specs.declared.Lowest.{Lowest}
use Rattle.list_first_smallest.specs.FirstSmallest.{entry_at, FirstLeast, LowestOf}
use Rattle.list_blocks.specs.declared.Blocks.{Blocks}
use Rattle.list_blocks.specs.declared.Spot.{Spot}
use Rattle.list_blocks.specs.Blocks.{gone, width_of, block_start, InBlock, Blocked, SpotOf, TakenAway}
use Rattle.list_blocks.proofs.Places.{block_end, block_other, first_from, first_end, first_is, first_least_lem, first_first}
use Rattle.list_blocks.proofs.Places.{home_few, home_from, home_end, same_or_not}

-- no numbers, no blocks
pub blocked_none : (d : List ℕ) (b : Blocks) → b.count ≡ 0 → length b.leasts ≡ 64 → length b.places ≡ 64 → Blocked d 0 b
blocked_none d b none long long_places =
    record {
      few = omega arith;
      all = omega arith;
      some = λ j h. absurd (omega arith);
      long = long;
      long_places = long_places;
      firsts = λ j h. absurd (omega arith);
    }

-- and nothing is found in them
pub spot_none : (d : List ℕ) (b : Blocks) (r : Spot) → Blocked d 0 b → SpotOf b r → r.bound ≡ gone
spot_none d b r h s =
    let none : b.count ≡ 0 =
    ⊎_elim (λ (c : 1 ≤ b.count). absurd (omega (arith, h.some 0 c))) (λ (c : b.count < 1). omega arith) (le_or_lt 1 b.count) in
    ap (λ (x : Lowest). x.bound) (s.least.empty (omega arith))

module _
    (d : List ℕ) (n : ℕ) (b : Blocks) (r : Spot)
    (there : n ≤ length d) (pos : 1 ≤ n) (h : Blocked d n b) (s : SpotOf b r)
  where
    abbrev j : ℕ
    j = r.block

    abbrev w : ℕ
    w = width_of n

    blocks : 1 ≤ b.count
    blocks =
        ⊎_elim
        (λ (c : 1 ≤ b.count). c)
        (λ (c : b.count < 1). let none : b.count ≡ 0 = omega arith in absurd (omega (arith, h.all, ap (λ (i : ℕ). i * w) none)))
        (le_or_lt 1 b.count)

    listed : min b.count 64 ≡ b.count
    listed = omega (arith, h.few)

    is_least : LowestOf b.leasts b.count gone (record { at = r.block; bound = r.bound })
    is_least = rw listed at s.least

    best : FirstLeast b.leasts b.count j
    best = is_least.place blocks

    begun : j * w < n
    begun = h.some j best.inside

    first : InBlock d n j r.at (entry_at b.leasts j)
    first = rw s.place (h.firsts j best.inside)

    least : entry_at b.leasts j ≡ entry_at d r.at
    least = first_is there begun first

    from : j * w ≤ r.at
    from = first_from there begun first

    end : r.at < block_start n (suc j)
    end = first_end there begun first

    -- the block of a place is one of them, and no number is smaller than the least of its block
    home : (k : ℕ) → k < n → k / w < b.count
    home k l = home_few n k b.count (omega (arith, h.all))

    at_home : (k : ℕ) → k < n → entry_at b.leasts (k / w) ≤ entry_at d k
    at_home k l = first_least_lem there (h.some (k / w) (home k l)) (h.firsts (k / w) (home k l)) k (home_from n k) (home_end n k) l

    -- a number before the found one is in an earlier block, or before it in its block
    before : (k : ℕ) → k < r.at → entry_at d r.at < entry_at d k
    before k l =
        ⊎_elim
        (λ (late : j * w ≤ k). omega (arith, least, first_first there begun first k late l))
        (λ (early : k < j * w). omega (arith, least, at_home k (omega (arith, end)), best.first (k / w) (home_few n k j early)))
        (le_or_lt (j * w) k)

    -- the found number is the first smallest of all
    pub spot_first : FirstLeast d n r.at × (r.bound ≡ entry_at d r.at)
    spot_first = (
      record {
        inside = omega (arith, end);
        none_smaller = λ k l. omega (arith, least, at_home k l, best.none_smaller (k / w) (home k l));
        first = before;
      },
      is_least.lowest blocks ∙ least,
    )

    -- once it is taken out and the first smallest of its block found again, they are those of the blocks
    pub spot_taken : (e : List ℕ) (c : Blocks) → TakenAway d n b r e c → Blocked e n c
    spot_taken e c t =
        let a = t.found.at in
        let x = t.found.bound in
        record {
          few = rw t.count h.few;
          all = rw t.count h.all;
          some = rw t.count h.some;
          long = ap length t.leasts ∙ length-set b.leasts j x ∙ h.long;
          long_places = ap length t.places ∙ length-set b.places j a ∙ h.long_places;
          firsts = λ i l.
              rw (t.leasts, t.places)
              (⊎_elim
              (λ (same : i ≡ j).
              let here : j < 64 = omega (arith, h.few, best.inside) in
              rw (same, get_or-set_same b.leasts j x 0 (omega (arith, h.long)), get_or-set_same b.places j a 0 (omega (arith, h.long_places)))
              t.first)
              (λ (other : i ≢ j).
              let was = h.firsts i (omega (arith, t.count)) in
              let same = block_other d n i j r.at gone other from (omega (arith, end, block_end n j)) (omega (arith, end)) in
              rw (get_or-set_other b.leasts j i x 0 other, get_or-set_other b.places j i a 0 other, t.entries)
              (record { from = was.from; within = rw same was.within }))
              (same_or_not i j));
        }
