-- The places of a block, the block of a place, and what the first smallest of a block says of the list. Assumes nothing.
use mathlib.Core.Path.{◌≡◌, refl, sym, ap, ◌∙◌}
use mathlib.Core.List.{List}
use mathlib.Core.Logic.{◌≢◌, ◌⊎◌, ⊎_elim, inl, inr}
use Prim.Native.Nat.{ℕ, suc, ◌+◌, ◌-◌, ◌*◌, ◌/◌, ◌≤◌, ◌<◌, min}
use native.Mathlib.Nat.{suc-mul, mul-le-mul_right, div-mul-le_self, lt-div-mul-add, div-lt_iff_lt-mul}
use native.Mathlib.Numerals.{add-one}
use native.Mathlib.Omega.{arith}
use lib.ListN.{length, take, drop, set, length-drop, length-set}
use lib.Seq.{set_out, length-take-le, get_or-take, get_or-drop, drop-set-lt, take-set-le, drop-set-add}
use Rattle.integers.proofs.Tests.{le_or_lt}
use Rattle.list_first_smallest.specs.declared.Lowest.{Lowest}
use Rattle.list_first_smallest.specs.FirstSmallest.{entry_at, FirstLeast, LowestOf}
use Rattle.list_blocks.specs.declared.Blocks.{Blocks}
use Rattle.list_blocks.specs.declared.Spot.{Spot}
use Rattle.list_blocks.specs.Blocks.{width_of, block_start, block_of, gone, InBlock, TakenAway}

-- where a block ends
pub block_end : (n j : ℕ) → block_start n (suc j) ≡ min (j * width_of n + width_of n) n
block_end n j = rw (suc-mul j (width_of n))

-- an earlier block ends before
ends_before : (n i j : ℕ) → i < j → i * width_of n + width_of n ≤ j * width_of n
ends_before n i j h =
    let less : suc i ≤ j = omega arith in
    omega (arith, suc-mul i (width_of n), mul-le-mul_right (width_of n) less)

module _ (d : List ℕ) (n j : ℕ) (there : n ≤ length d) where
  block_long : length (block_of d n j) ≡ block_start n (suc j) - block_start n j
  block_long =
      length-take-le (block_start n (suc j) - block_start n j) (drop (block_start n j) d)
      (omega (arith, length-drop (block_start n j) d))

  block_entry : (k : ℕ) → k < length (block_of d n j) → entry_at (block_of d n j) k ≡ entry_at d (block_start n j + k)
  block_entry k h =
      get_or-take (block_start n (suc j) - block_start n j) (drop (block_start n j) d) k 0 (omega (arith, block_long))
      ∙ get_or-drop (block_start n j) d k 0

-- the first smallest of a block that begins before the end
module _
    {d : List ℕ} {n j at x : ℕ} (there : n ≤ length d) (begun : j * width_of n < n) (g : InBlock d n j at x)
  where
    starts : block_start n j ≡ j * width_of n
    starts = omega arith

    ends : block_start n (suc j) ≡ length (block_of d n j) + j * width_of n
    ends = omega (arith, starts, block_long d n j there, block_end n j)

    some : 1 ≤ length (block_of d n j)
    some = omega (arith, ends, block_end n j)

    least : FirstLeast (block_of d n j) (length (block_of d n j)) (at - block_start n j)
    least = g.within.place some

    entry : (k : ℕ) → j * width_of n ≤ k → k < block_start n (suc j) → entry_at (block_of d n j) (k - block_start n j) ≡ entry_at d k
    entry k late early =
        let place : block_start n j + (k - block_start n j) ≡ k = omega (arith, starts) in
        rw place at (block_entry d n j there (k - block_start n j) (omega (arith, starts, ends)))

    -- it stands in its block
    pub first_from : j * width_of n ≤ at
    first_from = omega (arith, starts, g.from)

    pub first_end : at < block_start n (suc j)
    first_end = omega (arith, starts, ends, least.inside, g.from)

    pub first_is : x ≡ entry_at d at
    first_is = g.within.lowest some ∙ entry at first_from first_end

    -- no number of the block is smaller, and none before it as small
    pub first_least_lem : (k : ℕ) → j * width_of n ≤ k → k < j * width_of n + width_of n → k < n → x ≤ entry_at d k
    first_least_lem k late early inside =
        let e = entry k late (omega (arith, block_end n j)) in
        omega
        (arith, e, g.within.lowest some, least.none_smaller (k - block_start n j) (omega (arith, starts, ends, block_end n j)))

    pub first_first : (k : ℕ) → j * width_of n ≤ k → k < at → x < entry_at d k
    first_first k late early =
        let e = entry k late (omega (arith, first_end)) in
        omega (arith, e, g.within.lowest some, least.first (k - block_start n j) (omega (arith, starts)))

pub same_or_not : (i j : ℕ) → (i ≡ j) ⊎ (i ≢ j)
same_or_not i j =
    ⊎_elim
    (λ (h : i ≤ j).
    ⊎_elim (λ (g : j ≤ i). inl (omega arith)) (λ (g : i < j). inr (λ e. absurd (omega arith))) (le_or_lt j i))
    (λ (h : j < i). inr (λ e. absurd (omega arith)))
    (le_or_lt i j)

-- a block of which no number is set is as it was
pub block_other :
    (d : List ℕ) (n i j at x : ℕ) → i ≢ j → j * width_of n ≤ at → at < j * width_of n + width_of n → at < n →
    block_of (set d at x) n i ≡ block_of d n i
block_other d n i j at x ne late early inside =
    ⊎_elim
    (λ (h : j ≤ i).
    let before = ends_before n j i (omega (arith, ne)) in
    rw (drop-set-lt (block_start n i) d at x (omega arith)))
    (λ (h : i < j).
    let after = ends_before n i j h in
    let place : block_start n i + (at - block_start n i) ≡ at = omega arith in
    let ends : block_start n (suc i) - block_start n i ≤ at - block_start n i = omega (arith, block_end n i) in
    rw (rw place at (drop-set-add (block_start n i) d (at - block_start n i) x)) (take-set-le _ _ _ x ends))
    (le_or_lt j i)

-- the block of a place
module _ (n k : ℕ) where
  wide : 0 < width_of n
  wide = omega arith

  pub home_few : (count : ℕ) → k < count * width_of n → k / width_of n < count
  home_few count h = (div-lt_iff_lt-mul wide).1 h

  pub home_from : k / width_of n * width_of n ≤ k
  home_from = div-mul-le_self k (width_of n)

  pub home_end : k < k / width_of n * width_of n + width_of n
  home_end = lt-div-mul-add wide

-- the place of the first smallest is before any that is behind the end and behind 0
pub lowest_before : (xs : List ℕ) (n c : ℕ) (r : Lowest) → LowestOf xs n c r → (m : ℕ) → n ≤ m → 1 ≤ m → r.at < m
lowest_before xs n c r g m few pos =
    ⊎_elim
    (λ (some : 1 ≤ n). omega (arith, (g.place some).inside))
    (λ (none : n < 1). omega (arith, ap (λ (x : Lowest). x.at) (g.empty (omega arith))))
    (le_or_lt 1 n)

-- what is found in the part from a block's begin to its end is found in the block
pub part_found :
    (d : List ℕ) (n j from end : ℕ) (found : Lowest) → n ≤ length d → from ≡ block_start n j → end ≡ block_start n (j + 1) →
    LowestOf (take (end - from) (drop from d)) (min (end - from) (length (take (end - from) (drop from d)))) gone found →
    InBlock d n j (from + found.at) found.bound
part_found d n j from end found there begins ends g =
    let all : min (block_start n (suc j) - block_start n j) (length (block_of d n j)) ≡ length (block_of d n j) =
    omega (arith, block_long d n j there) in
    let place : from + found.at - block_start n j ≡ found.at = omega arith in
    record { from = omega arith; within = rw place (rw (begins, ends, add-one, all) at g) }

-- a block behind the 64 is empty
pub empty_block : (d : List ℕ) (n j : ℕ) → n ≤ length d → 64 ≤ j → InBlock d n j (block_start n j) gone
empty_block d n j there late =
    let behind : n ≤ j * width_of n = omega (arith, mul-le-mul_right (width_of n) late) in
    let none : length (block_of d n j) ≡ 0 = omega (arith, block_long d n j there) in
    let here : block_start n j - block_start n j ≡ 0 = omega arith in
    record {
      from = omega arith;
      within = rw here (record { empty = λ e. refl; place = λ h. absurd (omega arith); lowest = λ h. absurd (omega arith) });
    }

-- so where a block is not there, nothing changes but the number
pub none_mended :
    (d : List ℕ) (n : ℕ) (b : Blocks) (spot : Spot) (e : List ℕ) → n ≤ length d → e ≡ set d spot.at gone → 64 ≤ spot.block →
    length b.leasts ≡ 64 → length b.places ≡ 64 → TakenAway d n b spot e b
none_mended d n b spot e there taken late long long_places =
    record {
      entries = taken;
      found = record { at = block_start n spot.block; bound = gone };
      first = empty_block e n spot.block (omega (arith, ap length taken, length-set d spot.at gone)) late;
      count = refl;
      leasts = sym (set_out b.leasts spot.block gone (omega arith));
      places = sym (set_out b.places spot.block (block_start n spot.block) (omega arith));
    }
