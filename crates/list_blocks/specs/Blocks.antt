-- Blocks of the numbers beside the open boxes, with the first smallest of each. These definitions say what this crate's functions do; the
-- contract of a search does not rest on them, and a reader of that need not believe them.
use Rattle.std.specs.Prelude.{◌≡◌, List, ℕ, suc, ◌+◌, ◌-◌, ◌*◌, ◌/◌, ◌≤◌, ◌<◌, min, length, set, take, drop}
use Rattle.list_first_smallest.specs.declared.Lowest.{Lowest}
use Rattle.list_first_smallest.specs.FirstSmallest.{entry_at, LowestOf}
use Rattle.list_blocks.specs.declared.Blocks.{Blocks}
use Rattle.list_blocks.specs.declared.Spot.{Spot}

-- what stands in the place of a number that was taken out, the largest of 64 bits
abbrev pub gone : ℕ
gone = 18446744073709551615

-- how many of n numbers stand in a block: so n numbers are in 64 blocks at most
abbrev pub width_of : ℕ → ℕ
width_of n = n / 64 + 16

-- where block j of the first n numbers begins, and the block
abbrev pub block_start : ℕ → ℕ → ℕ
block_start n j = min (j * width_of n) n

abbrev pub block_of : List ℕ → ℕ → ℕ → List ℕ
block_of d n j = take (block_start n (suc j) - block_start n j) (drop (block_start n j) d)

-- `at` is the place of the first smallest number of block j, and x that number; of an empty block, its beginning and gone
pub record InBlock (d : List ℕ) (n j at x : ℕ) : Type 0 where
  pub from : block_start n j ≤ at
  pub within : LowestOf (block_of d n j) (length (block_of d n j)) gone (record { at = at - block_start n j; bound = x })

-- the first n numbers are the blocks of b, which holds the first smallest number of each and its place
pub record Blocked (d : List ℕ) (n : ℕ) (b : Blocks) : Type 0 where
  pub few : b.count ≤ 64
  pub all : n ≤ b.count * width_of n
  pub some : (j : ℕ) → j < b.count → j * width_of n < n
  pub long : length b.leasts ≡ 64
  pub long_places : length b.places ≡ 64
  pub firsts : (j : ℕ) → j < b.count → InBlock d n j (entry_at b.places j) (entry_at b.leasts j)

-- b is those, and was b₀; behind the blocks it is as it was
pub record LeastsFound (d : List ℕ) (n : ℕ) (b₀ b : Blocks) : Type 0 where
  pub blocked : Blocked d n b
  pub rest : drop b.count b.leasts ≡ drop b.count b₀.leasts
  pub rest_places : drop b.count b.places ≡ drop b.count b₀.places

-- r is the first smallest of the leasts of the blocks of b, with the place that b has beside it
pub record SpotOf (b : Blocks) (r : Spot) : Type 0 where
  pub least : LowestOf b.leasts (min b.count 64) gone (record { at = r.block; bound = r.bound })
  pub place : r.at ≡ entry_at b.places r.block

-- A number is taken out of d, and the first smallest of its block is found again: e and b were d and b₀.
pub record TakenAway (d : List ℕ) (n : ℕ) (b₀ : Blocks) (spot : Spot) (e : List ℕ) (b : Blocks) : Type 0 where
  pub entries : e ≡ set d spot.at gone
  pub found : Lowest
  pub first : InBlock e n spot.block found.at found.bound
  pub count : b.count ≡ b₀.count
  pub leasts : b.leasts ≡ set b₀.leasts spot.block found.bound
  pub places : b.places ≡ set b₀.places spot.block found.at
