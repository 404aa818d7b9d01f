-- The union of two lists of records: what all of both have, all of it have, 12 bytes above all. Assumes nothing.
use mathlib.Core.Path.{◌≡◌}
use mathlib.Core.List.{List}
use Prim.Native.Nat.{ℕ, ◌*◌}
use lib.Dec.{ltb}
use lib.ListN.{length}
use Rattle.integers.specs.Lists.{All, none, also}
use Rattle.integers.proofs.Tests.{by_cond}
use Rattle.frames.specs.Frames.{frame_of, records_of, union, merged}
use Rattle.frames.proofs.Records.{Long, records_long, flatten_length}

-- what holds of all records of both holds of all of the union
pub union_all : {P : List ℕ → Type 0} {rs ss : List (List ℕ)} → All P rs → All P ss → All P (union rs ss)
unfolding union
union_all none k = k
union_all (also h hs) none = also h hs
union_all {P} (also {x} {xs} h hs) (also {x = y} {xs = ys} k ks) =
    by_cond (All P) (ltb (frame_of x) (frame_of y)) (λ t. also h (union_all hs (also k ks)))
    (λ t. by_cond (All P) (ltb (frame_of y) (frame_of x)) (λ t. also k (union_all (also h hs) ks)) (λ t. also h (union_all hs ks)))

-- the merged store has 12 bytes for each record
pub union_long : (first second : List ℕ) → All Long (union (records_of first) (records_of second))
union_long first second = union_all (records_long first) (records_long second)

pub merged_length : (first second : List ℕ) → length (merged first second) ≡ length (union (records_of first) (records_of second)) * 12
unfolding merged
merged_length first second = flatten_length (union_long first second)
