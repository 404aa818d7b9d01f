-- What holds of a beacon that is taken in. Assumes nothing.
use mathlib.Core.Path.{◌≡◌}
use mathlib.Core.Bool.{◌&&◌}
use mathlib.Core.List.{List, [], ◌∷◌}
use Prim.Native.Nat.{ℕ, ◌+◌, ◌≤◌}
use lib.Dec.{leb, leb→le}
use Rattle.codes.specs.Codes.{Check, pass}
use Rattle.integers.proofs.Tests.{and_parts}
use Rattle.codes.specs.declared.Refusal.TheVariants.{Short}
use Rattle.codes.proofs.Checks.{passed, first_passed, others_passed}
use Rattle.points.specs.Points.{check_store}
use Rattle.beacon.specs.Beacon.{check_mark, check_space, check_body, check_take_in}

-- the new mark is within the store, and within 49,152 bytes
pub new_mark : (room mark size : ℕ) → check_take_in room mark size ≡ pass → (mark + size ≤ room) × (mark + size ≤ 49152)
unfolding check_take_in check_space
new_mark room mark size e =
    let space : List Check = check_space room mark size ∷ check_body size ∷ [] in
    let both =
    and_parts (leb (mark + size) room) (leb (mark + size) 49152)
    (passed (leb (mark + size) room && leb (mark + size) 49152) Short
    (first_passed (check_space room mark size) (check_body size ∷ [])
    (others_passed (check_mark room mark) space (others_passed (check_store size) (check_mark room mark ∷ space) e)))) in
    (leb→le _ _ both.0, leb→le _ _ both.1)
