-- "Taking in a beacon": the checks, the new mark and the store afterwards.
-- room: how many bytes the lent store has; size: how many the beacon has.
use Rattle.std.specs.Prelude.{◌&&◌, List, [], ◌∷◌, ◌++◌, ℕ, ◌+◌, ◌%◌, leb, eqb, length, take, drop}
use Rattle.codes.specs.declared.Refusal.TheVariants.{Length, Short, Beacon}
use Rattle.codes.specs.Codes.{Check, Outcome, pass_if, in_order, unless_refused, if_passed}
use Rattle.points.specs.Points.{check_store}

-- Check 1 asks of a beacon what it asks of a store, and of the mark: "fill mark past the store or not a multiple of 12".
unfoldable pub check_mark : ℕ → ℕ → Check
check_mark room mark = pass_if (leb mark room && eqb (mark % 12) 0) Length

-- Check 10: "a beacon that takes the store past its end or 49,152 bytes".
unfoldable pub check_space : ℕ → ℕ → ℕ → Check
check_space room mark size = pass_if (leb (mark + size) room && leb (mark + size) 49152) Short

-- Check 11: "A beacon body holds point records and at most 236 bytes."
unfoldable pub check_body : ℕ → Check
check_body size = pass_if (leb size 236) Beacon

-- "Taking in a beacon makes 1, 10 and 11". The lent store "may have any length".
unfoldable pub check_take_in : ℕ → ℕ → ℕ → Check
check_take_in room mark size = in_order (check_store size ∷ check_mark room mark ∷ check_space room mark size ∷ check_body size ∷ [])

-- "Taking one in … returns the new mark."
unfoldable pub take_in_answer : ℕ → ℕ → ℕ → Outcome
take_in_answer room mark size = unless_refused (check_take_in room mark size) (mark + size)

-- "copies it behind the filled part of a lent store, from the fill mark on": what stands before the mark and behind the beacon is kept.
unfoldable pub behind : List ℕ → ℕ → List ℕ → List ℕ
behind store mark beacon = take mark store ++ beacon ++ drop (mark + length beacon) store

-- The store afterwards: at a refusal as it was.
unfoldable pub store_after : List ℕ → ℕ → List ℕ → List ℕ
store_after store mark beacon = if_passed (check_take_in (length store) mark (length beacon)) (behind store mark beacon) store
