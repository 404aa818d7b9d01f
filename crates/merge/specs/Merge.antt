-- "Both polarisations in one store", request 7 of document 02: "Make one store of two, each with strictly rising frame numbers."
-- first and second are the two stores, out is the lent output.
use Rattle.std.specs.Prelude.{List, [], ◌∷◌, ℕ, length}
use Rattle.codes.specs.Codes.{Check, Outcome, in_order, unless_refused}
use Rattle.fields.specs.Buffers.{check_room, written}
use Rattle.frames.specs.Frames.{merged, check_both}

-- "After the checks below, a union over 4,096 records gets number 1, then a small output 10."
unfoldable pub check_merge : List ℕ → List ℕ → List ℕ → Check
check_merge first second out = in_order (check_both first second ∷ check_room (length (merged first second)) out ∷ [])

-- "The call returns the outcome's length in bytes"
unfoldable pub merge_answer : List ℕ → List ℕ → List ℕ → Outcome
merge_answer first second out = unless_refused (check_merge first second out) (length (merged first second))

-- "and keeps the output behind it": the output afterwards, at a refusal as it was.
unfoldable pub output_after : List ℕ → List ℕ → List ℕ → List ℕ
output_after first second out = written (check_merge first second out) (merged first second) out
