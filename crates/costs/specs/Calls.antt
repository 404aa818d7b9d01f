-- What a search asks of a cost and a bound, by points and by the lanes of a store that it decoded. What the calls answer is in Answers.antt.
use Rattle.std.specs.Prelude.{Bool, true, false, cond, List, [], ℕ, ◌^◌, min, eqb, ℤ, pos, get_or, Float}
use Rattle.std.specs.Float.{binary64}
use Rattle.std.specs.Float.Ieee.{of_int, lt}
use Rattle.codes.specs.Codes.{if_passed}
use Rattle.boxes.specs.declared.Box.{Box}
use Rattle.jobs.specs.declared.Model.{Model}
use Rattle.points.specs.Points.{points_of}
use Rattle.residuals.specs.Cost.{cost, bound}
use Rattle.integers.specs.Sums.{sum_of}
use Rattle.model_checks.specs.Checks.{check_model}
use Rattle.eval_columns.specs.Columns.{decoded_chunks, Decoded}
use Rattle.eval_selection.specs.Selection.{selected}
use Rattle.eval_kernel.specs.Kernel.{doubles, chunk_loss, chunk_size}

-- asked again and again, under a model and a store that were checked: the value, or `cap` if that is less; where checks 1 to 4 refuse, 0
unfoldable pub cost_up_to : List ℕ → Model → List ℤ → ℕ → ℕ
cost_up_to store m v cap = if_passed (check_model store m) (min (cost m (points_of store) v) cap) 0

unfoldable pub bound_up_to : List ℕ → Model → Box → ℕ → ℕ
bound_up_to store m B cap = if_passed (check_model store m) (min (bound m (points_of store) B) cap) 0

-- lanes are the store's, decoded for the model
abbrev pub DecodedFor : List ℕ → Model → List (List (List Float)) → Type 0
DecodedFor store m lanes = Decoded store m.d (2 ^ m.scale) lanes

-- The same over lanes, of a store that was decoded before. What lanes give that are not the store's is said by the numbers in them.
abbrev pub chunk_loss_in : Bool → List (List (List Float)) → Model → List ℤ → List ℤ → ℕ → ℕ
chunk_loss_in over lanes m low high t = chunk_loss over (get_or lanes t []) (doubles low) (doubles high) m

-- how many of the least sizes exceed a, of the first n chunks of lanes
unfoldable pub exceeding_by : Bool → List (List (List Float)) → List Float → List Float → Model → ℕ → ℕ → ℕ
exceeding_by over lanes from to m n a =
    sum_of (λ t. sum_of (λ k. cond (lt (of_int binary64 (pos a)) (chunk_size over (get_or lanes t []) from to m k)) 1 0) 80) n

-- for p = 3 the least number that at most q of the sizes exceed, else the sum of the losses
unfoldable pub value_in : Bool → List ℕ → List (List (List Float)) → Model → List ℤ → List ℤ → ℕ → ℕ
value_in over store lanes m low high cap =
    cond (eqb m.p 3)
    (selected (exceeding_by over lanes (doubles low) (doubles high) m (decoded_chunks store lanes)) m.eps (min cap 4503599627370496))
    (min (sum_of (chunk_loss_in over lanes m low high) (decoded_chunks store lanes)) cap)

unfoldable pub cost_in : List ℕ → List (List (List Float)) → Model → List ℤ → ℕ → ℕ
cost_in store lanes m v cap = if_passed (check_model store m) (value_in false store lanes m v v cap) 0

unfoldable pub bound_in : List ℕ → List (List (List Float)) → Model → Box → ℕ → ℕ
bound_in store lanes m B cap = if_passed (check_model store m) (value_in true store lanes m B.low B.high cap) 0
