-- "Cost shown beacon by beacon", request 10 of document 02. qs are the points of a store in order, gaps among them; groups count from 0.
use Rattle.std.specs.Prelude.{List, [], ◌∷◌, ◌++◌, ℕ, zero, suc, ◌+◌, ◌*◌, ◌/◌, leb, ℤ, length, take, drop}
use Rattle.integers.specs.Lists.{over}
use Rattle.codes.specs.declared.Refusal.TheVariants.{Short}
use Rattle.codes.specs.Codes.{Check, Outcome, pass_if, in_order, unless_refused, if_passed}
use Rattle.jobs.specs.declared.Model.{Model}
use Rattle.points.specs.declared.Point.{Point}
use Rattle.points.specs.Points.{points_of}
use Rattle.residuals.specs.Cost.{cost}
use Rattle.integers.specs.Sums.{sum_of}
use Rattle.model_checks.specs.Checks.{check_threshold}

-- "groups of 19 records, as a full beacon holds": records 19 g to 19 g + 18
unfoldable pub group : List Point → ℕ → List Point
group qs g = take 19 (drop (g * 19) qs)

-- how many there are, "the last group taking what is left"
unfoldable pub groups : List Point → ℕ
groups qs = (length qs + 18) / 19

-- "Add up the cost by groups": the partial sum of group g
unfoldable pub group_cost : Model → List Point → List ℤ → ℕ → ℕ
group_cost m qs v g = cost m (group qs g) v

-- those of the first n groups, in order
unfoldable pub partial_sums : Model → List Point → List ℤ → ℕ → List ℕ
partial_sums m qs v zero = []
partial_sums m qs v (suc n) = partial_sums m qs v n ++ (group_cost m qs v n ∷ [])

-- "and then the groups"
unfoldable pub total : Model → List Point → List ℤ → ℕ
total m qs v = sum_of (group_cost m qs v) (groups qs)

-- Checks 1 to 4, 6 and 7, and then 10: "p = 3 gets 4, a list too small 10". The list has so many entries.
unfoldable pub check_by_beacon : List ℕ → Model → List ℤ → ℕ → Check
check_by_beacon store m v entries = in_order (check_threshold store m v ∷ pass_if (leb (groups (points_of store)) entries) Short ∷ [])

-- The answer is the total.
unfoldable pub cost_by_beacon : List ℕ → Model → List ℤ → List ℕ → Outcome
cost_by_beacon store m v sums = unless_refused (check_by_beacon store m v (length sums)) (total m (points_of store) v)

-- "partial sums in a lent list, whose further entries are kept": the list afterwards, at a refusal as it was
unfoldable pub sums_after : List ℕ → Model → List ℤ → List ℕ → List ℕ
sums_after store m v sums =
    if_passed (check_by_beacon store m v (length sums)) (over (partial_sums m (points_of store) v (groups (points_of store))) sums) sums
