-- Stores of three records where the cap is reached, each by computing the definitions: between two points on the line w = 0 there is a gap
-- in the one store, and in the other a sample that is on no line of the box. Assumes nothing.
use mathlib.Core.Path.{◌≡◌, refl}
use mathlib.Core.List.{List, [], ◌∷◌, ◌++◌}
use Prim.Native.Nat.{ℕ, ◌+◌}
use native.Mathlib.Omega.{arith}
use lib.IntN.{ℤ, pos}
use lib.ListN.{replicate}
use Rattle.integers.specs.Integers.{max_z, min_z, floor_half, all_zero}
use Rattle.codes.specs.Codes.{in_order}
use Rattle.boxes.specs.Shape.{check_shape}
use Rattle.boxes.specs.Boxes.{at_most, before, side_size, sides, product, check_box, check_start}
use Rattle.boxes.specs.Split.{first_largest, left_half, right_half}
use Rattle.jobs.specs.declared.Job.{Job}
use Rattle.scale.specs.Scale.{check_scale}
use Rattle.loss.specs.Loss.{loss_of, check_loss, check_loss_for}
use Rattle.fields.specs.Fields.{from_big_endian}
use Rattle.points.specs.Points.{unsigned_at, signed_at, point_at, skipped, first_points, points_of, check_store, stray_from, check_stray}
use Rattle.residuals.specs.Cost.{residual, size_at, e_min, e_max, nearest_to0, least_size}
use Rattle.integers.specs.Sums.{Σ}
use Rattle.residuals.specs.Cost.{least, unless_gap, total_loss, cost, bound}
use Rattle.model_checks.specs.Checks.{check_model}
use Rattle.certificate.specs.Search.{ahead, lower_bound, first_smallest, better, begin, split}
use Rattle.certificate.specs.Search.{is_solved, answer, if_room, step, follow, run, search}
use Rattle.search_checks.specs.Checks.{check_job, check_search}
use Rattle.search.specs.declared.Answer.{Answer}
use Rattle.search.specs.declared.Kind.TheVariants.{Solved}
use Rattle.search.specs.Search.{searched, search_answer}
use Rattle.influence.specs.OneRecord.{cap}
use Rattle.influence.specs.Laws.{CapReached, AllReached}

-- a record with an x1 and a y of two bytes each
abbrev record_of : ℕ → List ℕ → List ℕ
record_of x y = 0 ∷ x ∷ (replicate 6 0 ++ (y ++ (0 ∷ 0 ∷ [])))

abbrev on_line : List ℕ
on_line = record_of 1 (0 ∷ 0 ∷ [])

abbrev gap : List ℕ
gap = record_of 0 (128 ∷ 0 ∷ [])

abbrev off_line : List ℕ
off_line = record_of 0 (0 ∷ 7 ∷ [])

abbrev store_of : List ℕ → List ℕ
store_of r = on_line ++ (r ++ record_of 0 (0 ∷ 0 ∷ []))

abbrev one_with_zeros : ℕ → List ℤ
one_with_zeros w = pos w ∷ replicate 7 (pos 0)

-- one line, one x, w of 0 and 1
abbrev job_of : ℕ → ℕ → ℕ → ℕ → Job
job_of p ε t start =
    record {
      model = record { n = 1; d = 1; scale = 0; p = p; eps = ε };
      t = t;
      budget = 1;
      rows = 1;
      domain = record { low = one_with_zeros 0; high = one_with_zeros 1 };
      start = one_with_zeros start;
    }

abbrev answer_of : List ℕ → Job → Answer
answer_of store job = search_answer store job (replicate 16 (pos 0)) (0 ∷ [])

-- The first search starts at w = 0 with t = 0, the second at w = 1 with t = 1, where it is solved at once: it is 1 above L.
reached :
    (p ε : ℕ) →
    (answer_of (store_of gap) (job_of p ε 0 0)).kind ≡ Solved →
    (answer_of (store_of off_line) (job_of p ε 1 1)).kind ≡ Solved →
    (answer_of (store_of off_line) (job_of p ε 1 1)).cost ≡ (answer_of (store_of gap) (job_of p ε 0 0)).cost + 1 + cap p ε →
    CapReached p ε
reached p ε is is' most =
    record {
      store = store_of gap;
      store' = store_of off_line;
      job = job_of p ε 0 0;
      job' = job_of p ε 1 1;
      table = replicate 16 (pos 0);
      bounds = 0 ∷ [];
      differ =
          record {
            before = on_line;
            one = gap;
            other = off_line;
            behind = record_of 0 (0 ∷ 0 ∷ []);
            whole = refl;
            twelve = refl;
            twelve' = refl;
            store_is = refl;
            store'-is = refl;
          };
      same = record { model = refl; box = refl };
      picks = refl;
      threshold = refl;
      solved = is;
      solved' = is';
      tolerant = omega arith;
      reached = most;
    }

pub all_reached : AllReached
unfolding max_z min_z floor_half all_zero in_order check_shape at_most before side_size sides product check_box check_start first_largest left_half
    right_half check_scale loss_of check_loss check_loss_for from_big_endian unsigned_at signed_at point_at skipped first_points points_of check_store
    stray_from check_stray Σ residual size_at e_min e_max nearest_to0 least_size least unless_gap total_loss cost bound check_model
    ahead lower_bound first_smallest better begin split is_solved answer if_room step follow run search searched check_job check_search
    search_answer cap
all_reached = record { outliers = reached 0 0 refl refl refl; sizes = reached 1 3 refl refl refl; squares = reached 2 3 refl refl refl }
