-- What a bench fit can say of the definitions.
use Rattle.std.specs.Prelude.{List, [], ◌∷◌, ◌++◌, ◌≡◌, ℕ, ◌-◌, ℤ, pos, nat_abs, length, replicate, Ok}
use Prim.Native.String.{String}
use Rattle.boxes.specs.declared.Box.{Box}
use Rattle.boxes.specs.Split.{split_answer}
use Rattle.jobs.specs.declared.Job.{Job}
use Rattle.jobs.specs.declared.Model.{Model}
use Rattle.loss.specs.Loss.{loss_of}
use Rattle.points.specs.declared.Point.{Point}
use Rattle.residuals.specs.Cost.{residual, least_size}
use Rattle.labels.specs.Labels.{label}
use Rattle.coefficients.specs.Coefficient.{pattern_of}
use Rattle.fields.specs.Fields.{vector_bytes}
use Rattle.job_records.specs.Jobs.{job_bytes}
use Rattle.decimal.specs.Text.{ascii, byte}
use Rattle.fit_line.specs.Report.{fit_line}

-- What the paper says in a bench fit: a thing worked out, and behind it the value that it has.
pub data Fit : Type 0 where
  -- the residual of the first line
  residual_is : Model → List ℤ → Point → ℤ → Fit
  -- the loss, by p, ε and e
  loss_is : ℕ → ℕ → ℤ → ℕ → Fit
  -- the label of a point
  label_is : Model → List ℤ → Point → ℕ → Fit
  -- the least size of the first line's residual over a box
  least_size_is : Model → Box → Point → ℕ → Fit
  -- a box of the shape n × d, and its halves
  splits_into : ℕ → ℕ → Box → Box → Box → Fit
  -- the line that fit writes of a job and of the points with x = 1 and these y
  fit_writes : Job → List ℤ → String → Fit
  -- the single-precision pattern of w, by S
  pattern_is : ℕ → ℤ → ℕ → Fit

-- a store of points with x = 1 and these y; the frame numbers are 0
abbrev pub store : List ℤ → List ℕ
store [] = []
store (y ∷ ys) = vector_bytes (pos 1 ∷ pos 0 ∷ pos 0 ∷ pos 0 ∷ y ∷ pos 0 ∷ []) ++ store ys

-- that the definition gives the value of the fit
abbrev pub Holds : Fit → Type 0
Holds (residual_is m v q e) = residual m v q 0 ≡ e
Holds (loss_is p ε e value) = loss_of p ε (nat_abs e) ≡ value
Holds (label_is m v q value) = label m v q ≡ value
Holds (least_size_is m B q value) = least_size m B q 0 ≡ value
Holds (splits_into n d B first second) = split_answer n d B ≡ Ok (record { left = first; right = second })
Holds (fit_writes job ys line) = fit_line (job_bytes job ++ store ys) ≡ ascii line ++ byte 10
Holds (pattern_is S w bits) = pattern_of S w ≡ bits

-- a vector with these coordinates and 0 after them
abbrev pub vector : List ℤ → List ℤ
vector ws = ws ++ replicate (8 - length ws) (pos 0)

-- a box from these low to these high coordinates
abbrev pub box : List ℤ → List ℤ → Box
box low high = record { low = vector low; high = vector high }

-- a point with this x1 and y; x2 to x4 are 0, as d = 1 asks, and so is the frame number
abbrev pub point : ℤ → ℤ → Point
point x y = record { x1 = x; x2 = pos 0; x3 = pos 0; x4 = pos 0; y = y; frame = 0 }

-- n lines and d = 1, with S, p and ε
abbrev pub lines : ℕ → ℕ → ℕ → ℕ → Model
lines n S p ε = record { n = n; d = 1; scale = S; p = p; eps = ε }

-- one line from 0 to `high`, start 0, t = 0, by p, ε, `high`, the budget and r
abbrev pub job : ℕ → ℕ → ℕ → ℕ → ℕ → Job
job p ε high budget r =
    record {
      model = lines 1 0 p ε;
      t = 0;
      budget = budget;
      rows = r;
      domain = box (pos 0 ∷ []) (pos high ∷ []);
      start = vector (pos 0 ∷ []);
    }
