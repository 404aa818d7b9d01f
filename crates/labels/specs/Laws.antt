-- What is shown of labels. The proof stands in proofs/Labelling.antt.
use Rattle.std.specs.Prelude.{true, false, List, ◌≢◌, ◌≡◌, ℕ, suc, ◌≤◌, ◌<◌, ℤ}
use Rattle.jobs.specs.declared.Model.{Model}
use Rattle.points.specs.declared.Point.{Point}
use Rattle.points.specs.Points.{is_gap}
use Rattle.residuals.specs.Cost.{size_at}
use Rattle.labels.specs.Labels.{label}

-- Two of the lines fit, which may be equal lines.
pub record TwoFit (m : Model) (v : List ℤ) (q : Point) (first second : ℕ) : Type 0 where
  pub two : first < second
  pub one_of : second < m.n
  pub first_fits : size_at m v q first ≤ m.eps
  pub second_fits : size_at m v q second ≤ m.eps

-- One line fits and no other does: it is the nearest.
pub record OneFits (m : Model) (v : List ℤ) (q : Point) (line : ℕ) : Type 0 where
  pub one_of : line < m.n
  pub fits : size_at m v q line ≤ m.eps
  pub alone : (j : ℕ) → j < m.n → j ≢ line → m.eps < size_at m v q j

-- Which label a point has: 6 a gap; of samples 5 where two lines fit, the line where one does, and 0 where none does.
pub record Labelled (m : Model) (v : List ℤ) (q : Point) : Type 0 where
  pub gap : is_gap q ≡ true → label m v q ≡ 6
  pub undecided : is_gap q ≡ false → (i j : ℕ) → TwoFit m v q i j → label m v q ≡ 5
  pub named : is_gap q ≡ false → (line : ℕ) → OneFits m v q line → label m v q ≡ suc line
  pub no_line : is_gap q ≡ false → ((j : ℕ) → j < m.n → m.eps < size_at m v q j) → label m v q ≡ 0

-- So it is with every point, under a model of one line at least.
abbrev pub AllLabelled : Type 0
AllLabelled = (m : Model) (v : List ℤ) (q : Point) → 1 ≤ m.n → Labelled m v q
