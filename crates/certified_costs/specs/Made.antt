-- Document 02, [5]: "The certified search is to be shown once for every cost that is made from the points' least |e| alone and never falls
-- when one of them grows, with the box bound made likewise from the least sizes; the four values of p then use it."
use Rattle.std.specs.Prelude.{List, ℕ, ℤ}
use Rattle.boxes.specs.declared.Box.{Box}
use Rattle.boxes.specs.Boxes.{InBox}
use Rattle.jobs.specs.declared.Model.{Model}
use Rattle.points.specs.declared.Point.{Point}
use Rattle.ranks.specs.Laws.{Rises}
use Rattle.residuals.specs.Cost.{cost, bound}
use Rattle.residuals.specs.Laws.{cost_by, bound_by}
use Rattle.certificate.specs.Search.{search}
use Rattle.certificate.specs.Certificate.{Certificate}

-- every cost and bound that are made so: of any model, points, budget, rows, t and box, and any start vector in it
abbrev pub MadeCertified : Type 0
MadeCertified =
    (make : List ℕ → ℕ) → Rises make →
    (m : Model) (qs : List Point) (budget rows t : ℕ) (start : List ℤ) (box : Box) → InBox start box →
    Certificate (cost_by make m qs) (bound_by make m qs) budget rows t start box
    (search (cost_by make m qs) (bound_by make m qs) budget rows t start box)

-- and so a model's own, whichever p it has
abbrev pub FitCertified : Type 0
FitCertified =
    (m : Model) (qs : List Point) (budget rows t : ℕ) (start : List ℤ) (box : Box) → InBox start box →
    Certificate (cost m qs) (bound m qs) budget rows t start box (search (cost m qs) (bound m qs) budget rows t start box)
