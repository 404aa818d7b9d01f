-- The certified search for every cost that is made so, and for the four values of p. Assumes nothing.
use mathlib.Core.Path.{◌≡◌, sym, subst}
use mathlib.Core.List.{List}
use Prim.Native.Nat.{ℕ}
use lib.IntN.{ℤ}
use Rattle.boxes.specs.declared.Box.{Box}
use Rattle.residuals.specs.Cost.{cost, bound}
use Rattle.residuals.specs.Laws.{cost_by, bound_by, make_of}
use Rattle.residuals.proofs.Bounds.{all_made, made}
use Rattle.certificate.specs.Search.{search}
use Rattle.certificate.specs.Certificate.{Certificate}
use Rattle.certificate.proofs.Certified.{certified}
use Rattle.certified_costs.specs.Made.{MadeCertified, FitCertified}

pub made_certified : MadeCertified
made_certified make rises m qs budget rows t start box inside =
    certified (cost_by make m qs) (bound_by make m qs) budget rows t start box (all_made make rises m qs) inside

pub fit_certified : FitCertified
fit_certified m qs budget rows t start box inside =
    let make = make_of m in
    let of_cost : ◌≡◌ {A = List ℤ → ℕ} (cost_by make m qs) (cost m qs) = λ i v. sym ((made m qs).of_cost v) i in
    let of_bound : ◌≡◌ {A = Box → ℕ} (bound_by make m qs) (bound m qs) = λ i B. sym ((made m qs).of_bound B) i in
    subst (λ (f : List ℤ → ℕ). Certificate f (bound m qs) budget rows t start box (search f (bound m qs) budget rows t start box)) of_cost
    (subst (λ (f : Box → ℕ). Certificate (cost_by make m qs) f budget rows t start box (search (cost_by make m qs) f budget rows t start box))
    of_bound
    (made_certified make (made m qs).rises m qs budget rows t start box inside))
