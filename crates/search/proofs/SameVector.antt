-- With t = 0 two solved answers over the same points, model and box have one vector. Assumes nothing.
use mathlib.Core.Path.{◌≡◌}
use mathlib.Core.List.{List}
use Prim.Native.Nat.{ℕ}
use lib.IntN.{ℤ}
use Rattle.jobs.specs.declared.Job.{Job}
use Rattle.points.specs.Points.{points_of}
use Rattle.residuals.specs.Cost.{cost}
use Rattle.certificate.specs.Certificate.{First}
use Rattle.certificate.proofs.First.{one_first}
use Rattle.search.specs.declared.Kind.TheVariants.{Solved}
use Rattle.search.specs.Search.{search_answer}
use Rattle.search.specs.Laws.{SameVector}
use Rattle.search.proofs.Solved.{solved_kind, solved_told, solved_certified}

-- the vector of a solved answer is the first of least cost
first :
    (store : List ℕ) (job : Job) (table : List ℤ) (bounds : List ℕ) →
    job.t ≡ 0 →
    (search_answer store job table bounds).kind ≡ Solved →
    First (cost job.model (points_of store)) job.domain (search_answer store job table bounds).vector
first store job table bounds zero is =
    rw (solved_told store job table bounds is)
    ((solved_certified store job table bounds is).first zero (solved_kind store job table bounds is))

pub same_vector : SameVector
same_vector store store' job job' table table' bounds bounds' points model domain zero zero' is is' =
    one_first (cost job.model (points_of store)) job.domain (search_answer store job table bounds).vector
    (search_answer store' job' table' bounds').vector
    (first store job table bounds zero is)
    (rw (points, model, domain) (first store' job' table' bounds' zero' is'))
