-- Of equally good vectors the first: there is one, so two solved answers with t = 0 have one vector. For larger t the steps are those of
-- document 01. Two solved answers over costs that are near each other. Assumes nothing.
use mathlib.Core.Path.{◌≡◌, refl}
use native.Mathlib.Omega.{arith}
use Rattle.boxes.proofs.Earlier.{before_total}
use Rattle.boxes.proofs.Volume.{between_length}
use Rattle.certificate.specs.Search.{better}
use Rattle.certificate.specs.Laws.{AllLater, OneFirst, SameFit, SolvedNear}
use Rattle.certificate.proofs.Ahead.{ahead_later}
use Rattle.certificate.proofs.Steps.{solved_later}

pub later : AllLater
unfolding better
later cost bound t above =
    record {
      kept = λ c best b. ahead_later t c best (bound b) b.low above;
      cheaper = λ best v. rw (ahead_later t (cost best) best (cost v) v above);
      near = λ s. solved_later cost bound t s above;
    }

-- neither costs more, and so neither comes before the other
pub one_first : OneFirst
one_first cost box v w f g =
    let same : cost v ≡ cost w = omega (arith, f.cheapest w g.inside, g.cheapest v f.inside) in
    before_total v w (omega (arith, between_length f.inside.between, between_length g.inside.between))
    (λ k. g.earliest v f.inside same k)
    (λ k. f.earliest w g.inside (omega arith) k)

pub same_fit : SameFit
same_fit cost box bound bound' budget budget' rows rows' start start' r r' c c' e e' =
    one_first cost box r.vector r'.vector (c.first refl e) (c'.first refl e')

pub solved_near : SolvedNear
solved_near cost cost' box cap close bound bound' budget budget' rows rows' t t' start start' r r' c c' e =
    omega (arith, c.near e, c.least r'.vector c'.inside, close r'.vector c'.inside, c'.exact)
