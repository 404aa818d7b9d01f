-- The bound of the given box up to one more than the ceiling decides.
use Rattle.std.proofs.Common.{rules, refl, ap, ◌≡◌, ◌∙◌, Bool, cond}
use Prim.Native.Nat.{ℕ, min}
use Rattle.points.specs.Points.{points_of}
use Rattle.residuals.specs.Cost.{cost, bound}
use Rattle.residuals.proofs.Bounds.{bound_laws}
use Rattle.list_rows.proofs.Rows.{Whole}
use Rattle.branching.specs.Branching.{just_above}
use Rattle.branching.proofs.UpTo.{bound_found}
use Rattle.range_search.specs.RangeSearch.{nothing, widen}
use Rattle.ranges.specs.Inside.{is_kept}
use Rattle.ranges.proofs.Beginning.{begun}
use Rattle.ranges.proofs.run.begin.Goals as goal

pub returns : goal.returns
returns c =
    let a = c.args in
    let C = cost a.m (points_of a.store.now) in
    let B = bound a.m (points_of a.store.now) in
    let is_x : c.bound_in-x.result ≡ min (B a.domain) (just_above a.ceiling) =
    bound_found a.store.now a.m c.requires.0.checked a.domain _ _ (c.bound_in-x.ensures.store c.requires.0.decoded)
    ∙ ap (min (B a.domain)) c.just_above.ensures in
    let whole : Whole a.domain = record { low = search rules; high = search rules } in
    let counts : c.from-number.result ≡ cond c.is_kept-2.result 1 0 = search rules in
    let number : c.from-number.result ≡ cond (is_kept c.test-given.result) 1 0 =
    counts ∙ ap {B = ℕ} (λ (t : Bool). cond t 1 0) c.is_kept-2.ensures in
    rw (c.push.ensures, c.is_kept.ensures)
    (begun C B (bound_laws a.m (points_of a.store.now)) a.ceiling a.domain c.requires.2 whole c.requires.3
    a.table.now c.requires.1 _ is_x c.test-given.result c.test-given.ensures _
    (c.costed.ensures ∙ ap (λ (t : Bool). cond t (widen nothing a.domain.low) nothing) c.is_counted.ensures) number refl number)
