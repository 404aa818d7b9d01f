-- Where the search is solved, the marks are the labels of the store under the line.
use Rattle.std.proofs.Common.{rules, ◌≡◌, ◌/◌, length, List, ℕ, arith}
use mathlib.Core.Path.{sym, ap, ◌∙◌}
use lib.ListN.{length-replicate}
use lib.Seq.{length-take-le}
use Rattle.search.specs.declared.Kind.{Kind}
use Rattle.search.specs.declared.Kind.TheVariants.{Solved}
use Rattle.points_left.specs.Left.{relabelled, relabels}
use Rattle.peel_rounds.specs.Going.{if_solved, marks_of}
use Rattle.peel_rounds.proofs.Searching.{marks_few, marks_front}
use Rattle.peel.proofs.round.remove.Goals as goal

-- what the removal says where the search is solved
removed_where : (kind : Kind) (number removed : ℕ) (ls after marks told : List ℕ) → kind ≡ Solved → marks ≡ told →
    removed ≡ relabels ls marks →
    after ≡ relabelled number ls marks →
    (removed ≡ if_solved kind (relabels ls told) 0) × (after ≡ if_solved kind (relabelled number ls told) ls)
removed_where kind number removed ls after marks told e w r l = rw e (r ∙ ap (relabels ls) w, l ∙ ap (relabelled number ls) w)

pub slice_bounds-marks-end : goal.slice_bounds-marks-end
slice_bounds-marks-end c =
    let few = marks_few c.args.store.now c.args.m c.args.vector c.requires in
    let whole : length c.labels.new.out ≡ 4096 = c.labels.auto.out in
    omega (arith, few, whole)

pub slice_bounds-mark-end : goal.slice_bounds-mark-end
slice_bounds-mark-end c =
    let few = marks_few c.args.store.now c.args.m c.args.vector c.requires in
    let whole : length c.labels.new.out ≡ 4096 = c.labels.auto.out in
    sym (length-take-le (length c.args.store.now / 12) c.labels.new.out (omega (arith, few, whole)))

pub returns-in-Solved : goal.returns-in-Solved
returns-in-Solved c =
    let a = c.args in
    let p =
    removed_where a.kind a.number c.mark.result a.labels.now c.mark.new.labels _ (marks_of a.store.now a.m a.vector) c.in-Solved.is
    (marks_front a.store.now a.m a.vector c.requires _ c.labels.new.out (length-replicate {A = ℕ} 4096 0) c.labels.ensures.buffer)
    c.mark.ensures.removed c.mark.ensures.labels in
    record { removed = p.0; labels = p.1 }
