-- By the lengths: where they are right, the ranges of the job that the numbers and buffers make are handed over.
use mathlib.Core.Path.{◌≡◌, refl, sym, ap, subst, ◌∙◌}
use mathlib.Core.Bool.{true, true≢false}
use lib.ListN.{length}
use borrow.Author.Tests.{not-true, not-false}
use Rattle.jobs.specs.declared.Job.{Job}
use Rattle.ranges.specs.Ranges.{ranges_answer, TableRanged, RangesCertified}
use Rattle.c_boundary.specs.Boundary.{model_of, job_from}
use Rattle.c_buffers.proofs.Buffers.{filled_whole}
use Rattle.c_ranges.specs.Calls.{ranges_lengths, patterns_of, cases_of, ranges_numbers}
use Rattle.c_ranges.proofs.Lengths.{ranges_lengths_lem}
use Rattle.c_ranges.proofs.Certifying.{certified_call}
use native.Mathlib.Omega.{arith}
use borrow.Author.Rules.{rules}
use Rattle.c_ranges.proofs.ranges.Statement.{statement}
use Rattle.c_ranges.proofs.ranges.Tie as tie

lengths-right-requires : tie.Need-lengths_right-requires
lengths-right-requires c κs = search rules

returns : tie.Need-returns-then-not-lengths_right
returns c =
    let l = c.before in
    let wrong = sym l.lengths_right.ensures ∙ not-true _ c.if-not-lengths_right.true-raw in
    rw wrong (
      refl,
      (
        refl,
        (
          refl,
          (
            refl,
            (
              refl,
              (record { searched = λ right. absurd (true≢false (sym right ∙ wrong)); kept = λ _. refl }, λ e. absurd (omega arith)),
            ),
          ),
        ),
      ),
    )

model-of-requires : tie.Need-model_of-requires
model-of-requires c κs = search rules

job-of-requires : tie.Need-job_of-job-requires
job-of-requires c κs = search rules

ranges-requires : tie.Need-ranges-requires
ranges-requires c κs = search rules

hand-over-requires : tie.Need-hand_over-requires
hand-over-requires c κs = search rules

same_length : tie.Need-shape_of-table
same_length c = search rules

same-length-2 : tie.Need-shape_of-patterns
same-length-2 c = search rules

same-length-3 : tie.Need-shape_of-cases
same-length-3 c = search rules

same-length-4 : tie.Need-shape_of-numbers
same-length-4 c = search rules

returns-2 : tie.Need-returns
returns-2 c =
    let h = c.before.before.before.before.before.before in
    let s = h.before.before.before.before.before.before in
    let j = s.before.before in
    let test = j.before.before in
    let a = test.args in
    let m = model_of a.n a.d a.scale a.p a.eps in
    let job = job_from m 0 a.budget 0 a.corners.now a.start.now in
    let is_job : j.job_of-job.result ≡ job =
    j.job_of-job.ensures ∙ ap (λ m. job_from m 0 a.budget 0 a.corners.now a.start.now) j.model_of.ensures in
    let found : s.ranges-2.result ≡ ranges_answer a.store.now job a.ceiling a.table.now =
    s.ranges-2.ensures.0 ∙ ap (λ (x : Job). ranges_answer a.store.now x a.ceiling a.table.now) is_job in
    let right : ranges_lengths (length a.corners.now) (length a.start.now) (length a.patterns.now) (length a.cases.now)
    (length a.numbers.now) ≡ true = sym test.lengths_right.ensures ∙ not-false _ test.if-not-lengths_right.false-raw in
    let room =
    ranges_lengths_lem (length a.corners.now) (length a.start.now) (length a.patterns.now) (length a.cases.now)
    (length a.numbers.now) right in
    let out = h.hand_over.ensures in
    let bits = filled_whole a.patterns.now (patterns_of s.ranges-2.result.slots) room.0 in
    let which = filled_whole a.cases.now (cases_of s.ranges-2.result.slots) room.1 in
    let told = filled_whole a.numbers.now (ranges_numbers s.ranges-2.result) room.2 in
    let handed-patterns = rw bits at out.1.1.0 in
    let handed-cases = rw which at out.1.1.1.0 in
    let handed-numbers = rw told at out.1.1.1.1 in
    let certificate =
    subst (λ (x : Job). RangesCertified a.store.now x a.ceiling a.table.now s.ranges-2.result) is_job
    s.ranges-2.ensures.1.1 in
    rw (right, ← found) (
      out.0,
      (
        out.1.0,
        (
          handed-patterns,
          (
            handed-cases,
            (
              handed-numbers,
              (
                record {
                  searched = λ _.
                      subst (λ (x : Job). TableRanged a.store.now x a.ceiling a.table.now s.ranges-2.new.table) is_job
                      s.ranges-2.ensures.1.0;
                  kept = λ wrong. absurd (true≢false (sym right ∙ wrong));
                },
                λ e.
                    certified_call a.store.now m a.budget a.ceiling a.corners.now a.start.now a.table.now
                    a.patterns.now a.cases.now a.numbers.now s.ranges-2.result a.value.now _ _ _ _ found certificate
                    (sym out.0 ∙ e) out.1.0 handed-patterns handed-cases handed-numbers,
              ),
            ),
          ),
        ),
      ),
    )

pub ranges_spec : {M : Type 1} → statement M
ranges_spec =
    tie.close
    (tie.spec
    lengths-right-requires
    returns
    model-of-requires
    job-of-requires
    ranges-requires
    hand-over-requires
    same_length
    same-length-2
    same-length-3
    same-length-4
    returns-2)
