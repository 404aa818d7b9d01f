-- What an accepted or a refused job comes to. Assumes nothing.
use mathlib.Core.Path.{◌≡◌, refl, sym, ap, subst, fun_ext, ◌∙◌}
use mathlib.Core.List.{List, [], ◌∷◌, ◌++◌}
use Prim.Native.Nat.{ℕ, ◌/◌, ◌≤◌}
use native.Mathlib.Omega.{arith}
use borrow.Author.Tests.{le-leb}
use lib.Dec.{leb, leb→le}
use lib.IntN.{ℤ, pos}
use lib.ListN.{length, get_or, drop, take-append-drop}
use Rattle.std.specs.Prelude.{Err}
use Rattle.codes.specs.declared.Refusal.{Refusal}
use Rattle.codes.specs.Codes.{pass, pass_if}
use Rattle.codes.proofs.Checks.{refused_not_passed, passed, first_passed, others_passed}
use Rattle.integers.proofs.Parts.{abs_parts, apart, le_parts}
use Rattle.boxes.specs.declared.Box.{Box}
use Rattle.boxes.specs.Boxes.{volume}
use Rattle.boxes.proofs.Volume.{some_in, low_in, between_at}
use Rattle.jobs.specs.declared.Job.{Job}
use Rattle.points.specs.Points.{points_of}
use Rattle.residuals.specs.Cost.{cost, bound}
use Rattle.residuals.specs.Laws.{Small}
use Rattle.residuals.proofs.Bounds.{bound_laws}
use Rattle.model_checks.proofs.Passed.{ready}
use Rattle.costs.proofs.Passed.{cost_limit}
use Rattle.list_rows.specs.Rows.{row_count, rows_of}
use Rattle.list_rows.proofs.Rows.{rows_take, rows_length}
use Rattle.coefficients.specs.Coefficient.{coefficient_of, coefficient_or_zero}
use Rattle.range_search.specs.RangeSearch as Search
use Rattle.range_search.specs.RangeSearch.{begin}
use Rattle.range_search.specs.Ranged.{Ranged}
use Rattle.range_search.proofs.Ranged.{ranged}
use Rattle.range_hulls.specs.Hulls.{found_of}
use Rattle.search_checks.specs.Checks.{check_job}
use Rattle.search_checks.proofs.Passed.{Runs, runs}
use Rattle.ranges.specs.declared.Answer.{Answer}
use Rattle.ranges.specs.declared.step.State.{State}
use Rattle.ranges.specs.declared.run.End.{End}
use Rattle.ranges.specs.Ranges.{check_ranges, ranges_in, told, refused, check_lent, ranges_answer, TableRanged, RangesCertified}
use Rattle.ranges.specs.Inside.{Limited, Begun, Ended, told_of}
use Rattle.ranges.proofs.Pushing.{within_later, within_along}
use Rattle.ranges.proofs.Going.{peaks}

module _ (store : List ℕ) (job : Job) (K : ℕ) (t : List ℤ) where
  abbrev C : List ℤ → ℕ
  C = cost job.model (points_of store)

  abbrev B : Box → ℕ
  B = bound job.model (points_of store)

  abbrev def : Search.Answer
  def = ranges_in store job K (row_count t)

  abbrev Promised : Answer → List ℤ → Type 0
  Promised r u = (r ≡ ranges_answer store job K t) × (TableRanged store job K t u × RangesCertified store job K t r)

  module _ (ok : check_lent store job K t ≡ pass) where
    pub accepted : Runs store job
    unfolding check_ranges
    accepted = runs store job (first_passed (check_job store job) (pass_if (leb 16 (length t)) Refusal.Table ∷ []) ok)

    pub rows_lent : 16 ≤ length t
    unfolding check_ranges
    rows_lent =
        leb→le 16 (length t) (passed (leb 16 (length t)) Refusal.Table
        (first_passed (pass_if (leb 16 (length t)) Refusal.Table) []
        (others_passed (check_job store job) (pass_if (leb 16 (length t)) Refusal.Table ∷ []) ok)))

    pub some_vector : 1 ≤ volume job.domain
    some_vector = some_in job.domain accepted.inside

    -- no vector of the box costs as much as the largest number of 64 bits, and so no box in it has such a bound
    pub limited : Small job.domain.low → Small job.domain.high → Limited B job.domain
    limited low high b some inside =
        let i = inside b.low (low_in b some) in
        let small : Small b.low = λ k.
        let s = between_at i.between k in
        let v = get_or b.low k (pos 0) in
        let l = get_or job.domain.low k (pos 0) in
        let h = get_or job.domain.high k (pos 0) in
        omega
        (arith, abs_parts v, abs_parts l, abs_parts h, apart v, apart l, apart h, le_parts s.0, le_parts s.1, low k, high k) in
        omega (
          arith,
          (bound_laws job.model (points_of store)).sound b b.low (low_in b some),
          (cost_limit store job.model).most accepted.checked b.low small,
        )

    certified : Ranged C B K job.budget (row_count t) job.domain def
    unfolding ranges_in
    certified = ranged C B (bound_laws job.model (points_of store)) K job.budget (row_count t) job.domain some_vector

    -- the table that the steps were lent is the one that the beginning left
    pub ended_from : (u₁ u : List ℤ) (first : State) (z : End) → Begun C B K job.domain t first u₁
        → Ended (ranges_in store job K (row_count u₁)) u₁ z u → Ended def t z u
    unfolding ranges_in
    ended_from u₁ u first z b e =
        let rows : row_count u₁ ≡ row_count t = ap (λ (n : ℕ). n / 16) b.within.long in
        let d = subst (λ (n : ℕ). Ended (ranges_in store job K n) u₁ z u) rows e in
        let peak : first.peak ≡ (begin C B K job.domain).peak = ap (λ (s : Search.State). s.peak) b.state in
        let more = peaks C B K job.budget (row_count t) job.domain certified.counted.reached in
        record {
          kind = d.kind;
          state = d.state;
          few = d.few;
          within = within_along (within_later (omega arith) b.within) d.within;
        }

    -- of a scale that was checked
    coefficients : (w : ℤ) → coefficient_or_zero job.model.scale w ≡ coefficient_of job.model.scale w
    unfolding coefficient_or_zero
    coefficients w =
        let fits = (ready store job.model accepted.checked).scaled in
        rw (le-leb job.model.scale 15 (omega arith))

    module _ (u : List ℤ) (z : End) (e : Ended def t z u) where
      same_told : told_of job.model z ≡ told job.model def
      same_told =
          let found : found_of z.state.hull ≡ def.state.found = ap (λ (s : Search.State). s.found) e.state in
          let list : rows_of u z.state.«open» ≡ def.state.list = ap (λ (s : Search.State). s.list) e.state in
          let count : z.state.count ≡ def.state.count = ap (λ (s : Search.State). s.count) e.state in
          let peak : z.state.peak ≡ def.state.peak = ap (λ (s : Search.State). s.peak) e.state in
          let number : z.state.«open» ≡ length def.state.list = sym (rows_length u z.state.«open») ∙ ap length list in
          let same : coefficient_or_zero job.model.scale ≡ coefficient_of job.model.scale = fun_ext coefficients in
          rw (same, e.kind, found, count, number, peak)

      pub promised_pass : (r : Answer) → r ≡ told_of job.model z → Promised r u
      unfolding ranges_answer
      promised_pass r is =
          let n = length def.state.list in
          let list : rows_of u z.state.«open» ≡ def.state.list = ap (λ (s : Search.State). s.list) e.state in
          let number : z.state.«open» ≡ n = sym (rows_length u z.state.«open») ∙ ap length list in
          let open_rows : rows_of u n ≡ def.state.list = subst (λ (k : ℕ). rows_of u k ≡ def.state.list) number list in
          let front = rows_take u def.state.peak n e.few ∙ open_rows in (
            rw ok (is ∙ same_told),
            (
              record {
                long = e.within.long;
                untouched = λ why h. refused_not_passed why (sym h ∙ ok);
                leftovers = drop n (rows_of u def.state.peak);
                rows =
                    λ h. sym (take-append-drop n (rows_of u def.state.peak))
                    ∙ ap (λ (l : List Box). l ++ drop n (rows_of u def.state.peak)) front;
                rest = λ h. e.within.rest;
              },
              λ h. (is ∙ same_told, certified),
            ),
          )

  pub promised_refused : (why : Refusal) (r : Answer) → check_lent store job K t ≡ Err why → r ≡ refused why → Promised r t
  unfolding ranges_answer
  promised_refused why r refuses e =
      let never : check_lent store job K t ≡ pass → ⊥ = λ h. refused_not_passed why (sym refuses ∙ h) in (
        rw refuses e,
        (
          record { long = refl; untouched = λ w h. refl; leftovers = []; rows = λ h. absurd (never h); rest = λ h. absurd (never h) },
          λ h. absurd (never h),
        ),
      )
