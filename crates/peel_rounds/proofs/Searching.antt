-- A round's search, over the store of the points left: it is accepted, and it is the definition's. Assumes nothing.
use mathlib.Core.Path.{◌≡◌, refl, ap, ap₂, subst, ◌∙◌}
use mathlib.Core.Bool.{true, cond}
use mathlib.Core.List.{List}
use Prim.Native.Nat.{ℕ, suc, ◌*◌, ◌/◌, ◌%◌, ◌≤◌}
use native.Mathlib.Omega.{arith}
use borrow.Author.Tests.{le-leb, eq-eqb}
use lib.IntN.{ℤ}
use lib.Dec.{leb}
use lib.ListN.{length, take, drop, length-map}
use lib.Seq.{take_at}
use Rattle.codes.specs.Codes.{pass}
use Rattle.integers.specs.Lists.{over}
use Rattle.boxes.specs.Boxes.{InBox}
use Rattle.boxes.proofs.Checks.{in_unused}
use Rattle.jobs.specs.declared.Job.{Job}
use Rattle.jobs.specs.declared.Model.{Model}
use Rattle.points.specs.Points.{points_of, check_store}
use Rattle.points.proofs.Laws.{points_length}
use Rattle.residuals.specs.Cost.{bound}
use Rattle.model_checks.specs.Checks.{check_threshold}
use Rattle.model_checks.proofs.Passed.{ready, threshold_model}
use Rattle.labels.specs.Labels.{label, check_labels, labelled}
use Rattle.labels.proofs.Passed.{room_decides}
use Rattle.list_rows.specs.Rows.{row_count}
use Rattle.search_checks.specs.Checks.{check_search}
use Rattle.search_checks.proofs.Passed.{runs_accepted}
use Rattle.search.specs.declared.Answer.{Answer}
use Rattle.search.specs.Search.{searched, told, search_answer, TableAfter, BoundsAfter, TableSearched, BoundsSearched}
use Rattle.rounds.specs.Rounds.{solve}
use Rattle.rounds.proofs.Peeling.{round_certified}
use Rattle.peel_checks.proofs.Passed.{others_searched, stray_passed, threshold_passed}
use Rattle.points_left.specs.Left.{left_of, bytes_left, relabelled, relabels}
use Rattle.points_left.proofs.Labelling.{points_left, bytes_left_lem, left_few, clear_left}
use Rattle.peel_rounds.specs.Going.{if_solved, marks_of, rounds_after, Ready, RoundDone, on_those, found_on}

pub points_number : (store : List ℕ) → length (points_of store) ≡ length store / 12
unfolding points_of
points_number store = points_length store (length store / 12)

store_passes : (bytes k : ℕ) → bytes ≡ k * 12 → 1 ≤ k → k ≤ 4096 → check_store bytes ≡ pass
unfolding check_store
store_passes bytes k e some few =
    rw (le-leb 1 bytes (omega arith), le-leb bytes 49152 (omega arith), eq-eqb (bytes % 12) 0 (omega arith)) refl

module _ (store : List ℕ) (job : Job) (i more : ℕ) (ls : List ℕ) (u : List ℤ) (e : List ℕ) (given : Ready store job i more ls u e) where
  abbrev bytes : List ℕ
  bytes = bytes_left ls store

  pub store_few : length store ≤ 49152
  store_few = (ready store job.model (runs_accepted store job (length u) (length e) given.searching).checked).few

  pub bytes_few : length bytes ≤ length store
  bytes_few = omega (arith, bytes_left_lem ls store, left_few ls (points_of store), points_number store)

  pub count_left : length bytes / 12 ≡ length (on_those store job i more ls u e)
  count_left = omega (arith, bytes_left_lem ls store)

  left_accepted : check_search bytes job (length u) (length e) ≡ pass
  left_accepted =
      others_searched store bytes job (length u) (length e) given.counts given.searching
      (store_passes (length bytes) (length (left_of ls (points_of store))) (bytes_left_lem ls store) given.some
      (omega (arith, left_few ls (points_of store), points_number store, store_few)))
      (rw (points_left ls store)
      (clear_left job.model.d ls (points_of store) (stray_passed store job (length u) (length e) given.searching)))

  found_left : searched bytes job (row_count u) ≡ found_on store job i more ls u e
  unfolding searched solve
  found_left = rw (points_left ls store) refl

  -- what the search over them answers and leaves
  pub answer_left : (r : Answer) → r ≡ search_answer bytes job u e → r ≡ told (found_on store job i more ls u e)
  unfolding search_answer
  answer_left r w = w ∙ rw (left_accepted, found_left) refl

  pub table_left : (u' : List ℤ) → TableSearched bytes job u e u' → TableAfter pass (found_on store job i more ls u e) u u'
  table_left u' h = rw (left_accepted, found_left) at h

  pub bounds_left : (e' : List ℕ) → BoundsSearched bytes job u e e' →
      BoundsAfter (bound job.model (on_those store job i more ls u e)) pass (found_on store job i more ls u e) e e'
  bounds_left e' h = rw (left_accepted, found_left, points_left ls store) at h

  -- its line can be asked for labels
  pub line_asked : check_threshold store job.model (found_on store job i more ls u e).vector ≡ pass
  line_asked =
      let runs = runs_accepted store job (length u) (length e) given.searching in
      let v = (found_on store job i more ls u e).vector in
      let inside : InBox v job.domain =
      (round_certified job (row_count u) given.line given.counts runs.inside (on_those store job i more ls u e)
      (found_on store job i more ls u e) refl).inside in
      threshold_passed store job (length u) (length e) v given.counts given.searching
      (in_unused job.model.n job.model.d job.domain v runs.boxed inside)

  -- the output that the records left were gathered into
  module _
      (out left : List ℕ) (n : ℕ) (long : length out ≡ 49152)
      (counted : n ≡ cond (leb (length store) (length out)) (length bytes) 0)
      (gathered : left ≡ cond (leb (length store) (length out)) (over bytes out) out)
    where
      room : leb (length store) (length out) ≡ true
      room = le-leb (length store) (length out) (omega (arith, store_few, long))

      pub gathered_count : n ≡ length bytes
      gathered_count = counted ∙ rw room refl

      gathered_front : take n left ≡ bytes
      unfolding over
      gathered_front =
          ap₂ take gathered_count gathered ∙ rw room (take_at bytes (drop (length bytes) out) (length bytes) refl)

      pub gathered_few : length left ≡ 49152 → n ≤ length left
      gathered_few whole = omega (arith, gathered_count, bytes_few, store_few)

      -- what the search over them leaves for the removal
      pub answer_gathered : (r : Answer) → r ≡ search_answer (take n left) job u e → r ≡ told (found_on store job i more ls u e)
      answer_gathered r w = answer_left r (w ∙ ap (λ (s : List ℕ). search_answer s job u e) gathered_front)

      pub line_gathered : (r : Answer) → r ≡ search_answer (take n left) job u e → check_threshold store job.model r.vector ≡ pass
      line_gathered r w =
          ap (λ (a : Answer). check_threshold store job.model a.vector) (answer_gathered r w) ∙ line_asked

      -- one round, from what its calls say
      pub round_done :
          (r : Answer) (u' : List ℤ) (e' : List ℕ) (number removed following : ℕ) (ls' : List ℕ) → number ≡ suc i →
          r ≡ search_answer (take n left) job u e →
          TableSearched (take n left) job u e u' →
          BoundsSearched (take n left) job u e e' →
          removed ≡ if_solved r.kind (relabels ls (marks_of store job.model r.vector)) 0 →
          ls' ≡ if_solved r.kind (relabelled number ls (marks_of store job.model r.vector)) ls →
          following ≡ rounds_after removed (n / 12) more →
          RoundDone store job i more ls u e r following ls' u' e'
      round_done r u' e' number removed following ls' k w t b d l f =
          let same = answer_gathered r w in
          record {
            answer = same;
            labels =
                l
                ∙ ap₂
                (λ (a : Answer) (j : ℕ). if_solved a.kind (relabelled j ls (marks_of store job.model a.vector)) ls)
                same k;
            more_left =
                f
                ∙ ap₂ (λ (a j : ℕ). rounds_after a j more)
                (d ∙ ap (λ (a : Answer). if_solved a.kind (relabels ls (marks_of store job.model a.vector)) 0) same)
                (ap (λ (j : ℕ). j / 12) gathered_count ∙ count_left);
            rows = table_left u' (subst (λ (s : List ℕ). TableSearched s job u e u') gathered_front t);
            entries = bounds_left e' (subst (λ (s : List ℕ). BoundsSearched s job u e e') gathered_front b);
          }

-- the marks that labelling a store leaves at the front of an array
module _ (store : List ℕ) (m : Model) (v : List ℤ) (asked : check_threshold store m v ≡ pass) where
  pub marks_few : length store / 12 ≤ 4096
  marks_few = omega (arith, (ready store m (threshold_model store m v asked)).few)

  pub marks_front : (out marks : List ℕ) → length out ≡ 4096 → marks ≡ labelled store m v out →
      take (length store / 12) marks ≡ marks_of store m v
  unfolding labelled over
  marks_front out marks long e =
      let number = points_number store in
      let good : check_labels store m v out ≡ pass =
      room_decides store m v out asked ∙ rw (le-leb (length (points_of store)) (length out) (omega (arith, marks_few))) refl in
      ap (take (length store / 12)) (e ∙ rw good refl)
      ∙ take_at (marks_of store m v) (drop (length (marks_of store m v)) out) (length store / 12)
      (length-map (points_of store) (label m v) ∙ number)
