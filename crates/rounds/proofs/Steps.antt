-- One more round: those left by labels, how many are left, and the rounds that follow. Assumes nothing.
use mathlib.Core.Path.{◌≡◌, refl, sym, ap, ◌∙◌}
use mathlib.Core.Bool.{Bool, true, false, cond, not, ◌&&◌, ◌||◌}
use mathlib.Core.List.{List, [], ◌∷◌, ◌++◌}
use mathlib.Core.Logic.{⊎_elim}
use Prim.Native.Nat.{ℕ, zero, suc, ◌+◌, ◌≤◌}
use native.Mathlib.Omega.{arith}
use borrow.Author.Tests.{eqb-true, eqb-false, ne_eqb, le-leb}
use lib.Dec.{eqb, leb}
use lib.ListN.{length}
use Rattle.integers.proofs.Tests.{le_or_lt}
use Rattle.jobs.specs.declared.Job.{Job}
use Rattle.jobs.specs.declared.Model.{Model}
use Rattle.points.specs.declared.Point.{Point}
use Rattle.certificate.specs.Search as Search
use Rattle.certificate.specs.Search.{keep_if, solved, spent, full}
use Rattle.rounds.specs.Rounds.{solve, fits, is_solved, removes, left_by, removes_any, fitted, Round, rounds, round_label}
use Rattle.rounds.proofs.Keeping.{keep_same, keep_twice}
use Rattle.rounds.proofs.Labels.{label_more}
use Rattle.rounds.proofs.Peeling.{removes_some, no_points}

module _ (m : Model) where
  -- the points whose label is 0 after one more round
  pub left_next : (rs : List Round) (r : Round) (qs : List Point) →
      keep_if (λ q. eqb (round_label m (rs ++ (r ∷ [])) q) 0) qs ≡ left_by m r.found (keep_if (λ q. eqb (round_label m rs q) 0) qs)
  left_next rs r qs =
      keep_same (λ q. eqb (round_label m (rs ++ (r ∷ [])) q) 0) (λ q. eqb (round_label m rs q) 0 && not (removes m r.found q))
      (λ q.
      ap (λ (n : ℕ). eqb n 0) (label_more m rs r q)
      ∙ one (length rs) (round_label m rs q) (eqb (round_label m rs q) 0) (removes m r.found q) refl) qs
      ∙ sym (keep_twice (λ q. eqb (round_label m rs q) 0) (λ q. not (removes m r.found q)) qs)
    where
      one : (k n : ℕ) (z b : Bool) → eqb n 0 ≡ z → eqb (cond (z && b) (suc k) n) 0 ≡ (z && not b)
      one k n true true e = ne_eqb (suc k) 0 (λ e. omega arith)
      one k n true false e = e
      one k n false b e = e

  -- how many a round removes, and leaves
  left_fitted : (s : Bool) (r : Search.Answer) (qs : List Point) →
      length (keep_if (λ q. not (s && fits m r.vector q)) qs) + cond s (fitted m r.vector qs) 0 ≡ length qs
  unfolding fitted
  left_fitted true r [] = refl
  left_fitted false r [] = refl
  left_fitted true r (q ∷ qs) = one (fits m r.vector q) _ _ (left_fitted true r qs)
    where
      one : (b : Bool) (xs : List Point) (n : ℕ) → length xs + n ≡ length qs →
          length (cond (not b) (q ∷ xs) xs) + (cond b 1 0 + n) ≡ suc (length qs)
      one true xs n e = omega arith
      one false xs n e = omega arith
  left_fitted false r (q ∷ qs) = omega (arith, left_fitted false r qs)

  pub left_count : (r : Search.Answer) (qs : List Point) →
      length (left_by m r qs) + cond (is_solved r.kind) (fitted m r.vector qs) 0 ≡ length qs
  unfolding removes
  left_count r qs = left_fitted (is_solved r.kind) r qs

  -- a round removes some exactly if it removes a number
  pub any_count : (r : Search.Answer) (qs : List Point) →
      removes_any m r qs ≡ not (eqb (cond (is_solved r.kind) (fitted m r.vector qs) 0) 0)
  any_count r qs = removes_some m r qs ∙ one (is_solved r.kind) (fitted m r.vector qs)
    where
      one : (s : Bool) (n : ℕ) → (s && leb 1 n) ≡ not (eqb (cond s n 0) 0)
      one true zero = refl
      one true (suc n) = rw (le-leb 1 (suc n) (omega arith), ne_eqb (suc n) 0 (λ e. omega arith)) refl
      one false n = refl

module _ (job : Job) (rows : ℕ) where
  -- the first of the rounds on some points, and those behind it
  pub rounds_next : (n : ℕ) (s : List Point) → 1 ≤ length s →
      rounds job rows (suc n) s
      ≡ record { left = s; found = solve job rows s }
      ∷ cond (removes_any job.model (solve job rows s) s) (rounds job rows n (left_by job.model (solve job rows s) s)) []
  unfolding rounds
  rounds_next n [] h = absurd (omega arith)
  rounds_next n (q ∷ qs) h = refl

  -- Behind a round that removed so many of s and left the points s': none where it removed nothing or all.
  pub rounds_behind : (n removed : ℕ) (s s' : List Point) (any : Bool) → any ≡ not (eqb removed 0) → length s' + removed ≡ length s →
      rounds job rows (cond (eqb removed 0 || eqb removed (length s)) 0 n) s' ≡ cond any (rounds job rows n s') []
  unfolding rounds
  rounds_behind n removed s s' any e count = one (eqb removed 0) (eqb removed (length s)) refl (rw e refl)
    where
      none : removed ≡ length s → s' ≡ []
      none e = nothing s' (omega arith)
        where
          nothing : (l : List Point) → length l ≡ 0 → l ≡ []
          nothing [] h = refl
          nothing (q ∷ l) h = absurd (omega arith)

      one : (z w : Bool) → eqb removed (length s) ≡ w → any ≡ not z →
          rounds job rows (cond (z || w) 0 n) s' ≡ cond any (rounds job rows n s') []
      one true w h a = rw a refl
      one false true h a = rw a (sym (no_points job rows n s' (none (eqb-true removed (length s) h))))
      one false false h a = rw a refl

  -- where some may follow, some points are left
  pub some_behind : (n removed : ℕ) (s s' : List Point) → length s' + removed ≡ length s →
      1 ≤ cond (eqb removed 0 || eqb removed (length s)) 0 n → 1 ≤ length s'
  some_behind n removed s s' count h = one (eqb removed 0) (eqb removed (length s)) refl h
    where
      one : (z w : Bool) → eqb removed (length s) ≡ w → 1 ≤ cond (z || w) 0 n → 1 ≤ length s'
      one true w e h = absurd (omega arith)
      one false true e h = absurd (omega arith)
      one false false e h = ⊎_elim (λ g. absurd (eqb-false removed (length s) e (omega arith))) (λ g. g) (le_or_lt (length s') 0)
