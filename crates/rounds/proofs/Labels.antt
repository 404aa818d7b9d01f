-- The labels of points after some rounds, and after one more. Assumes nothing.
use mathlib.Core.Path.{◌≡◌, refl, sym, ap, subst, subst₂, ◌∙◌}
use mathlib.Core.Bool.{Bool, true, false, cond, not, ◌&&◌}
use mathlib.Core.List.{List, [], ◌∷◌, ◌++◌, append-nil}
use mathlib.Core.Logic.{◌≢◌}
use Prim.Native.Nat.{ℕ, suc, ◌+◌, ◌-◌, ◌≤◌, ◌<◌}
use native.Mathlib.Nat.{add-zero}
use native.Mathlib.Numerals.{add-one}
use native.Mathlib.Omega.{arith}
use borrow.Author.Tests.{leb-true, leb-false, eq-eqb, ne_eqb, eqb-true}
use lib.Dec.{leb, eqb}
use lib.ListN.{length, length-append}
use lib.Seq.{append_snoc}
use Rattle.integers.specs.Lists.{All, none, also}
use Rattle.integers.proofs.Lists.{all_map, all_append}
use Rattle.jobs.specs.declared.Model.{Model}
use Rattle.points.specs.declared.Point.{Point}
use Rattle.points.specs.Points.{is_gap}
use Rattle.residuals.specs.Cost.{size_at}
use Rattle.certificate.specs.Search as Search
use Rattle.certificate.specs.Search.{solved, spent, full}
use Rattle.rounds.specs.Rounds.{is_solved, fits, removes, Round, removed_by, round_label}
use Rattle.rounds.specs.Laws.{Labelled, gap, removed, unremoved}

module _ (m : Model) where
  -- no round of these removes the point
  unfoldable pub untouched : List Round → Point → Bool
  untouched [] q = true
  untouched (r ∷ rs) q = not (removes m r.found q) && untouched rs q

  -- it is 0 only then: rounds count from 1
  pub zero_label : (k : ℕ) (rs : List Round) (q : Point) → eqb (removed_by m (suc k) rs q) 0 ≡ untouched rs q
  unfolding removed_by untouched
  zero_label k [] q = eq-eqb 0 0 refl
  zero_label k (r ∷ rs) q = one (removes m r.found q) (removed_by m (suc (suc k)) rs q) (zero_label (suc k) rs q)
    where
      one : (b : Bool) (n : ℕ) → eqb n 0 ≡ untouched rs q → eqb (cond b (suc k) n) 0 ≡ (not b && untouched rs q)
      one true n e = ne_eqb (suc k) 0 (λ e. omega arith)
      one false n e = e

  -- of a gap 6, which is not 0
  pub label_zero : (rs : List Round) (q : Point) → eqb (round_label m rs q) 0 ≡ (not (is_gap q) && untouched rs q)
  unfolding round_label
  label_zero rs q = one (is_gap q)
    where
      one : (b : Bool) → eqb (cond b 6 (removed_by m 1 rs q)) 0 ≡ (not b && untouched rs q)
      one true = ne_eqb 6 0 (λ e. omega arith)
      one false = zero_label 0 rs q

  -- so what is left is no gap
  pub label_sample : (rs : List Round) (q : Point) → eqb (round_label m rs q) 0 ≡ true → is_gap q ≡ false
  label_sample rs q e = one (is_gap q) (sym (label_zero rs q) ∙ e)
    where
      one : (b : Bool) → (not b && untouched rs q) ≡ true → b ≡ false
      one true e = sym e
      one false e = refl

  removed_more : (k : ℕ) (rs : List Round) (r : Round) (q : Point) →
      removed_by m (suc k) (rs ++ (r ∷ [])) q
      ≡ cond (eqb (removed_by m (suc k) rs q) 0 && removes m r.found q) (suc (k + length rs)) (removed_by m (suc k) rs q)
  unfolding removed_by
  removed_more k [] r q = ap (λ (n : ℕ). cond (removes m r.found q) (suc n) 0) (sym (add-zero k))
  removed_more k (s ∷ rs) r q =
      one (removes m s.found q) (removed_by m (suc (suc k)) (rs ++ (r ∷ [])) q) (removed_by m (suc (suc k)) rs q)
      (removed_more (suc k) rs r q)
    where
      one : (b : Bool) (n o : ℕ) → n ≡ cond (eqb o 0 && removes m r.found q) (suc (suc k + length rs)) o →
          cond b (suc k) n ≡ cond (eqb (cond b (suc k) o) 0 && removes m r.found q) (suc (k + suc (length rs))) (cond b (suc k) o)
      one true n o e = rw (ne_eqb (suc k) 0 (λ e. omega arith)) refl
      one false n o e = let s : k + suc (length rs) ≡ suc k + length rs = omega arith in rw s e

  -- one more round labels the points that are left and that it removes
  pub label_more : (rs : List Round) (r : Round) (q : Point) →
      round_label m (rs ++ (r ∷ [])) q
      ≡ cond (eqb (round_label m rs q) 0 && removes m r.found q) (suc (length rs)) (round_label m rs q)
  unfolding round_label
  label_more rs r q = one (is_gap q)
    where
      one : (b : Bool) →
          cond b 6 (removed_by m 1 (rs ++ (r ∷ [])) q)
          ≡ cond (eqb (cond b 6 (removed_by m 1 rs q)) 0 && removes m r.found q) (suc (length rs)) (cond b 6 (removed_by m 1 rs q))
      one true = refl
      one false = let s : 0 + length rs ≡ length rs = omega arith in rw s at (removed_more 0 rs r q)

  -- a round removes what its line fits, if it is solved
  pub removing : (r : Search.Answer) (q : Point) → removes m r q ≡ true → (r.kind ≡ solved) × (size_at m r.vector q 0 ≤ m.eps)
  unfolding removes fits
  removing r q e = one r.kind refl e
    where
      one : (k : Search.Kind) → r.kind ≡ k → (is_solved k && leb (size_at m r.vector q 0) m.eps) ≡ true →
          (r.kind ≡ solved) × (size_at m r.vector q 0 ≤ m.eps)
      one solved k e = (k, leb-true _ _ e)
      one spent k e = let z : ◌≡◌ {A = ℕ} 0 1 = cc in absurd (omega arith)
      one full k e = let z : ◌≡◌ {A = ℕ} 0 1 = cc in absurd (omega arith)

  pub sparing : (r : Search.Answer) (q : Point) → removes m r q ≡ false → r.kind ≡ solved → m.eps < size_at m r.vector q 0
  unfolding removes fits
  sparing r q e k = leb-false _ _ (rw k at e)

  -- what none removed so far is left
  pub all_spare : (rs : List Round) (q : Point) → All (λ r. removes m r.found q ≡ false) rs → untouched rs q ≡ true
  unfolding untouched
  all_spare [] q none = refl
  all_spare (r ∷ rs) q (also h hs) = rw (h, all_spare rs q hs) refl

  -- the label of a point that is no gap, by the rounds behind those that spared it
  by_round : (rs : List Round) (q : Point) → is_gap q ≡ false → (before : List Round) →
      All (λ r. removes m r.found q ≡ false) before →
      Labelled m (before ++ rs) q (removed_by m (suc (length before)) rs q)
  unfolding removed_by
  by_round [] q sample before spared =
      subst (λ (l : List Round). Labelled m l q 0) (sym (append-nil before))
      (unremoved sample (all_map (λ r. sparing r.found q) spared))
  by_round (r ∷ rs) q sample before spared =
      one (removes m r.found q) refl
      (λ e.
      subst₂ (λ (l : List Round) (k : ℕ). Labelled m l q (removed_by m (suc k) rs q)) (append_snoc before r rs)
      (length-append before (r ∷ []) ∙ add-one (length before))
      (by_round rs q sample (before ++ (r ∷ [])) (all_append spared (also e none))))
    where
      one : (b : Bool) → removes m r.found q ≡ b →
          (removes m r.found q ≡ false → Labelled m (before ++ (r ∷ rs)) q (removed_by m (suc (suc (length before))) rs q)) →
          Labelled m (before ++ (r ∷ rs)) q (cond b (suc (length before)) (removed_by m (suc (suc (length before))) rs q))
      one true e later =
          let why = removing r.found q e in
          let left : round_label m before q ≡ 0 =
          eqb-true (round_label m before q) 0 (label_zero before q ∙ rw (sample, all_spare before q spared) refl) in
          removed before rs r refl left sample why.0 why.1
      one false e later = later e

  pub labelled : (rs : List Round) (q : Point) → Labelled m rs q (round_label m rs q)
  unfolding round_label
  labelled rs q = one (is_gap q) refl
    where
      one : (b : Bool) → is_gap q ≡ b → Labelled m rs q (cond b 6 (removed_by m 1 rs q))
      one true e = gap e
      one false e = by_round rs q e [] none

  -- no more than the number of rounds, but for a gap
  removed_few : (k : ℕ) (rs : List Round) (q : Point) → removed_by m k rs q ≤ k + length rs - 1
  unfolding removed_by
  removed_few k [] q = omega arith
  removed_few k (r ∷ rs) q = one (removes m r.found q) _ (removed_few (suc k) rs q)
    where
      one : (b : Bool) (n : ℕ) → n ≤ suc k + length rs - 1 → cond b k n ≤ k + suc (length rs) - 1
      one true n h = omega arith
      one false n h = omega arith

  pub not_five : (rs : List Round) (q : Point) → length rs ≤ 4 → round_label m rs q ≢ 5
  unfolding round_label
  not_five rs q few = one (is_gap q)
    where
      one : (b : Bool) → cond b 6 (removed_by m 1 rs q) ≢ 5
      one true e = omega arith
      one false e = omega (arith, removed_few 1 rs q, few)
