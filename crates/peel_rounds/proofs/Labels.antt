-- The labels after one more round, and how many points it removed, by what is written. Assumes nothing.
use mathlib.Core.Path.{◌≡◌, refl, sym, ap, ◌∙◌}
use mathlib.Core.Bool.{Bool, true, false, cond, ◌&&◌}
use mathlib.Core.List.{List, [], ◌∷◌, ◌++◌, map}
use Prim.Native.Nat.{ℕ, suc}
use lib.Dec.{eqb}
use lib.IntN.{ℤ}
use lib.ListN.{length, drop, length-map}
use Rattle.integers.specs.Lists.{over}
use Rattle.jobs.specs.declared.Model.{Model}
use Rattle.points.specs.declared.Point.{Point}
use Rattle.points.specs.Points.{points_of}
use Rattle.certificate.specs.Search as Search
use Rattle.certificate.specs.Search.{keep_if, solved, spent, full}
use Rattle.labels.specs.Labels.{label}
use Rattle.search.specs.Search.{kind_of}
use Rattle.rounds.specs.Rounds.{is_solved, fits, fitted, removes, Round, round_label}
use Rattle.rounds.proofs.Labels.{label_more, label_sample}
use Rattle.points_left.specs.Left.{left_of, relabel, relabelled, relabels}
use Rattle.points_left.proofs.Labelling.{left_labels, relabelled_each, relabels_fitted, mark_fits}
use Rattle.peel_rounds.specs.Going.{if_solved, marks_of}

map_same : {A : Type 0} {B : Type 0} (f g : A → B) → ((x : A) → f x ≡ g x) → (xs : List A) → map f xs ≡ map g xs
map_same f g same [] = refl
map_same f g same (x ∷ xs) = rw (same x, map_same f g same xs) refl

-- by functions that say the same, a buffer is written the same
pub over_same : {A : Type 0} (f g : A → ℕ) → ((x : A) → f x ≡ g x) → (xs : List A) (buffer : List ℕ) →
    over (map f xs) buffer ≡ over (map g xs) buffer
over_same f g same xs buffer = ap (λ (l : List ℕ). over l buffer) (map_same f g same xs)

-- a kind as it is told
pub by_kind : {A : Type 0} (k : Search.Kind) (x y : A) → if_solved (kind_of k) x y ≡ cond (is_solved k) x y
by_kind solved x y = refl
by_kind spent x y = refl
by_kind full x y = refl

module _ (m : Model) (line : m.n ≡ 1) (store labels : List ℕ) (before : List Round) (r : Round) where
  abbrev qs : List Point
  qs = points_of store

  abbrev f : Point → ℕ
  f = round_label m before

  abbrev v : List ℤ
  v = r.found.vector

  -- the labels of the points, and what is behind them
  abbrev rest : List ℕ
  rest = drop (length (map f qs)) labels

  pub those_left : left_of (over (map f qs) labels) qs ≡ keep_if (λ q. eqb (f q) 0) qs
  unfolding over
  those_left = left_labels f qs rest

  marks_fit : (q : Point) → eqb (f q) 0 ≡ true → eqb (label m v q) 1 ≡ fits m v q
  marks_fit q e = mark_fits m line v q (label_sample m before q e)

  pub removed_count : (k : Search.Kind) →
      if_solved (kind_of k) (relabels (over (map f qs) labels) (marks_of store m v)) 0
      ≡ cond (is_solved k) (fitted m v (keep_if (λ q. eqb (f q) 0) qs)) 0
  unfolding over
  removed_count k = rw (relabels_fitted 0 f (label m v) m v marks_fit qs rest) (by_kind k _ 0)

  one_label : (q : Point) → r.found.kind ≡ solved →
      relabel (suc (length before)) (f q) (label m v q) ≡ round_label m (before ++ (r ∷ [])) q
  unfolding removes
  one_label q k = one (eqb (f q) 0) refl ∙ sym (label_more m before r q)
    where
      one : (z : Bool) → eqb (f q) 0 ≡ z →
          cond (z && eqb (label m v q) 1) (suc (length before)) (f q)
          ≡ cond (z && (is_solved r.found.kind && fits m v q)) (suc (length before)) (f q)
      one true e = rw (marks_fit q e, k) refl
      one false e = refl

  no_label : (q : Point) → is_solved r.found.kind ≡ false → f q ≡ round_label m (before ++ (r ∷ [])) q
  unfolding removes
  no_label q k = one (eqb (f q) 0) ∙ sym (label_more m before r q)
    where
      one : (z : Bool) → f q ≡ cond (z && (is_solved r.found.kind && fits m v q)) (suc (length before)) (f q)
      one true = rw k refl
      one false = refl

  each_written :
      relabelled (suc (length before)) (over (map f qs) labels) (marks_of store m v)
      ≡ over (map (λ q. relabel (suc (length before)) (f q) (label m v q)) qs) labels
  unfolding over
  each_written =
      let g : Point → ℕ = λ q. relabel (suc (length before)) (f q) (label m v q) in
      relabelled_each (suc (length before)) f (label m v) qs rest
      ∙ ap (λ (n : ℕ). map g qs ++ drop n labels) (length-map qs f ∙ sym (length-map qs g))

  pub labelled_next :
      if_solved (kind_of r.found.kind) (relabelled (suc (length before)) (over (map f qs) labels) (marks_of store m v))
      (over (map f qs) labels)
      ≡ over (map (round_label m (before ++ (r ∷ []))) qs) labels
  labelled_next = one r.found.kind refl
    where
      g : Point → ℕ
      g = λ q. relabel (suc (length before)) (f q) (label m v q)

      written : relabelled (suc (length before)) (over (map f qs) labels) (marks_of store m v) ≡ over (map g qs) labels
      written = each_written

      one : (k : Search.Kind) → r.found.kind ≡ k →
          if_solved (kind_of k) (relabelled (suc (length before)) (over (map f qs) labels) (marks_of store m v)) (over (map f qs) labels)
          ≡ over (map (round_label m (before ++ (r ∷ []))) qs) labels
      one solved e = written ∙ over_same g (round_label m (before ++ (r ∷ []))) (λ q. one_label q e) qs labels
      one spent e = over_same f (round_label m (before ++ (r ∷ []))) (λ q. no_label q (ap is_solved e)) qs labels
      one full e = over_same f (round_label m (before ++ (r ∷ []))) (λ q. no_label q (ap is_solved e)) qs labels
