-- Labels that are told by a function of the points: which points they leave, and what a round changes. Assumes nothing.
use mathlib.Core.Path.{◌≡◌, refl, sym, ap, ◌∙◌}
use mathlib.Core.Bool.{Bool, true, false, cond, ◌&&◌}
use mathlib.Core.List.{List, [], ◌∷◌, ◌++◌, map}
use Prim.Native.Nat.{ℕ, suc, ◌+◌, ◌*◌, ◌≤◌}
use native.Mathlib.Omega.{arith}
use lib.Dec.{leb, eqb}
use lib.IntN.{ℤ}
use lib.ListN.{length, length-map, drop}
use Rattle.codes.specs.Codes.{pass}
use Rattle.std.specs.Prelude.{Err}
use Rattle.integers.specs.Integers.{all_zero}
use Rattle.integers.specs.Lists.{All, none, also}
use Rattle.codes.specs.declared.Refusal.{Refusal}
use Rattle.codes.proofs.Checks.{refused_not_passed}
use Rattle.jobs.specs.declared.Model.{Model}
use Rattle.points.specs.declared.Point.{Point}
use Rattle.points.specs.Points.{is_gap, xs, record_at, points_of, stray_from, check_stray}
use Rattle.residuals.specs.Cost.{least, size_at}
use Rattle.certificate.specs.Search.{keep_if}
use Rattle.labels.specs.Labels.{first_least, nearest_label, fitting, sample_label, label}
use Rattle.frames.specs.Frames.{records_of}
use Rattle.frames.proofs.Records.{Long, records_long, flatten_length, records_flatten}
use Rattle.merge.proofs.Laws.{record_points}
use Rattle.rounds.specs.Rounds.{fits, fitted}
use Rattle.points_left.specs.Left.{left_of, bytes_left, relabel, relabelled, relabels}
use Rattle.points_left.proofs.Gathering.{left_none}
use Rattle.points_left.proofs.Marking.{no_marks}

-- those left are those with label 0
pub left_labels : (f : Point → ℕ) (qs : List Point) (rest : List ℕ) → left_of (map f qs ++ rest) qs ≡ keep_if (λ q. eqb (f q) 0) qs
unfolding left_of
left_labels f [] rest = left_none rest
left_labels f (q ∷ qs) rest = ap (λ (l : List Point). cond (eqb (f q) 0) (q ∷ l) l) (left_labels f qs rest)

module _ (k : ℕ) (f h : Point → ℕ) where
  -- labels after a round, point by point
  pub relabelled_each : (qs : List Point) (rest : List ℕ) →
      relabelled k (map f qs ++ rest) (map h qs) ≡ map (λ q. relabel k (f q) (h q)) qs ++ rest
  unfolding relabelled
  relabelled_each [] rest = (no_marks k rest).0
  relabelled_each (q ∷ qs) rest = ap (λ (l : List ℕ). relabel k (f q) (h q) ∷ l) (relabelled_each qs rest)

  -- as many as the line fits of those left, where the marks tell that
  pub relabels_fitted : (m : Model) (v : List ℤ) → ((q : Point) → eqb (f q) 0 ≡ true → eqb (h q) 1 ≡ fits m v q) →
      (qs : List Point) (rest : List ℕ) →
      relabels (map f qs ++ rest) (map h qs) ≡ fitted m v (keep_if (λ q. eqb (f q) 0) qs)
  unfolding relabels fitted
  relabels_fitted m v same [] rest = (no_marks k rest).1
  relabels_fitted m v same (q ∷ qs) rest = one (eqb (f q) 0) refl (keep_if (λ q. eqb (f q) 0) qs) _ (relabels_fitted m v same qs rest)
    where
      one : (b : Bool) → eqb (f q) 0 ≡ b → (l : List Point) (n : ℕ) → n ≡ fitted m v l →
          cond (b && eqb (h q) 1) 1 0 + n ≡ fitted m v (cond b (q ∷ l) l)
      one true e l n w = rw (same q e, w) refl
      one false e l n w = omega arith

-- The labels of a store under one line mark the samples that it fits.
module _ (m : Model) (line : m.n ≡ 1) (v : List ℤ) (q : Point) (sample : is_gap q ≡ false) where
  one_least : (n : ℕ) (f : ℕ → ℕ) (ε : ℕ) → n ≡ 1 →
      eqb (cond (leb 2 (fitting f ε n)) 5 (cond (leb (least f n) ε) (suc (first_least f n)) 0)) 1 ≡ leb (f 0) ε
  unfolding least first_least fitting
  one_least n f ε e = rw e (one (leb (f 0) ε))
    where
      one : (b : Bool) → eqb (cond (leb 2 (0 + cond b 1 0)) 5 (cond b 1 0)) 1 ≡ b
      one true = refl
      one false = refl

  pub mark_fits : eqb (label m v q) 1 ≡ fits m v q
  unfolding label sample_label nearest_label fits
  mark_fits = rw sample (one_least m.n (size_at m v q) m.eps line)

-- The records left are the points left.
module _ {A : Type 0} where
  pub left-all {ℓ} : {P : A → Type ℓ} (ls : List ℕ) {xs : List A} → All P xs → All P (left_of ls xs)
  unfolding left_of
  left-all {P = P} [] h = none
  left-all {P = P} (l ∷ ls) none = none
  left-all {P = P} (l ∷ ls) (also {x} {xs} h hs) = one (eqb l 0) (left_of ls xs) (left-all ls hs)
    where
      one : (b : Bool) (ys : List A) → All P ys → All P (cond b (x ∷ ys) ys)
      one true ys k = also h k
      one false ys k = k

  pub left_few : (ls : List ℕ) (xs : List A) → length (left_of ls xs) ≤ length xs
  unfolding left_of
  left_few [] xs = omega arith
  left_few (l ∷ ls) [] = omega arith
  left_few (l ∷ ls) (x ∷ xs) = one (eqb l 0) (left_of ls xs) (left_few ls xs)
    where
      one : (b : Bool) (ys : List A) → length ys ≤ length xs → length (cond b (x ∷ ys) ys) ≤ length (x ∷ xs)
      one true ys h = omega arith
      one false ys h = omega arith

  left_map : {B : Type 0} (g : A → B) (ls : List ℕ) (xs : List A) → map g (left_of ls xs) ≡ left_of ls (map g xs)
  unfolding left_of
  left_map {B = B} g [] xs = refl
  left_map {B = B} g (l ∷ ls) [] = refl
  left_map {B = B} g (l ∷ ls) (x ∷ xs) = one (eqb l 0) (left_of ls xs) (left_of ls (map g xs)) (left_map g ls xs)
    where
      one : (b : Bool) (ys : List A) (zs : List B) → map g ys ≡ zs → map g (cond b (x ∷ ys) ys) ≡ cond b (g x ∷ zs) zs
      one true ys zs e = ap (λ (l : List B). g x ∷ l) e
      one false ys zs e = e

module _ (ls store : List ℕ) where
  long_left : All Long (left_of ls (records_of store))
  long_left = left-all ls (records_long store)

  pub points_left : points_of (bytes_left ls store) ≡ left_of ls (points_of store)
  points_left =
      record_points (bytes_left ls store)
      ∙ ap (map (λ (r : List ℕ). record_at r 0)) (records_flatten long_left)
      ∙ left_map (λ (r : List ℕ). record_at r 0) ls (records_of store)
      ∙ ap (left_of ls) (sym (record_points store))

  pub bytes_left_lem : length (bytes_left ls store) ≡ length (left_of ls (points_of store)) * 12
  bytes_left_lem =
      flatten_length long_left
      ∙ ap (λ (n : ℕ). n * 12)
      (sym (length-map (left_of ls (records_of store)) (λ (r : List ℕ). record_at r 0))
      ∙ ap length (left_map (λ (r : List ℕ). record_at r 0) ls (records_of store) ∙ ap (left_of ls) (sym (record_points store))))

-- Fields that are 0 in all records are so in those left.
abbrev Clear : ℕ → List Point → Type 0
Clear d qs = All (λ q. all_zero (drop d (xs q)) ≡ true) qs

passed_clear : (d i : ℕ) (qs : List Point) → stray_from d i qs ≡ pass → Clear d qs
unfolding stray_from
passed_clear d i [] e = none
passed_clear d i (q ∷ qs) e = one (all_zero (drop d (xs q))) refl e (λ k. passed_clear d (suc i) qs k)
  where
    one : (b : Bool) → all_zero (drop d (xs q)) ≡ b → cond b (stray_from d (suc i) qs) (Err (Refusal.Stray i)) ≡ pass →
        (stray_from d (suc i) qs ≡ pass → Clear d qs) → Clear d (q ∷ qs)
    one true z e later = also z (later e)
    one false z e later = refused_not_passed (Refusal.Stray i) e

clear_passes : (d i : ℕ) (qs : List Point) → Clear d qs → stray_from d i qs ≡ pass
unfolding stray_from
clear_passes d i [] none = refl
clear_passes d i (q ∷ qs) (also h hs) = rw (h, clear_passes d (suc i) qs hs) refl

pub clear_left : (d : ℕ) (ls : List ℕ) (qs : List Point) → check_stray d qs ≡ pass → check_stray d (left_of ls qs) ≡ pass
unfolding check_stray
clear_left d ls qs e = clear_passes d 0 (left_of ls qs) (left-all ls (passed_clear d 0 qs e))
