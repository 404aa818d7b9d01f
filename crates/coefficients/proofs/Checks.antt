-- Three checks that all pass, the scale behind check 2, and check 6 of one line. Assumes nothing.
use Rattle.std.proofs.Common.{◌≡◌, ℕ, ◌≤◌, List, [], ◌∷◌, drop, ℤ, sym, ap, ◌∙◌, one-mul}
use Rattle.integers.specs.Integers.{all_zero}
use Rattle.codes.specs.declared.Refusal.TheVariants.{Start}
use Rattle.codes.specs.Codes.{Check, pass, pass_if, in_order}
use Rattle.codes.proofs.Checks.{first_passed, others_passed}
use Rattle.codes.proofs.Laws.{in_order_one}
use Rattle.scale.specs.Scale.{check_scale}
use Rattle.scale.proofs.Checks.{scale_within}
use Rattle.boxes.specs.Shape.{check_vector}

pub three_pass : (a b c : Check) → in_order (a ∷ b ∷ c ∷ []) ≡ pass → (a ≡ pass) × (b ≡ pass) × (c ≡ pass)
three_pass a b c e =
    let e₂ = others_passed a (b ∷ c ∷ []) e in
    (first_passed a (b ∷ c ∷ []) e, first_passed b (c ∷ []) e₂, sym (in_order_one c) ∙ others_passed b (c ∷ []) e₂)

pub pass_three : {a b c : Check} → a ≡ pass → b ≡ pass → c ≡ pass → in_order (a ∷ b ∷ c ∷ []) ≡ pass
unfolding in_order
pass_three p q r = λ i. in_order (p i ∷ q i ∷ r i ∷ [])

-- checks 2 and 3, which writing and reading both make first
pub scale_checked : (a : Check) (S : ℕ) → in_order (a ∷ check_scale S ∷ []) ≡ pass → S ≤ 15
scale_checked a S e = scale_within S (sym (in_order_one (check_scale S)) ∙ others_passed a (check_scale S ∷ []) e)

-- check 6 of one line looks at the coordinates after the d-th
pub unused_check : (d : ℕ) (w : List ℤ) → check_vector 1 d w ≡ pass_if (all_zero (drop d w)) Start
unfolding check_vector
unused_check d w = ap (λ (k : ℕ). pass_if (all_zero (drop k w)) Start) (one-mul d)
