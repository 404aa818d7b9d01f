-- The fields of records, and of slots, as doubles. Assumes nothing.
use mathlib.Core.Path.{◌≡◌, refl, sym, ap, ◌∙◌, subst}
use mathlib.Core.List.{List, [], ◌∷◌, ◌++◌}
use mathlib.Core.Logic.{⊎_elim}
use Prim.Native.Nat.{ℕ, zero, suc, ◌+◌, ◌*◌, ◌-◌, ◌/◌, ◌%◌, ◌≤◌, ◌<◌, min}
use native.Mathlib.Omega.{arith}
use lib.IntN.{ℤ, pos}
use lib.ListN.{length, get_or, replicate, get_or-append, get_or-replicate}
use lib.Seq.{get_or-append_right}
use Rattle.std.specs.Int.{from_be_bytes}
use Rattle.fields.specs.Fields.{from_big_endian}
use Rattle.fields.proofs.BigEndian.{pair_at}
use lib.Ieee.{Float, nan}
use mir.Syntax.{w16}
use mir.Val.{to_z}
use Rattle.integers.proofs.Tests.{le_or_lt}
use Rattle.points.specs.Points.{unsigned_at, signed_at, point_at}
use Rattle.eval_whole.specs.Whole.{zeroth}
use Rattle.eval_lanes.specs.Lanes.{lane}
use Rattle.eval_lanes.specs.Inside.{Filled}
use Rattle.eval_columns.specs.Columns.{nowhere, number, record_in, field, Cast}
use Rattle.eval_columns.specs.Inside.{FieldOfRecords, FieldOfSlots}
use Rattle.eval_columns.proofs.Casts.{cast_zero}
use Rattle.eval_columns.proofs.Places.{record_found, record_full, record_past}

-- two bytes, the higher first, as the store's field
pub signed_bytes : (store : List ℕ) (o : ℕ) → o + 1 < length store
    → to_z w16 (from_be_bytes w16 (get_or store o 0 ∷ get_or store (o + 1) 0 ∷ [])) ≡ signed_at store o
unfolding signed_at unsigned_at from_big_endian
signed_bytes store o h = ap (to_z w16) (omega arith ∙ pair_at store o h)

-- ---- slots
field_at : (store : List ℕ) (i c : ℕ) → c < 5 → signed_at store (i * 12 + c * 2) ≡ field c (point_at store i)
unfolding point_at
field_at store i zero h = let e : i * 12 + 0 ≡ i * 12 = omega arith in ap (signed_at store) e
field_at store i (suc zero) h = refl
field_at store i (suc (suc zero)) h = refl
field_at store i (suc (suc (suc zero))) h = refl
field_at store i (suc (suc (suc (suc zero)))) h = refl
field_at store i (suc (suc (suc (suc (suc c))))) h = absurd (omega arith)

pub no_field : (c : ℕ) → c < 5 → field c nowhere ≡ pos 0
no_field zero h = refl
no_field (suc zero) h = refl
no_field (suc (suc zero)) h = refl
no_field (suc (suc (suc zero))) h = refl
no_field (suc (suc (suc (suc zero)))) h = refl
no_field (suc (suc (suc (suc (suc c))))) h = absurd (omega arith)

-- the records of a group and zeros behind them are its slots
module _ (store : List ℕ) (t g c n : ℕ) (groups : g < 4) (five : c < 5) (full : n ≡ min (length store / 12 - (t * 76 + g * 19)) 19) where
  found : (k : ℕ) → k < n → (b : Float) → FieldOfRecords store (t * 76 + g * 19) (c * 2) k nan b → FieldOfSlots store t c (g * 20 + k) nan b
  found k h b w =
      let e : t * 76 + g * 19 + k ≡ number t (g * 20 + k) = omega arith in
      let f : signed_at store ((t * 76 + g * 19 + k) * 12 + c * 2) ≡ field c (record_in store t (g * 20 + k)) =
      ap (λ (i : ℕ). signed_at store (i * 12 + c * 2)) e ∙ field_at store (number t (g * 20 + k)) c five
      ∙ ap (field c) (sym (record_found store t (g * 20 + k) (omega arith) (omega arith))) in
      subst (λ (z : ℤ). Cast b z) f w

  empty : (k : ℕ) → n ≤ k → k < 20 → record_in store t (g * 20 + k) ≡ nowhere
  empty k l h =
      ⊎_elim
      (λ (i : 19 ≤ (g * 20 + k) % 20). record_full store t (g * 20 + k) i)
      (λ (i : (g * 20 + k) % 20 < 19). record_past store t (g * 20 + k) (omega arith))
      (le_or_lt 19 ((g * 20 + k) % 20))

  cleared : (k : ℕ) → n ≤ k → k < 20 → (b : Float) → b ≡ zeroth → FieldOfSlots store t c (g * 20 + k) nan b
  cleared k l h b e =
      let z : field c (record_in store t (g * 20 + k)) ≡ pos 0 = ap (field c) (empty k l h) ∙ no_field c five in
      rw e (rw z cast_zero)

  pub group_filled : {old xs ys : List Float} {m : ℕ}
      → Filled 0 (FieldOfRecords store (t * 76 + g * 19) (c * 2)) old n xs → length xs ≡ n → ys ≡ replicate m zeroth → m ≡ 20 - n
      → (k : ℕ) → k < 20 → FieldOfSlots store t c (g * 20 + k) nan (lane (xs ++ ys) k)
  group_filled {xs = xs} {ys} {m} p e z w k l =
      ⊎_elim
      (λ (h : n ≤ k). cleared k h l _ (get_or-append_right xs ys k nan (omega arith)
      ∙ ap (λ (s : List Float). get_or s (k - length xs) nan) z ∙ get_or-replicate m (k - length xs) zeroth nan (omega arith)))
      (λ (h : k < n). found k h _ (subst (FieldOfRecords store (t * 76 + g * 19) (c * 2) k nan)
      (sym (get_or-append xs ys nan k (omega arith))) (p.done k (omega arith) h)))
      (le_or_lt n k)
