-- What a call of a write says, by the length of the registers. Assumes nothing.
use mathlib.Core.Bool.{true, false, true≢false}
use mathlib.Core.List.{List, ◌++◌}
use mathlib.Core.Path.{◌≡◌, refl, sym, subst, ◌∙◌}
use borrow.Author.Tests.{eq-eqb, ne_eqb}
use Prim.Native.Nat.{ℕ, ◌-◌}
use native.Mathlib.Omega.{arith}
use lib.IntN.{ℤ}
use lib.ListN.{length, take, drop, length-drop, take-append-drop}
use lib.Seq.{length-take-le, take_all}
use Rattle.registers.specs.Registers.{written}
use Rattle.c_boundary.specs.Boundary.{code_of}
use Rattle.bus_registers.specs.Written.{TableWritten, BoundsWritten, WriteCertified}
use Rattle.c_bus.specs.Calls.{registers_right, registers_call, registers_after_write, TableAfterWrite, BoundsAfterWrite, CertifiedWrite}

-- a copy of 136 bytes in two parts
module _ (from : List ℕ) (long : length from ≡ 136) where
  pub front_long : 64 ≡ length (take 64 from)
  front_long = sym (length-take-le 64 from (omega arith))

  pub both_parts : (front rest : List ℕ) → front ≡ take 64 from → rest ≡ take (length from - 64) (drop 64 from) → front ++ rest ≡ from
  both_parts front rest e f =
      let l = length-drop 64 from in
      let all : rest ≡ drop 64 from = f ∙ take_all (length from - 64) (drop 64 from) (omega (arith, l)) in
      rw (e, all) (take-append-drop 64 from)

module _ (registers : List ℕ) (offset value : ℕ) (store : List ℕ) (table : List ℤ) (bounds : List ℕ) where
  abbrev pub Called : ℕ → List ℕ → List ℤ → List ℕ → Type 0
  Called k q u e =
      (k ≡ code_of (registers_call registers))
      × ((q ≡ registers_after_write registers offset value store table bounds)
      × (TableAfterWrite registers offset value store table bounds u
      × (BoundsAfterWrite registers offset value store table bounds e
      × (k ≡ 0 → CertifiedWrite registers offset value store table bounds q))))

  pub wrong_length_lem : (length registers ≡ 136 → ⊥) → Called 255 registers table bounds
  wrong_length_lem other =
      let wrong : registers_right registers ≡ false = ne_eqb (length registers) 136 other in
      let kept_table : TableAfterWrite registers offset value store table bounds table =
      record { taken = λ right. absurd (true≢false (sym right ∙ wrong)); kept = λ h. refl } in
      let kept_bounds : BoundsAfterWrite registers offset value store table bounds bounds =
      record { taken = λ right. absurd (true≢false (sym right ∙ wrong)); kept = λ h. refl } in
      (rw wrong, (rw wrong, (kept_table, (kept_bounds, λ e. absurd (omega arith)))))

  -- what the write says of the registers s, which are those of the buffer
  abbrev Said : List ℕ → List ℕ → List ℤ → List ℕ → Type 0
  Said s q u e =
      (q ≡ written store s offset value (length table) (length bounds))
      × (TableWritten s offset value store table bounds u
      × (BoundsWritten s offset value store table bounds e × WriteCertified s offset value store table bounds q))

  pub right_length :
      (s q q' : List ℕ) (u : List ℤ) (e : List ℕ) → length registers ≡ 136 → s ≡ registers → q' ≡ q → Said s q u e → Called 0 q' u e
  right_length s q q' u e long same put said =
      let right : registers_right registers ≡ true = eq-eqb (length registers) 136 long in
      let here : Said registers q u e = subst (λ (x : List ℕ). Said x q u e) same said in
      let now_table : TableAfterWrite registers offset value store table bounds u =
      record { taken = λ h. here.1.0; kept = λ wrong. absurd (true≢false (sym right ∙ wrong)) } in
      let now_bounds : BoundsAfterWrite registers offset value store table bounds e =
      record { taken = λ h. here.1.1.0; kept = λ wrong. absurd (true≢false (sym right ∙ wrong)) } in (
        rw right,
        (rw right (put ∙ here.0), (now_table, (now_bounds, λ k. rw put here.1.1.1))),
      )
