-- After every access the registers are laid out by the parts that the history describes. Assumes nothing.
use mathlib.Core.Bool.{Bool, true, false, cond, not, ◌&&◌, ◌||◌}
use mathlib.Core.List.{List, [], ◌∷◌, ◌++◌, reverse, reverse_aux}
use mathlib.Core.Path.{◌≡◌, refl, sym, ap, ◌∙◌, subst}
use borrow.Author.Tests.{eqb-true, eqb-false, eq-eqb, ne_eqb, le-leb, lt-leb}
use Prim.Native.Nat.{ℕ, ◌+◌, ◌-◌, ◌*◌, ◌/◌, ◌%◌, ◌≤◌, ◌<◌}
use native.Mathlib.Nat.{mod-mod}
use native.Mathlib.Omega.{arith}
use lib.Dec.{T, leb, eqb, leb→le}
use Rattle.std.specs.Prelude.{Ok, Err}
use Rattle.integers.proofs.Tests.{by_test, and_parts}
use Rattle.jobs.specs.declared.Job.{Job}
use lib.ListN.{length, set, take}
use Rattle.codes.specs.Codes.{Check, if_passed, within}
use Rattle.job_records.specs.Jobs.{job_of}
use Rattle.answer_records.specs.Answers.{passing}
use Rattle.registers.specs.Runs.{check_run, found_bytes, refusal_number, record_shown}
use Rattle.registers.specs.History as Hist
use Rattle.registers.specs.History.{Access, reads, writes, History, last, last_value, runs, enabled, consecutive}
use Rattle.registers.specs.History.{job_record, job_standing, bit, record_at, flags, enable, refusal, answer, pending}
use Rattle.registers.specs.Registers.{cleared, job_in, flags_after, with_run, ran, commanded, written, step, after}
use Rattle.registers.proofs.Laid.{consecutive_long, consecutive_same, consecutive_set, laid, behind_answer, job_part, job_set}
use Rattle.registers.proofs.Found.{shown_long}

-- three bits in a byte
module _ where
  third_bit : (a b c : Bool) → eqb ((bit a + 2 * bit b + 4 * bit c) / 4 % 2) 1 ≡ c
  third_bit true true true = refl
  third_bit true true false = refl
  third_bit true false true = refl
  third_bit true false false = refl
  third_bit false true true = refl
  third_bit false true false = refl
  third_bit false false true = refl
  third_bit false false false = refl

  pub three_bits : (a b c : Bool) → (bit a + 2 * bit b + 4 * bit c) % 8 ≡ bit a + 2 * bit b + 4 * bit c
  three_bits true true true = refl
  three_bits true true false = refl
  three_bits true false true = refl
  three_bits true false false = refl
  three_bits false true true = refl
  three_bits false true false = refl
  three_bits false false true = refl
  three_bits false false false = refl

  run_bits : (check : Check) (c : Bool) → bit (passing check) + 2 * bit (not (passing check)) + 4 * bit c ≡ if_passed check 1 2 + 4 * bit c
  run_bits (Ok _) c = refl
  run_bits (Err why) c = refl

or_true : (b : Bool) → (b || true) ≡ true
or_true true = refl
or_true false = refl

or_false : (b : Bool) → (b || false) ≡ b
or_false true = refl
or_false false = refl

with_run_lem : (f e r : ℕ) (a j : List ℕ) (check : Check) (shown : List ℕ) → length a ≡ 40
    → with_run (laid f e r a j) check shown ≡ laid (flags_after check f e) e (refusal_number check) shown j
unfolding with_run laid
with_run_lem f e r a j check shown long =
    ap
    (λ (l : List ℕ).
    set (set (take 8 (laid f e r a j) ++ (shown ++ l)) 3 (refusal_number check)) 1 (flags_after check f e))
    (behind_answer f e r a j long)

outside_low : (o : ℕ) → o < 64 → within 64 o 135 ≡ false
outside_low o low = rw (lt-leb 64 o low)

pub cond_same : (b : Bool) {x x' y y' : ℕ} → (b ≡ true → x ≡ x') → (b ≡ false → y ≡ y') → cond b x y ≡ cond b x' y'
cond_same true p q = p refl
cond_same false p q = q refl

job_long : (h : History) → length (job_record h) ≡ 72
unfolding job_record
job_long h = consecutive_long (λ place. last_value place h) 64 72

-- what a write leaves of each part
module _ (o v n e : ℕ) (h : History) where
  abbrev pub now : History
  now = writes o v n e ∷ h

  value_other : (place : ℕ) → (o ≡ place → ⊥) → last_value place now ≡ last_value place h
  value_other place other = rw (ne_eqb o place other)

  value_same : (place : ℕ) → o ≡ place → last_value place now ≡ v
  value_same place same = rw (eq-eqb o place same)

  job_outside : within 64 o 135 ≡ false → job_record now ≡ job_record h
  unfolding job_record
  job_outside out =
      consecutive_same (λ place. last_value place now) (λ place. last_value place h) 64 72
      (λ k few. value_other (64 + k) (λ same.
      let inside : within 64 o 135 ≡ true = rw (le-leb 64 o (omega arith), le-leb o 135 (omega arith)) in
      let never : true ≡ false = sym inside ∙ out in
      absurd (subst T never tt)))

  job_inside : (k : ℕ) → k < 72 → o ≡ 64 + k → set (job_record h) k v ≡ job_record now
  unfolding job_record
  job_inside k few at_k =
      consecutive_set (λ place. last_value place h) (λ place. last_value place now) 64 72 k v few
      (value_same (64 + k) at_k)
      (λ i other. sym (value_other (64 + i) (λ same. other (omega arith))))

module _ (store : List ℕ) where
  -- the registers that a history describes
  unfoldable pub laid_out : History → List ℕ
  laid_out h = laid (flags store h) (enable h) (refusal store h) (answer store h) (job_record h)

  pub answer_long : (h : History) → length (answer store h) ≡ 40
  unfolding answer
  answer_long h = go (last runs h)
    where
      go : (m : History) → length (record_at store m) ≡ 40
      go [] = refl
      go (reads o ∷ before) = refl
      go (writes o v n e ∷ before) = shown_long store (job_record before) n e (omega (arith, job_long before))

  pub job_read : (h : History) → job_in (laid_out h) ≡ job_standing h
  unfolding laid_out
  job_read h = ap job_of (job_part (flags store h) (enable h) (refusal store h) (answer store h) (job_record h) (answer_long h))

  by_parts :
      {f f' e e' r r' : ℕ} {a a' j j' : List ℕ} → f ≡ f' → e ≡ e' → r ≡ r' → a ≡ a' → j ≡ j' → laid f e r a j ≡ laid f' e' r' a' j'
  by_parts f e r a j = λ i. laid (f i) (e i) (r i) (a i) (j i)

  module _ (o v n e : ℕ) (h : History) where
    -- a write that is neither command 2 nor command 3 leaves flags, refusal number and answer
    module _ (no_run : (eqb o 0 && eqb v 2) ≡ false) where
      refusal_kept : refusal store (now o v n e h) ≡ refusal store h
      unfolding refusal
      refusal_kept = rw no_run

      answer_kept : answer store (now o v n e h) ≡ answer store h
      unfolding answer
      answer_kept = rw no_run

      flags_kept : (eqb o 0 && eqb v 3) ≡ false → flags store (now o v n e h) ≡ flags store h
      unfolding flags
      flags_kept no-clear = rw (no_run, no-clear)

      pub flags_cleared : (eqb o 0 && eqb v 3) ≡ true → flags store (now o v n e h) ≡ 0
      unfolding flags
      flags_cleared clear = rw (no_run, clear, no_run)

    enable_kept : (o ≡ 2 → ⊥) → enable (now o v n e h) ≡ enable h
    unfolding enable
    enable_kept other = ap (λ (x : ℕ). x % 2) (value_other o v n e h 2 other)

    enable_set : o ≡ 2 → enable (now o v n e h) ≡ v % 2
    unfolding enable
    enable_set same = ap (λ (x : ℕ). x % 2) (value_same o v n e h 2 same)

    -- a run
    module _ (zeroth : eqb o 0 ≡ true) (two : eqb v 2 ≡ true) where
      abbrev check : Check
      check = check_run store (job_standing h) n e

      no_three : eqb v 3 ≡ false
      no_three = ne_eqb v 3 (λ three. omega (arith, eqb-true v 2 two))

      pending_run : pending (now o v n e h) ≡ (pending h || enabled h)
      pending_run = go (enabled h) refl
        where
          go : (b : Bool) → enabled h ≡ b → pending (now o v n e h) ≡ (pending h || b)
          go true is = rw (zeroth, two, is, zeroth, two, is) (sym (or_true (pending h)))
          go false is = rw (zeroth, two, no_three, is) (sym (or_false (pending h)))

      flags_run : flags store (now o v n e h) ≡ flags_after check (flags store h) (enable h)
      unfolding flags flags_after enable
      flags_run =
          let was = third_bit (Hist.done store h) (Hist.refused store h) (pending h) in
          let is : eqb (last_value 2 h % 2 % 2) 1 ≡ enabled h = rw (mod-mod (last_value 2 h) 2) in
          ap (λ (b : Bool). bit (Hist.done store (now o v n e h)) + 2 * bit (Hist.refused store (now o v n e h)) + 4 * bit b) pending_run
          ∙ rw (was, is, zeroth, two, zeroth, two) (run_bits check (pending h || enabled h))

      refusal_run : refusal store (now o v n e h) ≡ refusal_number check
      unfolding refusal
      refusal_run = rw (zeroth, two)

      answer_run : answer store (now o v n e h) ≡ record_shown check (found_bytes store (job_standing h))
      unfolding answer
      answer_run = rw (zeroth, two)

      run_step : ran store (laid_out h) n e ≡ laid_out (now o v n e h)
      unfolding ran laid_out
      run_step =
          ap (λ (job : Job). with_run (laid_out h) (check_run store job n e) (record_shown (check_run store job n e) (found_bytes store job)))
          (job_read h)
          ∙ with_run_lem (flags store h) (enable h) (refusal store h) (answer store h) (job_record h) check
          (record_shown check (found_bytes store (job_standing h))) (answer_long h)
          ∙ by_parts (sym flags_run) (sym (enable_kept (λ same. omega (arith, eqb-true o 0 zeroth)))) (sym refusal_run) (sym answer_run)
          (sym (job_outside o v n e h (outside_low o (omega (arith, eqb-true o 0 zeroth)))))

    -- command 3, and other commands
    module _ (zeroth : eqb o 0 ≡ true) (not-two : eqb v 2 ≡ false) where
      no_run_here : (eqb o 0 && eqb v 2) ≡ false
      no_run_here = rw (zeroth, not-two)

      others_same :
          (f : ℕ) → f ≡ flags store (now o v n e h) →
          laid f (enable h) (refusal store h) (answer store h) (job_record h) ≡ laid_out (now o v n e h)
      unfolding laid_out
      others_same f flagged =
          by_parts flagged (sym (enable_kept (λ same. omega (arith, eqb-true o 0 zeroth)))) (sym (refusal_kept no_run_here))
          (sym (answer_kept no_run_here))
          (sym (job_outside o v n e h (outside_low o (omega (arith, eqb-true o 0 zeroth)))))

      pub clear_step : eqb v 3 ≡ true → set (laid_out h) 1 0 ≡ laid_out (now o v n e h)
      unfolding laid_out laid
      clear_step three = others_same 0 (sym (flags_cleared no_run_here (rw (zeroth, three))))

      pub idle_step : eqb v 3 ≡ false → laid_out h ≡ laid_out (now o v n e h)
      unfolding laid_out
      idle_step not_three = others_same (flags store h) (sym (flags_kept no_run_here (rw (zeroth, not_three))))

    command_step : eqb o 0 ≡ true → commanded store (laid_out h) v n e ≡ laid_out (now o v n e h)
    unfolding commanded
    command_step zeroth =
        by_test (eqb v 2) (ran store (laid_out h) n e) (cond (eqb v 3) (set (laid_out h) 1 0) (laid_out h))
        (λ s. s ≡ laid_out (now o v n e h))
        (λ two. run_step zeroth two)
        (λ not-two.
        by_test (eqb v 3) (set (laid_out h) 1 0) (laid_out h) (λ s. s ≡ laid_out (now o v n e h))
        (clear_step zeroth not-two) (idle_step zeroth not-two))

    -- any other place
    module _ (not-zeroth : eqb o 0 ≡ false) where
      no_run_there : (eqb o 0 && eqb v 2) ≡ false
      no_run_there = rw not-zeroth

      no_clear_there : (eqb o 0 && eqb v 3) ≡ false
      no_clear_there = rw not-zeroth

      kept_but :
          (e' : ℕ) (j : List ℕ) → e' ≡ enable (now o v n e h) → j ≡ job_record (now o v n e h) →
          laid (flags store h) e' (refusal store h) (answer store h) j ≡ laid_out (now o v n e h)
      unfolding laid_out
      kept_but e' j enabled' jobs =
          by_parts (sym (flags_kept no_run_there no_clear_there)) enabled' (sym (refusal_kept no_run_there))
          (sym (answer_kept no_run_there)) jobs

      enable_step : eqb o 2 ≡ true → set (laid_out h) 2 (v % 2) ≡ laid_out (now o v n e h)
      unfolding laid_out laid
      enable_step second =
          kept_but (v % 2) (job_record h) (sym (enable_set (eqb-true o 2 second)))
          (sym (job_outside o v n e h (outside_low o (omega (arith, eqb-true o 2 second)))))

      job_step : eqb o 2 ≡ false → within 64 o 135 ≡ true → set (laid_out h) o v ≡ laid_out (now o v n e h)
      unfolding laid_out
      job_step other inside =
          let p = and_parts (leb 64 o) (leb o 135) (rw inside tt) in
          let k = o - 64 in
          let low : 64 ≤ o = leb→le 64 o p.0 in
          let high : o ≤ 135 = leb→le o 135 p.1 in
          let at_k : o ≡ 64 + k = omega arith in
          ap (λ (i : ℕ). set (laid_out h) i v) at_k
          ∙ job_set (flags store h) (enable h) (refusal store h) (answer store h) (job_record h) (answer_long h) k v
          ∙ kept_but (enable h) (set (job_record h) k v) (sym (enable_kept (eqb-false o 2 other)))
          (job_inside o v n e h k (omega arith) at_k)

      pub ignored_step : eqb o 2 ≡ false → within 64 o 135 ≡ false → laid_out h ≡ laid_out (now o v n e h)
      unfolding laid_out
      ignored_step other outside =
          kept_but (enable h) (job_record h) (sym (enable_kept (eqb-false o 2 other))) (sym (job_outside o v n e h outside))

    pub write_step : written store (laid_out h) o v n e ≡ laid_out (now o v n e h)
    unfolding written
    write_step =
        by_test (eqb o 0) (commanded store (laid_out h) v n e)
        (cond (eqb o 2) (set (laid_out h) 2 (v % 2)) (cond (within 64 o 135) (set (laid_out h) o v) (laid_out h)))
        (λ s. s ≡ laid_out (now o v n e h))
        command_step
        (λ not-zeroth.
        by_test (eqb o 2) (set (laid_out h) 2 (v % 2)) (cond (within 64 o 135) (set (laid_out h) o v) (laid_out h))
        (λ s. s ≡ laid_out (now o v n e h))
        (enable_step not-zeroth)
        (λ other.
        by_test (within 64 o 135) (set (laid_out h) o v) (laid_out h) (λ s. s ≡ laid_out (now o v n e h))
        (job_step not-zeroth other) (ignored_step not-zeroth other)))

  pub read_step : (o : ℕ) (h : History) → laid_out h ≡ laid_out (reads o ∷ h)
  unfolding laid_out flags enable refusal answer job_record
  read_step o h = refl

  pub step_laid : (a : Access) (h : History) → step store (laid_out h) a ≡ laid_out (a ∷ h)
  step_laid (reads o) h = read_step o h
  step_laid (writes o v n e) h = write_step o v n e h

  pub reset_laid : cleared ≡ laid_out []
  unfolding laid_out laid flags enable refusal answer job_record consecutive
  reset_laid = refl

  after_laid : (accesses : List Access) (h : History) → after store (laid_out h) accesses ≡ laid_out (reverse_aux accesses h)
  after_laid [] h = refl
  after_laid (a ∷ more) h = ap (λ (s : List ℕ). after store s more) (step_laid a h) ∙ after_laid more (a ∷ h)

  pub registers_laid : (accesses : List Access) → after store cleared accesses ≡ laid_out (reverse accesses)
  registers_laid accesses = ap (λ (s : List ℕ). after store s accesses) reset_laid ∙ after_laid accesses []
