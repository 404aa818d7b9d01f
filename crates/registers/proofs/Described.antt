-- The registers after a list of accesses read as the history says: they are laid out by the parts that it describes. Assumes nothing.
use mathlib.Core.Bool.{Bool, true, false}
use mathlib.Core.List.{List, [], ◌∷◌, reverse}
use mathlib.Core.Path.{◌≡◌, refl, sym, ap, ◌∙◌}
use borrow.Author.Tests.{ne_eqb, le-leb}
use Prim.Native.Nat.{ℕ, ◌+◌, ◌-◌, ◌%◌, ◌≤◌, ◌<◌}
use native.Mathlib.Nat.{mod-mod}
use native.Mathlib.Omega.{arith}
use lib.Dec.{leb, eqb, leb→le}
use Rattle.integers.proofs.Tests.{and_parts}
use lib.ListN.{get_or, set}
use lib.Seq.{get_or-set_other}
use Rattle.codes.specs.Codes.{pass, within}
use Rattle.registers.specs.Runs.{check_run, found_bytes}
use Rattle.registers.specs.History as Hist
use Rattle.registers.specs.History.{Access, reads, writes, History, last, last_value, runs, clears, interrupts, enabled}
use Rattle.registers.specs.History.{job_record, job_standing, flags, enable, refusal, answer, pending, described, described_replies}
use Rattle.registers.specs.Registers.{read_at, replies}
use Rattle.registers.specs.Laws.{AsDescribed, EveryRead, AsCertified, Sentences}
use Rattle.registers.proofs.Laid.{consecutive_at, laid}
use Rattle.registers.proofs.Laid.{job_byte, answer_byte}
use Rattle.registers.proofs.Found.{rows_equal, run_certified}
use Rattle.registers.proofs.Steps.{three_bits, cond_same, laid_out, answer_long, flags_cleared, clear_step, idle_step, ignored_step}
use Rattle.registers.proofs.Steps.{read_step, write_step, reset_laid, registers_laid}

module _ (store : List ℕ) where
  -- what is read of registers that are laid out so
  module _ (h : History) where
    flags_read : get_or (laid_out store h) 1 0 % 8 ≡ flags store h
    unfolding laid_out laid flags
    flags_read = three_bits (Hist.done store h) (Hist.refused store h) (pending h)

    enable_read : get_or (laid_out store h) 2 0 % 2 ≡ enable h
    unfolding laid_out laid enable
    enable_read = mod-mod (last_value 2 h) 2

    refusal_read : get_or (laid_out store h) 3 0 ≡ refusal store h
    unfolding laid_out laid
    refusal_read = refl

    answer_read : (o : ℕ) → 8 ≤ o → o ≤ 47 → get_or (laid_out store h) o 0 ≡ get_or (answer store h) (o - 8) 0
    unfolding laid_out
    answer_read o low high =
        let at_k : o ≡ 8 + (o - 8) = omega arith in
        ap (λ (i : ℕ). get_or (laid_out store h) i 0) at_k
        ∙ answer_byte (flags store h) (enable h) (refusal store h) (answer store h) (job_record h) (answer_long store h) (o - 8)
        (omega arith)

    job_byte_read : (o : ℕ) → 64 ≤ o → o ≤ 135 → get_or (laid_out store h) o 0 ≡ last_value o h
    unfolding laid_out job_record
    job_byte_read o low high =
        let at_k : o ≡ 64 + (o - 64) = omega arith in
        ap (λ (i : ℕ). get_or (laid_out store h) i 0) at_k
        ∙ job_byte (flags store h) (enable h) (refusal store h) (answer store h) (job_record h) (answer_long store h) (o - 64)
        ∙ consecutive_at (λ place. last_value place h) 64 72 (o - 64) (omega arith)
        ∙ ap (λ (i : ℕ). last_value i h) (sym at_k)

    pub read_laid : (o : ℕ) → read_at (laid_out store h) o ≡ described store h o
    unfolding read_at described
    read_laid o =
        cond_same (eqb o 1) (λ is. flags_read)
        (λ not-1. cond_same (eqb o 2) (λ is. enable_read)
        (λ not-2. cond_same (eqb o 3) (λ is. refusal_read)
        (λ not-3. cond_same (within 8 o 47)
        (λ is.
        let p = and_parts (leb 8 o) (leb o 47) (rw is tt) in
        answer_read o (leb→le 8 o p.0) (leb→le o 47 p.1))
        (λ out. cond_same (within 64 o 135)
        (λ is.
        let p = and_parts (leb 64 o) (leb o 135) (rw is tt) in
        job_byte_read o (leb→le 64 o p.0) (leb→le o 135 p.1))
        (λ gap. refl)))))

pub as_described : AsDescribed
as_described store accesses o =
    ap (λ (s : List ℕ). read_at s o) (registers_laid store accesses) ∙ read_laid store (reverse accesses) o

replies_laid : (store : List ℕ) (accesses : List Access) (h : History)
    → replies store (laid_out store h) accesses ≡ described_replies store h accesses
replies_laid store [] h = refl
replies_laid store (reads o ∷ more) h =
    λ i. read_laid store h o i
    ∷ (ap (λ (s : List ℕ). replies store s more) (read_step store o h) ∙ replies_laid store more (reads o ∷ h)) i
replies_laid store (writes o v n e ∷ more) h =
    ap (λ (s : List ℕ). replies store s more) (write_step store o v n e h) ∙ replies_laid store more (writes o v n e ∷ h)

pub every_read : EveryRead
every_read store accesses = ap (λ (s : List ℕ). replies store s accesses) (reset_laid store) ∙ replies_laid store accesses []

-- the bytes of the answer are those of the last run
answer_described : (store : List ℕ) (h : History) (k : ℕ) → k < 40 → described store h (8 + k) ≡ get_or (answer store h) k 0
unfolding described
answer_described store h k few =
    rw (
      ne_eqb (8 + k) 1 (λ is. omega arith),
      ne_eqb (8 + k) 2 (λ is. omega arith),
      ne_eqb (8 + k) 3 (λ is. omega arith),
      le-leb 8 (8 + k) (omega arith),
      le-leb (8 + k) 47 (omega arith),
    )
    (ap (λ (i : ℕ). get_or (answer store h) i 0) (omega arith))

last_answer :
    (store : List ℕ) (h earlier : History) (o v numbers entries : ℕ) →
    last runs h ≡ writes o v numbers entries ∷ earlier →
    check_run store (job_standing earlier) numbers entries ≡ pass →
    answer store h ≡ found_bytes store (job_standing earlier)
unfolding answer
last_answer store h earlier o v numbers entries is done = rw (is, done)

pub as_certified : AsCertified
as_certified store accesses earlier o v numbers entries is done = record {
  rows = rows_equal store (job_standing earlier) numbers entries done;
  bytes =
      λ k few. as_described store accesses (8 + k)
      ∙ answer_described store (reverse accesses) k few
      ∙ ap (λ (l : List ℕ). get_or l k 0) (last_answer store (reverse accesses) earlier o v numbers entries is done);
  certificate = run_certified store (job_standing earlier) numbers entries done;
}

-- two histories that lay the registers out alike read alike
alike : (store : List ℕ) (h h' : History) (o : ℕ) → laid_out store h ≡ laid_out store h' → described store h' o ≡ described store h o
alike store h h' o e = sym (read_laid store h' o) ∙ ap (λ (s : List ℕ). read_at s o) (sym e) ∙ read_laid store h o

other_byte : (s : List ℕ) (o : ℕ) → (o ≡ 1 → ⊥) → read_at (set s 1 0) o ≡ read_at s o
unfolding read_at
other_byte s o other =
    let kept : (i : ℕ) → (i ≡ 1 → ⊥) → get_or (set s 1 0) i 0 ≡ get_or s i 0 = λ i h. get_or-set_other s 1 i 0 0 h in
    rw (ne_eqb o 1 other, kept 2 (λ e. omega arith), kept 3 (λ e. omega arith), kept o other)

module _ (store : List ℕ) (h : History) where
  stays_pending : (a : Access) → clears (a ∷ h) ≡ false → pending h ≡ true → pending (a ∷ h) ≡ true
  stays_pending a no-clear is = go (interrupts (a ∷ h)) refl
    where
      go : (b : Bool) → interrupts (a ∷ h) ≡ b → pending (a ∷ h) ≡ true
      go true test = rw (test, test)
      go false test = rw (test, no-clear) is

  stays_not_pending : (a : Access) → interrupts (a ∷ h) ≡ false → pending h ≡ false → pending (a ∷ h) ≡ false
  stays_not_pending a quiet is = go (clears (a ∷ h)) refl
    where
      go : (b : Bool) → clears (a ∷ h) ≡ b → pending (a ∷ h) ≡ false
      go true test = rw (quiet, test, quiet)
      go false test = rw (quiet, test) is

  pub sentences : Sentences store h
  unfolding read_at
  sentences = record {
    cleared_flags = λ n e. sym (read_laid store (writes 0 3 n e ∷ h) 1) ∙ zero_flags n e;
    cleared_only = λ n e o other.
        sym (read_laid store (writes 0 3 n e ∷ h) o)
        ∙ ap (λ (s : List ℕ). read_at s o) (sym (clear_step store 0 3 n e h refl refl refl))
        ∙ other_byte (laid_out store h) o other
        ∙ read_laid store h o;
    other_commands = λ v n e o not-2 not-3.
        alike store h (writes 0 v n e ∷ h) o (idle_step store 0 v n e h refl (ne_eqb v 2 not-2) (ne_eqb v 3 not-3));
    ignored = λ place v n e o not-0 not-2 outside.
        alike store h (writes place v n e ∷ h) o (ignored_step store place v n e h (ne_eqb place 0 not-0) (ne_eqb place 2 not-2) outside);
    read_only = λ place o. alike store h (reads place ∷ h) o (read_step store place h);
    stays = stays_pending;
    becomes = λ n e is. becomes_pending n e is;
    stays_away = stays_not_pending;
  }
    where
      zero_flags : (n e : ℕ) → read_at (laid_out store (writes 0 3 n e ∷ h)) 1 ≡ 0
      zero_flags n e = flags_read store (writes 0 3 n e ∷ h) ∙ flags_cleared store 0 3 n e h refl refl

      becomes_pending : (n e : ℕ) → enabled h ≡ true → pending (writes 0 2 n e ∷ h) ≡ true
      becomes_pending n e is = rw (is, is)
