-- The registers after some accesses are laid out by their history, and what was replied is what it tells. Assumes nothing.
use mathlib.Core.Bool.{Bool, true, false}
use mathlib.Core.List.{List, [], ◌∷◌, ◌++◌, append_assoc, append-nil}
use mathlib.Core.Path.{◌≡◌, refl, sym, ap, ap₂, ◌∙◌}
use borrow.Author.Tests.{eq-eqb, ne_eqb, eqb-true, eqb-false, le-leb}
use Prim.Native.Nat.{ℕ, suc, ◌+◌, ◌*◌, ◌/◌, ◌≤◌, ◌<◌}
use native.Mathlib.Numerals.{add-one}
use native.Mathlib.Omega.{arith}
use lib.Dec.{eqb}
use lib.ListN.{length, get_or, set, take, drop, length-set, length-drop, take-append-drop}
use lib.Seq.{drop-cons, drop-drop, take-suc-set, drop-set-lt, length-take-le}
use Rattle.integers.specs.Lists.{over}
use Rattle.fields.specs.Fields.{number_in}
use Rattle.jobs.specs.declared.Job.{Job}
use Rattle.job_records.specs.Jobs.{job_of}
use Rattle.registers.specs.History.{History, reads, writes, job_standing, described}
use Rattle.registers.specs.Registers.{cleared, read_at, written, job_in}
use Rattle.registers.proofs.Steps.{laid_out, job_read, reset_laid, read_step, write_step}
use Rattle.registers.proofs.Described.{read_laid}
use Rattle.bus_exchange.specs.declared.Progress.{Progress}
use Rattle.bus_exchange.specs.Exchange.{numbers_lent, with_access, told, told_by}
use Rattle.bus_exchange.specs.Inside.{Accessed}

-- r stands in bytes 84 to 87
pub rows_there : (s : List ℕ) → length s ≡ 136 → number_in s 84 4 ≡ (job_in s).rows
unfolding number_in job_of
rows_there s whole = rw (le-leb 88 (length s) (omega arith), drop-drop 20 64 s)

-- the next four bytes
next : (l : List ℕ) (i : ℕ) → 4 * i + 4 ≤ length l
    → drop (4 * i) l ≡ get_or l (4 * i) 0 ∷ get_or l (4 * i + 1) 0 ∷ get_or l (4 * i + 2) 0 ∷ get_or l (4 * i + 3) 0 ∷ drop (4 * (i + 1)) l
next l i there =
    first (4 * i) (4 * i + 1) (omega arith) (omega arith)
    ∙ ap (λ (x : List ℕ). get_or l (4 * i) 0 ∷ x)
    (first (4 * i + 1) (4 * i + 2) (omega arith) (omega arith)
    ∙ ap (λ (x : List ℕ). get_or l (4 * i + 1) 0 ∷ x)
    (first (4 * i + 2) (4 * i + 3) (omega arith) (omega arith)
    ∙ ap (λ (x : List ℕ). get_or l (4 * i + 2) 0 ∷ x) (first (4 * i + 3) (4 * (i + 1)) (omega arith) (omega arith))))
  where
    first : (n m : ℕ) → suc n ≡ m → n < length l → drop n l ≡ get_or l n 0 ∷ drop m l
    first n m e inside = drop-cons l n 0 inside ∙ ap (λ (k : ℕ). get_or l n 0 ∷ drop k l) e

module _ (store : List ℕ) where
  none_left : (h : History) (l : List ℕ) → length l < 4 → told_by store h l ≡ []
  unfolding told_by
  none_left h [] few = refl
  none_left h (a ∷ []) few = refl
  none_left h (a ∷ b ∷ []) few = refl
  none_left h (a ∷ b ∷ c ∷ []) few = refl
  none_left h (a ∷ b ∷ c ∷ d ∷ l) few = absurd (omega arith)

  module _ (accesses old : List ℕ) where
    pub record Replied (i : ℕ) (p : Progress) (out : List ℕ) : Type 0 where
      pub history : History
      pub registers : p.registers.bytes ≡ laid_out store history
      pub count : p.count ≤ i
      pub inside : p.count ≤ length out
      pub long : length out ≡ length old
      pub front : take p.count out ++ told_by store history (drop (4 * i) accesses) ≡ told_by store [] accesses
      pub rest : drop p.count out ≡ drop p.count old

    pub none_replied : (p : Progress) → p.registers.bytes ≡ cleared → p.count ≡ 0 → Replied 0 p old
    none_replied p is zero = record {
      history = [];
      registers = is ∙ reset_laid store;
      count = omega arith;
      inside = omega arith;
      long = refl;
      front = rw zero;
      rest = refl;
    }

    module _
        (i : ℕ) (p r : Progress) (out after : List ℕ) (there : 4 * i + 4 ≤ length accesses) (room : p.count < length out)
        (before : Replied i p out)
      where
        abbrev kind : ℕ
        kind = get_or accesses (4 * i) 0

        abbrev offset : ℕ
        offset = get_or accesses (4 * i + 1) 0

        abbrev value : ℕ
        value = get_or accesses (4 * i + 2) 0

        abbrev h : History
        h = before.history

        abbrev left : List ℕ
        left = drop (4 * (i + 1)) accesses

        told_next :
            take p.count out ++ (told store h kind offset ++ told_by store (with_access h kind offset value) left)
            ≡ told_by store [] accesses
        unfolding told_by
        told_next = ap (λ (l : List ℕ). take p.count out ++ told_by store h l) (sym (next accesses i there)) ∙ before.front

        read_replied :
            kind ≡ 0 →
            r.registers ≡ p.registers →
            r.count ≡ p.count + 1 →
            after ≡ set out p.count (read_at p.registers.bytes offset) →
            Replied (i + 1) r after
        unfolding told with_access
        read_replied is same one put = record {
          history = reads offset ∷ h;
          registers = ap (λ x. x.bytes) same ∙ before.registers ∙ read_step store offset h;
          count = omega (arith, before.count);
          inside = omega (arith, ap length put, length-set out p.count (read_at p.registers.bytes offset));
          long = ap length put ∙ length-set out p.count _ ∙ before.long;
          front =
              ap (λ (x : List ℕ). x ++ told_by store (reads offset ∷ h) left) grown
              ∙ append_assoc (take p.count out) (described store h offset ∷ []) (told_by store (reads offset ∷ h) left)
              ∙ (rw (eq-eqb kind 0 is) at told_next);
          rest = kept;
        }
          where
            said : read_at p.registers.bytes offset ≡ described store h offset
            said = ap (λ (s : List ℕ). read_at s offset) before.registers ∙ read_laid store h offset

            grown : take r.count after ≡ take p.count out ++ (described store h offset ∷ [])
            grown =
                rw (one, put, add-one) (take-suc-set out p.count (read_at p.registers.bytes offset) room)
                ∙ ap (λ (b : ℕ). take p.count out ++ (b ∷ [])) said

            kept : drop r.count after ≡ drop r.count old
            kept =
                rw (one, put)
                (drop-set-lt (p.count + 1) out p.count (read_at p.registers.bytes offset) (omega arith)
                ∙ sym (drop-drop 1 p.count out)
                ∙ ap (drop 1) before.rest
                ∙ drop-drop 1 p.count old)

        -- an access that is no read
        silent_replied : (h' : History) → (kind ≡ 0 → ⊥) → with_access h kind offset value ≡ h' → r.registers.bytes ≡ laid_out store h'
            → r.count ≡ p.count → after ≡ out → Replied (i + 1) r after
        unfolding told
        silent_replied h' no_read heard laid same put = record {
          history = h';
          registers = laid;
          count = omega (arith, before.count);
          inside = omega (arith, ap length put);
          long = ap length put ∙ before.long;
          front = rw (same, put) (rw (ne_eqb kind 0 no_read, heard) at told_next);
          rest = rw (same, put) before.rest;
        }

        write_laid : (s : List ℕ) → s ≡ laid_out store h → written store s offset value (numbers_lent (job_in s).rows) 2048
            ≡ laid_out store (writes offset value (numbers_lent (job_standing h).rows) 2048 ∷ h)
        write_laid s is =
            ap (λ (x : List ℕ). written store x offset value (numbers_lent (job_in x).rows) 2048) is
            ∙ ap (λ (x : Job). written store (laid_out store h) offset value (numbers_lent x.rows) 2048) (job_read store h)
            ∙ write_step store offset value (numbers_lent (job_standing h).rows) 2048 h

        pub one_replied : Accessed store 2048 p kind offset value out r after → Replied (i + 1) r after
        unfolding with_access
        one_replied a = go (eqb kind 0) (eqb kind 1) refl refl
          where
            go : (b d : Bool) → eqb kind 0 ≡ b → eqb kind 1 ≡ d → Replied (i + 1) r after
            go true d is e =
                let zero = eqb-true kind 0 is in
                read_replied zero (a.kept (λ one. omega arith)) (a.replied zero).0 (a.replied zero).1
            go false true is e =
                let no_read = eqb-false kind 0 is in
                silent_replied (writes offset value (numbers_lent (job_standing h).rows) 2048 ∷ h) no_read (rw (is, e))
                (a.wrote (eqb-true kind 1 e) ∙ write_laid p.registers.bytes before.registers)
                (a.silent no_read).0 (a.silent no_read).1
            go false false is e =
                let no_read = eqb-false kind 0 is in
                silent_replied h no_read (rw (is, e)) (ap (λ x. x.bytes) (a.kept (eqb-false kind 1 e)) ∙ before.registers)
                (a.silent no_read).0 (a.silent no_read).1

    pub all_replied : (i : ℕ) (p : Progress) (out : List ℕ) → length accesses / 4 ≤ i → Replied i p out
        → (p.count ≡ length (told_by store [] accesses)) × (out ≡ over (told_by store [] accesses) old)
    unfolding over
    all_replied i p out whole g =
        let few : length (drop (4 * i) accesses) < 4 = omega (arith, length-drop (4 * i) accesses) in
        let all : take p.count out ≡ told_by store [] accesses =
        sym (append-nil (take p.count out))
        ∙ ap (λ (x : List ℕ). take p.count out ++ x) (sym (none_left g.history (drop (4 * i) accesses) few))
        ∙ g.front in
        let many : p.count ≡ length (told_by store [] accesses) =
        sym (length-take-le p.count out g.inside) ∙ ap length all in (
          many,
          sym (take-append-drop p.count out) ∙ ap₂ ◌++◌ all (g.rest ∙ ap (λ (n : ℕ). drop n old) many),
        )
