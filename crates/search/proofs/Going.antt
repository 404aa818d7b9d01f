-- A run of the search, with its list as it is held: it stands at the beginning, a step keeps it up, and where it stops the answer is the
-- definition's. Assumes nothing.
use borrow.Author.Tests.{ltb-true, ltb-false}
use Rattle.std.specs.Prelude.{Option, Some, is_none}
use mathlib.Core.Path.{◌≡◌, refl, sym, ap, subst, ◌∙◌}
use mathlib.Core.Bool.{Bool, true, false}
use mathlib.Core.List.{List}
use Prim.Native.Nat.{ℕ, ◌*◌, ◌-◌, ◌≤◌, ◌<◌}
use native.Mathlib.Omega.{arith}
use lib.Dec.{ltb}
use lib.IntN.{ℤ}
use lib.ListN.{length}
use Rattle.integers.specs.Lists.{All}
use Rattle.integers.proofs.Lists.{all_map}
use Rattle.integers.proofs.Tests.{is_true}
use Rattle.boxes.specs.declared.Box.{Box}
use Rattle.boxes.specs.Boxes.{InBox}
use Rattle.boxes.specs.Split.{zero_box}
use Rattle.boxes.specs.Laws.{Bounds}
use Rattle.certificate.specs.Search as Search
use Rattle.certificate.specs.Search.{solved, spent, full, keeps, first_smallest, lower_bound, is_solved, split, answer, search}
use Rattle.certificate.specs.Laws.{Sound}
use Rattle.certificate.proofs.Lists.{all-at}
use Rattle.certificate.proofs.Ahead.{ahead_le}
use Rattle.certificate.proofs.Smallest.{lower_le}
use Rattle.certificate.proofs.Steps.{unsolved_open}
use Rattle.certificate.proofs.Running.{Running, running_begins, running_sound, running_costed, running_solved, running_spent, running_full}
use Rattle.certificate.proofs.Running.{running_goes}
use Rattle.incumbent.specs.Incumbent.{kept_by, solved_by}
use Rattle.list_rows.specs.Rows.{row_count}
use Rattle.list_rows.proofs.Rows.{rest_later}
use Rattle.list_blocks.specs.Blocks.{gone}
use Rattle.list_running.specs.declared.Found.{Found}
use Rattle.list_running.specs.Listing.{spot_in, FoundBy}
use Rattle.list_running.proofs.Finding.{Lowest-of, found}
use Rattle.replacing.specs.Replacing.{Memory, list_in, ChosenIn, LateLong, Within}
use Rattle.search.specs.declared.step.State.{State}
use Rattle.search.specs.Search.{kind_of}
use Rattle.search.specs.Inside.{state_in, Stands, Steppable, Moved, StepOutcome, Begun, Ended}

-- a run: its cost and bound, what its job asks for, and the memory that it began with
pub record Run : Type 0 where
  pub cost : List ℤ → ℕ
  pub bound : Box → ℕ
  pub budget : ℕ
  pub tol : ℕ
  pub start : List ℤ
  pub domain : Box
  pub h : Memory

-- what holds of it
pub record Ready (r : Run) : Type 0 where
  pub laws : Bounds r.cost r.bound
  pub inside : InBox r.start r.domain
  pub some : 1 ≤ row_count r.h.table
  pub enough : row_count r.h.table ≤ length r.h.bounds

-- the answer of the definition
abbrev def : Run → Search.Answer
def r = search r.cost r.bound r.budget (row_count r.h.table) r.tol r.start r.domain

-- it has come to the state s, with its list held in k
pub record Going (r : Run) (s : State) (k : Memory) : Type 0 where
  pub running : Running r.cost r.bound r.budget (row_count r.h.table) r.tol r.start r.domain (state_in k s)
  pub tolerance : s.mark.t ≡ r.tol
  pub stands : Stands r.cost r.bound k s
  pub within : Within s.peak r.h k

pub going_begins :
    (r : Run) (s : State) → r.h.blocks.count ≡ 0 → length r.h.blocks.leasts ≡ 64 → length r.h.blocks.places ≡ 64 →
    Begun r.cost r.bound r.tol r.start r.domain s r.h.late r.h.beside → Going r s r.h
going_begins r s none x y b =
    let h = r.h in
    record {
      running =
          rw (b.state h.table h.bounds h.blocks)
          (running_begins r.cost r.bound r.budget (row_count h.table) r.tol r.start r.domain);
      tolerance = b.tolerance;
      stands = b.stands h.table h.bounds h.blocks none x y;
      within = record { long = refl; long_entries = refl; rest = refl; rest_entries = refl };
    }

module _ (r : Run) (ready : Ready r) (s : State) (k : Memory) (g : Going r s k)
  where
    abbrev cost : List ℤ → ℕ
    cost = r.cost

    abbrev bound : Box → ℕ
    bound = r.bound

    abbrev budget : ℕ
    budget = r.budget

    abbrev rows : ℕ
    rows = row_count r.h.table

    abbrev list : List Box
    list = list_in k s.list

    abbrev now_state : Search.State
    now_state = state_in k s

    sound : Sound cost bound budget rows r.tol r.domain now_state
    sound = running_sound cost bound budget rows r.tol r.start r.domain now_state g.running ready.laws ready.inside

    exact : s.mark.cost ≡ cost s.mark.best
    exact = g.stands.marks.exact

    number : s.list.number ≡ length list
    number = g.stands.listed.number

    -- peak never falls
    grows : (after : State) (k₂ : Memory) → Moved cost bound k s after k₂ → s.peak ≤ after.peak
    unfolding split
    grows after k₂ o = omega (arith, ap (λ (x : Search.State). x.peak) o.state)

    -- every open box has a bound that is at most C, and is kept
    going_most : All (λ b. bound b ≤ s.mark.cost) list
    going_most = rw exact (all_map (λ b h. ahead_le r.tol (cost s.mark.best) s.mark.best (bound b) b.low h) sound.kept)

    going_kept : All (λ b. kept_by bound s.mark b ≡ true) list
    going_kept = rw (exact, g.tolerance) (all_map (λ b h. is_true (keeps bound r.tol (cost s.mark.best) s.mark.best b) h)
        sound.kept)

    small : All (λ b. bound b < gone) list
    small = all_map (λ b h. omega (arith, g.stands.marks.fits)) going_most

    open_few : s.list.number ≤ s.peak
    open_few = omega (arith, sound.longest, number)

    -- there is a row and an entry for each open box
    open_rows : s.list.number ≤ rows
    open_rows = omega (arith, open_few, sound.room, ready.some)

    -- L, and the box that has it
    module _ (o : Found) (by : FoundBy k.blocks s.list s.mark.cost o) where
      abbrev low : ℕ
      low = (spot_in o).bound

      lows : Lowest-of bound k.table k.bounds k.blocks k.late s.list list s.mark.cost o
      lows =
          found bound k.table k.bounds k.blocks k.late k.beside s.list list g.stands.listed small
          s.mark.cost o by

      pub low_le : low ≤ s.mark.cost
      low_le = rw lows.lowest (lower_le bound s.mark.cost list going_most)

      low_is : low ≡ lower_bound bound (cost s.mark.best) list
      low_is = lows.lowest ∙ ap (λ (c : ℕ). lower_bound bound c list) exact

      -- the test for solved, as the code makes it
      abbrev test : Bool
      test = solved_by r.tol (s.mark.cost - low) s.list.number

      test_is : is_solved cost bound r.tol now_state ≡ test
      unfolding is_solved
      test_is = rw (← number, ← low_is, ← exact)

      ended : (kind : Search.Kind) → def r ≡ answer cost bound kind now_state →
          Ended bound (def r) r.h (record { kind = kind_of kind; low = low; state = s }) k
      unfolding answer
      ended kind is =
          rw is
          (record {
            answer = rw (low_is, exact, number);
            listed = g.stands.listed;
            kept = going_kept;
            fits = g.stands.marks.fits;
            room = omega (arith, open_rows, number, g.within.long, g.within.long_entries, ready.enough);
            few = sound.longest;
            rows = g.stands.few;
            late = g.stands.late;
            within = g.within;
          })

      -- (a)
      pub going_solved :
          test ≡ true → Ended bound (def r) r.h (record { kind = kind_of solved; low = low; state = s }) k
      going_solved yet =
          ended solved (running_solved cost bound budget rows r.tol r.start r.domain now_state g.running (test_is ∙ yet))

      module _ (not_yet : test ≡ false) where
        unsolved : is_solved cost bound r.tol now_state ≡ false
        unsolved = test_is ∙ not_yet

        -- (b)
        pub going_spent :
            s.count ≡ budget → Ended bound (def r) r.h (record { kind = kind_of spent; low = low; state = s }) k
        going_spent all =
            ended spent (running_spent cost bound budget rows r.tol r.start r.domain now_state g.running unsolved all)

        -- (c)
        module _ (left : s.count ≡ budget → ⊥) where
          less : s.count < budget
          less = omega (arith, g.running.within)

          chosen : ChosenIn bound k s.list list o
          chosen = lows.chosen (unsolved_open cost bound r.tol now_state unsolved)

          pub going_steppable : budget < 4294967296 → Steppable cost bound k s o
          going_steppable few =
              let at = first_smallest bound list in
              record {
                stands = g.stands;
                chosen = chosen;
                wide = rw chosen.box at (all-at zero_box sound.opened at chosen.inside).two;
                kept = going_kept;
                costed = λ some.
                    rw (chosen.box, ← g.tolerance) at
                    (all-at zero_box (running_costed cost bound budget rows r.tol r.start r.domain now_state g.running some) at
                    chosen.inside);
                room = omega (arith, open_rows, g.within.long);
                entries = omega (arith, g.within.long, g.within.long_entries, ready.enough);
                longest = open_few;
                countable = omega (arith, less);
              }

          module _ (z : Option State) (k₂ : Memory) (out : StepOutcome cost bound k s z k₂)
            where
              -- the split is the definition's
              abbrev after : Search.State
              after = split cost bound r.tol now_state

              told : is_none z ≡ ltb (row_count k.table) (length after.list)
              told = subst (λ (t : ℕ). is_none z ≡ ltb (row_count k.table) (length (split cost bound t now_state).list)) g.tolerance
                  out.told

              pub going_full : is_none z ≡ true → Ended bound (def r) r.h (record { kind = kind_of full; low = low; state = s }) k₂
              going_full is =
                  let more = ltb-true (row_count k.table) (length after.list) (sym told ∙ is) in
                  rw (out.kept is)
                  (ended full
                  (running_full cost bound budget rows r.tol r.start r.domain now_state g.running unsolved less
                  (omega (arith, g.within.long))))

              -- one split less is left
              pub going_counts : (n : State) → z ≡ Some n → budget - n.count < budget - s.count
              unfolding split
              going_counts n is = omega (arith, less, ap (λ (x : Search.State). x.count) (out.moved n is).state)

              pub going_on : (n : State) → z ≡ Some n → Going r n k₂
              going_on n is =
                  let few = ltb-false (row_count k.table) (length after.list) (sym told ∙ ap is_none is) in
                  let o₂ = out.moved n is in
                  let peaks = grows n k₂ o₂ in
                  record {
                    running =
                        rw (o₂.state, g.tolerance)
                        (running_goes cost bound budget rows r.tol r.start r.domain now_state g.running unsolved less
                        (omega (arith, g.within.long)));
                    tolerance = o₂.tolerance ∙ g.tolerance;
                    stands = o₂.stands;
                    within =
                        record {
                          long = o₂.within.long ∙ g.within.long;
                          long_entries = o₂.within.long_entries ∙ g.within.long_entries;
                          rest =
                              o₂.within.rest
                              ∙ rest_later r.h.table k.table (16 * s.peak) (16 * n.peak) (omega arith) g.within.rest;
                          rest_entries =
                              o₂.within.rest_entries
                              ∙ rest_later r.h.bounds k.bounds s.peak n.peak peaks g.within.rest_entries;
                        };
                  }

-- memory that is the same is as long
pub as_long :
    (h k : Memory) → k ≡ h →
    (length k.table ≡ length h.table)
    × (length k.bounds ≡ length h.bounds)
    × (length k.late ≡ length h.late)
    × (length k.beside ≡ length h.beside)
as_long h k e = rw e (refl, refl, refl, refl)

-- late rows that are as many as there are
pub late_same : (h k : Memory) → LateLong h → LateLong k → (length k.late ≡ length h.late) × (length k.beside ≡ length h.beside)
late_same h k x y = (y.0 ∙ sym x.0, y.1 ∙ sym x.1)
