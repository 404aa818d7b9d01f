-- The run of a search for ranges: the definition's run has come to the state, with its list in the first rows. Assumes nothing.
use mathlib.Core.Path.{◌≡◌, refl, sym, ap, subst}
use mathlib.Core.List.{List}
use Prim.Native.Nat.{ℕ, ◌-◌, ◌/◌, ◌≤◌, ◌<◌}
use native.Mathlib.Omega.{arith}
use native.Mathlib.Nat.{le_refl}
use lib.IntN.{ℤ}
use lib.ListN.{length}
use Rattle.boxes.specs.declared.Box.{Box}
use Rattle.boxes.specs.Boxes.{volume}
use Rattle.boxes.specs.Split.{left_half, right_half, zero_box}
use Rattle.boxes.specs.Laws.{Bounds, Halved}
use Rattle.boxes.proofs.Halving.{halved}
use Rattle.list_rows.specs.Rows.{row_count, rows_of}
use Rattle.list_rows.proofs.Rows.{rows_length, rows_at}
use Rattle.certificate.specs.Search.{Kind, solved, spent, full}
use Rattle.certificate.specs.Laws.{Open}
use Rattle.certificate.proofs.Lists.{all-at}
use Rattle.range_search.specs.RangeSearch as Search
use Rattle.range_search.specs.RangeSearch.{go, begin, split, range_search}
use Rattle.range_search.specs.Ranged.{Reached, beginning, counting}
use Rattle.range_search.proofs.Steps.{Case, goes, step_case}
use Rattle.range_search.specs.Laws.{Sound}
use Rattle.range_search.proofs.Running.{Running, running_begins, running_sound, running_finished, running_spent, running_full, running_goes}
use Rattle.ranges.specs.declared.Kind.TheVariants.{Finished, Spent, Full}
use Rattle.ranges.specs.declared.step.State.{State}
use Rattle.std.specs.Prelude.{Some, None}
use Rattle.ranges.specs.Ranges.{kind_of}
use Rattle.ranges.specs.Inside.{state_in, last_in, Within, Limited, Steppable, StepOutcome, Ended}
use Rattle.ranges.proofs.Pushing.{within_later, within_along}

-- peak never falls
module _ (cost : List ℤ → ℕ) (bound : Box → ℕ) (K budget rows : ℕ) (box : Box) where
  peak_goes : (n : ℕ) (s : Search.State) {after : Search.State} → Case cost bound K budget rows s (go after) → n ≤ s.peak → n ≤ after.peak
  unfolding split
  peak_goes n s (goes some left few) h = omega arith

  pub peaks : {k : ℕ} {s : Search.State} → Reached cost bound K budget rows box k s → (begin cost bound K box).peak ≤ s.peak
  peaks beginning = le_refl _
  peaks (counting {s = s} r e) = peak_goes _ s (rw e at (step_case cost bound K budget rows s)) (peaks r)

module _ (cost : List ℤ → ℕ) (bound : Box → ℕ) (K budget : ℕ) (box : Box) (t₀ : List ℤ) where
  abbrev rows : ℕ
  rows = row_count t₀

  abbrev def : Search.Answer
  def = range_search cost bound K budget rows box

  pub record Going (s : State) (t : List ℤ) : Type 0 where
    pub running : Running cost bound K budget rows box (state_in t s)
    pub within : Within s.peak t₀ t

  pub going_begins : (s : State) → state_in t₀ s ≡ begin cost bound K box → Going s t₀
  going_begins s e =
      record {
        running = rw e (running_begins cost bound K budget rows box);
        within = record { long = refl; rest = refl };
      }

  module _ (laws : Bounds cost bound) (some : 1 ≤ volume box) (limit : Limited bound box) (lent : 1 ≤ row_count t₀) (s : State)
      (t : List ℤ) (g : Going s t) where
    abbrev st : Search.State
    st = state_in t s

    sound : Sound bound K budget rows box st
    sound = running_sound cost bound K budget rows box st g.running laws some

    same_rows : row_count t ≡ rows
    same_rows = ap (λ (n : ℕ). n / 16) g.within.long

    number : length (rows_of t s.«open») ≡ s.«open»
    number = rows_length t s.«open»

    -- an answer with this state
    ended : (kind : Kind) → def ≡ record { kind = kind; state = st } → Ended def t₀ (record { kind = kind_of kind; state = s }) t
    ended kind e =
        subst (λ (d : Search.Answer). Ended d t₀ (record { kind = kind_of kind; state = s }) t) (sym e)
        (record { kind = refl; state = refl; few = sound.longest; within = g.within })

    pub going_finished : s.«open» ≡ 0 → Ended def t₀ (record { kind = Finished; state = s }) t
    going_finished z = ended solved (running_finished cost bound K budget rows box st g.running (omega (arith, number)))

    module _ (open-some : 1 ≤ s.«open») where
      more : 1 ≤ length st.list
      more = omega (arith, number)

      pub going_spent : s.count ≡ budget → Ended def t₀ (record { kind = Spent; state = s }) t
      going_spent all = ended spent (running_spent cost bound K budget rows box st g.running more all)

      module _ (left : s.count ≡ budget → ⊥) where
        below : s.count < budget
        below = let w = g.running.within in omega arith

        -- the last open box, and its halves
        last_open_lem : Open box (last_in t s)
        last_open_lem =
            subst (Open box) (rows_at t s.«open» (s.«open» - 1) zero_box (omega arith))
            (all-at zero_box sound.opened (s.«open» - 1) (omega (arith, number)))

        halves : Halved (last_in t s)
        halves = halved (last_in t s) last_open_lem.two

        pub going_steppable : budget ≤ 4294967295 → Steppable bound K t s
        going_steppable fits =
            record {
              some = open-some;
              room = omega (arith, number, sound.longest, sound.room, same_rows);
              kept = sound.kept;
              two = last_open_lem.two;
              left_limit = limit (left_half (last_in t s)) halves.left_some (λ v i. last_open_lem.inside v (halves.left_in v i));
              right_limit = limit (right_half (last_in t s)) halves.right_some (λ v i. last_open_lem.inside v (halves.right_in v i));
              countable = omega (arith, below);
            }

        pub going_full : (u : List ℤ) → StepOutcome cost bound K t s None u → Ended def t₀ (record { kind = Full; state = s }) u
        going_full u o =
            let many : row_count t < length (split cost bound K st).list = o.full in
            rw o.kept
            (ended full (running_full cost bound K budget rows box st g.running more below (omega (arith, same_rows))))

        module _ (next : State) (u : List ℤ) (o : StepOutcome cost bound K t s (Some next) u) where
          pub going_on : Going next u
          unfolding split
          going_on =
              let few : length (split cost bound K st).list ≤ row_count t = o.room in
              let peaks : next.peak ≡ (split cost bound K st).peak = ap (λ (x : Search.State). x.peak) o.state in
              record {
                running =
                    rw o.state (running_goes cost bound K budget rows box st g.running more below (omega (arith, same_rows)));
                within = within_along (within_later (omega arith) g.within) o.within;
              }

          pub going_counts : budget - next.count < budget - s.count
          unfolding split
          going_counts =
              let counts : next.count ≡ (split cost bound K st).count = ap (λ (x : Search.State). x.count) o.state in
              omega (arith, below)
