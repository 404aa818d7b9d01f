-- What the checks that let a pass through tell, one by one. Assumes nothing.
use mathlib.Core.Path.{◌≡◌, refl}
use mathlib.Core.Bool.{◌&&◌}
use mathlib.Core.List.{List, [], ◌∷◌}
use Prim.Native.Nat.{ℕ, ◌+◌, ◌*◌, ◌/◌, ◌%◌, ◌≤◌, ◌<◌}
use native.Mathlib.Omega.{arith}
use lib.Dec.{leb, eqb, leb→le}
use lib.ListN.{length}
use Rattle.std.specs.Prelude.{Ok, Err}
use Rattle.integers.specs.Lists.{All, none, also}
use Rattle.integers.proofs.Lists.{all_head, all_tail}
use Rattle.integers.proofs.Tests.{and_parts}
use Rattle.codes.specs.declared.Refusal.{Refusal}
use Rattle.codes.specs.Codes.{Check, pass, in_order, pass_if, within, unless_refused}
use Rattle.codes.proofs.Checks.{passed, first_passed, others_passed}
use Rattle.scale.specs.Scale.{check_scale}
use Rattle.boxes.specs.Shape.{check_shape}
use Rattle.boxes.specs.Boxes.{check_box, check_start}
use Rattle.jobs.specs.declared.Job.{Job}
use Rattle.points.specs.Points.{points_of, check_store, check_stray}
use Rattle.loss.specs.Loss.{check_loss_for}
use Rattle.window_checks.specs.Checks.{window_count, check_given, check_window, check_lent_for, check_windows}
use Rattle.window_checks.proofs.Counting.{Windowed, windowed, inside, count_few}

-- checks that all pass
pub each_passed : (cs : List Check) → in_order cs ≡ pass → All (λ c. c ≡ pass) cs
each_passed [] e = none
each_passed (c ∷ cs) e = also (first_passed c cs e) (each_passed cs (others_passed c cs e))

-- an outcome that is a value, or a refusal, tells of its check
pub value_passed : (check : Check) (n v : ℕ) → unless_refused check n ≡ Ok v → (check ≡ pass) × (v ≡ n)
value_passed (Ok _) n v e = (refl, cc)
value_passed (Err r) n v e = let z : ◌≡◌ {A = ℕ} 0 1 = cc in absurd (omega arith)

pub refusal_refused : (check : Check) (n : ℕ) (r : Refusal) → unless_refused check n ≡ Err r → check ≡ Err r
refusal_refused (Ok _) n r e = let z : ◌≡◌ {A = ℕ} 0 1 = cc in absurd (omega arith)
refusal_refused (Err s) n r e = cc

store_few : (bytes : ℕ) → check_store bytes ≡ pass → bytes / 12 ≤ 4096
unfolding check_store
store_few bytes e =
    let tests = and_parts (within 1 bytes 49152) (eqb (bytes % 12) 0) (passed (within 1 bytes 49152 && eqb (bytes % 12) 0) Refusal.Length e) in
    let most = leb→le bytes 49152 (and_parts (leb 1 bytes) (leb bytes 49152) tests.0).1 in
    omega arith

-- checks 1 to 7
module _ (store : List ℕ) (job : Job) (k : ℕ) (ok : check_given store job k ≡ pass) where
  pub given_all :
      let m = job.model in
      All (λ c. c ≡ pass)
      (check_store (length store)
      ∷ check_shape m.n m.d
      ∷ check_scale m.scale
      ∷ check_loss_for k m.p m.eps
      ∷ check_box m.n m.d job.domain
      ∷ check_start job.domain job.start
      ∷ check_stray m.d (points_of store)
      ∷ [])
  unfolding check_given
  given_all = each_passed _ ok

  pub records_few : length store / 12 ≤ 4096
  records_few = store_few (length store) (all_head given_all)

  pub start_given : check_start job.domain job.start ≡ pass
  start_given = all_head (all_tail (all_tail (all_tail (all_tail (all_tail given_all)))))

-- there are few windows where the checks that come first pass
pub record Counted (records k h : ℕ) : Type 0 where
  pub taken : Windowed records k h
  pub records_few : records ≤ 4096
  pub windows_few : window_count records k h ≤ 4097

pub counted : (store : List ℕ) (job : Job) (k h : ℕ) → check_given store job k ≡ pass →
    check_window (length store / 12) k h ≡ pass → Counted (length store / 12) k h
counted store job k h given window =
    let few = records_few store job k given in
    record {
      taken = windowed (length store / 12) k h window;
      records_few = few;
      windows_few = count_few (length store / 12) k h few;
    }

-- all of them
module _ (store : List ℕ) (job : Job) (k h numbers entries room : ℕ) (ok : check_windows store job k h numbers entries room ≡ pass) where
  pass_all :
      All (λ c. c ≡ pass)
      (check_given store job k
      ∷ check_window (length store / 12) k h
      ∷ check_lent_for (window_count (length store / 12) k h) numbers entries room
      ∷ [])
  unfolding check_windows
  pass_all = each_passed _ ok

  pub given : check_given store job k ≡ pass
  given = all_head pass_all

  pub window_given : Windowed (length store / 12) k h
  window_given = windowed (length store / 12) k h (all_head (all_tail pass_all))

  lent_all :
      All (λ c. c ≡ pass)
      (pass_if (leb 16 numbers) Refusal.Table
      ∷ pass_if (leb (numbers / 16) entries) Refusal.Bounds
      ∷ pass_if (leb (40 * window_count (length store / 12) k h) room) Refusal.Short
      ∷ [])
  unfolding check_lent_for
  lent_all = each_passed _ (all_head (all_tail (all_tail pass_all)))

  pub table_given : pass_if (leb 16 numbers) Refusal.Table ≡ pass
  table_given = all_head lent_all

  pub bounds_given : pass_if (leb (numbers / 16) entries) Refusal.Bounds ≡ pass
  bounds_given = all_head (all_tail lent_all)

  pub room_given : 40 * window_count (length store / 12) k h ≤ room
  room_given =
      leb→le (40 * window_count (length store / 12) k h) room
      (passed (leb (40 * window_count (length store / 12) k h) room) Refusal.Short (all_head (all_tail (all_tail lent_all))))

  -- window i lies in the store
  pub window_there : (i : ℕ) → i < window_count (length store / 12) k h → 12 * (i * h) + 12 * k ≤ length store
  window_there i below =
      omega (arith, (inside (length store / 12) k h i window_given.hops window_given.few).0 below)
