-- The windows of a store, how many there are, and the checks before the first of them is searched. Document 02, request 9: "Take a window
-- length k and a hop h, in records."
use Rattle.std.specs.Prelude.{◌&&◌, List, [], ◌∷◌, ℕ, ◌+◌, ◌-◌, ◌*◌, ◌/◌, leb, length, take, drop}
use Rattle.codes.specs.declared.Refusal.{Refusal}
use Rattle.codes.specs.Codes.{Check, pass_if, in_order}
use Rattle.scale.specs.Scale.{check_scale}
use Rattle.boxes.specs.Shape.{check_shape}
use Rattle.boxes.specs.Boxes.{check_box, check_start}
use Rattle.jobs.specs.declared.Job.{Job}
use Rattle.points.specs.Points.{points_of, check_store, check_stray}
use Rattle.loss.specs.Loss.{check_loss_for}

-- "Windows begin at 0, h, 2h and so on": window i has the k records from record i × h on, of 12 bytes each.
unfoldable pub window_at : List ℕ → ℕ → ℕ → ℕ → List ℕ
window_at store k h i = take (12 * k) (drop (12 * (i * h)) store)

-- "while they lie wholly in the store": how many there are in so many records, where k is at most that and h at least 1. Law `Inside`.
unfoldable pub window_count : ℕ → ℕ → ℕ → ℕ
window_count records k h = (records - k) / h + 1

-- Checks 1 to 7, of the whole store. "With p = 3, check 4 holds q against k instead of the store: a q not below k gets 4."
unfoldable pub check_given : List ℕ → Job → ℕ → Check
check_given store job k =
    let m = job.model in
    in_order
    (check_store (length store)
    ∷ check_shape m.n m.d
    ∷ check_scale m.scale
    ∷ check_loss_for k m.p m.eps
    ∷ check_box m.n m.d job.domain
    ∷ check_start job.domain job.start
    ∷ check_stray m.d (points_of store)
    ∷ [])

-- "17, window, for k or h of 0 or k over the store, checked after 7"
unfoldable pub check_window : ℕ → ℕ → ℕ → Check
check_window records k h = pass_if (leb 1 k && (leb 1 h && leb k records)) Refusal.Window

-- Then 8 and 14, of a table of so many numbers and a list of so many entries, and 10: "An output too small gets 10 before the first
-- search", of room for the records of so many windows.
unfoldable pub check_lent_for : ℕ → ℕ → ℕ → ℕ → Check
check_lent_for count numbers entries room =
    in_order
    (pass_if (leb 16 numbers) Refusal.Table
    ∷ pass_if (leb (numbers / 16) entries) Refusal.Bounds
    ∷ pass_if (leb (40 * count) room) Refusal.Short
    ∷ [])

-- All of them, in order.
unfoldable pub check_windows : List ℕ → Job → ℕ → ℕ → ℕ → ℕ → ℕ → Check
check_windows store job k h numbers entries room =
    in_order
    (check_given store job k
    ∷ check_window (length store / 12) k h
    ∷ check_lent_for (window_count (length store / 12) k h) numbers entries room
    ∷ [])
