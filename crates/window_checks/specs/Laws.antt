-- What holds of the number of windows. The proof stands in proofs/Counting.antt.
use Rattle.std.specs.Prelude.{◌↔◌, ℕ, ◌+◌, ◌*◌, ◌≤◌, ◌<◌}
use Rattle.window_checks.specs.Checks.{window_count}

-- "Windows begin at 0, h, 2h and so on while they lie wholly in the store": the count is of those that do.
abbrev pub Inside : Type 0
Inside = (records k h i : ℕ) → 1 ≤ h → k ≤ records → (i < window_count records k h) ↔ (i * h + k ≤ records)
