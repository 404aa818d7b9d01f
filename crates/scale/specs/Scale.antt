-- "S, 0 to 15, is the scale".
use Rattle.std.specs.Prelude.{ℕ, leb}
use Rattle.codes.specs.declared.Refusal.TheVariants.{Scale}
use Rattle.codes.specs.Codes.{Check, pass_if}

-- Check 3: "S over 15".
unfoldable pub check_scale : ℕ → Check
check_scale S = pass_if (leb S 15) Scale
