use Rattle.std.proofs.Common.{arith}
use mir.ValLaws.{to_z-of_z}
use Rattle.list_rows.proofs.Parts.{read_more}
use Rattle.list_rows.proofs.vector_at.Goals as goal

pub loop-k-preserved : goal.loop-k-preserved
loop-k-preserved c = grind (arith, to_z-of_z, read_more)
