use Rattle.std.proofs.Common.{◌≡◌, ◌<◌, arith}
use Rattle.list_blocks.proofs.Found.{how_many, one_found, all_found}
use Rattle.list_blocks.proofs.Blocks.find.Goals as goal

pub loop-j-preserved : goal.loop-j-preserved
loop-j-preserved c =
    let many = how_many c.min-listed.result c.width.result c.div_ceil-count.result c.width.ensures c.div_ceil-count.ensures in
    let few : c.loop-j.j < 64 = omega (arith, many.few) in
    one_found c.loop-j.invariant c.in_block-found.result.at c.in_block-found.result.bound few c.in_block-found.ensures

pub returns : goal.returns
returns c =
    let many = how_many c.min-listed.result c.width.result c.div_ceil-count.result c.width.ensures c.div_ceil-count.ensures in
    let all : c.loop-j.j ≡ c.div_ceil-count.result = omega arith in
    rw (← c.min-listed.ensures) (all_found (rw all at c.loop-j.invariant) many)
