use Rattle.std.proofs.Common.{rules}
use Rattle.list_open_boxes.proofs.Listing.{others_held, one_out}
use Rattle.list_open_boxes.proofs.take_out.Goals as goal

pub returns-then-count-at : goal.returns-then-count-at
returns-then-count-at c = search (rules, others_held)

pub returns : goal.returns
returns c = search (rules, one_out)
