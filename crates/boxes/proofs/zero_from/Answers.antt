-- All coordinates are gone through behind the k that are skipped.
use Rattle.std.proofs.Common.{◌≡◌, pos, drop, rules}
use Rattle.std.proofs.lemmas.Iterator.{YieldsList-from_slice, cases_from_all}
use Rattle.std.proofs.lemmas.Iterator.Adapters.{YieldsList-from_skip}
use Rattle.boxes.proofs.Coordinates.{zeros_are}
use Rattle.boxes.proofs.zero_from.Goals as goal
use borrow.Author.Tests.{tests}

pub returns : goal.returns
returns c =
    zeros_are (drop c.args.k c.args.v.now) c.all.result
    (cases_from_all _ _ _ (λ x. x ≡ pos 0) (λ x. x ≡ pos 0 → ⊥) c.all.ensures.ran
    (YieldsList-from_skip c.args.k (YieldsList-from_slice c.args.v.now cc) cc)
    (λ x q k. search (rules, tests))
    (λ x q k. search (rules, tests)))
