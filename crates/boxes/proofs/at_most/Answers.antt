-- The coordinates of both are gone through side by side.
use Rattle.std.proofs.Common.{◌≡◌, ◌≤ℤ◌, length, rules}
use Rattle.std.proofs.lemmas.Iterator.{YieldsList-from_slice, YieldsList-from_zip, cases_from_all}
use Rattle.boxes.proofs.Coordinates.{most_are}
use Rattle.boxes.proofs.at_most.Goals as goal
use borrow.Author.Tests.{tests}

pub returns : goal.returns
returns c =
    let same : length c.args.a ≡ length c.args.b = search rules in
    most_are c.args.a c.args.b c.all.result same
    (cases_from_all c.all.new.self _ _ (λ x. x.0 ≤ℤ x.1) (λ x. x.0 ≤ℤ x.1 → ⊥) c.all.ensures.ran
    (YieldsList-from_zip (YieldsList-from_slice c.args.a cc) (YieldsList-from_slice c.args.b cc))
    (λ x q k. search (rules, tests))
    (λ x q k. search (rules, tests)))
