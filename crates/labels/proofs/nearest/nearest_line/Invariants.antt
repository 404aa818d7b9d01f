-- The nearest of the first j lines, and how many of them fit.
use Rattle.std.proofs.Common.{◌*◌}
use Rattle.residuals.specs.Inside.{size_of}
use Rattle.labels.proofs.Finding.{Found}
use Rattle.labels.proofs.nearest.nearest_line.Given as goal

abbrev pub invariant-loop-j : goal.invariant-loop-j
invariant-loop-j l = Found (λ j. size_of l.fn.q l.v (j * l.d) l.d l.power) l.eps l.j l.line l.size l.fitting
