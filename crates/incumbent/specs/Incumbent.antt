-- What is tested beside the best vector, by the test `ahead` of certificate/specs/Search. These definitions say what this crate's functions
-- do; the contract of a search does not rest on them, and a reader of that need not believe them.
use Rattle.std.specs.Prelude.{◌≡◌, Bool, true, cond, List, ℕ, ◌<◌, leb, eqb, ℤ}
use Rattle.boxes.specs.declared.Box.{Box}
use Rattle.certificate.specs.Search.{ahead}
use Rattle.incumbent.specs.declared.Mark.{Mark}
use Rattle.incumbent.specs.declared.Child.{Child}

-- whether a vector v that costs a, or a box with the bound a and the low vector v, is ahead of the best vector
abbrev pub ahead_of : Mark → ℕ → List ℤ → Bool
ahead_of mark a v = ahead mark.t mark.cost mark.best a v

-- a box beside a number x for its bound, and whether that is kept
abbrev pub child_of : Box → ℕ → Mark → Child
child_of b x mark = record { half = b; bound = x; kept = ahead_of mark x b.low }

-- "C − L ≤ t"; 02: for t = 0 "solved means that no box is open"
abbrev pub solved_by : ℕ → ℕ → ℕ → Bool
solved_by t gap number = cond (eqb t 0) (eqb number 0) (leb gap t)

-- whether a box is kept
abbrev pub kept_by : (Box → ℕ) → Mark → Box → Bool
kept_by bound mark b = ahead_of mark (bound b) b.low

-- child is the box b with the outcome of its test, and with its bound if it is kept
pub record Tested (bound : Box → ℕ) (keep : Box → Bool) (b : Box) (child : Child) : Type 0 where
  pub half : child.half ≡ b
  pub decided : child.kept ≡ keep b
  pub exact : child.kept ≡ true → child.bound ≡ bound b

-- what other vectors and boxes are held against where v is best
abbrev pub mark_of : (List ℤ → ℕ) → ℕ → List ℤ → Mark
mark_of cost tol v = record { t = tol; cost = cost v; best = v }

-- a mark has the cost of its vector, and C + 1, up to which costs and bounds are found, fits 64 bits
pub record Marks (cost : List ℤ → ℕ) (mark : Mark) : Type 0 where
  pub exact : mark.cost ≡ cost mark.best
  pub fits : mark.cost < 18446744073709551615
