-- The last open box is cut. Assumes nothing.
use mathlib.Core.Path.{◌≡◌, refl, ap}
use mathlib.Core.List.{List, [], ◌∷◌, ◌++◌}
use Prim.Native.Nat.{pred}
use native.Mathlib.Omega.{arith}
use lib.ListN.{length, get_or, length-append}
use Rattle.boxes.specs.declared.Box.{Box}
use Rattle.boxes.specs.Split.{zero_box}
use Rattle.certificate.specs.Search.{box_at, without}
use Rattle.range_search.specs.RangeSearch.{split}
use Rattle.range_search.specs.Laws.{AllCutsLast}

at_end : (bs : List Box) (b : Box) → get_or (bs ++ (b ∷ [])) (length bs) zero_box ≡ b
at_end [] b = refl
at_end (d ∷ bs) b = at_end bs b

without_end : (bs : List Box) (b : Box) → without (bs ++ (b ∷ [])) (length bs) ≡ bs
without_end [] b = refl
without_end (d ∷ bs) b = ap (λ (l : List Box). d ∷ l) (without_end bs b)

-- the place of the last
end : (bs : List Box) (b : Box) → pred (length (bs ++ (b ∷ []))) ≡ length bs
end bs b = omega (arith, length-append bs (b ∷ []))

pub last_at : (bs : List Box) (b : Box) → box_at (bs ++ (b ∷ [])) (pred (length (bs ++ (b ∷ [])))) ≡ b
last_at bs b = rw (end bs b) (at_end bs b)

pub last_without : (bs : List Box) (b : Box) → without (bs ++ (b ∷ [])) (pred (length (bs ++ (b ∷ [])))) ≡ bs
last_without bs b = rw (end bs b) (without_end bs b)

pub cuts_last : AllCutsLast
unfolding split
cuts_last cost bound K s bs b =
    record {
      list = λ e. rw (e, last_at bs b, last_without bs b);
      found = λ e. rw (e, last_at bs b);
    }
