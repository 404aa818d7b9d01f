-- Document 02, [5]: "the (q + 1)-th largest .., as j_q in source document 002".
use Rattle.std.specs.Prelude.{cond, List, [], ◌∷◌, ℕ, leb, get_or}

-- a number put into its place in a list that falls; equal ones all stay
unfoldable pub insert_down : ℕ → List ℕ → List ℕ
insert_down a [] = a ∷ []
insert_down a (b ∷ bs) = cond (leb b a) (a ∷ b ∷ bs) (b ∷ insert_down a bs)

unfoldable pub sort_down : List ℕ → List ℕ
sort_down [] = []
sort_down (a ∷ rest) = insert_down a (sort_down rest)

-- Source document 002: "the function that associates to x .. its (q+1)th largest entry": place q, counted from 0, of the numbers sorted
-- downward.
unfoldable pub nth_largest : ℕ → List ℕ → ℕ
nth_largest q sizes = get_or (sort_down sizes) q 0
