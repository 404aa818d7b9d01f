-- "Both polarisations in one store", request 7 of document 02: records by their frame numbers, clashes, and the union of two stores, called
-- first and second. A record is its list of 12 bytes here.
use Rattle.std.specs.Prelude.{Bool, true, false, not, cond, ◌&&◌, ◌||◌, ℕ, zero, suc, ◌/◌, leb, ltb, eqb, length, take, drop}
use mathlib.Core.List.{List, [], ◌∷◌, map, flatten}
use Rattle.codes.specs.declared.Refusal.TheVariants.{Length, Order, Clash}
use Rattle.codes.specs.Codes.{Check, Outcome, pass, pass_if, in_order, unless_refused}
use Rattle.points.specs.Points.{record_at, check_store}

-- The first n records of a store, and all of them.
unfoldable pub first_records : ℕ → List ℕ → List (List ℕ)
first_records zero store = []
first_records (suc n) store = take 12 store ∷ first_records n (drop 12 store)

unfoldable pub records_of : List ℕ → List (List ℕ)
records_of store = first_records (length store / 12) store

-- A record's frame number, and those of a store's records.
unfoldable pub frame_of : List ℕ → ℕ
frame_of r = (record_at r 0).frame

abbrev pub frames_of : List ℕ → List ℕ
frames_of store = map frame_of (records_of store)

-- "strictly rising": each number is below the one behind it.
unfoldable pub rising : List ℕ → Bool
rising [] = true
rising (a ∷ []) = true
rising (a ∷ b ∷ ns) = ltb a b && rising (b ∷ ns)

-- whether two records have the same bytes
unfoldable pub same : List ℕ → List ℕ → Bool
same [] [] = true
same [] (b ∷ s) = false
same (a ∷ r) [] = false
same (a ∷ r) (b ∷ s) = eqb a b && same r s

-- "unequal records of one frame": two records, one record and one of a list, one of a list and one of another.
unfoldable pub clash : List ℕ → List ℕ → Bool
clash r s = eqb (frame_of r) (frame_of s) && not (same r s)

unfoldable pub clashes_with : List ℕ → List (List ℕ) → Bool
clashes_with r [] = false
clashes_with r (s ∷ ss) = clash r s || clashes_with r ss

unfoldable pub clashes : List (List ℕ) → List (List ℕ) → Bool
clashes [] ss = false
clashes (r ∷ rs) ss = clashes_with r ss || clashes rs ss

-- The records of two lists in one: the one with the lower frame number first, and of one frame's two the first list's, which is the
-- other's too where none clash.
unfoldable pub union : List (List ℕ) → List (List ℕ) → List (List ℕ)
union [] ss = ss
union (r ∷ rs) [] = r ∷ rs
union (r ∷ rs) (s ∷ ss) =
    cond (ltb (frame_of r) (frame_of s)) (r ∷ union rs (s ∷ ss))
    (cond (ltb (frame_of s) (frame_of r)) (s ∷ union (r ∷ rs) ss) (r ∷ union rs ss))

-- The bytes of the merged store.
unfoldable pub merged : List ℕ → List ℕ → List ℕ
merged first second = flatten (union (records_of first) (records_of second))

-- Check 1 of one of the two: "Here a store may be empty".
unfoldable pub check_either : ℕ → Check
check_either bytes = cond (eqb bytes 0) pass (check_store bytes)

-- "15, order, for frames not rising, checked after 1"
unfoldable pub check_order : List ℕ → List ℕ → Check
check_order first second = pass_if (rising (frames_of first) && rising (frames_of second)) Order

-- "16, clash, for unequal records of one frame, checked next"
unfoldable pub check_clash : List ℕ → List ℕ → Check
check_clash first second = pass_if (not (clashes (records_of first) (records_of second))) Clash

-- "a union over 4,096 records gets number 1"
unfoldable pub check_union : List ℕ → List ℕ → Check
check_union first second = pass_if (leb (length (union (records_of first) (records_of second))) 4096) Length

-- The checks of two stores that are to be one, in their order.
unfoldable pub check_both : List ℕ → List ℕ → Check
check_both first second =
    in_order
    (check_either (length first)
    ∷ check_either (length second)
    ∷ check_order first second
    ∷ check_clash first second
    ∷ check_union first second
    ∷ [])

-- How many bytes the merged store has.
unfoldable pub union_answer : List ℕ → List ℕ → Outcome
union_answer first second = unless_refused (check_both first second) (length (merged first second))
