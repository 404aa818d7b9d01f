-- One more search of a table that serves several, by what it leaves of the table and the list of bounds. Assumes nothing.
use mathlib.Core.Path.{◌≡◌, refl, sym, ap, ◌∙◌}
use mathlib.Core.List.{List, [], ◌∷◌, ◌++◌, map, append-nil}
use Prim.Native.Nat.{ℕ, ◌*◌, ◌≤◌, max}
use native.Mathlib.Omega.{arith}
use lib.IntN.{ℤ}
use lib.ListN.{length, take, drop, length-append, length-take}
use lib.Seq.{take_at, take-take}
use Rattle.codes.specs.Codes.{Check, pass}
use Rattle.std.specs.Prelude.{Ok, Err}
use Rattle.list_rows.specs.Rows.{rows_of}
use Rattle.list_rows.proofs.Rows.{rows_length, rows_take, rest_later}
use Rattle.search.specs.Search.{TableAfter, BoundsAfter}
use Rattle.sharing.specs.Sharing.{Run, run_if, largest_peak, last_open, last_bounds, SharedTable, SharedBounds}
use Rattle.sharing.specs.Laws.{TableShared, BoundsShared}

-- one more search at the end
peak_more : (runs : List Run) (r : Run) → largest_peak (runs ++ (r ∷ [])) ≡ max (largest_peak runs) r.found.peak
unfolding largest_peak
peak_more [] r = omega arith
peak_more (s ∷ runs) r = omega (arith, peak_more runs r)

open_last : (runs : List Run) (r : Run) → last_open (runs ++ (r ∷ [])) ≡ r.found.list
unfolding last_open
open_last [] r = refl
open_last (s ∷ []) r = refl
open_last (s ∷ t ∷ runs) r = open_last (t ∷ runs) r

bounds_last : (runs : List Run) (r : Run) → last_bounds (runs ++ (r ∷ [])) ≡ map r.bound r.found.list
unfolding last_bounds
bounds_last [] r = refl
bounds_last (s ∷ []) r = refl
bounds_last (s ∷ t ∷ runs) r = bounds_last (t ∷ runs) r

-- what two changes in turn leave alone from a place on, each from its own
kept_twice : {A : Type 0} (table before after : List A) (j k n : ℕ) → j ≤ n → k ≤ n → drop j before ≡ drop j table
    → drop k after ≡ drop k before → drop n after ≡ drop n table
kept_twice table before after j k n g h first second = rest_later before after k n h second ∙ rest_later table before j n g first

-- the front of a list in two parts
front : {A : Type 0} (xs ys zs : List A) → xs ≡ ys ++ zs → take (length ys) xs ≡ ys
front xs ys zs e = rw e (take_at ys zs (length ys) refl)

front_long : {A : Type 0} (xs ys zs : List A) → xs ≡ ys ++ zs → length ys ≤ length xs
front_long xs ys zs e = omega (arith, ap length e, length-append ys zs)

module _ (runs : List Run) (r : Run) where
  peak_before : largest_peak runs ≤ largest_peak (runs ++ (r ∷ []))
  peak_before = omega (arith, peak_more runs r)

  peak_own : r.found.peak ≤ largest_peak (runs ++ (r ∷ []))
  peak_own = omega (arith, peak_more runs r)

  table_more : (check : Check) (table before after : List ℤ) → check ≡ pass → SharedTable runs table before
      → TableAfter check r.found before after → SharedTable (runs ++ (r ∷ [])) table after
  table_more check table before after ok s t =
      let boxes = r.found.list in
      let peak = r.found.peak in
      let few : length boxes ≤ peak = omega (arith, front_long (rows_of after peak) boxes t.leftovers (t.rows ok), rows_length after peak) in
      record {
        long = t.long ∙ s.long;
        rows =
            rw (open_last runs r)
            (sym (rows_take after peak (length boxes) few) ∙ front (rows_of after peak) boxes t.leftovers (t.rows ok));
        rest =
            kept_twice table before after (16 * largest_peak runs) (16 * peak) (16 * largest_peak (runs ++ (r ∷ [])))
            (omega (arith, peak_before)) (omega (arith, peak_own)) s.rest (t.rest ok);
      }

  bounds_more : (check : Check) (bounds before after : List ℕ) → check ≡ pass → SharedBounds runs bounds before
      → BoundsAfter r.bound check r.found before after → SharedBounds (runs ++ (r ∷ [])) bounds after
  bounds_more check bounds before after ok s t =
      let own = map r.bound r.found.list in
      let peak = r.found.peak in
      let few : length own ≤ peak =
      omega (arith, front_long (take peak after) own t.leftovers (t.entries ok), length-take peak after) in
      record {
        long = t.long ∙ s.long;
        entries =
            rw (bounds_last runs r)
            (sym (take-take (length own) peak after few) ∙ front (take peak after) own t.leftovers (t.entries ok));
        rest =
            kept_twice bounds before after (largest_peak runs) peak (largest_peak (runs ++ (r ∷ []))) peak_before peak_own s.rest
            (t.rest ok);
      }

  table_next : (check : Check) (table before after : List ℤ) → SharedTable runs table before
      → TableAfter check r.found before after → SharedTable (runs ++ run_if check r) table after
  table_next (Ok _) table before after s t = table_more pass table before after refl s t
  table_next (Err why) table before after s t = rw (append-nil runs, t.untouched why refl) s

  bounds_next : (check : Check) (bounds before after : List ℕ) → SharedBounds runs bounds before
      → BoundsAfter r.bound check r.found before after → SharedBounds (runs ++ run_if check r) bounds after
  bounds_next (Ok _) bounds before after s t = bounds_more pass bounds before after refl s t
  bounds_next (Err why) bounds before after s t = rw (append-nil runs, t.untouched why refl) s

pub table_shared : TableShared
unfolding largest_peak last_open rows_of
table_shared = record {
  none = λ table. record { long = refl; rows = refl; rest = refl };
  unchanged = λ table after s. s.rest;
  one_more = table_more;
  next = table_next;
  refused = λ runs r check why table before after no s t. rw (t.untouched why no) s;
}

pub bounds_shared : BoundsShared
unfolding largest_peak last_bounds
bounds_shared = record {
  none = λ bounds. record { long = refl; entries = refl; rest = refl };
  unchanged = λ bounds after s. s.rest;
  one_more = bounds_more;
  next = bounds_next;
  refused = λ runs r check why bounds before after no s t. rw (t.untouched why no) s;
}
