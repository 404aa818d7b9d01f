-- A box that is put behind the late ones, if it is kept. Assumes nothing.
use mathlib.Core.Path.{◌≡◌, refl, sym, ap, ◌∙◌}
use mathlib.Core.Bool.{Bool, true, false, cond}
use mathlib.Core.List.{List, [], ◌∷◌, ◌++◌, append_assoc, append-nil, map, map-append}
use mathlib.Core.Logic.{⊎_elim}
use Prim.Native.Nat.{ℕ, ◌+◌, ◌≤◌, ◌<◌}
use native.Mathlib.Numerals.{add-one}
use native.Mathlib.Omega.{arith}
use lib.Dec.{ltb}
use lib.IntN.{ℤ}
use lib.ListN.{length, set, length-append, length-set}
use lib.Seq.{get_or-set_same, get_or-set_other, take-suc-set}
use borrow.Author.Tests.{ltb-true, ltb-false}
use Rattle.integers.proofs.Tests.{le_or_lt}
use Rattle.boxes.specs.declared.Box.{Box}
use Rattle.list_rows.specs.Rows.{rows_of, with_row}
use Rattle.list_rows.proofs.Rows.{Whole, length_with, rows_with}
use Rattle.list_first_smallest.specs.declared.Lowest.{Lowest}
use Rattle.list_first_smallest.specs.FirstSmallest.{entry_at, FirstLeast, LowestOf}
use Rattle.list_blocks.specs.Blocks.{gone}
use Rattle.list_open_boxes.specs.OpenBoxes.{room_in}
use Rattle.list_blocks.specs.declared.Blocks.{Blocks}
use Rattle.list_running.specs.declared.Listing.{Listing}
use Rattle.list_running.specs.Listing.{open_rows, nearer, with_late, Listed}

-- one more number
module _ (f : List ℕ) (m x : ℕ) (there : m < length f) where
  abbrev more : List ℕ
  more = set f m x

  same : (k : ℕ) → k < m → entry_at more k ≡ entry_at f k
  same k less = get_or-set_other f m k x 0 (λ e. absurd (omega arith))

  new : entry_at more m ≡ x
  new = get_or-set_same f m x 0 there

  -- which is smaller than all
  new_least : ((k : ℕ) → k < m → x < entry_at f k) → FirstLeast more (m + 1) m
  new_least smaller =
      let before : (k : ℕ) → k < m → entry_at more m < entry_at more k = λ k less. omega (arith, new, same k less, smaller k less) in
      record {
        inside = omega arith;
        none_smaller = λ k less.
            ⊎_elim
            (λ (last : m ≤ k). let e : k ≡ m = omega arith in rw e (omega arith))
            (λ (early : k < m). omega (arith, before k early))
            (le_or_lt m k);
        first = before;
      }

  -- or not
  old_least : (at : ℕ) → FirstLeast f m at → entry_at f at ≤ x → FirstLeast more (m + 1) at
  old_least at h no-smaller =
      let own = same at h.inside in
      record {
        inside = omega (arith, h.inside);
        none_smaller = λ k less.
            ⊎_elim
            (λ (last : m ≤ k). let e : k ≡ m = omega arith in rw e (omega (arith, own, new)))
            (λ (early : k < m). omega (arith, own, same k early, h.none_smaller k early))
            (le_or_lt m k);
        first = λ k less. let early : k < m = omega (arith, h.inside) in omega (arith, own, same k early, h.first k less);
      }

  pub near_more : (near : Lowest) → LowestOf f m gone near → x < gone → LowestOf more (m + 1) gone (nearer near m x)
  near_more near h small = by (ltb x near.bound) refl
    where
      by : (b : Bool) → ltb x near.bound ≡ b → LowestOf more (m + 1) gone (cond b (record { at = m; bound = x }) near)
      by true e =
          let less = ltb-true x near.bound e in
          record {
            empty = λ z. absurd (omega arith);
            place = λ some.
                new_least
                (λ k early. let old : 1 ≤ m = omega arith in omega (arith, h.lowest old, (h.place old).none_smaller k early));
            lowest = λ some. sym new;
          }
      by false e =
          let least = ltb-false x near.bound e in
          let old : 1 ≤ m =
          ⊎_elim (λ (h₁ : 1 ≤ m). h₁)
          (λ (none : m < 1). absurd (omega (arith, ap (λ (y : Lowest). y.bound) (h.empty (omega arith)))))
          (le_or_lt 1 m)
          in
          let at = near.at in
          record {
            empty = λ z. absurd (omega arith);
            place = λ some. old_least at (h.place old) (omega (arith, h.lowest old));
            lowest = λ some. h.lowest old ∙ sym (same at (h.place old).inside);
          }

module _
    (bound : Box → ℕ) (t : List ℤ) (d : List ℕ) (l : Blocks) (v : List ℤ) (f : List ℕ) (g : Listing) (list : List Box)
    (h : Listed bound t d l v f g list) (b : Box) (x : ℕ) (w : Whole b) (room : g.late < room_in v f)
  where
    pub added :
        (kept : Bool) → (kept ≡ true → x ≡ bound b) → (kept ≡ true → x < gone) →
        Listed bound t d l (cond kept (with_row v g.late b) v) (cond kept (set f g.late x) f) (cond kept (with_late g x) g)
        (list ++ cond kept (b ∷ []) [])
    added false exact small = rw (append-nil list) h
    added true exact small =
        let m = g.late in
        let rows = open_rows t d g.rows in
        let more = rows_with v m b (omega arith) w in
        record {
          is = rw more (sym (append_assoc rows (rows_of v m) (b ∷ [])) ∙ ap (λ (y : List Box). y ++ (b ∷ [])) h.is);
          number = omega (arith, h.number, length-append list (b ∷ []));
          bounds = h.bounds;
          late_bounds =
              rw (add-one, take-suc-set f m x (omega arith), h.late_bounds, exact refl)
              (sym (map-append bound (rows_of v m) (b ∷ [])) ∙ ap (map bound) (sym (rw add-one at more)));
          room = h.room;
          late_room = omega (arith, length_with v m b w, length-set f m x);
          blocked = h.blocked;
          near = near_more f m x (omega arith) g.near h.near (small refl);
        }
