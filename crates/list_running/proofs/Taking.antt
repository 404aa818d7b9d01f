-- The list without the box that was found. Assumes nothing.
use mathlib.Core.Path.{◌≡◌, refl, sym, ap, ◌∙◌}
use mathlib.Core.Bool.{Bool, true, false, cond}
use mathlib.Core.List.{List, map}
use Prim.Native.Nat.{ℕ, suc, ◌≤◌, ◌<◌, min}
use native.Mathlib.Omega.{arith}
use lib.Dec.{eqb}
use lib.IntN.{ℤ}
use lib.ListN.{length, set, take, drop, length-append, length-take, length-drop, length-set}
use lib.Seq.{get_or-set_other}
use borrow.Author.Tests.{eqb-false}
use Rattle.boxes.specs.declared.Box.{Box}
use Rattle.list_rows.specs.Rows.{row_at}
use Rattle.list_first_smallest.specs.FirstSmallest.{entry_at}
use Rattle.list_blocks.specs.Blocks.{gone}
use Rattle.list_open_boxes.specs.OpenBoxes.{others_than, room_in}
use Rattle.list_open_boxes.proofs.Picking.{picked_map}
use Rattle.certificate.specs.Search.{first_smallest, without}
use Rattle.list_running.specs.declared.Found.{Found}
use Rattle.list_blocks.specs.declared.Blocks.{Blocks}
use Rattle.list_running.specs.declared.Listing.{Listing}
use Rattle.list_running.specs.Listing.{is_late, spot_in, open_at, TakenBy, Listed, Chosen}
use Rattle.list_blocks.proofs.Smallest.{spot_taken}
use Rattle.list_running.proofs.Entries.{entry_is, one_answer, open_others}

module _
    (bound : Box → ℕ) (t : List ℤ) (d : List ℕ) (l : Blocks) (v : List ℤ) (f : List ℕ) (g : Listing) (list : List Box)
    (h : Listed bound t d l v f g list) (r : Found) (chosen : Chosen bound t d l v g list r)
    (a : Listing) (e : List ℕ) (m : Blocks) (w : List ℤ) (k : List ℕ) (by : TakenBy d l v f g r a e m w k)
  where
    abbrev left : List Box
    left = without list (first_smallest bound list)

    same_rows : a.rows ≡ g.rows
    same_rows = ap (λ (x : Listing). x.rows) by.sizes

    -- one less
    number : a.number ≡ length left
    number =
        let at = first_smallest bound list in
        omega (
          arith,
          ap (λ (x : Listing). x.number) by.sizes,
          h.number,
          chosen.inside,
          length-append (take at list) (drop (suc at) list),
          length-take at list,
          length-drop (suc at) list,
        )

    late_all : min g.late (room_in v f) ≡ g.late
    late_all = omega (arith, h.late_room)

    rows_all : min g.rows (length d) ≡ g.rows
    rows_all = omega (arith, h.room)

    late_taken : is_late r ≡ true → Listed bound t e m w k a left
    late_taken is =
        let same = by.late_same is in
        let held = rw late_all at (by.late_held is) in
        let others = others_than (spot_in r).at in
        let few : a.late ≤ length k = omega (arith, held.few, held.long_entries, h.late_room) in
        let all : min a.late (length k) ≡ a.late = omega arith in
        rw (same.0, same.1)
        (record {
          is = rw (same_rows, held.rows) (sym (rw is at chosen.left));
          number = number;
          bounds = rw same_rows h.bounds;
          late_bounds =
              held.entries
              ∙ picked_map bound (row_at v) (entry_at f) others g.late (λ j less x. entry_is bound v f g.late h.late_bounds j less)
              ∙ ap (map bound) (sym held.rows);
          room = rw same_rows h.room;
          late_room = omega (arith, held.few, held.long, held.long_entries, h.late_room);
          blocked = rw same_rows h.blocked;
          near = rw all at (by.late_near is);
        })

    row_taken : is_late r ≡ false → Listed bound t e m w k a left
    row_taken is =
        let same = by.row_same is in
        let away = rw rows_all at (by.row_gone is) in
        let at = (spot_in r).at in
        let inside : at < length d = omega (arith, chosen.row is, h.room) in
        let longs : length e ≡ length d = ap (λ (x : List ℕ). length x) away.entries ∙ length-set d at gone in
        rw (same.1.1.0, same.1.1.1)
        (record {
          is = rw (same_rows, same.0, away.entries) (sym (rw is at chosen.left));
          number = number;
          bounds = λ j less opens. still_there inside away.entries j (omega (arith, same_rows)) opens;
          late_bounds = rw same.0 h.late_bounds;
          room = omega (arith, same_rows, longs, h.room);
          late_room = omega (arith, same.0, h.late_room);
          blocked =
              rw same_rows
              (spot_taken d g.rows l (spot_in r) (omega (arith, h.room)) (omega (arith, chosen.row is)) h.blocked
              (chosen.spot is) e m away);
          near = rw (same.0, same.1.0) h.near;
        })
      where
        -- a row that is still open is another one
        still_there :
            (spot_in r).at < length d → e ≡ set d (spot_in r).at gone → (j : ℕ) → j < g.rows → open_at e j ≡ true →
            entry_at e j ≡ bound (row_at t j)
        still_there inside is j less opens = go (eqb j at) refl
          where
            at : ℕ
            at = (spot_in r).at

            tested : cond (eqb j at) false (open_at d j) ≡ true
            tested = sym (open_others d at inside j) ∙ rw is at opens

            go : (b : Bool) → eqb j at ≡ b → entry_at e j ≡ bound (row_at t j)
            go true same = absurd (one_answer (sym (rw same at tested)))
            go false other = rw is (get_or-set_other d at j gone 0 (eqb-false j at other)) ∙ h.bounds j less (rw other at tested)

    pub taken : Listed bound t e m w k a left
    taken = by_late (is_late r) refl
      where
        by_late : (b : Bool) → is_late r ≡ b → Listed bound t e m w k a left
        by_late true is = late_taken is
        by_late false is = row_taken is
