-- The boxes that are kept, moved together: the first rows of the table hold them in list order, with their bounds beside them. Assumes
-- nothing.
use mathlib.Core.Path.{◌≡◌, refl, sym, ap, subst, ◌∙◌}
use mathlib.Core.Bool.{Bool, true, false, cond}
use mathlib.Core.List.{List, append-nil, map, map-append}
use Prim.Native.Nat.{ℕ, ◌*◌, ◌≤◌, ◌<◌, min, max}
use native.Mathlib.Omega.{arith}
use lib.Dec.{T}
use lib.IntN.{ℤ}
use lib.ListN.{length, take, drop, length-map}
use lib.Seq.{take_all}
use borrow.Author.Tests.{lt-ltb, ltb-false}
use Rattle.boxes.specs.declared.Box.{Box}
use Rattle.boxes.specs.Split.{zero_box}
use Rattle.list_rows.specs.Rows.{row_at, rows_of}
use Rattle.list_rows.proofs.Rows.{rest_later, rows_at}
use Rattle.list_first_smallest.specs.FirstSmallest.{entry_at}
use Rattle.list_blocks.specs.Blocks.{gone}
use Rattle.incumbent.specs.declared.Mark.{Mark}
use Rattle.list_open_boxes.specs.OpenBoxes.{kept_at, picked, room_in, Held, kept_boxes, kept_numbers}
use Rattle.list_open_boxes.proofs.Picking.{picked_all, picked_kept, picked_map}
use Rattle.list_open_boxes.proofs.Listing.{all_rows}
use Rattle.certificate.specs.Search.{ahead, keep_if, keeps}
use Rattle.certificate.proofs.Ahead.{ahead_le}
use Rattle.certificate.proofs.Lists.{all-at, append_kept, length_kept, passed_kept}
use Rattle.list_blocks.specs.declared.Blocks.{Blocks}
use Rattle.list_running.specs.declared.Listing.{Listing}
use Rattle.list_running.specs.Listing.{open_at, open_rows, SettledBy, Listed}
use Rattle.list_running.proofs.Entries.{entry_is}

-- what is above the cost is not ahead
not_ahead : (t c : ℕ) (best : List ℤ) (a : ℕ) (x : List ℤ) → c < a → ahead t c best a x ≡ false
not_ahead t c best a x above = by (ahead t c best a x) refl
  where
    by : (b : Bool) → ahead t c best a x ≡ b → b ≡ false
    by true e = absurd (omega (arith, ahead_le t c best a x (subst T (sym e) tt)))
    by false e = refl

-- Where all boxes stand that are kept: u and e were the table t and its entries d, of which the first n were in use.
pub record Together
    (bound : Box → ℕ) (t : List ℤ) (d : List ℕ) (n : ℕ) (kept : List Box) (a : Listing) (u : List ℤ) (e : List ℕ) : Type 0
  where
    pub none_late : a.late ≡ 0
    pub number : a.rows ≡ length kept
    pub rows : rows_of u a.rows ≡ kept
    pub entries : take a.rows e ≡ map bound kept
    pub long : length u ≡ length t
    pub long_entries : length e ≡ length d
    pub rest : (k : ℕ) → n ≤ k → a.rows ≤ k → drop (16 * k) u ≡ drop (16 * k) t
    pub rest_entries : (k : ℕ) → n ≤ k → a.rows ≤ k → drop k e ≡ drop k d

module _
    (bound : Box → ℕ) (t : List ℤ) (d : List ℕ) (l : Blocks) (v : List ℤ) (f : List ℕ) (g : Listing) (list : List Box)
    (h : Listed bound t d l v f g list) (mark : Mark) (below : mark.cost < gone)
  where
    abbrev keep : Box → Bool
    keep = keeps bound mark.t mark.cost mark.best

    abbrev kept : List Box
    kept = keep_if keep list

    late_entry : (k : ℕ) → k < g.late → entry_at f k ≡ bound (row_at v k)
    late_entry = entry_is bound v f g.late h.late_bounds

    -- the entries decide, and that of a row that is gone drops it
    rows_decide : (k : ℕ) → k < g.rows → kept_at t d mark k ≡ cond (open_at d k) (keep (row_at t k)) false
    rows_decide k less = go (open_at d k) refl
      where
        go : (b : Bool) → open_at d k ≡ b → kept_at t d mark k ≡ cond b (keep (row_at t k)) false
        go true opens = rw (h.bounds k less opens)
        go false shut =
            let past = ltb-false (entry_at d k) gone shut in
            not_ahead mark.t mark.cost mark.best (entry_at d k) (row_at t k).low (omega arith)

    rows_entry : (k : ℕ) → k < g.rows → kept_at t d mark k ≡ true → entry_at d k ≡ bound (row_at t k)
    rows_entry k less keeps-it = h.bounds k less (opened (open_at d k) (sym (rows_decide k less) ∙ keeps-it))
      where
        opened : (b : Bool) → cond b (keep (row_at t k)) false ≡ true → b ≡ true
        opened true x = refl
        opened false x = x

    -- what is picked by the entries is what is kept of the list, with the bounds
    pub boxes_are : kept_boxes t d g.rows v f g.late mark ≡ kept
    boxes_are =
        rw (
          picked_kept keep (row_at t) (kept_at t d mark) (open_at d) g.rows rows_decide,
          picked_kept keep (row_at v) (kept_at v f mark) (λ k. true) g.late (λ k less. rw (late_entry k less)),
          all_rows v g.late,
        )
        (sym (append_kept keep (open_rows t d g.rows) (rows_of v g.late)) ∙ ap (keep_if keep) h.is)

    numbers_are : kept_numbers t d g.rows v f g.late mark ≡ map bound kept
    numbers_are =
        rw (
          picked_map bound (row_at t) (entry_at d) (kept_at t d mark) g.rows rows_entry,
          picked_map bound (row_at v) (entry_at f) (kept_at v f mark) g.late (λ k less x. late_entry k less),
        )
        (sym (map-append bound (picked (row_at t) (kept_at t d mark) g.rows) (picked (row_at v) (kept_at v f mark) g.late))
        ∙ ap (map bound) boxes_are)

    module _ (room : length list ≤ room_in t d) (a : Listing) (u : List ℤ) (e : List ℕ) (m : Blocks) (by : SettledBy t d l v f g mark a u e m)
      where
        few : length kept ≤ room_in t d
        few = omega (arith, length_kept keep list)

        held : Held t d (max g.rows a.rows) kept (map bound kept) a.rows u e
        held =
            let rows_all : min g.rows (room_in t d) ≡ g.rows = omega (arith, h.room) in
            let late_all : min g.late (room_in v f) ≡ g.late = omega (arith, h.late_room) in
            let few_entries : length (map bound kept) ≤ room_in t d = omega (arith, few, length-map kept bound) in
            rw (
              rows_all,
              late_all,
              boxes_are,
              numbers_are,
              take_all (room_in t d) kept few,
              take_all (room_in t d) (map bound kept)
                  few_entries,
            )
            at by.held

        pub settled_together : Together bound t d g.rows kept a u e
        settled_together =
            record {
              none_late = ap (λ (x : Listing). x.late) by.sizes;
              number = held.told;
              rows = held.rows;
              entries = held.entries;
              long = held.long;
              long_entries = held.long_entries;
              rest = λ k x y. rest_later t u (16 * max g.rows a.rows) (16 * k) (omega arith) held.rest;
              rest_entries = λ k x y. rest_later d e (max g.rows a.rows) k (omega arith) held.rest_entries;
            }

        -- every row is open
        all_open : (k : ℕ) → k < a.rows → open_at e k ≡ true
        all_open k less =
            let own = entry_is bound u e a.rows (held.entries ∙ ap (map bound) (sym held.rows)) k less in
            let there : k < length kept = omega (arith, held.told) in
            let passes = rw (← held.rows, rows_at u a.rows k zero_box less) at (all-at zero_box (passed_kept keep list) k there) in
            lt-ltb (entry_at e k) gone
            (omega (arith, own, ahead_le mark.t mark.cost mark.best (bound (row_at u k)) (row_at u k).low passes))

        pub settled : Listed bound u e m v f a kept
        unfolding rows_of
        settled =
            let none = ap (λ (x : Listing). x.late) by.sizes in
            let all : min a.rows (length e) ≡ a.rows = omega (arith, held.told, few, held.long_entries) in
            record {
              is =
                  rw none
                  (append-nil (open_rows u e a.rows)
                  ∙ picked_all (row_at u) (open_at e) a.rows all_open
                  ∙ all_rows u a.rows
                  ∙ held.rows);
              number = ap (λ (x : Listing). x.number) by.sizes ∙ held.told;
              bounds = λ k less opens. entry_is bound u e a.rows (held.entries ∙ ap (map bound) (sym held.rows)) k less;
              late_bounds = rw none;
              room = omega (arith, held.told, few, held.long, held.long_entries);
              late_room = omega arith;
              blocked = rw all at by.leasts.blocked;
              near =
                  rw (none, ap (λ (x : Listing). x.near) by.sizes)
                  (record { empty = λ x. refl; place = λ x. absurd (omega arith); lowest = λ x. absurd (omega arith) });
            }
