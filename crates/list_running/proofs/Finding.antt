-- What is found is the first box of the list with the smallest bound, and L is that bound. Assumes nothing.
use mathlib.Core.Path.{◌≡◌, refl, sym, ap, ◌∙◌}
use mathlib.Core.Bool.{Bool, true, false, cond}
use mathlib.Core.List.{List, [], ◌∷◌, ◌++◌, append_assoc}
use mathlib.Core.Logic.{⊎_elim}
use Prim.Native.Nat.{ℕ, ◌≤◌, ◌<◌, min}
use native.Mathlib.Omega.{arith}
use lib.Dec.{ltb, eqb}
use lib.IntN.{ℤ}
use lib.ListN.{length, set, length-append}
use borrow.Author.Tests.{lt-ltb, ltb-true, ltb-false, eqb-true, eqb-false}
use Rattle.integers.specs.Lists.{All}
use Rattle.integers.proofs.Lists.{all_tail, all_map, all_append, append-all}
use Rattle.integers.proofs.Tests.{le_or_lt}
use Rattle.boxes.specs.declared.Box.{Box}
use Rattle.boxes.specs.Split.{zero_box}
use Rattle.list_rows.specs.Rows.{row_at, rows_of}
use Rattle.list_first_smallest.specs.declared.Lowest.{Lowest}
use Rattle.list_first_smallest.specs.FirstSmallest.{entry_at, FirstLeast}
use Rattle.list_blocks.specs.declared.Spot.{Spot}
use Rattle.list_blocks.specs.Blocks.{gone, SpotOf}
use Rattle.list_open_boxes.specs.OpenBoxes.{others_than, picked}
use Rattle.list_open_boxes.proofs.Picking.{all_picked, Parted, parted}
use Rattle.list_open_boxes.proofs.Listing.{all_rows}
use Rattle.list_open_boxes.proofs.Choosing.{chosen_lowest, chosen_first, chosen_box, chosen_left}
use Rattle.certificate.specs.Search.{lower_bound, first_smallest, box_at, without}
use Rattle.certificate.proofs.Lists.{all-at}
use Rattle.list_running.specs.declared.Found.{Found}
use Rattle.list_running.specs.declared.Found.TheVariants.{Row, Late}
use Rattle.list_blocks.specs.declared.Blocks.{Blocks}
use Rattle.list_running.specs.declared.Listing.{Listing}
use Rattle.list_running.specs.Listing.{is_late, spot_in, open_at, open_rows, box_in, left_of, FoundBy, Listed, Chosen}
use Rattle.list_blocks.proofs.Smallest.{spot_none, spot_first}
use Rattle.list_running.proofs.Entries.{entry_is, one_answer, open_others}

-- L, and the box that has it
pub record Lowest-of
    (bound : Box → ℕ) (t : List ℤ) (d : List ℕ) (l : Blocks) (v : List ℤ) (g : Listing) (list : List Box) (c : ℕ) (r : Found) : Type 0
  where
    pub lowest : (spot_in r).bound ≡ lower_bound bound c list
    pub chosen : 1 ≤ length list → Chosen bound t d l v g list r

module _
    (bound : Box → ℕ) (t : List ℤ) (d : List ℕ) (l : Blocks) (v : List ℤ) (f : List ℕ) (g : Listing) (list : List Box)
    (h : Listed bound t d l v f g list)
  where
    abbrev rows : List Box
    rows = open_rows t d g.rows

    abbrev late : List Box
    late = rows_of v g.late

    abbrev near_found : Found
    near_found = Late g.near

    abbrev far_found : Spot → Found
    far_found far = Row far

    -- a box between two parts of the list
    module _ (xs ys : List Box) (b : Box) (parts : list ≡ xs ++ (b ∷ ys))
        (before : All (λ x. bound b < bound x) xs) (behind : All (λ x. bound b ≤ bound x) ys)
        (c : ℕ) (r : Found) (box-is : b ≡ box_in t v r) (left_is : xs ++ ys ≡ left_of t d v g r) (exact : (spot_in r).bound ≡ bound b)
        (row : is_late r ≡ false → (spot_in r).at < g.rows) (spot : is_late r ≡ false → SpotOf l (spot_in r))
      where
        place : first_smallest bound list ≡ length xs
        place = ap (first_smallest bound) parts ∙ chosen_first bound b ys behind xs before

        between : Lowest-of bound t d l v g list c r
        between =
            record {
              lowest = exact ∙ sym (ap (lower_bound bound c) parts ∙ chosen_lowest bound b ys behind c xs before);
              chosen = λ some.
                  record {
                    box = ap (box_at list) place ∙ ap (λ (x : List Box). box_at x (length xs)) parts ∙ chosen_box b ys xs ∙ box-is;
                    left = ap (without list) place ∙ ap (λ (x : List Box). without x (length xs)) parts ∙ chosen_left b ys xs ∙ left_is;
                    inside = omega (arith, place, ap (λ (x : List Box). length x) parts, length-append xs (b ∷ ys));
                    exact = exact ∙ ap bound box-is;
                    row = row;
                    spot = spot;
                  };
            }

    module _ (small : All (λ b. bound b < gone) list) (far : Spot) (far_is : SpotOf l far) where
      -- no open row has a smaller bound than the far one, and no late box a smaller one than the near one
      rows_above : All (λ b. far.bound ≤ bound b) rows
      rows_above =
          all_picked (row_at t) (open_at d) g.rows
          (λ k less opens.
          let first = spot_first d g.rows l far (omega (arith, h.room)) (omega arith) h.blocked far_is in
          omega (arith, h.bounds k less opens, first.1, first.0.none_smaller k less))

      late_entry : (k : ℕ) → k < g.late → entry_at f k ≡ bound (row_at v k)
      late_entry = entry_is bound v f g.late h.late_bounds

      late_first : 1 ≤ g.late → FirstLeast f g.late g.near.at
      late_first = h.near.place

      late_above : All (λ b. g.near.bound ≤ bound b) late
      late_above =
          rw (← all_rows v g.late)
          (all_picked (row_at v) (λ k. true) g.late
          (λ k less opens.
          let some : 1 ≤ g.late = omega arith in
          omega (arith, late_entry k less, h.near.lowest some, (late_first some).none_smaller k less)))

      -- where there is a box, one of the two is below gone
      least_small : 1 ≤ length list → min g.near.bound far.bound < gone
      least_small some =
          let least : All (λ b. min g.near.bound far.bound ≤ bound b) list =
          rw (← h.is) (all_append (all_map (λ b less. omega arith) rows_above) (all_map (λ b less. omega arith) late_above)) in
          omega (arith, all-at zero_box least 0 (omega arith), all-at zero_box small 0 (omega arith))

      module _ (c : ℕ) (some : 1 ≤ length list) where
        -- The near one is a late box.
        module _ (less : g.near.bound < far.bound) where
          abbrev near_box : Box
          near_box = row_at v g.near.at

          abbrev late_before : List Box
          late_before = picked (row_at v) (λ k. true) g.near.at

          some_late : 1 ≤ g.late
          some_late =
              ⊎_elim
              (λ (one : 1 ≤ g.late). one)
              (λ (empty : g.late < 1).
              absurd (omega (arith, least_small some, ap (λ (x : Lowest). x.bound) (h.near.empty (omega arith)))))
              (le_or_lt 1 g.late)

          near_inside : g.near.at < g.late
          near_inside = (late_first some_late).inside

          near_own : g.near.bound ≡ bound near_box
          near_own = h.near.lowest some_late ∙ late_entry g.near.at near_inside

          near_parted : Parted (row_at v) (λ k. true) (others_than g.near.at) g.near.at g.late
          near_parted = parted (row_at v) (λ k. true) (others_than g.near.at) g.near.at g.late near_inside refl (λ k l. refl)

          late_parts : late ≡ late_before ++ (near_box ∷ near_parted.rest)
          late_parts = sym (all_rows v g.late) ∙ near_parted.whole

          late_behind : All (λ b. g.near.bound ≤ bound b) (near_box ∷ near_parted.rest)
          late_behind = (append-all late_before (rw late_parts at late_above)).1

          found_late : Lowest-of bound t d l v g list c near_found
          found_late =
              between (rows ++ late_before) near_parted.rest near_box
              (sym h.is
              ∙ ap (λ (x : List Box). rows ++ x) late_parts
              ∙ sym (append_assoc rows late_before (near_box ∷ near_parted.rest)))
              (all_append (all_map (λ b x. omega (arith, near_own)) rows_above)
              (all_picked (row_at v) (λ k. true) g.near.at
              (λ k l x.
              let inside : k < g.late = omega (arith, near_inside) in
              omega (arith, near_own, h.near.lowest some_late, (late_first some_late).first k l, late_entry k inside))))
              (all_map (λ b x. omega (arith, near_own)) (all_tail late_behind))
              c near_found refl
              (append_assoc rows late_before near_parted.rest ∙ ap (λ (x : List Box). rows ++ x) (sym near_parted.left))
              near_own (λ e. absurd (one_answer e)) (λ e. absurd (one_answer e))

        -- The far one is an open row.
        module _ (less : far.bound ≤ g.near.bound) where
          abbrev far_box : Box
          far_box = row_at t far.at

          abbrev rows_before : List Box
          rows_before = picked (row_at t) (open_at d) far.at

          some_row : 1 ≤ g.rows
          some_row =
              ⊎_elim
              (λ (one : 1 ≤ g.rows). one)
              (λ (empty : g.rows < 1).
              let zero : g.rows ≡ 0 = omega arith in
              absurd (omega (arith, least_small some, spot_none d l far (rw zero at h.blocked) far_is)))
              (le_or_lt 1 g.rows)

          far_first : FirstLeast d g.rows far.at × (far.bound ≡ entry_at d far.at)
          far_first = spot_first d g.rows l far (omega (arith, h.room)) some_row h.blocked far_is

          far_inside : far.at < g.rows
          far_inside = far_first.0.inside

          far_open : open_at d far.at ≡ true
          far_open = lt-ltb (entry_at d far.at) gone (omega (arith, far_first.1, least_small some))

          far_own : far.bound ≡ bound far_box
          far_own = far_first.1 ∙ h.bounds far.at far_inside far_open

          far_parted : Parted (row_at t) (open_at d) (open_at (set d far.at gone)) far.at g.rows
          far_parted =
              parted (row_at t) (open_at d) (open_at (set d far.at gone)) far.at g.rows far_inside far_open
              (λ k l. open_others d far.at (omega (arith, far_inside, h.room)) k)

          rows_behind : All (λ b. far.bound ≤ bound b) (far_box ∷ far_parted.rest)
          rows_behind = (append-all rows_before (rw far_parted.whole at rows_above)).1

          found_row : Lowest-of bound t d l v g list c (far_found far)
          found_row =
              between rows_before (far_parted.rest ++ late) far_box
              (sym h.is
              ∙ ap (λ (x : List Box). x ++ late) far_parted.whole
              ∙ append_assoc rows_before (far_box ∷ far_parted.rest) late)
              (all_picked (row_at t) (open_at d) far.at
              (λ k l x.
              let listed : k < g.rows = omega (arith, far_inside) in
              omega (arith, far_own, far_first.1, far_first.0.first k l, h.bounds k listed x)))
              (all_append (all_map (λ b x. omega (arith, far_own)) (all_tail rows_behind))
              (all_map (λ b x. omega (arith, far_own)) late_above))
              c (far_found far) refl
              (sym (append_assoc rows_before far_parted.rest late) ∙ ap (λ (x : List Box). x ++ late) (sym far_parted.left))
              far_own (λ e. far_inside) (λ e. far_is)

    pub found : All (λ b. bound b < gone) list → (c : ℕ) (r : Found) → FoundBy l g c r → Lowest-of bound t d l v g list c r
    unfolding lower_bound
    found small c r by = rw by.is (none_open (eqb g.number 0) refl)
      where
        nearer : 1 ≤ length list → (b : Bool) → ltb g.near.bound by.far.bound ≡ b →
            Lowest-of bound t d l v g list c (cond b near_found (far_found by.far))
        nearer some true e = found_late small by.far by.far_is c some (ltb-true g.near.bound by.far.bound e)
        nearer some false e = found_row small by.far by.far_is c some (ltb-false g.near.bound by.far.bound e)

        empty : (xs : List Box) → length xs ≡ 0 → lower_bound bound c xs ≡ c
        empty [] e = refl
        empty (x ∷ xs) e = absurd (omega arith)

        none_open : (b : Bool) → eqb g.number 0 ≡ b →
            Lowest-of bound t d l v g list c
            (cond b (Row (record { at = 0; block = 0; bound = c }))
            (cond (ltb g.near.bound by.far.bound) near_found (far_found by.far)))
        none_open true e =
            let zero : length list ≡ 0 = sym h.number ∙ eqb-true g.number 0 e in
            record { lowest = sym (empty list zero); chosen = λ some. absurd (omega arith) }
        none_open false e =
            let ne = eqb-false g.number 0 e in
            nearer (omega (arith, h.number)) (ltb g.near.bound by.far.bound) refl
