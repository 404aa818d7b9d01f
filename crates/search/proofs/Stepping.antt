-- The split of the definition, by how the list is held: what remains is what is kept of the others, and the halves of the box that was
-- found. Assumes nothing.
use mathlib.Core.Path.{◌≡◌, refl, sym, ap, subst, ◌∙◌}
use Rattle.std.specs.Prelude.{Option, Some, None, is_none}
use mathlib.Core.Bool.{Bool, true, false, cond}
use mathlib.Core.List.{List, [], ◌∷◌}
use mathlib.Core.Logic.{⊎_elim}
use Prim.Native.Nat.{ℕ, suc, ◌+◌, ◌*◌, ◌≤◌, ◌<◌, min, max}
use native.Mathlib.Numerals.{add-one}
use native.Mathlib.Omega.{arith}
use lib.Dec.{ltb, leb}
use lib.IntN.{ℤ}
use lib.ListN.{length, length-append}
use borrow.Author.Tests.{leb-true, leb-false, le-ltb, lt-ltb}
use Rattle.integers.specs.Lists.{All}
use Rattle.integers.proofs.Tests.{by_test, le_or_lt}
use Rattle.boxes.specs.declared.Box.{Box}
use Rattle.boxes.specs.Split.{zero_box}
use Rattle.certificate.specs.Search as Search
use Rattle.certificate.specs.Search.{keep_if, first_smallest, without, split}
use Rattle.certificate.proofs.Lists.{sum, append_kept, length_kept, takes_at, takes_all, takes_sum}
use Rattle.incumbent.specs.declared.Child.{Child}
use Rattle.incumbent.specs.declared.Mark.{Mark}
use Rattle.incumbent.specs.Incumbent.{ahead_of, kept_by, Tested}
use Rattle.branching.specs.declared.Branches.{Branches}
use Rattle.branching.specs.Branching.{Cut}
use Rattle.list_rows.specs.Rows.{row_count, row_at}
use Rattle.list_rows.proofs.Rows.{Whole, rest_later}
use Rattle.list_open_boxes.specs.OpenBoxes.{kept_at, picked, room_in}
use Rattle.list_open_boxes.proofs.Picking.{picked_length}
use Rattle.list_running.specs.declared.Found.{Found}
use Rattle.list_running.specs.declared.Listing.{Listing}
use Rattle.list_running.specs.Listing.{spot_in}
use Rattle.list_running.proofs.Entries.{one_answer}
use Rattle.list_running.proofs.Settling.{boxes_are}
use Rattle.replacing.specs.Replacing.{Memory, list_in, box_found, more_of, kept_number, too_many, Replaceable, remaining, ReplacedBy}
use Rattle.replacing.specs.Replacing.{ReplacedIn}
use Rattle.replacing.proofs.Replacing.{all_kept, replaced}
use Rattle.search.specs.declared.step.State.{State}
use Rattle.search.specs.Inside.{state_in, Steppable, Moved, StepOutcome}

-- what is there is one thing
some_same : {A : Type 0} (x y : A) → Some x ≡ Some y → x ≡ y
some_same x y e = cc

-- how many are kept, one by one
count_kept : (keep : Box → Bool) (bs : List Box) → sum (λ b. cond (keep b) 1 0) bs ≡ length (keep_if keep bs)
count_kept keep [] = refl
count_kept keep (b ∷ bs) =
    let rest = count_kept keep bs in
    by_test (keep b) (b ∷ keep_if keep bs) (keep_if keep bs)
    (λ (xs : List Box). cond (keep b) 1 0 + sum (λ b. cond (keep b) 1 0) bs ≡ length xs)
    (λ e. rw e (omega arith))
    (λ e. rw e (omega arith))

-- the same number on both sides of a test
shifted : (a x c y : ℕ) → ltb (a + c) (x + c + y) ≡ ltb a (x + y)
shifted a x c y =
    ⊎_elim
    (λ (h : x + y ≤ a). le-ltb (a + c) (x + c + y) (omega arith) ∙ sym (le-ltb a (x + y) h))
    (λ (h : a < x + y). lt-ltb (a + c) (x + c + y) (omega arith) ∙ sym (lt-ltb a (x + y) h))
    (le_or_lt (x + y) a)

-- a tested half is tested as itself
as_itself : (bound : Box → ℕ) (keep : Box → Bool) (child : Child) {b : Box} → Tested bound keep b child → Tested bound keep child.half
    child
as_itself bound keep child s = record { half = refl; decided = rw s.half s.decided; exact = λ e. rw s.half (s.exact e) }

module _
    (cost : List ℤ → ℕ) (bound : Box → ℕ) (h : Memory) (s : State) (found : Found) (is : Steppable cost bound h s found) (br : Branches)
    (made : Cut cost bound (box_found h found) s.mark br)
  where
    abbrev g : Listing
    g = s.list

    abbrev list : List Box
    list = list_in h g

    abbrev at : ℕ
    at = first_smallest bound list

    abbrev rest : List Box
    rest = without list at

    abbrev mark : Mark
    mark = br.mark

    abbrev keep : Box → Bool
    keep = kept_by bound mark

    abbrev b : Box
    b = box_found h found

    abbrev rows : ℕ
    rows = row_count h.table

    abbrev kept : List Box
    kept = remaining bound br list

    abbrev after : Search.State
    after = split cost bound s.mark.t (state_in h s)

    -- the split, part by part
    split_is : after ≡ record { best = mark.best; list = kept; count = suc s.count; peak = max s.peak (length kept) }
    unfolding split
    split_is = rw (made.left.half, made.right.half, is.chosen.box, made.new)

    replaceable : rows < 1152921504606846976 → Replaceable bound h g found br
    replaceable small =
        record {
          listed = is.stands.listed;
          chosen = is.chosen;
          below = made.fits;
          stay = λ e. rw (made.same e) is.kept;
          left_tested = as_itself bound keep br.left made.left;
          right_tested = as_itself bound keep br.right made.right;
          room = omega (arith, is.room, is.entries);
          few = omega (arith, is.room);
          late = is.stands.late;
        }

    -- how many of the others are kept, and how many halves
    abbrev others : ℕ
    others = length (keep_if keep rest)

    halves : (x : Box) (k : Bool) → k ≡ keep x → length (keep_if keep (x ∷ [])) ≡ cond k 1 0
    halves x true e = rw (← e)
    halves x false e = rw (← e)

    remain : length kept ≡ others + more_of br
    remain =
        let left = br.left.half in
        let right = br.right.half in
        let two = left ∷ right ∷ [] in
        omega (
          arith,
          ap (λ (x : List Box). length x) (append_kept keep rest two),
          length-append (keep_if keep rest) (keep_if keep two),
          ap (λ (x : List Box). length x) (append_kept keep (left ∷ []) (right ∷ [])),
          length-append (keep_if keep (left ∷ [])) (keep_if keep (right ∷ [])),
          halves left br.left.kept (as_itself bound keep br.left made.left).decided,
          halves right br.right.kept (as_itself bound keep br.right made.right).decided,
        )

    -- whether the box that was found is kept itself: it is one more then
    abbrev own : Bool
    own = ahead_of mark (spot_in found).bound b.low

    own_is : own ≡ keep b
    own_is = ap (λ (x : ℕ). ahead_of mark x b.low) is.chosen.exact

    with_own : length (keep_if keep list) ≡ others + cond own 1 0
    with_own =
        omega (
          arith,
          takes_sum (λ x. cond (keep x) 1 0) (takes_at zero_box list at is.chosen.inside),
          count_kept keep list,
          count_kept keep rest,
          ap {B = ℕ} (λ (x : Box). cond (keep x) 1 0) is.chosen.box,
          ap {B = ℕ} (λ (x : Bool). cond x 1 0) own_is,
        )

    abbrev number : ℕ
    number = kept_number h.table h.bounds h.late h.beside g mark

    counted : number ≡ length (keep_if keep list)
    counted =
        let far = picked (row_at h.table) (kept_at h.table h.bounds mark) g.rows in
        let near = picked (row_at h.late) (kept_at h.late h.beside mark) g.late in
        let listed = is.stands.listed in
        let rows_all : min g.rows (room_in h.table h.bounds) ≡ g.rows = omega (arith, listed.room) in
        let late_all : min g.late (room_in h.late h.beside) ≡ g.late = omega (arith, listed.late_room) in
        rw (rows_all, late_all)
        (omega (
          arith,
          picked_length (row_at h.table) (kept_at h.table h.bounds mark) g.rows,
          picked_length (row_at h.late) (kept_at h.late h.beside mark) g.late,
          length-append far near,
          ap (λ (x : List Box). length x)
              (boxes_are bound h.table h.bounds h.blocks h.late h.beside g list listed mark made.fits),
        ))

    -- whether the table is too small
    room_told : too_many h.table h.bounds h.late h.beside g found br ≡ ltb rows (length after.list)
    unfolding too_many
    room_told = rw (split_is, le-ltb rows g.number is.room) (by (leb (g.number + more_of br) (rows + 1)) refl)
      where
        one_less : length list ≡ suc (length rest)
        one_less =
            omega (arith, takes_sum (λ x. 1) (takes_at zero_box list at is.chosen.inside), ones list, ones rest)
          where
            ones : (xs : List Box) → sum (λ x. 1) xs ≡ length xs
            ones [] = refl
            ones (x ∷ xs) = omega (arith, ones xs)

        exact : (a : Bool) → br.stays ≡ a → rows + 1 < g.number + more_of br →
            cond a true (ltb (rows + cond own 1 0) (number + more_of br)) ≡ ltb rows (length kept)
        exact true e many =
            let stay : All (λ x. keep x ≡ true) list = rw (made.same e) is.kept in
            let whole = all_kept keep (takes_all (takes_at zero_box list at is.chosen.inside) stay).1 in
            sym (lt-ltb rows (length kept)
            (omega (arith, remain, one_less, ap (λ (x : List Box). length x) whole, is.stands.listed.number)))
        exact false e many = rw (counted, with_own, remain) (shifted rows others (cond own 1 0) (more_of br))

        by : (x : Bool) → leb (g.number + more_of br) (rows + 1) ≡ x →
            cond x false (cond br.stays true (ltb (rows + cond own 1 0) (number + more_of br))) ≡ ltb rows (length kept)
        by true e =
            let few = leb-true (g.number + more_of br) (rows + 1) e in
            sym (le-ltb rows (length kept) (omega (arith, remain, one_less, length_kept keep rest, is.stands.listed.number)))
        by false e = exact br.stays refl (leb-false (g.number + more_of br) (rows + 1) e)

    module _ (r : Listing) (k : Memory) (out : ReplacedIn bound h g br r k) where
      step_moved :
          (count peak : ℕ) → count ≡ s.count + 1 → peak ≡ max s.peak r.number →
          Moved cost bound h s (record { mark = mark; list = r; count = count; peak = peak }) k
      step_moved count peak counts peaks =
          let listed = out.listed in
          let longest : max g.rows g.number ≤ peak = omega (arith, is.stands.few, is.longest) in
          record {
            stands =
                record {
                  marks = record { exact = rw made.new; fits = made.fits };
                  listed = rw (← listed.is) at listed;
                  few = omega (arith, out.rows);
                  late = out.late;
                };
            tolerance = rw made.new;
            state = rw (counts, peaks, listed.is, listed.number, add-one) (sym split_is);
            within =
                record {
                  long = out.within.long;
                  long_entries = out.within.long_entries;
                  rest = rest_later h.table k.table (16 * max g.rows g.number) (16 * peak) (omega arith) out.within.rest;
                  rest_entries = rest_later h.bounds k.bounds (max g.rows g.number) peak longest out.within.rest_entries;
                };
          }

    -- there is no room, and nothing changed
    pub step_full : (out : Option Listing) (k : Memory) → ReplacedBy h g found br out k → is_none out ≡ true
        → StepOutcome cost bound h s None k
    step_full out k by so =
        record {
          kept = λ e. by.kept so;
          told = sym so ∙ (by.told ∙ room_told);
          moved = λ after e. absurd (one_answer (ap is_none e));
        }

    -- the split is made
    pub step_done :
        (out : Option Listing) (k : Memory) → ReplacedBy h g found br out k → (n : Listing) → out ≡ Some n → Whole br.left.half →
        Whole br.right.half → rows < 1152921504606846976 → (count peak : ℕ) → count ≡ s.count + 1 → peak ≡ max s.peak n.number →
        StepOutcome cost bound h s (Some (record { mark = mark; list = n; count = count; peak = peak })) k
    step_done out k by n so left right small count peak counts peaks =
        let new : State = record { mark = mark; list = n; count = count; peak = peak } in
        let moves : Moved cost bound h s new k =
        step_moved n k (replaced bound h g found br (replaceable small) left right n k (by.made n so)) count peak counts peaks in
        record {
          kept = λ e. absurd (one_answer (sym e));
          told = sym (ap is_none so) ∙ (by.told ∙ room_told);
          moved = λ after e. subst (λ (x : State). Moved cost bound h s x k) (some_same new after e) moves;
        }
