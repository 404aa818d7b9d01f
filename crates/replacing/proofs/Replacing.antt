-- The box that was found is taken out, the others that are kept stay, and its halves that are kept follow. Assumes nothing.
use mathlib.Core.Path.{◌≡◌, refl, sym, ap, subst, subst₂, ◌∙◌}
use mathlib.Core.Bool.{Bool, true, false, cond, and-true}
use mathlib.Core.List.{List, [], ◌∷◌, ◌++◌, append_assoc}
use mathlib.Core.Logic.{⊎_elim}
use Prim.Native.Nat.{ℕ, ◌+◌, ◌*◌, ◌≤◌, ◌<◌, max}
use native.Mathlib.Omega.{arith}
use borrow.Author.Tests.{lt-ltb, ne_eqb}
use lib.Dec.{T}
use lib.IntN.{ℤ}
use lib.ListN.{length, set, drop, length-set}
use lib.Seq.{drop-set-lt}
use Rattle.integers.specs.Lists.{All, none, also}
use Rattle.boxes.specs.declared.Box.{Box}
use Rattle.boxes.specs.Split.{zero_box}
use Rattle.list_rows.specs.Rows.{with_row}
use Rattle.list_rows.proofs.Rows.{Whole, length_with}
use Rattle.list_blocks.specs.Blocks.{gone}
use Rattle.list_blocks.specs.declared.Blocks.{Blocks}
use Rattle.incumbent.specs.declared.Child.{Child}
use Rattle.incumbent.specs.declared.Mark.{Mark}
use Rattle.incumbent.specs.Incumbent.{kept_by, Tested}
use Rattle.branching.specs.declared.Branches.{Branches}
use Rattle.list_open_boxes.specs.OpenBoxes.{room_in, if_kept}
use Rattle.list_running.specs.declared.Found.{Found}
use Rattle.list_running.specs.declared.Listing.{Listing}
use Rattle.list_running.specs.Listing.{is_late, spot_in, with_late, TakenBy, SettledBy, Listed}
use Rattle.list_running.proofs.Taking.{taken}
use Rattle.list_running.proofs.Settling.{settled, settled_together}
use Rattle.list_running.proofs.Adding.{added}
use Rattle.certificate.specs.Search.{first_smallest, keep_if, without}
use Rattle.certificate.proofs.Ahead.{ahead_le}
use Rattle.certificate.proofs.Lists.{append_kept, length_kept, takes_at, takes_all}
use Rattle.replacing.specs.Replacing.{Memory, takes_in, put_row, put_entry, list_with, memory_with, list_in, HeldIn, RoomMade}
use Rattle.replacing.specs.Replacing.{Made, LateLong, Within, Replaceable, remaining, ReplacedIn}

-- a half, kept or not, for any test
pub half_box : (bound : Box → ℕ) (keep : Box → Bool) (b : Box) (child : Child) → Tested bound keep b child
    → if_kept child child.half ≡ keep_if keep (b ∷ [])
half_box bound keep b child s = rw (s.decided, s.half)

-- where all are kept
pub all_kept : (keep : Box → Bool) {bs : List Box} → All (λ b. keep b ≡ true) bs → keep_if keep bs ≡ bs
all_kept keep none = refl
all_kept keep (also {x} h hs) = rw (h, all_kept keep hs)

-- where there is room, a box is taken in if it is kept
pub takes_kept : (v : List ℤ) (f : List ℕ) (g : Listing) (child : Child) → g.number < gone → g.late < room_in v f
    → takes_in v f g child ≡ child.kept
takes_kept v f g child few room =
    let other : g.number ≡ gone → ⊥ = λ e. omega arith in
    rw (ne_eqb g.number gone other, lt-ltb g.late (room_in v f) room) (and-true child.kept)

-- what a child adds to the late boxes
late_more : (g : Listing) (x : ℕ) (kept : Bool) → (cond kept (with_late g x) g).late ≤ g.late + 1
late_more g x true = omega arith
late_more g x false = omega arith

number_more : (g : Listing) (x : ℕ) (kept : Bool) → (cond kept (with_late g x) g).number ≤ g.number + 1
number_more g x true = omega arith
number_more g x false = omega arith

pub rows_same : (g : Listing) (x : ℕ) (kept : Bool) → (cond kept (with_late g x) g).rows ≡ g.rows
rows_same g x true = refl
rows_same g x false = refl

pub row_long : (v : List ℤ) (n : ℕ) (b : Box) (kept : Bool) → Whole b → length (cond kept (with_row v n b) v) ≡ length v
row_long v n b true w = length_with v n b w
row_long v n b false w = refl

pub entry_long : (f : List ℕ) (n x : ℕ) (kept : Bool) → length (cond kept (set f n x) f) ≡ length f
entry_long f n x true = length-set f n x
entry_long f n x false = refl

pub added_long :
    (v : List ℤ) (f : List ℕ) (g : Listing) (child : Child) (w : List ℤ) (k : List ℕ) → w ≡ put_row v f g child → k ≡ put_entry v f g child →
    Whole child.half → (length w ≡ length v) × (length k ≡ length f)
added_long v f g child w k rows entries whole = (
  ap (λ (x : List ℤ). length x) rows ∙ row_long v g.late child.half (takes_in v f g child) whole,
  ap (λ (x : List ℕ). length x) entries ∙ entry_long f g.late child.bound (takes_in v f g child),
)

-- one more late box, in a list that is held
pub held_with :
    (bound : Box → ℕ) (h : Memory) (g : Listing) (list : List Box) (child : Child) → HeldIn bound h g list → Whole child.half →
    g.number < gone → g.late < room_in h.late h.beside → (child.kept ≡ true → child.bound ≡ bound child.half) →
    (child.kept ≡ true → child.bound < gone) →
    HeldIn bound (memory_with h g child) (list_with h g child) (list ++ if_kept child child.half)
held_with bound h g list child held whole few room exact small =
    rw (takes_kept h.late h.beside g child few room)
    (added bound h.table h.bounds h.blocks h.late h.beside g list held child.half child.bound whole room
    child.kept exact small)

-- how long everything is, once the box that was found is taken out
module _
    (d : List ℕ) (l : Blocks) (v : List ℤ) (f : List ℕ) (g : Listing) (found : Found) (a : Listing) (e : List ℕ) (m : Blocks) (w : List ℤ)
    (k : List ℕ)
    (out : TakenBy d l v f g found a e m w k)
  where
    pub late_long : (length w ≡ length v) × (length k ≡ length f)
    late_long = by (is_late found) refl
      where
        by : (b : Bool) → is_late found ≡ b → (length w ≡ length v) × (length k ≡ length f)
        by true is = let held = out.late_held is in (held.long, held.long_entries)
        by false is = let same = (out.row_same is).1.1 in rw (same.0, same.1) (refl, refl)

    pub entries_long : length e ≡ length d
    entries_long = by (is_late found) refl
      where
        by : (b : Bool) → is_late found ≡ b → length e ≡ length d
        by true is = rw (out.late_same is).0
        by false is = rw (out.row_gone is).entries (length-set d (spot_in found).at gone)

-- and once room is made
pub room_long : (h : Memory) (g : Listing) (mark : Mark) (stays : Bool) (r : Listing) (k : Memory) → RoomMade h g mark stays r k
    → (length k.table ≡ length h.table) × (length k.bounds ≡ length h.bounds)
room_long h g mark stays r k =
    ⊎_elim
    (λ (same : (stays ≡ true) × (g.late ≤ 126) × (r ≡ g) × (k ≡ h)). rw same.3 (refl, refl))
    (λ (by : SettledBy h.table h.bounds h.blocks h.late h.beside g mark r k.table k.bounds k.blocks
    × (k.late ≡ h.late)
    × (k.beside ≡ h.beside)). (by.0.held.long, by.0.held.long_entries))

module _
    (bound : Box → ℕ) (h : Memory) (g : Listing) (found : Found) (br : Branches) (is : Replaceable bound h g found br)
    (left_whole : Whole br.left.half) (right_whole : Whole br.right.half) (a₁ : Listing) (h₁ : Memory)
    (takes : TakenBy h.bounds h.blocks h.late h.beside g found a₁ h₁.bounds h₁.blocks h₁.late
    h₁.beside) (same_table : h₁.table ≡ h.table) (a₂ : Listing) (h₂ : Memory) (makes : RoomMade h₁ a₁ br.mark br.stays a₂ h₂)
  where
    abbrev mark : Mark
    mark = br.mark

    abbrev left : Child
    left = br.left

    abbrev right : Child
    right = br.right

    abbrev keep : Box → Bool
    keep = kept_by bound mark

    abbrev list : List Box
    list = list_in h g

    abbrev rest : List Box
    rest = without list (first_smallest bound list)

    abbrev n : ℕ
    n = max g.rows g.number

    -- once it is taken out
    without_it : HeldIn bound h₁ a₁ rest
    without_it =
        subst (λ (t : List ℤ). Listed bound t h₁.bounds h₁.blocks h₁.late h₁.beside a₁ rest) (sym same_table)
        (taken bound h.table h.bounds h.blocks h.late h.beside g list is.listed found is.chosen a₁
        h₁.bounds h₁.blocks h₁.late h₁.beside takes)

    fewer : length rest ≤ g.number
    fewer = omega (arith, without_it.number, ap (λ (x : Listing). x.number) takes.sizes)

    same_rows : a₁.rows ≡ g.rows
    same_rows = ap (λ (x : Listing). x.rows) takes.sizes

    late_is : LateLong h₁
    late_is =
        let long =
        late_long h.bounds h.blocks h.late h.beside g found a₁ h₁.bounds h₁.blocks h₁.late
        h₁.beside takes in
        (long.0 ∙ is.late.0, long.1 ∙ is.late.1)

    -- the table's entries changed where they were in use, if at all
    entries_within : (length h₁.bounds ≡ length h.bounds) × (drop n h₁.bounds ≡ drop n h.bounds)
    entries_within = by (is_late found) refl
      where
        by : (b : Bool) → is_late found ≡ b → (length h₁.bounds ≡ length h.bounds) × (drop n h₁.bounds ≡ drop n h.bounds)
        by true late = rw (takes.late_same late).0 (refl, refl)
        by false late =
            let at = (spot_in found).at in
            let inside : at < n = omega (arith, is.chosen.row late) in
            rw (takes.row_gone late).entries (length-set h.bounds at gone, drop-set-lt n h.bounds at gone inside)

    rest_kept : br.stays ≡ true → keep_if keep rest ≡ rest
    rest_kept stays =
        let at = first_smallest bound list in
        all_kept keep (takes_all (takes_at zero_box list at is.chosen.inside) (is.stay stays)).1

    -- those that are kept, with room behind the late ones
    record Ready (a : Listing) (m : Memory) : Type 0 where
      held : HeldIn bound m a (keep_if keep rest)
      roomy : a.late ≤ 126
      rows : a.rows ≤ n
      number : a.number ≤ g.number
      within : Within n h m
      late : LateLong m

    ready_same : (br.stays ≡ true) × (a₁.late ≤ 126) × (a₂ ≡ a₁) × (h₂ ≡ h₁) → Ready a₂ h₂
    ready_same same = subst₂ (λ (a : Listing) (m : Memory). Ready a m) (sym same.2) (sym same.3) here
      where
        here : Ready a₁ h₁
        here =
            record {
              held = rw (rest_kept same.0) without_it;
              roomy = same.1;
              rows = omega (arith, same_rows);
              number = omega (arith, ap (λ (x : Listing). x.number) takes.sizes);
              within =
                  record {
                    long = ap (λ (t : List ℤ). length t) same_table;
                    long_entries = entries_within.0;
                    rest = ap (drop (16 * n)) same_table;
                    rest_entries = entries_within.1;
                  };
              late = late_is;
            }

    abbrev Settles : Type 0
    Settles =
        SettledBy h₁.table h₁.bounds h₁.blocks h₁.late h₁.beside a₁ mark a₂ h₂.table h₂.bounds
        h₂.blocks
        × (h₂.late ≡ h₁.late)
        × (h₂.beside ≡ h₁.beside)

    ready_settled : Settles → Ready a₂ h₂
    ready_settled by =
        let fits : length rest ≤ room_in h₁.table h₁.bounds =
        omega (arith, fewer, is.room, entries_within.0, ap (λ (t : List ℤ). length t) same_table) in
        let g₂ =
        settled_together bound h₁.table h₁.bounds h₁.blocks h₁.late h₁.beside a₁ rest without_it mark
        is.below
        fits a₂ h₂.table h₂.bounds h₂.blocks by.0 in
        let some : a₂.rows ≤ n = omega (arith, g₂.number, length_kept keep rest, fewer) in
        record {
          held =
              subst₂ (λ (v : List ℤ) (f : List ℕ). Listed bound h₂.table h₂.bounds h₂.blocks v f a₂
              (keep_if keep rest))
              (sym by.1) (sym by.2)
              (settled bound h₁.table h₁.bounds h₁.blocks h₁.late h₁.beside a₁ rest without_it mark is.below
              fits
              a₂ h₂.table h₂.bounds h₂.blocks by.0);
          roomy = omega (arith, g₂.none_late);
          rows = some;
          number =
              omega (arith, ap (λ (x : Listing). x.number) by.0.sizes, g₂.number, length_kept keep rest, fewer);
          within =
              record {
                long = g₂.long ∙ ap (λ (t : List ℤ). length t) same_table;
                long_entries = g₂.long_entries ∙ entries_within.0;
                rest = g₂.rest n (omega (arith, same_rows)) some ∙ ap (drop (16 * n)) same_table;
                rest_entries = g₂.rest_entries n (omega (arith, same_rows)) some ∙ entries_within.1;
              };
          late = (ap (λ (v : List ℤ). length v) by.1 ∙ late_is.0, ap (λ (f : List ℕ). length f) by.2 ∙ late_is.1);
        }

    ready : Ready a₂ h₂
    ready = ⊎_elim ready_same ready_settled makes

    -- a half that is kept has a bound that is not gone
    half_small : (child : Child) → Tested bound keep child.half child → child.kept ≡ true → child.bound < gone
    half_small child s so =
        let passes =
        ahead_le mark.t mark.cost mark.best (bound child.half) child.half.low (subst T (sym (sym s.decided ∙ so)) tt) in
        omega (arith, s.exact so, is.below)

    abbrev one : Listing
    one = list_with h₂ a₂ left

    abbrev h₃ : Memory
    h₃ = memory_with h₂ a₂ left

    room_left : a₂.late < room_in h₂.late h₂.beside
    room_left = omega (arith, ready.roomy, ready.late.0, ready.late.1)

    few_left : a₂.number < gone
    few_left = omega (arith, ready.number, is.few)

    with_left : HeldIn bound h₃ one (keep_if keep rest ++ if_kept left left.half)
    with_left =
        held_with bound h₂ a₂ (keep_if keep rest) left ready.held left_whole few_left room_left is.left_tested.exact
        (half_small left is.left_tested)

    left_long : LateLong h₃
    left_long = (
      row_long h₂.late a₂.late left.half (takes_in h₂.late h₂.beside a₂ left) left_whole ∙ ready.late.0,
      entry_long h₂.beside a₂.late left.bound (takes_in h₂.late h₂.beside a₂ left) ∙ ready.late.1,
    )

    both : HeldIn bound (memory_with h₃ one right) (list_with h₃ one right)
        ((keep_if keep rest ++ if_kept left left.half) ++ if_kept right right.half)
    both =
        let took = takes_in h₂.late h₂.beside a₂ left in
        held_with bound h₃ one (keep_if keep rest ++ if_kept left left.half) right with_left right_whole
        (omega (arith, number_more a₂ left.bound took, ready.number, is.few))
        (omega (arith, late_more a₂ left.bound took, ready.roomy, left_long.0, left_long.1))
        is.right_tested.exact
        (half_small right is.right_tested)

    remains : (keep_if keep rest ++ if_kept left left.half) ++ if_kept right right.half ≡ remaining bound br list
    remains =
        rw (half_box bound keep left.half left is.left_tested, half_box bound keep right.half right is.right_tested)
        (append_assoc (keep_if keep rest) (keep_if keep (left.half ∷ [])) (keep_if keep (right.half ∷ []))
        ∙ ap (λ (x : List Box). keep_if keep rest ++ x) (sym (append_kept keep (left.half ∷ []) (right.half ∷ [])))
        ∙ sym (append_kept keep rest (left.half ∷ right.half ∷ [])))

    both_follow : ReplacedIn bound h g br (list_with h₃ one right) (memory_with h₃ one right)
    both_follow =
        let took = takes_in h₃.late h₃.beside one right in
        record {
          listed = rw remains at both;
          rows =
              omega (
                arith,
                ready.rows,
                rows_same a₂ left.bound (takes_in h₂.late h₂.beside a₂ left),
                rows_same one right.bound took,
              );
          within =
              record {
                long = ready.within.long;
                long_entries = ready.within.long_entries;
                rest = ready.within.rest;
                rest_entries = ready.within.rest_entries;
              };
          late = (
            row_long h₃.late one.late right.half took right_whole ∙ left_long.0,
            entry_long h₃.beside one.late right.bound took ∙ left_long.1,
          );
        }

-- the box was replaced
pub replaced :
    (bound : Box → ℕ) (h : Memory) (g : Listing) (found : Found) (br : Branches) → Replaceable bound h g found br → Whole br.left.half →
    Whole br.right.half → (r : Listing) (k : Memory) → Made h g found br r k → ReplacedIn bound h g br r k
replaced bound h g found br is left_whole right_whole r k made =
    rw (made.list, made.held)
    (both_follow bound h g found br is left_whole right_whole made.taken made.left_over made.takes made.same_table made.ready
    made.roomy made.makes)
