-- The beginning of a search: the given box, if it is kept, is the only late one. Assumes nothing.
use mathlib.Core.Path.{◌≡◌, refl, sym, ap, subst, ◌∙◌}
use mathlib.Core.Bool.{true}
use mathlib.Core.List.{List, [], ◌∷◌}
use Prim.Native.Nat.{ℕ, ◌<◌}
use native.Mathlib.Omega.{arith}
use lib.Dec.{T}
use lib.IntN.{ℤ}
use lib.ListN.{length, replicate, length-replicate}
use Rattle.boxes.specs.declared.Box.{Box}
use Rattle.certificate.specs.Search.{begin, keeps, keep_if}
use Rattle.certificate.proofs.Ahead.{ahead_le}
use Rattle.incumbent.specs.declared.Child.{Child}
use Rattle.incumbent.specs.declared.Mark.{Mark}
use Rattle.incumbent.specs.Incumbent.{kept_by, Tested}
use Rattle.list_rows.specs.Rows.{rows_of}
use Rattle.list_rows.proofs.Rows.{Whole}
use Rattle.list_blocks.specs.Blocks.{gone}
use Rattle.list_blocks.specs.declared.Blocks.{Blocks}
use Rattle.list_blocks.proofs.Smallest.{blocked_none}
use Rattle.list_open_boxes.specs.OpenBoxes.{if_kept, picked}
use Rattle.list_running.specs.declared.Listing.{Listing}
use Rattle.list_running.specs.Listing.{Listed}
use Rattle.replacing.specs.Replacing.{memory, takes_in, put_late, put_row, put_entry, list_in, HeldIn}
use Rattle.replacing.proofs.Replacing.{half_box, held_with, rows_same, row_long, entry_long}
use Rattle.search.specs.Inside.{Begun}

-- no box is open
abbrev pub no_boxes : Listing
no_boxes = record { rows = 0; late = 0; near = record { at = 0; bound = gone }; number = 0 }

none_listed :
    (bound : Box → ℕ) (t : List ℤ) (d : List ℕ) (l : Blocks) (v : List ℤ) (f : List ℕ) → l.count ≡ 0 → length l.leasts ≡ 64 →
    length l.places ≡ 64 → Listed bound t d l v f no_boxes []
unfolding rows_of picked
none_listed bound t d l v f none long places =
    record {
      is = refl;
      number = refl;
      bounds = λ k less. absurd (omega arith);
      late_bounds = refl;
      room = omega arith;
      late_room = omega arith;
      blocked = blocked_none d l none long places;
      near = record { empty = λ e. refl; place = λ some. absurd (omega arith); lowest = λ some. absurd (omega arith) };
    }

module _
    (cost : List ℤ → ℕ) (bound : Box → ℕ) (tol : ℕ) (start : List ℤ) (domain : Box) (v : List ℤ) (f : List ℕ) (c : ℕ) (child : Child)
    (exact : c ≡ cost start) (fits : c < gone)
    (tested : Tested bound (kept_by bound (record { t = tol; cost = c; best = start })) domain child)
    (long : length v ≡ 2048) (long_entries : length f ≡ 128) (whole : Whole child.half)
  where
    abbrev mark : Mark
    mark = record { t = tol; cost = c; best = start }

    abbrev w : List ℤ
    w = put_row v f no_boxes child

    abbrev k : List ℕ
    k = put_entry v f no_boxes child

    abbrev g : Listing
    g = put_late v f no_boxes child

    small : child.kept ≡ true → child.bound < gone
    small is =
        let passes = ahead_le tol c start (bound domain) domain.low (subst T (sym (sym tested.decided ∙ is)) tt) in
        omega (arith, tested.exact is)

    held :
        (t : List ℤ) (d : List ℕ) (l : Blocks) → l.count ≡ 0 → length l.leasts ≡ 64 → length l.places ≡ 64 →
        HeldIn bound (memory t d l w k) g (if_kept child child.half)
    held t d l none x y =
        held_with bound (memory t d l v f) no_boxes [] child (none_listed bound t d l v f none x y) whole (omega arith)
        (omega (arith, long, long_entries)) (λ is. tested.exact is ∙ ap bound (sym tested.half)) small

    -- the given box, if it is kept
    pub begun : Begun cost bound tol start domain (record { mark = mark; list = g; count = 0; peak = g.number }) w k
    unfolding begin
    begun =
        let zeros : List ℕ = replicate 64 0 in
        let long_zeros : length zeros ≡ 64 = length-replicate {A = ℕ} 64 0 in
        let empty : Blocks = record { count = 0; leasts = zeros; places = zeros } in
        let list : (t : List ℤ) (d : List ℕ) (l : Blocks) → list_in (memory t d l w k) g ≡ if_kept child child.half =
        λ t d l. (held t d empty refl long_zeros long_zeros).is in
        let number = (held [] [] empty refl long_zeros long_zeros).number in
        let is : if_kept child child.half ≡ keep_if (keeps bound tol (cost start) start) (domain ∷ []) =
        rw (← exact) (half_box bound (kept_by bound mark) domain child tested) in
        let took = takes_in v f no_boxes child in
        record {
          tolerance = refl;
          stands = λ t d l none x y.
              record {
                marks = record { exact = exact; fits = fits };
                listed = rw (list t d l) (held t d l none x y);
                few = omega (arith, rows_same no_boxes child.bound took);
                late = (row_long v 0 child.half took whole ∙ long, entry_long f 0 child.bound took ∙ long_entries);
              };
          state = λ t d l. rw (list t d l, number, is);
        }
