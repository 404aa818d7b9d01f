-- Boxes that are written one behind the other, each with its number beside it, if it is kept. Assumes nothing.
use mathlib.Core.Path.{◌≡◌, refl, sym, ap, ◌∙◌}
use mathlib.Core.Bool.{Bool, true, false, cond, ◌&&◌}
use mathlib.Core.List.{List, [], ◌∷◌, ◌++◌, append-nil}
use mathlib.Core.Logic.{⊎_elim}
use Prim.Native.Nat.{ℕ, zero, suc, ◌+◌, ◌-◌, ◌*◌, ◌≤◌, ◌<◌, min, max}
use native.Mathlib.Nat.{le_refl}
use native.Mathlib.Numerals.{add-one}
use native.Mathlib.Omega.{arith}
use lib.Dec.{ltb}
use lib.IntN.{ℤ}
use lib.ListN.{length, set, take, drop, length-append, length-set, length-take}
use lib.Seq.{take_all, length-take-le, take-suc, take-suc-set, drop-set-lt, get_or-drop, get_or-take}
use borrow.Author.Tests.{lt-ltb, le-ltb}
use Rattle.integers.proofs.Tests.{le_or_lt}
use Rattle.boxes.specs.declared.Box.{Box}
use Rattle.list_rows.specs.Rows.{row_count, row_at, rows_of, with_row, without_row}
use Rattle.list_rows.proofs.Rows.{Whole, row_own, rest_later, rows_length, row_whole, row_of_rest, length_with, rest_with, rows_with}
use Rattle.list_rows.proofs.Rows.{without_long, without_rest, without_before, without_behind}
use borrow.Rule.Slice.PartMut.{put_mid}
use Rattle.list_rows.proofs.Parts.{part_down, down, down_long, down_rest, down_before, down_moved}
use Rattle.incumbent.specs.declared.Child.{Child}
use Rattle.list_open_boxes.specs.OpenBoxes.{fits, if_kept, others_than, picked, room_in, Held}
use Rattle.list_first_smallest.specs.FirstSmallest.{entry_at}
use Rattle.list_open_boxes.proofs.Picking.{other, one_at_most, picked_all, picked_more, picked_moved, taken_one}

-- a box that moves to its own row
pub row_stays : (t : List ℤ) (i to : ℕ) → to ≤ i → i ≤ to → i < row_count t → t ≡ with_row t to (row_at t i)
row_stays t i to few least there = let same : to ≡ i = omega arith in rw same (sym (row_own t i there))

-- all rows, and all entries, up to a place
pub all_rows : (t : List ℤ) (n : ℕ) → picked (row_at t) (λ k. true) n ≡ rows_of t n
unfolding picked rows_of
all_rows t zero = refl
all_rows t (suc n) = rw (all_rows t n)

pub all_entries : (d : List ℕ) (n : ℕ) → n ≤ length d → picked (entry_at d) (λ k. true) n ≡ take n d
unfolding picked
all_entries d zero few = refl
all_entries d (suc n) few = rw (all_entries d n (omega arith)) (sym (take-suc d n 0 few))

written_fits : (kept : Bool) (n room : ℕ) → n ≤ room → n + cond (kept && ltb n room) 1 0 ≤ room
written_fits false n room few = omega arith
written_fits true n room few =
    ⊎_elim
    (λ (full : room ≤ n). rw (le-ltb n room full) (omega arith))
    (λ (free : n < room). rw (lt-ltb n room free) (omega arith))
    (le_or_lt room n)

module _ (t : List ℤ) (d : List ℕ) where
  -- as it was
  pub own_held : (n : ℕ) → n ≤ length d → Held t d n (rows_of t n) (take n d) n t d
  own_held n few =
      record {
        told = sym (rows_length t n);
        few = le_refl n;
        long = refl;
        long_entries = refl;
        rows = refl;
        entries = refl;
        rest = refl;
        rest_entries = refl;
      }

  -- as it was, where all of the first n are picked
  pub all_held : (q : ℕ → Bool) (n : ℕ) → n ≤ length d → ((k : ℕ) → k < n → q k ≡ true) →
      Held t d n (picked (row_at t) q n) (picked (entry_at d) q n) n t d
  all_held q n few all =
      rw (picked_all (row_at t) q n all, picked_all (entry_at d) q n all, all_rows t n, all_entries d n few) (own_held n few)

  -- where none was passed
  pub none_held : (q : ℕ → Bool) → Held t d 0 (picked (row_at t) q 0) (picked (entry_at d) q 0) 0 t d
  unfolding rows_of picked
  none_held q = own_held 0 (omega arith)

  -- as it was, before the first of others is written behind the first n
  pub first_held :
      (n : ℕ) → n ≤ room_in t d → (f : ℕ → Box) (g : ℕ → ℕ) (q : ℕ → Bool) →
      Held t d n (take (room_in t d) (rows_of t n ++ picked f q 0)) (take (room_in t d) (take n d ++ picked g q 0)) n t d
  unfolding picked
  first_held n few f g q =
      let all = take_all (room_in t d) (rows_of t n) (omega (arith, rows_length t n)) in
      let all_entries = take_all (room_in t d) (take n d) (omega (arith, length-take n d)) in
      rw (append-nil (rows_of t n), append-nil (take n d), all, all_entries) (own_held n (omega arith))

  -- what is written behind the first n of what was written before, as much as there is room for
  pub behind_held :
      (k : ℕ) (list : List Box) (xs : List ℕ) (n : ℕ) (u : List ℤ) (e : List ℕ) → Held t d k list xs n u e →
      (more : List Box) (ys : List ℕ) (r : ℕ) (v : List ℤ) (f : List ℕ) →
      Held u e r (take (room_in u e) (rows_of u n ++ more)) (take (room_in u e) (take n e ++ ys)) r v f →
      Held t d (max k r) (take (room_in t d) (list ++ more)) (take (room_in t d) (xs ++ ys)) r v f
  behind_held k list xs n u e p more ys r v f p₂ =
      let then = rw (p.rows, p.entries, p.long, p.long_entries) at p₂ in
      let later = max k r in
      record {
        told = then.told;
        few = omega arith;
        long = p₂.long ∙ p.long;
        long_entries = p₂.long_entries ∙ p.long_entries;
        rows = then.rows;
        entries = then.entries;
        rest = rest_later u v (16 * r) (16 * later) (omega arith) p₂.rest ∙ rest_later t u (16 * k) (16 * later) (omega arith) p.rest;
        rest_entries = rest_later e f r later (omega arith) p₂.rest_entries ∙ rest_later d e k later (omega arith) p.rest_entries;
      }

  module _
      (k : ℕ) (list : List Box) (xs : List ℕ) (n : ℕ) (u : List ℤ) (e : List ℕ) (p : Held t d k list xs n u e)
      (b : Box) (w : Whole b) (x : ℕ)
    where
      -- one more box, if it is kept
      pub one_held :
          (kept : Bool) → n + cond kept 1 0 ≤ row_count t → n + cond kept 1 0 ≤ length d → (k₂ : ℕ) → k ≤ k₂ → n + cond kept 1 0 ≤ k₂ →
          Held t d k₂ (list ++ cond kept (b ∷ []) []) (xs ++ cond kept (x ∷ []) [])
          (n + cond kept 1 0) (cond kept (with_row u n b) u) (cond kept (set e n x) e)
      one_held false room more k₂ after few =
          let none : n + 0 ≡ n = omega arith in
          rw (append-nil list, append-nil xs, none)
          (record {
            told = p.told;
            few = omega arith;
            long = p.long;
            long_entries = p.long_entries;
            rows = p.rows;
            entries = p.entries;
            rest = rest_later t u (16 * k) (16 * k₂) (omega arith) p.rest;
            rest_entries = rest_later d e k k₂ after p.rest_entries;
          })
      one_held true room more k₂ after few =
          record {
            told = omega (arith, p.told, length-append list (b ∷ []));
            few = few;
            long = length_with u n b w ∙ p.long;
            long_entries = length-set e n x ∙ p.long_entries;
            rows = rows_with u n b (omega (arith, p.long)) w ∙ rw p.rows;
            entries = rw add-one (take-suc-set e n x (omega (arith, p.long_entries)) ∙ rw p.entries);
            rest = rest_with u n b w (16 * k₂) (omega arith) ∙ rest_later t u (16 * k) (16 * k₂) (omega arith) p.rest;
            rest_entries = drop-set-lt k₂ e n x (omega arith) ∙ rest_later d e k k₂ after p.rest_entries;
          }

  -- what `put` says of a box behind the first n
  abbrev pub Put : List ℤ → List ℕ → ℕ → Child → ℕ → List ℤ → List ℕ → Type 0
  Put u e n child r v f =
      (r ≡ n + cond (fits u e n child) 1 0)
      × ((v ≡ cond (fits u e n child) (with_row u n child.half) u) × (f ≡ cond (fits u e n child) (set e n child.bound) e))

  -- One more box behind as many of a list as there is room for: written if it is kept and there is room left.
  pub one_taken :
      (list : List Box) (xs : List ℕ) (n : ℕ) (u : List ℤ) (e : List ℕ) →
      Held t d n (take (room_in t d) list) (take (room_in t d) xs) n u e →
      (child : Child) → Whole child.half → (r : ℕ) (v : List ℤ) (f : List ℕ) → Put u e n child r v f →
      Held t d r (take (room_in t d) (list ++ if_kept child child.half)) (take (room_in t d) (xs ++ if_kept child child.bound)) r v f
  one_taken list xs n u e p child w r v f is =
      let room = room_in t d in
      let same : fits u e n child ≡ fits t d n child = rw (p.long, p.long_entries) in
      let few : n ≤ room = omega (arith, p.told, length-take room list) in
      let told : length (take room list) ≡ n = sym p.told in
      let told_entries : length (take room xs) ≡ n = rw p.entries at (length-take-le n e (omega (arith, p.long_entries))) in
      let less = written_fits child.kept n room few in
      let more : r ≡ n + cond (fits t d n child) 1 0 = rw same at is.0 in
      rw (more, rw same at is.1.0, rw same at is.1.1)
      (rw (taken_one room list child.half child.kept, taken_one room xs child.bound child.kept, told, told_entries)
      (one_held n (take room list) (take room xs) n u e p child.half w child.bound (fits t d n child) (omega arith) (omega arith)
      (n + cond (fits t d n child) 1 0) (omega arith) (omega arith)))

  -- Row i, of which the rows before are those that were picked.
  module _
      (q : ℕ → Bool) (i n : ℕ) (u : List ℤ) (e : List ℕ) (there : i < row_count t) (entry : i < length d)
      (p : Held t d i (picked (row_at t) q i) (picked (entry_at d) q i) n u e)
    where
      -- row i and its entry are still as they were
      pub same_row : row_at u i ≡ row_at t i
      same_row = row_of_rest t u i p.long p.rest

      pub same_entry : entry_at e i ≡ entry_at d i
      same_entry =
          let none : i + 0 ≡ i = omega arith in
          rw none at (sym (get_or-drop i e 0 0) ∙ ap (λ (l : List ℕ). entry_at l 0) p.rest_entries ∙ get_or-drop i d 0 0)

      pub row_held : (kept : Bool) → kept ≡ q i →
          Held t d (i + 1) (picked (row_at t) q (i + 1)) (picked (entry_at d) q (i + 1))
          (n + cond kept 1 0) (cond kept (with_row u n (row_at u i)) u) (cond kept (set e n (entry_at e i)) e)
      row_held kept is =
          let one = one_at_most kept in
          rw (picked_more (row_at t) q i, picked_more (entry_at d) q i, ← is, ← same_row, ← same_entry)
          (one_held i (picked (row_at t) q i) (picked (entry_at d) q i) n u e p (row_at u i) (row_whole u i) (entry_at e i) kept
          (omega (arith, p.few)) (omega (arith, p.few)) (i + 1) (omega arith) (omega (arith, p.few)))

  -- A row and its entry taken out, where those behind them have moved by one.
  module _ (at n : ℕ) (one : at < n) (rows : n ≤ row_count t) (entries : n ≤ length d) where
    abbrev u : List ℤ
    u = without_row t at n

    abbrev e : List ℕ
    e = down d at 1 (n - 1 - at)

    whole : suc (n - 1) ≡ n
    whole = omega arith

    by_part : (l : List ℕ) (j : ℕ) → entry_at l j ≡ entry_at (take 1 (drop j l)) 0
    by_part l j =
        let none : j + 0 ≡ j = omega arith in
        sym (get_or-take 1 (drop j l) 0 0 (omega arith) ∙ get_or-drop j l 0 0 ∙ rw none)

    entry_before : (j : ℕ) → j < at → entry_at e j ≡ entry_at d j
    entry_before j h =
        by_part e j
        ∙ ap (λ (l : List ℕ). entry_at l 0) (down_before d at 1 (n - 1 - at) j 1 (omega arith) (omega arith))
        ∙ sym (by_part d j)

    entry_behind : (j : ℕ) → at ≤ j → j < n - 1 → entry_at e j ≡ entry_at d (j + 1)
    entry_behind j h k =
        by_part e j
        ∙ ap (λ (l : List ℕ). entry_at l 0) (down_moved d at 1 (n - 1 - at) j 1 (omega arith) (omega arith) (omega arith))
        ∙ sym (by_part d (j + 1))

    long : length e ≡ length d
    long = down_long d at 1 (n - 1 - at) (omega arith)

    boxes_left : picked (row_at t) (others_than at) n ≡ rows_of u (n - 1)
    boxes_left =
        let before = without_before t at n one rows in
        let moved = picked_moved (row_at t) (row_at u) at (n - 1) (omega arith) before (without_behind t at n one rows) in
        rw whole at moved ∙ all_rows u (n - 1)

    numbers_left : picked (entry_at d) (others_than at) n ≡ take (n - 1) e
    numbers_left =
        let moved = picked_moved (entry_at d) (entry_at e) at (n - 1) (omega arith) entry_before entry_behind in
        rw whole at moved ∙ all_entries e (n - 1) (omega (arith, long))

    pub taken_held : Held t d n (picked (row_at t) (others_than at) n) (picked (entry_at d) (others_than at) n) (n - 1) u e
    taken_held =
        record {
          told = sym (rw boxes_left (rows_length u (n - 1)));
          few = omega arith;
          long = without_long t at n one rows;
          long_entries = long;
          rows = sym boxes_left;
          entries = sym numbers_left;
          rest = without_rest t at n one rows;
          rest_entries = rest_later d e (at + (n - 1 - at)) n (omega arith) (down_rest d at 1 (n - 1 - at) (omega arith));
        }

  -- of the first n, as many as there is room for: a row that is none of them
  module _ (at n m : ℕ) (meant : m ≡ min n (room_in t d)) where
    abbrev few : ℕ
    few = min n (room_in t d)

    pub others_held : m ≤ at → Held t d few (picked (row_at t) (others_than at) few) (picked (entry_at d) (others_than at) few) m t d
    others_held past =
        rw (← meant) (all_held (others_than at) m (omega arith) (λ k h. other at k (λ e. absurd (omega arith))))

    -- and one that is, once the rows behind it moved by one, and the entries from it on that were lent
    abbrev lent : List ℕ
    lent = take (m - at) (drop at d)

    pub one_out :
        (u : List ℤ) (part : List ℕ) → at < m → u ≡ without_row t at m → part ≡ down lent 0 1 (length lent - 1) →
        Held t d few (picked (row_at t) (others_than at) few) (picked (entry_at d) (others_than at) few) (m - 1) u
        (put_mid at (m - at) d part)
    one_out u part one is_rows slid =
        let moved : m - at - 1 ≡ m - 1 - at = omega arith in
        rw (← meant, is_rows, slid)
        (rw (part_down d at 1 m (omega arith) (omega arith), moved) (taken_held at m one (omega arith) (omega arith)))
