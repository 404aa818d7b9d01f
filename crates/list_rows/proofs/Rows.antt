-- What stands in the rows of a table, and what a row that is written leaves. Assumes nothing.
use borrow.Author.Tests.{lt-ltb, le-ltb, le-leb}
use mathlib.Core.Path.{◌≡◌, refl, sym, ap, ◌∙◌}
use mathlib.Core.List.{List, [], ◌∷◌, ◌++◌, append_assoc}
use mathlib.Core.Logic.{⊎_elim}
use Prim.Native.Nat.{ℕ, zero, suc, ◌+◌, ◌*◌, ◌-◌, ◌≤◌, ◌<◌}
use native.Mathlib.Numerals.{add-one}
use native.Mathlib.Omega.{arith}
use lib.IntN.{ℤ}
use borrow.Rule.Slice.PartMut.{put_mid}
use lib.ListN.{length, get_or, take, drop, length-append, length-drop, take-append-drop, get_or-append}
use lib.Seq.{take_all, take_at, take-add, take-append-le, drop-append-le, drop_at, drop-drop, length-take-le, get_or_at}
use Rattle.integers.proofs.Tests.{le_or_lt}
use Rattle.boxes.specs.declared.Box.{Box}
use Rattle.boxes.specs.Split.{zero_box}
use Rattle.list_rows.specs.Rows.{row_count, row_at, rows_of, with_row, with_moved, without_row}
use Rattle.list_rows.proofs.Parts.{part_before, part_down, down, down_long, down_rest, down_before, down_moved}

-- a box of sixteen numbers
pub record Whole (b : Box) : Type 0 where
  pub low : length b.low ≡ 8
  pub high : length b.high ≡ 8

-- the numbers of row i
abbrev pub sixteen : List ℤ → ℕ → Box
sixteen t i = record { low = take 8 (drop (16 * i) t); high = take 8 (drop (16 * i + 8) t) }

pub row_there : (t : List ℤ) (i : ℕ) → i < row_count t → row_at t i ≡ sixteen t i
unfolding row_at
row_there t i h = rw (lt-ltb _ _ h)

row_missing : (t : List ℤ) (i : ℕ) → row_count t ≤ i → row_at t i ≡ zero_box
unfolding row_at
row_missing t i h = rw (le-ltb _ _ h)

-- whatever is read from a row has its sixteen numbers
pub row_whole : (t : List ℤ) (i : ℕ) → Whole (row_at t i)
row_whole t i =
    ⊎_elim
    (λ (h : row_count t ≤ i). rw (row_missing t i h) (record { low = refl; high = refl }))
    (λ (h : i < row_count t). rw (row_there t i h) (record {
      low = length-take-le 8 (drop (16 * i) t) (omega (arith, length-drop (16 * i) t));
      high = length-take-le 8 (drop (16 * i + 8) t) (omega (arith, length-drop (16 * i + 8) t));
    }))
    (le_or_lt (row_count t) i)

-- a row is known by the numbers from it on
pub row_of_rest : (t u : List ℤ) (i : ℕ) → length u ≡ length t → drop (16 * i) u ≡ drop (16 * i) t → row_at u i ≡ row_at t i
unfolding row_at
row_of_rest t u i long e = rw (← drop-drop 8 (16 * i) u, ← drop-drop 8 (16 * i) t, e, long)

-- what two lists share from one place on they share from each later place on
pub rest_later : {A : Type 0} (t u : List A) (j k : ℕ) → j ≤ k → drop j u ≡ drop j t → drop k u ≡ drop k t
rest_later t u j k h e =
    let d : j + (k - j) ≡ k = omega arith in
    rw (← d, ← drop-drop (k - j) j u, ← drop-drop (k - j) j t, e)

-- a row's own part of the table that is lent and comes back as a box
pub row_written :
    (t : List ℤ) (i : ℕ) (b : Box) (row : List ℤ) → i < row_count t → row ≡ b.low ++ b.high →
    put_mid (16 * i) (16 * i + 16 - 16 * i) t row ≡ with_row t i b
unfolding with_row
row_written t i b row there is =
    let sixteen_numbers : 16 * i + 16 - 16 * i ≡ 16 = omega arith in
    rw (is, lt-ltb i (row_count t) there, sixteen_numbers, drop-drop 16 (16 * i) t)
    (sym (append_assoc (take (16 * i) t) (b.low ++ b.high) (drop (16 * i + 16) t)))

-- The table with the box b in row i.
module _ (t : List ℤ) (i : ℕ) (b : Box) where
  pub with_missing : row_count t ≤ i → with_row t i b ≡ t
  unfolding with_row
  with_missing h = rw (le-ltb _ _ h)

  module _ (there : i < row_count t) (w : Whole b) where
    pub with_there : with_row t i b ≡ take (16 * i) t ++ (b.low ++ b.high) ++ drop (16 * i + 16) t
    unfolding with_row
    with_there = rw (lt-ltb _ _ there)

    with_grouped : with_row t i b ≡ take (16 * i) t ++ (b.low ++ (b.high ++ drop (16 * i + 16) t))
    with_grouped = with_there ∙ simp append_assoc

    front_long : length (take (16 * i) t) ≡ 16 * i
    front_long = length-take-le (16 * i) t (omega arith)

    written_long : length (take (16 * i) t ++ (b.low ++ b.high)) ≡ 16 * i + 16
    written_long =
        omega (arith, front_long, w.low, w.high, length-append (take (16 * i) t) (b.low ++ b.high), length-append b.low b.high)

    there_length : length (with_row t i b) ≡ length t
    there_length =
        ap length with_there
        ∙ length-append (take (16 * i) t ++ (b.low ++ b.high)) (drop (16 * i + 16) t)
        ∙ omega (arith, written_long, length-drop (16 * i + 16) t)

    from_row : drop (16 * i) (with_row t i b) ≡ b.low ++ (b.high ++ drop (16 * i + 16) t)
    from_row = rw with_grouped (drop_at (take (16 * i) t) (b.low ++ (b.high ++ drop (16 * i + 16) t)) (16 * i) front_long)

    -- the row itself
    pub row_same : row_at (with_row t i b) i ≡ b
    row_same =
        let rest = drop (16 * i + 16) t in
        let low : take 8 (drop (16 * i) (with_row t i b)) ≡ b.low = rw from_row (take_at b.low (b.high ++ rest) 8 w.low) in
        let high : take 8 (drop (16 * i + 8) (with_row t i b)) ≡ b.high =
        rw (← drop-drop 8 (16 * i) (with_row t i b), from_row, drop_at b.low (b.high ++ rest) 8 w.low)
        (take_at b.high rest 8 w.high)
        in
        let is : i < row_count (with_row t i b) = omega (arith, there_length) in
        row_there (with_row t i b) i is ∙ rw (low, high)

    there_before : (j : ℕ) → j < i → row_at (with_row t i b) j ≡ row_at t j
    there_before j h =
        let q = b.low ++ (b.high ++ drop (16 * i + 16) t) in
        let is : j < row_count (with_row t i b) = omega (arith, there_length) in
        row_there (with_row t i b) j is
        ∙ rw (
          with_grouped,
          part_before t q (16 * j) 8 (16 * i) (omega arith) (omega arith),
          part_before t q (16 * j + 8) 8 (16 * i)
              (omega arith) (omega arith),
        )
        (sym (row_there t j (omega arith)))

    there_rest : drop (16 * i + 16) (with_row t i b) ≡ drop (16 * i + 16) t
    there_rest = rw with_there (drop_at (take (16 * i) t ++ (b.low ++ b.high)) (drop (16 * i + 16) t) (16 * i + 16) written_long)

  module _ (w : Whole b) where
    pub length_with : length (with_row t i b) ≡ length t
    length_with =
        ⊎_elim (λ (h : row_count t ≤ i). ap length (with_missing h)) (λ (h : i < row_count t). there_length h w) (le_or_lt (row_count t) i)

    -- the rows before it
    pub row_before : (j : ℕ) → j < i → row_at (with_row t i b) j ≡ row_at t j
    row_before j k =
        ⊎_elim
        (λ (h : row_count t ≤ i). ap (λ (u : List ℤ). row_at u j) (with_missing h))
        (λ (h : i < row_count t). there_before h w j k)
        (le_or_lt (row_count t) i)

    -- all that stands behind it
    pub rest_with : (k : ℕ) → 16 * i + 16 ≤ k → drop k (with_row t i b) ≡ drop k t
    rest_with k g =
        rest_later t (with_row t i b) (16 * i + 16) k g
        (⊎_elim (λ (h : row_count t ≤ i). ap (drop (16 * i + 16)) (with_missing h)) (λ (h : i < row_count t). there_rest h w)
        (le_or_lt (row_count t) i))

-- The first n rows.
pub rows_more : (t : List ℤ) (n : ℕ) → rows_of t (n + 1) ≡ rows_of t n ++ (row_at t n ∷ [])
unfolding rows_of
rows_more t n = rw add-one

pub rows_length : (t : List ℤ) (n : ℕ) → length (rows_of t n) ≡ n
unfolding rows_of
rows_length t zero = refl
rows_length t (suc n) = length-append (rows_of t n) (row_at t n ∷ []) ∙ omega (arith, rows_length t n)

-- those before row i are the first i
pub rows_take : (t : List ℤ) (n i : ℕ) → i ≤ n → take i (rows_of t n) ≡ rows_of t i
unfolding rows_of
rows_take t zero i h = let e : i ≡ 0 = omega arith in rw e
rows_take t (suc n) i h =
    ⊎_elim
    (λ (k : suc n ≤ i). let e : i ≡ suc n = omega arith in rw e
    (take_all (suc n) (rows_of t (suc n)) (omega (arith, rows_length t (suc n)))))
    (λ (k : i < suc n). take-append-le i (rows_of t n) (row_at t n ∷ []) (omega (arith, rows_length t n)) ∙ rows_take t n i (omega arith))
    (le_or_lt (suc n) i)

pub rows_at : (t : List ℤ) (n i : ℕ) (other : Box) → i < n → get_or (rows_of t n) i other ≡ row_at t i
unfolding rows_of
rows_at t zero i other h = absurd (omega arith)
rows_at t (suc n) i other h =
    ⊎_elim
    (λ (k : n ≤ i). let e : i ≡ n = omega arith in rw e (get_or_at (rows_of t n) (row_at t n) [] other n (rows_length t n)))
    (λ (k : i < n). get_or-append (rows_of t n) (row_at t n ∷ []) other i (omega (arith, rows_length t n)) ∙ rows_at t n i other k)
    (le_or_lt n i)

-- tables that agree row by row
pub rows_same : (t u : List ℤ) (n : ℕ) → ((j : ℕ) → j < n → row_at u j ≡ row_at t j) → rows_of u n ≡ rows_of t n
unfolding rows_of
rows_same t u zero f = refl
rows_same t u (suc n) f = rw (rows_same t u n (λ j h. f j (omega arith)), f n (omega arith))

-- rows at the front of a longer table
pub rows_front : (t u : List ℤ) (n : ℕ) → n ≤ row_count t → rows_of (t ++ u) n ≡ rows_of t n
rows_front t u n few =
    let eight : (a : ℕ) → a + 8 ≤ length t → take 8 (drop a (t ++ u)) ≡ take 8 (drop a t) = λ a h.
    rw (drop-append-le a t u (omega arith)) (take-append-le 8 (drop a t) u (omega (arith, length-drop a t)))
    in
    rows_same t (t ++ u) n
    (λ j h.
    row_there (t ++ u) j (omega (arith, length-append t u))
    ∙ rw (eight (16 * j) (omega arith), eight (16 * j + 8) (omega arith)) (sym (row_there t j (omega arith))))

pub rows_before : (t : List ℤ) (i : ℕ) (b : Box) → Whole b → (n : ℕ) → n ≤ i → rows_of (with_row t i b) n ≡ rows_of t n
rows_before t i b w n h = rows_same t (with_row t i b) n (λ j k. row_before t i b w j (omega arith))

-- one more row written behind the first i
pub rows_with : (t : List ℤ) (i : ℕ) (b : Box) → i < row_count t → Whole b → rows_of (with_row t i b) (i + 1) ≡ rows_of t i ++ (b ∷ [])
rows_with t i b h w = rows_more (with_row t i b) i ∙ rw (rows_before t i b w i (omega arith), row_same t i b h w)

-- a row that is written as it is
pub row_own : (t : List ℤ) (i : ℕ) → i < row_count t → with_row t i (row_at t i) ≡ t
row_own t i h =
    let row : (row_at t i).low ++ (row_at t i).high ≡ take 16 (drop (16 * i) t) =
    rw (row_there t i h, ← drop-drop 8 (16 * i) t) (sym (take-add 8 8 (drop (16 * i) t))) in
    let rest : drop (16 * i + 16) t ≡ drop 16 (drop (16 * i) t) = sym (drop-drop 16 (16 * i) t) in
    with_there t i (row_at t i) h (row_whole t i)
    ∙ rw (
      row,
      rest,
      append_assoc (take (16 * i) t) (take 16 (drop (16 * i) t)) (drop 16 (drop (16 * i) t)),
      take-append-drop 16
          (drop (16 * i) t),
    )
    (take-append-drop (16 * i) t)

-- a row that moves to an earlier one
pub moved_there : (t : List ℤ) (i to : ℕ) → to < i → i < row_count t → with_moved t i to ≡ with_row t to (row_at t i)
unfolding with_moved
moved_there t i to earlier there = rw (lt-ltb to i earlier, lt-ltb i (row_count t) there)

-- The table u with row i taken out of the first n.
module _ (t : List ℤ) (i n : ℕ) (one : i < n) (there : n ≤ row_count t) where
  abbrev moved : ℕ
  moved = 16 * (n - 1) - 16 * i

  ends : 16 * i + moved ≡ 16 * (n - 1)
  ends = omega arith

  room : 16 * i + 16 + moved ≤ length t
  room = omega arith

  pub without_there : down t (16 * i) 16 moved ≡ without_row t i n
  unfolding without_row
  without_there =
      rw (lt-ltb i n one, le-leb n (row_count t) there)
      (ap (λ (k : ℕ). take (16 * i) t ++ take moved (drop (16 * i + 16) t) ++ drop k t) ends)

  -- the rows from it on that are lent, and slide to one row earlier
  pub row_taken :
      (part : List ℤ) →
      part ≡ down (take (16 * n - 16 * i) (drop (16 * i) t)) 0 16 (length (take (16 * n - 16 * i) (drop (16 * i) t)) - 16) →
      put_mid (16 * i) (16 * n - 16 * i) t part ≡ without_row t i n
  row_taken part slid =
      let left : 16 * n - 16 * i - 16 ≡ moved = omega arith in
      rw slid (rw left at (part_down t (16 * i) 16 (16 * n) (omega arith) (omega arith)) ∙ without_there)

  pub without_long : length (without_row t i n) ≡ length t
  without_long = rw (← without_there) (down_long t (16 * i) 16 moved room)

  pub without_rest : drop (16 * n) (without_row t i n) ≡ drop (16 * n) t
  without_rest =
      rest_later t (without_row t i n) (16 * i + moved) (16 * n) (omega arith) (rw (← without_there) (down_rest t (16 * i) 16 moved room))

  row_of : (j : ℕ) → j < row_count t → row_at (without_row t i n) j ≡ sixteen (down t (16 * i) 16 moved) j
  row_of j h = row_there (without_row t i n) j (omega (arith, without_long)) ∙ rw (← without_there)

  -- a row before it, and one behind it
  pub without_before : (j : ℕ) → j < i → row_at (without_row t i n) j ≡ row_at t j
  without_before j h =
      row_of j (omega arith)
      ∙ rw (
        down_before t (16 * i) 16 moved (16 * j) 8 (omega arith) room,
        down_before t (16 * i) 16 moved (16 * j + 8) 8 (omega arith)
            room,
      )
      (sym (row_there t j (omega arith)))

  pub without_behind : (j : ℕ) → i ≤ j → j < n - 1 → row_at (without_row t i n) j ≡ row_at t (j + 1)
  without_behind j h k =
      let low : 16 * j + 16 ≡ 16 * (j + 1) = omega arith in
      let high : 16 * j + 8 + 16 ≡ 16 * (j + 1) + 8 = omega arith in
      row_of j (omega arith)
      ∙ rw (
        down_moved t (16 * i) 16 moved (16 * j) 8 (omega arith) (omega arith) room,
        down_moved t (16 * i) 16 moved (16 * j + 8) 8
            (omega arith) (omega arith) room,
        low,
        high,
      )
      (sym (row_there t (j + 1) (omega arith)))
