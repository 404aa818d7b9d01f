-- The records left, one after the other: n bytes are written, and what is written and what is still to come are all. Assumes nothing.
use mathlib.Core.Path.{◌≡◌, refl, sym, ap, ap₂, ◌∙◌}
use mathlib.Core.Bool.{Bool, true, false, cond}
use mathlib.Core.List.{List, [], ◌∷◌, ◌++◌, append_assoc, append-nil, flatten}
use mathlib.Core.Logic.{⊎_elim}
use Prim.Native.Nat.{ℕ, ◌+◌, ◌*◌, ◌/◌, ◌≤◌, ◌<◌, min}
use native.Mathlib.Numerals.{add-one}
use native.Mathlib.Omega.{arith}
use lib.Dec.{eqb}
use lib.ListN.{length, take, drop, get_or, length-append, length-drop, take-append-drop, drop_of_length-le}
use lib.Seq.{length-take-le, take_at, drop_at, drop-drop, drop-cons, take-append-add, drop-append-add}
use Rattle.integers.specs.Lists.{over}
use Rattle.integers.proofs.Tests.{le_or_lt}
use Rattle.frames.specs.Walk.{from}
use Rattle.frames.proofs.Records.{records_next, records_end}
use Rattle.points_left.specs.Left.{left_of, bytes_left}
use Rattle.points_left.specs.Inside.{put}

-- where the list ends nothing is left
pub left_none : {A : Type 0} (ls : List ℕ) → left_of {A = A} ls [] ≡ []
unfolding left_of
left_none [] = refl
left_none (l ∷ ls) = refl

pub at_most_twelve : (b : Bool) → cond b 12 0 ≤ 12
at_most_twelve true = omega arith
at_most_twelve false = omega arith

-- the bytes of the records left from record i on
abbrev pub bytes_from : List ℕ → List ℕ → ℕ → List ℕ
bytes_from labels store i = flatten (left_of (drop i labels) (from store (i * 12)))

module _ (store labels old : List ℕ) where
  pub record Gathered (n i : ℕ) (out : List ℕ) : Type 0 where
    pub few : i ≤ min (length store / 12) (length labels)
    pub long : length out ≡ length old
    pub fits : n ≤ i * 12
    pub whole : take n out ++ bytes_from labels store i ≡ bytes_left labels store
    pub rest : drop n out ≡ drop n old

  pub none_gathered : Gathered 0 0 old
  none_gathered = record { few = omega arith; long = refl; fits = omega arith; whole = refl; rest = refl }

  -- the next record and those behind it
  next_left : (i : ℕ) → i < length labels → i < length store / 12 →
      bytes_from labels store i
      ≡ cond (eqb (get_or labels i 0) 0) (take 12 (drop (i * 12) store) ++ bytes_from labels store (i + 1)) (bytes_from labels store (i + 1))
  unfolding left_of flatten
  next_left i h k =
      let place : i * 12 + 12 ≡ (i + 1) * 12 = omega arith in
      let more : from store (i * 12) ≡ take 12 (drop (i * 12) store) ∷ from store ((i + 1) * 12) =
      records_next store (i * 12) (omega arith) ∙ rw place refl in
      let label : drop i labels ≡ get_or labels i 0 ∷ drop (i + 1) labels = drop-cons labels i 0 h ∙ rw (add-one i) refl in
      ap₂ (λ (ls : List ℕ) (rs : List (List ℕ)). flatten (left_of ls rs)) label more
      ∙ one (eqb (get_or labels i 0) 0) (take 12 (drop (i * 12) store)) (left_of (drop (i + 1) labels) (from store ((i + 1) * 12)))
    where
      one : (b : Bool) (r : List ℕ) (rs : List (List ℕ)) → flatten (cond b (r ∷ rs) rs) ≡ cond b (r ++ flatten rs) (flatten rs)
      one true r rs = refl
      one false r rs = refl

  pub one_gathered : (n i : ℕ) (out after : List ℕ) (m : ℕ) → i < min (length store / 12) (length labels) → length store ≤ length old →
      m ≡ cond (eqb (get_or labels i 0) 0) 12 0 →
      after ≡ cond (eqb (get_or labels i 0) 0) (put out n (take 12 (drop (i * 12) store))) out →
      Gathered n i out →
      Gathered (n + m) (i + 1) after
  one_gathered n i out after m h room e w g =
      one (eqb (get_or labels i 0) 0) refl m e after w
    where
      r : List ℕ
      r = take 12 (drop (i * 12) store)

      twelve : length r ≡ 12
      twelve = length-take-le 12 (drop (i * 12) store) (omega (arith, length-drop (i * 12) store))

      front : length (take n out) ≡ n
      front = length-take-le n out (omega (arith, g.fits, g.long, h, room))

      next : bytes_from labels store i ≡ cond (eqb (get_or labels i 0) 0) (r ++ bytes_from labels store (i + 1))
          (bytes_from labels store (i + 1))
      next = next_left i (omega arith) (omega arith)

      one : (b : Bool) → eqb (get_or labels i 0) 0 ≡ b → (m : ℕ) → m ≡ cond b 12 0 → (after : List ℕ) → after ≡ cond b (put out n r) out →
          Gathered (n + m) (i + 1) after
      one true t m e after w =
          let there = drop (n + 12) out in
          let begins : take (n + 12) (put out n r) ≡ take n out ++ r =
          (rw (front, take_at r there 12 twelve) at (take-append-add (take n out) (r ++ there) 12)) in
          let ends : drop (n + 12) (put out n r) ≡ there =
          (rw (front, drop_at r there 12 twelve) at (drop-append-add (take n out) (r ++ there) 12)) in
          record {
            few = omega arith;
            long =
                rw w
                (omega (
                  arith,
                  length-append (take n out) (r ++ there),
                  length-append r there,
                  length-drop (n + 12) out,
                  front,
                  twelve,
                  g.long,
                  g.fits,
                  h,
                  room,
                ));
            fits = omega (arith, g.fits);
            whole =
                rw (w, e, begins)
                (append_assoc (take n out) r (bytes_from labels store (i + 1))
                ∙ ap (λ (l : List ℕ). take n out ++ l) (sym (rw t at next)) ∙ g.whole);
            rest =
                rw (w, e, ends)
                (sym (drop-drop 12 n out) ∙ ap (drop 12) g.rest ∙ drop-drop 12 n old);
          }
      one false t m e after w =
          let none : n + 0 ≡ n = omega arith in
          record {
            few = omega arith;
            long = rw w g.long;
            fits = omega (arith, g.fits);
            whole = rw (w, e, none) (ap (λ (l : List ℕ). take n out ++ l) (sym (rw t at next)) ∙ g.whole);
            rest = rw (w, e, none) g.rest;
          }

  -- behind the last one nothing is left
  ended : (i : ℕ) → min (length store / 12) (length labels) ≤ i → bytes_from labels store i ≡ []
  unfolding left_of flatten
  ended i h =
      ⊎_elim
      (λ k. ap (λ (ls : List ℕ). flatten (left_of ls (from store (i * 12)))) (drop_of_length-le labels {i = i} k))
      (λ k.
      let end : from store (i * 12) ≡ [] = records_end store (i * 12) (omega arith) in
      ap (λ (rs : List (List ℕ)). flatten (left_of (drop i labels) rs)) end ∙ ap flatten (left_none (drop i labels)))
      (le_or_lt (length labels) i)

  pub all_gathered : (n i : ℕ) (out : List ℕ) → min (length store / 12) (length labels) ≤ i → length store ≤ length old → Gathered n i out →
      (n ≡ length (bytes_left labels store)) × (out ≡ over (bytes_left labels store) old)
  unfolding over
  all_gathered n i out h room g =
      let all : take n out ≡ bytes_left labels store =
      sym (append-nil (take n out)) ∙ ap (λ (l : List ℕ). take n out ++ l) (sym (ended i h)) ∙ g.whole in
      let long : length (take n out) ≡ n = length-take-le n out (omega (arith, g.fits, g.few, g.long)) in
      let bytes : n ≡ length (bytes_left labels store) = sym long ∙ ap length all in
      (bytes, sym (take-append-drop n out) ∙ ap₂ ◌++◌ all (g.rest ∙ ap (λ (k : ℕ). drop k old) bytes))
