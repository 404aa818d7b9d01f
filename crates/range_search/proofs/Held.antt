-- Every state that the search for ranges comes to covers the box, by the beginning and by each split: a vector is settled where it costs
-- more than K or lies in what has been found. Assumes nothing.
use mathlib.Core.Path.{◌≡◌, refl, sym, ap, subst}
use mathlib.Core.Bool.{◌&&◌}
use mathlib.Core.List.{List, [], ◌∷◌, ◌++◌}
use mathlib.Core.Logic.{⊎_elim}
use Prim.Native.Nat.{ℕ, suc, pred, ◌≤◌}
use native.Mathlib.Omega.{arith}
use native.Mathlib.Nat.{le_refl}
use lib.Dec.{T_not, leb, leb→le, le→leb}
use lib.IntN.{ℤ}
use lib.ListN.{length}
use Rattle.integers.proofs.Tests.{and_parts, and_both, le_or_lt}
use Rattle.boxes.specs.declared.Box.{Box}
use Rattle.boxes.specs.Boxes.{InBox, volume}
use Rattle.boxes.specs.Split.{left_half, right_half, zero_box}
use Rattle.boxes.specs.Laws.{Bounds, Halved}
use Rattle.boxes.proofs.Volume.{some_in, only_low}
use Rattle.boxes.proofs.Halving.{halved}
use Rattle.certificate.specs.Search.{box_at, without}
use Rattle.certificate.specs.Laws.{Open}
use Rattle.certificate.proofs.Lists.{passed_kept, length_kept, Takes, takes_at, takes_all}
use Rattle.certificate.proofs.Cover.{Cover, Keeping, begins, cuts}
use Rattle.range_search.specs.RangeSearch.{Found, nothing, State, go, keeps, costed, begin, split}
use Rattle.range_search.specs.Ranged.{Reached, beginning, counting}
use Rattle.range_search.specs.Laws.{Sound, AllSound}
use Rattle.range_search.proofs.Found.{Ends, neither, Settled, costed_stays, costed_ends, costed_new}
use Rattle.range_search.proofs.Steps.{Case, goes, step_case}

module _ (cost : List ℤ → ℕ) (bound : Box → ℕ) (laws : Bounds cost bound) (K budget rows : ℕ) (box : Box) where
  -- a box is dropped whose bound is above K, and one of one vector, which has been looked at
  keeping : (found : Found) → Keeping (Settled cost K box found) (keeps bound K)
  unfolding keeps
  keeping found =
      record {
        drops = λ b v one t i cheap.
            ⊎_elim
            (λ small.
            let e : volume b ≡ 1 = omega (arith, some_in b i) in
            subst (Settled cost K box found) (sym (only_low b v e i)) (one e) cheap)
            (λ two.
            absurd (T_not (leb (bound b) K && leb 2 (volume b)) t
            (and_both (leb (bound b) K) (leb 2 (volume b)) (le→leb (bound b) K (omega (arith, laws.sound b v i)))
            (le→leb 2 (volume b) two))))
            (le_or_lt (volume b) 1);
        single = λ b e s t.
            let two = leb→le 2 (volume b) (and_parts (leb (bound b) K) (leb 2 (volume b)) t).1 in omega arith;
      }

  abbrev pub Covers : State → Type 1
  Covers s = Cover box (Settled cost K box s.found) s.list s.count

  pub record Held (k : ℕ) (s : State) : Type 1 where
    pub covers : Covers s
    pub held_ends : Ends cost K box s.found
    pub sound : Sound bound K budget rows box s
    pub counted : s.count ≡ k

  begin_held : 1 ≤ volume box → Held 0 (begin cost bound K box)
  unfolding begin
  begin_held some =
      let found = costed cost K nothing box in
      let covers =
      begins box (Settled cost K box found) (keeps bound K) (keeping found) some
      (costed_new cost K box nothing box neither (λ v i. i) some) in
      record {
        covers = covers;
        held_ends = costed_ends cost K box nothing box neither (λ v i. i) some;
        sound =
            record {
              opened = covers.boxes;
              kept = passed_kept (keeps bound K) (box ∷ []);
              longest = le_refl _;
              room = omega (arith, length_kept (keeps bound K) (box ∷ []));
              within = omega arith;
            };
        counted = refl;
      }

  module _ (s : State) (some : 1 ≤ length s.list) (c : Covers s) (e : Ends cost K box s.found) where
    abbrev b : Box
    b = box_at s.list (pred (length s.list))

    abbrev one : Found
    one = costed cost K s.found (left_half b)

    takes : Takes b s.list (without s.list (pred (length s.list)))
    takes = takes_at zero_box s.list (pred (length s.list)) (omega arith)

    o : Open box b
    o = (takes_all takes c.boxes).0

    halves : Halved b
    halves = halved b o.two

    left_inside : (v : List ℤ) → InBox v (left_half b) → InBox v box
    left_inside v i = o.inside v (halves.left_in v i)

    right_inside : (v : List ℤ) → InBox v (right_half b) → InBox v box
    right_inside v i = o.inside v (halves.right_in v i)

    left_ends : Ends cost K box one
    left_ends = costed_ends cost K box s.found (left_half b) e left_inside halves.left_some

    pub split_ends : Ends cost K box (split cost bound K s).found
    unfolding split
    split_ends = costed_ends cost K box one (right_half b) left_ends right_inside halves.right_some

    pub split_covers : Covers (split cost bound K s)
    unfolding split
    split_covers =
        let both = costed cost K one (right_half b) in
        let l = (left_half b).low in
        cuts box (Settled cost K box both) (keeps bound K) (keeping both) takes
        (λ v k. costed_stays cost K box one (right_half b) v (costed_stays cost K box s.found (left_half b) v k))
        (λ single.
        costed_stays cost K box one (right_half b) l
        (costed_new cost K box s.found (left_half b) e left_inside halves.left_some single))
        (costed_new cost K box one (right_half b) left_ends right_inside halves.right_some)
        c

  split_held : {k : ℕ} (s : State) {after : State} → Case cost bound K budget rows s (go after) → Held k s → Held (suc k) after
  unfolding split
  split_held s (goes some left few) h =
      let covers = split_covers s some h.covers h.held_ends in
      let k = pred (length s.list) in
      let cut = box_at s.list k in
      record {
        covers = covers;
        held_ends = split_ends s some h.covers h.held_ends;
        sound =
            record {
              opened = covers.boxes;
              kept = passed_kept (keeps bound K) (without s.list k ++ (left_half cut ∷ right_half cut ∷ []));
              longest = omega arith;
              room = omega (arith, h.sound.room);
              within = omega (arith, h.sound.within);
            };
        counted = ap suc h.counted;
      }

  pub held : 1 ≤ volume box → {k : ℕ} {s : State} → Reached cost bound K budget rows box k s → Held k s
  held some beginning = begin_held some
  held some (counting {s = s} r e) = split_held s (rw e at (step_case cost bound K budget rows s)) (held some r)

pub reached_sound : AllSound
reached_sound cost bound laws K budget rows box some k s r = (held cost bound laws K budget rows box some r).sound
