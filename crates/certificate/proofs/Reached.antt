-- Every state that a search comes to covers the box: by the beginning and by each split. A vector is settled where it is not ahead of
-- the best. Assumes nothing.
use mathlib.Core.Path.{◌≡◌, refl, ap, subst}
use mathlib.Core.List.{List, [], ◌∷◌, ◌++◌}
use Prim.Native.Nat.{ℕ, suc, ◌≤◌}
use native.Mathlib.Omega.{arith}
use native.Mathlib.Nat.{le_refl}
use lib.Dec.{T, T_not}
use lib.IntN.{ℤ}
use lib.ListN.{length}
use Rattle.boxes.specs.declared.Box.{Box}
use Rattle.boxes.specs.Boxes.{InBox}
use Rattle.boxes.specs.Split.{left_half, right_half, zero_box}
use Rattle.boxes.specs.Laws.{Bounds}
use Rattle.boxes.proofs.Volume.{some_in, only_low}
use Rattle.certificate.specs.Search.{State, go, ahead, keeps, first_smallest, box_at, without, begin, better, split}
use Rattle.certificate.specs.Certificate.{Reached, beginning, counting}
use Rattle.certificate.specs.Laws.{Sound, AllSound}
use Rattle.certificate.proofs.Lists.{Takes, passed_kept, length_kept, takes_at, takes_all}
use Rattle.certificate.proofs.Ahead.{Settled, ahead_never, better_stays, better_new, better_in}
use Rattle.certificate.proofs.Dropped.{kept_by_lem}
use Rattle.certificate.proofs.Smallest.{smallest}
use Rattle.certificate.proofs.Cover.{Cover, Keeping, left_low, right_low, begins, cuts}
use Rattle.certificate.proofs.Steps.{unsolved_open, Case, goes, step_case}

abbrev pub Covers : (List ℤ → ℕ) → ℕ → Box → State → Type 1
Covers cost t box s = Cover box (Settled cost t s.best) s.list s.count

module _ (cost : List ℤ → ℕ) (bound : Box → ℕ) (laws : Bounds cost bound) (t : ℕ) where
  -- a box is dropped where it is not ahead of the best, and so is none of its vectors
  keeping : (best : List ℤ) → Keeping (Settled cost t best) (keeps bound t (cost best) best)
  keeping best =
      record {
        drops = λ b v one h i k.
            T_not (keeps bound t (cost best) best b) h (kept_by_lem cost bound laws t best b v i k);
        single = λ b e s h. s (subst (λ a. T (ahead t (cost best) best a b.low)) (laws.tight b e) h);
      }

  module _ (box : Box) where
    pub begin_covers : (start : List ℤ) → InBox start box → Covers cost t box (begin cost bound t start box)
    unfolding begin
    begin_covers start i =
        begins box (Settled cost t start) (keeps bound t (cost start) start) (keeping start) (some_in box i)
        (λ e. subst (Settled cost t start) (only_low box start e i) (ahead_never t (cost start) start))

    module _ (s : State) (some : 1 ≤ length s.list) where
      abbrev taken : Box
      taken = box_at s.list (first_smallest bound s.list)

      abbrev l : List ℤ
      l = (left_half taken).low

      abbrev r : List ℤ
      r = (right_half taken).low

      takes : Takes taken s.list (without s.list (first_smallest bound s.list))
      takes = takes_at zero_box s.list (first_smallest bound s.list) (smallest bound s.list some).inside

      pub split_covers : Covers cost t box s → Covers cost t box (split cost bound t s)
      unfolding split
      split_covers c =
          let one = better cost t s.best l in
          let both = better cost t one r in
          cuts box (Settled cost t both) (keeps bound t (cost both) both) (keeping both) takes
          (λ v h. better_stays cost t one r v (better_stays cost t s.best l v h))
          (λ e. better_stays cost t one r l (better_new cost t s.best l))
          (λ e. better_new cost t one r)
          c

      split_sound :
          {budget rows : ℕ} →
          (s.count ≡ budget → ⊥) →
          length (split cost bound t s).list ≤ rows →
          Covers cost t box s →
          Sound cost bound budget rows t box s →
          Sound cost bound budget rows t box (split cost bound t s)
      unfolding split
      split_sound left few c h =
          let o = (takes_all takes h.opened).0 in
          let one = better cost t s.best l in
          let both = better cost t one r in
          let first-in = better_in cost t s.best l box h.best_in (left_low box taken o) in
          record {
            best_in = better_in cost t one r box first-in (right_low box taken o);
            opened = (split_covers c).boxes;
            kept =
                passed_kept (keeps bound t (cost both) both)
                (without s.list (first_smallest bound s.list) ++ (left_half taken ∷ right_half taken ∷ []));
            longest = omega arith;
            room = omega (arith, h.room);
            within = omega (arith, h.within);
          }

module _
    (cost : List ℤ → ℕ) (bound : Box → ℕ) (laws : Bounds cost bound)
    (budget rows t : ℕ) (start : List ℤ) (box : Box) (i : InBox start box)
  where
    begin_sound : Sound cost bound budget rows t box (begin cost bound t start box)
    unfolding begin
    begin_sound =
        record {
          best_in = i;
          opened = (begin_covers cost bound laws t box start i).boxes;
          kept = passed_kept (keeps bound t (cost start) start) (box ∷ []);
          longest = le_refl _;
          room = omega (arith, length_kept (keeps bound t (cost start) start) (box ∷ []));
          within = omega arith;
        }

    pub record Held (k : ℕ) (s : State) : Type 1 where
      pub covers : Covers cost t box s
      pub sound : Sound cost bound budget rows t box s
      pub counted : s.count ≡ k

    splits : {k : ℕ} (s : State) {after : State} → Case cost bound budget rows t s (go after) → Held k s → Held (suc k) after
    unfolding split
    splits s (goes unsolved left few) h =
        let some = unsolved_open cost bound t s unsolved in
        record {
          covers = split_covers cost bound laws t box s some h.covers;
          sound = split_sound cost bound laws t box s some left few h.covers h.sound;
          counted = ap suc h.counted;
        }

    pub held : {k : ℕ} {s : State} → Reached cost bound budget rows t start box k s → Held k s
    unfolding begin
    held beginning =
        record { covers = begin_covers cost bound laws t box start i; sound = begin_sound; counted = refl }
    held (counting {s = s} r e) = splits s (rw e at (step_case cost bound budget rows t s)) (held r)

pub reached_sound : AllSound
reached_sound cost bound laws budget rows t start box i k s r = (held cost bound laws budget rows t start box i r).sound
