-- The low vector of every open box has been costed, once the given box is cut: a split costs those of both halves, and what is settled
-- stays so. Assumes nothing.
use mathlib.Core.List.{List, [], ◌∷◌}
use Prim.Native.Nat.{ℕ, ◌≤◌}
use native.Mathlib.Omega.{arith}
use lib.IntN.{ℤ}
use lib.ListN.{length}
use Rattle.integers.specs.Lists.{All, none, also}
use Rattle.integers.proofs.Lists.{all_map, all_append}
use Rattle.boxes.specs.declared.Box.{Box}
use Rattle.boxes.specs.Split.{left_half, right_half, zero_box}
use Rattle.certificate.specs.Search.{State, go, keeps, first_smallest, box_at, without, begin, better, split}
use Rattle.certificate.specs.Certificate.{Reached, beginning, counting}
use Rattle.certificate.specs.Laws.{AllCosted}
use Rattle.certificate.proofs.Lists.{Takes, here, there, all_kept, length_kept, takes_at, takes_all}
use Rattle.certificate.proofs.Ahead.{Settled, better_stays, better_new, better_old}
use Rattle.certificate.proofs.Smallest.{smallest}
use Rattle.certificate.proofs.Steps.{unsolved_open, Case, goes, step_case}

-- a list of one box without that box has none
alone : {P : Box → Type 0} {b : Box} {list rest : List Box} → length list ≤ 1 → Takes b list rest → All P rest
alone few (here {xs = []}) = none
alone few (here {xs = x ∷ xs}) = absurd (omega arith)
alone few (there here) = absurd (omega arith)
alone few (there (there takes)) = absurd (omega arith)

module _ (cost : List ℤ → ℕ) (bound : Box → ℕ) (budget rows t : ℕ) where
  -- the low vectors of some boxes are settled
  abbrev Costed : List ℤ → List Box → Type 0
  Costed best list = All (λ b. Settled cost t best b.low) list

  abbrev rest : State → List Box
  rest s = without s.list (first_smallest bound s.list)

  split_costed : (s : State) → Costed s.best (rest s) → Costed (split cost bound t s).best (split cost bound t s).list
  unfolding split
  split_costed s h =
      let taken = box_at s.list (first_smallest bound s.list) in
      let l = left_half taken in
      let r = right_half taken in
      let one = better cost t s.best l.low in
      let both = better cost t one r.low in
      let stays : (v : List ℤ) → Settled cost t s.best v → Settled cost t both v =
      λ v k. better_stays cost t one r.low v (better_stays cost t s.best l.low v k) in
      all_map (λ b k. k.1)
      (all_kept (keeps bound t (cost both) both)
      (all_append (all_map (λ b k. stays b.low k) h)
      (also {x = l} (better_stays cost t one r.low l.low (better_new cost t s.best l.low))
      (also {x = r} (better_new cost t one r.low) none))))

  takes : (s : State) → 1 ≤ length s.list → Takes (box_at s.list (first_smallest bound s.list)) s.list (rest s)
  takes s some = takes_at zero_box s.list (first_smallest bound s.list) (smallest bound s.list some).inside

  splits : (s : State) {after : State} → Case cost bound budget rows t s (go after) → (1 ≤ length s.list → Costed s.best (rest s))
      → Costed after.best after.list
  splits s (goes unsolved left few) h = split_costed s (h (unsolved_open cost bound t s unsolved))

  module _ (start : List ℤ) (box : Box) where
    settled : {k : ℕ} {s : State} → 1 ≤ k → Reached cost bound budget rows t start box k s → Costed s.best s.list
    unfolding begin
    settled some beginning = absurd (omega arith)
    settled some (counting {s = s} beginning e) =
        splits s (rw e at (step_case cost bound budget rows t s))
        (λ one. alone (length_kept (keeps bound t (cost start) start) (box ∷ [])) (takes s one))
    settled some (counting {s = s} (counting r f) e) =
        splits s (rw e at (step_case cost bound budget rows t s))
        (λ one. (takes_all (takes s one) (settled (omega arith) (counting r f))).1)

pub costed : AllCosted
costed cost bound budget rows t start box k s some r =
    all_map (λ b h. better_old cost t s.best b.low h) (settled cost bound budget rows t start box some r)
