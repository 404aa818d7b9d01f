-- The first smallest of the first blocks, found one after the other. Assumes nothing.
use mathlib.Core.Path.{◌≡◌, refl, sym, ap, ◌∙◌}
use mathlib.Core.List.{List}
use mathlib.Core.Logic.{◌≢◌, ⊎_elim}
use native.Mathlib.Nat.{suc-mul, mul-le-mul_right}
use native.Mathlib.Numerals.{add-one}
use Prim.Native.Nat.{ℕ, ◌+◌, ◌*◌, ◌≤◌, ◌<◌}
use native.Mathlib.Omega.{arith}
use borrow.Author.Count.{below_more}
use lib.ListN.{length, drop, set, length-set}
use lib.Seq.{get_or-set_same, get_or-set_other, drop-set-lt, drop-drop}
use Rattle.list_first_smallest.specs.FirstSmallest.{entry_at}
use Rattle.integers.proofs.Tests.{le_or_lt}
use Rattle.std.specs.Int.{div_ceil}
use Rattle.std.proofs.lemmas.Grind.{div_ceil_times}
use Rattle.list_blocks.specs.declared.Blocks.{Blocks}
use Rattle.list_blocks.specs.Blocks.{width_of, InBlock, LeastsFound}

-- how many blocks n numbers are: as many as divide them, rounded up
pub record HowMany (n count : ℕ) : Type 0 where
  pub few : count ≤ 64
  pub all : n ≤ count * width_of n
  pub some : (j : ℕ) → j < count → j * width_of n < n

pub how_many : (n wide count : ℕ) → wide ≡ width_of n → count ≡ div_ceil n wide → HowMany n count
how_many n wide count wide_is count_is =
    let w = width_of n in
    let is : count ≡ div_ceil n w = rw (← wide_is) count_is in
    let times = div_ceil_times n w (omega arith) in
    let begun : (j : ℕ) → j < count → j * w < n = λ j h.
    let less : j + 1 ≤ count = omega arith in
    let next : (j + 1) * w ≡ j * w + w = rw add-one (suc-mul j w) in
    omega (arith, times.1, mul-le-mul_right w less, ap (λ (i : ℕ). i * w) is) in
    record {
      few = ⊎_elim (λ (h : 65 ≤ count). absurd (omega (arith, begun 64 (omega arith)))) (λ (h : count < 65). omega arith) (le_or_lt 65 count);
      all = rw is times.0;
      some = begun;
    }

-- b₀ with the first smallest of the first j blocks, and its place
pub record Found (d : List ℕ) (n : ℕ) (b₀ : Blocks) (j : ℕ) (b : Blocks) : Type 0 where
  pub long : length b.leasts ≡ 64
  pub long_places : length b.places ≡ 64
  pub firsts : (i : ℕ) → i < j → InBlock d n i (entry_at b.places i) (entry_at b.leasts i)
  pub rest : drop j b.leasts ≡ drop j b₀.leasts
  pub rest_places : drop j b.places ≡ drop j b₀.places

pub none_found : (d : List ℕ) (n : ℕ) (b : Blocks) → length b.leasts ≡ 64 → length b.places ≡ 64 → Found d n b 0 b
none_found d n b long long_places =
    record {
      long = long;
      long_places = long_places;
      firsts = λ i h. absurd (omega arith);
      rest = refl;
      rest_places = refl;
    }

-- one more is set
rest_set : (l l₀ : List ℕ) (j x : ℕ) → drop j l ≡ drop j l₀ → drop (j + 1) (set l j x) ≡ drop (j + 1) l₀
rest_set l l₀ j x rest = drop-set-lt (j + 1) l j x (omega arith) ∙ sym (drop-drop 1 j l) ∙ rw rest (drop-drop 1 j l₀)

module _ {d : List ℕ} {n : ℕ} {b₀ : Blocks} {j : ℕ} {b : Blocks} (f : Found d n b₀ j b) where
  abbrev next : ℕ → ℕ → Blocks
  next at x = record { count = b.count; leasts = set b.leasts j x; places = set b.places j at }

  pub one_found : (at x : ℕ) → j < 64 → InBlock d n j at x → Found d n b₀ (j + 1) (next at x)
  one_found at x few first =
      let l = b.leasts in
      let p = b.places in
      record {
        long = length-set l j x ∙ f.long;
        long_places = length-set p j at ∙ f.long_places;
        firsts =
            below_more (λ (i : ℕ). InBlock d n i (entry_at (set p j at) i) (entry_at (set l j x) i)) j
            (λ i h.
            let other : i ≢ j = λ e. absurd (omega arith) in
            rw (get_or-set_other p j i at 0 other, get_or-set_other l j i x 0 other) (f.firsts i h))
            (rw (get_or-set_same p j at 0 (omega (arith, f.long_places)), get_or-set_same l j x 0 (omega (arith, f.long))) first);
        rest = rest_set l b₀.leasts j x f.rest;
        rest_places = rest_set p b₀.places j at f.rest_places;
      }

  pub all_found : HowMany n j → LeastsFound d n b₀ (record { count = j; leasts = b.leasts; places = b.places })
  all_found h =
      record {
        blocked =
            record {
              few = h.few;
              all = h.all;
              some = h.some;
              long = f.long;
              long_places = f.long_places;
              firsts = f.firsts;
            };
        rest = f.rest;
        rest_places = f.rest_places;
      }
