-- The parts of an input: the store and the accesses behind it. Assumes nothing.
use mathlib.Core.List.{List, []}
use mathlib.Core.Path.{◌≡◌, ap, ◌∙◌}
use borrow.Author.Tests.{le-leb, lt-leb}
use Prim.Native.Nat.{ℕ, ◌+◌, ◌-◌, ◌*◌, ◌/◌, ◌≤◌, ◌<◌}
use native.Mathlib.Omega.{arith}
use lib.ListN.{length, take, drop, length-drop, drop_of_length-le}
use lib.Seq.{take_all}
use Rattle.integers.specs.Lists.{over}
use Rattle.fields.specs.Fields.{number_in}
use Rattle.bus_exchange.specs.Exchange.{store_size, store_of, accesses_of, told_by, replies_of}

module _ (input : List ℕ) (records : ℕ) (is : records ≡ number_in input 0 2) where
  abbrev end : ℕ
  end = 2 + 12 * records

  -- what a call says that writes these replies
  module _ (out : List ℕ) where
    abbrev pub Wrote : ℕ → List ℕ → Type 0
    Wrote k after = (k ≡ length (replies_of input (length out))) × (after ≡ over (replies_of input (length out)) out)

    nothing : replies_of input (length out) ≡ [] → Wrote 0 out
    unfolding over
    nothing none = (rw none, rw none)

    pub store_cut : length input < end → Wrote 0 out
    unfolding replies_of told_by
    store_cut short =
        nothing (rw (drop_of_length-le input {i = 2 + store_size input} (omega (arith, is)), le-leb 0 (length out) (omega arith)))

    pub no_room : length out < (length input - end) / 4 → Wrote 0 out
    unfolding replies_of
    no_room few =
        let long : length (accesses_of input) ≡ length input - end = length-drop (2 + store_size input) input ∙ omega (arith, is) in
        nothing (rw (lt-leb (length (accesses_of input) / 4) (length out) (omega (arith, long))))

    pub all_replied : (k : ℕ) (after store accesses : List ℕ)
        → store ≡ take (end - 2) (drop 2 input)
        → accesses ≡ take (length input - end) (drop end input)
        → (length input - end) / 4 ≤ length out
        → k ≡ length (told_by store [] accesses)
        → after ≡ over (told_by store [] accesses) out
        → Wrote k after
    unfolding replies_of
    all_replied k after store accesses of-store of-accesses room many put =
        let long : length (accesses_of input) ≡ length input - end = length-drop (2 + store_size input) input ∙ omega (arith, is) in
        let size : end - 2 ≡ store_size input = omega (arith, is) in
        let first : store ≡ store_of input = of-store ∙ ap (λ (n : ℕ). take n (drop 2 input)) size in
        let second : accesses ≡ accesses_of input =
        of-accesses ∙ take_all (length input - end) (drop end input) (omega (arith, length-drop end input))
        ∙ ap (λ (n : ℕ). drop (2 + 12 * n) input) is in
        let told : told_by store [] accesses ≡ told_by (store_of input) [] (accesses_of input) = λ i. told_by (first i) [] (second i) in
        rw (le-leb (length (accesses_of input) / 4) (length out) (omega (arith, long))) (
          many ∙ ap length told,
          put ∙ ap (λ (t : List ℕ). over t out) told,
        )
