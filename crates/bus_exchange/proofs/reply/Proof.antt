-- The invariant: the registers are laid out by the history of the first i accesses, the front of the buffer holds what it tells, and the
-- rest is as it was. The measure is the accesses left.
use mathlib.Core.Path.{◌≡◌, refl, sym}
use Prim.Native.Nat.{◌+◌, ◌-◌, ◌*◌, ◌/◌, ◌≤◌, ◌<◌}
use native.Mathlib.Omega.{arith}
use lib.ListN.{length}
use Rattle.bus_exchange.proofs.Replying.{Replied, none_replied, one_replied, all_replied}
use borrow.Author.Rules.{rules}
use Rattle.bus_exchange.proofs.reply.Statement.{statement}
use Rattle.bus_exchange.proofs.reply.Tie as tie

abbrev invariant-loop : tie.invariant-loop-i
invariant-loop store accesses out₀ table₀ bounds₀ state₀ i₀ i-end out table bounds state i =
    Replied store accesses out₀ i state out × ((length table ≡ 32768) × ((length bounds ≡ 2048) × (i-end ≡ length accesses / 4)))

abbrev decreases-loop : tie.decreases-loop-i
decreases-loop store accesses out₀ table₀ bounds₀ state₀ i₀ i-end out table bounds state i = i-end - i

table-space-requires : tie.Need-table_space-table-requires invariant-loop decreases-loop
table-space-requires c κs = search rules

bounds-space-requires : tie.Need-bounds_space-bounds-requires invariant-loop decreases-loop
bounds-space-requires c κs = search rules

reset-requires : tie.Need-reset-requires invariant-loop decreases-loop
reset-requires c κs = search rules

loop-holds : tie.Need-loop-i-init invariant-loop decreases-loop
loop-holds c =
    let a = c.args in (
      none_replied a.store.now a.accesses.now a.out.now (record { registers = c.reset.result; count = 0 })
          c.reset.ensures refl,
      (sym c.table_space-table.ensures, (sym c.bounds_space-bounds.ensures, refl)),
    )

mul-access : tie.Need-overflow_mul-i invariant-loop decreases-loop
mul-access c = search rules

-- the access that is taken
abbrev start : tie.In-loop-i invariant-loop decreases-loop → tie.Start invariant-loop decreases-loop
start c = c.before.before.before.before.before.before.before.before

there : (c : tie.In-loop-i invariant-loop decreases-loop) → 4 * c.loop-i.i + 4 ≤ length (start c).args.accesses.now
there c = omega (arith, c.loop-i.invariant.1.1.1)

room : (c : tie.In-loop-i invariant-loop decreases-loop) → c.loop-i.state.count < length c.loop-i.out
room c =
    omega (arith, c.loop-i.invariant.0.count, c.loop-i.invariant.0.long, c.loop-i.invariant.1.1.1, (start c).requires)

shared-slice-read-access : tie.Need-bounds-accesses-i invariant-loop decreases-loop
shared-slice-read-access c = omega (arith, there c.before)

mul-access-2 : tie.Need-overflow_mul-i-in-loop-i invariant-loop decreases-loop
mul-access-2 c = search rules

add-access : tie.Need-overflow_add-i invariant-loop decreases-loop
add-access c = search rules

shared-slice-read-access-2 : tie.Need-bounds-accesses-i-in-loop-i invariant-loop decreases-loop
shared-slice-read-access-2 c = omega (arith, there c.before.before)

mul-access-3 : tie.Need-overflow_mul-i-in-loop-i-2 invariant-loop decreases-loop
mul-access-3 c = search rules

add-access-2 : tie.Need-overflow_add-i-in-loop-i invariant-loop decreases-loop
add-access-2 c = search rules

shared-slice-read-access-3 : tie.Need-bounds-accesses-i-in-loop-i-2 invariant-loop decreases-loop
shared-slice-read-access-3 c = omega (arith, there c.before.before.before)

slice-aggregate-access : tie.Need-slice_bounds-access-end invariant-loop decreases-loop
slice-aggregate-access c = sym c.loop-i.invariant.1.0

slice-aggregate-access-2 : tie.Need-slice_bounds-access-end-in-loop-i invariant-loop decreases-loop
slice-aggregate-access-2 c = sym c.loop-i.invariant.1.1.0

access-requires : tie.Need-access-state-requires invariant-loop decreases-loop
access-requires c κs =
    let t = c.before.before.before.before.before.before in
    (omega (arith, t.loop-i.invariant.1.0), room t)

add-i : tie.Need-overflow_step-i invariant-loop decreases-loop
add-i c = search rules

loop-less : tie.Need-loop-i-smaller invariant-loop decreases-loop
loop-less c = search rules

loop-again : tie.Need-loop-i-preserved invariant-loop decreases-loop
loop-again c =
    let k = c.before.before.before.before in
    let t = k.before.before.before.before.before.before.before in
    let l = t.before in
    let a = l.args in
    let done = k.access-state.ensures in (
      one_replied a.store.now a.accesses.now a.out.now l.loop-i.i l.loop-i.state k.access-state.result l.loop-i.out
          k.access-state.new.out (there t) (room t) l.loop-i.invariant.0 (rw l.loop-i.invariant.1.1.0 at done),
      (search (rules, l.loop-i.invariant.1.0), (search (rules, l.loop-i.invariant.1.1.0), refl)),
    )

same_length : tie.Need-shape_of-out invariant-loop decreases-loop
same_length c = search rules

returns : tie.Need-returns invariant-loop decreases-loop
returns c =
    let l = c.before in
    let s = l.before.before.before.before.before.before.before in
    let a = s.args in
    all_replied a.store.now a.accesses.now a.out.now l.loop-i.i l.loop-i.state l.loop-i.out
    (omega (arith, l.loop-i.invariant.1.1.1)) l.loop-i.invariant.0

pub reply_spec : {M : Type 1} → statement M
reply_spec =
    tie.close
    (tie.spec
    invariant-loop
    decreases-loop
    table-space-requires
    bounds-space-requires
    reset-requires
    loop-holds
    mul-access
    shared-slice-read-access
    mul-access-2
    add-access
    shared-slice-read-access-2
    mul-access-3
    add-access-2
    shared-slice-read-access-3
    slice-aggregate-access
    slice-aggregate-access-2
    access-requires
    add-i
    loop-less
    loop-again
    same_length
    returns)
