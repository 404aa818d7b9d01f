use Rattle.std.proofs.Common.{arith, ap, subst, ◌≡◌, ◌∙◌, ◌+◌, ◌*◌, ◌/◌, ◌%◌, ℕ}
use Rattle.points.specs.Points.{points_of}
use Rattle.residuals.proofs.Sizes.{power_of}
use Rattle.beacon_costs.specs.BeaconCosts.{groups, group_cost}
use Rattle.beacon_costs.specs.Inside.{ChunkSums}
use Rattle.beacon_costs.proofs.Writing.{group_number, none_written, one_written, all_written, all_added}
use Rattle.beacon_costs.proofs.write_sums.Goals as goal

pub loop-g-init : goal.loop-g-init
loop-g-init c =
    let a = c.args in
    record {
      written = λ v d. none_written a.m (points_of a.store.now) v;
      known = λ h. absurd (omega arith);
      small = omega arith;
    }

pub chunk_sums-four-requires : goal.chunk_sums-four-requires
chunk_sums-four-requires c =
    let few = c.requires.0.few in
    let power = power_of c.args.m.scale c.power-power.result c.requires.0.scaled c.power-power.ensures in
    record {
      ready = (c.requires.0, power, omega (arith, c.loop-g-test.true, c.group_count-count.ensures), c.requires.2);
      chunk_sums = c.loop-g.invariant.known;
    }

pub bounds-sums-g : goal.bounds-sums-g
bounds-sums-g c =
    omega (arith, c.loop-g-test.true, c.group_count-count.ensures, group_number c.args.store.now, c.requires.1, c.loop-g.auto.sums)

pub loop-g-preserved : goal.loop-g-preserved
loop-g-preserved c =
    let a = c.args in
    let g = c.loop-g.g in
    let v = c.loop-g.invariant in
    let four = c.chunk_sums-four in
    let here : g / 4 * 4 + g % 4 ≡ g = omega arith in
    record {
      written =
          λ w d. one_written a.m (points_of a.store.now) w _
          (four.ensures.costs w d (g % 4) (omega arith) ∙ ap (group_cost a.m (points_of a.store.now) w) here)
          (bounds-sums-g c) (v.written w d);
      known =
          λ h.
          let same : g / 4 ≡ (g + 1) / 4 = omega arith in
          subst (λ (t : ℕ). ChunkSums a.m a.store.now c.coordinates-w.result t four.result) same four.ensures;
      small = omega (arith, v.small, four.ensures.small (g % 4) (omega arith));
    }

pub returns-clause-total : goal.returns-clause-total
returns-clause-total c =
    let a = c.args in
    let last : c.loop-g.g ≡ groups (points_of a.store.now) = omega (arith, c.loop-g-test.false, c.group_count-count.ensures, group_number a.store.now) in
    all_added a.m (points_of a.store.now) a.v last (c.loop-g.invariant.written a.v c.coordinates-w.ensures.whole)

pub returns-clause-sums : goal.returns-clause-sums
returns-clause-sums c =
    let a = c.args in
    let last : c.loop-g.g ≡ groups (points_of a.store.now) = omega (arith, c.loop-g-test.false, c.group_count-count.ensures, group_number a.store.now) in
    all_written a.m (points_of a.store.now) a.v last (c.loop-g.invariant.written a.v c.coordinates-w.ensures.whole)
