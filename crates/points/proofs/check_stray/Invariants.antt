-- Nothing is stray in the records so far, and those that are left begin behind them. Of a record, the fields from the d-th on are all 0
-- exactly if those of them from k on are.
use Rattle.std.proofs.Common.{◌≡◌, ◌*◌, ◌≤◌, length, drop}
use Rattle.std.specs.Slice.Iter.{chunks_exact_rest, chunks_exact_size}
use Rattle.std.specs.Iterator.Adapters.{enumerate_source, enumerate_count}
use Prim.Native.Nat.{max}
use Rattle.codes.specs.Codes.{pass}
use Rattle.integers.specs.Integers.{all_zero}
use Rattle.points.specs.Points.{point_at, first_points, xs, stray_from}
use Rattle.points.proofs.check_stray.Given as goal

abbrev pub invariant-loop-k : goal.invariant-loop-k
invariant-loop-k l =
    (l.found ≡ pass) × (all_zero (drop l.d (xs (point_at l.store l.i))) ≡ all_zero (drop (max l.d l.k) (xs (point_at l.store l.i))))

abbrev pub invariant-records : goal.invariant-records
invariant-records l = record {
  found : l.found ≡ pass;
  before : enumerate_count l.i-iterator * 12 ≤ length l.store;
  rest : chunks_exact_rest (enumerate_source l.i-iterator) ≡ drop (enumerate_count l.i-iterator * 12) l.store;
  size : chunks_exact_size (enumerate_source l.i-iterator) ≡ 12;
  clear : stray_from l.d 0 (first_points l.store (enumerate_count l.i-iterator)) ≡ pass;
}
