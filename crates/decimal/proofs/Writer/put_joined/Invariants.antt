-- The first k coordinates are put, in at most 7 bytes each.
use Rattle.std.proofs.Common.{◌≡◌, ◌+◌, ◌*◌, ◌≤◌, take}
use Rattle.decimal.specs.Put.{Put}
use Rattle.decimal.specs.Text.{joined}
use Rattle.decimal.proofs.Writer.put_joined.Given as goal

abbrev pub invariant-loop-k : goal.invariant-loop-k
invariant-loop-k l =
    record {
      same_buffer : l.self.buffer.ghost_name ≡ l.initial.self.buffer.ghost_name;
      put : Put l.initial.self.buffer.now l.initial.self.at (joined (take l.k l.w-items)) l.self.at l.self.buffer.now;
      short : l.self.at ≤ l.initial.self.at + 7 * l.k;
    }
