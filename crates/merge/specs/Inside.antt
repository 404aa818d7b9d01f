-- What the private functions tell each other.
use Rattle.std.specs.Prelude.{List, ◌++◌, ℕ, ◌+◌, take, drop}

-- an output with a record at byte n
abbrev pub put : List ℕ → ℕ → List ℕ → List ℕ
put out n r = take n out ++ (r ++ drop (n + 12) out)
