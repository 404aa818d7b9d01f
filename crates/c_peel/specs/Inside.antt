-- What the private functions tell each other.
use Rattle.std.specs.Prelude.{List, ◌++◌, ℕ, ◌+◌, length, take, drop}

-- a buffer with a part laid at place n
abbrev pub laid : {A : Type 0} → List A → ℕ → List A → List A
laid out n part = take n out ++ (part ++ drop (n + length part) out)
