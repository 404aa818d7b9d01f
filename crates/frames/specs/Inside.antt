-- What the private functions tell each other.
use Rattle.std.specs.Prelude.{true, List, ◌≡◌, ℕ, ◌%◌, length}
use Rattle.frames.specs.Frames.{frames_of, rising}

-- A store with whole records whose frame numbers rise.
pub record Sound (store : List ℕ) : Type 0 where
  pub whole : length store % 12 ≡ 0
  pub rises : rising (frames_of store) ≡ true
