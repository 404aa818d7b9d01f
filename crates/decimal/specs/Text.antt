-- Words and numbers as text, a byte for each character.
use Rattle.std.specs.Prelude.{cond, List, ◌++◌, ℕ, zero, suc, ◌+◌, ◌/◌, ◌%◌, ltb, ℤ, pos, negsuc}
use Prim.Native.Char.{code}
use Prim.Native.String.{String, [], ◌∷◌}

-- the bytes of a text in ASCII
abbrev pub ascii : String → List ℕ
ascii [] = List.[]
ascii (c ∷ s) = List.◌∷◌ (code c) (ascii s)

-- one byte alone
abbrev pub byte : ℕ → List ℕ
byte b = List.◌∷◌ b List.[]

-- A number of k digits or fewer: below 10 one digit, else the last one behind the digits of n / 10. The digit 0 is byte 48.
-- What is named by `let` is computed only where it is needed.
unfoldable pub digits_of : ℕ → ℕ → List ℕ
digits_of zero n = List.[]
digits_of (suc k) n =
    let more = digits_of k (n / 10) ++ byte (48 + n % 10) in
    cond (ltb n 10) (byte (48 + n)) more

-- "in decimal without leading zeros"; n has no more than n + 1 digits
unfoldable pub decimal : ℕ → List ℕ
decimal n = digits_of (suc n) n

-- "a negative one with - before it"; `negsuc n` is −(n + 1)
unfoldable pub signed : ℤ → List ℕ
signed (pos n) = decimal n
signed (negsuc n) = ascii "-" ++ decimal (suc n)

-- each number behind a comma
unfoldable pub behind_commas : List ℤ → List ℕ
behind_commas List.[] = List.[]
behind_commas (List.◌∷◌ w ws) = (ascii "," ++ signed w) ++ behind_commas ws

-- "joined by commas"
unfoldable pub joined : List ℤ → List ℕ
joined List.[] = List.[]
joined (List.◌∷◌ w ws) = signed w ++ behind_commas ws
