-- The line of an answer.
use Rattle.std.specs.Prelude.{Bool, cond, List, [], ◌++◌, ℕ, ◌*◌, leb, length, take}
use Prim.Native.String.{String}
use Rattle.codes.specs.declared.Refusal.{Refusal}
use Rattle.codes.specs.Codes.{number_of}
use Rattle.decimal.specs.Text.{ascii, byte, decimal, joined}
use Rattle.jobs.specs.declared.Model.{Model}
use Rattle.search.specs.declared.Answer.{Answer}
use Rattle.search.specs.declared.Kind.{Kind}
use Rattle.search.specs.declared.Kind.TheVariants.{Solved, Spent, Full, Refused}

-- a number behind its name
abbrev pub field : String → ℕ → List ℕ
field name n = ascii name ++ decimal n

-- "The fields are C, L, count, open boxes, peak …"
abbrev pub numbers : ℕ → ℕ → ℕ → ℕ → ℕ → List ℕ
numbers c l count opened peak =
    field " cost=" c ++ field " bound=" l ++ field " splits=" count ++ field " open=" opened ++ field " peak=" peak

-- "… and the n × d used coordinates joined by commas".
unfoldable pub fields : Model → Answer → List ℕ
fields m a = numbers a.cost a.bound a.count a.«open» a.peak ++ ascii " w=" ++ joined (take (m.n * m.d) a.vector)

-- It "begins with the fixed bytes of solved, spent, full or refused. A refusal has one space and the refusal number after it, and no
-- record number."
abbrev pub worded : Kind → List ℕ → List ℕ
worded Solved rest = ascii "solved" ++ rest
worded Spent rest = ascii "spent" ++ rest
worded Full rest = ascii "full" ++ rest
worded (Refused why) rest = field "refused " (number_of why)

-- "Its one line, ended by byte 10".
unfoldable pub line : Model → Answer → List ℕ
line m a = worded a.kind (fields m a) ++ byte 10

-- Whether every line fits into a buffer: a word, 5 names and numbers, 8 coordinates and the end are at most 200 bytes.
abbrev pub takes_lines : List ℕ → Bool
takes_lines out = leb 200 (length out)

-- the line that goes into a buffer: none where some line would not fit
unfoldable pub line_in : Model → Answer → List ℕ → List ℕ
line_in m a out = cond (takes_lines out) (line m a) []

-- the line of a refusal in a buffer: that of the answer to a job that is refused
unfoldable pub refusal_in : Refusal → List ℕ → List ℕ
refusal_in why out = cond (takes_lines out) (field "refused " (number_of why) ++ byte 10) []
