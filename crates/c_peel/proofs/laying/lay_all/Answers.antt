-- One more round lays its vector and its numbers behind those before it.
use Rattle.std.proofs.Common.{rules, ◌≡◌, ◌+◌, ◌-◌, ◌*◌, ◌<◌, ◌≤◌, ◌++◌, length, get_or, take, drop, List, ℕ, ℤ, arith}
use Rattle.search.specs.declared.Answer.{Answer}
use Rattle.c_buffers.specs.Buffers.{filled}
use Rattle.c_peel.specs.Calls.{round_numbers, vectors_of, numbers_of}
use Rattle.c_peel.proofs.Parts.{Laid, laid_part, none_laid, one_laid, still_long, all_laid}
use Rattle.c_peel.proofs.laying.lay_all.Goals as goal

vector_laid : (parts : List Answer) (old out place : List ℤ) (k n : ℕ) (d : Answer) →
    place ≡ filled (take n (drop (k * 8) out)) (get_or parts k d).vector →
    length (get_or parts k d).vector ≡ 8 →
    n ≡ 8 →
    k < length parts →
    k * 8 + 8 ≤ length out →
    Laid (λ a. a.vector) parts old k (k * 8) out →
    Laid (λ a. a.vector) parts old (k + 1) ((k + 1) * 8) (take (k * 8) out ++ (place ++ drop n (drop (k * 8) out)))
vector_laid parts old out place k n d e eight long below room g =
    one_laid (λ a. a.vector) parts old k (k * 8) ((k + 1) * 8) out _ d below (omega (arith, eight))
    (laid_part out (get_or parts k d).vector place (k * 8) n (omega (arith, eight, long)) (omega (arith, eight, room)) e) g

numbers_laid : (parts : List Answer) (old out place : List ℕ) (k n : ℕ) (d : Answer) →
    place ≡ filled (take n (drop (k * 6) out)) (round_numbers (get_or parts k d)) →
    n ≡ 6 →
    k < length parts →
    k * 6 + 6 ≤ length out →
    Laid round_numbers parts old k (k * 6) out →
    Laid round_numbers parts old (k + 1) ((k + 1) * 6) (take (k * 6) out ++ (place ++ drop n (drop (k * 6) out)))
numbers_laid parts old out place k n d e long below room g =
    one_laid round_numbers parts old k (k * 6) ((k + 1) * 6) out _ d below (omega arith)
    (laid_part out (round_numbers (get_or parts k d)) place (k * 6) n (omega (arith, long)) (omega (arith, room)) e) g

pub loop-k-init : goal.loop-k-init
loop-k-init c =
    let a = c.args in
    (none_laid (λ a. a.vector) a.answers a.vectors.now, none_laid round_numbers a.answers a.numbers.now)

pub returns-clause-vectors : goal.returns-clause-vectors
unfolding vectors_of
returns-clause-vectors c =
    let a = c.args in
    let l = c.loop-k in
    let done : l.k ≡ 4 = search rules in
    let four : length a.answers ≡ 4 = search rules in
    all_laid (λ a. a.vector) a.answers a.vectors.now l.k (l.k * 8) l.vectors (omega (arith, four, done))
    (omega (arith, c.requires.0, done)) l.invariant.0

pub returns-clause-numbers : goal.returns-clause-numbers
unfolding numbers_of
returns-clause-numbers c =
    let a = c.args in
    let l = c.loop-k in
    let done : l.k ≡ 4 = search rules in
    let four : length a.answers ≡ 4 = search rules in
    all_laid round_numbers a.answers a.numbers.now l.k (l.k * 6) l.numbers (omega (arith, four, done))
    (omega (arith, c.requires.1, done)) l.invariant.1

pub loop-k-preserved : goal.loop-k-preserved
loop-k-preserved c =
    let a = c.args in
    let l = c.loop-k in
    let below : l.k < 4 = search rules in
    let four : length a.answers ≡ 4 = search rules in
    let v : length l.vectors ≡ length a.vectors.now =
    still_long (λ a. a.vector) a.answers a.vectors.now l.k (l.k * 8) l.vectors (omega (arith, c.requires.0, below)) l.invariant.0 in
    let n : length l.numbers ≡ length a.numbers.now =
    still_long round_numbers a.answers a.numbers.now l.k (l.k * 6) l.numbers (omega (arith, c.requires.1, below)) l.invariant.1 in (
      vector_laid a.answers a.vectors.now l.vectors c.fill.new.out l.k _ _ c.fill.ensures (search rules)
          (omega arith) (omega (arith, four, below)) (omega (arith, v, c.requires.0, below)) l.invariant.0,
      numbers_laid a.answers a.numbers.now l.numbers c.fill-in-loop-k.new.out l.k _ _
          (rw c.answer_numbers.ensures at c.fill-in-loop-k.ensures) (omega arith) (omega (arith, four, below))
          (omega (arith, n, c.requires.1, below)) l.invariant.1,
    )
