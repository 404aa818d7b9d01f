-- What a read gave stands behind what had come, and the reader gave the one and then the other.
use Rattle.std.proofs.Common.{◌≡◌, ℕ, ◌+◌, ◌≤◌, List, ◌++◌, Option, rules, length, take, drop, ap, sym, ◌∙◌, subst, le_refl, drop_at, length-take-le}
use Rattle.std.proofs.lemmas.Slice.{take-put_mid_below}
use Rattle.std.specs.Io.KnownBytes.{Consumes}
use Rattle.std.proofs.KnownBytes.{Consumes-trans}
use borrow.Rule.Slice.PartMut.{put_mid, post_of}
use lib.Seq.{take-add, take-append-le}
use Rattle.streams.proofs.read_full.Goals as goal

-- a list that was overwritten from a on, up to n behind a
put_through : (a k n : ℕ) (xs ys : List ℕ) → a ≤ length xs → n ≤ length ys → take (a + n) (put_mid a k xs ys) ≡ take a xs ++ take n ys
put_through a k n xs ys within fits =
    let after = post_of a k xs in
    take-add a n (put_mid a k xs ys)
    ∙ ap (λ l. l ++ take n (drop a (put_mid a k xs ys))) (take-put_mid_below a k xs ys a (le_refl a) within)
    ∙ ap (λ l. take a xs ++ take n l) (drop_at (take a xs) (ys ++ after) a (length-take-le a xs within))
    ∙ ap (λ l. take a xs ++ l) (take-append-le n ys after fits)

read_on :
    (old mid new : Option (List ℕ)) (a k n : ℕ) (xs ys : List ℕ) →
    a ≤ length xs →
    n ≤ length ys →
    Consumes old mid (take a xs) →
    Consumes mid new (take n ys) →
    Consumes old new (take (a + n) (put_mid a k xs ys))
read_on old mid new a k n xs ys within fits before now =
    subst (Consumes old new) (sym (put_through a k n xs ys within fits)) (Consumes-trans old mid new (take a xs) (take n ys) before now)

pub loop-n-preserved : goal.loop-n-preserved
loop-n-preserved g c =
    let before = c.loop-n.invariant.bytes in
    let now = c.in-Ok.ensures.bytes.0 in
    let last = read_on (g.R.Read.remaining c.args.reader.now) (g.R.Read.remaining c.loop-n.reader) in
    record {
      size = search rules;
      count = search rules;
      bytes = search (rules, last, before, now);
    }
