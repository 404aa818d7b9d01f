-- The end of a search: the open boxes are all kept, so the first rows of the table hold them. Assumes nothing.
use mathlib.Core.Path.{◌≡◌, ◌∙◌}
use mathlib.Core.List.{List}
use Prim.Native.Nat.{ℕ}
use native.Mathlib.Omega.{arith}
use lib.IntN.{ℤ}
use Rattle.boxes.specs.declared.Box.{Box}
use Rattle.certificate.specs.Search as Search
use Rattle.incumbent.specs.Incumbent.{kept_by}
use Rattle.list_blocks.specs.declared.Blocks.{Blocks}
use Rattle.list_running.specs.declared.Listing.{Listing}
use Rattle.list_running.specs.Listing.{SettledBy}
use Rattle.list_running.proofs.Settling.{Together, settled_together}
use Rattle.replacing.specs.Replacing.{Memory}
use Rattle.replacing.proofs.Replacing.{all_kept}
use Rattle.search.specs.declared.Answer.{Answer}
use Rattle.search.specs.declared.run.End.{End}
use Rattle.search.specs.Inside.{answer_with, Ended, Ran}

module _
    (bound : Box → ℕ) (def : Search.Answer) (h : Memory) (z : End) (k : Memory) (is : Ended bound def h z k) (a : Listing) (u : List ℤ)
    (e : List ℕ) (m : Blocks)
    (by : SettledBy k.table k.bounds k.blocks k.late k.beside z.state.list z.state.mark a u e m)
  where
    together : Together bound k.table k.bounds z.state.list.rows def.list a u e
    together =
        rw (all_kept (kept_by bound z.state.mark) is.kept) at
        (settled_together bound k.table k.bounds k.blocks k.late k.beside z.state.list def.list
        is.listed
        z.state.mark is.fits is.room a u e m by)

    pub ran : (r : Answer) → r ≡ answer_with z.kind z.state z.low → Ran bound def h.table h.bounds r u e
    ran r told =
        let g = together in
        record {
          answer = told ∙ is.answer;
          open_rows = rw g.number at g.rows;
          open_entries = rw g.number at g.entries;
          few = is.few;
          long = g.long ∙ is.within.long;
          long_entries = g.long_entries ∙ is.within.long_entries;
          rest = g.rest def.peak is.rows (omega (arith, g.number, is.few)) ∙ is.within.rest;
          rest_entries = g.rest_entries def.peak is.rows (omega (arith, g.number, is.few)) ∙ is.within.rest_entries;
        }
