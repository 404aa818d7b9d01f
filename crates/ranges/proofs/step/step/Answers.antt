-- The halves of the last row, each tested by its bound up to one more than the ceiling.
use Rattle.std.proofs.Common.{rules, arith, refl, sym, ap, ◌≡◌, ◌∙◌, ◌+◌, ◌-◌, Bool, cond}
use Prim.Native.Nat.{ℕ, max}
use Rattle.boxes.specs.declared.Halves.{Halves}
use Rattle.boxes.specs.Split.{left_half, right_half, cut_answer}
use Rattle.boxes.proofs.Splitting.{cut_passes}
use Rattle.points.specs.Points.{points_of}
use Rattle.residuals.specs.Cost.{cost, bound}
use Rattle.residuals.proofs.Bounds.{bound_laws}
use Rattle.branching.specs.declared.HalfBounds.{HalfBounds}
use Rattle.branching.specs.Branching.{bounds_up_to}
use Rattle.range_search.specs.RangeSearch.{widen}
use Rattle.range_hulls.specs.Hulls.{found_of}
use Rattle.ranges.specs.Inside.{is_kept, pushed, last_in}
use Rattle.ranges.proofs.Stepping.{full_step, made_step}
use Rattle.ranges.proofs.step.step.Goals as goal

pub unwrap-requires : goal.unwrap-requires
unwrap-requires c =
    let a = c.args in
    let cuts = c.cut.ensures ∙ ap cut_answer c.read_row-b.ensures ∙ cut_passes (last_in a.table.now a.s) c.requires.1.two in
    rw cuts (search rules)

pub returns-then-table-number : goal.returns-then-table-number
returns-then-table-number c =
    let a = c.args in
    let t = a.table.now in
    let b = last_in t a.s in
    let C = cost a.m (points_of a.store.now) in
    let B = bound a.m (points_of a.store.now) in
    let h = c.requires.1 in
    let cuts = c.cut.ensures ∙ ap cut_answer c.read_row-b.ensures ∙ cut_passes b h.two in
    let halves : c.unwrap.result ≡ record { left = left_half b; right = right_half b } = cc (cuts, c.unwrap.ensures) in
    let is-left : c.unwrap.result.left ≡ left_half b = ap (λ (h : Halves). h.left) halves in
    let is_right : c.unwrap.result.right ≡ right_half b = ap (λ (h : Halves). h.right) halves in
    let bounds =
    c.half_bounds-bounds.ensures.store c.requires.0 (is-left ∙ ap left_half (sym c.read_row-b.ensures)) (is_right ∙ ap right_half (sym c.read_row-b.ensures))
    ∙ ap (bounds_up_to B c.unwrap.result.left c.unwrap.result.right) c.just_above.ensures in
    let one : c.from.result ≡ cond c.is_kept.result 1 0 = search rules in
    let two : c.from-2.result ≡ cond c.is_kept-2.result 1 0 = search rules in
    let first : c.from.result ≡ cond (is_kept c.test-first.result) 1 0 = one ∙ ap {B = ℕ} (λ (k : Bool). cond k 1 0) c.is_kept.ensures in
    let second : c.from-2.result ≡ cond (is_kept c.test-second.result) 1 0 = two ∙ ap {B = ℕ} (λ (k : Bool). cond k 1 0) c.is_kept-2.ensures in
    full_step C B a.ceiling t a.s h (bound_laws a.m (points_of a.store.now)) _ _ is-left is_right _ _
    (ap (λ (x : HalfBounds). x.left) bounds) (ap (λ (x : HalfBounds). x.right) bounds)
    c.test-first.result c.test-second.result c.test-first.ensures c.test-second.ensures _ _ first second (omega arith)

pub returns : goal.returns
returns c =
    let a = c.args in
    let t = a.table.now in
    let b = last_in t a.s in
    let C = cost a.m (points_of a.store.now) in
    let B = bound a.m (points_of a.store.now) in
    let h = c.requires.1 in
    let cuts = c.cut.ensures ∙ ap cut_answer c.read_row-b.ensures ∙ cut_passes b h.two in
    let halves : c.unwrap.result ≡ record { left = left_half b; right = right_half b } = cc (cuts, c.unwrap.ensures) in
    let is-left : c.unwrap.result.left ≡ left_half b = ap (λ (h : Halves). h.left) halves in
    let is_right : c.unwrap.result.right ≡ right_half b = ap (λ (h : Halves). h.right) halves in
    let bounds =
    c.half_bounds-bounds.ensures.store c.requires.0 (is-left ∙ ap left_half (sym c.read_row-b.ensures)) (is_right ∙ ap right_half (sym c.read_row-b.ensures))
    ∙ ap (bounds_up_to B c.unwrap.result.left c.unwrap.result.right) c.just_above.ensures in
    let one : c.from.result ≡ cond c.is_kept.result 1 0 = search rules in
    let two : c.from-2.result ≡ cond c.is_kept-2.result 1 0 = search rules in
    let first : c.from.result ≡ cond (is_kept c.test-first.result) 1 0 = one ∙ ap {B = ℕ} (λ (k : Bool). cond k 1 0) c.is_kept.ensures in
    let second : c.from-2.result ≡ cond (is_kept c.test-second.result) 1 0 = two ∙ ap {B = ℕ} (λ (k : Bool). cond k 1 0) c.is_kept-2.ensures in
    let left = c.unwrap.result.left in
    let right = c.unwrap.result.right in
    let peak : c.max.result ≡ max a.s.peak (a.s.«open» - 1 + c.from.result + c.from-2.result) = omega (arith, c.max.ensures) in
    made_step C B a.ceiling t a.s h (bound_laws a.m (points_of a.store.now)) _ _ is-left is_right _ _
    (ap (λ (x : HalfBounds). x.left) bounds) (ap (λ (x : HalfBounds). x.right) bounds)
    c.test-first.result c.test-second.result c.test-first.ensures c.test-second.ensures _ _ first second (omega arith) _ _
    (c.push.ensures ∙ ap (pushed t (a.s.«open» - 1) left) c.is_kept-3.ensures)
    (c.push-2.ensures ∙ ap (pushed c.push.new.table (a.s.«open» - 1 + c.from.result) right) c.is_kept-4.ensures)
    c.costed-one.result
    (c.costed-one.ensures ∙ ap (λ (k : Bool). cond k (widen (found_of a.s.hull) left.low) (found_of a.s.hull)) c.is_counted.ensures)
    _
    (c.costed.ensures
    ∙ ap (λ (k : Bool). cond k (widen (found_of c.costed-one.result) right.low) (found_of c.costed-one.result)) c.is_counted-2.ensures)
    refl refl peak
