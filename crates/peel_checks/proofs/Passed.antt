-- The checks of a search behind others, and what a call that passes all of them has. Assumes nothing.
use mathlib.Core.Path.{◌≡◌, refl, sym, ap, ◌∙◌}
use mathlib.Core.List.{List, [], ◌∷◌, ◌++◌}
use Prim.Native.Nat.{ℕ, ◌/◌, ◌≤◌}
use lib.Dec.{T, leb, eqb, leb→le, eqb→eq}
use lib.IntN.{ℤ}
use lib.ListN.{length}
use Rattle.std.specs.Prelude.{Ok, Err}
use Rattle.codes.specs.declared.Refusal.{Refusal}
use Rattle.codes.specs.Codes.{Check, pass, pass_if, within, in_order}
use Rattle.codes.proofs.Checks.{passed, passes, first_passed, others_passed, refused_not_passed}
use Rattle.codes.proofs.Laws.{in_order_group, others_decide, after_refusal}
use Rattle.integers.proofs.Tests.{and_parts}
use Rattle.scale.specs.Scale.{check_scale}
use Rattle.boxes.specs.Shape.{check_shape, check_vector, unused_zero}
use Rattle.boxes.specs.Boxes.{check_box, check_start}
use Rattle.jobs.specs.declared.Job.{Job}
use Rattle.jobs.specs.declared.Model.{Model}
use Rattle.points.specs.Points.{points_of, check_store, check_stray}
use Rattle.loss.specs.Loss.{check_loss, check_loss_for}
use Rattle.model_checks.specs.Checks.{check_model, check_threshold}
use Rattle.search_checks.specs.Checks.{check_job, check_search}
use Rattle.search_checks.proofs.Passed.{runs_accepted}
use Rattle.peel_checks.specs.Checks.{model_checks, lent_checks, check_peel}

-- behind 1 to 4 the checks of a search are the others
search_behind : (model box start stray table bounds : Check) → model ≡ pass →
    in_order (in_order (model ∷ box ∷ start ∷ stray ∷ []) ∷ table ∷ bounds ∷ [])
    ≡ in_order (box ∷ start ∷ stray ∷ table ∷ bounds ∷ [])
unfolding in_order
search_behind model box start stray table bounds e = rw e (in_order_group (box ∷ start ∷ stray ∷ []) (table ∷ bounds ∷ []))

four_pass : (a b c d : Check) → a ≡ pass → b ≡ pass → c ≡ pass → d ≡ pass → in_order (a ∷ b ∷ c ∷ d ∷ []) ≡ pass
unfolding in_order
four_pass a b c d p q r s = rw (p, q, r, s) refl

three_pass : (a b c : Check) → a ≡ pass → b ≡ pass → c ≡ pass → in_order (a ∷ b ∷ c ∷ []) ≡ pass
unfolding in_order
three_pass a b c p q r = rw (p, q, r) refl

threshold_same : (records p ε : ℕ) → p ≡ 0 → check_loss_for records p ε ≡ check_loss p ε
unfolding check_loss_for
threshold_same records p ε e = rw e refl

threshold : (records p ε : ℕ) → p ≡ 0 → check_loss p ε ≡ pass → check_loss_for records p ε ≡ pass
threshold records p ε e h = threshold_same records p ε e ∙ h

any_records : (records others p ε : ℕ) → p ≡ 0 → check_loss_for records p ε ≡ check_loss_for others p ε
any_records records others p ε e = threshold_same records p ε e ∙ sym (threshold_same others p ε e)

module _ (store : List ℕ) (job : Job) (limit numbers entries labels : ℕ) where
  abbrev m : Model
  m = job.model

  abbrev given : Check
  given = in_order (model_checks (length store) m limit)

  -- what 1 to 4 and 13 come to where they pass
  pub record Given : Type 0 where
    pub line : m.n ≡ 1
    pub counts : m.p ≡ 0
    pub some : 1 ≤ limit
    pub few : limit ≤ 4
    pub checked : check_model store m ≡ pass

  pub given_passed : given ≡ pass → Given
  unfolding check_model
  given_passed e =
      let c₁ = check_store (length store) in
      let c₂ = check_shape m.n m.d in
      let c₃ = pass_if (eqb m.n 1) Refusal.Shape in
      let c₄ = check_scale m.scale in
      let c₅ = check_loss m.p m.eps in
      let c₆ = pass_if (eqb m.p 0) Refusal.Loss in
      let c₇ = pass_if (within 1 limit 4) Refusal.Rounds in
      let e₂ = others_passed c₁ (c₂ ∷ c₃ ∷ c₄ ∷ c₅ ∷ c₆ ∷ c₇ ∷ []) e in
      let e₃ = others_passed c₂ (c₃ ∷ c₄ ∷ c₅ ∷ c₆ ∷ c₇ ∷ []) e₂ in
      let e₄ = others_passed c₃ (c₄ ∷ c₅ ∷ c₆ ∷ c₇ ∷ []) e₃ in
      let e₅ = others_passed c₄ (c₅ ∷ c₆ ∷ c₇ ∷ []) e₄ in
      let e₆ = others_passed c₅ (c₆ ∷ c₇ ∷ []) e₅ in
      let e₇ = others_passed c₆ (c₇ ∷ []) e₆ in
      let counts : m.p ≡ 0 = eqb→eq m.p 0 (passed (eqb m.p 0) Refusal.Loss (first_passed c₆ (c₇ ∷ []) e₆)) in
      let limits = and_parts (leb 1 limit) (leb limit 4) (passed (within 1 limit 4) Refusal.Rounds (first_passed c₇ [] e₇)) in
      record {
        line = eqb→eq m.n 1 (passed (eqb m.n 1) Refusal.Shape (first_passed c₃ (c₄ ∷ c₅ ∷ c₆ ∷ c₇ ∷ []) e₃));
        counts = counts;
        some = leb→le 1 limit limits.0;
        few = leb→le limit 4 limits.1;
        checked =
            four_pass c₁ c₂ c₄ (check_loss_for (length store / 12) m.p m.eps)
            (first_passed c₁ (c₂ ∷ c₃ ∷ c₄ ∷ c₅ ∷ c₆ ∷ c₇ ∷ []) e)
            (first_passed c₂ (c₃ ∷ c₄ ∷ c₅ ∷ c₆ ∷ c₇ ∷ []) e₂)
            (first_passed c₄ (c₅ ∷ c₆ ∷ c₇ ∷ []) e₄)
            (threshold (length store / 12) m.p m.eps counts (first_passed c₅ (c₆ ∷ c₇ ∷ []) e₅));
      }

  abbrev room : Check
  room = pass_if (leb (length store / 12) labels) Refusal.Short

  -- where they pass, the checks of a search and the room for labels decide
  pub search_decides : given ≡ pass →
      check_peel store job limit numbers entries labels ≡ in_order (check_search store job numbers entries ∷ room ∷ [])
  unfolding check_peel check_search check_job
  search_decides e =
      let box = check_box m.n m.d job.domain in
      let start = check_start job.domain job.start in
      let stray = check_stray m.d (points_of store) in
      let table = pass_if (leb 16 numbers) Refusal.Table in
      let bounds = pass_if (leb (numbers / 16) entries) Refusal.Bounds in
      others_decide (model_checks (length store) m limit) (lent_checks store job numbers entries labels) e
      ∙ sym
      (ap (λ (c : Check). in_order (c ∷ room ∷ []))
      (search_behind (check_model store m) box start stray table bounds (given_passed e).checked)
      ∙ in_order_group (box ∷ start ∷ stray ∷ table ∷ bounds ∷ []) (room ∷ []))

  pub first_refuses : (r : Refusal) → given ≡ Err r → check_peel store job limit numbers entries labels ≡ Err r
  unfolding check_peel
  first_refuses r e = after_refusal (model_checks (length store) m limit) (lent_checks store job numbers entries labels) r e

  -- what a call that is accepted has
  pub record Accepted : Type 0 where
    pub given_holds : Given
    pub searching : check_search store job numbers entries ≡ pass
    pub room_holds : length store / 12 ≤ labels

  front_passed : (cs ds : List Check) → in_order (cs ++ ds) ≡ pass → in_order cs ≡ pass
  unfolding in_order
  front_passed [] ds e = refl
  front_passed (Ok _ ∷ cs) ds e = front_passed cs ds e
  front_passed (Err r ∷ cs) ds e = refused_not_passed r e

  pub accepted : check_peel store job limit numbers entries labels ≡ pass → Accepted
  unfolding check_peel
  accepted e =
      let first = front_passed (model_checks (length store) m limit) (lent_checks store job numbers entries labels) e in
      let rest = sym (search_decides first) ∙ e in
      let c = check_search store job numbers entries in
      record {
        given_holds = given_passed first;
        searching = first_passed c (room ∷ []) rest;
        room_holds =
            leb→le (length store / 12) labels (passed (leb (length store / 12) labels) Refusal.Short
            (first_passed room [] (others_passed c (room ∷ []) rest)));
      }

-- check 4 of a model
loss_passed : (store : List ℕ) (m : Model) → m.p ≡ 0 → check_model store m ≡ pass → check_loss m.p m.eps ≡ pass
unfolding check_model
loss_passed store m counts e =
    let c₁ = check_store (length store) in
    let c₂ = check_shape m.n m.d in
    let c₃ = check_scale m.scale in
    let c₄ = check_loss_for (length store / 12) m.p m.eps in
    sym (threshold_same (length store / 12) m.p m.eps counts)
    ∙ first_passed c₄ [] (others_passed c₃ (c₄ ∷ []) (others_passed c₂ (c₃ ∷ c₄ ∷ []) (others_passed c₁ (c₂ ∷ c₃ ∷ c₄ ∷ []) e)))

-- the checks of a search where those of the store's length, of p and of the fields are others that pass
swapped : (a b c d x y z t u a' d' z' : Check) →
    in_order (in_order (in_order (a ∷ b ∷ c ∷ d ∷ []) ∷ x ∷ y ∷ z ∷ []) ∷ t ∷ u ∷ []) ≡ pass → a' ≡ pass → d ≡ d' → z' ≡ pass →
    in_order (in_order (in_order (a' ∷ b ∷ c ∷ d' ∷ []) ∷ x ∷ y ∷ z' ∷ []) ∷ t ∷ u ∷ []) ≡ pass
swapped a b c d x y z t u a' d' z' e ea ed ez =
    let model = in_order (a ∷ b ∷ c ∷ d ∷ []) in
    let given = in_order (model ∷ x ∷ y ∷ z ∷ []) in
    let lent = others_passed given (t ∷ u ∷ []) e in
    let job = first_passed given (t ∷ u ∷ []) e in
    let region = others_passed model (x ∷ y ∷ z ∷ []) job in
    let behind = others_passed x (y ∷ z ∷ []) region in
    let m₁ = others_passed a (b ∷ c ∷ d ∷ []) (first_passed model (x ∷ y ∷ z ∷ []) job) in
    let m₂ = others_passed b (c ∷ d ∷ []) m₁ in
    let m₃ = others_passed c (d ∷ []) m₂ in
    three_pass _ t u
    (four_pass _ x y z'
    (four_pass a' b c d' ea (first_passed b (c ∷ d ∷ []) m₁) (first_passed c (d ∷ []) m₂) (sym ed ∙ first_passed d [] m₃))
    (first_passed x (y ∷ z ∷ []) region) (first_passed y (z ∷ []) behind) ez)
    (first_passed t (u ∷ []) lent) (first_passed u [] (others_passed t (u ∷ []) lent))

-- A store of some of the points, whose length and fields pass, is accepted by a search as the whole one is.
pub others_searched : (store others : List ℕ) (job : Job) (numbers entries : ℕ) → job.model.p ≡ 0 →
    check_search store job numbers entries ≡ pass →
    check_store (length others) ≡ pass →
    check_stray job.model.d (points_of others) ≡ pass →
    check_search others job numbers entries ≡ pass
unfolding check_search check_job check_model
others_searched store others job numbers entries counts e long clear =
    let m = job.model in
    swapped (check_store (length store)) (check_shape m.n m.d) (check_scale m.scale)
    (check_loss_for (length store / 12) m.p m.eps) (check_box m.n m.d job.domain) (check_start job.domain job.start)
    (check_stray m.d (points_of store)) (pass_if (leb 16 numbers) Refusal.Table) (pass_if (leb (numbers / 16) entries) Refusal.Bounds)
    (check_store (length others)) (check_loss_for (length others / 12) m.p m.eps) (check_stray m.d (points_of others)) e long
    (any_records (length store / 12) (length others / 12) m.p m.eps counts) clear

-- what checks 1 to 7 of a search say of its store
pub stray_passed : (store : List ℕ) (job : Job) (numbers entries : ℕ) → check_search store job numbers entries ≡ pass →
    check_stray job.model.d (points_of store) ≡ pass
unfolding check_search check_job
stray_passed store job numbers entries e =
    let m = job.model in
    let box = check_box m.n m.d job.domain in
    let start = check_start job.domain job.start in
    let stray = check_stray m.d (points_of store) in
    let given =
    first_passed (in_order (check_model store m ∷ box ∷ start ∷ stray ∷ []))
    (pass_if (leb 16 numbers) Refusal.Table ∷ pass_if (leb (numbers / 16) entries) Refusal.Bounds ∷ []) e in
    first_passed stray []
    (others_passed start (stray ∷ [])
    (others_passed box (start ∷ stray ∷ []) (others_passed (check_model store m) (box ∷ start ∷ stray ∷ []) given)))

-- Where p is 0, checks 1 to 4 and 7 of a search and the unused coordinates of a vector are all that labelling asks.
pub threshold_passed : (store : List ℕ) (job : Job) (numbers entries : ℕ) (v : List ℤ) → job.model.p ≡ 0 →
    check_search store job numbers entries ≡ pass → T (unused_zero job.model.n job.model.d v) →
    check_threshold store job.model v ≡ pass
unfolding check_threshold check_vector
threshold_passed store job numbers entries v counts e unused =
    let m = job.model in
    let model = (runs_accepted store job numbers entries e).checked in
    four_pass (check_model store m) (check_loss m.p m.eps) (pass_if (unused_zero m.n m.d v) Refusal.Start)
    (check_stray m.d (points_of store)) model (loss_passed store m counts model)
    (passes (unused_zero m.n m.d v) Refusal.Start unused) (stray_passed store job numbers entries e)
