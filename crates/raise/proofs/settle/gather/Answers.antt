use Rattle.std.proofs.Common.{◌≡◌, ℕ, ◌+◌, ◌<◌, ◌≤◌, List, Bool, ap, ◌∙◌, sym, true, arith}
use Rattle.measure.proofs.Within.{wider_to}
use Rattle.table.specs.Climb.{deep}
use Rattle.update.specs.declared.work.Work.{Work}
use Rattle.update.specs.Tabled.{Tabled}
use Rattle.update.specs.Reading.{Deep, flag}
use Rattle.update.proofs.Rows.{no_flag}
use Rattle.raise.proofs.Spreads.{Gathers, gathers_all, gathers_next, gathers_skip, kept_small}
use Rattle.raise.proofs.settle.gather.Goals as goal
use Rattle.raise.proofs.settle.gather.Goals.{then-work-x, else-work-x}

pub relax-requires-clause-sizes : goal.relax-requires-clause-sizes
relax-requires-clause-sizes g c z h = wider_to g.M.Measure.laws.wider 64 255 _ (omega arith) (c.loop-x.invariant.1 z h)

pub loop-x-preserved : goal.loop-x-preserved
loop-x-preserved g c =
    let m = g.M.Measure in
    let u = c.args.update.now in
    let K = flag c.args.work.now.done in
    let now = c.loop-x.work in
    let x = c.loop-x.x in
    let inside : c.loop-x.x < c.args.update.now.table.n = omega (arith, c.loop-x-test.true, c.n-x-end.ensures, ap (λ (v : Tabled _). v.table.n) c.update.view_is) in
    let goal : Work → Type 0 = λ v. (v.done ≡ c.args.work.now.done) × Deep m u.table.n 64 v.rows × ((z : ℕ) → z < u.table.n → flag v.done z ≡ true → m.within 63 (deep v.rows z)) × Gathers g.G.Graph m u K v (x + 1) in
    elim c.if-work-x.branch [
      | then-work-x v ↦
          let told = v.relax.ensures in
          let next = v.relax.new.work in
          let sizes : (z : ℕ) → z < u.table.n → m.within 64 (deep v.relax.new.work.rows z) = told.sizes 63 (omega arith) (c.loop-x.invariant.2 x inside v.if-work-x.true) c.loop-x.invariant.1 in
          let was : (z : ℕ) → flag v.relax.new.work.done z ≡ true → flag c.loop-x.work.done z ≡ true = λ z d. sym (ap (λ (b : List Bool). flag b z) told.done) ∙ d in
          rw v.work-is (
            told.done ∙ c.loop-x.invariant.0,
            sizes,
            (λ z h d. kept_small g.G.Graph m u now next x _ (no_flag 64) v.relax.result told.relaxed z (was z d) (c.loop-x.invariant.2 z h (was z d)) (sizes z h)),
            gathers_next g.G.Graph m u K c.requires.rises now x c.loop-x.invariant.3 next _ (no_flag 64) (rw c.loop-x.invariant.0 at v.if-work-x.true) v.relax.result (rw c.loop-x.invariant.0 at told.relaxed),
          )
      | else-work-x v ↦
          rw v.work-is (c.loop-x.invariant.0, c.loop-x.invariant.1, c.loop-x.invariant.2, gathers_skip g.G.Graph m u K c.requires.rises now x c.loop-x.invariant.3 (rw c.loop-x.invariant.0 at v.if-work-x.false))
    ]

pub returns : goal.returns
returns g c =
    let all : c.args.update.now.table.n ≤ c.loop-x.x = omega (arith, c.loop-x-test.false, c.n-x-end.ensures, ap (λ (v : Tabled _). v.table.n) c.update.view_is) in
    record {
      begun = gathers_all g.G.Graph g.M.Measure c.args.update.now (flag c.args.work.now.done) c.requires.rises c.loop-x.work c.loop-x.x all c.loop-x.invariant.3 (ap flag c.loop-x.invariant.0);
      room = λ z h. wider_to g.M.Measure.laws.wider 64 _ _ (omega arith) (c.loop-x.invariant.1 z h);
    }
