use Rattle.std.proofs.Common.{◌≡◌, ◌<◌, sym, ap, ◌∙◌, true≢false, arith}
use Rattle.table.specs.Climb.{up as parents_of}
use Rattle.update.specs.Tabled.{Tabled}
use Rattle.change.specs.Changing.{NoLess}
use Rattle.change.proofs.Changes.{no_contradiction, more_no_less, gone_no_less, risen, still_solved}
use Rattle.change.proofs.change.Goals as goal
use Rattle.change.proofs.change.Goals.{in-Some+else-falls, in_default, then-b-eq0-via-then-b-eq0, then-b-eq0-via-else-b-eq0+then-parent-a}

pub returns-then-falls-clause-raised : goal.returns-then-falls-clause-raised
returns-then-falls-clause-raised g c rises =
    let u = c.args.update.now in
    no_contradiction g.G.Graph g.M.Measure u.graph u.table.n u.table.rows c.args.a c.args.b c.args.before c.requires.changed rises c.lower.result c.lower.ensures

pub returns-then-b-eq0-clause-outcome : goal.returns-then-b-eq0-clause-outcome
returns-then-b-eq0-clause-outcome g c =
    let s = g.G.Graph in
    let m = g.M.Measure in
    let u = c.args.update.now in
    let a = c.args.a in
    let b = c.args.b in
    let is = c.weight.ensures ∙ ap (λ (v : Tabled _). s.weight v.graph a b) c.update.view_is in
    let rises : NoLess m (s.weight u.graph a b) c.args.before = elim c.match-weight.branch [
      | in-Some+else-falls w ↦ more_no_less m (s.weight u.graph a b) c.args.before w.in-Some.w (sym is ∙ w.in-Some.is) (λ h. true≢false (sym (w.falls.ensures.1 h) ∙ w.if-falls.false))
      | in_default w ↦ gone_no_less m (s.weight u.graph a b) c.args.before (sym is ∙ w.in_default.is)
    ] in
    let apart : 0 < b → ¬ (parents_of u.table.rows b ≡ a) = elim c.then-b-eq0.branch [
      | then-b-eq0-via-then-b-eq0 w ↦ (λ pos e. omega (arith, w.if-b-eq0.true))
      | then-b-eq0-via-else-b-eq0+then-parent-a w ↦ (λ pos e. omega (arith, w.if-parent-a.true, w.parent.ensures.is ∙ ap (λ (v : Tabled _). parents_of v.table.rows b) c.update.view_is, e))
    ] in
    still_solved s m u.graph u.table.n u.table.rows a b c.args.before c.requires.changed rises apart

pub raise-requires-clause-risen : goal.raise-requires-clause-risen
raise-requires-clause-risen g c =
    let s = g.G.Graph in
    let m = g.M.Measure in
    let u = c.args.update.now in
    let a = c.args.a in
    let b = c.args.b in
    let is = c.weight.ensures ∙ ap (λ (v : Tabled _). s.weight v.graph a b) c.update.view_is in
    let rises : NoLess m (s.weight u.graph a b) c.args.before = elim c.match-weight.branch [
      | in-Some+else-falls w ↦ more_no_less m (s.weight u.graph a b) c.args.before w.in-Some.w (sym is ∙ w.in-Some.is) (λ h. true≢false (sym (w.falls.ensures.1 h) ∙ w.if-falls.false))
      | in_default w ↦ gone_no_less m (s.weight u.graph a b) c.args.before (sym is ∙ w.in_default.is)
    ] in
    risen s m u.graph u.table.n u.table.rows a b c.args.before c.requires.changed rises
