use Rattle.std.proofs.Common.{◌≡◌, Ok, sym, ap, ◌∙◌, rules}
use Rattle.table.specs.Climb.{up}
use Rattle.law.specs.Refusals.{is_new}
use Rattle.solver.proofs.Openings.{none_of}
use Rattle.solver.proofs.Settling.{never_err, settles_as}
use Rattle.solver.proofs.Ties.{pair_open, untie_fits}
use Rattle.solver.specs.Model.{model}
use Rattle.solver.specs.Trials.{Upheld}
use Rattle.solver.proofs.solver.Solver.untie.Goals as goal

pub unwrap-requires : goal.unwrap-requires
unwrap-requires g c =
    let μ = g.M.Measure in
    let s = c.args.self.now in
    let t = c.args in
    let whole : Upheld g.S.TieStore μ s = rw (← c.self.view_is) c.self.invariant in
    let ok : c.check_untie.result ≡ Ok tt = search rules in
    let none = none_of _ (sym c.check_untie.ensures ∙ ok) in
    let opened = ap is_new (pair_open μ (model g.S.TieStore s).standing _ _ _ none) in
    never_err c.settle.result (λ found e. untie_fits g.S.TieStore μ s _ _ (whole.suits.table opened) (up found.rows) (settles_as g.S.TieStore μ _ _ _ _ _ _ _ c.settle.ensures e).1)
