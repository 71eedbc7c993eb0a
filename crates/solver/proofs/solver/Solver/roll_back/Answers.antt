use Rattle.std.proofs.Common.{rules}
use Rattle.table.specs.Climb.{up}
use Rattle.solver.specs.Inside.{held}
use Rattle.solver.proofs.Settling.{never_err, settles_as}
use Rattle.solver.proofs.Trials.{roll_back_answered, undone_fits}
use Rattle.solver.proofs.solver.Solver.roll_back.Goals as goal

pub unwrap-requires : goal.unwrap-requires
unwrap-requires g c =
    let t = c.in-OnTrial in
    never_err c.settle.result
    (λ found e. undone_fits g.S.TieStore g.M.Measure (held c.self.inside) c.self.invariant.trial t.from t.to t.before t.is c.self.invariant.suits _ (search rules) (up found.rows) (settles_as g.S.TieStore g.M.Measure _ _ _ _ _ _ _ c.settle.ensures e).1)

pub returns-in-OnTrial-clause-answered : goal.returns-in-OnTrial-clause-answered
returns-in-OnTrial-clause-answered g c =
    let t = c.in-OnTrial in
    let h = settles_as g.S.TieStore g.M.Measure _ _ _ _ _ _ _ c.settle.ensures c.unwrap.ensures in
    rw (← c.self.view_is)
    (roll_back_answered g.S.TieStore g.M.Measure (held c.self.inside) c.self.invariant.trial t.from t.to t.before t.is c.args.token.number c.if-token-self.true _ c.unwrap.result
    (record { standing = h.standing; table = h.table; changes = h.changes; counted = h.counted }))
