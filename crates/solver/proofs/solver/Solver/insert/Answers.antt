use Rattle.std.proofs.Common.{◌+◌, ◌/◌, ◌%◌, length, Option, unwrap_or, sym, refl, ◌∙◌}
use Rattle.table.specs.Climb.{up}
use Rattle.table.specs.declared.table.DepthTable.{DepthTable}
use Rattle.solver.specs.Suits.{TableSuits}
use Rattle.update.proofs.Cycles.{cycle_leads}
use Rattle.law.specs.Standing.{bounds_of}
use Rattle.bounds.specs.Scopes.{in_scope}
use Rattle.bounds.specs.declared.scope.Scope.TheVariants.{First}
use Rattle.bounds.proofs.Firsts.{first_sound}
use Rattle.bounds.proofs.Limits.{usable}
use Rattle.solver.proofs.Opens.{by_cases, found_as, insert_some, none_tied, suits_of, tie_bound, witness_of}
use Rattle.solver.proofs.solver.Solver.insert.Goals as goal

pub returns-in_default : goal.returns-in_default
returns-in_default g c =
    let s = c.self.inside in
    let tied = rw (← c.self.view_is) at c.requires.tied in
    absurd (tie_bound (g.S.TieStore.meaning s.store) (g.S.TieStore.lawful s.store) g.M.Measure s.total c.args.k (λ e. none_tied _ e tied) (sym c.weight.ensures ∙ c.in_default.is))

pub new-requires-clause-graph : goal.new-requires-clause-graph
new-requires-clause-graph g c =
    let s = c.self.inside in
    let m = g.S.TieStore.meaning s.store in
    let k = c.args.k + 1 in
    let sound = first_sound g.M.Measure s.total m.tie k (rw (← c.self.view_is) at c.requires.limits) in
    usable _ g.M.Measure _ m s.total (in_scope m.tie (First k)) (g.S.TieStore.lawful s.store) sound sound refl (λ _ _. refl)

pub lower-requires-clause-standing : goal.lower-requires-clause-standing
lower-requires-clause-standing g c =
    let s = c.self.inside in
    let table_suits = rw (← c.self.view_is) at c.requires.table in
    rw (c.new.ensures.graph, c.new.ensures.table)
    (insert_some (g.S.TieStore.meaning s.store) (g.S.TieStore.lawful s.store) g.M.Measure s.total c.args.k c.args.table table_suits c.in-Some.bound (sym c.weight.ensures ∙ c.in-Some.is))

pub trail-requires : goal.trail-requires
trail-requires g c =
    let s = c.self.inside in
    let table_suits = rw (← c.self.view_is) at c.requires.table in
    let k = c.args.k in
    let table = c.args.table in
    let found = rw (c.new.ensures.graph, c.new.ensures.table) at c.in-Err.ensures in
    cycle_leads g.M.Measure.group table.n (bounds_of g.M.Measure s.total (in_scope (g.S.TieStore.meaning s.store).tie (First (k + 1)))) (up c.in-Err.found.rows) (k / 64) (k % 64) found table.few (length c.args.cycle.now) (rw table_suits.same (rw (← c.self.view_is) at c.requires.room))

pub returns-in-Ok : goal.returns-in-Ok
returns-in-Ok g c =
    let μ = g.M.Measure in
    let s = c.self.inside in
    let m = g.S.TieStore.meaning s.store in
    let t = in_scope m.tie (First (c.args.k + 1)) in
    let table = c.args.table in
    let suits = rw (← c.self.view_is) at c.requires.table in
    let found = by_cases (λ (o : Option DepthTable). TableSuits μ s.total m.count t (unwrap_or o table)) c.in-Ok.next
    (λ e. record { same = suits.same; depths = suits.depths; solved = rw (c.new.ensures.graph, c.new.ensures.table) at (found_as μ _ _ _ _ _ _ _ _ c.lower.ensures c.in-Ok.is e) })
    (λ next e. suits_of μ s.total m.count t next (rw (c.new.ensures.graph, c.new.ensures.table, suits.same) at (found_as μ _ _ _ _ _ _ _ _ c.lower.ensures c.in-Ok.is e))) in
    rw (← c.self.view_is, c.unwrap_or.ensures) (found, refl)

pub returns-in-Err : goal.returns-in-Err
returns-in-Err g c =
    let s = c.self.inside in
    let table_suits = rw (← c.self.view_is) at c.requires.table in
    let m = g.S.TieStore.meaning s.store in
    let k = c.args.k in
    let table = c.args.table in
    let found = rw (c.new.ensures.graph, c.new.ensures.table) at c.in-Err.ensures in
    rw (← c.self.view_is) (witness_of g.M.Measure.group table.n m.count (bounds_of g.M.Measure s.total (in_scope m.tie (First (k + 1)))) (up c.in-Err.found.rows) (k / 64) (k % 64) c.args.cycle.now c.trail.new.out c.trail.result
    table_suits.same found c.trail.ensures.count c.trail.ensures.out)
