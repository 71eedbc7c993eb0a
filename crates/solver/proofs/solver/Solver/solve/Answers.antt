use Rattle.std.proofs.Common.{◌≡◌, ℕ, ◌+◌, ◌/◌, ◌%◌, false, is_some, rules, List, set, replicate, refl, ap, ◌∙◌, subst, arith}
use Rattle.std.proofs.lemmas.Result.{err_from_is_err_and}
use Rattle.measure.specs.declared.Amount.{Amount}
use Rattle.bounds.specs.Scopes.{in_scope}
use Rattle.bounds.specs.declared.scope.Scope.TheVariants.{First}
use Rattle.law.specs.Standing.{bounds_of}
use Rattle.solver.specs.Opening.{Witness}
use Rattle.solver.specs.Suits.{TableSuits}
use Rattle.solver.specs.Trials.{Upheld}
use Rattle.solver.proofs.Opens.{insert_all, insert_none, untied_none, witness_all}
use Rattle.solver.proofs.Starts.{start_suits}
use Rattle.solver.proofs.solver.Solver.solve.Goals as goal

pub loop-k-init : goal.loop-k-init
loop-k-init g c =
    let μ = g.M.Measure in
    let s = c.self.inside in
    let m = g.S.TieStore.meaning s.store in
    let table = c.flat-table.result in
    let limits = rw (← c.self.view_is) at c.requires.limits in
    let deep = rw (← c.self.view_is) at c.requires.deep in
    rw (← c.self.view_is) (
      start_suits μ s.total m.tie table limits.total_small deep
          (c.flat-table.ensures.rows ∙ ap (λ (i : Amount). set (replicate 64 (record { depth = s.total; parent = 0 })) 0 (record { depth = i; parent = 0 })) c.zero.ensures)
          m.count (c.flat-table.ensures.n ∙ c.marker_count.ensures),
      refl,
    )

pub loop-k-preserved-then-not-is_tied : goal.loop-k-preserved-then-not-is_tied
loop-k-preserved-then-not-is_tied g c =
    let s = c.args.self.now in
    let m = g.S.TieStore.meaning s.store in
    let k = c.loop-k.k in
    let untied : is_some (m.tie (k / 64) (k % 64)) ≡ false = search rules in
    (insert_none m (g.S.TieStore.lawful s.store) g.M.Measure s.total k c.loop-k.table c.loop-k.invariant.0 (untied_none _ untied), c.loop-k.invariant.1)

pub returns-in_err-table : goal.returns-in_err-table
returns-in_err-table g c =
    let μ = g.M.Measure in
    let s = c.args.self.now in
    let m = g.S.TieStore.meaning s.store in
    let whole : Upheld g.S.TieStore μ c.args.self.now = rw (← c.self.view_is) c.self.invariant in
    let law = g.S.TieStore.lawful s.store in
    let size = c.in_err-table.field-0.0 in
    let p = err_from_is_err_and c.from_residual.result c.from_residual.ensures.1 in
    rw (p.1, p.2) (subst (λ (b : List ℕ). Witness μ.group m.count (bounds_of μ s.total m.tie) b c.insert.new.cycle size) c.loop-k.invariant.1
    (witness_all m law μ s.total (c.loop-k.k + 1) c.loop-k.cycle c.insert.new.cycle size c.in_err-table.ensures))

pub returns : goal.returns
returns g c =
    let μ = g.M.Measure in
    let s = c.args.self.now in
    let m = g.S.TieStore.meaning s.store in
    let whole : Upheld g.S.TieStore μ c.args.self.now = rw (← c.self.view_is) c.self.invariant in
    let law = g.S.TieStore.lawful s.store in
    let last : c.loop-k.k ≡ 4096 = omega (arith, c.loop-k.auto.k-end) in
    let all = subst (λ (i : ℕ). TableSuits μ s.total m.count (in_scope m.tie (First i)) c.loop-k.table) last c.loop-k.invariant.0 in
    (insert_all m law μ s.total c.loop-k.table all, c.loop-k.invariant.1)
