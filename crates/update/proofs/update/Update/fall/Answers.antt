use Rattle.std.proofs.Common.{◌<◌, false, length, replicate, subst, rules}
use Rattle.graph.specs.Weights.{weights}
use Rattle.table.specs.Climb.{up as parents_of}
use Rattle.std.proofs.lemmas.Result.{err_from_is_err_and}
use Rattle.update.specs.Tabled.{Tabled, Ready}
use Rattle.update.specs.Reading.{depth, flag}
use Rattle.update.specs.Lowering.{Ancestors, settled}
use Rattle.update.proofs.Rows.{no_flag}
use Rattle.update.proofs.Turns.{not_loop}
use Rattle.update.proofs.Ends.{turning}
use Rattle.update.proofs.Begins.{begin_sizes, begun}
use Rattle.update.proofs.update.Update.fall.Goals as goal

pub returns-then-up-b : goal.returns-then-up-b
returns-then-up-b g c =
    let m = g.M.Measure in
    let u = c.args.self.now in
    let before = c.requires.standing in
    let ready = subst (Ready g.G.Graph m) c.self.view_is c.self.invariant in
    let above = subst (λ (v : Tabled _). Ancestors (parents_of v.table.rows) c.args.a (flag c.ancestors-up.result)) c.self.view_is c.ancestors-up.ensures in
    let climbs = above.only c.args.b c.if-up-b.true in
    rw c.start-work.ensures
    (turning m.group u.table.n before.was (weights g.G.Graph m u.graph) c.args.a c.args.b (m.value c.args.w) (depth m u.table.rows) (parents_of u.table.rows) before.solved before.low
    c.requires.start c.requires.end climbs.0
    (not_loop m.value (g.G.Graph.weight u.graph) c.args.a c.args.b (m.value c.args.w) (ready.graph.no_loop c.args.a) before.low.at)
    climbs.1 climbs.2 c.requires.falls)

pub settle_fallen-requires : goal.settle_fallen-requires
settle_fallen-requires g c =
    let m = g.M.Measure in
    let u = c.args.self.now in
    let ready = subst (Ready g.G.Graph m) c.self.view_is c.self.invariant in
    let long : c.args.b < length c.args.self.now.table.rows = search rules in
    rw c.start-work.ensures
    (begin_sizes m u.table.n (weights g.G.Graph m u.graph) u.table.rows c.args.a c.args.b c.args.w c.allowed.result c.requires.start c.requires.end long c.allowed.ensures.small c.allowed.ensures.is ready.depths
    (settled (flag (replicate 64 false)) u.table.n))

pub returns-in_err-work : goal.returns-in_err-work
returns-in_err-work g c =
    let m = g.M.Measure in
    let u = c.args.self.now in
    let above = subst (λ (v : Tabled _). Ancestors (parents_of v.table.rows) c.args.a (flag c.ancestors-up.result)) c.self.view_is c.ancestors-up.ensures in
    let long : c.args.b < length c.args.self.now.table.rows = search rules in
    let err = err_from_is_err_and c.from_residual.result c.from_residual.ensures.1 in
    rw (err.1, err.2)
    (begun m u.table.n (weights g.G.Graph m u.graph) u.table.rows c.args.a c.args.b c.args.w c.allowed.result c.requires.start c.requires.end long c.allowed.ensures.small c.allowed.ensures.is
    (replicate 64 false) c.ancestors-up.result (no_flag 64) c.requires.standing above c.if-up-b.false c.requires.falls (λ x y. _) (rw c.start-work.ensures at c.in_err-work.ensures.outcome))

pub solved-requires : goal.solved-requires
solved-requires g c =
    let m = g.M.Measure in
    let u = c.args.self.now in
    let above = subst (λ (v : Tabled _). Ancestors (parents_of v.table.rows) c.args.a (flag c.ancestors-up.result)) c.self.view_is c.ancestors-up.ensures in
    let long : c.args.b < length c.args.self.now.table.rows = search rules in
    record {
      sizes = c.in_ok-work.ensures.sizes;
      solved = begun m u.table.n (weights g.G.Graph m u.graph) u.table.rows c.args.a c.args.b c.args.w c.allowed.result c.requires.start c.requires.end long c.allowed.ensures.small c.allowed.ensures.is
          (replicate 64 false) c.ancestors-up.result (no_flag 64) c.requires.standing above c.if-up-b.false c.requires.falls (λ x y. _) (rw c.start-work.ensures at c.in_ok-work.ensures.outcome);
    }
