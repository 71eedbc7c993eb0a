use Rattle.table.specs.Climb.{deep}
use Rattle.update.proofs.Sizes.{halves}
use Rattle.update.proofs.nearest.leads.Goals as goal

pub at_most-requires : goal.at_most-requires
at_most-requires g c =
    let m = g.M.Measure in
    let now = c.args.work.now.rows in
    let rows = c.args.old.now.rows in
    let y = c.args.y in
    let z = c.args.z in (
      (halves m (deep now y) (deep rows z) _ _ c.depth.ensures c.sum-first.ensures (c.requires.labels y c.requires.first) (c.requires.depths z c.requires.second)).0,
      (halves m (deep now z) (deep rows y) _ _ c.depth-2.ensures c.sum-second.ensures (c.requires.labels z c.requires.second) (c.requires.depths y c.requires.first)).0,
    )

pub returns : goal.returns
returns g c =
    let m = g.M.Measure in
    let now = c.args.work.now.rows in
    let rows = c.args.old.now.rows in
    let y = c.args.y in
    let z = c.args.z in
    let one = (halves m (deep now y) (deep rows z) _ _ c.depth.ensures c.sum-first.ensures (c.requires.labels y c.requires.first) (c.requires.depths z c.requires.second)).1 in
    let two = (halves m (deep now z) (deep rows y) _ _ c.depth-2.ensures c.sum-second.ensures (c.requires.labels z c.requires.second) (c.requires.depths y c.requires.first)).1 in
    rw (one, two) at c.at_most.ensures
