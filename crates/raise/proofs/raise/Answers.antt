use Rattle.raise.proofs.Spares.{part_gathered, part_rises}
use Rattle.raise.proofs.raise.Goals as goal

pub gather-requires : goal.gather-requires
gather-requires g c =
    let u = c.args.update.now in
    let told = c.spared-work.ensures in
    record {
      sizes = told.sizes;
      kept = told.kept;
      rises = part_rises g.G.Graph g.M.Measure u.graph u.table.rows u.table.n c.args.b c.spared-work.result told.parted c.requires.some u.table.some c.requires.risen;
      gathered = part_gathered g.G.Graph g.M.Measure u.graph u.table.rows u.table.n c.args.b c.spared-work.result told.parted c.requires.some u.table.some c.requires.risen;
    }
