use Rattle.std.proofs.Common.{◌≡◌, ◌+◌, ◌<◌, length, arith, rules}
use Rattle.update.specs.Reading.{flag}
use Rattle.update.specs.Lowering.{settled}
use Rattle.update.proofs.Rows.{flag_same, settles_set}
use Rattle.update.proofs.Counts.{settled_more}
use Rattle.update.proofs.Settling.{room_next, room_to}
use Rattle.update.proofs.update.Update.settle.Goals as goal

pub relax-requires : goal.relax-requires
relax-requires g c =
    let old = c.args.self.now.table in
    let long : c.args.y < length c.args.work.now.done = search rules in
    record {
      marker = c.requires.marker;
      done = flag_same c.args.work.now.done c.args.y long;
      sizes = room_to g.M.Measure old.n old.few c.args.work.now c.requires.room 255 (omega arith);
    }

pub returns : goal.returns
returns g c =
    let old = c.args.self.now.table in
    let long : c.args.y < length c.args.work.now.done = search rules in
    let sets = settles_set c.args.work.now.done c.args.y long in
    let one : settled (flag c.relax.new.work.done) c.args.self.now.table.n ≡ settled (flag c.args.work.now.done) c.args.self.now.table.n + 1 = rw c.relax.ensures.done (settled_more sets c.requires.marker c.requires.free) in
    record {
      settles = rw c.relax.ensures.done sets;
      relaxed = rw c.relax.ensures.done c.relax.ensures.relaxed;
      one = one;
      room = room_next g.M.Measure old.n old.few c.args.work.now c.relax.new.work c.args.y c.requires.room c.requires.marker one c.relax.ensures.sizes;
    }
