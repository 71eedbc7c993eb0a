use Rattle.std.proofs.Common.{ℕ, ◌<◌, sym, subst}
use Rattle.table.proofs.Rows.{up_flat, flat_climbs}
use Rattle.table.proofs.table.DepthTable.flat.Goals as goal

pub of-requires : goal.of-requires
of-requires c =
    let zeros = up_flat _ _ 64 in
    record {
      some = c.requires.some;
      few = c.requires.few;
      tree = record { root = zeros 0; inside = λ m h. subst (λ (x : ℕ). x < c.args.n) (sym (zeros m)) c.requires.some; climbs = λ m h. flat_climbs _ zeros c.args.n m h };
    }
