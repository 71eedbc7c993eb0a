-- A put that is refused here, and one that is passed on. Assumes nothing.
use Rattle.std.proofs.Common.{refl}
use Rattle.layers.proofs.Layers.{lock_put, screen_put}
use Rattle.layers.proofs.lock.Locked.put_below.Goals as goal

pub returns : goal.returns
returns g c =
    let s = c.args.self.now in
    record {
      locked = lock_put s.set (g.S.TieStore.meaning s.below) c.args.a c.args.b c.in_ok-check_pair.ensures c.args.amount _ _ c.put.ensures.answer c.put.ensures.after;
      screened = screen_put s.set (g.S.TieStore.meaning s.below) c.args.a c.args.b c.in_ok-check_pair.ensures c.args.amount _ _ c.put.ensures.answer c.put.ensures.after;
      set = refl {a = s.set};
    }
