-- A clear that is refused here, and one that is passed on. Assumes nothing.
use Rattle.std.proofs.Common.{refl}
use Rattle.layers.proofs.Layers.{lock_clear, screen_clear}
use Rattle.layers.proofs.lock.Locked.clear_below.Goals as goal

pub returns : goal.returns
returns g c =
    let s = c.args.self.now in
    record {
      locked = lock_clear s.set (g.S.TieStore.meaning s.below) c.args.a c.args.b c.in_ok-check_pair.ensures _ _ c.clear.ensures.answer c.clear.ensures.after;
      screened = screen_clear s.set (g.S.TieStore.meaning s.below) c.args.a c.args.b c.in_ok-check_pair.ensures _ _ c.clear.ensures.answer c.clear.ensures.after;
      set = refl {a = s.set};
    }
