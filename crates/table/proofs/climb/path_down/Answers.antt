use Rattle.std.proofs.Common.{◌-◌, ◌<◌, ◌≤◌, ◌∷◌, length, sym, ap, ◌∙◌, arith}
use Rattle.graph.specs.Tree.{climb}
use Rattle.graph.proofs.Trees.{height_of}
use Rattle.graph.proofs.Relabels.{climb_inside}
use Rattle.table.specs.Climb.{up, over_front}
use Rattle.table.proofs.Climbs.{height_first, climbed_way}
use Rattle.table.proofs.Ways.{length_down}
use Rattle.table.proofs.climb.path_down.Goals as goal

pub trail-requires : goal.trail-requires
trail-requires c =
    let n = c.args.n in
    let f = up c.args.rows.now in
    let m = c.args.m in
    let h = height_of f (n - 1) m (c.requires.tree.climbs m c.requires.marker) in
    let low : h.0 ≤ c.args.n - 1 = h.1 in
    record {
      steps = h.0;
      first = height_first f h.0 m h.2;
      inside = λ i l. let k : climb f i m < n = climb_inside n f c.requires.tree.inside i m c.requires.marker in omega arith;
      short = omega arith;
      fits = omega arith;
    }

pub returns : goal.returns
returns c =
    let n = c.args.n in
    let f = up c.args.rows.now in
    let m = c.args.m in
    let h = height_of f (n - 1) m (c.requires.tree.climbs m c.requires.marker) in
    let first = height_first f h.0 m h.2 in
    let whole = climbed_way f (n - 1) h.0 m first h.1 in
    record {
      count = c.trail.ensures.count h.0 first ∙ sym (length_down f h.0 m) ∙ ap (λ l. length (0 ∷ l)) (sym whole);
      out = c.trail.ensures.out h.0 first ∙ ap (λ l. over_front (0 ∷ l) c.args.out.now) (sym whole);
    }
