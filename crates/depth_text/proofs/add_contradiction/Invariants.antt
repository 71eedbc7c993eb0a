-- The names of the markers passed are added. Assumes nothing.
use Rattle.std.proofs.Common.{◌≡◌, ◌++◌, map, take, vec_items}
use Rattle.depth_text.specs.Lines.{name_in, spaced}
use Rattle.depth_text.proofs.add_contradiction.Given as goal

abbrev pub invariant-loop-marker : goal.invariant-loop-marker
invariant-loop-marker l = vec_items l.out ≡ vec_items l.initial.out ++ spaced (map (name_in l.names) (take l.marker-index l.cycle))
