-- Every cell is emptied. Assumes nothing.
use Rattle.std.proofs.Common.{rules, ap, ◌∙◌}
use Rattle.matrix.specs.Matrix.{Emptied, size_answer}
use Rattle.matrix.proofs.Squares.{blank_sound}
use Rattle.matrix.proofs.TieMatrix.new.Goals as goal

pub invariant_of-result : goal.invariant_of-result
invariant_of-result c =
    let none : Emptied c.fill.new.self = search rules in
    record { sound = blank_sound c.args.n c.fill.new.self (ap (size_answer c.args.n) c.fill.ensures.len ∙ c.requires) none }
