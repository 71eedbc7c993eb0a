-- A cell that is emptied. Assumes nothing.
use Rattle.store.proofs.Calls.{passed}
use Rattle.matrix.proofs.Squares.{some_ties, gone_after, gone_sound}
use Rattle.matrix.proofs.TieMatrix.empty_cell.Goals as goal

pub overflow_sub-self : goal.overflow_sub-self
overflow_sub-self c = some_ties _ _ _ c.args.a c.args.b c.place.result c.args.self.now.sound (passed _ _ _ c.requires.pair) c.place.ensures.at c.requires.tied

pub invariant_of-self : goal.invariant_of-self
invariant_of-self c = record { sound = gone_sound _ _ _ _ _ _ c.args.self.now.sound (passed _ _ _ c.requires.pair) c.place.ensures.at c.requires.tied }

pub returns : goal.returns
returns c = gone_after _ _ _ _ _ _ c.args.self.now.sound (passed _ _ _ c.requires.pair) c.place.ensures.at c.requires.tied
