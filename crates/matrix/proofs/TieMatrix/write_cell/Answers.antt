-- A cell that is written: the ways with a new tie and with another amount for the old one. Assumes nothing.
use Rattle.store.proofs.Calls.{passed}
use Rattle.matrix.specs.Matrix.{cell_at}
use Rattle.matrix.proofs.Squares.{some_of, none_of, over_after, over_sound, new_after, new_sound}
use Rattle.matrix.proofs.TieMatrix.write_cell.Goals as goal

pub invariant_of-self : goal.invariant_of-self
invariant_of-self c = record { sound = new_sound _ _ _ _ _ _ c.args.self.now.sound (passed _ _ _ c.requires) c.place-i.ensures.at c.args.amount (none_of (cell_at c.args.self.now.cells.now c.place-i.result) c.if-is_none.ensures) }

pub invariant_of-self-else-is_none : goal.invariant_of-self-else-is_none
invariant_of-self-else-is_none c =
    let v = some_of (cell_at c.args.self.now.cells.now c.place-i.result) c.if-is_none.ensures in
    record { sound = over_sound _ _ _ _ _ _ c.args.self.now.sound (passed _ _ _ c.requires) c.place-i.ensures.at v.0 c.args.amount v.1 }

pub returns-then-is_none-clause-after : goal.returns-then-is_none-clause-after
returns-then-is_none-clause-after c = new_after _ _ _ _ _ _ c.args.self.now.sound (passed _ _ _ c.requires) c.place-i.ensures.at c.args.amount (none_of (cell_at c.args.self.now.cells.now c.place-i.result) c.if-is_none.ensures)

pub returns-else-is_none-clause-after : goal.returns-else-is_none-clause-after
returns-else-is_none-clause-after c =
    let v = some_of (cell_at c.args.self.now.cells.now c.place-i.result) c.if-is_none.ensures in
    over_after _ _ _ _ _ _ c.args.self.now.sound (passed _ _ _ c.requires) c.place-i.ensures.at v.0 c.args.amount v.1
