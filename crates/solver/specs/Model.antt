-- What a solver is to its callers, by the ghost members of its store. Assumes nothing.
use Rattle.std.specs.Prelude.{ℕ, Ok, Err, Result}
use Rattle.measure.specs.declared.Amount.{Amount}
use Rattle.store.specs.declared.TieStore.{Ghosts as StoreGhosts}
use Rattle.store.specs.Meaning.{StoreMeaning}
use Rattle.table.specs.Climb.{deep, up}
use Rattle.table.specs.declared.row.Row.{Row}
use Rattle.law.specs.Calls.{Model}
use Rattle.law.specs.Standing.{Standing}
use Rattle.law.specs.declared.call.Answer.{Answer}
use Rattle.law.specs.declared.call.Answer.TheVariants as answer
use Rattle.law.specs.declared.call.Refusal.{Refusal}
use Rattle.law.specs.declared.call.State.{State}
use Rattle.solver.specs.Held.{Held}

-- what stands, over a store of this meaning
abbrev pub standing_of : StoreMeaning → Amount → ℕ → State → Standing
standing_of m total number state = record {
  count = m.count;
  closed = m.closed;
  total = total;
  number = number;
  ties = m.tie;
  free = m.free;
  state = state;
}

abbrev pub model : {S : Type 0} → StoreGhosts S → Held S → Model
model st s = record {
  standing = standing_of (st.meaning s.store) s.total s.number s.state;
  depth = deep s.table.rows;
  parent = up s.table.rows;
  changes = s.changes;
}

abbrev pub read_row : Result Row Refusal → Answer
read_row (Ok row) = answer.Row row.depth row.parent
read_row (Err why) = answer.Refused why
