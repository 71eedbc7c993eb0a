-- A pair that gets an amount, or none. Assumes nothing.
use Rattle.std.specs.Prelude.{ℕ, ◌+◌, ◌-◌, Some, None, Option, Result}
use Rattle.measure.specs.declared.Amount.{Amount}
use Rattle.store.specs.declared.Refusal.{Refusal}
use Rattle.store.specs.Meaning.{clear_answer, put_answer, set_tie, StoreMeaning}
use Rattle.law.specs.Standing.{places}

-- what a store says to the pair's new amount, or to none
abbrev pub set_answer : StoreMeaning → ℕ → ℕ → Option Amount → Result Unit Refusal
set_answer m a b (Some w) = put_answer m a b
set_answer m a b None = clear_answer m a b

-- the meaning of a store in which the pair a, b has o
abbrev pub changed_meaning : StoreMeaning → ℕ → ℕ → Option Amount → StoreMeaning
changed_meaning m a b o = record {
  count = m.count;
  closed = m.closed;
  tie = set_tie m.tie a b o;
  free = m.free + places (m.tie a b) - places o;
}
