-- What a list of records holds. Assumes nothing.
use Rattle.std.specs.Prelude.{◌≡◌, ℕ, zero, suc, ◌-◌, ◌<◌, ◌≤◌, Bool, false, cond, ◌&&◌, List, length, pos, Some, None, Ok, Err, Option, Result, ◌==◌, ◌≢◌, nat_le, slice_index_or}
use Rattle.measure.specs.declared.Amount.{Amount}
use Rattle.store.specs.declared.Refusal.{Refusal}
use Rattle.store.specs.declared.Refusal.TheVariants.{BadSize}
use Rattle.store.specs.declared.TieRecord.{TieRecord}
use Rattle.store.specs.Meaning.{StoreMeaning}

abbrev pub no_record : TieRecord
no_record = record { start = 0; end = 0; amount = record { mm = pos 0; marks = pos 0 } }

-- the record at place k
abbrev pub at : List TieRecord → ℕ → TieRecord
at rs k = slice_index_or rs k no_record

abbrev pub Pair : ℕ → ℕ → TieRecord → Type 0
Pair a b t = (t.start ≡ a) × (t.end ≡ b)

abbrev pub is_pair : ℕ → ℕ → TieRecord → Bool
is_pair a b t = t.start == a && t.end == b

-- the amount of the pair a, b among the first records
abbrev pub amount_in : (ℕ → TieRecord) → ℕ → ℕ → ℕ → Option Amount
amount_in f zero a b = None
amount_in f (suc k) a b = cond (is_pair a b (f k)) (Some (f k).amount) (amount_in f k a b)

-- n markers, of whose records the first count are ties
abbrev pub list_meaning : ℕ → ℕ → List TieRecord → StoreMeaning
list_meaning n count rs = record {
  count = n;
  closed = λ _. false;
  tie = amount_in (at rs) count;
  free = length rs - count;
}

-- the first count records are ties of markers below n, each of another pair
pub record Ties (n count : ℕ) (f : ℕ → TieRecord) : Type 0 where
  pub starts : (k : ℕ) → k < count → (f k).start < n
  pub ends : (k : ℕ) → k < count → (f k).end < n
  pub apart : (k : ℕ) → k < count → (f k).start ≢ (f k).end
  pub distinct : (j k : ℕ) → j < count → k < count → (f j).start ≡ (f k).start → (f j).end ≡ (f k).end → j ≡ k

pub record ListSound (n count : ℕ) (rs : List TieRecord) : Type 0 where
  pub low : 2 ≤ n
  pub high : n ≤ 64
  pub within : count ≤ length rs
  pub small : length rs ≤ 4096
  pub ties : Ties n count (at rs)

-- r is a place of the pair a, b among the first count records
pub record Here (rs : List TieRecord) (count a b r : ℕ) : Type 0 where
  pub within : r < count
  pub pair : Pair a b (at rs r)
  pub amount : amount_in (at rs) count a b ≡ Some (at rs r).amount

-- the pair is not among them
pub record Absent (rs : List TieRecord) (count a b : ℕ) : Type 0 where
  pub nowhere : (k : ℕ) → k < count → Pair a b (at rs k) → ⊥
  pub amount : amount_in (at rs) count a b ≡ None

abbrev pub Placed : List TieRecord → ℕ → ℕ → ℕ → Option ℕ → Type 0
Placed rs count a b (Some r) = Here rs count a b r
Placed rs count a b None = Absent rs count a b

-- whether a list of n markers may lie in so many records
abbrev pub size_answer : ℕ → ℕ → Result Unit Refusal
size_answer n records = cond (nat_le 2 n && nat_le n 64 && nat_le records 4096) (Ok tt) (Err BadSize)
