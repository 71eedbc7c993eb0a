-- What a tie store holds, and what its calls answer and leave. Assumes nothing.
use Rattle.std.specs.Prelude.{◌≡◌, ℕ, ◌+◌, ◌-◌, ◌≤◌, Bool, true, false, cond, ◌&&◌, ◌||◌, is_some, Some, None, Ok, Err, Option, Result, ◌==◌, nat_lt}
use Rattle.measure.specs.declared.Amount.{Amount}
use Rattle.store.specs.declared.Refusal.{Refusal}
use Rattle.store.specs.declared.Refusal.TheVariants.{UnknownMarker, SameMarker, ClosedMarker, PairEmpty, StoreFull, BadSize}

abbrev pub code_of : Refusal → ℕ
code_of UnknownMarker = 4
code_of SameMarker = 5
code_of ClosedMarker = 6
code_of PairEmpty = 9
code_of StoreFull = 10
code_of BadSize = 14

-- the number of markers, the closed ones, the amount of each pair's tie, and how many further ties may be taken
pub record StoreMeaning : Type 0 where
  pub count : ℕ
  pub closed : ℕ → Bool
  pub tie : ℕ → ℕ → Option Amount
  pub free : ℕ

-- whether x, y is the pair a, b
abbrev pub same_pair : ℕ → ℕ → ℕ → ℕ → Bool
same_pair a b x y = x == a && y == b

-- the ties t, but o for the pair a, b
abbrev pub set_tie : (ℕ → ℕ → Option Amount) → ℕ → ℕ → Option Amount → ℕ → ℕ → Option Amount
set_tie t a b o x y = cond (same_pair a b x y) o (t x y)

-- why a pair may not be written, or else the answer r
abbrev pub pair_answer : StoreMeaning → ℕ → ℕ → Result Unit Refusal → Result Unit Refusal
pair_answer m a b r =
    cond (nat_lt a m.count && nat_lt b m.count) (cond (a == b) (Err SameMarker) (cond (m.closed a || m.closed b) (Err ClosedMarker) r)) (Err UnknownMarker)

abbrev pub is_done : Result Unit Refusal → Bool
is_done (Ok _) = true
is_done (Err _) = false

abbrev pub put_answer : StoreMeaning → ℕ → ℕ → Result Unit Refusal
put_answer m a b = pair_answer m a b (cond (is_some (m.tie a b)) (Ok tt) (cond (m.free == 0) (Err StoreFull) (Ok tt)))

abbrev pub put_done : StoreMeaning → ℕ → ℕ → Amount → StoreMeaning
put_done m a b w = record {
  count = m.count;
  closed = m.closed;
  tie = set_tie m.tie a b (Some w);
  free = cond (is_some (m.tie a b)) m.free (m.free - 1);
}

-- a refusal changes nothing
abbrev pub put_after : StoreMeaning → ℕ → ℕ → Amount → StoreMeaning
put_after m a b w = cond (is_done (put_answer m a b)) (put_done m a b w) m

abbrev pub clear_answer : StoreMeaning → ℕ → ℕ → Result Unit Refusal
clear_answer m a b = pair_answer m a b (cond (is_some (m.tie a b)) (Ok tt) (Err PairEmpty))

abbrev pub clear_done : StoreMeaning → ℕ → ℕ → StoreMeaning
clear_done m a b = record {
  count = m.count;
  closed = m.closed;
  tie = set_tie m.tie a b None;
  free = m.free + 1;
}

abbrev pub clear_after : StoreMeaning → ℕ → ℕ → StoreMeaning
clear_after m a b = cond (is_done (clear_answer m a b)) (clear_done m a b) m

-- what holds of every store: 2 to 64 markers, and no amount for another marker or for one marker twice
pub record Lawful (m : StoreMeaning) : Type 0 where
  pub low : 2 ≤ m.count
  pub high : m.count ≤ 64
  pub unknown_start : (a b : ℕ) → m.count ≤ a → m.tie a b ≡ None
  pub unknown_end : (a b : ℕ) → m.count ≤ b → m.tie a b ≡ None
  pub same : (a : ℕ) → m.tie a a ≡ None

-- n markers, none closed, no ties, and free for as many as said
abbrev pub empty_meaning : ℕ → ℕ → StoreMeaning
empty_meaning n free = record { count = n; closed = λ _. false; tie = λ _ _. None; free = free }
