-- What a layer makes of the store below it. Assumes nothing.
use Rattle.std.specs.Prelude.{◌≡◌, ℕ, ◌/◌, ◌%◌, ◌^◌, Bool, cond, ◌&&◌, ◌||◌, None, Result, ◌==◌, nat_lt}
use Rattle.measure.specs.declared.Amount.{Amount}
use Rattle.store.specs.declared.Refusal.{Refusal}
use Rattle.store.specs.Meaning.{StoreMeaning, is_done, put_answer, put_after, put_done, clear_answer, clear_after, clear_done}

-- whether bit k of the 64 is one
abbrev pub has_bit : ℕ → ℕ → Bool
has_bit set k = nat_lt k 64 && (set / 2 ^ k % 2) == 1

-- whether k is a marker of the set: bits from the number of markers up mean nothing
abbrev pub in_set : ℕ → StoreMeaning → ℕ → Bool
in_set set m k = nat_lt k m.count && has_bit set k

-- the markers of the set are closed besides those that are closed below
abbrev pub lock : ℕ → StoreMeaning → StoreMeaning
lock set m = record {
  count = m.count;
  closed = λ k. in_set set m k || m.closed k;
  tie = m.tie;
  free = m.free;
}

-- no tie is shown that has an end in the set
abbrev pub hide : ℕ → StoreMeaning → StoreMeaning
hide set m = record {
  count = m.count;
  closed = m.closed;
  tie = λ a b. cond (in_set set m a || in_set set m b) None (m.tie a b);
  free = m.free;
}

-- a lock that hides
abbrev pub screen : ℕ → StoreMeaning → StoreMeaning
screen set m = hide set (lock set m)

-- what a call that was answered r leaves below: the same put or clear, unless it was refused
abbrev pub put_below : Result Unit Refusal → StoreMeaning → ℕ → ℕ → Amount → StoreMeaning
put_below r m a b w = cond (is_done r) (put_done m a b w) m

abbrev pub clear_below : Result Unit Refusal → StoreMeaning → ℕ → ℕ → StoreMeaning
clear_below r m a b = cond (is_done r) (clear_done m a b) m

-- a put through a layer, answered r: m is below before it, o after it
pub record Put (layer : StoreMeaning → StoreMeaning) (m : StoreMeaning) (a b : ℕ) (w : Amount) (r : Result Unit Refusal) (o : StoreMeaning) : Type 0 where
  pub answer : r ≡ put_answer (layer m) a b
  pub after : layer o ≡ put_after (layer m) a b w
  pub below : o ≡ put_below r m a b w

-- the same of a clear
pub record Cleared (layer : StoreMeaning → StoreMeaning) (m : StoreMeaning) (a b : ℕ) (r : Result Unit Refusal) (o : StoreMeaning) : Type 0 where
  pub answer : r ≡ clear_answer (layer m) a b
  pub after : layer o ≡ clear_after (layer m) a b
  pub below : o ≡ clear_below r m a b
