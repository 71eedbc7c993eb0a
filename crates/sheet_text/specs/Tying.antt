-- Which ties a table holds, in their order, and what a store of them holds. Assumes nothing.
use Rattle.std.specs.Prelude.{◌≡◌, ℕ, ◌-◌, Bool, false, cond, ◌&&◌, List, [], ◌∷◌, ◌++◌, length, pos, negsuc, Some, None, Ok, Err, Option, Result, ◌==◌}
use Rattle.std.specs.List.{list_any}
use Rattle.measure.specs.declared.Amount.{Amount}
use Rattle.store.specs.Meaning.{StoreMeaning}
use Rattle.store.specs.declared.Refusal.{Refusal}
use Rattle.store.specs.declared.Refusal.TheVariants.{SameMarker, StoreFull}
use Rattle.sheet_text.specs.declared.ties.Tie.{Tie}
use Rattle.sheet_text.specs.declared.ties.Ties.{Ties}

abbrev pub no_tie : Tie
no_tie = record { start = 0; end = 0; amount = record { mm = pos 0; strict = false } }

-- the ties of a table, in order
abbrev pub ties_of : Ties → List Tie
ties_of t = t.list.items

-- whether the tie is of the pair a, b
abbrev pub is_of : ℕ → ℕ → Tie → Bool
is_of a b t = t.start == a && t.end == b

-- whether one of the ties is of the pair
abbrev pub tied_in : List Tie → ℕ → ℕ → Bool
tied_in ts a b = list_any (is_of a b) ts

-- a mark of -1 where the tie is strict
abbrev pub amount_of : Tie → Amount
amount_of t = record { mm = t.amount.mm; marks = cond t.amount.strict (negsuc 0) (pos 0) }

-- the amount of the tie from a to b, if there is one
abbrev pub tie_of : List Tie → ℕ → ℕ → Option Amount
tie_of [] a b = None
tie_of (t ∷ ts) a b = cond (is_of a b t) (Some (amount_of t)) (tie_of ts a b)

-- a store of n markers that holds the ties and has room for `room`
abbrev pub store_of : ℕ → ℕ → List Tie → StoreMeaning
store_of n room ts = record { count = n; closed = λ _. false; tie = tie_of ts; free = room - length ts }

-- what it answers to a tie of a pair of its markers that is not tied
abbrev pub tie_answer : ℕ → ℕ → ℕ → ℕ → Result Unit Refusal
tie_answer count room a b = cond (a == b) (Err SameMarker) (cond (count == room) (Err StoreFull) (Ok tt))

-- what a table of ties holds after it has answered r to one more
abbrev pub Added : Ties → Tie → Result (Unit {0}) Refusal → Ties → Type 0
Added s tie (Ok _) t = (tie_answer (length (ties_of s)) s.room tie.start tie.end ≡ Ok tt) × (ties_of t ≡ ties_of s ++ tie ∷ []) × (t.room ≡ s.room)
Added s tie (Err e) t = tie_answer (length (ties_of s)) s.room tie.start tie.end ≡ Err e
