-- The law of every log, in terms of calls and answers alone. Assumes nothing.
use Rattle.std.specs.Prelude.{◌≡◌, ℕ, Bool, true, false, cond, List, [], ◌∷◌, take, Some, None, Option, ◌==◌}
use Rattle.measure.specs.declared.Amount.{Amount}
use Rattle.measure.specs.declared.Measure as measure
use Rattle.law.specs.declared.call.Answer.{Answer}
use Rattle.law.specs.declared.call.Answer.TheVariants.{Refused, Opened, Changed, Committed, Row, Length}
use Rattle.law.specs.declared.call.Call.{Call}
use Rattle.law.specs.declared.call.Call.TheVariants as call
use Rattle.law.specs.declared.call.Entry.{Entry}
use Rattle.law.specs.declared.call.Refusal.TheVariants.{Contradiction}
use Rattle.law.specs.Standing.{Standing, took, bounds, Deepest, NothingFits}
use Rattle.law.specs.Refusals.{first_refusal}
use Rattle.law.specs.Calls.{Kind, kind, PathAt}
use Rattle.law.specs.Calls.Kind.{opening, change, other}

-- the calls of a solver since it was new, refused ones too, each with its answer; the newest stands first
abbrev pub Log : Type 0
Log = List Entry

-- a call is accepted if it is not refused
abbrev pub accepted : Answer → Bool
accepted (Refused why) = false
accepted (Opened markers) = true
accepted (Changed moved reparented) = true
accepted Committed = true
accepted (Row depth parent) = true
accepted (Length length) = true

-- what stands after a log, by the accepted calls alone
abbrev pub after : Standing → Log → Standing
after s [] = s
after s (e ∷ log) = cond (accepted e.answer) (took e.call (after s log)) (after s log)

-- the calls that can meet a contradiction
abbrev pub CanContradict : Call → Type 0
CanContradict (call.Open room) = Unit {0}
CanContradict (call.Tie a b w room) = Unit {0}
CanContradict (call.Untie a b) = ⊥
CanContradict (call.Trial a b w room) = Unit {0}
CanContradict (call.Commit number) = ⊥
CanContradict (call.RollBack number) = ⊥
CanContradict (call.Depth m) = ⊥
CanContradict (call.Path m room) = ⊥

-- whether the call asks for the path of k
abbrev pub asks_path : ℕ → Call → Bool
asks_path k (call.Open room) = false
asks_path k (call.Tie a b w room) = false
asks_path k (call.Untie a b) = false
asks_path k (call.Trial a b w room) = false
asks_path k (call.Commit number) = false
asks_path k (call.RollBack number) = false
asks_path k (call.Depth m) = false
asks_path k (call.Path m room) = m == k

-- the path of k, if this entry read it
abbrev pub read : ℕ → Call → Answer → List ℕ → Option (List ℕ)
read k c (Refused why) b = None
read k c (Opened markers) b = None
read k c (Changed moved reparented) b = None
read k c Committed b = None
read k c (Row depth parent) b = None
read k c (Length length) b = cond (asks_path k c) (Some (take length b)) None

abbrev pub or_else : {A : Type 0} → Option A → Option A → Option A
or_else (Some x) o = Some x
or_else None o = o

-- what an entry did to the paths: a refused call did nothing
abbrev pub effect : Call → Answer → Kind
effect c a = cond (accepted a) (kind c) other

-- by what an entry did: after an opening, after a change, after another
abbrev pub by_kind : {A : Type 0} → Kind → A → A → A → A
by_kind opening x y z = x
by_kind change x y z = y
by_kind other x y z = z

-- the path of k as it was read since the last accepted opening or change
abbrev pub read_since : ℕ → Log → Option (List ℕ)
read_since k [] = None
read_since k (e ∷ log) = or_else (read k e.call e.answer e.buffer) (by_kind (effect e.call e.answer) None None (read_since k log))

-- the path of k as it was read just before the last accepted change
abbrev pub read_before : ℕ → Log → Option (List ℕ)
read_before k [] = None
read_before k (e ∷ log) = by_kind (effect e.call e.answer) None (read_since k log) (read_before k log)

module _ {M : Type 0} (μ : measure.Ghosts M) where
  -- no set of depths fits the bounds of these ties
  abbrev pub NothingFitsAt : Standing → Type 0
  NothingFitsAt s = NothingFits μ.group s.count (bounds μ s)

  abbrev pub DeepestAt : Standing → ℕ → μ.group.carrier → Type 0
  DeepestAt s = Deepest μ.group s.count (bounds μ s)

  -- a contradiction exactly where no set of depths fits the ties that would then stand, and accepted otherwise
  pub record Judged (then : Standing) (answer : Answer) : Type 0 where
    pub contradicts : NothingFitsAt then → (length : ℕ) × (answer ≡ Refused (Contradiction length))
    pub only_then : (length : ℕ) → answer ≡ Refused (Contradiction length) → NothingFitsAt then
    pub otherwise : ¬ NothingFitsAt then → accepted answer ≡ true

  -- the law at one entry; s is what stood before it, and log what came before it
  pub record LawfulEntry (s : Standing) (log : Log) (e : Entry) : Type 0 where
    -- a tie, trial or opening that passes every earlier check
    pub judged : CanContradict e.call → first_refusal μ s e.call ≡ None → Judged (took e.call s) e.answer
    -- a depth that is read
    pub deepest : (k : ℕ) (x : Amount) (p : ℕ) → e.call ≡ call.Depth k → e.answer ≡ Row x p → DeepestAt s k (μ.value x)
    -- a path that is read
    pub shortest : (k room l : ℕ) → e.call ≡ call.Path k room → e.answer ≡ Length l
        → (x : μ.group.carrier) × PathAt μ s (take l e.buffer) k x × DeepestAt s k x
    -- a path that was read just before a change, and still stands after it, and still adds up to the deepest depth
    pub kept : (k room l : ℕ) → e.call ≡ call.Path k room → e.answer ≡ Length l
        → (old : List ℕ) → read_before k log ≡ Some old
        → (x : μ.group.carrier) → PathAt μ s old k x → DeepestAt s k x → take l e.buffer ≡ old

  -- the law holds at each call of a log that starts at s
  abbrev pub Lawful : Standing → Log → Type 0
  Lawful s [] = Unit {0}
  Lawful s (e ∷ log) = LawfulEntry (after s log) log e × Lawful s log
