-- An opening, from its checks to its answer. Assumes nothing.
use Rattle.std.proofs.Common.{◌≡◌, ℕ, ◌<◌, ◌≤◌, Bool, true, false, not, ◌||◌, ltb, ◌⊎◌, List, [], ◌∷◌, length, Some, None, Ok, Err, Option, sym, refl, ap, ◌∙◌, subst, inl, inr, true≢false, arith}
use Rattle.std.proofs.lemmas.Bool.{cases_lt, ltb-false}
use Rattle.measure.specs.declared.Amount.{Amount}
use Rattle.measure.specs.declared.Measure.{Ghosts as MeasureGhosts}
use Rattle.measure.specs.Group.{Lt}
use Rattle.measure.specs.Least.{first_of}
use Rattle.measure.proofs.Within.{wider_to}
use Rattle.store.specs.declared.TieStore.{Ghosts as StoreGhosts}
use Rattle.store.specs.Meaning.{StoreMeaning, Lawful}
use Rattle.graph.specs.Theorems.{Solved}
use Rattle.table.specs.Climb.{deep, up}
use Rattle.table.specs.declared.table.DepthTable.{DepthTable}
use Rattle.law.specs.Amounts.{at_most}
use Rattle.law.specs.Calls.{Accepted, Answered, Contradicted, Model, Outcome, TableOf}
use Rattle.law.specs.Refusals.{bad_tie, cycle_length, first, first_bad_tie, first_refusal, is_new, lowest, when}
use Rattle.law.specs.Standing.{bounds_of, Standing, Ties}
use Rattle.law.specs.declared.call.Answer.TheVariants as answer
use Rattle.law.specs.declared.call.Call.TheVariants as call
use Rattle.law.specs.declared.call.Refusal.{Refusal}
use Rattle.law.specs.declared.call.Refusal.TheVariants.{BadAmount, BadTie, NotNew, ShortBuffer}
use Rattle.law.specs.declared.call.State.TheVariants as state
use Rattle.bounds.specs.Small.{BoundsSound}
use Rattle.solver.specs.Held.{Held}
use Rattle.solver.specs.Model.{model}
use Rattle.solver.specs.Opening.{as_result}
use Rattle.solver.specs.Suits.{Admitted, TableSuits}
use Rattle.solver.specs.Trials.{Upheld}
use Rattle.law.proofs.Answers.{accepted}
use Rattle.law.proofs.Scans.{lowest_some}
use Rattle.law.proofs.Scans as scans
use Rattle.law.proofs.Tables as tables

-- the checks of an opening that come after that of the state
abbrev opening_refusal : {M : Type 0} → MeasureGhosts M → Amount → StoreMeaning → ℕ → Option Refusal
opening_refusal μ total m room =
    first
    (when (not (μ.admits total) || at_most μ total μ.zero) BadAmount
    ∷ when (ltb room m.count) ShortBuffer
    ∷ first_bad_tie μ m.count m.tie
    ∷ [])

some_none : {A : Type 0} (x : A) → Some x ≡ None → ⊥
some_none x e = let z : ◌≡◌ {A = ℕ} 0 1 = cc in omega arith

-- a check that was passed
pub passed : (b : Bool) (why : Refusal) (rest : List (Option Refusal)) → first (when b why ∷ rest) ≡ None → (b ≡ false) × (first rest ≡ None)
passed true why rest e = absurd (some_none why e)
passed false why rest e = (refl, e)

pub last_none : (o : Option Refusal) → first (o ∷ []) ≡ None → o ≡ None
last_none None e = refl
last_none (Some why) e = absurd (some_none why e)

pub none_of : (o : Option Refusal) → as_result o ≡ Ok tt → o ≡ None
none_of None e = refl
none_of (Some why) e = absurd (let z : ◌≡◌ {A = ℕ} 0 1 = cc in omega arith)

pub some_of : (o : Option Refusal) (why : Refusal) → as_result o ≡ Err why → o ≡ Some why
some_of None why e = absurd (let z : ◌≡◌ {A = ℕ} 0 1 = cc in omega arith)
some_of (Some r) why e = cc

or_false : (a b : Bool) → (not a || b) ≡ false → (a ≡ true) × (b ≡ false)
or_false true b e = (refl, e)
or_false false b e = absurd (true≢false e)

module _ {M : Type 0} (μ : MeasureGhosts M) (total : Amount) (m : StoreMeaning) (law : Lawful m) (room : ℕ) (none : opening_refusal μ total m room ≡ None) where
  amount_passed : (not (μ.admits total) || at_most μ total μ.zero) ≡ false
  amount_passed = (passed (not (μ.admits total) || at_most μ total μ.zero) BadAmount (when (ltb room m.count) ShortBuffer ∷ first_bad_tie μ m.count m.tie ∷ []) none).0

  rest_passed : first (when (ltb room m.count) ShortBuffer ∷ first_bad_tie μ m.count m.tie ∷ []) ≡ None
  rest_passed = (passed (not (μ.admits total) || at_most μ total μ.zero) BadAmount (when (ltb room m.count) ShortBuffer ∷ first_bad_tie μ m.count m.tie ∷ []) none).1

  pub enough_room : m.count ≤ room
  enough_room = ltb-false room m.count (passed (ltb room m.count) ShortBuffer (first_bad_tie μ m.count m.tie ∷ []) rest_passed).0

  ties_passed : first_bad_tie μ m.count m.tie ≡ None
  ties_passed = last_none (first_bad_tie μ m.count m.tie) (passed (ltb room m.count) ShortBuffer (first_bad_tie μ m.count m.tie ∷ []) rest_passed).1

  total_in : μ.admits total ≡ true
  total_in = (or_false (μ.admits total) (at_most μ total μ.zero) amount_passed).0

  -- the total depth is above zero
  pub above_zero : Lt μ.group μ.group.neutral (μ.value total)
  above_zero h = by (μ.group.le_total (μ.value total) (μ.value μ.zero)) (or_false (μ.admits total) (at_most μ total μ.zero) amount_passed).1
    where
      by : (o : μ.group.le (μ.value total) (μ.value μ.zero) ⊎ (μ.group.le (μ.value μ.zero) (μ.value total) × (μ.group.le (μ.value total) (μ.value μ.zero) → ⊥))) → first_of o true false ≡ false → ⊥
      by (inl k) e = true≢false e
      by (inr k) e = k.1 (subst (μ.group.le (μ.value total)) (sym μ.laws.zero_neutral) h)

  tie_in : (x y : ℕ) (w : Amount) → m.tie x y ≡ Some w → μ.admits w ≡ true
  tie_in x y w e = elim (cases_lt x m.count) [
    | inr l ↦ absurd (some_none w (sym e ∙ law.unknown_start x y l))
    | inl lx ↦ elim (cases_lt y m.count) [
      | inr l ↦ absurd (some_none w (sym e ∙ law.unknown_end x y l))
      | inl ly ↦ scans.all_admitted μ m.count m.tie ties_passed x y w lx ly e
    ]
  ]

  pub all_admitted : Admitted μ total m.tie
  all_admitted = record { total_admitted = total_in; ties_admitted = tie_in }

pub bounds_sound : {M : Type 0} (μ : MeasureGhosts M) (total : Amount) (t : Ties) → Admitted μ total t → BoundsSound μ total t
bounds_sound μ total t a = record { total_small = μ.laws.single total a.total_admitted; small = λ x y w e. μ.laws.single w (a.ties_admitted x y w e) }

-- a table that suits is a shortest-path tree of small depths
pub table_of : {M : Type 0} (μ : MeasureGhosts M) (s : Standing) (table : DepthTable) → TableSuits μ s.total s.count s.ties table
    → TableOf μ s (deep table.rows) (up table.rows)
table_of μ s table suits =
    tables.table_of μ s (deep table.rows) (up table.rows) (subst (λ (i : ℕ). 0 < i) suits.same table.some)
    (subst (λ (i : ℕ). Solved μ.group i (bounds_of μ s.total s.ties) (λ z. μ.value (deep table.rows z)) (up table.rows)) suits.same suits.solved)
    (λ k h. wider_to μ.laws.wider 63 256 _ (omega arith) (suits.depths k (subst (λ (i : ℕ). k < i) (sym suits.same) h)))

-- an opening that passed every check
module _ {S M : Type 0} (st : StoreGhosts S) (μ : MeasureGhosts M) (s : Held S) (before : List ℕ) (none : first_refusal μ (model st s).standing (call.Open (length before)) ≡ None) where
  pub opening_passed : opening_refusal μ s.total (st.meaning s.store) (length before) ≡ None
  opening_passed = (passed (not (is_new s.state)) NotNew _ none).1

  module _ (table : DepthTable) (solved : TableSuits μ s.total (st.meaning s.store).count (st.meaning s.store).tie table) where
    abbrev opened : Held S
    opened = record { store = s.store; total = s.total; number = s.number; state = state.Open; changes = s.changes; table = table }

    pub opened_upheld : Upheld st μ opened
    opened_upheld = record {
      suits = record {
        same = solved.same;
        table = λ _. solved;
        amounts = λ _. all_admitted μ s.total (st.meaning s.store) (st.lawful s.store) (length before) opening_passed;
      };
      trial = tt;
    }

    pub opened_answered : (n : ℕ) (after : List ℕ) → n ≡ table.n → after ≡ before → Answered μ (model st s) (call.Open (length before)) before (answer.Opened n) after (model st opened)
    opened_answered n after count same = accepted μ (model st s) (call.Open (length before)) before (answer.Opened n) after (model st opened) none
        (record {
          standing = refl;
          table = table_of μ (model st opened).standing table solved;
          changes = refl;
          answered = ap answer.Opened (count ∙ solved.same);
          buffer = same;
        })

-- an opening that is answered with a number of markers was accepted
pub opened_accepted : {M : Type 0} (μ : MeasureGhosts M) (m m' : Model) (room n : ℕ) (before after : List ℕ) → Answered μ m (call.Open room) before (answer.Opened n) after m'
    → (first_refusal μ m.standing (call.Open room) ≡ None) × Accepted μ m (call.Open room) before (answer.Opened n) after m'
opened_accepted μ m m' room n before after told = by (first_refusal μ m.standing (call.Open room)) refl told.outcome
  where
    by : (o : Option Refusal) → first_refusal μ m.standing (call.Open room) ≡ o → Outcome μ o m (call.Open room) before (answer.Opened n) after m'
        → (first_refusal μ m.standing (call.Open room) ≡ None) × Accepted μ m (call.Open room) before (answer.Opened n) after m'
    by (Some why) i (e, _, _) = absurd (let z : ◌≡◌ {A = ℕ} 0 1 = cc in omega arith)
    by None i (inl c) = let e = c.answered in absurd (let z : ◌≡◌ {A = ℕ} 0 1 = cc in omega arith)
    by None i (inr a) = (i, a)

-- one that is refused met a check or a contradiction
pub opened_refused : {M : Type 0} (μ : MeasureGhosts M) (m m' : Model) (room : ℕ) (why : Refusal) (before after : List ℕ) → Answered μ m (call.Open room) before (answer.Refused why) after m'
    → (first_refusal μ m.standing (call.Open room) ≡ Some why) ⊎ ((first_refusal μ m.standing (call.Open room) ≡ None) × Contradicted μ m (call.Open room) before (answer.Refused why) after m')
opened_refused μ m m' room why before after told = by (first_refusal μ m.standing (call.Open room)) refl told.outcome
  where
    by : (o : Option Refusal) → first_refusal μ m.standing (call.Open room) ≡ o → Outcome μ o m (call.Open room) before (answer.Refused why) after m'
        → (first_refusal μ m.standing (call.Open room) ≡ Some why) ⊎ ((first_refusal μ m.standing (call.Open room) ≡ None) × Contradicted μ m (call.Open room) before (answer.Refused why) after m')
    by (Some r) i (e, _, _) = inl (cc)
    by None i (inl c) = inr (i, c)
    by None i (inr a) = let e = a.answered in absurd (let z : ◌≡◌ {A = ℕ} 0 1 = cc in omega arith)

first_of_checks : (b : Bool) (why r : Refusal) (rest : List (Option Refusal)) → first (when b why ∷ rest) ≡ Some r → (why ≡ r) ⊎ (first rest ≡ Some r)
first_of_checks true why r rest e = inl (cc)
first_of_checks false why r rest e = inr e

last_of_checks : (o : Option Refusal) (r : Refusal) → first (o ∷ []) ≡ Some r → o ≡ Some r
last_of_checks None r e = e
last_of_checks (Some why) r e = e

bad_tie_length : {M : Type 0} (μ : MeasureGhosts M) (a b : ℕ) (o : Option Amount) (r : Refusal) → bad_tie μ a b o ≡ Some r → cycle_length r ≡ None
bad_tie_length μ a b None r e = absurd (some_none r (sym e))
bad_tie_length μ a b (Some w) r e = by (μ.admits w) e
  where
    by : (t : Bool) → when (not t) (BadTie a b) ≡ Some r → cycle_length r ≡ None
    by true k = absurd (some_none r (sym k))
    by false k = let z : BadTie a b ≡ r = cc in ap cycle_length (sym z)

-- no check gives a contradiction
pub check_length : {M : Type 0} (μ : MeasureGhosts M) (s : Standing) (room : ℕ) (r : Refusal) → first_refusal μ s (call.Open room) ≡ Some r → cycle_length r ≡ None
check_length μ s room r e =
    by (first_of_checks (not (is_new s.state)) NotNew r
    (when (not (μ.admits s.total) || at_most μ s.total μ.zero) BadAmount
    ∷ when (ltb room s.count) ShortBuffer
    ∷ first_bad_tie μ s.count s.ties
    ∷ [])
    e)
  where
    third : (ShortBuffer ≡ r) ⊎ (first (first_bad_tie μ s.count s.ties ∷ []) ≡ Some r) → cycle_length r ≡ None
    third (inl i) = ap cycle_length (sym i)
    third (inr i) =
        let row = lowest_some (λ a. lowest s.count (λ b. bad_tie μ a b (s.ties a b))) s.count r (last_of_checks (first_bad_tie μ s.count s.ties) r i) in
        let cell = lowest_some (λ b. bad_tie μ row.0 b (s.ties row.0 b)) s.count r row.1 in
        bad_tie_length μ row.0 cell.0 (s.ties row.0 cell.0) r cell.1

    second : (BadAmount ≡ r) ⊎ (first (when (ltb room s.count) ShortBuffer ∷ first_bad_tie μ s.count s.ties ∷ []) ≡ Some r) → cycle_length r ≡ None
    second (inl i) = ap cycle_length (sym i)
    second (inr i) = third (first_of_checks (ltb room s.count) ShortBuffer r (first_bad_tie μ s.count s.ties ∷ []) i)

    by : (NotNew ≡ r) ⊎ (first (when (not (μ.admits s.total) || at_most μ s.total μ.zero) BadAmount ∷ when (ltb room s.count) ShortBuffer ∷ first_bad_tie μ s.count s.ties ∷ []) ≡ Some r) → cycle_length r ≡ None
    by (inl i) = ap cycle_length (sym i)
    by (inr i) = second (first_of_checks (not (μ.admits s.total) || at_most μ s.total μ.zero) BadAmount r (when (ltb room s.count) ShortBuffer ∷ first_bad_tie μ s.count s.ties ∷ []) i)
