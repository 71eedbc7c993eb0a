-- A trial is a tie that leaves the solver on trial, and what is rolled back fits again. Assumes nothing.
use Rattle.std.proofs.Common.{◌≡◌, ℕ, true, false, not, ◌&&◌, eqb, ◌⊎◌, List, [], ◌∷◌, Some, None, Option, sym, refl, ap, ◌∙◌, subst, inl, inr, arith}
use Rattle.std.proofs.lemmas.Bool.{and_from, and_parts, cases_Bool, cond-false, cond-true, eq-eqb, eqb-true}
use Rattle.measure.specs.declared.Amount.{Amount}
use Rattle.measure.specs.declared.Measure.{Ghosts as MeasureGhosts}
use Rattle.store.specs.declared.TieStore.{Ghosts as StoreGhosts}
use Rattle.store.specs.Meaning.{set_tie, StoreMeaning}
use Rattle.graph.specs.Graph.{Fits}
use Rattle.graph.specs.Tree.{way}
use Rattle.graph.proofs.Walks.{negative_cycle_refutes}
use Rattle.table.specs.Climb.{deep}
use Rattle.update.specs.Lowering.{NegativeCycle}
use Rattle.law.specs.Calls.{Accepted, Answered, Model, Outcome}
use Rattle.law.specs.Refusals.{first_refusal, is_new, on_trial}
use Rattle.law.specs.Standing.{bounds_of, put, rolled_back, Standing, Ties, turned}
use Rattle.law.specs.declared.call.Answer.TheVariants as answer
use Rattle.law.specs.declared.call.Call.TheVariants as call
use Rattle.law.specs.declared.call.Refusal.{Refusal}
use Rattle.law.specs.declared.call.Refusal.TheVariants.{NotOpen, WrongToken}
use Rattle.law.specs.declared.call.Counts.{Counts}
use Rattle.law.specs.declared.call.State.TheVariants as state
use Rattle.law.proofs.Answers.{skips}
use Rattle.solver.specs.Held.{Held}
use Rattle.solver.specs.Changing.{untie_refusal}
use Rattle.solver.specs.Settling.{Settled}
use Rattle.solver.specs.Model.{model}
use Rattle.solver.specs.Suits.{Suits}
use Rattle.solver.specs.Trials.{CanRollBack, StateSuits, TrialSuits, Upheld}
use Rattle.solver.proofs.Openings.{passed}
use Rattle.solver.proofs.Ties.{pair_passed, settled_answered, tie_refusal, tie_stands, untie_fits}

-- ---- the answer of a trial, by that of the tie

module _ {M : Type 0} (μ : MeasureGhosts M) (m : Model) (a b : ℕ) (w : Amount) (room : ℕ) (before after : List ℕ) where
  -- the solver, once it is on trial
  abbrev pub tried_model : Model → Option Amount → Model
  tried_model m' was = record { standing = turned m'.standing (state.OnTrial a b was); depth = m'.depth; parent = m'.parent; changes = m'.changes }

  tie_accepted_by : (o : Option Refusal) (i j : ℕ) (m' : Model) → first_refusal μ m.standing (call.Tie a b w room) ≡ o → Outcome μ o m (call.Tie a b w room) before (answer.Changed i j) after m'
      → (first_refusal μ m.standing (call.Tie a b w room) ≡ None) × Accepted μ m (call.Tie a b w room) before (answer.Changed i j) after m'
  tie_accepted_by (Some r) i j m' is (e, _, _) = absurd (let z : ◌≡◌ {A = ℕ} 0 1 = cc in omega arith)
  tie_accepted_by None i j m' is (inl c) = let e = c.answered in absurd (let z : ◌≡◌ {A = ℕ} 0 1 = cc in omega arith)
  tie_accepted_by None i j m' is (inr x) = (is, x)

  -- a tie that answers counts was accepted
  pub tie_accepted : (i j : ℕ) (m' : Model) → Answered μ m (call.Tie a b w room) before (answer.Changed i j) after m'
      → (first_refusal μ m.standing (call.Tie a b w room) ≡ None) × Accepted μ m (call.Tie a b w room) before (answer.Changed i j) after m'
  tie_accepted i j m' told = tie_accepted_by (first_refusal μ m.standing (call.Tie a b w room)) i j m' refl told.outcome

  pub trial_accepted : (i j : ℕ) (m' : Model) (was : Option Amount) → was ≡ m.standing.ties a b → Answered μ m (call.Tie a b w room) before (answer.Changed i j) after m'
      → Answered μ m (call.Trial a b w room) before (answer.Changed i j) after (tried_model m' was)
  trial_accepted i j m' was is told =
      let t = tie_accepted i j m' told in
      let x = t.1 in
      record {
        outcome = subst (λ (o : Option Refusal). Outcome μ o m (call.Trial a b w room) before (answer.Changed i j) after (tried_model m' was)) (sym t.0)
            (inr (record {
              standing = ap (λ (s : Standing). turned s (state.OnTrial a b was)) x.standing ∙ ap (λ (o : Option Amount). put m.standing a b (Some w) (state.OnTrial a b o)) is;
              table = (record { some = x.table.0.some; shortest = x.table.0.shortest; sized = x.table.0.sized }, x.table.1);
              changes = x.changes;
              answered = x.answered;
              buffer = x.buffer;
            }));
      }

  refused_by : (o : Option Refusal) (why : Refusal) (m' : Model) → Outcome μ o m (call.Tie a b w room) before (answer.Refused why) after m' → Outcome μ o m (call.Trial a b w room) before (answer.Refused why) after m'
  refused_by (Some r) why m' x = x
  refused_by None why m' (inl c) = inl (record {
    markers = c.markers;
    sum = c.sum;
    cycle = c.cycle;
    below = c.below;
    closes = c.closes;
    answered = c.answered;
    buffer = c.buffer;
    same = c.same;
  })
  refused_by None why m' (inr x) = let e = x.answered in absurd (let z : ◌≡◌ {A = ℕ} 0 1 = cc in omega arith)

  pub trial_refused : (why : Refusal) (m' : Model) → Answered μ m (call.Tie a b w room) before (answer.Refused why) after m' → Answered μ m (call.Trial a b w room) before (answer.Refused why) after m'
  trial_refused why m' told = record { outcome = refused_by (first_refusal μ m.standing (call.Tie a b w room)) why m' told.outcome }

-- ---- what a trial leaves suits its store

-- a pair that gets what it had
set_back : (t : Ties) (a b : ℕ) (o was : Option Amount) → was ≡ t a b → set_tie (set_tie t a b o) a b was ≡ t
set_back t a b o was is = λ i x y. by x y (cases_Bool (eqb x a && eqb y b)) i
  where
    by : (x y : ℕ) → ((eqb x a && eqb y b) ≡ true) ⊎ ((eqb x a && eqb y b) ≡ false) → set_tie (set_tie t a b o) a b was x y ≡ t x y
    by x y (inl e) =
        let p = and_parts (eqb x a) (eqb y b) e in
        cond-true (eqb x a && eqb y b) was (set_tie t a b o x y) e ∙ is ∙ ap (λ (k : ℕ). t k b) (sym (eqb-true x a p.0)) ∙ ap (t x) (sym (eqb-true y b p.1))
    by x y (inr e) = cond-false (eqb x a && eqb y b) was (set_tie t a b o x y) e ∙ cond-false (eqb x a && eqb y b) o (t x y) e

-- the part of what stands that a store means
abbrev meaning_of : Standing → StoreMeaning
meaning_of x = record { count = x.count; closed = x.closed; tie = x.ties; free = x.free }

module _ {S M : Type 0} (st : StoreGhosts S) (μ : MeasureGhosts M) (s s' : Held S) (suits : Suits st μ s) (suits' : Suits st μ s') (a b : ℕ) (w : Amount) (room : ℕ) (was : Option Amount)
    (is : was ≡ (st.meaning s.store).tie a b)
    (none : first_refusal μ (model st s).standing (call.Tie a b w room) ≡ None)
    (stands : (model st s').standing ≡ put (model st s).standing a b (Some w) s.state) where
  state_passed : (is_new s.state ≡ false) × (tie_refusal μ (st.meaning s.store) a b w room ≡ None)
  state_passed = ((passed (is_new s.state) NotOpen _ none).0, pair_passed μ (model st s).standing a b _ none)

  opened' : is_new s'.state ≡ false
  opened' = ap (λ (x : Standing). is_new x.state) stands ∙ state_passed.0

  abbrev on_trial_now : Held S
  on_trial_now = record { store = s'.store; total = s'.total; number = s'.number; state = state.OnTrial a b was; changes = s'.changes; table = s'.table }

  fitted : Fits μ.group (st.meaning s.store).count (bounds_of μ s.total (set_tie (set_tie (st.meaning s.store).tie a b (Some w)) a b was)) (λ z. μ.value (deep s.table.rows z))
  fitted =
      let old = suits.table state_passed.0 in
      subst (λ (t : Ties). Fits μ.group (st.meaning s.store).count (bounds_of μ s.total t) (λ z. μ.value (deep s.table.rows z))) (sym (set_back (st.meaning s.store).tie a b (Some w) was is))
      (subst (λ (i : ℕ). Fits μ.group i (bounds_of μ s.total (st.meaning s.store).tie) (λ z. μ.value (deep s.table.rows z))) old.same old.solved.fits)

  trial_suits : Suits st μ on_trial_now
  trial_suits = record { same = suits'.same; table = λ _. suits'.table opened'; amounts = λ _. suits'.amounts opened' }

  trial_can_roll_back : CanRollBack st μ on_trial_now
  trial_can_roll_back = record {
    stands = subst (λ (x : Standing). untie_refusal (meaning_of x) a b ≡ None) (sym stands) (tie_stands μ (st.meaning s.store) a b w room state_passed.1);
    admitted = λ v e. (suits.amounts state_passed.0).ties_admitted a b v (sym is ∙ e);
    depths = λ z. μ.value (deep s.table.rows z);
    fit = subst (λ (x : Standing). Fits μ.group x.count (bounds_of μ x.total (set_tie x.ties a b was)) (λ z. μ.value (deep s.table.rows z))) (sym stands) fitted;
  }

  pub trial_upheld : Upheld st μ on_trial_now
  trial_upheld = record { suits = trial_suits; trial = trial_can_roll_back }

-- ---- rolling back

module _ {S M : Type 0} (st : StoreGhosts S) (μ : MeasureGhosts M) (s : Held S) (can : CanRollBack st μ s) (a b : ℕ) (was : Option Amount) (out : s.state ≡ state.OnTrial a b was) where
  pub trial_kept : TrialSuits μ s.total (st.meaning s.store) a b was
  trial_kept = subst (StateSuits μ s.total (st.meaning s.store)) out can

  -- what fitted before the trial fits again, so that no cycle is negative
  pub roll_back_fits : (q : ℕ → ℕ) → NegativeCycle μ.group (st.meaning s.store).count (bounds_of μ s.total (set_tie (st.meaning s.store).tie a b was)) q a b → ⊥
  roll_back_fits q c =
      negative_cycle_refutes μ.group (st.meaning s.store).count (bounds_of μ s.total (set_tie (st.meaning s.store).tie a b was)) (b ∷ way q c.up a) c.sum c.cycle c.negative
      trial_kept.depths trial_kept.fit

  -- nor where the pair has nothing
  pub undone_fits : Suits st μ s → (o : Option Amount) → (o ≡ was) ⊎ (o ≡ None) → (q : ℕ → ℕ) → NegativeCycle μ.group (st.meaning s.store).count (bounds_of μ s.total (set_tie (st.meaning s.store).tie a b o)) q a b → ⊥
  undone_fits suits o by q c =
      let again : (k : Option Amount) → o ≡ k → NegativeCycle μ.group (st.meaning s.store).count (bounds_of μ s.total (set_tie (st.meaning s.store).tie a b k)) q a b
      = λ k e. subst (λ (i : Option Amount). NegativeCycle μ.group (st.meaning s.store).count (bounds_of μ s.total (set_tie (st.meaning s.store).tie a b i)) q a b) e c in
      elim by [
        | inl e ↦ roll_back_fits q (again was e)
        | inr e ↦ untie_fits st μ s a b (suits.table (ap is_new out)) q (again None e)
      ]

  pub roll_back_answered : (number : ℕ) → number ≡ s.number → (m' : Model) (r : Counts) → Settled μ (model st s) a b was r m'
      → Answered μ (model st s) (call.RollBack number) [] (answer.Changed r.moved r.reparented) [] m'
  roll_back_answered number own m' r h =
      settled_answered μ (model st s) m' a b was r h (call.RollBack number) []
      (skips (not (on_trial s.state && eqb number s.number)) WrongToken [] (ap not (and_from (on_trial s.state) (eqb number s.number) (ap on_trial out) (eq-eqb number s.number own))))
      refl (ap (rolled_back (model st s).standing) out) refl refl
