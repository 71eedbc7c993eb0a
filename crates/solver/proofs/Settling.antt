-- A solver after one tie has changed, whatever call it was. Assumes nothing.
use Rattle.std.proofs.Common.{◌≡◌, ℕ, true, false, Some, None, Ok, Err, Option, Result, sym, refl, ap, ◌∙◌, subst}
use Rattle.measure.specs.declared.Amount.{Amount}
use Rattle.measure.specs.declared.Measure.{Ghosts as MeasureGhosts}
use Rattle.store.specs.declared.TieStore.{Ghosts as StoreGhosts}
use Rattle.store.specs.Meaning.{set_tie}
use Rattle.table.specs.declared.table.DepthTable.{DepthTable}
use Rattle.law.specs.Calls.{changes_after}
use Rattle.law.specs.Calls.Kind.{change}
use Rattle.law.specs.Refusals.{is_new}
use Rattle.law.specs.declared.call.Counts.{Counts}
use Rattle.law.specs.declared.call.State.TheVariants as state
use Rattle.bounds.proofs.Limits.{no_some, same_some}
use Rattle.bounds.specs.Small.{Small}
use Rattle.solver.specs.Held.{Held}
use Rattle.solver.specs.Changing.{Adopted, counts, KeptPaths, LeadsTo}
use Rattle.solver.specs.Model.{model}
use Rattle.solver.specs.Settling.{admitted_step, Settled, Settles}
use Rattle.update.specs.declared.work.Contradiction.{Contradiction}
use Rattle.std.specs.Result.{IsOk}
use Rattle.solver.specs.Suits.{Suits, TableSuits}
use Rattle.solver.specs.Trials.{StateSuits, Upheld}
use Rattle.solver.specs.Writing.{changed_meaning}
use Rattle.solver.proofs.Changes.{after_settled, after_suits, no_counts}

-- an admitted amount is not large
pub step_small : {M : Type 0} (μ : MeasureGhosts M) (o : Option Amount) → admitted_step μ o ≡ true → Small μ o
step_small μ None h w e = absurd (no_some w e)
step_small μ (Some v) h w e = μ.laws.single w (subst (λ (i : Amount). μ.admits i ≡ true) (same_some v w e) h)

step_admitted : {M : Type 0} (μ : MeasureGhosts M) (o : Option Amount) → admitted_step μ o ≡ true → (w : Amount) → o ≡ Some w → μ.admits w ≡ true
step_admitted μ None h w e = absurd (no_some w e)
step_admitted μ (Some v) h w e = subst (λ (i : Amount). μ.admits i ≡ true) (same_some v w e) h

-- what may be written back is admitted
pub admitted_back : {M : Type 0} (μ : MeasureGhosts M) (o : Option Amount) → ((w : Amount) → o ≡ Some w → μ.admits w ≡ true) → admitted_step μ o ≡ true
admitted_back μ None h = refl
admitted_back μ (Some v) h = h v refl

module _ {S M : Type 0} (st : StoreGhosts S) (μ : MeasureGhosts M) (s : Held S) (suits : Suits st μ s) (open_now : s.state ≡ state.Open) (a b : ℕ) (o : Option Amount)
    (admitted : admitted_step μ o ≡ true) (store : S) (meaning : st.meaning store ≡ changed_meaning (st.meaning s.store) a b o) where
  opened : is_new s.state ≡ false
  opened = ap is_new open_now

  -- the solver with the store written, the change counted, and another table
  abbrev pub to : DepthTable → Held S
  to table = record { store = store; total = s.total; number = s.number; state = s.state; changes = changes_after change s.changes; table = table }

  settled_with : (table : DepthTable) → TableSuits μ s.total (st.meaning s.store).count (set_tie (st.meaning s.store).tie a b o) table
      → KeptPaths μ s.total (set_tie (st.meaning s.store).tie a b o) s.table table
      → (r : Counts) → r ≡ counts μ s.table table → Upheld st μ (to table) × Settled μ (model st s) a b o r (model st (to table))
  settled_with table fits kept r counted = (
    record {
      suits = after_suits st μ s suits opened a b o (step_admitted μ o admitted) store meaning table fits;
      trial = subst (StateSuits μ s.total (st.meaning store)) (sym open_now) tt;
    },
    after_settled st μ s suits opened a b o (step_admitted μ o admitted) store meaning table fits kept open_now r counted,
  )

  -- once it has adopted the next table, if there is one
  pub settled : (r : Counts) (next : Option DepthTable) (table : DepthTable) → LeadsTo μ s.total (st.meaning s.store).count (set_tie (st.meaning s.store).tie a b o) a b s.table (Ok next)
      → Adopted μ s.table next r table → Upheld st μ (to table) × Settled μ (model st s) a b o r (model st (to table))
  settled r None table fits (is, zero) =
      subst (λ (t : DepthTable). Upheld st μ (to t) × Settled μ (model st s) a b o r (model st (to t))) (sym is) (settled_with s.table fits (λ m h path. refl) r (zero ∙ sym (no_counts μ s.table)))
  settled r (Some next) table (fits, kept) (is, counted) =
      subst (λ (t : DepthTable). Upheld st μ (to t) × Settled μ (model st s) a b o r (model st (to t))) (sym is) (settled_with next fits kept r counted)

-- what is so of every solver says nothing of its count of changes
pub any_count : {S M : Type 0} (st : StoreGhosts S) (μ : MeasureGhosts M) (s : Held S) (changes : ℕ) → Upheld st μ s
    → Upheld st μ (record { store = s.store; total = s.total; number = s.number; state = s.state; changes = changes; table = s.table })
any_count st μ s changes u = record { suits = record { same = u.suits.same; table = u.suits.table; amounts = u.suits.amounts }; trial = u.trial }

-- a result that is no error
pub never_err : {A E : Type 0} (r : Result A E) → ((e : E) → r ≡ Err e → ⊥) → IsOk r
never_err (Ok x) f = refl
never_err (Err e) f = absurd (f e refl)

-- what a change leaves, where its result is known
pub settles_as : {S M : Type 0} (st : StoreGhosts S) (μ : MeasureGhosts M) (s : Held S) (a b : ℕ) (o : Option Amount) (r q : Result Counts Contradiction) (s' : Held S)
    → Settles st μ s a b o r s' → r ≡ q → Settles st μ s a b o q s'
settles_as st μ s a b o r q s' h e = subst (λ (v : Result Counts Contradiction). Settles st μ s a b o v s') e h
