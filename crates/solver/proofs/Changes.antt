-- A solver after one tie has changed. Assumes nothing.
use Rattle.std.proofs.Common.{◌≡◌, ℕ, ◌<◌, true, false, not, ◌&&◌, eqb, ◌⊎◌, Some, Option, sym, refl, ap, ◌∙◌, subst, inl, inr}
use Rattle.std.proofs.lemmas.Bool.{cases_Bool, cond-false, cond-true}
use Rattle.measure.specs.declared.Amount.{Amount}
use Rattle.measure.specs.declared.Measure.{Ghosts as MeasureGhosts}
use Rattle.store.specs.declared.TieStore.{Ghosts as StoreGhosts}
use Rattle.store.specs.Meaning.{set_tie, StoreMeaning}
use Rattle.graph.specs.Graph.{PathTo}
use Rattle.graph.specs.Tree.{path_to}
use Rattle.table.specs.Climb.{deep, up}
use Rattle.table.specs.declared.table.DepthTable.{DepthTable}
use Rattle.law.specs.Calls.{changes_after, Keeps, PathAt, tally}
use Rattle.law.specs.Calls.Kind.{change}
use Rattle.law.specs.Amounts.{same_value}
use Rattle.law.specs.Refusals.{is_new}
use Rattle.law.specs.Standing.{bounds_of, put, Standing}
use Rattle.law.specs.declared.call.Counts.{Counts}
use Rattle.law.specs.declared.call.State.TheVariants as state
use Rattle.solver.specs.Held.{Held}
use Rattle.change.proofs.Tallies.{none_moved, none_reparented}
use Rattle.solver.specs.Changing.{counts, KeptPaths}
use Rattle.solver.specs.Model.{model, standing_of}
use Rattle.solver.specs.Settling.{Settled}
use Rattle.solver.specs.Suits.{Admitted, Suits, TableSuits}
use Rattle.solver.specs.Writing.{changed_meaning}
use Rattle.solver.proofs.Openings.{table_of}

-- a table that stays has no new rows
pub no_counts : {M : Type 0} (μ : MeasureGhosts M) (t : DepthTable) → counts μ t t ≡ record { moved = 0; reparented = 0 }
no_counts μ t = ap (λ (i : ℕ). record { moved = i; reparented = tally t.n (λ k. not (eqb (up t.rows k) (up t.rows k))) }) (none_moved μ t.n (deep t.rows)) ∙ ap (λ (i : ℕ). record { moved = 0; reparented = i }) (none_reparented t.n (up t.rows))

module _ {S M : Type 0} (st : StoreGhosts S) (μ : MeasureGhosts M) (s : Held S) (suits : Suits st μ s) (opened : is_new s.state ≡ false) (a b : ℕ) (o : Option Amount)
    (admitted : (w : Amount) → o ≡ Some w → μ.admits w ≡ true) (store : S)
    (meaning : st.meaning store ≡ changed_meaning (st.meaning s.store) a b o) (table : DepthTable)
    (fits : TableSuits μ s.total (st.meaning s.store).count (set_tie (st.meaning s.store).tie a b o) table) where
  abbrev m : StoreMeaning
  m = st.meaning s.store

  -- the solver, once the store is written, the change counted and the table taken over
  abbrev pub after : Held S
  after = record { store = store; total = s.total; number = s.number; state = s.state; changes = changes_after change s.changes; table = table }

  after_fits : TableSuits μ s.total (st.meaning store).count (st.meaning store).tie table
  after_fits = subst (λ (k : StoreMeaning). TableSuits μ s.total k.count k.tie table) (sym meaning) fits

  all_admitted : Admitted μ s.total (set_tie (st.meaning s.store).tie a b o)
  all_admitted = record { total_admitted = (suits.amounts opened).total_admitted; ties_admitted = λ x y w e. by x y w e (cases_Bool (eqb x a && eqb y b)) }
    where
      by : (x y : ℕ) (w : Amount) → set_tie (st.meaning s.store).tie a b o x y ≡ Some w → ((eqb x a && eqb y b) ≡ true) ⊎ ((eqb x a && eqb y b) ≡ false) → μ.admits w ≡ true
      by x y w e (inl k) = admitted w (sym (cond-true (eqb x a && eqb y b) o ((st.meaning s.store).tie x y) k) ∙ e)
      by x y w e (inr k) = (suits.amounts opened).ties_admitted x y w (sym (cond-false (eqb x a && eqb y b) o ((st.meaning s.store).tie x y) k) ∙ e)

  pub after_suits : Suits st μ after
  after_suits = record {
    same = after_fits.same;
    table = λ _. after_fits;
    amounts = λ _. subst (λ (k : StoreMeaning). Admitted μ s.total k.tie) (sym meaning) all_admitted;
  }

  after_standing : (model st after).standing ≡ put (model st s).standing a b o s.state
  after_standing = ap (λ (k : StoreMeaning). standing_of k s.total s.number s.state) meaning

  module _ (kept : KeptPaths μ s.total (set_tie (st.meaning s.store).tie a b o) s.table table) where
    after_keeps : Keeps μ (model st s) (model st after)
    after_keeps k h path =
        let n = suits.same in
        let inner : k < s.table.n = subst (λ (i : ℕ). k < i) (ap (λ (x : Standing). x.count) after_standing ∙ sym n) h in
        let old = subst (λ (x : Standing). PathAt μ x (path_to (up s.table.rows) (st.meaning s.store).count k) k (μ.value (deep table.rows k))) after_standing path in
        let same = subst (λ (i : ℕ). PathTo μ.group i (bounds_of μ s.total (set_tie (st.meaning s.store).tie a b o)) (path_to (up s.table.rows) i k) k (μ.value (deep table.rows k)) → path_to (up table.rows) i k ≡ path_to (up s.table.rows) i k) n (kept k inner) in
        subst (λ (i : ℕ). path_to (up table.rows) i k ≡ path_to (up s.table.rows) (st.meaning s.store).count k) (sym (ap (λ (x : Standing). x.count) after_standing)) (same old)

    pub after_settled : s.state ≡ state.Open → (r : Counts) → r ≡ counts μ s.table table → Settled μ (model st s) a b o r (model st after)
    after_settled open-now r counted = record {
      standing = after_standing ∙ ap (put (model st s).standing a b o) open-now;
      table = (table_of μ (model st after).standing table after_fits, after_keeps);
      changes = refl;
      counted = counted ∙ ap (λ (i : ℕ). record { moved = tally i (λ k. not (same_value μ (deep s.table.rows k) (deep table.rows k))); reparented = tally i (λ k. not (eqb (up s.table.rows k) (up table.rows k))) }) suits.same;
    }
