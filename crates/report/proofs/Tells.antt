-- What an opening tells, as text. Assumes nothing.
use Rattle.std.proofs.Common.{◌≡◌, ℕ, ◌<◌, ◌≤◌, true, false, ◌⊎◌, List, length, get_or, take, Some, None, Option, sym, refl, ap, ◌∙◌, subst, inl, inr}
use Rattle.std.proofs.lemmas.List.{get_or-take}
use Rattle.measure.specs.declared.Amount.{Amount}
use Rattle.measure.specs.declared.Measure as measure
use Rattle.store.specs.Meaning.{StoreMeaning}
use Rattle.graph.specs.Graph.{Cycle}
use Rattle.graph.proofs.Walks.{cycle_inside}
use Rattle.depth_text.specs.Lines.{contradiction_line, rows_text}
use Rattle.law.specs.Calls.{Accepted, Answered, Contradicted, Model, TableOf}
use Rattle.law.specs.Refusals.{code_of, cycle_length, first_refusal}
use Rattle.law.specs.Standing.{bounds, Standing, took}
use Rattle.law.specs.declared.call.Answer.TheVariants as answer
use Rattle.law.specs.declared.call.Call.TheVariants as call
use Rattle.law.specs.declared.call.Refusal.{Refusal}
use Rattle.law.specs.declared.call.Refusal.TheVariants.{Contradiction}
use Rattle.law.specs.declared.call.State.TheVariants as state
use Rattle.solver.specs.Model.{standing_of}
use Rattle.solver.proofs.Openings.{check_length, opened_accepted, opened_refused}
use Rattle.report.specs.Refusing.{Front, line_by, refusal_text}
use Rattle.report.specs.Told.{refusal, Told}
use Rattle.report.specs.Told.Told.{refused, contradicts, solves}
use Rattle.report.proofs.Cycles.{front_fits, front_taken, getD_in}

opened_count : (n k : ℕ) → answer.Opened n ≡ answer.Opened k → n ≡ k
opened_count n k e = cc

same_refusal : (why : Refusal) (k : ℕ) → answer.Refused why ≡ answer.Refused (Contradiction k) → why ≡ Contradiction k
same_refusal why k e = cc

module _ {M : Type 0} (μ : measure.Ghosts M) (total : Amount) (sm : StoreMeaning) (name : ℕ → List ℕ) (m m' : Model)
    (standing : m.standing ≡ standing_of sm total 0 state.New) (before after : List ℕ) where
  refusal_is : (o : Option Refusal) → first_refusal μ m.standing (call.Open 64) ≡ o → refusal μ total sm name ≡ o
  refusal_is o e = subst (λ (s : Standing). first_refusal μ s (call.Open 64) ≡ o) standing e

  pub told_rows : (n : ℕ) → Answered μ m (call.Open 64) before (answer.Opened n) after m' → Told μ total sm name (rows_text name m'.depth m'.parent n) true
  told_rows n told = by (opened_accepted μ m m' 64 n before after told)
    where
      by : (first_refusal μ m.standing (call.Open 64) ≡ None) × Accepted μ m (call.Open 64) before (answer.Opened n) after m' → Told μ total sm name (rows_text name m'.depth m'.parent n) true
      by (none, a) =
          let now = a.standing ∙ ap (took (call.Open 64)) standing in
          solves m'.depth m'.parent (refusal_is None none)
          (subst (λ (s : Standing). TableOf μ s m'.depth m'.parent) now a.table)
          (ap (rows_text name m'.depth m'.parent) (opened_count n m.standing.count a.answered ∙ ap (λ (s : Standing). s.count) standing))

  module _ (why : Refusal) (told : Answered μ m (call.Open 64) before (answer.Refused why) after m') where
    pub told_refusal : Told μ total sm name (refusal_text name why after) false
    told_refusal = by (opened_refused μ m m' 64 why before after told)
      where
        by : (first_refusal μ m.standing (call.Open 64) ≡ Some why) ⊎ ((first_refusal μ m.standing (call.Open 64) ≡ None) × Contradicted μ m (call.Open 64) before (answer.Refused why) after m')
            → Told μ total sm name (refusal_text name why after) false
        by (inl e) = refused why (refusal_is (Some why) e) (ap (line_by name (code_of why) after) (check_length μ m.standing 64 why e))
        by (inr (none, c)) =
            let is = ap cycle_length (same_refusal why (length c.markers) c.answered) in
            contradicts c.markers c.sum (refusal_is None none)
            (subst (λ (s : Standing). Cycle μ.group s.count (bounds μ s) c.markers c.sum) (ap (took (call.Open 64)) standing) c.cycle) c.below
            (ap (line_by name (code_of why) after) is ∙ ap (contradiction_line name) (front_taken c.markers before after (length c.markers) c.buffer refl))

    -- the markers of the cycle stand in the buffer, and have names
    pub told_front : (n : ℕ) → n ≡ sm.count → length after ≡ length before → Front (cycle_length why) after n
    told_front n count same = by (opened_refused μ m m' 64 why before after told)
      where
        by : (first_refusal μ m.standing (call.Open 64) ≡ Some why) ⊎ ((first_refusal μ m.standing (call.Open 64) ≡ None) × Contradicted μ m (call.Open 64) before (answer.Refused why) after m')
            → Front (cycle_length why) after n
        by (inl e) = subst (λ (o : Option ℕ). Front o after n) (sym (check_length μ m.standing 64 why e)) tt
        by (inr (none, c)) =
            let is = ap cycle_length (same_refusal why (length c.markers) c.answered) in
            let fits = front_fits c.markers before after c.buffer same in
            let front = front_taken c.markers before after (length c.markers) c.buffer refl in
            let all = count ∙ sym (ap (λ (s : Standing). s.count) standing) in
            subst (λ (o : Option ℕ). Front o after n) (sym is)
            (subst (λ (i : ℕ). length c.markers ≤ i) (sym same) fits, λ k h. subst (λ (i : ℕ). get_or after k 0 < i) (sym all) (inside c front k h))
          where
            inside : (c : Contradicted μ m (call.Open 64) before (answer.Refused why) after m') → take (length c.markers) after ≡ c.markers → (k : ℕ) → k < length c.markers → get_or after k 0 < m.standing.count
            inside c front k h =
                subst (λ (i : ℕ). i < m.standing.count) (ap (λ xs. get_or xs k 0) (sym front) ∙ get_or-take (length c.markers) after k 0 h)
                (cycle_inside μ.group m.standing.count (bounds μ (took (call.Open 64) m.standing)) c.markers c.sum c.cycle (get_or c.markers k 0) (getD_in c.markers k h))
