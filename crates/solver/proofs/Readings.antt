-- Readings of a solver that is open. Assumes nothing.
use Rattle.std.proofs.Common.{◌≡◌, ℕ, ◌<◌, false, not, ltb, [], ◌∷◌, None, Option, ap, ◌∙◌, subst, inl, inr, arith}
use Rattle.std.proofs.lemmas.Bool.{lt-ltb}
use Rattle.measure.specs.declared.Measure as measure
use Rattle.law.specs.Calls.{Answered, Model, Outcome}
use Rattle.law.specs.Refusals.{first_refusal, is_new, when}
use Rattle.law.specs.declared.call.Answer.{Answer}
use Rattle.law.specs.declared.call.Answer.TheVariants as answer
use Rattle.law.specs.declared.call.Call.TheVariants as call
use Rattle.law.specs.declared.call.Refusal.{Refusal}
use Rattle.law.specs.declared.call.Refusal.TheVariants.{NotOpen, UnknownMarker}
use Rattle.table.specs.declared.row.Row.{Row}
use Rattle.law.proofs.Answers.{skips}

module _ {M : Type 0} (μ : measure.Ghosts M) (m : Model) (k : ℕ) (opened : is_new m.standing.state ≡ false) (known : k < m.standing.count) where
  depth_passes : first_refusal μ m.standing (call.Depth k) ≡ None
  depth_passes =
      skips (is_new m.standing.state) NotOpen (when (not (ltb k m.standing.count)) UnknownMarker ∷ []) opened
      ∙ skips (not (ltb k m.standing.count)) UnknownMarker [] (ap not (lt-ltb k m.standing.count known))

  -- what such a reading tells
  outcome_at : (a : Answer) → Answered μ m (call.Depth k) [] a [] m → Outcome μ None m (call.Depth k) [] a [] m
  outcome_at a told = subst (λ (o : Option Refusal). Outcome μ o m (call.Depth k) [] a [] m) depth_passes told.outcome

  row_by : (row : Row) → Outcome μ None m (call.Depth k) [] (answer.Row row.depth row.parent) [] m → (row.depth ≡ m.depth k) × (row.parent ≡ m.parent k)
  row_by row (inl c) = absurd c.closes
  row_by row (inr a) = let e = a.answered in (cc, cc)

  pub row_read : (row : Row) → Answered μ m (call.Depth k) [] (answer.Row row.depth row.parent) [] m → (row.depth ≡ m.depth k) × (row.parent ≡ m.parent k)
  row_read row told = row_by row (outcome_at (answer.Row row.depth row.parent) told)

  never_by : (why : Refusal) → Outcome μ None m (call.Depth k) [] (answer.Refused why) [] m → ⊥
  never_by why (inl c) = c.closes
  never_by why (inr a) = let e = a.answered in let z : ◌≡◌ {A = ℕ} 0 1 = cc in omega arith
