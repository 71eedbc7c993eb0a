-- Calls made one after another. Assumes nothing.
use Rattle.std.proofs.Common.{◌≡◌, ℕ, ◌+◌, ◌<◌, ◌≤◌, List, [], ◌∷◌, ◌++◌, length, get_or, take, set, sym, refl, ap, ◌∙◌, subst, inl, inr, add-one, arith, get_or-set_other, get_or-set_same, take-suc-set}
use native.Mathlib.Decide.{ℕ_discrete}
use Rattle.std.proofs.lemmas.List.{get_or_past}
use Rattle.std.proofs.lemmas.Bool.{cases_lt}
use Rattle.measure.specs.declared.Measure as measure
use Rattle.law.specs.declared.call.Entry.{Entry}
use Rattle.law.specs.Calls.{Model}
use Rattle.law.specs.Law.{Log}
use Rattle.law.specs.Telling.{Ran, Tells}
use Rattle.law.specs.Telling.Ran.{more, none}
use Rattle.law.proofs.Tellings.{goes_on}
use Rattle.replay.specs.Replays.{blank, capped, cut, followed_by, log_of, Made, Reached, Replayed, room}

followed_more : (log : Log) (es : List Entry) (e : Entry) → followed_by log (es ++ (e ∷ [])) ≡ cut e ∷ followed_by log es
followed_more log [] e = refl
followed_more log (x ∷ es) e = followed_more (cut x ∷ log) es e

module _ {M : Type 0} (μ : measure.Ghosts M) (m m₁ m₂ : Model) (es : List Entry) (i : ℕ) (e : Entry) (inside : i < length es) (made : Made μ m₁ e.call e.answer e.buffer m₂) where
  grown : take (i + 1) (set es i e) ≡ take i es ++ (e ∷ [])
  grown = rw add-one (take-suc-set es i e inside)

  pub reached_more : Reached μ m (log_of (take i es)) m₁ → Reached μ m (log_of (take (i + 1) (set es i e))) m₂
  reached_more r = subst (λ (l : Log). Reached μ m l m₂) (sym (ap log_of grown ∙ followed_more [] (take i es) e)) (m₁, r, (made.before, made.answered))

  pub replayed_more : Replayed μ m (take i es) m₁ → Replayed μ m (take (i + 1) (set es i e)) m₂
  replayed_more r s log t =
      subst (λ (l : Log). Tells μ s l m₂) (sym (ap (followed_by log) grown ∙ followed_more log (take i es) e))
      (goes_on μ m₁ m₂ e.call made.before e.answer (take (room e.call) e.buffer) made.answered s (followed_by log (take i es)) (r s log t))

pub reached_ran : {M : Type 0} (μ : measure.Ghosts M) (m : Model) (log : Log) (m' : Model) → Reached μ m log m' → Ran μ m log m'
reached_ran μ m [] m' is = subst (Ran μ m []) (sym is) none
reached_ran μ m (e ∷ log) m' (m₁, r, (before, told)) = more before (reached_ran μ m log m₁ r) told

-- the entry at i is filled in, and the calls of those before it are capped
pub calls_more : (es fs : List Entry) (i : ℕ) (e : Entry) → i < length es → e.call ≡ capped (get_or es i blank).call
    → ((k : ℕ) → i ≤ k → get_or es k blank ≡ get_or fs k blank) → ((k : ℕ) → k < i → (get_or es k blank).call ≡ capped (get_or fs k blank).call)
    → (k : ℕ) → k < i + 1 → (get_or (set es i e) k blank).call ≡ capped (get_or fs k blank).call
calls_more es fs i e h q rest old k l = at (ℕ_discrete k i)
  where
    at : Dec (k ≡ i) → (get_or (set es i e) k blank).call ≡ capped (get_or fs k blank).call
    at (yes p) =
        ap (λ (z : ℕ). (get_or (set es i e) z blank).call) p ∙ ap (λ (z : Entry). z.call) (get_or-set_same es i e blank h) ∙ q
        ∙ ap (λ (z : Entry). capped z.call) (rest i (omega arith)) ∙ ap (λ (z : ℕ). capped (get_or fs z blank).call) (sym p)
    at (no p) = ap (λ (z : Entry). z.call) (get_or-set_other es i k e blank p) ∙ old k (below p)
      where
        below : (k ≡ i → ⊥) → k < i
        below ne = omega (arith, ne)

pub rest_more : (es fs : List Entry) (i : ℕ) (e : Entry) → ((k : ℕ) → i ≤ k → get_or es k blank ≡ get_or fs k blank)
    → (k : ℕ) → i + 1 ≤ k → get_or (set es i e) k blank ≡ get_or fs k blank
rest_more es fs i e old k h = get_or-set_other es i k e blank (λ p. other p) ∙ old k (omega arith)
  where
    other : k ≡ i → ⊥
    other p = omega arith
