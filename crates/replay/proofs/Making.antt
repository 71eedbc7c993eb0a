-- A call that was lent the front of a buffer, or none. Assumes nothing.
use Rattle.std.proofs.Common.{◌≡◌, ℕ, List, [], ◌∷◌, ◌++◌, length, take, sym, refl, ap, ◌∙◌, subst}
use Rattle.measure.specs.declared.Measure as measure
use Rattle.law.specs.declared.call.Answer.{Answer}
use Rattle.law.specs.declared.call.Call.{Call}
use Rattle.law.specs.Calls.{Answered, Model}
use Rattle.replay.specs.Replays.{Made, room}

taken : (ms xs : List ℕ) → take (length ms) (ms ++ xs) ≡ ms
taken [] xs = refl
taken (m ∷ ms) xs = ap (λ z. m ∷ z) (taken ms xs)

module _ {M : Type 0} (μ : measure.Ghosts M) (m m' : Model) where
  -- a call that is lent the front of k places
  pub part : (make : ℕ → Call) (a a' : Answer) (k : ℕ) (sub after rest : List ℕ) → a ≡ a' → ((j : ℕ) → room (make j) ≡ j) → length sub ≡ k → length after ≡ length sub
      → Answered μ m (make (length sub)) sub a' after m' → Made μ m (make k) a (after ++ rest) m'
  part make a a' k sub after rest f is-room l l' h =
      subst (λ (x : Answer). Made μ m (make k) x (after ++ rest) m') (sym f)
      (record {
        before = sub;
        answered = subst (λ (x : List ℕ). Answered μ m (make k) sub a' x m') (sym (ap (λ (j : ℕ). take j (after ++ rest)) (is-room k ∙ sym l ∙ sym l') ∙ taken after rest))
            (subst (λ (x : ℕ). Answered μ m (make x) sub a' after m') l h);
      })
