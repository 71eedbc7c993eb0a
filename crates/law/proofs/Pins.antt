-- What the answers leave free. Assumes nothing.
use Rattle.std.proofs.Common.{◌≡◌, ℕ, zero, suc, ◌<◌, Bool, not, List, length, Some, None, Option, sym, refl, ap, ◌∙◌, subst, inl, inr, arith}
use Rattle.measure.specs.declared.Amount.{Amount}
use Rattle.measure.specs.declared.Measure as measure
use Rattle.law.specs.declared.call.Answer.{Answer}
use Rattle.law.specs.declared.call.Answer.TheVariants.{Refused}
use Rattle.law.specs.declared.call.Call.{Call}
use Rattle.law.specs.declared.call.Call.TheVariants as call
use Rattle.law.specs.declared.call.Refusal.{Refusal}
use Rattle.law.specs.declared.call.Refusal.TheVariants.{Contradiction}
use Rattle.law.specs.declared.call.State.{State}
use Rattle.law.specs.declared.call.State.TheVariants as state
use Rattle.law.specs.Amounts.{same_value}
use Rattle.law.specs.Standing.{Standing, took, rolled_back}
use Rattle.law.specs.Refusals.{code_of, first_refusal}
use Rattle.law.specs.Calls.{Kind, kind, Model, Table, TableOf, Accepted, Contradicted, Closes, answer_of, moved, tally, Outcome}
use Rattle.law.specs.Calls.Kind.{opening, change, other}
use Rattle.law.specs.Telling.{Agree, Pinned, answer_code, moved_count}
use Rattle.law.proofs.Tables.{certified, deepest_of, one_deepest, nothing_fits}

-- tests that agree below n are passed as often
pub tally_same : (n : ℕ) (f g : ℕ → Bool) → ((k : ℕ) → k < n → f k ≡ g k) → tally n f ≡ tally n g
tally_same zero f g h = refl
tally_same (suc n) f g h = sum_of (h n (omega arith)) (tally_same n f g (λ k l. h k (wider k n l)))
  where
    wider : (k n : ℕ) → k < n → k < suc n
    wider k n l = omega arith

    sum_of : f n ≡ g n → tally n f ≡ tally n g → tally (suc n) f ≡ tally (suc n) g
    sum_of e r = rw (e, r) refl

module _ {M : Type 0} (μ : measure.Ghosts M) where
  pub same_depths : (s : Standing) (d e : ℕ → Amount) (p q : ℕ → ℕ) → TableOf μ s d p → TableOf μ s e q → (k : ℕ) → k < s.count → d k ≡ e k
  same_depths s d e p q v w k h =
      μ.laws.faithful (d k) (e k) (v.sized k h) (w.sized k h)
      (one_deepest μ s k (μ.value (d k)) (μ.value (e k)) (deepest_of μ s d p v k h) (deepest_of μ s e q w k h))

  -- an accepted call is answered by no refusal
  no_code : (c : Call) (m m' : Model) → answer_code (answer_of μ c m m') ≡ 0
  no_code (call.Open room) m m' = refl
  no_code (call.Tie a b w room) m m' = refl
  no_code (call.Untie a b) m m' = refl
  no_code (call.Trial a b w room) m m' = refl
  no_code (call.Commit number) m m' = refl
  no_code (call.RollBack number) m m' = refl
  no_code (call.Depth k) m m' = refl
  no_code (call.Path k room) m m' = refl

  same_moved : (c : Call) (m m₁ m₂ : Model) → moved μ m m₁ ≡ moved μ m m₂ → moved_count (answer_of μ c m m₁) ≡ moved_count (answer_of μ c m m₂)
  same_moved (call.Open room) m m₁ m₂ h = refl
  same_moved (call.Tie a b w room) m m₁ m₂ h = h
  same_moved (call.Untie a b) m m₁ m₂ h = h
  same_moved (call.Trial a b w room) m m₁ m₂ h = h
  same_moved (call.Commit number) m m₁ m₂ h = refl
  same_moved (call.RollBack number) m m₁ m₂ h = h
  same_moved (call.Depth k) m m₁ m₂ h = refl
  same_moved (call.Path k room) m m₁ m₂ h = refl

  -- a call that can meet a contradiction solves, if it is accepted
  solving : (c : Call) (ms : List ℕ) (m m' : Model) → Closes c ms → Table μ (kind c) m m' → TableOf μ m'.standing m'.depth m'.parent
  solving (call.Open len) ms m m' h t = t
  solving (call.Tie a b w len) ms m m' h t = t.0
  solving (call.Untie a b) ms m m' h t = absurd h
  solving (call.Trial a b w len) ms m m' h t = t.0
  solving (call.Commit number) ms m m' h t = absurd h
  solving (call.RollBack number) ms m m' h t = absurd h
  solving (call.Depth k) ms m m' h t = absurd h
  solving (call.Path k len) ms m m' h t = absurd h

  not_both : {A : Type 0} (m : Model) (c : Call) (b : List ℕ) (a₁ : Answer) (f₁ : List ℕ) (m₁ : Model) (a₂ : Answer) (f₂ : List ℕ) (m₂ : Model)
      → Contradicted μ m c b a₁ f₁ m₁ → Accepted μ m c b a₂ f₂ m₂ → A
  not_both m c b a₁ f₁ m₁ a₂ f₂ m₂ x y =
      let v = subst (λ z. TableOf μ z m₂.depth m₂.parent) y.standing (solving c x.markers m m₂ x.closes y.table) in
      absurd (nothing_fits μ (took c m.standing) x.markers x.sum x.cycle x.below (λ k. μ.value (m₂.depth k)) (certified μ (took c m.standing) m₂.depth m₂.parent v).fits)

  depths_agree : (c : Call) (m m₁ m₂ : Model) → m₂.standing ≡ m₁.standing → Table μ (kind c) m m₁ → Table μ (kind c) m m₂ → (k : ℕ) → k < m₁.standing.count → m₁.depth k ≡ m₂.depth k
  depths_agree c m m₁ m₂ e t u k h = at (kind c) t u
    where
      both : TableOf μ m₁.standing m₁.depth m₁.parent → TableOf μ m₂.standing m₂.depth m₂.parent → m₁.depth k ≡ m₂.depth k
      both v w = same_depths m₁.standing m₁.depth m₂.depth m₁.parent m₂.parent v (subst (λ z. TableOf μ z m₂.depth m₂.parent) e w) k h

      still : m₁.depth ≡ m.depth → m₂.depth ≡ m.depth → m₁.depth k ≡ m₂.depth k
      still p q = ap (λ f. f k) (p ∙ sym q)

      at : (z : Kind) → Table μ z m m₁ → Table μ z m m₂ → m₁.depth k ≡ m₂.depth k
      at opening t u = both t u
      at change t u = both t.0 u.0
      at other t u = still t.0 u.0

  moved_same : (m m₁ m₂ : Model) → m₁.standing.count ≡ m.standing.count → ((k : ℕ) → k < m₁.standing.count → m₁.depth k ≡ m₂.depth k) → moved μ m m₁ ≡ moved μ m m₂
  moved_same m m₁ m₂ e h =
      tally_same m.standing.count (λ k. not (same_value μ (m.depth k) (m₁.depth k))) (λ k. not (same_value μ (m.depth k) (m₂.depth k)))
      (λ k l. ap (λ x. not (same_value μ (m.depth k) x)) (h k (subst (λ n. k < n) (sym e) l)))

  -- no call changes the number of markers
  same_count : (c : Call) (s : Standing) → (took c s).count ≡ s.count
  same_count (call.Open room) s = refl
  same_count (call.Tie a b w room) s = refl
  same_count (call.Untie a b) s = refl
  same_count (call.Trial a b w room) s = refl
  same_count (call.Commit number) s = refl
  same_count (call.RollBack number) s = by s.state
    where
      by : (st : State) → (rolled_back s st).count ≡ s.count
      by state.New = refl
      by state.Open = refl
      by (state.OnTrial a b before) = refl
  same_count (call.Depth k) s = refl
  same_count (call.Path k room) s = refl

  unchanged : (m m₁ m₂ : Model) (a₁ a₂ : Answer) (r₁ r₂ : Refusal) → m₁ ≡ m → m₂ ≡ m → a₁ ≡ Refused r₁ → a₂ ≡ Refused r₂ → code_of r₁ ≡ code_of r₂ → Agree μ m₁ a₁ m₂ a₂
  unchanged m m₁ m₂ a₁ a₂ r₁ r₂ p q e₁ e₂ same = record {
    code = ap answer_code e₁ ∙ same ∙ sym (ap answer_code e₂);
    moved = ap moved_count e₁ ∙ sym (ap moved_count e₂);
    standing = ap (λ z. z.standing) (p ∙ sym q);
    changes = ap (λ z. z.changes) (p ∙ sym q);
    depths = λ k _. ap (λ z. z.depth k) (p ∙ sym q);
  }

  pub pinned : Pinned μ
  pinned m c b a₁ f₁ m₁ a₂ f₂ m₂ x y = at (first_refusal μ m.standing c) x.outcome y.outcome
    where
      at : (o : Option Refusal) → Outcome μ o m c b a₁ f₁ m₁ → Outcome μ o m c b a₂ f₂ m₂ → Agree μ m₁ a₁ m₂ a₂
      at (Some r) (p, _, q) (p', _, q') = unchanged m m₁ m₂ a₁ a₂ r r q q' p p' refl
      at None (inl x) (inl y) = unchanged m m₁ m₂ a₁ a₂ (Contradiction (length x.markers)) (Contradiction (length y.markers)) x.same y.same x.answered y.answered refl
      at None (inl x) (inr y) = not_both m c b a₁ f₁ m₁ a₂ f₂ m₂ x y
      at None (inr x) (inl y) = not_both m c b a₂ f₂ m₂ a₁ f₁ m₁ y x
      at None (inr x) (inr y) =
          let same = depths_agree c m m₁ m₂ (y.standing ∙ sym x.standing) x.table y.table in
          record {
            code = ap answer_code x.answered ∙ no_code c m m₁ ∙ sym (ap answer_code y.answered ∙ no_code c m m₂);
            moved = ap moved_count x.answered ∙ same_moved c m m₁ m₂ (moved_same m m₁ m₂ (ap (λ z. z.count) x.standing ∙ same_count c m.standing) same) ∙ sym (ap moved_count y.answered);
            standing = x.standing ∙ sym y.standing;
            changes = x.changes ∙ sym y.changes;
            depths = same;
          }
