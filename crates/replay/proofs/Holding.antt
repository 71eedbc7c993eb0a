-- Who has the token in hand while a trial is out. Assumes nothing.
use Rattle.std.proofs.Common.{◌≡◌, ℕ, true, false, not, List, Some, None, Option, sym, refl, ap, ◌∙◌, inl, inr, true≢false, arith}
use Rattle.measure.specs.declared.Amount.{Amount}
use Rattle.measure.specs.declared.Measure as measure
use Rattle.law.specs.declared.call.Answer.{Answer}
use Rattle.law.specs.declared.call.Answer.TheVariants.{Refused, Changed}
use Rattle.law.specs.declared.call.Call.{Call}
use Rattle.law.specs.declared.call.Call.TheVariants as call
use Rattle.law.specs.declared.call.Refusal.{Refusal}
use Rattle.law.specs.declared.call.Refusal.TheVariants.{NotNew}
use Rattle.law.specs.declared.call.State.{State}
use Rattle.law.specs.declared.call.State.TheVariants as state
use Rattle.law.specs.Calls.{Answered, Model, Outcome}
use Rattle.law.specs.Refusals.{first_refusal, is_new, on_trial}
use Rattle.law.specs.Standing.{rolled_back as rolled, Standing, took}
use Rattle.solver.proofs.Openings.{passed}
use Rattle.solver.proofs.Ties.{not-false}
use Rattle.solver.specs.declared.token.TrialToken.{TrialToken}
use Rattle.replay.specs.Replays.{Holds}

-- the solver's number, and whether a trial is out, are as they were
pub record Same (m m' : Model) : Type 0 where
  pub number : m'.standing.number ≡ m.standing.number
  pub trial : on_trial m'.standing.state ≡ on_trial m.standing.state

pub holds_same : (m m' : Model) (token : Option TrialToken) → Same m m' → Holds m token → Holds m' token
holds_same m m' None s h = s.trial ∙ h
holds_same m m' (Some t) s h = (s.trial ∙ h.0, h.1 ∙ sym s.number)

same_model : (m m' : Model) → m' ≡ m → Same m m'
same_model m m' e = record { number = ap (λ (x : Model). x.standing.number) e; trial = ap (λ (x : Model). on_trial x.standing.state) e }

new_not_out : (s : State) → is_new s ≡ true → false ≡ on_trial s
new_not_out state.New e = refl
new_not_out state.Open e = absurd (true≢false (sym e))
new_not_out (state.OnTrial a b w) e = absurd (true≢false (sym e))

number_kept : (c : Call) (s : Standing) → (took c s).number ≡ s.number
number_kept (call.Open k) s = refl
number_kept (call.Tie a b w k) s = refl
number_kept (call.Untie a b) s = refl
number_kept (call.Trial a b w k) s = refl
number_kept (call.Commit n) s = refl
number_kept (call.RollBack n) s = by s.state
  where
    by : (x : State) → (rolled s x).number ≡ s.number
    by state.New = refl
    by state.Open = refl
    by (state.OnTrial a b w) = refl
number_kept (call.Depth m) s = refl
number_kept (call.Path m k) s = refl

-- calls that begin and end no trial
abbrev pub Plain : Call → Type 0
Plain (call.Open k) = Unit {0}
Plain (call.Tie a b w k) = Unit {0}
Plain (call.Untie a b) = Unit {0}
Plain (call.Trial a b w k) = ⊥
Plain (call.Commit n) = ⊥
Plain (call.RollBack n) = ⊥
Plain (call.Depth m) = Unit {0}
Plain (call.Path m k) = Unit {0}

module _ {M : Type 0} (μ : measure.Ghosts M) (m m' : Model) where
  plain_took : (c : Call) → Plain c → first_refusal μ m.standing c ≡ None → on_trial (took c m.standing).state ≡ on_trial m.standing.state
  plain_took (call.Open k) p e = new_not_out m.standing.state (not-false (is_new m.standing.state) (passed (not (is_new m.standing.state)) NotNew _ e).0)
  plain_took (call.Tie a b w k) p e = refl
  plain_took (call.Untie a b) p e = refl
  plain_took (call.Trial a b w k) p e = absurd p
  plain_took (call.Commit n) p e = absurd p
  plain_took (call.RollBack n) p e = absurd p
  plain_took (call.Depth k) p e = refl
  plain_took (call.Path k l) p e = refl

  same_by : (c : Call) (b : List ℕ) (a : Answer) (f : List ℕ) → Plain c → (o : Option Refusal) → first_refusal μ m.standing c ≡ o → Outcome μ o m c b a f m' → Same m m'
  same_by c b a f p (Some r) e x = same_model m m' x.2
  same_by c b a f p None e (inl x) = same_model m m' x.same
  same_by c b a f p None e (inr x) = record {
    number = ap (λ (s : Standing). s.number) x.standing ∙ number_kept c m.standing;
    trial = ap (λ (s : Standing). on_trial s.state) x.standing ∙ plain_took c p e;
  }

  pub holds_on : (c : Call) (b : List ℕ) (a : Answer) (f : List ℕ) (token : Option TrialToken) → Plain c → Answered μ m c b a f m' → Holds m token → Holds m' token
  holds_on c b a f token p x h = holds_same m m' token (same_by c b a f p (first_refusal μ m.standing c) refl x.outcome) h

  -- a refused call leaves all as it was
  refused_by : (c : Call) (b f : List ℕ) (why : Refusal) → ((x : Answer) → x ≡ Refused why → Outcome μ None m c b x f m' → Same m m') → (o : Option Refusal) → Outcome μ o m c b (Refused why) f m' → Same m m'
  refused_by c b f why last (Some r) x = same_model m m' x.2
  refused_by c b f why last None x = last (Refused why) refl x

  pub trial_refused : (a b : ℕ) (w : Amount) (k : ℕ) (before after : List ℕ) (why : Refusal) (token : Option TrialToken) → Answered μ m (call.Trial a b w k) before (Refused why) after m' → Holds m token → Holds m' token
  trial_refused a b w k before after why token x h = holds_same m m' token (refused_by (call.Trial a b w k) before after why last (first_refusal μ m.standing (call.Trial a b w k)) x.outcome) h
    where
      last : (r : Answer) → r ≡ Refused why → Outcome μ None m (call.Trial a b w k) before r after m' → Same m m'
      last r e (inl y) = same_model m m' y.same
      last r e (inr y) = let z = sym y.answered ∙ e in absurd (let q : ◌≡◌ {A = ℕ} 0 1 = cc in omega arith)

  pub trial_holds : (a b : ℕ) (w : Amount) (k i j : ℕ) (before after : List ℕ) (token : TrialToken) → Answered μ m (call.Trial a b w k) before (Changed i j) after m' → token.number ≡ m.standing.number
      → Holds m' (Some token)
  trial_holds a b w k i j before after token x own = by (first_refusal μ m.standing (call.Trial a b w k)) x.outcome
    where
      by : (o : Option Refusal) → Outcome μ o m (call.Trial a b w k) before (Changed i j) after m' → Holds m' (Some token)
      by (Some r) (e, _, _) = absurd (let q : ◌≡◌ {A = ℕ} 0 1 = cc in omega arith)
      by None (inl y) = let e = y.answered in absurd (let q : ◌≡◌ {A = ℕ} 0 1 = cc in omega arith)
      by None (inr y) = (ap (λ (s : Standing). on_trial s.state) y.standing, own ∙ sym (ap (λ (s : Standing). s.number) y.standing))
