-- A tie or an untying, from its checks to its answer. Assumes nothing.
use Rattle.std.proofs.Common.{◌≡◌, ℕ, zero, suc, ◌+◌, ◌≤◌, Bool, true, false, cond, not, ◌&&◌, ◌||◌, eqb, ltb, List, [], ◌∷◌, length, is_some, Some, None, Ok, Option, Result, sym, refl, ap, ◌∙◌, subst, true≢false}
use Rattle.std.proofs.lemmas.Bool.{and_from, cond-false, cond-true, eq-eqb, ltb-false}
use Rattle.measure.specs.declared.Amount.{Amount}
use Rattle.measure.specs.declared.Measure.{Ghosts as MeasureGhosts}
use Rattle.measure.specs.Group.{OrderedGroup}
use Rattle.store.specs.declared.Refusal.{Refusal as StoreRefusal}
use Rattle.store.specs.declared.TieStore.{Ghosts as StoreGhosts}
use Rattle.store.specs.Meaning.{set_tie, StoreMeaning}
use Rattle.graph.specs.Graph.{Cycle, Fits, Weight}
use Rattle.graph.specs.Tree.{way}
use Rattle.graph.proofs.Raises.{raised_fits}
use Rattle.graph.proofs.Walks.{negative_cycle_refutes}
use Rattle.table.specs.Climb.{deep, FirstClimb}
use Rattle.table.proofs.Ways.{length_down}
use Rattle.update.specs.Lowering.{NegativeCycle}
use Rattle.update.proofs.Cycles.{cycle_first}
use Rattle.law.specs.Calls.{answer_of, Answered, buffer_after, changes_after, EndsWith, Kind, kind, Model, moved, over_front, reparented, Table}
use Rattle.law.specs.Refusals.{first, first_refusal, is_new, on_trial, pair_checks, when}
use Rattle.law.specs.Standing.{bounds_of}
use Rattle.law.specs.declared.call.Answer.TheVariants as answer
use Rattle.law.specs.declared.call.Call.TheVariants as call
use Rattle.law.specs.declared.call.Refusal.{Refusal}
use Rattle.law.specs.declared.call.Refusal.TheVariants.{BadAmount, ClosedMarker, Contradiction, NotOpen, PairEmpty, SameMarker, ShortBuffer, StoreFull, TrialOut, UnknownMarker}
use Rattle.law.specs.declared.call.State.{State}
use Rattle.law.specs.declared.call.Counts.{Counts}
use Rattle.law.specs.declared.call.State.TheVariants as state
use Rattle.law.proofs.Answers.{contradicted, ends_with_last, skips}
use Rattle.bounds.proofs.Limits.{cleared_raised}
use Rattle.solver.specs.Held.{Held}
use Rattle.solver.specs.Changing.{pair_refusal, untie_refusal}
use Rattle.solver.specs.Model.{model}
use Rattle.solver.specs.Suits.{TableSuits}
use Rattle.solver.specs.Writing.{changed_meaning, set_answer}
use Rattle.solver.specs.Settling.{Settled}
use Rattle.law.specs.Calls.Kind.{change}
use Rattle.law.specs.declared.call.Call.{Call}
use Rattle.law.proofs.Answers.{accepted}
use Rattle.law.specs.Standing.{put, Standing, took}
use Rattle.solver.proofs.Openings.{passed}

-- the checks of a tie that come after those of the state
abbrev pub tie_refusal : {M : Type 0} → MeasureGhosts M → StoreMeaning → ℕ → ℕ → Amount → ℕ → Option Refusal
tie_refusal μ m a b w room =
    pair_refusal m a b
    (when (not (μ.admits w)) BadAmount
    ∷ when (ltb room m.count) ShortBuffer
    ∷ when (not (is_some (m.tie a b)) && eqb m.free 0) StoreFull
    ∷ [])

pub not-false : (b : Bool) → not b ≡ false → b ≡ true
not-false true e = refl
not-false false e = absurd (true≢false e)

-- what the checks of a pair leave
module _ (m : StoreMeaning) (a b : ℕ) (rest : List (Option Refusal)) (none : pair_refusal m a b rest ≡ None) where
  first_passed : ((not (ltb a m.count && ltb b m.count)) ≡ false) × (first (when (eqb a b) SameMarker ∷ when (m.closed a || m.closed b) ClosedMarker ∷ rest) ≡ None)
  first_passed = passed (not (ltb a m.count && ltb b m.count)) UnknownMarker (when (eqb a b) SameMarker ∷ when (m.closed a || m.closed b) ClosedMarker ∷ rest) none

  second_passed : (eqb a b ≡ false) × (first (when (m.closed a || m.closed b) ClosedMarker ∷ rest) ≡ None)
  second_passed = passed (eqb a b) SameMarker (when (m.closed a || m.closed b) ClosedMarker ∷ rest) first_passed.1

  third_passed : ((m.closed a || m.closed b) ≡ false) × (first rest ≡ None)
  third_passed = passed (m.closed a || m.closed b) ClosedMarker rest second_passed.1

  known : (ltb a m.count && ltb b m.count) ≡ true
  known = not-false (ltb a m.count && ltb b m.count) first_passed.0

  pub rest_none : first rest ≡ None
  rest_none = third_passed.1

  -- a store then says what comes after its own checks of the pair
  pub store_passes : (r : Result Unit StoreRefusal) (p q u : Result Unit StoreRefusal)
      → cond (ltb a m.count && ltb b m.count) (cond (eqb a b) p (cond (m.closed a || m.closed b) q r)) u ≡ r
  store_passes r p q u =
      cond-true (ltb a m.count && ltb b m.count) _ u known
      ∙ cond-false (eqb a b) p _ second_passed.0
      ∙ cond-false (m.closed a || m.closed b) q r third_passed.0

module _ {M : Type 0} (μ : MeasureGhosts M) (m : StoreMeaning) (a b : ℕ) (w : Amount) (room : ℕ) (none : tie_refusal μ m a b w room ≡ None) where
  after_pair : first (when (not (μ.admits w)) BadAmount ∷ when (ltb room m.count) ShortBuffer ∷ when (not (is_some (m.tie a b)) && eqb m.free 0) StoreFull ∷ []) ≡ None
  after_pair = rest_none m a b (when (not (μ.admits w)) BadAmount ∷ when (ltb room m.count) ShortBuffer ∷ when (not (is_some (m.tie a b)) && eqb m.free 0) StoreFull ∷ []) none

  amount_passed : (not (μ.admits w) ≡ false) × (first (when (ltb room m.count) ShortBuffer ∷ when (not (is_some (m.tie a b)) && eqb m.free 0) StoreFull ∷ []) ≡ None)
  amount_passed = passed (not (μ.admits w)) BadAmount (when (ltb room m.count) ShortBuffer ∷ when (not (is_some (m.tie a b)) && eqb m.free 0) StoreFull ∷ []) after_pair

  room_passed : (ltb room m.count ≡ false) × (first (when (not (is_some (m.tie a b)) && eqb m.free 0) StoreFull ∷ []) ≡ None)
  room_passed = passed (ltb room m.count) ShortBuffer (when (not (is_some (m.tie a b)) && eqb m.free 0) StoreFull ∷ []) amount_passed.1

  pub tie_room : m.count ≤ room
  tie_room = ltb-false room m.count room_passed.0

  has_place : (not (is_some (m.tie a b)) && eqb m.free 0) ≡ false
  has_place = (passed (not (is_some (m.tie a b)) && eqb m.free 0) StoreFull [] room_passed.1).0

  place_by : (p q : Bool) (u : Result Unit StoreRefusal) → (not p && q) ≡ false → cond p (Ok tt) (cond q u (Ok tt)) ≡ Ok tt
  place_by true q u e = refl
  place_by false true u e = absurd (true≢false e)
  place_by false false u e = refl

  -- the store takes the tie
  pub tie_taken : set_answer m a b (Some w) ≡ Ok tt
  tie_taken =
      store_passes m a b (when (not (μ.admits w)) BadAmount ∷ when (ltb room m.count) ShortBuffer ∷ when (not (is_some (m.tie a b)) && eqb m.free 0) StoreFull ∷ []) none _ _ _ _
      ∙ place_by (is_some (m.tie a b)) (eqb m.free 0) _ has_place

module _ (m : StoreMeaning) (a b : ℕ) (none : untie_refusal m a b ≡ None) where
  tied : is_some (m.tie a b) ≡ true
  tied = not-false (is_some (m.tie a b)) (passed (not (is_some (m.tie a b))) PairEmpty [] (rest_none m a b (when (not (is_some (m.tie a b))) PairEmpty ∷ []) none)).0

  -- the store clears the tie, and takes another amount in its place
  pub set_taken : (o : Option Amount) → set_answer m a b o ≡ Ok tt
  set_taken None = store_passes m a b (when (not (is_some (m.tie a b))) PairEmpty ∷ []) none _ _ _ _ ∙ cond-true (is_some (m.tie a b)) _ _ tied
  set_taken (Some w) = store_passes m a b (when (not (is_some (m.tie a b))) PairEmpty ∷ []) none _ _ _ _ ∙ cond-true (is_some (m.tie a b)) _ _ tied

-- a change that has settled is what an accepted call asks for
pub settled_answered : {M : Type 0} (μ : MeasureGhosts M) (m m' : Model) (a b : ℕ) (o : Option Amount) (r : Counts) → Settled μ m a b o r m'
    → (c : Call) (before : List ℕ) → first_refusal μ m.standing c ≡ None → kind c ≡ change → took c m.standing ≡ put m.standing a b o state.Open
    → answer_of μ c m m' ≡ answer.Changed (moved μ m m') (reparented μ m m') → buffer_after c m before ≡ before
    → Answered μ m c before (answer.Changed r.moved r.reparented) before m'
settled_answered μ m m' a b o r h c before none is-change takes answers keeps-buffer = accepted μ m c before _ before m' none
    (record {
      standing = h.standing ∙ sym takes;
      table = subst (λ (k : Kind). Table μ k m m') (sym is-change) h.table;
      changes = h.changes ∙ ap (λ (k : Kind). changes_after k m.changes) (sym is-change);
      answered = ap (λ (p : Counts). answer.Changed p.moved p.reparented) h.counted ∙ sym answers;
      buffer = sym keeps-buffer;
    })

ends_so : (g : OrderedGroup) (n : ℕ) (w : Weight g) (q : ℕ → ℕ) (a b k : ℕ) (s : g.carrier) → Cycle g n w (b ∷ way q k a) s → EndsWith a (b ∷ way q k a)
ends_so g n w q a b zero s cycle = absurd cycle
ends_so g n w q a b (suc k) s cycle = ends_with_last (b ∷ way q k (q a)) a

is_open : (x : State) → is_new x ≡ false → on_trial x ≡ false → x ≡ state.Open
is_open state.New n t = absurd (true≢false n)
is_open state.Open n t = refl
is_open (state.OnTrial a b w) n t = absurd (true≢false t)

-- what the checks of a pair leave: an open solver, and the pair's own checks
module _ {M : Type 0} (μ : MeasureGhosts M) (s : Standing) (a b : ℕ) (rest : List (Option Refusal)) (none : first (pair_checks μ s a b rest) ≡ None) where
  new_passed : (is_new s.state ≡ false) × (first (when (on_trial s.state) TrialOut ∷ when (not (ltb a s.count && ltb b s.count)) UnknownMarker ∷ when (eqb a b) SameMarker ∷ when (s.closed a || s.closed b) ClosedMarker ∷ rest) ≡ None)
  new_passed = passed (is_new s.state) NotOpen _ none

  pub pair_open : s.state ≡ state.Open
  pair_open = is_open s.state new_passed.0 (passed (on_trial s.state) TrialOut _ new_passed.1).0

  pub pair_passed : first (when (not (ltb a s.count && ltb b s.count)) UnknownMarker ∷ when (eqb a b) SameMarker ∷ when (s.closed a || s.closed b) ClosedMarker ∷ rest) ≡ None
  pair_passed = (passed (on_trial s.state) TrialOut _ new_passed.1).1

module _ {S M : Type 0} (st : StoreGhosts S) (μ : MeasureGhosts M) (s : Held S) (a b : ℕ) where
  pub tie_contradicted : (w : Amount) (before after : List ℕ) (size : ℕ) (q : ℕ → ℕ) → first_refusal μ (model st s).standing (call.Tie a b w (length before)) ≡ None
      → NegativeCycle μ.group (st.meaning s.store).count (bounds_of μ s.total (set_tie (st.meaning s.store).tie a b (Some w))) q a b
      → ((i : ℕ) → FirstClimb q i a b → size ≡ i + 1) → ((i : ℕ) → FirstClimb q i a b → after ≡ over_front (b ∷ way q i a) before)
      → Answered μ (model st s) (call.Tie a b w (length before)) before (answer.Refused (Contradiction size)) after (model st s)
  tie_contradicted w before after size q none c counted written =
      contradicted μ (model st s) (call.Tie a b w (length before)) before (answer.Refused (Contradiction size)) after (model st s) none
      (record {
        markers = b ∷ way q c.up a;
        sum = c.sum;
        cycle = c.cycle;
        below = c.negative;
        closes = (refl, ends_so μ.group (st.meaning s.store).count (bounds_of μ s.total (set_tie (st.meaning s.store).tie a b (Some w))) q a b c.up c.sum c.cycle);
        answered = ap (λ (i : ℕ). answer.Refused (Contradiction i))
            (counted c.up first_climb ∙ sym (subst (λ (u : ℕ). length (u ∷ way q c.up a) ≡ c.up + 1) c.first (length_down q c.up a)));
        buffer = written c.up first_climb;
        same = refl;
      })
    where
      first_climb : FirstClimb q c.up a b
      first_climb = cycle_first μ.group _ _ q a b c

  -- an untying never contradicts
  pub untie_fits : TableSuits μ s.total (st.meaning s.store).count (st.meaning s.store).tie s.table → (q : ℕ → ℕ) → NegativeCycle μ.group (st.meaning s.store).count (bounds_of μ s.total (set_tie (st.meaning s.store).tie a b None)) q a b → ⊥
  untie_fits old q c =
      let t = (st.meaning s.store).tie in
      let n = (st.meaning s.store).count in
      let fits = subst (λ (i : ℕ). Fits μ.group i (bounds_of μ s.total t) (λ z. μ.value (deep s.table.rows z))) old.same old.solved.fits in
      negative_cycle_refutes μ.group n (bounds_of μ s.total (set_tie t a b None)) (b ∷ way q c.up a) c.sum c.cycle c.negative (λ z. μ.value (deep s.table.rows z))
      (raised_fits μ.group n (bounds_of μ s.total t) (bounds_of μ s.total (set_tie t a b None)) (λ z. μ.value (deep s.table.rows z)) (cleared_raised μ s.total t a b n) fits)

-- a pair that was tied can be cleared
module _ {M : Type 0} (μ : MeasureGhosts M) (m : StoreMeaning) (a b : ℕ) (w : Amount) (room : ℕ) (none : tie_refusal μ m a b w room ≡ None) where
  abbrev others : List (Option Refusal)
  others = when (not (μ.admits w)) BadAmount ∷ when (ltb room m.count) ShortBuffer ∷ when (not (is_some (m.tie a b)) && eqb m.free 0) StoreFull ∷ []

  abbrev empty : StoreMeaning → Option Refusal
  empty m' = when (not (is_some (m'.tie a b))) PairEmpty

  tied_now : set_tie m.tie a b (Some w) a b ≡ Some w
  tied_now = cond-true (eqb a a && eqb b b) (Some w) (m.tie a b) (and_from (eqb a a) (eqb b b) (eq-eqb a a refl) (eq-eqb b b refl))

  pub tie_stands : untie_refusal (changed_meaning m a b (Some w)) a b ≡ None
  tie_stands =
      skips (not (ltb a m.count && ltb b m.count)) UnknownMarker (when (eqb a b) SameMarker ∷ when (m.closed a || m.closed b) ClosedMarker ∷ empty (changed_meaning m a b (Some w)) ∷ [])
      (first_passed m a b others none).0
      ∙ skips (eqb a b) SameMarker (when (m.closed a || m.closed b) ClosedMarker ∷ empty (changed_meaning m a b (Some w)) ∷ []) (second_passed m a b others none).0
      ∙ skips (m.closed a || m.closed b) ClosedMarker (empty (changed_meaning m a b (Some w)) ∷ []) (third_passed m a b others none).0
      ∙ skips (not (is_some (set_tie m.tie a b (Some w) a b))) PairEmpty [] (ap (λ (o : Option Amount). not (is_some o)) tied_now)
