-- One turn of the loop that relaxes the edges from a marker. Assumes nothing.
use Rattle.std.proofs.Common.{◌≡◌, ℕ, ◌+◌, ◌<◌, ◌≤◌, Bool, true, false, List, length, set, Some, None, Option, sym, ap, ◌∙◌, subst, true≢false, arith}
use mathlib.Core.Option as plain
use native.Mathlib.Decide.{ℕ_discrete}
use Rattle.measure.specs.declared.Amount.{Amount}
use Rattle.measure.specs.declared.Measure as measure
use Rattle.graph.specs.Graph.{Edge}
use Rattle.graph.specs.declared.Graph as graph
use Rattle.update.specs.declared.work.Work.{Work}
use Rattle.graph.specs.Weights.{valued, weights}
use Rattle.graph.proofs.Valued.{no_value, one_value}
use Rattle.table.specs.declared.row.Row.{Row}
use Rattle.table.specs.Climb.{deep, up as parents_of}
use Rattle.update.specs.Reading.{Deep, depth, flag}
use Rattle.update.specs.Relaxing.{Relaxing, Clashing}
use Rattle.update.proofs.Relaxes.{relax_skip, relax_take}
use Rattle.update.proofs.Rows.{deep_same, deep_other, up_same, up_other}

-- no edge leads from a marker to itself
pub not_loop : {C : Type 0} (f : Amount → C) (w : ℕ → ℕ → Option Amount) (a b : ℕ) (c : C) → w a a ≡ None → valued f (w a b) ≡ plain.some c → ¬ (a ≡ b)
not_loop f w a b c none e k = no_value f (w a a) c none (ap (λ z. valued f (w a z)) k ∙ e)

module _ {X Y : Type 0} (s : graph.Ghosts X) (m : measure.Ghosts Y) (x : X) (old : Work) (U : List Bool) (y : ℕ) where
  abbrev n : ℕ
  n = s.count x

  abbrev w : ℕ → ℕ → plain.Option m.group.carrier
  w = weights s m x

  -- the work as the turn for z begins
  abbrev pub Turn : Work → ℕ → Type 0
  Turn now z =
      Relaxing m.group (s.count x) (weights s m x) (flag old.done) (flag U) (depth m old.rows) (parents_of old.rows) y z (depth m now.rows) (parents_of now.rows)
      × (now.done ≡ old.done)
      × Deep m (s.count x) 256 now.rows
      × ((k : ℕ) → k ≤ 255 → m.within k (deep old.rows y) → Deep m (s.count x) (k + 1) old.rows → Deep m (s.count x) (k + 1) now.rows)

  module _ (now : Work) (z : ℕ) (turn : Turn now z) where
    pub turn_done : flag now.done z ≡ true → Turn now (z + 1)
    turn_done d = (
      relax_skip m.group n w (flag old.done) (flag U) (depth m old.rows) (parents_of old.rows) y z (depth m now.rows) (parents_of now.rows) turn.0
          (λ c f edge. absurd (true≢false (sym (sym (ap (λ b. flag b z) turn.1) ∙ d) ∙ f))),
      turn.1,
      turn.2,
      turn.3,
    )

    pub turn_none : s.weight x y z ≡ None → Turn now (z + 1)
    turn_none e = (
      relax_skip m.group n w (flag old.done) (flag U) (depth m old.rows) (parents_of old.rows) y z (depth m now.rows) (parents_of now.rows) turn.0
          (λ c f edge. absurd (no_value m.value (s.weight x y z) c e edge.2)),
      turn.1,
      turn.2,
      turn.3,
    )

    module _ (a sum : Amount) (edge : s.weight x y z ≡ Some a) (hy : y < s.count x) (hz : z < s.count x)
        (added : (i j : ℕ) → i + j ≤ 256 → m.within i (deep old.rows y) → m.within j a → m.within (i + j) sum × (m.value sum ≡ m.group.plus (m.value (deep old.rows y)) (m.value a)))
        (wide : m.within 255 (deep old.rows y)) (single : m.within 1 a) where
      is_sum : m.value sum ≡ m.group.plus (depth m old.rows y) (m.value a)
      is_sum = (added 255 1 (omega arith) wide single).1

      pub turn_above : m.group.le (m.value (deep now.rows z)) (m.value sum) → Turn now (z + 1)
      turn_above le = (
        relax_skip m.group n w (flag old.done) (flag U) (depth m old.rows) (parents_of old.rows) y z (depth m now.rows) (parents_of now.rows) turn.0
            (λ c f e. rw (one_value m.value (s.weight x y z) a c edge e.2, ← is_sum) le),
        turn.1,
        turn.2,
        turn.3,
      )

      module _ (free : flag now.done z ≡ false) (fell : ¬ m.group.le (m.value (deep now.rows z)) (m.value sum)) where
        free_old : flag old.done z ≡ false
        free_old = sym (ap (λ b. flag b z) turn.1) ∙ free

        an_edge : Edge m.group (s.count x) (weights s m x) y z (m.value a)
        an_edge = (hy, hz, ap (valued m.value) edge)

        pub turn_clash : flag U z ≡ true → Clashing m.group (s.count x) (weights s m x) (flag old.done) (flag U) (depth m old.rows) (parents_of old.rows) y z
        turn_clash up = record {
          unsettled = free_old;
          fixed = up;
          amount = m.value a;
          edge = an_edge;
          falls = λ h. fell (rw (is_sum, (turn.0.later z here).0) h);
        }
          where
            here : ¬ (z < z)
            here h = omega arith

        abbrev new : Row
        new = record { depth = sum; parent = y }

        pub turn_take : flag U z ≡ false → z < length now.rows → Turn (record { rows = set now.rows z (record { depth = sum; parent = y }); done = now.done }) (z + 1)
        turn_take up long = (
          relax_take m.group n w (flag old.done) (flag U) (depth m old.rows) (parents_of old.rows) y z (depth m now.rows) (parents_of now.rows) turn.0
              (depth m (set now.rows z new)) (parents_of (set now.rows z new)) (m.value a) an_edge free_old up
              (ap m.value (deep_same now.rows z new long) ∙ is_sum)
              (λ h. fell (subst (λ v. m.group.le (m.value (deep now.rows z)) (m.value v)) (deep_same now.rows z new long) h))
              (up_same now.rows z new long)
              (λ u ne. ap m.value (deep_other now.rows z u new ne))
              (λ u ne. up_other now.rows z u new ne),
          turn.1,
          (λ u h. sized 256 u (turn.2 u h) (added 255 1 (omega arith) wide single).0 (ℕ_discrete u z)),
          (λ k le wk all u h. sized (k + 1) u (turn.3 k le wk all u h) (added k 1 (omega arith) wk single).0 (ℕ_discrete u z)),
        )
          where
            sized : (k u : ℕ) → m.within k (deep now.rows u) → m.within k sum → Dec (u ≡ z) → m.within k (deep (set now.rows z new) u)
            sized k u was fresh (yes e) = subst (m.within k) (sym (ap (deep (set now.rows z new)) e ∙ deep_same now.rows z new long)) fresh
            sized k u was fresh (no ne) = subst (m.within k) (sym (deep_other now.rows z u new ne)) was
