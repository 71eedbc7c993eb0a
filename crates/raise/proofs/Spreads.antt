-- The turns of the loops that settle all markers. Assumes nothing.
use Rattle.std.proofs.Common.{◌≡◌, ℕ, ◌+◌, ◌<◌, ◌≤◌, Bool, true, false, Ok, Err, Result, sym, ◌∙◌, subst, true≢false, arith}
use Rattle.measure.specs.declared.Measure as measure
use Rattle.measure.specs.Group.{OrderedGroup}
use Rattle.measure.proofs.Within.{wider_to}
use Rattle.graph.specs.declared.Graph as graph
use Rattle.graph.specs.Graph.{Weight}
use Rattle.graph.specs.Theorems.{Solved}
use Rattle.graph.specs.Weights.{weights}
use Rattle.graph.proofs.Relabel.{Picked}
use Rattle.graph.specs.Settling.{Settles}
use Rattle.table.specs.Climb.{deep, up as parents_of}
use Rattle.update.specs.declared.work.Work.{Work}
use Rattle.update.specs.Tabled.{Tabled}
use Rattle.update.specs.Reading.{depth, flag}
use Rattle.update.specs.Relaxing.{Relaxing, Relaxation}
use Rattle.raise.specs.Raising.{Begun, Rises, Gathered}
use Rattle.raise.proofs.Raises.{unmoved_done, gather_step, gather_skip, spread_start, spread_step, spread_end}

-- where none is fixed, all edges are relaxed
pub whole : {g : OrderedGroup} {n : ℕ} {w : Weight g} {X U : ℕ → Bool} {L : ℕ → g.carrier} {q : ℕ → ℕ} {y : ℕ} {L' : ℕ → g.carrier} {q' : ℕ → ℕ} (r : Result (Unit {0}) ℕ)
    → ((z : ℕ) → U z ≡ false) → Relaxation g n w X U L q y L' q' r → Relaxing g n w X U L q y n L' q'
whole (Ok _) free rel = rel
whole (Err z) free (rel, clash) = absurd (true≢false (sym clash.fixed ∙ free z))

module _ {G M : Type 0} (s : graph.Ghosts G) (m : measure.Ghosts M) (u : Tabled G) where
  abbrev n : ℕ
  n = u.table.n

  abbrev w : Weight m.group
  w = weights s m u.graph

  abbrev d : ℕ → m.group.carrier
  d = depth m u.table.rows

  abbrev p : ℕ → ℕ
  p = parents_of u.table.rows

  abbrev pub Spreads : Work → Type 0
  Spreads v = Begun m.group u.table.n (weights s m u.graph) (depth m u.table.rows) (parents_of u.table.rows) (flag v.done) (depth m v.rows) (parents_of v.rows)

  abbrev pub Gathers : (ℕ → Bool) → Work → ℕ → Type 0
  Gathers K v i = Gathered m.group u.table.n (weights s m u.graph) (depth m u.table.rows) (parents_of u.table.rows) K i (depth m v.rows) (parents_of v.rows)

  module _ (now : Work) (spreads : Spreads now) where
    pub spread_all : ((z : ℕ) → z < u.table.n → flag now.done z ≡ true) → Solved m.group u.table.n (weights s m u.graph) (depth m now.rows) (parents_of now.rows)
    spread_all all = spread_end m.group n w d p spreads.0 spreads.1 (flag now.done) (depth m now.rows) (parents_of now.rows) spreads.2 all u.table.some

    pub spreads_next : (next : Work) (y : ℕ) (U : ℕ → Bool) → ((z : ℕ) → U z ≡ false) → Picked m.group u.table.n (depth m u.table.rows) (flag now.done) (depth m now.rows) y
        → Settles (flag now.done) y (flag next.done) → (r : Result (Unit {0}) ℕ)
        → Relaxation m.group u.table.n (weights s m u.graph) (flag next.done) U (depth m now.rows) (parents_of now.rows) y (depth m next.rows) (parents_of next.rows) r → Spreads next
    spreads_next next y U free pick sets r rel = (
      spreads.0,
      spreads.1,
      spread_step m.group n w d p spreads.0 spreads.1 U (flag now.done) (flag next.done) (depth m now.rows) (depth m next.rows) (parents_of now.rows) (parents_of next.rows) y spreads.2 pick sets (whole r free rel),
    )

  module _ (K : ℕ → Bool) (rises : Rises m.group u.table.n (weights s m u.graph) (depth m u.table.rows) (parents_of u.table.rows) K) (now : Work) where
    -- once the edges from all markers were relaxed
    pub gathers_all : (i : ℕ) → u.table.n ≤ i → Gathers K now i → flag now.done ≡ K → Spreads now
    gathers_all i le got done = (
      K,
      rises,
      rw done (spread_start m.group n w d p K rises (depth m now.rows) (parents_of now.rows) record { stays = got.stays; hangs = got.hangs; most = λ a b c l. got.most a b c (omega arith) }),
    )

    module _ (y : ℕ) (gathers : Gathers K now y) where
      pub gathers_next : (next : Work) (U : ℕ → Bool) → ((z : ℕ) → U z ≡ false) → K y ≡ true → (r : Result (Unit {0}) ℕ)
          → Relaxation m.group u.table.n (weights s m u.graph) K U (depth m now.rows) (parents_of now.rows) y (depth m next.rows) (parents_of next.rows) r → Gathers K next (y + 1)
      gathers_next next U free dy r rel =
          gather_step m.group n w d p K rises U (depth m now.rows) (depth m next.rows) (parents_of now.rows) (parents_of next.rows) y gathers dy (whole r free rel)

      pub gathers_skip : K y ≡ false → Gathers K now (y + 1)
      gathers_skip dy = gather_skip m.group n w d p K rises (depth m now.rows) (parents_of now.rows) y gathers dy

  -- the depth of a marker that is done is as it was, and so as small
  pub kept_small : (now next : Work) (y : ℕ) (U : ℕ → Bool) → ((z : ℕ) → U z ≡ false) → (r : Result (Unit {0}) ℕ)
      → Relaxation m.group u.table.n (weights s m u.graph) (flag now.done) U (depth m now.rows) (parents_of now.rows) y (depth m next.rows) (parents_of next.rows) r
      → (z : ℕ) → flag now.done z ≡ true → m.within 63 (deep now.rows z) → m.within 64 (deep next.rows z) → m.within 63 (deep next.rows z)
  kept_small now next y U free r rel z dz small new =
      subst (m.within 63)
      (m.laws.faithful (deep now.rows z) (deep next.rows z) (wider_to m.laws.wider 63 256 _ (omega arith) small) (wider_to m.laws.wider 64 256 _ (omega arith) new)
      (sym (unmoved_done m.group n w U (flag now.done) (depth m now.rows) (depth m next.rows) (parents_of now.rows) (parents_of next.rows) y n (whole r free rel) z dz).0))
      small
