-- One marker more is settled: its flag, and the room that the labels need. Assumes nothing.
use Rattle.std.proofs.Common.{◌≡◌, ℕ, ◌+◌, ◌-◌, ◌<◌, ◌≤◌, Bool, List, subst, arith}
use Rattle.measure.specs.declared.Measure as measure
use Rattle.measure.proofs.Within.{wider_to}
use Rattle.table.specs.Climb.{deep}
use Rattle.update.specs.declared.work.Work.{Work}
use Rattle.update.specs.Reading.{Deep, flag}
use Rattle.update.specs.Lowering.{Room, settled}
use Rattle.update.proofs.Counts.{settled_at_most}

-- so fewer are left
pub fewer_left : (xs ys : List Bool) (n : ℕ) → settled (flag ys) n ≡ settled (flag xs) n + 1 → n - settled (flag ys) n < n - settled (flag xs) n
fewer_left xs ys n one = omega (arith, one, settled_at_most (flag ys) n)

module _ {M : Type 0} (m : measure.Ghosts M) (n : ℕ) (few : n ≤ 64) where
  pub room_to : (v : Work) → Room m n v → (k : ℕ) → 128 ≤ k → Deep m n k v.rows
  room_to v room k h z l =
      let t : settled (flag v.done) n ≤ n = settled_at_most (flag v.done) n in
      wider_to m.laws.wider (64 + settled (flag v.done) n) k _ (omega arith) (room z l)

  -- labels that may be larger by one
  pub room_next : (v w : Work) (y : ℕ) → Room m n v → y < n → settled (flag w.done) n ≡ settled (flag v.done) n + 1
      → ((k : ℕ) → k ≤ 255 → m.within k (deep v.rows y) → Deep m n (k + 1) v.rows → Deep m n (k + 1) w.rows) → Room m n w
  room_next v w y room inside one sizes z l =
      let k : ℕ = settled (flag v.done) n in
      let t : settled (flag v.done) n ≤ n = settled_at_most (flag v.done) n in
      let e : 64 + settled (flag v.done) n + 1 ≡ 64 + settled (flag w.done) n = omega (arith, one) in
      subst (λ j. m.within j (deep w.rows z)) e (sizes (64 + k) (omega arith) (room y inside) (λ u h. m.laws.wider _ _ (room u h)) z l)
