-- Parents of rows in which every marker hangs from the datum. Assumes nothing.
use Rattle.std.proofs.Common.{◌≡◌, ℕ, zero, suc, ◌-◌, ◌<◌, set, replicate, refl, ap, ◌∙◌, arith}
use Rattle.graph.specs.Tree.{climb}
use Rattle.graph.proofs.Trees.{climb_datum}
use Rattle.measure.specs.declared.Amount.{Amount}
use Rattle.table.specs.Climb.{up}

up_replicate : (d : Amount) (k x : ℕ) → up (replicate k (record { depth = d; parent = 0 })) x ≡ 0
up_replicate d zero x = refl
up_replicate d (suc k) zero = refl
up_replicate d (suc k) (suc x) = up_replicate d k x

pub up_flat : (e d : Amount) (k x : ℕ) → up (set (replicate k (record { depth = d; parent = 0 })) 0 (record { depth = e; parent = 0 })) x ≡ 0
up_flat e d zero x = refl
up_flat e d (suc k) zero = refl
up_flat e d (suc k) (suc x) = up_replicate d k x

flat_steps : (f : ℕ → ℕ) → ((x : ℕ) → f x ≡ 0) → (k m : ℕ) → m < suc k → climb f k m ≡ 0
flat_steps f e zero m h = omega arith
flat_steps f e (suc k) m h = ap (climb f k) (e m) ∙ climb_datum f (e 0) k

pub flat_climbs : (f : ℕ → ℕ) → ((x : ℕ) → f x ≡ 0) → (n m : ℕ) → m < n → climb f (n - 1) m ≡ 0
flat_climbs f e n m h = flat_steps f e (n - 1) m (omega arith)
