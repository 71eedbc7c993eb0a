-- The labels when a weight rises, and trees by rank. Assumes nothing.
use Rattle.std.proofs.Common.{◌≡◌, ℕ, zero, suc, ◌<◌, true, false, ◌⊎◌, refl, inl, inr, arith}
use Rattle.measure.specs.Group.{OrderedGroup}
use Rattle.graph.specs.Graph.{Edge}
use Rattle.graph.specs.Tree.{climb}
use Rattle.graph.proofs.Raise.{RaisedFits, RaiseStarts, RaiseEnds, Ranked}
use Rattle.graph.proofs.Sums.{lowered_le, ahead_first}
use Rattle.graph.proofs.Trees.{short_climbs}
use Rattle.graph.proofs.Relabels.{which}

pub raised_fits : (g : OrderedGroup) → RaisedFits g
raised_fits g n w w' d up f = record { datum = f.datum; keeps = keeps }
  where
    keeps : (x y : ℕ) (c : g.carrier) → Edge g n w' x y c → g.le (d y) (g.plus (d x) c)
    keeps x y c edge = let old = up x y c edge in lowered_le g (d y) (d x) old.0 c (f.keeps x y old.0 old.1) old.2

pub raise_starts : (g : OrderedGroup) → RaiseStarts g
raise_starts g n w d X L f start = record { done = λ x y c s edge. done x y c s edge (which (X y)); ahead = ahead }
  where
    done : (x y : ℕ) (c : g.carrier) → X x ≡ true → Edge g n w x y c → (X y ≡ true) ⊎ (X y ≡ false) → g.le (L y) (g.plus (L x) c)
    done x y c s edge (inl t) = rw (start.kept y edge.1 t, start.kept x edge.0 s) (f.keeps x y c edge)
    done x y c s edge (inr t) = rw (start.kept x edge.0 s) (start.most x y c s t edge)

    ahead : (x y : ℕ) → x < n → y < n → X x ≡ true → X y ≡ false → g.le (g.plus (L x) (d y)) (g.plus (L y) (d x))
    ahead x y hx hy s t =
        let u = start.comes y hy t in
        ahead_first g (L x) (d x) (L y) (d y) (d u.0) u.1 (start.kept x hx s) u.4 (f.keeps u.0 y u.1 u.3)

pub raise_ends : (g : OrderedGroup) → RaiseEnds g
raise_ends g n w d X L inv all o = record { datum = o; keeps = λ x y c edge. inv.done x y c (all x edge.0) edge }

module _ (n : ℕ) (p rank : ℕ → ℕ) (inside : (m : ℕ) → m < n → p m < n) (falls : (m : ℕ) → 0 < m → m < n → rank (p m) < rank m) where
  reach : (k m : ℕ) → m < n → rank m < k → (j : ℕ) × (climb p j m ≡ 0)
  reach zero m h l = absurd (omega arith)
  reach (suc k) zero h l = (0, refl)
  reach (suc k) (suc m) h l = up (reach k (p (suc m)) (inside (suc m) h) (lower (rank (p (suc m))) (rank (suc m)) (falls (suc m) (omega arith) h) l))
    where
      lower : (a b : ℕ) → a < b → b < suc k → a < k
      lower a b i j = omega arith

      up : (j : ℕ) × (climb p j (p (suc m)) ≡ 0) → (j : ℕ) × (climb p j (suc m) ≡ 0)
      up (j, e) = (suc j, e)

pub ranked : Ranked
ranked n p rank root inside falls = short_climbs n p root inside (λ m h. reach n p rank inside falls (suc (rank m)) m h (omega arith))
