-- The work before a weight rises. Assumes nothing.
use Rattle.std.proofs.Common.{◌≡◌, ℕ, suc, ◌+◌, ◌<◌, ◌≤◌, true, false, List, length, set, replicate, Some, sym, refl, ap, ◌∙◌, subst, inl, inr, ⊎_elim, arith, length-set}
use native.Mathlib.Decide.{ℕ_discrete}
use Rattle.measure.specs.declared.Amount.{Amount}
use Rattle.measure.specs.declared.Measure as measure
use Rattle.measure.proofs.Within.{wider_to}
use Rattle.graph.specs.Tree.{climb}
use Rattle.graph.specs.Weights.{valued, weights}
use Rattle.graph.specs.declared.Graph as graph
use Rattle.graph.proofs.Sums.{neutral_left}
use Rattle.graph.proofs.Trees.{climb_datum}
use Rattle.graph.proofs.Relabels.{not_both}
use Rattle.graph.proofs.Raises.{raised_fits}
use Rattle.table.specs.declared.row.Row.{Row}
use Rattle.table.specs.Climb.{deep, up as parents_of}
use Rattle.update.specs.declared.work.Work.{Work}
use Rattle.update.specs.Reading.{Deep, depth, flag}
use Rattle.update.specs.Restoring.{TightEdge}
use Rattle.update.proofs.Rows.{deep_same, deep_other, up_same, up_other, flag_same, flag_other, no_flag}
use Rattle.raise.specs.Raising.{Rises, Gathered}
use Rattle.raise.specs.Sparing.{Hit, Spared, Parted, Risen}

module _ {X : Type 0} (s : graph.Ghosts X) (x : X) (rows : List Row) (n b : ℕ) where
  -- the work as the turn for z begins
  pub record Parting (v : Work) (z : ℕ) : Type 0 where
    pub each : (u : ℕ) → u < z → Parted s x rows b v u
    pub rest : (u : ℕ) → z ≤ u → (deep v.rows u ≡ deep rows u) × (parents_of v.rows u ≡ parents_of rows u) × (flag v.done u ≡ false)
    pub tall : length v.rows ≡ length rows
    pub wide : length v.done ≡ 64

  pub part_start : Parting (record { rows = rows; done = replicate 64 false }) 0
  part_start = record {
    each = λ u h. absurd (none u h);
    rest = λ u h. (refl, refl, no_flag 64 u);
    tall = refl;
    wide = refl;
  }
    where
      none : (u : ℕ) → u < 0 → ⊥
      none u h = omega arith

  module _ (v : Work) (z : ℕ) (got : Parting v z) (small : z < 64) (low : z < length rows) where
    earlier : (u : ℕ) → u < z + 1 → ¬ (u ≡ z) → u < z
    earlier u l ne = omega (arith, λ (o : u ≡ z). ne o)

    later : (u : ℕ) → z + 1 ≤ u → ¬ (u ≡ z)
    later u l e = omega arith

    past : (u : ℕ) → z + 1 ≤ u → z ≤ u
    past u l = omega arith

    in_rows : z < length v.rows
    in_rows = let e = got.tall in omega arith

    in_done : z < length v.done
    in_done = let e = got.wide in omega arith

    abbrev from_datum : Amount → Row
    from_datum w = record { depth = w; parent = 0 }

    abbrev hung : Amount → Work
    hung w = record { rows = set v.rows z (record { depth = w; parent = 0 }); done = v.done }

    pub part_hit : (k : ℕ) × (climb (parents_of rows) k z ≡ b) → (w : Amount) → s.weight x 0 z ≡ Some w → Parting (record { rows = set v.rows z (record { depth = w; parent = 0 }); done = v.done }) (z + 1)
    part_hit passes w edge = record {
      each = λ u l. by u l (ℕ_discrete u z);
      rest = λ u l. let o = got.rest u (past u l) in (deep_other v.rows z u (from_datum w) (later u l) ∙ o.0, up_other v.rows z u (from_datum w) (later u l) ∙ o.1, o.2);
      tall = length-set v.rows z (from_datum w) ∙ got.tall;
      wide = got.wide;
    }
      where
        here : Hit s x rows b (hung w) z
        here = record { passes = passes; done = (got.rest z (omega arith)).2; depth = edge ∙ ap Some (sym (deep_same v.rows z (from_datum w) in_rows)); parent = up_same v.rows z (from_datum w) in_rows }

        was : (u : ℕ) → ¬ (u ≡ z) → Parted s x rows b v u → Parted s x rows b (hung w) u
        was u ne (inl o) = inl (record { passes = o.passes; done = o.done; depth = o.depth ∙ ap Some (sym (deep_other v.rows z u (from_datum w) ne)); parent = up_other v.rows z u (from_datum w) ne ∙ o.parent })
        was u ne (inr o) = inr (record { apart = o.apart; done = o.done; depth = deep_other v.rows z u (from_datum w) ne ∙ o.depth; parent = up_other v.rows z u (from_datum w) ne ∙ o.parent })

        by : (u : ℕ) → u < z + 1 → Dec (u ≡ z) → Parted s x rows b (hung w) u
        by u l (yes e) = subst (Parted s x rows b (hung w)) (sym e) (inl here)
        by u l (no ne) = was u ne (got.each u (earlier u l ne))

    abbrev finished : Work
    finished = record { rows = v.rows; done = set v.done z true }

    pub part_spared : ((k : ℕ) → climb (parents_of rows) k z ≡ b → ⊥) → Parting (record { rows = v.rows; done = set v.done z true }) (z + 1)
    part_spared apart = record {
      each = λ u l. by u l (ℕ_discrete u z);
      rest = λ u l. let o = got.rest u (past u l) in (o.0, o.1, flag_other v.done z u true (later u l) ∙ o.2);
      tall = got.tall;
      wide = length-set v.done z true ∙ got.wide;
    }
      where
        here : Spared s x rows b finished z
        here = let o = got.rest z (omega arith) in record { apart = apart; done = flag_same v.done z in_done; depth = o.0; parent = o.1 }

        was : (u : ℕ) → ¬ (u ≡ z) → Parted s x rows b v u → Parted s x rows b finished u
        was u ne (inl o) = inl (record { passes = o.passes; done = flag_other v.done z u true ne ∙ o.done; depth = o.depth; parent = o.parent })
        was u ne (inr o) = inr (record { apart = o.apart; done = flag_other v.done z u true ne ∙ o.done; depth = o.depth; parent = o.parent })

        by : (u : ℕ) → u < z + 1 → Dec (u ≡ z) → Parted s x rows b finished u
        by u l (yes e) = subst (Parted s x rows b finished) (sym e) (inr here)
        by u l (no ne) = was u ne (got.each u (earlier u l ne))

  -- a marker whose path passes b is not the datum
  pub passes_not_datum : (z : ℕ) → parents_of rows 0 ≡ 0 → 0 < b → (k : ℕ) × (climb (parents_of rows) k z ≡ b) → 0 < z
  passes_not_datum z root some (k, e) = by (ℕ_discrete z 0)
    where
      positive : ¬ (z ≡ 0) → 0 < z
      positive ne = omega (arith, λ (o : z ≡ 0). ne o)

      none : b ≡ 0 → ⊥
      none o = omega arith

      by : Dec (z ≡ 0) → 0 < z
      by (yes o) = absurd (none (sym e ∙ ap (climb (parents_of rows) k) o ∙ climb_datum (parents_of rows) root k))
      by (no ne) = positive ne

module _ {X Y : Type 0} (s : graph.Ghosts X) (m : measure.Ghosts Y) (x : X) (rows : List Row) (n b : ℕ) (v : Work) (each : (z : ℕ) → z < n → Parted s x rows b v z) where
  spared_of : (z : ℕ) → z < n → flag v.done z ≡ true → Spared s x rows b v z
  spared_of z h d = ⊎_elim (λ o. not_both (flag v.done z) d o.done) (λ o. o) (each z h)

  hit_of : (z : ℕ) → z < n → flag v.done z ≡ false → Hit s x rows b v z
  hit_of z h d = ⊎_elim (λ o. o) (λ o. not_both (flag v.done z) o.done d) (each z h)

  -- the depths of both kinds are small
  pub part_sizes : ((a b : ℕ) (w : Amount) → s.weight x a b ≡ Some w → m.within 1 w) → Deep m n 63 rows → Deep m n 64 v.rows
  part_sizes small depths z h = ⊎_elim (λ o. wider_to m.laws.wider 1 64 _ (omega arith) (small 0 z _ o.depth)) (λ o. subst (m.within 64) (sym o.depth) (wider_to m.laws.wider 63 64 _ (omega arith) (depths z h))) (each z h)

  pub part_kept : Deep m n 63 rows → (z : ℕ) → z < n → flag v.done z ≡ true → m.within 63 (deep v.rows z)
  part_kept depths z h d = subst (m.within 63) (sym (spared_of z h d).depth) (depths z h)

  module _ (some : 0 < b) (any : 0 < n) (risen : Risen m.group n (weights s m x) b (depth m rows) (parents_of rows)) where
    done_of : (z : ℕ) → z < n → ((k : ℕ) → climb (parents_of rows) k z ≡ b → ⊥) → flag v.done z ≡ true
    done_of z h apart = ⊎_elim (λ o. absurd (apart o.passes.0 o.passes.1)) (λ o. o.done) (each z h)

    datum_done : flag v.done 0 ≡ true
    datum_done = done_of 0 any (λ k e. none (sym e ∙ climb_datum (parents_of rows) risen.solved.tree.root k))
      where
        none : b ≡ 0 → ⊥
        none o = omega arith

    pub part_rises : Rises m.group n (weights s m x) (depth m rows) (parents_of rows) (flag v.done)
    part_rises = record {
      fits = raised_fits m.group n risen.was (weights s m x) (depth m rows) risen.raised risen.solved.fits;
      tree = risen.solved.tree;
      root = datum_done;
      up = λ z h d. done_of (parents_of rows z) (risen.solved.tree.inside z h) (λ k e. (spared_of z h d).apart (suc k) e);
      tight = λ z pos h d. tight z d h (risen.solved.tight z pos h);
    }
      where
        tight : (z : ℕ) → flag v.done z ≡ true → z < n → TightEdge m.group n risen.was (depth m rows) (parents_of rows z) z → TightEdge m.group n (weights s m x) (depth m rows) (parents_of rows z) z
        tight z d h (c, edge, e) = (c, (edge.0, edge.1, risen.other (parents_of rows z) z (λ k. (spared_of z h d).apart 0 k) ∙ edge.2), e)

    pub part_gathered : Gathered m.group n (weights s m x) (depth m rows) (parents_of rows) (flag v.done) 0 (depth m v.rows) (parents_of v.rows)
    part_gathered = record {
      stays = λ z h d. (ap m.value (spared_of z h d).depth, (spared_of z h d).parent);
      hangs = λ z h d. hangs z h (hit_of z h d);
      most = λ u y c h. absurd (none u h);
    }
      where
        none : (u : ℕ) → u < 0 → ⊥
        none u h = omega arith

        at_datum : depth m v.rows 0 ≡ m.group.neutral
        at_datum = ap m.value (spared_of 0 any datum_done).depth ∙ risen.solved.fits.datum

        hangs : (z : ℕ) → z < n → Hit s x rows b v z → (flag v.done (parents_of v.rows z) ≡ true) × TightEdge m.group n (weights s m x) (depth m v.rows) (parents_of v.rows z) z
        hangs z h o =
            subst (λ u. (flag v.done u ≡ true) × TightEdge m.group n (weights s m x) (depth m v.rows) u z) (sym o.parent)
            (datum_done, (depth m v.rows z, (any, h, ap (valued m.value) o.depth), sym (ap (λ u. m.group.plus u (depth m v.rows z)) at_datum ∙ neutral_left m.group (depth m v.rows z))))
