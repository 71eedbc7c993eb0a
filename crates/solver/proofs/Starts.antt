-- The table without ties. Assumes nothing.
use Rattle.std.proofs.Common.{◌≡◌, ℕ, ◌+◌, ◌*◌, ◌<◌, Bool, true, false, cond, eqb, ltb, ◌⊎◌, List, get_or, set, replicate, Some, None, sym, refl, ap, ◌∙◌, subst, inl, inr, ⊎_elim, arith}
use Rattle.std.proofs.lemmas.Bool.{cases_eq, cond-false, eqb-false, eqb-true, le-ltb, ne_eqb}
use Rattle.std.proofs.lemmas.List.{get_or-replicate, get_or-set_other}
use Rattle.measure.specs.declared.Amount.{Amount}
use Rattle.measure.specs.declared.Measure.{Ghosts as MeasureGhosts}
use Rattle.measure.specs.Group.{Lt}
use Rattle.measure.proofs.Within.{wider_to}
use Rattle.graph.specs.Graph.{Edge}
use Rattle.graph.specs.Weights.{valued}
use Rattle.graph.proofs.Sums.{neutral_left}
use Rattle.graph.proofs.Valued.{amount_of}
use Rattle.table.specs.Climb.{deep, no_row, up}
use Rattle.table.specs.declared.row.Row.{Row}
use Rattle.table.specs.declared.table.DepthTable.{DepthTable}
use Rattle.law.specs.Standing.{bound_at, bounds_of, Ties}
use Rattle.bounds.specs.Scopes.{in_scope}
use Rattle.bounds.specs.declared.scope.Scope.TheVariants.{First}
use Rattle.bounds.proofs.Limits.{no_some, same_some}
use Rattle.solver.specs.Suits.{TableSuits}

-- which bound there is where there are no ties
no_ties : (r p q : Bool) (nought total w : Amount) → cond r None (cond p (Some nought) (cond q (Some total) None)) ≡ Some w
    → ((r ≡ false) × (p ≡ true) × (nought ≡ w)) ⊎ ((p ≡ false) × (q ≡ true) × (total ≡ w))
no_ties true p q nought total w e = absurd (no_some w e)
no_ties false true q nought total w e = inl (refl, refl, same_some nought w e)
no_ties false false true nought total w e = inr (refl, refl, same_some total w e)
no_ties false false false nought total w e = absurd (no_some w e)

module _ {M : Type 0} (μ : MeasureGhosts M) (total : Amount) (t : Ties) (table : DepthTable)
    (small : μ.within 1 total) (deepest : Lt μ.group μ.group.neutral (μ.value total))
    (rows : table.rows ≡ set (replicate 64 (record { depth = total; parent = 0 })) 0 (record { depth = μ.zero; parent = 0 })) where
  d : ℕ → μ.group.carrier
  d z = μ.value (deep table.rows z)

  flat : List Row
  flat = replicate 64 (record { depth = total; parent = 0 })

  none_at : (x y : ℕ) → in_scope t (First 0) x y ≡ None
  none_at x y = cond-false (ltb (x * 64 + y) 0) (t x y) None (le-ltb _ 0 (omega arith))

  pub row_datum : get_or table.rows 0 no_row ≡ record { depth = μ.zero; parent = 0 }
  row_datum = ap (λ (rs : List Row). get_or rs 0 no_row) rows

  row_other : (z : ℕ) → 0 < z → z < table.n → get_or table.rows z no_row ≡ record { depth = total; parent = 0 }
  row_other z pos h =
      let few = table.few in
      ap (λ (rs : List Row). get_or rs z no_row) rows
      ∙ get_or-set_other (replicate 64 (record { depth = total; parent = 0 })) 0 z (record { depth = μ.zero; parent = 0 }) no_row (λ e. omega arith)
      ∙ get_or-replicate 64 z (record { depth = total; parent = 0 }) no_row (omega arith)

  at_datum : (z : ℕ) → z ≡ 0 → μ.value (deep table.rows z) ≡ μ.group.neutral
  at_datum z e = ap (λ (i : ℕ). μ.value (deep table.rows i)) e ∙ ap (λ (r : Row). μ.value r.depth) row_datum ∙ μ.laws.zero_neutral

  at_other : (z : ℕ) → 0 < z → z < table.n → μ.value (deep table.rows z) ≡ μ.value total
  at_other z pos h = ap (λ (r : Row). μ.value r.depth) (row_other z pos h)

  parent_other : (z : ℕ) → 0 < z → z < table.n → up table.rows z ≡ 0
  parent_other z pos h = ap (λ (r : Row). r.parent) (row_other z pos h)

  positive : (z : ℕ) → ¬ (z ≡ 0) → 0 < z
  positive z ne = omega (arith, λ (i : z ≡ 0). ne i)

  not_above : μ.group.le μ.group.neutral (μ.value total)
  not_above = ⊎_elim (λ h. absurd (deepest h)) (λ h. h.0) (μ.group.le_total (μ.value total) μ.group.neutral)

  keeps : (a b : ℕ) (c : μ.group.carrier) → Edge μ.group table.n (bounds_of μ total (in_scope t (First 0))) a b c
      → μ.group.le (μ.value (deep table.rows b)) (μ.group.plus (μ.value (deep table.rows a)) c)
  keeps a b c (ha, hb, e) =
      let x = amount_of μ.value (bound_at μ total a b (in_scope t (First 0) a b)) c e in
      subst (λ (v : μ.group.carrier). μ.group.le (μ.value (deep table.rows b)) (μ.group.plus (μ.value (deep table.rows a)) v)) x.2
      (by x.0 (no_ties (eqb a b) (eqb b 0) (eqb a 0) μ.zero total x.0 (ap (bound_at μ total a b) (sym (none_at a b)) ∙ x.1)))
    where
      by : (w : Amount) → ((eqb a b ≡ false) × (eqb b 0 ≡ true) × (μ.zero ≡ w)) ⊎ ((eqb b 0 ≡ false) × (eqb a 0 ≡ true) × (total ≡ w))
          → μ.group.le (μ.value (deep table.rows b)) (μ.group.plus (μ.value (deep table.rows a)) (μ.value w))
      by w (inl (r, p, e)) =
          let zb = eqb-true b 0 p in
          let ne = eqb-false a b r in
          let eb = at_datum b zb in
          let ea = at_other a (positive a (λ i. ne (i ∙ sym zb))) ha in
          let ew = ap μ.value (sym e) ∙ μ.laws.zero_neutral in
          rw (eb, ea, ew, μ.group.plus_neutral (μ.value total)) not_above
      by w (inr (p, q, e)) =
          let eb = at_other b (positive b (eqb-false b 0 p)) hb in
          let ea = at_datum a (eqb-true a 0 q) in
          let ew = ap μ.value (sym e) in
          rw (eb, ea, ew, neutral_left μ.group (μ.value total)) (μ.group.le_refl (μ.value total))

  bound_datum : (z : ℕ) → 0 < z → bound_at μ total 0 z (in_scope t (First 0) 0 z) ≡ Some total
  bound_datum z pos =
      ap (bound_at μ total 0 z) (none_at 0 z)
      ∙ cond-false (eqb 0 z) None _ (ne_eqb 0 z (λ e. omega arith)) ∙ cond-false (eqb z 0) _ _ (ne_eqb z 0 (λ e. omega arith))

  tight : (z : ℕ) → 0 < z → z < table.n
      → (c : μ.group.carrier) × Edge μ.group table.n (bounds_of μ total (in_scope t (First 0))) (up table.rows z) z c × (μ.value (deep table.rows z) ≡ μ.group.plus (μ.value (deep table.rows (up table.rows z))) c)
  tight z pos h =
      let hu = parent_other z pos h in (
        μ.value total,
        (
          subst (λ (i : ℕ). i < table.n) (sym hu) (omega arith),
          h,
          ap (valued μ.value) (subst (λ (u : ℕ). bound_at μ total u z (in_scope t (First 0) u z) ≡ Some total) (sym hu) (bound_datum z pos)),
        ),
        at_other z pos h ∙ sym (ap (λ (i : μ.group.carrier). μ.group.plus i (μ.value total)) (at_datum (up table.rows z) hu) ∙ neutral_left μ.group (μ.value total)),
      )

  sizes : (z : ℕ) → z < table.n → (z ≡ 0) ⊎ (z ≡ 0 → ⊥) → μ.within 63 (deep table.rows z)
  sizes z h (inl e) =
      subst (μ.within 63) (sym (ap (deep table.rows) e ∙ ap (λ (r : Row). r.depth) row_datum)) (wider_to μ.laws.wider 0 63 _ (omega arith) μ.laws.zero_within)
  sizes z h (inr e) =
      subst (μ.within 63) (sym (ap (λ (r : Row). r.depth) (row_other z (positive z e) h))) (wider_to μ.laws.wider 1 63 _ (omega arith) small)

  -- it suits the first 0 pairs
  pub start_suits : (n : ℕ) → table.n ≡ n → TableSuits μ total n (in_scope t (First 0)) table
  start_suits n same = record {
    same = same;
    depths = λ z h. sizes z h (cases_eq z 0);
    solved = record {
      fits = record { datum = at_datum 0 refl; keeps = keeps };
      tree = record { root = table.root; inside = table.within; climbs = table.tree };
      tight = tight;
    };
  }
