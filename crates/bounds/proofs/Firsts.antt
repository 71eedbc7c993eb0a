-- The ties of the first pairs, one pair after another. Assumes nothing.
use Rattle.std.proofs.Common.{◌≡◌, ℕ, ◌+◌, ◌*◌, ◌<◌, ◌≤◌, Bool, true, false, cond, eqb, ltb, ◌⊎◌, Some, None, Option, sym, refl, ap, ◌∙◌, subst, inl, inr, arith}
use mathlib.Core.Path.{fun_ext}
use mathlib.Core.Option as plain
use Rattle.std.proofs.lemmas.Bool.{cases_Bool, cases_lt, cases_order, and_parts, eqb-true, eq-eqb, and_from, both_ways, cond_both, lt-ltb, le-ltb, ltb-false, cond-true, cond-false}
use Rattle.measure.specs.declared.Amount.{Amount}
use Rattle.measure.specs.declared.Measure as measure
use Rattle.store.specs.Meaning.{StoreMeaning, Lawful, same_pair, set_tie}
use Rattle.graph.specs.Weights.{valued}
use Rattle.graph.specs.Change.{Lowered}
use Rattle.graph.proofs.Valued.{amount_of}
use Rattle.graph.proofs.Walks.{Smaller}
use Rattle.law.specs.Standing.{bound_at, bounds_of, Ties}
use Rattle.bounds.specs.declared.scope.Scope.TheVariants.{First}
use Rattle.bounds.specs.Scopes.{in_scope}
use Rattle.bounds.specs.Small.{BoundsSound, Small}
use Rattle.bounds.proofs.Limits.{fewer, lowered, no_some, same_some}

module _ (m : StoreMeaning) (law : Lawful m) (a b k : ℕ) (place : a * 64 + b ≡ k) (low : b < 64) where
  next_at : (x y : ℕ) → in_scope m.tie (First (k + 1)) x y ≡ set_tie (in_scope m.tie (First k)) a b (m.tie a b) x y
  next_at x y = elim (cases_Bool (same_pair a b x y)) [
    | inl e ↦
        let p : x ≡ a = eqb-true x a (and_parts (eqb x a) (eqb y b) e).0 in
        let q : y ≡ b = eqb-true y b (and_parts (eqb x a) (eqb y b) e).1 in
        cond-true (ltb (x * 64 + y) (k + 1)) (m.tie x y) None (lt-ltb _ _ (omega arith))
        ∙ ap (λ (i : ℕ). m.tie i y) p ∙ ap (m.tie a) q ∙ sym (cond-true (same_pair a b x y) (m.tie a b) _ e)
    | inr e ↦ away e (cases_order (x * 64 + y) k) ∙ sym (cond-false (same_pair a b x y) (m.tie a b) _ e)
  ]
    where
      away : same_pair a b x y ≡ false → ((x * 64 + y ≡ k) ⊎ ((x * 64 + y < k) ⊎ (k < x * 64 + y))) → in_scope m.tie (First (k + 1)) x y ≡ in_scope m.tie (First k) x y
      away e (inl h) =
          cond-true (ltb (x * 64 + y) (k + 1)) (m.tie x y) None (lt-ltb _ _ (omega arith))
          ∙ elim (cases_lt y 64) [
            | inl l ↦ absurd (let p : x ≡ a = omega arith in let q : y ≡ b = omega arith in both_ways _ e (and_from _ _ (eq-eqb x a p) (eq-eqb y b q)))
            | inr l ↦ law.unknown_end x y (let h2 = law.high in omega arith)
          ]
          ∙ sym (cond-false (ltb (x * 64 + y) k) (m.tie x y) None (le-ltb _ _ (omega arith)))
      away e (inr (inl h)) =
          cond-true (ltb (x * 64 + y) (k + 1)) (m.tie x y) None (lt-ltb _ _ (omega arith))
          ∙ sym (cond-true (ltb (x * 64 + y) k) (m.tie x y) None (lt-ltb _ _ h))
      away e (inr (inr h)) =
          cond-false (ltb (x * 64 + y) (k + 1)) (m.tie x y) None (le-ltb _ _ (omega arith))
          ∙ sym (cond-false (ltb (x * 64 + y) k) (m.tie x y) None (le-ltb _ _ (omega arith)))

  -- one pair more is its tie set
  pub next : in_scope m.tie (First (k + 1)) ≡ set_tie (in_scope m.tie (First k)) a b (m.tie a b)
  next = fun_ext (λ x. fun_ext (λ y. next_at x y))

  -- which was not there before
  new_pair : in_scope m.tie (First k) a b ≡ None
  new_pair = cond-false (ltb (a * 64 + b) k) (m.tie a b) None (le-ltb _ _ (omega arith))

  pub same_next : m.tie a b ≡ None → in_scope m.tie (First (k + 1)) ≡ in_scope m.tie (First k)
  same_next none = next ∙ fun_ext (λ x. fun_ext (λ y. elim (cases_Bool (same_pair a b x y)) [
    | inl e ↦
        cond-true (same_pair a b x y) (m.tie a b) _ e ∙ none ∙ sym new_pair
        ∙ ap (λ (i : ℕ). in_scope m.tie (First k) i b) (sym (eqb-true x a (and_parts _ _ e).0)) ∙ ap (in_scope m.tie (First k) x) (sym (eqb-true y b (and_parts _ _ e).1))
    | inr e ↦ cond-false (same_pair a b x y) (m.tie a b) _ e
  ]))

  -- so its bound is no more than before
  pub first_lowered : {M : Type 0} (μ : measure.Ghosts M) (total c : Amount) → bound_at μ total a b (m.tie a b) ≡ Some c
      → Lowered μ.group (bounds_of μ total (in_scope m.tie (First k))) (bounds_of μ total (in_scope m.tie (First (k + 1)))) a b (μ.value c)
  first_lowered μ total c e =
      subst (λ (t : Ties). Lowered μ.group (bounds_of μ total (in_scope m.tie (First k))) (bounds_of μ total t) a b (μ.value c)) (sym next)
      (lowered μ total (in_scope m.tie (First k)) a b (m.tie a b) c e less)
    where
      less : (v : Amount) → bound_at μ total a b (in_scope m.tie (First k) a b) ≡ Some v → μ.group.le (μ.value c) (μ.value v)
      less v o =
          let r = fewer μ total a b (m.tie a b) v (ap (bound_at μ total a b) (sym new_pair) ∙ o) in
          subst (λ (i : Amount). μ.group.le (μ.value i) (μ.value v)) (same_some r.0 c (sym r.1 ∙ e)) r.2

-- the first 4,096 pairs are all
pub all_first : (m : StoreMeaning) → Lawful m → in_scope m.tie (First 4096) ≡ m.tie
all_first m law = fun_ext (λ x. fun_ext (λ y. cond_both (ltb (x * 64 + y) 4096) (m.tie x y) None (λ o. o ≡ m.tie x y) (λ _. refl) (λ e. sym (outside x y (ltb-false (x * 64 + y) 4096 e)))))
  where
    outside : (x y : ℕ) → 4096 ≤ x * 64 + y → m.tie x y ≡ None
    outside x y h = elim (cases_lt x 64) [
      | inl l ↦ law.unknown_end x y (let k = law.high in omega arith)
      | inr l ↦ law.unknown_start x y (let k = law.high in omega arith)
    ]

module _ {M : Type 0} (μ : measure.Ghosts M) (total : Amount) (t : Ties) (k : ℕ) where
  -- fewer ties are no larger
  pub first_sound : BoundsSound μ total t → BoundsSound μ total (in_scope t (First k))
  first_sound s = record { total_small = s.total_small; small = λ x y. by (ltb (x * 64 + y) k) (t x y) (s.small x y) }
    where
      by : (p : Bool) (o : Option Amount) → Small μ o → Small μ (cond p o None)
      by true o h = h
      by false o h = λ w e. absurd (no_some w e)

  -- and their bounds are no smaller
  pub first_smaller : Smaller μ.group (bounds_of μ total (in_scope t (First k))) (bounds_of μ total t)
  first_smaller x y c e = by (cases_Bool (ltb (x * 64 + y) k))
    where
      at : Option Amount → plain.Option μ.group.carrier
      at o = valued μ.value (bound_at μ total x y o)

      by : (ltb (x * 64 + y) k ≡ true) ⊎ (ltb (x * 64 + y) k ≡ false) → (c' : μ.group.carrier) × (bounds_of μ total t x y ≡ plain.some c') × μ.group.le c' c
      by (inl h) = (c, ap (λ (o : Option Amount). valued μ.value (bound_at μ total x y o)) (sym (cond-true (ltb (x * 64 + y) k) (t x y) None h)) ∙ e, μ.group.le_refl c)
      by (inr h) =
          let none = cond-false (ltb (x * 64 + y) k) (t x y) None h in
          let v = amount_of μ.value (bound_at μ total x y (in_scope t (First k) x y)) c e in
          let r = fewer μ total x y (t x y) v.0 (ap (bound_at μ total x y) (sym none) ∙ v.1) in
          (μ.value r.0, ap (valued μ.value) r.1, subst (μ.group.le (μ.value r.0)) v.2 r.2)
