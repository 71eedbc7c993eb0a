-- Ties inserted one pair after another. Assumes nothing.
use Rattle.std.proofs.Common.{◌≡◌, ℕ, ◌+◌, ◌*◌, ◌/◌, ◌%◌, ◌<◌, Bool, true, false, cond, eqb, ltb, List, ◌∷◌, length, is_some, Some, None, Ok, Option, Result, sym, refl, ap, ◌∙◌, subst, arith}
use Rattle.std.proofs.lemmas.Bool.{cond-false, cond-true, lt-ltb, ne_eqb}
use Rattle.measure.specs.declared.Amount.{Amount}
use Rattle.measure.specs.declared.Measure.{Ghosts as MeasureGhosts}
use Rattle.measure.specs.Group.{OrderedGroup}
use Rattle.store.specs.Meaning.{StoreMeaning, Lawful}
use Rattle.graph.specs.Graph.{Weight}
use Rattle.graph.specs.Tree.{way}
use Rattle.graph.proofs.Walks.{smaller_cycle}
use Rattle.table.specs.Climb.{deep, FirstClimb, up}
use Rattle.table.specs.declared.table.DepthTable.{DepthTable}
use Rattle.table.proofs.Ways.{length_down}
use Rattle.update.specs.Lowering.{NegativeCycle, SolvedBefore}
use Rattle.update.specs.Lowers.{Lowers, Solution}
use Rattle.update.specs.declared.work.Contradiction.{Contradiction}
use Rattle.table.specs.declared.row.Row.{Row}
use Rattle.update.proofs.Cycles.{cycle_first}
use Rattle.law.specs.Calls.{over_front}
use Rattle.law.specs.Standing.{bound_at, bounds_of, capped, Ties}
use Rattle.bounds.specs.Scopes.{in_scope}
use Rattle.bounds.specs.declared.scope.Scope.TheVariants.{First}
use Rattle.bounds.proofs.Firsts.{all_first, first_lowered, first_smaller, same_next}
use Rattle.solver.specs.Opening.{Witness}
use Rattle.solver.specs.Suits.{TableSuits}

pub split : (k : ℕ) → (k / 64) * 64 + (k % 64) ≡ k
split k = omega arith

pub below : (k : ℕ) → k % 64 < 64
below k = omega arith

abbrev none_here : Option Amount → Bool
none_here None = true
none_here (Some w) = false

pub none_tied : (o : Option Amount) → o ≡ None → is_some o ≡ true → ⊥
none_tied o e t = let z : false ≡ true = ap is_some (sym e) ∙ t in cc

pub untied_none : (o : Option Amount) → is_some o ≡ false → o ≡ None
untied_none None e = refl
untied_none (Some w) e = absurd (let z : true ≡ false = e in cc)

no_none : (w : Amount) → Some w ≡ None → ⊥
no_none w e = let z : ◌≡◌ {A = ℕ} 0 1 = cc in omega arith

module _ (m : StoreMeaning) (law : Lawful m) where
  -- the ends of a tie are different
  ends_apart : (a b : ℕ) → ¬ (m.tie a b ≡ None) → ¬ (a ≡ b)
  ends_apart a b h e = h (ap (m.tie a) (sym e) ∙ law.same a)

  -- the pair k is in scope once k + 1 pairs are
  pub here : (k : ℕ) → in_scope m.tie (First (k + 1)) (k / 64) (k % 64) ≡ m.tie (k / 64) (k % 64)
  here k = cond-true (ltb ((k / 64) * 64 + (k % 64)) (k + 1)) (m.tie (k / 64) (k % 64)) None (lt-ltb _ _ (let e = split k in omega arith))

  module _ {M : Type 0} (μ : MeasureGhosts M) (total : Amount) where
    some_by : (p q : Bool) (c d : Amount) (o : Option Amount) → ¬ (o ≡ None) → cond p (Some c) (cond q (Some d) o) ≡ None → ⊥
    some_by true q c d o h e = no_none c e
    some_by false true c d o h e = no_none d e
    some_by false false c d o h e = h e

    -- a tie has a bound
    pub tie_bound : (k : ℕ) → ¬ (m.tie (k / 64) (k % 64) ≡ None) → ¬ (bound_at μ total (k / 64) (k % 64) (in_scope m.tie (First (k + 1)) (k / 64) (k % 64)) ≡ None)
    tie_bound k h e =
        let a = k / 64 in
        let b = k % 64 in
        let o = in_scope m.tie (First (k + 1)) a b in
        some_by (eqb b 0) (eqb a 0) (capped μ μ.zero o) (capped μ total o) o (λ i. h (sym (here k) ∙ i))
        (sym (cond-false (eqb a b) None _ (ne_eqb a b (ends_apart a b h))) ∙ e)

    module _ (k : ℕ) (table : DepthTable) (suits : TableSuits μ total m.count (in_scope m.tie (First k)) table) where
      -- a pair with no tie
      pub insert_none : m.tie (k / 64) (k % 64) ≡ None → TableSuits μ total m.count (in_scope m.tie (First (k + 1))) table
      insert_none none = subst (λ (t : Ties). TableSuits μ total m.count t table) (sym (same_next m law (k / 64) (k % 64) k (split k) (below k) none)) suits

      -- a pair with a tie: its bound falls
      pub insert_some : (c : Amount) → bound_at μ total (k / 64) (k % 64) (in_scope m.tie (First (k + 1)) (k / 64) (k % 64)) ≡ Some c
          → SolvedBefore μ.group table.n (bounds_of μ total (in_scope m.tie (First (k + 1)))) (k / 64) (k % 64) (μ.value c) (λ z. μ.value (deep table.rows z)) (up table.rows)
      insert_some c e = record {
        was = bounds_of μ total (in_scope m.tie (First k));
        solved = suits.solved;
        low = first_lowered m law (k / 64) (k % 64) k (split k) (below k) μ total c (ap (bound_at μ total (k / 64) (k % 64)) (sym (here k)) ∙ e);
      }

    -- all pairs are in
    pub insert_all : (table : DepthTable) → TableSuits μ total m.count (in_scope m.tie (First 4096)) table → TableSuits μ total m.count m.tie table
    insert_all table suits = subst (λ (t : Ties). TableSuits μ total m.count t table) (all_first m law) suits

    -- a cycle of the first pairs adds up to no more with all of them
    pub witness_all : (k : ℕ) (before after : List ℕ) (size : ℕ) → Witness μ.group m.count (bounds_of μ total (in_scope m.tie (First k))) before after size
        → Witness μ.group m.count (bounds_of μ total m.tie) before after size
    witness_all k before after size v =
        let r = smaller_cycle μ.group m.count _ _ (first_smaller μ total m.tie k) v.markers v.sum v.cycle in
        record {
          markers = v.markers;
          sum = r.0;
          cycle = r.1;
          below = λ h. v.below (μ.group.le_trans _ _ _ h r.2);
          counted = v.counted;
          buffer = v.buffer;
        }

-- the cycle that was written
pub witness_of : (g : OrderedGroup) (n k : ℕ) (w : Weight g) (q : ℕ → ℕ) (a b : ℕ) (before after : List ℕ) (size : ℕ) → n ≡ k → NegativeCycle g n w q a b
    → ((i : ℕ) → FirstClimb q i a b → size ≡ i + 1) → ((i : ℕ) → FirstClimb q i a b → after ≡ over_front (b ∷ way q i a) before)
    → Witness g k w before after size
witness_of g n k w q a b before after size same c counted written = subst (λ (i : ℕ). Witness g i w before after size) same
    (record {
      markers = b ∷ way q c.up a;
      sum = c.sum;
      cycle = c.cycle;
      below = c.negative;
      counted = counted c.up first ∙ sym (subst (λ (u : ℕ). length (u ∷ way q c.up a) ≡ c.up + 1) c.first (length_down q c.up a));
      buffer = written c.up first;
    })
  where
    first : FirstClimb q c.up a b
    first = cycle_first g n w q a b c

-- a table that solves the bounds suits them
pub suits_of : {M : Type 0} (μ : MeasureGhosts M) (total : Amount) (n : ℕ) (t : Ties) (table : DepthTable) → Solution μ n (bounds_of μ total t) table → TableSuits μ total n t table
suits_of μ total n t table s = record {
  same = s.markers;
  depths = rw s.markers s.depths;
  solved = rw s.markers s.solved;
}

-- what was found, where the result is known
pub found_as : {M : Type 0} (μ : MeasureGhosts M) (n : ℕ) (w : Weight μ.group) (a b : ℕ) (rows : List Row) (r : Result (Option DepthTable) Contradiction) (o p : Option DepthTable) → Lowers μ n w a b rows r → r ≡ Ok o → o ≡ p → Lowers μ n w a b rows (Ok p)
found_as μ n w a b rows r o p h e i = subst (λ (v : Result (Option DepthTable) Contradiction). Lowers μ n w a b rows v) (e ∙ ap Ok i) h

-- a value that may be there, by cases
pub by_cases : {X : Type 0} (P : Option X → Type 0) (o : Option X) → (o ≡ None → P None) → ((x : X) → o ≡ Some x → P (Some x)) → P o
by_cases P None f g = f refl
by_cases P (Some x) f g = g x refl
