-- The small well's calls can be answered in no other way. Assumes nothing.
use Rattle.std.proofs.Common.{◌≡◌, ℕ, ◌<◌, true, not, eqb, ◌⊎◌, List, [], ◌∷◌, length, get_or, drop, pos, neg_ℤ, None, sym, refl, ap, ◌∙◌, subst, inl, inr, arith}
use Rattle.measure.specs.declared.Amount.{Amount}
use Rattle.measure.specs.Group.{Lt}
use Rattle.graph.specs.Graph.{Cycle, Fits}
use Rattle.graph.specs.Theorems.{Solved}
use Rattle.law.specs.declared.call.Answer.{Answer}
use Rattle.law.specs.declared.call.Answer.TheVariants.{Refused, Opened, Changed}
use Rattle.law.specs.declared.call.Call.{Call}
use Rattle.law.specs.declared.call.Call.TheVariants as call
use Rattle.law.specs.declared.call.Refusal.TheVariants.{Contradiction}
use Rattle.law.specs.Amounts.{same_value}
use Rattle.law.specs.Standing.{took, bounds}
use Rattle.law.specs.Refusals.{first_refusal}
use Rattle.law.specs.Calls.{Model, kind, Table, TableOf, Closes, BeginsWith, EndsWith, Outcome, Accepted, Contradicted, Answered, changes_after, moved, reparented, tally, over_front}
use Rattle.law.proofs.Pins.{same_depths, tally_same}
use Rattle.law.proofs.Tables.{certified, nothing_fits}
use Rattle.small_well.specs.SmallWell.{plain, mm, Case, cases, buffer, start, Shows, Forced, SmallWellForced}
use Rattle.small_well.proofs.Checks.{cycle_is}
use Rattle.small_well.proofs.Searches.{below_four, only?, only_cycle, parents?, only_parents}
use Rattle.small_well.proofs.SmallWell as run

-- the same but for what is no row of a marker
record Like (m m₀ : Model) : Type 0 where
  standing : m.standing ≡ m₀.standing
  changes : m.changes ≡ m₀.changes
  depths : (k : ℕ) → k < 4 → m.depth k ≡ m₀.depth k
  parents : (k : ℕ) → k < 4 → m.parent k ≡ m₀.parent k

like_itself : (m : Model) → Like m m
like_itself m = record { standing = refl; changes = refl; depths = λ k h. refl; parents = λ k h. refl }

-- the parents of the four markers
abbrev parents_of : Model → List ℕ
parents_of m = m.parent 0 ∷ m.parent 1 ∷ m.parent 2 ∷ m.parent 3 ∷ []

-- what is answered where no check refuses
passed : (m m₀ : Model) (c : Call) (a : Answer) (f : List ℕ) (m' : Model) → m.standing ≡ m₀.standing → first_refusal plain m₀.standing c ≡ None
    → Answered plain m c buffer a f m' → Contradicted plain m c buffer a f m' ⊎ Accepted plain m c buffer a f m'
passed m m₀ c a f m' e h x = subst (λ o. Outcome plain o m c buffer a f m') (ap (λ s. first_refusal plain s c) e ∙ h) x.outcome

-- a call that solves, where m₁ has a table, is accepted, with the rows of m₁
accepted_only : (m m₀ m₁ : Model) (c : Call) → m.standing ≡ m₀.standing → m.changes ≡ m₀.changes
    → first_refusal plain m₀.standing c ≡ None
    → ((x y : Model) → Table plain (kind c) x y → TableOf plain y.standing y.depth y.parent)
    → m₁.standing ≡ took c m₀.standing → m₁.changes ≡ changes_after (kind c) m₀.changes → m₁.standing.count ≡ 4
    → TableOf plain m₁.standing m₁.depth m₁.parent
    → parents? plain.group (bounds plain m₁.standing) (λ k. plain.value (m₁.depth k)) (parents_of m₁) ≡ true
    → (a : Answer) (f : List ℕ) (m' : Model) → Answered plain m c buffer a f m' → Accepted plain m c buffer a f m' × Like m' m₁
accepted_only m m₀ m₁ c e ch h tabled st₁ ch₁ four t₁ test a f m' x = by (passed m m₀ c a f m' e h x)
  where
    there : m₁.standing ≡ took c m.standing
    there = st₁ ∙ ap (took c) (sym e)

    fits : Fits plain.group (took c m.standing).count (bounds plain (took c m.standing)) (λ k. plain.value (m₁.depth k))
    fits = subst (λ s. Fits plain.group s.count (bounds plain s) (λ k. plain.value (m₁.depth k))) there (certified plain m₁.standing m₁.depth m₁.parent t₁).fits

    like : Accepted plain m c buffer a f m' → Like m' m₁
    like y = record {
      standing = same;
      changes = y.changes ∙ ap (changes_after (kind c)) ch ∙ sym ch₁;
      depths = depths;
      parents = λ k l. only_parents plain.group (bounds plain m₁.standing) (λ k. plain.value (m₁.depth k)) (parents_of m₁) (λ k. plain.value (m'.depth k)) m'.parent test solved.tree solved.tight (λ k l. ap plain.value (depths k l)) k l ∙ listed k l;
    }
      where
        same : m'.standing ≡ m₁.standing
        same = y.standing ∙ sym there

        table : TableOf plain m₁.standing m'.depth m'.parent
        table = subst (λ s. TableOf plain s m'.depth m'.parent) same (tabled m m' y.table)

        solved : Solved plain.group 4 (bounds plain m₁.standing) (λ k. plain.value (m'.depth k)) m'.parent
        solved = subst (λ n. Solved plain.group n (bounds plain m₁.standing) (λ k. plain.value (m'.depth k)) m'.parent) four (certified plain m₁.standing m'.depth m'.parent table)

        depths : (k : ℕ) → k < 4 → m'.depth k ≡ m₁.depth k
        depths k l = same_depths plain m₁.standing m'.depth m₁.depth m'.parent m₁.parent table t₁ k (subst (λ n. k < n) (sym four) l)

        listed : (k : ℕ) → k < 4 → get_or (parents_of m₁) k 0 ≡ m₁.parent k
        listed = below_four (λ k. get_or (parents_of m₁) k 0 ≡ m₁.parent k) refl refl refl refl

    by : Contradicted plain m c buffer a f m' ⊎ Accepted plain m c buffer a f m' → Accepted plain m c buffer a f m' × Like m' m₁
    by (inl y) = absurd (nothing_fits plain (took c m.standing) y.markers y.sum y.cycle y.below (λ k. plain.value (m₁.depth k)) fits)
    by (inr y) = (y, like y)

-- the counts of rows that are the same
same_counts : (m m₀ m' m₁ : Model) → m₀.standing.count ≡ 4 → Like m m₀ → Like m' m₁ → Changed (moved plain m m') (reparented plain m m') ≡ Changed (moved plain m₀ m₁) (reparented plain m₀ m₁)
same_counts m m₀ m' m₁ four l l' = both (moved plain m m') (moved plain m₀ m₁) (reparented plain m m') (reparented plain m₀ m₁)
    (ap (λ s. tally s.count (λ k. not (same_value plain (m.depth k) (m'.depth k)))) l.standing
    ∙ tally_same m₀.standing.count (λ k. not (same_value plain (m.depth k) (m'.depth k))) (λ k. not (same_value plain (m₀.depth k) (m₁.depth k)))
    (λ k h. let q = subst (λ n. k < n) four h in ap (λ x. not (same_value plain x (m'.depth k))) (l.depths k q) ∙ ap (λ x. not (same_value plain (m₀.depth k) x)) (l'.depths k q)))
    (ap (λ s. tally s.count (λ k. not (eqb (m.parent k) (m'.parent k)))) l.standing
    ∙ tally_same m₀.standing.count (λ k. not (eqb (m.parent k) (m'.parent k))) (λ k. not (eqb (m₀.parent k) (m₁.parent k)))
    (λ k h. let q = subst (λ n. k < n) four h in ap (λ x. not (eqb x (m'.parent k))) (l.parents k q) ∙ ap (λ x. not (eqb (m₀.parent k) x)) (l'.parents k q)))
  where
    both : (i i' j j' : ℕ) → i ≡ i' → j ≡ j' → Changed i j ≡ Changed i' j'
    both i i' j j' p q = λ t. Changed (p t) (q t)

-- a call that contradicts, by one cycle alone
contradicted_only : (m m₀ : Model) (c : Call) (b a : ℕ) (found : List ℕ) (s : plain.group.carrier) → m.standing ≡ m₀.standing
    → first_refusal plain m₀.standing c ≡ None
    → ((x y : Model) → Table plain (kind c) x y → TableOf plain y.standing y.depth y.parent)
    → ((ms : List ℕ) → Closes c ms → BeginsWith b ms × EndsWith a ms)
    → (n : ℕ) → (took c m₀.standing).count ≡ n
    → Cycle plain.group n (bounds plain (took c m₀.standing)) found s → Lt plain.group s plain.group.neutral
    → only? plain.group n (bounds plain (took c m₀.standing)) b a found ≡ true
    → (answer : Answer) (f : List ℕ) (m' : Model) → Answered plain m c buffer answer f m'
    → (answer ≡ Refused (Contradiction (length found))) × (f ≡ over_front found buffer) × (m' ≡ m)
contradicted_only m m₀ c b a found s e h tabled closes n four cycle below test answer f m' x = by (passed m m₀ c answer f m' e h x)
  where
    none_fit : (y : Accepted plain m c buffer answer f m') → ⊥
    none_fit y =
        let t = subst (λ z. TableOf plain z m'.depth m'.parent) (y.standing ∙ ap (took c) e) (tabled m m' y.table) in
        nothing_fits plain (took c m₀.standing) found s (subst (λ n. Cycle plain.group n (bounds plain (took c m₀.standing)) found s) (sym four) cycle) below
        (λ k. plain.value (m'.depth k)) (certified plain (took c m₀.standing) m'.depth m'.parent t).fits

    by : Contradicted plain m c buffer answer f m' ⊎ Accepted plain m c buffer answer f m' → (answer ≡ Refused (Contradiction (length found))) × (f ≡ over_front found buffer) × (m' ≡ m)
    by (inr y) = absurd (none_fit y)
    by (inl y) =
        let cl = closes y.markers y.closes in
        let cyc : Cycle plain.group n (bounds plain (took c m₀.standing)) y.markers y.sum =
        subst (λ n. Cycle plain.group n (bounds plain (took c m₀.standing)) y.markers y.sum) four (subst (λ z. Cycle plain.group (took c z).count (bounds plain (took c z)) y.markers y.sum) e y.cycle) in
        let is = only_cycle plain.group n (bounds plain (took c m₀.standing)) b a found y.markers y.sum test cyc cl.0 cl.1 y.below in
        (y.answered ∙ ap (λ ms. Refused (Contradiction (length ms))) is, y.buffer ∙ ap (λ ms. over_front ms buffer) is, y.same)

shows : (k : Case) (m m₁ : Model) → Like m m₁ → Shows k m₁ → Shows k m
shows k m m₁ l h = record {
  depth1 = l.depths 1 (omega arith) ∙ h.depth1;
  parent1 = l.parents 1 (omega arith) ∙ h.parent1;
  depth2 = l.depths 2 (omega arith) ∙ h.depth2;
  parent2 = l.parents 2 (omega arith) ∙ h.parent2;
}

module _ (d : ℕ → Amount) (p : ℕ → ℕ) where
  from10 : (m : Model) → Like m (run.m8 d p) → Forced m (drop 9 cases)
  from10 m l a f m' x =
      let r = contradicted_only m (run.m8 d p) (call.Tie 3 0 (mm (neg_ℤ (pos 3000001))) 4) 0 3 (0 ∷ 3 ∷ []) (neg_ℤ (pos 1)) l.standing refl (λ x y t. t.0) (λ ms h. h) 4 refl
      (cycle_is plain.group 4 (bounds plain (took (call.Tie 3 0 (mm (neg_ℤ (pos 3000001))) 4) (run.m8 d p).standing)) 0 3 [] (neg_ℤ (pos 1)) refl refl refl) run.below_zero refl a f m' x in
      let l' : Like m' (run.m8 d p) = subst (λ z. Like z (run.m8 d p)) (sym r.2) l in
      (r.0, r.1, shows _ m' (run.m8 d p) l' (record { depth1 = refl; parent1 = refl; depth2 = refl; parent2 = refl }), tt)

  from9 : (m : Model) → Like m (run.m7 d p) → Forced m (drop 8 cases)
  from9 m l a f m' x =
      let r = accepted_only m (run.m7 d p) (run.m8 d p) (call.Untie 0 1) l.standing l.changes refl (λ x y t. t.0) refl refl refl (run.opened (run.m7 d p) (run.m8 d p) refl) refl a f m' x in
      (r.0.answered ∙ same_counts m (run.m7 d p) m' (run.m8 d p) refl l r.1, r.0.buffer, shows _ m' (run.m8 d p) r.1 (record { depth1 = refl; parent1 = refl; depth2 = refl; parent2 = refl }), from10 m' r.1)

  from8 : (m : Model) → Like m (run.m6 d p) → Forced m (drop 7 cases)
  from8 m l a f m' x =
      let r = accepted_only m (run.m6 d p) (run.m7 d p) (call.RollBack 7) l.standing l.changes refl (λ x y t. t.0) refl refl refl (run.opened (run.m6 d p) (run.m7 d p) refl) refl a f m' x in
      (r.0.answered ∙ same_counts m (run.m6 d p) m' (run.m7 d p) refl l r.1, r.0.buffer, shows _ m' (run.m7 d p) r.1 (record { depth1 = refl; parent1 = refl; depth2 = refl; parent2 = refl }), from9 m' r.1)

  from7 : (m : Model) → Like m (run.m5 d p) → Forced m (drop 6 cases)
  from7 m l a f m' x =
      let r = accepted_only m (run.m5 d p) (run.m6 d p) (call.Trial 0 2 (mm (pos 2005000)) 4) l.standing l.changes refl (λ x y t. t.0) refl refl refl (run.opened (run.m5 d p) (run.m6 d p) refl) refl a f m' x in
      (r.0.answered ∙ same_counts m (run.m5 d p) m' (run.m6 d p) refl l r.1, r.0.buffer, shows _ m' (run.m6 d p) r.1 (record { depth1 = refl; parent1 = refl; depth2 = refl; parent2 = refl }), from8 m' r.1)

  from6 : (m : Model) → Like m (run.m4 d p) → Forced m (drop 5 cases)
  from6 m l a f m' x =
      let r = accepted_only m (run.m4 d p) (run.m5 d p) (call.Tie 1 2 (mm (pos 10000)) 4) l.standing l.changes refl (λ x y t. t.0) refl refl refl (run.opened (run.m4 d p) (run.m5 d p) refl) refl a f m' x in
      (r.0.answered ∙ same_counts m (run.m4 d p) m' (run.m5 d p) refl l r.1, r.0.buffer, shows _ m' (run.m5 d p) r.1 (record { depth1 = refl; parent1 = refl; depth2 = refl; parent2 = refl }), from7 m' r.1)

  from5 : (m : Model) → Like m (run.m4 d p) → Forced m (drop 4 cases)
  from5 m l a f m' x =
      let r = contradicted_only m (run.m4 d p) (call.Tie 1 2 (mm (pos 9999)) 4) 2 1 (2 ∷ 1 ∷ []) (neg_ℤ (pos 1)) l.standing refl (λ x y t. t.0) (λ ms h. h) 4 refl
      (cycle_is plain.group 4 (bounds plain (took (call.Tie 1 2 (mm (pos 9999)) 4) (run.m4 d p).standing)) 2 1 [] (neg_ℤ (pos 1)) refl refl refl) run.below_zero refl a f m' x in
      let l' : Like m' (run.m4 d p) = subst (λ z. Like z (run.m4 d p)) (sym r.2) l in
      (r.0, r.1, shows _ m' (run.m4 d p) l' (record { depth1 = refl; parent1 = refl; depth2 = refl; parent2 = refl }), from6 m' l')

  from4 : (m : Model) → Like m (run.m3 d p) → Forced m (drop 3 cases)
  from4 m l a f m' x =
      let r = accepted_only m (run.m3 d p) (run.m4 d p) (call.Tie 2 1 (mm (neg_ℤ (pos 10000))) 4) l.standing l.changes refl (λ x y t. t.0) refl refl refl (run.opened (run.m3 d p) (run.m4 d p) refl) refl a f m' x in
      (r.0.answered ∙ same_counts m (run.m3 d p) m' (run.m4 d p) refl l r.1, r.0.buffer, shows _ m' (run.m4 d p) r.1 (record { depth1 = refl; parent1 = refl; depth2 = refl; parent2 = refl }), from5 m' r.1)

  from3 : (m : Model) → Like m (run.m2 d p) → Forced m (drop 2 cases)
  from3 m l a f m' x =
      let r = accepted_only m (run.m2 d p) (run.m3 d p) (call.Tie 1 2 (mm (pos 12000)) 4) l.standing l.changes refl (λ x y t. t.0) refl refl refl (run.opened (run.m2 d p) (run.m3 d p) refl) refl a f m' x in
      (r.0.answered ∙ same_counts m (run.m2 d p) m' (run.m3 d p) refl l r.1, r.0.buffer, shows _ m' (run.m3 d p) r.1 (record { depth1 = refl; parent1 = refl; depth2 = refl; parent2 = refl }), from4 m' r.1)

  from2 : (m : Model) → Like m (run.m1 d p) → Forced m (drop 1 cases)
  from2 m l a f m' x =
      let r = accepted_only m (run.m1 d p) (run.m2 d p) (call.Tie 0 1 (mm (pos 2000000)) 4) l.standing l.changes refl (λ x y t. t.0) refl refl refl (run.opened (run.m1 d p) (run.m2 d p) refl) refl a f m' x in
      (r.0.answered ∙ same_counts m (run.m1 d p) m' (run.m2 d p) refl l r.1, r.0.buffer, shows _ m' (run.m2 d p) r.1 (record { depth1 = refl; parent1 = refl; depth2 = refl; parent2 = refl }), from3 m' r.1)

  from1 : (m : Model) → Like m (run.m0 d p) → Forced m (drop 0 cases)
  from1 m l a f m' x =
      let r = accepted_only m (run.m0 d p) (run.m1 d p) (call.Open 4) l.standing l.changes refl (λ x y t. t) refl refl refl (run.opened (run.m0 d p) (run.m1 d p) refl) refl a f m' x in
      (r.0.answered ∙ ap (λ s. Opened s.count) l.standing, r.0.buffer, shows _ m' (run.m1 d p) r.1 (record { depth1 = refl; parent1 = refl; depth2 = refl; parent2 = refl }), from2 m' r.1)

pub small_well_forced : SmallWellForced
small_well_forced d p = from1 d p (start d p) (like_itself (start d p))
