-- Each call that is answered as it has to be keeps the log lawful. Assumes nothing.
use Rattle.std.proofs.Common.{◌≡◌, ℕ, ◌<◌, Bool, true, false, cond, not, ◌&&◌, eqb, ltb, List, [], ◌∷◌, ◌++◌, length, take, drop, Some, None, Option, sym, refl, ap, ◌∙◌, subst, inl, inr, arith}
use Rattle.std.proofs.lemmas.Bool.{ltb-true, eqb-true, eq-eqb, not-false, true≢false, and_parts}
use Rattle.measure.specs.declared.Amount.{Amount}
use Rattle.measure.specs.declared.Measure as measure
use Rattle.law.specs.declared.call.Answer.{Answer}
use Rattle.law.specs.declared.call.Answer.TheVariants.{Refused, Opened, Changed, Committed, Row, Length}
use Rattle.law.specs.declared.call.Call.{Call}
use Rattle.law.specs.declared.call.Call.TheVariants as call
use Rattle.law.specs.declared.call.Entry.{Entry}
use Rattle.law.specs.declared.call.State.{State}
use Rattle.law.specs.declared.call.State.TheVariants as state
use Rattle.law.specs.declared.call.Refusal.{Refusal}
use Rattle.law.specs.declared.call.Refusal.TheVariants.{NotOpen, UnknownMarker, WrongToken, Contradiction}
use Rattle.law.specs.Standing.{Standing, took}
use Rattle.law.specs.Refusals.{is_new, on_trial, when, first, first_refusal}
use Rattle.law.specs.Calls.{Model, path, kind, Table, TableOf, Keeps, PathAt, Outcome, Accepted, Contradicted, answer_of, buffer_after, over_front}
use Rattle.law.specs.Law.{Log, accepted, after, CanContradict, Judged, LawfulEntry, DeepestAt, NothingFitsAt, or_else, read_since, read_before}
use Rattle.law.specs.Telling.{entry, Tells, Starts, Goes_on, Ran, EveryLogLawful}
use Rattle.law.specs.Telling.Ran.{none, more}
use Rattle.law.proofs.Tables.{certified, deepest_of, one_deepest, nothing_fits}

-- what passes a list of checks passes the first and the others
pub first_none : {A : Type 0} (o : Option A) (os : List (Option A)) → first (o ∷ os) ≡ None → (o ≡ None) × (first os ≡ None)
first_none None os h = (refl, h)
first_none (Some x) os h = let z : ◌≡◌ {A = ℕ} 0 1 = cc in absurd (omega arith)

pub when_none : (t : Bool) (r : Refusal) → when t r ≡ None → t ≡ false
when_none false r h = refl
when_none true r h = let z : ◌≡◌ {A = ℕ} 0 1 = cc in absurd (omega arith)

taken : (ms xs : List ℕ) → take (length ms) (ms ++ xs) ≡ ms
taken [] xs = refl
taken (m ∷ ms) xs = ap (λ z. m ∷ z) (taken ms xs)

-- answers of different kinds are different
abbrev tag : Answer → ℕ
tag (Refused why) = 0
tag (Opened markers) = 1
tag (Changed moved reparented) = 2
tag Committed = 3
tag (Row depth parent) = 4
tag (Length length) = 5

apart : {A : Type 0} (a b : Answer) → eqb (tag a) (tag b) ≡ false → a ≡ b → A
apart a b h e = absurd (true≢false (sym (eq-eqb (tag a) (tag b) (ap tag e)) ∙ h))

module _ {M : Type 0} (μ : measure.Ghosts M) where
  -- a refused call goes on with the log
  refused : (s : Standing) (log : Log) (m : Model) (c : Call) (r : Refusal) (b : List ℕ)
      → (CanContradict c → first_refusal μ m.standing c ≡ None → Judged μ (took c m.standing) (Refused r))
      → Tells μ s log m → Tells μ s (entry c (Refused r) b ∷ log) m
  refused s log m c r b judged t = record {
    lawful = (subst (λ z. LawfulEntry μ z log (entry c (Refused r) b)) t.standing right, t.lawful);
    standing = t.standing;
    table = t.table;
    since = t.since;
    before = t.before;
  }
    where
      right : LawfulEntry μ m.standing log (entry c (Refused r) b)
      right = record {
        judged = judged;
        deepest = λ k x p e h. apart (Refused r) (Row x p) refl h;
        shortest = λ k len l e h. apart (Refused r) (Length l) refl h;
        kept = λ k len l e h old i x u v. apart (Refused r) (Length l) refl h;
      }

  nothing : {A : Type 0} (ms : List ℕ) (o : Option (List ℕ)) → o ≡ None → o ≡ Some ms → A
  nothing ms o p q = let z : ◌≡◌ {A = ℕ} 0 1 = cc in absurd (omega arith)

  -- where the depths of a solved table fit, no contradiction may be answered, and none is
  judged_by : (s : Standing) (d : ℕ → Amount) (p : ℕ → ℕ) (a : Answer) → TableOf μ s d p
      → accepted a ≡ true → ((l : ℕ) → a ≡ Refused (Contradiction l) → ⊥) → Judged μ s a
  judged_by s d p a v yes-a no-a = record {
    contradicts = λ none_fits. absurd (none_fits (λ k. μ.value (d k)) (certified μ s d p v).fits);
    only_then = λ l h. absurd (no-a l h);
    otherwise = λ _. yes-a;
  }

  -- an accepted change goes on with the log
  changed : (s : Standing) (log : Log) (m m' : Model) (c : Call) (i j : ℕ) (b : List ℕ)
      → m'.standing ≡ took c m.standing → TableOf μ m'.standing m'.depth m'.parent → Keeps μ m m'
      → ((k : ℕ) → read_since k (entry c (Changed i j) b ∷ log) ≡ None)
      → ((k : ℕ) → read_before k (entry c (Changed i j) b ∷ log) ≡ read_since k log)
      → Tells μ s log m → Tells μ s (entry c (Changed i j) b ∷ log) m'
  changed s log m m' c i j b e v keeps is_none is-since t = record {
    lawful = (subst (λ z. LawfulEntry μ z log (entry c (Changed i j) b)) t.standing right, t.lawful);
    standing = e ∙ ap (took c) t.standing;
    table = λ _. v;
    since = λ k ms h. nothing ms (read_since k (entry c (Changed i j) b ∷ log)) (is_none k) h;
    before = before;
  }
    where
      before : (k : ℕ) (ms : List ℕ) → read_before k (entry c (Changed i j) b ∷ log) ≡ Some ms → k < m'.standing.count
          → PathAt μ m'.standing ms k (μ.value (m'.depth k)) → path m' k ≡ ms
      before k ms h below q =
          let same = t.since k ms (sym (is-since k) ∙ h) in
          keeps k below (subst (λ z. PathAt μ m'.standing z k (μ.value (m'.depth k))) (sym same) q) ∙ same

      right : LawfulEntry μ m.standing log (entry c (Changed i j) b)
      right = record {
        judged = λ _ _. judged_by (took c m.standing) m'.depth m'.parent (Changed i j) (subst (λ z. TableOf μ z m'.depth m'.parent) e v) refl (λ l h. apart (Changed i j) (Refused (Contradiction l)) refl h);
        deepest = λ k x p e h. apart (Changed i j) (Row x p) refl h;
        shortest = λ k len l e h. apart (Changed i j) (Length l) refl h;
        kept = λ k len l e h old i' x u w. apart (Changed i j) (Length l) refl h;
      }

  opened : (s : Standing) (log : Log) (m m' : Model) (len n : ℕ) (b : List ℕ)
      → m'.standing ≡ took (call.Open len) m.standing → TableOf μ m'.standing m'.depth m'.parent
      → Tells μ s log m → Tells μ s (entry (call.Open len) (Opened n) b ∷ log) m'
  opened s log m m' len n b e v t = record {
    lawful = (subst (λ z. LawfulEntry μ z log (entry (call.Open len) (Opened n) b)) t.standing right, t.lawful);
    standing = e ∙ ap (took (call.Open len)) t.standing;
    table = λ _. v;
    since = λ k ms h. nothing ms None refl h;
    before = λ k ms h below q. nothing ms None refl h;
  }
    where
      right : LawfulEntry μ m.standing log (entry (call.Open len) (Opened n) b)
      right = record {
        judged = λ _ _. judged_by (took (call.Open len) m.standing) m'.depth m'.parent (Opened n) (subst (λ z. TableOf μ z m'.depth m'.parent) e v) refl (λ l h. apart (Opened n) (Refused (Contradiction l)) refl h);
        deepest = λ k x p e h. apart (Opened n) (Row x p) refl h;
        shortest = λ k len l e h. apart (Opened n) (Length l) refl h;
        kept = λ k len l e h old i' x u w. apart (Opened n) (Length l) refl h;
      }

  depth_args : (k k' : ℕ) → call.Depth k ≡ call.Depth k' → k ≡ k'
  depth_args k k' h = cc

  path_args : (k len k' len' : ℕ) → call.Path k len ≡ call.Path k' len' → k ≡ k'
  path_args k len k' len' h = cc

  row_args : (x y : Amount) (p q : ℕ) → Row x p ≡ Row y q → x ≡ y
  row_args x y p q h = cc

  length_args : (l l' : ℕ) → Length l ≡ Length l' → l ≡ l'
  length_args l l' h = cc

  -- the model with the table of m
  abbrev tabled : Model → Standing → ℕ → Model
  tabled m s changes = record { standing = s; depth = m.depth; parent = m.parent; changes = changes }

  tabled_is : (m m' : Model) (s : Standing) → m'.standing ≡ s → m'.depth ≡ m.depth → m'.parent ≡ m.parent → tabled m s m'.changes ≡ m'
  tabled_is m m' s p q r = λ i. record { standing = sym p i; depth = sym q i; parent = sym r i; changes = m'.changes }

  on_trial_old : (st : State) → on_trial st ≡ true → is_new st ≡ false
  on_trial_old state.New h = absurd (true≢false (sym h))
  on_trial_old state.Open h = refl
  on_trial_old (state.OnTrial a b before) h = refl

  committed : (s : Standing) (log : Log) (m : Model) (number changes : ℕ) (b : List ℕ)
      → first_refusal μ m.standing (call.Commit number) ≡ None
      → Tells μ s log m → Tells μ s (entry (call.Commit number) Committed b ∷ log) (tabled m (took (call.Commit number) m.standing) changes)
  committed s log m number changes b passed t = record {
    lawful = (subst (λ z. LawfulEntry μ z log (entry (call.Commit number) Committed b)) t.standing right, t.lawful);
    standing = ap (took (call.Commit number)) t.standing;
    table = λ _. record { some = table.some; shortest = table.shortest; sized = table.sized };
    since = t.since;
    before = t.before;
  }
    where
      test : Bool
      test = on_trial m.standing.state && eqb number m.standing.number

      tried : test ≡ true
      tried = not-false test (when_none (not test) WrongToken (first_none (when (not test) WrongToken) [] passed).0)

      table : TableOf μ m.standing m.depth m.parent
      table = t.table (on_trial_old m.standing.state (and_parts (on_trial m.standing.state) (eqb number m.standing.number) tried).0)

      right : LawfulEntry μ m.standing log (entry (call.Commit number) Committed b)
      right = record {
        judged = λ no-solving _. absurd no-solving;
        deepest = λ k x p e h. apart Committed (Row x p) refl h;
        shortest = λ k len l e h. apart Committed (Length l) refl h;
        kept = λ k len l e h old i' x u w. apart Committed (Length l) refl h;
      }

  depth_read : (s : Standing) (log : Log) (m : Model) (k changes : ℕ) (b : List ℕ)
      → first_refusal μ m.standing (call.Depth k) ≡ None
      → Tells μ s log m → Tells μ s (entry (call.Depth k) (Row (m.depth k) (m.parent k)) b ∷ log) (tabled m m.standing changes)
  depth_read s log m k changes b passed t = record {
    lawful = (subst (λ z. LawfulEntry μ z log (entry (call.Depth k) (Row (m.depth k) (m.parent k)) b)) t.standing right, t.lawful);
    standing = t.standing;
    table = t.table;
    since = t.since;
    before = t.before;
  }
    where
      old : is_new m.standing.state ≡ false
      old = when_none (is_new m.standing.state) NotOpen (first_none (when (is_new m.standing.state) NotOpen) _ passed).0

      below : k < m.standing.count
      below = ltb-true k m.standing.count (not-false (ltb k m.standing.count) (when_none (not (ltb k m.standing.count)) UnknownMarker (first_none (when (not (ltb k m.standing.count)) UnknownMarker) _ (first_none (when (is_new m.standing.state) NotOpen) _ passed).1).0))

      read_one : DeepestAt μ m.standing k (μ.value (m.depth k))
      read_one = deepest_of μ m.standing m.depth m.parent (t.table old) k below

      right : LawfulEntry μ m.standing log (entry (call.Depth k) (Row (m.depth k) (m.parent k)) b)
      right = record {
        judged = λ no-solving _. absurd no-solving;
        deepest = λ j x p e h. subst (λ z. DeepestAt μ m.standing z (μ.value x)) (depth_args k j e) (subst (λ z. DeepestAt μ m.standing k (μ.value z)) (row_args (m.depth k) x (m.parent k) p h) read_one);
        shortest = λ k' len l e h. apart (Row (m.depth k) (m.parent k)) (Length l) refl h;
        kept = λ k' len l e h old i' x u w. apart (Row (m.depth k) (m.parent k)) (Length l) refl h;
      }

  path_read : (s : Standing) (log : Log) (m : Model) (k len changes : ℕ) (b : List ℕ)
      → first_refusal μ m.standing (call.Path k len) ≡ None
      → Tells μ s log m → Tells μ s (entry (call.Path k len) (Length (length (path m k))) (over_front (path m k) b) ∷ log) (tabled m m.standing changes)
  path_read s log m k len changes b passed t = record {
    lawful = (subst (λ z. LawfulEntry μ z log here) t.standing right, t.lawful);
    standing = t.standing;
    table = t.table;
    since = λ j ms. at_marker j ms (eqb k j) refl;
    before = t.before;
  }
    where
      here : Entry
      here = entry (call.Path k len) (Length (length (path m k))) (over_front (path m k) b)

      written : take (length (path m k)) (over_front (path m k) b) ≡ path m k
      written = taken (path m k) (drop (length (path m k)) b)

      some_args : (x y : List ℕ) → Some x ≡ Some y → x ≡ y
      some_args x y h = cc

      at_marker : (j : ℕ) (ms : List ℕ) (v : Bool) → eqb k j ≡ v
          → or_else (cond v (Some (take (length (path m k)) (over_front (path m k) b))) None) (read_since j log) ≡ Some ms → path m j ≡ ms
      at_marker j ms true e h = ap (path m) (sym (eqb-true k j e)) ∙ sym written ∙ some_args (take (length (path m k)) (over_front (path m k) b)) ms h
      at_marker j ms false e h = t.since j ms h

      old : is_new m.standing.state ≡ false
      old = when_none (is_new m.standing.state) NotOpen (first_none (when (is_new m.standing.state) NotOpen) _ passed).0

      below : k < m.standing.count
      below = ltb-true k m.standing.count (not-false (ltb k m.standing.count) (when_none (not (ltb k m.standing.count)) UnknownMarker (first_none (when (not (ltb k m.standing.count)) UnknownMarker) _ (first_none (when (is_new m.standing.state) NotOpen) _ passed).1).0))

      read_one : DeepestAt μ m.standing k (μ.value (m.depth k))
      read_one = deepest_of μ m.standing m.depth m.parent (t.table old) k below

      front : (l : ℕ) → Length (length (path m k)) ≡ Length l → take l (over_front (path m k) b) ≡ path m k
      front l h = ap (λ z. take z (over_front (path m k) b)) (sym (length_args (length (path m k)) l h)) ∙ written

      shortest_one : (l : ℕ) → Length (length (path m k)) ≡ Length l → (x : μ.group.carrier) × PathAt μ m.standing (take l (over_front (path m k) b)) k x × DeepestAt μ m.standing k x
      shortest_one l h = (μ.value (m.depth k), subst (λ z. PathAt μ m.standing z k (μ.value (m.depth k))) (sym (front l h)) ((t.table old).shortest.paths k below), read_one)

      kept_one : (l : ℕ) → Length (length (path m k)) ≡ Length l → (old : List ℕ) → read_before k log ≡ Some old
          → (x : μ.group.carrier) → PathAt μ m.standing old k x → DeepestAt μ m.standing k x → take l (over_front (path m k) b) ≡ old
      kept_one l h ms i x p q = front l h ∙ t.before k ms i below (subst (λ z. PathAt μ m.standing ms k z) (one_deepest μ m.standing k x (μ.value (m.depth k)) q read_one) p)

      right : LawfulEntry μ m.standing log here
      right = record {
        judged = λ no-solving _. absurd no-solving;
        deepest = λ j x p e h. apart (Length (length (path m k))) (Row x p) refl h;
        shortest = λ j len' l e h. subst (λ z. (x : μ.group.carrier) × PathAt μ m.standing (take l (over_front (path m k) b)) z x × DeepestAt μ m.standing z x) (path_args k len j len' e) (shortest_one l h);
        kept = λ j len' l e h. subst (λ z. (old : List ℕ) → read_before z log ≡ Some old → (x : μ.group.carrier) → PathAt μ m.standing old z x → DeepestAt μ m.standing z x → take l (over_front (path m k) b) ≡ old) (path_args k len j len' e) (kept_one l h);
      }

  taken_on : (s : Standing) (log : Log) (m m' : Model) (c : Call) (b : List ℕ) (answer : Answer) (after : List ℕ)
      → first_refusal μ m.standing c ≡ None → Accepted μ m c b answer after m'
      → Tells μ s log m → Tells μ s (entry c answer after ∷ log) m'
  taken_on s log m m' c b answer after passed a t = by_answer (at_call c passed a.standing a.table)
    where
      -- the entry is the one that the models give
      by_answer : Tells μ s (entry c (answer_of μ c m m') (buffer_after c m b) ∷ log) m' → Tells μ s (entry c answer after ∷ log) m'
      by_answer u = subst (λ z. Tells μ s (entry c z after ∷ log) m') (sym a.answered) (subst (λ z. Tells μ s (entry c (answer_of μ c m m') z ∷ log) m') (sym a.buffer) u)

      at_call : (c : Call) → first_refusal μ m.standing c ≡ None → m'.standing ≡ took c m.standing → Table μ (kind c) m m'
          → Tells μ s (entry c (answer_of μ c m m') (buffer_after c m b) ∷ log) m'
      at_call (call.Open len) passed e v = opened s log m m' len m.standing.count b e v t
      at_call (call.Tie x y w len) passed e (v, k) = changed s log m m' (call.Tie x y w len) _ _ b e v k (λ _. refl) (λ _. refl) t
      at_call (call.Untie x y) passed e (v, k) = changed s log m m' (call.Untie x y) _ _ b e v k (λ _. refl) (λ _. refl) t
      at_call (call.Trial x y w len) passed e (v, k) = changed s log m m' (call.Trial x y w len) _ _ b e v k (λ _. refl) (λ _. refl) t
      at_call (call.Commit number) passed e (p, q) =
          subst (Tells μ s (entry (call.Commit number) Committed b ∷ log)) (tabled_is m m' _ e p q) (committed s log m number m'.changes b passed t)
      at_call (call.RollBack number) passed e (v, k) = changed s log m m' (call.RollBack number) _ _ b e v k (λ _. refl) (λ _. refl) t
      at_call (call.Depth k) passed e (p, q) =
          subst (Tells μ s (entry (call.Depth k) (Row (m.depth k) (m.parent k)) b ∷ log)) (tabled_is m m' _ e p q) (depth_read s log m k m'.changes b passed t)
      at_call (call.Path k len) passed e (p, q) =
          subst (Tells μ s (entry (call.Path k len) (Length (length (path m k))) (over_front (path m k) b) ∷ log)) (tabled_is m m' _ e p q) (path_read s log m k len m'.changes b passed t)

  -- no depths fit where a cycle is below zero
  contradicted : (m m' : Model) (c : Call) (b : List ℕ) (answer : Answer) (after : List ℕ) → Contradicted μ m c b answer after m'
      → (l : ℕ) → Judged μ (took c m.standing) (Refused (Contradiction l))
  contradicted m m' c b answer after x l = record {
    contradicts = λ _. (l, refl);
    only_then = λ _ _. none_fits;
    otherwise = λ some_fit. absurd (some_fit none_fits);
  }
    where
      none_fits : NothingFitsAt μ (took c m.standing)
      none_fits = nothing_fits μ (took c m.standing) x.markers x.sum x.cycle x.below

  pub goes_on : Goes_on μ
  goes_on m m' c b answer after answered s log t = by_check (first_refusal μ m.standing c) refl answered.outcome
    where
      clash : {A : Type 0} (o : Option Refusal) (r : Refusal) → o ≡ Some r → o ≡ None → A
      clash o r p q = let z : ◌≡◌ {A = ℕ} 0 1 = cc in absurd (omega arith)

      by_check : (o : Option Refusal) → first_refusal μ m.standing c ≡ o → Outcome μ o m c b answer after m'
          → Tells μ s (entry c answer after ∷ log) m'
      by_check (Some r) e (p, q, same) =
          subst (λ z. Tells μ s (entry c z after ∷ log) m') (sym p)
          (subst (Tells μ s (entry c (Refused r) after ∷ log)) (sym same)
          (refused s log m c r after (λ _ passed. clash (first_refusal μ m.standing c) r e passed) t))
      by_check None e (inl x) =
          subst (λ z. Tells μ s (entry c z after ∷ log) m') (sym x.answered)
          (subst (Tells μ s (entry c (Refused (Contradiction (length x.markers))) after ∷ log)) (sym x.same)
          (refused s log m c (Contradiction (length x.markers)) after (λ _ _. contradicted m m' c b answer after x (length x.markers)) t))
      by_check None e (inr x) = taken_on s log m m' c b answer after e x t

  pub starts : Starts μ
  starts m new = record {
    lawful = tt;
    standing = refl;
    table = λ old. absurd (true≢false (sym (ap is_new new) ∙ old));
    since = λ k ms h. nothing ms None refl h;
    before = λ k ms h below q. nothing ms None refl h;
  }

  ran_tells : (m : Model) (log : Log) (m' : Model) → m.standing.state ≡ state.New → Ran μ m log m' → Tells μ m.standing log m'
  ran_tells m log m' new none = starts m new
  ran_tells m log m' new (more {log = l} {m₁ = m₁} {m₂ = m₂} {c = c} {answer = a} {after = f} before r x) = goes_on m₁ m₂ c before a f x m.standing l (ran_tells m l m₁ new r)

  pub every_log_lawful : EveryLogLawful μ
  every_log_lawful m m' log new r = (ran_tells m log m' new r).lawful
