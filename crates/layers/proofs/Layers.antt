-- A put or a clear through a lock or a screen. Assumes nothing.
use Rattle.std.proofs.Common.{◌≡◌, ℕ, ◌-◌, Bool, true, false, cond, ◌||◌, eqb, is_some, Some, None, Ok, Err, Option, Result, sym, refl, ap, ◌∙◌}
use Rattle.std.proofs.lemmas.Bool.{cond-false, or_from, or_parts, and_parts, eqb-true}
use Rattle.measure.specs.declared.Amount.{Amount}
use Rattle.store.specs.declared.Refusal.{Refusal}
use Rattle.store.specs.declared.Refusal.TheVariants.{PairEmpty, StoreFull}
use Rattle.store.specs.Meaning.{StoreMeaning, is_done, same_pair, set_tie, pair_answer, put_answer, put_after, put_done, clear_answer, clear_after, clear_done}
use Rattle.store.proofs.Calls.{same_meaning, Writable, passed, writable_answer}
use Rattle.layers.specs.Layers.{in_set, lock, screen, Put, Cleared}

-- ---- any layer
-- what is left is what the layer makes of it, if the layer passes the answer and the change on
through : (layer : StoreMeaning → StoreMeaning) (m done above : StoreMeaning) (r s : Result Unit Refusal) → r ≡ s → layer done ≡ above → layer (cond (is_done r) done m) ≡ cond (is_done s) above (layer m)
through layer m done above r s e d = by_answer (is_done r) ∙ ap (λ t. cond (is_done t) above (layer m)) e
  where
    by_answer : (t : Bool) → layer (cond t done m) ≡ cond t above (layer m)
    by_answer true = d
    by_answer false = refl

module _ (layer : StoreMeaning → StoreMeaning) (m o : StoreMeaning) (a b : ℕ) (r : Result Unit Refusal) where
  put_through : (w : Amount) → r ≡ put_answer m a b → o ≡ put_after m a b w → put_answer m a b ≡ put_answer (layer m) a b → layer (put_done m a b w) ≡ put_done (layer m) a b w → Put layer m a b w r o
  put_through w answer after same done = record {
    answer = answer ∙ same;
    after = ap layer after ∙ through layer m (put_done m a b w) (put_done (layer m) a b w) _ _ same done;
    below = after ∙ ap (λ t. cond (is_done t) (put_done m a b w) m) (sym answer);
  }

  clear_through : r ≡ clear_answer m a b → o ≡ clear_after m a b → clear_answer m a b ≡ clear_answer (layer m) a b → layer (clear_done m a b) ≡ clear_done (layer m) a b → Cleared layer m a b r o
  clear_through answer after same done = record {
    answer = answer ∙ same;
    after = ap layer after ∙ through layer m (clear_done m a b) (clear_done (layer m) a b) _ _ same done;
    below = after ∙ ap (λ t. cond (is_done t) (clear_done m a b) m) (sym answer);
  }

-- ---- the lock and the screen, where the pair may be written
module _ (set : ℕ) (m : StoreMeaning) (a b : ℕ) (e : Ok tt ≡ pair_answer (lock set m) a b (Ok tt)) where
  may : Writable (lock set m) a b
  may = passed (lock set m) a b (sym e)

  start_out : in_set set m a ≡ false
  start_out = (or_parts _ _ may.start_open).0

  end_out : in_set set m b ≡ false
  end_out = (or_parts _ _ may.end_open).0

  may_below : Writable m a b
  may_below = record { start = may.start; end = may.end; apart = may.apart; start_open = (or_parts _ _ may.start_open).1; end_open = (or_parts _ _ may.end_open).1 }

  may_screened : Writable (screen set m) a b
  may_screened = record { start = may.start; end = may.end; apart = may.apart; start_open = may.start_open; end_open = may.end_open }

  same_tie : m.tie a b ≡ (screen set m).tie a b
  same_tie = sym (cond-false _ None _ (or_from _ _ start_out end_out))

  abbrev on_put : Option Amount → Result Unit Refusal
  on_put t = cond (is_some t) (Ok tt) (cond (eqb m.free 0) (Err StoreFull) (Ok tt))

  abbrev on_clear : Option Amount → Result Unit Refusal
  on_clear t = cond (is_some t) (Ok tt) (Err PairEmpty)

  lock_answer : (r : Result Unit Refusal) → pair_answer m a b r ≡ pair_answer (lock set m) a b r
  lock_answer r = writable_answer m a b r may_below ∙ sym (writable_answer (lock set m) a b r may)

  screen_answer : (r s : Result Unit Refusal) → r ≡ s → pair_answer m a b r ≡ pair_answer (screen set m) a b s
  screen_answer r s h = writable_answer m a b r may_below ∙ h ∙ sym (writable_answer (screen set m) a b s may_screened)

  -- a change of the pair's tie below is one of the tie that is shown
  screen_tie : (o : Option Amount) (x y : ℕ) → cond (in_set set m x || in_set set m y) None (set_tie m.tie a b o x y) ≡ set_tie (screen set m).tie a b o x y
  screen_tie o x y = by_tests (same_pair a b x y) (in_set set m x) (in_set set m y)
      (λ h. ap (in_set set m) (eqb-true x a (and_parts _ _ h).0) ∙ start_out)
      (λ h. ap (in_set set m) (eqb-true y b (and_parts _ _ h).1) ∙ end_out)
    where
      by_tests : (same p q : Bool) → (same ≡ true → p ≡ false) → (same ≡ true → q ≡ false) → cond (p || q) None (cond same o (m.tie x y)) ≡ cond same o (cond (p || q) None (m.tie x y))
      by_tests true p q f g = cond-false _ None o (or_from p q (f refl) (g refl))
      by_tests false p q f g = refl

  module _ (w : Amount) (r : Result Unit Refusal) (o : StoreMeaning) (answer : r ≡ put_answer m a b) (after : o ≡ put_after m a b w) where
    pub lock_put : Put (lock set) m a b w r o
    lock_put = put_through (lock set) m o a b r w answer after (lock_answer _) refl

    pub screen_put : Put (screen set) m a b w r o
    screen_put = put_through (screen set) m o a b r w answer after (screen_answer _ _ (ap on_put same_tie))
        (same_meaning (screen set (put_done m a b w)) (put_done (screen set m) a b w) refl (λ _. refl) (screen_tie (Some w)) (ap (λ (t : Option Amount). cond (is_some t) m.free (m.free - 1)) same_tie))

  module _ (r : Result Unit Refusal) (o : StoreMeaning) (answer : r ≡ clear_answer m a b) (after : o ≡ clear_after m a b) where
    pub lock_clear : Cleared (lock set) m a b r o
    lock_clear = clear_through (lock set) m o a b r answer after (lock_answer _) refl

    pub screen_clear : Cleared (screen set) m a b r o
    screen_clear = clear_through (screen set) m o a b r answer after (screen_answer _ _ (ap on_clear same_tie))
        (same_meaning (screen set (clear_done m a b)) (clear_done (screen set m) a b) refl (λ _. refl) (screen_tie None) refl)
