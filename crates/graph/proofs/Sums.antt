-- Sums and orders in an ordered group. Assumes nothing.
use Rattle.std.proofs.Common.{◌≡◌, sym, ap, ◌∙◌, subst, ⊎_elim}
use Rattle.measure.specs.Group.{OrderedGroup}

module _ (g : OrderedGroup) where
  open g use {carrier, neutral, plus, inverse, le, assoc, comm, plus_neutral, plus_inverse}

  -- of two elements the one is no more than the other, or not
  pub le_dec : (a b : carrier) → Dec (le a b)
  le_dec a b = ⊎_elim yes (λ h. no h.1) (g.le_total a b)

  pub neutral_left : (a : carrier) → plus neutral a ≡ a
  neutral_left a = comm neutral a ∙ plus_neutral a

  pub left_comm : (a b c : carrier) → plus a (plus b c) ≡ plus b (plus a c)
  left_comm a b c = sym (assoc a b c) ∙ ap (λ x. plus x c) (comm a b) ∙ assoc b a c

  pub le_of_eq : {a b : carrier} → a ≡ b → le a b
  le_of_eq {a} e = subst (λ x. le a x) e (g.le_refl a)

  pub add_back : (a c : carrier) → plus (plus a c) (inverse c) ≡ a
  add_back a c = assoc a c (inverse c) ∙ ap (plus a) (plus_inverse c) ∙ plus_neutral a

  pub cancel : (a b c : carrier) → le (plus a c) (plus b c) → le a b
  cancel a b c h = subst (λ x. le x b) (add_back a c) (subst (λ x. le (plus (plus a c) (inverse c)) x) (add_back b c) (g.le_plus (plus a c) (plus b c) (inverse c) h))

  pub cancel_eq : (a b c : carrier) → plus a c ≡ plus b c → a ≡ b
  cancel_eq a b c e = sym (add_back a c) ∙ ap (λ x. plus x (inverse c)) e ∙ add_back b c

  -- two orders, added up
  pub both : {a b c d : carrier} → le a b → le c d → le (plus a c) (plus b d)
  both {a} {b} {c} {d} h k =
      g.le_trans (plus a c) (plus b c) (plus b d) (g.le_plus a b c h)
      (subst (λ x. le x (plus b d)) (comm c b) (subst (λ x. le (plus c b) x) (comm d b) (g.le_plus c d b k)))

  -- from p ≤ q: x ≤ y where x + q and y + p are one sum
  pub weigh : {p q : carrier} (x y : carrier) → le p q → plus x q ≡ plus y p → le x y
  weigh {p} {q} x y h e = cancel x y p (subst (λ z. le (plus x p) z) e (both (g.le_refl x) h))

  -- the two ends of a step, joined
  pub chain_le : (dx dm dy c r s : carrier) → le dm (plus dx c) → le dy (plus dm r) → s ≡ plus c r → le dy (plus dx s)
  chain_le dx dm dy c r s h k e = rw e (weigh _ _ (both h k) (simp (assoc, comm, left_comm)))

  pub from_zero : (x s : carrier) → le x (plus x s) → le neutral s
  from_zero x s h = weigh _ _ h (simp (comm, neutral_left))

  pub zero_start : (o x s : carrier) → o ≡ neutral → le x (plus o s) → le x s
  zero_start o x s e h = rw neutral_left at (rw e at h)

  -- a step and a tail that together lose nothing lose nothing each
  pub tight_head : (dx dm dy c r s : carrier) → s ≡ plus c r → le dm (plus dx c) → le dy (plus dm r) → le (plus dx s) dy → dm ≡ plus dx c
  tight_head dx dm dy c r s e step tail h = g.le_antisym dm (plus dx c) step (weigh _ _ (both tail (rw e at h)) (simp (assoc, comm, left_comm)))

  pub tight_tail : (dx dm dy c r s : carrier) → s ≡ plus c r → le dm (plus dx c) → le dy (plus dm r) → le (plus dx s) dy → le (plus dm r) dy
  tight_tail dx dm dy c r s e step tail h = weigh _ _ (both step (rw e at h)) (simp (assoc, comm, left_comm))

  pub lowered_le : (x y c c' : carrier) → le x (plus y c) → le c c' → le x (plus y c')
  lowered_le x y c c' h k = weigh _ _ (both h k) (simp (assoc, comm, left_comm))

  -- Lx + dy ≤ Ly + dx and dx ≤ dy + c
  pub stays : (Lx Ly dx dy c : carrier) → le (plus Lx dy) (plus Ly dx) → le dx (plus dy c) → le Lx (plus Ly c)
  stays Lx Ly dx dy c h k = weigh _ _ (both h k) (simp (assoc, comm, left_comm))

  -- the same in the order's own terms, one step on
  pub ahead_on : (Lx Ly dx dy dz c : carrier) → le (plus Lx dy) (plus Ly dx) → le dz (plus dy c) → le (plus Lx dz) (plus (plus Ly c) dx)
  ahead_on Lx Ly dx dy dz c h k = weigh _ _ (both h k) (simp (assoc, comm, left_comm))

  pub self_le : (x y c : carrier) → le x (plus x c) → le y (plus y c)
  self_le x y c h = weigh _ _ h (simp (assoc, comm, left_comm))

  pub mono_left : (c x y : carrier) → le x y → le (plus c x) (plus c y)
  mono_left c x y h = both (g.le_refl c) h

  -- z has not fallen, and hangs on u by a tight edge that is kept
  pub not_fallen : (Lz Lu dz du v : carrier) → le dz Lz → dz ≡ plus du v → le Lz (plus Lu v) → le du Lu
  not_fallen Lz Lu dz du v h e k = weigh _ _ (both (rw e at h) k) (simp (assoc, comm, left_comm))

  pub tight_again : (Lb La da c v : carrier) → Lb ≡ plus La v → le c v → le Lb (plus da c) → le da La → Lb ≡ plus La c
  tight_again Lb La da c v e h k m =
      g.le_antisym Lb (plus La c) (g.le_trans _ _ _ k (g.le_plus da La c m)) (rw e (mono_left La c v h))

  pub ahead_first : (Lx dx Ly dy du c : carrier) → Lx ≡ dx → Ly ≡ plus du c → le dy (plus du c) → le (plus Lx dy) (plus Ly dx)
  ahead_first Lx dx Ly dy du c e k h = rw (e, k) (weigh _ _ h (simp (assoc, comm, left_comm)))

  -- a label is no lower by a walk from one that stands
  pub stands_on : (Ly Lu dy du v : carrier) → Ly ≡ plus Lu v → le du Lu → le dy (plus du v) → le dy Ly
  stands_on Ly Lu dy du v e h k = rw e (weigh _ _ (both h k) (simp (assoc, comm, left_comm)))

  -- L = da + c + s, da = dz + t, and the cycle s + (v + t) and c
  pub cycle_negative : (L da dz c s t v r : carrier) → L ≡ plus (plus da c) s → da ≡ plus dz t → le r (plus s (plus v t)) → le neutral (plus r c) → le dz (plus L v)
  cycle_negative L da dz c s t v r e e' h k = rw (e, e') (weigh _ _ (both h k) (simp (assoc, comm, left_comm, plus_neutral, neutral_left)))
