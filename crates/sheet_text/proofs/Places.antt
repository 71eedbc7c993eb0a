-- Where a name stands, and lists that grow by one. Assumes nothing.
use Rattle.std.proofs.Common.{◌≡◌, ℕ, zero, suc, not, position, ◌+◌, ◌<◌, false, ◌⊎◌, ltb, List, [], ◌∷◌, ◌++◌, length, get_or, Some, None, sym, refl, ap, cond, Bor, ◌∙◌, subst, inl, inr, ⊎_elim, arith}
use lib.ListN.{length-map}
use Rattle.std.specs.Str.{bytes_eq}
use Rattle.std.proofs.lemmas.Slice.Eq.{bytes_eq-Decides}
use Rattle.std.proofs.lemmas.List.{length_push, get_or_push, get_or_append_left}
use Rattle.std.proofs.str.Laws.{order}
use Rattle.std.proofs.lemmas.Bool.{cases_Bool, cond-true}
use Rattle.line_text.specs.Spelling.{Name}
use Rattle.sheet_text.specs.Format.{Named, Tied}
use Rattle.std.specs.List.{position_or_len}
use Rattle.std.proofs.lemmas.List.Elements.{All-from_get_or, All-get_or, All-push}
use Rattle.std.proofs.lemmas.List.Quantifiers.{position-Some}
use Rattle.std.proofs.lemmas.List.Sums.{fails_before_first}
use Rattle.sheet_text.specs.Naming.{texts, place_of}
use Rattle.sheet_text.specs.Tying.{no_tie, tied_in}
use Rattle.sheet_text.specs.declared.ties.Tie.{Tie}
use Rattle.line_text.specs.Spelling.{Bounded}
use Rattle.sheet_text.proofs.Listed.{tied_at, true_false}

pub some_none : {X : Type 0} {x : X} → Some x ≡ None → ⊥
some_none e = cc

pub found : (xs : List (List ℕ)) (name : List ℕ) (j : ℕ) → place_of xs name ≡ Some j → (j < length xs) × (get_or xs j [] ≡ name)
found xs name j e = let r = position-Some (λ x. bytes_eq x name) xs j [] e in (r.0, (bytes_eq-Decides (get_or xs j []) name).0 r.1)

pub missing : (xs : List (List ℕ)) (name : List ℕ) → place_of xs name ≡ None → (k : ℕ) → k < length xs → get_or xs k [] ≡ name → ⊥
missing xs name e k l s =
    let place = position_or_len (λ x. bytes_eq x name) xs in
    elim (cases_Bool (ltb place (length xs))) [
      | inl t ↦ some_none (sym (cond-true (ltb place (length xs)) (Some place) None t) ∙ e)
      | inr t ↦ true_false (sym ((bytes_eq-Decides (get_or xs k []) name).1 s) ∙ fails_before_first (λ x. bytes_eq x name) xs k [] (grind (arith, t)))
    ]

-- the bytes at a place of a list of texts
pub texts_at : (rs : List (Bor (List ℕ))) (i : ℕ) (d : Bor (List ℕ)) → i < length rs → get_or (texts rs) i [] ≡ (get_or rs i d).now
texts_at [] i d h = absurd (omega arith)
texts_at (r ∷ rs) zero d h = refl
texts_at (r ∷ rs) (suc i) d h = texts_at rs i d (omega arith)

place_or_len_texts : (rs : List (Bor (List ℕ))) (name : List ℕ) → position_or_len (λ r. bytes_eq r.now name) rs ≡ position_or_len (λ x. bytes_eq x name) (texts rs)
place_or_len_texts [] name = refl
place_or_len_texts (r ∷ rs) name = ap (λ n. cond (not (bytes_eq r.now name)) (1 + n) 0) (place_or_len_texts rs name)

pub place_of_texts : (rs : List (Bor (List ℕ))) (name : List ℕ) → position (λ r. bytes_eq r.now name) rs ≡ place_of (texts rs) name
place_of_texts rs name =
    let p = place_or_len_texts rs name in
    let q = length-map rs (λ (r : Bor (List ℕ)). r.now) in
    λ i. cond (ltb (p i) (sym q i)) (Some (p i)) None

before_or_last : {X : Type 0} (xs : List X) (i : ℕ) → i < length xs + 1 → (i < length xs) ⊎ (length xs ≡ i)
before_or_last xs i l = ⊎_elim (λ b. inl b) (λ b. inr (omega arith)) (order i (length xs))

module _ {X : Type 0} (xs : List X) (x d : X) where
  pub each_push : (P : X → Type 0) → ((i : ℕ) → i < length xs → P (get_or xs i d)) → P x → (i : ℕ) → i < length (xs ++ x ∷ []) → P (get_or (xs ++ x ∷ []) i d)
  each_push P all here i l = All-get_or P (xs ++ x ∷ []) i d l (All-push P xs x (All-from_get_or P xs d all) here)

  pub apart_push : (R : X → X → Type 0) → ((i j : ℕ) → i < length xs → j < length xs → R (get_or xs i d) (get_or xs j d) → i ≡ j)
      → ((i : ℕ) → i < length xs → R (get_or xs i d) x → ⊥) → ((i : ℕ) → i < length xs → R x (get_or xs i d) → ⊥)
      → (i j : ℕ) → i < length (xs ++ x ∷ []) → j < length (xs ++ x ∷ []) → R (get_or (xs ++ x ∷ []) i d) (get_or (xs ++ x ∷ []) j d) → i ≡ j
  apart_push R all left right i j l m r =
      let long = length_push xs x in
      elim (before_or_last xs i (omega arith)) [
        | inl b ↦ elim (before_or_last xs j (omega arith)) [
          | inl c ↦ all i j b c (subst (λ y. R y (get_or xs j d)) (get_or_append_left xs (x ∷ []) d i b) (subst (λ y. R (get_or (xs ++ x ∷ []) i d) y) (get_or_append_left xs (x ∷ []) d j c) r))
          | inr f ↦ absurd (left i b (subst (λ y. R y x) (get_or_append_left xs (x ∷ []) d i b) (subst (λ y. R (get_or (xs ++ x ∷ []) i d) y) (get_or_push xs x d j f) r)))
        ]
        | inr e ↦ elim (before_or_last xs j (omega arith)) [
          | inl c ↦ absurd (right j c (subst (λ y. R y (get_or xs j d)) (get_or_push xs x d i e) (subst (λ y. R (get_or (xs ++ x ∷ []) i d) y) (get_or_append_left xs (x ∷ []) d j c) r)))
          | inr f ↦ omega arith
        ]
      ]

pub named_push : (ns : List (List ℕ)) (name : List ℕ) → Named ns → length ns < 64 → Name name → ((k : ℕ) → k < length ns → get_or ns k [] ≡ name → ⊥) → Named (ns ++ name ∷ [])
named_push ns name n few good new = record {
  few = omega (arith, length_push ns name);
  good = each_push ns name [] Name n.good good;
  apart = apart_push ns name [] (λ x y. x ≡ y) n.apart new (λ k l e. new k l (sym e));
}

pub untied : (ts : List Tie) (a b : ℕ) → tied_in ts a b ≡ false → (k : ℕ) → k < length ts → (get_or ts k no_tie).start ≡ a → (get_or ts k no_tie).end ≡ b → ⊥
untied ts a b e k l p q = true_false (sym (tied_at ts k no_tie a b l p q) ∙ e)

pub tied_push : (n room : ℕ) (ts : List Tie) (t : Tie) → Tied n room ts → length ts < room → t.start < n → t.end < n → (t.start ≡ t.end → ⊥) → Bounded t.amount.mm → tied_in ts t.start t.end ≡ false → Tied n room (ts ++ t ∷ [])
tied_push n room ts t s few a b ab near new = record {
  few = omega (arith, length_push ts t);
  starts = each_push ts t no_tie (λ u. u.start < n) s.starts a;
  ends = each_push ts t no_tie (λ u. u.end < n) s.ends b;
  unlike = each_push ts t no_tie (λ u. u.start ≡ u.end → ⊥) s.unlike ab;
  bounded = each_push ts t no_tie (λ u. Bounded u.amount.mm) s.bounded near;
  apart = λ i j l m p q. apart_push ts t no_tie (λ u v. (u.start ≡ v.start) × (u.end ≡ v.end)) (λ i j l m r. s.apart i j l m r.0 r.1)
      (λ k l r. untied ts t.start t.end new k l r.0 r.1) (λ k l r. untied ts t.start t.end new k l (sym r.0) (sym r.1)) i j l m (p, q);
}
