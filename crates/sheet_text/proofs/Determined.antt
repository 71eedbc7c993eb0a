-- Of a text one thing comes. Assumes nothing.
use Rattle.std.proofs.Common.{◌≡◌, ℕ, ◌+◌, Bool, true, false, cond, List, length, Ok, Err, Result, sym, refl, ap, ◌∙◌, subst, inl, inr}
use Rattle.line_text.proofs.Alike.{unambiguous}
use Rattle.line_text.proofs.Cuts.{cut_same, uncut}
use Rattle.sheet_text.specs.Reading.{Known, read_line, Good, Faulty, Outcome}
use Rattle.sheet_text.specs.Reading.Outcome.{ended, good, faulty}
use Rattle.sheet_text.specs.declared.faults.Code.{Code}
use Rattle.sheet_text.specs.declared.faults.Fault.{Fault}

pub err_ok : {X E : Type 0} {e : E} {x : X} → ◌≡◌ {A = Result X E} (Err e) (Ok x) → ⊥
err_ok e = cc

pub ok_same : {X E : Type 0} {x y : X} → ◌≡◌ {A = Result X E} (Ok x) (Ok y) → x ≡ y
ok_same e = cc

pub err_same : {X E : Type 0} {x y : E} → ◌≡◌ {A = Result X E} (Err x) (Err y) → x ≡ y
err_same e = cc

-- where a choice between an answer and a refusal answers
pub if_ok : {X E : Type 0} (b : Bool) (r : Result X E) (c : E) {x : X} → cond b r (Err c) ≡ Ok x → (b ≡ true) × (r ≡ Ok x)
if_ok true r c e = (refl, e)
if_ok false r c e = absurd (err_ok e)

pub else_ok : {X E : Type 0} (b : Bool) (r : Result X E) (c : E) {x : X} → cond b (Err c) r ≡ Ok x → (b ≡ false) × (r ≡ Ok x)
else_ok true r c e = absurd (err_ok e)
else_ok false r c e = (refl, e)

module _ (k : Known) (place : ℕ) (bs : List ℕ) where
  good_same : (m n : Known) → Good k place bs m → Good k place bs n → m ≡ n
  good_same m n (l, v, s, e) (o, w, t, f) = ok_same (sym e ∙ ap (read_line k place) (unambiguous l o v w (s ∙ sym t)) ∙ f)

  not_faulty : (m : Known) (c : Code) → Good k place bs m → Faulty k place bs c → ⊥
  not_faulty m c (l, v, s, e) (inl f) = f.1 l v s
  not_faulty m c (l, v, s, e) (inr (o, w, t, f)) = err_ok (sym f ∙ ap (read_line k place) (unambiguous o l w v (t ∙ sym s)) ∙ e)

  faulty_same : (c d : Code) → Faulty k place bs c → Faulty k place bs d → c ≡ d
  faulty_same c d (inl f) (inl g) = f.0 ∙ sym g.0
  faulty_same c d (inl f) (inr (o, w, t, g)) = absurd (f.1 o w t)
  faulty_same c d (inr (l, v, s, f)) (inl g) = absurd (g.1 l v s)
  faulty_same c d (inr (l, v, s, f)) (inr (o, w, t, g)) = err_same (sym f ∙ ap (read_line k place) (unambiguous l o v w (s ∙ sym t)) ∙ g)

pub outcome_same : (r s : Result Known Fault) {k : Known} {place : ℕ} {rest : List ℕ} → Outcome r k place rest → Outcome s k place rest → r ≡ s
outcome_same r s (ended w e) (ended x f) = e ∙ sym f
outcome_same r s {rest = rest} (ended w e) (good m line after x cut g o) = absurd (uncut 10 line after rest w (sym cut))
outcome_same r s {rest = rest} (ended w e) (faulty c line after x cut g f) = absurd (uncut 10 line after rest w (sym cut))
outcome_same r s {rest = rest} (good m line after w cut g o) (ended x f) = absurd (uncut 10 line after rest x (sym cut))
outcome_same r s {k = k} {place = place} (good m line after w cut g o) (good n other later x also h p) =
    let same = cut_same 10 line after other later w x (sym cut ∙ also) in
    let next : n ≡ m = good_same k place line n m (subst (λ bs. Good k place bs n) (sym same.0) h) g in
    outcome_same r s o (subst (λ bs. Outcome s m (place + (length line + 1)) bs) (sym same.1) (subst (λ bs. Outcome s m (place + (length bs + 1)) later) (sym same.0) (subst (λ k. Outcome s k (place + (length other + 1)) later) next p)))
outcome_same r s {k = k} {place = place} (good m line after w cut g o) (faulty c other later x also h f) =
    let same = cut_same 10 line after other later w x (sym cut ∙ also) in
    absurd (not_faulty k place line m c g (subst (λ bs. Faulty k place bs c) (sym same.0) h))
outcome_same r s {rest = rest} (faulty c line after w cut g e) (ended x f) = absurd (uncut 10 line after rest x (sym cut))
outcome_same r s {k = k} {place = place} (faulty c line after w cut g e) (good n other later x also h p) =
    let same = cut_same 10 line after other later w x (sym cut ∙ also) in
    absurd (not_faulty k place line n c (subst (λ bs. Good k place bs n) (sym same.0) h) g)
outcome_same r s {k = k} {place = place} (faulty c line after w cut g e) (faulty d other later x also h f) =
    let same = cut_same 10 line after other later w x (sym cut ∙ also) in
    let code : c ≡ d = faulty_same k place line c d g (subst (λ bs. Faulty k place bs d) (sym same.0) h) in
    e ∙ (λ i. Err (record { code = code i; place = place })) ∙ sym f
