-- Which bytes spell no line, and what the parts of a line are. Assumes nothing.
use Rattle.std.proofs.Common.{◌≡◌, ℕ, Bool, true, false, List, [], ◌∷◌, ◌++◌, drop, ℤ, Some, None, Option, unwrap_or, is_some, MatchOption, ◌≢◌, sym, ap, ◌∙◌, subst, append-nil, arith, Bor}
use Rattle.std.specs.Fmt.{signed_decimal}
use Rattle.std.proofs.lemmas.List.{append_cancel_right}
use Rattle.line_text.specs.Lines.{spell, spell_amount, Valid}
use Rattle.line_text.specs.Spelling.{Bounded, Name, Numeral, Spaceless}
use Rattle.line_text.specs.declared.lines.Line.{Line}
use Rattle.line_text.specs.declared.lines.Line.TheVariants.{TotalDepth, Marker, Tie, Trailer}
use Rattle.line_text.specs.declared.lines.TieAmount.{TieAmount}
use Rattle.line_text.proofs.Cuts.{heads, cut_same, uncut, spaceless_name, spaceless_numeral, spaceless_signed}

-- ---- amounts: what stands in front of the last ` <`, or all of the bytes where none does
abbrev pub Fronted : List ℕ → Option (Bor (List ℕ)) → Type 0
Fronted bs front = MatchOption front ((x : List ℕ) → bs ≢ x ++ 32 ∷ 60 ∷ []) (λ x. bs ≡ x.now ++ 32 ∷ 60 ∷ [])

fronted_none : (b : Bor (List ℕ)) (front : Option (Bor (List ℕ))) → Fronted b.now front → ((z : ℤ) → Bounded z → signed_decimal z ≢ (unwrap_or front b).now)
    → (z : ℤ) (strict : Bool) → Bounded z → spell_amount (record { mm = z; strict = strict }) ≢ b.now
fronted_none b None other none z true h e = other (signed_decimal z) (sym e)
fronted_none b None other none z false h e = none z h (sym (append-nil (signed_decimal z)) ∙ e)
fronted_none b (Some x) is none z true h e = none z h (append_cancel_right (signed_decimal z) x.now (32 ∷ 60 ∷ []) (e ∙ is))
fronted_none b (Some x) is none z false h e = uncut 32 x.now (60 ∷ []) (signed_decimal z) (spaceless_signed z h) (sym is ∙ sym e ∙ append-nil (signed_decimal z))

pub amount_none : (b : Bor (List ℕ)) (front : Option (Bor (List ℕ))) → Fronted b.now front → ((z : ℤ) → Bounded z → signed_decimal z ≢ (unwrap_or front b).now) → (a : TieAmount) → Bounded a.mm → spell_amount a ≢ b.now
amount_none b front f none a = fronted_none b front f none a.mm a.strict

pub amount_some : (b : Bor (List ℕ)) (front : Option (Bor (List ℕ))) → Fronted b.now front → (z : ℤ) → signed_decimal z ≡ (unwrap_or front b).now → spell_amount (record { mm = z; strict = is_some front }) ≡ b.now
amount_some b None other z e = append-nil (signed_decimal z) ∙ e
amount_some b (Some x) is z e = ap (λ l. l ++ 32 ∷ 60 ∷ []) e ∙ sym is

-- ties
abbrev pub TieParts : List ℕ → List ℕ → List ℕ → Type 0
TieParts s e last = Name s × Name e × ((a : TieAmount) × Bounded a.mm × (spell_amount a ≡ last))

pub tie_of : (bs : List ℕ) (l : Line) → Valid l → spell l ≡ 84 ∷ 32 ∷ bs → (s : List ℕ) × (e : List ℕ) × (last : List ℕ) × (s ++ 32 ∷ (e ++ 32 ∷ last) ≡ bs) × TieParts s e last
tie_of bs (TotalDepth mm) v e = absurd (omega (arith, heads e))
tie_of bs (Marker name) v e = absurd (omega (arith, heads e))
tie_of bs (Tie start end amount) v e = (start.now, end.now, spell_amount amount, ap (drop 2) e, (v.0, v.1, (amount, v.2, λ i. spell_amount amount)))
tie_of bs (Trailer place count) v e = absurd (omega (arith, heads e))

pub tie_uncut : (bs : List ℕ) → Spaceless bs → (l : Line) → Valid l → spell l ≡ 84 ∷ 32 ∷ bs → ⊥
tie_uncut bs sp l v e = let t = tie_of bs l v e in uncut 32 t.0 _ bs sp t.3

module _ (bs x y : List ℕ) (sp : Spaceless x) (is : bs ≡ x ++ 32 ∷ y) where
  pub tie_uncut_end : Spaceless y → (l : Line) → Valid l → spell l ≡ 84 ∷ 32 ∷ bs → ⊥
  tie_uncut_end sy l v e = let t = tie_of bs l v e in uncut 32 t.1 _ y sy (cut_same 32 t.0 _ x y (spaceless_name t.0 t.4.0) sp (t.3 ∙ is)).1

  pub tie_parts : (u w : List ℕ) → Spaceless u → y ≡ u ++ 32 ∷ w → (l : Line) → Valid l → spell l ≡ 84 ∷ 32 ∷ bs → TieParts x u w
  tie_parts u w su js l v e =
      let t = tie_of bs l v e in
      let one = cut_same 32 t.0 _ x y (spaceless_name t.0 t.4.0) sp (t.3 ∙ is) in
      let two = cut_same 32 t.1 _ u w (spaceless_name t.1 t.4.1) su (one.1 ∙ js) in
      (subst Name one.0 t.4.0, subst Name two.0 t.4.1, subst (λ last. (a : TieAmount) × Bounded a.mm × (spell_amount a ≡ last)) two.1 t.4.2)

-- the trailer
pub trailer_of : (bs : List ℕ) (l : Line) → Valid l → spell l ≡ 90 ∷ 32 ∷ bs → (p : List ℕ) × (n : List ℕ) × (p ++ 32 ∷ n ≡ bs) × Numeral p × Numeral n
trailer_of bs (TotalDepth mm) v e = absurd (omega (arith, heads e))
trailer_of bs (Marker name) v e = absurd (omega (arith, heads e))
trailer_of bs (Tie start end amount) v e = absurd (omega (arith, heads e))
trailer_of bs (Trailer place count) v e = (place.now, count.now, ap (drop 2) e, v.0, v.1)

pub trailer_uncut : (bs : List ℕ) → Spaceless bs → (l : Line) → Valid l → spell l ≡ 90 ∷ 32 ∷ bs → ⊥
trailer_uncut bs sp l v e = let t = trailer_of bs l v e in uncut 32 t.0 _ bs sp t.2

pub trailer_parts : (bs x y : List ℕ) → Spaceless x → bs ≡ x ++ 32 ∷ y → (l : Line) → Valid l → spell l ≡ 90 ∷ 32 ∷ bs → Numeral x × Numeral y
trailer_parts bs x y sp is l v e =
    let t = trailer_of bs l v e in
    let one = cut_same 32 t.0 t.1 x y (spaceless_numeral t.0 t.3) sp (t.2 ∙ is) in
    (subst Numeral one.0 t.3, subst Numeral one.1 t.4)
