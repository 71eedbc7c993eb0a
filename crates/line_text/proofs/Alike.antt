-- No two lines that say different things are spelt alike. Assumes nothing.
use Rattle.std.proofs.Common.{◌≡◌, ◌^◌, ◌<◌, Bool, true, false, [], ◌∷◌, drop, ℤ, pos, negsuc, sym, refl, ap, ◌∙◌, append-nil, arith}
use lib.Signed.{mag}
use Rattle.std.specs.Fmt.{signed_decimal}
use Rattle.std.proofs.lemmas.Fmt.{signed_decimal_injective}
use Rattle.std.proofs.lemmas.List.{append_cancel_right}
use Rattle.line_text.specs.Lines.{spell_amount, Unambiguous}
use Rattle.line_text.specs.Lines.Said.{total_depth, marker, tie, trailer}
use Rattle.line_text.specs.Spelling.{Bounded}
use Rattle.line_text.specs.declared.lines.Line.TheVariants.{TotalDepth, Marker, Tie, Trailer}
use Rattle.line_text.proofs.Cuts.{heads, cut_same, uncut, spaceless_name, spaceless_numeral, spaceless_signed}

bounded_mag : (z : ℤ) → Bounded z → mag z < 2 ^ 63
bounded_mag (pos n) h = omega arith
bounded_mag (negsuc n) h = omega arith

signed_same : (y z : ℤ) → Bounded y → Bounded z → signed_decimal y ≡ signed_decimal z → y ≡ z
signed_same y z g h e = signed_decimal_injective y z (bounded_mag y g) (bounded_mag z h) e

amount_same : (y : ℤ) (p : Bool) (z : ℤ) (q : Bool) → Bounded y → Bounded z → spell_amount (record { mm = y; strict = p }) ≡ spell_amount (record { mm = z; strict = q }) → (y ≡ z) × (p ≡ q)
amount_same y true z true g h e = (signed_same y z g h (append_cancel_right (signed_decimal y) (signed_decimal z) (32 ∷ 60 ∷ []) e), refl)
amount_same y true z false g h e = absurd (uncut 32 (signed_decimal y) (60 ∷ []) (signed_decimal z) (spaceless_signed z h) (e ∙ append-nil (signed_decimal z)))
amount_same y false z true g h e = absurd (uncut 32 (signed_decimal z) (60 ∷ []) (signed_decimal y) (spaceless_signed y g) (sym e ∙ append-nil (signed_decimal y)))
amount_same y false z false g h e = (signed_same y z g h (append_cancel_right (signed_decimal y) (signed_decimal z) [] e), refl)

pub unambiguous : Unambiguous
unambiguous (TotalDepth y) (TotalDepth z) v w e = ap total_depth (signed_same y z v w (ap (drop 2) e))
unambiguous (Marker a) (Marker b) v w e = ap marker (ap (drop 2) e)
unambiguous (Tie s t y) (Tie u x z) v w e =
    let one = cut_same 32 s.now _ u.now _ (spaceless_name s.now v.0) (spaceless_name u.now w.0) (ap (drop 2) e) in
    let two = cut_same 32 t.now _ x.now _ (spaceless_name t.now v.1) (spaceless_name x.now w.1) one.1 in
    let three = amount_same y.mm y.strict z.mm z.strict v.2 w.2 two.1 in
    λ i. tie (one.0 i) (two.0 i) (record { mm = three.0 i; strict = three.1 i })
unambiguous (Trailer a b) (Trailer c d) v w e =
    let one = cut_same 32 a.now b.now c.now d.now (spaceless_numeral a.now v.0) (spaceless_numeral c.now w.0) (ap (drop 2) e) in
    λ i. trailer (one.0 i) (one.1 i)
unambiguous (TotalDepth y) (Marker b) v w e = absurd (omega (arith, heads e))
unambiguous (TotalDepth y) (Tie u x z) v w e = absurd (omega (arith, heads e))
unambiguous (TotalDepth y) (Trailer c d) v w e = absurd (omega (arith, heads e))
unambiguous (Marker a) (TotalDepth z) v w e = absurd (omega (arith, heads e))
unambiguous (Marker a) (Tie u x z) v w e = absurd (omega (arith, heads e))
unambiguous (Marker a) (Trailer c d) v w e = absurd (omega (arith, heads e))
unambiguous (Tie s t y) (TotalDepth z) v w e = absurd (omega (arith, heads e))
unambiguous (Tie s t y) (Marker b) v w e = absurd (omega (arith, heads e))
unambiguous (Tie s t y) (Trailer c d) v w e = absurd (omega (arith, heads e))
unambiguous (Trailer a b) (TotalDepth z) v w e = absurd (omega (arith, heads e))
unambiguous (Trailer a b) (Marker c) v w e = absurd (omega (arith, heads e))
unambiguous (Trailer a b) (Tie u x z) v w e = absurd (omega (arith, heads e))
