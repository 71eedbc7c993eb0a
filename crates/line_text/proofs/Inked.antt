-- No line holds the byte that ends lines. Assumes nothing.
use Rattle.std.proofs.Common.{ℕ, suc, ◌≤◌, Bool, true, false, List, [], ◌∷◌, ◌++◌, ℤ, pos, negsuc, decimal, arith}
use Rattle.std.specs.Fmt.{signed_decimal}
use Rattle.std.specs.List.{AllByRecursion as All}
use Rattle.std.proofs.ByRecursion.{All-get_or, All-from_get_or, All-append}
use Rattle.line_text.specs.Lines.{spell, spell_amount, Valid}
use Rattle.line_text.specs.Spelling.{Bounded, Name, Numeral, Without}
use Rattle.line_text.specs.declared.lines.Line.{Line}
use Rattle.line_text.specs.declared.lines.Line.TheVariants.{TotalDepth, Marker, Tie, Trailer}
use Rattle.line_text.proofs.Numerals.{numeral_decimal}

-- bytes from 32 up
abbrev Inked : List ℕ → Type 0
Inked bs = All (λ b. 32 ≤ b) bs

inked_name : (bs : List ℕ) → Name bs → Inked bs
inked_name bs n = All-from_get_or (λ b. 32 ≤ b) bs 0 (λ i l. omega (arith, (n.2 i l).0))

inked_numeral : (bs : List ℕ) → Numeral bs → Inked bs
inked_numeral bs n = All-from_get_or (λ b. 32 ≤ b) bs 0 (λ i l. omega (arith, (n.2 i l).0))

inked_signed : (z : ℤ) → Bounded z → Inked (signed_decimal z)
inked_signed (pos n) h = inked_numeral (decimal n) (numeral_decimal n (omega arith))
inked_signed (negsuc n) h = (omega arith, inked_numeral (decimal (suc n)) (numeral_decimal (suc n) (omega arith)))

inked_amount : (z : ℤ) (strict : Bool) → Bounded z → Inked (spell_amount (record { mm = z; strict = strict }))
inked_amount z true h = All-append (λ b. 32 ≤ b) (signed_decimal z) (32 ∷ 60 ∷ []) (inked_signed z h) (omega arith, (omega arith, tt))
inked_amount z false h = All-append (λ b. 32 ≤ b) (signed_decimal z) [] (inked_signed z h) tt

inked_two : (x y : List ℕ) → Inked x → Inked y → Inked (x ++ 32 ∷ y)
inked_two x y p q = All-append (λ b. 32 ≤ b) x (32 ∷ y) p (omega arith, q)

inked_keyed : (c : ℕ) (bs : List ℕ) → 32 ≤ c → Inked bs → Inked (c ∷ 32 ∷ bs)
inked_keyed c bs h i = (h, (omega arith, i))

inked : (l : Line) → Valid l → Inked (spell l)
inked (TotalDepth mm) v = inked_keyed 72 _ (omega arith) (inked_signed mm v)
inked (Marker name) v = inked_keyed 77 _ (omega arith) (inked_name name.now v)
inked (Tie start end amount) v =
    inked_keyed 84 _ (omega arith)
    (inked_two start.now _ (inked_name start.now v.0) (inked_two end.now _ (inked_name end.now v.1) (inked_amount amount.mm amount.strict v.2)))
inked (Trailer place count) v =
    inked_keyed 90 _ (omega arith) (inked_two place.now _ (inked_numeral place.now v.0) (inked_numeral count.now v.1))

pub unended : (l : Line) → Valid l → Without 10 (spell l)
unended l v i h e = omega (arith, All-get_or (λ b. 32 ≤ b) (spell l) i 0 h (inked l v))
