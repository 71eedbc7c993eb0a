-- Which bytes spell a number, and which spell none. Assumes nothing.
use Rattle.std.proofs.Common.{◌≡◌, ℕ, suc, ◌-◌, ◌^◌, ◌<◌, ◌≤◌, List, ◌∷◌, length, get_or, drop, ℤ, pos, negsuc, decimal, false, eqb, nat_eq, Bool, true, Some, None, Ok, Err, Option, Result, MatchOption, ◌≢◌, Decides, take, refl, sym, ap, ◌∙◌, ⊎_elim, arith, rules, Bor}
use Rattle.std.specs.Int.{IsInRange}
use Rattle.std.specs.Fmt.{signed_decimal}
use Rattle.std.specs.Bool.{then_some}
use Rattle.std.specs.Option.{option_eq}
use Rattle.std.specs.Result.{MatchResult, result_ok}
use Rattle.std.specs.Str.{IsUtf8, bytes_eq}
use Rattle.std.proofs.lemmas.Bool.{eqb-true, eq-eqb}
use Rattle.std.proofs.lemmas.Slice.{first_rest}
use Rattle.std.proofs.lemmas.Slice.Eq.{bytes_eq-Decides}
use Rattle.std.specs.Str.Parse.{digits_value, ParsesUnsigned}
use Rattle.std.proofs.lemmas.Fmt.{decimal_nonempty, decimal_digit, first_decimal, length-decimal-le, digits_decimal, decimal_injective, decimal-digits_value, parse-decimal, IsAscii-from_digits}
use Rattle.std.proofs.lemmas.Str.{IsUtf8-from_ascii}
use Rattle.std.proofs.lemmas.Str.Parse.{IsNumeralModel, numerals_by_value, parse_digits, tells_by_index}
use Rattle.std.proofs.str.Laws.{order}
use Rattle.line_text.specs.Spelling.{Bounded, Numeral, ReadsBack}

pub own : IsNumeralModel (λ ds. (i : ℕ) → i < length ds → IsInRange 48 57 (get_or ds i 0)) (digits_value 10)
own = numerals_by_value _ tells_by_index

-- what the standard library writes for a number is a numeral
pub numeral_decimal : (n : ℕ) → n < 2 ^ 64 → Numeral (decimal n)
numeral_decimal n h = (
  omega (arith, decimal_nonempty n h),
  (λ z. ⊎_elim (λ some. absurd (omega (arith, first_decimal n some h))) (λ none. ap length (decimal_digit n (omega arith))) (order 0 n)),
  digits_decimal own n h,
)

-- bytes that are too many for a number
pub none_long : (limit : ℕ) → limit < 10 ^ 10 → (bs : List ℕ) → 10 < length bs → (n : ℕ) → n ≤ limit → decimal n ≡ bs → ⊥
none_long limit small bs e n h s = omega (arith, length-decimal-le 10 n (omega arith) (omega arith) (omega arith), ap length s)

-- bytes spell one number at most
pub only : (v n : ℕ) (bs : List ℕ) → v < 2 ^ 64 → n < 2 ^ 64 → decimal v ≡ bs → decimal n ≡ bs → n ≡ v
only v n bs hv hn e f = decimal_injective n v hn hv (f ∙ sym e)

-- a test whether x is the value, given that no other could be
pub then_reads : {X : Type 0} (spell : X → List ℕ) (Valid : X → Type 0) (bs : List ℕ) (b : Bool) (x : X) → (b ≡ true → Valid x × (spell x ≡ bs)) → (b ≡ false → (y : X) → Valid y → spell y ≢ bs) → ReadsBack spell Valid bs (then_some b x)
then_reads spell Valid bs true x f g = f refl
then_reads spell Valid bs false x f g = g refl

-- ---- the standard library reads a numeral
module _ (bs : List ℕ) (n : Numeral bs) where
  pub as_text : {E : Type 0} (Q : E → Type 0) (r : Result (Bor (List ℕ)) E) (o : Option (Bor (List ℕ))) → o ≡ result_ok r → MatchResult r (λ s. (s.now ≡ bs) × IsUtf8 bs) (λ e. (IsUtf8 bs → ⊥) × Q e) → MatchOption o ⊥ (λ s. s.now ≡ bs)
  as_text Q (Ok s) o e m = rw e m.0
  as_text Q (Err f) o e m = absurd (m.0 (IsUtf8-from_ascii bs (IsAscii-from_digits bs (own.to bs n.2))))

  pub as_number : {E : Type 0} (r : Result ℕ E) (o : Option ℕ) → o ≡ result_ok r → ParsesUnsigned 32 10 bs r → ReadsBack decimal (λ m. m < 2 ^ 32) bs o
  as_number {E} (Ok m) o e p =
      let d = parse_digits own {E = E} 32 bs (Ok m) p n.2 in
      rw (e, d.1) (d.0.1, decimal-digits_value own bs n.2 n.0 n.1 (omega (arith, d.0.1)))
  as_number {E} (Err f) o e p = rw e (λ m h s. let r : Err f ≡ Ok m = parse-decimal 32 m bs (Err f) h (omega arith) (sym s) p in cc)

-- a list by its first byte, as a pattern takes it apart
pub headed : (b : ℕ) (bs : List ℕ) → 0 < length bs → get_or bs 0 0 ≡ b → bs ≡ b ∷ take (length bs - 1) (drop 1 bs)
headed b bs some e = first_rest bs 0 some ∙ ap (λ x. x ∷ take (length bs - 1) (drop 1 bs)) e

-- no number begins with a minus
no_minus : (n : ℕ) (ds : List ℕ) → n < 2 ^ 64 → decimal n ≡ 45 ∷ ds → ⊥
no_minus n ds h s = omega (arith, (digits_decimal own n h 0 (decimal_nonempty n h)).0, ap (λ l. get_or l 0 0) s)

module _ (bs ds : List ℕ) (is : bs ≡ 45 ∷ ds) where
  pub minus_none : ((n : ℕ) → n ≤ 20000000 → decimal n ≡ ds → ⊥) → (z : ℤ) → Bounded z → signed_decimal z ≡ bs → ⊥
  minus_none none (pos n) h s = no_minus n ds (omega arith) (s ∙ is)
  minus_none none (negsuc n) h s = none (suc n) h (ap (drop 1) (s ∙ is))

  pub minus_zero : (n : ℕ) → n ≡ 0 → decimal n ≡ ds → (z : ℤ) → Bounded z → signed_decimal z ≡ bs → ⊥
  minus_zero n none e (pos m) h s = no_minus m ds (omega arith) (s ∙ is)
  minus_zero n none e (negsuc m) h s =
      omega (arith, decimal_injective (suc m) n (omega arith) (omega arith) (ap (drop 1) (s ∙ is) ∙ sym e))

-- the number that is read is n just where the bytes spell n
pub spells_is : (r : Option ℕ) (n : ℕ) (bs : List ℕ) → n < 2 ^ 64 → ReadsBack decimal (λ m. m ≤ n) bs r → option_eq nat_eq r (Some n) ≡ bytes_eq bs (decimal n)
spells_is None n bs hn h =
    let d : Decides false (bs ≡ decimal n) = ((λ t. cc), (λ q. absurd (h n (omega arith) (sym q)))) in
    search (rules, bytes_eq-Decides, d)
spells_is (Some m) n bs hn h =
    let d : Decides (eqb m n) (bs ≡ decimal n) = ((λ t. sym h.1 ∙ ap decimal (eqb-true m n t)), (λ q. eq-eqb m n (decimal_injective m n (omega arith) hn (h.1 ∙ q)))) in
    search (rules, bytes_eq-Decides, d)
