use Rattle.std.proofs.Common.{◌≡◌, ℕ, ◌+◌, ◌-◌, ◌<◌, ◌≤◌, ◌∷◌, length, get_or, set, sym, ap, ◌∙◌, inl, inr, arith}
use Rattle.std.proofs.lemmas.List.{get_or-set_same, get_or-set_other}
use Rattle.std.proofs.lemmas.Bool.{cases_eq}
use Rattle.graph.specs.Tree.{climb, way}
use Rattle.table.specs.Climb.{up, over_front, FirstClimb}
use Rattle.table.proofs.Climbs.{climb_last, first_least, first_one}
use Rattle.table.proofs.Ways.{written}
use Rattle.table.proofs.climb.trail.Goals as goal

pub loop-at-preserved : goal.loop-at-preserved
loop-at-preserved c =
    let f = up c.args.rows.now in
    let from = c.args.from in
    let to = c.args.to in
    let k = c.loop-at.steps in
    let on : (j : ℕ) → FirstClimb f j from to → k + 1 ≤ j = λ j o.
    let l : k ≤ j = c.loop-at.invariant.1 j o in
    omega (arith, λ (e : k ≡ j). c.loop-at-test.true (c.loop-at.invariant.0 ∙ ap (λ i. climb f i from) e ∙ o.there)) in
    let lead = c.requires in
    let last : k + 1 ≤ lead.steps = on lead.steps lead.first in
    let short : lead.steps < 64 = lead.short in
    (ap f c.loop-at.invariant.0 ∙ sym (climb_last f k from), on, omega arith)

pub loop-i-preserved : goal.loop-i-preserved
loop-i-preserved c =
    let f = up c.args.rows.now in
    let m = c.args.from in
    let h = c.loop-at.steps in
    let i = c.loop-i.i in
    let here = c.loop-i.here in
    let out = c.loop-i.out in
    let e : h + 1 - i + 1 ≡ h + 1 - (i - 1) = omega arith in
    let back : h + 1 - i ≡ h - (i - 1) = omega arith in
    let lead = c.requires in
    let most : h ≤ lead.steps = c.loop-at.invariant.1 lead.steps lead.first in
    let fits : lead.steps < length c.args.out.now = lead.fits in
    let low : i - 1 < length out = omega arith in (
      ap f c.loop-i.invariant.0 ∙ sym (climb_last f (h + 1 - i) m) ∙ ap (λ k. climb f k m) e,
      (λ k l u. elim (cases_eq k (i - 1)) [
        | inl same ↦ ap (λ x. get_or (set out (i - 1) here) x 0) same ∙ get_or-set_same out (i - 1) here 0 low ∙ c.loop-i.invariant.0 ∙ ap (λ x. climb f x m) back ∙ ap (λ x. climb f (h - x) m) (sym same)
        | inr ne ↦ get_or-set_other out (i - 1) k here 0 ne ∙ c.loop-i.invariant.1 k (omega (arith, ne)) u
      ]),
      (λ k l. let ne : k ≡ i - 1 → ⊥ = λ q. omega arith in get_or-set_other out (i - 1) k here 0 ne ∙ c.loop-i.invariant.2 k l),
    )

pub returns : goal.returns
returns c =
    let f = up c.args.rows.now in
    let m = c.args.from in
    let to = c.args.to in
    let h = c.loop-at.steps in
    let old = c.args.out.now in
    let there : climb f h m ≡ to = sym c.loop-at.invariant.0 ∙ c.loop-at-test.false in
    let lead = c.requires in
    let least : lead.steps ≤ h = first_least f lead.steps h m to lead.first there in
    let most : h ≤ lead.steps = c.loop-at.invariant.1 lead.steps lead.first in
    let fits : lead.steps < length old = lead.fits in
    let is : (k : ℕ) → FirstClimb f k m to → h ≡ k = λ k o.
    let s : lead.steps ≡ k = first_one f lead.steps k m to lead.first o in
    omega arith in
    record {
      count = λ k o. ap (λ x. x + 1) (is k o);
      out = λ k o. written f h m old c.loop-i.out (omega arith) c.loop-i.auto.out (λ k l. c.loop-i.invariant.1 k (omega arith) l) c.loop-i.invariant.2
          ∙ ap (λ x. over_front (x ∷ way f h m) old) there ∙ ap (λ x. over_front (to ∷ way f x m) old) (is k o);
    }
