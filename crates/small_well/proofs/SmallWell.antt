-- The small well. Assumes nothing.
use Rattle.std.proofs.Common.{◌≡◌, ℕ, Bool, true, ◌&&◌, List, [], ◌∷◌, get_or, ℤ, pos, neg_ℤ, ◌≤ℤ◌, refl, inl, inr, arith}
use Rattle.std.proofs.lemmas.Int.{ints}
use Rattle.std.proofs.lemmas.Bool.{and_parts}
use Rattle.measure.specs.declared.Amount.{Amount}
use Rattle.measure.specs.Bounds.{UpTo, up_to}
use Rattle.measure.specs.Plain.{within_of}
use Rattle.law.specs.declared.call.Answer.TheVariants.{Refused, Opened, Changed}
use Rattle.law.specs.declared.call.Call.{Call}
use Rattle.law.specs.declared.call.Call.TheVariants as call
use Rattle.law.specs.declared.call.Refusal.TheVariants.{Contradiction}
use Rattle.law.specs.Standing.{took, bounds}
use Rattle.law.specs.Calls.{Model, Answered, Table, kind, changes_after, over_front}
use Rattle.law.specs.Calls.Kind.{opening, change}
use Rattle.small_well.specs.SmallWell.{plain, mm, buffer, start, SmallWellRuns}
use Rattle.small_well.proofs.Checks.{table?, table_is, kept?, keeps_by, cycle_is}

abbrev pub sized? : Amount → Bool
sized? a = up_to 5120000000 a.mm && up_to 0 a.marks

pub sized_is : (a : Amount) → sized? a ≡ true → plain.within 256 a
sized_is a h = let p = and_parts (up_to 5120000000 a.mm) (up_to 0 a.marks) h in (within_of 5120000000 a.mm p.0, no_marks a.marks (within_of 0 a.marks p.1))
  where
    no_marks : (z : ℤ) → UpTo 0 z → z ≡ pos 0
    no_marks z h = omega (arith, ints)

-- the model after an accepted call, with this table
abbrev pub next : Model → Call → List ℤ → List ℕ → Model
next m c ds ps = record { standing = took c m.standing; depth = λ k. mm (get_or ds k (pos 0)); parent = λ k. get_or ps k 0; changes = changes_after (kind c) m.changes }

pub opened : (m m' : Model) → table? plain sized? sized_is m'.standing m'.depth m'.parent ≡ true → Table plain opening m m'
opened m m' p = table_is plain sized? sized_is m'.standing m'.depth m'.parent p

changed : (m m' : Model) → table? plain sized? sized_is m'.standing m'.depth m'.parent ≡ true → kept? plain sized? sized_is m m' ≡ true → Table plain change m m'
changed m m' p q = (table_is plain sized? sized_is m'.standing m'.depth m'.parent p, keeps_by plain sized? sized_is m m' q)

pub below_zero : pos 0 ≤ℤ neg_ℤ (pos 1) → ⊥
below_zero h = omega (arith, ints)

module _ (depth : ℕ → Amount) (parent : ℕ → ℕ) where
  abbrev pub m0 : Model
  m0 = start depth parent

  abbrev pub m1 : Model
  m1 = next m0 (call.Open 4) (pos 0 ∷ pos 3000000 ∷ pos 3000000 ∷ pos 3000000 ∷ []) (0 ∷ 0 ∷ 0 ∷ 0 ∷ [])

  pub call1 : Answered plain m0 (call.Open 4) buffer (Opened 4) buffer m1
  call1 = record { outcome = inr (record { standing = refl; table = opened m0 m1 refl; changes = refl; answered = refl; buffer = refl }) }

  abbrev pub m2 : Model
  m2 = next m1 (call.Tie 0 1 (mm (pos 2000000)) 4) (pos 0 ∷ pos 2000000 ∷ pos 3000000 ∷ pos 3000000 ∷ []) (0 ∷ 0 ∷ 0 ∷ 0 ∷ [])

  pub call2 : Answered plain m1 (call.Tie 0 1 (mm (pos 2000000)) 4) buffer (Changed 1 0) buffer m2
  call2 = record { outcome = inr (record { standing = refl; table = changed m1 m2 refl refl; changes = refl; answered = refl; buffer = refl }) }

  abbrev pub m3 : Model
  m3 = next m2 (call.Tie 1 2 (mm (pos 12000)) 4) (pos 0 ∷ pos 2000000 ∷ pos 2012000 ∷ pos 3000000 ∷ []) (0 ∷ 0 ∷ 1 ∷ 0 ∷ [])

  pub call3 : Answered plain m2 (call.Tie 1 2 (mm (pos 12000)) 4) buffer (Changed 1 1) buffer m3
  call3 = record { outcome = inr (record { standing = refl; table = changed m2 m3 refl refl; changes = refl; answered = refl; buffer = refl }) }

  abbrev pub m4 : Model
  m4 = next m3 (call.Tie 2 1 (mm (neg_ℤ (pos 10000))) 4) (pos 0 ∷ pos 2000000 ∷ pos 2012000 ∷ pos 3000000 ∷ []) (0 ∷ 0 ∷ 1 ∷ 0 ∷ [])

  pub call4 : Answered plain m3 (call.Tie 2 1 (mm (neg_ℤ (pos 10000))) 4) buffer (Changed 0 0) buffer m4
  call4 = record { outcome = inr (record { standing = refl; table = changed m3 m4 refl refl; changes = refl; answered = refl; buffer = refl }) }

  pub call5 : Answered plain m4 (call.Tie 1 2 (mm (pos 9999)) 4) buffer (Refused (Contradiction 2)) (over_front (2 ∷ 1 ∷ []) buffer) m4
  call5 = record {
    outcome = inl (record {
      markers = 2 ∷ 1 ∷ [];
      sum = neg_ℤ (pos 1);
      cycle = cycle_is plain.group 4 (bounds plain (took (call.Tie 1 2 (mm (pos 9999)) 4) m4.standing)) 2 1 [] (neg_ℤ (pos 1)) refl refl refl;
      below = below_zero;
      closes = (refl, refl);
      answered = refl;
      buffer = refl;
      same = refl;
    });
  }

  abbrev pub m5 : Model
  m5 = next m4 (call.Tie 1 2 (mm (pos 10000)) 4) (pos 0 ∷ pos 2000000 ∷ pos 2010000 ∷ pos 3000000 ∷ []) (0 ∷ 0 ∷ 1 ∷ 0 ∷ [])

  pub call6 : Answered plain m4 (call.Tie 1 2 (mm (pos 10000)) 4) buffer (Changed 1 0) buffer m5
  call6 = record { outcome = inr (record { standing = refl; table = changed m4 m5 refl refl; changes = refl; answered = refl; buffer = refl }) }

  abbrev pub m6 : Model
  m6 = next m5 (call.Trial 0 2 (mm (pos 2005000)) 4) (pos 0 ∷ pos 1995000 ∷ pos 2005000 ∷ pos 3000000 ∷ []) (0 ∷ 2 ∷ 0 ∷ 0 ∷ [])

  pub call7 : Answered plain m5 (call.Trial 0 2 (mm (pos 2005000)) 4) buffer (Changed 2 2) buffer m6
  call7 = record { outcome = inr (record { standing = refl; table = changed m5 m6 refl refl; changes = refl; answered = refl; buffer = refl }) }

  abbrev pub m7 : Model
  m7 = next m6 (call.RollBack 7) (pos 0 ∷ pos 2000000 ∷ pos 2010000 ∷ pos 3000000 ∷ []) (0 ∷ 0 ∷ 1 ∷ 0 ∷ [])

  pub call8 : Answered plain m6 (call.RollBack 7) buffer (Changed 2 2) buffer m7
  call8 = record { outcome = inr (record { standing = refl; table = changed m6 m7 refl refl; changes = refl; answered = refl; buffer = refl }) }

  abbrev pub m8 : Model
  m8 = next m7 (call.Untie 0 1) (pos 0 ∷ pos 2990000 ∷ pos 3000000 ∷ pos 3000000 ∷ []) (0 ∷ 2 ∷ 0 ∷ 0 ∷ [])

  pub call9 : Answered plain m7 (call.Untie 0 1) buffer (Changed 2 2) buffer m8
  call9 = record { outcome = inr (record { standing = refl; table = changed m7 m8 refl refl; changes = refl; answered = refl; buffer = refl }) }

  pub call10 : Answered plain m8 (call.Tie 3 0 (mm (neg_ℤ (pos 3000001))) 4) buffer (Refused (Contradiction 2)) (over_front (0 ∷ 3 ∷ []) buffer) m8
  call10 = record {
    outcome = inl (record {
      markers = 0 ∷ 3 ∷ [];
      sum = neg_ℤ (pos 1);
      cycle = cycle_is plain.group 4 (bounds plain (took (call.Tie 3 0 (mm (neg_ℤ (pos 3000001))) 4) m8.standing)) 0 3 [] (neg_ℤ (pos 1)) refl refl refl;
      below = below_zero;
      closes = (refl, refl);
      answered = refl;
      buffer = refl;
      same = refl;
    });
  }

pub small_well_runs : SmallWellRuns
small_well_runs d p = (
  m1 d p,
  call1 d p,
  record { depth1 = refl; parent1 = refl; depth2 = refl; parent2 = refl },
  (
    m2 d p,
    call2 d p,
    record { depth1 = refl; parent1 = refl; depth2 = refl; parent2 = refl },
    (
      m3 d p,
      call3 d p,
      record { depth1 = refl; parent1 = refl; depth2 = refl; parent2 = refl },
      (
        m4 d p,
        call4 d p,
        record { depth1 = refl; parent1 = refl; depth2 = refl; parent2 = refl },
        (
          m4 d p,
          call5 d p,
          record { depth1 = refl; parent1 = refl; depth2 = refl; parent2 = refl },
          (
            m5 d p,
            call6 d p,
            record { depth1 = refl; parent1 = refl; depth2 = refl; parent2 = refl },
            (
              m6 d p,
              call7 d p,
              record { depth1 = refl; parent1 = refl; depth2 = refl; parent2 = refl },
              (
                m7 d p,
                call8 d p,
                record { depth1 = refl; parent1 = refl; depth2 = refl; parent2 = refl },
                (
                  m8 d p,
                  call9 d p,
                  record { depth1 = refl; parent1 = refl; depth2 = refl; parent2 = refl },
                  (
                    m8 d p,
                    call10 d p,
                    record { depth1 = refl; parent1 = refl; depth2 = refl; parent2 = refl },
                    tt,
                  ),
                ),
              ),
            ),
          ),
        ),
      ),
    ),
  ),
)
