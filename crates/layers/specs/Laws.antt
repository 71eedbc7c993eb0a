-- A layer over a lawful store is lawful. Assumes nothing.
use Rattle.std.specs.Prelude.{◌≡◌, ℕ, None, refl}
use Rattle.std.proofs.lemmas.Bool.{cond_both}
use Rattle.store.specs.Meaning.{StoreMeaning, Lawful}
use Rattle.layers.specs.Layers.{lock, screen}

pub lock_lawful : (set : ℕ) (m : StoreMeaning) → Lawful m → Lawful (lock set m)
lock_lawful set m l = record { low = l.low; high = l.high; unknown_start = l.unknown_start; unknown_end = l.unknown_end; same = l.same }

pub screen_lawful : (set : ℕ) (m : StoreMeaning) → Lawful m → Lawful (screen set m)
screen_lawful set m l = record {
  low = l.low;
  high = l.high;
  unknown_start = λ a b k. cond_both _ _ _ (λ o. o ≡ None) (λ _. refl) (λ _. l.unknown_start a b k);
  unknown_end = λ a b k. cond_both _ _ _ (λ o. o ≡ None) (λ _. refl) (λ _. l.unknown_end a b k);
  same = λ a. cond_both _ _ _ (λ o. o ≡ None) (λ _. refl) (λ _. l.same a);
}
