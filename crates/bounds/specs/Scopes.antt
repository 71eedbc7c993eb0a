-- The ties that count. Assumes nothing.
use Rattle.std.specs.Prelude.{◌+◌, ◌*◌, cond, None, nat_lt}
use Rattle.store.specs.Meaning.{set_tie}
use Rattle.law.specs.Standing.{Ties}
use Rattle.bounds.specs.declared.scope.Scope.{Scope}
use Rattle.bounds.specs.declared.scope.Scope.TheVariants.{All, Changed, First}

abbrev pub in_scope : Ties → Scope → Ties
in_scope t All x y = t x y
in_scope t (Changed c) x y = set_tie t c.start c.end c.amount x y
in_scope t (First k) x y = cond (nat_lt (x * 64 + y) k) (t x y) None
