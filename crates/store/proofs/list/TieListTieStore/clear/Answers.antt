-- The way out of a clear that writes. Assumes nothing.
use Rattle.std.proofs.Common.{ℕ, Option, sym, ◌∙◌, subst}
use Rattle.store.specs.List.{Placed}
use Rattle.store.proofs.Calls.{passed, was_some}
use Rattle.store.proofs.Lists.{gone_after}
use Rattle.store.proofs.list.TieListTieStore.clear.Goals as goal

pub returns-clause-after : goal.returns-clause-after
returns-clause-after c =
    let s = c.args.self.now in
    let there = was_some _ _ _ (sym c.ok_or.ensures.value ∙ c.in_ok-i.was) in
    gone_after _ _ _ _ _ _ (record { sound = s.sound; may = passed _ _ _ (sym c.check_pair.ensures ∙ c.in_ok-check_pair.was) })
    (subst (λ (o : Option ℕ). Placed s.records.now s.count c.args.a c.args.b o) there c.place.ensures)
