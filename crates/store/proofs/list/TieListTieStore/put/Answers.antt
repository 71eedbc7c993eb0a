-- The ways out of a put that write. Assumes nothing.
use Rattle.std.proofs.Common.{◌<◌, length, sym, ◌∙◌, arith}
use Rattle.store.proofs.Calls.{passed}
use Rattle.store.proofs.Lists.{over_after, new_after}
use Rattle.store.proofs.list.TieListTieStore.put.Goals as goal

pub returns-in-Some-clause-after : goal.returns-in-Some-clause-after
returns-in-Some-clause-after c =
    let s = c.args.self.now in
    over_after _ _ _ _ _ _ (record { sound = s.sound; may = passed _ _ _ (sym c.check_pair.ensures ∙ c.in_ok-check_pair.was) }) c.in-Some.ensures c.args.amount

pub returns-clause-after : goal.returns-clause-after
returns-clause-after c =
    let s = c.args.self.now in
    let room : s.count < length s.records.now = omega (arith, s.sound.within, c.if-self.false) in
    new_after _ _ _ _ _ (record { sound = s.sound; may = passed _ _ _ (sym c.check_pair.ensures ∙ c.in_ok-check_pair.was) }) c.in_default.ensures c.args.amount room
