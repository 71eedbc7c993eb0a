use Rattle.std.proofs.Common.{Ok, sym, subst}
use Rattle.store.specs.Meaning.{set_tie}
use Rattle.solver.specs.Changing.{LeadsTo}
use Rattle.solver.specs.Held.{Held}
use Rattle.solver.specs.Inside.{held}
use Rattle.solver.proofs.Settling.{any_count, settled}
use Rattle.solver.proofs.solver.Solver.settle.Goals as goal

pub invariant_of-self : goal.invariant_of-self
invariant_of-self g c =
    let opened = rw (← c.self.view_is) at c.requires.opened in
    let leads = subst (λ (s : Held g.row.S.Denot). LeadsTo g.M.Measure s.total (g.S.TieStore.meaning s.store).count (set_tie (g.S.TieStore.meaning s.store).tie c.args.from c.args.to c.args.amount) c.args.from c.args.to s.table (Ok c.in_ok-next.next))
    (sym c.self.view_is) c.in_ok-next.ensures in
    any_count g.S.TieStore g.M.Measure _ c.saturating_add-self-inside.result
    (settled g.S.TieStore g.M.Measure (held c.self.inside) c.self.invariant.suits opened c.args.from c.args.to c.args.amount c.requires.admitted
    c.set_tie.new.store c.set_tie.ensures c.adopt.result c.in_ok-next.next c.adopt.new.table leads c.adopt.ensures).0

pub returns : goal.returns
returns g c =
    let opened = rw (← c.self.view_is) at c.requires.opened in
    let leads = subst (λ (s : Held g.row.S.Denot). LeadsTo g.M.Measure s.total (g.S.TieStore.meaning s.store).count (set_tie (g.S.TieStore.meaning s.store).tie c.args.from c.args.to c.args.amount) c.args.from c.args.to s.table (Ok c.in_ok-next.next))
    (sym c.self.view_is) c.in_ok-next.ensures in
    rw (← c.self.view_is, c.saturating_add-self-inside.ensures)
    (settled g.S.TieStore g.M.Measure (held c.self.inside) c.self.invariant.suits opened c.args.from c.args.to c.args.amount c.requires.admitted
    c.set_tie.new.store c.set_tie.ensures c.adopt.result c.in_ok-next.next c.adopt.new.table leads c.adopt.ensures).1
