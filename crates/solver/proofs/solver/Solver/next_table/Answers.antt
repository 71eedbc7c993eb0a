use Rattle.std.proofs.Common.{Some, Ok, sym, refl, ap, ◌∙◌, subst}
use Rattle.std.proofs.lemmas.Result.{err_from_is_err_and}
use Rattle.store.specs.Meaning.{set_tie}
use Rattle.law.specs.Standing.{bound_at}
use Rattle.bounds.proofs.Limits.{bound_small, set_other, set_sound, usable}
use Rattle.solver.specs.Changing.{LeadsTo}
use Rattle.solver.specs.Held.{Held}
use Rattle.solver.proofs.Openings.{bounds_sound}
use Rattle.solver.proofs.Opens.{found_as, suits_of}
use Rattle.solver.proofs.solver.Solver.next_table.Goals as goal

pub new-update-requires : goal.new-update-requires
new-update-requires g c =
    let μ = g.M.Measure in
    let s = c.self.inside in
    let suits = c.self.invariant.suits in
    let opened = rw (← c.self.view_is) at c.requires.opened in
    let m = g.S.TieStore.meaning s.store in
    let step = c.args.step in
    let later = set_sound μ s.total m.tie step.start step.end step.amount (bounds_sound μ s.total m.tie (suits.amounts opened)) c.requires.small in
    record {
      graph = usable _ μ _ m s.total (set_tie m.tie step.start step.end step.amount) (g.S.TieStore.lawful s.store) later later refl (λ _ _. refl);
      same = suits.same;
      depths = (suits.table opened).depths;
    }

pub change-requires : goal.change-requires
change-requires g c =
    let μ = g.M.Measure in
    let s = c.self.inside in
    let suits = c.self.invariant.suits in
    let opened = rw (← c.self.view_is) at c.requires.opened in
    let m = g.S.TieStore.meaning s.store in
    let step = c.args.step in
    let now = bounds_sound μ s.total m.tie (suits.amounts opened) in
    rw (c.new-update.ensures.graph, c.new-update.ensures.table) (
    record {
      start = rw suits.same (rw (← c.self.view_is) at c.requires.start);
      end = rw suits.same (rw (← c.self.view_is) at c.requires.end);
      changed = record {
        was = λ x y. bound_at μ s.total x y (m.tie x y);
        solved = (suits.table opened).solved;
        at = sym c.weight-before.ensures;
        other = λ x y ne. ap (bound_at μ s.total x y) (set_other m.tie step.start step.end step.amount x y ne);
        small = λ w e. bound_small μ s.total m.tie now step.start step.end w (sym c.weight-before.ensures ∙ e);
      };
    }
    )

pub finish-requires : goal.finish-requires
finish-requires g c =
    let μ = g.M.Measure in
    let s = c.self.inside in
    let suits = c.self.invariant.suits in
    let opened = rw (← c.self.view_is) at c.requires.opened in
    let m = g.S.TieStore.meaning s.store in
    let step = c.args.step in
    let t = set_tie m.tie step.start step.end step.amount in
    let later = set_sound μ s.total m.tie step.start step.end step.amount (bounds_sound μ s.total m.tie (suits.amounts opened)) c.requires.small in
    let found = found_as μ _ _ _ _ _ _ _ _ c.change.ensures.outcome (c.in_ok-next.was) c.in-Some.is in
    record {
      graph = usable _ μ _ m s.total t (g.S.TieStore.lawful s.store) later later refl (λ _ _. refl);
      same = suits.same;
      new = rw (c.new-update.ensures.graph, c.new-update.ensures.table) at found;
    }

pub returns-in_err-next : goal.returns-in_err-next
returns-in_err-next g c =
    let μ = g.M.Measure in
    let s = c.self.inside in
    let step = c.args.step in
    let p = err_from_is_err_and c.from_residual.result c.from_residual.ensures.1 in
    let found = rw (c.new-update.ensures.graph, c.new-update.ensures.table, c.self.invariant.suits.same) at c.in_err-next.ensures.outcome in
    rw (p.1, p.2, ← c.self.view_is) found

pub returns-in_default : goal.returns-in_default
returns-in_default g c =
    let μ = g.M.Measure in
    let s = c.self.inside in
    let suits = c.self.invariant.suits in
    let opened = rw (← c.self.view_is) at c.requires.opened in
    let step = c.args.step in
    let t = set_tie (g.S.TieStore.meaning s.store).tie step.start step.end step.amount in
    let found = found_as μ _ _ _ _ _ _ _ _ c.change.ensures.outcome (c.in_ok-next.was) c.in_default.is in
    rw (← c.self.view_is) (record { same = suits.same; depths = (suits.table opened).depths; solved = rw (c.new-update.ensures.graph, c.new-update.ensures.table) at found })

pub returns : goal.returns
returns g c =
    let step = c.args.step in
    subst (λ (s : Held g.row.S.Denot). LeadsTo g.M.Measure s.total (g.S.TieStore.meaning s.store).count (set_tie (g.S.TieStore.meaning s.store).tie step.start step.end step.amount) step.start step.end s.table (Ok (Some c.finish.result)))
    c.self.view_is (
      suits_of g.M.Measure _ _ _ c.finish.result (rw c.self.invariant.suits.same at c.finish.ensures.solution),
      c.finish.ensures.kept,
    )
