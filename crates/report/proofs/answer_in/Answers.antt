use Rattle.std.proofs.Common.{◌≡◌, ℕ, List, [], ◌++◌, get_or, ℤ, pos, vec_items, sym, ap, ◌∙◌, subst, w64, SFits, rules}
use Rattle.std.proofs.lemmas.Int.{to_z-of_z}
use Rattle.measure.specs.declared.Amount.{Amount}
use Rattle.store.specs.List.{list_meaning}
use Rattle.store.specs.Meaning.{StoreMeaning}
use Rattle.depth_text.specs.Lines.{refused_line}
use Rattle.sheet_text.specs.Calls.{well_store}
use Rattle.sheet_text.specs.Naming.{names_of}
use Rattle.sheet_text.specs.Reading.{well_of}
use Rattle.report.specs.Told.{Told}
use Rattle.report.specs.Reports.{strict, total_of}
use Rattle.report.specs.Reports.Reports.{faulty, read}
use Rattle.report.proofs.answer_in.Goals as goal

pub returns-in_ok-solved-in-Ok : goal.returns-in_ok-solved-in-Ok
returns-in_ok-solved-in-Ok c =
    let w = well_of c.make.new.state in
    let l = c.in-Ok.list in
    let made = rw c.requires at c.in-Ok.ensures in
    let told = c.in_ok-solved-in-Ok.ensures in
    let name : ℕ → List ℕ = λ m. get_or (names_of c.make.new.state.names) m [] in
    let fits : SFits w64 c.make.new.state.total_depth = search rules in
    let same = c.millimetres-total.ensures ∙ ap (λ (z : ℤ). record { mm = z; marks = pos 0 }) (to_z-of_z w64 c.make.new.state.total_depth fits) in
    let bytes : vec_items c.add_answer.new.out ≡ told.0 = told.1 ∙ ap (λ (xs : List ℕ). xs ++ told.0) c.new-bytes.ensures.items in
    read w c.in_ok-solved-in-Ok.solved made.0
    (subst (λ (xs : List ℕ). Told strict (total_of w) (well_store 256 w) name xs c.in_ok-solved-in-Ok.solved) (sym bytes)
    (subst (λ (m : StoreMeaning). Told strict (total_of w) m name told.0 c.in_ok-solved-in-Ok.solved) made.1
    (subst (λ (a : Amount). Told strict a (list_meaning l.n l.count l.records.now) name told.0 c.in_ok-solved-in-Ok.solved) same told.2)))

pub returns-in_ok-add_refused-in-Err : goal.returns-in_ok-add_refused-in-Err
returns-in_ok-add_refused-in-Err c =
    faulty c.in-Err.fault (rw c.requires at c.in-Err.ensures)
    (c.in_ok-add_refused-in-Err.ensures ∙ ap (λ (xs : List ℕ). xs ++ refused_line c.number.result c.in-Err.fault.place) c.new-bytes.ensures.items
    ∙ ap (λ (i : ℕ). refused_line i c.in-Err.fault.place) c.number.ensures)
