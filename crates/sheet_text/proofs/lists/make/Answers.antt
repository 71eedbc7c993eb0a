use Rattle.std.proofs.Common.{◌≡◌, ◌++◌, map, length, drop, sym, refl, ap, ◌∙◌, subst}
use Rattle.store.specs.List.{ListSound, list_meaning}
use Rattle.sheet_text.specs.Calls.{record_of}
use Rattle.sheet_text.specs.Reading.{well_of}
use Rattle.sheet_text.proofs.Making.{made}
use Rattle.sheet_text.proofs.Recording.{sound, stored}
use Rattle.sheet_text.proofs.lists.make.Goals as goal

pub with_ties-requires : goal.with_ties-requires
with_ties-requires c =
    let g = c.in_ok-count.ensures in
    let w = well_of c.read_records.new.state in
    let after = c.read_records.new.records in
    let before = c.args.records.now in
    let says = made (length before) c.args.text.now w g.0.0 in
    let is : after ≡ map record_of w.ties ++ drop (length w.ties) before = g.2 ∙ ap (λ n. map record_of w.ties ++ drop n before) g.1 in
    subst (λ n. ListSound n c.in_ok-count.count after) (sym c.len.ensures)
    (subst (λ n. ListSound (length w.names) n after) (sym g.1) (sound (length w.names) (length before) w.ties before after says.1.0.two says.1.0.names.few says.0 refl says.1.0.ties is))

pub returns : goal.returns
returns c =
    let g = c.in_ok-count.ensures in
    let w = well_of c.read_records.new.state in
    let after = c.read_records.new.records in
    let before = c.args.records.now in
    let says = made (length before) c.args.text.now w g.0.0 in
    let is : after ≡ map record_of w.ties ++ drop (length w.ties) before = g.2 ∙ ap (λ n. map record_of w.ties ++ drop n before) g.1 in
    let same : list_meaning c.len.result c.in_ok-count.count after ≡ list_meaning (length w.names) (length w.ties) after = λ i. list_meaning (c.len.ensures i) (g.1 i) after in (
      g.0,
      c.with_ties.ensures ∙ same ∙ stored (length w.names) (length before) w.ties before after says.1.0.two says.1.0.names.few says.0 refl says.1.0.ties is w refl refl,
    )
