use Rattle.std.proofs.Common.{ℕ, List, ◌∙◌, rules, Bor}
use borrow.Author.Tests.{tests}
use Rattle.std.specs.Str.{bytes_eq}
use Rattle.std.proofs.lemmas.Iterator.{YieldsList-from_slice}
use Rattle.std.proofs.lemmas.Iterator.Search.{position_from_yields_List}
use Rattle.sheet_text.proofs.Places.{place_of_texts}
use Rattle.sheet_text.proofs.names.table.first_place.Goals as goal

pub returns : goal.returns
returns c =
    position_from_yields_List (λ (r : Bor (List ℕ)). bytes_eq r.now c.args.name.now) _ _ _ c.position.ensures.ran (YieldsList-from_slice c.args.names.now cc) (λ x b q k. search (rules, tests))
    ∙ place_of_texts c.args.names.now c.args.name.now
