-- The word, all names, and the line's end. Assumes nothing.
use Rattle.std.proofs.Common.{◌≡◌, [], ◌∷◌, ◌++◌, map, vec_items, ap, ◌∙◌, append_assoc, arith, rules}
use Rattle.std.proofs.lemmas.List.{take_all}
use Rattle.std.proofs.lemmas.Result.{on_ok_weaker}
use Rattle.std.specs.Result.{OnOk}
use Rattle.depth_text.specs.Lines.{name_in, spaced}
use Rattle.depth_text.proofs.add_contradiction.Goals as goal

pub returns : goal.returns
returns c =
    let all = take_all c.loop-marker.marker-index c.args.cycle.now (omega arith) in
    let word : vec_items c.extend_from_slice.new.self ≡ vec_items c.args.out.now ++ 99 ∷ 111 ∷ 110 ∷ 116 ∷ 114 ∷ 97 ∷ 100 ∷ 105 ∷ 99 ∷ 116 ∷ 105 ∷ 111 ∷ 110 ∷ [] = search rules in
    let end : OnOk c.extend_from_slice-2.result (vec_items c.extend_from_slice-2.new.self ≡ vec_items c.loop-marker.out ++ 10 ∷ []) = search rules in
    on_ok_weaker c.extend_from_slice-2.result
    (λ (e : vec_items c.extend_from_slice-2.new.self ≡ vec_items c.loop-marker.out ++ 10 ∷ []).
    e
    ∙ ap (λ x. x ++ 10 ∷ [])
    (c.loop-marker.invariant ∙ ap (λ s. vec_items c.extend_from_slice.new.self ++ spaced (map (name_in c.args.names.now) s)) all ∙ ap (λ x. x ++ spaced (map (name_in c.args.names.now) c.args.cycle.now)) word)
    ∙ simp append_assoc)
    end
