-- `write_digits` writes the digits of each part.
-- Assumes nothing.
use Rattle.std.proofs.Common.{rules, List, ℕ, ◌++◌, ap, sym, append_assoc, ◌∙◌}
use Rattle.std.proofs.Output.{has_written_append}
use Rattle.std.proofs.lemmas.Grind.{flat_map-append}
use Rattle.std.specs.Slice.Iter.{chunks_rest}
use Rattle.replay_text.specs.Texts.{digits_of, hex_text}
use Rattle.replay_text.proofs.answer.write_digits.Goals as goal

pub loop-part-preserved : goal.loop-part-preserved
loop-part-preserved g c =
    let part = c.in-Some.part.now in
    let steps = c.in-Some.ensures.steps in
    let size = c.loop-part.invariant.2 in (
      search rules,
      tt,
      steps.0 ∙ size,
      λ plain.
          let so_far = c.loop-part.invariant.3 plain in (
            so_far.0 ++ hex_text part,
            has_written_append _ _ _ _ _ _ so_far.1 (search rules),
            append_assoc so_far.0 _ _
                ∙ ap (λ (text : List ℕ). so_far.0 ++ text)
                (sym (flat_map-append digits_of part (chunks_rest c.next.new.self)) ∙ ap hex_text (sym steps.1.0))
                ∙ so_far.2,
          ),
    )
