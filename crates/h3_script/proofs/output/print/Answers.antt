use Rattle.std.proofs.Common.{◌≡◌, ◌++◌, ◌∷◌, [], ℕ, List, take, sym, ◌∙◌, ap, ◌+◌}
use Rattle.std.proofs.lemmas.List.{take_more}
use Rattle.h3_script.specs.Lines.{answer_line}
use Rattle.h3_script.proofs.PrintedLines.{lines_more}
use Rattle.h3_world.specs.declared.event.Answer.{Answer}
use Rattle.h3_script.proofs.output.print.Goals as goal

pub loop-answer-preserved : goal.loop-answer-preserved
unfolding lib.Utf8.encode
loop-answer-preserved c =
    let i = c.loop-answer.answer-index in
    let answers = c.args.answers.now in
    let more : take (i + 1) answers ≡ take i answers ++ c.answer-item.result ∷ [] =
    take_more answers i c.answer-item.result c.loop-answer-test.true ∙ ap (λ (e : Answer). take i answers ++ e ∷ []) (sym c.answer-item.is) in
    c.in_ok-push.ensures.bytes ∙ ap (λ (t : List ℕ). t ++ 10 ∷ []) c.in_ok-push_str.ensures.bytes
    ∙ lines_more answer_line answers i c.answer-item.result _ _ more c.loop-answer.invariant (c.as_str.ensures.value ∙ c.in_ok-line.ensures)
