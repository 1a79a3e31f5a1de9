use Rattle.std.proofs.Common.{◌≡◌, ◌∙◌, ◌++◌, ◌+◌, take, length, sym}
use Rattle.std.proofs.lemmas.List.{length-take-le}
use Rattle.h3_field.proofs.Behind.{written_after}
use Rattle.h3_field.proofs.prefix_string.write_both.Goals as goal

pub returns-clause-literals : goal.returns-clause-literals
returns-clause-literals c =
    let start : c.in_ok-first.first ≡ length (take c.in_ok-first.first c.write_short.new.out) = sym (length-take-le c.in_ok-first.first c.write_short.new.out c.in_ok-first.ensures.within) in
    written_after _ _ _ _ _ start c.in_ok-second.ensures.within ∙ (λ i. c.in_ok-first.ensures.literal i ++ c.in_ok-second.ensures.literal i)
