use Rattle.std.proofs.Common.{◌≡◌, ◌∙◌, ◌++◌, ◌+◌, ◌≤◌, take, length, sym, arith}
use Rattle.std.proofs.lemmas.List.{length-take-le}
use Rattle.h3_field.proofs.Behind.{written_after}
use Rattle.h3_field.proofs.shapes.write_index_and_short.Goals as goal

pub returns-clause-bytes : goal.returns-clause-bytes
returns-clause-bytes c =
    let fits : c.in_ok-first.first ≤ length c.write.new.out = omega (arith, c.in_ok-first.ensures.most, c.write.ensures.same, c.requires.room) in
    let start : c.in_ok-first.first ≡ length (take c.in_ok-first.first c.write.new.out) = sym (length-take-le c.in_ok-first.first c.write.new.out fits) in
    written_after _ _ _ _ _ start c.in_ok-second.ensures.within ∙ (λ i. c.in_ok-first.ensures.bytes i ++ c.in_ok-second.ensures.literal i)
