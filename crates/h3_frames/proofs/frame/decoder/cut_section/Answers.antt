use Rattle.std.proofs.Common.{◌≡◌, ◌+◌, ◌<◌, length, sym, ◌∙◌, ap, arith}
use Rattle.std.specs.List.{concat}
use Rattle.h3_frames.specs.Frames.{Whole}
use Rattle.h3_frames.proofs.Chunks.{chunk_size, chunk_rest}
use Rattle.h3_frames.specs.declared.proto.frame.Frame.TheVariants as frame
use Rattle.h3_frames.proofs.Cutting.{head_some, cut_off}
use Rattle.h3_frames.proofs.frame.decoder.cut_section.Goals as goal

pub unreachable-requires : goal.unreachable-requires
unreachable-requires c =
    let none = rw c.in-Ok-None.field-0-is at c.in-Ok-None.ensures.some in
    absurd (omega (arith, c.requires.is.there, ap length none.0, head_some _ _ _ c.requires.is))

pub returns-in-Ok-Some-clause-some : goal.returns-in-Ok-Some-clause-some
returns-in-Ok-Some-clause-some c = λ kinds.
    let all = rw c.in-Ok-Some.field-0-is at c.in-Ok-Some.ensures.some in
    let pieces = rw c.in-Ok-Some.field-0-is at c.in-Ok-Some.ensures.pieces in
    let count : length c.in-Ok-Some.section ≡ c.args.head + c.args.size = chunk_size (c.args.head + c.args.size) _ _ c.in-Ok-Some.section c.requires.inside pieces in
    cut_off kinds _ c.in-Ok-Some.section _ c.args.head c.args.size c.requires.is all.0 count ∙ ap (λ s. Whole (frame.Headers s) (concat c.take_chunk.new.self.pieces)) (sym c.advance.ensures)

pub returns-in-Ok-Some-clause-rest : goal.returns-in-Ok-Some-clause-rest
returns-in-Ok-Some-clause-rest c =
    let all = rw c.in-Ok-Some.field-0-is at c.in-Ok-Some.ensures.some in
    let pieces = rw c.in-Ok-Some.field-0-is at c.in-Ok-Some.ensures.pieces in
    let some : 0 < c.args.head + c.args.size = omega (arith, head_some _ _ _ c.requires.is) in
    chunk_rest (c.args.head + c.args.size) _ _ c.in-Ok-Some.section some (all.2 some) pieces
