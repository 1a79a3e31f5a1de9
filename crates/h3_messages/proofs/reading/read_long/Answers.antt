use Rattle.std.proofs.Common.{[], sym, ◌∙◌}
use Rattle.h3_header.specs.Head.{trailer_head}
use Rattle.h3_header.specs.HeadRead.{head_by}
use Rattle.h3_messages.specs.OutlineLaws.{wants_memory}
use Rattle.h3_messages.proofs.Outlines.{head_outlined}
use Rattle.h3_messages.proofs.reading.read_long.Goals as goal

pub returns-in-Ok-clause-read : goal.returns-in-Ok-clause-read
returns-in-Ok-clause-read c =
    head_outlined (head_by c.args.any_protocol c.args.fields.now) c.in-Ok.header c.of-outline.result (c.lists_are_their_value.ensures.head c.args.any_protocol c.args.fields.now c.in-Ok.header c.in-Ok.ensures.ok) c.of-outline.ensures

pub returns-in-Err-clause-read : goal.returns-in-Err-clause-read
returns-in-Err-clause-read c =
    (λ why is. c.lists_are_their_value.ensures.refused c.args.any_protocol c.args.fields.now c.in-Err.e why c.in-Err.ensures.err (sym c.of.ensures ∙ is), λ none. c.requires)

pub returns-in-Err-clause-memory : goal.returns-in-Err-clause-memory
returns-in-Err-clause-memory c = λ none. wants_memory c.args.any_protocol (trailer_head []) c.args.fields.now c.in-Err.e c.in-Err.ensures.err (sym c.of.ensures ∙ none)
