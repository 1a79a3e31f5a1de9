use Rattle.std.proofs.Common.{◌∙◌, arith, sym}
use Rattle.std.proofs.lemmas.List.{take_more_set}
use Rattle.h3_field.proofs.Strings.{string_flags, empty_coded}
use Rattle.h3_field.proofs.prefix_string.write_empty.Goals as goal

pub one_byte-requires-clause-flags : goal.one_byte-requires-clause-flags
one_byte-requires-clause-flags c = string_flags c.args.size c.args.flags c.requires.least c.requires.most c.requires.flags

pub returns-clause-literal : goal.returns-clause-literal
returns-clause-literal c =
    let written = take_more_set c.args.out.now 0 c.in_ok-out.field-0 (omega (arith, c.requires.room)) in
    written ∙ rw c.requires.empty at c.in_ok-out.ensures ∙ sym (empty_coded c.args.size c.args.flags c.args.shortest c.args.value.now c.requires.empty c.if-shortest.false)
