use Rattle.std.specs.Prelude.{All, take}
use Rattle.h3_field.specs.ReadBack.{IsFieldOfBytes}
use Rattle.h3_session.proofs.run.typed.fields_are_typed.Given as goal

abbrev pub invariant-loop-field : goal.invariant-loop-field
invariant-loop-field l = All IsFieldOfBytes (take l.field-index l.fields)
