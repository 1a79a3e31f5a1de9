use Rattle.h3_field.proofs.Strings.{first_refused, second_refused}
use Rattle.h3_field.proofs.shapes.both_strings.Goals as goal

pub returns-in-Err-OutOfMemory : goal.returns-in-Err-OutOfMemory
returns-in-Err-OutOfMemory c = first_refused _ _ _ (rw c.in-Err-OutOfMemory.field-0-is at c.in-Err-OutOfMemory.ensures.answer) c.refusal_before.ensures

pub returns-in-Err-OutOfMemory-to_bytes : goal.returns-in-Err-OutOfMemory-to_bytes
returns-in-Err-OutOfMemory-to_bytes c =
    second_refused _ _ _ c.in-Ok.ensures.answer (rw c.in-Err-OutOfMemory-to_bytes.field-0-is at c.in-Err-OutOfMemory-to_bytes.ensures.answer)
