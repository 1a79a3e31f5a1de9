use Rattle.std.proofs.Common.{refl}
use Rattle.h3_capsule.proofs.head_bytes.HeadBytes.of_words.Goals as goal

pub returns : goal.returns
returns c = rw (c.copy_from_slice.ensures.after, c.copy_from_slice-2.ensures.after, c.to_le_bytes.ensures, c.to_le_bytes-2.ensures) refl
