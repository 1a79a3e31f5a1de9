-- What the forms of a frame that waits stand for.
use Rattle.std.specs.Prelude.{ℕ, List}
use Rattle.h3_frames.specs.Outgoing.{Outgoing}
use Rattle.h3_outgoing.specs.declared.block.BytesForm.{BytesForm}
use Rattle.h3_outgoing.specs.declared.block.BytesForm.TheVariants as bytes
use Rattle.h3_outgoing.specs.declared.frame.Form.{Form}
use Rattle.h3_outgoing.specs.declared.frame.Form.TheVariants as form

abbrev pub frame_in : Form → Outgoing
frame_in (form.Headers frame) = frame
frame_in (form.Data frame) = frame
frame_in (form.Held frame) = frame

abbrev pub bytes_in : BytesForm → List ℕ
bytes_in (bytes.Short short) = short
bytes_in (bytes.Long block) = block.items
