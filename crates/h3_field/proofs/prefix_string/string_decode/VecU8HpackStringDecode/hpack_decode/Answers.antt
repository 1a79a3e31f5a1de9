use Rattle.std.proofs.Common.{refl}
use Rattle.h3_field.proofs.Decodings.{decodes_bytes, decodes_none}
use Rattle.h3_field.proofs.prefix_string.string_decode.VecU8HpackStringDecode.hpack_decode.Goals as goal

pub returns-in-Ok-clause-items : goal.returns-in-Ok-clause-items
returns-in-Ok-clause-items c = decodes_bytes _ _ _ c.as_slice-encoded.ensures.value c.in-Ok.ensures.answer

pub returns-in-Err-HuffmanDecoding-clause-items : goal.returns-in-Err-HuffmanDecoding-clause-items
returns-in-Err-HuffmanDecoding-clause-items c = decodes_none _ _ _ _ c.as_slice-encoded.ensures.value c.new.ensures.items (rw (c.new-in-Err-HuffmanDecoding.ensures, c.as_slice-encoded.ensures.value) refl) (rw c.in-Err-HuffmanDecoding.field-0-is at c.in-Err-HuffmanDecoding.ensures.answer)
