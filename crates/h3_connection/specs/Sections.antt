-- How a field section is written on a stream: without the table once a cancellation of the stream was read (RFC 9204, section
-- 2.2.2.2), since nobody acknowledges it then.
use Rattle.std.specs.Prelude.{ℕ, List, ◌++◌}
use Rattle.h3_field.specs.Field.{Field}
use Rattle.h3_field.specs.Instruction.{EncoderInstruction}
use Rattle.h3_qpack.specs.EncoderHistory.{EncoderHistory, writing_on}
use Rattle.h3_qpack.specs.SectionEncoding as section
use Rattle.h3_connection.specs.Endpoint.{EndpointHistory}

abbrev pub written_section : EncoderHistory → ℕ → List Field → List ℕ
written_section s stream fields = section.encoded_section (writing_on s stream) fields

abbrev pub own_instructions : EncoderHistory → ℕ → List Field → List EncoderInstruction
own_instructions s stream fields = section.instructions_for (writing_on s stream) fields

-- the encoder after the insertions for some fields, whose section was not written
abbrev pub having_inserted : EncoderHistory → ℕ → List Field → EncoderHistory
having_inserted s stream fields = section.having_inserted s stream fields

-- the endpoint after that: the instructions for them went out
abbrev pub with_insertions : EndpointHistory → ℕ → List Field → EndpointHistory
with_insertions e id fields =
    record e {
      encoder = having_inserted e.encoder id fields;
      own = record e.own { instructions = e.own.instructions ++ own_instructions e.encoder id fields };
    }
