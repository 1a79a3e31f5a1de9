use Rattle.h3_headline.proofs.laws.what_is_cited_holds.Goals as goal

pub returns : goal.returns
returns c = record {
  worlds = record {
    begins = c.every_exact_step_happens.ensures.begins;
    machine = c.the_machine_answers_as_allowed.ensures;
    both = c.every_exact_step_happens.ensures.both;
  };
  streams = record {
    sound = c.every_session_is_sound.ensures;
    heard_fronts = c.fronts_of_written_instructions.ensures.decoder;
    listened_fronts = c.fronts_of_written_decoder_instructions.ensures.encoder;
    tables_read = c.written_instructions_are_accepted.ensures;
    written = c.every_section_is_written.ensures;
    values = c.every_encoding_means_its_fields.ensures.value;
  };
  lists = c.lists_are_their_value.ensures.head;
  reading = record { is_head = c.lists_are_their_value.ensures.is_head; named = c.lists_are_their_value.ensures.named };
  written = c.instructions_can_be_written.ensures;
}
