-- A stream that a side gives up.
use Rattle.std.specs.Prelude.{◌≡◌, ℕ, [], ◌∷◌, Some, None}
use Rattle.h3_field.specs.Instruction.DecoderInstruction.{CancelStream}
use Rattle.h3_connection.specs.Endpoint.{EndpointHistory}
use Rattle.h3_connection.specs.Incoming.{Incoming}
use Rattle.h3_connection.specs.StreamSets.{set_stream}
use Rattle.h3_connection.specs.declared.event.StreamFault.{StreamFault}
use Rattle.h3_world.specs.Flow.{Flow}
use Rattle.h3_headline.specs.Arriving.{saying}

-- A side gives up what comes on a stream, for any fault: its end keeps nothing of it, and its decoder says so.
abbrev pub gone : Flow → StreamFault → Flow
gone f why = record f { fault = Some why; waits_for = 0 }

abbrev pub giving_up : EndpointHistory → ℕ → Incoming → EndpointHistory
giving_up e id j = record e { incoming = set_stream e.incoming id j; own = saying e.own (CancelStream id ∷ []) }

-- What is left of a receiver that was given up.
pub record IsGone (i x : Incoming) (fault : StreamFault) : Type 0 where
  pub told : x.fault ≡ Some fault
  pub unread : x.unread ≡ []
  pub section : x.section ≡ None
  pub waits_for : x.waits_for ≡ 0
  pub ended : x.ended ≡ i.ended
  pub was_reset : x.was_reset ≡ i.was_reset
  pub is_over : x.is_over ≡ i.is_over
