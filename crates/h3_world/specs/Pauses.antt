-- When a reader is told to wait.
use Rattle.std.specs.Prelude.{◌≡◌, ◌⊎◌, ℕ, ◌<◌, false, nat_lt, ◌==◌, if◌then◌else◌, Option, Some, None}
use Rattle.h3_proto.specs.declared.stream.Side.{Side}
use Rattle.h3_connection.specs.OwnIds.{other}
use Rattle.h3_connection.specs.declared.event.Pull.{Pull}
use Rattle.h3_connection.specs.declared.event.Pull.TheVariants as pull
use Rattle.h3_world.specs.Flow.{Flow, Part, Section}
use Rattle.h3_world.specs.Flow.Part.{Interim, Head, Body, Trailer, End}
use Rattle.h3_world.specs.World.{World}
use Rattle.h3_world.specs.Streams.{flow, with_flow}
use Rattle.h3_world.specs.Items.{body_there}

-- For what a pause is, as laws say it: own bytes of the section are missing, or bytes that the encoder stream had once it was sent.
abbrev pub IsMissing : Flow → ℕ → Section → Type 0
IsMissing f encoder s = (f.delivered < s.own_length) ⊎ (encoder < s.encoder_length)

-- Bytes of the next part are missing, where so many of the encoder stream were delivered.
abbrev pub PauseAllowed : Flow → ℕ → Option Part → Type 0
PauseAllowed f encoder None = Unit {0}
PauseAllowed f encoder (Some (Interim s)) = IsMissing f encoder s
PauseAllowed f encoder (Some (Head s)) = IsMissing f encoder s
PauseAllowed f encoder (Some (Trailer s)) = IsMissing f encoder s
PauseAllowed f encoder (Some (Body bytes own)) = body_there f bytes own ≡ 0
PauseAllowed f encoder (Some End) = f.ended ≡ false

-- the pause before the next part, where there is one: for own bytes, or for a required insert count (RFC 9204, section 2.2.1)
abbrev pub section_pause : Flow → ℕ → Section → Option Pull
section_pause f insertions s =
    if nat_lt f.delivered s.own_length then Some pull.Pending else (
    if nat_lt insertions s.count then Some (pull.Waiting s.count) else None)

abbrev pub pause_before : Flow → ℕ → Option Part → Option Pull
pause_before f insertions None = Some pull.Pending
pause_before f insertions (Some (Interim s)) = section_pause f insertions s
pause_before f insertions (Some (Head s)) = section_pause f insertions s
pause_before f insertions (Some (Trailer s)) = section_pause f insertions s
pause_before f insertions (Some (Body bytes own)) = if body_there f bytes own == 0 then Some pull.Pending else None
pause_before f insertions (Some End) = if f.ended then None else Some pull.Pending

-- the pause among the answers
abbrev pub pause_of : Pull → Option Pull
pause_of pull.Pending = Some pull.Pending
pause_of (pull.Waiting count) = Some (pull.Waiting count)
pause_of _ = None

-- the world after the reader was told to wait for so many insertions, or just to wait
abbrev pub paused : World → Side → ℕ → ℕ → World
paused w side id count = with_flow w (other side) id (record (flow w (other side) id) { waits_for = count })
