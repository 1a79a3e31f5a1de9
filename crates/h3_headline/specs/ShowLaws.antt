-- What an end shows is what the world shows: the peer's limits, and the sizes of both tables.
use Rattle.std.proofs.Common.{◌≡◌, Bool, true, false, refl, ap, ◌∙◌, if◌then◌else◌, Some, None, Option, ℕ, sym}
use Rattle.std.specs.Prelude.{option_map}
use Rattle.h3_proto.specs.declared.stream.Side.{Side}
use Rattle.h3_connection.specs.Endpoint.{EndpointHistory}
use Rattle.h3_connection.specs.OwnIds.{other}
use Rattle.h3_connection.specs.Shown.{limits_of, peer_limits, table_sizes}
use Rattle.h3_world.specs.Setup.{IsMadeSetup, Setup, announced_at}
use Rattle.h3_world.specs.Sound.{IsSoundWorld}
use Rattle.h3_world.specs.Shown.{limits_shown, sizes_shown}
use Rattle.h3_world.specs.World.{World, party}
use Rattle.h3_field.specs.Field.{section_size}
use Rattle.h3_qpack.specs.DecoderState.{DecoderState}
use Rattle.h3_qpack.specs.EncoderHistory.{EncoderHistory}
use Rattle.h3_table.specs.Table.{table}
use Rattle.h3_connection.specs.declared.event.TableSizes.{TableSizes}
use Rattle.h3_headline.specs.Cited.{StreamLaws}
use Rattle.h3_headline.specs.SettingsLaws.{limits_with_meaning}
use Rattle.h3_headline.specs.TableReadingLaws.{table_read}
use Rattle.h3_headline.specs.Standing.{StandsAt, are_settings_there, with_meaning}

pub limits_agree : (setup : Setup) (w : World) (side : Side) (e : EndpointHistory) → StandsAt setup w side e → peer_limits e ≡ limits_shown setup w side
limits_agree setup w side e h = ap (option_map limits_of) h.control.settings ∙ by_there (are_settings_there setup (other side) (party w (other side)).own.control_taken)
  where
    by_there : (t : Bool) → option_map limits_of (if t then Some (with_meaning (announced_at setup (other side)).settings) else None) ≡ option_map limits_of (if t then Some (announced_at setup (other side)).settings else None)
    by_there true = ap Some (limits_with_meaning (announced_at setup (other side)).settings)
    by_there false = refl

pub sizes_agree : (laws : StreamLaws) (setup : Setup) (w : World) (side : Side) (e : EndpointHistory) → IsMadeSetup setup → IsSoundWorld setup w → StandsAt setup w side e → table_sizes e ≡ sizes_shown w side
sizes_agree laws setup w side e made sound h =
    let t = table_read laws setup w side made sound in
    ap (λ (s : EncoderHistory). sizes (section_size (table s.capacity s.inserted)) (section_size e.decoding.decoder.table.entries)) h.encoder
    ∙ ap (sizes (section_size (table (party w side).encoder.capacity (party w side).encoder.inserted)))
    (sym (ap held h.encoder_stream.decoder) ∙ ap held t.reads ∙ ap section_size t.entries)
  where
    held : Option DecoderState → ℕ
    held None = 0
    held (Some d) = section_size d.table.entries

    sizes : ℕ → ℕ → TableSizes
    sizes sending receiving = record { sending = sending; receiving = receiving }
