-- The peer's settings that have no meaning here (RFC 9114, section 7.2.4).
use Rattle.std.specs.Prelude.{ℕ, ◌==◌, List, [], min, if◌then◌else◌, Option, Some, None}
use Rattle.h3_proto.specs.Settings.{value_of}
use Rattle.h3_frames.specs.OtherSettings.{others_at}
use Rattle.h3_frames.specs.declared.proto.frame.Frame.{Frame}
use Rattle.h3_frames.specs.declared.proto.frame.Frame.TheVariants as frame
use Rattle.h3_frames.specs.declared.proto.frame.PayloadLen.{PayloadLen}
use Rattle.h3_connection.specs.declared.setup.Announced.{Announced}

-- so many at most, in their order
pub record OtherSettings : Type 0 where
  pub most : ℕ
  pub kept : List (ℕ × ℕ)

-- how many an endpoint keeps
abbrev pub most_others : Announced → ℕ
most_others own = min 64 own.choices.extensions.other_settings

abbrev pub no_others : ℕ → OtherSettings
no_others most = record { most = most; kept = [] }

-- those that the settings say which the bytes begin with
abbrev pub with_told : OtherSettings → List ℕ → OtherSettings
with_told o bytes = if o.most == 0 then o else record o { kept = others_at o.most bytes }

-- A frame is read, with which the bytes begin. They are kept if it is the first one and has the settings
abbrev pub with_others : Option (List (ℕ × ℕ)) → Frame PayloadLen → OtherSettings → List ℕ → OtherSettings
with_others None (frame.Settings pairs) o bytes = with_told o bytes
with_others _ _ o bytes = o

-- the value of a setting: of one that has a meaning, else of one that is kept without
abbrev pub value_or : Option ℕ → Option ℕ → Option ℕ
value_or (Some value) other = Some value
value_or None other = other

abbrev pub value_in : Option (List (ℕ × ℕ)) → ℕ → Option ℕ
value_in None id = None
value_in (Some pairs) id = value_of id pairs

abbrev pub setting_in : Option (List (ℕ × ℕ)) → OtherSettings → ℕ → Option ℕ
setting_in settings others id = value_or (value_in settings id) (value_of id others.kept)
