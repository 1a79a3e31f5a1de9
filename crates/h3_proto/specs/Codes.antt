-- Error codes and their texts (RFC 9114, section 8.1, and RFC 9204, section 6), and the code of refused settings.
use Rattle.std.specs.Prelude.{ℕ, List, [], ◌∷◌, ◌++◌, ◌==◌, codes, Option, Some, None, if◌then◌else◌, false}
use Rattle.std.specs.Fmt.{digits}
use Rattle.h3_proto.specs.declared.frame.SettingsError.{SettingsError}
use Rattle.h3_proto.specs.declared.frame.SettingsError.TheVariants as settings

-- the codes that have a name
abbrev pub named : List (ℕ × List ℕ)
named =
    (0x33, codes "H3_DATAGRAM_ERROR") ∷
    (0x100, codes "H3_NO_ERROR") ∷
    (0x101, codes "H3_GENERAL_PROTOCOL_ERROR") ∷
    (0x102, codes "H3_INTERNAL_ERROR") ∷
    (0x103, codes "H3_STREAM_CREATION_ERROR") ∷
    (0x104, codes "H3_CLOSED_CRITICAL_STREAM") ∷
    (0x105, codes "H3_FRAME_UNEXPECTED") ∷
    (0x106, codes "H3_FRAME_ERROR") ∷
    (0x107, codes "H3_EXCESSIVE_LOAD") ∷
    (0x108, codes "H3_ID_ERROR") ∷
    (0x109, codes "H3_SETTINGS_ERROR") ∷
    (0x10a, codes "H3_MISSING_SETTINGS") ∷
    (0x10b, codes "H3_REQUEST_REJECTED") ∷
    (0x10c, codes "H3_REQUEST_CANCELLED") ∷
    (0x10d, codes "H3_REQUEST_INCOMPLETE") ∷
    (0x10e, codes "H3_MESSAGE_ERROR") ∷
    (0x10f, codes "H3_CONNECT_ERROR") ∷
    (0x110, codes "H3_VERSION_FALLBACK") ∷
    (0x200, codes "QPACK_DECOMPRESSION_FAILED") ∷
    (0x201, codes "QPACK_ENCODER_STREAM_ERROR") ∷
    (0x202, codes "QPACK_DECODER_STREAM_ERROR") ∷
    []

-- the name that the list has for the code
abbrev pub name_in : List (ℕ × List ℕ) → ℕ → Option (List ℕ)
name_in [] code = None
name_in (c ∷ cs) code = if code == c.0 then Some c.1 else name_in cs code

abbrev pub code_name : ℕ → Option (List ℕ)
code_name code = name_in named code

-- the name, or the number in lower case hexadecimal digits behind 0x
abbrev pub name_or_number : ℕ → Option (List ℕ) → List ℕ
name_or_number code (Some name) = name
name_or_number code None = codes "0x" ++ digits 16 false code

abbrev pub code_text : ℕ → List ℕ
code_text code = name_or_number code (code_name code)

abbrev pub general_protocol_error : ℕ
general_protocol_error = 0x101

abbrev pub stream_creation_error : ℕ
stream_creation_error = 0x103

abbrev pub closed_critical_stream : ℕ
closed_critical_stream = 0x104

abbrev pub frame_unexpected : ℕ
frame_unexpected = 0x105

abbrev pub frame_error : ℕ
frame_error = 0x106

abbrev pub excessive_load : ℕ
excessive_load = 0x107

abbrev pub id_error : ℕ
id_error = 0x108

abbrev pub settings_error : ℕ
settings_error = 0x109

abbrev pub missing_settings : ℕ
missing_settings = 0x10a

abbrev pub decompression_failed : ℕ
decompression_failed = 0x200

abbrev pub encoder_stream_error : ℕ
encoder_stream_error = 0x201

abbrev pub decoder_stream_error : ℕ
decoder_stream_error = 0x202

-- a payload that ends inside a pair is a faulty frame, and all else is a fault of the settings (RFC 9114, sections 7.1 and 7.2.4)
abbrev pub settings_code : SettingsError → ℕ
settings_code settings.Malformed = frame_error
settings_code _ = settings_error
