-- Which settings are kept, and what a payload stands for (RFC 9114, sections 7.2.4 and 7.2.4.1).
use Rattle.std.specs.Prelude.{ℕ, ◌^◌, Bool, ◌==◌, nat_le, true, not, ◌&&◌, find, List, [], ◌∷◌, ◌++◌, length, Option, Some, None, Result, Ok, Err, codes, false, if◌then◌else◌}
use Rattle.std.specs.Fmt.{digits, decimal}
use Rattle.std.specs.List.{list_any, list_all}
use Rattle.std.specs.Option.{option_map}
use Rattle.h3_proto.specs.Pairs.{Split, pairs_in, split_of}
use Rattle.h3_coding.specs.Varint.{varint_at}
use Rattle.h3_proto.specs.declared.frame.SettingsError.{SettingsError}
use Rattle.h3_proto.specs.declared.frame.SettingsError.TheVariants.{Exceeded, Malformed, Repeated, InvalidSettingId, InvalidSettingValue}

-- the identifier is reserved, since it was one of HTTP/2's, and its receipt is an error (RFC 9114, section 7.2.4.1)
abbrev pub is_forbidden : ℕ → Bool
is_forbidden id = list_any (λ x. x == id) (0 ∷ 2 ∷ 3 ∷ 4 ∷ 5 ∷ [])

-- the identifier has a meaning; those of all other settings that were read are left out. They are QPACK_MAX_TABLE_CAPACITY 1,
-- MAX_FIELD_SECTION_SIZE 6, QPACK_BLOCKED_STREAMS 7 (RFC 9114, 7.2.4.1; RFC 9204, 5), ENABLE_CONNECT_PROTOCOL 8 (RFC 9220),
-- H3_DATAGRAM 0x33 (RFC 9297), and of WebTransport's drafts whether it is enabled and how many sessions there may be
abbrev pub known_ids : List ℕ
known_ids = 1 ∷ 6 ∷ 7 ∷ 8 ∷ 0x33 ∷ 0x2b603742 ∷ 0x2b603743 ∷ []

abbrev pub is_known : ℕ → Bool
is_known id = list_any (λ x. x == id) known_ids

-- some pair has the identifier
abbrev pub has_id : ℕ → List (ℕ × ℕ) → Bool
has_id id pairs = list_any (λ p. p.0 == id) pairs

-- no two pairs have one identifier
abbrev pub ids_differ : List (ℕ × ℕ) → Bool
ids_differ [] = true
ids_differ (p ∷ pairs) = not (has_id p.0 pairs) && ids_differ pairs

-- every identifier has a meaning
abbrev pub are_known : List (ℕ × ℕ) → Bool
are_known pairs = list_all (λ p. is_known p.0) pairs

-- the value of the first pair of that identifier
abbrev pub value_of : ℕ → List (ℕ × ℕ) → Option ℕ
value_of id pairs = option_map (λ p. p.1) (find (λ p. p.0 == id) pairs)

-- the texts of the errors, with numbers in lower case hexadecimal digits
abbrev pub error_text : SettingsError → List ℕ
error_text Exceeded = codes "max settings number exceeded, check for duplicate entries"
error_text Malformed = codes "malformed settings frame"
error_text (Repeated id) = codes "got setting 0x" ++ digits 16 false id ++ codes " twice"
error_text (InvalidSettingId id) = codes "setting id 0x" ++ digits 16 false id ++ codes " is invalid"
error_text (InvalidSettingValue id value) = codes "setting 0x" ++ (digits 16 false id ++ (codes " has invalid value " ++ decimal value))

-- RFC 9114 7.2.4: a setting twice
-- the pairs with one more at the end, or why it is refused
abbrev pub inserted : List (ℕ × ℕ) → ℕ → ℕ → Result (List (ℕ × ℕ)) SettingsError
inserted pairs id value =
    if nat_le 8 (length pairs) then Err Exceeded
    else (if has_id id pairs then Err (Repeated id)
    else (if nat_le (2 ^ 62) id then Err (InvalidSettingId id)
    else (if nat_le (2 ^ 62) value then Err (InvalidSettingValue id value)
    else Ok (pairs ++ (id, value) ∷ []))))

-- the pairs that are kept, with a pair that was read behind them
abbrev pub received : List (ℕ × ℕ) → ℕ × ℕ → Result (List (ℕ × ℕ)) SettingsError
received kept p =
    if is_forbidden p.0 then Err (InvalidSettingId p.0)
    else (if is_known p.0 then inserted kept p.0 p.1 else Ok kept)

-- and with a list of pairs, in order, up to the first refusal; last is what comes then
abbrev pub received_then : (List (ℕ × ℕ) → Result (List (ℕ × ℕ)) SettingsError) → Result (List (ℕ × ℕ)) SettingsError → Result (List (ℕ × ℕ)) SettingsError
received_then go (Ok kept) = go kept
received_then go (Err e) = Err e

abbrev pub received_all : List (ℕ × ℕ) → List (ℕ × ℕ) → Result (List (ℕ × ℕ)) SettingsError
received_all kept [] = Ok kept
received_all kept (p ∷ pairs) = received_then (λ k. received_all k pairs) (received kept p)

-- bytes that begin no pair are malformed
abbrev pub at_rest : List ℕ → List (ℕ × ℕ) → Result (List (ℕ × ℕ)) SettingsError
at_rest [] kept = Ok kept
at_rest (byte ∷ bytes) kept = Err Malformed

abbrev pub settings_behind : List (ℕ × ℕ) → Split → Result (List (ℕ × ℕ)) SettingsError
settings_behind kept split = received_then (at_rest split.rest) (received_all kept (pairs_in split))

-- the settings that a payload stands for, or its refusal
abbrev pub settings_of : List ℕ → Result (List (ℕ × ℕ)) SettingsError
settings_of payload = settings_behind [] (split_of payload)

-- what follows the pair where it is refused
abbrev pub left_if : Result (List (ℕ × ℕ)) SettingsError → List ℕ → (List (ℕ × ℕ) → List ℕ) → List ℕ
left_if (Ok kept) rest go = go kept
left_if (Err e) rest go = rest

abbrev pub left_in : List (ℕ × ℕ) → List ((ℕ × ℕ) × List ℕ) → List ℕ → List ℕ
left_in kept [] last = last
left_in kept (q ∷ each) last = left_if (received kept q.0) q.1 (λ k. left_in k each last)

-- bytes that begin no pair, without their first number where one is whole
abbrev pub behind_id : List ℕ → Option (ℕ × List ℕ) → List ℕ
behind_id bytes None = bytes
behind_id bytes (Some id) = id.1

abbrev pub left_of_pair : List ℕ → List ℕ
left_of_pair bytes = behind_id bytes (varint_at bytes)

abbrev pub left_behind : List (ℕ × ℕ) → Split → List ℕ
left_behind kept split = left_in kept split.each (left_of_pair split.rest)

-- what a read leaves of a payload: of a whole one nothing, of a refused one what follows the refused pair, or
-- what follows the identifier where the value is not whole
abbrev pub left_of : List ℕ → List ℕ
left_of payload = left_behind [] (split_of payload)
