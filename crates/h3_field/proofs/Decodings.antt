-- The items of a decoding.
use Rattle.std.proofs.Common.{◌≡◌, ℕ, true, List, [], ◌∷◌, ◌++◌, map, Result, Ok, Err, refl, sym, ◌∙◌, append-nil}
use Rattle.h3_huffman.specs.Payload.{IsNoPayload}
use Rattle.h3_field.specs.StringReading.{StandsFor, StandsForNone}
use Rattle.h3_field.specs.Decoding.{DecodesTo, Bytes, NoString, refused_encoding}
use Rattle.h3_field.specs.declared.prefix_string.string_decode.Error.{Error}

pub decodes_bytes : (encoded all bytes : List ℕ) → all ≡ encoded → StandsFor (record { is_huffman = true; bytes = all }) bytes → DecodesTo encoded (map {B = Result ℕ Error} Ok bytes ++ [])
decodes_bytes encoded all bytes e s = Bytes bytes s.each (sym e ∙ s.form) (append-nil _)

pub decodes_none : (encoded all items : List ℕ) (e : Error) → all ≡ encoded → items ≡ [] → e ≡ refused_encoding encoded → StandsForNone (record { is_huffman = true; bytes = all }) → DecodesTo encoded (map Ok items ++ Err e ∷ [])
decodes_none encoded all items error e empty is_error none =
    let no_payload : IsNoPayload encoded = λ plain each is. none plain (record { each = each; form = e ∙ is }) in
    NoString no_payload (rw (empty, is_error) refl)
