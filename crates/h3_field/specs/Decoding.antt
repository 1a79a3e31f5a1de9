-- What a Huffman encoding is decoded to, item by item.
use Rattle.std.specs.Prelude.{◌≡◌, ℕ, List, [], ◌∷◌, length, map, Result, Ok, Err}
use Rattle.h3_huffman.specs.Huffman.{huffman}
use Rattle.h3_huffman.specs.Payload.{IsNoPayload}
use Rattle.h3_field.specs.ReadBack.{AreBytes}
use Rattle.h3_field.specs.declared.prefix_string.string_decode.Error.{Error}
use Rattle.h3_field.specs.declared.prefix_string.string_decode.Error.TheVariants.{Unhandled}

-- what is no encoding of a string is refused whole: a window at its first bit, and its length in bytes
abbrev pub refused_encoding : List ℕ → Error
refused_encoding encoded = Unhandled (record { byte = 0; bit = 0; count = 0 }) (length encoded)

-- the bytes of the one string of that encoding, or one error where there is none
pub data DecodesTo (encoded : List ℕ) (items : List (Result ℕ Error)) : Type 0 where
  Bytes : (bytes : List ℕ) → AreBytes bytes → encoded ≡ huffman bytes → items ≡ map Ok bytes → DecodesTo encoded items
  NoString : IsNoPayload encoded → items ≡ Err (refused_encoding encoded) ∷ [] → DecodesTo encoded items
