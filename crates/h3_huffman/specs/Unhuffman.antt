-- The string of a Huffman encoding (RFC 7541, section 5.2), computed.
use Rattle.std.specs.Prelude.{ℕ, zero, suc, Bool, ◌&&◌, List, [], ◌∷◌, length, flat_map, if◌then◌else◌, nat_lt, bytes_eq, Option, Some, None}
use Rattle.std.specs.List.{list_all}
use Rattle.h3_huffman.specs.Huffman.{bits, huffman}
use Rattle.h3_huffman.specs.Tree.{Tree, Empty, Leaf, Fork, code_tree}

-- the symbol whose code word stands first, and the bits behind it
abbrev pub first_symbol : Tree → List ℕ → Option (ℕ × List ℕ)
first_symbol (Leaf symbol) bs = Some (symbol, bs)
first_symbol Empty bs = None
first_symbol (Fork left right) [] = None
first_symbol (Fork left right) (zero ∷ bs) = first_symbol left bs
first_symbol (Fork left right) (suc more ∷ bs) = first_symbol right bs

abbrev pub then_symbols : Option (ℕ × List ℕ) → (List ℕ → List ℕ) → List ℕ
then_symbols None others = []
then_symbols (Some first) others = first.0 ∷ others first.1

-- the symbols whose code words stand at the front, at most so many
abbrev pub symbols_in : ℕ → List ℕ → List ℕ
symbols_in zero bs = []
symbols_in (suc most) bs = then_symbols (first_symbol code_tree bs) (symbols_in most)

abbrev pub payload_bits : List ℕ → List ℕ
payload_bits payload = flat_map (bits 8) payload

abbrev pub symbols_of : List ℕ → List ℕ
symbols_of payload = symbols_in (length (payload_bits payload)) (payload_bits payload)

abbrev pub is_byte : ℕ → Bool
is_byte byte = nat_lt byte 256

-- a string of bytes, where this is its encoding
abbrev pub if_encoded : List ℕ → List ℕ → Option (List ℕ)
if_encoded payload plain = if list_all is_byte plain && bytes_eq (huffman plain) payload then Some plain else None

-- the string whose Huffman encoding this is, if there is one
unfoldable pub unhuffman : List ℕ → Option (List ℕ)
unhuffman payload = if_encoded payload (symbols_of payload)
