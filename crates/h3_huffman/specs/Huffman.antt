-- The Huffman code of string literals (RFC 7541, section 5.2 and appendix B). It is canonical: the lengths of the code words determine them.
use Rattle.std.specs.Prelude.{ℕ, zero, suc, ◌+◌, ◌*◌, ◌-◌, ◌/◌, ◌%◌, ◌^◌, List, [], ◌∷◌, ◌++◌, length, codes, flat_map, replicate, position, nat_eq, unwrap_or, option_map, fold}

-- from the first number to the last
abbrev pub numbers_from : ℕ → ℕ → List ℕ
numbers_from first zero = []
numbers_from first (suc count) = first ∷ numbers_from (first + 1) count

abbrev pub numbers_to : ℕ → ℕ → List ℕ
numbers_to first last = numbers_from first (last + 1 - first)

-- the symbols of each length, in order. 256 is the end of the string
abbrev pub symbols_by_length : List (ℕ × List ℕ)
symbols_by_length =
    (5, codes "012aceiost") ∷
    (6, codes " %-./3456789=A_bdfghlmnpru") ∷
    (7, codes ":BCDEFGHIJKLMNOPQRSTUVWYjkqvwxyz") ∷
    (8, codes "&*,;XZ") ∷
    (10, 33 ∷ 34 ∷ 40 ∷ 41 ∷ 63 ∷ []) ∷
    (11, 39 ∷ 43 ∷ 124 ∷ []) ∷
    (12, 35 ∷ 62 ∷ []) ∷
    (13, 0 ∷ 36 ∷ 64 ∷ 91 ∷ 93 ∷ 126 ∷ []) ∷
    (14, 94 ∷ 125 ∷ []) ∷
    (15, 60 ∷ 96 ∷ 123 ∷ []) ∷
    (19, 92 ∷ 195 ∷ 208 ∷ []) ∷
    (20, 128 ∷ 130 ∷ 131 ∷ 162 ∷ 184 ∷ 194 ∷ 224 ∷ 226 ∷ []) ∷
    (21, 153 ∷ 161 ∷ 167 ∷ 172 ∷ 176 ∷ 177 ∷ 179 ∷ 209 ∷ 216 ∷ 217 ∷ 227 ∷ 229 ∷ 230 ∷ []) ∷
    (22, 129 ∷ 132 ∷ 133 ∷ 134 ∷ 136 ∷ 146 ∷ 154 ∷ 156 ∷ 160 ∷ 163 ∷ 164 ∷ 169 ∷ 170 ∷ 173 ∷ 178 ∷ 181 ∷ 185 ∷ 186 ∷ 187 ∷ 189 ∷ 190 ∷ 196 ∷ 198 ∷ 228 ∷ 232 ∷ 233 ∷ []) ∷
    (23, 1 ∷ 135 ∷ numbers_to 137 141 ++ 143 ∷ 147 ∷ numbers_to 149 152 ++ 155 ∷ 157 ∷ 158 ∷ 165 ∷ 166 ∷ 168 ∷ 174 ∷ 175 ∷ 180 ∷ 182 ∷ 183 ∷ 188 ∷ 191 ∷ 197 ∷ 231 ∷ 239 ∷ []) ∷
    (24, 9 ∷ 142 ∷ 144 ∷ 145 ∷ 148 ∷ 159 ∷ 171 ∷ 206 ∷ 215 ∷ 225 ∷ 236 ∷ 237 ∷ []) ∷
    (25, 199 ∷ 207 ∷ 234 ∷ 235 ∷ []) ∷
    (26, 192 ∷ 193 ∷ 200 ∷ 201 ∷ 202 ∷ 205 ∷ 210 ∷ 213 ∷ 218 ∷ 219 ∷ 238 ∷ 240 ∷ 242 ∷ 243 ∷ 255 ∷ []) ∷
    (27, 203 ∷ 204 ∷ 211 ∷ 212 ∷ 214 ∷ 221 ∷ 222 ∷ 223 ∷ 241 ∷ numbers_to 244 248 ++ numbers_to 250 254) ∷
    (28, numbers_to 2 8 ++ 11 ∷ 12 ∷ numbers_to 14 21 ++ numbers_to 23 31 ++ 127 ∷ 220 ∷ 249 ∷ []) ∷
    (30, 10 ∷ 13 ∷ 22 ∷ 256 ∷ []) ∷ []

-- that many low bits of a number, the high one first
unfoldable pub bits : ℕ → ℕ → List ℕ
bits zero n = []
bits (suc count) n = bits count (n / 2) ++ (n % 2) ∷ []

-- The word of a symbol, where next follows the last word of the length before: words of one length rise by one
-- from symbol to symbol, and the first of a longer length goes on from there, shifted left.
abbrev pub word_from : ℕ → ℕ → List (ℕ × List ℕ) → ℕ → List ℕ
word_from next before [] symbol = []
word_from next before ((len, symbols) ∷ rows) symbol =
    let first = next * 2 ^ (len - before) in
    unwrap_or (option_map (λ place. bits len (first + place)) (position (nat_eq symbol) symbols))
    (word_from (first + length symbols) len rows symbol)

unfoldable pub code_word : ℕ → List ℕ
code_word symbol = word_from 0 0 symbols_by_length symbol

-- the number that the bits spell
abbrev pub bits_value : List ℕ → ℕ
bits_value bs = fold (λ n b. 2 * n + b) 0 bs

-- RFC 7541 5.2: Huffman padding
-- eight bits to a byte. Ones fill up the last one
unfoldable pub octets : List ℕ → List ℕ
octets [] = []
octets (a ∷ b ∷ c ∷ d ∷ e ∷ f ∷ g ∷ h ∷ rest) = bits_value (a ∷ b ∷ c ∷ d ∷ e ∷ f ∷ g ∷ h ∷ []) ∷ octets rest
octets rest = bits_value (rest ++ replicate (8 - length rest) 1) ∷ []

-- the words joined, and fewer than eight ones to a whole byte
unfoldable pub huffman : List ℕ → List ℕ
huffman plain = octets (flat_map code_word plain)
