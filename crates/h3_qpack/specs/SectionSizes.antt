-- How many bytes the encoding of a list of fields takes.
use Rattle.std.specs.Prelude.{ℕ, ◌*◌, List, max}
use Rattle.h3_field.specs.Field.{Field, section_size}

-- At most so many, whatever its encoder did before: four for each of the list's size (RFC 9114, section 4.2.2), since a code word of the Huffman
-- code has up to thirty bits (RFC 7541, appendix B), and each string may be written in it. An empty list takes the two bytes of the prefix (RFC
-- 9204, section 4.5.1)
abbrev pub most_encoded : List Field → ℕ
most_encoded fields = max 2 (4 * section_size fields)
