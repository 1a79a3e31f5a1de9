-- The path of a request (RFC 9114, section 4.3.1; RFC 9110, section 4.2.3).
use Rattle.std.specs.Prelude.{ℕ, Bool, true, false, not, ◌&&◌, ◌==◌, List, [], ◌∷◌, length, nat_lt, codes, bytes_eq}

-- it begins with a query
abbrev pub is_query : List ℕ → Bool
is_query [] = false
is_query (byte ∷ text) = byte == 63

-- a query alone, and `/` ahead of it is no path that is too long
abbrev pub has_room : List ℕ → Bool
has_room text = is_query text && nat_lt (length text) 65534

-- the text, behind `/` or by itself
abbrev pub behind : Bool → List ℕ → List ℕ
behind true text = 47 ∷ text
behind false text = text

-- An empty path is sent as `/`, ahead of a query too; that of OPTIONS stays as it is.
abbrev pub takes_slash : List ℕ → List ℕ → Bool
takes_slash method text = not (bytes_eq method (codes "OPTIONS")) && has_room text

abbrev pub rooted : List ℕ → List ℕ → List ℕ
rooted method text = behind (takes_slash method text) text

-- it is a query behind `/`
abbrev pub is_rooted : List ℕ → Bool
is_rooted [] = false
is_rooted (byte ∷ text) = (byte == 47) && is_query text
