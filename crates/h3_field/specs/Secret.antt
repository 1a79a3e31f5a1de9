-- Fields that name a secret, which an encoder may keep out of its table (RFC 9204, section 7.1.3; RFC 7541, section 7.1.3).
use Rattle.std.specs.Prelude.{ℕ, Bool, true, ◌&&◌, ◌||◌, nat_lt, List, codes, length, bytes_eq, if◌then◌else◌}
use Rattle.h3_field.specs.Field.{Field, flagged}

-- names whose values are credentials
abbrev pub is_credential : List ℕ → Bool
is_credential name = bytes_eq name (codes "authorization") || bytes_eq name (codes "proxy-authorization")

-- names whose values are cookies
abbrev pub is_cookie : List ℕ → Bool
is_cookie name = bytes_eq name (codes "cookie") || bytes_eq name (codes "set-cookie")

-- RFC 9204 7.1.3: guarded secrets
-- A short cookie can be guessed byte by byte; a longer one is left to the table.
abbrev pub is_secret : Field → Bool
is_secret f = is_credential f.name || (is_cookie f.name && nat_lt (length f.value) 20)

-- the field as an encoder takes it that guards secrets, if it does
abbrev pub guarded : Bool → Field → Field
guarded guards f = if guards && is_secret f then flagged f true else f
