-- What is taken where the two names alone are is taken where any protocol is.
use Rattle.std.specs.Prelude.{◌≡◌, ℕ, Bool, true, false, ◌||◌, List, codes, bytes_eq, Option, Some, None, refl}
use Rattle.std.proofs.Common.{sym, subst}
use Rattle.std.proofs.lemmas.Slice.Eq.{bytes_eq-Decides}
use Rattle.http_header.specs.Token.{is_token_byte}
use Rattle.h3_header.specs.HeadTests.{is_protocol_text, is_short_token, takes_protocol}

name_is_token : (text name : List ℕ) → is_short_token name ≡ true → bytes_eq text name ≡ true → is_short_token text ≡ true
name_is_token text name is same = subst (λ t. is_short_token t ≡ true) (sym ((bytes_eq-Decides text name).0 same)) is

by_names : (text : List ℕ) (web udp : Bool) → bytes_eq text (codes "webtransport") ≡ web → bytes_eq text (codes "connect-udp") ≡ udp → (web || udp) ≡ true → is_short_token text ≡ true
unfolding is_token_byte
by_names text true udp w u is = name_is_token text (codes "webtransport") refl w
by_names text false true w u is = name_is_token text (codes "connect-udp") refl u
by_names text false false w u is = absurd (cc)

-- both names are short tokens
pub named_is_token : (text : List ℕ) → is_protocol_text text ≡ true → is_short_token text ≡ true
named_is_token text is = by_names text (bytes_eq text (codes "webtransport")) (bytes_eq text (codes "connect-udp")) refl refl is

pub takes_named : (any : Bool) (protocol : Option (List ℕ)) → takes_protocol false protocol ≡ true → takes_protocol any protocol ≡ true
takes_named false protocol is = is
takes_named true None is = refl
takes_named true (Some text) is = named_is_token text is
