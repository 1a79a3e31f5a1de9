-- What a `:protocol` alone reads as, each by computing both sides.
use Rattle.std.proofs.Common.{◌≡◌, true, false, codes, refl}
use Rattle.http_header.specs.Token.{is_token_byte}
use Rattle.h3_header.specs.AnyProtocol.{asked, asking}
use Rattle.h3_header.specs.HeadRead.{IsHead, IsNone, Value, head_of, head_of_any}
use Rattle.h3_header.specs.Reads.{kind_of}

pub websocket : asked true (codes "websocket") ≡ IsHead (asking (codes "websocket"))
unfolding kind_of head_of_any is_token_byte
websocket = refl

pub websocket_off : asked false (codes "websocket") ≡ IsNone Value
unfolding kind_of head_of
websocket_off = refl

pub name_off : asked false (codes "webtransport") ≡ IsHead (asking (codes "webtransport"))
unfolding kind_of head_of
name_off = refl

pub empty : asked true (codes "") ≡ IsNone Value
unfolding kind_of head_of_any is_token_byte
empty = refl

pub spaced : asked true (codes "web socket") ≡ IsNone Value
unfolding kind_of head_of_any is_token_byte
spaced = refl

pub slashed : asked true (codes "a/b") ≡ IsNone Value
unfolding kind_of head_of_any is_token_byte
slashed = refl

pub longest : asked true (codes "abcdefghijklmnopqrstuvwxyzabcde") ≡ IsHead (asking (codes "abcdefghijklmnopqrstuvwxyzabcde"))
unfolding kind_of head_of_any is_token_byte
longest = refl

pub too_long : asked true (codes "abcdefghijklmnopqrstuvwxyzabcdef") ≡ IsNone Value
unfolding kind_of head_of_any is_token_byte
too_long = refl
