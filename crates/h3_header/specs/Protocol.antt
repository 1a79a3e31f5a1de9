-- The text of a `:protocol` value, and how it is kept.
use Rattle.std.specs.Prelude.{◌≡◌, ℕ, ◌≤◌, ⊤, false, List, ◌++◌, take, drop, length, replicate, codes, bytes_eq, if◌then◌else◌}
use Rattle.http_header.specs.Token.{IsToken}
use Rattle.h3_header.specs.HeadTests.{is_protocol_text}
use Rattle.h3_header.specs.declared.ext.ProtocolInner.{ProtocolInner}
use Rattle.h3_header.specs.declared.ext.ProtocolInner.TheVariants.{WebTransport, ConnectUdp, Token}

abbrev pub protocol_text : ProtocolInner → List ℕ
protocol_text WebTransport = codes "webtransport"
protocol_text ConnectUdp = codes "connect-udp"
protocol_text (Token bytes len) = take len bytes

-- a text in 31 bytes, with zeros behind it
abbrev pub padded : List ℕ → List ℕ
padded text = text ++ drop (length text) (replicate 31 0)

-- the protocol with a text
abbrev pub protocol_of : List ℕ → ProtocolInner
protocol_of text =
    if bytes_eq text (codes "webtransport") then WebTransport else (
    if bytes_eq text (codes "connect-udp") then ConnectUdp else
    Token (padded text) (length text))

-- a token but the two names, with zeros behind it
pub record IsKeptToken (bytes : List ℕ) (len : ℕ) : Type 0 where
  pub token : IsToken (take len bytes)
  pub unnamed : is_protocol_text (take len bytes) ≡ false
  pub has_length : length (take len bytes) ≡ len
  pub short : len ≤ 31
  pub zeros : padded (take len bytes) ≡ bytes

-- each text is kept in one way
abbrev pub IsKept : ProtocolInner → Type 0
IsKept WebTransport = ⊤
IsKept ConnectUdp = ⊤
IsKept (Token bytes len) = IsKeptToken bytes len
