-- The names that the rules speak of, and which of them a name is.
use Rattle.std.specs.Prelude.{ℕ, List, codes, bytes_eq, length, slice_index, ◌==◌, if◌then◌else◌, Option, Some, None}
use Rattle.h3_header.specs.declared.headers.kind.FieldKind.{FieldKind}
use Rattle.h3_header.specs.declared.headers.kind.FieldKind.TheVariants as kind
use Rattle.h3_messages.specs.declared.known.Known.{Known}
use Rattle.h3_messages.specs.declared.known.Known.TheVariants.{Method, Scheme, Authority, Path, Protocol, Status, Host, ContentLength, Te, Connection, KeepAlive, ProxyConnection, TransferEncoding, Upgrade}

abbrev pub text : Known → List ℕ
text Method = codes ":method"
text Scheme = codes ":scheme"
text Authority = codes ":authority"
text Path = codes ":path"
text Protocol = codes ":protocol"
text Status = codes ":status"
text Host = codes "host"
text ContentLength = codes "content-length"
text Te = codes "te"
text Connection = codes "connection"
text KeepAlive = codes "keep-alive"
text ProxyConnection = codes "proxy-connection"
text TransferEncoding = codes "transfer-encoding"
text Upgrade = codes "upgrade"

-- where a table has what is known of it
abbrev pub place : Known → ℕ
place Method = 0
place Scheme = 1
place Authority = 2
place Path = 3
place Protocol = 4
place Status = 5
place Host = 6
place ContentLength = 7
place Te = 8
place Connection = 9
place KeepAlive = 10
place ProxyConnection = 11
place TransferEncoding = 12
place Upgrade = 13

-- the only one that a name of this length and with this third byte may be
abbrev pub if_third : ℕ → ℕ → Known → Option Known
if_third third wanted known = if third == wanted then Some known else None

abbrev pub of_seven : ℕ → Option Known
of_seven third =
    if third == 101 then Some Method else (if third == 99 then Some Scheme else (if third == 116 then Some Status else (if third == 103 then Some Upgrade else None)))

abbrev pub of_ten : ℕ → Option Known
of_ten third = if third == 117 then Some Authority else (if third == 110 then Some Connection else (if third == 101 then Some KeepAlive else None))

unfoldable pub candidate : ℕ → ℕ → Option Known
candidate size third =
    if size == 2 then Some Te else (
    if size == 4 then if_third third 115 Host else (
    if size == 5 then if_third third 97 Path else (
    if size == 7 then of_seven third else (
    if size == 9 then if_third third 114 Protocol else (
    if size == 10 then of_ten third else (
    if size == 14 then if_third third 110 ContentLength else (
    if size == 16 then if_third third 111 ProxyConnection else (
    if size == 17 then if_third third 97 TransferEncoding else None))))))))

-- it, where the name is that
abbrev pub if_named : List ℕ → Option Known → Option Known
if_named name (Some known) = if bytes_eq name (text known) then Some known else None
if_named name None = None

abbrev pub known_of : List ℕ → Option Known
known_of name = if_named name (candidate (length name) (slice_index name 2))

-- the name of a pseudo-header field of this kind
abbrev pub known_at : FieldKind → Option Known
known_at kind.Method = Some Method
known_at kind.Scheme = Some Scheme
known_at kind.Authority = Some Authority
known_at kind.Path = Some Path
known_at kind.Status = Some Status
known_at kind.Protocol = Some Protocol
known_at kind.Regular = None
