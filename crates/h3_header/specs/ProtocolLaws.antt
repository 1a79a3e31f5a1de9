-- What holds of a protocol as it is kept.
use Rattle.std.specs.Prelude.{◌≡◌, Bool, true, false, ◌||◌, take, length, codes, bytes_eq, if◌then◌else◌, refl}
use Rattle.std.proofs.Common.{ap, ap₂, ◌∙◌}
use Rattle.h3_header.specs.Protocol.{protocol_text, protocol_of, padded, IsKept}
use Rattle.h3_header.specs.declared.ext.Protocol.TheInside.{Inside}
use Rattle.h3_header.specs.declared.ext.ProtocolInner.{ProtocolInner}
use Rattle.h3_header.specs.declared.ext.ProtocolInner.TheVariants.{WebTransport, ConnectUdp, Token}

unnamed : (a b : Bool) (x y z : ProtocolInner) → (a || b) ≡ false → (if a then x else (if b then y else z)) ≡ z
unnamed true b x y z none = absurd (let never : true ≡ false = none in cc)
unnamed false true x y z none = absurd (let never : true ≡ false = none in cc)
unnamed false false x y z none = refl

text_is_back : (inner : ProtocolInner) → IsKept inner → protocol_of (protocol_text inner) ≡ inner
text_is_back WebTransport kept = refl
text_is_back ConnectUdp kept = refl
text_is_back (Token bytes len) kept =
    let text = take len bytes in
    unnamed (bytes_eq text (codes "webtransport")) (bytes_eq text (codes "connect-udp")) WebTransport ConnectUdp (Token (padded text) (length text)) kept.unnamed
    ∙ ap₂ (λ bytes len. Token bytes len) kept.zeros kept.has_length

-- Each text is kept in one way.
pub kept_once : (p : Inside) → IsKept p.0 → record { 0 = protocol_of (protocol_text p.0) } ≡ p
kept_once p kept = ap (λ inner. record { 0 = inner }) (text_is_back p.0 kept)
