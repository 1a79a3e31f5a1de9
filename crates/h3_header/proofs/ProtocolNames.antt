-- What is kept is a short token, and each of the two names is one.
use Rattle.std.proofs.Common.{◌≡◌, ◌≤◌, ℕ, Bool, true, false, List, codes, refl, sym, subst, arith}
use Rattle.http_header.specs.Token.{is_token_byte}
use Rattle.http_header.proofs.TokenLemmas.{AllPass-from_test}
use Rattle.h3_header.specs.HeadTests.{is_protocol_by}
use Rattle.h3_header.specs.Protocol.{protocol_text, IsKept}
use Rattle.h3_header.specs.ProtocolText.{IsProtocolBy}
use Rattle.h3_header.specs.declared.ext.ProtocolInner.{ProtocolInner}
use Rattle.h3_header.specs.declared.ext.ProtocolInner.TheVariants.{WebTransport, ConnectUdp, Token}

pub kept_token : (inner : ProtocolInner) → IsKept inner → IsProtocolBy true (protocol_text inner)
unfolding is_token_byte
kept_token WebTransport kept = ((omega arith, AllPass-from_test is_token_byte (codes "webtransport") refl), omega arith)
kept_token ConnectUdp kept = ((omega arith, AllPass-from_test is_token_byte (codes "connect-udp") refl), omega arith)
kept_token (Token bytes len) kept = (kept.token, subst (λ n. n ≤ 31) (sym kept.has_length) kept.short)

-- both names are taken either way
pub web_taken : (any : Bool) (text : List ℕ) → codes "webtransport" ≡ text → is_protocol_by any text ≡ true
unfolding is_token_byte
web_taken true text is = subst (λ t. is_protocol_by true t ≡ true) is refl
web_taken false text is = subst (λ t. is_protocol_by false t ≡ true) is refl

pub udp_taken : (any : Bool) (text : List ℕ) → codes "connect-udp" ≡ text → is_protocol_by any text ≡ true
unfolding is_token_byte
udp_taken true text is = subst (λ t. is_protocol_by true t ≡ true) is refl
udp_taken false text is = subst (λ t. is_protocol_by false t ≡ true) is refl
