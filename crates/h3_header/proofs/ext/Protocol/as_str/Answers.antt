use Rattle.std.proofs.Common.{true, IsUtf8, take, subst, rules}
use Rattle.http_header.proofs.TokenLemmas.{IsUtf8-from_token}
use Rattle.h3_header.specs.ProtocolText.{IsProtocolBy}
use Rattle.h3_header.proofs.ProtocolNames.{kept_token}
use Rattle.h3_header.proofs.ext.Protocol.as_str.Goals as goal

pub unwrap-requires : goal.unwrap-requires
unwrap-requires c =
    let token = rw c.in-Token.is at (kept_token _ c.self.invariant) in
    let text : IsUtf8 (take c.from.result c.in-Token.bytes) = rw c.from.ensures (IsUtf8-from_token _ token.0) in
    search rules

pub returns-in-WebTransport-clause-valid : goal.returns-in-WebTransport-clause-valid
returns-in-WebTransport-clause-valid c = subst (IsProtocolBy true) c.self.view_is (kept_token _ c.self.invariant)

pub returns-in-ConnectUdp-clause-valid : goal.returns-in-ConnectUdp-clause-valid
returns-in-ConnectUdp-clause-valid c = subst (IsProtocolBy true) c.self.view_is (kept_token _ c.self.invariant)
