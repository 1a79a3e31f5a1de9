use Rattle.std.proofs.Common.{true, subst}
use Rattle.h3_header.specs.ProtocolText.{IsProtocolBy}
use Rattle.h3_header.proofs.HeadTestLaws.{protocol_by}
use Rattle.h3_header.proofs.ProtocolNames.{kept_token}
use Rattle.h3_header.proofs.ext.Protocol.is_named.Goals as goal

pub returns-clause-token : goal.returns-clause-token
returns-clause-token c = (protocol_by true _).1 (subst (IsProtocolBy true) c.self.view_is (kept_token _ c.self.invariant))
