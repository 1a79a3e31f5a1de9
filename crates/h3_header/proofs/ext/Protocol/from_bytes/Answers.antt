use Rattle.std.proofs.Common.{◌≡◌, codes, rules}
use Rattle.h3_header.proofs.ProtocolNames.{web_taken, udp_taken}
use Rattle.h3_header.proofs.ext.Protocol.from_bytes.Goals as goal

pub returns-then-eq : goal.returns-then-eq
returns-then-eq c = let is : codes "webtransport" ≡ c.args.text.now = search rules in (is, web_taken c.args.any _ is)

pub returns-then-eq-2 : goal.returns-then-eq-2
returns-then-eq-2 c = let is : codes "connect-udp" ≡ c.args.text.now = search rules in (is, udp_taken c.args.any _ is)
