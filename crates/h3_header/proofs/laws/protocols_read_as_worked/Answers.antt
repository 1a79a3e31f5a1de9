use Rattle.h3_header.proofs.AnyProtocolRows as row
use Rattle.h3_header.proofs.laws.protocols_read_as_worked.Goals as goal

pub returns-clause-websocket : goal.returns-clause-websocket
returns-clause-websocket c = row.websocket

pub returns-clause-websocket_off : goal.returns-clause-websocket_off
returns-clause-websocket_off c = row.websocket_off

pub returns-clause-name_off : goal.returns-clause-name_off
returns-clause-name_off c = row.name_off

pub returns-clause-empty : goal.returns-clause-empty
returns-clause-empty c = row.empty

pub returns-clause-spaced : goal.returns-clause-spaced
returns-clause-spaced c = row.spaced

pub returns-clause-slashed : goal.returns-clause-slashed
returns-clause-slashed c = row.slashed

pub returns-clause-longest : goal.returns-clause-longest
returns-clause-longest c = row.longest

pub returns-clause-too_long : goal.returns-clause-too_long
returns-clause-too_long c = row.too_long
