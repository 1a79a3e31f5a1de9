use Rattle.h3_session.proofs.ReadLists.{head_as_list, trailer_as_list}
use Rattle.h3_session.proofs.laws.heads_are_sent_as_their_lists.Goals as goal

pub returns-clause-head : goal.returns-clause-head
returns-clause-head c = head_as_list c.args.header.now c.every_header_reads_back.ensures.reads_back c.every_header_reads_back.ensures.token c.every_header_reads_back.ensures.untaken c.every_header_reads_back.ensures.read_as c.lists_are_their_value.ensures.head

pub returns-clause-trailer : goal.returns-clause-trailer
returns-clause-trailer c = trailer_as_list c.args.header.now c.every_header_reads_back.ensures.reads_back c.every_header_reads_back.ensures.token c.every_header_reads_back.ensures.untaken c.every_header_reads_back.ensures.read_as c.lists_are_their_value.ensures.head
