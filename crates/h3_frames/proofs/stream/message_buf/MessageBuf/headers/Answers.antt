use Rattle.h3_frames.proofs.stream.message_buf.MessageBuf.headers.Goals as goal

pub returns-clause-head : goal.returns-clause-head
returns-clause-head g c = search
