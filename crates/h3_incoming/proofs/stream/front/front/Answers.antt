use Rattle.h3_frames.specs.PieceLaws.{rest_then}
use Rattle.std.specs.List.{concat}
use Rattle.h3_connection.specs.Incoming.{is_body}
use Rattle.h3_connection.specs.StrictConnection.{kinds_of}
use Rattle.h3_incoming.proofs.FrontLaws.{passed_then}
use Rattle.h3_incoming.proofs.stream.front.front.Goals as goal

pub loop-found-preserved : goal.loop-found-preserved
loop-found-preserved c = (
  passed_then (kinds_of c.args.announced.now) (is_body c.args.place) (concat c.args.unread.now.pieces) (concat c.loop-found.unread.pieces) (concat c.front_one.new.unread.pieces) c.loop-found.invariant.0 (rw c.in-Ok-None.field-0-is at c.in-Ok-None.ensures.on),
  rest_then c.args.unread.now.pieces c.loop-found.unread.pieces c.front_one.new.unread.pieces c.loop-found.invariant.1 c.front_one.ensures.rest,
)

pub returns-in-Ok-Some-clause-rest : goal.returns-in-Ok-Some-clause-rest
returns-in-Ok-Some-clause-rest c = rest_then c.args.unread.now.pieces c.loop-found.unread.pieces c.front_one.new.unread.pieces c.loop-found.invariant.1 c.front_one.ensures.rest

pub returns-in-Err-clause-rest : goal.returns-in-Err-clause-rest
returns-in-Err-clause-rest c = rest_then c.args.unread.now.pieces c.loop-found.unread.pieces c.front_one.new.unread.pieces c.loop-found.invariant.1 c.front_one.ensures.rest
