use Rattle.std.proofs.Common.{sym}
use Rattle.h3_frames.proofs.Fronts.{front_drop, front_settings, front_then, front_within}
use Rattle.h3_frames.proofs.proto.frame.decode.read_payload.Goals as goal

pub returns-in-SETTINGS-clause-front : goal.returns-in-SETTINGS-clause-front
returns-in-SETTINGS-clause-front g c = front_settings c.args.len _ _ c.read_front.ensures.rest

pub returns-in-PUSH_PROMISE-clause-front : goal.returns-in-PUSH_PROMISE-clause-front
returns-in-PUSH_PROMISE-clause-front g c =
    let id = front_within c.in-Some.id c.args.len c.in-Some.left _ _ c.in-Some.ensures.some.0 c.in-Some.ensures.some.1 in
    front_then _ _ _ id (c.in-Err-copy_to_bytes.field-0.value.items, sym c.in-Err-copy_to_bytes.ensures.err)

pub returns-clause-front : goal.returns-clause-front
returns-clause-front g c = front_drop c.args.len _ _ c.advance.ensures.value
