-- The first stream on which bytes or its end wait, or one that is not done.
use Rattle.std.proofs.Common.{sym, ◌∙◌, ap, Some}
use Rattle.h3_requests.specs.Ready.{is_ready}
use Rattle.h3_requests.specs.Stored.{streams_in}
use Rattle.h3_requests.specs.Waiting.{is_any, is_waiting}
use Rattle.h3_requests.proofs.Sendable.{any_bytes, any_end, plain}
use Rattle.h3_requests.proofs.Unfinished.{one_of, some_bytes, some_end}
use Rattle.h3_requests.proofs.streams.RequestStreams.unfinished.Goals as goal

pub next-requires : goal.next-requires
next-requires c = plain c.self.invariant

pub next_end-requires : goal.next_end-requires
next_end-requires c = plain c.self.invariant

pub returns-in-Some : goal.returns-in-Some
returns-in-Some c =
    some_bytes (is_any (is_ready c.self.inside.ready)) (streams_in c.self.inside.streams) c.args.self.now c.next.result c.into_inner.result c.self.view_is (any_bytes c.self.invariant)
    (c.in-Some.is ∙ ap Some (sym c.into_inner.ensures.value)) c.next.ensures

pub returns-in-Some-next_end : goal.returns-in-Some-next_end
returns-in-Some-next_end c =
    some_end (is_any (is_waiting c.self.inside.ready.ends)) (streams_in c.self.inside.streams) c.args.self.now c.next_end.result c.into_inner-in-Some-next_end.result c.self.view_is (any_end c.self.invariant)
    (c.in-Some-next_end.is ∙ ap Some (sym c.into_inner-in-Some-next_end.ensures.value)) c.next_end.ensures

pub returns : goal.returns
returns c =
    one_of (is_any (is_ready c.self.inside.ready)) (is_any (is_waiting c.self.inside.ready.ends)) (streams_in c.self.inside.streams) c.args.self.now c.next.result c.next_end.result c.undone.result c.self.view_is
    (any_bytes c.self.invariant) (any_end c.self.invariant) c.in_default.is c.next.ensures c.in_default-next_end.is c.next_end.ensures c.undone.ensures
