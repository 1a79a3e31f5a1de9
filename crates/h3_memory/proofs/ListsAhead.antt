-- The list that comes next at an endpoint that is ahead is that of the one behind, where a pull of it has a header.
use Rattle.std.proofs.Common.{◌≡◌, ◌⊎◌, inl, inr, ℕ, Bool, true, false, List, [], refl, ap, nat_lt, Option, Some, None}
use Rattle.h3_qpack.specs.DecoderState.{DecoderState}
use Rattle.h3_connection.specs.declared.arrival.Arrival.{Arrival}
use Rattle.h3_connection.specs.declared.event.Fault.TheVariants as fault
use Rattle.h3_connection.specs.declared.event.Item.TheVariants as item
use Rattle.h3_connection.specs.declared.event.Pull.{Pull}
use Rattle.h3_connection.specs.declared.event.Pull.TheVariants as pull
use Rattle.h3_connection.specs.Delivering.{with_incoming}
use Rattle.h3_connection.specs.Endpoint.{EndpointHistory, Kind, heads_waiting, replied}
use Rattle.h3_connection.specs.Endpoint.Kind.{Request, ServerOpened, OwnUnidirectional, PeerUnidirectional}
use Rattle.h3_connection.specs.Incoming.{Incoming}
use Rattle.h3_connection.specs.PartReading.{HasNoSection}
use Rattle.h3_connection.specs.Pulling.{Pulled, pull_stream}
use Rattle.h3_connection.specs.Sending.{after_answer, if_too_many, pull_at, pull_request, within_limit}
use Rattle.h3_connection.specs.StreamSets.{Streams, set_stream, stream_at}
use Rattle.h3_connection.specs.Coming.{fields_next, fields_of_kind, fields_there}
use Rattle.h3_connection.specs.Coming.{HasNoHeader}
use Rattle.h3_connection.specs.Lists.{listed_pull}
use Rattle.h3_headline.specs.ListEventLaws.{any_list}
use Rattle.h3_memory.specs.Kept.{Delivery}
use Rattle.h3_memory.specs.Keeping.{EachResumes, Held, ahead}
use Rattle.h3_memory.proofs.AheadPulls.{ResumesAt, at_resumed}

-- an answer without a section has no header, and stays one
no_header : (a : Pull) → HasNoSection a → HasNoHeader a
no_header (pull.Item (item.Interim head)) none = none
no_header (pull.Item (item.Head head)) none = none
no_header (pull.Item (item.Trailer head)) none = none
no_header a none = tt

answered_none : (a : Pull) (e : EndpointHistory) → HasNoHeader a → HasNoHeader (after_answer a e).0
answered_none (pull.Item i) e none = none
answered_none pull.Pending e none = tt
answered_none (pull.Waiting count) e none = tt
answered_none (pull.Fault (fault.Connection code)) e none = tt
answered_none (pull.Fault (fault.Stream why)) e none = tt
answered_none (pull.Fault fault.Memory) e none = tt
answered_none pull.NoMessages e none = tt

within_none : (many : Bool) (p : Pulled) → HasNoHeader p.answer → HasNoHeader (if_too_many many p).answer
within_none true p none = tt
within_none false p none = none

pub lists_ahead : (mine : List Delivery) (held : Held) (kept : List Arrival) (behind : EndpointHistory) (news : Streams Incoming) (id : ℕ) (kind : Kind) → EachResumes behind.side behind.announced behind.incoming news
    → listed_pull (fields_of_kind (ahead behind mine held news kept) id kind) (pull_at behind id kind).0 ≡ listed_pull (fields_of_kind behind id kind) (pull_at behind id kind).0
lists_ahead mine held kept behind news id ServerOpened h = refl
lists_ahead mine held kept behind news id OwnUnidirectional h = refl
lists_ahead mine held kept behind news id PeerUnidirectional h = refl
lists_ahead mine held kept behind news id Request h = by_stream (stream_at behind.incoming id) (stream_at news id) (at_resumed behind.side behind.announced behind.incoming news id h)
  where
    r : DecoderState
    r = behind.decoding.decoder

    given : Option Incoming → Pull
    given o = (pull_request behind id o).0

    by_lists : (old new : Incoming) → HasNoSection (pull_stream behind.side behind.announced id r old).answer ⊎ (fields_next behind.announced r new ≡ fields_next behind.announced r old)
        → listed_pull (fields_next behind.announced r new) (given (Some old)) ≡ listed_pull (fields_next behind.announced r old) (given (Some old))
    by_lists old new (inr same) = ap (λ o. listed_pull o (given (Some old))) same
    by_lists old new (inl none) =
        let p = pull_stream behind.side behind.announced id r old in
        let q = within_limit behind id p in
        any_list (fields_next behind.announced r new) (fields_next behind.announced r old) (given (Some old))
        (answered_none q.answer (replied (with_incoming behind id q.incoming) q.replies)
        (within_none (nat_lt behind.announced.limits.blocked (heads_waiting r (set_stream behind.incoming id p.incoming))) p (no_header p.answer none)))

    by_stream : (o n : Option Incoming) → ResumesAt behind.side behind.announced id o n → listed_pull (fields_there behind.announced r n) (given o) ≡ listed_pull (fields_there behind.announced r o) (given o)
    by_stream None None h = refl
    by_stream None (Some new) h = absurd h
    by_stream (Some old) None h = absurd h
    by_stream (Some old) (Some new) h = by_lists old new (h.lists r [] false)
