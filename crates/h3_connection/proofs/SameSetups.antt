-- No call changes the side or what was announced.
use Rattle.std.proofs.Common.{◌≡◌, ℕ, Bool, true, false, List, [], ◌∷◌, length, refl, ◌∙◌}
use Rattle.std.specs.Prelude.{Option, Some, None}
use Rattle.h3_connection.specs.declared.event.Refusal.{Refusal}
use Rattle.h3_connection.specs.declared.event.Pull.{Pull}
use Rattle.h3_connection.specs.declared.event.Pull.TheVariants as answer
use Rattle.h3_connection.specs.declared.event.Fault.TheVariants as fault
use Rattle.h3_connection.specs.StreamSets.{stream_at}
use Rattle.h3_connection.specs.Incoming.{Incoming}
use Rattle.h3_connection.specs.Outgoing.{Outgoing as Out, is_end_next}
use Rattle.h3_connection.specs.Unidirectional.{Unidirectional, Role, with_bytes, role_after}
use Rattle.h3_connection.specs.Unidirectional.Role.{Untold, Control, Encoder, Decoder, Session, Push, Ignored, Other}
use Rattle.h3_connection.specs.Endpoint.{EndpointHistory, Kind, kind_of}
use Rattle.h3_connection.specs.Endpoint.Kind.{Request, ServerOpened, OwnUnidirectional, PeerUnidirectional}
use Rattle.h3_connection.specs.Control.{Found, read_control, read_encoder, read_decoder}
use Rattle.h3_connection.specs.Delivering.{opened_at, opened, taken, heard_as, unless_second, read_unidirectional, unidirectional_at, with_unidirectional, bytes_at, end_at, reset_at}
use Rattle.h3_connection.specs.Sending.{does, after_answer, pull_at, pull_unless, pull_request, pull_peer, advance_at, sent_bytes, counted}
use Rattle.h3_connection.specs.CallLists.{Call, Result, called, done, was_pulled}
use Rattle.h3_connection.specs.EndsWaiting.{end_taken_at, end_taken_if}
use Rattle.h3_connection.specs.CallLists.Call.{OpenRequest, SendHead, SendBody, SendTrailer, Finish, Reset, Goaway, Advance, TakeEnd, Outgoing, Deliver, DeliverEnd, DeliverReset, PullStream, Cancel, Show}
use Rattle.h3_connection.proofs.Quiet.{Quiet, quiet_control, quiet_decoder}
use Rattle.h3_connection.specs.StrictConnection.{known_streams}

pub record SameSetup (e f : EndpointHistory) : Type 0 where
  pub side : f.side ≡ e.side
  pub announced : f.announced ≡ e.announced

itself : (e : EndpointHistory) → SameSetup e e
itself e = record { side = refl; announced = refl }

quietly : (e f g : EndpointHistory) → f.side ≡ e.side → f.announced ≡ e.announced → Quiet f g → SameSetup e g
quietly e f g a b h = record { side = h.side ∙ a; announced = h.announced ∙ b }

opens : (e : EndpointHistory) (id : ℕ) (at : Option Incoming) → SameSetup e (opened_at e id at)
opens e id (Some i) = itself e
opens e id None = record { side = refl; announced = refl }

second : (e : EndpointHistory) (b : Bool) (found : Found) → SameSetup e found.0 → SameSetup e (unless_second b e found).0
second e true found h = itself e
second e false found h = h

hearing : (e : EndpointHistory) (id : ℕ) (role : Role) (bytes : List ℕ) → SameSetup e (heard_as e id role bytes).0
hearing e id (Untold front) bytes = itself e
hearing e id Control bytes = second e _ (read_control (record e { control_on = Some id }) bytes) (quietly e (record e { control_on = Some id }) _ refl refl (quiet_control (record e { control_on = Some id }) bytes))
hearing e id Encoder bytes = second e _ (read_encoder (record e { encoder_on = Some id }) bytes) (record { side = refl; announced = refl })
hearing e id Decoder bytes = second e _ (read_decoder (record e { decoder_on = Some id }) bytes) (quietly e (record e { decoder_on = Some id }) _ refl refl (quiet_decoder (record e { decoder_on = Some id }) bytes))
hearing e id (Session n) bytes = itself e
hearing e id (Push n) bytes = itself e
hearing e id Ignored bytes = itself e
hearing e id (Other kind) bytes = itself e

unidirectional : (e : EndpointHistory) (id : ℕ) (o : Unidirectional) (heard : Role × List ℕ) → SameSetup e (read_unidirectional e id o heard).0
unidirectional e id o (role, bytes) = let h = hearing (with_unidirectional e id (with_bytes o (role, bytes))) id role bytes in record { side = h.side; announced = h.announced }

does_all : (r : Option Refusal) (e f : EndpointHistory) (success : Result) → SameSetup e f → SameSetup e (done success (does r e f)).1
does_all (Some r) e f success h = itself e
does_all None e f success h = h

takes : (closed : Option ℕ) (r : Option Refusal) (e : EndpointHistory) (found : Found) (success : Result) → SameSetup e found.0 → SameSetup e (done success (taken closed r e found)).1
takes (Some code) r e found success h = itself e
takes None (Some r) e found success h = itself e
takes None None e (f, None) success h = h
takes None None e (f, Some code) success h = record { side = h.side; announced = h.announced }

came_on : (e f : EndpointHistory) (q : ℕ) → f.side ≡ (opened e q).side → f.announced ≡ (opened e q).announced → SameSetup e f
came_on e f q a b = let h = opens e q (stream_at e.incoming q) in record { side = a ∙ h.side; announced = b ∙ h.announced }

bytes_on : (e : EndpointHistory) (q : ℕ) (bytes : List ℕ) (k : Kind) → SameSetup e (bytes_at e q bytes k).0
bytes_on e q bytes Request = came_on e _ q refl refl
bytes_on e q bytes ServerOpened = itself e
bytes_on e q bytes OwnUnidirectional = itself e
bytes_on e q bytes PeerUnidirectional = unidirectional e q (unidirectional_at e q) (role_after (known_streams e.announced) (unidirectional_at e q).role bytes)

end_on : (e : EndpointHistory) (q : ℕ) (k : Kind) → SameSetup e (end_at e q k).0
end_on e q Request = came_on e _ q refl refl
end_on e q ServerOpened = itself e
end_on e q OwnUnidirectional = itself e
end_on e q PeerUnidirectional = record { side = refl; announced = refl }

reset_on : (e : EndpointHistory) (q code : ℕ) (k : Kind) → SameSetup e (reset_at e q code k).0
reset_on e q code Request = came_on e _ q refl refl
reset_on e q code ServerOpened = itself e
reset_on e q code OwnUnidirectional = itself e
reset_on e q code PeerUnidirectional = record { side = refl; announced = refl }

answers_on : (given : Pull) (e : EndpointHistory) → SameSetup e (after_answer given e).1
answers_on (answer.Fault (fault.Connection code)) e = record { side = refl; announced = refl }
answers_on (answer.Fault (fault.Stream f)) e = itself e
answers_on (answer.Fault fault.Memory) e = itself e
answers_on (answer.Item i) e = itself e
answers_on answer.Pending e = itself e
answers_on (answer.Waiting n) e = itself e
answers_on answer.NoMessages e = itself e

request_on : (e : EndpointHistory) (q : ℕ) (at : Option Incoming) → SameSetup e (pull_request e q at).1
request_on e q None = itself e
request_on e q (Some i) = let h = answers_on _ _ in record { side = h.side; announced = h.announced }

peer_on : (e : EndpointHistory) (q : ℕ) (at : Option Unidirectional) → SameSetup e (pull_peer e q at).1
peer_on e q None = itself e
peer_on e q (Some o) = record { side = refl; announced = refl }

pull_on : (e : EndpointHistory) (q : ℕ) (closed : Option ℕ) (k : Kind) → SameSetup e (was_pulled (pull_unless closed e (pull_at e q k))).1
pull_on e q (Some code) k = itself e
pull_on e q None Request = request_on e q (stream_at e.incoming q)
pull_on e q None ServerOpened = itself e
pull_on e q None OwnUnidirectional = itself e
pull_on e q None PeerUnidirectional = peer_on e q (stream_at e.unidirectional q)

body_on : (e : EndpointHistory) (id : ℕ) (bytes : List ℕ) → SameSetup e (counted (sent_bytes e id bytes) (length bytes))
body_on e id [] = record { side = refl; announced = refl }
body_on e id (byte ∷ bytes) = record { side = refl; announced = refl }

advance_on : (e : EndpointHistory) (id count : ℕ) (at : Option Out) → SameSetup e (advance_at e id count at)
advance_on e id count (Some o) = record { side = refl; announced = refl }
advance_on e id count None = record { side = refl; announced = refl }

end_taken_on : (e : EndpointHistory) (id : ℕ) (at : Option Out) → SameSetup e (end_taken_at e id at).1
end_taken_on e id (Some o) = by_test (is_end_next o)
  where
    by_test : (b : Bool) → SameSetup e (end_taken_if b e id o).1
    by_test true = record { side = refl; announced = refl }
    by_test false = record { side = refl; announced = refl }
end_taken_on e id None = record { side = refl; announced = refl }

pub same_setup : (e : EndpointHistory) (c : Call) → SameSetup e (called e c).1
same_setup e OpenRequest = does_all _ e _ _ (record { side = refl; announced = refl })
same_setup e (SendHead q head) = does_all _ e _ _ (record { side = refl; announced = refl })
same_setup e (SendBody q bytes) = does_all _ e _ _ (body_on e q bytes)
same_setup e (SendTrailer q head) = does_all _ e _ _ (record { side = refl; announced = refl })
same_setup e (Finish q) = does_all _ e _ _ (record { side = refl; announced = refl })
same_setup e (Reset q) = does_all _ e _ _ (record { side = refl; announced = refl })
same_setup e (Goaway n) = does_all _ e _ _ (record { side = refl; announced = refl })
same_setup e (Advance q count) = advance_on e q count (stream_at e.outgoing q)
same_setup e (TakeEnd q) = end_taken_on e q (stream_at e.outgoing q)
same_setup e (Outgoing q) = itself e
same_setup e (Deliver q bytes) = takes e.closed _ e _ _ (bytes_on e q bytes (kind_of e.side q))
same_setup e (DeliverEnd q) = takes e.closed _ e _ _ (end_on e q (kind_of e.side q))
same_setup e (DeliverReset q code) = takes e.closed _ e _ _ (reset_on e q code (kind_of e.side q))
same_setup e (PullStream q) = pull_on e q e.closed (kind_of e.side q)
same_setup e (Cancel q) = does_all _ e _ _ (record { side = refl; announced = refl })
same_setup e Show = itself e
