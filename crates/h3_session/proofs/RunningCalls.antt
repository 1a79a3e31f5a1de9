-- What each call of one of two endpoints answers, as an event of both.
use Rattle.std.proofs.Common.{◌≡◌, ◌≢◌, ℕ, List, false, Option, Some, refl, ap, sym, subst, ◌∙◌}
use Rattle.std.specs.Prelude.{Result, Ok, Err}
use Rattle.h3_field.specs.Field.{Field}
use Rattle.h3_header.specs.Head.{Head}
use Rattle.h3_proto.specs.declared.stream.Side.TheVariants.{Client, Server}
use Rattle.h3_connection.specs.Answers.{call_refused, body_refused}
use Rattle.h3_connection.specs.Coming.{fields_behind}
use Rattle.h3_connection.specs.Endpoint.{EndpointHistory}
use Rattle.h3_connection.specs.Sending as sender
use Rattle.h3_connection.specs.SendingContracts.{Opens, SendsHead, SendsTrailer, SendsBody, Finishes, Resets, GoesAway, Cancels}
use Rattle.h3_connection.specs.Pulling.{is_memory as pull_lacks}
use Rattle.h3_connection.specs.ReceivingContracts.{PullsNext}
use Rattle.h3_connection.specs.State.{EndpointState, StandsFor}
use Rattle.h3_connection.specs.declared.event.Pull.{Pull}
use Rattle.h3_connection.specs.declared.event.Pull.TheVariants as pull
use Rattle.h3_connection.specs.declared.event.Fault.TheVariants as fault
use Rattle.h3_connection.specs.declared.event.Refusal.{Refusal}
use Rattle.h3_connection.specs.declared.event.Refusal.TheVariants as refusal
use Rattle.h3_connection.specs.Keeping.{pulls}
use Rattle.h3_connection.specs.Lists.{list_of, listed_pull, pull_of}
use Rattle.h3_connection.specs.declared.lists.ListItem.TheVariants as listed
use Rattle.h3_connection.specs.declared.lists.ListPull.{ListPull}
use Rattle.h3_connection.specs.declared.lists.ListPull.TheVariants as list
use Rattle.h3_incoming.specs.Answering.{Lists}
use Rattle.h3_world.specs.EndLists as lists
use Rattle.h3_world.specs.Ends.{Ends, done}
use Rattle.h3_world.specs.Headline.{is_out_of_memory}
use Rattle.h3_world.specs.declared.event.Answer.{Answer}
use Rattle.h3_world.specs.declared.event.Answer.TheVariants as answer
use Rattle.h3_world.specs.declared.event.Event.TheVariants as does
use Rattle.h3_session.specs.Acting.{PullsList}
use Rattle.h3_session.specs.SendingLists.{SendsFieldList, SendsTrailerList}
use Rattle.h3_session.specs.Running.{Carries, Shown, answer_of, done_answer, body_answer, opened_answer, bytes_go, end_goes, reset_goes}
use Rattle.h3_session.proofs.ListEvents.{fields_sent, trailer_fields_sent}
use Rattle.h3_session.proofs.Running.{AnswersEvent, Ended, client_done, server_done, client_bytes, server_bytes, client_end, server_end, client_reset as client_reset_goes, server_reset as server_reset_goes}

-- a call answers and leaves what its definition does, unless memory was refused
abbrev Acts : (EndpointHistory → Option Refusal × EndpointHistory) → EndpointState → EndpointState → Option Refusal → Type 0
Acts act old new refused = (e : EndpointHistory) → StandsFor old e → refused ≢ Some refusal.OutOfMemory → (refused ≡ (act e).0) × StandsFor new (act e).1

no_memory : (success : Answer) (refused : Option Refusal) → is_out_of_memory (answer_of success refused) ≡ false → refused ≢ Some refusal.OutOfMemory
no_memory success refused not_memory is = absurd (cc (subst (λ r. is_out_of_memory (answer_of success r) ≡ false) is not_memory))

client_acts : (act : EndpointHistory → Option Refusal × EndpointHistory) (client after server : EndpointState) (success : Answer) (refused : Option Refusal) → Acts act client after refused
    → (ends : Ends) → StandsFor client ends.client → StandsFor server ends.server → is_out_of_memory (answer_of success refused) ≡ false
    → Ended (answer_of success refused) after server (done ends Client success (act ends.client))
client_acts act client after server success refused acts ends c s not_memory =
    let x = acts ends.client c (no_memory success refused not_memory) in client_done ends after server success refused (act ends.client) x.0 x.1 s

server_acts : (act : EndpointHistory → Option Refusal × EndpointHistory) (client server after : EndpointState) (success : Answer) (refused : Option Refusal) → Acts act server after refused
    → (ends : Ends) → StandsFor client ends.client → StandsFor server ends.server → is_out_of_memory (answer_of success refused) ≡ false
    → Ended (answer_of success refused) client after (done ends Server success (act ends.server))
server_acts act client server after success refused acts ends c s not_memory =
    let x = acts ends.server s (no_memory success refused not_memory) in server_done ends client after success refused (act ends.server) x.0 c x.1

pub client_head : (client after server : EndpointState) (id : ℕ) (head : Head) (r : Result Unit Refusal) → SendsHead client after id head r → AnswersEvent (does.Head Client id head) client server (done_answer r) after server
client_head client after server id head r h = client_acts (λ e. sender.send_head e id head) client after server answer.Done (call_refused r) h.done

pub server_head : (client server after : EndpointState) (id : ℕ) (head : Head) (r : Result Unit Refusal) → SendsHead server after id head r → AnswersEvent (does.Head Server id head) client server (done_answer r) client after
server_head client server after id head r h = server_acts (λ e. sender.send_head e id head) client server after answer.Done (call_refused r) h.done

-- a list that goes out is sent as its event says
fields_act : (old new : EndpointState) (id : ℕ) (fields : List Field) (r : Result Unit Refusal) → SendsFieldList old new id fields r → Acts (λ e. lists.send_fields e id fields) old new (call_refused r)
fields_act old new id fields r h e stands not_memory =
    subst (λ (x : Option Refusal × EndpointHistory). (call_refused r ≡ x.0) × StandsFor new x.1) (fields_sent e id fields) (h.done e stands not_memory)

trailer_fields_act : (old new : EndpointState) (id : ℕ) (fields : List Field) (r : Result Unit Refusal) → SendsTrailerList old new id fields r → Acts (λ e. lists.send_trailer_fields e id fields) old new (call_refused r)
trailer_fields_act old new id fields r h e stands not_memory =
    subst (λ (x : Option Refusal × EndpointHistory). (call_refused r ≡ x.0) × StandsFor new x.1) (trailer_fields_sent e id fields) (h.done e stands not_memory)

pub client_fields : (client after server : EndpointState) (id : ℕ) (fields : List Field) (r : Result Unit Refusal) → SendsFieldList client after id fields r → AnswersEvent (does.Fields Client id fields) client server (done_answer r) after server
client_fields client after server id fields r h = client_acts (λ e. lists.send_fields e id fields) client after server answer.Done (call_refused r) (fields_act client after id fields r h)

pub server_fields : (client server after : EndpointState) (id : ℕ) (fields : List Field) (r : Result Unit Refusal) → SendsFieldList server after id fields r → AnswersEvent (does.Fields Server id fields) client server (done_answer r) client after
server_fields client server after id fields r h = server_acts (λ e. lists.send_fields e id fields) client server after answer.Done (call_refused r) (fields_act server after id fields r h)

pub client_trailer_fields : (client after server : EndpointState) (id : ℕ) (fields : List Field) (r : Result Unit Refusal) → SendsTrailerList client after id fields r → AnswersEvent (does.TrailerFields Client id fields) client server (done_answer r) after server
client_trailer_fields client after server id fields r h = client_acts (λ e. lists.send_trailer_fields e id fields) client after server answer.Done (call_refused r) (trailer_fields_act client after id fields r h)

pub server_trailer_fields : (client server after : EndpointState) (id : ℕ) (fields : List Field) (r : Result Unit Refusal) → SendsTrailerList server after id fields r → AnswersEvent (does.TrailerFields Server id fields) client server (done_answer r) client after
server_trailer_fields client server after id fields r h = server_acts (λ e. lists.send_trailer_fields e id fields) client server after answer.Done (call_refused r) (trailer_fields_act server after id fields r h)

pub client_body : (client after server : EndpointState) (id : ℕ) (bytes : List ℕ) (r : Result Unit (Refusal × List ℕ)) → SendsBody client after id bytes r → AnswersEvent (does.Body Client id bytes) client server (body_answer r) after server
client_body client after server id bytes r h = client_acts (λ e. sender.send_body e id bytes) client after server answer.Done (body_refused r) h.sends.done

pub server_body : (client server after : EndpointState) (id : ℕ) (bytes : List ℕ) (r : Result Unit (Refusal × List ℕ)) → SendsBody server after id bytes r → AnswersEvent (does.Body Server id bytes) client server (body_answer r) client after
server_body client server after id bytes r h = server_acts (λ e. sender.send_body e id bytes) client server after answer.Done (body_refused r) h.sends.done

pub client_trailer : (client after server : EndpointState) (id : ℕ) (head : Head) (r : Result Unit Refusal) → SendsTrailer client after id head r → AnswersEvent (does.Trailer Client id head) client server (done_answer r) after server
client_trailer client after server id head r h = client_acts (λ e. sender.send_trailer e id head) client after server answer.Done (call_refused r) h.done

pub server_trailer : (client server after : EndpointState) (id : ℕ) (head : Head) (r : Result Unit Refusal) → SendsTrailer server after id head r → AnswersEvent (does.Trailer Server id head) client server (done_answer r) client after
server_trailer client server after id head r h = server_acts (λ e. sender.send_trailer e id head) client server after answer.Done (call_refused r) h.done

pub client_finish : (client after server : EndpointState) (id : ℕ) (r : Result Unit Refusal) → Finishes client after id r → AnswersEvent (does.Finish Client id) client server (done_answer r) after server
client_finish client after server id r h = client_acts (λ e. sender.finish e id) client after server answer.Done (call_refused r) (λ e stands not_memory. h.done e stands)

pub server_finish : (client server after : EndpointState) (id : ℕ) (r : Result Unit Refusal) → Finishes server after id r → AnswersEvent (does.Finish Server id) client server (done_answer r) client after
server_finish client server after id r h = server_acts (λ e. sender.finish e id) client server after answer.Done (call_refused r) (λ e stands not_memory. h.done e stands)

pub client_reset : (client after server : EndpointState) (id : ℕ) (r : Result Unit Refusal) → Resets client after id r → AnswersEvent (does.Reset Client id) client server (done_answer r) after server
client_reset client after server id r h = client_acts (λ e. sender.reset e id) client after server answer.Done (call_refused r) (λ e stands not_memory. h.done e stands)

pub server_reset : (client server after : EndpointState) (id : ℕ) (r : Result Unit Refusal) → Resets server after id r → AnswersEvent (does.Reset Server id) client server (done_answer r) client after
server_reset client server after id r h = server_acts (λ e. sender.reset e id) client server after answer.Done (call_refused r) (λ e stands not_memory. h.done e stands)

pub client_cancel : (client after server : EndpointState) (id : ℕ) (r : Result Unit Refusal) → Cancels client after id r → AnswersEvent (does.Cancel Client id) client server (done_answer r) after server
client_cancel client after server id r h = client_acts (λ e. sender.cancel e id) client after server answer.Done (call_refused r) h.done

pub server_cancel : (client server after : EndpointState) (id : ℕ) (r : Result Unit Refusal) → Cancels server after id r → AnswersEvent (does.Cancel Server id) client server (done_answer r) client after
server_cancel client server after id r h = server_acts (λ e. sender.cancel e id) client server after answer.Done (call_refused r) h.done

pub client_goaway : (client after server : EndpointState) (id : ℕ) (r : Result Unit Refusal) → GoesAway client after id r → AnswersEvent (does.Goaway Client id) client server (done_answer r) after server
client_goaway client after server id r h = client_acts (λ e. sender.goaway e id) client after server answer.Done (call_refused r) h.done

pub server_goaway : (client server after : EndpointState) (id : ℕ) (r : Result Unit Refusal) → GoesAway server after id r → AnswersEvent (does.Goaway Server id) client server (done_answer r) client after
server_goaway client server after id r h = server_acts (λ e. sender.goaway e id) client server after answer.Done (call_refused r) h.done

-- A stream is opened, and its id is the next one.
opened_by : (success : Answer) (id next : ℕ) (r : Result ℕ Refusal) → success ≡ answer.Opened next → (r ≡ Ok id → id ≡ next) → r ≡ Ok id → opened_answer r ≡ answer_of success (call_refused r)
opened_by success id next r is same ok = subst (λ x. opened_answer x ≡ answer_of success (call_refused x)) (sym ok) (ap answer.Opened (same ok) ∙ sym is)

opened_is : (success : Answer) (next : ℕ) (r : Result ℕ Refusal) → success ≡ answer.Opened next → ((id : ℕ) → r ≡ Ok id → id ≡ next) → opened_answer r ≡ answer_of success (call_refused r)
opened_is success next (Ok id) is same = opened_by success id next (Ok id) is (same id) refl
opened_is success next (Err e) is same = refl

pub client_open : (client after server : EndpointState) (r : Result ℕ Refusal) → Opens client after r → AnswersEvent (does.OpenRequest Client) client server (opened_answer r) after server
client_open client after server r h ends c s not_memory =
    let success : Answer = answer.Opened ends.client.next_id in
    let is : opened_answer r ≡ answer_of success (call_refused r) = opened_is success ends.client.next_id r refl (λ id ok. h.id id ok ∙ c.next_id) in
    subst (λ a. Ended a after server (done ends Client success (sender.open_request ends.client))) (sym is)
    (client_acts (λ e. sender.open_request e) client after server success (call_refused r) h.opens.done ends c s (subst (λ a. is_out_of_memory a ≡ false) is not_memory))

pub server_open : (client server after : EndpointState) (r : Result ℕ Refusal) → Opens server after r → AnswersEvent (does.OpenRequest Server) client server (opened_answer r) client after
server_open client server after r h ends c s not_memory =
    let success : Answer = answer.Opened ends.server.next_id in
    let is : opened_answer r ≡ answer_of success (call_refused r) = opened_is success ends.server.next_id r refl (λ id ok. h.id id ok ∙ s.next_id) in
    subst (λ a. Ended a client after (done ends Server success (sender.open_request ends.server))) (sym is)
    (server_acts (λ e. sender.open_request e) client server after success (call_refused r) h.opens.done ends c s (subst (λ a. is_out_of_memory a ≡ false) is not_memory))

-- The next item.
pulled_by : (p : Pull) → is_out_of_memory (answer.Pulled p) ≡ false → pull_lacks p ≡ false
pulled_by (pull.Item i) h = refl
pulled_by pull.Pending h = refl
pulled_by (pull.Waiting count) h = refl
pulled_by (pull.Fault (fault.Connection code)) h = refl
pulled_by (pull.Fault (fault.Stream f)) h = refl
pulled_by (pull.Fault fault.Memory) h = absurd (cc)
pulled_by pull.NoMessages h = refl

pub client_pull : (client after server : EndpointState) (id : ℕ) (p : Pull) → PullsNext client after id p → AnswersEvent (does.Pull Client id) client server (answer.Pulled p) after server
client_pull client after server id p h ends c s not_memory =
    let x = h.done ends.client c (pulled_by p not_memory) in (ap answer.Pulled x.0, x.1, s)

pub server_pull : (client server after : EndpointState) (id : ℕ) (p : Pull) → PullsNext server after id p → AnswersEvent (does.Pull Server id) client server (answer.Pulled p) client after
server_pull client server after id p h ends c s not_memory =
    let x = h.done ends.server s (pulled_by p not_memory) in (ap answer.Pulled x.0, c, x.1)

-- And with a list in the place of a header.
listed_as : (came : Option (List Field)) (l : ListPull) → Lists (list_of l) came → l ≡ listed_pull came (pull_of l)
listed_as came (list.Item (listed.Interim fields)) h = sym (ap (λ o. listed_pull o (pull_of (list.Item (listed.Interim fields)))) h)
listed_as came (list.Item (listed.Head fields)) h = sym (ap (λ o. listed_pull o (pull_of (list.Item (listed.Head fields)))) h)
listed_as came (list.Item (listed.Trailer fields)) h = sym (ap (λ o. listed_pull o (pull_of (list.Item (listed.Trailer fields)))) h)
listed_as came (list.Item (listed.Body bytes)) h = refl
listed_as came (list.Item (listed.TooLarge size)) h = refl
listed_as came (list.Item (listed.Session session)) h = refl
listed_as came (list.Item (listed.Raw bytes)) h = refl
listed_as came (list.Item listed.End) h = refl
listed_as came list.Pending h = refl
listed_as came (list.Waiting count) h = refl
listed_as came (list.Fault fault) h = refl
listed_as came list.NoMessages h = refl

listed_by : (s new : EndpointState) (id : ℕ) (l : ListPull) → PullsList s new id l → is_out_of_memory (answer.Listed l) ≡ false → (e : EndpointHistory) → StandsFor s e
    → (l ≡ listed_pull (fields_behind e.kept e id) (pulls e id).0) × StandsFor new (pulls e id).1
listed_by s new id l h not_memory e stands =
    let x = h.pulls.done e stands (pulled_by (pull_of l) not_memory) in
    (listed_as (fields_behind e.kept e id) l (h.list e stands) ∙ ap (listed_pull (fields_behind e.kept e id)) x.0, x.1)

pub client_lists : (client after server : EndpointState) (id : ℕ) (l : ListPull) → PullsList client after id l → AnswersEvent (does.PullFields Client id) client server (answer.Listed l) after server
client_lists client after server id l h ends c s not_memory =
    let x = listed_by client after id l h not_memory ends.client c in (ap answer.Listed x.0, x.1, s)

pub server_lists : (client server after : EndpointState) (id : ℕ) (l : ListPull) → PullsList server after id l → AnswersEvent (does.PullFields Server id) client server (answer.Listed l) client after
server_lists client server after id l h ends c s not_memory =
    let x = listed_by server after id l h not_memory ends.server s in (ap answer.Listed x.0, c, x.1)

-- What an end shows.
pub client_show : (client server : EndpointState) (given : Answer) → Shown client given → AnswersEvent (does.Show Client) client server given client server
client_show client server given h ends c s not_memory = (h ends.client c, c, s)

pub server_show : (client server : EndpointState) (given : Answer) → Shown server given → AnswersEvent (does.Show Server) client server given client server
server_show client server given h ends c s not_memory = (h ends.server s, c, s)

-- What goes from one to the other.
pub client_carries : (client server client_after server_after : EndpointState) (id count : ℕ) (given : Answer) → Carries (λ w r. bytes_go w r id count) client server given client_after server_after
    → AnswersEvent (does.Deliver Client id count) client server given client_after server_after
client_carries client server client_after server_after id count given h ends c s not_memory =
    subst (Ended given client_after server_after) (sym (client_bytes ends id count)) (h ends.client ends.server c s not_memory)

pub server_carries : (client server client_after server_after : EndpointState) (id count : ℕ) (given : Answer) → Carries (λ w r. bytes_go w r id count) server client given server_after client_after
    → AnswersEvent (does.Deliver Server id count) client server given client_after server_after
server_carries client server client_after server_after id count given h ends c s not_memory =
    let x = h ends.server ends.client s c not_memory in
    subst (Ended given client_after server_after) (sym (server_bytes ends id count)) (x.0, x.2, x.1)

pub client_ends : (client server client_after server_after : EndpointState) (id : ℕ) (given : Answer) → Carries (λ w r. end_goes w r id) client server given client_after server_after
    → AnswersEvent (does.DeliverEnd Client id) client server given client_after server_after
client_ends client server client_after server_after id given h ends c s not_memory =
    subst (Ended given client_after server_after) (sym (client_end ends id)) (h ends.client ends.server c s not_memory)

pub server_ends : (client server client_after server_after : EndpointState) (id : ℕ) (given : Answer) → Carries (λ w r. end_goes w r id) server client given server_after client_after
    → AnswersEvent (does.DeliverEnd Server id) client server given client_after server_after
server_ends client server client_after server_after id given h ends c s not_memory =
    let x = h ends.server ends.client s c not_memory in
    subst (Ended given client_after server_after) (sym (server_end ends id)) (x.0, x.2, x.1)

pub client_resets : (client server client_after server_after : EndpointState) (id : ℕ) (given : Answer) → Carries (λ w r. reset_goes w r id) client server given client_after server_after
    → AnswersEvent (does.DeliverReset Client id) client server given client_after server_after
client_resets client server client_after server_after id given h ends c s not_memory =
    subst (Ended given client_after server_after) (sym (client_reset_goes ends id)) (h ends.client ends.server c s not_memory)

pub server_resets : (client server client_after server_after : EndpointState) (id : ℕ) (given : Answer) → Carries (λ w r. reset_goes w r id) server client given server_after client_after
    → AnswersEvent (does.DeliverReset Server id) client server given client_after server_after
server_resets client server client_after server_after id given h ends c s not_memory =
    let x = h ends.server ends.client s c not_memory in
    subst (Ended given client_after server_after) (sym (server_reset_goes ends id)) (x.0, x.2, x.1)
