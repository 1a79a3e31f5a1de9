-- An event that is answered by its call is answered as two histories do, unless memory was refused.
use Rattle.std.proofs.Common.{◌≡◌, inl, inr, ℕ, List, false, refl, sym, subst}
use Rattle.h3_proto.specs.declared.stream.Side.{Side}
use Rattle.h3_proto.specs.declared.stream.Side.TheVariants.{Client, Server}
use Rattle.h3_connection.specs.SendingContracts.{Opens, SendsHead, SendsBody, SendsTrailer, Finishes, Resets, Cancels, GoesAway}
use Rattle.h3_connection.specs.ReceivingContracts.{PullsNext}
use Rattle.h3_connection.specs.State.{EndpointState}
use Rattle.h3_connection.specs.declared.event.Refusal.TheVariants as refusal
use Rattle.h3_world.specs.Headline.{is_out_of_memory}
use Rattle.h3_world.specs.declared.event.Answer.{Answer}
use Rattle.h3_world.specs.declared.event.Answer.TheVariants as answer
use Rattle.h3_world.specs.declared.event.Event.{Event}
use Rattle.h3_world.specs.declared.event.Event.TheVariants as event
use Rattle.h3_session.specs.Acting.{Acts, ByOne, PullsList, SendsShared, Tells}
use Rattle.h3_session.specs.SendingLists.{SendsFieldList, SendsTrailerList}
use Rattle.h3_session.specs.Running.{Shown, body_answer, done_answer, opened_answer}
use Rattle.h3_session.proofs.Running.{AnswersEvent}
use Rattle.h3_session.proofs.RunningCalls.{client_open, client_head, client_body, client_trailer, client_finish, client_reset, client_cancel, client_goaway, client_carries, client_ends, client_resets, client_pull, client_show, client_fields, client_trailer_fields, client_lists, server_fields, server_trailer_fields, server_lists, server_open, server_head, server_body, server_trailer, server_finish, server_reset, server_cancel, server_goaway, server_carries, server_ends, server_resets, server_pull, server_show}

-- by the side that acts
by_client : (e : Event) (client server : EndpointState) (given made : Answer) (client_after server_after : EndpointState) → given ≡ made → server_after ≡ server
    → AnswersEvent e client server made client_after server → AnswersEvent e client server given client_after server_after
by_client e client server given made client_after server_after is same h =
    subst (λ s. AnswersEvent e client server given client_after s) (sym same) (subst (λ a. AnswersEvent e client server a client_after server) (sym is) h)

by_server : (e : Event) (client server : EndpointState) (given made : Answer) (client_after server_after : EndpointState) → given ≡ made → client_after ≡ client
    → AnswersEvent e client server made client server_after → AnswersEvent e client server given client_after server_after
by_server e client server given made client_after server_after is same h =
    subst (λ s. AnswersEvent e client server given s server_after) (sym same) (subst (λ a. AnswersEvent e client server a client server_after) (sym is) h)

module _ {R : Type 0} (told : R → Answer) (call : EndpointState → EndpointState → R → Type 0) (e : Event) (client server : EndpointState) (given : Answer) (client_after server_after : EndpointState) where
  client_tells : Tells told call client client_after given × (server_after ≡ server) → ((r : R) → call client client_after r → AnswersEvent e client server (told r) client_after server)
      → AnswersEvent e client server given client_after server_after
  client_tells h answers = by_client e client server given (told h.0.result) client_after server_after h.0.given_is h.1 (answers h.0.result h.0.called)

  server_tells : Tells told call server server_after given × (client_after ≡ client) → ((r : R) → call server server_after r → AnswersEvent e client server (told r) client server_after)
      → AnswersEvent e client server given client_after server_after
  server_tells h answers = by_server e client server given (told h.0.result) client_after server_after h.0.given_is h.1 (answers h.0.result h.0.called)

-- A body whose bytes are shared goes out, or memory is refused for that.
pub shared : (side : Side) (id : ℕ) (bytes copy : List ℕ) (client server : EndpointState) (given : Answer) (client_after server_after : EndpointState) → copy ≡ bytes
    → ByOne side (Tells body_answer (λ s t r. SendsBody s t id copy r)) client server given client_after server_after → Acts (event.Body side id bytes) client server given client_after server_after
shared Client id bytes copy client server given client_after server_after is h = (inl (subst (λ b. Tells body_answer (λ s t r. SendsBody s t id b r) client client_after given) is h.0), h.1)
shared Server id bytes copy client server given client_after server_after is h = (inl (subst (λ b. Tells body_answer (λ s t r. SendsBody s t id b r) server server_after given) is h.0), h.1)

pub not_shared : (side : Side) (id : ℕ) (bytes : List ℕ) (client server : EndpointState) → Acts (event.Body side id bytes) client server (answer.Refused refusal.OutOfMemory) client server
not_shared Client id bytes client server = (inr (refl, refl), refl)
not_shared Server id bytes client server = (inr (refl, refl), refl)

-- of which nothing is said where memory is not refused
unshared : (e : Event) (client server : EndpointState) (given : Answer) (client_after server_after : EndpointState) → given ≡ answer.Refused refusal.OutOfMemory → AnswersEvent e client server given client_after server_after
unshared e client server given client_after server_after is ends c s not_memory = absurd (cc (subst (λ a. is_out_of_memory a ≡ false) is not_memory))

client_shares : (id : ℕ) (bytes : List ℕ) (client server : EndpointState) (given : Answer) (client_after server_after : EndpointState) → SendsShared id bytes client client_after given → server_after ≡ server
    → AnswersEvent (event.Body Client id bytes) client server given client_after server_after
client_shares id bytes client server given client_after server_after (inl sends) same =
    client_tells body_answer (λ s t r. SendsBody s t id bytes r) (event.Body Client id bytes) client server given client_after server_after (sends, same) (λ r sent. client_body client client_after server id bytes r sent)
client_shares id bytes client server given client_after server_after (inr none) same = unshared (event.Body Client id bytes) client server given client_after server_after none.0

server_shares : (id : ℕ) (bytes : List ℕ) (client server : EndpointState) (given : Answer) (client_after server_after : EndpointState) → SendsShared id bytes server server_after given → client_after ≡ client
    → AnswersEvent (event.Body Server id bytes) client server given client_after server_after
server_shares id bytes client server given client_after server_after (inl sends) same =
    server_tells body_answer (λ s t r. SendsBody s t id bytes r) (event.Body Server id bytes) client server given client_after server_after (sends, same) (λ r sent. server_body client server server_after id bytes r sent)
server_shares id bytes client server given client_after server_after (inr none) same = unshared (event.Body Server id bytes) client server given client_after server_after none.0

-- what an end shows changes nothing
client_shows : (client server : EndpointState) (given : Answer) (client_after server_after : EndpointState) → client_after ≡ client → Shown client given → server_after ≡ server → AnswersEvent (event.Show Client) client server given client_after server_after
client_shows client server given client_after server_after same shown same_server =
    by_client (event.Show Client) client server given given client_after server_after refl same_server
    (subst (λ c. AnswersEvent (event.Show Client) client server given c server) (sym same) (client_show client server given shown))

server_shows : (client server : EndpointState) (given : Answer) (client_after server_after : EndpointState) → server_after ≡ server → Shown server given → client_after ≡ client → AnswersEvent (event.Show Server) client server given client_after server_after
server_shows client server given client_after server_after same shown same_client =
    by_server (event.Show Server) client server given given client_after server_after refl same_client
    (subst (λ s. AnswersEvent (event.Show Server) client server given client s) (sym same) (server_show client server given shown))

pub acts_answers : (e : Event) (client server : EndpointState) (a : Answer) (c s : EndpointState) → Acts e client server a c s → AnswersEvent e client server a c s
acts_answers (event.OpenRequest Client) client server a c s h = client_tells opened_answer Opens (event.OpenRequest Client) client server a c s h (λ r called. client_open client c server r called)
acts_answers (event.OpenRequest Server) client server a c s h = server_tells opened_answer Opens (event.OpenRequest Server) client server a c s h (λ r called. server_open client server s r called)
acts_answers (event.Head Client id head) client server a c s h =
    client_tells done_answer (λ s t r. SendsHead s t id head r) (event.Head Client id head) client server a c s h (λ r called. client_head client c server id head r called)
acts_answers (event.Head Server id head) client server a c s h =
    server_tells done_answer (λ s t r. SendsHead s t id head r) (event.Head Server id head) client server a c s h (λ r called. server_head client server s id head r called)
acts_answers (event.Fields Client id fields) client server a c s h =
    client_tells done_answer (λ s t r. SendsFieldList s t id fields r) (event.Fields Client id fields) client server a c s h (λ r called. client_fields client c server id fields r called)
acts_answers (event.Fields Server id fields) client server a c s h =
    server_tells done_answer (λ s t r. SendsFieldList s t id fields r) (event.Fields Server id fields) client server a c s h (λ r called. server_fields client server s id fields r called)
acts_answers (event.Body Client id bytes) client server a c s h = client_shares id bytes client server a c s h.0 h.1
acts_answers (event.Body Server id bytes) client server a c s h = server_shares id bytes client server a c s h.0 h.1
acts_answers (event.Trailer Client id trailer) client server a c s h =
    client_tells done_answer (λ s t r. SendsTrailer s t id trailer r) (event.Trailer Client id trailer) client server a c s h (λ r called. client_trailer client c server id trailer r called)
acts_answers (event.Trailer Server id trailer) client server a c s h =
    server_tells done_answer (λ s t r. SendsTrailer s t id trailer r) (event.Trailer Server id trailer) client server a c s h (λ r called. server_trailer client server s id trailer r called)
acts_answers (event.TrailerFields Client id fields) client server a c s h =
    client_tells done_answer (λ s t r. SendsTrailerList s t id fields r) (event.TrailerFields Client id fields) client server a c s h (λ r called. client_trailer_fields client c server id fields r called)
acts_answers (event.TrailerFields Server id fields) client server a c s h =
    server_tells done_answer (λ s t r. SendsTrailerList s t id fields r) (event.TrailerFields Server id fields) client server a c s h (λ r called. server_trailer_fields client server s id fields r called)
acts_answers (event.Finish Client id) client server a c s h = client_tells done_answer (λ s t r. Finishes s t id r) (event.Finish Client id) client server a c s h (λ r called. client_finish client c server id r called)
acts_answers (event.Finish Server id) client server a c s h = server_tells done_answer (λ s t r. Finishes s t id r) (event.Finish Server id) client server a c s h (λ r called. server_finish client server s id r called)
acts_answers (event.Reset Client id) client server a c s h = client_tells done_answer (λ s t r. Resets s t id r) (event.Reset Client id) client server a c s h (λ r called. client_reset client c server id r called)
acts_answers (event.Reset Server id) client server a c s h = server_tells done_answer (λ s t r. Resets s t id r) (event.Reset Server id) client server a c s h (λ r called. server_reset client server s id r called)
acts_answers (event.Cancel Client id) client server a c s h = client_tells done_answer (λ s t r. Cancels s t id r) (event.Cancel Client id) client server a c s h (λ r called. client_cancel client c server id r called)
acts_answers (event.Cancel Server id) client server a c s h = server_tells done_answer (λ s t r. Cancels s t id r) (event.Cancel Server id) client server a c s h (λ r called. server_cancel client server s id r called)
acts_answers (event.Goaway Client id) client server a c s h = client_tells done_answer (λ s t r. GoesAway s t id r) (event.Goaway Client id) client server a c s h (λ r called. client_goaway client c server id r called)
acts_answers (event.Goaway Server id) client server a c s h = server_tells done_answer (λ s t r. GoesAway s t id r) (event.Goaway Server id) client server a c s h (λ r called. server_goaway client server s id r called)
acts_answers (event.Deliver Client id count) client server a c s h = client_carries client server c s id count a h.goes
acts_answers (event.Deliver Server id count) client server a c s h = server_carries client server c s id count a h.goes
acts_answers (event.DeliverEnd Client id) client server a c s h = client_ends client server c s id a h.goes
acts_answers (event.DeliverEnd Server id) client server a c s h = server_ends client server c s id a h.goes
acts_answers (event.DeliverReset Client id) client server a c s h = client_resets client server c s id a h.goes
acts_answers (event.DeliverReset Server id) client server a c s h = server_resets client server c s id a h.goes
acts_answers (event.Pull Client id) client server a c s h = client_tells answer.Pulled (λ s t p. PullsNext s t id p) (event.Pull Client id) client server a c s h (λ p called. client_pull client c server id p called)
acts_answers (event.Pull Server id) client server a c s h = server_tells answer.Pulled (λ s t p. PullsNext s t id p) (event.Pull Server id) client server a c s h (λ p called. server_pull client server s id p called)
acts_answers (event.PullFields Client id) client server a c s h = client_tells answer.Listed (λ s t l. PullsList s t id l) (event.PullFields Client id) client server a c s h (λ l called. client_lists client c server id l called)
acts_answers (event.PullFields Server id) client server a c s h = server_tells answer.Listed (λ s t l. PullsList s t id l) (event.PullFields Server id) client server a c s h (λ l called. server_lists client server s id l called)
acts_answers (event.Show Client) client server a c s h = client_shows client server a c s h.0.0 h.0.1 h.1
acts_answers (event.Show Server) client server a c s h = server_shows client server a c s h.0.0 h.0.1 h.1
