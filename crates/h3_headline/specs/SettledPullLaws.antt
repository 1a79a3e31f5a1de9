-- A pull of a request stream that was given up, that is over or that is not open: its answer is the world's, and nothing changes.
use Rattle.std.proofs.Common.{◌≡◌, ℕ, Bool, true, false, [], ◌∷◌, refl, sym, ap, ◌∙◌, if◌then◌else◌, Some, nat_lt, None}
use Rattle.std.specs.Prelude.{◌==◌, unwrap_or}
use Rattle.h3_connection.specs.StreamSets.{Streams, set_stream, stream_at}
use Rattle.h3_connection.specs.Delivering.{with_incoming}
use Rattle.h3_connection.specs.Endpoint.{EndpointHistory, Own, replied, heads_waiting, kind_of}
use Rattle.h3_connection.specs.Incoming.{Incoming}
use Rattle.h3_connection.specs.declared.event.Pull.TheVariants as pull
use Rattle.h3_proto.specs.StreamIds.{is_request_stream}
use Rattle.h3_proto.specs.declared.stream.Side.{Side}
use Rattle.h3_connection.specs.Keeping.{pulls, pulls_behind}
use Rattle.h3_connection.specs.Pulling.{just, pull_stream, is_client}
use Rattle.h3_connection.specs.Sending.{pull_at, pull_unless, pull_request, pulled, if_too_many, after_answer}
use Rattle.h3_connection.specs.declared.event.Pull.{Pull}
use Rattle.h3_world.specs.Setup.{Setup}
use Rattle.h3_world.specs.World.{World}
use Rattle.h3_connection.specs.OwnIds.{other}
use Rattle.h3_connection.specs.declared.event.Fault.TheVariants.{Stream}
use Rattle.h3_connection.specs.declared.event.StreamFault.{StreamFault}
use Rattle.h3_world.specs.Streams.{flow, is_open}
use Rattle.h3_connection.specs.declared.event.Item.TheVariants as item
use Rattle.h3_world.specs.Order.{is_over}
use Rattle.h3_world.specs.Pulling.{pull_unopened}
use Rattle.h3_headline.specs.Arriving.{saying}
use Rattle.h3_headline.specs.Cited.{ListsAreTheirValue}
use Rattle.h3_headline.specs.ComingLaws.{incoming_none, incoming_there, kind_is, saying_nothing}
use Rattle.h3_headline.specs.FlowLaws.{open_there, same_number}
use Rattle.h3_headline.specs.PulledStreamLaws.{given_up_stays, over_stays}
use Rattle.h3_headline.specs.Pulls.{IsWithin, having_own, with_streams}
use Rattle.h3_headline.specs.Standing.{StandsAt}

-- setting what is there changes nothing
pub set_same : {X : Type 0} (streams : Streams X) (id : ℕ) (x : X) → stream_at streams id ≡ Some x → set_stream streams id x ≡ streams
set_same [] id x e = cc
set_same {X = X} ((q, y) ∷ streams) id x e = by_id (set_same streams id x) (q == id) refl e
  where
    same_stream : y ≡ x → q ≡ id → ◌≡◌ {A = Streams X} ((id, x) ∷ streams) ((q, y) ∷ streams)
    same_stream a b = ap (λ (n : ℕ). (n, x) ∷ streams) (sym b) ∙ ap (λ (z : X). (q, z) ∷ streams) (sym a)

    by_id : (stream_at streams id ≡ Some x → set_stream streams id x ≡ streams) → (t : Bool) → (q == id) ≡ t → (if t then Some y else stream_at streams id) ≡ Some x
        → (if q == id then (id, x) ∷ streams else (q, y) ∷ set_stream streams id x) ≡ (q, y) ∷ streams
    by_id later true is e = ap (λ b. if b then (id, x) ∷ streams else (q, y) ∷ set_stream streams id x) is ∙ same_stream (ap (λ o. unwrap_or o y) e) (same_number q id is)
    by_id later false is e = ap (λ b. if b then (id, x) ∷ streams else (q, y) ∷ set_stream streams id x) is ∙ ap (λ l. (q, y) ∷ l) (later e)

-- the endpoint after a pull that changes nothing
unchanged : (e : EndpointHistory) (id : ℕ) (i : Incoming) → stream_at e.incoming id ≡ Some i → replied (with_incoming e id i) [] ≡ e
unchanged e id i there =
    ap (λ s. having_own (with_streams e s) (saying e.own [])) (set_same e.incoming id i there) ∙ ap (λ (o : Own). having_own e o) (saying_nothing e.own)

pulls_stream : (setup : Setup) (w : World) (side : Side) (id : ℕ) (e : EndpointHistory) (i : Incoming) (a : Pull) → StandsAt setup w side e → is_request_stream id ≡ true → IsWithin e → stream_at e.incoming id ≡ Some i
    → pull_stream e.side e.announced id e.decoding.decoder i ≡ just a i → after_answer a e ≡ (a, e) → pulls e id ≡ (a, e)
pulls_stream setup w side id e i a h request few there is open_still =
    let same : nat_lt e.announced.limits.blocked (heads_waiting e.decoding.decoder (set_stream e.incoming id i)) ≡ false =
    ap (λ s. nat_lt e.announced.limits.blocked (heads_waiting e.decoding.decoder s)) (set_same e.incoming id i there) ∙ few in
    ap (λ k. pulls_behind k e id) h.nothing_kept ∙ ap (λ c. pull_unless c e (pull_at e id (kind_of e.side id))) h.no_fault
    ∙ ap (pull_at e id) (kind_is e.side id request) ∙ ap (pull_request e id) there
    ∙ ap (λ p. pulled e id (if_too_many (nat_lt e.announced.limits.blocked (heads_waiting e.decoding.decoder (set_stream e.incoming id p.incoming))) p)) is
    ∙ ap (λ b. pulled e id (if_too_many b (just a i))) same ∙ ap (after_answer a) (unchanged e id i there) ∙ open_still

-- **It was given up.**
pub given_up_pull : (lists : ListsAreTheirValue) (setup : Setup) (w : World) (side : Side) (id : ℕ) (e : EndpointHistory) (fault : StreamFault) → StandsAt setup w side e → is_open w side id ≡ true → IsWithin e
    → (flow w (other side) id).fault ≡ Some fault → pulls e id ≡ (pull.Fault (Stream fault), e)
given_up_pull lists setup w side id e fault h there few lost =
    let i = incoming_there setup w side id e h there in
    pulls_stream setup w side id e i.0 (pull.Fault (Stream fault)) h (open_there w side id there).request few i.1
    (given_up_stays lists e.side e.announced id e.decoding.decoder 0 (flow w (other side) id) i.0 fault i.2 lost) refl

-- **Its end was handed out.**
pub over_pull : (lists : ListsAreTheirValue) (setup : Setup) (w : World) (side : Side) (id : ℕ) (e : EndpointHistory) → StandsAt setup w side e → is_open w side id ≡ true → IsWithin e
    → (flow w (other side) id).fault ≡ None → is_over (flow w (other side) id) ≡ true → pulls e id ≡ (pull.Item item.End, e)
over_pull lists setup w side id e h there few alive over =
    let i = incoming_there setup w side id e h there in
    pulls_stream setup w side id e i.0 (pull.Item item.End) h (open_there w side id there).request few i.1
    (over_stays lists e.side e.announced id e.decoding.decoder 0 (flow w (other side) id) i.0 i.2 alive over) refl

-- **It is not open.**
pub unopened_pull : (setup : Setup) (w : World) (side : Side) (id : ℕ) (e : EndpointHistory) → StandsAt setup w side e → is_request_stream id ≡ true → is_open w side id ≡ false → pulls e id ≡ (pull_unopened side, e)
unopened_pull setup w side id e h request closed =
    ap (λ k. pulls_behind k e id) h.nothing_kept ∙ ap (λ c. pull_unless c e (pull_at e id (kind_of e.side id))) h.no_fault
    ∙ ap (pull_at e id) (kind_is e.side id request) ∙ ap (pull_request e id) (incoming_none setup w side id e h closed)
    ∙ ap (λ s. ((if is_client s then pull.NoMessages else pull.Pending), e)) h.side_is
