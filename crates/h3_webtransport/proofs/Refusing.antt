-- Why bytes are refused on a stream, whatever they are.
use Rattle.std.proofs.Common.{◌≡◌, ℕ, true, false, List, length, Option, Some, None, Err, refl, sym, ap, ◌∙◌}
use Rattle.std.specs.List.{concat}
use Rattle.h3_connection.specs.State.{EndpointState}
use Rattle.h3_connection.specs.StreamSets.{Streams}
use Rattle.h3_connection.specs.declared.event.Refusal.{Refusal}
use Rattle.h3_connection.specs.declared.event.Refusal.TheVariants.{Connection}
use Rattle.h3_session.specs.Lacking.{RefusesDeliveries, delivery_error}
use Rattle.h3_webtransport_streams.specs.Begun.{LeavesBytes, refusal_of, stream_or_unseen}
use Rattle.h3_webtransport_streams.specs.SessionStream.{SessionStream, unread_of}
use Rattle.h3_webtransport.specs.Joint.{Joint, is_read}
use Rattle.h3_webtransport.specs.Receiving.{RefusesDeliveriesOn, raw_unread}

-- one that is read elsewhere
pub refuses_other : (e : EndpointState) (s : Joint) (id : ℕ) (why : Option Refusal) → is_read s id ≡ false → RefusesDeliveries e id why → RefusesDeliveriesOn e s id why
refuses_other e s id why not_read h bytes = record { own = λ read. absurd (let never : false ≡ true = sym not_read ∙ read in cc); other = λ _. (refl, h bytes) }

-- behind a fault of the connection
pub refuses_closed : (e : EndpointState) (s : Joint) (id code : ℕ) → is_read s id ≡ true → e.closed ≡ Some code → RefusesDeliveriesOn e s id (Some (Connection code))
refuses_closed e s id code read closed bytes = record { own = λ _. rw closed (refl, refl, refl); other = λ not_read. absurd (let never : true ≡ false = sym read ∙ not_read in cc) }

leaves : (streams : Streams SessionStream) (bytes : List ℕ) (why there : Option Refusal) → why ≡ there → LeavesBytes streams streams bytes there (delivery_error why bytes)
leaves streams bytes (Some r) there is = (sym is, record { each = λ q. refl })
leaves streams bytes None there is = (sym is, refl, record { each = λ q. refl })

-- and one that is read here
pub refuses_here : (e : EndpointState) (s : Joint) (id : ℕ) (why : Option Refusal) → is_read s id ≡ true → e.closed ≡ None → why ≡ refusal_of (stream_or_unseen s.sessions.streams id).receiver → RefusesDeliveriesOn e s id why
refuses_here e s id why read closed is bytes =
    record {
      own = λ _. rw closed (record { inner = Err (delivery_error why bytes); delivers = leaves s.sessions.streams bytes why _ is; alone = refl; is = refl });
      other = λ not_read. absurd (let never : true ≡ false = sym read ∙ not_read in cc);
    }

-- how many bytes are held
pub counts_none : (closed : Option ℕ) (s : Joint) (id code : ℕ) → closed ≡ Some code → 0 ≡ raw_unread closed s id
counts_none closed s id code is = sym (ap (λ c. raw_unread c s id) is)

pub counts_unread : (closed : Option ℕ) (s : Joint) (id count : ℕ) → closed ≡ None → count ≡ length (concat (unread_of (stream_or_unseen s.sessions.streams id).receiver)) → count ≡ raw_unread closed s id
counts_unread closed s id count is same = same ∙ sym (ap (λ c. raw_unread c s id) is)
