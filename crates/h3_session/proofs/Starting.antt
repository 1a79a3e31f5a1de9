-- What a new endpoint stores stands for the history of a new endpoint.
use Rattle.std.proofs.Common.{arith, ◌≡◌, ℕ, Bool, true, false, List, [], None, refl, sym, subst, append-nil}
use Rattle.h3_coding.specs.Encodings.{encoding}
use Rattle.h3_frames.specs.ControlStreams.{control_encoding}
use Rattle.h3_proto.specs.declared.stream.Side.{Side}
use Rattle.h3_proto.specs.declared.stream.Side.TheVariants.{Client, Server}
use Rattle.h3_connection.specs.declared.arrival.Arrival.{Arrival}
use Rattle.h3_connection.specs.declared.setup.Announced.{Announced}
use Rattle.h3_connection.specs.Endpoint.{new_endpoint}
use Rattle.h3_connection.specs.KeptGoaways.{keeps_last, kept_peer}
use Rattle.h3_connection.specs.Order.{no_order}
use Rattle.h3_connection.specs.OtherSettings.{most_others}
use Rattle.h3_connection.specs.PeerReading.{none_read}
use Rattle.h3_connection.specs.State.{EndpointState, IsReached, OwnStands, RequestState, StandsFor, TakesWhatIsThere}
use Rattle.h3_connection.specs.StreamSets.{Streams}
use Rattle.h3_connection.specs.Updates.{most_updates}
use Rattle.h3_streams.specs.Placed.{StreamsState, first_streams}
use Rattle.h3_unidirectional.specs.Owned.{first_own}

nothing_taken : (side : Side) (announced : Announced) → TakesWhatIsThere (new_endpoint side announced)
nothing_taken side announced = record { control = omega (arith); encoder = omega (arith); decoder = omega (arith) }

own_waits : (side : Side) (announced : Announced) → OwnStands (first_own announced.settings) (new_endpoint side announced)
own_waits Client announced = record
    { control = sym (append-nil (control_encoding announced.settings)); encoder = sym (append-nil (encoding 2)); decoder = sym (append-nil (encoding 3)); taken = nothing_taken Client announced }
own_waits Server announced = record
    { control = sym (append-nil (control_encoding announced.settings)); encoder = sym (append-nil (encoding 2)); decoder = sym (append-nil (encoding 3)); taken = nothing_taken Server announced }

nothing_came : (side : Side) (announced : Announced) → IsReached (new_endpoint side announced)
nothing_came side announced = record
    { unlearned = λ _. (refl, refl); control = λ _. refl; encoder = λ _. refl; decoder = λ _. refl; told_control = tt; told_encoder = tt; told_decoder = tt; kept = λ k a h. absurd (omega (arith, h)); own_updates = λ k u h. absurd (omega (arith, h)) }

abbrev stored : Side → Announced → Streams RequestState → StreamsState → List Arrival → EndpointState
stored side announced requests streams kept = record {
  side = side;
  announced = announced;
  closed = None;
  next_id = 0;
  requests = requests;
  unidirectional = streams.unidirectional;
  control_on = streams.control_on;
  encoder_on = streams.encoder_on;
  decoder_on = streams.decoder_on;
  peer = streams.peer;
  decoding = streams.decoding;
  encoding = streams.encoding;
  own = streams.own;
  last_goaway = None;
  kept = kept;
  sent = 0;
  order = no_order;
}

-- nothing is kept of nothing
nothing_kept : (last : Bool) (updates others : ℕ) → none_read updates others ≡ kept_peer last (none_read updates others)
nothing_kept true updates others = refl
nothing_kept false updates others = refl

first_stands : (side : Side) (announced : Announced) → StandsFor (stored side announced [] (first_streams announced) []) (new_endpoint side announced)
first_stands side announced = record {
  side = refl;
  announced = refl;
  closed = refl;
  next_id = refl;
  incoming = λ id. refl;
  outgoing = λ id. tt;
  unidirectional = λ id. refl;
  distinct = tt;
  control_on = refl;
  encoder_on = refl;
  decoder_on = refl;
  peer = nothing_kept (keeps_last announced.choices) (most_updates announced) (most_others announced);
  decoding = refl;
  encoder = refl;
  decoder_unread = refl;
  own = own_waits side announced;
  last_goaway = refl;
  kept = refl;
  sent = refl;
  order = refl;
  reached = nothing_came side announced;
}

pub new_stands : (side : Side) (announced : Announced) (requests : Streams RequestState) (streams : StreamsState) (kept : List Arrival)
    → requests ≡ [] → streams ≡ first_streams announced → kept ≡ [] → StandsFor (stored side announced requests streams kept) (new_endpoint side announced)
new_stands side announced requests streams kept no_requests are_first nothing_kept =
    subst (λ r. StandsFor (stored side announced r streams kept) (new_endpoint side announced)) (sym no_requests)
    (subst (λ x. StandsFor (stored side announced [] x kept) (new_endpoint side announced)) (sym are_first)
    (subst (λ k. StandsFor (stored side announced [] (first_streams announced) k) (new_endpoint side announced)) (sym nothing_kept) (first_stands side announced)))
