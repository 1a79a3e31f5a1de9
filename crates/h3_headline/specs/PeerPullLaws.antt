-- A pull under an id that carries no messages (RFC 9114, section 6.2): its answer is the world's, and nothing changes.
use Rattle.std.proofs.Common.{◌≡◌, ℕ, ap, ◌∙◌, Some, Bool, true, false, [], sym, if◌then◌else◌, Option, None, refl, subst, ◌%◌, arith, ◌<◌}
use Rattle.h3_proto.specs.declared.stream.Side.{Side}
use Rattle.h3_connection.specs.Endpoint.{EndpointHistory, kind_of}
use Rattle.h3_connection.specs.Keeping.{pulls, pulls_behind}
use Rattle.h3_connection.specs.Sending.{pull_at, pull_unless, pull_peer, pulled_unidirectional}
use Rattle.h3_connection.specs.declared.event.Pull.TheVariants as pull
use Rattle.h3_world.specs.Setup.{Setup}
use Rattle.h3_world.specs.World.{World, party}
use Rattle.h3_connection.specs.Delivering.{with_unidirectional}
use Rattle.h3_connection.specs.StreamSets.{stream_at}
use Rattle.h3_connection.specs.Unidirectional.{Unidirectional, Role, may_be_session}
use Rattle.std.specs.Prelude.{◌==◌, ◌||◌}
use Rattle.h3_coding.specs.VarintLaws.{none_at_end}
use Rattle.h3_connection.specs.OwnIds.{other, control_id, encoder_id, decoder_id, is_own}
use Rattle.h3_connection.specs.Unidirectional as streams
use Rattle.h3_connection.specs.Unidirectional.Role.{Untold, Control, Encoder, Decoder}
use Rattle.h3_connection.specs.declared.event.Pull.{Pull}
use Rattle.h3_world.specs.Pulling.{pull_unidirectional}
use Rattle.h3_proto.specs.declared.stream.Side.TheVariants.{Client, Server}
use Rattle.h3_connection.specs.Endpoint.Kind.{PeerUnidirectional, Request, ServerOpened, OwnUnidirectional}
use Rattle.std.proofs.lemmas.Grind.{common_steps}
use Rattle.h3_proto.specs.StreamIds.{is_request_stream}
use Rattle.h3_headline.specs.FlowLaws.{same_number}
use Rattle.h3_headline.specs.Pulls.{answer_of, answering, having_streams, in_role, kind_by}
use Rattle.h3_headline.specs.SettledPullLaws.{set_same}
use Rattle.h3_headline.specs.Standing.{IsPeerStream, StandsAt}

-- what a pull is where nothing is kept and the connection has no fault
pub plain_pull : (setup : Setup) (w : World) (side : Side) (id : ℕ) (e : EndpointHistory) → StandsAt setup w side e → pulls e id ≡ pull_at e id (kind_of side id)
plain_pull setup w side id e h =
    ap (λ k. pulls_behind k e id) h.nothing_kept ∙ ap (λ c. pull_unless c e (pull_at e id (kind_of e.side id))) h.no_fault ∙ ap (λ s. pull_at e id (kind_of s id)) h.side_is

unchanged : (e : EndpointHistory) (id : ℕ) (o : Unidirectional) → stream_at e.unidirectional id ≡ Some o → with_unidirectional e id o ≡ e
unchanged e id o there = ap (having_streams e) (set_same e.unidirectional id o there)

-- a stream of the other side whose role has no messages
peer_pull : (e : EndpointHistory) (id came : ℕ) (role : Role) (o : Option Unidirectional) → stream_at e.unidirectional id ≡ o → ((x : Unidirectional) → streams.pull_unidirectional x role ≡ (pull.NoMessages, x)) → IsPeerStream came role o
    → pull_peer e id o ≡ answering (answer_of came) e
peer_pull e id came role None there quiet is = ap (λ n. answering (answer_of n) e) (sym is)
peer_pull e id came role (Some x) there quiet is = by_test (came == 0) is
  where
    back : (a : Pull) (y : Unidirectional) → x ≡ y → answering a (with_unidirectional e id y) ≡ answering a e
    back a y same = ap (λ z. answering a (with_unidirectional e id z)) (sym same) ∙ ap (answering a) (unchanged e id x there)

    by_test : (b : Bool) → x ≡ in_role (if b then Untold [] else role) → pulled_unidirectional e id (streams.pull_unidirectional x x.role) ≡ answering (if b then pull.Pending else pull.NoMessages) e
    by_test true same =
        ap (λ (y : Unidirectional). pulled_unidirectional e id (streams.pull_unidirectional y y.role)) same
        ∙ ap (λ v. answering (if may_be_session v then pull.Pending else pull.NoMessages) (with_unidirectional e id (in_role (Untold [])))) none_at_end
        ∙ back pull.Pending (in_role (Untold [])) same
    by_test false same =
        ap (λ (y : Unidirectional). pulled_unidirectional e id (streams.pull_unidirectional y y.role)) same
        ∙ ap (pulled_unidirectional e id) (quiet (in_role role))
        ∙ back pull.NoMessages (in_role role) same

peer_answers : (setup : Setup) (w : World) (side : Side) (id : ℕ) (e : EndpointHistory) → StandsAt setup w side e → pull_peer e id (stream_at e.unidirectional id) ≡ answering (pull_unidirectional w (other side) id) e
peer_answers setup w side id e h = by_id (id == control_id (other side)) refl (id == encoder_id (other side)) refl (id == decoder_id (other side)) refl
  where
    none_there : is_own (other side) id ≡ false → IsPeerStream 0 Control (stream_at e.unidirectional id)
    none_there off = subst (IsPeerStream 0 Control) (sym (h.no_others id off)) refl

    by_id : (a : Bool) → (id == control_id (other side)) ≡ a → (b : Bool) → (id == encoder_id (other side)) ≡ b → (c : Bool) → (id == decoder_id (other side)) ≡ c
        → pull_peer e id (stream_at e.unidirectional id)
        ≡ answering (answer_of (if a then (party w (other side)).own.control_taken else (if b then (party w (other side)).own.encoder_taken else (if c then (party w (other side)).own.decoder_taken else 0)))) e
    by_id true x b y c z =
        peer_pull e id (party w (other side)).own.control_taken Control (stream_at e.unidirectional id) refl (λ o. refl)
        (subst (λ i. IsPeerStream (party w (other side)).own.control_taken Control (stream_at e.unidirectional i)) (sym (same_number id (control_id (other side)) x)) h.control.stream_is)
    by_id false x true y c z =
        peer_pull e id (party w (other side)).own.encoder_taken Encoder (stream_at e.unidirectional id) refl (λ o. refl)
        (subst (λ i. IsPeerStream (party w (other side)).own.encoder_taken Encoder (stream_at e.unidirectional i)) (sym (same_number id (encoder_id (other side)) y)) h.encoder_stream.stream_is)
    by_id false x false y true z =
        peer_pull e id (party w (other side)).own.decoder_taken Decoder (stream_at e.unidirectional id) refl (λ o. refl)
        (subst (λ i. IsPeerStream (party w (other side)).own.decoder_taken Decoder (stream_at e.unidirectional i)) (sym (same_number id (decoder_id (other side)) z)) h.decoder_stream.stream_is)
    by_id false x false y false z =
        peer_pull e id 0 Control (stream_at e.unidirectional id) refl (λ o. refl)
        (none_there (ap (λ t. t || id == encoder_id (other side) || id == decoder_id (other side)) x ∙ ap (λ t. t || id == decoder_id (other side)) y ∙ z))

peer_kind : (side : Side) (id : ℕ) → (id % 4 == control_id (other side)) ≡ true → kind_of side id ≡ PeerUnidirectional
peer_kind Client id is = ap (kind_by Client) (same_number (id % 4) 3 is)
peer_kind Server id is = ap (kind_by Server) (same_number (id % 4) 2 is)

-- an id has one of four kinds
one_left : (side : Side) (bits : ℕ) → bits < 4 → (bits == 0) ≡ false → (bits == 1) ≡ false → (bits == control_id side) ≡ false → (bits == control_id (other side)) ≡ false → ⊥
one_left Client bits low a b c d = grind (arith, common_steps, low, a, b, c, d)
one_left Server bits low a b c d = grind (arith, common_steps, low, a, b, c, d)

two_bits : (id : ℕ) → id % 4 < 4
two_bits id = omega arith

-- **A unidirectional stream of the other side.**
pub unidirectional_pull : (setup : Setup) (w : World) (side : Side) (id : ℕ) (e : EndpointHistory) → StandsAt setup w side e → (id % 4 == control_id (other side)) ≡ true → pulls e id ≡ (pull_unidirectional w (other side) id, e)
unidirectional_pull setup w side id e h is = plain_pull setup w side id e h ∙ ap (pull_at e id) (peer_kind side id is) ∙ peer_answers setup w side id e h

-- **A stream that the server opens in both directions, and one that the side itself opens in one: no messages come.**
pub silent_pull : (setup : Setup) (w : World) (side : Side) (id : ℕ) (e : EndpointHistory) → StandsAt setup w side e → is_request_stream id ≡ false → (id % 4 == control_id (other side)) ≡ false → pulls e id ≡ (pull.NoMessages, e)
silent_pull setup w side id e h none off =
    plain_pull setup w side id e h
    ∙ ap (λ t. pull_at e id (if t then Request else (if id % 4 == 1 then ServerOpened else (if id % 4 == control_id side then OwnUnidirectional else PeerUnidirectional)))) none
    ∙ by_kind (id % 4 == 1) refl (id % 4 == control_id side) refl
  where
    by_kind : (a : Bool) → (id % 4 == 1) ≡ a → (b : Bool) → (id % 4 == control_id side) ≡ b
        → pull_at e id (if a then ServerOpened else (if b then OwnUnidirectional else PeerUnidirectional)) ≡ answering pull.NoMessages e
    by_kind true x b y = refl
    by_kind false x true y = refl
    by_kind false x false y = absurd (one_left side (id % 4) (two_bits id) none x y off)
