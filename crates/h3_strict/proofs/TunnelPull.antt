-- A pull at a strict end, in the world of both: it finds no fault of the connection, and leaves that tunnels stand.
use Rattle.std.proofs.Common.{◌≡◌, ◌⊎◌, inl, inr, ℕ, ◌+◌, ◌<◌, Bool, true, false, [], ◌∷◌, ◌++◌, length, refl, sym, ap, ◌∙◌, subst, Option, Some, None, take, nat_lt, if◌then◌else◌}
use Rattle.std.specs.Prelude.{MatchOption, is_some, unwrap_or, ◌==◌}
use Rattle.std.specs.List.{AllByRecursion, list_any}
use Rattle.h3_field.specs.Instruction.DecoderInstruction.{CancelStream}
use Rattle.h3_messages.specs.Content.{takes_trailer}
use Rattle.h3_messages.specs.declared.content.Content.{Content}
use Rattle.h3_proto.specs.StreamIds.{index_of}
use Rattle.h3_proto.specs.declared.stream.Side.{Side}
use Rattle.h3_proto.specs.declared.stream.Side.TheVariants.{Client, Server}
use Rattle.h3_qpack.specs.DecoderState.{DecoderState}
use Rattle.h3_connection.specs.Delivering.{incoming_at, with_incoming}
use Rattle.h3_connection.specs.Endpoint.{EndpointHistory, Kind, heads_waiting, kind_of, replied}
use Rattle.h3_connection.specs.Endpoint.Kind.{OwnUnidirectional, PeerUnidirectional, Request, ServerOpened}
use Rattle.h3_connection.specs.Incoming.{Incoming, nothing_came}
use Rattle.h3_connection.specs.Keeping.{pulls, pulls_behind}
use Rattle.h3_connection.specs.Outgoing.{Outgoing, nothing_sent}
use Rattle.h3_connection.specs.OwnIds.{other}
use Rattle.h3_connection.specs.Pulling.{Pulled, pull_stream}
use Rattle.h3_connection.specs.Sending.{if_too_many, outgoing_at, pull_at, pull_peer, pull_request, pull_unless, pulled, pulled_unidirectional}
use Rattle.h3_connection.specs.StreamSetLaws.{set-here}
use Rattle.h3_connection.specs.StreamSets.{Streams, set_stream, stream_at}
use Rattle.h3_connection.specs.Unidirectional.{Unidirectional, pull_unidirectional}
use Rattle.h3_connection.specs.declared.event.Fault.TheVariants as fault
use Rattle.h3_connection.specs.declared.event.Item.{Item}
use Rattle.h3_connection.specs.declared.event.Item.TheVariants as item
use Rattle.h3_connection.specs.declared.event.Malformation.{Malformation}
use Rattle.h3_connection.specs.declared.event.Pull.{Pull}
use Rattle.h3_connection.specs.declared.event.Pull.TheVariants as pull
use Rattle.h3_connection.specs.declared.event.StreamFault.{StreamFault}
use Rattle.h3_connection.specs.declared.event.StreamFault.TheVariants.{Malformed}
use Rattle.h3_connection.specs.declared.place.Place.TheVariants.{BeforeHead, InBody}
use Rattle.h3_connection.specs.declared.setup.Announced.{Announced}
use Rattle.h3_world.specs.Came.{insertions_came}
use Rattle.h3_world.specs.Ends.{Ends, end_at, with_end}
use Rattle.h3_world.specs.Flow.{Flow, Part}
use Rattle.h3_world.specs.Flow.Part.{Body}
use Rattle.h3_world.specs.Headline.{is_connection_fault}
use Rattle.h3_world.specs.Items.{acknowledgment_of, after_item, handed_out}
use Rattle.h3_world.specs.Order.{is_over, next_part}
use Rattle.h3_world.specs.Pauses.{paused}
use Rattle.h3_world.specs.Pulling.{Pulls, PullsNext, settled}
use Rattle.h3_world.specs.Sending.{given_up}
use Rattle.h3_world.specs.Setup.{Setup, announced_at}
use Rattle.h3_world.specs.Sound.{IsSoundFlow}
use Rattle.h3_world.specs.Streams.{flow, is_open}
use Rattle.h3_world.specs.World.{Party, World, party, with_party}
use Rattle.h3_world.specs.declared.event.Answer.TheVariants as answer
use Rattle.h3_headline.specs.ComingLaws.{kind_is, sound_flow}
use Rattle.h3_headline.specs.Contents.{KeepsParts}
use Rattle.h3_headline.specs.FlowLaws.{flow-with_party, open_there, there-with_party}
use Rattle.h3_headline.specs.KeepsPartsLaws.{flow_at, keeps_same}
use Rattle.h3_headline.specs.Messages.{is_on}
use Rattle.h3_headline.specs.PullLaws.{item_leaves, none_settled}
use Rattle.h3_headline.specs.SendingLaws.{flow_count}
use Rattle.h3_headline.specs.SettledLaws.{settled_alive, settled_none}
use Rattle.h3_headline.specs.Standing.{IsReadableBy, place_after}
use Rattle.h3_headline.specs.Steps.{IsThere}
use Rattle.h3_headline.specs.WritingLaws.{party_count}
use Rattle.h3_strict.proofs.KeepsCounts.{KeepsBut, SameCounts, no_stream, not_itself, same_counts, same_streams, streams_keep}
use Rattle.h3_strict.proofs.PullEvents.{given_up_again, over_again}
use Rattle.h3_strict.proofs.PulledTallies.{answer_is, answer_streams, pulled_in, pulled_keeps, pulled_out}
use Rattle.h3_strict.proofs.TunnelQuiet.{keeps_one, only_at}
use Rattle.h3_strict.proofs.TunnelFaults.{ends_all}
use Rattle.h3_strict.proofs.BehindPulls.{is_item}
use Rattle.h3_strict.proofs.TunnelParts.{tunnel_same}
use Rattle.h3_strict.proofs.TunnelSends.{by_id, itself, quiet_tunnels}
use Rattle.h3_strict.proofs.TunnelSees.{SeenStream, Sees}
use Rattle.h3_strict.proofs.TunnelStreams.{Along, Moved, clash, client_left, in_front, no_fault, no_trailer_marked, server_left}
use Rattle.h3_strict.specs.GivesUp.{AtOnce, BehindPart, GivesMessageUp, GivesUp}
use Rattle.h3_strict.specs.PlainEnds.{plain_setup}
use Rattle.h3_strict.specs.Tallies.{asked_in, has_head}
use Rattle.h3_strict.specs.Tunnels.{AsksOther, AwaitsTunnel, NoTrailer, TunnelAt, Tunnels, TunnelsStand, asks_tunnel, marked, opens_tunnel, trails}

-- What a pull leaves of the flows: the one that is pulled moves, and the others are the same.
pub record PullMoves (w v : World) (side : Side) (id : ℕ) (a : Pull) : Type 0 where
  pub others : (writer : Side) (j : ℕ) → is_on writer j (other side) id ≡ false → flow v writer j ≡ flow w writer j
  pub moved : Moved (flow w (other side) id) (flow v (other side) id) a

on_it : (s : Side) (id : ℕ) → is_on s id s id ≡ true
on_it Client id = itself id
on_it Server id = itself id

-- the world after some change of one flow
moves_by : (w v : World) (side : Side) (id : ℕ) (a : Pull) (g : Flow) → ((writer : Side) (j : ℕ) → flow v writer j ≡ (if is_on writer j (other side) id then g else flow w writer j)) → Moved (flow w (other side) id) g a → PullMoves w v side id a
moves_by w v side id a g flows moved = record {
  others = λ writer j off. flows writer j ∙ ap (λ b. if b then g else flow w writer j) off;
  moved = subst (λ f. Moved (flow w (other side) id) f a) (sym (flows (other side) id ∙ ap (λ b. if b then g else flow w (other side) id) (on_it (other side) id))) moved;
}

item_moves : (f : Flow) (part : Option Part) (i : Item) → ((after_item f part i).parts_out ≡ f.parts_out) ⊎ ((after_item f part i).parts_out ≡ f.parts_out + 1)
item_moves f (Some (Body bytes end)) (item.Body piece) = by_size (f.body_out + length piece == length bytes)
  where
    by_size : (b : Bool) → (let g : Flow = if b then record f { parts_out = f.parts_out + 1; body_out = 0; waits_for = 0 } else record f { body_out = f.body_out + length piece; waits_for = 0 } in (g.parts_out ≡ f.parts_out) ⊎ (g.parts_out ≡ f.parts_out + 1))
    by_size true = inr refl
    by_size false = inl refl
item_moves f part i = inr refl

item_moved : (f : Flow) (i : Item) → Moved f (after_item f (next_part f) i) (pull.Item i)
item_moved f i = record { sent = (item_leaves f (next_part f) i).2; stays = λ none. absurd (let never : true ≡ false = none in cc); moves = item_moves f (next_part f) i }

-- the world after it gave the stream up
gives_flows : (w : World) (side : Side) (id : ℕ) (why : StreamFault) → IsThere w id → (writer : Side) (j : ℕ)
    → flow (given_up w side id why) writer j ≡ (if is_on writer j (other side) id then record (flow w (other side) id) { fault = Some why; waits_for = 0 } else flow w writer j)
gives_flows w side id why there writer j =
    let p : Party = record (party w side) { own = record (party w side).own { replies = (party w side).own.replies ++ CancelStream id ∷ [] } } in
    let g : Flow = record (flow w (other side) id) { fault = Some why; waits_for = 0 } in
    flow_at (with_party w side p) (other side) writer id j g (there-with_party w side p id there) ∙ ap (λ x. if is_on writer j (other side) id then g else x) (flow-with_party w side writer p j)

hands_flows : (w : World) (side : Side) (id : ℕ) (i : Item) → IsThere w id → (writer : Side) (j : ℕ)
    → flow (handed_out w side id i) writer j ≡ (if is_on writer j (other side) id then after_item (flow w (other side) id) (next_part (flow w (other side) id)) i else flow w writer j)
hands_flows w side id i there writer j =
    let f = flow w (other side) id in
    let g = after_item f (next_part f) i in
    let p : Party = record (party w side) { own = record (party w side).own { replies = (party w side).own.replies ++ acknowledgment_of id (next_part f) } } in
    flow_at (with_party w side p) (other side) writer id j g (there-with_party w side p id there) ∙ ap (λ x. if is_on writer j (other side) id then g else x) (flow-with_party w side writer p j)

hands_there : (w : World) (side : Side) (id : ℕ) (i : Item) → IsThere w id → IsThere (handed_out w side id i) id
hands_there w side id i there =
    let f = flow w (other side) id in
    let p : Party = record (party w side) { own = record (party w side).own { replies = (party w side).own.replies ++ acknowledgment_of id (next_part f) } } in
    record { request = there.request; place = subst (λ n. index_of id < n) (sym (flow_count (with_party w side p) (other side) id (after_item f (next_part f) i) ∙ party_count w side p)) there.place }

-- what is given up behind a part moves as that part; its answer is a fault, and what is said of it is said of what was not given up
pub gives_moves : (setup : Setup) (w v : World) (side : Side) (id : ℕ) (why : Malformation) → IsThere w id → GivesUp setup w side id why v
    → ((writer : Side) (j : ℕ) → is_on writer j (other side) id ≡ false → flow v writer j ≡ flow w writer j) × ((flow v (other side) id).sent ≡ (flow w (other side) id).sent) × ((flow v (other side) id).fault ≡ Some (Malformed why))
gives_moves setup w v side id why there (AtOnce is) =
    let flows = gives_flows w side id (Malformed why) there in
    let g : Flow = record (flow w (other side) id) { fault = Some (Malformed why); waits_for = 0 } in (
      λ writer j off. ap (λ u. flow u writer j) is ∙ flows writer j ∙ ap (λ b. if b then g else flow w writer j) off,
      ap (λ u. (flow u (other side) id).sent) is ∙ ap (λ (x : Flow). x.sent) (flows (other side) id) ∙ ap (λ b. (if b then g else flow w (other side) id).sent) (on_it (other side) id),
      ap (λ u. (flow u (other side) id).fault) is ∙ ap (λ (x : Flow). x.fault) (flows (other side) id) ∙ ap (λ b. (if b then g else flow w (other side) id).fault) (on_it (other side) id),
    )
gives_moves setup w v side id why there (BehindPart i come exact is) =
    let u = handed_out w side id i in
    let first = hands_flows w side id i there in
    let flows = gives_flows u side id (Malformed why) (hands_there w side id i there) in
    let g : Flow = record (flow u (other side) id) { fault = Some (Malformed why); waits_for = 0 } in
    let h = after_item (flow w (other side) id) (next_part (flow w (other side) id)) i in (
      λ writer j off. ap (λ x. flow x writer j) is ∙ flows writer j ∙ ap (λ b. if b then g else flow u writer j) off ∙ first writer j ∙ ap (λ b. if b then h else flow w writer j) off,
      ap (λ x. (flow x (other side) id).sent) is ∙ ap (λ (x : Flow). x.sent) (flows (other side) id) ∙ ap (λ b. (if b then g else flow u (other side) id).sent) (on_it (other side) id)
          ∙ ap (λ (x : Flow). x.sent) (first (other side) id) ∙ ap (λ b. (if b then h else flow w (other side) id).sent) (on_it (other side) id) ∙ (item_leaves (flow w (other side) id) (next_part (flow w (other side) id)) i).2,
      ap (λ x. (flow x (other side) id).fault) is ∙ ap (λ (x : Flow). x.fault) (flows (other side) id) ∙ ap (λ b. (if b then g else flow u (other side) id).fault) (on_it (other side) id),
    )

pub next_moves : (setup : Setup) (w v : World) (side : Side) (id : ℕ) (a : Pull) → IsThere w id → PullsNext setup w side id a v → PullMoves w v side id a
next_moves setup w v side id a there step = by_answer a step
  where
    waits : (a : Pull) (count : ℕ) → is_item a ≡ false → v ≡ paused w side id count → PullMoves w v side id a
    waits a count none is =
        moves_by w v side id a (record (flow w (other side) id) { waits_for = count }) (λ writer j. ap (λ u. flow u writer j) is ∙ flow_at w (other side) writer id j (record (flow w (other side) id) { waits_for = count }) there)
        (record { sent = refl; stays = λ off. refl; moves = inl refl })

    by_answer : (a : Pull) → PullsNext setup w side id a v → PullMoves w v side id a
    by_answer (pull.Item i) step =
        moves_by w v side id (pull.Item i) (after_item (flow w (other side) id) (next_part (flow w (other side) id)) i) (λ writer j. ap (λ u. flow u writer j) step.1 ∙ hands_flows w side id i there writer j) (item_moved (flow w (other side) id) i)
    by_answer pull.Pending step = waits pull.Pending 0 refl step
    by_answer (pull.Waiting count) step = waits (pull.Waiting count) count refl step
    by_answer (pull.Fault x) step = absurd step
    by_answer pull.NoMessages step = absurd step

end_set : (ends : Ends) (side : Side) (e : EndpointHistory) → end_at (with_end ends side e) side ≡ e
end_set ends Client e = refl
end_set ends Server e = refl

-- What is said of a pull that goes on: by the world after it, or it gave the stream up.
pub data PullWorld (w v : World) (side : Side) (id : ℕ) (a : Pull) (left : Option StreamFault) : Type 0 where
  GoesNext : PullMoves w v side id a → PullWorld w v side id a left
  IsGone : (left ≡ None → ⊥) → ((writer : Side) (j : ℕ) → is_on writer j (other side) id ≡ false → flow v writer j ≡ flow w writer j) → (flow v (other side) id).sent ≡ (flow w (other side) id).sent → PullWorld w v side id a left

-- No trailer stands where a receiver counts a tunnel.
tunnel_free : (w : World) (ends : Ends) (side : Side) (id : ℕ) (i : Incoming) → TunnelAt (flow w Client id).sent (flow w Server id) (outgoing_at ends.client id) (outgoing_at ends.server id) (incoming_at ends.server id) (incoming_at ends.client id)
    → incoming_at (end_at ends side) id ≡ i → i.fault ≡ None → takes_trailer i.content ≡ false → place_after (take (flow w (other side) id).parts_out (flow w (other side) id).sent) ≡ InBody → list_any trails (flow w (other side) id).sent ≡ true → ⊥
tunnel_free w ends Client id i t here alive takes at trailer =
    let a = t.client (ap (λ (x : Incoming). x.fault) here ∙ alive) (ap (λ (x : Incoming). marked Client x.content) here ∙ no_trailer_marked Client i.content takes) in
    by_case a a.stands
  where
    by_none : AwaitsTunnel (flow w Client id).sent (flow w Server id) → AsksOther (flow w Client id).sent ⊎ NoTrailer (flow w Server id).sent (outgoing_at ends.server id) → ⊥
    by_none a (inl apart) = apart.apart a.asked
    by_none a (inr none) = clash (list_any trails (flow w Server id).sent) trailer none.none

    by_case : AwaitsTunnel (flow w Client id).sent (flow w Server id) → (place_after (take (flow w Server id).parts_out (flow w Server id).sent) ≡ BeforeHead) ⊎ (list_any opens_tunnel (flow w Server id).sent ≡ true) → ⊥
    by_case a (inl place) = in_front (sym at ∙ place)
    by_case a (inr opens) = by_none a (t.response opens)
tunnel_free w ends Server id i t here alive takes at trailer =
    let asks = t.server (ap (λ (x : Incoming). x.fault) here ∙ alive) (ap (λ (x : Incoming). marked Server x.content) here ∙ no_trailer_marked Server i.content takes) in
    clash (list_any trails (flow w Client id).sent) trailer (t.request asks).none

-- One receiver changes, and its flow moves.
pub record Changes (e x : EndpointHistory) (id : ℕ) (j : Incoming) : Type 0 where
  pub outs : x.outgoing ≡ e.outgoing
  pub here : incoming_at x id ≡ j
  pub there : (k : ℕ) → (id == k) ≡ false → incoming_at x k ≡ incoming_at e k

out_same : (e x : EndpointHistory) (k : ℕ) → x.outgoing ≡ e.outgoing → outgoing_at x k ≡ outgoing_at e k
out_same e x k is = ap (λ (l : Streams Outgoing). unwrap_or (stream_at l k) nothing_sent) is

pub client_changes : (w v : World) (ends : Ends) (x : EndpointHistory) (id : ℕ) (j : Incoming) → Changes ends.client x id j → ((writer : Side) (k : ℕ) → is_on writer k Server id ≡ false → flow v writer k ≡ flow w writer k)
    → (flow v Server id).sent ≡ (flow w Server id).sent → (j.fault ≡ None → marked Client j.content ≡ true → AwaitsTunnel (flow w Client id).sent (flow v Server id)) → Tunnels w ends → Tunnels v (with_end ends Client x)
client_changes w v ends x id j c others sent left t = by_id At id here there
  where
    At : ℕ → Type 0
    At k = TunnelAt (flow v Client k).sent (flow v Server k) (outgoing_at x k) (outgoing_at ends.server k) (incoming_at ends.server k) (incoming_at x k)

    there : (k : ℕ) → (id == k) ≡ false → At k
    there k off =
        tunnel_same (flow w Client k).sent (flow v Client k).sent (flow w Server k) (flow v Server k) (outgoing_at ends.client k) (outgoing_at x k) (outgoing_at ends.server k) (outgoing_at ends.server k) (incoming_at ends.server k) (incoming_at ends.server k)
        (incoming_at ends.client k) (incoming_at x k) (ap (λ (f : Flow). f.sent) (others Client k refl)) (others Server k off) (out_same ends.client x k c.outs) refl refl (c.there k off) (t k)

    here : At id
    here =
        let old = t id in
        tunnel_same (flow w Client id).sent (flow v Client id).sent (flow v Server id) (flow v Server id) (outgoing_at ends.client id) (outgoing_at x id) (outgoing_at ends.server id) (outgoing_at ends.server id) (incoming_at ends.server id) (incoming_at ends.server id)
        j (incoming_at x id) (ap (λ (f : Flow). f.sent) (others Client id refl)) refl (out_same ends.client x id c.outs) refl refl c.here
        (record {
          request = old.request;
          response = λ opens. subst (λ l. AsksOther (flow w Client id).sent ⊎ NoTrailer l (outgoing_at ends.server id)) (sym sent) (old.response (ap (list_any opens_tunnel) (sym sent) ∙ opens));
          knows = old.knows;
          server = old.server;
          client = left;
        })

pub server_changes : (w v : World) (ends : Ends) (x : EndpointHistory) (id : ℕ) (j : Incoming) → Changes ends.server x id j → ((writer : Side) (k : ℕ) → is_on writer k Client id ≡ false → flow v writer k ≡ flow w writer k)
    → (flow v Client id).sent ≡ (flow w Client id).sent → (j.fault ≡ None → marked Server j.content ≡ true → list_any asks_tunnel (flow w Client id).sent ≡ true)
    → ((c : Content) → j.response ≡ Some c → (has_head (flow w Client id).sent ≡ true) × (c ≡ asked_in (flow w Client id).sent)) → Tunnels w ends → Tunnels v (with_end ends Server x)
server_changes w v ends x id j c others sent left knows t = by_id At id here there
  where
    At : ℕ → Type 0
    At k = TunnelAt (flow v Client k).sent (flow v Server k) (outgoing_at ends.client k) (outgoing_at x k) (incoming_at x k) (incoming_at ends.client k)

    there : (k : ℕ) → (id == k) ≡ false → At k
    there k off =
        tunnel_same (flow w Client k).sent (flow v Client k).sent (flow w Server k) (flow v Server k) (outgoing_at ends.client k) (outgoing_at ends.client k) (outgoing_at ends.server k) (outgoing_at x k) (incoming_at ends.server k) (incoming_at x k)
        (incoming_at ends.client k) (incoming_at ends.client k) (ap (λ (f : Flow). f.sent) (others Client k off)) (others Server k refl) refl (out_same ends.server x k c.outs) (c.there k off) refl (t k)

    here : At id
    here =
        let old = t id in
        tunnel_same (flow w Client id).sent (flow v Client id).sent (flow w Server id) (flow v Server id) (outgoing_at ends.client id) (outgoing_at ends.client id) (outgoing_at ends.server id) (outgoing_at x id) j (incoming_at x id)
        (incoming_at ends.client id) (incoming_at ends.client id) sent (others Server id refl) refl (out_same ends.server x id c.outs) c.here refl
        (record { request = old.request; response = old.response; knows = knows; server = left; client = old.client })

none_of : (o : Option StreamFault) → is_some o ≡ false → o ≡ None
none_of None h = refl
none_of (Some why) h = absurd (cc)

-- What is left of the receiver of the side.
abbrev pub LeftAt : Side → World → World → ℕ → Incoming → Type 0
LeftAt Client w v id j = j.fault ≡ None → marked Client j.content ≡ true → AwaitsTunnel (flow w Client id).sent (flow v Server id)
LeftAt Server w v id j =
    (j.fault ≡ None → marked Server j.content ≡ true → list_any asks_tunnel (flow w Client id).sent ≡ true) × ((c : Content) → j.response ≡ Some c → (has_head (flow w Client id).sent ≡ true) × (c ≡ asked_in (flow w Client id).sent))

pub changes_at : (side : Side) (w v : World) (ends : Ends) (x : EndpointHistory) (id : ℕ) (j : Incoming) → Changes (end_at ends side) x id j → ((writer : Side) (k : ℕ) → is_on writer k (other side) id ≡ false → flow v writer k ≡ flow w writer k)
    → (flow v (other side) id).sent ≡ (flow w (other side) id).sent → LeftAt side w v id j → Tunnels w ends → Tunnels v (with_end ends side x)
changes_at Client w v ends x id j c others sent left t = client_changes w v ends x id j c others sent left t
changes_at Server w v ends x id j c others sent left t = server_changes w v ends x id j c others sent left.0 left.1 t

left_by : (w v : World) (ends : Ends) (side : Side) (own : Announced) (id : ℕ) (r : DecoderState) → own.choices.strict_messages ≡ true → (came : ℕ) (p : Party) (i : Incoming) → IsSoundFlow p (flow w (other side) id)
    → Along side own id r came (flow w (other side) id) i → AllByRecursion (IsReadableBy true side) (flow w (other side) id).sent → Tunnels w ends → incoming_at (end_at ends side) id ≡ i
    → PullWorld w v side id (pull_stream side own id r i).answer (pull_stream side own id r i).incoming.fault → LeftAt side w v id (pull_stream side own id r i).incoming
left_by w v ends Client own id r strict came p i sound along readable t here (GoesNext m) =
    client_left own id r strict came p (flow w Server id) i sound (flow w Client id).sent (flow v Server id) along
    (λ lives mark. (t id).client (ap (λ (x : Incoming). x.fault) here ∙ lives) (ap (λ (x : Incoming). marked Client x.content) here ∙ mark)) m.moved
left_by w v ends Client own id r strict came p i sound along readable t here (IsGone lost others sent) = λ lives. absurd (lost lives)
left_by w v ends Server own id r strict came p i sound along readable t here world =
    server_left own id r strict came p (flow w Client id) i sound along readable
    (λ lives mark. (t id).server (ap (λ (x : Incoming). x.fault) here ∙ lives) (ap (λ (x : Incoming). marked Server x.content) here ∙ mark)) (λ c is. (t id).knows c (ap (λ (x : Incoming). x.response) here ∙ is))

module _ (setup : Setup) (w : World) (ends : Ends) (sees : Sees setup w ends) (told : (side : Side) → (end_at ends side).announced ≡ announced_at setup side) (side : Side) (id : ℕ) where
  abbrev e : EndpointHistory
  e = end_at ends side

  pub pulls_so : (end_at ends side).kept ≡ [] → pulls (end_at ends side) id ≡ pull_at (end_at ends side) id (kind_of (end_at ends side).side id)
  pulls_so nothing_kept =
      ap (λ k. pulls_behind k (end_at ends side) id) nothing_kept ∙ ap (λ c. pull_unless c (end_at ends side) (pull_at (end_at ends side) id (kind_of (end_at ends side).side id))) (sees.closed side)

  -- the stream that is pulled
  module _ (i : Incoming) (here : stream_at (end_at ends side).incoming id ≡ Some i) where
    abbrev p : Pulled
    p = pull_stream (end_at ends side).side (end_at ends side).announced id (end_at ends side).decoding.decoder i

    seen : SeenStream setup w side id (end_at ends side).decoding.decoder i
    seen = sees.streams side id i here

    pub pulls_here : (end_at ends side).kept ≡ [] → pulls (end_at ends side) id ≡ pulled (end_at ends side) id (if_too_many (nat_lt e.announced.limits.blocked (heads_waiting e.decoding.decoder (set_stream e.incoming id p.incoming))) p)
    pulls_here nothing_kept = pulls_so nothing_kept ∙ ap (pull_at (end_at ends side) id) (kind_is (end_at ends side).side id (open_there w side id seen.opened).request) ∙ ap (pull_request (end_at ends side) id) here

    -- as it reads by what its side announced
    p_is : p ≡ pull_stream side (announced_at setup side) id (end_at ends side).decoding.decoder i
    p_is = ap (λ s. pull_stream s (end_at ends side).announced id (end_at ends side).decoding.decoder i) (sees.side_is side) ∙ ap (λ a. pull_stream side a id (end_at ends side).decoding.decoder i) (told side)

    -- **It finds no fault of the connection.**
    fault_of : (i.fault ≡ None → takes_trailer i.content ≡ false → place_after (take (flow w (other side) id).parts_out (flow w (other side) id).sent) ≡ InBody → list_any trails (flow w (other side) id).sent ≡ true → ⊥)
        → (o : Option StreamFault) → (flow w (other side) id).fault ≡ o → (b : Bool) → is_over (flow w (other side) id) ≡ b → ends_all p.answer ≡ false
    fault_of free (Some why) gone b over = ap (λ (x : Pulled). ends_all x.answer) (given_up_again (end_at ends side).side (end_at ends side).announced id (end_at ends side) i why (seen.lost ∙ gone))
    fault_of free None alive true over = ap (λ (x : Pulled). ends_all x.answer) (over_again (end_at ends side).side (end_at ends side).announced id (end_at ends side) i (seen.lost ∙ alive) (seen.over ∙ over))
    fault_of free None alive false over =
        ap (λ (x : Pulled). ends_all x.answer) p_is
        ∙ no_fault side (announced_at setup side) id (end_at ends side).decoding.decoder (insertions_came (party w (other side))) (party w (other side)) (flow w (other side) id) i
        (sound_flow (plain_setup setup) w (other side) id sees.sound (open_there w side id seen.opened)) (seen.along alive over) (free (seen.lost ∙ alive))

    pub safe_where : (i.fault ≡ None → takes_trailer i.content ≡ false → place_after (take (flow w (other side) id).parts_out (flow w (other side) id).sent) ≡ InBody → list_any trails (flow w (other side) id).sent ≡ true → ⊥) → ends_all p.answer ≡ false
    safe_where free = fault_of free (flow w (other side) id).fault refl (is_over (flow w (other side) id)) refl

module _ (setup : Setup) (strict : (side : Side) → (announced_at setup side).choices.strict_messages ≡ true) (w : World) (ends : Ends) (sees : Sees setup w ends) (t : TunnelsStand setup w ends) (side : Side) (id : ℕ) where
  abbrev end_here : EndpointHistory
  end_here = end_at ends side

  -- the stream that is pulled
  module _ (i : Incoming) (here : stream_at (end_at ends side).incoming id ≡ Some i) where
    abbrev x : Pulled
    x = pull_stream (end_at ends side).side (end_at ends side).announced id (end_at ends side).decoding.decoder i

    there : SeenStream setup w side id (end_at ends side).decoding.decoder i
    there = sees.streams side id i here

    x_is : x ≡ pull_stream side (announced_at setup side) id (end_at ends side).decoding.decoder i
    x_is = p_is setup w ends sees t.announced side id i here

    pub safe : ends_all x.answer ≡ false
    safe = safe_where setup w ends sees t.announced side id i here (tunnel_free w ends side id i (t.tunnels id) (ap (λ o. unwrap_or o nothing_came) here))

    changes : Changes (end_at ends side) (pulled (end_at ends side) id x).1 id x.incoming
    changes = record {
      outs = pulled_out (end_at ends side) id x;
      here = pulled_in (end_at ends side) id x id (λ n k. n ≡ id → k ≡ x.incoming) (λ same. refl) (λ apart. absurd (not_itself id apart)) refl;
      there = λ k off. pulled_in (end_at ends side) id x k (λ n y. (id == n) ≡ false → y ≡ incoming_at (end_at ends side) n) (λ apart. absurd (not_itself id apart)) (λ apart off. refl) off;
    }

    -- **And tunnels stand behind it.**
    stands_behind : (flow w (other side) id).fault ≡ None → is_over (flow w (other side) id) ≡ false → (v : World) → PullWorld w v side id x.answer x.incoming.fault → TunnelsStand setup v (with_end ends side (pulled (end_at ends side) id x).1)
    stands_behind alive more v world = record {
      tunnels = changes_at side w v ends (pulled (end_at ends side) id x).1 id x.incoming changes (others_of world) (sent_of world)
          (subst (λ (y : Pulled). LeftAt side w v id y.incoming) (sym x_is)
          (left_by w v ends side (announced_at setup side) id (end_at ends side).decoding.decoder (strict side) (insertions_came (party w (other side))) (party w (other side)) i
          (sound_flow (plain_setup setup) w (other side) id sees.sound (open_there w side id there.opened)) (there.along alive more) (sees.readable side id) t.tunnels (ap (λ o. unwrap_or o nothing_came) here)
          (subst (λ (y : Pulled). PullWorld w v side id y.answer y.incoming.fault) x_is world))) t.tunnels;
      announced = announced side refl;
    }
      where
        others_of : PullWorld w v side id x.answer x.incoming.fault → (writer : Side) (j : ℕ) → is_on writer j (other side) id ≡ false → flow v writer j ≡ flow w writer j
        others_of (GoesNext m) = m.others
        others_of (IsGone lost others sent) = others

        sent_of : PullWorld w v side id x.answer x.incoming.fault → (flow v (other side) id).sent ≡ (flow w (other side) id).sent
        sent_of (GoesNext m) = m.moved.sent
        sent_of (IsGone lost others sent) = sent

        same_announced : (s d : Side) (x : EndpointHistory) → x.announced ≡ (end_at ends s).announced → (end_at (with_end ends s x) d).announced ≡ (end_at ends d).announced
        same_announced Client Client x is = is
        same_announced Client Server x is = refl
        same_announced Server Client x is = refl
        same_announced Server Server x is = is

        announced : (s : Side) → side ≡ s → (d : Side) → (end_at (with_end ends side (pulled (end_at ends side) id x).1) d).announced ≡ announced_at setup d
        announced s is d = same_announced side d (pulled (end_at ends side) id x).1 (answer_streams x.answer (replied (with_incoming (end_at ends side) id x.incoming) x.replies)).2 ∙ t.announced d

  -- What it leaves of a stream that is not open, or was given up, or is over: nothing changes.
  other_streams : (k : Kind) → ((i : Incoming) → k ≡ Request → stream_at (end_at ends side).incoming id ≡ Some i → ⊥) → KeepsBut no_stream (end_at ends side) (pull_at (end_at ends side) id k).1
  other_streams Request closed = by_stream (stream_at (end_at ends side).incoming id) refl
    where
      by_stream : (o : Option Incoming) → stream_at (end_at ends side).incoming id ≡ o → KeepsBut no_stream (end_at ends side) (pull_request (end_at ends side) id o).1
      by_stream None is = streams_keep no_stream (end_at ends side) (end_at ends side) (same_streams (end_at ends side))
      by_stream (Some i) is = absurd (closed i refl is)
  other_streams ServerOpened closed = streams_keep no_stream (end_at ends side) (end_at ends side) (same_streams (end_at ends side))
  other_streams OwnUnidirectional closed = streams_keep no_stream (end_at ends side) (end_at ends side) (same_streams (end_at ends side))
  other_streams PeerUnidirectional closed = by_stream (stream_at (end_at ends side).unidirectional id)
    where
      by_told : (x : Pull × Unidirectional) → KeepsBut no_stream (end_at ends side) (pulled_unidirectional (end_at ends side) id x).1
      by_told (a, o) = streams_keep no_stream (end_at ends side) _ (record { incoming = refl; outgoing = refl; announced = refl })

      by_stream : (o : Option Unidirectional) → KeepsBut no_stream (end_at ends side) (pull_peer (end_at ends side) id o).1
      by_stream None = streams_keep no_stream (end_at ends side) (end_at ends side) (same_streams (end_at ends side))
      by_stream (Some o) = by_told (pull_unidirectional o o.role)

  many_keeps : (b : Bool) (i : Incoming) (p : Pulled) → p.incoming ≡ i → SameCounts i (if_too_many b p).incoming
  many_keeps true i p is = subst (λ j. SameCounts j (record p.incoming { waits_for = 0 })) is (record { fault = refl; content = refl; left = refl; response = refl })
  many_keeps false i p is = subst (SameCounts i) (sym is) (same_counts i)

  settled_keeps : (end_at ends side).kept ≡ [] → (x : Pull) → settled w side id ≡ Some x → KeepsBut no_stream (end_at ends side) (pulls (end_at ends side) id).1
  settled_keeps nothing_kept x is = by_stream (stream_at (end_at ends side).incoming id) refl
    where
      by_stream : (o : Option Incoming) → stream_at (end_at ends side).incoming id ≡ o → KeepsBut no_stream (end_at ends side) (pulls (end_at ends side) id).1
      by_stream None none =
          subst (λ (z : Pull × EndpointHistory). KeepsBut no_stream (end_at ends side) z.1) (sym (pulls_so setup w ends sees t.announced side id nothing_kept))
          (other_streams (kind_of (end_at ends side).side id) (λ i request here. absurd (let never : None ≡ Some i = sym none ∙ here in cc)))
      by_stream (Some i) here =
          subst (λ (z : Pull × EndpointHistory). KeepsBut no_stream (end_at ends side) z.1) (sym (pulls_here setup w ends sees t.announced side id i here nothing_kept))
          (pulled_keeps (end_at ends side) id (if_too_many many given) (subst (λ j. SameCounts j (if_too_many many given).incoming) (sym (ap (λ o. unwrap_or o nothing_came) here)) (many_keeps many i given (left (flow w (other side) id).fault refl (is_over (flow w (other side) id)) refl))))
        where
          given : Pulled
          given = pull_stream (end_at ends side).side (end_at ends side).announced id (end_at ends side).decoding.decoder i

          many : Bool
          many = nat_lt end_here.announced.limits.blocked (heads_waiting end_here.decoding.decoder (set_stream end_here.incoming id (pull_stream (end_at ends side).side (end_at ends side).announced id (end_at ends side).decoding.decoder i).incoming))

          left : (o : Option StreamFault) → (flow w (other side) id).fault ≡ o → (b : Bool) → is_over (flow w (other side) id) ≡ b → given.incoming ≡ i
          left (Some why) gone b over = ap (λ (y : Pulled). y.incoming) (given_up_again (end_at ends side).side (end_at ends side).announced id (end_at ends side) i why ((sees.streams side id i here).lost ∙ gone))
          left None alive true over = ap (λ (y : Pulled). y.incoming) (over_again (end_at ends side).side (end_at ends side).announced id (end_at ends side) i ((sees.streams side id i here).lost ∙ alive) ((sees.streams side id i here).over ∙ over))
          left None alive false over = absurd (let never : None ≡ Some x = sym (none_settled w side id (sees.streams side id i here).opened alive over) ∙ is in cc)

  settled_stands : (end_at ends side).kept ≡ [] → (v : World) (x : Pull) → settled w side id ≡ Some x → v ≡ w → TunnelsStand setup v (with_end ends side (pulls (end_at ends side) id).1)
  settled_stands nothing_kept v x is same =
      quiet_tunnels setup w v ends (with_end ends side (pulls (end_at ends side) id).1) (only_at side no_stream) (subst (KeepsParts w) (sym same) (keeps_same w)) (keeps_one side no_stream ends (pulls (end_at ends side) id).1 (settled_keeps nothing_kept x is)) t

  -- **A pull.**
  pub pull_tunnels : (end_at ends side).kept ≡ [] → (v : World) (a : Pull) → is_item a ≡ is_item (pulls (end_at ends side) id).0 → Pulls (plain_setup setup) w side id a v ⊎ GivesMessageUp setup w side id a v → is_connection_fault (answer.Pulled (pulls (end_at ends side) id).0) ≡ false
      → Sees setup v (with_end ends side (pulls (end_at ends side) id).1) → TunnelsStand setup v (with_end ends side (pulls (end_at ends side) id).1)
  pull_tunnels nothing_kept v a same_item world faultless g = by_settled (settled w side id) refl world
    where
      by_settled : (o : Option Pull) → settled w side id ≡ o → Pulls (plain_setup setup) w side id a v ⊎ GivesMessageUp setup w side id a v → TunnelsStand setup v (with_end ends side (pulls (end_at ends side) id).1)
      by_settled (Some x) is (inl step) = settled_stands nothing_kept v x is (subst (λ o. MatchOption o (PullsNext (plain_setup setup) w side id a v) (λ y. (a ≡ y) × (v ≡ w))) is step).1
      by_settled (Some x) is (inr m) = absurd (let never : None ≡ Some x = sym m.unsettled ∙ is in cc)
      by_settled None is step = goes (settled_none w side id is).is_there (none_of (flow w (other side) id).fault (settled_alive w side id is)) (settled_none w side id is).not_over step
        where
          goes : is_open w side id ≡ true → (flow w (other side) id).fault ≡ None → is_over (flow w (other side) id) ≡ false → Pulls (plain_setup setup) w side id a v ⊎ GivesMessageUp setup w side id a v
              → TunnelsStand setup v (with_end ends side (pulls (end_at ends side) id).1)
          goes opened alive more step = by_many many refl
            where
              stream : (i : Incoming) × (stream_at (end_at ends side).incoming id ≡ Some i)
              stream = sees.there side id opened

              given : Pulled
              given = pull_stream (end_at ends side).side (end_at ends side).announced id (end_at ends side).decoding.decoder stream.0

              many : Bool
              many = nat_lt end_here.announced.limits.blocked (heads_waiting end_here.decoding.decoder (set_stream end_here.incoming id (pull_stream (end_at ends side).side (end_at ends side).announced id (end_at ends side).decoding.decoder stream.0).incoming))

              by_many : (b : Bool) → many ≡ b → TunnelsStand setup v (with_end ends side (pulls (end_at ends side) id).1)
              by_many true k =
                  absurd (let never : true ≡ false = sym (ap (λ (z : Pull × EndpointHistory). is_connection_fault (answer.Pulled z.0)) (pulls_here setup w ends sees t.announced side id stream.0 stream.1 nothing_kept ∙ ap (λ b. pulled (end_at ends side) id (if_too_many b given)) k)) ∙ faultless in cc)
              by_many false k = subst (λ (z : Pull × EndpointHistory). TunnelsStand setup v (with_end ends side z.1)) (sym is_pulled) (stands_behind stream.0 stream.1 alive more v (by_world step))
                where
                  is_pulled : pulls (end_at ends side) id ≡ pulled (end_at ends side) id given
                  is_pulled = pulls_here setup w ends sees t.announced side id stream.0 stream.1 nothing_kept ∙ ap (λ b. pulled (end_at ends side) id (if_too_many b given)) k

                  told : is_item a ≡ is_item given.answer
                  told = same_item ∙ ap (λ (z : Pull × EndpointHistory). is_item z.0) is_pulled ∙ ap is_item (answer_is given.answer _)

                  by_world : Pulls (plain_setup setup) w side id a v ⊎ GivesMessageUp setup w side id a v → PullWorld w v side id given.answer given.incoming.fault
                  by_world (inl step) =
                      let m = next_moves (plain_setup setup) w v side id a (open_there w side id opened) (subst (λ o. MatchOption o (PullsNext (plain_setup setup) w side id a v) (λ y. (a ≡ y) × (v ≡ w))) is step) in
                      GoesNext (record { others = m.others; moved = record { sent = m.moved.sent; stays = λ none. m.moved.stays (told ∙ none); moves = m.moved.moves } })
                  by_world (inr up) =
                      let m = gives_moves (plain_setup setup) w v side id up.why (open_there w side id opened) up.gives in
                      let now = (pulled (end_at ends side) id given).1 in
                      let g_at = subst (λ (z : Pull × EndpointHistory). Sees setup v (with_end ends side z.1)) is_pulled g in
                      let there : stream_at (end_at (with_end ends side now) side).incoming id ≡ Some given.incoming =
                      ap (λ (z : EndpointHistory). stream_at z.incoming id) (end_set ends side now) ∙ ap (λ l. stream_at l id) (answer_streams given.answer (replied (with_incoming (end_at ends side) id given.incoming) given.replies)).0 ∙ set-here (end_at ends side).incoming id given.incoming in
                      let r = g_at.streams side id given.incoming there in
                      IsGone (λ none. let never : Some (Malformed up.why) ≡ None = sym m.2 ∙ sym r.lost ∙ none in cc) m.0 m.1
