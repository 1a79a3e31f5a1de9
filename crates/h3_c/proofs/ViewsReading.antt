-- What came is read alike whatever is seen of what the endpoint sends.
use Rattle.std.proofs.Common.{◌≡◌, ℕ, Bool, true, false, if◌then◌else◌, List, [], ◌∷◌, ◌++◌, refl, ap, subst, ◌∙◌, Option, Some, None}
use Rattle.std.specs.Prelude.{fold, is_some, unwrap_or}
use Rattle.h3_proto.specs.Settings.{value_of}
use Rattle.h3_proto.specs.declared.stream.Side.{Side}
use Rattle.h3_frames.specs.declared.frame.kinds.FrameKinds.{FrameKinds}
use Rattle.h3_connection.specs.Arrivals.{stream_of}
use Rattle.h3_connection.specs.declared.arrival.Arrival.{Arrival}
use Rattle.h3_connection.specs.declared.arrival.Arrival.TheVariants.{BytesCame, EndCame, ResetCame}
use Rattle.h3_connection.specs.Coming.{fields_behind, fields_item}
use Rattle.h3_connection.specs.Control.{Found, with_table, is_table_usable, after_peer, are_refused, holding, if_learned, kept_unread, lacks_settings, learned, listened_to, read_control, read_decoder, read_encoder, read_held, taken_peer, then_decoder, unless_missing, unless_refused}
use Rattle.h3_connection.specs.Delivering.{bytes_at, closed_by, delivery_refusal, end_at, give_up, heard_as, incoming_at, kept, only_one, opened, opened_at, read_unidirectional, reset_at, taken, unidirectional_at, unless_second, with_end, with_incoming, with_unidirectional}
use Rattle.h3_connection.specs.Endpoint.{EndpointHistory, Kind, kind_of, is_second, limit_of}
use Rattle.h3_connection.specs.Endpoint.Kind.{Request, ServerOpened, OwnUnidirectional, PeerUnidirectional}
use Rattle.h3_connection.specs.ExcessiveInstructions.{listen_up_to}
use Rattle.h3_connection.specs.Incoming.{Incoming}
use Rattle.h3_connection.specs.Keeping.{arrival_refusal, arrives, arrives_behind, keeping, opened_as, opened_by, pulled_after, pulls, pulls_behind, read_all, read_arrival, settles, unkept, unless_faulty}
use Rattle.h3_connection.specs.Outgoing.{nothing_sent}
use Rattle.h3_connection.specs.PartReading.{PeerReadsPart, ReadsOn, ReadsPart, early, held_as}
use Rattle.h3_connection.specs.PartReading.{ReadsWhole, ReadsFront, Holds, ReadsFrames, Hears, Listens}
use Rattle.h3_connection.specs.PartReading.{Stops, Goes}
use Rattle.h3_connection.specs.PeerReading.{Peer, PeerFound, read_peer, with_unread}
use Rattle.h3_connection.specs.Sending.{after_answer, after_fault, pull_at, pull_peer, pull_request, pull_unless, pulled_unidirectional}
use Rattle.h3_connection.specs.StreamSets.{stream_at}
use Rattle.h3_connection.specs.StrictConnection.{kinds_of, known_streams}
use Rattle.h3_connection.specs.Unidirectional.{Role, Unidirectional, pull_unidirectional, role_after, with_bytes}
use Rattle.h3_connection.specs.Unidirectional.Role.{Untold, Control, Encoder, Decoder, Push, Session, Ignored, Other}
use Rattle.h3_connection.specs.declared.event.Fault.{Fault}
use Rattle.h3_connection.specs.declared.event.Fault.TheVariants as fault
use Rattle.h3_connection.specs.declared.event.Pull.{Pull}
use Rattle.h3_connection.specs.declared.event.Pull.TheVariants as pull
use Rattle.h3_connection.specs.declared.event.Refusal.{Refusal}
use Rattle.h3_connection.specs.declared.event.StreamFault.TheVariants as stream_fault
use Rattle.h3_c.proofs.UnheardUpdates.{peer_unheard, so_heard, unheard}
use Rattle.h3_c.proofs.Views.{View, seen, set_seen}

module _ (T : View) (begins : (id : ℕ) → T.out id nothing_sent ≡ nothing_sent) where
  -- the same of what is found, answered or pulled
  abbrev pub so_found : Found → Found
  so_found (e, code) = (seen T e, code)

  abbrev pub so_done : Option Refusal × EndpointHistory → Option Refusal × EndpointHistory
  so_done (r, e) = (r, seen T e)

  abbrev pub so_pulled : Pull × EndpointHistory → Pull × EndpointHistory
  so_pulled (p, e) = (p, seen T e)

  found_if : (b : Bool) (one two : Found) → (if b then so_found one else so_found two) ≡ so_found (if b then one else two)
  found_if true one two = refl
  found_if false one two = refl

  ends_if : (b : Bool) (one two : EndpointHistory) → (if b then seen T one else seen T two) ≡ seen T (if b then one else two)
  ends_if true one two = refl
  ends_if false one two = refl

  -- a stream that is opened
  opened_mapped : (e : EndpointHistory) (id : ℕ) (i : Option Incoming) → opened_at (seen T e) id i ≡ seen T (opened_at e id i)
  opened_mapped e id (Some i) = refl
  opened_mapped e id None = ap (λ l. record (seen T (opened_at e id None)) { outgoing = l }) (set_seen e.outgoing T.out T.out id nothing_sent nothing_sent (begins id) (λ i x differs. refl))

  pub opened_seen : (e : EndpointHistory) (id : ℕ) → opened (seen T e) id ≡ seen T (opened e id)
  opened_seen e id = opened_mapped e id (stream_at e.incoming id)

  -- the peer's control, encoder and decoder streams
  learned_seen : (e : EndpointHistory) (pairs : List (ℕ × ℕ)) → learned (seen T e) pairs ≡ seen T (learned e pairs)
  learned_seen e pairs =
      let capacity = unwrap_or (value_of 1 pairs) 0 in
      let blocked = unwrap_or (value_of 7 pairs) 0 in
      ends_if (is_table_usable e.encoder.most_capacity capacity blocked) (with_table e capacity blocked) e

  pub if_learned_seen : (before after : Option (List (ℕ × ℕ))) (e : EndpointHistory) → if_learned before after (seen T e) ≡ seen T (if_learned before after e)
  if_learned_seen None (Some pairs) e = learned_seen e pairs
  if_learned_seen None None e = refl
  if_learned_seen (Some known) None e = refl
  if_learned_seen (Some known) (Some pairs) e = refl

  decoder_seen : (e : EndpointHistory) (bytes : List ℕ) → read_decoder (seen T e) bytes ≡ so_found (read_decoder e bytes)
  decoder_seen e bytes = found_if (is_some e.peer.settings) (listened_to e (listen_up_to (limit_of e) e.encoder (e.decoder_unread ++ bytes))) (kept_unread e (e.decoder_unread ++ bytes))

  then_seen : (before after : Option (List (ℕ × ℕ))) (e : EndpointHistory) (fault : Option ℕ) → then_decoder before after (seen T e) fault ≡ so_found (then_decoder before after e fault)
  then_seen before after e (Some code) = refl
  then_seen None (Some pairs) e None = decoder_seen e []
  then_seen None None e None = refl
  then_seen (Some known) None e None = refl
  then_seen (Some known) (Some pairs) e None = refl

  peer_seen : (e : EndpointHistory) (found : PeerFound) → after_peer (seen T e) (so_heard found) ≡ so_found (after_peer e found)
  peer_seen e (p, fault) =
      let read = record e { peer = p } in
      let taken : taken_peer (seen T e) (so_heard (p, fault)) ≡ so_found (taken_peer e (p, fault)) =
      ap (λ x. then_decoder e.peer.settings p.settings x fault) (if_learned_seen e.peer.settings p.settings read) ∙ then_seen e.peer.settings p.settings (if_learned e.peer.settings p.settings read) fault in
      ap (λ x. unless_refused (seen T e) (unheard p) x) taken ∙ found_if (are_refused e e.peer.settings p.settings) _ (taken_peer e (p, fault))

  held_seen : (e : EndpointHistory) → read_held (seen T e) ≡ so_found (read_held e)
  held_seen e =
      let found = read_peer (kinds_of e.announced) (limit_of e) e.side e.peer in
      ap (λ x. unless_missing (seen T e) (after_peer (seen T e) x)) (peer_unheard (kinds_of e.announced) (limit_of e) e.side e.peer)
      ∙ ap (λ x. unless_missing (seen T e) x) (peer_seen e found) ∙ found_if (lacks_settings e) _ (after_peer e found)

  second_seen : (b : Bool) (e : EndpointHistory) (found : Found) → unless_second b (seen T e) (so_found found) ≡ so_found (unless_second b e found)
  second_seen true e found = refl
  second_seen false e found = refl

  heard_seen : (e : EndpointHistory) (id : ℕ) (role : Role) (bytes : List ℕ) → heard_as (seen T e) id role bytes ≡ so_found (heard_as e id role bytes)
  heard_seen e id (Untold front) bytes = refl
  heard_seen e id Control bytes =
      let on = record e { control_on = Some id } in
      ap (λ x. only_one e.control_on id (seen T e) x) (held_seen (holding on bytes)) ∙ second_seen (is_second e.control_on id) e (read_control on bytes)
  heard_seen e id Encoder bytes = second_seen (is_second e.encoder_on id) e (read_encoder (record e { encoder_on = Some id }) bytes)
  heard_seen e id Decoder bytes =
      let on = record e { decoder_on = Some id } in
      ap (λ x. only_one e.decoder_on id (seen T e) x) (decoder_seen on bytes) ∙ second_seen (is_second e.decoder_on id) e (read_decoder on bytes)
  heard_seen e id (Push push) bytes = refl
  heard_seen e id (Session session) bytes = refl
  heard_seen e id Ignored bytes = refl
  heard_seen e id (Other kind) bytes = refl

  unidirectional_seen : (e : EndpointHistory) (id : ℕ) (o : Unidirectional) (read : Role × List ℕ) → read_unidirectional (seen T e) id o read ≡ so_found (read_unidirectional e id o read)
  unidirectional_seen e id o (role, bytes) = heard_seen (with_unidirectional e id (with_bytes o (role, bytes))) id role bytes

  -- an arrival
  bytes_at_seen : (e : EndpointHistory) (id : ℕ) (bytes : List ℕ) (k : Kind) → bytes_at (seen T e) id bytes k ≡ so_found (bytes_at e id bytes k)
  bytes_at_seen e id bytes Request = ap (λ x. (with_incoming x id (kept (incoming_at e id) bytes), None)) (opened_seen e id)
  bytes_at_seen e id bytes ServerOpened = refl
  bytes_at_seen e id bytes OwnUnidirectional = refl
  bytes_at_seen e id bytes PeerUnidirectional =
      unidirectional_seen e id (unidirectional_at e id) (role_after (known_streams e.announced) (unidirectional_at e id).role bytes)

  end_at_seen : (e : EndpointHistory) (id : ℕ) (k : Kind) → end_at (seen T e) id k ≡ so_found (end_at e id k)
  end_at_seen e id Request = ap (λ x. (with_incoming x id (with_end (incoming_at e id)), None)) (opened_seen e id)
  end_at_seen e id ServerOpened = refl
  end_at_seen e id OwnUnidirectional = refl
  end_at_seen e id PeerUnidirectional = refl

  reset_at_seen : (e : EndpointHistory) (id code : ℕ) (k : Kind) → reset_at (seen T e) id code k ≡ so_found (reset_at e id code k)
  reset_at_seen e id code Request =
      ap (λ x. (give_up x id (record (incoming_at e id) { was_reset = true }) (stream_fault.Reset code), None)) (opened_seen e id)
  reset_at_seen e id code ServerOpened = refl
  reset_at_seen e id code OwnUnidirectional = refl
  reset_at_seen e id code PeerUnidirectional = refl

  pub arrival_seen : (e : EndpointHistory) (a : Arrival) → read_arrival (seen T e) a ≡ so_found (read_arrival e a)
  arrival_seen e (BytesCame id bytes) = bytes_at_seen e id bytes (kind_of e.side id)
  arrival_seen e (EndCame id) = end_at_seen e id (kind_of e.side id)
  arrival_seen e (ResetCame id code) = reset_at_seen e id code (kind_of e.side id)

  reads_more : (arrivals : List Arrival) → ((x : EndpointHistory) → read_all arrivals (seen T x) ≡ so_found (read_all arrivals x)) → (found : Found)
      → unless_faulty (read_all arrivals) (so_found found) ≡ so_found (unless_faulty (read_all arrivals) found)
  reads_more arrivals later (x, Some code) = refl
  reads_more arrivals later (x, None) = later x

  pub all_seen : (arrivals : List Arrival) (e : EndpointHistory) → read_all arrivals (seen T e) ≡ so_found (read_all arrivals e)
  all_seen [] e = refl
  all_seen (a ∷ arrivals) e = ap (λ x. unless_faulty (read_all arrivals) x) (arrival_seen e a) ∙ reads_more arrivals (λ x. all_seen arrivals x) (read_arrival e a)

  closed_seen : (found : Found) → closed_by (so_found found) ≡ so_done (closed_by found)
  closed_seen (e, None) = refl
  closed_seen (e, Some code) = refl

  taken_seen : (closed : Option ℕ) (refused : Option Refusal) (e : EndpointHistory) (found : Found) → taken closed refused (seen T e) (so_found found) ≡ so_done (taken closed refused e found)
  taken_seen (Some code) refused e found = refl
  taken_seen None (Some r) e found = refl
  taken_seen None None e found = closed_seen found

  behind_seen : (kept : List Arrival) (e : EndpointHistory) (a : Arrival) → arrives_behind kept (seen T e) a ≡ so_done (arrives_behind kept e a)
  behind_seen [] e a =
      ap (λ x. taken e.closed (delivery_refusal e (stream_of a)) (seen T e) x) (arrival_seen e a) ∙ taken_seen e.closed (delivery_refusal e (stream_of a)) e (read_arrival e a)
  behind_seen (k ∷ kept) e a =
      ap (λ x. taken e.closed (arrival_refusal e (stream_of a)) (seen T e) x) (all_seen (k ∷ kept ++ a ∷ []) (unkept e))
      ∙ taken_seen e.closed (arrival_refusal e (stream_of a)) e (read_all (k ∷ kept ++ a ∷ []) (unkept e))

  -- **What comes is answered alike,**
  pub arrives_seen : (e : EndpointHistory) (a : Arrival) → arrives (seen T e) a ≡ so_done (arrives e a)
  arrives_seen e a = behind_seen e.kept e a

  -- a pull
  fault_seen : (f : Fault) (e : EndpointHistory) → after_fault f (seen T e) ≡ so_pulled (after_fault f e)
  fault_seen (fault.Connection code) e = refl
  fault_seen (fault.Stream f) e = refl
  fault_seen fault.Memory e = refl

  answer_seen : (p : Pull) (e : EndpointHistory) → after_answer p (seen T e) ≡ so_pulled (after_answer p e)
  answer_seen (pull.Item item) e = refl
  answer_seen pull.Pending e = refl
  answer_seen (pull.Waiting count) e = refl
  answer_seen (pull.Fault f) e = fault_seen f e
  answer_seen pull.NoMessages e = refl

  request_seen : (e : EndpointHistory) (id : ℕ) (i : Option Incoming) → pull_request (seen T e) id i ≡ so_pulled (pull_request e id i)
  request_seen e id None = refl
  request_seen e id (Some i) = answer_seen _ _

  peer_pull_seen : (e : EndpointHistory) (id : ℕ) (o : Option Unidirectional) → pull_peer (seen T e) id o ≡ so_pulled (pull_peer e id o)
  peer_pull_seen e id None = refl
  peer_pull_seen e id (Some o) = on (pull_unidirectional o o.role)
    where
      on : (x : Pull × Unidirectional) → pulled_unidirectional (seen T e) id x ≡ so_pulled (pulled_unidirectional e id x)
      on (p, new) = refl

  pull_at_seen : (e : EndpointHistory) (id : ℕ) (k : Kind) → pull_at (seen T e) id k ≡ so_pulled (pull_at e id k)
  pull_at_seen e id Request = request_seen e id (stream_at e.incoming id)
  pull_at_seen e id ServerOpened = refl
  pull_at_seen e id OwnUnidirectional = refl
  pull_at_seen e id PeerUnidirectional = peer_pull_seen e id (stream_at e.unidirectional id)

  pulled_if : (b : Bool) (one two : Pull × EndpointHistory) → (if b then so_pulled one else so_pulled two) ≡ so_pulled (if b then one else two)
  pulled_if true one two = refl
  pulled_if false one two = refl

  unless_seen : (closed : Option ℕ) (e : EndpointHistory) (x : Pull × EndpointHistory) → pull_unless closed (seen T e) (so_pulled x) ≡ so_pulled (pull_unless closed e x)
  unless_seen None e x = refl
  unless_seen (Some code) e x = refl

  after_seen : (found : Found) (id : ℕ) → pulled_after (so_found found) id ≡ so_pulled (pulled_after found id)
  after_seen (e, Some code) id = refl
  after_seen (e, None) id = pull_at_seen e id (kind_of e.side id)

  pulls_behind_seen : (kept : List Arrival) (e : EndpointHistory) (id : ℕ) → pulls_behind kept (seen T e) id ≡ so_pulled (pulls_behind kept e id)
  pulls_behind_seen [] e id = ap (λ x. pull_unless e.closed (seen T e) x) (pull_at_seen e id (kind_of e.side id)) ∙ unless_seen e.closed e (pull_at e id (kind_of e.side id))
  pulls_behind_seen (k ∷ kept) e id =
      let found = read_all (k ∷ kept) (unkept e) in
      let behind : pulled_after (read_all (k ∷ kept) (unkept (seen T e))) id ≡ so_pulled (pulled_after found id) = ap (λ x. pulled_after x id) (all_seen (k ∷ kept) (unkept e)) ∙ after_seen found id in
      ap (λ x. pull_unless e.closed (seen T e) (if settles e id then x else pulled_after (read_all (k ∷ kept) (unkept (seen T e))) id)) (pull_at_seen e id (kind_of e.side id))
      ∙ ap (λ x. pull_unless e.closed (seen T e) (if settles e id then so_pulled (pull_at e id (kind_of e.side id)) else x)) behind
      ∙ ap (λ x. pull_unless e.closed (seen T e) x) (pulled_if (settles e id) (pull_at e id (kind_of e.side id)) (pulled_after found id))
      ∙ unless_seen e.closed e (if settles e id then pull_at e id (kind_of e.side id) else pulled_after found id)

  -- **and so is a pull, with the list that comes next.**
  pub pulls_seen : (e : EndpointHistory) (id : ℕ) → pulls (seen T e) id ≡ so_pulled (pulls e id)
  pulls_seen e id = pulls_behind_seen e.kept e id

  pub fields_seen : (kept : List Arrival) (e : EndpointHistory) (id : ℕ) → fields_behind kept (seen T e) id ≡ fields_behind kept e id
  fields_seen [] e id = refl
  fields_seen (k ∷ kept) e id =
      ap (λ x. if settles e id then fields_item e id else fields_item x.0 id) (all_seen (k ∷ kept) (unkept e)) ∙ ap (λ o. if settles e id then fields_item e id else o) (on (read_all (k ∷ kept) (unkept e)))
    where
      on : (found : Found) → fields_item (so_found found).0 id ≡ fields_item found.0 id
      on (x, code) = refl

  -- What is read up to some point, where memory was refused.
  opened_as_seen : (k : Kind) (e : EndpointHistory) (id : ℕ) → opened_as k (seen T e) id ≡ seen T (opened_as k e id)
  opened_as_seen Request e id = opened_seen e id
  opened_as_seen ServerOpened e id = refl
  opened_as_seen OwnUnidirectional e id = refl
  opened_as_seen PeerUnidirectional e id = refl

  opened_all : (arrivals : List Arrival) (e : EndpointHistory) → fold opened_by (seen T e) arrivals ≡ seen T (fold opened_by e arrivals)
  opened_all [] e = refl
  opened_all (a ∷ arrivals) e = ap (λ x. fold opened_by x arrivals) (opened_as_seen (kind_of e.side (stream_of a)) e (stream_of a)) ∙ opened_all arrivals (opened_by e a)

  pub keeping_seen : (e : EndpointHistory) (arrivals : List Arrival) → keeping (seen T e) arrivals ≡ seen T (keeping e arrivals)
  keeping_seen e arrivals = ap (λ (x : EndpointHistory). record x { kept = arrivals }) (opened_all arrivals e)

  pub held_as_seen : (e : EndpointHistory) (id : ℕ) (read : Role × List ℕ) → held_as (seen T e) id read ≡ seen T (held_as e id read)
  held_as_seen e id (Untold front, bytes) = refl
  held_as_seen e id (Control, bytes) = refl
  held_as_seen e id (Encoder, bytes) = refl
  held_as_seen e id (Decoder, bytes) = refl
  held_as_seen e id (Push push, bytes) = refl
  held_as_seen e id (Session session, bytes) = refl
  held_as_seen e id (Ignored, bytes) = refl
  held_as_seen e id (Other kind, bytes) = refl

  frames_part : (kinds : FrameKinds) (limit : ℕ) (side : Side) (old new : Peer) → PeerReadsPart kinds limit side old new → PeerReadsPart kinds limit side (unheard old) (unheard new)
  frames_part kinds limit side old new part =
      record {
        front = part.front;
        rest = part.rest;
        cut = part.cut;
        read = unheard part.read;
        reads = peer_unheard kinds limit side (with_unread old part.front) ∙ ap so_heard part.reads;
        left = ap unheard part.left;
      }

  read_seen : (e new : EndpointHistory) (a : Arrival) → read_arrival e a ≡ (new, None) → read_arrival (seen T e) a ≡ (seen T new, None)
  read_seen e new a is = arrival_seen e a ∙ ap so_found is

  reads_on : {e new : EndpointHistory} {arrivals more : List Arrival} → ReadsOn e arrivals new more → ReadsOn (seen T e) arrivals (seen T new) more
  reads_on {e = e} {new = new} (ReadsWhole {a = a} is) = ReadsWhole (read_seen e new a is)
  reads_on {e = e} {new = new} (ReadsFront front rest {id = id} is) = ReadsFront front rest (read_seen e new (BytesCame id front) is)
  reads_on {e = e} (Holds {id = id} {bytes = bytes} {more = more} kind reader) =
      let o = unidirectional_at e id in
      let read = role_after (known_streams e.announced) o.role bytes in
      subst (λ x. ReadsOn (seen T e) (BytesCame id bytes ∷ more) x (BytesCame id [] ∷ more)) (held_as_seen (with_unidirectional e id (with_bytes o read)) id read) (Holds kind reader)
  reads_on {e = e} (ReadsFrames {id = id} {p = p} {more = more} on may part) =
      subst (λ x. ReadsOn (seen T e) (BytesCame id [] ∷ more) x (BytesCame id [] ∷ early e p ++ more)) (if_learned_seen e.peer.settings p.settings (record e { peer = p }))
      (ReadsFrames on (record { first = may.first; taken = may.taken }) (frames_part (kinds_of e.announced) (limit_of e) e.side e.peer p part))
  reads_on (Hears on part) = Hears on part
  reads_on (Listens on settings part) = Listens on settings part

  pub reads_part : {e new : EndpointHistory} {arrivals : List Arrival} → ReadsPart e arrivals new → ReadsPart (seen T e) arrivals (seen T new)
  reads_part {e = e} (Stops {rest = rest}) = subst (λ x. ReadsPart (seen T e) rest x) (keeping_seen e rest) Stops
  reads_part (Goes on part) = Goes (reads_on on) (reads_part part)
