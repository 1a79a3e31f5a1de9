-- What comes is read alike by endpoints that differ in cuts alone.
use Rattle.std.proofs.Common.{◌≡◌, ℕ, Bool, true, false, if◌then◌else◌, List, [], ◌++◌, refl, ap, sym, ◌∙◌, subst, Option, Some, None}
use Rattle.std.specs.Prelude.{◌||◌, is_some}
use Rattle.std.specs.List.{concat}
use Rattle.h3_frames.specs.Pieces.{with_piece}
use Rattle.h3_field.specs.Instruction.{DecoderInstruction}
use Rattle.h3_connection.specs.declared.event.StreamFault.{StreamFault}
use Rattle.h3_connection.specs.declared.event.StreamFault.TheVariants as stream_fault
use Rattle.h3_connection.specs.CallCuts.{joined_increments, SessionsDifferInCuts, EachStream, with_streams, DifferInCutsAlone}
use Rattle.h3_connection.specs.Codes.{closed_critical_stream}
use Rattle.h3_connection.specs.Control.{Found, increment, read_encoder, read_decoder, with_table, if_learned, then_decoder, after_peer, read_control, are_refused, holding, lacks_settings}
use Rattle.h3_connection.specs.Delivering.{request_refusal, closed_refusal, refusal_at, opened_at, opened, incoming_at, unidirectional_at, with_incoming, with_unidirectional, unless_second, heard_as, read_unidirectional, kept, with_end, bytes_at, closing, end_at, given_up_by, given_up_once, cancellation, give_up, reset_at}
use Rattle.h3_connection.specs.Endpoint.{EndpointHistory, limit_of, Kind, replied, is_second}
use Rattle.h3_connection.specs.Endpoint.Kind.{Request, ServerOpened, OwnUnidirectional, PeerUnidirectional}
use Rattle.h3_connection.specs.Incoming.{Incoming, nothing_came}
use Rattle.h3_connection.specs.Listeners.{heard_more, insertions_heard}
use Rattle.h3_connection.specs.PeerReading.{PeerFound, read_peer}
use Rattle.h3_connection.specs.PullCuts.{HaveBytes, DifferInCuts}
use Rattle.h3_connection.specs.StreamSets.{Streams, stream_at, set_stream}
use Rattle.h3_connection.specs.Unidirectional.{Unidirectional, Role, is_closed, reset_with, is_critical, role_after, with_bytes}
use Rattle.h3_connection.specs.Unidirectional.Role.{Untold, Control, Encoder, Decoder, Session, Push, Ignored, Other}
use Rattle.h3_connection.proofs.AlikeEnds.{OfBoth, at_both, set_both, or_nothing, or_untold, joined_more, replied_alike}
use Rattle.h3_connection.proofs.PullCuts.{piece_bytes, have_piece}
use Rattle.h3_connection.proofs.ReadingCuts.{Alike, read_if}
use Rattle.h3_connection.proofs.RequestCuts.{some_refusal}
use Rattle.h3_connection.specs.StrictConnection.{known_streams, kinds_of, session_fault}

-- What an endpoint has beside another that differs from it in cuts alone.
pub record Beside (e : EndpointHistory) (s : Streams Incoming) (t : Streams Unidirectional) (r : List DecoderInstruction) : Type 0 where
  pub incoming : EachStream DifferInCuts e.incoming s
  pub unidirectional : EachStream SessionsDifferInCuts e.unidirectional t
  pub replies : joined_increments r ≡ joined_increments e.own.replies

pub beside_alike : (e : EndpointHistory) (s : Streams Incoming) (t : Streams Unidirectional) (r : List DecoderInstruction) → Beside e s t r → DifferInCutsAlone e (with_streams e s t r)
beside_alike e s t r b = record { incoming = b.incoming; unidirectional = b.unidirectional; replies = b.replies; same = refl }

-- the control stream
pub decoder_with : (came : Bool) (e : EndpointHistory) (bytes : List ℕ) (s : Streams Incoming) (t : Streams Unidirectional) (r : List DecoderInstruction)
    → read_if came (with_streams e s t r) bytes ≡ (with_streams (read_if came e bytes).0 s t r, (read_if came e bytes).1)
decoder_with true e bytes s t r = refl
decoder_with false e bytes s t r = refl

then_with : (before after : Option (List (ℕ × ℕ))) (e : EndpointHistory) (fault : Option ℕ) (s : Streams Incoming) (t : Streams Unidirectional) (r : List DecoderInstruction)
    → then_decoder before after (with_streams e s t r) fault ≡ (with_streams (then_decoder before after e fault).0 s t r, (then_decoder before after e fault).1)
then_with before after e (Some code) s t r = refl
then_with None (Some pairs) e None s t r = decoder_with (is_some e.peer.settings) e [] s t r
then_with None None e None s t r = refl
then_with (Some known) after e None s t r = refl

table_with : (b : Bool) (e : EndpointHistory) (capacity blocked : ℕ) (s : Streams Incoming) (t : Streams Unidirectional) (r : List DecoderInstruction)
    → (if b then with_table (with_streams e s t r) capacity blocked else with_streams e s t r) ≡ with_streams (if b then with_table e capacity blocked else e) s t r
table_with true e capacity blocked s t r = refl
table_with false e capacity blocked s t r = refl

learned_with : (before after : Option (List (ℕ × ℕ))) (e : EndpointHistory) (s : Streams Incoming) (t : Streams Unidirectional) (r : List DecoderInstruction)
    → if_learned before after (with_streams e s t r) ≡ with_streams (if_learned before after e) s t r
learned_with None (Some pairs) e s t r = table_with _ e _ _ s t r
learned_with None None e s t r = refl
learned_with (Some known) after e s t r = refl

found_with : (b : Bool) (x y u v : Found) (s : Streams Incoming) (t : Streams Unidirectional) (r : List DecoderInstruction) → u ≡ (with_streams x.0 s t r, x.1) → v ≡ (with_streams y.0 s t r, y.1)
    → (if b then u else v) ≡ (with_streams (if b then x else y).0 s t r, (if b then x else y).1)
found_with true x y u v s t r g h = g
found_with false x y u v s t r g h = h

after_with : (e : EndpointHistory) (x : PeerFound) (s : Streams Incoming) (t : Streams Unidirectional) (r : List DecoderInstruction)
    → after_peer (with_streams e s t r) x ≡ (with_streams (after_peer e x).0 s t r, (after_peer e x).1)
after_with e (p, fault) s t r =
    let f : EndpointHistory = record e { peer = p } in
    found_with (are_refused e e.peer.settings p.settings) _ _ _ _ s t r refl
    (ap (λ g. then_decoder e.peer.settings p.settings g fault) (learned_with e.peer.settings p.settings f s t r)
    ∙ then_with e.peer.settings p.settings (if_learned e.peer.settings p.settings f) fault s t r)

pub control_with : (e : EndpointHistory) (bytes : List ℕ) (s : Streams Incoming) (t : Streams Unidirectional) (r : List DecoderInstruction)
    → read_control (with_streams e s t r) bytes ≡ (with_streams (read_control e bytes).0 s t r, (read_control e bytes).1)
control_with e bytes s t r =
    let h = holding e bytes in
    found_with (lacks_settings h) _ _ _ _ s t r refl (after_with h (read_peer (kinds_of h.announced) (limit_of h) h.side h.peer) s t r)

-- what reads without a look at streams
found_alike : (e : EndpointHistory) (x y : Found) (s : Streams Incoming) (t : Streams Unidirectional) (r : List DecoderInstruction) → Beside e s t r
    → x ≡ (with_streams x.0 e.incoming e.unidirectional e.own.replies, x.1) → y ≡ (with_streams x.0 s t r, x.1) → Alike DifferInCutsAlone x y
found_alike e x y s t r b own is =
    let f : EndpointHistory = with_streams x.0 e.incoming e.unidirectional e.own.replies in
    subst (λ z. Alike DifferInCutsAlone z y) (sym own) (subst (λ z. Alike DifferInCutsAlone (f, x.1) z) (sym is) (record {
      answer = refl;
      left = λ none. record { incoming = b.incoming; unidirectional = b.unidirectional; replies = b.replies; same = refl };
    }))

second_alike : (b : Bool) (e f : EndpointHistory) (x y : Found) → Alike DifferInCutsAlone x y → Alike DifferInCutsAlone (unless_second b e x) (unless_second b f y)
second_alike true e f x y h = record { answer = refl; left = λ none. absurd (cc) }
second_alike false e f x y h = h

nothing_found : (e : EndpointHistory) (s : Streams Incoming) (t : Streams Unidirectional) (r : List DecoderInstruction) → Beside e s t r → Alike DifferInCutsAlone (e, None) (with_streams e s t r, None)
nothing_found e s t r b = record { answer = refl; left = λ none. beside_alike e s t r b }

fault_found : (e f : EndpointHistory) (code : ℕ) → Alike DifferInCutsAlone (e, Some code) (f, Some code)
fault_found e f code = record { answer = refl; left = λ none. absurd (cc) }

code_found : (e : EndpointHistory) (s : Streams Incoming) (t : Streams Unidirectional) (r : List DecoderInstruction) (fault : Option ℕ) → Beside e s t r → Alike DifferInCutsAlone (e, fault) (with_streams e s t r, fault)
code_found e s t r None b = nothing_found e s t r b
code_found e s t r (Some code) b = fault_found e (with_streams e s t r) code

heard_alike : (e : EndpointHistory) (s : Streams Incoming) (t : Streams Unidirectional) (r : List DecoderInstruction) (id : ℕ) (role : Role) (bytes : List ℕ) → Beside e s t r
    → Alike DifferInCutsAlone (heard_as e id role bytes) (heard_as (with_streams e s t r) id role bytes)
heard_alike e s t r id (Untold front) bytes b = nothing_found e s t r b
heard_alike e s t r id Control bytes b =
    let g : EndpointHistory = record e { control_on = Some id } in
    second_alike (is_second e.control_on id) e (with_streams e s t r) _ _
    (found_alike e (read_control g bytes) (read_control (with_streams g s t r) bytes) s t r b (control_with g bytes e.incoming e.unidirectional e.own.replies) (control_with g bytes s t r))
heard_alike e s t r id Encoder bytes b =
    let g : EndpointHistory = record e { encoder_on = Some id } in
    let more = increment (insertions_heard e.decoding (heard_more (limit_of e) e.decoding bytes)) in
    second_alike (is_second e.encoder_on id) e (with_streams e s t r) (read_encoder g bytes) (read_encoder (with_streams g s t r) bytes) (record {
      answer = refl;
      left = λ none. record { incoming = b.incoming; unidirectional = b.unidirectional; replies = joined_more e.own.replies r more b.replies; same = refl };
    })
heard_alike e s t r id Decoder bytes b =
    let g : EndpointHistory = record e { decoder_on = Some id } in
    second_alike (is_second e.decoder_on id) e (with_streams e s t r) _ _
    (found_alike e (read_decoder g bytes) (read_decoder (with_streams g s t r) bytes) s t r b
    (decoder_with (is_some e.peer.settings) g bytes e.incoming e.unidirectional e.own.replies) (decoder_with (is_some e.peer.settings) g bytes s t r))
heard_alike e s t r id (Session n) bytes b = code_found e s t r (session_fault e.announced n) b
heard_alike e s t r id (Push n) bytes b = fault_found e (with_streams e s t r) _
heard_alike e s t r id Ignored bytes b = nothing_found e s t r b
heard_alike e s t r id (Other kind) bytes b = nothing_found e s t r b

-- more bytes in one piece
have_if : (b : Bool) (one two : List (List ℕ)) → HaveBytes one → HaveBytes two → HaveBytes (if b then one else two)
have_if true one two p q = p
have_if false one two p q = q

bytes_if : (b : Bool) (one two : List (List ℕ)) → concat two ≡ concat one → concat (if b then [] else two) ≡ concat (if b then [] else one)
bytes_if true one two e = refl
bytes_if false one two e = e

one_piece : (one two : List (List ℕ)) (bytes : List ℕ) → concat two ≡ concat one → concat (with_piece two bytes) ≡ concat (with_piece one bytes)
one_piece one two bytes e = piece_bytes two bytes ∙ ap (λ l. l ++ bytes) e ∙ sym (piece_bytes one bytes)

kept_alike : (i j : Incoming) (bytes : List ℕ) → DifferInCuts i j → DifferInCuts (kept i bytes) (kept j bytes)
kept_alike i j bytes d =
    subst (λ (x : Incoming). DifferInCuts (kept i bytes) (kept x bytes)) (sym d.same) (record {
      bytes = bytes_if (is_some i.fault) (with_piece i.unread bytes) (with_piece j.unread bytes) (one_piece i.unread j.unread bytes d.bytes);
      same = refl;
      first = have_if (is_some i.fault) [] (with_piece i.unread bytes) tt (have_piece i.unread bytes d.first);
      second = have_if (is_some i.fault) [] (with_piece j.unread bytes) tt (have_piece j.unread bytes d.second);
    })

bytes_alike : (o p : Unidirectional) (x : Role × List ℕ) → SessionsDifferInCuts o p → SessionsDifferInCuts (with_bytes o x) (with_bytes p x)
bytes_alike o p x d = subst (λ (q : Unidirectional). SessionsDifferInCuts (with_bytes o x) (with_bytes q x)) (sym d.same) (by_role x)
  where
    u : List (List ℕ)
    u = p.unread

    other : Unidirectional
    other = record o { unread = u }

    as_is : (role : Role) → SessionsDifferInCuts (record o { role = role }) (record other { role = role })
    as_is role = record { bytes = d.bytes; same = refl; first = d.first; second = d.second }

    by_role : (y : Role × List ℕ) → SessionsDifferInCuts (with_bytes o y) (with_bytes other y)
    by_role (Untold front, rest) = as_is (Untold front)
    by_role (Control, rest) = as_is Control
    by_role (Encoder, rest) = as_is Encoder
    by_role (Decoder, rest) = as_is Decoder
    by_role (Session id, rest) = record { bytes = one_piece o.unread u rest d.bytes; same = refl; first = have_piece o.unread rest d.first; second = have_piece u rest d.second }
    by_role (Push id, rest) = as_is (Push id)
    by_role (Ignored, rest) = as_is Ignored
    by_role (Other kind, rest) = record { bytes = one_piece o.unread u rest d.bytes; same = refl; first = have_piece o.unread rest d.first; second = have_piece u rest d.second }

-- what is given up
pub given_up_alike : (i j : Incoming) (fault : StreamFault) → DifferInCuts i j → DifferInCuts (given_up_once i fault) (given_up_once j fault)
given_up_alike i j fault d = subst (λ (x : Incoming). DifferInCuts (given_up_once i fault) (given_up_once x fault)) (sym d.same) (by_fault i.fault)
  where
    by_fault : (first : Option StreamFault) → DifferInCuts (given_up_by i fault first) (given_up_by (record i { unread = j.unread }) fault first)
    by_fault (Some first) = record { bytes = d.bytes; same = refl; first = d.first; second = d.second }
    by_fault None = record { bytes = refl; same = refl; first = tt; second = tt }

pub gives_up : (e f : EndpointHistory) (id : ℕ) (i j : Incoming) (fault : StreamFault) → j.fault ≡ i.fault
    → DifferInCutsAlone (with_incoming e id (given_up_once i fault)) (with_incoming f id (given_up_once j fault)) → DifferInCutsAlone (give_up e id i fault) (give_up f id j fault)
gives_up e f id i j fault same d =
    subst (λ first. DifferInCutsAlone (give_up e id i fault) (replied (with_incoming f id (given_up_once j fault)) (cancellation id first))) (sym same)
    (replied_alike (with_incoming e id (given_up_once i fault)) (with_incoming f id (given_up_once j fault)) (cancellation id i.fault) d)

-- a request stream that is opened, and then is this
pub opens_alike : (e : EndpointHistory) (s : Streams Incoming) (t : Streams Unidirectional) (r : List DecoderInstruction) (id : ℕ) (x y : Option Incoming) (i j : Incoming) → Beside e s t r → OfBoth DifferInCuts x y
    → DifferInCuts i j → DifferInCutsAlone (with_incoming (opened_at e id x) id i) (with_incoming (opened_at (with_streams e s t r) id y) id j)
opens_alike e s t r id None None i j b h d = record {
  incoming = set_both DifferInCuts _ _ id i j (set_both DifferInCuts e.incoming s id nothing_came nothing_came b.incoming (record { bytes = refl; same = refl; first = tt; second = tt })) d;
  unidirectional = b.unidirectional;
  replies = b.replies;
  same = refl;
}
opens_alike e s t r id None (Some y) i j b h d = absurd h
opens_alike e s t r id (Some x) None i j b h d = absurd h
opens_alike e s t r id (Some x) (Some y) i j b h d =
    record { incoming = set_both DifferInCuts e.incoming s id i j b.incoming d; unidirectional = b.unidirectional; replies = b.replies; same = refl }

module _ (e : EndpointHistory) (s : Streams Incoming) (t : Streams Unidirectional) (r : List DecoderInstruction) (id : ℕ) (b : Beside e s t r) where
  abbrev two : EndpointHistory
  two = with_streams e s t r

  pub requests_here : OfBoth DifferInCuts (stream_at e.incoming id) (stream_at s id)
  requests_here = at_both DifferInCuts e.incoming s id b.incoming

  pub sessions_here : SessionsDifferInCuts (unidirectional_at e id) (unidirectional_at (with_streams e s t r) id)
  sessions_here = or_untold (stream_at e.unidirectional id) (stream_at t id) (at_both SessionsDifferInCuts e.unidirectional t id b.unidirectional)

  pub request_same : DifferInCuts (incoming_at e id) (incoming_at (with_streams e s t r) id)
  request_same = or_nothing (stream_at e.incoming id) (stream_at s id) requests_here

  refused_request : (x y : Option Incoming) → OfBoth DifferInCuts x y → request_refusal e.side x ≡ request_refusal e.side y
  refused_request None None h = refl
  refused_request None (Some j) h = absurd h
  refused_request (Some i) None h = absurd h
  refused_request (Some i) (Some j) h = some_refusal e.side i ∙ ap (λ (x : Incoming). closed_refusal (x.ended || x.was_reset)) (sym h.same) ∙ sym (some_refusal e.side j)

  pub refused_at : (k : Kind) → refusal_at e id k ≡ refusal_at two id k
  refused_at Request = refused_request (stream_at e.incoming id) (stream_at s id) requests_here
  refused_at ServerOpened = refl
  refused_at OwnUnidirectional = refl
  refused_at PeerUnidirectional = ap (λ (o : Unidirectional). closed_refusal (is_closed o)) (sym sessions_here.same)

  unidirectional_alike : (o p : Unidirectional) (x : Role × List ℕ) → SessionsDifferInCuts o p → Alike DifferInCutsAlone (read_unidirectional e id o x) (read_unidirectional two id p x)
  unidirectional_alike o p (role, bytes) d =
      let f = with_unidirectional e id (with_bytes o (role, bytes)) in
      heard_alike f s (set_stream t id (with_bytes p (role, bytes))) r id role bytes (record {
        incoming = b.incoming;
        unidirectional = set_both SessionsDifferInCuts e.unidirectional t id _ _ b.unidirectional (bytes_alike o p (role, bytes) d);
        replies = b.replies;
      })

  closing_alike : (o p : Unidirectional) → p.role ≡ o.role → SessionsDifferInCuts o p → Alike DifferInCutsAlone (closing e id o) (closing two id p)
  closing_alike o p role d = record {
    answer = ap (λ x. if is_critical x then Some closed_critical_stream else None) (sym role);
    left = λ none. record { incoming = b.incoming; unidirectional = set_both SessionsDifferInCuts e.unidirectional t id o p b.unidirectional d; replies = b.replies; same = refl };
  }

  opened_alike : (i j : Incoming) → DifferInCuts i j → DifferInCutsAlone (with_incoming (opened e id) id i) (with_incoming (opened two id) id j)
  opened_alike i j d = opens_alike e s t r id (stream_at e.incoming id) (stream_at s id) i j b requests_here d

  pub bytes_at_alike : (bytes : List ℕ) (k : Kind) → Alike DifferInCutsAlone (bytes_at e id bytes k) (bytes_at two id bytes k)
  bytes_at_alike bytes Request = record { answer = refl; left = λ none. opened_alike _ _ (kept_alike (incoming_at e id) (incoming_at two id) bytes request_same) }
  bytes_at_alike bytes ServerOpened = fault_found e two _
  bytes_at_alike bytes OwnUnidirectional = nothing_found e s t r b
  bytes_at_alike bytes PeerUnidirectional =
      let d = sessions_here in
      let role : (unidirectional_at two id).role ≡ (unidirectional_at e id).role = ap (λ (o : Unidirectional). o.role) d.same in
      subst (λ x. Alike DifferInCutsAlone (bytes_at e id bytes PeerUnidirectional) (read_unidirectional two id (unidirectional_at two id) (role_after (known_streams e.announced) x bytes))) (sym role)
      (unidirectional_alike (unidirectional_at e id) (unidirectional_at two id) (role_after (known_streams e.announced) (unidirectional_at e id).role bytes) d)

  pub end_at_alike : (k : Kind) → Alike DifferInCutsAlone (end_at e id k) (end_at two id k)
  end_at_alike Request =
      let d = request_same in
      record {
        answer = refl;
        left = λ none. opened_alike _ _ (record { bytes = d.bytes; same = ap (λ (x : Incoming). with_end x) d.same; first = d.first; second = d.second });
      }
  end_at_alike ServerOpened = fault_found e two _
  end_at_alike OwnUnidirectional = nothing_found e s t r b
  end_at_alike PeerUnidirectional =
      let d = sessions_here in
      closing_alike _ _ (ap (λ (o : Unidirectional). o.role) d.same)
      (record { bytes = d.bytes; same = ap (λ (x : Unidirectional). let y : Unidirectional = record x { ended = true } in y) d.same; first = d.first; second = d.second })

  pub reset_at_alike : (code : ℕ) (k : Kind) → Alike DifferInCutsAlone (reset_at e id code k) (reset_at two id code k)
  reset_at_alike code Request =
      let i : Incoming = record (incoming_at e id) { was_reset = true } in
      let j : Incoming = record (incoming_at two id) { was_reset = true } in
      let same : j.fault ≡ i.fault = ap (λ (x : Incoming). x.fault) request_same.same in
      record {
        answer = refl;
        left = λ none. gives_up (opened e id) (opened two id) id i j (stream_fault.Reset code) same
            (opened_alike _ _ (given_up_alike i j (stream_fault.Reset code) (record { bytes = request_same.bytes; same = ap (λ (x : Incoming). let y : Incoming = record x { was_reset = true } in y) request_same.same; first = request_same.first; second = request_same.second })));
      }
  reset_at_alike code ServerOpened = fault_found e two _
  reset_at_alike code OwnUnidirectional = nothing_found e s t r b
  reset_at_alike code PeerUnidirectional =
      let d = sessions_here in
      closing_alike _ _ (ap (λ (o : Unidirectional). o.role) d.same)
      (record { bytes = refl; same = ap (λ (x : Unidirectional). reset_with x code) d.same; first = tt; second = tt })
