-- By the bytes that a list of calls brings on each stream it is told which streams may become the peer's encoder stream.
use Rattle.std.proofs.Common.{◌≡◌, ℕ, Bool, true, false, List, [], ◌∷◌, ◌++◌, refl, sym, ◌∙◌, ap, subst, append_assoc}
use Rattle.std.specs.Prelude.{Option, Some, None, if◌then◌else◌, ◌==◌, ◌&&◌, not}
use Rattle.h3_coding.specs.Varint.{varint_at}
use Rattle.h3_coding.specs.VarintLaws.{reads_more}
use Rattle.h3_proto.specs.declared.stream.Side.{Side}
use Rattle.h3_connection.specs.declared.setup.Announced.{Announced}
use Rattle.h3_connection.specs.declared.event.Refusal.{Refusal}
use Rattle.h3_proto.specs.OtherSettings.{is_reserved}
use Rattle.h3_connection.specs.Unidirectional.{StreamKinds, Role, role_after, of_kind, session_role, with_id}
use Rattle.h3_connection.specs.Unidirectional.Role.{Untold, Control, Encoder, Decoder, Session, Push, Ignored, Other}
use Rattle.h3_connection.specs.Incoming.{Incoming}
use Rattle.h3_connection.specs.Endpoint.{EndpointHistory, limit_of, Kind, kind_of, new_endpoint}
use Rattle.h3_connection.specs.Endpoint.Kind.{Request, ServerOpened, OwnUnidirectional, PeerUnidirectional}
use Rattle.h3_connection.specs.Delivering.{closed_refusal}
use Rattle.h3_connection.specs.CallLists.{Call, called}
use Rattle.h3_connection.specs.CallLists.Call.{OpenRequest, SendHead, SendBody, SendTrailer, Finish, Reset, Goaway, Advance, TakeEnd, Outgoing, Deliver, DeliverEnd, DeliverReset, PullStream, Cancel, Show}
use Rattle.h3_connection.specs.Isolation.{Front, Sight, IsSight, AreEncoders, Before, GoesOn, FindsNoFault, StepIsSeen, sees, seen, unless_refused, with_front, hears, brought_on, is_encoder_type, encoders_in, is_peer, first_sight, seen_pull, where_open, before_first_fault, front, with_told}
use Rattle.h3_connection.proofs.SeenEncoder.{by_eq, to_eq}
use Rattle.h3_connection.proofs.Isolated.{each_step, before_next, true_not_false}
use Rattle.h3_connection.proofs.SameSetups.{same_setup}
use Rattle.h3_connection.proofs.Fronts.{OnlyPeers, any_peer, are_peers, peers_step}
use Rattle.h3_header.specs.Head.{head_fields}
use Rattle.h3_field.specs.Field.{Field}

-- a stream read so far as its front says agrees with the test, whatever comes
record GoodRole (t : Bool) (role : Role) (coming : List ℕ) : Type 0 where
  pub encoder : role ≡ Encoder → t ≡ true
  pub untold : (front : List ℕ) → role ≡ Untold front → t ≡ is_encoder_type (varint_at (front ++ coming))

record Good (t : Bool) (f : Front) (coming : List ℕ) : Type 0 where
  pub encoder : f.role ≡ Encoder → t ≡ true
  pub untold : f.closed ≡ false → (front : List ℕ) → f.role ≡ Untold front → t ≡ is_encoder_type (varint_at (front ++ coming))

front_in : Role → List ℕ
front_in (Untold front) = front
front_in _ = []

is_untold : Role → Bool
is_untold (Untold front) = true
is_untold _ = false

is_role_encoder : Role → Bool
is_role_encoder Encoder = true
is_role_encoder _ = false

good_untold : (t : Bool) (all coming : List ℕ) → t ≡ is_encoder_type (varint_at (all ++ coming)) → GoodRole t (Untold all) coming
unfolding front_in is_role_encoder
good_untold t all coming h = record {
  encoder = λ x. absurd (true_not_false (sym (ap is_role_encoder x)));
  untold = λ front x. h ∙ ap (λ w. is_encoder_type (varint_at (w ++ coming))) (ap front_in x);
}

good_other : (t : Bool) (role : Role) (coming : List ℕ) → is_role_encoder role ≡ false → is_untold role ≡ false → GoodRole t role coming
unfolding is_untold is_role_encoder
good_other t role coming a b = record {
  encoder = λ x. absurd (true_not_false (sym (ap is_role_encoder x) ∙ a));
  untold = λ front x. absurd (true_not_false (sym (ap is_untold x) ∙ b));
}

good_encoder : (t : Bool) (coming : List ℕ) → t ≡ true → GoodRole t Encoder coming
unfolding is_untold
good_encoder t coming h = record {
  encoder = λ x. h;
  untold = λ front x. absurd (true_not_false (sym (ap is_untold x)));
}

good_if : (t b : Bool) (x y : Role × List ℕ) (coming : List ℕ) → (b ≡ true → GoodRole t x.0 coming) → (b ≡ false → GoodRole t y.0 coming) → GoodRole t (if b then x else y).0 coming
good_if t true x y coming h k = h refl
good_if t false x y coming h k = k refl

good_push : (t : Bool) (all coming : List ℕ) (at : Option (ℕ × List ℕ)) → t ≡ is_encoder_type (varint_at (all ++ coming)) → GoodRole t (with_id Push all at).0 coming
unfolding is_untold is_role_encoder
good_push t all coming None h = good_untold t all coming h
good_push t all coming (Some (id, rest)) h = good_other t (Push id) coming refl refl

good_session : (sessions t : Bool) (all coming : List ℕ) (at : Option (ℕ × List ℕ)) → t ≡ is_encoder_type (varint_at (all ++ coming)) → GoodRole t (with_id (session_role sessions) all at).0 coming
unfolding is_untold is_role_encoder
good_session sessions t all coming None h = good_untold t all coming h
good_session true t all coming (Some (id, rest)) h = good_other t (Session id) coming refl refl
good_session false t all coming (Some (id, rest)) h = good_other t Ignored coming refl refl

good_left : (t b : Bool) (kind : ℕ) (coming : List ℕ) → GoodRole t (if b then Other kind else Ignored) coming
unfolding is_untold is_role_encoder
good_left t true kind coming = good_other t (Other kind) coming refl refl
good_left t false kind coming = good_other t Ignored coming refl refl

good_kind : (sessions : StreamKinds) (t : Bool) (all coming : List ℕ) (at : Option (ℕ × List ℕ)) → varint_at all ≡ at → t ≡ is_encoder_type (varint_at (all ++ coming)) → GoodRole t (of_kind sessions all at).0 coming
unfolding is_untold is_role_encoder
good_kind sessions t all coming None is h = good_untold t all coming h
good_kind sessions t all coming (Some (kind, rest)) is h =
    good_if t (kind == 0) _ _ coming (λ _. good_other t Control coming refl refl)
    (λ _. good_if t (kind == 1) _ _ coming (λ _. good_push t all coming (varint_at rest) h)
    (λ _. good_if t (kind == 2) _ _ coming (λ two. good_encoder t coming (h ∙ ap is_encoder_type (reads_more kind all rest coming is) ∙ two))
    (λ _. good_if t (kind == 3) _ _ coming (λ _. good_other t Decoder coming refl refl)
    (λ _. good_if t (kind == 0x54) _ _ coming (λ _. good_session sessions.sessions t all coming (varint_at rest) h)
    (λ _. good_left t (sessions.others && not (is_reserved kind)) kind coming)))))

-- after further bytes
good_bytes : (sessions : StreamKinds) (t : Bool) (role : Role) (bytes coming : List ℕ) → GoodRole t role (bytes ++ coming) → GoodRole t (role_after sessions role bytes).0 coming
unfolding is_untold is_role_encoder
good_bytes sessions t (Untold front) bytes coming h =
    good_kind sessions t (front ++ bytes) coming (varint_at (front ++ bytes)) refl
    (h.untold front refl ∙ ap (λ w. is_encoder_type (varint_at w)) (sym (append_assoc front bytes coming)))
good_bytes sessions t Control bytes coming h = good_other t Control coming refl refl
good_bytes sessions t Encoder bytes coming h = good_encoder t coming (h.encoder refl)
good_bytes sessions t Decoder bytes coming h = good_other t Decoder coming refl refl
good_bytes sessions t (Session id) bytes coming h = good_other t (Session id) coming refl refl
good_bytes sessions t (Push id) bytes coming h = good_other t (Push id) coming refl refl
good_bytes sessions t Ignored bytes coming h = good_other t Ignored coming refl refl
good_bytes sessions t (Other kind) bytes coming h = good_other t (Other kind) coming refl refl

more_good : (sessions : StreamKinds) (t : Bool) (f : Front) (bytes coming : List ℕ) → f.closed ≡ false → Good t f (bytes ++ coming) → Good t (record f { role = (role_after sessions f.role bytes).0 }) coming
more_good sessions t f bytes coming fresh h =
    let g = good_bytes sessions t f.role bytes coming (record { encoder = h.encoder; untold = h.untold fresh }) in
    record { encoder = g.encoder; untold = λ _. g.untold }

closed_good : (t : Bool) (f : Front) (before coming : List ℕ) → f.closed ≡ true → Good t f before → Good t f coming
closed_good t f before coming closed h = record { encoder = h.encoder; untold = λ fresh. absurd (true_not_false (sym closed ∙ fresh)) }

ended_good : (t : Bool) (f : Front) (coming : List ℕ) → Good t f coming → Good t (record f { closed = true }) coming
ended_good t f coming h = record { encoder = h.encoder; untold = λ fresh front x. absurd (true_not_false fresh) }

-- of each stream of the peer
abbrev Agrees : (ℕ → Bool) → Side → (ℕ → Front) → List Call → Type 0
Agrees T side fronts cs = (q : ℕ) → any_peer side q ≡ true → Good (T q) (fronts q) (brought_on q cs)

unless_same : (T : ℕ → Bool) (side : Side) (r : Option Refusal) (s t : Sight) (cs : List Call) → Agrees T side s.fronts cs → Agrees T side t.fronts cs → Agrees T side (unless_refused r s t).1.fronts cs
unless_same T side (Some r) s t cs h k = h
unless_same T side None s t cs h k = k

pull_same : (T : ℕ → Bool) (side at : Side) (own : Announced) (id : ℕ) (s : Sight) (i : Option Incoming) (cs : List Call) → Agrees T side s.fronts cs → Agrees T side (seen_pull at own id s i).1.fronts cs
pull_same T side at own id s None cs h = h
pull_same T side at own id s (Some i) cs h = h

-- bytes of a stream that is none of the peer's
not_peer : (T : ℕ → Bool) (side : Side) (fronts : ℕ → Front) (p : ℕ) (bytes : List ℕ) (cs : List Call) → any_peer side p ≡ false → Agrees T side fronts (Deliver p bytes ∷ cs) → Agrees T side fronts cs
not_peer T side fronts p bytes cs blind h q peer =
    by_eq q p (λ b. Good (T q) (fronts q) ((if b then bytes else []) ++ brought_on q cs) → Good (T q) (fronts q) (brought_on q cs))
    (λ same _. absurd (true_not_false (sym peer ∙ ap (any_peer side) same ∙ blind))) (λ differs g. g) (h q peer)

bytes_agree : (sessions : StreamKinds) (T : ℕ → Bool) (side : Side) (most : ℕ) (s : Sight) (p : ℕ) (bytes : List ℕ) (cs : List Call) (closed : Bool) → (s.fronts p).closed ≡ closed → Agrees T side s.fronts (Deliver p bytes ∷ cs)
    → Agrees T side (unless_refused (closed_refusal closed) s (with_front (record s { decoding = hears most s.decoding (role_after sessions (s.fronts p).role bytes) }) p (record (s.fronts p) { role = (role_after sessions (s.fronts p).role bytes).0 }))).1.fronts cs
bytes_agree sessions T side most s p bytes cs true is h q peer =
    by_eq q p (λ b. Good (T q) (s.fronts q) ((if b then bytes else []) ++ brought_on q cs) → Good (T q) (s.fronts q) (brought_on q cs))
    (λ same g. closed_good (T q) (s.fronts q) (bytes ++ brought_on q cs) (brought_on q cs) (ap (λ x. (s.fronts x).closed) same ∙ is) g) (λ differs g. g) (h q peer)
bytes_agree sessions T side most s p bytes cs false is h q peer =
    by_eq q p (λ b. Good (T q) (s.fronts q) ((if b then bytes else []) ++ brought_on q cs) → Good (T q) (if b then record (s.fronts p) { role = (role_after sessions (s.fronts p).role bytes).0 } else s.fronts q) (brought_on q cs))
    (λ same g. more_good sessions (T q) (s.fronts p) bytes (brought_on q cs) is (subst (λ x. Good (T q) (s.fronts x) (bytes ++ brought_on q cs)) same g)) (λ differs g. g) (h q peer)

closing_agrees : (T : ℕ → Bool) (side : Side) (s : Sight) (p : ℕ) (cs : List Call) → Agrees T side s.fronts cs
    → Agrees T side (with_front s p (record (s.fronts p) { closed = true })).fronts cs
closing_agrees T side s p cs h q peer =
    by_eq q p (λ b. Good (T q) (if b then record (s.fronts p) { closed = true } else s.fronts q) (brought_on q cs))
    (λ same. ended_good (T q) (s.fronts p) (brought_on q cs) (subst (λ x. Good (T q) (s.fronts x) (brought_on q cs)) same (h q peer))) (λ differs. h q peer)

abbrev after_seen : Side → ℕ → EndpointHistory → Sight → Call → Sight
after_seen side id e s c = if sees (any_peer side) id e c then (seen e.side e.announced id s c).1 else s

told_same : (T : ℕ → Bool) (side teller : Side) (s : Sight) (fields : List Field) (at : Option Incoming) (cs : List Call) → Agrees T side s.fronts cs → Agrees T side (with_told teller s fields at).fronts cs
told_same T side teller s fields None cs h = h
told_same T side teller s fields (Some i) cs h = h

fst_if : (b : Bool) (T : ℕ → Bool) (side : Side) (x y : Sight) (cs : List Call) → Agrees T side x.fronts cs → Agrees T side y.fronts cs → Agrees T side (if b then x else y).fronts cs
fst_if true T side x y cs h k = h
fst_if false T side x y cs h k = k

deliver_agrees : (T : ℕ → Bool) (side : Side) (id : ℕ) (e : EndpointHistory) (s : Sight) (p : ℕ) (bytes : List ℕ) (cs : List Call) → any_peer side id ≡ false → Agrees T side s.fronts (Deliver p bytes ∷ cs)
    → (own peer : Bool) → (p == id) ≡ own → any_peer side p ≡ peer → Agrees T side (after_seen side id e s (Deliver p bytes)).fronts cs
deliver_agrees T side id e s p bytes cs blind h true peer is is_peer =
    let here = not_peer T side s.fronts p bytes cs (ap (any_peer side) (to_eq p id is) ∙ blind) h in
    rw is (unless_same T side _ s _ cs here here)
deliver_agrees T side id e s p bytes cs blind h false true is is_peer = rw (is, is_peer) (bytes_agree _ T side (limit_of e) s p bytes cs (s.fronts p).closed refl h)
deliver_agrees T side id e s p bytes cs blind h false false is is_peer = rw (is, is_peer) (not_peer T side s.fronts p bytes cs is_peer h)

end_agrees : (T : ℕ → Bool) (side : Side) (id : ℕ) (e : EndpointHistory) (s : Sight) (p : ℕ) (cs : List Call) → Agrees T side s.fronts cs
    → (own peer : Bool) → (p == id) ≡ own → any_peer side p ≡ peer → Agrees T side (after_seen side id e s (DeliverEnd p)).fronts cs
end_agrees T side id e s p cs h true peer is is_peer = rw is (unless_same T side _ s _ cs h h)
end_agrees T side id e s p cs h false true is is_peer = rw (is, is_peer) (unless_same T side _ s _ cs h (closing_agrees T side s p cs h))
end_agrees T side id e s p cs h false false is is_peer = rw (is, is_peer) h

reset_agrees : (T : ℕ → Bool) (side : Side) (id : ℕ) (e : EndpointHistory) (s : Sight) (p code : ℕ) (cs : List Call) → Agrees T side s.fronts cs
    → (own peer : Bool) → (p == id) ≡ own → any_peer side p ≡ peer → Agrees T side (after_seen side id e s (DeliverReset p code)).fronts cs
reset_agrees T side id e s p code cs h true peer is is_peer = rw is (unless_same T side _ s _ cs h h)
reset_agrees T side id e s p code cs h false true is is_peer = rw (is, is_peer) (unless_same T side _ s _ cs h (closing_agrees T side s p cs h))
reset_agrees T side id e s p code cs h false false is is_peer = rw (is, is_peer) h

agrees_step : (T : ℕ → Bool) (side : Side) (id : ℕ) (e : EndpointHistory) (s : Sight) (c : Call) (cs : List Call) → any_peer side id ≡ false → Agrees T side s.fronts (c ∷ cs) → Agrees T side (after_seen side id e s c).fronts cs
agrees_step T side id e s OpenRequest cs blind h = fst_if _ T side _ _ cs h h
agrees_step T side id e s (SendHead q head) cs blind h = fst_if _ T side _ _ cs (told_same T side e.side s (head_fields head) s.incoming cs h) h
agrees_step T side id e s (SendBody q bytes) cs blind h = h
agrees_step T side id e s (SendTrailer q head) cs blind h = h
agrees_step T side id e s (Finish q) cs blind h = h
agrees_step T side id e s (Reset q) cs blind h = h
agrees_step T side id e s (Goaway q) cs blind h = h
agrees_step T side id e s (Advance q count) cs blind h = h
agrees_step T side id e s (TakeEnd q) cs blind h = h
agrees_step T side id e s (Outgoing q) cs blind h = h
agrees_step T side id e s (Deliver q bytes) cs blind h = deliver_agrees T side id e s q bytes cs blind h (q == id) (any_peer side q) refl refl
agrees_step T side id e s (DeliverEnd q) cs blind h = end_agrees T side id e s q cs h (q == id) (any_peer side q) refl refl
agrees_step T side id e s (DeliverReset q code) cs blind h = reset_agrees T side id e s q code cs h (q == id) (any_peer side q) refl refl
agrees_step T side id e s (PullStream q) cs blind h = fst_if _ T side _ _ cs (pull_same T side e.side e.announced id s s.incoming cs h) h
agrees_step T side id e s (Cancel q) cs blind h = fst_if _ T side _ _ cs (unless_same T side _ s _ cs h h) h
agrees_step T side id e s Show cs blind h = h

sight_after : (side : Side) (id : ℕ) (e new : EndpointHistory) (s : Sight) (c : Call) (b : Bool) → sees (any_peer side) id e c ≡ b → StepIsSeen (any_peer side) id e new s c (called e c).0
    → IsSight (any_peer side) id new (if b then (seen e.side e.announced id s c).1 else s)
sight_after side id e new s c true is step = (step.seen_one is).1
sight_after side id e new s c false is step = step.other is

peer_kind : (k : Kind) → is_peer k ≡ true → k ≡ PeerUnidirectional
peer_kind PeerUnidirectional h = refl
peer_kind Request h = absurd (true_not_false (sym h))
peer_kind ServerOpened h = absurd (true_not_false (sym h))
peer_kind OwnUnidirectional h = absurd (true_not_false (sym h))

goes_more : (T : ℕ → Bool) (e : EndpointHistory) (c : Call) (front : List Call) (closed : Option ℕ) → (called e c).1.closed ≡ closed → ((called e c).1.closed ≡ None → GoesOn T e (c ∷ front))
    → GoesOn T e (where_open closed (c ∷ front))
goes_more T e c front (Some code) is h = tt
goes_more T e c front None is h = h is

-- up to the first fault the test tells the encoder streams, whatever comes behind it
goes : (T : ℕ → Bool) (side : Side) (id : ℕ) (e : EndpointHistory) (s : Sight) (cs : List Call) → e.side ≡ side → any_peer side id ≡ false → Before (any_peer side) id e s → OnlyPeers side e.unidirectional
    → Agrees T side s.fronts cs → GoesOn T e (before_first_fault e cs)
goes T side id e s [] is blind b only h = tt
goes T side id e s (c ∷ cs) is blind b only h = goes_more T e c (before_first_fault (called e c).1 cs) (called e c).1.closed refl (λ open_still.
    let new = (called e c).1 in
    let t = after_seen side id e s c in
    let only' : OnlyPeers side new.unidirectional = subst (λ x. OnlyPeers x new.unidirectional) is (peers_step e c open_still (subst (λ x. OnlyPeers x e.unidirectional) (sym is) only)) in
    let a : AreEncoders (any_peer side) new = are_peers side new only' in
    let sight : IsSight (any_peer side) id new t = sight_after side id e new s c (sees (any_peer side) id e c) refl (each_step (any_peer side) id e s c b open_still a) in
    let agrees : Agrees T side t.fronts cs = agrees_step T side id e s c cs blind h in
    let setup = same_setup e c in (
      open_still,
      λ q role. (agrees q (a q role)).encoder (ap (λ f. f.role) (sym (sight.fronts q (a q role))) ∙ role),
      goes T side id new t cs (setup.side ∙ is) blind (before_next (any_peer side) id e new s t b setup.side open_still sight) only' agrees,
    ))

-- a list with no fault is all before the first one
all_more : (c : Call) (front : List Call) (closed : Option ℕ) → closed ≡ None → where_open closed (c ∷ front) ≡ c ∷ front
all_more c front (Some code) h = cc
all_more c front None h = refl

all_before : (e : EndpointHistory) (cs : List Call) → FindsNoFault e cs → before_first_fault e cs ≡ cs
all_before e [] p = refl
all_before e (c ∷ cs) p = all_more c (before_first_fault (called e c).1 cs) (called e c).1.closed p.0 ∙ ap (λ x. c ∷ x) (all_before (called e c).1 cs p.1)

test_of : (side : Side) (calls : List Call) (q : ℕ) → any_peer side q ≡ true → encoders_in side calls q ≡ is_encoder_type (varint_at (brought_on q calls))
test_of side calls q peer = ap (λ b. b && is_encoder_type (varint_at (brought_on q calls))) peer

first_and : (a b : Bool) → (a && b) ≡ true → a ≡ true
first_and true b h = refl
first_and false b h = h

pub encoders_are_peers : (side : Side) (calls : List Call) (q : ℕ) → encoders_in side calls q ≡ true → kind_of side q ≡ PeerUnidirectional
encoders_are_peers side calls q h = peer_kind (kind_of side q) (first_and (any_peer side q) (is_encoder_type (varint_at (brought_on q calls))) h)

pub goes_in_front : (side : Side) (own : Announced) (id : ℕ) (calls : List Call) → kind_of side id ≡ Request → GoesOn (encoders_in side calls) (new_endpoint side own) (front side own calls)
unfolding front_in is_role_encoder
goes_in_front side own id calls request =
    goes (encoders_in side calls) side id (new_endpoint side own) (first_sight side own) calls refl (ap is_peer request)
    (record { request = request; open_still = refl; peers = λ q h. peer_kind (kind_of side q) h; sight = record { incoming = refl; decoding = refl; fronts = λ q t. refl } })
    (λ q blind. refl)
    (λ q peer. record {
      encoder = λ x. absurd (true_not_false (sym (ap is_role_encoder x)));
      untold = λ fresh begun x. test_of side calls q peer ∙ ap (λ w. is_encoder_type (varint_at (w ++ brought_on q calls))) (ap front_in x);
    })

pub goes_from_new : (side : Side) (own : Announced) (id : ℕ) (calls : List Call) → kind_of side id ≡ Request → FindsNoFault (new_endpoint side own) calls → GoesOn (encoders_in side calls) (new_endpoint side own) calls
goes_from_new side own id calls request p = subst (GoesOn (encoders_in side calls) (new_endpoint side own)) (all_before (new_endpoint side own) calls p) (goes_in_front side own id calls request)
