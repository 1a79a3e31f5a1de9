-- What comes at an end that keeps something is read behind all of that.
use Rattle.std.proofs.Common.{◌≡◌, ℕ, Bool, true, false, if◌then◌else◌, List, [], ◌∷◌, ◌++◌, refl, sym, ap, ◌∙◌, Option, Some, None}
use Rattle.h3_proto.specs.declared.stream.Side.{Side}
use Rattle.h3_proto.specs.declared.stream.Side.TheVariants.{Client, Server}
use Rattle.h3_connection.specs.Arrivals.{is_closed_in, stream_of}
use Rattle.h3_connection.specs.Control.{Found}
use Rattle.h3_connection.specs.Delivering.{closed_by, delivery_refusal, refusal_at, request_refusal, server_opened_refusal, taken}
use Rattle.h3_connection.specs.Endpoint.{EndpointHistory, Kind}
use Rattle.h3_connection.specs.Endpoint.Kind.{OwnUnidirectional, PeerUnidirectional, Request, ServerOpened}
use Rattle.h3_connection.specs.Incoming.{Incoming}
use Rattle.h3_connection.specs.Keeping.{arrival_refusal, arrives, arrives_behind, read_all, read_arrival, refused_behind, unkept, unless_faulty}
use Rattle.h3_connection.specs.declared.arrival.Arrival.{Arrival}
use Rattle.h3_connection.specs.declared.event.Refusal.{Refusal}
use Rattle.h3_connection.specs.declared.event.Refusal.TheVariants as refusal
use Rattle.h3_world.specs.Headline.{is_connection_fault}
use Rattle.h3_world.specs.declared.event.Answer.TheVariants as answer

-- it is refused by a fault of the connection
abbrev pub connects : Option Refusal → Bool
connects None = false
connects (Some r) = is_connection_fault (answer.Refused r)

-- Why a delivery is refused before anything of it is taken is no such fault.
if_connects : (b : Bool) (r : Refusal) (later : Option Refusal) → is_connection_fault (answer.Refused r) ≡ false → connects later ≡ false → connects (if b then Some r else later) ≡ false
if_connects true r later h k = h
if_connects false r later h k = k

request_calm : (side : Side) (o : Option Incoming) → connects (request_refusal side o) ≡ false
request_calm Client None = refl
request_calm Server None = refl
request_calm Client (Some i) = if_connects _ refusal.AfterEnd None refl refl
request_calm Server (Some i) = if_connects _ refusal.AfterEnd None refl refl

delivery_calm : (e : EndpointHistory) (id : ℕ) (k : Kind) → connects (refusal_at e id k) ≡ false
delivery_calm e id Request = request_calm e.side _
delivery_calm e id ServerOpened = by_side e.side
  where
    by_side : (side : Side) → connects (server_opened_refusal side) ≡ false
    by_side Client = refl
    by_side Server = refl
delivery_calm e id OwnUnidirectional = refl
delivery_calm e id PeerUnidirectional = if_connects _ refusal.AfterEnd None refl refl

behind_calm : (closed : Bool) (r : Option Refusal) → connects r ≡ false → connects (refused_behind closed r) ≡ false
behind_calm closed (Some r) h = h
behind_calm true None h = refl
behind_calm false None h = refl

refusal_calm : (e : EndpointHistory) (id : ℕ) → connects (arrival_refusal e id) ≡ false
refusal_calm e id = behind_calm (is_closed_in e.kept id) (delivery_refusal e id) (delivery_calm e id _)

-- One arrival behind others.
just_one : (x : Found) → unless_faulty (read_all []) x ≡ x
just_one (f, None) = refl
just_one (f, Some code) = refl

read_last : (l : List Arrival) (a : Arrival) (x : EndpointHistory) → read_all (l ++ a ∷ []) x ≡ unless_faulty (λ f. read_arrival f a) (read_all l x)
read_last [] a x = just_one (read_arrival x a)
read_last (k ∷ l) a x = by_first (read_arrival x k) (λ f. read_last l a f)
  where
    by_first : (y : Found) → ((f : EndpointHistory) → read_all (l ++ a ∷ []) f ≡ unless_faulty (λ f. read_arrival f a) (read_all l f)) → unless_faulty (read_all (l ++ a ∷ [])) y ≡ unless_faulty (λ f. read_arrival f a) (unless_faulty (read_all l) y)
    by_first (f, None) later = later f
    by_first (f, Some code) later = refl

reads_last : (e next : EndpointHistory) (a : Arrival) → read_all e.kept (unkept e) ≡ (next, None) → read_all (e.kept ++ a ∷ []) (unkept e) ≡ read_arrival next a
reads_last e next a reads = read_last e.kept a (unkept e) ∙ ap (unless_faulty (λ f. read_arrival f a)) reads

unrefused : (r : Option Refusal) → r ≡ refused_behind false r
unrefused None = refl
unrefused (Some r) = refl

arrives_is : (e : EndpointHistory) (a : Arrival) → arrives e a ≡ taken e.closed (arrival_refusal e (stream_of a)) e (read_all (e.kept ++ a ∷ []) (unkept e))
arrives_is e a = by_kept e.kept refl
  where
    by_kept : (l : List Arrival) → e.kept ≡ l → arrives_behind l e a ≡ taken e.closed (arrival_refusal e (stream_of a)) e (read_all (e.kept ++ a ∷ []) (unkept e))
    by_kept [] is =
        ap (λ r. taken e.closed r e (read_arrival e a)) (unrefused (delivery_refusal e (stream_of a)) ∙ ap (λ l. refused_behind (is_closed_in l (stream_of a)) (delivery_refusal e (stream_of a))) (sym is))
        ∙ ap (taken e.closed (arrival_refusal e (stream_of a)) e) (sym (ap (λ l. read_all (l ++ a ∷ []) (unkept e)) is ∙ just_one (read_arrival (unkept e) a) ∙ ap (λ l. read_arrival (record e { kept = l }) a) (sym is)))
    by_kept (k ∷ kept) is = ap (λ l. taken e.closed (arrival_refusal e (stream_of a)) e (read_all (l ++ a ∷ []) (unkept e))) (sym is)

closed_calm : (x : Found) → x.1 ≡ None → connects (closed_by x).0 ≡ false
closed_calm (f, None) h = refl
closed_calm (f, Some code) h = cc

calm_none : (x : Found) → connects (closed_by x).0 ≡ false → x.1 ≡ None
calm_none (f, None) h = refl
calm_none (f, Some code) h = absurd (cc)

-- It finds no fault of the connection if it is read without one behind what is kept,
pub arrives_calm : (e next : EndpointHistory) (a : Arrival) → e.closed ≡ None → read_all e.kept (unkept e) ≡ (next, None) → (arrival_refusal e (stream_of a) ≡ None → (read_arrival next a).1 ≡ None) → connects (arrives e a).0 ≡ false
arrives_calm e next a open_still reads calm =
    ap (λ (x : Option Refusal × EndpointHistory). connects x.0) (arrives_is e a ∙ ap (λ c. taken c (arrival_refusal e (stream_of a)) e (read_all (e.kept ++ a ∷ []) (unkept e))) open_still) ∙ by_refusal (arrival_refusal e (stream_of a)) refl
  where
    by_refusal : (r : Option Refusal) → arrival_refusal e (stream_of a) ≡ r → connects (taken None r e (read_all (e.kept ++ a ∷ []) (unkept e))).0 ≡ false
    by_refusal None is = closed_calm (read_all (e.kept ++ a ∷ []) (unkept e)) (ap (λ (x : Found). x.1) (reads_last e next a reads) ∙ calm is)
    by_refusal (Some r) is = ap connects (sym is) ∙ refusal_calm e (stream_of a)

-- and only then.
pub calm_arrives : (e next : EndpointHistory) (a : Arrival) → e.closed ≡ None → read_all e.kept (unkept e) ≡ (next, None) → arrival_refusal e (stream_of a) ≡ None → connects (arrives e a).0 ≡ false → (read_arrival next a).1 ≡ None
calm_arrives e next a open_still reads accepted calm =
    ap (λ (x : Found). x.1) (sym (reads_last e next a reads))
    ∙ calm_none (read_all (e.kept ++ a ∷ []) (unkept e))
    (sym (ap (λ (x : Option Refusal × EndpointHistory). connects x.0)
    (arrives_is e a ∙ ap (λ c. taken c (arrival_refusal e (stream_of a)) e (read_all (e.kept ++ a ∷ []) (unkept e))) open_still ∙ ap (λ r. taken None r e (read_all (e.kept ++ a ∷ []) (unkept e))) accepted)) ∙ calm)
