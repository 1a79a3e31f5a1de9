-- A read of bytes that come is their delivery, that of the end where it stands behind them, and a pull.
use Rattle.std.proofs.Common.{arith, ◌≡◌, ◌≤◌, ◌<◌, inl, inr, ℕ, ◌+◌, Bool, true, false, if◌then◌else◌, List, [], ◌∷◌, ◌++◌, length, drop, take, refl, sym, ap, subst, ◌∙◌, Option, Some, None, Ok, Err, Result, append_assoc, length-take-le, take-append-drop, take_all}
use Rattle.std.specs.Prelude.{◌==◌, ◌&&◌, ◌^◌, nat_lt}
use Rattle.std.proofs.lemmas.Bool.{eqb-true}
use Rattle.std.proofs.lemmas.Grind.{common_steps}
use Rattle.h3_proto.specs.declared.stream.Side.{Side}
use Rattle.h3_proto.specs.declared.stream.Side.TheVariants.{Client, Server}
use Rattle.h3_connection.specs.Answers.{delivery_refused}
use Rattle.h3_connection.specs.Calls.{IsSame}
use Rattle.h3_connection.specs.Control.{Found}
use Rattle.h3_connection.specs.Delivering.{bytes_at, closed_by, delivery_refusal, kept, opened_at, taken}
use Rattle.h3_connection.specs.Endpoint.{EndpointHistory, Kind, kind_of}
use Rattle.h3_connection.specs.Endpoint.Kind.{Request, ServerOpened, OwnUnidirectional, PeerUnidirectional}
use Rattle.h3_connection.specs.Incoming.{Incoming}
use Rattle.h3_connection.specs.Keeping.{arrives, arrives_behind}
use Rattle.h3_connection.specs.OwnIds.{other}
use Rattle.h3_connection.specs.ReceivingContracts.{Delivers, DeliversEnd}
use Rattle.h3_connection.specs.Shown.{has_outgoing, is_finished, is_reset, waiting}
use Rattle.h3_connection.specs.Shutdown.{is_rejected_in}
use Rattle.h3_connection.specs.State.{EndpointState, StandsFor}
use Rattle.h3_connection.specs.StreamSets.{stream_at}
use Rattle.h3_connection.specs.declared.arrival.Arrival.{Arrival}
use Rattle.h3_connection.specs.declared.arrival.Arrival.TheVariants.{BytesCame}
use Rattle.h3_connection.specs.declared.event.DeliverError.{DeliverError}
use Rattle.h3_connection.specs.declared.event.DeliverError.TheVariants as deliver_error
use Rattle.h3_connection.specs.declared.event.Refusal.{Refusal}
use Rattle.h3_connection.specs.declared.event.Refusal.TheVariants as refusal
use Rattle.h3_connection.specs.declared.lists.ListItem.TheVariants as listed
use Rattle.h3_connection.specs.declared.lists.ListPull.{ListPull}
use Rattle.h3_connection.specs.declared.lists.ListPull.TheVariants as list
use Rattle.h3_incoming.specs.BodyPlaces.{front_to, piece_of}
use Rattle.h3_incoming.specs.declared.body_place.BodyPlace.{BodyPlace}
use Rattle.h3_world.specs.declared.event.Answer.{Answer}
use Rattle.h3_world.specs.declared.event.Answer.TheVariants as answer
use Rattle.h3_world.specs.declared.event.Event.{Event}
use Rattle.h3_world.specs.declared.event.Event.TheVariants as event
use Rattle.h3_session.specs.Acting.{PullsList}
use Rattle.h3_session.specs.ReadingBodies.{place_behind, place_next, place_of_kind, place_unless_closed}
use Rattle.h3_session.specs.Running.{answer_of, is_stored, told_answer}
use Rattle.h3_c.specs.Asked.{Tells as TellsAnswer}
use Rattle.h3_c.specs.Exported.{Pulls as PullsSo}
use Rattle.h3_c.specs.Numbers.{delivery_told}
use Rattle.h3_c.specs.Programs.{ComesOfRead, Handles, InPlace, Pulls, PullsEnd, Rejects, Stops, StopsEnd, bytes_answers, bytes_events, carrying}
use Rattle.h3_c.specs.Reads.ReadsCopied.{pulled as was_pulled, stopped as was_stopped, unended as was_unended}
use Rattle.h3_c.specs.Reads.{ReadsAt, ReadsCopied, ReadsOn, ReadsPlaced, TakesBytes, TakesEnd, ends_with, is_kept, taken_of}
use Rattle.h3_c.specs.Seen.{Seen}
use Rattle.h3_c.specs.declared.items.PulledItem.{PulledItem}
use Rattle.h3_c.specs.declared.numbers.Told.{Told}
use Rattle.h3_c.proofs.CarriedOver.{delivery_tells}
use Rattle.h3_c.proofs.ProgramCalls.{listed_pulls}
use Rattle.h3_c.proofs.ProgramGives.{HandsPiece, bytes_given, end_given, piece_given, rest_given}
use Rattle.h3_c.proofs.ProgramMoves.{ActsSo, Moves, StaysAt, StaysSo, ThenSo, stays_same}
use Rattle.h3_c.proofs.QuietCalls.{stands_unchanged}

-- The handles of the side from which bytes come, and of the other one.
abbrev pub pair : Side → Seen → Seen → (carried owed : Side → ℕ → List ℕ) → Handles
pair Client v r carried owed = record { client = v; server = r; carried = carried; owed = owed }
pair Server v r carried owed = record { client = r; server = v; carried = carried; owed = owed }

abbrev Carried : Type 0
Carried = Side → ℕ → List ℕ

abbrev pub StillSends : Seen → ℕ → Type 0
StillSends v id = (e : EndpointHistory) → StandsFor v.endpoint e → (has_outgoing e id ≡ true) × (is_reset e id ≡ false)

abbrev pub SentAll : Seen → ℕ → Type 0
SentAll v id = (e : EndpointHistory) → StandsFor v.endpoint e → (has_outgoing e id ≡ true) × (is_finished e id ≡ true) × (waiting e id ≡ 0)

bytes_move : (from : Side) (id : ℕ) (v r s : Seen) (c w : Carried) (bytes rest : List ℕ) (result : Result Unit DeliverError) → c from id ≡ bytes ++ rest → StillSends v id → Delivers r.endpoint s.endpoint id bytes result
    → Moves (pair from v r c w) (pair from v s (carrying c from id ((if is_stored result then [] else bytes) ++ rest)) w) (event.Deliver from id (length bytes) ∷ []) (answer_of (answer.Delivered (length bytes)) (delivery_refused result) ∷ [])
bytes_move Client id v r s c w bytes rest result is goes delivers = bytes_given (pair Client v r c w) s id Client bytes rest result is goes delivers
bytes_move Server id v r s c w bytes rest result is goes delivers = bytes_given (pair Server v r c w) s id Server bytes rest result is goes delivers

end_moves : (from : Side) (id : ℕ) (v r s : Seen) (c w : Carried) (result : Result Unit DeliverError) → c from id ≡ [] → SentAll v id → DeliversEnd r.endpoint s.endpoint id result
    → Moves (pair from v r c w) (pair from v s c w) (event.DeliverEnd from id ∷ []) (answer_of answer.Done (delivery_refused result) ∷ [])
end_moves Client id v r s c w result none ended delivers = end_given (pair Client v r c w) s id Client result none ended delivers
end_moves Server id v r s c w result none ended delivers = end_given (pair Server v r c w) s id Server result none ended delivers

pull_moves : (from : Side) (id : ℕ) (v r s : Seen) (c w : Carried) (l : ListPull) → PullsList r.endpoint s.endpoint id l → Moves (pair from v r c w) (pair from v s c w) (event.PullFields (other from) id ∷ []) (answer.Listed l ∷ [])
pull_moves Client id v r s c w l pulled = ActsSo tt tt tt (refl, refl) (record { result = l; given_is = refl; called = pulled }, refl)
pull_moves Server id v r s c w l pulled = ActsSo tt tt tt (refl, refl) (record { result = l; given_is = refl; called = pulled }, refl)

none_moves : (from : Side) (v r s : Seen) (c w : Carried) → StaysAt r s → Moves (pair from v r c w) (pair from v s c w) [] []
none_moves Client v r s c w there = StaysSo (stays_same v v refl) there (refl, refl)
none_moves Server v r s c w there = StaysSo there (stays_same v v refl) (refl, refl)

rest_moves : (from : Side) (id : ℕ) (v r : Seen) (c w : Carried) (bytes : List ℕ) → c from id ≡ bytes → Moves (pair from v r c w) (pair from v r (carrying c from id bytes) w) [] []
rest_moves Client id v r c w bytes is = rest_given (pair Client v r c w) Client id bytes is
rest_moves Server id v r c w bytes is = rest_given (pair Server v r c w) Server id bytes is

-- a handle with another endpoint
abbrev with_endpoint : Seen → EndpointState → Seen
with_endpoint r s = record r { endpoint = s }

-- cut in front of some of them
cut_behind : (k : ℕ) (bytes rest : List ℕ) → bytes ++ rest ≡ take k bytes ++ (drop k bytes ++ rest)
cut_behind k bytes rest = ap (λ l. l ++ rest) (sym (take-append-drop k bytes)) ∙ append_assoc (take k bytes) (drop k bytes) rest

positive : (n : ℕ) → (n == 0) ≡ false → 0 < n
positive n h = grind (arith, common_steps, h)

is_zero : (n : ℕ) → (n == 0) ≡ true → n ≡ 0
is_zero n h = grind (arith, common_steps, h)

delivers_some : (old new : EndpointState) (id : ℕ) (bytes : List ℕ) → 0 < length bytes → TakesBytes old new id bytes → Delivers old new id bytes (Ok tt)
delivers_some old new id [] some h = absurd (omega (arith, some))
delivers_some old new id (byte ∷ bytes) some h = h

-- the end stands behind all of the bytes
used_all : (fin used : ℕ) (bytes : List ℕ) → ends_with fin bytes used ≡ true → used ≡ length bytes
used_all fin used bytes h = eqb-true used (length bytes) (right (nat_lt 0 fin) (used == length bytes) h)
  where
    right : (a b : Bool) → (a && b) ≡ true → b ≡ true
    right true b h = h
    right false b h = absurd (let never : false ≡ true = h in cc)

-- what is carried of the stream then
pub carrying_here : (c : Side → ℕ → List ℕ) (from : Side) (id : ℕ) (bytes : List ℕ) → carrying c from id bytes from id ≡ bytes
carrying_here c Client id bytes = ap (λ b. if b then bytes else c Client id) (same_number id)
  where
    same_number : (i : ℕ) → (i == i) ≡ true
    same_number i = grind (arith, common_steps)
carrying_here c Server id bytes = ap (λ b. if b then bytes else c Server id) (same_number id)
  where
    same_number : (i : ℕ) → (i == i) ≡ true
    same_number i = grind (arith, common_steps)

-- What a read stands for, and what both handles are after it.
pub record ReadMade (from : Side) (id : ℕ) (bytes : List ℕ) (fin used : ℕ) (item : PulledItem) (n : Told) (v r s : Seen) (c w : Side → ℕ → List ℕ) (rest : List ℕ) : Type 0 where
  pub events : List Event
  pub answers : List Answer
  pub comes : ComesOfRead from id bytes fin used item n s events answers
  pub moves : Moves (pair from v r c w) (pair from v s (carrying c from id (drop used bytes ++ rest)) w) events answers

module _ (from : Side) (id : ℕ) (bytes : List ℕ) (fin used : ℕ) (item : PulledItem) (n : Told) (v r s : Seen) (c w : Side → ℕ → List ℕ) (rest : List ℕ) (first : c from id ≡ bytes ++ rest) (goes : StillSends v id) (ended : ends_with fin bytes used ≡ true → (drop used bytes ++ rest ≡ []) × SentAll v id) where
  abbrev Goal : Type 0
  Goal = ReadMade from id bytes fin used item n v r s c w rest

  abbrev left : Carried
  left = carrying c from id (drop used bytes ++ rest)

  -- nothing was used
  stays_there : used ≡ 0 → bytes ++ rest ≡ drop used bytes ++ rest
  stays_there none = ap (λ k. drop k bytes ++ rest) (sym none)

  -- what was used is delivered, where anything was
  bytes_part : (start mid : EndpointState) → used ≤ length bytes → (0 < length bytes → 0 < used) → TakesBytes start mid id (take used bytes)
      → Moves (pair from v (with_endpoint r start) c w) (pair from v (with_endpoint r mid) left w) (bytes_events from id used) (bytes_answers used)
  bytes_part start mid few some takes = by (used == 0) refl
    where
      by : (b : Bool) → (used == 0) ≡ b
          → Moves (pair from v (with_endpoint r start) c w) (pair from v (with_endpoint r mid) left w) (if used == 0 then [] else event.Deliver from id used ∷ []) (if used == 0 then [] else answer.Delivered used ∷ [])
      by true is =
          let none = is_zero used is in
          let same : mid ≡ start = subst (λ k. TakesBytes start mid id (take k bytes)) none takes in
          subst (λ b. Moves (pair from v (with_endpoint r start) c w) (pair from v (with_endpoint r mid) left w) (if b then [] else event.Deliver from id used ∷ []) (if b then [] else answer.Delivered used ∷ [])) (sym is)
          (subst (λ x. Moves (pair from v (with_endpoint r start) c w) (pair from v (with_endpoint r x) left w) [] []) (sym same) (rest_moves from id v (with_endpoint r start) c w (drop used bytes ++ rest) (first ∙ stays_there none)))
      by false is =
          let count = length-take-le used bytes few in
          let length_some = positive used is in
          let delivers = delivers_some start mid id (take used bytes) (omega (arith, count, length_some)) takes in
          subst (λ b. Moves (pair from v (with_endpoint r start) c w) (pair from v (with_endpoint r mid) left w) (if b then [] else event.Deliver from id used ∷ []) (if b then [] else answer.Delivered used ∷ [])) (sym is)
          (subst (λ k. Moves (pair from v (with_endpoint r start) c w) (pair from v (with_endpoint r mid) left w) (event.Deliver from id k ∷ []) (answer.Delivered k ∷ [])) count
          (bytes_move from id v (with_endpoint r start) (with_endpoint r mid) c w (take used bytes) (drop used bytes ++ rest) (Ok tt) (first ∙ cut_behind used bytes rest) goes delivers))

  -- the end
  none_left : ends_with fin bytes used ≡ true → left from id ≡ []
  none_left ends = carrying_here c from id (drop used bytes ++ rest) ∙ (ended ends).0

  -- a pull
  pulled_last : (ended_at : EndpointState) → PullsSo id n (with_endpoint r ended_at) s item → Moves (pair from v (with_endpoint r ended_at) left w) (pair from v s left w) (event.PullFields (other from) id ∷ []) (answer.Listed s.last ∷ [])
  pulled_last ended_at p = pull_moves from id v (with_endpoint r ended_at) s left w s.last (listed_pulls id n (with_endpoint r ended_at) s item p)

  -- where nothing changed before
  starts : (start : EndpointState) → IsSame r.endpoint start → Moves (pair from v r c w) (pair from v (with_endpoint r start) c w) [] []
  starts start same = none_moves from v r (with_endpoint r start) c w (λ e h. record { after = e; stands = stands_unchanged r.endpoint start e same h; same = refl })

  copied : (start : EndpointState) → IsSame r.endpoint start → (before : PulledItem) → ReadsCopied (with_endpoint r start) s id bytes fin n before item used → Goal
  copied start same before (was_pulled mid ended_at few some takes takes_end p) = by (ends_with fin bytes used) refl takes_end
    where
      by : (b : Bool) → ends_with fin bytes used ≡ b → TakesEnd b (length bytes == 0) mid ended_at id → Goal
      by false is unchanged =
          let last : PullsSo id n (with_endpoint r mid) s item = subst (λ x. PullsSo id n (with_endpoint r x) s item) unchanged p in
          record {
            events = bytes_events from id used ++ event.PullFields (other from) id ∷ [];
            answers = bytes_answers used ++ answer.Listed s.last ∷ [];
            comes = Pulls is p.done p.given_so;
            moves = ThenSo (starts start same) (ThenSo (bytes_part start mid few some takes) (pulled_last mid last));
          }
      by true is (inl delivers) = record {
        events = bytes_events from id used ++ event.DeliverEnd from id ∷ event.PullFields (other from) id ∷ [];
        answers = bytes_answers used ++ answer.Done ∷ answer.Listed s.last ∷ [];
        comes = PullsEnd answer.Done is (inl refl) p.done p.given_so;
        moves = ThenSo (starts start same) (ThenSo (bytes_part start mid few some takes) (ThenSo
            (end_moves from id v (with_endpoint r mid) (with_endpoint r ended_at) left w (Ok tt) (none_left is) (ended is).1 delivers) (pulled_last ended_at p)));
      }
      by true is (inr (alone, delivers)) = record {
        events = bytes_events from id used ++ event.DeliverEnd from id ∷ event.PullFields (other from) id ∷ [];
        answers = bytes_answers used ++ answer.Refused refusal.AfterEnd ∷ answer.Listed s.last ∷ [];
        comes = PullsEnd (answer.Refused refusal.AfterEnd) is (inr refl) p.done p.given_so;
        moves = ThenSo (starts start same) (ThenSo (bytes_part start mid few some takes) (ThenSo
            (end_moves from id v (with_endpoint r mid) (with_endpoint r ended_at) left w (Err (deliver_error.Refused refusal.AfterEnd)) (none_left is) (ended is).1 delivers)
            (pulled_last ended_at p)));
      }
  copied start same before (was_stopped count stop few told stops last events used_is given) = by stops.error stops.told stops.refused stops.taken
    where
      given_answer : DeliverError → Answer
      given_answer e = answer_of (answer.Delivered count) (delivery_refused {X = Unit {0}} (Err e))

      tells : (e : DeliverError) → stop.told ≡ delivery_told {X = Unit {0}} (Err e) → TellsAnswer (answer.Delivered count) n (given_answer e)
      tells e is = delivery_tells (answer.Delivered count) n (Err e) (refl, refl) (told ∙ is)

      -- so many bytes were offered
      offers : (e : DeliverError) → Delivers start s.endpoint id (take count bytes) (Err e)
          → Moves (pair from v (with_endpoint r start) c w) (pair from v s (carrying c from id ((if is_stored (Err e) then [] else take count bytes) ++ (drop count bytes ++ rest))) w) (event.Deliver from id count ∷ []) (given_answer e ∷ [])
      offers e refused =
          subst (λ k. Moves (pair from v (with_endpoint r start) c w) (pair from v s (carrying c from id ((if is_stored (Err e) then [] else take count bytes) ++ (drop count bytes ++ rest))) w) (event.Deliver from id k ∷ [])
          (answer_of (answer.Delivered k) (delivery_refused {X = Unit {0}} (Err e)) ∷ [])) (length-take-le count bytes few)
          (bytes_move from id v (with_endpoint r start) s c w (take count bytes) (drop count bytes ++ rest) (Err e) (first ∙ cut_behind count bytes rest) goes refused)

      ends_so : (e : DeliverError) → stop.told ≡ delivery_told {X = Unit {0}} (Err e) → Delivers start s.endpoint id (take count bytes) (Err e)
          → (if is_stored (Err e) then [] else take count bytes) ++ (drop count bytes ++ rest) ≡ drop used bytes ++ rest → Goal
      ends_so e is refused same_left = record {
        events = event.Deliver from id count ∷ [];
        answers = given_answer e ∷ [];
        comes = Stops (given_answer e) count few (tells e is);
        moves = ThenSo (starts start same) (subst (λ l. Moves (pair from v (with_endpoint r start) c w) (pair from v s (carrying c from id l) w) (event.Deliver from id count ∷ []) (given_answer e ∷ [])) same_left (offers e refused));
      }

      untaken : stop.is_taken ≡ false → take count bytes ++ (drop count bytes ++ rest) ≡ drop used bytes ++ rest
      untaken not = sym (cut_behind count bytes rest) ∙ stays_there (used_is ∙ ap (λ b. taken_of b count) not)

      by : (e : DeliverError) → stop.told ≡ delivery_told {X = Unit {0}} (Err e) → Delivers start s.endpoint id (take count bytes) (Err e) → stop.is_taken ≡ is_kept e → Goal
      by deliver_error.Kept is refused taken = ends_so deliver_error.Kept is refused (ap (λ k. drop k bytes ++ rest) (sym (used_is ∙ ap (λ b. taken_of b count) taken)))
      by (deliver_error.Refused why) is refused taken = ends_so (deliver_error.Refused why) is refused (untaken taken)
      by (deliver_error.OutOfMemory back) is refused taken = ends_so (deliver_error.OutOfMemory back) is refused (untaken taken)
  copied start same before (was_unended mid ends takes refuses last events given) =
      let all = used_all fin used bytes ends in
      let took : TakesBytes start mid id (take used bytes) = subst (TakesBytes start mid id) (sym (ap (λ k. take k bytes) all ∙ take_all (length bytes) bytes (omega arith))) takes in
      let a = told_answer (Err refuses.0) in
      record {
        events = bytes_events from id used ++ event.DeliverEnd from id ∷ [];
        answers = bytes_answers used ++ a ∷ [];
        comes = StopsEnd a ends (delivery_tells answer.Done n (Err refuses.0) (refl, refl) refuses.1);
        moves = ThenSo (starts start same) (ThenSo (bytes_part start mid (omega (arith, all)) (λ some. omega (arith, all, some)) took)
            (end_moves from id v (with_endpoint r mid) s left w (Err refuses.0) (none_left ends) (ended ends).1 refuses.2));
      }

-- A piece of a body lies in the bytes where nothing is kept, on a request stream.
behind_none : (kept : List Arrival) (e : EndpointHistory) (id : ℕ) (bytes : List ℕ) (p : BodyPlace) → place_behind kept e id bytes ≡ Some p → (kept ≡ []) × (place_of_kind e id bytes (kind_of e.side id) ≡ Some p)
behind_none [] e id bytes p is = (refl, is)
behind_none (k ∷ kept) e id bytes p is = absurd (let never : None ≡ Some p = is in cc)

open_place : (closed : Option ℕ) (e : EndpointHistory) (id : ℕ) (bytes : List ℕ) (p : BodyPlace) → place_unless_closed closed e id bytes ≡ Some p → place_behind e.kept e id bytes ≡ Some p
open_place None e id bytes p is = is
open_place (Some code) e id bytes p is = absurd (let never : None ≡ Some p = is in cc)

request_place : (e : EndpointHistory) (id : ℕ) (bytes : List ℕ) (p : BodyPlace) (k : Kind) → place_of_kind e id bytes k ≡ Some p → k ≡ Request
request_place e id bytes p Request is = refl
request_place e id bytes p ServerOpened is = absurd (let never : None ≡ Some p = is in cc)
request_place e id bytes p OwnUnidirectional is = absurd (let never : None ≡ Some p = is in cc)
request_place e id bytes p PeerUnidirectional is = absurd (let never : None ≡ Some p = is in cc)

opened_kept : (e : EndpointHistory) (id : ℕ) (i : Option Incoming) → (opened_at e id i).kept ≡ e.kept
opened_kept e id None = refl
opened_kept e id (Some i) = refl

closed_kept : (found : Found) → (closed_by found).1.kept ≡ found.0.kept
closed_kept (e, None) = refl
closed_kept (e, Some code) = refl

taken_kept : (closed : Option ℕ) (o : Option Refusal) (e : EndpointHistory) (found : Found) → found.0.kept ≡ e.kept → (taken closed o e found).1.kept ≡ e.kept
taken_kept (Some code) o e found is = refl
taken_kept None (Some r) e found is = refl
taken_kept None None e found is = closed_kept found ∙ is

came_kept : (e : EndpointHistory) (id : ℕ) (bytes : List ℕ) → e.kept ≡ [] → kind_of e.side id ≡ Request → (arrives e (BytesCame id bytes)).1.kept ≡ []
came_kept e id bytes none kind =
    let found_is : (bytes_at e id bytes (kind_of e.side id)).0.kept ≡ e.kept = ap (λ k. (bytes_at e id bytes k).0.kept) kind ∙ opened_kept e id (stream_at e.incoming id) in
    ap (λ l. (arrives_behind l e (BytesCame id bytes)).1.kept) none ∙ taken_kept e.closed (delivery_refusal e id) e (bytes_at e id bytes (kind_of e.side id)) found_is ∙ none

pieces_move : (from : Side) (id used : ℕ) (bytes rest front piece : List ℕ) (v r s : Seen) (c w : Carried) → c from id ≡ bytes ++ rest → front ≡ take used bytes → used ≤ length bytes → StillSends v id
    → ((e : EndpointHistory) → StandsFor r.endpoint e → HandsPiece s.endpoint id front piece e)
    → Moves (pair from v r c w) (pair from v s (carrying c from id (drop used bytes ++ rest)) w) (event.Deliver from id used ∷ event.PullFields (other from) id ∷ []) (answer.Delivered used ∷ answer.Listed (list.Item (listed.Body piece)) ∷ [])
pieces_move from id used bytes rest front piece v r s c w first is few goes hands =
    let count = ap (λ l. length l) is ∙ length-take-le used bytes few in
    subst (λ k. Moves (pair from v r c w) (pair from v s (carrying c from id (drop used bytes ++ rest)) w) (event.Deliver from id k ∷ event.PullFields (other from) id ∷ []) (answer.Delivered k ∷ answer.Listed (list.Item (listed.Body piece)) ∷ [])) count
    (by from (first ∙ cut_behind used bytes rest ∙ ap (λ l. l ++ (drop used bytes ++ rest)) (sym is)))
  where
    by : (side : Side) → c side id ≡ front ++ (drop used bytes ++ rest)
        → Moves (pair side v r c w) (pair side v s (carrying c side id (drop used bytes ++ rest)) w) (event.Deliver side id (length front) ∷ event.PullFields (other side) id ∷ []) (answer.Delivered (length front) ∷ answer.Listed (list.Item (listed.Body piece)) ∷ [])
    by Client at = piece_given (pair Client v r c w) s id Client front (drop used bytes ++ rest) piece at goes hands
    by Server at = piece_given (pair Server v r c w) s id Server front (drop used bytes ++ rest) piece at goes hands

-- **So is each read.**
pub read_made : (from : Side) (id : ℕ) (bytes : List ℕ) (fin used : ℕ) (before item : PulledItem) (n : Told) (v r s : Seen) (c w : Side → ℕ → List ℕ) (rest : List ℕ) → id < 2 ^ 62 → c from id ≡ bytes ++ rest → StillSends v id
    → (ends_with fin bytes used ≡ true → (drop used bytes ++ rest ≡ []) × SentAll v id) → ReadsOn r s id bytes fin n before item used → ReadMade from id bytes fin used item n v r s c w rest
read_made from id bytes fin used before item n v r s c w rest known first goes ended reads_on = by (is_rejected_in r.endpoint id) refl
  where
    placed : (p : BodyPlace) → ((e : EndpointHistory) → StandsFor r.endpoint e → Some p ≡ place_next e id bytes) → ReadsPlaced r s id bytes p n item used → ReadMade from id bytes fin used item n v r s c w rest
    placed p is_next x =
        let few : used ≤ length bytes = subst (λ k. k ≤ length bytes) (sym x.used_is) x.reads.within in
        let same : take used bytes ≡ front_to p bytes = ap (λ k. take k bytes) x.used_is in
        record {
          events = event.Deliver from id used ∷ event.PullFields (other from) id ∷ [];
          answers = answer.Delivered used ∷ answer.Listed (list.Item (listed.Body (piece_of p bytes))) ∷ [];
          comes = InPlace p x.done x.given_so;
          moves = pieces_move from id used bytes rest (front_to p bytes) (piece_of p bytes) v r s c w first (sym same) few goes (λ e h.
              let behind = behind_none e.kept e id bytes p (open_place e.closed e id bytes p (sym (is_next e h))) in
              record { accepted = x.reads.accepted e h; kept = came_kept e id (front_to p bytes) behind.0 (request_place e id bytes p (kind_of e.side id) behind.1); pulled = x.reads.pulled e h; stands = x.reads.stands e h });
        }

    at : (place : Option BodyPlace) → ((e : EndpointHistory) → StandsFor r.endpoint e → place ≡ place_next e id bytes) → ReadsAt place r s id bytes fin n before item used → ReadMade from id bytes fin used item n v r s c w rest
    at (Some p) is_next x = placed p is_next x
    at None is_next x = copied from id bytes fin used item n v r s c w rest first goes ended x.start x.same before x.reads

    by : (b : Bool) → is_rejected_in r.endpoint id ≡ b → ReadMade from id bytes fin used item n v r s c w rest
    by true is =
        let rejects = (reads_on.reads.known known).refused is in
        let none : used ≡ 0 = (reads_on.rejected known is).1 in
        record {
          events = [];
          answers = [];
          comes = Rejects rejects.0;
          moves = ThenSo (none_moves from v r s c w (stays_same r s rejects.1)) (rest_moves from id v s c w (drop used bytes ++ rest) (first ∙ ap (λ k. drop k bytes ++ rest) (sym none)));
        }
    by false is = let reads = (reads_on.reads.known known).taken is in at reads.place reads.is_next reads.reads
