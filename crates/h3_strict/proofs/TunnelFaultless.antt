-- A pull that judges a message finds no fault of the connection, where no pull of a receiver finds one.
use Rattle.std.proofs.Common.{◌≡◌, ℕ, Bool, true, false, List, [], refl, sym, ap, ◌∙◌, Option, Some, None, if◌then◌else◌}
use Rattle.std.specs.Prelude.{nat_lt, ◌||◌}
use Rattle.h3_field.specs.Field.{Field}
use Rattle.h3_proto.specs.declared.stream.Side.{Side}
use Rattle.h3_proto.specs.declared.stream.Side.TheVariants.{Client, Server}
use Rattle.h3_connection.specs.Endpoint.{EndpointHistory, Kind, heads_waiting, kind_of}
use Rattle.h3_connection.specs.Endpoint.Kind.{OwnUnidirectional, PeerUnidirectional, Request, ServerOpened}
use Rattle.h3_connection.specs.Incoming.{Incoming}
use Rattle.h3_connection.specs.Keeping.{pulls, read_all, unkept}
use Rattle.h3_connection.specs.Pulling.{Pulled, is_client, pull_stream}
use Rattle.h3_connection.specs.Sending.{if_too_many, pull_at, pull_request, pulled}
use Rattle.h3_connection.specs.StreamSets.{set_stream, stream_at}
use Rattle.h3_connection.specs.declared.event.Fault.{Fault}
use Rattle.h3_connection.specs.declared.event.Fault.TheVariants as fault
use Rattle.h3_connection.specs.declared.event.Item.TheVariants as item
use Rattle.h3_connection.specs.declared.event.Pull.{Pull}
use Rattle.h3_connection.specs.declared.event.Pull.TheVariants as pull
use Rattle.h3_connection.specs.Lists.{listed_pull, pull_of}
use Rattle.h3_world.specs.Ends.{Ends, end_at}
use Rattle.h3_world.specs.Headline.{is_connection_fault}
use Rattle.h3_world.specs.Setup.{Setup, announced_at}
use Rattle.h3_world.specs.World.{World}
use Rattle.h3_world.specs.declared.event.Answer.{Answer}
use Rattle.h3_world.specs.declared.event.Answer.TheVariants as answer
use Rattle.h3_world.specs.declared.event.Event.{Event}
use Rattle.h3_world.specs.declared.event.Event.TheVariants as event
use Rattle.h3_strict.proofs.PulledTallies.{answer_is}
use Rattle.h3_strict.proofs.TunnelFaults.{ends_all}
use Rattle.h3_strict.proofs.BehindPulls.{is_item}
use Rattle.h3_strict.proofs.TunnelPull.{pulls_here, pulls_so}
use Rattle.h3_strict.proofs.TunnelSees.{Sees}
use Rattle.h3_strict.specs.PlainEnds.{asks_strictly, finds_fault, judges}
use Rattle.h3_strict.specs.Plainly.{exceeds, judged_as, judged_open}

pub clash : {X : Type 0} → (b : Bool) → b ≡ true → b ≡ false → X
clash b h k = absurd (let never : true ≡ false = sym h ∙ k in cc)

-- a pull that finds a message malformed and ends nothing
ends_none : (p : Pull) → ends_all p ≡ false → is_connection_fault (answer.Pulled p) ≡ false
ends_none (pull.Fault (fault.Connection code)) h = absurd (cc)
ends_none (pull.Fault (fault.Stream why)) h = refl
ends_none (pull.Fault fault.Memory) h = refl
ends_none (pull.Item i) h = refl
ends_none pull.Pending h = refl
ends_none (pull.Waiting count) h = refl
ends_none pull.NoMessages h = refl

-- that too many streams wait is no fault of a message
too_many_finds : (strict : Bool) (p : Pulled) (e : EndpointHistory) (id : ℕ) → finds_fault strict (answer.Pulled (pulled e id (if_too_many true p)).0) ≡ false
too_many_finds true p e id = refl
too_many_finds false p e id = refl

pub items_same : (o : Option (List Field)) (p : Pull) → is_item (pull_of (listed_pull o p)) ≡ is_item p
items_same o (pull.Item (item.Interim head)) = refl
items_same o (pull.Item (item.Head head)) = refl
items_same o (pull.Item (item.Body bytes)) = refl
items_same o (pull.Item (item.Trailer head)) = refl
items_same o (pull.Item (item.TooLarge size)) = refl
items_same o (pull.Item (item.Session session)) = refl
items_same o (pull.Item (item.Raw bytes)) = refl
items_same o (pull.Item item.End) = refl
items_same o pull.Pending = refl
items_same o (pull.Waiting count) = refl
items_same o (pull.Fault fault) = refl
items_same o pull.NoMessages = refl

-- What each pull of a receiver is.
abbrev pub PullsSafely : Ends → Type 0
PullsSafely ends = (side : Side) (id : ℕ) (i : Incoming) → stream_at (end_at ends side).incoming id ≡ Some i → ends_all (pull_stream (end_at ends side).side (end_at ends side).announced id (end_at ends side).decoding.decoder i).answer ≡ false

-- What is pulled if the pull judges, and its side keeps nothing.
module _ (setup : Setup) (w : World) (ends : Ends) (sees : Sees setup w ends) (told_of : (side : Side) → (end_at ends side).announced ≡ announced_at setup side) (safely : PullsSafely ends) (side : Side) (id : ℕ) (kept : (end_at ends side).kept ≡ []) where
  pub judged_faultless : judges ends (event.Pull side id) ≡ true → finds_fault (asks_strictly ends) (answer.Pulled (pulls (end_at ends side) id).0) ≡ true → is_connection_fault (answer.Pulled (pulls (end_at ends side) id).0) ≡ false
  judged_faultless judged told = by_kind (kind_of (end_at ends side).side id) refl is_judged
    where
      e : EndpointHistory
      e = end_at ends side

      is_judged : judged_as (unkept (end_at ends side)) id (kind_of (end_at ends side).side id) ≡ true
      is_judged =
          ap (λ c. judged_open c (unkept (end_at ends side)) id) (sym (sees.closed side))
          ∙ ap (λ k. exceeds (end_at ends side) (read_all k (unkept (end_at ends side))).1 || judged_open (end_at ends side).closed (read_all k (unkept (end_at ends side))).0 id) (sym kept) ∙ judged

      by_stream : (o : Option Incoming) → stream_at (end_at ends side).incoming id ≡ o → kind_of (end_at ends side).side id ≡ Request → is_connection_fault (answer.Pulled (pulls (end_at ends side) id).0) ≡ false
      by_stream None none kind =
          ap (λ (z : Pull × EndpointHistory). is_connection_fault (answer.Pulled z.0)) (pulls_so setup w ends sees told_of side id kept ∙ ap (pull_at (end_at ends side) id) kind ∙ ap (pull_request (end_at ends side) id) none)
          ∙ by_side (end_at ends side)
        where
          by_side : (x : EndpointHistory) → is_connection_fault (answer.Pulled (pull_request x id None).0) ≡ false
          by_side x = of x.side
            where
              of : (s : Side) → is_connection_fault (answer.Pulled (if is_client s then pull.NoMessages else pull.Pending)) ≡ false
              of Client = refl
              of Server = refl
      by_stream (Some i) here kind = by_many many refl
        where
          given : Pulled
          given = pull_stream (end_at ends side).side (end_at ends side).announced id (end_at ends side).decoding.decoder i

          many : Bool
          many = nat_lt (end_at ends side).announced.limits.blocked (heads_waiting (end_at ends side).decoding.decoder (set_stream (end_at ends side).incoming id (pull_stream (end_at ends side).side (end_at ends side).announced id (end_at ends side).decoding.decoder i).incoming))

          is_pulled : (b : Bool) → many ≡ b → pulls (end_at ends side) id ≡ pulled (end_at ends side) id (if_too_many b given)
          is_pulled b k = pulls_here setup w ends sees told_of side id i here kept ∙ ap (λ c. pulled (end_at ends side) id (if_too_many c given)) k

          by_many : (b : Bool) → many ≡ b → is_connection_fault (answer.Pulled (pulls (end_at ends side) id).0) ≡ false
          by_many true k =
              clash (finds_fault (asks_strictly ends) (answer.Pulled (pulls (end_at ends side) id).0)) told
              (ap (λ (z : Pull × EndpointHistory). finds_fault (asks_strictly ends) (answer.Pulled z.0)) (is_pulled true k) ∙ too_many_finds (asks_strictly ends) given (end_at ends side) id)
          by_many false k =
              ap (λ (z : Pull × EndpointHistory). is_connection_fault (answer.Pulled z.0)) (is_pulled false k) ∙ ap (λ a. is_connection_fault (answer.Pulled a)) (answer_is given.answer _)
              ∙ ends_none given.answer (safely side id i here)

      by_kind : (k : Kind) → kind_of (end_at ends side).side id ≡ k → judged_as (unkept (end_at ends side)) id (kind_of (end_at ends side).side id) ≡ true → is_connection_fault (answer.Pulled (pulls (end_at ends side) id).0) ≡ false
      by_kind Request is j = by_stream (stream_at (end_at ends side).incoming id) refl is
      by_kind ServerOpened is j = absurd (let never : false ≡ true = ap (judged_as (unkept (end_at ends side)) id) (sym is) ∙ j in cc)
      by_kind OwnUnidirectional is j = absurd (let never : false ≡ true = ap (judged_as (unkept (end_at ends side)) id) (sym is) ∙ j in cc)
      by_kind PeerUnidirectional is j = absurd (let never : false ≡ true = ap (judged_as (unkept (end_at ends side)) id) (sym is) ∙ j in cc)
