-- Over a whole run, what is handed out of a flow is a front of what is sent on it.
use Rattle.std.proofs.Common.{ℕ, List, false, [], refl, ◌∷◌, sym, subst, ◌≡◌, ap, ap₂, Bool, true, None, ◌∙◌, arith}
use Rattle.h3_proto.specs.declared.stream.Side.{Side}
use Rattle.h3_world.specs.declared.event.Event.{Event}
use Rattle.h3_world.specs.declared.event.Answer.{Answer}
use Rattle.h3_world.specs.Sound.{IsSoundWorld}
use Rattle.h3_world.specs.World.{World, no_exchange, empty_world}
use Rattle.h3_world.specs.Flow.{Flow, unused}
use Rattle.std.specs.List.{AllByRecursion}
use Rattle.h3_connection.specs.OwnIds.{other}
use Rattle.h3_world.specs.Headline.{Happens}
use Rattle.h3_world.specs.Run.{Run}
use Rattle.h3_world.specs.Sendable.{IsSendable}
use Rattle.h3_world.specs.Streams.{flow}
use Rattle.h3_proto.specs.StreamIds.{is_request_stream}
use Rattle.h3_proto.specs.declared.stream.Side.TheVariants.{Client, Server}
use Rattle.std.specs.Prelude.{map}
use Rattle.h3_connection.specs.Announcing.{section_of}
use Rattle.h3_world.specs.Setup.{Setup, announced_at}
use Rattle.h3_world.specs.Order.{next_part}
use Rattle.h3_headline.specs.Cited.{WorldLaws}
use Rattle.h3_headline.specs.ContentLaws.{moves_then, stays}
use Rattle.h3_headline.specs.Contents.{Carried, Carries, IsAll, Moves, RunMoves, reader_of}
use Rattle.h3_headline.specs.FlowLaws.{other-other, same_both}
use Rattle.h3_header.specs.Head.{head_fields}
use Rattle.h3_header.specs.Reads.{head_of_fields}
use Rattle.h3_world.specs.ListLaws.{read_flagged}
use Rattle.h3_headline.specs.Messages.MessageContent.{Byte, FieldSection, Foreign, TooLarge}
use Rattle.h3_headline.specs.Exactly.{IsReadBack, IsAllOf, IsExactly, IsTakenWhole, Reader, header_of, reader_at}
use Rattle.h3_headline.specs.Messages.{IsFrontOf, MessageContent, ended_in, finished_in, has_finished, has_pulled_end, pulled, pulled_in, sent, sent_in}
use Rattle.h3_headline.specs.MovedLaws.{moved}
use Rattle.h3_headline.specs.ReadBackLaws.{all_read_back}
use Rattle.h3_headline.specs.PulledAndSentLaws.{differ, is_all, is_complete, is_front}

-- and it keeps the world sound
pub record Ran (setup : Setup) (w new : World) (events : List Event) (answers : List Answer) (writer : Side) (id : ℕ) : Type 0 where
  pub moves : RunMoves setup w new events answers writer id
  pub sound : IsSoundWorld setup new

nothing : (r : Reader) (f : Flow) → Moves r f f [] false [] false
nothing r f = stays r f f false (record { sent = refl; parts_out = refl; body_out = refl }) (λ e. absurd (differ e))

pub run_moves : (laws : WorldLaws) (setup : Setup) (w new : World) (events : List Event) (answers : List Answer) (writer : Side) (id : ℕ) → AllByRecursion (IsSendable setup) events → IsSoundWorld setup w
    → Run (Happens setup) w events answers new → Ran setup w new events answers writer id
run_moves laws setup w new [] [] writer id sendable h run =
    subst (λ v. Ran setup w v [] [] writer id) (sym run) (record { moves = nothing (reader_of setup writer) (flow w writer id); sound = h })
run_moves laws setup w new (e ∷ es) (a ∷ later) writer id sendable h run =
    let mid = run.0 in
    let first = moved setup w mid e a writer id h run.1.step in
    let sound = (laws.both setup w mid e a sendable.0 run.1.step run.1.exact h).1 in
    let rest = run_moves laws setup mid new es later writer id sendable.1 sound run.2 in
    record {
      moves = moves_then (reader_of setup writer) (flow w writer id) (flow mid writer id) (flow new writer id) (sent_in writer id e a) (sent writer id es later) (finished_in writer id e a) (has_finished writer id es later)
          (pulled_in (other writer) id e a) (pulled (other writer) id es later) (ended_in (other writer) id e a) (has_pulled_end (other writer) id es later) first rest.moves;
      sound = rest.sound;
    }
run_moves laws setup w new [] (a ∷ later) writer id sendable h run = absurd run
run_moves laws setup w new (e ∷ es) [] writer id sendable h run = absurd run

-- before anything, each flow is unused
nothing_yet : (setup : Setup) (writer : Side) (id : ℕ) → flow (empty_world setup) writer id ≡ unused
nothing_yet setup Client id = ap (λ e. e.request) (same_both (is_request_stream id) no_exchange no_exchange (λ e. refl))
nothing_yet setup Server id = ap (λ e. e.response) (same_both (is_request_stream id) no_exchange no_exchange (λ e. refl))

carries : (r : Reader) (f g : Flow) (sending : List MessageContent) (finishing : Bool) (handing : List MessageContent) (ending : Bool) → f ≡ unused → Moves r f g sending finishing handing ending
    → Carries r g sending finishing handing ending
carries r f g sending finishing handing ending none m =
    let n = subst (λ x. Moves r x g sending finishing handing ending) none m in
    record { sent_is = n.sent_is; end_is = n.end_is; handed_is = subst (IsAllOf (IsExactly r) handing) (sym n.hands.more) n.hands.is; over_is = n.over_is }

pub run_carries : (laws : WorldLaws) (setup : Setup) (w : World) (events : List Event) (answers : List Answer) (writer : Side) (id : ℕ) → AllByRecursion (IsSendable setup) events
    → Run (Happens setup) (empty_world setup) events answers w → Carried setup w events answers writer id
run_carries laws setup w events answers writer id sendable run =
    let r = run_moves laws setup (empty_world setup) w events answers writer id sendable (laws.begins setup) run in
    record {
      carried = carries (reader_of setup writer) (flow (empty_world setup) writer id) (flow w writer id) (sent writer id events answers) (has_finished writer id events answers)
          (pulled (other writer) id events answers) (has_pulled_end (other writer) id events answers) (nothing_yet setup writer id) r.moves;
      sound = r.sound;
    }

pub run_sound : (laws : WorldLaws) (setup : Setup) (w : World) (events : List Event) (answers : List Answer) → AllByRecursion (IsSendable setup) events → Run (Happens setup) (empty_world setup) events answers w → IsSoundWorld setup w
run_sound laws setup w events answers sendable run = (run_carries laws setup w events answers Client 0 sendable run).sound

-- who writes to the other side is read by this one
reads_it : (setup : Setup) (side : Side) → reader_of setup (other side) ≡ reader_at setup side
reads_it setup Client = refl
reads_it setup Server = refl

-- The same for a reader.
pub front_at : (laws : WorldLaws) (setup : Setup) (events : List Event) (answers : List Answer) (w : World) (side : Side) (id : ℕ) → AllByRecursion (IsSendable setup) events → Run (Happens setup) (empty_world setup) events answers w
    → IsFrontOf (IsExactly (reader_at setup side)) (pulled side id events answers) (sent (other side) id events answers)
front_at laws setup events answers w side id sendable run =
    let c = run_carries laws setup w events answers (other side) id sendable run in
    subst (λ r. IsFrontOf (IsExactly r) (pulled side id events answers) (sent (other side) id events answers)) (reads_it setup side)
    (subst (λ s. IsFrontOf (IsExactly (reader_of setup (other side))) (pulled s id events answers) (sent (other side) id events answers)) (other-other side)
    (is_front (reader_of setup (other side)) (flow w (other side) id) (sent (other side) id events answers) (has_finished (other side) id events answers)
    (pulled (other (other side)) id events answers) (has_pulled_end (other (other side)) id events answers) c.carried))

pub all_at : (laws : WorldLaws) (setup : Setup) (events : List Event) (answers : List Answer) (w : World) (side : Side) (id : ℕ) → AllByRecursion (IsSendable setup) events → Run (Happens setup) (empty_world setup) events answers w
    → has_pulled_end side id events answers ≡ true
    → IsAll (reader_at setup side) (sent (other side) id events answers) (has_finished (other side) id events answers) (pulled side id events answers)
all_at laws setup events answers w side id sendable run ended =
    let c = run_carries laws setup w events answers (other side) id sendable run in
    subst (λ r. IsAll r (sent (other side) id events answers) (has_finished (other side) id events answers) (pulled side id events answers)) (reads_it setup side)
    (subst (λ s. has_pulled_end s id events answers ≡ true → IsAll (reader_of setup (other side)) (sent (other side) id events answers) (has_finished (other side) id events answers) (pulled s id events answers)) (other-other side)
    (is_complete setup w events answers (other side) id c) ended)

-- and where no part is left
pub left_none_at : (laws : WorldLaws) (setup : Setup) (events : List Event) (answers : List Answer) (w : World) (side : Side) (id : ℕ) → AllByRecursion (IsSendable setup) events → Run (Happens setup) (empty_world setup) events answers w
    → next_part (flow w (other side) id) ≡ None → IsAllOf (IsExactly (reader_at setup side)) (pulled side id events answers) (sent (other side) id events answers)
left_none_at laws setup events answers w side id sendable run none =
    let c = run_carries laws setup w events answers (other side) id sendable run in
    subst (λ r. IsAllOf (IsExactly r) (pulled side id events answers) (sent (other side) id events answers)) (reads_it setup side)
    (subst (λ s. IsAllOf (IsExactly (reader_of setup (other side))) (pulled s id events answers) (sent (other side) id events answers)) (other-other side)
    (is_all (reader_of setup (other side)) (flow w (other side) id) (sent (other side) id events answers) (has_finished (other side) id events answers)
    (pulled (other (other side)) id events answers) (has_pulled_end (other (other side)) id events answers) c.carried none))

-- With no section above the limit, as headers it is what was sent.
as_header : (r : Reader) (c d : MessageContent) → IsReadBack d → IsTakenWhole r.most d → IsExactly r c d → header_of c ≡ header_of d
as_header r (FieldSection kind true given) (FieldSection k true fields) back fits is =
    ap (λ x. FieldSection x false (head_fields (head_of_fields given))) is.0 ∙ ap (λ h. FieldSection k false (head_fields h)) (ap head_of_fields is.1 ∙ read_flagged r.guards fields)
as_header r (FieldSection kind true given) (FieldSection k false fields) back fits is =
    ap (λ x. FieldSection x false (head_fields (head_of_fields given))) is.0
    ∙ ap (FieldSection k false) (ap head_fields (ap head_of_fields is.1 ∙ read_flagged r.guards fields) ∙ back)
as_header r (FieldSection kind false given) (FieldSection k true fields) back fits is = ap (λ x. FieldSection x false given) is.0 ∙ ap (FieldSection k false) is.1
as_header r (FieldSection kind false given) (FieldSection k false fields) back fits is = ap (λ x. FieldSection x false given) is.0 ∙ ap (FieldSection k false) (is.1 ∙ back)
as_header r (TooLarge size) (FieldSection k l fields) back fits is = absurd (omega (arith, fits, is.1))
as_header r (Byte b) (Byte c) back fits is = ap Byte is
as_header r Foreign d back fits is = absurd (no_foreign d is)
  where
    no_foreign : (d : MessageContent) → IsExactly r Foreign d → ⊥
    no_foreign (FieldSection k l fields) is = is
    no_foreign (Byte c) is = is
    no_foreign (TooLarge size) is = is
    no_foreign Foreign is = is
as_header r (FieldSection kind true given) (Byte c) back fits is = absurd is
as_header r (FieldSection kind true given) (TooLarge size) back fits is = absurd is
as_header r (FieldSection kind true given) Foreign back fits is = absurd is
as_header r (FieldSection kind false given) (Byte c) back fits is = absurd is
as_header r (FieldSection kind false given) (TooLarge size) back fits is = absurd is
as_header r (FieldSection kind false given) Foreign back fits is = absurd is
as_header r (TooLarge n) (Byte c) back fits is = absurd is
as_header r (TooLarge n) (TooLarge size) back fits is = absurd is
as_header r (TooLarge n) Foreign back fits is = absurd is
as_header r (Byte b) (FieldSection k l fields) back fits is = absurd is
as_header r (Byte b) (TooLarge size) back fits is = absurd is
as_header r (Byte b) Foreign back fits is = absurd is

as_headers : (r : Reader) (given sending : List MessageContent) → AllByRecursion IsReadBack sending → AllByRecursion (IsTakenWhole r.most) sending → IsAllOf (IsExactly r) given sending
    → map header_of given ≡ map header_of sending
as_headers r [] [] back fits is = refl
as_headers r (c ∷ given) (d ∷ sending) back fits is = ap₂ (λ x l. x ∷ l) (as_header r c d back.0 fits.0 is.0) (as_headers r given sending back.1 fits.1 is.1)
as_headers r [] (d ∷ sending) back fits is = absurd is
as_headers r (c ∷ given) [] back fits is = absurd is

pub whole_at : (laws : WorldLaws) (setup : Setup) (events : List Event) (answers : List Answer) (w : World) (side : Side) (id : ℕ) → AllByRecursion (IsSendable setup) events → Run (Happens setup) (empty_world setup) events answers w
    → has_pulled_end side id events answers ≡ true → AllByRecursion (IsTakenWhole (section_of (announced_at setup side))) (sent (other side) id events answers)
    → map header_of (pulled side id events answers) ≡ map header_of (sent (other side) id events answers)
whole_at laws setup events answers w side id sendable run ended whole =
    as_headers (reader_at setup side) (pulled side id events answers) (sent (other side) id events answers) (all_read_back setup (other side) id events answers sendable) whole
    (all_at laws setup events answers w side id sendable run ended).all
