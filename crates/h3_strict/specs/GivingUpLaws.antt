-- A step of a world, and a message that is given up, in what is told of each flow.
use Rattle.std.proofs.Common.{◌≡◌, ℕ, Bool, true, false, if◌then◌else◌, List, [], refl, ap, sym, ◌∙◌, subst, Option, Some, None}
use Rattle.std.specs.Prelude.{MatchOption, ◌&&◌, is_some}
use Rattle.h3_proto.specs.StreamIds.{is_request_stream}
use Rattle.h3_proto.specs.declared.stream.Side.{Side}
use Rattle.h3_proto.specs.declared.stream.Side.TheVariants.{Client, Server}
use Rattle.h3_connection.specs.OwnIds.{other}
use Rattle.h3_connection.specs.declared.event.Fault.TheVariants.{Stream}
use Rattle.h3_connection.specs.declared.event.Malformation.{Malformation}
use Rattle.h3_connection.specs.declared.event.Pull.{Pull}
use Rattle.h3_connection.specs.declared.event.Pull.TheVariants as pull
use Rattle.h3_connection.specs.declared.event.StreamFault.TheVariants.{Malformed}
use Rattle.h3_world.specs.Flow.{Flow, unused}
use Rattle.h3_world.specs.Items.{handed_out}
use Rattle.h3_world.specs.Order.{is_over}
use Rattle.h3_world.specs.Pulling.{Pulls, PullsNext, settled}
use Rattle.h3_world.specs.Sending.{given_up}
use Rattle.h3_world.specs.Sound.{IsSoundWorld}
use Rattle.h3_world.specs.Step.{Step}
use Rattle.h3_world.specs.Streams.{flow}
use Rattle.h3_world.specs.World.{World, empty_world, no_exchange}
use Rattle.h3_world.specs.declared.event.Answer.{Answer}
use Rattle.h3_world.specs.declared.event.Answer.TheVariants as answer
use Rattle.h3_world.specs.declared.event.Event.{Event}
use Rattle.h3_world.specs.declared.event.Event.TheVariants as event
use Rattle.h3_world.specs.Setup.{Setup}
use Rattle.h3_headline.specs.ContentLaws.{moves_then, stays}
use Rattle.h3_headline.specs.Contents.{GoneStays, HasSameParts, Moves, reader_of}
use Rattle.h3_headline.specs.FlowLaws.{open_there, same_both}
use Rattle.h3_headline.specs.GoneLaws.{gone_given_up, gone_stays, stays_given_up, stays_same, stays_then, there_handed}
use Rattle.h3_headline.specs.KeepsPartsLaws.{keeps_given_up, keeps_same, same_flow}
use Rattle.h3_headline.specs.Exactly.{Reader}
use Rattle.h3_headline.specs.Handing.{is_end_item, item_contents}
use Rattle.h3_headline.specs.Messages.{MessageContent, contents_of, ended_in, finished_in, is_end_of, is_on, pulled_in, sent_in}
use Rattle.h3_headline.specs.MovedLaws.{moved, swapped}
use Rattle.h3_headline.specs.Pulls.{SaysNothing}
use Rattle.h3_headline.specs.SettledLaws.{settled_alive, settled_gone, settled_none}
use Rattle.h3_headline.specs.Steps.{IsThere}
use Rattle.h3_strict.specs.Accounts.{Accounts, AdvancesBy, AnswersNothing, KeepsOn, Quiet}
use Rattle.h3_connection.specs.declared.event.Refusal.{Refusal}
use Rattle.h3_connection.specs.declared.event.Refusal.TheVariants as refusal
use Rattle.h3_connection.specs.Lists.{pull_of}
use Rattle.h3_connection.specs.declared.lists.ListItem.TheVariants as listed
use Rattle.h3_connection.specs.declared.lists.ListPull.{ListPull}
use Rattle.h3_connection.specs.declared.lists.ListPull.TheVariants as list
use Rattle.h3_strict.specs.MalformedLaws.{ends_none, finishes_none, pulls_none, refused_is, sends_none}
use Rattle.h3_strict.specs.PlainEnds.{is_malformed_refusal}
use Rattle.h3_strict.specs.AdvanceLaws.{keeps, says, advances, gives_up_on, quiet_none}
use Rattle.h3_strict.specs.GivesUp.{AtOnce, BehindPart, GivesUp}

not_true : (b : Bool) → (b ≡ true → false ≡ true) → b ≡ false
not_true true h = sym (h refl)
not_true false h = refl

pulls_nothing : (p : Pull) → SaysNothing false p → AnswersNothing (answer.Pulled p)
pulls_nothing p h = (h.contents, not_true (is_end_of (answer.Pulled p)) h.ends)

lists_nothing : (l : ListPull) → SaysNothing false (pull_of l) → AnswersNothing (answer.Listed l)
lists_nothing (list.Item (listed.Interim fields)) h = absurd (let never = h.contents in cc)
lists_nothing (list.Item (listed.Head fields)) h = absurd (let never = h.contents in cc)
lists_nothing (list.Item (listed.Trailer fields)) h = absurd (let never = h.contents in cc)
lists_nothing (list.Item (listed.TooLarge size)) h = absurd (let never = h.contents in cc)
lists_nothing (list.Item (listed.Body bytes)) h = (h.contents, refl)
lists_nothing (list.Item listed.End) h = (refl, not_true true h.ends)
lists_nothing (list.Item i) h = absurd (let never = h.contents in cc)
lists_nothing l h = (refl, refl)

-- nothing is handed out of a stream that was given up
gone_quiet : (setup : Setup) (w new : World) (side : Side) (i : ℕ) (p : Pull) → Pulls setup w side i p new → is_some (flow w (other side) i).fault ≡ true → SaysNothing false p
gone_quiet setup w new side i p step gone = by_settled (settled w side i) refl step
  where
    by_settled : (o : Option Pull) → settled w side i ≡ o → MatchOption o (PullsNext setup w side i p new) (λ q. (p ≡ q) × (new ≡ w)) → SaysNothing false p
    by_settled (Some q) e h = subst (SaysNothing false) (sym h.0) (settled_gone w side i q gone e)
    by_settled None e h = absurd (let never : true ≡ false = sym gone ∙ settled_alive w side i e in cc)

pub quiet_on : (w : World) (side : Side) (i : ℕ) (a : Answer) (writer : Side) (id : ℕ) → (is_some (flow w (other side) i).fault ≡ true → AnswersNothing a)
    → Quiet (flow w writer id) (if is_on (other writer) id side i then contents_of a else []) (is_on (other writer) id side i && is_end_of a)
quiet_on w side i a writer id h = by_on (is_on (other writer) id side i) (sym (swapped writer side id i))
  where
    by_on : (b : Bool) → is_on writer id (other side) i ≡ b → Quiet (flow w writer id) (if b then contents_of a else []) (b && is_end_of a)
    by_on true e =
        let same = same_flow w (other side) writer i id e in
        record { none = λ gone. (h (sym (ap (λ (f : Flow). is_some f.fault) same) ∙ gone)).0; no_end = λ gone. (h (sym (ap (λ (f : Flow). is_some f.fault) same) ∙ gone)).1 }
    by_on false e = quiet_none (flow w writer id)

pub quiet_step : (setup : Setup) (w new : World) (e : Event) (a : Answer) (writer : Side) (id : ℕ) → Step setup w e a new → Quiet (flow w writer id) (pulled_in (other writer) id e a) (ended_in (other writer) id e a)
quiet_step setup w new (event.Pull side i) (answer.Pulled p) writer id step = quiet_on w side i (answer.Pulled p) writer id (λ gone. pulls_nothing p (gone_quiet setup w new side i p step gone))
quiet_step setup w new (event.PullFields side i) (answer.Listed l) writer id step = quiet_on w side i (answer.Listed l) writer id (λ gone. lists_nothing l (gone_quiet setup w new side i (pull_of l) step.0 gone))
quiet_step setup w new (event.Pull side i) a writer id step = absurd step
quiet_step setup w new (event.PullFields side i) a writer id step = absurd step
quiet_step setup w new e a writer id step = quiet_none (flow w writer id)

-- what is alive was so before
pub alive_before : (a b : Bool) → (a ≡ true → b ≡ true) → b ≡ false → a ≡ false
alive_before true b h e = sym (h refl) ∙ e
alive_before false b h e = refl

-- a message is given up
module _ (setup : Setup) (w : World) (side : Side) (i : ℕ) (why : Malformation) (sound : IsSoundWorld setup w) (unsettled : settled w side i ≡ None) (writer : Side) (id : ℕ) where
  there : IsThere w i
  there = open_there w side i (settled_none w side i unsettled).is_there

  gone_from : (m : World) (q : List MessageContent) (d : Bool) → Moves (reader_of setup writer) (flow w writer id) (flow m writer id) [] false (if is_on (other writer) id side i then q else []) (is_on (other writer) id side i && d) → IsThere m i
      → GoneStays w m → KeepsOn setup w writer id (given_up m side i (Malformed why))
  gone_from m q d moves there_then goes = by_on (is_on (other writer) id side i) (sym (swapped writer side id i)) moves
    where
      same : HasSameParts (flow m writer id) (flow (given_up m side i (Malformed why)) writer id)
      same = keeps_given_up m side i (Malformed why) there_then writer id

      by_on : (b : Bool) → is_on writer id (other side) i ≡ b → Moves (reader_of setup writer) (flow w writer id) (flow m writer id) [] false (if b then q else []) (b && d) → KeepsOn setup w writer id (given_up m side i (Malformed why))
      by_on true e h =
          gives_up_on (reader_of setup writer) (flow w writer id) (flow m writer id) (flow (given_up m side i (Malformed why)) writer id) q d h same (gone_given_up m side i (Malformed why) writer id there_then e)
          (ap is_over (same_flow w (other side) writer i id e) ∙ (settled_none w side i unsettled).not_over)
      by_on false e h =
          advances (reader_of setup writer) (flow w writer id) (flow (given_up m side i (Malformed why)) writer id) [] false [] false
          (moves_then (reader_of setup writer) (flow w writer id) (flow m writer id) (flow (given_up m side i (Malformed why)) writer id) [] [] false false [] [] false false h (stays (reader_of setup writer) (flow m writer id) (flow (given_up m side i (Malformed why)) writer id) false same (λ x. absurd (let never : false ≡ true = x in cc))))
          (quiet_none (flow w writer id))
          (alive_before (is_some (flow w writer id).fault) (is_some (flow (given_up m side i (Malformed why)) writer id).fault) (stays_then w m (given_up m side i (Malformed why)) goes (stays_given_up m side i (Malformed why) there_then) writer id))

  no_moves : Moves (reader_of setup writer) (flow w writer id) (flow w writer id) [] false (if is_on (other writer) id side i then [] else []) (is_on (other writer) id side i && false)
  no_moves = by_on (is_on (other writer) id side i)
    where
      by_on : (b : Bool) → Moves (reader_of setup writer) (flow w writer id) (flow w writer id) [] false (if b then [] else []) (b && false)
      by_on true = stays (reader_of setup writer) (flow w writer id) (flow w writer id) false (keeps_same w writer id) (λ x. absurd (let never : false ≡ true = x in cc))
      by_on false = stays (reader_of setup writer) (flow w writer id) (flow w writer id) false (keeps_same w writer id) (λ x. absurd (let never : false ≡ true = x in cc))

  pub gives_up_advances : (new : World) → GivesUp setup w side i why new → KeepsOn setup w writer id new
  gives_up_advances new (AtOnce is) = subst (KeepsOn setup w writer id) (sym is) (gone_from w [] false no_moves there (stays_same w))
  gives_up_advances new (BehindPart it come exact is) =
      let m : World = handed_out w side i it in
      let step : Step setup w (event.Pull side i) (answer.Pulled (pull.Item it)) m =
      subst (λ o. MatchOption o (PullsNext setup w side i (pull.Item it) m) (λ q. (pull.Item it ≡ q) × (m ≡ w))) (sym unsettled) (come, refl) in
      subst (KeepsOn setup w writer id) (sym is)
      (gone_from m (item_contents it) (is_end_item it) (moved setup w m (event.Pull side i) (answer.Pulled (pull.Item it)) writer id sound step) (there_handed w side i it there)
      (gone_stays setup w m (event.Pull side i) (answer.Pulled (pull.Item it)) step))

-- an answer that tells of a fault hands out nothing
pub none_if : (b : Bool) (given : List MessageContent) → given ≡ [] → [] ≡ (if b then given else [])
none_if true given is = sym is
none_if false given is = refl

pub not_both : (b c : Bool) → c ≡ false → false ≡ (b && c)
not_both true c is = sym is
not_both false c is = refl

pub told_nothing : (l : ListPull) (why : Malformation) → pull_of l ≡ pull.Fault (Stream (Malformed why)) → AnswersNothing (answer.Listed l)
told_nothing (list.Item i) why is = absurd (cc)
told_nothing l why is = (refl, refl)

-- what is refused
pub refusal_advances : (setup : Setup) (w : World) (e : Event) (r : Refusal) (writer : Side) (id : ℕ) → AdvancesBy setup w e writer id (answer.Refused r) w
refusal_advances setup w e r writer id =
    says (reader_of setup writer) (flow w writer id) (flow w writer id) [] (sent_in writer id e (answer.Refused r)) false (finished_in writer id e (answer.Refused r)) [] (pulled_in (other writer) id e (answer.Refused r)) false
    (ended_in (other writer) id e (answer.Refused r)) (sym (sends_none r writer id e)) (sym (finishes_none r writer id e)) (sym (pulls_none r (other writer) id e)) (sym (ends_none r (other writer) id e))
    (keeps (reader_of setup writer) (flow w writer id))

-- a send that is refused as malformed
pub refused_advances : (setup : Setup) (w : World) (e : Event) (a : Answer) (writer : Side) (id : ℕ) → is_malformed_refusal a ≡ true → AdvancesBy setup w e writer id a w
refused_advances setup w e a writer id told =
    let m = refused_is a told in subst (λ b. AdvancesBy setup w e writer id b w) (sym m.1) (refusal_advances setup w e (refusal.Malformed m.0) writer id)

-- before anything, each flow is unused
pub nothing_yet : (setup : Setup) (writer : Side) (id : ℕ) → flow (empty_world setup) writer id ≡ unused
nothing_yet setup Client id = ap (λ e. e.request) (same_both (is_request_stream id) no_exchange no_exchange (λ e. refl))
nothing_yet setup Server id = ap (λ e. e.response) (same_both (is_request_stream id) no_exchange no_exchange (λ e. refl))

pub unused_accounts : (r : Reader) → Accounts r unused [] false [] false
unused_accounts r = record { sent_is = refl; end_is = refl; front = tt; alive = λ e. tt; over_is = λ e. absurd (let never : false ≡ true = e in cc) }
