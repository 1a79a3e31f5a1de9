-- What each event changes of each flow of a world.
use Rattle.std.proofs.Common.{◌≡◌, true, false, arith, ℕ, [], refl, sym, subst, Option, Some, None, Bool, not, List, ◌∷◌, ap, ◌∙◌, ◌+◌, length, ◌++◌, MatchOption}
use Rattle.std.proofs.lemmas.Grind.{common_steps}
use Rattle.h3_world.specs.Flow.{Flow, Part, Section, flow_bytes}
use Rattle.h3_proto.specs.declared.stream.Side.{Side}
use Rattle.h3_world.specs.Streams.{flow, with_flow, is_open}
use Rattle.h3_world.specs.World.{World, Party, with_party, party}
use Rattle.h3_connection.specs.declared.event.Refusal.{Refusal}
use Rattle.h3_world.specs.declared.event.Answer.{Answer}
use Rattle.h3_world.specs.declared.event.Answer.TheVariants as answer
use Rattle.h3_world.specs.Step.{Does, Step}
use Rattle.h3_connection.specs.Refusals.{first_of, is_too_large, of_list, unless_going, with_pseudo, wrong_side}
use Rattle.h3_connection.specs.StrictSending.{unless_malformed}
use Rattle.h3_connection.specs.declared.event.Refusal.TheVariants as refusal
use Rattle.std.specs.Prelude.{if◌then◌else◌, map, ◌||◌, is_some, IfSome, option_map}
use Rattle.h3_world.specs.Order.{is_end, outgoing_of, is_sent_off, is_over, next_part, section_of_part}
use Rattle.h3_world.specs.Sending.{appended, finished, having_encoded, section_sent, sent_head, sent_fields, sent_body, sent_trailer, sent_trailer_fields, cut_off, given_up, opened, with_goaway}
use Rattle.h3_world.specs.Sound.{IsSoundWorld}
use Rattle.h3_world.specs.Flow.Part.{End, Interim, Head, Body, Trailer}
use Rattle.h3_field.specs.Field.{Field, section_size}
use Rattle.h3_header.specs.Head.{Head as Fields, head_fields, has_pseudo}
use Rattle.h3_header.specs.Reads.{head_of_fields}
use Rattle.h3_connection.specs.Outgoing.{takes_head, takes_body, takes_end}
use Rattle.h3_connection.specs.OwnIds.{other}
use Rattle.h3_connection.specs.Pulling.{is_for, is_interim}
use Rattle.h3_world.specs.declared.event.Event.TheVariants as event
use Rattle.h3_world.specs.Came.{settings_known}
use Rattle.h3_world.specs.Refusals.{none_after, head_refusal, body_refusal, trailer_refusal, finish_refusal, is_critical, reset_refusal, cancel_refusal, next_id, open_refusal, goaway_refusal, fields_refusal, trailer_fields_refusal}
use Rattle.h3_frames.specs.Encoded.{frame_encoding}
use Rattle.h3_connection.specs.declared.event.StreamFault.TheVariants.{Canceled}
use Rattle.h3_proto.specs.declared.stream.Side.TheVariants.{Client, Server}
use Rattle.h3_connection.specs.Announcing.{section_of}
use Rattle.h3_connection.specs.declared.event.Item.{Item}
use Rattle.h3_connection.specs.declared.event.Item.TheVariants as item
use Rattle.h3_connection.specs.declared.event.Pull.TheVariants as pull
use Rattle.h3_world.specs.Items.{HasCome, handed_out, acknowledgment_of, after_item}
use Rattle.h3_world.specs.Setup.{Setup, announced_at, takes_any}
use Rattle.h3_world.specs.Lists.{as_flagged, unreadable}
use Rattle.h3_connection.specs.declared.event.Pull.{Pull}
use Rattle.h3_connection.specs.Lists.{item_of, list_of, pull_of}
use Rattle.h3_connection.specs.declared.lists.ListItem.{ListItem}
use Rattle.h3_connection.specs.declared.lists.ListItem.TheVariants as listed
use Rattle.h3_connection.specs.declared.lists.ListPull.{ListPull}
use Rattle.h3_connection.specs.declared.lists.ListPull.TheVariants as list
use Rattle.h3_world.specs.Pauses.{paused}
use Rattle.h3_world.specs.Pulling.{settled, PullsNext, Pulls}
use Rattle.h3_world.specs.Delivering.{delivery, end_delivery, reset_delivery}
use Rattle.h3_world.specs.declared.event.Event.{Event}
use Rattle.h3_headline.specs.ComingLaws.{sound_flow}
use Rattle.h3_headline.specs.ContentLaws.{bytes_listed, grows, stays}
use Rattle.h3_headline.specs.Contents.{Goes, HasSameParts, KeepsParts, Moves, MovesBy, PullMoves, part_contents, reader_of}
use Rattle.h3_headline.specs.FlowLaws.{flow-with_party, open_there, same_both, there-with_party}
use Rattle.h3_headline.specs.Handing.{GivesAs, GivesItem, is_end_item}
use Rattle.h3_headline.specs.HandingLaws.{gives_itself, gives_list, hands}
use Rattle.h3_headline.specs.KeepsPartsLaws.{flow_at, keeps_delivery, keeps_end, keeps_flows, keeps_given_up, keeps_reset, keeps_same, keeps_with_flow, keeps_with_party, same_flow}
use Rattle.h3_headline.specs.Exactly.{Reader, as_listed, reader_at}
use Rattle.h3_headline.specs.Messages.{MessageContent, contents_of, head_section, is_end_of, is_on, status_in}
use Rattle.h3_headline.specs.Messages.MessageContent.{Byte, FieldSection}
use Rattle.h3_headline.specs.Messages.SectionKind.{OfHead, OfInterim, OfTrailer}
use Rattle.h3_headline.specs.StatusLaws.{status_told}
use Rattle.h3_headline.specs.OpeningLaws.{flow_opened}
use Rattle.h3_headline.specs.SettledLaws.{settled_none, settled_says}
use Rattle.h3_headline.specs.Steps.{IsThere}

differ : false ≡ true → ⊥
differ h = grind (arith, common_steps, h)

kept : (most : Reader) (f g : Flow) → HasSameParts f g → Moves most f g [] false [] false
kept most f g same = stays most f g false same (λ e. absurd (differ e))

-- the same of all flows of two worlds
kept_at : (setup : Setup) (w new : World) (writer : Side) (id : ℕ) → KeepsParts w new → Moves (reader_of setup writer) (flow w writer id) (flow new writer id) [] false [] false
kept_at setup w new writer id keeps = kept (reader_of setup writer) (flow w writer id) (flow new writer id) (keeps writer id)

-- a call that is refused, or done
does_cases : (P : Answer → World → Type 0) (o : Option Refusal) (w after new : World) (success given : Answer) → ((r : Refusal) → P (answer.Refused r) w) → (o ≡ None → P success after)
    → Does o w success after given new → P given new
does_cases P (Some r) w after new success given refused done h = subst (λ x. P x new) (sym h.0) (subst (P (answer.Refused r)) (sym h.1) (refused r))
does_cases P None w after new success given refused done h = subst (λ x. P x new) (sym h.0) (subst (P success) (sym h.1) (done refl))

pub not_refused : (there : Bool) (rules : List (Bool × Refusal)) → first_of ((not there, refusal.NotOpen) ∷ rules) ≡ None → there ≡ true
not_refused true rules e = refl
not_refused false rules e = cc

pub not_critical : (critical there : Bool) (rules : List (Bool × Refusal)) → first_of ((critical, refusal.Critical) ∷ (not there, refusal.NotOpen) ∷ rules) ≡ None → there ≡ true
not_critical true there rules e = cc
not_critical false there rules e = not_refused there rules e

-- A part is sent on a stream of a world, which is otherwise as another one.
part_on : (setup : Setup) (w v : World) (s : Side) (i : ℕ) (part : Part) (sending : List MessageContent) (finishing : Bool) (writer : Side) (id : ℕ) → IsSoundWorld setup w → IsThere w i → IsThere v i
    → ((x : Side) (j : ℕ) → flow v x j ≡ flow w x j) → part_contents part ≡ map as_listed sending → is_end (Some part) ≡ finishing
    → Moves (reader_of setup writer) (flow w writer id) (flow (with_flow v s i (appended (flow w s i) part)) writer id)
    (if is_on writer id s i then sending else []) (if is_on writer id s i then finishing else false) [] false
part_on setup w v s i part sending finishing writer id h there still same is end =
    subst (λ g. Moves most (flow w writer id) g (if is_on writer id s i then sending else []) (if is_on writer id s i then finishing else false) [] false)
    (sym (flow_at v s writer i id (appended (flow w s i) part) still ∙ ap (λ f. if is_on writer id s i then appended (flow w s i) part else f) (same writer id)))
    (by_on (is_on writer id s i) refl)
  where
    most : Reader
    most = reader_of setup writer

    by_on : (b : Bool) → is_on writer id s i ≡ b
        → Moves most (flow w writer id) (if b then appended (flow w s i) part else flow w writer id) (if b then sending else []) (if b then finishing else false) [] false
    by_on true e =
        let sound = sound_flow setup w s i h there in
        subst (λ f. Moves most f (appended (flow w s i) part) sending finishing [] false) (sym (same_flow w s writer i id e)) (grows most (flow w s i) part sending finishing sound.out sound.body_out is end)
    by_on false e = kept most (flow w writer id) (flow w writer id) (keeps_same w writer id)

content_on : (setup : Setup) (w v : World) (s : Side) (i : ℕ) (part : Part) (sending : List MessageContent) (writer : Side) (id : ℕ) → IsSoundWorld setup w → IsThere w i → IsThere v i
    → ((x : Side) (j : ℕ) → flow v x j ≡ flow w x j) → part_contents part ≡ map as_listed sending → is_end (Some part) ≡ false
    → Moves (reader_of setup writer) (flow w writer id) (flow (with_flow v s i (appended (flow w s i) part)) writer id) (if is_on writer id s i then sending else []) false [] false
content_on setup w v s i part sending writer id h there still same is end =
    subst (λ b. Moves (reader_of setup writer) (flow w writer id) (flow (with_flow v s i (appended (flow w s i) part)) writer id) (if is_on writer id s i then sending else []) b [] false)
    (same_both (is_on writer id s i) false false (λ e. refl)) (part_on setup w v s i part sending false writer id h there still same is end)

end_on : (setup : Setup) (w : World) (s : Side) (i : ℕ) (writer : Side) (id : ℕ) → IsSoundWorld setup w → IsThere w i
    → Moves (reader_of setup writer) (flow w writer id) (flow (finished w s i) writer id) [] (is_on writer id s i) [] false
end_on setup w s i writer id h there =
    subst (λ b. Moves (reader_of setup writer) (flow w writer id) (flow (finished w s i) writer id) [] b [] false) (itself (is_on writer id s i))
    (subst (λ l. Moves (reader_of setup writer) (flow w writer id) (flow (finished w s i) writer id) l (if is_on writer id s i then true else false) [] false)
    (same_both (is_on writer id s i) [] [] (λ e. refl)) (part_on setup w w s i End [] true writer id h there there (λ x j. refl) refl refl))
  where
    itself : (b : Bool) → (if b then true else false) ≡ b
    itself true = refl
    itself false = refl

-- what a head is sent as
head_is : (interim : Bool) (s : Section) → part_contents ((if interim then Interim else Head) s) ≡ FieldSection (if interim then OfInterim else OfHead) true s.fields ∷ []
head_is true s = refl
head_is false s = refl

no_end : (interim : Bool) (s : Section) → is_end (Some ((if interim then Interim else Head) s)) ≡ false
no_end true s = refl
no_end false s = refl

-- A section is written by the encoder, and sent.
section_on : (setup : Setup) (w : World) (s : Side) (i : ℕ) (p : Party) (part : Part) (sending : List MessageContent) (writer : Side) (id : ℕ) → IsSoundWorld setup w → IsThere w i
    → part_contents part ≡ map as_listed sending → is_end (Some part) ≡ false
    → Moves (reader_of setup writer) (flow w writer id) (flow (with_flow (with_party w s p) s i (appended (flow w s i) part)) writer id) (if is_on writer id s i then sending else []) false [] false
section_on setup w s i p part sending writer id h there is end =
    content_on setup w (with_party w s p) s i part sending writer id h there (there-with_party w s p i there) (λ x j. flow-with_party w s x p j) is end

-- The calls of a sender.
head_moves : (setup : Setup) (w new : World) (side : Side) (i : ℕ) (head : Fields) (a : Answer) (writer : Side) (id : ℕ) → IsSoundWorld setup w → Step setup w (event.Head side i head) a new → MovesBy setup w (event.Head side i head) writer id a new
head_moves setup w new side i head a writer id h step =
    does_cases (MovesBy setup w (event.Head side i head) writer id) (head_refusal setup w side i head) w (sent_head w side i head) new answer.Done a (λ r. kept_at setup w w writer id (keeps_same w))
    (λ none.
    let there = open_there w side i (not_refused (is_open w side i) (
    (not (takes_head (outgoing_of (flow w side i))), refusal.OutOfOrder) ∷ unless_going (none_after setup w side) ((not (is_for (other side) head), refusal.WrongSide) ∷
    (is_too_large (settings_known setup w side) (head_fields head), refusal.TooLarge (section_size (head_fields head))) ∷ [])) none) in
    let s = section_sent (party w side) i (head_fields head) (flow w side i) in
    let interim = is_interim head.status in
    section_on setup w side i (having_encoded (party w side) i (head_fields head)) ((if interim then Interim else Head) s) (head_section head.status false (head_fields head) ∷ []) writer id h there (head_is interim s) (no_end interim s)) step

body_moves : (setup : Setup) (w new : World) (side : Side) (i : ℕ) (bytes : List ℕ) (a : Answer) (writer : Side) (id : ℕ) → IsSoundWorld setup w → Step setup w (event.Body side i bytes) a new → MovesBy setup w (event.Body side i bytes) writer id a new
body_moves setup w new side i bytes a writer id h step =
    does_cases (MovesBy setup w (event.Body side i bytes) writer id) (body_refusal w side i) w (sent_body w side i bytes) new answer.Done a (λ r. kept_at setup w w writer id (keeps_same w))
    (λ none. goes bytes (open_there w side i (not_refused (is_open w side i) ((not (takes_body (outgoing_of (flow w side i))), refusal.OutOfOrder) ∷ []) none))) step
  where
    goes : (bytes : List ℕ) → IsThere w i → MovesBy setup w (event.Body side i bytes) writer id answer.Done (sent_body w side i bytes)
    goes [] there =
        subst (λ l. Moves (reader_of setup writer) (flow w writer id) (flow w writer id) l false [] false) (sym (same_both (is_on writer id side i) [] [] (λ e. refl))) (kept_at setup w w writer id (keeps_same w))
    goes (b ∷ bs) there =
        content_on setup w w side i (Body (b ∷ bs) (length (flow_bytes (flow w side i)) + length (frame_encoding 0 (b ∷ bs)))) (map Byte (b ∷ bs)) writer id h there there (λ x j. refl) (bytes_listed (b ∷ bs)) refl

trailer_moves : (setup : Setup) (w new : World) (side : Side) (i : ℕ) (trailer : Fields) (a : Answer) (writer : Side) (id : ℕ) → IsSoundWorld setup w → Step setup w (event.Trailer side i trailer) a new
    → MovesBy setup w (event.Trailer side i trailer) writer id a new
trailer_moves setup w new side i trailer a writer id h step =
    does_cases (MovesBy setup w (event.Trailer side i trailer) writer id) (trailer_refusal setup w side i trailer) w (sent_trailer w side i trailer) new answer.Done a (λ r. kept_at setup w w writer id (keeps_same w))
    (λ none.
    let there = open_there w side i (not_refused (is_open w side i) (
    (not (takes_body (outgoing_of (flow w side i))), refusal.OutOfOrder) ∷ (has_pseudo trailer, refusal.PseudoInTrailer) ∷
    (is_too_large (settings_known setup w side) (head_fields trailer), refusal.TooLarge (section_size (head_fields trailer))) ∷ []) none) in
    section_on setup w side i (having_encoded (party w side) i (head_fields trailer)) (Trailer (section_sent (party w side) i (head_fields trailer) (flow w side i))) (FieldSection OfTrailer false (head_fields trailer) ∷ []) writer id h there refl refl) step

-- The same of lists.
fields_moves : (setup : Setup) (w new : World) (side : Side) (i : ℕ) (fields : List Field) (a : Answer) (writer : Side) (id : ℕ) → IsSoundWorld setup w → Step setup w (event.Fields side i fields) a new
    → MovesBy setup w (event.Fields side i fields) writer id a new
fields_moves setup w new side i fields a writer id h step =
    does_cases (MovesBy setup w (event.Fields side i fields) writer id) (fields_refusal setup w side i fields) w (sent_fields w side i fields) new answer.Done a (λ r. kept_at setup w w writer id (keeps_same w))
    (λ none.
    let head = head_of_fields fields in
    let there = open_there w side i (not_refused (is_open w side i) (
    (not (takes_head (outgoing_of (flow w side i))), refusal.OutOfOrder) ∷
    unless_going (none_after setup w side) (unless_malformed (unreadable (takes_any (announced_at setup side)) fields) (wrong_side side head ∷ of_list None (settings_known setup w side) fields))) none) in
    let s = section_sent (party w side) i fields (flow w side i) in
    let interim = is_interim head.status in
    section_on setup w side i (having_encoded (party w side) i fields) ((if interim then Interim else Head) s) (head_section (status_in fields) true fields ∷ []) writer id h there
    (head_is interim s ∙ ap (λ status. FieldSection (if is_interim status then OfInterim else OfHead) true fields ∷ []) (status_told fields)) (no_end interim s)) step

trailer_fields_moves : (setup : Setup) (w new : World) (side : Side) (i : ℕ) (fields : List Field) (a : Answer) (writer : Side) (id : ℕ) → IsSoundWorld setup w → Step setup w (event.TrailerFields side i fields) a new
    → MovesBy setup w (event.TrailerFields side i fields) writer id a new
trailer_fields_moves setup w new side i fields a writer id h step =
    does_cases (MovesBy setup w (event.TrailerFields side i fields) writer id) (trailer_fields_refusal setup w side i fields) w (sent_trailer_fields w side i fields) new answer.Done a (λ r. kept_at setup w w writer id (keeps_same w))
    (λ none.
    let there = open_there w side i (not_refused (is_open w side i) (
    (not (takes_body (outgoing_of (flow w side i))), refusal.OutOfOrder) ∷
    unless_malformed (unreadable (takes_any (announced_at setup side)) fields) (with_pseudo (head_of_fields fields) ∷ of_list None (settings_known setup w side) fields)) none) in
    section_on setup w side i (having_encoded (party w side) i fields) (Trailer (section_sent (party w side) i fields (flow w side i))) (FieldSection OfTrailer true fields ∷ []) writer id h there refl refl) step

finish_moves : (setup : Setup) (w new : World) (side : Side) (i : ℕ) (a : Answer) (writer : Side) (id : ℕ) → IsSoundWorld setup w → Step setup w (event.Finish side i) a new → MovesBy setup w (event.Finish side i) writer id a new
finish_moves setup w new side i a writer id h step =
    does_cases (MovesBy setup w (event.Finish side i) writer id) (finish_refusal w side i) w (finished w side i) new answer.Done a (λ r. kept_at setup w w writer id (keeps_same w))
    (λ none. end_on setup w side i writer id h (open_there w side i (not_refused (is_open w side i) ((not (takes_end (outgoing_of (flow w side i))), refusal.OutOfOrder) ∷ []) none))) step

reset_keeps : (w new : World) (side : Side) (i : ℕ) → reset_refusal w side i ≡ None → KeepsParts w (cut_off w side i)
reset_keeps w new side i none =
    keeps_with_flow w side i (record (flow w side i) { is_reset = true })
    (open_there w side i (not_critical (is_critical i) (is_open w side i) ((is_sent_off (flow w side i), refusal.Ended) ∷ []) none)) (record { sent = refl; parts_out = refl; body_out = refl })

cancel_keeps : (w new : World) (side : Side) (i : ℕ) → cancel_refusal w side i ≡ None → KeepsParts w (given_up w side i Canceled)
cancel_keeps w new side i none =
    keeps_given_up w side i Canceled
    (open_there w side i (not_critical (is_critical i) (is_open w side i) ((is_over (flow w (other side) i) || is_some (flow w (other side) i).fault, refusal.Ended) ∷ []) none))

-- The side that pulls is the reader of what the other side writes.
pub swapped : (writer side : Side) (id i : ℕ) → is_on (other writer) id side i ≡ is_on writer id (other side) i
swapped Client Client id i = refl
swapped Client Server id i = refl
swapped Server Client id i = refl
swapped Server Server id i = refl

reader_is : (setup : Setup) (writer side : Side) (id i : ℕ) → is_on writer id (other side) i ≡ true → reader_of setup writer ≡ reader_at setup side
reader_is setup Client Client id i e = cc
reader_is setup Client Server id i e = refl
reader_is setup Server Client id i e = refl
reader_is setup Server Server id i e = cc

is_item : (p : Pull) (i j : Item) → pull.Item i ≡ pull.Item j → i ≡ j
is_item p i j e = ap item_in e
  where
    item_in : Pull → Item
    item_in (pull.Item x) = x
    item_in _ = i

pub pulled_gives : (r : Reader) (part : Option Part) (p : Pull) → GivesAs r part p (answer.Pulled p)
pulled_gives r part (pull.Item j) =
    record { item = λ i e. subst (λ x. GivesItem r part x (contents_of (answer.Pulled (pull.Item j)))) (is_item (pull.Item j) j i e) (gives_itself r part j); nothing = λ e. e; ends = refl }
pulled_gives r part pull.Pending = record { item = λ i e. cc; nothing = λ e. e; ends = refl }
pulled_gives r part (pull.Waiting n) = record { item = λ i e. cc; nothing = λ e. e; ends = refl }
pulled_gives r part (pull.Fault fault) = record { item = λ i e. cc; nothing = λ e. e; ends = refl }
pulled_gives r part pull.NoMessages = record { item = λ i e. cc; nothing = λ e. e; ends = refl }

pub listed_gives : (r : Reader) (part : Option Part) (l : ListPull) → IfSome (list_of l) (λ fields. option_map (λ (s : Section). as_flagged r.guards s.fields) (section_of_part part) ≡ Some fields)
    → GivesAs r part (pull_of l) (answer.Listed l)
listed_gives r part (list.Item j) is =
    record { item = λ i e. subst (λ x. GivesItem r part x (contents_of (answer.Listed (list.Item j)))) (is_item (pull.Item (item_of j)) (item_of j) i e) (gives_list r part j is); nothing = none j; ends = the_end j }
  where
    none : (j : ListItem) → contents_of (answer.Pulled (pull.Item (item_of j))) ≡ [] → contents_of (answer.Listed (list.Item j)) ≡ []
    none (listed.Interim fields) e = cc
    none (listed.Head fields) e = cc
    none (listed.Body bytes) e = e
    none (listed.Trailer fields) e = cc
    none (listed.TooLarge size) e = cc
    none (listed.Session id) e = cc
    none (listed.Raw bytes) e = cc
    none listed.End e = refl

    the_end : (j : ListItem) → is_end_of (answer.Listed (list.Item j)) ≡ is_end_of (answer.Pulled (pull.Item (item_of j)))
    the_end (listed.Interim fields) = refl
    the_end (listed.Head fields) = refl
    the_end (listed.Body bytes) = refl
    the_end (listed.Trailer fields) = refl
    the_end (listed.TooLarge size) = refl
    the_end (listed.Session id) = refl
    the_end (listed.Raw bytes) = refl
    the_end listed.End = refl
listed_gives r part list.Pending is = record { item = λ i e. cc; nothing = λ e. refl; ends = refl }
listed_gives r part (list.Waiting n) is = record { item = λ i e. cc; nothing = λ e. refl; ends = refl }
listed_gives r part (list.Fault fault) is = record { item = λ i e. cc; nothing = λ e. refl; ends = refl }
listed_gives r part list.NoMessages is = record { item = λ i e. cc; nothing = λ e. refl; ends = refl }

item_moves : (setup : Setup) (w : World) (side : Side) (i : ℕ) (it : Item) (a : Answer) (writer : Side) (id : ℕ) → IsSoundWorld setup w → IsThere w i → is_over (flow w (other side) i) ≡ false
    → HasCome (section_of (announced_at setup side)) (flow w (other side) i) (next_part (flow w (other side) i)) it → GivesItem (reader_at setup side) (next_part (flow w (other side) i)) it (contents_of a) → is_end_of a ≡ is_end_item it
    → PullMoves (reader_of setup writer) (flow w writer id) (flow (handed_out w side i it) writer id) (is_on writer id (other side) i) a
item_moves setup w side i it a writer id h there over has gives ends =
    subst (λ g. PullMoves (reader_of setup writer) (flow w writer id) g (is_on writer id (other side) i) a)
    (sym (flow_at v (other side) writer i id new (there-with_party w side q i there) ∙ ap (λ f. if is_on writer id (other side) i then new else f) (flow-with_party w side writer q id)))
    (by_on (is_on writer id (other side) i) refl)
  where
    f : Flow
    f = flow w (other side) i

    q : Party
    q = record (party w side) { own = record (party w side).own { replies = (party w side).own.replies ++ acknowledgment_of i (next_part f) } }

    v : World
    v = with_party w side q

    new : Flow
    new = after_item f (next_part f) it

    by_on : (b : Bool) → is_on writer id (other side) i ≡ b → PullMoves (reader_of setup writer) (flow w writer id) (if b then new else flow w writer id) b a
    by_on true e =
        let sound = sound_flow setup w (other side) i h there in
        subst (λ r. PullMoves r (flow w writer id) new true a) (sym (reader_is setup writer side id i e))
        (subst (λ x. PullMoves (reader_at setup side) x new true a) (sym (same_flow w (other side) writer i id e))
        (subst (λ b. Moves (reader_at setup side) f new [] false (contents_of a) b) (sym ends) (hands (reader_at setup side) f (next_part f) it (contents_of a) sound.body_out over refl has gives)))
    by_on false e = kept (reader_of setup writer) (flow w writer id) (flow w writer id) (keeps_same w writer id)

-- the end, as an answer and as an item
end_told : (i : Item) → is_end_of (answer.Pulled (pull.Item i)) ≡ is_end_item i
end_told (item.Interim head) = refl
end_told (item.Head head) = refl
end_told (item.Body bytes) = refl
end_told (item.Trailer trailer) = refl
end_told (item.TooLarge size) = refl
end_told (item.Session id) = refl
end_told (item.Raw bytes) = refl
end_told item.End = refl

-- a pull that hands out nothing
nothing_moves : (r : Reader) (w new : World) (side : Side) (i : ℕ) (a : Answer) (writer : Side) (id : ℕ) → KeepsParts w new → contents_of a ≡ [] → (is_end_of a ≡ true → is_over (flow w (other side) i) ≡ true)
    → PullMoves r (flow w writer id) (flow new writer id) (is_on writer id (other side) i) a
nothing_moves r w new side i a writer id keeps none ends = by_on (is_on writer id (other side) i) refl
  where
    by_on : (b : Bool) → is_on writer id (other side) i ≡ b → PullMoves r (flow w writer id) (flow new writer id) b a
    by_on true e =
        subst (λ l. Moves r (flow w writer id) (flow new writer id) [] false l (is_end_of a)) (sym none)
        (stays r (flow w writer id) (flow new writer id) (is_end_of a) (keeps writer id) (λ x. ap is_over (same_flow w (other side) writer i id e) ∙ ends x))
    by_on false e = kept r (flow w writer id) (flow new writer id) (keeps writer id)

pauses : (w : World) (side : Side) (i count : ℕ) → IsThere w i → KeepsParts w (paused w side i count)
pauses w side i count there = keeps_with_flow w (other side) i (record (flow w (other side) i) { waits_for = count }) there (record { sent = refl; parts_out = refl; body_out = refl })

-- A pull, whichever answer tells of it.
pull_moves : (setup : Setup) (w new : World) (side : Side) (i : ℕ) (p : Pull) (a : Answer) (writer : Side) (id : ℕ) → IsSoundWorld setup w → Pulls setup w side i p new
    → GivesAs (reader_at setup side) (next_part (flow w (other side) i)) p a → PullMoves (reader_of setup writer) (flow w writer id) (flow new writer id) (is_on writer id (other side) i) a
pull_moves setup w new side i p a writer id h step gives = by_settled (settled w side i) refl step
  where
    r : Reader
    r = reader_of setup writer

    part : Option Part
    part = next_part (flow w (other side) i)

    pausing : (count : ℕ) → IsThere w i → contents_of (answer.Pulled p) ≡ [] → is_end_of (answer.Pulled p) ≡ false → new ≡ paused w side i count → Goes setup w side i writer id a new
    pausing count there none no_end is =
        subst (Goes setup w side i writer id a) (sym is) (nothing_moves r w (paused w side i count) side i a writer id (pauses w side i count there) (gives.nothing none) (λ e. absurd (differ (sym no_end ∙ sym gives.ends ∙ e))))

    next : (q : Pull) → p ≡ q → IsThere w i → is_over (flow w (other side) i) ≡ false → PullsNext setup w side i q new → Goes setup w side i writer id a new
    next (pull.Item it) e there over step =
        subst (Goes setup w side i writer id a) (sym step.1) (item_moves setup w side i it a writer id h there over step.0 (gives.item it e) (gives.ends ∙ ap (λ q. is_end_of (answer.Pulled q)) e ∙ end_told it))
    next pull.Pending e there over step = pausing 0 there (ap (λ q. contents_of (answer.Pulled q)) e) (ap (λ q. is_end_of (answer.Pulled q)) e) step
    next (pull.Waiting count) e there over step = pausing count there (ap (λ q. contents_of (answer.Pulled q)) e) (ap (λ q. is_end_of (answer.Pulled q)) e) step
    next (pull.Fault fault) e there over step = absurd step
    next pull.NoMessages e there over step = absurd step

    by_settled : (o : Option Pull) → settled w side i ≡ o → MatchOption o (PullsNext setup w side i p new) (λ q. (p ≡ q) × (new ≡ w)) → Goes setup w side i writer id a new
    by_settled (Some q) e step =
        let says = settled_says w side i q e in
        subst (Goes setup w side i writer id a) (sym step.1)
        (nothing_moves r w w side i a writer id (keeps_same w) (gives.nothing (ap (λ x. contents_of (answer.Pulled x)) step.0 ∙ says.contents)) (λ x. says.ends (sym (gives.ends ∙ ap (λ y. is_end_of (answer.Pulled y)) step.0) ∙ x)))
    by_settled None e step =
        let looks = settled_none w side i e in
        next p refl (open_there w side i looks.is_there) looks.not_over step

-- the same of the answer of any pull
pulled_moves : (setup : Setup) (w new : World) (side : Side) (i : ℕ) (a : Answer) (writer : Side) (id : ℕ) → IsSoundWorld setup w → Step setup w (event.Pull side i) a new → MovesBy setup w (event.Pull side i) writer id a new
pulled_moves setup w new side i (answer.Pulled p) writer id h step =
    subst (λ b. PullMoves (reader_of setup writer) (flow w writer id) (flow new writer id) b (answer.Pulled p)) (sym (swapped writer side id i))
    (pull_moves setup w new side i p (answer.Pulled p) writer id h step (pulled_gives (reader_at setup side) (next_part (flow w (other side) i)) p))
pulled_moves setup w new side i (answer.Listed l) writer id h step = absurd step
pulled_moves setup w new side i (answer.Opened x) writer id h step = absurd step
pulled_moves setup w new side i answer.Done writer id h step = absurd step
pulled_moves setup w new side i (answer.Delivered n) writer id h step = absurd step
pulled_moves setup w new side i (answer.Short n) writer id h step = absurd step
pulled_moves setup w new side i answer.NoStream writer id h step = absurd step
pulled_moves setup w new side i answer.Early writer id h step = absurd step
pulled_moves setup w new side i (answer.Shown limits sizes n) writer id h step = absurd step
pulled_moves setup w new side i (answer.Refused r) writer id h step = absurd step

-- and of one with lists
listed_moves : (setup : Setup) (w new : World) (side : Side) (i : ℕ) (a : Answer) (writer : Side) (id : ℕ) → IsSoundWorld setup w → Step setup w (event.PullFields side i) a new → MovesBy setup w (event.PullFields side i) writer id a new
listed_moves setup w new side i (answer.Listed l) writer id h step =
    subst (λ b. PullMoves (reader_of setup writer) (flow w writer id) (flow new writer id) b (answer.Listed l)) (sym (swapped writer side id i))
    (pull_moves setup w new side i (pull_of l) (answer.Listed l) writer id h step.0 (listed_gives (reader_at setup side) (next_part (flow w (other side) i)) l step.1))
listed_moves setup w new side i (answer.Pulled p) writer id h step = absurd step
listed_moves setup w new side i (answer.Opened x) writer id h step = absurd step
listed_moves setup w new side i answer.Done writer id h step = absurd step
listed_moves setup w new side i (answer.Delivered n) writer id h step = absurd step
listed_moves setup w new side i (answer.Short n) writer id h step = absurd step
listed_moves setup w new side i answer.NoStream writer id h step = absurd step
listed_moves setup w new side i answer.Early writer id h step = absurd step
listed_moves setup w new side i (answer.Shown limits sizes n) writer id h step = absurd step
listed_moves setup w new side i (answer.Refused r) writer id h step = absurd step

-- the world after a delivery
pub world_is : (a : Answer) (new : World) (next : Answer × World) → (a, new) ≡ next → new ≡ next.1
world_is a new next e = ap (λ (x : Answer × World). x.1) e

-- **What each event changes of each flow.**
pub moved : (setup : Setup) (w new : World) (e : Event) (a : Answer) (writer : Side) (id : ℕ) → IsSoundWorld setup w → Step setup w e a new → MovesBy setup w e writer id a new
moved setup w new (event.Head side i head) a writer id h step = head_moves setup w new side i head a writer id h step
moved setup w new (event.Body side i bytes) a writer id h step = body_moves setup w new side i bytes a writer id h step
moved setup w new (event.Trailer side i trailer) a writer id h step = trailer_moves setup w new side i trailer a writer id h step
moved setup w new (event.Finish side i) a writer id h step = finish_moves setup w new side i a writer id h step
moved setup w new (event.Pull side i) a writer id h step = pulled_moves setup w new side i a writer id h step
moved setup w new (event.Fields side i fields) a writer id h step = fields_moves setup w new side i fields a writer id h step
moved setup w new (event.TrailerFields side i fields) a writer id h step = trailer_fields_moves setup w new side i fields a writer id h step
moved setup w new (event.PullFields side i) a writer id h step = listed_moves setup w new side i a writer id h step
moved setup w new (event.OpenRequest side) a writer id h step =
    does_cases (MovesBy setup w (event.OpenRequest side) writer id) (open_refusal setup w side) w (opened w) new (answer.Opened (next_id w)) a
    (λ r. kept_at setup w w writer id (keeps_same w)) (λ none. kept_at setup w (opened w) writer id (keeps_flows w (opened w) (flow_opened w))) step
moved setup w new (event.Reset side i) a writer id h step =
    does_cases (MovesBy setup w (event.Reset side i) writer id) (reset_refusal w side i) w (cut_off w side i) new answer.Done a
    (λ r. kept_at setup w w writer id (keeps_same w)) (λ none. kept_at setup w (cut_off w side i) writer id (reset_keeps w new side i none)) step
moved setup w new (event.Cancel side i) a writer id h step =
    does_cases (MovesBy setup w (event.Cancel side i) writer id) (cancel_refusal w side i) w (given_up w side i Canceled) new answer.Done a
    (λ r. kept_at setup w w writer id (keeps_same w)) (λ none. kept_at setup w (given_up w side i Canceled) writer id (cancel_keeps w new side i none)) step
moved setup w new (event.Goaway side i) a writer id h step =
    does_cases (MovesBy setup w (event.Goaway side i) writer id) (goaway_refusal w side i) w (with_goaway w side i) new answer.Done a
    (λ r. kept_at setup w w writer id (keeps_same w))
    (λ none. kept_at setup w (with_goaway w side i) writer id (keeps_with_party w side (record (party w side) { own = record (party w side).own { goaways = (party w side).own.goaways ++ i ∷ [] } }))) step
moved setup w new (event.Deliver side i count) a writer id h step =
    kept_at setup w new writer id (subst (KeepsParts w) (sym (world_is a new (delivery setup w side i count) step)) (keeps_delivery setup w side i count))
moved setup w new (event.DeliverEnd side i) a writer id h step =
    kept_at setup w new writer id (subst (KeepsParts w) (sym (world_is a new (end_delivery setup w side i) step)) (keeps_end setup w side i))
moved setup w new (event.DeliverReset side i) a writer id h step =
    kept_at setup w new writer id (subst (KeepsParts w) (sym (world_is a new (reset_delivery w side i) step)) (keeps_reset w side i))
moved setup w new (event.Show side) a writer id h step = kept_at setup w new writer id (subst (KeepsParts w) (sym step.1) (keeps_same w))
