-- An endpoint that got what is kept sends as the one behind, and is left ahead of what that one is left: heads, trailers, ends of messages, GOAWAY
-- frames.
use Rattle.std.proofs.Common.{◌≡◌, ℕ, Bool, true, false, not, List, [], ◌∷◌, ◌++◌, refl, sym, ap, ◌∙◌, Option, Some, None, if◌then◌else◌}
use Rattle.std.specs.Prelude.{map, is_some, unwrap_or, option_map}
use Rattle.h3_field.specs.Field.{Field, section_size}
use Rattle.h3_header.specs.Head.{Head, has_pseudo}
use Rattle.h3_connection.specs.OwnIds.{other}
use Rattle.h3_connection.specs.Remembering.{settings_known}
use Rattle.h3_connection.specs.declared.arrival.Arrival.{Arrival}
use Rattle.h3_connection.specs.Endpoint.{EndpointHistory}
use Rattle.h3_connection.specs.Incoming.{Incoming}
use Rattle.h3_connection.specs.Outgoing.{Outgoing, OwnPart, nothing_sent, takes_head, takes_body, takes_end, with_finish, with_reset}
use Rattle.h3_connection.specs.Outgoing.OwnPart.{OwnTrailer}
use Rattle.h3_connection.specs.Pulling.{is_for}
use Rattle.h3_connection.specs.Sections.{written_section}
use Rattle.h3_connection.specs.Lasts.{last_id}
use Rattle.h3_connection.specs.Refusals.{first_of, is_too_large, refusal_of_head, refusal_of_trailer, unless_going}
use Rattle.h3_connection.specs.Sending.{does, closed_or, unless_closed, sender_at, finish_refusal, goaway_refusal, with_outgoing, outgoing_at, counted, encoded, appended, fields_cost, head_part, asked, finish, goaway, broken_head_at, known_of}
use Rattle.h3_connection.specs.StreamSets.{Streams, stream_at, set_stream}
use Rattle.h3_connection.specs.StrictConnection.{begins_none_after}
use Rattle.h3_connection.specs.StrictSending.{broken_trailer, early_trailer, unless_malformed, violation_of_own_head}
use Rattle.h3_messages.specs.Content.{may_end}
use Rattle.h3_connection.specs.declared.event.Malformation.{Malformation}
use Rattle.h3_connection.specs.declared.event.Malformation.TheVariants as malformation
use Rattle.h3_connection.specs.declared.event.Refusal.{Refusal}
use Rattle.h3_connection.specs.declared.event.Refusal.TheVariants as refusal
use Rattle.h3_memory.specs.Kept.{Delivery}
use Rattle.h3_memory.specs.Keeping.{Held, ahead, handed_stream}
use Rattle.h3_memory.proofs.Ahead.{further_taken, at_mapped, set_mapped}
use Rattle.h3_connection.specs.StrictMessages.{malformation_by}

-- The rules of a stream go by what was sent on it.
abbrev pub judged : Option ℕ → (Outgoing → List (Bool × Refusal)) → Option Outgoing → Option Refusal
judged closed rules o = closed_or closed (first_of ((not (is_some o), refusal.NotOpen) ∷ rules (unwrap_or o nothing_sent)))

-- where none of them refuses, the stream is open
pub goes_open : (closed : Option ℕ) (rules : Outgoing → List (Bool × Refusal)) (o : Option Outgoing) → judged closed rules o ≡ None → is_some o ≡ true
goes_open None rules (Some o) e = refl
goes_open None rules None e = cc
goes_open (Some code) rules o e = cc

module _ (mine : List Delivery) where
  pub judged_ahead : (closed : Option ℕ) (rules : Outgoing → List (Bool × Refusal)) (streams : Streams Outgoing) (id : ℕ) → ((o : Outgoing) → rules (further_taken mine id o) ≡ rules o)
      → judged closed rules (stream_at (map (handed_stream mine) streams) id) ≡ judged closed rules (stream_at streams id)
  judged_ahead closed rules streams id same = ap (judged closed rules) (at_mapped mine streams id) ∙ by_stream (stream_at streams id)
    where
      by_stream : (o : Option Outgoing) → judged closed rules (option_map (further_taken mine id) o) ≡ judged closed rules o
      by_stream None = refl
      by_stream (Some o) = ap (λ l. closed_or closed (first_of l)) (same o)

  -- a change that what was taken has no part in
  pub changed_ahead : (streams : Streams Outgoing) (id : ℕ) (change : Outgoing → Outgoing) → ((o : Outgoing) → change (further_taken mine id o) ≡ further_taken mine id (change o)) → is_some (stream_at streams id) ≡ true
      → set_stream (map (handed_stream mine) streams) id (change (unwrap_or (stream_at (map (handed_stream mine) streams) id) nothing_sent))
      ≡ map (handed_stream mine) (set_stream streams id (change (unwrap_or (stream_at streams id) nothing_sent)))
  changed_ahead streams id change moves there =
      ap (λ o. set_stream (map (handed_stream mine) streams) id (change (unwrap_or o nothing_sent))) (at_mapped mine streams id) ∙ by_stream (stream_at streams id) there
    where
      by_stream : (o : Option Outgoing) → is_some o ≡ true
          → set_stream (map (handed_stream mine) streams) id (change (unwrap_or (option_map (further_taken mine id) o) nothing_sent))
          ≡ map (handed_stream mine) (set_stream streams id (change (unwrap_or o nothing_sent)))
      by_stream None e = cc
      by_stream (Some o) e = ap (set_stream (map (handed_stream mine) streams) id) (moves o) ∙ set_mapped mine streams id (change o)

unless_set : (e : EndpointHistory) (there : Streams Incoming) (sent : Streams Outgoing) (b : Bool) → b ≡ false
    → record e { incoming = if b then there else e.incoming; outgoing = if b then sent else e.outgoing } ≡ e
unless_set e there sent b none = ap (λ t. let g : EndpointHistory = record e { incoming = if t then there else e.incoming; outgoing = if t then sent else e.outgoing } in g) none

-- An end that asks for no strict messages remembers nothing of a head.
pub asks_nothing : (e : EndpointHistory) (id : ℕ) (fields : List Field) → e.announced.choices.strict_messages ≡ false → asked e id fields ≡ e
asks_nothing e id fields plain = unless_set e _ _ e.announced.choices.strict_messages plain

-- A head, or a trailer, that goes out as these fields, where it is malformed for this reason, and breaks this rule.
abbrev head_by : EndpointHistory → ℕ → Option Malformation → Option Malformation → Head → List Field → Option Refusal × EndpointHistory
head_by e id told broken head fields =
    does (unless_closed e (refusal_of_head (sender_at e id) told broken head fields)) e
    (asked (counted (appended (encoded e id fields) id (head_part head (written_section e.encoder id fields))) (fields_cost fields)) id fields)

abbrev pub head_as : EndpointHistory → ℕ → Option Malformation → Head → List Field → Option Refusal × EndpointHistory
head_as e id told head fields = head_by e id told (broken_head_at e id fields) head fields

-- An end that asks for no strict messages judges by no rule of them.
judges_nothing : (e : EndpointHistory) (id : ℕ) (told : Option Malformation) (head : Head) (fields : List Field) → e.announced.choices.strict_messages ≡ false → head_as e id told head fields ≡ head_by e id told None head fields
judges_nothing e id told head fields plain =
    ap (λ b. let rule : Option Malformation = if b then option_map malformation_by (violation_of_own_head e.side (settings_known e.announced e.peer.settings) (known_of (stream_at e.incoming id)) fields) else None in head_by e id told rule head fields) plain

abbrev pub trailer_as : EndpointHistory → ℕ → Option Malformation → Head → List Field → Option Refusal × EndpointHistory
trailer_as e id told head fields =
    does (unless_closed e (refusal_of_trailer (sender_at e id) told (early_trailer (outgoing_at e id).content) (broken_trailer e.announced fields) head fields)) e
    (counted (appended (encoded e id fields) id (OwnTrailer (written_section e.encoder id fields))) (fields_cost fields))

module _ (mine : List Delivery) (held : Held) (incoming : Streams Incoming) (kept : List Arrival) (behind : EndpointHistory) where
  abbrev f : EndpointHistory
  f = ahead behind mine held incoming kept

  abbrev lifted : Option Refusal × EndpointHistory → Option Refusal × EndpointHistory
  lifted x = (x.0, ahead x.1 mine held incoming kept)

  -- a call that is refused as there
  done_ahead : (r : Option Refusal) (new old : EndpointHistory) → (r ≡ None → new ≡ ahead old mine held incoming kept) → does r (ahead behind mine held incoming kept) new ≡ lifted (does r behind old)
  done_ahead (Some x) new old goes = refl
  done_ahead None new old goes = ap (λ e. (None, e)) (goes refl)

  -- a section that goes out
  section_ahead : (id : ℕ) (fields : List Field) (own : List ℕ → OwnPart) → is_some (stream_at behind.outgoing id) ≡ true
      → counted (appended (encoded (ahead behind mine held incoming kept) id fields) id (own (written_section (ahead behind mine held incoming kept).encoder id fields))) (fields_cost fields)
      ≡ ahead (counted (appended (encoded behind id fields) id (own (written_section behind.encoder id fields))) (fields_cost fields)) mine held incoming kept
  section_ahead id fields own there =
      ap (λ l. record (ahead (counted (encoded behind id fields) (fields_cost fields)) mine held incoming kept) { outgoing = l })
      (changed_ahead mine behind.outgoing id (λ o. record o { parts = o.parts ++ own (written_section behind.encoder id fields) ∷ [] }) (λ o. refl) there)

  -- **A head, or a list.** An end that judges plainly remembers nothing of a request.
  pub head_ahead : behind.announced.choices.strict_messages ≡ false → (id : ℕ) (told : Option Malformation) (head : Head) (fields : List Field) → head_as (ahead behind mine held incoming kept) id told head fields ≡ lifted (head_as behind id told head fields)
  head_ahead plain id told head fields =
      judges_nothing f id told head fields plain
      ∙ ap (λ r. does r f (asked (sent f) id fields)) (judged_ahead mine behind.closed rules behind.outgoing id (λ o. refl))
      ∙ done_ahead (judged behind.closed rules (stream_at behind.outgoing id)) (asked (sent f) id fields) (asked (sent behind) id fields)
      (λ goes. asks_nothing (sent f) id fields plain ∙ section_ahead id fields (head_part head) (goes_open behind.closed rules (stream_at behind.outgoing id) goes)
      ∙ ap (λ e. ahead e mine held incoming kept) (sym (asks_nothing (sent behind) id fields plain)))
      ∙ ap lifted (sym (judges_nothing behind id told head fields plain))
    where
      sent : EndpointHistory → EndpointHistory
      sent e = counted (appended (encoded e id fields) id (head_part head (written_section e.encoder id fields))) (fields_cost fields)

      rules : Outgoing → List (Bool × Refusal)
      rules o =
          (not (takes_head o), refusal.OutOfOrder)
          ∷ unless_going (begins_none_after behind.announced behind.side (last_id behind.peer.goaways))
          (unless_malformed told
          ((not (is_for (other behind.side) head), refusal.WrongSide)
          ∷ (is_too_large (settings_known behind.announced behind.peer.settings) fields, refusal.TooLarge (section_size fields)) ∷ []))

  -- **A trailer.**
  pub trailer_ahead : (id : ℕ) (told : Option Malformation) (head : Head) (fields : List Field) → trailer_as (ahead behind mine held incoming kept) id told head fields ≡ lifted (trailer_as behind id told head fields)
  trailer_ahead id told head fields =
      ap (λ r. does r f (counted (appended (encoded f id fields) id (OwnTrailer (written_section f.encoder id fields))) (fields_cost fields))) (judged_ahead mine behind.closed rules behind.outgoing id (λ o. refl))
      ∙ done_ahead (judged behind.closed rules (stream_at behind.outgoing id)) (counted (appended (encoded f id fields) id (OwnTrailer (written_section f.encoder id fields))) (fields_cost fields))
      (counted (appended (encoded behind id fields) id (OwnTrailer (written_section behind.encoder id fields))) (fields_cost fields))
      (λ goes. section_ahead id fields OwnTrailer (goes_open behind.closed rules (stream_at behind.outgoing id) goes))
    where
      rules : Outgoing → List (Bool × Refusal)
      rules o =
          (not (takes_body o), refusal.OutOfOrder)
          ∷ unless_malformed told
          ((has_pseudo head, refusal.PseudoInTrailer)
          ∷ unless_malformed (early_trailer o.content) (unless_malformed (broken_trailer behind.announced fields) ((is_too_large (settings_known behind.announced behind.peer.settings) fields, refusal.TooLarge (section_size fields)) ∷ [])))

  -- **The end of a message.**
  pub finish_ahead : (id : ℕ) → finish (ahead behind mine held incoming kept) id ≡ lifted (finish behind id)
  finish_ahead id =
      ap (λ r. does r f (with_outgoing f id (with_finish (outgoing_at f id)))) (judged_ahead mine behind.closed rules behind.outgoing id (λ o. refl))
      ∙ done_ahead (finish_refusal behind id) (with_outgoing f id (with_finish (outgoing_at f id))) (with_outgoing behind id (with_finish (outgoing_at behind id)))
      (λ goes. ap (λ l. record f { outgoing = l }) (changed_ahead mine behind.outgoing id with_finish (λ o. refl) (goes_open behind.closed rules (stream_at behind.outgoing id) goes)))
    where
      rules : Outgoing → List (Bool × Refusal)
      rules o = (not (takes_end o), refusal.OutOfOrder) ∷ (not (may_end o.content), refusal.Malformed malformation.ContentLength) ∷ []

  -- what a reset leaves, where the stream is open
  pub cut_ahead : (id : ℕ) → is_some (stream_at behind.outgoing id) ≡ true
      → with_outgoing (ahead behind mine held incoming kept) id (with_reset (outgoing_at (ahead behind mine held incoming kept) id))
      ≡ ahead (with_outgoing behind id (with_reset (outgoing_at behind id))) mine held incoming kept
  cut_ahead id there = ap (λ l. record f { outgoing = l }) (changed_ahead mine behind.outgoing id with_reset (λ o. refl) there)

  -- **A GOAWAY frame.**
  pub goaway_ahead : (id : ℕ) → goaway (ahead behind mine held incoming kept) id ≡ lifted (goaway behind id)
  goaway_ahead id =
      done_ahead (goaway_refusal behind id) (record f { own = record f.own { goaways = f.own.goaways ++ id ∷ [] } }) (record behind { own = record behind.own { goaways = behind.own.goaways ++ id ∷ [] } }) (λ goes. refl)
