-- What a list breaks as it is sent: by itself, and, of a server's answer, by what was asked.
use Rattle.std.proofs.Common.{◌≡◌, ℕ, Bool, true, false, if◌then◌else◌, List, Option, None, refl, ap, sym, subst, ◌∙◌}
use Rattle.std.specs.Prelude.{◌≢◌, ◌&&◌, option_map}
use Rattle.h3_field.specs.Field.{Field}
use Rattle.h3_connection.specs.Remembering.{settings_known}
use Rattle.h3_connection.specs.State.{EndpointState, kept_at}
use Rattle.h3_connection.specs.StrictMessages.{malformation_by}
use Rattle.h3_connection.specs.StrictSending.{peer_connects, violation_of_own_head}
use Rattle.h3_connection.specs.declared.event.Malformation.{Malformation}
use Rattle.h3_connection.specs.declared.place.SendPlace.{SendPlace}
use Rattle.h3_connection.specs.declared.setup.Announced.{Announced}
use Rattle.h3_connection.specs.declared.place.SendPlace.TheVariants.{HeadSent, NothingSent, TrailerSent}
use Rattle.h3_messages.specs.OwnMessageLaws.{unasked_answer}
use Rattle.h3_messages.specs.OwnMessages.{awaits_tunnel, or_broken, violation_of_own_response, violation_of_own_trailer}
use Rattle.h3_messages.specs.declared.content.Content.{Content}
use Rattle.h3_messages.specs.declared.response_said.ResponseSaid.{ResponseSaid}
use Rattle.h3_messages.specs.declared.violation.Violation.{Violation}
use Rattle.h3_messages.specs.declared.violation.Violation.TheVariants.{ContentLength}
use Rattle.h3_proto.specs.declared.stream.Side.{Side}
use Rattle.h3_proto.specs.declared.stream.Side.TheVariants.{Client, Server}
use Rattle.h3_requests.specs.Refused.{known_in}
use Rattle.h3_session.specs.Refused.{broken_behind, violation_behind}
use Rattle.h3_session.specs.SentHeads.{IsJudgedAs, IsReadAt, IsReadOf, IsReadWhere, IsSaid, IsSaidBy, says_length_of_tunnel, violation_of_own_list}
use Rattle.h3_messages.specs.Judging.{broken_by, said_by}
use Rattle.h3_messages.specs.declared.judging.Judgment.{Judgment}
use Rattle.h3_messages.specs.declared.said.Said.{Said}
use Rattle.h3_messages.specs.declared.said.Said.TheVariants.{Nothing, Request, Response}
use Rattle.h3_messages.specs.declared.section.Rules.{Rules}
use Rattle.h3_messages.specs.declared.section.Section.TheVariants.{Trailer}
use Rattle.h3_session.specs.JudgedLists.{head_section}

module _ (settings : Option (List (ℕ × ℕ))) (known : Option Content) (fields : List Field) (v : Option Violation) where
  by_said : (side : Side) (said : Said) → IsSaidBy side fields said → v ≡ violation_of_own_list side settings fields
      → or_broken v (says_length_of_tunnel said && awaits_tunnel known) ContentLength ≡ violation_of_own_head side settings known fields
  by_said side Nothing told e = absurd told
  by_said Client (Request awaited _) told e = unasked_answer v _ ContentLength refl ∙ e
  by_said Server (Request awaited _) told e = absurd (let wrong : Server ≡ Client = told.0 in cc)
  by_said Client (Response said) told e = absurd (let wrong : Client ≡ Server = told.0 in cc)
  by_said Server (Response said) told e =
      ap (λ w. or_broken w (said.says_tunnel_length && awaits_tunnel known) ContentLength) e
      ∙ ap (λ (s : ResponseSaid). or_broken (violation_of_own_response fields) (s.says_tunnel_length && awaits_tunnel known) ContentLength) told.1

pub answer_breaks : (settings : Option (List (ℕ × ℕ))) (known : Option Content) (fields : List Field) (side : Side) (read : Judgment) (told : Option Violation)
    → told ≡ or_broken read.violation (says_length_of_tunnel read.said && awaits_tunnel known) ContentLength → IsReadOf side settings fields read
    → told ≡ violation_of_own_head side settings known fields
answer_breaks settings known fields side read told is h = is ∙ by_said settings known fields read.violation side read.said h.1 h.0

-- what was read of a list is broken on its stream
silent_breaks : (known : Option Content) (read : Judgment) (told v : Option Violation)
    → told ≡ or_broken read.violation (says_length_of_tunnel read.said && awaits_tunnel known) ContentLength → read.violation ≡ v → read.said ≡ Nothing → told ≡ v
silent_breaks known read told v is same none =
    is ∙ ap (λ w. or_broken w (says_length_of_tunnel read.said && awaits_tunnel known) ContentLength) same
    ∙ ap (λ q. or_broken v (says_length_of_tunnel q && awaits_tunnel known) ContentLength) none ∙ unasked_answer v _ ContentLength refl

abbrev broken_as : Bool → Option Violation → Option Malformation
broken_as strict v = if strict then option_map malformation_by v else None

broken_where : (place : SendPlace) (strict : Bool) (s : EndpointState) (id : ℕ) (fields : List Field) (read : Judgment) (told : Option Violation)
    → told ≡ or_broken read.violation (says_length_of_tunnel read.said && awaits_tunnel (known_in (kept_at s.requests id))) ContentLength
    → IsReadWhere strict place s.side (settings_known s.announced s.peer.settings) fields read → broken_as strict (violation_behind place s id fields) ≡ option_map malformation_by told
broken_where NothingSent true s id fields read told is of =
    ap (option_map malformation_by) (sym (answer_breaks (settings_known s.announced s.peer.settings) (known_in (kept_at s.requests id)) fields s.side read told is of))
broken_where HeadSent true s id fields read told is of =
    ap (option_map malformation_by) (sym (answer_breaks (settings_known s.announced s.peer.settings) (known_in (kept_at s.requests id)) fields s.side read told is of))
broken_where TrailerSent true s id fields read told is of =
    ap (option_map malformation_by) (sym (silent_breaks (known_in (kept_at s.requests id)) read told (violation_of_own_trailer fields) is of.0 of.1))
broken_where NothingSent false s id fields read told is of =
    ap (option_map malformation_by) (sym (silent_breaks (known_in (kept_at s.requests id)) read told None is of.0 of.1))
broken_where HeadSent false s id fields read told is of =
    ap (option_map malformation_by) (sym (silent_breaks (known_in (kept_at s.requests id)) read told None is of.0 of.1))
broken_where TrailerSent false s id fields read told is of =
    ap (option_map malformation_by) (sym (silent_breaks (known_in (kept_at s.requests id)) read told None is of.0 of.1))

pub read_breaks : (place : SendPlace) (s : EndpointState) (id : ℕ) (fields : List Field) (read : Judgment) (told : Option Violation)
    → told ≡ or_broken read.violation (says_length_of_tunnel read.said && awaits_tunnel (known_in (kept_at s.requests id))) ContentLength → IsReadAt place s fields read
    → broken_behind place s id fields ≡ option_map malformation_by told
read_breaks place s id fields read told is h = broken_where place s.announced.choices.strict_messages s id fields read told is h

-- what a head was told to say is said where rules are asked
said_so : (side : Side) (own : Announced) (fields : List Field) (said : Said) → own.choices.strict_messages ≡ true → IsSaidBy side fields said → IsSaid side own fields said
said_so side own fields Nothing is of = absurd of
said_so side own fields (Request awaited _) is of = (is, of)
said_so side own fields (Response said) is of = (is, of)

said_none : (side : Side) (own : Announced) (fields : List Field) (said : Said) → own.choices.strict_messages ≡ false → said ≡ Nothing → IsSaid side own fields said
said_none side own fields said is none = subst (IsSaid side own fields) (sym none) is

says_where : (place : SendPlace) (strict : Bool) (s : EndpointState) (fields : List Field) (read : Judgment) → s.announced.choices.strict_messages ≡ strict → place ≢ TrailerSent
    → IsReadWhere strict place s.side (settings_known s.announced s.peer.settings) fields read → IsSaid s.side s.announced fields read.said
says_where NothingSent true s fields read is differs of = said_so s.side s.announced fields read.said is of.1
says_where HeadSent true s fields read is differs of = said_so s.side s.announced fields read.said is of.1
says_where TrailerSent true s fields read is differs of = absurd (differs refl)
says_where NothingSent false s fields read is differs of = said_none s.side s.announced fields read.said is of.1
says_where HeadSent false s fields read is differs of = said_none s.side s.announced fields read.said is of.1
says_where TrailerSent false s fields read is differs of = absurd (differs refl)

pub read_says : (place : SendPlace) (s : EndpointState) (fields : List Field) (read : Judgment) → place ≢ TrailerSent → IsReadAt place s fields read → IsSaid s.side s.announced fields read.said
read_says place s fields read differs h = says_where place s.announced.choices.strict_messages s fields read refl differs h

-- what a list was judged as is what was read of it in its place
abbrev rules_by : Bool → Bool → Option (List (ℕ × ℕ)) → Rules
rules_by strict any settings = record { is_sent = true; strict_messages = strict; any_protocol = any; extended_connect = peer_connects settings }

says_head : (side : Side) (any : Bool) (settings : Option (List (ℕ × ℕ))) (fields : List Field) → IsSaidBy side fields (said_by (head_section side) (rules_by true any settings) fields)
says_head Client any settings fields = (refl, refl, refl)
says_head Server any settings fields = (refl, refl)

breaks_head : (side : Side) (any : Bool) (settings : Option (List (ℕ × ℕ))) (fields : List Field) → broken_by (head_section side) (rules_by true any settings) fields ≡ violation_of_own_list side settings fields
breaks_head Client any settings fields = refl
breaks_head Server any settings fields = refl

head_where : (strict any : Bool) (place : SendPlace) (side : Side) (settings : Option (List (ℕ × ℕ))) (fields : List Field) (read : Judgment) → place ≢ TrailerSent
    → read.violation ≡ broken_by (head_section side) (rules_by strict any settings) fields → read.said ≡ said_by (head_section side) (rules_by strict any settings) fields
    → IsReadWhere strict place side settings fields read
head_where false any place side settings fields read differs broken said = (broken, said)
head_where true any NothingSent side settings fields read differs broken said =
    (broken ∙ breaks_head side any settings fields, subst (IsSaidBy side fields) (sym said) (says_head side any settings fields))
head_where true any HeadSent side settings fields read differs broken said =
    (broken ∙ breaks_head side any settings fields, subst (IsSaidBy side fields) (sym said) (says_head side any settings fields))
head_where true any TrailerSent side settings fields read differs broken said = absurd (differs refl)

trailer_where : (strict any : Bool) (side : Side) (settings : Option (List (ℕ × ℕ))) (fields : List Field) (read : Judgment)
    → read.violation ≡ broken_by Trailer (rules_by strict any settings) fields → read.said ≡ said_by Trailer (rules_by strict any settings) fields
    → IsReadWhere strict TrailerSent side settings fields read
trailer_where false any side settings fields read broken said = (broken, said)
trailer_where true any side settings fields read broken said = (broken, said)

pub head_read : (place : SendPlace) (s : EndpointState) (fields : List Field) (read : Judgment) → place ≢ TrailerSent → IsJudgedAs (head_section s.side) s fields read → IsReadAt place s fields read
head_read place s fields read differs h =
    head_where s.announced.choices.strict_messages s.announced.choices.extensions.any_protocol place s.side (settings_known s.announced s.peer.settings) fields read differs h.0 h.1

pub trailer_read : (s : EndpointState) (fields : List Field) (read : Judgment) → IsJudgedAs Trailer s fields read → IsReadAt TrailerSent s fields read
trailer_read s fields read h =
    trailer_where s.announced.choices.strict_messages s.announced.choices.extensions.any_protocol s.side (settings_known s.announced s.peer.settings) fields read h.0 h.1

-- which is so where the same is stored but of the streams
pub read_alike : (place : SendPlace) (s n : EndpointState) (fields : List Field) (read : Judgment) → n ≡ record s { requests = n.requests } → IsReadAt place s fields read → IsReadAt place n fields read
read_alike place s n fields read rest h = subst (λ v. IsReadAt place v fields read) (sym rest) h
