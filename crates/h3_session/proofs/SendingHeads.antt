-- What a head or trailer that is sent does to what is stored is what its contract says.
use Rattle.std.proofs.Common.{◌≡◌, ℕ, Bool, true, false, if◌then◌else◌, List, [], ◌∷◌, ◌++◌, take, Option, Some, None, Result, Err, refl, ap, sym, subst, ◌∙◌}
use Rattle.std.specs.Prelude.{◌≢◌, not, ◌&&◌, unwrap_or}
use Rattle.h3_field.specs.Field.{Field, section_size}
use Rattle.h3_header.specs.Head.{Head}
use Rattle.h3_outgoing.specs.Sent as sent
use Rattle.h3_connection.specs.Answers.{call_refused}
use Rattle.h3_connection.specs.Remembering.{settings_known}
use Rattle.h3_connection.specs.Calls.{IsSame, AllSame}
use Rattle.h3_connection.specs.Endpoint.{EndpointHistory}
use Rattle.h3_connection.specs.Outgoing.{OwnPart, OwnInterim, OwnHead, OwnTrailer, is_unsent}
use Rattle.h3_connection.specs.Pulling.{is_interim}
use Rattle.h3_connection.specs.Sections.{written_section, with_insertions}
use Rattle.h3_connection.specs.Refusals.{first_of, is_too_large, or_later}
use Rattle.h3_connection.specs.Sending.{does, closed_or, appended, encoded, outgoing_at, fields_cost, counted, head_part}
use Rattle.h3_connection.specs.SendingContracts.{CutsOff, MayLackMemory, SendsSection}
use Rattle.h3_connection.specs.State.{EndpointState, RequestState, StandsFor, kept_at, place_of}
use Rattle.h3_connection.specs.StreamSets.{Streams}
use Rattle.h3_connection.specs.StrictSending.{broken_head, broken_trailer, unless_malformed}
use Rattle.h3_connection.specs.declared.event.Malformation.{Malformation}
use Rattle.h3_connection.specs.WaitingPieces.{piece_of, frame_piece}
use Rattle.h3_connection.specs.declared.event.Refusal.{Refusal}
use Rattle.h3_connection.specs.declared.event.Refusal.TheVariants as refusal
use Rattle.h3_connection.specs.declared.place.SendPlace.{SendPlace}
use Rattle.h3_connection.specs.declared.place.SendPlace.TheVariants.{NothingSent, HeadSent, TrailerSent}
use Rattle.h3_requests.specs.Refused.{head_refused_at, body_refused_at, early_trailer_at, known_in}
use Rattle.h3_session.proofs.Opened.{stands_same}
use Rattle.h3_session.specs.SendingLists.{IsJudgedOr, NotMalformed, SendsJudged, SendsJudgedHead, SendsJudgedTrailer, SendsListedHead, SendsListedTrailer, after_head, after_trailer, listed_head_refusal, listed_trailer_refusal, refusal_after, send_listed_head, send_listed_trailer}
use Rattle.h3_session.specs.Refused.{list_refused, refused_behind, broken_behind, own_head_refused, own_trailer_refused, head_refused, trailer_refused, going_refused, head_refused_in, broken_head_in}
use Rattle.h3_session.proofs.ReceivingCancel.{requests_same}
use Rattle.h3_session.specs.SendingFields.{IsPart, SendsFields, asking}
use Rattle.h3_session.proofs.Parts.{before_head, in_body, place_pushed}
use Rattle.h3_session.proofs.SendingBodies.{TakesBody}
use Rattle.h3_session.proofs.SendingCalls.{was_done, was_refused, sender_of, same_itself}
use Rattle.h3_session.proofs.SendingRefusals.{head_refusal_is, trailer_refusal_is, head_takes_none, trailer_takes_none}
use Rattle.h3_session.proofs.SendingSections.{not_begun}

-- A section by its rule, which ends in the size, and by the part that it is.
lacks_by : (e f : EndpointHistory) (broken : Option Malformation) (b : Bool) (size : ℕ) → MayLackMemory (does (first_of (unless_malformed broken ((b, refusal.TooLarge size) ∷ []))) e f).0
lacks_by e f (Some why) b size = tt
lacks_by e f None true size = tt
lacks_by e f None false size = tt

sized_only : (e f : EndpointHistory) (b : Bool) (size : ℕ) → NotMalformed (does (first_of ((b, refusal.TooLarge size) ∷ [])) e f).0
sized_only e f true size = tt
sized_only e f false size = tt

module _ (rule : EndpointHistory → Option Refusal) (after : EndpointHistory → EndpointHistory) (old : EndpointState) (id : ℕ) (fields : List Field) (broken : Option Malformation) where
  -- a list that breaks no rule
  unbroken_told : ((e : EndpointHistory) → StandsFor old e → rule e ≡ list_refused broken (settings_known old.announced old.peer.settings) fields) → broken ≡ None → (e : EndpointHistory) → StandsFor old e → NotMalformed (does (rule e) e (after e)).0
  unbroken_told is none e h =
      subst (λ o. NotMalformed (does o e (after e)).0) (sym (is e h))
      (subst (λ b. NotMalformed (does (list_refused b (settings_known old.announced old.peer.settings) fields) e (after e)).0) (sym none) (sized_only e (after e) (is_too_large (settings_known old.announced old.peer.settings) fields) (section_size fields)))

  may_lack : ((e : EndpointHistory) → StandsFor old e → rule e ≡ list_refused broken (settings_known old.announced old.peer.settings) fields) → (e : EndpointHistory) → StandsFor old e → MayLackMemory (does (rule e) e (after e)).0
  may_lack is e h =
      subst (λ o. MayLackMemory (does o e (after e)).0) (sym (is e h)) (lacks_by e (after e) broken (is_too_large (settings_known old.announced old.peer.settings) fields) (section_size fields))

  pub section_refused : (r : Refusal) → ((e : EndpointHistory) → StandsFor old e → rule e ≡ Some r) → r ≢ refusal.OutOfMemory → SendsSection (λ e. does (rule e) e (after e)) old old id fields (Some r)
  section_refused r is is_rule =
      record {
        done = λ e h not_memory. was_refused e (after e) old (rule e) r (is e h) h;
        same = λ refused not_memory. same_itself old;
        memory = λ e h memory. absurd (is_rule (cc));
        too_large = λ e h memory some. absurd (is_rule (cc));
      }

  pub section_lacks : ((e : EndpointHistory) → StandsFor old e → rule e ≡ list_refused broken (settings_known old.announced old.peer.settings) fields) → SendsSection (λ e. does (rule e) e (after e)) old old id fields (Some refusal.OutOfMemory)
  section_lacks is =
      record {
        done = λ e h not_memory. absurd (not_memory refl);
        same = λ refused not_memory. absurd (not_memory refl);
        memory = λ e h memory. (may_lack is e h, not_begun old e id fields h);
        too_large = λ e h memory some. same_itself old;
      }

  done_by : (new : EndpointState) (e : EndpointHistory) (refused : Option Refusal) → StandsFor old e → rule e ≡ refused → (refused ≡ None → StandsFor new (after e)) → (refused ≢ None → new ≡ old)
      → (refused ≡ (does (rule e) e (after e)).0) × StandsFor new (does (rule e) e (after e)).1
  done_by new e None h is stands same = was_done e (after e) new (rule e) is (stands refl)
  done_by new e (Some r) h is stands same = was_refused e (after e) new (rule e) r is (subst (λ v. StandsFor v e) (sym (same (λ never. absurd (cc)))) h)

  section_sends : (behind : EndpointHistory → EndpointHistory) (new : EndpointState) (place : SendPlace) (refused : Option Refusal) (part : EndpointHistory → OwnPart)
      → ((e : EndpointHistory) → StandsFor old e → rule e ≡ list_refused broken (settings_known old.announced old.peer.settings) fields) → ((e : EndpointHistory) → StandsFor old e → IsPart e id fields place (part e))
      → ((e : EndpointHistory) → after e ≡ behind (counted (appended (encoded e id fields) id (part e)) (fields_cost fields)))
      → broken ≡ broken_behind place old id fields → SendsFields behind old new id fields place refused → SendsSection (λ e. does (rule e) e (after e)) old new id fields refused
  section_sends behind new place refused part is parts afters rules h =
      let same_list : refused_behind old id place fields ≡ list_refused broken (settings_known old.announced old.peer.settings) fields = ap (λ b. list_refused b (settings_known old.announced old.peer.settings) fields) (sym rules) in
      record {
        done = λ e stands not_memory.
            done_by new e refused stands (is e stands ∙ sym (h.list not_memory ∙ same_list)) (λ none. subst (StandsFor new) (sym (afters e)) (h.done none e (part e) stands (parts e stands))) (λ some. h.same some not_memory);
        same = λ some not_memory. subst (λ v. IsSame old v) (sym (h.same some not_memory)) (same_itself old);
        memory = λ e stands memory. (may_lack is e stands, h.memory memory e stands);
        too_large = λ e stands memory some.
            subst (λ v. IsSame old v) (sym (h.too_large memory (λ none. some (ap (λ o. (does o e (after e)).0) (is e stands ∙ sym same_list ∙ none))))) (same_itself old);
      }

-- The call begins over streams that are found as they were: it is refused there,
module _ (act : EndpointHistory → Option Refusal × EndpointHistory) (s : EndpointState) (id : ℕ) (fields : List Field) (mid : Streams RequestState) (same : AllSame s.requests mid) where
  cut_alike : (e : EndpointHistory) → CutsOff e id fields s → CutsOff e id fields (record s { requests = mid })
  cut_alike e cut = record { front = cut.front; within = cut.within; stands = stands_same s (with_insertions e id (take cut.front fields)) mid cut.stands same }

  pub section_alike : (r : Refusal) → SendsSection act s s id fields (Some r) → SendsSection act s (record s { requests = mid }) id fields (Some r)
  section_alike r h =
      record {
        done = λ e stands not_memory. ((h.done e stands not_memory).0, stands_same s (act e).1 mid (h.done e stands not_memory).1 same);
        same = λ some not_memory. requests_same s (record s { requests = mid }) refl same refl;
        memory = λ e stands memory. ((h.memory e stands memory).0, cut_alike e (h.memory e stands memory).1);
        too_large = λ e stands memory refused. requests_same s (record s { requests = mid }) refl same refl;
      }

  begun_same : (new : EndpointState) → IsSame (record s { requests = mid }) new → IsSame s new
  begun_same new is =
      record {
        rest = record {
          side = is.rest.side;
          announced = is.rest.announced;
          closed = is.rest.closed;
          control_on = is.rest.control_on;
          encoder_on = is.rest.encoder_on;
          decoder_on = is.rest.decoder_on;
          peer = is.rest.peer;
          decoding = is.rest.decoding;
          encoding = is.rest.encoding;
          own = is.rest.own;
          last_goaway = is.rest.last_goaway;
          kept = is.rest.kept;
          sent = is.rest.sent;
          order = is.rest.order;
          unidirectional = is.rest.unidirectional;
        };
        next_id = is.next_id;
        requests = record { each = λ q. is.requests.each q ∙ same.each q };
      }

  -- or goes on
  pub section_begun : (new : EndpointState) (refused : Option Refusal) → SendsSection act (record s { requests = mid }) new id fields refused → SendsSection act s new id fields refused
  section_begun new refused h =
      record {
        done = λ e stands not_memory. h.done e (stands_same s e mid stands same) not_memory;
        same = λ some not_memory. begun_same new (h.same some not_memory);
        memory = λ e stands memory. h.memory e (stands_same s e mid stands same) memory;
        too_large = λ e stands memory refused. begun_same new (h.too_large e (stands_same s e mid stands same) memory refused);
      }

-- No room was made for a section whose list is at hand: it is refused by the list, or memory is told of one that breaks no rule.
abbrev is_want : Refusal → Bool
is_want refusal.OutOfMemory = true
is_want _ = false

want_is : (r : Refusal) → is_want r ≡ true → r ≡ refusal.OutOfMemory
want_is refusal.OutOfMemory is = refl
want_is _ is = cc

same_told : (r q : Refusal) → ◌≡◌ {A = Option Refusal} (Some r) (Some q) → r ≡ q
same_told r q is = cc

module _ (rule : EndpointHistory → Option Refusal) (after : EndpointHistory → EndpointHistory) (s : EndpointState) (id : ℕ) (fields : List Field) (broken : Option Malformation) (mid : Streams RequestState) (same : AllSame s.requests mid) where
  section_judged : (r : Refusal) → ((e : EndpointHistory) → StandsFor s e → rule e ≡ list_refused broken (settings_known s.announced s.peer.settings) fields) → (r ≢ refusal.OutOfMemory → list_refused broken (settings_known s.announced s.peer.settings) fields ≡ Some r)
      → (r ≡ refusal.OutOfMemory → broken ≡ None) → SendsJudged (λ e. does (rule e) e (after e)) s (record s { requests = mid }) id fields (Some r)
  section_judged r is told none = by (is_want r) refl
    where
      by : (b : Bool) → is_want r ≡ b → SendsJudged (λ e. does (rule e) e (after e)) s (record s { requests = mid }) id fields (Some r)
      by true memory =
          let want = want_is r memory in
          record {
            sends = subst (λ q. SendsSection (λ e. does (rule e) e (after e)) s (record s { requests = mid }) id fields (Some q)) (sym want)
                (section_alike (λ e. does (rule e) e (after e)) s id fields mid same refusal.OutOfMemory (section_lacks rule after s id fields broken is));
            judged = λ e h lacks. unbroken_told rule after s id fields broken is (none want) e h;
          }
      by false other_one =
          let differs : r ≢ refusal.OutOfMemory = λ want. let wrong : true ≡ false = sym (ap is_want want) ∙ other_one in cc in
          record {
            sends = section_alike (λ e. does (rule e) e (after e)) s id fields mid same r (section_refused rule after s id fields broken r (λ e h. is e h ∙ told differs) differs);
            judged = λ e h memory. absurd (differs (same_told r refusal.OutOfMemory memory));
          }

-- the rules of a list are those of its place, where the same is stored of the streams
behind_alike : (place : SendPlace) (s : EndpointState) (id : ℕ) (requests : Streams RequestState) (fields : List Field) → AllSame s.requests requests → broken_behind place s id fields ≡ broken_behind place (record s { requests = requests }) id fields
behind_alike NothingSent s id requests fields same = ap (λ o. broken_head s.side s.announced (settings_known s.announced s.peer.settings) (known_in o) fields) (sym (same.each id))
behind_alike HeadSent s id requests fields same = ap (λ o. broken_head s.side s.announced (settings_known s.announced s.peer.settings) (known_in o) fields) (sym (same.each id))
behind_alike TrailerSent s id requests fields same = refl

-- `send_head`
abbrev place_behind : Bool → SendPlace
place_behind interim = if interim then NothingSent else HeadSent

abbrev part_by : Bool → List ℕ → OwnPart
part_by interim section = if interim then OwnInterim section else OwnHead section

head_place : (parts : List OwnPart) (interim : Bool) (section : List ℕ) → is_unsent parts ≡ true → place_behind interim ≡ place_of (parts ++ part_by interim section ∷ [])
head_place parts true section unsent = sym (place_pushed parts (OwnInterim section) ∙ ap (λ b. if b && true then NothingSent else HeadSent) unsent)
head_place parts false section unsent = sym (place_pushed parts (OwnHead section) ∙ ap (λ b. if b && false then NothingSent else HeadSent) unsent)

head_piece : (interim : Bool) (section : List ℕ) → piece_of (part_by interim section) ≡ frame_piece 1 section
head_piece true section = refl
head_piece false section = refl

-- the stream is there, and takes a head
abbrev TakesHead : Option RequestState → Type 0
TakesHead None = ⊥
TakesHead (Some r) = sent.takes_head r.outgoing ≡ true

not_first : (b : Bool) (r : Refusal) (rest : Option Refusal) → or_later (first_of ((not b, r) ∷ [])) rest ≡ None → b ≡ true
not_first true r rest h = refl
not_first false r rest h = absurd (cc)

none_before : (first later : Option Refusal) → or_later first later ≡ None → first ≡ None
none_before None later h = refl
none_before (Some r) later h = absurd (cc)

head_allowed : (going later : Option Refusal) (closed : Option ℕ) (there : Option RequestState) → closed_or closed (or_later (or_later (head_refused_at there) going) later) ≡ None → TakesHead there
head_allowed going later (Some code) there h = absurd (cc)
head_allowed going later None None h = absurd (cc)
head_allowed going later None (Some r) h = not_first (sent.takes_head r.outgoing) refusal.OutOfOrder going (none_before (or_later (head_refused_at (Some r)) going) later h)

head_is : (s : EndpointState) (e : EndpointHistory) (id : ℕ) (head : Head) (fields : List Field) (there : Option RequestState) → StandsFor s e → kept_at s.requests id ≡ there → TakesHead there
    → IsPart e id fields (place_behind (is_interim head.status)) (head_part head (written_section e.encoder id fields))
head_is s e id head fields None h was takes = absurd takes
head_is s e id head fields (Some r) h was takes =
    let o = before_head (outgoing_at e id) r.outgoing (sender_of s e id r h was) takes in
    let section = written_section e.encoder id fields in
    record { sends_on = o.here; piece = head_piece (is_interim head.status) section; place_is = head_place (outgoing_at e id).parts (is_interim head.status) section o.unsent }

head_rule : (s : EndpointState) (id : ℕ) (head : Head) (fields : List Field) → head_refused s id head ≡ None → (e : EndpointHistory) → StandsFor s e → listed_head_refusal e id head fields ≡ list_refused (broken_head_in s id fields) (settings_known s.announced s.peer.settings) fields
head_rule s id head fields none e h = sym (head_refusal_is s e id head fields h) ∙ ap (λ o. or_later o (list_refused (broken_head_in s id fields) (settings_known s.announced s.peer.settings) fields)) none

head_refuses : (s : EndpointState) (id : ℕ) (head : Head) (fields : List Field) (r : Refusal) → head_refused s id head ≡ Some r → SendsListedHead s s id head fields (Err r)
head_refuses s id head fields r is =
    section_refused (λ e. listed_head_refusal e id head fields) (λ e. after_head e id head fields) s id fields (broken_head_in s id fields) r
    (λ e h. sym (head_refusal_is s e id head fields h) ∙ ap (λ o. or_later o (list_refused (broken_head_in s id fields) (settings_known s.announced s.peer.settings) fields)) is) (λ memory. head_takes_none s id head (is ∙ ap Some memory))

head_lacks : (s : EndpointState) (id : ℕ) (head : Head) (fields : List Field) → head_refused s id head ≡ None → SendsListedHead s s id head fields (Err refusal.OutOfMemory)
head_lacks s id head fields none = section_lacks (λ e. listed_head_refusal e id head fields) (λ e. after_head e id head fields) s id fields (broken_head_in s id fields) (head_rule s id head fields none)

-- the rules of a head are those of its place
behind_head : (interim : Bool) (s : EndpointState) (id : ℕ) (fields : List Field) → broken_head_in s id fields ≡ broken_behind (place_behind interim) s id fields
behind_head true s id fields = refl
behind_head false s id fields = refl

head_sends : (old new : EndpointState) (id : ℕ) (head : Head) (given fields : List Field) (place : SendPlace) (result : Result Unit Refusal) → head_refused old id head ≡ None → given ≡ fields
    → place ≡ (if is_interim head.status then NothingSent else HeadSent) → SendsFields (asking id given) old new id given place (call_refused result) → SendsListedHead old new id head fields result
head_sends old new id head given fields place result none are at h =
    let sent_here : SendsFields (asking id fields) old new id fields (place_behind (is_interim head.status)) (call_refused result)
    = subst (λ p. SendsFields (asking id fields) old new id fields p (call_refused result)) at (subst (λ fs. SendsFields (asking id fs) old new id fs place (call_refused result)) are h) in
    section_sends (λ e. listed_head_refusal e id head fields) (λ e. after_head e id head fields) old id fields (broken_head_in old id fields) (asking id fields) new (place_behind (is_interim head.status)) (call_refused result) (λ e. head_part head (written_section e.encoder id fields))
    (head_rule old id head fields none) (λ e stands. head_is old e id head fields (kept_at old.requests id) stands refl (head_allowed (going_refused old) (own_head_refused old.announced old.side head) old.closed (kept_at old.requests id) none)) (λ e. refl)
    (behind_head (is_interim head.status) old id fields) sent_here

head_open : (s : EndpointState) (id : ℕ) (head : Head) → s.closed ≡ None → head_refused s id head ≡ or_later (head_refused_in s id) (own_head_refused s.announced s.side head)
head_open s id head closed = ap (λ c. closed_or c (or_later (head_refused_in s id) (own_head_refused s.announced s.side head))) closed

head_refused_by : (s : EndpointState) (id : ℕ) (head : Head) (fields : List Field) (rule : Option Refusal) → head_refused s id head ≡ rule → SendsListedHead s s id head fields (Err (unwrap_or rule refusal.OutOfMemory))
head_refused_by s id head fields (Some r) is = head_refuses s id head fields r is
head_refused_by s id head fields None is = head_lacks s id head fields is

pub head_closed : (s : EndpointState) (id : ℕ) (head : Head) (fields : List Field) (code : ℕ) → s.closed ≡ Some code → SendsListedHead s s id head fields (Err (refusal.Closed code))
head_closed s id head fields code closed = head_refuses s id head fields (refusal.Closed code) (ap (λ c. closed_or c (or_later (head_refused_in s id) (own_head_refused s.announced s.side head))) closed)

-- no room was made for it,
pub head_unreserved : (s n : EndpointState) (id : ℕ) (head : Head) (fields : List Field) (later : Option Refusal) (r : Refusal) → s.closed ≡ None → later ≡ own_head_refused s.announced s.side head → n ≡ record s { requests = n.requests } → AllSame s.requests n.requests
    → r ≡ unwrap_or (or_later (head_refused_in s id) later) refusal.OutOfMemory → SendsListedHead s n id head fields (Err r)
head_unreserved s n id head fields later r closed is rest same why =
    let rule = or_later (head_refused_in s id) (own_head_refused s.announced s.side head) in
    subst (λ v. SendsListedHead s v id head fields (Err r)) (sym rest)
    (subst (λ r. SendsListedHead s (record s { requests = n.requests }) id head fields (Err r)) (sym (why ∙ ap (λ l. unwrap_or (or_later (head_refused_in s id) l) refusal.OutOfMemory) is))
    (section_alike (λ e. send_listed_head e id head fields) s id fields n.requests same (unwrap_or rule refusal.OutOfMemory) (head_refused_by s id head fields rule (head_open s id head closed))))

-- it was refused before room was asked for: the stream's own refusal comes first,
pub all_here : {X : Type 0} (streams : Streams X) → AllSame streams streams
all_here streams = record { each = λ q. refl }

after_is : (first later : Option Refusal) → refusal_after first (unwrap_or later refusal.OutOfMemory) ≡ unwrap_or (or_later first later) refusal.OutOfMemory
after_is (Some r) later = refl
after_is None later = refl

pub head_refused_first : (s : EndpointState) (id : ℕ) (head : Head) (fields : List Field) (later : Option Refusal) (r : Refusal) → s.closed ≡ None → later ≡ own_head_refused s.announced s.side head
    → r ≡ refusal_after (head_refused_in s id) (unwrap_or later refusal.OutOfMemory) → SendsListedHead s s id head fields (Err r)
head_refused_first s id head fields later r closed is told = head_unreserved s s id head fields later r closed is refl (all_here s.requests) (told ∙ after_is (head_refused_in s id) later)

-- or they were sent
pub head_sent : (s m n : EndpointState) (id : ℕ) (head : Head) (later : Option Refusal) (given fields : List Field) (place : SendPlace) (result : Result Unit Refusal) → s.closed ≡ None → later ≡ own_head_refused s.announced s.side head
    → m ≡ record s { requests = m.requests } → AllSame s.requests m.requests → or_later (head_refused_in s id) later ≡ None → given ≡ fields
    → place ≡ (if is_interim head.status then NothingSent else HeadSent) → SendsFields (asking id given) m n id given place (call_refused result) → SendsListedHead s n id head fields result
head_sent s m n id head later given fields place result closed is rest same none are at h =
    let mid = record s { requests = m.requests } in
    let taken : head_refused mid id head ≡ None = head_open mid id head closed
    ∙ ap (λ o. or_later (or_later (head_refused_at o) (going_refused s)) (own_head_refused s.announced s.side head)) (same.each id) ∙ ap (or_later (head_refused_in s id)) (sym is) ∙ none in
    section_begun (λ e. send_listed_head e id head fields) s id fields m.requests same n (call_refused result)
    (head_sends mid n id head given fields place result taken are at (subst (λ v. SendsFields (asking id given) v n id given place (call_refused result)) rest h))

-- The same where its list is at hand: no room was made for it,
rules_at : (s n : EndpointState) (id : ℕ) (head : Head) (fields : List Field) (place : SendPlace) → place ≡ (if is_interim head.status then NothingSent else HeadSent) → n ≡ record s { requests = n.requests } → AllSame s.requests n.requests
    → broken_head_in s id fields ≡ broken_behind place n id fields
rules_at s n id head fields place at rest same =
    behind_head (is_interim head.status) s id fields ∙ ap (λ p. broken_behind p s id fields) (sym at) ∙ behind_alike place s id n.requests fields same ∙ ap (λ v. broken_behind place v id fields) (sym rest)

pub head_judged : (s n : EndpointState) (id : ℕ) (head : Head) (fields : List Field) (place : SendPlace) (refused r : Refusal) → s.closed ≡ None → own_head_refused s.announced s.side head ≡ None
    → place ≡ (if is_interim head.status then NothingSent else HeadSent) → n ≡ record s { requests = n.requests } → AllSame s.requests n.requests
    → refused ≡ unwrap_or (or_later (head_refused_in s id) None) refusal.OutOfMemory → IsJudgedOr n id place fields refused r → SendsJudgedHead s n id head fields (Err r)
head_judged s n id head fields place refused r closed sent at rest same why judged = by (or_later (head_refused_in s id) None) refl
  where
    open_rule : head_refused s id head ≡ or_later (head_refused_in s id) None
    open_rule = head_open s id head closed ∙ ap (or_later (head_refused_in s id)) sent

    by : (rule : Option Refusal) → or_later (head_refused_in s id) None ≡ rule → SendsJudgedHead s n id head fields (Err r)
    by (Some q) is =
        let here : refused ≡ q = why ∙ ap (λ o. unwrap_or o refusal.OutOfMemory) is in
        let differs : q ≢ refusal.OutOfMemory = λ want. head_takes_none s id head (open_rule ∙ is ∙ ap Some want) in
        let told : r ≡ refused = judged.other (λ want. differs (sym here ∙ want)) in
        record {
          sends = subst (λ x. SendsListedHead s n id head fields (Err x)) (sym told) (head_unreserved s n id head fields None refused closed (sym sent) rest same why);
          judged = λ e h memory. absurd (differs (sym here ∙ sym told ∙ same_told r refusal.OutOfMemory memory));
        }
    by None is =
        let want : refused ≡ refusal.OutOfMemory = why ∙ ap (λ o. unwrap_or o refusal.OutOfMemory) is in
        let rules = rules_at s n id head fields place at rest same in
        subst (λ v. SendsJudgedHead s v id head fields (Err r)) (sym rest)
        (section_judged (λ e. listed_head_refusal e id head fields) (λ e. after_head e id head fields) s id fields (broken_head_in s id fields) n.requests same r
        (head_rule s id head fields (open_rule ∙ is))
        (λ differs. ap (λ b. list_refused b (settings_known s.announced s.peer.settings) fields) rules
        ∙ ap (λ settings. list_refused (broken_behind place n id fields) settings fields) (ap (λ (v : EndpointState). settings_known v.announced v.peer.settings) (sym rest)) ∙ judged.list want differs)
        (λ memory. rules ∙ judged.unbroken want memory))

-- or it was sent
pub head_sent_judged : (s m n : EndpointState) (id : ℕ) (head : Head) (later : Option Refusal) (given fields : List Field) (place : SendPlace) (result : Result Unit Refusal) → s.closed ≡ None → later ≡ own_head_refused s.announced s.side head
    → m ≡ record s { requests = m.requests } → AllSame s.requests m.requests → or_later (head_refused_in s id) later ≡ None → given ≡ fields
    → place ≡ (if is_interim head.status then NothingSent else HeadSent) → SendsFields (asking id given) m n id given place (call_refused result) → SendsJudgedHead s n id head fields result
head_sent_judged s m n id head later given fields place result closed is rest same none are at h =
    record {
      sends = head_sent s m n id head later given fields place result closed is rest same none are at h;
      judged = λ e stands memory.
          unbroken_told (λ e. listed_head_refusal e id head fields) (λ e. after_head e id head fields) s id fields (broken_head_in s id fields)
          (head_rule s id head fields (head_open s id head closed ∙ ap (or_later (head_refused_in s id)) (sym is) ∙ none))
          (rules_at s m id head fields place at rest same ∙ ap (broken_behind place m id) (sym are) ∙ h.unbroken memory) e stands;
    }

-- `send_trailer`
trailer_allowed : (later : Option Refusal) (closed : Option ℕ) (there : Option RequestState) → closed_or closed (or_later (body_refused_at there) later) ≡ None → TakesBody there
trailer_allowed later (Some code) there h = absurd (cc)
trailer_allowed later None None h = absurd (cc)
trailer_allowed later None (Some r) h = not_first (sent.takes_body r.outgoing) refusal.OutOfOrder later h

-- what refuses a trailer behind what refuses its stream
abbrev behind_order : EndpointState → ℕ → Option Refusal → Option Refusal
behind_order s id later = or_later later (early_trailer_at (kept_at s.requests id))

trailer_is : (s : EndpointState) (e : EndpointHistory) (id : ℕ) (fields : List Field) (there : Option RequestState) → StandsFor s e → kept_at s.requests id ≡ there → TakesBody there
    → IsPart e id fields TrailerSent (OwnTrailer (written_section e.encoder id fields))
trailer_is s e id fields None h was takes = absurd takes
trailer_is s e id fields (Some r) h was takes =
    let o = in_body (outgoing_at e id) r.outgoing (sender_of s e id r h was) takes in
    let section = written_section e.encoder id fields in
    record {
      sends_on = o.here;
      piece = refl;
      place_is = sym (place_pushed (outgoing_at e id).parts (OwnTrailer section) ∙ ap (λ b. if b && false then NothingSent else TrailerSent) o.sent);
    }

trailer_rule : (s : EndpointState) (id : ℕ) (trailer : Head) (fields : List Field) → trailer_refused s id trailer ≡ None → (e : EndpointHistory) → StandsFor s e → listed_trailer_refusal e id trailer fields ≡ list_refused (broken_trailer s.announced fields) (settings_known s.announced s.peer.settings) fields
trailer_rule s id trailer fields none e h = sym (trailer_refusal_is s e id trailer fields h) ∙ ap (λ o. or_later o (list_refused (broken_trailer s.announced fields) (settings_known s.announced s.peer.settings) fields)) none

trailer_refuses : (s : EndpointState) (id : ℕ) (trailer : Head) (fields : List Field) (r : Refusal) → trailer_refused s id trailer ≡ Some r → SendsListedTrailer s s id trailer fields (Err r)
trailer_refuses s id trailer fields r is =
    section_refused (λ e. listed_trailer_refusal e id trailer fields) (λ e. after_trailer e id fields) s id fields (broken_trailer s.announced fields) r
    (λ e h. sym (trailer_refusal_is s e id trailer fields h) ∙ ap (λ o. or_later o (list_refused (broken_trailer s.announced fields) (settings_known s.announced s.peer.settings) fields)) is) (λ memory. trailer_takes_none s id trailer (is ∙ ap Some memory))

trailer_lacks : (s : EndpointState) (id : ℕ) (trailer : Head) (fields : List Field) → trailer_refused s id trailer ≡ None → SendsListedTrailer s s id trailer fields (Err refusal.OutOfMemory)
trailer_lacks s id trailer fields none = section_lacks (λ e. listed_trailer_refusal e id trailer fields) (λ e. after_trailer e id fields) s id fields (broken_trailer s.announced fields) (trailer_rule s id trailer fields none)

trailer_sends : (old new : EndpointState) (id : ℕ) (trailer : Head) (given fields : List Field) (result : Result Unit Refusal) → trailer_refused old id trailer ≡ None → given ≡ fields
    → SendsFields (λ e. e) old new id given TrailerSent (call_refused result) → SendsListedTrailer old new id trailer fields result
trailer_sends old new id trailer given fields result none are h =
    section_sends (λ e. listed_trailer_refusal e id trailer fields) (λ e. after_trailer e id fields) old id fields (broken_trailer old.announced fields) (λ e. e) new TrailerSent (call_refused result) (λ e. OwnTrailer (written_section e.encoder id fields))
    (trailer_rule old id trailer fields none)
    (λ e stands. trailer_is old e id fields (kept_at old.requests id) stands refl (trailer_allowed (behind_order old id (own_trailer_refused old.announced trailer)) old.closed (kept_at old.requests id) none)) (λ e. refl) refl
    (subst (λ fs. SendsFields (λ e. e) old new id fs TrailerSent (call_refused result)) are h)

trailer_open : (s : EndpointState) (id : ℕ) (trailer : Head) → s.closed ≡ None → trailer_refused s id trailer ≡ or_later (body_refused_at (kept_at s.requests id)) (behind_order s id (own_trailer_refused s.announced trailer))
trailer_open s id trailer closed = ap (λ c. closed_or c (or_later (body_refused_at (kept_at s.requests id)) (behind_order s id (own_trailer_refused s.announced trailer)))) closed

trailer_refused_by : (s : EndpointState) (id : ℕ) (trailer : Head) (fields : List Field) (rule : Option Refusal) → trailer_refused s id trailer ≡ rule → SendsListedTrailer s s id trailer fields (Err (unwrap_or rule refusal.OutOfMemory))
trailer_refused_by s id trailer fields (Some r) is = trailer_refuses s id trailer fields r is
trailer_refused_by s id trailer fields None is = trailer_lacks s id trailer fields is

pub trailer_closed : (s : EndpointState) (id : ℕ) (trailer : Head) (fields : List Field) (code : ℕ) → s.closed ≡ Some code → SendsListedTrailer s s id trailer fields (Err (refusal.Closed code))
trailer_closed s id trailer fields code closed = trailer_refuses s id trailer fields (refusal.Closed code) (ap (λ c. closed_or c (or_later (body_refused_at (kept_at s.requests id)) (behind_order s id (own_trailer_refused s.announced trailer)))) closed)

-- no room was made for it,
pub trailer_unreserved : (s n : EndpointState) (id : ℕ) (trailer : Head) (fields : List Field) (later : Option Refusal) (r : Refusal) → s.closed ≡ None → later ≡ own_trailer_refused s.announced trailer → n ≡ record s { requests = n.requests } → AllSame s.requests n.requests
    → r ≡ unwrap_or (or_later (body_refused_at (kept_at s.requests id)) (or_later later (early_trailer_at (kept_at s.requests id)))) refusal.OutOfMemory → SendsListedTrailer s n id trailer fields (Err r)
trailer_unreserved s n id trailer fields later r closed is rest same why =
    let rule = or_later (body_refused_at (kept_at s.requests id)) (behind_order s id (own_trailer_refused s.announced trailer)) in
    subst (λ v. SendsListedTrailer s v id trailer fields (Err r)) (sym rest)
    (subst (λ r. SendsListedTrailer s (record s { requests = n.requests }) id trailer fields (Err r)) (sym (why ∙ ap (λ l. unwrap_or (or_later (body_refused_at (kept_at s.requests id)) (behind_order s id l)) refusal.OutOfMemory) is))
    (section_alike (λ e. send_listed_trailer e id trailer fields) s id fields n.requests same (unwrap_or rule refusal.OutOfMemory) (trailer_refused_by s id trailer fields rule (trailer_open s id trailer closed))))

-- or they were sent
pub trailer_sent : (s m n : EndpointState) (id : ℕ) (trailer : Head) (later : Option Refusal) (given fields : List Field) (result : Result Unit Refusal) → s.closed ≡ None → later ≡ own_trailer_refused s.announced trailer
    → m ≡ record s { requests = m.requests } → AllSame s.requests m.requests → or_later (body_refused_at (kept_at s.requests id)) (or_later later (early_trailer_at (kept_at s.requests id))) ≡ None → given ≡ fields
    → SendsFields (λ e. e) m n id given TrailerSent (call_refused result) → SendsListedTrailer s n id trailer fields result
trailer_sent s m n id trailer later given fields result closed is rest same none are h =
    let mid = record s { requests = m.requests } in
    let taken : trailer_refused mid id trailer ≡ None = trailer_open mid id trailer closed
    ∙ ap (λ o. or_later (body_refused_at o) (or_later (own_trailer_refused s.announced trailer) (early_trailer_at o))) (same.each id) ∙ ap (λ l. or_later (body_refused_at (kept_at s.requests id)) (behind_order s id l)) (sym is) ∙ none in
    section_begun (λ e. send_listed_trailer e id trailer fields) s id fields m.requests same n (call_refused result)
    (trailer_sends mid n id trailer given fields result taken are (subst (λ v. SendsFields (λ e. e) v n id given TrailerSent (call_refused result)) rest h))

-- The same where its list is at hand: no room was made for it,
pub trailer_judged : (s n : EndpointState) (id : ℕ) (trailer : Head) (fields : List Field) (refused r : Refusal) → s.closed ≡ None → own_trailer_refused s.announced trailer ≡ None → n ≡ record s { requests = n.requests } → AllSame s.requests n.requests
    → refused ≡ unwrap_or (or_later (body_refused_at (kept_at s.requests id)) (or_later None (early_trailer_at (kept_at s.requests id)))) refusal.OutOfMemory → IsJudgedOr n id TrailerSent fields refused r
    → SendsJudgedTrailer s n id trailer fields (Err r)
trailer_judged s n id trailer fields refused r closed sent rest same why judged = by (or_later (body_refused_at (kept_at s.requests id)) (behind_order s id None)) refl
  where
    open_rule : trailer_refused s id trailer ≡ or_later (body_refused_at (kept_at s.requests id)) (behind_order s id None)
    open_rule = trailer_open s id trailer closed ∙ ap (λ l. or_later (body_refused_at (kept_at s.requests id)) (behind_order s id l)) sent

    by : (rule : Option Refusal) → or_later (body_refused_at (kept_at s.requests id)) (behind_order s id None) ≡ rule → SendsJudgedTrailer s n id trailer fields (Err r)
    by (Some q) is =
        let here : refused ≡ q = why ∙ ap (λ o. unwrap_or o refusal.OutOfMemory) is in
        let differs : q ≢ refusal.OutOfMemory = λ want. trailer_takes_none s id trailer (open_rule ∙ is ∙ ap Some want) in
        let told : r ≡ refused = judged.other (λ want. differs (sym here ∙ want)) in
        record {
          sends = subst (λ x. SendsListedTrailer s n id trailer fields (Err x)) (sym told) (trailer_unreserved s n id trailer fields None refused closed (sym sent) rest same why);
          judged = λ e h memory. absurd (differs (sym here ∙ sym told ∙ same_told r refusal.OutOfMemory memory));
        }
    by None is =
        let want : refused ≡ refusal.OutOfMemory = why ∙ ap (λ o. unwrap_or o refusal.OutOfMemory) is in
        let rules : broken_trailer s.announced fields ≡ broken_behind TrailerSent n id fields = ap (λ v. broken_behind TrailerSent v id fields) (sym rest) in
        subst (λ v. SendsJudgedTrailer s v id trailer fields (Err r)) (sym rest)
        (section_judged (λ e. listed_trailer_refusal e id trailer fields) (λ e. after_trailer e id fields) s id fields (broken_trailer s.announced fields) n.requests same r
        (trailer_rule s id trailer fields (open_rule ∙ is))
        (λ differs. ap (λ b. list_refused b (settings_known s.announced s.peer.settings) fields) rules
        ∙ ap (λ settings. list_refused (broken_behind TrailerSent n id fields) settings fields) (ap (λ (v : EndpointState). settings_known v.announced v.peer.settings) (sym rest)) ∙ judged.list want differs)
        (λ memory. rules ∙ judged.unbroken want memory))

-- or it was sent
pub trailer_sent_judged : (s m n : EndpointState) (id : ℕ) (trailer : Head) (later : Option Refusal) (given fields : List Field) (result : Result Unit Refusal) → s.closed ≡ None → later ≡ own_trailer_refused s.announced trailer
    → m ≡ record s { requests = m.requests } → AllSame s.requests m.requests → or_later (body_refused_at (kept_at s.requests id)) (or_later later (early_trailer_at (kept_at s.requests id))) ≡ None → given ≡ fields
    → SendsFields (λ e. e) m n id given TrailerSent (call_refused result) → SendsJudgedTrailer s n id trailer fields result
trailer_sent_judged s m n id trailer later given fields result closed is rest same none are h =
    record {
      sends = trailer_sent s m n id trailer later given fields result closed is rest same none are h;
      judged = λ e stands memory.
          unbroken_told (λ e. listed_trailer_refusal e id trailer fields) (λ e. after_trailer e id fields) s id fields (broken_trailer s.announced fields)
          (trailer_rule s id trailer fields (trailer_open s id trailer closed ∙ ap (λ l. or_later (body_refused_at (kept_at s.requests id)) (behind_order s id l)) (sym is) ∙ none))
          (ap (λ v. broken_behind TrailerSent v id fields) (sym rest) ∙ ap (broken_behind TrailerSent m id) (sym are) ∙ h.unbroken memory) e stands;
    }
